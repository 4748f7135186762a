-- `timed::program` meets its contract: 20 before any file is looked at, then what the files ask for.
use Rattle.std.proofs.Common.{sym, ◌∙◌, rules}
use borrow.Author.Tests.{not-true, not-false}
use Rattle.program.proofs.Readying.{refused-ready}
use Rattle.timed_handing.proofs.Printing.{edition-says, known-says}
use Rattle.timed.proofs.program.Goals as goal

pub hand-requires : goal.hand-requires
hand-requires c = (refused-ready _ _ (search rules)).slottable

pub returns-then-not-fits : goal.returns-then-not-fits
returns-then-not-fits c = edition-says _ _ _ (sym c.known-fits.ensures ∙ c.if-not-fits.true) (refused-ready _ _ (search rules)).handed c.hand.ensures

pub returns : goal.returns
returns c =
    let if1 = c.if-not-fits in
    let known = c.known-fits in
    known-says _ _ _ (sym known.ensures ∙ if1.false) c.answer_for-answer.ensures.handed c.hand-2.ensures
