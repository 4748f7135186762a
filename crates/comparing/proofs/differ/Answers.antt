-- Each way out is one law of proofs/Saying.
use Rattle.std.proofs.Common.{sym, ◌∙◌, ap}
use mathlib.Core.Path.{ap₂}
use Rattle.paper.specs.Basics.{or_else}
use Rattle.comparing.specs.Statements.{counted_of}
use Rattle.comparing.proofs.Saying.{says-first-long, says-second-long, says-above, says-room, says-granted}
use Rattle.comparing.proofs.differ.Goals as goal

pub returns-then-first-gt-CROSSINGS : goal.returns-then-first-gt-CROSSINGS
returns-then-first-gt-CROSSINGS c = says-first-long _ _ _ c.if-first-gt-CROSSINGS.true

pub returns-then-second-gt-CROSSINGS : goal.returns-then-second-gt-CROSSINGS
returns-then-second-gt-CROSSINGS c = says-second-long _ _ _ c.if-second-gt-CROSSINGS.true

pub returns-in-Err : goal.returns-in-Err
returns-in-Err c =
    let above = ap counted_of (sym c.in-Err.is) ∙ c.earlier-of_both.ensures ∙ ap₂ or_else c.count-of_first.ensures.answers c.count-of_second.ensures.answers in
    says-above _ _ _ c.if-first-gt-CROSSINGS.false c.if-second-gt-CROSSINGS.false _ above

pub returns-then-differences-ne-CARRIERS : goal.returns-then-differences-ne-CARRIERS
returns-then-differences-ne-CARRIERS c =
    let low = ap counted_of (sym c.in_default.is) ∙ c.earlier-of_both.ensures ∙ ap₂ or_else c.count-of_first.ensures.answers c.count-of_second.ensures.answers in
    says-room _ _ _ c.if-first-gt-CROSSINGS.false c.if-second-gt-CROSSINGS.false low c.if-differences-ne-CARRIERS.true

pub returns : goal.returns
returns c =
    let firsts = c.count-of_first.ensures in
    let seconds = c.count-of_second.ensures in
    let low = ap counted_of (sym c.in_default.is) ∙ c.earlier-of_both.ensures ∙ ap₂ or_else firsts.answers seconds.answers in
    says-granted _ _ _ c.if-first-gt-CROSSINGS.false c.if-second-gt-CROSSINGS.false low c.if-differences-ne-CARRIERS.false _ _ _ firsts seconds c.fill.ensures _ c.equal_leading.ensures
