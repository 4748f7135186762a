-- `carrier_lists::keep` meets its contract, by its two cases.
use Rattle.std.proofs.Common.{◌∙◌, rules}
use Rattle.carrier_lists.proofs.Stored.{kept_same, kept_more}
use Rattle.carrier_lists.proofs.keep.Goals as goal

pub returns-then-count-before : goal.returns-then-count-before
returns-then-count-before c = (kept_same _ _ _ _ c.if-count-before.true, kept_same _ _ _ _ c.if-count-before.true)

pub returns : goal.returns
returns c =
    let if1 = c.if-count-before in (
      c.store.ensures ∙ kept_more _ _ _ _ if1.false,
      c.store-2.ensures ∙ kept_more _ _ _ _ if1.false,
    )
