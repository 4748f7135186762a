-- `near::try_junction` meets its contract. The trial is lent the log; where v is blocked there is none.
use Rattle.std.proofs.Common.{sym, ◌∙◌, rules}
use Rattle.near.proofs.Seeking.{tried-at, tried-not, tried-never}
use Rattle.near.proofs.try_junction.Goals as goal

pub returns-then-surely_fails : goal.returns-then-surely_fails
returns-then-surely_fails c = record { few = tt; tried = λ t near. tried-never _ _ _ _ _ _ (c.surely_fails.ensures c.if-surely_fails.true t near) }

pub returns-then-is_junction : goal.returns-then-is_junction
returns-then-is_junction c =
    let made = c.try_at.ensures in
    let is-junction = c.is_junction in
    record {
      few = made.few;
      tried = λ t near. tried-at _ _ _ _ _ _ (sym (is-junction.ensures t) ∙ c.if-is_junction.true) (made.attempts t near);
    }

pub returns : goal.returns
returns c = record { few = tt; tried = λ t near. tried-not _ _ _ _ _ _ (sym (c.is_junction.ensures t) ∙ c.if-is_junction.false) }
