-- `lean::hand_out_lean` meets its contract. Where the plan was not kept whole it is due, and the list is as it was lent.
use Rattle.std.proofs.Common.{◌∙◌, rules}
use Rattle.outcome.proofs.Handing.{hands-longer}
use Rattle.lean.proofs.hand_out_lean.Goals as goal

pub hand_out_again_by_rails-requires : goal.hand_out_again_by_rails-requires
hand_out_again_by_rails-requires c =
    let longer = (c.hand_out_by_rails-handed.ensures c.requires.reaching.tabled).longer _ _ c.in-Longer.is in
    record { admitted = c.requires; m_in_bounds = rw longer.0 longer.1.fits }

pub returns-in-Done : goal.returns-in-Done
returns-in-Done c = λ t. (c.hand_out_by_rails-handed.ensures t).done _ c.in-Done.is

pub returns-in-Longer : goal.returns-in-Longer
returns-in-Longer c =
    let hand-out-by-rails = c.hand_out_by_rails-handed in
    λ t.
    let longer = (hand-out-by-rails.ensures t).longer _ _ c.in-Longer.is in
    hands-longer longer (c.hand_out_again_by_rails.ensures t)
