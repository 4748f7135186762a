use Rattle.rooms.proofs.FromBelow.{hands-longer}
use Rattle.planner.proofs.hand_out.Goals as goal

pub hand_out_again-requires-clause-m_in_bounds : goal.hand_out_again-requires-clause-m_in_bounds
hand_out_again-requires-clause-m_in_bounds c =
    let longer = (c.hand_out_likely-handed.ensures c.requires.reaching.tabled).longer _ _ c.in-Longer.is in
    rw longer.0 longer.1.fits

pub returns-in-Done : goal.returns-in-Done
returns-in-Done c = λ t. (c.hand_out_likely-handed.ensures t).done _ c.in-Done.is

pub returns-in-Longer : goal.returns-in-Longer
returns-in-Longer c = λ t. hands-longer ((c.hand_out_likely-handed.ensures t).longer _ _ c.in-Longer.is) (c.hand_out_again.ensures t)
