-- `lean::hand_out_again_by_rails` meets its contract. The plan is the one that was counted, and it fills the places that are lent for it.
use Rattle.std.proofs.Common.{refl, sym, length-take-le, rules}
use Rattle.outcome.proofs.Handing.{hands-again}
use Rattle.lean.proofs.hand_out_again_by_rails.Goals as goal

pub slice_bounds-play_by_rails-end-3 : goal.slice_bounds-play_by_rails-end-3
slice_bounds-play_by_rails-end-3 c = sym (length-take-le _ _ c.requires.m_in_bounds)

pub returns : goal.returns
returns c = λ t due. hands-again _ (c.play_by_rails.ensures t) due refl
