-- `rooms::hand_out_again` meets its contract. The plan is the one that was counted, and it fills the places that are lent for it.
use Rattle.std.proofs.Common.{refl, sym, length-take-le, rules}
use Rattle.outcome.proofs.Handing.{hands-again}
use Rattle.rooms.proofs.hand_out_again.Goals as goal

pub slice_bounds-play-end-2 : goal.slice_bounds-play-end-2
slice_bounds-play-end-2 c = sym (length-take-le _ _ c.requires.m_in_bounds)

pub returns : goal.returns
returns c = λ t due. hands-again _ (c.play.ensures t) due refl
