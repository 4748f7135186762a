use Rattle.std.proofs.Common.{sym, ◌∙◌, arith}
use Rattle.kinds.proofs.Carousels.{not-carousel, is_one}
use Rattle.kinds.proofs.is_carousel.Goals as goal

pub returns-then-count_rails-ne2 : goal.returns-then-count_rails-ne2
returns-then-count_rails-ne2 c =
    λ Y t. not-carousel Y t c.requires.0 c.loop-v.v (omega arith)
    (λ e. c.if-count_rails-ne2.true (c.count_rails.ensures ∙ e))

pub returns : goal.returns
returns c = λ Y t. is_one Y t c.requires.0 (λ a h. c.loop-v.invariant a (omega arith))
