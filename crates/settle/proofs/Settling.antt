-- Two bays traded in a set: nothing changes if it has both or neither; if it has one of them, that one leaves and the other joins.
-- Assumes nothing.
use mathlib.Core.Path.{◌≡◌, sym, refl}
use mathlib.Core.Bool.{Bool, true, false, not}
use Prim.Native.Nat.{ℕ}
use lib.Dec.{eqb}
use borrow.Author.Tests.{eq-eqb, ne_eqb}
use Rattle.paper.specs.Basics.{◌and◌, ◌or◌}
use Rattle.paper.specs.Procedure.{trade}
use Rattle.paper.specs.Yard.{Bay}
use Rattle.paper.proofs.Tests.{not-both}
use Rattle.paper.proofs.Trading.{trade-first, trade-second, trade-other, which}

module _ (f : ℕ → Bool) (u w : Bay) where
  -- both are in it, or neither is
  pub traded-alike : f u ≡ f w → (b : Bay) → f b ≡ f (trade u w b)
  traded-alike e b =
      which u w b
      (λ q. rw (q, trade-first u w) e)
      (λ q. rw (q, trade-second u w) (sym e))
      (λ n m. rw (trade-other u w b n m))

  -- u is in it and w is not: u leaves and w joins
  pub traded-one : f u ≡ true → f w ≡ false → (b : Bay) → (f b and not (eqb b u)) or eqb b w ≡ f (trade u w b)
  unfolding ◌and◌ ◌or◌
  traded-one hu hw b =
      which u w b
      (λ q. rw (q, trade-first u w, hu, eq-eqb u u refl, hw) (ne_eqb u w (λ e. not-both hu (rw (← e) at hw))))
      (λ q. rw (q, trade-second u w, hu, hw, eq-eqb w w refl))
      (λ n m. rw (trade-other u w b n m, n, m) (plain (f b)))
    where
      plain : (a : Bool) → (a and true) or false ≡ a
      plain true = refl
      plain false = refl

pub trade-turned : (u w b : Bay) → trade u w b ≡ trade w u b
trade-turned u w b =
    which u w b
    (λ q. rw (q, trade-first u w, trade-second w u))
    (λ q. rw (q, trade-second u w, trade-first w u))
    (λ n m. rw (trade-other u w b n m, trade-other w u b m n))
