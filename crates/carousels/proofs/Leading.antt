-- Legal lists can be played one after the other and backwards, so whether one placement leads to another does not depend on
-- which of the two one starts from.
use mathlib.Core.Path.{◌≡◌, refl, sym, ◌∙◌, ap}
use mathlib.Core.Bool.{true}
use mathlib.Core.List.{List, ◌++◌}
use lib.ListN.{length}
use Rattle.paper.specs.Yard.{Yard, Placement, Crossing, reverse_of, after, legal_plan}
use Rattle.paper.proofs.Playing.{Apart, Sound, Good, after-append, after-length, plan-append}
use Rattle.paper.proofs.Reversing.{reverse-leads-back, reverse-legal}
use Rattle.paper.proofs.Carrying.{plan-good}
use Rattle.carousels.specs.Leads.{Leads}

module _ (Y : Yard) where
  pub leads-by : (p : Placement) (xs : List Crossing) → legal_plan Y p xs ≡ true → Leads Y p (after p xs)
  leads-by p xs h = record { list = xs; legal = h; ends = refl }

  pub leads-on : {p q s : Placement} → Leads Y p q → Leads Y q s → Leads Y p s
  leads-on {p} l k = record {
    list = l.list ++ k.list;
    legal = plan-append Y p l.list k.list l.legal (rw l.ends k.legal);
    ends = after-append p l.list k.list ∙ ap (λ q. after q k.list) l.ends ∙ k.ends;
  }

  pub leads-back : {p q : Placement} → Apart p → Leads Y p q → Leads Y q p
  leads-back {p} apart l = record {
    list = reverse_of l.list;
    legal = rw l.ends at (reverse-legal Y p l.list apart l.legal);
    ends = rw l.ends at (reverse-leads-back Y p l.list l.legal);
  }

  pub leads-length : {p q : Placement} → Leads Y p q → length p ≡ length q
  leads-length {p} l = sym (after-length p l.list) ∙ ap length l.ends

  pub leads-good : Sound Y → {p q : Placement} → Good Y p → Leads Y p q → Good Y q
  leads-good sound {p} good l = rw l.ends at (plan-good Y sound p l.list good l.legal)
