-- Why the tests of one crossing are enough: each test that fails breaks one condition of a legal crossing, and all that pass are all of them.
-- A bay past the table's rows needs no place in it: no rail leads there.
use mathlib.Core.Path.{◌≡◌, refl, sym, ◌∙◌, ap}
use mathlib.Core.Bool.{Bool, true, false, not}
use mathlib.Core.List.{List}
use Prim.Native.Nat.{ℕ, ◌≤◌, ◌<◌}
use native.Mathlib.Omega.{arith}
use lib.ListN.{length}
use Rattle.paper.specs.Basics.{elem}
use Rattle.paper.specs.Yard.{Yard, Placement, Crossing, bay_of, legal}
use Rattle.paper.proofs.Tests.{by_cases, not-both}
use Rattle.paper.proofs.Playing.{Legal, legal-facts, legal-of}
use Rattle.paper.proofs.Marking.{flag}
use Rattle.words.specs.Sets.{mem_row, span}
use Rattle.replay.specs.Playing.{InRows, Standing, Judged}

pub not-legal : (Y : Yard) (at : Placement) (x : Crossing) → (Legal Y at x → ⊥) → false ≡ legal Y at x
not-legal Y at x h = by_cases (legal Y at x) (λ t. absurd (h (legal-facts Y at x t))) (λ f. sym f)

module _ (rows : ℕ) (table : List ℕ) (at : Placement) (occupied : List ℕ) (x : Crossing) where
  refused : ((Y : Yard) → Standing Y rows table at occupied → Legal Y at x → ⊥) → Judged rows table at occupied x false
  refused h = record { fits = λ t. not-both t refl; right = λ Y s. not-legal Y at x (h Y s) }

  pub nobody-there : length at ≤ x.carrier → Judged rows table at occupied x false
  nobody-there h = refused (λ Y s l. omega (arith, l.there))

  pub stands-elsewhere : (bay_of at x.carrier ≡ x.from → ⊥) → Judged rows table at occupied x false
  stands-elsewhere h = refused (λ Y s l. h l.stands)

  pub to-outside : rows ≤ x.to → Judged rows table at occupied x false
  to-outside h = refused (λ Y s l. omega (arith, (s.rails.inside x.from x.to l.rail).1, s.few))

  module _ (stay : InRows rows table at) (hc : x.carrier < length at) (stands : bay_of at x.carrier ≡ x.from) where
    -- it starts from the bay of a carrier, so that bay has its row
    pub from_inside : x.from < rows
    from_inside = rw stands at (stay.inside x.carrier hc)

    module _ (ht : x.to < rows) where
      near : x.to < span
      near = omega (arith, ht, stay.few)

      pub no-rail : mem_row table x.from x.to ≡ false → Judged rows table at occupied x false
      no-rail h =
          refused (λ Y s l. not-both (s.rails.same x.from x.to (s.rails.inside x.from x.to l.rail).0 near ∙ l.rail) h)

      pub by-the-mark : mem_row table x.from x.to ≡ true → (r : Bool) → r ≡ not (flag occupied x.to) → Judged rows table at occupied x r
      by-the-mark joins r e = record {
        fits = λ t. (hc, from_inside, ht);
        right = λ Y s.
            let inside : x.from < Y.bays = rw stands at (s.inside x.carrier hc) in
            let row = s.rails.same x.from x.to inside near in
            let same : r ≡ not (elem x.to at) = e ∙ ap not (s.held.marks x.to near) in
            by_cases (elem x.to at)
            (λ i. same ∙ ap not i ∙ not-legal Y at x (λ l. not-both i l.free))
            (λ o. same ∙ ap not o ∙ sym (legal-of Y at x (record { there = hc; stands = stands; rail = sym row ∙ joins; free = o })));
      }
