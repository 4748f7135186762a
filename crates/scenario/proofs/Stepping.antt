-- A byte of the scenario makes of the state what the definition's step makes of it, byte by byte of the four kinds.
use mathlib.Core.Path.{◌≡◌, refl, sym, ◌∙◌}
use mathlib.Core.Bool.{true, false}
use mathlib.Core.List.{List}
use Prim.Native.Nat.{ℕ}
use native.Mathlib.Omega.{arith}
use borrow.Author.Tests.{eq-eqb, ne_eqb}
use Rattle.paper.specs.Yard.{Bay}
use Rattle.paper.specs.Bytes.{scenario_step, feed}
use Rattle.gridmap.specs.declared.Grid.{Grid}
use Rattle.scenario.specs.Under.{bay_by, Sound, carriers_after, Closes, Steps, On, Released, Marked}
use Rattle.scenario.specs.declared.Reading.{Reading}

module _ (t : List ℕ) (G : Grid) (s : Reading) (b : ℕ) (o : Sound s) where
  same_carriers : (r : Reading) (cs : List (Bay × Bay)) → r.count ≡ s.count → carriers_after s r cs ≡ cs
  same_carriers r cs e = rw (eq-eqb r.count s.count e)

  pub steps-failed : s.failed ≡ true → Steps t G s b s
  unfolding scenario_step feed
  steps-failed f = record { sound = o; counts = λ cs l. rw (same_carriers s cs refl) l; steps = λ cs l. rw (same_carriers s cs refl, f) }

  module _ (f : s.failed ≡ false) where
    pub steps-end : b ≡ 10 → (r : Reading) → Closes t G s r → Steps t G s b r
    unfolding scenario_step feed
    steps-end e r k = record { sound = k.sound; counts = k.counts; steps = λ cs l. k.closes cs l ∙ sym (rw (f, e)) }

    module _ (n : b ≡ 10 → ⊥) (u : Reading) (k : Released G s u) where
      pub steps-cr : b ≡ 13 → (r : Reading) → Marked u true r → Steps t G s b r
      unfolding scenario_step feed
      steps-cr e r m = record {
        sound = record { first = λ v. m.count ∙ k.count ∙ o.first (sym (m.version ∙ k.version) ∙ v); few = omega (arith, m.count, k.count, o.few) };
        counts = λ cs l. rw (same_carriers r cs (m.count ∙ k.count), m.count ∙ k.count) l;
        steps = λ cs l. rw (same_carriers r cs (m.count ∙ k.count), m.failed ∙ k.failed ∙ f, m.begun, m.held, m.under cs, k.under (bay_by t G) cs, m.version ∙ k.version, m.count ∙ k.count, f, e);
      }

      pub steps_on : (b ≡ 13 → ⊥) → (v : Reading) → On G u b v → (r : Reading) → Marked v false r → Steps t G s b r
      unfolding scenario_step feed
      steps_on n' v j r m = record {
        sound = record { first = λ q. m.count ∙ j.count ∙ k.count ∙ o.first (sym (m.version ∙ j.version ∙ k.version) ∙ q); few = omega (arith, m.count, j.count, k.count, o.few) };
        counts = λ cs l. rw (same_carriers r cs (m.count ∙ j.count ∙ k.count), m.count ∙ j.count ∙ k.count) l;
        steps = λ cs l. rw (same_carriers r cs (m.count ∙ j.count ∙ k.count), m.failed ∙ j.failed ∙ k.failed ∙ f, m.begun, m.held, m.under cs, j.under (bay_by t G) cs, k.under (bay_by t G) cs, m.version ∙ j.version ∙ k.version, m.count ∙ j.count ∙ k.count, f, ne_eqb b 10 n, ne_eqb b 13 n');
      }
