-- A line that ends gives the state that its closing asks for: a carrier more, or a broken layout in this line.
use mathlib.Core.Path.{◌≡◌, refl, sym, ◌∙◌, ap}
use mathlib.Core.Bool.{Bool, true, false}
use mathlib.Core.List.{List}
use mathlib.Core.Option.{Option, none, some}
use Prim.Native.Nat.{ℕ, ◌+◌, ◌≤◌, ◌<◌}
use native.Mathlib.Omega.{arith}
use native.Mathlib.Numerals.{add-one}
use lib.Dec.{eqb}
use lib.ListN.{length, length-append}
use borrow.Author.Tests.{lt-ltb, le-ltb, eq-eqb, ne_eqb}
use Rattle.lists.proofs.Lists.{no_length}
use Rattle.paper.specs.Basics.{◌and◌, ◌or◌}
use Rattle.paper.specs.Limits.{most_carriers}
use Rattle.paper.specs.Yard.{Bay}
use Rattle.paper.proofs.Tests.{not-both}
use Rattle.paper.specs.Scenario.{start_and_goal}
use Rattle.paper.specs.Bytes.{Past, field_past, carrier_of, matched, line_closed, begin_line, close_line}
use Rattle.fields.specs.ReadAs.{match_of, seen_of, past_of}
use Rattle.gridmap.specs.declared.Grid.{Grid}
use Rattle.scenario.specs.Under.{bay_by, Sound, under_of, due_of, Broken, Closes}
use Rattle.scenario.specs.declared.Reading.{Reading}

module _ (W H : ℕ) (bay : ℕ → ℕ → Option Bay) (p : Past) (r : Bool) (is : r ≡ eqb p.index 9 and p.well) where
  module _ (good : r ≡ true) where
    module _ (s : ℕ) (start : some s ≡ bay p.sx p.sy) where
      pub carrier-wall-2 : none ≡ bay p.gx p.gy → none ≡ carrier_of W H bay p
      unfolding carrier_of start_and_goal
      carrier-wall-2 f = rw (← is, good, ← start, ← f)

      pub carrier-at : (g : ℕ) → some g ≡ bay p.gx p.gy → some (s, g) ≡ carrier_of W H bay p
      unfolding carrier_of start_and_goal
      carrier-at g f = rw (← is, good, ← start, ← f)

module _ (t : List ℕ) (G : Grid) (s : Reading) where
  abbrev due-past : Past
  due-past = field_past G.width G.height (past_of s.past) (seen_of s.field)

  pub not-version : s.version ≡ true → (matched 9 (match_of s.text) or matched 11 (match_of s.text)) ≡ false → (cs : List (Bay × Bay)) → length cs ≡ s.count → close_line G.width G.height (bay_by t G) (under_of s cs) ≡ none
  unfolding close_line
  not-version v f cs l = rw (v, f)

  pub not-carrier : s.version ≡ false → none ≡ carrier_of G.width G.height (bay_by t G) due-past → s.count < most_carriers → (cs : List (Bay × Bay)) → length cs ≡ s.count → close_line G.width G.height (bay_by t G) (under_of s cs) ≡ none
  unfolding close_line
  not-carrier v f k cs l = rw (v, l, lt-ltb s.count most_carriers k, ← f)

  pub too_many : s.version ≡ false → most_carriers ≤ s.count → (cs : List (Bay × Bay)) → length cs ≡ s.count → close_line G.width G.height (bay_by t G) (under_of s cs) ≡ none
  unfolding close_line
  too_many v k cs l = rw (v, l, le-ltb s.count most_carriers k)

  pub closes-broken : Sound s → (r : Reading) → Broken s r
      → ((cs : List (Bay × Bay)) → length cs ≡ s.count → close_line G.width G.height (bay_by t G) (under_of s cs) ≡ none)
      → Closes t G s r
  unfolding line_closed
  closes-broken o r q f = record {
    sound = record { first = λ v. q.count ∙ o.first (sym q.version ∙ v); few = omega (arith, q.count, o.few) };
    counts = λ cs l. rw (eq-eqb r.count s.count q.count, q.count) l;
    closes = λ cs l. rw (f cs l, q.failed, q.version, q.count);
  }

  pub closes-version : Sound s → (r : Reading) → r ≡ due_of false 0 0 0 → s.version ≡ true → (matched 9 (match_of s.text) or matched 11 (match_of s.text)) ≡ true → Closes t G s r
  unfolding line_closed close_line begin_line
  closes-version o r e v m =
      rw e (record {
        sound = record { first = λ q. refl; few = omega arith };
        counts = λ cs l. let z = o.first v in rw (no_length cs (l ∙ z), z);
        closes = λ cs l. let z = o.first v in rw (no_length cs (l ∙ z), v, m, z);
      })

  pub closes-carrier : (r : Reading) (a g : ℕ) → r ≡ due_of false (s.count + 1) a g → s.version ≡ false → s.count < most_carriers → some (a, g) ≡ carrier_of G.width G.height (bay_by t G) due-past → Closes t G s r
  unfolding line_closed close_line begin_line
  closes-carrier r a g e v k f =
      rw e (record {
        sound = record { first = λ q. not-both q refl; few = omega (arith, k) };
        counts = λ cs l. rw (ne_eqb (s.count + 1) s.count (omega arith), length-append) (ap (λ k. k + 1) l);
        closes = λ cs l. rw (v, l, lt-ltb s.count most_carriers k, ← f, ne_eqb (s.count + 1) s.count (omega arith), add-one s.count);
      })
