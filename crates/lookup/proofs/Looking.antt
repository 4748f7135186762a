-- Held bays only take ways away. So if a path that meets none of them is as short as the shortest with no bay held, no wanted bay is nearer than its
-- end, and those as near are in the same level, from which it was taken.
-- Assumes nothing.
use Rattle.std.proofs.Common.{Some}
use mathlib.Core.Path.{◌≡◌, sym, ap, ◌∙◌}
use mathlib.Core.Bool.{Bool, true, false, not}
use mathlib.Core.List.{List, []}
use mathlib.Core.Option.{some}
use Prim.Native.Nat.{ℕ, ◌+◌, ◌*◌, ◌≤◌, ◌<◌}
use native.Mathlib.Decide.{dec_lt}
use native.Mathlib.Omega.{arith}
use lib.ListN.{length, take}
use borrow.Author.Tests.{not-true}
use Rattle.paper.specs.Basics.{◌and◌, up_to, In}
use Rattle.paper.specs.Yard.{Bay, Yard}
use Rattle.paper.specs.Path.{Free, nearest_of, shortest_path}
use Rattle.paper.proofs.Tests.{by_cases, not-both, and_left, and_right, and_both, some_same}
use Rattle.paper.proofs.Rings.{Walk, walk-free, ring-walk}
use Rattle.paper.proofs.Nearest.{nearest-chosen}
use Rattle.paper.proofs.Shortest.{around-free}
use Rattle.words.specs.Sets.{mem, mem_row, words, span, Kept}
use Rattle.words.proofs.Sets.{row_zero}
use Rattle.words.proofs.Besides.{any_below-some, any_below-of}
use Rattle.choice.specs.Taking.{Rowed, Taken}
use Rattle.choice.proofs.Taking.{taken-chosen}
use Rattle.rings.specs.Search.{Shown, around}
use Rattle.rings.specs.Ways.{WayFound}
use Rattle.rings.proofs.Between.{start-far, shortest-far}
use Rattle.docket.specs.declared.Bay.{Bay as Held}
use Rattle.levels.specs.Levels.{Levelled}
use Rattle.first_level.specs.Reading.{FirstLevel}
use Rattle.lookup.specs.Told.{Distant, Led, Told}
use Rattle.lookup.proofs.Levelling.{fewer-fit, walk_first, walk-plain, free-inside, inside, level-walk, walk-level, Far, far-short, far-ring}

-- ## What is told

module _ {n : ℕ} {table held : List ℕ} (s : Shown n table held) {x : Bay} {q : Bay → Bool} {room : List ℕ} where
  told : {e : Held} {m : ℕ} → WayFound s x q room (Some (e, m)) → Told s x q room (Some (e, m))
  told f e' m' k = rw k at f

-- ## The first level that has one of the bays

-- level j is the first that has one of the wanted bays that are not held, and e is taken of them
pub record Looked (n : ℕ) (table held : List ℕ) (x : Bay) (wanted : List ℕ) (j e : ℕ) : Type 0 where
  pub most : n ≤ span
  pub levels : Levelled n table
  pub home : x < n
  pub unwanted : mem wanted x ≡ false
  pub bays : List ℕ
  pub free : (b : ℕ) → b < span → mem bays b ≡ mem wanted b and not (mem held b)
  pub first : FirstLevel n table x bays j
  pub fits : (j + 1) * n * words ≤ length table
  pub taken : Taken table (λ b. mem_row table (j * n + x) b and mem_row bays 0 b) e

pub looked : {n : ℕ} {table held : List ℕ} {x : Bay} {wanted none kept bays : List ℕ} {j e : ℕ}
    → n ≤ span → Levelled n table → x < n → mem wanted x ≡ false → Kept none 0 wanted kept → ((b : ℕ) → mem bays b ≡ mem kept b and not (mem held b))
    → FirstLevel n table x bays j → (j + 1) * n * words ≤ length table → Taken table (λ b. mem_row table (j * n + x) b and mem_row bays 0 b) e
    → Looked n table held x wanted j e
looked {kept = kept} {bays = bays} most levels home unwanted keeps minus first fits taken = record {
  most = most;
  levels = levels;
  home = home;
  unwanted = unwanted;
  bays = bays;
  free = λ b h. minus b ∙ rw (← row_zero kept b, keeps.row b h);
  first = first;
  fits = fits;
  taken = taken;
}

-- the bays of a level are the yard's
pub level-rowed : {n : ℕ} {table held : List ℕ} (s : Shown n table held) → n ≤ span → Levelled n table → (x : Bay) → x < n → (j : ℕ) (bays : List ℕ)
    → (j + 1) * n * words ≤ length table → n * words ≤ length table → Rowed table (λ b. mem_row table (j * n + x) b and mem_row bays 0 b)
level-rowed s most levels x home j bays fits len b h i =
    let w = level-walk s.joins most levels j x b fits home h (and_left _ _ i) in
    omega (arith, inside s.joins most b (walk-free s.yard [] (free-inside s.joins most x home) w.3).0)

module _ {n : ℕ} {table held : List ℕ} (s : Shown n table held) {x : Bay} {wanted : List ℕ} {j e : ℕ} (g : Looked n table held x wanted j e) where
  abbrev Y : Yard
  Y = s.yard

  -- level i for x has one of these bays at b
  abbrev meets : ℕ → Bay → Bool
  meets i b = mem_row table (i * n + x) b and mem_row g.bays 0 b

  inside-span : (b : Bay) → In b (up_to Y.bays) → b < span
  inside-span b i = omega (arith, g.most, inside s.joins g.most b i)

  end-found : e < span
  end-found =
      let r = any_below-some (meets j) span (g.first.hit g.fits) in
      elim (dec_lt e span) [ yes h ↦ h | no h ↦ not-both r.2 (g.taken.missing (omega arith) r.0 r.1) ]

  end-chosen : mem g.bays e ≡ true
  end-chosen = sym (row_zero g.bays e) ∙ and_right _ _ (g.taken.hit end-found)

  end-unheld : mem held e ≡ false
  end-unheld = not-true (mem held e) (and_right _ _ (sym (g.free e end-found) ∙ end-chosen))

  x-free : Free Y [] x
  x-free = free-inside s.joins g.most x g.home

  -- none of these bays is nearer
  no-nearer : (i b : ℕ) → Walk Y [] x i b → mem g.bays b ≡ true → j + 1 ≤ i
  no-nearer i b w c =
      walk_first Y w
      (λ z same. not-both (and_left _ _ (sym (g.free x (inside-span x x-free.0)) ∙ rw same c)) g.unwanted)
      (λ k y z rail y-free v. elim (dec_lt k j) [
        | yes h ↦
            let fits = fewer-fit (j + 1) n (k + 1) g.fits (omega arith) in
            let row = walk-level s.joins g.most g.levels k x b fits g.home w (omega arith) (omega arith) in
            let hit : meets k b ≡ true = and_both _ _ row (row_zero g.bays b ∙ c) in
            not-both (any_below-of (meets k) span b (inside-span b (walk-free Y [] x-free w).0) hit) (g.first.before k h)
        | no h ↦ omega arith
      ])

  end-far : Far s.joins g.most g.levels x g.home (j + 1) e
  end-far =
      let w = level-walk s.joins g.most g.levels j x e g.fits g.home end-found (and_left _ _ (g.taken.hit end-found)) in
      let same : w.0 ≡ j + 1 = omega (arith, w.2, no-nearer w.0 e w.3 end-chosen) in
      record { walk = rw same at w.3; least = λ i v. no-nearer i e v end-chosen }

  pub end_short : j + 1 < n
  end_short = far-short s.joins g.most g.levels x g.home end-far

  end-in : In e (around Y [] x (j + 1))
  end-in = far-ring s.joins g.most g.levels x g.home end-far

  end-free : Free Y [] e
  end-free = walk-free Y [] x-free end-far.walk

  pub end_inside : e < n
  end_inside = inside s.joins g.most e end-free.0

  pub start-apart : In x (around Y [] e (j + 1))
  start-apart = start-far Y [] x e (j + 1) x-free end-in

  abbrev pub distant : Distant n table held x e (j + 1)
  distant = record { shown = s; levels = g.levels; home = end_inside; far = start-apart }

  module _ (room : List ℕ) (led : Led distant room) where
    abbrev path : List Bay
    path = take (j + 1 + 1) room

    end_kept : Free Y s.bays e
    end_kept = (end-free.0, sym (s.holds e end-found) ∙ end-unheld)

    x-kept : Free Y s.bays x
    x-kept = around-free Y s.bays e end_kept (j + 1) x led.near

    end-there : In e (around Y s.bays x (j + 1))
    end-there = start-far Y s.bays e x (j + 1) end_kept led.near

    path-shortest : path ≡ shortest_path Y s.bays x e
    path-shortest = led.path ∙ sym (shortest-far Y s.bays x e (j + 1) x-kept end-there)

    module _ (q : Bay → Bool) (same : (b : ℕ) → b < n → mem wanted b ≡ q b) where
      -- past the held bays a bay is no nearer than with none held
      plain : (i : ℕ) (b : Bay) → In b (around Y s.bays x i) → Walk Y [] x i b
      plain i b y = walk-plain Y s.bays (ring-walk Y s.bays Y.bays x i b y)

      free-there : (i : ℕ) (b : Bay) → In b (around Y s.bays x i) → Free Y s.bays b
      free-there i b y = walk-free Y s.bays x-kept (ring-walk Y s.bays Y.bays x i b y)

      below : (i : ℕ) (b : Bay) → In b (around Y s.bays x i) → b < n
      below i b y = inside s.joins g.most b (free-there i b y).0

      chosen : (i : ℕ) (b : Bay) → In b (around Y s.bays x i) → q b ≡ true → mem g.bays b ≡ true
      chosen i b y t =
          let f = free-there i b y in
          let h = inside-span b f.0 in
          g.free b h ∙ and_both _ _ (same b (below i b y) ∙ t) (ap not (s.holds b h ∙ f.1))

      early : (i : ℕ) (b : Bay) → i < j + 1 → In b (around Y s.bays x i) → q b ≡ false
      early i b h y = by_cases (q b) (λ t. absurd (omega (arith, no-nearer i b (plain i b y) (chosen i b y t)))) (λ t. t)

      among : (b : Bay) → In b (around Y s.bays x (j + 1)) → q b ≡ true → (b < n) × (meets j b ≡ true)
      among b y t = (
        below (j + 1) b y,
        and_both _ _ (walk-level s.joins g.most g.levels j x b g.fits g.home (plain (j + 1) b y) (omega arith) (omega arith))
            (row_zero g.bays b ∙ chosen (j + 1) b y t),
      )

      end-first : nearest_of Y q s.bays x ≡ some e
      end-first =
          let passes : q e ≡ true = sym (same e end_inside) ∙ and_left _ _ (sym (g.free e end-found) ∙ end-chosen) in
          nearest-chosen Y s.bays x q (j + 1)
          (taken-chosen s.joins g.most q (around Y s.bays x (j + 1)) g.taken end_inside end-there passes among) early

      pub way-told : (r : Held) → r.0 ≡ e → Told s x q room (Some (r, (j + 2)))
      way-told r k = told s (record {
        nearest = ap some k ∙ sym end-first;
        fits = omega (arith, end_short);
        path = λ y h.
            let there : y ≡ e = sym (some_same h) ∙ k in
            let long : j + 2 ≡ j + 1 + 1 = omega arith in
            rw (there, long) path-shortest;
      })
