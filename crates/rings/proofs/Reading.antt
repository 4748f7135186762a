-- What is taken of the wanted bays in the first ring that has one is the nearest; and the lowest neighbour in the ring one nearer is the
-- path's next bay. Both are the paper's.
-- Assumes nothing.
use Rattle.std.proofs.Common.{None, Some}
use mathlib.Core.Path.{◌≡◌, refl, sym, ap, ◌∙◌}
use mathlib.Core.Bool.{Bool, true, false}
use mathlib.Core.List.{List, [], ◌++◌, append_assoc}
use mathlib.Core.Option.{none, some}
use Prim.Native.Nat.{ℕ, suc, ◌+◌, ◌-◌, ◌*◌, ◌≤◌, ◌<◌}
use native.Mathlib.Decide.{ℕ_discrete, dec_lt}
use native.Mathlib.Numerals.{add-one}
use native.Mathlib.Omega.{arith}
use lib.Dec.{eqb}
use lib.ListN.{length, get_or, set, take}
use lib.Seq.{take-suc-set}
use borrow.Author.Tests.{eq-eqb, ne_eqb}
use Rattle.paper.proofs.Members.{lowest-least, In-nil}
use Rattle.paper.specs.Basics.{◌and◌, elem, In}
use Rattle.paper.specs.Yard.{Bay, Yard, joined}
use Rattle.paper.specs.Path.{rings, nearest_first, nearest_of, ring_of, inward, shortest_path, path_between}
use Rattle.paper.proofs.Tests.{by_cases, not-both, and_left, and_right, and_both, never-some, never}
use Rattle.paper.proofs.Rings.{distance-in, distance_least, in-concat}
use Rattle.paper.proofs.Nearest.{nearest-chosen, nearest-none}
use Rattle.paper.proofs.Shortest.{Next, next, inward-zero}
use Rattle.words.specs.Sets.{mem, mem_row, Lowest, words, span}
use Rattle.words.proofs.Sets.{row_zero}
use Rattle.yard.specs.Table.{Table}
use Rattle.choice.specs.Taking.{Rowed, Taken}
use Rattle.choice.proofs.Taking.{taken-chosen}
use Rattle.rings.specs.Search.{Shown, ring_on, Searched, GoesOn}
use Rattle.docket.specs.declared.Bay.{Bay as Held}
use Rattle.rings.specs.declared.Near.{Near}
use Rattle.rings.specs.declared.Near.TheVariants.{Found, Nowhere, Farther}
use Rattle.rings.specs.Ways.{Inside, path_in, PathFound, WayFound, PathNear, WayNear, Ends, path_by, way_by}
use Rattle.rings.proofs.Searching.{ring-inside, in-yard}

-- ## The nearest

module _ {n : ℕ} {table held : List ℕ} (s : Shown n table held) (most : n ≤ span) (x : Bay) (hx : x < n) where
  low : (d b : ℕ) → In b (ring_on s x d) → b < n
  low d b i = in-yard s x most hx d b i

  module _ (wanted rows : List ℕ) (r : ℕ) (f : Searched s x wanted rows r) where
    -- the bays of a row are the yard's
    pub row-rowed : n * words ≤ length table → Rowed table (λ b. mem_row rows r b and mem_row wanted 0 b)
    row-rowed len b h i = let k : b < n = low r b (sym (f.rowing r b (omega arith) h) ∙ and_left _ _ i) in omega arith

    module _ (q : Bay → Bool) (w : (b : ℕ) → b < n → mem wanted b ≡ q b) (e : ℕ) (l : Taken table (λ b. mem_row rows r b and mem_row wanted 0 b) e) where
      early : (i b : ℕ) → i < r → In b (ring_on s x i) → q b ≡ false
      early i b k y = sym (w b (low i b y)) ∙ f.before i b k y

      -- what is taken of the wanted bays of the ring where the search ended
      pub nearest-at : e < span → some e ≡ nearest_of s.yard q s.bays x
      nearest-at k =
          let z = l.hit k in
          let i : In e (ring_on s x r) = sym (f.rowing r e (omega arith) k) ∙ and_left _ _ z in
          let t : q e ≡ true = sym (w e (low r e i)) ∙ sym (row_zero wanted e) ∙ and_right _ _ z in
          let among : (b : Bay) → In b (ring_on s x r) → q b ≡ true → (b < n) × (mem_row rows r b and mem_row wanted 0 b ≡ true) =
          λ b y p.
          let h = low r b y in
          (h, and_both _ _ (f.rowing r b (omega arith) (omega arith) ∙ y) (row_zero wanted b ∙ w b h ∙ p)) in
          sym (nearest-chosen s.yard s.bays x q r (taken-chosen s.joins most q (ring_on s x r) l (low r e i) i t among) early)

      -- none where it went as far as there are rings
      pub nearest-nowhere : span ≤ e → GoesOn n rows r → none ≡ nearest_of s.yard q s.bays x
      nearest-nowhere k goes =
          let rs = rings s.yard s.bays x in
          let dry : (b : ℕ) → In b (ring_on s x r) → mem wanted b ≡ false =
          λ b i.
          let h = low r b i in
          by_cases (mem wanted b)
          (λ t. not-both (and_both _ _ (f.rowing r b (omega arith) (omega arith) ∙ i) (row_zero wanted b ∙ t)) (l.missing k b (omega arith)))
          (λ t. t) in
          sym (nearest-none s.yard s.bays x q (λ b i.
          let d : ℕ = ring_of s.yard b rs in
          let y : In b (ring_on s x d) = distance-in s.yard b rs i in
          elim (dec_lt d r) [
            | yes m ↦ early d b m y
            | no m ↦ elim (ℕ_discrete d r) [
              | yes v ↦ let y' : In b (ring_on s x r) = rw v at y in sym (w b (low r b y')) ∙ dry b y'
              | no v ↦ In-nil b (rw (f.last goes dry d (omega arith)) at y)
            ]
          ]))

module _ {n : ℕ} {table held : List ℕ} (s : Shown n table held) (x : Bay) (most : n ≤ span) (hx : x < n) where
  -- the search for the one bay u ends at the ring of u, where u is reached at all
  pub search-finds : (wanted rows : List ℕ) (u r : ℕ) → ((b : ℕ) → mem wanted b ≡ eqb b u) → Searched s x wanted rows r
      → (elem u (ring_on s x r) ≡ false → GoesOn n rows r) → In u (nearest_first s.yard s.bays x) → In u (ring_on s x r) × (ring_of s.yard u (rings s.yard s.bays x) ≡ r)
  search-finds wanted rows u r w f goes i =
      let rs = rings s.yard s.bays x in
      let d : ℕ = ring_of s.yard u rs in
      let y : In u (get_or rs d []) = distance-in s.yard u rs i in
      let there : mem wanted u ≡ true = w u ∙ eq-eqb u u refl in
      elim (dec_lt d r) [
        | yes m ↦ not-both there (f.before d u m y)
        | no m ↦ elim (ℕ_discrete d r) [
          | yes v ↦ (rw v at y, v)
          | no v ↦ by_cases (elem u (ring_on s x r))
              (λ k. let least : d ≤ r = distance_least s.yard u rs r k in absurd (omega arith))
              (λ k. In-nil u (rw (f.last (goes k) (λ b z. w b ∙ ne_eqb b u (λ q. not-both (rw q at z) k)) d (omega arith)) at y))
        ]
      ]

-- ## A path read bay by bay

module _ (Y : Yard) (held : List Bay) (goal : Bay) (d x : ℕ) where
  abbrev goal_rings : List (List Bay)
  goal_rings = rings Y held goal

  -- i bays of the path from x to the goal, d rails long, are in the room, and u is the next
  pub record Read (i u : ℕ) (room : List ℕ) : Type 0 where
    pub near : In u (get_or goal_rings (d - i) [])
    pub so_far : inward Y goal_rings d x ≡ take i room ++ inward Y goal_rings (d - i) u

  pub read_none : (room : List ℕ) → In x (get_or goal_rings d []) → Read 0 x room
  read_none room i = let e : d - 0 ≡ d = omega arith in record { near = rw e i; so_far = rw e }

  -- the paper's next bay after u
  pub read_next : {i u : ℕ} {room : List ℕ} → i < d → Read i u room → Next Y held goal (d - 1 - i) u
  read_next {i} {u} h r = let e : d - i ≡ suc (d - 1 - i) = omega arith in next Y held goal (d - 1 - i) u (rw e at r.near)

  pub read_more : (i u v : ℕ) (room : List ℕ) → i < d → i < length room → Read i u room → (s : Next Y held goal (d - 1 - i) u) → s.bay ≡ v → Read (i + 1) v (set room i u)
  read_more i u v room h len r s same =
      let e : d - i ≡ suc (d - 1 - i) = omega arith in
      let f : d - (i + 1) ≡ d - 1 - i = omega arith in
      record {
        near = rw f (rw same at s.nearer);
        so_far = r.so_far ∙ rw (e, s.goes_on, same, f, add-one, take-suc-set room i u len, append_assoc);
      }

  pub read_all : (i u : ℕ) (room : List ℕ) → i ≡ d → i < length room → Read i u room → take (d + 1) (set room i u) ≡ inward Y goal_rings d x
  read_all i u room e len r =
      let z : d - i ≡ 0 = omega arith in
      let f : d + 1 ≡ suc i = omega arith in
      rw (f, take-suc-set room i u len) (sym (r.so_far ∙ rw (z, inward-zero)))

  -- the lowest neighbour in a row is the next bay, if that is in the row, and of the row each bay is in the ring one nearer
  pub lowest-next : {n : ℕ} {table : List ℕ} (rows : List ℕ) → Table Y n table → n ≤ span → (row k u v : ℕ) → u < n → (s : Next Y held goal k u) → s.bay < n
      → mem_row rows row s.bay ≡ true → ((b : ℕ) → b < span → mem_row rows row b ≡ true → In b (get_or goal_rings k []))
      → Lowest (λ b. mem_row table u b and mem_row rows row b) 0 span v → s.bay ≡ v
  lowest-next {n} {table} rows joins most row k u v hu s hb there nearer l =
      let one : mem_row table u s.bay ≡ true = joins.same u s.bay hu (omega arith) ∙ s.rail in
      let both : mem_row table u s.bay and mem_row rows row s.bay ≡ true = and_both _ _ one there in
      let v_low : v ≤ s.bay = elim (dec_lt s.bay v) [ yes m ↦ not-both both (l.before s.bay (omega arith) m) | no m ↦ omega arith ] in
      let hit : mem_row table u v and mem_row rows row v ≡ true = l.hit (omega arith) in
      let v-in : In v (get_or goal_rings k []) = nearer v (omega arith) (and_right _ _ hit) in
      let v-joined : joined Y u v ≡ true = sym (joins.same u v hu (omega arith)) ∙ and_left _ _ hit in
      let b-low : s.bay ≤ v = lowest-least (joined Y u) (get_or goal_rings k []) s.found v v-in v-joined in
      omega arith

-- ## The path inward

module _ {n : ℕ} {table rows : List ℕ} {d x : ℕ} (t : Inside n table rows d x) where
  abbrev pub Walked : ℕ → ℕ → List ℕ → Type 0
  Walked i u room = Read t.yard t.held t.goal d x i u room

  ring-low : (k b : ℕ) → In b (get_or (rings t.yard t.held t.goal) k []) → b < n
  ring-low k b i = rw t.joins.bays at (ring-inside t.yard t.held t.goal k b (rw t.joins.bays t.home) i)

  pub walked-inside : (i u : ℕ) (room : List ℕ) → Walked i u room → u < n
  walked-inside i u room w = ring-low (d - i) u w.near

  pub walked_none : (room : List ℕ) → Walked 0 x room
  walked_none room = read_none t.yard t.held t.goal d x room t.start

  pub walked_more : (i u v : ℕ) (room : List ℕ) → n ≤ span → i < d → i < length room → Walked i u room
      → Lowest (λ b. mem_row table u b and mem_row rows (d - 1 - i) b) 0 span v → Walked (i + 1) v (set room i u)
  walked_more i u v room most h len w l =
      let k : ℕ = d - 1 - i in
      let s = read_next t.yard t.held t.goal d x h w in
      let low : s.bay < n = ring-low k s.bay s.nearer in
      let same = lowest-next t.yard t.held t.goal d x rows t.joins most k k u v (walked-inside i u room w) s low (t.rowing k s.bay (omega arith) (omega arith) ∙ s.nearer) (λ b m e. sym (t.rowing k b (omega arith) m) ∙ e) l in
      read_more t.yard t.held t.goal d x i u v room h len w s same

-- ## What the functions answer

module _ {n : ℕ} {table held : List ℕ} (s : Shown n table held) (most : n ≤ span) where
  module _ (u v : Bay) (hv : v < n) (wanted rows : List ℕ) (d : ℕ) (w : (b : ℕ) → mem wanted b ≡ eqb b u) (f : Searched s v wanted rows d) (hu : u < n) where
    abbrev pub inside : true ≡ mem_row rows d u → Inside n table rows d u
    inside k = record {
      yard = s.yard;
      held = s.bays;
      goal = v;
      joins = s.joins;
      home = hv;
      rowing = f.rowing;
      start = sym (f.rowing d u (omega arith) (omega arith)) ∙ sym k;
    }

    pub path-first : (k : true ≡ mem_row rows d u) (room : List ℕ) → take (d + 1) room ≡ path_in (inside k) → PathFound s u v room (Some (d + 1))
    unfolding path_between shortest_path
    path-first k room e =
        let Y = s.yard in
        let i : In u (nearest_first Y s.bays v) = in-concat Y u (rings Y s.bays v) d (inside k).start in
        let same : ring_of Y u (rings Y s.bays v) ≡ d = (search-finds s v most hv wanted rows u d w f (λ o. not-both (inside k).start o) i).1 in
        record { fits = omega (arith, f.far); same = rw (i, same) (ap some e) }

    pub path-none : (room : List ℕ) → false ≡ mem_row rows d u → GoesOn n rows d → PathFound s u v room None
    unfolding path_between
    path-none room k goes =
        let Y = s.yard in
        let out : elem u (ring_on s v d) ≡ false = sym (f.rowing d u (omega arith) (omega arith)) ∙ sym k in
        let o : elem u (nearest_first Y s.bays v) ≡ false =
        by_cases (elem u (nearest_first Y s.bays v)) (λ i. not-both (search-finds s v most hv wanted rows u d w f (λ o. goes) i).0 out) (λ o. o) in
        record { fits = omega arith; same = rw o }

-- ## The way to the nearest

module _ {n : ℕ} {table held : List ℕ} (s : Shown n table held) (x : Bay) (q : Bay → Bool) where
  pub way-none : (room : List ℕ) → none ≡ nearest_of s.yard q s.bays x → WayFound s x q room None
  way-none room h = record { nearest = h; fits = omega arith; path = λ e k. never-some e k }

-- ## What few rows find

pub ends_nowhere : {n d : ℕ} {rows : List ℕ} → GoesOn n rows d → Ends n rows d Nowhere
ends_nowhere o = record { never_found = λ e m k. never (cc); nowhere = λ k. o; few = λ k. never (cc) }

pub ends-farther : {n d : ℕ} {rows : List ℕ} → length rows < n * words → Ends n rows d Farther
ends-farther h = record { never_found = λ e m k. never (cc); nowhere = λ k. never (cc); few = λ k. h }

module _ {n : ℕ} {table held : List ℕ} (s : Shown n table held) where
  pub path-ended : {u v : Bay} {rows rows' room : List ℕ} {d : ℕ} {r : Near} → Ends n rows' d r → length rows' ≡ length rows → (GoesOn n rows' d → PathFound s u v room None) → PathNear s u v rows room r
  path-ended z l f = record { found = λ e m k. absurd (z.never_found e m k); nowhere = λ k. f (z.nowhere k); few = λ k. omega (arith, z.few k, l) }

  pub way-ended : {x : Bay} {q : Bay → Bool} {rows rows' room : List ℕ} {d : ℕ} {r : Near} → Ends n rows' d r → length rows' ≡ length rows → (GoesOn n rows' d → WayFound s x q room None) → WayNear s x q rows room r
  way-ended z l f = record { found = λ e m k. absurd (z.never_found e m k); nowhere = λ k. f (z.nowhere k); few = λ k. omega (arith, z.few k, l) }

  pub path-near : {u v : Bay} {rows room : List ℕ} {e : Held} {m : ℕ} → PathFound s u v room (Some m) → PathNear s u v rows room (Found e m)
  path-near {m = m} f = record { found = λ e m' k. (let z : m ≡ m' = cc in rw z at f); nowhere = λ k. never (cc); few = λ k. never (cc) }

  pub way-near : {x : Bay} {q : Bay → Bool} {rows room : List ℕ} {e : Held} {m : ℕ} → WayFound s x q room (Some (e, m)) → WayNear s x q rows room (Found e m)
  way-near {e = e} {m = m} f = record { found = λ e' m' k. (let y : e ≡ e' = cc in let z : m ≡ m' = cc in rw (y, z) at f); nowhere = λ k. never (cc); few = λ k. never (cc) }

  by_near : {P : Type 0} (r : Near) → ((e : Held) (m : ℕ) → r ≡ Found e m → P) → (r ≡ Nowhere → P) → (r ≡ Farther → P) → P
  by_near (Found e m) f g h = f e m refl
  by_near Nowhere f g h = g refl
  by_near Farther f g h = h refl

  -- where the rows reached, what was found is the answer
  pub path-reached : {u v : Bay} {rows room : List ℕ} (r : Near) → PathNear s u v rows room r → (r ≡ Farther → ⊥) → PathFound s u v room (path_by r)
  path-reached r p h = by_near r (λ e m k. rw k (p.found e m k)) (λ k. rw k (p.nowhere k)) (λ k. absurd (h k))

  pub way-reached : {x : Bay} {q : Bay → Bool} {rows room : List ℕ} (r : Near) → WayNear s x q rows room r → (r ≡ Farther → ⊥) → WayFound s x q room (way_by r)
  way-reached r p h = by_near r (λ e m k. rw k (p.found e m k)) (λ k. rw k (p.nowhere k)) (λ k. absurd (h k))
