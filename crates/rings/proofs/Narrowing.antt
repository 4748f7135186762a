-- Going back from e the rows come down to the bays on shortest paths, one row a turn; going on from x the lowest kept neighbour is
-- the next bay of the paper's path, since every kept bay of the next row is one rail nearer to e.
-- Assumes nothing.
use mathlib.Core.Path.{◌≡◌, refl, sym, ◌∙◌}
use mathlib.Core.Bool.{Bool, true, false}
use mathlib.Core.List.{List, []}
use mathlib.Core.Option.{some}
use Prim.Native.Nat.{ℕ, suc, ◌+◌, ◌-◌, ◌*◌, ◌/◌, ◌%◌, ◌≤◌, ◌<◌}
use native.Mathlib.Decide.{ℕ_discrete}
use native.Mathlib.Numerals.{add-one}
use native.Mathlib.Omega.{arith}
use lib.Bits.{bit_and}
use lib.Dec.{eqb}
use lib.ListN.{length, get_or, set, take}
use Rattle.paper.proofs.Members.{in_count, In-head}
use Rattle.paper.specs.Basics.{◌and◌, elem, In, Out}
use Rattle.paper.specs.Yard.{Bay, Yard}
use Rattle.paper.specs.Path.{Free, rings}
use Rattle.paper.proofs.Tests.{and_left, and_right, and_both}
use Rattle.words.specs.Sets.{mem, mem_row, on, words, span, Lowest, Kept, Beside}
use Rattle.words.proofs.Bits.{on_and}
use Rattle.words.proofs.Loops.{Done}
use Rattle.words.proofs.Sets.{mem-row, row_zero}
use Rattle.yard.specs.Table.{Table}
use Rattle.choice.specs.Taking.{Taken}
use Rattle.rings.specs.Search.{around, Shown, ring_on, Searched}
use Rattle.rings.specs.Ways.{Ended, on_path, Narrowed, Outside, path_out, KeptBeside, WayFound, end_of, way_length}
use Rattle.rings.specs.Way.{Way}
use Rattle.rings.proofs.Searching.{ring-first, ring-inside, in-yard}
use Rattle.rings.proofs.Reading.{nearest-at, Read, read_none, read_next, read_more, lowest-next}
use Rattle.rings.proofs.Between.{between-end, between-inside, between-beside, further, start-far, shortest-far}

-- word by word, the bays of both
pub row-met : (set₀ rows set : List ℕ) (a i : ℕ) → words ≤ i → Done set i (λ k. bit_and (get_or set₀ k 0) (get_or rows (a * words + k) 0))
    → (b : ℕ) → b < span → mem set b ≡ mem set₀ b and mem_row rows a b
row-met set₀ rows set a i l d b h =
    let e : mem set b ≡ on (get_or set (b / 64) 0) (b % 64) = unfold mem in refl in
    let f : mem set₀ b ≡ on (get_or set₀ (b / 64) 0) (b % 64) = unfold mem in refl in
    rw (e, f, mem-row rows a b, d.at (b / 64) (omega arith)) (on_and _ _ _)

free-start : (Y : Yard) (held : List Bay) {n : ℕ} {table : List ℕ} (x : Bay) → Table Y n table → x < n → Out x held → Free Y held x
free-start Y held x t h o = (in_count 0 Y.bays x (omega arith) (rw t.bays (omega arith)), o)

-- ## From e back

-- what is beside the kept bays, of row i, is kept as row i
pub kept-beside : (table : List ℕ) (i : ℕ) (rows kept rows' kept' found found' : List ℕ) → Beside table kept found span
    → ((b : ℕ) → b < span → mem found' b ≡ mem found b and mem_row rows i b) → Kept kept 0 found' kept' → Kept rows i kept' rows'
    → KeptBeside table i rows kept rows' kept'
kept-beside table i rows kept rows' kept' found found' p m k w = record { met = λ b h. sym (row_zero kept' b) ∙ k.row b h ∙ m b h ∙ rw (p.same b h); row = w }

module _ {n : ℕ} {table rows₀ : List ℕ} {d e : ℕ} (t : Ended n table rows₀ d e) where
  start_free : Free t.yard t.held t.start
  start_free = free-start t.yard t.held t.start t.joins t.home t.unheld

  -- the rows from i on are narrowed, the kept ones are those of row i, and the rows below i are the rings
  pub record Narrowing (i : ℕ) (kept rows : List ℕ) : Type 0 where
    pub keeping : (b : ℕ) → b < span → mem kept b ≡ on_path t i b
    pub narrowed : Narrowed t i rows
    pub below : (k b : ℕ) → k < i → b < span → mem_row rows k b ≡ elem b (around t.yard t.held t.start k)

  pub narrowing-first : (kept : List ℕ) → ((b : ℕ) → mem kept b ≡ eqb b e) → ((b : ℕ) → b < span → mem_row rows₀ d b ≡ mem kept b) → Narrowing d kept rows₀
  narrowing-first kept k w =
      let keeping : (b : ℕ) → b < span → mem kept b ≡ on_path t d b =
      λ b h. k b ∙ between-end t.yard t.held t.start e d start_free t.there b in
      record {
        keeping = keeping;
        narrowed = record { rowing = λ j b l m h. let same : j ≡ d = omega arith in rw same (w b h ∙ keeping b h) };
        below = t.rowing;
      }

  module _ (most : n ≤ span) where
    pub narrowing-inside : (i : ℕ) (kept rows : List ℕ) → Narrowing i kept rows → (a : ℕ) → a < span → mem kept a ≡ true → a < n
    narrowing-inside i kept rows g a h k =
        between-inside t.yard t.held t.start e d start_free t.there t.joins most t.home i a (sym (g.keeping a h) ∙ k)

    pub narrowing-more : (j : ℕ) (kept rows kept' rows' : List ℕ) → suc j ≤ d → Narrowing (suc j) kept rows → KeptBeside table j rows kept rows' kept'
        → Narrowing j kept' rows'
    narrowing-more j kept rows kept' rows' l g w =
        let keeping : (b : ℕ) → b < span → mem kept' b ≡ on_path t j b =
        λ b h.
        w.met b h ∙ rw (g.below j b (omega arith) h)
        (between-beside t.yard t.held t.start e d start_free t.there t.joins most t.home kept j l g.keeping b h) in
        record {
          keeping = keeping;
          narrowed = record {
            rowing = λ k b i m h. elim (ℕ_discrete k j) [
              | yes q ↦ rw q (w.row.row b h ∙ keeping b h)
              | no q ↦ w.row.others k b q h ∙ g.narrowed.rowing k b (omega arith) m h
            ];
          };
          below = λ k b i h. w.row.others k b (λ q. omega arith) h ∙ g.below k b (omega arith) h;
        }

-- row d is no ring below d
abbrev pub ended-kept : {n : ℕ} {table rows : List ℕ} {d e : ℕ} {ring rows' : List ℕ} → Ended n table rows d e → Kept rows d ring rows' → Ended n table rows' d e
ended-kept t k = record {
  yard = t.yard;
  held = t.held;
  start = t.start;
  joins = t.joins;
  home = t.home;
  unheld = t.unheld;
  rowing = λ i b l h. k.others i b (λ q. omega arith) h ∙ t.rowing i b l h;
  there = t.there;
}

pub narrowing-all : {n : ℕ} {table rows : List ℕ} {d e : ℕ} {ring rows₀ : List ℕ} (t : Ended n table rows d e) (k : Kept rows d ring rows₀) (i : ℕ) (kept rows' : List ℕ)
    → i ≤ 1 → Narrowing (ended-kept t k) i kept rows' → Narrowed t 1 rows'
narrowing-all t k i kept rows' l g = record { rowing = λ j b f m h. g.narrowed.rowing j b (omega arith) m h }

-- ## From x on

module _ {n : ℕ} {table rows : List ℕ} {d x : ℕ} (t : Outside n table rows d x) where
  x-free : Free t.yard t.held x
  x-free = free-start t.yard t.held x t.joins t.home t.unheld

  -- besides, u is i rails from x
  pub record Going (i u : ℕ) (room : List ℕ) : Type 0 where
    pub far : In u (around t.yard t.held x i)
    pub read : Read t.yard t.held t.goal d x i u room

  far-inside : (i b : ℕ) → In b (around t.yard t.held x i) → b < n
  far-inside i b far = rw t.joins.bays at (ring-inside t.yard t.held x i b (rw t.joins.bays t.home) far)

  pub going-inside : (i u : ℕ) (room : List ℕ) → Going i u room → u < n
  going-inside i u room g = far-inside i u g.far

  pub going-first : (room : List ℕ) → Going 0 x room
  going-first room =
      let some_bay : 0 < t.yard.bays = rw t.joins.bays (let h = t.home in omega arith) in
      record {
        far = rw (ring-first t.yard t.held x some_bay) (In-head x []);
        read = read_none t.yard t.held t.goal d x room (start-far t.yard t.held x t.goal d x-free t.there);
      }

  -- the lowest kept neighbour is the path's next bay
  pub going_more : (i u v : ℕ) (room : List ℕ) → n ≤ span → i < d → i < length room → Going i u room
      → Lowest (λ b. mem_row table u b and mem_row rows (i + 1) b) 0 span v → Going (i + 1) v (set room i u)
  going_more i u v room most h len g l =
      let Y = t.yard in
      let k : ℕ = d - 1 - i in
      let sum : suc i + k ≡ d = omega arith in
      let row : d - (i + 1) ≡ k = omega arith in
      let s = read_next Y t.held t.goal d x h g.read in
      let bay-far : In s.bay (around Y t.held x (suc i)) =
      further Y t.held x t.goal d x-free t.there i k sum u s.bay g.far s.rail s.nearer in
      let low : s.bay < n = far-inside (suc i) s.bay bay-far in
      let kept : (b : ℕ) → b < span → mem_row rows (i + 1) b ≡ elem b (around Y t.held x (suc i)) and elem b (get_or (rings Y t.held t.goal) k []) =
      λ b m. t.rowing (i + 1) b (omega arith) (omega arith) m ∙ rw (row, add-one) in
      let same = lowest-next Y t.held t.goal d x rows t.joins most (i + 1) k u v (going-inside i u room g) s low (kept s.bay (omega arith) ∙ and_both _ _ bay-far s.nearer) (λ b m e. and_right _ _ (sym (kept b m) ∙ e)) l in
      record {
        far = rw add-one (rw same at bay-far);
        read = read_more Y t.held t.goal d x i u v room h len g.read s same;
      }

-- ## The way to the nearest

module _ {n : ℕ} {table held : List ℕ} (s : Shown n table held) (most : n ≤ span) (x : Bay) (hx : x < n) (unheld : mem held x ≡ false)
    (wanted rows : List ℕ) (d b : ℕ) (f : Searched s x wanted rows d) (l : Taken table (λ y. mem_row rows d y and mem_row wanted 0 y) b) (hit : b < span) where
  pub found : In b (ring_on s x d)
  found = sym (f.rowing d b (omega arith) hit) ∙ and_left _ _ (l.hit hit)

  pub end_inside : b < n
  end_inside = in-yard s x most hx d b found

  abbrev pub ended : Ended n table rows d b
  ended = record {
    yard = s.yard;
    held = s.bays;
    start = x;
    joins = s.joins;
    home = hx;
    unheld = sym (s.holds x (omega arith)) ∙ unheld;
    rowing = λ i c k h. f.rowing i c (omega arith) h;
    there = found;
  }

  abbrev pub outside : (rows' : List ℕ) → Narrowed ended 1 rows' → Outside n table rows' d x
  outside rows' w = record {
    yard = s.yard;
    held = s.bays;
    goal = b;
    joins = s.joins;
    home = hx;
    unheld = ended.unheld;
    there = found;
    rowing = w.rowing;
  }

  pub way-found : (rows' room : List ℕ) (w : Narrowed ended 1 rows') (q : Bay → Bool) (r : Way) → ((y : ℕ) → y < n → mem wanted y ≡ q y)
      → take (d + 1) room ≡ path_out (outside rows' w) → end_of r ≡ some b → way_length r ≡ d + 1 → WayFound s x q room r
  way-found rows' room w q r same e ends long = record {
    nearest = ends ∙ nearest-at s most x hx wanted rows d f q same b l hit;
    fits = rw long (let h = f.far in omega arith);
    path = λ y k.
        let it : b ≡ y = let z = sym ends ∙ k in cc in
        rw (long, ← it) (e ∙ sym (shortest-far s.yard s.bays x b d (free-start s.yard s.bays x s.joins hx ended.unheld) found));
  }
