-- The lowest empty neighbours are the lowest members common to two sets. What is kept first is followed by what the paper keeps next.
-- Assumes nothing.
use mathlib.Core.Path.{◌≡◌, sym, ◌∙◌, ap, refl}
use mathlib.Core.Bool.{Bool, true, false, not}
use mathlib.Core.List.{List, [], ◌∷◌}
use Prim.Native.Nat.{ℕ, suc, zero, ◌≤◌, ◌<◌, ◌-◌, ◌+◌}
use native.Mathlib.Decide.{ℕ_discrete, dec_lt}
use native.Mathlib.Omega.{arith}
use lib.Dec.{eqb}
use borrow.Author.Tests.{eq-eqb, ne_eqb, not-true}
use Rattle.paper.specs.Basics.{◌and◌, filter, elem, without, count_from, up_to, Out}
use Rattle.paper.specs.Procedure.{only, Cleared, following, clearing, clear_once}
use Rattle.paper.specs.Yard.{Bay, Yard, is_empty, joined, neighbours}
use Rattle.paper.proofs.Members.{in_count}
use Rattle.paper.proofs.Tests.{by_cases, not-both, and_left, and_right, and_both}
use Rattle.paper.proofs.Vacating.{vacate-vacates}
use Rattle.words.specs.Sets.{mem, span, mem_row, Lowest}
use Rattle.words.proofs.Sets.{row_zero}
use Rattle.moving.specs.Placed.{Placed}
use Rattle.docket.specs.declared.Bay.{Bay as Numbered}
use Rattle.acting.specs.Acting.{Tabled, nothing}
use Rattle.acting.specs.declared.Tally.{Tally}
use Rattle.acting.proofs.Acting.{tallied-none, tallied-then}
use Rattle.keeping.specs.Keeping.{Among, Stuck, KeepsOne, Clears, from}
use Rattle.keeping.specs.declared.Two.{Two}
use Rattle.keeping.specs.declared.Two.TheVariants.{Both}
use Rattle.keeping.proofs.Keeping.{clears-two, clears-as, clearing-none, clearing-one, clearing-full}
use Rattle.keeping.proofs.Around.{filter-both, filter_same, Around}
pub use Rattle.acting.proofs.Holding.{ready-again}
pub use Rattle.keeping.proofs.Around.{around-of, inside_of, inside-less}

-- the first bay kept, and what follows
pub first-none : (Y : Yard) (v b : Bay) (others : List ℕ) (n : ℕ) (p : List ℕ) → n ≤ span → Stuck Y (v ∷ b ∷ []) others 0 span p
    → (clearing Y v b [] (from (mem others) 0 n) p).kept ≡ []
first-none Y v b others n p most s =
    let e : clearing Y v b [] (from (mem others) 0 n) p ≡ record { made = only []; kept = [] } =
    clearing-none Y v b [] (omega arith) (mem others) p 0 n (omega arith) (λ y k l m. s y k (omega arith) m) in
    ap (λ (c : Cleared). c.kept) e

pub first_then : {Y : Yard} {v b : Bay} {others : List ℕ} {n : ℕ} {p out q standing₁ empty₁ out₁ p' standing' empty' out' : List ℕ} {x : ℕ} {m : Tally} {r : Two}
    → KeepsOne Y (v ∷ b ∷ []) others 0 n p out q standing₁ empty₁ out₁ x m
    → Clears (clearing Y v b (x ∷ []) (from (mem others) (x + 1) n) q) n q out₁ m p' standing' empty' out' r
    → Clears (clearing Y v b [] (from (mem others) 0 n) p) n p out nothing p' standing' empty' out' r
first_then {Y} {v} {b} {others} {n} {p} {q = q} {x = x} f s =
    let e : clearing Y v b [] (from (mem others) 0 n) p ≡ following f.made (clearing Y v b (x ∷ []) (from (mem others) (x + 1) n) q) =
    clearing-one Y v b [] (omega arith) (mem others) p 0 n x f.made f.above f.low f.other f.stuck f.vacated ∙ rw f.played.moved in
    clears-as e (record {
      both = λ y z k d. let t = s.both y z k d in (t.0, tallied-then f.played t.1);
      single = λ y k d. let t = s.single y k d in record { kept = t.kept; low = t.low; free = t.free; played = tallied-then f.played t.played };
      short = λ d. s.short d;
    })

-- ## Filters

filter_none : (f : ℕ → Bool) (a k : ℕ) → ((y : ℕ) → a ≤ y → y < a + k → f y ≡ false) → filter f (count_from a k) ≡ []
unfolding filter count_from
filter_none f a zero h = refl
filter_none f a (suc k) h = rw (h a (omega arith) (omega arith)) (filter_none f (suc a) k (λ y i l. h y (omega arith) (omega arith)))

filter-first : (f : ℕ → Bool) (a k x : ℕ) → a ≤ x → x < a + k → f x ≡ true → ((y : ℕ) → a ≤ y → y < x → f y ≡ false)
    → filter f (count_from a k) ≡ x ∷ filter f (count_from (suc x) (a + k - suc x))
unfolding filter count_from
filter-first f a zero x h l t b = absurd (omega arith)
filter-first f a (suc k) x h l t b = elim (ℕ_discrete a x) [
  | yes e ↦ let d : a + suc k - suc a ≡ k = omega arith in rw (← e, d, (rw (← e) at t))
  | no e ↦
      let d : suc a + k - suc x ≡ a + suc k - suc x = omega arith in
      rw (b a (omega arith) (omega arith)) (rw d at (filter-first f (suc a) k x (omega arith) (omega arith) t (λ y i m. b y (omega arith) m)))
]

filter-all : (l : List ℕ) → filter (λ y. not (elem y [])) l ≡ l
unfolding filter elem
filter-all [] = refl
filter-all (x ∷ l) = rw (filter-all l)

without-nil : (l : List ℕ) → without [] l ≡ l
unfolding without
without-nil l = filter-all l

-- ## The empty neighbours

eqb-elem : (y b : ℕ) → elem y (b ∷ []) ≡ eqb y b
unfolding elem
eqb-elem y b = by_cases (eqb y b) (λ e. rw e) (λ e. rw e)

and-false : (s : Bool) → s and not true ≡ false
unfolding ◌and◌
and-false true = refl
and-false false = refl

module _ {Y : Yard} {v b : Bay} {n : ℕ} {others : List ℕ} (w : Around Y v b n others) (most : n ≤ span) {p standing empty : List ℕ} (k : Placed n p standing empty) where
  around-is : without (b ∷ []) (neighbours Y v) ≡ filter (mem others) (count_from 0 n)
  unfolding without neighbours
  around-is =
      filter-both (joined Y v) (λ y. not (elem y (b ∷ []))) (up_to Y.bays)
      ∙ filter_same _ (mem others) 0 Y.bays (λ y i l. sym (w.same y (omega (arith, w.bays)) ∙ rw eqb-elem))
      ∙ ap (λ (k : ℕ). filter (mem others) (count_from 0 k)) w.bays

  abbrev empty_of : List ℕ → ℕ → Bool
  empty_of ws y = mem_row ws 0 y and mem_row empty 0 y

  empties-is : filter (is_empty p) (filter (mem others) (count_from 0 n)) ≡ filter (empty_of others) (count_from 0 n)
  empties-is =
      filter-both (mem others) (is_empty p) (count_from 0 n)
      ∙ filter_same _ (empty_of others) 0 n (λ y i l. rw (row_zero, row_zero, k.empties y (omega arith)))

  abbrev upto-n : List ℕ → List Bay
  upto-n ws = from (mem ws) 0 n

  whole : (ws : List ℕ) → filter (mem ws) (count_from 0 n) ≡ from (mem ws) 0 n
  whole ws = let e : n - 0 ≡ n = omega arith in rw e

  pub clear_none : {x : ℕ} → Lowest (λ y. mem_row others 0 y and mem_row empty 0 y) 0 span x → span ≤ x → clear_once Y v b p ≡ clearing Y v b [] (from (mem others) 0 n) p
  unfolding clear_once
  clear_none l h =
      let e : filter (empty_of others) (count_from 0 n) ≡ [] = filter_none (empty_of others) 0 n (λ y i m. l.before y i (omega arith)) in
      rw (around-is, empties-is, e, without-nil) (rw (whole others))

  module _ {x : ℕ} (l : Lowest (λ y. mem_row others 0 y and mem_row empty 0 y) 0 span x) (hx : x < n) (others' : List ℕ) (f : (y : ℕ) → mem others' y ≡ mem others y and not (eqb y x)) where
    later : (y : ℕ) → x < y → empty_of others y ≡ empty_of others' y
    unfolding ◌and◌
    later y h = rw (row_zero, row_zero, row_zero, f y, ne_eqb y x (λ e. omega arith)) (clean (mem others y) (mem empty y))
      where
        clean : (s t : Bool) → s and t ≡ (s and true) and t
        clean true t = refl
        clean false t = refl

    firsts : filter (empty_of others) (count_from 0 n) ≡ x ∷ filter (empty_of others') (count_from (suc x) (n - suc x))
    firsts =
        filter-first (empty_of others) 0 n x (omega arith) (omega arith) (l.hit (omega arith)) (λ y i m. l.before y i m)
        ∙ ap (λ (t : List ℕ). x ∷ t) (let e : 0 + n - suc x ≡ n - suc x = omega arith in rw e (filter_same (empty_of others) (empty_of others') (suc x) (n - suc x) (λ y i m. later y (omega arith))))

    left : without (x ∷ []) (filter (mem others) (count_from 0 n)) ≡ filter (mem others') (count_from 0 n)
    unfolding without
    left = filter-both (mem others) (λ y. not (elem y (x ∷ []))) (count_from 0 n) ∙ filter_same _ (mem others') 0 n (λ y i m. sym (f y ∙ rw eqb-elem))

    pub clear-one : {y : ℕ} → Lowest (λ y. mem_row others' 0 y and mem_row empty 0 y) 0 span y → span ≤ y → clear_once Y v b p ≡ clearing Y v b (x ∷ []) (from (mem others') 0 n) p
    unfolding clear_once
    clear-one l' h =
        let e : filter (empty_of others') (count_from (suc x) (n - suc x)) ≡ [] = filter_none (empty_of others') (suc x) (n - suc x) (λ y i m. l'.before y (omega arith) (omega arith)) in
        rw (around-is, empties-is, firsts, e, left, whole others')

    pub clear-two : {y : ℕ} → Lowest (λ y. mem_row others' 0 y and mem_row empty 0 y) 0 span y → y < n → clear_once Y v b p ≡ record { made = only []; kept = x ∷ y ∷ [] }
    unfolding clear_once
    clear-two {y} l' hy =
        let hit = l'.hit (omega arith) in
        let far : x < y = elim (dec_lt x y) [
          | yes q ↦ q
          | no q ↦ elim (ℕ_discrete x y) [
            | yes e ↦ not-both (sym (row_zero others' y) ∙ and_left _ _ hit) (f y ∙ rw (e, eq-eqb y y refl) (and-false (mem others y)))
            | no e ↦
                let there : mem others y and not (eqb y x) ≡ true = sym (f y) ∙ sym (row_zero others' y) ∙ and_left _ _ hit in
                not-both (and_both _ _ (row_zero others y ∙ and_left _ _ there) (and_right _ _ hit)) (l.before y (omega arith) (omega arith))
          ]
        ] in
        let e : filter (empty_of others') (count_from (suc x) (n - suc x)) ≡ y ∷ filter (empty_of others') (count_from (suc y) (suc x + (n - suc x) - suc y)) =
        filter-first (empty_of others') (suc x) (n - suc x) y (omega arith) (omega arith) hit (λ z i m. l'.before z (omega arith) m) in
        rw (around-is, empties-is, firsts, e) (clearing-full Y v b x y _ p)

pub lowest-in : {n : ℕ} {others : List ℕ} {x : ℕ} (empty : List ℕ) → Among n others → Lowest (λ y. mem_row others 0 y and mem_row empty 0 y) 0 span x → x < span → x < n
lowest-in {others = others} {x = x} empty i l h = i.low x h (sym (row_zero others x) ∙ and_left _ _ (l.hit h))

-- the lowest empty neighbour is empty, and a bay that was kept is
pub lowest-free : {n : ℕ} {empty p standing : List ℕ} {x : ℕ} (others : List ℕ) → Placed n p standing empty → Lowest (λ y. mem_row others 0 y and mem_row empty 0 y) 0 span x → x < n → n ≤ span → Out x p
lowest-free {empty = empty} {p = p} {x = x} others k l h most =
    not-true (elem x p) (sym (k.empties x h) ∙ sym (row_zero empty x) ∙ and_right _ _ (l.hit (omega arith)))

pub kept_free : {n : ℕ} {table : List ℕ} (t : Tabled n table) {held : List Bay} {others : List ℕ} {a : ℕ} {p standing empty out p' standing' empty' out' : List ℕ} {x : ℕ} {m : Tally} → Placed n p standing empty
    → KeepsOne t.yard held others a n p out p' standing' empty' out' x m → Out x p'
kept_free t {held = held} {p = p} {x = x} k o =
    rw o.played.moved (vacate-vacates t.yard held x p o.made k.apart (in_count 0 t.yard.bays x (omega arith) (omega (arith, t.joins.bays, o.low))) o.vacated).empties

pub clears-both : {c : Cleared} {x y : Numbered} → c ≡ record { made = only []; kept = x.0 ∷ y.0 ∷ [] } → {n : ℕ} {p standing empty : List ℕ} (out : List ℕ) → Placed n p standing empty
    → Clears c n p out nothing p standing empty out (Both x y nothing)
clears-both e {n} {p} {standing} {empty} out k = clears-two (ap (λ (c : Cleared). c.kept) e) (rw (ap (λ (c : Cleared). c.made) e) (tallied-none n p standing empty out nothing k))
