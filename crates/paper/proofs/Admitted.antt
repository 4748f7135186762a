-- What it means that 1 to 6 were passed, row by row: the sizes fit, each rail joins two bays of the yard, every bay is reached
-- by rails, two bays stay empty, and carriers stand apart.
use Rattle.std.specs.Prelude.{if◌then◌else◌}
use mathlib.Core.Path.{◌≡◌, refl, sym, ◌∙◌, ap}
use mathlib.Core.Bool.{Bool, true, false, not}
use mathlib.Core.List.{List, [], ◌∷◌, ◌++◌}
use mathlib.Core.Logic.{inl, inr, ⊎_elim, ◌↔◌}
use mathlib.Core.Option.{none, some}
use Prim.Native.Nat.{ℕ, zero, suc, ◌<◌, ◌≤◌, ◌+◌, ◌-◌, ◌/◌, ◌%◌}
use native.Mathlib.Omega.{arith}
use lib.Dec.{eqb, leb, ltb}
use lib.ListN.{length}
use borrow.Author.Tests.{not-true, not-false, leb-false, eqb-true, eqb-false, eq-eqb, ltb-false, le-ltb}
use Rattle.paper.specs.Basics.{◌and◌, ◌or◌, any, filter, first_bad, elem, up_to, In, Out, NoDup, when, place_of}
use Rattle.paper.specs.Yard.{Bay, Carrier, Rail, Yard, Placement, fewest_bays, most_bays, most_rails, most_crossings, kept_empty, bay_of, occupied, empty_bays, joined}
use Rattle.paper.specs.Order.{Order}
use Rattle.paper.specs.Path.{Along, Reached, nearest_first}
use Rattle.paper.specs.Docket.{size, rail, apart, crowd, start, goal, rails_of, yard_of, bad_size, bad_rail, apart_bay, bad_place, number, Refusal, no_1, no_2, no_3, no_4, no_5}
use Rattle.paper.specs.Answers.{first_six}
use Rattle.paper.proofs.Tests.{by_cases, not-both, never-some, and_left, and_right, and_both, or_left, or_right, or_cases, or-none, or-neither, none_both, none_from, none-when, either, some-when, some-from}
use Rattle.paper.proofs.Members.{In-nil, In-cases, Out-head, Out-left, Out-right, in_count, nodup-count, nothing-in-nil, find_none, In-head, In-tail, find-exactly}
use Rattle.paper.proofs.Rings.{joined-sym, Walk, here, on, walk-cons, reached-walk}
use Rattle.paper.proofs.Reach.{enough, connected}
use Rattle.paper.proofs.Playing.{Apart, Sound, Good, out_of, place_of-bay, place_of-there}

-- ## 1

-- 1 is not given exactly if the sizes fit.
pub record Sizes (o : Order) (lent : ℕ) : Type 0 where
  pub enough-bays : fewest_bays ≤ o.bays
  pub few_bays : o.bays ≤ most_bays
  pub few-rails : length o.ends / 2 ≤ most_rails
  pub even-ends : eqb (length o.ends % 2) 1 ≡ false
  pub same_length : length o.starts ≡ length o.goals
  pub short-plan : lent ≤ most_crossings

pub sizes-of : (o : Order) (lent : ℕ) → bad_size o lent ≡ false → Sizes o lent
unfolding bad_size
sizes-of o lent h =
    let a = or-none _ _ h in
    let b = or-none _ _ a.0 in
    let c = or-none _ _ b.0 in
    let d = or-none _ _ c.0 in
    let e = or-none _ _ d.0 in
    record {
      enough-bays = ltb-false _ _ e.0;
      few_bays = ltb-false _ _ e.1;
      few-rails = ltb-false _ _ d.1;
      even-ends = c.1;
      same_length = eqb-true _ _ (not-false _ b.1);
      short-plan = ltb-false _ _ a.1;
    }

pub of-sizes : (o : Order) (lent : ℕ) → Sizes o lent → bad_size o lent ≡ false
unfolding bad_size
of-sizes o lent z =
    or-neither _ _
    (or-neither _ _
    (or-neither _ _ (or-neither _ _ (or-neither _ _ (le-ltb _ _ z.enough-bays) (le-ltb _ _ z.few_bays)) (le-ltb _ _ z.few-rails)) z.even-ends)
    (ap not (eq-eqb _ _ z.same_length)))
    (le-ltb _ _ z.short-plan)

-- ## 2

-- each rail joins two bays of the yard
abbrev Rails : ℕ → List Rail → Type 0
Rails n [] = Unit {0}
Rails n (r ∷ rs) = (r.0 < n) × (r.1 < n) × (r.0 ≡ r.1 → ⊥) × Rails n rs

rails-good : (n i : ℕ) (before rs : List Rail) → first_bad (bad_rail n) i before rs ≡ none → Rails n rs
unfolding first_bad bad_rail
rails-good n i before [] h = tt
rails-good n i before (r ∷ rs) h =
    by_cases (leb n r.0 or leb n r.1 or eqb r.0 r.1 or joined (record { bays = n; rails = before }) r.0 r.1)
    (λ e. never-some i (sym (rw e at h)))
    (λ e.
    let a = or-none _ _ e in
    let b = or-none _ _ a.0 in
    let c = or-none _ _ b.0 in
    (leb-false _ _ c.0, leb-false _ _ c.1, eqb-false _ _ b.1, rails-good n (suc i) (before ++ (r ∷ [])) rs (rw e at h)))

module _ (a b : Bay) where
  -- the rail joins a and b
  abbrev joins : Rail → Bool
  joins r = (eqb a r.0 and eqb b r.1) or (eqb a r.1 and eqb b r.0)

  joined-good : (n : ℕ) (rs : List Rail) → Rails n rs → any joins rs ≡ true → (b < n) × (a ≡ b → ⊥)
  unfolding any
  joined-good n [] g h = not-both h refl
  joined-good n (r ∷ rs) g h =
      by_cases (joins r)
      (λ e. or_cases _ _ e
      (λ k.
      let x = eqb-true _ _ (and_left _ _ k) in
      let y = eqb-true _ _ (and_right _ _ k) in
      (rw y g.1, λ q. g.2 (sym x ∙ q ∙ y)))
      (λ k.
      let x = eqb-true _ _ (and_left _ _ k) in
      let y = eqb-true _ _ (and_right _ _ k) in
      (rw y g.0, λ q. g.2 (sym y ∙ sym q ∙ x))))
      (λ e. joined-good n rs g.3 (rw e at h))

-- Past 2 a rail leads to another bay of the yard.
pub sound-of : (o : Order) → first_bad (bad_rail o.bays) 0 [] (rails_of o.ends) ≡ none → Sound (yard_of o)
unfolding joined
sound-of o h =
    let n = o.bays in
    let rs = rails_of o.ends in
    let g = rails-good n 0 [] rs h in
    record {
      inside = λ a b j. in_count 0 n b (omega arith) (let k = (joined-good a b n rs g j).0 in omega arith);
      no_loop = λ a j. (joined-good a a n rs g j).1 refl;
    }

-- ## 3

-- the rail is one of these
abbrev among : List Rail → Rail → Bool
among rs r = any (λ s. eqb s.0 r.0 and eqb s.1 r.1) rs

-- a rail that passes a test
some-rail : (q : Rail → Bool) (rs : List Rail) → any q rs ≡ true → (r : Rail) × (among rs r ≡ true) × (q r ≡ true)
unfolding any
some-rail q [] h = not-both h refl
some-rail q (r ∷ rs) h =
    by_cases (q r)
    (λ e. (r, rw (and_both _ _ (eq-eqb r.0 r.0 refl) (eq-eqb r.1 r.1 refl)), e))
    (λ e.
    let t = some-rail q rs (rw e at h) in
    (t.0, by_cases (eqb r.0 t.0.0 and eqb r.1 t.0.1) (λ k. rw k) (λ k. rw k t.1), t.2))

-- a rail of the list that passes is why some rail passes
of-rail : (q : Rail → Bool) → ((r s : Rail) → r.0 ≡ s.0 → r.1 ≡ s.1 → q s ≡ true → q r ≡ true) → (rs : List Rail) (r : Rail)
    → among rs r ≡ true → q r ≡ true → any q rs ≡ true
unfolding any
of-rail q same [] r i h = not-both i refl
of-rail q same (s ∷ rs) r i h =
    by_cases (q s)
    (λ e. rw e)
    (λ e. by_cases (eqb s.0 r.0 and eqb s.1 r.1)
    (λ k. not-both (same s r (eqb-true _ _ (and_left _ _ k)) (eqb-true _ _ (and_right _ _ k)) h) e)
    (λ k. rw e (of-rail q same rs r (rw k at i) h)))

module _ (Y : Yard) where
  -- what a rail of the yard joins
  rail-joins : (r : Rail) → among Y.rails r ≡ true → joined Y r.0 r.1 ≡ true
  unfolding joined
  rail-joins r i =
      of-rail (joins r.0 r.1)
      (λ s t p q h. or_cases _ _ h
      (λ k. or_left _ _ (and_both _ _ (eq-eqb _ _ (eqb-true _ _ (and_left _ _ k) ∙ sym p)) (eq-eqb _ _ (eqb-true _ _ (and_right _ _ k) ∙ sym q))))
      (λ k. or_right _ _ (and_both _ _ (eq-eqb _ _ (eqb-true _ _ (and_left _ _ k) ∙ sym q)) (eq-eqb _ _ (eqb-true _ _ (and_right _ _ k) ∙ sym p)))))
      Y.rails r i
      (or_left _ _ (and_both _ _ (eq-eqb r.0 r.0 refl) (eq-eqb r.1 r.1 refl)))

  -- one rail more
  along-more : (a : Bay) (rs : List Rail) (w v : Bay) → Along Y a rs w → joined Y w v ≡ true → (qs : List Rail) × Along Y a qs v
  unfolding joined
  along-more a [] w v h j =
      let t = some-rail (joins w v) Y.rails j in
      let r = t.0 in (
        r ∷ [],
        (
          t.1,
          or_cases _ _ t.2
              (λ k. inl (h ∙ eqb-true _ _ (and_left _ _ k), sym (eqb-true _ _ (and_right _ _ k))))
              (λ k. inr (h ∙ eqb-true _ _ (and_left _ _ k), sym (eqb-true _ _ (and_right _ _ k)))),
        ),
      )
  along-more a (r ∷ rs) w v h j =
      ⊎_elim
      (λ k. let t = along-more r.1 rs w v k.1 j in (r ∷ t.0, (h.0, inl (k.0, t.1))))
      (λ k. let t = along-more r.0 rs w v k.1 j in (r ∷ t.0, (h.0, inr (k.0, t.1))))
      h.1

  walk-along : {a b : Bay} {d : ℕ} → Walk Y [] a d b → (rs : List Rail) × Along Y a rs b
  walk-along here = ([], refl)
  walk-along (on w j f) = let t = walk-along w in along-more _ t.0 _ _ t.1 j

  module _ (sound : Sound Y) where
    along-walk : (a : Bay) (rs : List Rail) (b : Bay) → Along Y a rs b → (d : ℕ) × Walk Y [] a d b
    along-walk a [] b h = (0, rw h here)
    along-walk a (r ∷ rs) b h =
        let j = rail-joins r h.0 in
        ⊎_elim
        (λ k.
        let t = along-walk r.1 rs b k.1 in
        (suc t.0, rw k.0 (walk-cons Y [] j (sound.inside r.0 r.1 j, nothing-in-nil r.1) t.1)))
        (λ k.
        let t = along-walk r.0 rs b k.1 in
        let j' = joined-sym Y r.0 r.1 j in
        (suc t.0, rw k.0 (walk-cons Y [] j' (sound.inside r.1 r.0 j', nothing-in-nil r.0) t.1)))
        h.1

    module _ (some_bay : 0 < Y.bays) where
      -- what the rings around bay 0 hold is exactly what some list of rails leads to
      pub reached-exactly : (b : Bay) → In b (nearest_first Y [] 0) ↔ Reached Y b
      reached-exactly b = (
        λ i. walk-along (reached-walk Y [] 0 b i).2,
        λ r. let t = along-walk 0 r.0 b r.1 in
            enough Y [] 0 (in_count 0 Y.bays 0 (omega arith) (omega arith), nothing-in-nil 0) t.1,
      )

      abbrev unreached : Bay → Bool
      unreached b = not (elem b (nearest_first Y [] 0))

      -- 3 carries b exactly if b is the lowest bay that no list of rails leads to from bay 0.
      pub apart-exactly : (b : Bay)
          → (apart_bay Y ≡ some b) ↔ ((b < Y.bays) × (Reached Y b → ⊥) × ((a : Bay) → a < b → Reached Y a))
      unfolding apart_bay
      apart-exactly b = (
        λ h.
            let f = (find-exactly unreached Y.bays b).0 h in
            (f.0, λ r. not-both ((reached-exactly b).1 r) (not-true _ f.1), λ a l. (reached-exactly a).0 (not-false _ (f.2 a l))),
        λ k. (find-exactly unreached Y.bays b).1 (
          k.0,
          by_cases (unreached b) (λ e. e) (λ e. absurd (k.1 ((reached-exactly b).0 (not-false _ e)))),
          λ a l. ap not ((reached-exactly a).1 (k.2 a l)),
        ),
      )

reached-of : (Y : Yard) → apart_bay Y ≡ none → (b : Bay) → In b (up_to Y.bays) → In b (nearest_first Y [] 0)
unfolding apart_bay
reached-of Y h b i = not-false _ (find_none (λ a. not (elem a (nearest_first Y [] 0))) (up_to Y.bays) b h i)

-- Past 3 every bay is reached from every other.
pub all-reached : (Y : Yard) → apart_bay Y ≡ none → (a b : Bay) → In a (up_to Y.bays) → In b (up_to Y.bays) → In a (nearest_first Y [] b)
all-reached Y h = connected Y (reached-of Y h)

-- ## 5 and 6

-- bays of the yard, none used before and none twice
record Places (n : ℕ) (used : List Bay) (p : Placement) : Type 0 where
  inside : (c : Carrier) → c < length p → bay_of p c < n
  fresh : (c : Carrier) → c < length p → Out (bay_of p c) used
  distinct : Apart p
  once : NoDup p

apart_cons : (b : Bay) (p : Placement) → Apart p → ((i : Carrier) → i < length p → bay_of p i ≡ b → ⊥) → Apart (b ∷ p)
apart_cons b p a n zero zero hi hj e = refl
apart_cons b p a n zero (suc j) hi hj e = absurd (n j (omega arith) (sym e))
apart_cons b p a n (suc i) zero hi hj e = absurd (n i (omega arith) e)
apart_cons b p a n (suc i) (suc j) hi hj e = ap suc (a i j (omega arith) (omega arith) e)

places-good : (n c : ℕ) (used : List Bay) (p : Placement) → first_bad (bad_place n) c used p ≡ none → Places n used p
unfolding first_bad bad_place
places-good n c used [] h = record {
  inside = λ i k. absurd (omega arith);
  fresh = λ i k. absurd (omega arith);
  distinct = λ i j k. absurd (omega arith);
  once = tt;
}
places-good n c used (b ∷ p) h =
    by_cases (leb n b or elem b used)
    (λ e. never-some c (sym (rw e at h)))
    (λ e.
    let o = or-none _ _ e in
    let ih = places-good n (suc c) (used ++ (b ∷ [])) p (rw e at h) in
    let other : (i : Carrier) → i < length p → bay_of p i ≡ b → ⊥ =
    λ i k q. Out-head (bay_of p i) b [] (Out-right (bay_of p i) used (b ∷ []) (ih.fresh i k)) q in
    record {
      inside = λ i. elim i as (λ i. i < length (b ∷ p) → bay_of (b ∷ p) i < n) [ zero ↦ λ k. leb-false _ _ o.0 | suc j ↦ λ k. ih.inside j (omega arith) ];
      fresh = λ i. elim i as (λ i. i < length (b ∷ p) → elem (bay_of (b ∷ p) i) used ≡ false) [ zero ↦ λ k. o.1 | suc j ↦ λ k. Out-left (bay_of p j) used (b ∷ []) (ih.fresh j (omega arith)) ];
      distinct = apart_cons b p ih.distinct other;
      once = (out_of p b other, ih.once);
    })

-- Past 5 carriers stand apart, at bays of the yard; past 6 so do their goals.
pub good_of : (o : Order) (p : Placement) → first_bad (bad_place o.bays) 0 [] p ≡ none → Good (yard_of o) p
good_of o p h =
    let n = o.bays in
    let g = places-good n 0 [] p h in
    record { apart = g.distinct; inside = λ c k. in_count 0 n (bay_of p c) (omega arith) (let l = g.inside c k in omega arith) }

-- ## Empty bays

module _ (q : ℕ → Bool) where
  pub same-filter : (q' : ℕ → Bool) (xs : List ℕ) → ((x : ℕ) → In x xs → q' x ≡ q x) → filter q' xs ≡ filter q xs
  unfolding filter
  same-filter q' [] f = refl
  same-filter q' (x ∷ xs) f =
      rw (f x (In-head x xs), same-filter q' xs (λ y i. f y (In-tail y x xs i)))

  -- one number more passes
  filter_more : (b : ℕ) (xs : List ℕ) → NoDup xs → In b xs → q b ≡ false
      → length (filter (λ x. if eqb x b then true else q x) xs) ≡ suc (length (filter q xs))
  unfolding filter
  filter_more b [] n i h = In-nil b i
  filter_more b (x ∷ xs) n i h =
      by_cases (eqb x b)
      (λ e.
      let z : x ≡ b = eqb-true x b e in
      let same = same-filter (λ y. if eqb y b then true else q y) xs
      (λ y k. by_cases (eqb y b) (λ d. not-both (rw (eqb-true y b d ∙ sym z) at k) n.0) (λ d. rw d)) in
      rw (e, z, h, same))
      (λ e.
      let ih = filter_more b xs n.1 (In-cases b x xs i (λ z. not-both (eq-eqb x b (sym z)) e) (λ k. k)) h in
      by_cases (q x) (λ d. rw (e, d) (ap suc ih)) (λ d. rw (e, d) ih))

pub filter-nothing : (xs : List ℕ) → filter (λ x. elem x []) xs ≡ []
unfolding filter elem
filter-nothing [] = refl
filter-nothing (x ∷ xs) = filter-nothing xs

occupied-count : (n : ℕ) (p : Placement) → NoDup p → ((b : Bay) → In b p → b < n) → length (occupied n p) ≡ length p
unfolding occupied elem
occupied-count n [] d f = ap length (filter-nothing (up_to n))
occupied-count n (b ∷ p) d f =
    filter_more (λ x. elem x p) b (up_to n) (nodup-count 0 n) (in_count 0 n b (omega arith) (let l = f b (In-head b p) in omega arith)) d.0
    ∙ ap suc (occupied-count n p d.1 (λ x i. f x (In-tail x b p i)))

-- "The number of empty bays [..], once 5 has passed; it is then n − k."
pub empty-bays : (n : ℕ) (p : Placement) → first_bad (bad_place n) 0 [] p ≡ none → empty_bays n p ≡ n - length p
empty-bays n p h =
    let g = places-good n 0 [] p h in
    ap (λ k. n - k)
    (occupied-count n p g.once
    (λ b i. rw (place_of-bay p b i) at (g.inside (place_of b p) (place_of-there p b i))))

-- ## 1 to 6

pub record Clean (o : Order) (lent : ℕ) : Type 0 where
  pub sizes : Sizes o lent
  pub rails : first_bad (bad_rail o.bays) 0 [] (rails_of o.ends) ≡ none
  pub reached : apart_bay (yard_of o) ≡ none
  pub uncrowded : length o.starts + kept_empty ≤ o.bays
  pub starts : first_bad (bad_place o.bays) 0 [] o.starts ≡ none
  pub goals : first_bad (bad_place o.bays) 0 [] o.goals ≡ none

-- None of 1 to 6 is given exactly if all of this holds.
pub clean_of : (o : Order) (lent : ℕ) → first_six o lent ≡ none → Clean o lent
unfolding first_six
clean_of o lent h =
    let r1 = none_both _ _ h in
    let r2 = none_both _ _ r1.1 in
    let r3 = none_both _ _ r2.1 in
    let r4 = none_both (when (ltb o.bays (length o.starts + kept_empty)) crowd) _ r3.1 in
    let r5 = none_both _ _ r4.1 in
    record {
      sizes = sizes-of o lent (none-when (bad_size o lent) size r1.0);
      rails = none_from rail (first_bad (bad_rail o.bays) 0 [] (rails_of o.ends)) r2.0;
      reached = none_from apart (apart_bay (yard_of o)) r3.0;
      uncrowded = ltb-false _ _ (none-when (ltb o.bays (length o.starts + kept_empty)) crowd r4.0);
      starts = none_from start (first_bad (bad_place o.bays) 0 [] o.starts) r5.0;
      goals = none_from goal (first_bad (bad_place o.bays) 0 [] o.goals) r5.1;
    }

pub of-clean : (o : Order) (lent : ℕ) → Clean o lent → first_six o lent ≡ none
unfolding first_six
of-clean o lent c =
    rw (of-sizes o lent c.sizes, c.rails, c.reached, le-ltb o.bays (length o.starts + kept_empty) c.uncrowded, c.starts, c.goals)

-- the first six are what they are called
pub six-number : (o : Order) (lent : ℕ) (r : Refusal) → first_six o lent ≡ some r → number r ≤ 6
unfolding first_six
six-number o lent r h =
    either (no_1 o lent) _ h (λ a. let e = some-when (bad_size o lent) size a in rw (← e.1) (omega arith)) (λ _ h2.
    either (no_2 o) _ h2 (λ a. let e = some-from rail (first_bad (bad_rail o.bays) 0 [] (rails_of o.ends)) a in rw (← e.2) (omega arith)) (λ _ h3.
    either (no_3 o) _ h3 (λ a. let e = some-from apart (apart_bay (yard_of o)) a in rw (← e.2) (omega arith)) (λ _ h4.
    either (no_4 o) _ h4 (λ a. let e = some-when (ltb o.bays (length o.starts + kept_empty)) crowd a in rw (← e.1) (omega arith)) (λ _ h5.
    either (no_5 o) _ h5
    (λ a. let e = some-from start (first_bad (bad_place o.bays) 0 [] o.starts) a in rw (← e.2) (omega arith))
    (λ _ a. let e = some-from goal (first_bad (bad_place o.bays) 0 [] o.goals) a in rw (← e.2) (omega arith))))))
