-- A carrier that stays at its bay instead of making the trip is in nobody's way: nobody entered that bay, and the bays it went
-- through are the emptier for it. So what a cut leaves is legal and ends at the same placement.
use mathlib.Core.Path.{◌≡◌, refl, sym, ◌∙◌, ap}
use mathlib.Core.Bool.{true, false}
use mathlib.Core.List.{List, [], ◌∷◌}
use mathlib.Core.Option.{none, some}
use Prim.Native.Nat.{ℕ, zero, suc, ◌<◌}
use lib.Dec.{eqb}
use lib.ListN.{length, set, length-set}
use lib.Seq.{set-set, set_comm, set-get_or, lt-length-set, get_or-set_same, get_or-set_other}
use borrow.Author.Tests.{eqb-true, eqb-false}
use Rattle.paper.specs.Basics.{filter}
use Rattle.paper.specs.Yard.{Bay, Carrier, Yard, Placement, Crossing, bay_of, move, after, legal, legal_plan}
use Rattle.paper.proofs.Tests.{by_cases, by-option, some_same, never-some}
use Rattle.paper.proofs.Playing.{legal-facts, legal-of, plan-head, plan-tail, plan-cons, out_of, out-no}
use Rattle.trips.specs.Trips.{enters, is_of, last_return, kept, cut, cuts}

-- what is kept, one crossing at a time
pub kept-own : (c : Carrier) (n : ℕ) (x : Crossing) (xs : List Crossing) → is_of c x ≡ true → kept c (suc n) (x ∷ xs) ≡ kept c n xs
unfolding kept filter
kept-own c n x xs e = rw e

pub kept-other : (c : Carrier) (n : ℕ) (x : Crossing) (xs : List Crossing) → is_of c x ≡ false → kept c (suc n) (x ∷ xs) ≡ x ∷ kept c n xs
unfolding kept filter
kept-other c n x xs e = rw e

pub kept-zero : (c : Carrier) (xs : List Crossing) → kept c 0 xs ≡ xs
unfolding kept filter
kept-zero c xs = refl

pub no_return : {P : Type 0} (c : Carrier) (a : Bay) (n : ℕ) → last_return c a [] ≡ some n → P
unfolding last_return
no_return c a n h = never-some n h

-- every way in which a last return comes about
pub by-return : {P : Type 0} (c : Carrier) (a : Bay) (x : Crossing) (xs : List Crossing) (n : ℕ) → last_return c a (x ∷ xs) ≡ some n
    → (is_of c x ≡ true → enters a x ≡ true → last_return c a xs ≡ none → n ≡ 1 → P)
    → (is_of c x ≡ true → (m : ℕ) → last_return c a xs ≡ some m → n ≡ suc m → P)
    → (is_of c x ≡ false → enters a x ≡ false → (m : ℕ) → last_return c a xs ≡ some m → n ≡ suc m → P)
    → P
unfolding last_return
by-return c a x xs n h final own other =
    by_cases (is_of c x)
    (λ i. by_cases (enters a x)
    (λ e. by-option (last_return c a xs)
    (λ l. final i e l (sym (some_same (rw (e, i, l) at h))))
    (λ m l. own i m l (sym (some_same (rw (e, i, l) at h)))))
    (λ e. by-option (last_return c a xs)
    (λ l. never-some n (rw (e, l) at h))
    (λ m l. own i m l (sym (some_same (rw (e, l) at h))))))
    (λ i. by_cases (enters a x)
    (λ e. never-some n (rw (e, i) at h))
    (λ e. by-option (last_return c a xs)
    (λ l. never-some n (rw (e, l) at h))
    (λ m l. other i e m l (sym (some_same (rw (e, l) at h))))))

module _ (Y : Yard) where
  -- another carrier's legal crossing stays legal while c stands at a, unless it leads there
  stays-legal : (q : Placement) (c : Carrier) (a : Bay) (x : Crossing) → is_of c x ≡ false → enters a x ≡ false → legal Y q x ≡ true
      → legal Y (set q c a) x ≡ true
  stays-legal q c a x i e h =
      let l = legal-facts Y q x h in
      let other : x.carrier ≡ c → ⊥ = eqb-false _ _ i in
      legal-of Y (set q c a) x (record {
        there = lt-length-set q c a l.there;
        stands = get_or-set_other q c x.carrier a 0 other ∙ l.stands;
        rail = l.rail;
        free = out_of (set q c a) x.to
            (λ d k z.
            let k₀ : d < length q = rw length-set at k in
            by_cases (eqb d c)
            (λ s.
            let same = eqb-true d c s in
            let at_a : bay_of (set q c a) c ≡ a = get_or-set_same q c a 0 (rw same at k₀) in
            let reached : x.to ≡ a = sym z ∙ ap (bay_of (set q c a)) same ∙ at_a in
            eqb-false x.to a e reached)
            (λ s. out-no q x.to l.free d k₀ (sym (get_or-set_other q c d a 0 (eqb-false d c s)) ∙ z)));
      })

  -- The crossings after the leaving are played from q, and what is kept of them with c at a throughout.
  pub stays : (c : Carrier) (a : Bay) (q : Placement) (xs : List Crossing) (n : ℕ) → last_return c a xs ≡ some n → legal_plan Y q xs ≡ true
      → (legal_plan Y (set q c a) (kept c n xs) ≡ true) × (after (set q c a) (kept c n xs) ≡ after q xs)
  unfolding after
  stays c a q [] n h k = no_return c a n h
  stays c a q (x ∷ xs) n h k =
      let tail = plan-tail Y q x xs k in
      by-return c a x xs n h
      (λ i e l z.
      let own : x.carrier ≡ c = eqb-true _ _ i in
      let in-a : x.to ≡ a = eqb-true _ _ e in
      let there : move q x ≡ set q c a = rw (own, in-a) in
      let all : kept c n (x ∷ xs) ≡ xs = ap (λ m. kept c m (x ∷ xs)) z ∙ kept-own c 0 x xs i ∙ kept-zero c xs in
      rw (all, ← there) (tail, refl))
      (λ i m l z.
      let own : x.carrier ≡ c = eqb-true _ _ i in
      let again : set (move q x) c a ≡ set q c a = rw (own, set-set) in
      let all : kept c n (x ∷ xs) ≡ kept c m xs = ap (λ m. kept c m (x ∷ xs)) z ∙ kept-own c m x xs i in
      rw (all, ← again) (stays c a (move q x) xs m l tail))
      (λ i e m l z.
      let other : x.carrier ≡ c → ⊥ = eqb-false _ _ i in
      let swapped : move (set q c a) x ≡ set (move q x) c a = set_comm q c x.carrier a x.to (λ s. other (sym s)) in
      let all : kept c n (x ∷ xs) ≡ x ∷ kept c m xs = ap (λ m. kept c m (x ∷ xs)) z ∙ kept-other c m x xs i in
      let ih = stays c a (move q x) xs m l tail in
      rw all (
        plan-cons Y (set q c a) x (kept c m xs) (stays-legal q c a x i e (plan-head Y q x xs k)) (rw swapped ih.0),
        ap (λ p. after p (kept c m xs)) swapped ∙ ih.1,
      ))

  -- a carrier that leaves its bay and makes no trip stands there still
  pub cut-legal : (p : Placement) (xs ys : List Crossing) → cut xs ≡ some ys → legal_plan Y p xs ≡ true
      → (legal_plan Y p ys ≡ true) × (after p ys ≡ after p xs)
  unfolding cut after
  cut-legal p [] ys h k = never-some ys h
  cut-legal p (x ∷ xs) ys h k =
      let l = legal-facts Y p x (plan-head Y p x xs k) in
      let tail = plan-tail Y p x xs k in
      let c = x.carrier in
      by-option (last_return c x.from xs)
      (λ r. by-option (cut xs)
      (λ e. never-some ys (rw (r, e) at h))
      (λ zs e.
      let same : x ∷ zs ≡ ys = some_same (rw (r, e) at h) in
      let ih = cut-legal (move p x) xs zs e tail in
      rw (← same) (plan-cons Y p x zs (plan-head Y p x xs k) ih.0, ih.1)))
      (λ n r.
      let same : kept c n xs ≡ ys = some_same (rw r at h) in
      let home : set (move p x) c x.from ≡ p = set-set p c x.to x.from ∙ ap (set p c) (sym l.stands) ∙ set-get_or p c 0 in
      let s = stays c x.from (move p x) xs n r tail in
      let lawful : legal_plan Y p (kept c n xs) ≡ true = rw home at s.0 in
      let ends : after p (kept c n xs) ≡ after (move p x) xs = ap (λ q. after q (kept c n xs)) (sym home) ∙ s.1 in
      rw (← same) (lawful, ends))

  pub cuts-legal : (k : ℕ) (p : Placement) (xs : List Crossing) → legal_plan Y p xs ≡ true
      → (legal_plan Y p (cuts k xs) ≡ true) × (after p (cuts k xs) ≡ after p xs)
  unfolding cuts
  cuts-legal zero p xs h = (h, refl)
  cuts-legal (suc k) p xs h =
      by-option (cut xs)
      (λ e. rw e (h, refl))
      (λ ys e.
      let one = cut-legal p xs ys e h in
      let more = cuts-legal k p ys one.0 in
      rw e (more.0, more.1 ∙ one.1))
