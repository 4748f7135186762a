-- Marks are in order exactly if no done crossing comes behind an undone one it depends on; one pass that remembers what undone
-- crossings have touched finds that, since whatever touches a bay depends on all that touched it before.
use mathlib.Core.Path.{◌≡◌, refl, sym, ap, fun_ext}
use mathlib.Core.Bool.{Bool, true, false, not}
use mathlib.Core.List.{List, [], ◌∷◌}
use Prim.Native.Nat.{ℕ, zero, suc, ◌<◌}
use native.Mathlib.Omega.{arith}
use lib.Dec.{eqb}
use lib.ListN.{length, get_or, set, length-set, replicate}
use lib.Seq.{get_or-set_same, get_or-set_other}
use borrow.Author.Tests.{not-true, eqb-true, eqb-false, ne_eqb}
use Rattle.paper.specs.Basics.{◌and◌, ◌or◌, up_to}
use Rattle.paper.specs.Yard.{Crossing, named}
use Rattle.paper.specs.Dependence.{depend, done, is_done, out_of_order, done_of}
use Rattle.paper.specs.OnePass.{put, order_pass}
use Rattle.paper.proofs.Tests.{by_cases, not-both, and_left, and_right, and_both, or-none, or-neither}
use Rattle.paper.proofs.Members.{any_some, any_of, in_count, count-high}
use Rattle.paper.proofs.Commuting.{Indep, indep-of, of-indep, indep-sym, AllIndep, Closed}

-- Every crossing that is done has each earlier one that it depends on done.
abbrev pub InOrder : List Crossing → List ℕ → Type 0
InOrder xs ms =
    (e i : ℕ) → e < i → i < length xs → depend (named xs i) (named xs e) ≡ true → is_done ms i ≡ true → is_done ms e ≡ true

pub in_order : (xs : List Crossing) (ms : List ℕ) → out_of_order xs ms ≡ false → InOrder xs ms
unfolding out_of_order
in_order xs ms h e i l k d q =
    by_cases (is_done ms e) (λ z. z)
    (λ z. not-both
    (any_of _ (up_to (length xs)) i (in_count 0 (length xs) i (omega arith) (omega arith))
    (and_both _ _ q (any_of (λ a. depend (named xs i) (named xs a) and not (is_done ms a)) (up_to i) e (in_count 0 i e (omega arith) (omega arith)) (and_both _ _ d (ap not z)))))
    h)

pub order-in : (xs : List Crossing) (ms : List ℕ) → InOrder xs ms → out_of_order xs ms ≡ false
unfolding out_of_order
order-in xs ms f =
    by_cases (out_of_order xs ms)
    (λ h.
    let a = any_some _ (up_to (length xs)) h in
    let i = a.0 in
    let b = any_some _ (up_to i) (and_right _ _ a.2) in
    let e = b.0 in
    let l : e < i = let z = count-high 0 i e b.1 in omega arith in
    let k : i < length xs = let z = count-high 0 (length xs) i a.1 in omega arith in
    not-both (f e i l k (and_left _ _ b.2) (and_left _ _ a.2)) (not-true _ (and_right _ _ b.2)))
    (λ h. h)

module _ (x : Crossing) where
  all-indep : (xs : List Crossing) (ms : List ℕ) → ((i : ℕ) → i < length xs → is_done ms i ≡ true → Indep x (named xs i)) → AllIndep x (done_of xs ms)
  unfolding done_of
  all-indep [] ms f = tt
  all-indep (y ∷ xs) [] f = tt
  all-indep (y ∷ xs) (m ∷ ms) f =
      let ih = all-indep xs ms (λ i h d. f (suc i) (omega arith) d) in
      by_cases (done m) (λ e. rw e (f 0 (omega arith) e, ih)) (λ e. rw e ih)

  pub indep-at : (xs : List Crossing) (ms : List ℕ) (i : ℕ) → AllIndep x (done_of xs ms) → i < length xs → is_done ms i ≡ true → Indep x (named xs i)
  unfolding done_of
  indep-at [] ms i a h d = absurd (omega arith)
  indep-at (y ∷ xs) [] i a h d = not-both d refl
  indep-at (y ∷ xs) (m ∷ ms) zero a h d = (rw d at a).0
  indep-at (y ∷ xs) (m ∷ ms) (suc i) a h d =
      by_cases (done m) (λ e. let b = rw e at a in indep-at xs ms i b.1 (omega arith) d) (λ e. indep-at xs ms i (rw e at a) (omega arith) d)

pub closed_of : (xs : List Crossing) (ms : List ℕ) → InOrder xs ms → Closed xs ms
closed_of [] ms f = tt
closed_of (x ∷ xs) [] f = tt
closed_of (x ∷ xs) (m ∷ ms) f = (
  λ u. all-indep x xs ms
      (λ i h d. by_cases (depend (named xs i) x)
      (λ e. not-both (f 0 (suc i) (omega arith) (omega arith) e d) u)
      (λ e. indep-sym _ _ (indep-of _ _ e))),
  closed_of xs ms (λ e i l h d q. f (suc e) (suc i) (omega arith) (omega arith) d q),
)

pub of-closed : (xs : List Crossing) (ms : List ℕ) → Closed xs ms → InOrder xs ms
of-closed [] ms c e i l h d q = absurd (omega arith)
of-closed (x ∷ xs) [] c e i l h d q = not-both q refl
of-closed (x ∷ xs) (m ∷ ms) c e zero l h d q = absurd (omega arith)
of-closed (x ∷ xs) (m ∷ ms) c zero (suc i) l h d q =
    by_cases (done m) (λ z. z)
    (λ z. not-both d (of-indep _ _ (indep-sym _ _ (indep-at x xs ms i (c.0 z) (omega arith) q))))
of-closed (x ∷ xs) (m ∷ ms) c (suc e) (suc i) l h d q = of-closed xs ms c.1 e i (omega arith) (omega arith) d q

-- untouched: neither the carrier nor a bay is in the tables
abbrev Clear : (ℕ → Bool) → (ℕ → Bool) → Crossing → Type 0
Clear tc tb y = (tc y.carrier ≡ false) × (tb y.from ≡ false) × (tb y.to ≡ false)

abbrev AllClear : (ℕ → Bool) → (ℕ → Bool) → List Crossing → Type 0
AllClear tc tb [] = Unit {0}
AllClear tc tb (y ∷ ys) = Clear tc tb y × AllClear tc tb ys

put-false : (t : ℕ → Bool) (i j : ℕ) → put t i true j ≡ false → (t j ≡ false) × (i ≡ j → ⊥)
unfolding put
put-false t i j h =
    by_cases (eqb j i) (λ e. not-both refl (rw e at h)) (λ e. (rw e at h, λ q. eqb-false j i e (sym q)))

false-put : (t : ℕ → Bool) (i j : ℕ) → t j ≡ false → (i ≡ j → ⊥) → put t i true j ≡ false
unfolding put
false-put t i j h n = rw (ne_eqb j i (λ q. n (sym q))) h

module _ (tc tb : ℕ → Bool) (x : Crossing) where
  abbrev tc' : ℕ → Bool
  tc' = put tc x.carrier true

  abbrev tb' : ℕ → Bool
  tb' = put (put tb x.from true) x.to true

  clear-split : (ys : List Crossing) → AllClear tc' tb' ys → AllClear tc tb ys × AllIndep x ys
  clear-split [] a = (tt, tt)
  clear-split (y ∷ ys) a =
      let c = put-false tc _ _ a.0.0 in
      let f = put-false _ _ _ a.0.1 in
      let f' = put-false tb _ _ f.0 in
      let t = put-false _ _ _ a.0.2 in
      let t' = put-false tb _ _ t.0 in
      let ih = clear-split ys a.1 in
      (((c.0, f'.0, t'.0), ih.0), (record { carriers = c.1; from_from = f'.1; from_to = t'.1; to_from = f.1; to_to = t.1 }, ih.1))

  clear-join : (ys : List Crossing) → AllClear tc tb ys → AllIndep x ys → AllClear tc' tb' ys
  clear-join [] a b = tt
  clear-join (y ∷ ys) a b =
      let i = b.0 in (
        (
          false-put tc _ _ a.0.0 i.carriers,
          false-put _ _ _ (false-put tb _ _ a.0.1 i.from_from) i.to_from,
          false-put _ _ _ (false-put tb _ _ a.0.2 i.from_to) i.to_to,
        ),
        clear-join ys a.1 b.1,
      )

pass-clear : (tc tb : ℕ → Bool) (xs : List Crossing) (ms : List ℕ) → order_pass tc tb xs ms ≡ false → AllClear tc tb (done_of xs ms) × Closed xs ms
unfolding order_pass done_of
pass-clear tc tb [] ms h = (tt, tt)
pass-clear tc tb (x ∷ xs) [] h = (tt, tt)
pass-clear tc tb (x ∷ xs) (m ∷ ms) h =
    by_cases (done m)
    (λ e.
    let a = or-none _ _ (rw e at h) in
    let b = or-none _ _ a.0 in
    let c = or-none _ _ b.0 in
    let ih = pass-clear tc tb xs ms a.1 in
    (rw e ((c.0, c.1, b.1), ih.0), (λ u. not-both e u, ih.1)))
    (λ e.
    let ih = pass-clear (tc' tc tb x) (tb' tc tb x) xs ms (rw e at h) in
    let s = clear-split tc tb x (done_of xs ms) ih.0 in
    (rw e s.0, (λ u. s.1, ih.1)))

clear-pass : (tc tb : ℕ → Bool) (xs : List Crossing) (ms : List ℕ) → AllClear tc tb (done_of xs ms) → Closed xs ms → order_pass tc tb xs ms ≡ false
unfolding order_pass done_of
clear-pass tc tb [] ms a c = refl
clear-pass tc tb (x ∷ xs) [] a c = refl
clear-pass tc tb (x ∷ xs) (m ∷ ms) a c =
    by_cases (done m)
    (λ e. let b = rw e at a in rw e (or-neither _ _ (or-neither _ _ (or-neither _ _ b.0.0 b.0.1) b.0.2) (clear-pass tc tb xs ms b.1 c.1)))
    (λ e. rw e (clear-pass (tc' tc tb x) (tb' tc tb x) xs ms (clear-join tc tb x (done_of xs ms) (rw e at a) (c.0 e)) c.1))

none-touched : (ys : List Crossing) → AllClear (λ c. false) (λ b. false) ys
none-touched [] = tt
none-touched (y ∷ ys) = ((refl, refl, refl), none-touched ys)

same_false : (a b : Bool) → (a ≡ false → b ≡ false) → (b ≡ false → a ≡ false) → a ≡ b
same_false true true f g = refl
same_false true false f g = g refl
same_false false b f g = sym (f refl)

-- One pass tells whether the marks are out of order, for any plan and marks.
pub order-pass : (xs : List Crossing) (ms : List ℕ) → out_of_order xs ms ≡ order_pass (λ c. false) (λ b. false) xs ms
order-pass xs ms =
    same_false _ _
    (λ h. clear-pass _ _ xs ms (none-touched (done_of xs ms)) (closed_of xs ms (in_order xs ms h)))
    (λ h. order-in xs ms (of-closed xs ms (pass-clear _ _ xs ms h).1))

-- The tables as lists of 0 and 1, as code may hold them.
abbrev pub flag : List ℕ → ℕ → Bool
flag l j = eqb (get_or l j 0) 1

pub put-flag : (l : List ℕ) (i : ℕ) → i < length l → put (flag l) i true ≡ flag (set l i 1)
unfolding put
put-flag l i h =
    fun_ext (λ j. by_cases (eqb j i)
    (λ e. rw e (rw (eqb-true j i e) (sym (ap done (get_or-set_same l i 1 0 h)))))
    (λ e. rw e (sym (ap done (get_or-set_other l i j 1 0 (eqb-false j i e))))))

-- a step of the loop at an undone crossing
pub order-step : (cs bs : List ℕ) (x : Crossing) (xs : List Crossing) (m : ℕ) (ms : List ℕ) → x.carrier < length cs → x.from < length bs → x.to < length bs
    → done m ≡ false
    → order_pass (flag cs) (flag bs) (x ∷ xs) (m ∷ ms) ≡ order_pass (flag (set cs x.carrier 1)) (flag (set (set bs x.from 1) x.to 1)) xs ms
unfolding order_pass
order-step cs bs x xs m ms hc hf ht u =
    rw u (rw (put-flag cs x.carrier hc, put-flag bs x.from hf, put-flag (set bs x.from 1) x.to (rw length-set ht)))

-- at a done crossing
pub order-done : (tc tb : ℕ → Bool) (x : Crossing) (xs : List Crossing) (m : ℕ) (ms : List ℕ) → done m ≡ true
    → order_pass tc tb (x ∷ xs) (m ∷ ms) ≡ (tc x.carrier or tb x.from or tb x.to) or order_pass tc tb xs ms
unfolding order_pass
order-done tc tb x xs m ms e = rw e

-- the start of the loop: tables of zeros
flag-zeros : (k : ℕ) → ◌≡◌ {A = ℕ → Bool} (flag (replicate k 0)) (λ j. false)
flag-zeros k = fun_ext (go k)
  where
    go : (k j : ℕ) → flag (replicate k 0) j ≡ false
    go zero j = refl
    go (suc k) zero = refl
    go (suc k) (suc j) = go k j

pub order-start : (k n : ℕ) (xs : List Crossing) (ms : List ℕ) → out_of_order xs ms ≡ order_pass (flag (replicate k 0)) (flag (replicate n 0)) xs ms
order-start k n xs ms = rw (flag-zeros k, flag-zeros n) (order-pass xs ms)
