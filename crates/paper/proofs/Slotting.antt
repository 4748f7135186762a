-- The slots rise strictly along dependence and are the lowest that do: each is one more than the highest it must exceed. One
-- pass with the last slot of each carrier and bay finds them, since slots at a bay only rise.
use Rattle.std.specs.Prelude.{if◌then◌else◌}
use mathlib.Core.Path.{◌≡◌, refl, sym, ◌∙◌, ap, ap₂, fun_ext}
use mathlib.Core.Bool.{Bool, true, false}
use mathlib.Core.Option.{none}
use mathlib.Core.List.{List, [], ◌∷◌, ◌++◌, append-nil, append_assoc}
use Prim.Native.Nat.{ℕ, zero, suc, ◌<◌, ◌≤◌, ◌-◌, max}
use native.Mathlib.Omega.{arith}
use lib.Dec.{eqb}
use lib.ListN.{length, get_or, set, take, drop, replicate, length-map, length-append, length-set}
use lib.Seq.{take_at, drop_at, length-take-le, get_or-take, get_or-set_same, get_or-set_other}
use borrow.Author.Tests.{eqb-true, eqb-false}
use Rattle.paper.specs.Basics.{◌or◌}
use Rattle.paper.specs.Yard.{Crossing, unpack, crossings, named}
use Rattle.paper.specs.Order.{Order}
use Rattle.paper.specs.Dependence.{depend, highest, slots_after, slots}
use Rattle.paper.specs.Answers.{slots_refusal, slots_end}
use Rattle.paper.specs.OnePass.{put, slots_pass}
pub use Rattle.paper.specs.Dependence.{Numbering}
use Rattle.paper.proofs.Tests.{by_cases}

highest-above : (x : Crossing) (es : List Crossing) (ss : List ℕ) (e : ℕ) → e < length es → e < length ss
    → depend x (named es e) ≡ true → get_or ss e 0 ≤ highest x es ss
unfolding highest
highest-above x [] ss e h k d = absurd (omega arith)
highest-above x (y ∷ es) [] e h k d = absurd (omega arith)
highest-above x (y ∷ es) (s ∷ ss) zero h k d = rw d (omega arith)
highest-above x (y ∷ es) (s ∷ ss) (suc e) h k d =
    let ih = highest-above x es ss e (omega arith) (omega arith) d in
    by_cases (depend x y) (λ q. rw q (omega arith)) (λ q. rw q ih)

highest-below : (x : Crossing) (es : List Crossing) (ss : List ℕ) (b : ℕ)
    → ((e : ℕ) → e < length es → e < length ss → depend x (named es e) ≡ true → get_or ss e 0 ≤ b) → highest x es ss ≤ b
unfolding highest
highest-below x [] ss b f = omega arith
highest-below x (y ∷ es) [] b f = omega arith
highest-below x (y ∷ es) (s ∷ ss) b f =
    let ih = highest-below x es ss b (λ e h k d. f (suc e) (omega arith) (omega arith) d) in
    by_cases (depend x y) (λ q. rw q (let l = f 0 (omega arith) (omega arith) q in omega arith)) (λ q. rw q ih)

after-length : (earlier : List Crossing) (given : List ℕ) (xs : List Crossing) → length (slots_after earlier given xs) ≡ length xs
unfolding slots_after
after-length earlier given [] = refl
after-length earlier given (x ∷ xs) = ap suc (after-length (earlier ++ (x ∷ [])) (given ++ (suc (highest x earlier given) ∷ [])) xs)

after-at : (earlier : List Crossing) (given : List ℕ) (xs : List Crossing) (i : ℕ) → i < length xs
    → get_or (slots_after earlier given xs) i 0 ≡ suc (highest (named xs i) (earlier ++ take i xs) (given ++ take i (slots_after earlier given xs)))
unfolding slots_after
after-at earlier given [] i h = absurd (omega arith)
after-at earlier given (x ∷ xs) zero h = rw (append-nil earlier, append-nil given)
after-at earlier given (x ∷ xs) (suc i) h =
    let s = suc (highest x earlier given) in
    let ih = after-at (earlier ++ (x ∷ [])) (given ++ (s ∷ [])) xs i (omega arith) in
    rw (append_assoc earlier (x ∷ []), append_assoc given (s ∷ [])) at ih

pub slots_length : (xs : List Crossing) → length (slots xs) ≡ length xs
unfolding slots
slots_length xs = after-length [] [] xs

-- A crossing's slot is one more than the highest slot among the earlier ones that it depends on (0 if there is none).
pub slot_at : (xs : List Crossing) (i : ℕ) → i < length xs
    → get_or (slots xs) i 0 ≡ suc (highest (named xs i) (take i xs) (take i (slots xs)))
unfolding slots
slot_at xs i h = after-at [] [] xs i h

-- The slots are a numbering from 1 that rises strictly along dependence,
pub slots-rise : (xs : List Crossing) → Numbering xs (λ i. get_or (slots xs) i 0)
slots-rise xs = record {
  from_one = λ i h. let s = slot_at xs i h in omega arith;
  rises = λ e i k h d.
      let s = slot_at xs i h in
      let n : length (take i xs) ≡ i = length-take-le i xs (omega arith) in
      let m : length (take i (slots xs)) ≡ i = length-take-le i (slots xs) (rw slots_length (omega arith)) in
      let a = highest-above (named xs i) (take i xs) (take i (slots xs)) e (omega arith) (omega arith) (rw get_or-take d) in
      let b : get_or (take i (slots xs)) e 0 ≡ get_or (slots xs) e 0 = rw get_or-take in
      omega arith;
}

-- and no numbering gives any crossing a lower slot.
lowest-below : (xs : List Crossing) (t : ℕ → ℕ) → Numbering xs t → (k i : ℕ) → i < k → i < length xs → get_or (slots xs) i 0 ≤ t i
lowest-below xs t n zero i l h = absurd (omega arith)
lowest-below xs t n (suc k) i l h =
    let s = slot_at xs i h in
    let a : 1 ≤ t i = n.from_one i h in
    let len : length (take i xs) ≡ i = length-take-le i xs (omega arith) in
    let b : highest (named xs i) (take i xs) (take i (slots xs)) ≤ t i - 1 =
    highest-below (named xs i) (take i xs) (take i (slots xs)) (t i - 1)
    (λ e p q d.
    let m : e < i = omega arith in
    let r : t e < t i = n.rises e i m h (rw get_or-take at d) in
    let ih : get_or (slots xs) e 0 ≤ t e = lowest-below xs t n k e (omega arith) (omega arith) in
    rw get_or-take (omega arith)) in
    omega arith

pub slots-lowest : (xs : List Crossing) (t : ℕ → ℕ) → Numbering xs t → (i : ℕ) → i < length xs → get_or (slots xs) i 0 ≤ t i
slots-lowest xs t n i h = lowest-below xs t n (suc i) i (omega arith) h

-- s where the test passes, else 0
hit : Bool → ℕ → ℕ
hit b s = if b then s else 0

hit-or : (a b : Bool) (s : ℕ) → hit (a or b) s ≡ max (hit a s) (hit b s)
unfolding hit ◌or◌
hit-or true true s = omega arith
hit-or true false s = omega arith
hit-or false b s = omega arith

hit-low : (a : Bool) (s : ℕ) → hit a s ≤ s
unfolding hit
hit-low true s = omega arith
hit-low false s = omega arith

put_is : (t : ℕ → ℕ) (i s j : ℕ) → t i ≤ s → put t i s j ≡ max (t j) (hit (eqb j i) s)
unfolding put hit
put_is t i s j h =
    by_cases (eqb j i)
    (λ e. let k : t j ≤ s = rw (eqb-true j i e) h in rw e (omega arith))
    (λ e. rw e (omega arith))

highest-snoc : (x : Crossing) (es : List Crossing) (ss : List ℕ) (e : Crossing) (s : ℕ) → length ss ≡ length es
    → highest x (es ++ (e ∷ [])) (ss ++ (s ∷ [])) ≡ max (highest x es ss) (hit (depend x e) s)
unfolding highest hit
highest-snoc x [] [] e s h = by_cases (depend x e) (λ d. rw d (omega arith)) (λ d. rw d (omega arith))
highest-snoc x [] (z ∷ ss) e s h = absurd (omega arith)
highest-snoc x (y ∷ es) [] e s h = absurd (omega arith)
highest-snoc x (y ∷ es) (z ∷ ss) e s h =
    let ih = highest-snoc x es ss e s (omega arith) in
    by_cases (depend x y) (λ d. rw d (omega arith)) (λ d. rw d ih)

max-group : (a b c : ℕ) → max (max a b) c ≡ max a (max b c)
max-group a b c = omega arith

max-cross : (a b c d : ℕ) → max (max a b) (max c d) ≡ max (max a c) (max b d)
max-cross a b c d = omega arith

max-spread : (C F T c f g h k : ℕ)
    → max (max C (max F T)) (max (max (max (max c f) g) h) k) ≡ max (max C c) (max (max (max F f) g) (max (max T h) k))
max-spread C F T c f g h k =
    ap (λ v. max (max C (max F T)) v) (max-group (max (max c f) g) h k ∙ ap (λ v. max v (max h k)) (max-group c f g) ∙ max-group c (max f g) (max h k))
    ∙ max-cross C (max F T) c (max (max f g) (max h k))
    ∙ ap (λ v. max (max C c) v) (max-cross F T (max f g) (max h k) ∙ ap₂ max (sym (max-group F f g)) (sym (max-group T h k)))

hit-depend : (x e : Crossing) (s : ℕ)
    → hit (depend x e) s ≡ max (max (max (max (hit (eqb x.carrier e.carrier) s) (hit (eqb x.from e.from) s)) (hit (eqb x.from e.to) s)) (hit (eqb x.to e.from) s)) (hit (eqb x.to e.to) s)
unfolding depend
hit-depend x e s = simp hit-or

-- the tables give the highest slot of the earlier crossings that any crossing depends on
Tells : List Crossing → List ℕ → (ℕ → ℕ) → (ℕ → ℕ) → Type 0
Tells earlier given tc tb = (x : Crossing) → highest x earlier given ≡ max (tc x.carrier) (max (tb x.from) (tb x.to))

tells-on : (earlier : List Crossing) (given : List ℕ) (tc tb : ℕ → ℕ) (e : Crossing) (s : ℕ) → length given ≡ length earlier → Tells earlier given tc tb
    → tc e.carrier ≤ s → tb e.from ≤ s → tb e.to ≤ s
    → Tells (earlier ++ (e ∷ [])) (given ++ (s ∷ [])) (put tc e.carrier s) (put (put tb e.from s) e.to s)
unfolding Tells
tells-on earlier given tc tb e s len tells lc lf lt x =
    let two : (j : ℕ) → put (put tb e.from s) e.to s j ≡ max (max (tb j) (hit (eqb j e.from) s)) (hit (eqb j e.to) s) =
    λ j.
    let at-to : put tb e.from s e.to ≤ s = rw (put_is tb e.from s e.to lf) (let z = hit-low (eqb e.to e.from) s in omega arith) in
    put_is (put tb e.from s) e.to s j at-to ∙ ap (λ v. max v (hit (eqb j e.to) s)) (put_is tb e.from s j lf) in
    highest-snoc x earlier given e s len
    ∙ ap₂ max (tells x) (hit-depend x e s)
    ∙ max-spread (tc x.carrier) (tb x.from) (tb x.to) _ _ _ _ _
    ∙ sym (ap₂ max (put_is tc e.carrier s x.carrier lc) (ap₂ max (two x.from) (two x.to)))

pass_same : (earlier : List Crossing) (given : List ℕ) (tc tb : ℕ → ℕ) (xs : List Crossing) → length given ≡ length earlier → Tells earlier given tc tb
    → slots_after earlier given xs ≡ slots_pass tc tb xs
unfolding slots_after slots_pass Tells
pass_same earlier given tc tb [] len tells = refl
pass_same earlier given tc tb (x ∷ xs) len tells =
    let s = suc (max (tc x.carrier) (max (tb x.from) (tb x.to))) in
    rw (tells x)
    (ap (λ l. s ∷ l) (pass_same (earlier ++ (x ∷ [])) (given ++ (s ∷ [])) (put tc x.carrier s) (put (put tb x.from s) x.to s) xs
    (simp length-append (omega arith)) (tells-on earlier given tc tb x s len tells (omega arith) (omega arith) (omega arith))))

-- One pass gives the slots, for any list of crossings.
pub slots-pass : (xs : List Crossing) → slots xs ≡ slots_pass (λ c. 0) (λ b. 0) xs
unfolding slots Tells highest
slots-pass xs = pass_same [] [] (λ c. 0) (λ b. 0) xs refl (λ x. refl)

-- The tables as lists, as code holds them: one entry stored is one entry put.
abbrev pub at : List ℕ → ℕ → ℕ
at l j = get_or l j 0

pub put-set : (l : List ℕ) (i v : ℕ) → i < length l → put (at l) i v ≡ at (set l i v)
unfolding put
put-set l i v h =
    fun_ext (λ j. by_cases (eqb j i)
    (λ e. rw e (rw (eqb-true j i e) (sym (get_or-set_same l i v 0 h))))
    (λ e. rw e (sym (get_or-set_other l i j v 0 (eqb-false j i e)))))

-- a step of the loop
pub slots-step : (cs bs : List ℕ) (x : Crossing) (xs : List Crossing) → x.carrier < length cs → x.from < length bs → x.to < length bs
    → (s : ℕ) → s ≡ suc (max (at cs x.carrier) (max (at bs x.from) (at bs x.to)))
    → slots_pass (at cs) (at bs) (x ∷ xs) ≡ s ∷ slots_pass (at (set cs x.carrier s)) (at (set (set bs x.from s) x.to s)) xs
unfolding slots_pass
slots-step cs bs x xs hc hf ht s e =
    rw (← e) (rw (put-set cs x.carrier s hc, put-set bs x.from s hf, put-set (set bs x.from s) x.to s (rw length-set ht)))

-- the start of the loop: tables of zeros
pub at-zeros : (k : ℕ) → ◌≡◌ {A = ℕ → ℕ} (at (replicate k 0)) (λ j. 0)
at-zeros k = fun_ext (go k)
  where
    go : (k j : ℕ) → ◌≡◌ {A = ℕ} (get_or (replicate k 0) j 0) 0
    go zero j = refl
    go (suc k) zero = refl
    go (suc k) (suc j) = go k j

pub slots-start : (k n : ℕ) (xs : List Crossing) → slots xs ≡ slots_pass (at (replicate k 0)) (at (replicate n 0)) xs
slots-start k n xs = rw (at-zeros k, at-zeros n) (slots-pass xs)

-- The lent slot list: unchanged on a refusal; else the slots, and beyond them what stood there.
module _ (o : Order) (plan lent : List ℕ) where
  pub slots-given : slots_refusal o plan (length lent) ≡ none
      → (take (length plan) (slots_end o plan lent) ≡ slots (crossings plan))
      × (drop (length plan) (slots_end o plan lent) ≡ drop (length plan) lent)
  unfolding slots_end
  slots-given h =
      let len : length (slots (crossings plan)) ≡ length plan = slots_length (crossings plan) ∙ length-map plan unpack in
      (rw h (take_at (slots (crossings plan)) (drop (length plan) lent) (length plan) len), rw h (drop_at (slots (crossings plan)) (drop (length plan) lent) (length plan) len))
