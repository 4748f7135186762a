-- The invariant of the log, over any sequence of reports: the marks stay in order, and the accepted crossings in the order accepted
-- do what the marked ones do in plan order. A name just accepted is independent of every undone one before it and of every done one
-- behind it, so it may come last.
use mathlib.Core.Path.{◌≡◌, refl, sym, ◌∙◌, ap}
use mathlib.Core.Bool.{true, false, not}
use mathlib.Core.List.{List, [], ◌∷◌, ◌++◌, map, map-append, append-nil, append_assoc}
use mathlib.Core.Option.{none}
use Prim.Native.Nat.{ℕ, zero, suc, ◌<◌, ◌+◌}
use native.Mathlib.Omega.{arith}
use lib.Dec.{eqb}
use lib.ListN.{length, set, replicate, length-set, length-map, length-replicate}
use lib.Seq.{get_or-set_same, get_or-set_other}
use borrow.Author.Tests.{eqb-true, eqb-false, eq-eqb}
use Rattle.paper.specs.Basics.{◌or◌, any, In, NoDup}
use Rattle.paper.specs.Yard.{Carrier, Yard, Placement, Crossing, move, after, legal_plan, crossings, named}
use Rattle.paper.specs.Order.{Order}
use Rattle.paper.specs.Dependence.{done, is_done, undone_before, done_of, count_of, fresh}
use Rattle.paper.specs.Docket.{yard_of, bad_marks}
use Rattle.paper.specs.Answers.{check, Report, accept, already, refuse, accepts, marks_after}
use Rattle.paper.specs.Log.{Request, answer_to, marks_from, names_from, marks_of, names_of}
use Rattle.paper.proofs.Tests.{by_cases, by-option, not-both, or-neither}
use Rattle.paper.proofs.Members.{In-head, In-nil, In-append, In-append-left, In-append-right, In-one, nodup_append, nothing-in-nil, out-cons}
use Rattle.paper.proofs.Playing.{after-append, plan-append}
use Rattle.paper.proofs.Commuting.{AllIndep, Closed, done-set, plan-right, come-last}
use Rattle.paper.proofs.Marking.{InOrder, order-in, closed_of}
use Rattle.paper.proofs.Checking.{check-passed}
use Rattle.paper.proofs.Reporting.{Ready, ready_of, early-lowest, by-report, accept-facts}

pub count-append : (c : Carrier) (xs ys : List Crossing) → count_of c (xs ++ ys) ≡ count_of c xs + count_of c ys
unfolding count_of
count-append c [] ys = omega arith
count-append c (x ∷ xs) ys =
    let ih = count-append c xs ys in by_cases (eqb x.carrier c) (λ e. rw e (omega arith)) (λ e. rw e ih)

-- A name set done: where its crossing stands among the done ones, and that it is independent of those behind it.
record Placed (xs : List Crossing) (ms : List ℕ) (i : ℕ) : Type 0 where
  before : List Crossing
  behind : List Crossing
  without-it : done_of xs ms ≡ before ++ behind
  with_it : done_of xs (set ms i 1) ≡ before ++ (named xs i ∷ behind)
  apart : AllIndep (named xs i) behind

placed : (xs : List Crossing) (ms : List ℕ) (i : ℕ) → i < length xs → length ms ≡ length xs → is_done ms i ≡ false → Closed xs ms → Placed xs ms i
unfolding done_of
placed [] ms i h len d c = absurd (omega arith)
placed (x ∷ xs) [] i h len d c = absurd (omega arith)
placed (x ∷ xs) (m ∷ ms) zero h len d c = record {
  before = [];
  behind = done_of xs ms;
  without-it = rw d;
  with_it = refl;
  apart = c.0 d;
}
placed (x ∷ xs) (m ∷ ms) (suc i) h len d c =
    let ih = placed xs ms i (omega arith) (omega arith) d c.1 in
    by_cases (done m)
    (λ e. record {
      before = x ∷ ih.before;
      behind = ih.behind;
      without-it = rw e (ap (λ l. x ∷ l) ih.without-it);
      with_it = rw e (ap (λ l. x ∷ l) ih.with_it);
      apart = ih.apart;
    })
    (λ e. record { before = ih.before; behind = ih.behind; without-it = rw e ih.without-it; with_it = rw e ih.with_it; apart = ih.apart })

done-same : (ms : List ℕ) (i : ℕ) → i < length ms → is_done (set ms i 1) i ≡ true
done-same ms i h = ap done (get_or-set_same ms i 1 0 h)

done-other : (ms : List ℕ) (i e : ℕ) → (e ≡ i → ⊥) → is_done (set ms i 1) e ≡ is_done ms e
done-other ms i e n = ap done (get_or-set_other ms i e 1 0 n)

done-stays : (ms : List ℕ) (i e : ℕ) → i < length ms → is_done ms e ≡ true → is_done (set ms i 1) e ≡ true
done-stays ms i e h d =
    by_cases (eqb e i) (λ q. rw (eqb-true e i q) (done-same ms i h)) (λ q. done-other ms i e (eqb-false e i q) ∙ d)

order-set : (xs : List Crossing) (ms : List ℕ) (i : ℕ) → i < length ms → InOrder xs ms → Ready xs ms i → InOrder xs (set ms i 1)
order-set xs ms i h f r e j l k d q =
    by_cases (eqb j i)
    (λ z. let s = eqb-true j i z in done-stays ms i e h (r e (omega arith) (rw s at d)))
    (λ z. done-stays ms i e h (f e j l k d (sym (done-other ms i j (eqb-false j i z)) ∙ q)))

-- every mark is 0 or 1
abbrev Bits : List ℕ → Type 0
Bits ms = any (λ m. not (eqb m 0 or eqb m 1)) ms ≡ false

bits-set : (ms : List ℕ) (i : ℕ) → Bits ms → Bits (set ms i 1)
unfolding any ◌or◌
bits-set [] i b = b
bits-set (m ∷ ms) zero b =
    by_cases (not (eqb m 0 or eqb m 1)) (λ e. not-both refl (rw e at b)) (λ e. rw e at b)
bits-set (m ∷ ms) (suc i) b =
    by_cases (not (eqb m 0 or eqb m 1)) (λ e. not-both refl (rw e at b)) (λ e. rw e (bits-set ms i (rw e at b)))

bits-fresh : (k : ℕ) → Bits (replicate k 0)
unfolding any ◌or◌
bits-fresh zero = refl
bits-fresh (suc k) = bits-fresh k

fresh-undone : (k i : ℕ) → is_done (replicate k 0) i ≡ false
fresh-undone zero i = refl
fresh-undone (suc k) zero = refl
fresh-undone (suc k) (suc i) = fresh-undone k i

fresh-none : (xs : List Crossing) (k : ℕ) → done_of xs (replicate k 0) ≡ []
unfolding done_of
fresh-none [] k = refl
fresh-none (x ∷ xs) zero = refl
fresh-none (x ∷ xs) (suc k) = fresh-none xs k

pub all_done : (xs : List Crossing) (ms : List ℕ) → length ms ≡ length xs → ((i : ℕ) → i < length xs → is_done ms i ≡ true) → done_of xs ms ≡ xs
unfolding done_of
all_done [] ms len f = refl
all_done (x ∷ xs) [] len f = absurd (omega arith)
all_done (x ∷ xs) (m ∷ ms) len f =
    rw (f 0 (omega arith)) (ap (λ l. x ∷ l) (all_done xs ms (omega arith) (λ i h. f (suc i) (omega arith))))

-- what holds of the marks and of the names accepted, in the order accepted
pub record RightLog (Y : Yard) (starts : Placement) (xs : List Crossing) (ms got : List ℕ) : Type 0 where
  pub long : length ms ≡ length xs
  pub bits : Bits ms
  pub order : InOrder xs ms
  pub lawful : legal_plan Y starts (map (named xs) got) ≡ true
  pub same : after starts (map (named xs) got) ≡ after starts (done_of xs ms)
  pub counts : (c : Carrier) → count_of c (map (named xs) got) ≡ count_of c (done_of xs ms)
  pub names : (i : ℕ) → In i got → (i < length xs) × (is_done ms i ≡ true)
  pub marked : (i : ℕ) → is_done ms i ≡ true → In i got
  pub once : NoDup got

module _ (Y : Yard) (starts : Placement) (xs : List Crossing) (plan-legal : legal_plan Y starts xs ≡ true) where
  pub fine : (ms got : List ℕ) → RightLog Y starts xs ms got → bad_marks xs ms ≡ false
  unfolding bad_marks
  fine ms got k = or-neither _ _ (or-neither _ _ (ap not (eq-eqb _ _ k.long)) k.bits) (order-in xs ms k.order)

  right-fresh : RightLog Y starts xs (replicate (length xs) 0) []
  unfolding legal_plan
  right-fresh = record {
    long = length-replicate (length xs) 0;
    bits = bits-fresh (length xs);
    order = λ e i l h d q. not-both q (fresh-undone (length xs) i);
    lawful = refl;
    same = ap (after starts) (sym (fresh-none xs (length xs)));
    counts = λ c. ap (count_of c) (sym (fresh-none xs (length xs)));
    names = λ i h. In-nil i h;
    marked = λ i q. not-both q (fresh-undone (length xs) i);
    once = tt;
  }

  -- one more name, not done and ready
  right-on : (ms got : List ℕ) (i : ℕ) → RightLog Y starts xs ms got → i < length xs → is_done ms i ≡ false → Ready xs ms i
      → RightLog Y starts xs (set ms i 1) (got ++ (i ∷ []))
  unfolding after
  right-on ms got i k h d r =
      let x = named xs i in
      let acc = map (named xs) got in
      let pl = placed xs ms i h k.long d (closed_of xs ms k.order) in
      let A = pl.before in
      let B = pl.behind in
      let inside : i < length ms = rw k.long h in
      let order' = order-set xs ms i inside k.order r in
      let ds = done-set Y starts xs (set ms i 1) (closed_of xs (set ms i 1) order') plan-legal in
      let new : legal_plan Y starts (A ++ (x ∷ B)) ≡ true = rw pl.with_it at ds.first in
      let last = come-last Y (after starts A) x B pl.apart (plan-right Y starts A (x ∷ B) new) in
      let here : after starts acc ≡ after (after starts A) B = k.same ∙ ap (after starts) pl.without-it ∙ after-append starts A B in
      let one : legal_plan Y (after starts acc) (x ∷ []) ≡ true = rw here (plan-right Y (after starts A) B (x ∷ []) last.0) in
      let acc-on : map (named xs) (got ++ (i ∷ [])) ≡ acc ++ (x ∷ []) = map-append (named xs) got (i ∷ []) in
      record {
        long = length-set ms i 1 ∙ k.long;
        bits = bits-set ms i k.bits;
        order = order';
        lawful = rw acc-on (plan-append Y starts acc (x ∷ []) k.lawful one);
        same = ap (after starts) acc-on ∙ after-append starts acc (x ∷ []) ∙ ap (λ q. move q x) here
            ∙ sym (after-append (after starts A) B (x ∷ [])) ∙ last.1 ∙ sym (after-append starts A (x ∷ B)) ∙ ap (after starts) (sym pl.with_it);
        counts = λ c.
            let a = k.counts c ∙ ap (count_of c) pl.without-it ∙ count-append c A B in
            let b = count-append c acc (x ∷ []) in
            let e = ap (count_of c) acc-on in
            let f = ap (count_of c) pl.with_it ∙ count-append c A (x ∷ B) in
            let g = count-append c (x ∷ []) B in
            omega arith;
        names = λ j m. In-append j got (i ∷ []) m
            (λ q. let w = k.names j q in (w.0, done-stays ms i j inside w.1))
            (λ q. let s = In-one j i q in (rw s h, rw s (done-same ms i inside)));
        marked = λ j q.
            by_cases (eqb j i)
            (λ e. In-append-right j got (i ∷ []) (rw (eqb-true j i e) (In-head i [])))
            (λ e. In-append-left j got (i ∷ []) (k.marked j (sym (done-other ms i j (eqb-false j i e)) ∙ q)));
        once = nodup_append got (i ∷ []) k.once (nothing-in-nil i, tt)
            (λ z m. out-cons z i [] (λ e. not-both (k.names z m).1 (rw e d)) (nothing-in-nil z));
      }

  -- no mark of a name is missing: the lowest undone name that it depends on, or itself, is ready
  pub some-ready : (ms : List ℕ) (b i : ℕ) → i < b → i < length xs → is_done ms i ≡ false
      → (j : ℕ) × (j < length xs) × (is_done ms j ≡ false) × Ready xs ms j
  some-ready ms zero i l h d = absurd (omega arith)
  some-ready ms (suc b) i l h d =
      by-option (undone_before xs ms i)
      (λ u. (i, h, d, ready_of xs ms i u))
      (λ e u. let f = early-lowest xs ms i e u in some-ready ms b e (omega (arith, f.0)) (omega (arith, f.0)) f.2)

pub unaccepted : (ms : List ℕ) (i : ℕ) (r : Report) → (r ≡ accept → ⊥) → marks_after ms i r ≡ ms
unfolding marks_after
unaccepted ms i accept h = absurd (h refl)
unaccepted ms i already h = refl
unaccepted ms i (refuse x) h = refl

module _ (o : Order) (plan : List ℕ) (passes : check o plan ≡ none) where
  pub plan-lawful : legal_plan (yard_of o) o.starts (crossings plan) ≡ true
  plan-lawful = (check-passed o plan passes).lawful

  right-run : (ms got : List ℕ) (qs : List Request) → RightLog (yard_of o) o.starts (crossings plan) ms got
      → RightLog (yard_of o) o.starts (crossings plan) (marks_from plan ms qs) (got ++ names_from plan ms qs)
  unfolding marks_from names_from marks_after accepts
  right-run ms got [] k = rw append-nil k
  right-run ms got (q ∷ qs) k =
      by-report (answer_to plan ms q)
      (λ e.
      let i = q.name in
      let f = accept-facts q.order plan ms i e in
      let ih = right-run (set ms i 1) (got ++ (i ∷ [])) qs (right-on (yard_of o) o.starts (crossings plan) plan-lawful ms got i k f.2 f.3 f.4) in
      rw e (rw append_assoc at ih))
      (λ e. rw e (right-run ms got qs k))
      (λ x e. rw e (right-run ms got qs k))

  pub right-from-fresh : (qs : List Request) → RightLog (yard_of o) o.starts (crossings plan) (marks_of plan qs) (names_of plan qs)
  right-from-fresh qs =
      right-run (fresh plan) [] qs (rw length-map at (right-fresh (yard_of o) o.starts (crossings plan) plan-lawful))

  -- So the marks pass, whatever was reported.
  pub fine-marks : (qs : List Request) → bad_marks (crossings plan) (marks_of plan qs) ≡ false
  fine-marks qs = fine (yard_of o) o.starts (crossings plan) plan-lawful (marks_of plan qs) (names_of plan qs) (right-from-fresh qs)
