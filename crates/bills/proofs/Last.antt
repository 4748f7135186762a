-- The last name in a line: the highest done name of its carrier, which is the last one accepted, since a carrier's crossings depend on each other
-- and so are accepted in their order.
use Rattle.std.specs.Prelude.{if◌then◌else◌}
use mathlib.Core.Path.{◌≡◌, refl, ◌∙◌, ap}
use mathlib.Core.Bool.{true, false}
use mathlib.Core.Logic.{◌↔◌}
use mathlib.Core.List.{List, [], ◌∷◌}
use Prim.Native.Nat.{ℕ, zero, suc, ◌<◌, ◌≤◌, ◌+◌}
use native.Mathlib.Omega.{arith}
use lib.Dec.{eqb}
use lib.ListN.{length, set, replicate}
use borrow.Author.Tests.{eqb-true, eqb-false, eq-eqb}
use Rattle.paper.specs.Basics.{◌and◌}
use Rattle.paper.specs.Yard.{Carrier, Crossing, crossings, named, most_crossings}
use Rattle.paper.specs.Dependence.{done, is_done}
use Rattle.paper.specs.Answers.{accepts}
use Rattle.paper.specs.Log.{Request}
use Rattle.paper.proofs.Tests.{by_cases, not-both, and_left, and_right, and_both}
use Rattle.paper.proofs.Marking.{InOrder, closed_of}
use Rattle.paper.proofs.Reporting.{marks-long, tell-facts}
use Rattle.bills.specs.Billing.{untouched, last_done}
use Rattle.bills.specs.Answering.{then_marks}
use Rattle.bills.specs.Keeping.{Books, answer_on, books_by, books_from, billed_from}
unfoldable pub use Rattle.bills.specs.Demand.{last_of}
use Rattle.bills.proofs.Stepping.{last-is, last-other}
use Rattle.bills.proofs.Keeping.{order-of, accepts-accept, accepts_exactly}

-- i names a done crossing of carrier c
pub record DoneBy (c : Carrier) (xs : List Crossing) (ms : List ℕ) (i : ℕ) : Type 0 where
  pub there : i < length xs
  pub is-done : is_done ms i ≡ true
  pub its : (named xs i).carrier ≡ c

-- either none of carrier c's names is done and the last one is untouched, or it is a done name of c and none higher is done
pub data LastName (c : Carrier) (xs : List Crossing) (ms : List ℕ) (last : ℕ) : Type 0 where
  not_yet : ((i : ℕ) → DoneBy c xs ms i → ⊥) → last ≡ untouched → LastName c xs ms last
  highest : DoneBy c xs ms last → ((i : ℕ) → DoneBy c xs ms i → i ≤ last) → LastName c xs ms last

-- the same of a list that begins at the name j, where `given` stands for untouched
data Found (c : Carrier) (given j : ℕ) (xs : List Crossing) (ms : List ℕ) (last : ℕ) : Type 0 where
  missing : ((i : ℕ) → DoneBy c xs ms i → ⊥) → last ≡ given → Found c given j xs ms last
  found : (i : ℕ) → last ≡ j + i → DoneBy c xs ms i → ((e : ℕ) → DoneBy c xs ms e → e ≤ i) → Found c given j xs ms last

last_found : (c : Carrier) (given j : ℕ) (xs : List Crossing) (ms : List ℕ) → Found c given j xs ms (last_done c given j xs ms)
unfolding last_done
last_found c given j [] ms = missing (λ i d. absurd (omega (arith, d.there))) refl
last_found c given j (x ∷ xs) [] = missing (λ i d. not-both d.is-done refl) refl
last_found c given j (x ∷ xs) (m ∷ ms) =
    by_cases (done m and eqb x.carrier c)
    (λ e. rw e (hit e (last_found c j (suc j) xs ms)))
    (λ e. rw e (miss e (last_found c given (suc j) xs ms)))
  where
    behind : (i : ℕ) → DoneBy c (x ∷ xs) (m ∷ ms) (suc i) → DoneBy c xs ms i
    behind i d = record { there = omega (arith, d.there); is-done = d.is-done; its = d.its }

    before : (i : ℕ) → DoneBy c xs ms i → DoneBy c (x ∷ xs) (m ∷ ms) (suc i)
    before i d = record { there = omega (arith, d.there); is-done = d.is-done; its = d.its }

    none-higher : (i : ℕ) → ((e : ℕ) → DoneBy c xs ms e → e ≤ i) → (e : ℕ) → DoneBy c (x ∷ xs) (m ∷ ms) e → e ≤ suc i
    none-higher i f zero d = omega arith
    none-higher i f (suc e) d = let l = f e (behind e d) in omega arith

    first-only : ((i : ℕ) → DoneBy c xs ms i → ⊥) → (e : ℕ) → DoneBy c (x ∷ xs) (m ∷ ms) e → e ≤ 0
    first-only n zero d = omega arith
    first-only n (suc e) d = absurd (n e (behind e d))

    hit : (done m and eqb x.carrier c) ≡ true → {l : ℕ} → Found c j (suc j) xs ms l → Found c given j (x ∷ xs) (m ∷ ms) l
    hit e (missing n q) = found 0 (q ∙ omega arith) (record { there = omega arith; is-done = and_left _ _ e; its = eqb-true _ _ (and_right _ _ e) }) (first-only n)
    hit e (found i q d f) = found (suc i) (q ∙ omega arith) (before i d) (none-higher i f)

    none_at_all : (done m and eqb x.carrier c) ≡ false → ((i : ℕ) → DoneBy c xs ms i → ⊥) → (e : ℕ) → DoneBy c (x ∷ xs) (m ∷ ms) e → ⊥
    none_at_all e n zero d = not-both (and_both _ _ d.is-done (eq-eqb x.carrier c d.its)) e
    none_at_all e n (suc i) d = n i (behind i d)

    miss : (done m and eqb x.carrier c) ≡ false → {l : ℕ} → Found c given (suc j) xs ms l → Found c given j (x ∷ xs) (m ∷ ms) l
    miss e (missing n q) = missing (none_at_all e n) q
    miss e (found i q d f) = found (suc i) (q ∙ omega arith) (before i d) (none-higher i f)

pub last-is-highest : (c : Carrier) (xs : List Crossing) (ms : List ℕ) → LastName c xs ms (last_done c untouched 0 xs ms)
last-is-highest c xs ms = go (last_found c untouched 0 xs ms)
  where
    go : {l : ℕ} → Found c untouched 0 xs ms l → LastName c xs ms l
    go (missing n q) = not_yet n q
    go {l} (found i q d f) = let e : l ≡ i = q ∙ omega arith in highest (rw e d) (rw e f)

-- No name of a plan within its limit is as high, so the line is untouched exactly if nothing of its carrier's is done.
pub untouched-exactly : (c : Carrier) (xs : List Crossing) (ms : List ℕ) → length xs ≤ most_crossings
    → (last_done c untouched 0 xs ms ≡ untouched) ↔ ((i : ℕ) → DoneBy c xs ms i → ⊥)
untouched-exactly c xs ms short = (go (last-is-highest c xs ms), back (last-is-highest c xs ms))
  where
    go : {l : ℕ} → LastName c xs ms l → l ≡ untouched → (i : ℕ) → DoneBy c xs ms i → ⊥
    go (not_yet n q) e = n
    go (highest d f) e = λ i k. absurd (omega (arith, d.there))

    back : {l : ℕ} → LastName c xs ms l → ((i : ℕ) → DoneBy c xs ms i → ⊥) → l ≡ untouched
    back (not_yet n q) h = q
    back {l} (highest d f) h = absurd (h l d)

-- ## The last name accepted

module _ (xs : List Crossing) (ms : List ℕ) (i : ℕ) (len : length ms ≡ length xs) (order : InOrder xs ms) (h : i < length xs) (d : is_done ms i ≡ false) where
  -- after a name is accepted it is its carrier's last, and the others' stay
  pub last-accepted : (c : Carrier) → last_done c untouched 0 xs (set ms i 1) ≡ (if eqb (named xs i).carrier c then i else last_done c untouched 0 xs ms)
  last-accepted c =
      by_cases (eqb (named xs i).carrier c)
      (λ e. rw e (rw (← eqb-true (named xs i).carrier c e) (last-is untouched 0 xs ms i h len d (closed_of xs ms order) ∙ omega arith)))
      (λ e. rw e (last-other c untouched 0 xs ms i h len d (eqb-false (named xs i).carrier c e)))

marks_then : (plan : List ℕ) (b : Books) (q : Request) → (books_by plan b q).marks ≡ (if accepts (answer_on plan b q) then set b.marks q.name 1 else b.marks)
unfolding then_marks
marks_then plan b q = refl

-- over any sequence of reports, on any books
pub last-run : (plan : List ℕ) (c : Carrier) (b : Books) (qs : List Request)
    → last_done c untouched 0 (crossings plan) (books_from plan b qs).marks
    ≡ last_of c (crossings plan) (last_done c untouched 0 (crossings plan) b.marks) (billed_from plan b qs)
unfolding books_from billed_from last_of
last-run plan c b [] = refl
last-run plan c b (q ∷ qs) =
    let xs = crossings plan in
    let ih = last-run plan c (books_by plan b q) qs in
    by_cases (accepts (answer_on plan b q))
    (λ e.
    let a = (accepts_exactly q.order plan b.marks b.running b.lines q.name).0
    ((accepts-accept (answer_on plan b q)).0 e) in
    let t = tell-facts xs b.marks q.name a.2 in
    let s = last-accepted xs b.marks q.name (marks-long xs b.marks t.0) (order-of xs b.marks t.0) t.1 t.2 c in
    let m : (books_by plan b q).marks ≡ set b.marks q.name 1 = marks_then plan b q ∙ rw e in
    rw e (ih ∙ ap (λ l. last_of c xs l (billed_from plan (books_by plan b q) qs)) (ap (last_done c untouched 0 xs) m ∙ s)))
    (λ e.
    let m : (books_by plan b q).marks ≡ b.marks = marks_then plan b q ∙ rw e in
    rw e (ih ∙ ap (λ l. last_of c xs l (billed_from plan (books_by plan b q) qs)) (ap (last_done c untouched 0 xs) m)))

pub last-fresh : (c : Carrier) (last j : ℕ) (xs : List Crossing) (k : ℕ) → last_done c last j xs (replicate k 0) ≡ last
unfolding last_done ◌and◌
last-fresh c last j [] k = refl
last-fresh c last j (x ∷ xs) zero = refl
last-fresh c last j (x ∷ xs) (suc k) = last-fresh c last (suc j) xs k
