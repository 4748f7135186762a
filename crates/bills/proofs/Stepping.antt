-- One accepted name more: what record and lines worked out afresh become is what changing them in place gives. An undone crossing is independent of
-- every done one behind it, so no later crossing of its carrier is done, and whether it moves its carrier in its turn or last is the same.
use Rattle.std.specs.Prelude.{if◌then◌else◌}
use mathlib.Core.Path.{◌≡◌, refl, sym, ◌∙◌, ap}
use mathlib.Core.Bool.{true, false}
use mathlib.Core.List.{List, [], ◌∷◌, map}
use Prim.Native.Nat.{ℕ, zero, suc, ◌<◌, ◌+◌, max}
use native.Mathlib.Omega.{arith}
use lib.Dec.{eqb}
use lib.ListN.{length, get_or, set, length-set, length-map}
use lib.Seq.{get_or-set_same, get_or-set_other, set-append_left, set_comm, ext_get_or}
use borrow.Author.Tests.{eqb-true, eqb-false, eq-eqb, ne_eqb}
use Rattle.paper.specs.Basics.{◌and◌, up_to, count_from}
use Rattle.paper.specs.Yard.{Bay, Carrier, Placement, Yard, Crossing, move, named, after, legal_plan}
use Rattle.paper.specs.Dependence.{done, is_done, done_of, count_of, slots}
use Rattle.paper.proofs.Tests.{by_cases}
use Rattle.paper.proofs.Reach.{count-length}
use Rattle.paper.proofs.Playing.{after-length, plan-head, plan-tail, legal-facts}
use Rattle.paper.proofs.Commuting.{AllIndep, Closed}
use Rattle.paper.proofs.Marking.{InOrder, closed_of}
use Rattle.paper.proofs.Slotting.{slots_length}
use Rattle.bills.specs.Billing.{places, highest_done, last_done, record_of, line_of, lines_of, posted, charged, no_line, entered}
use Rattle.bills.specs.declared.Record.{Record}
use Rattle.bills.specs.declared.Line.{Line}

-- equal part by part
pub record-parts : (a b : Record) → a.at ≡ b.at → a.done ≡ b.done → a.highest ≡ b.highest → a ≡ b
record-parts a b e f g = go a.at b.at a.done b.done a.highest b.highest e f g
  where
    go : (p q : List Bay) (m n h k : ℕ) → p ≡ q → m ≡ n → h ≡ k
        → ◌≡◌ {A = Record} (record { at = p; done = m; highest = h }) (record { at = q; done = n; highest = k })
    go p q m n h k e f g = rw (e, f, g)

pub line-parts : (a b : Line) → a.carrier ≡ b.carrier → a.billed ≡ b.billed → a.last ≡ b.last → a ≡ b
line-parts a b e f g = go a.carrier b.carrier a.billed b.billed a.last b.last e f g
  where
    go : (c d m n l k : ℕ) → c ≡ d → m ≡ n → l ≡ k
        → ◌≡◌ {A = Line} (record { carrier = c; billed = m; last = l }) (record { carrier = d; billed = n; last = k })
    go c d m n l k e f g = rw (e, f, g)

-- ## The record

-- a crossing that is independent of all behind it may move its carrier last
moved-last : (p : Placement) (x : Crossing) (ys : List Crossing) → AllIndep x ys → after (move p x) ys ≡ move (after p ys) x
unfolding after
moved-last p x [] i = refl
moved-last p x (y ∷ ys) i =
    ap (λ q. after q ys) (set_comm p x.carrier y.carrier x.to y.to i.0.carriers) ∙ moved-last (move p y) x ys i.1

moved_by : (p : Placement) (xs : List Crossing) (ms : List ℕ) (i : ℕ) → i < length xs → length ms ≡ length xs → is_done ms i ≡ false → Closed xs ms
    → after p (done_of xs (set ms i 1)) ≡ move (after p (done_of xs ms)) (named xs i)
unfolding done_of after
moved_by p [] ms i h len d c = absurd (omega arith)
moved_by p (x ∷ xs) [] i h len d c = absurd (omega arith)
moved_by p (x ∷ xs) (m ∷ ms) zero h len d c = rw d (moved-last p x (done_of xs ms) (c.0 d))
moved_by p (x ∷ xs) (m ∷ ms) (suc i) h len d c =
    by_cases (done m)
    (λ e. rw e (moved_by (move p x) xs ms i (omega arith) (omega arith) d c.1))
    (λ e. rw e (moved_by p xs ms i (omega arith) (omega arith) d c.1))

one_more : (xs : List Crossing) (ms : List ℕ) (i : ℕ) → i < length xs → length ms ≡ length xs → is_done ms i ≡ false
    → length (done_of xs (set ms i 1)) ≡ suc (length (done_of xs ms))
unfolding done_of
one_more [] ms i h len d = absurd (omega arith)
one_more (x ∷ xs) [] i h len d = absurd (omega arith)
one_more (x ∷ xs) (m ∷ ms) zero h len d = rw d refl
one_more (x ∷ xs) (m ∷ ms) (suc i) h len d =
    let ih = one_more xs ms i (omega arith) (omega arith) d in by_cases (done m) (λ e. rw e (ap suc ih)) (λ e. rw e ih)

highest-with : (ss ms : List ℕ) (i : ℕ) → i < length ss → length ms ≡ length ss
    → highest_done ss (set ms i 1) ≡ max (highest_done ss ms) (get_or ss i 0)
unfolding highest_done
highest-with [] ms i h len = absurd (omega arith)
highest-with (s ∷ ss) [] i h len = absurd (omega arith)
highest-with (s ∷ ss) (m ∷ ms) zero h len = by_cases (done m) (λ e. rw e (omega arith)) (λ e. rw e (omega arith))
highest-with (s ∷ ss) (m ∷ ms) (suc i) h len =
    let ih = highest-with ss ms i (omega arith) (omega arith) in by_cases (done m) (λ e. rw e (omega arith)) (λ e. rw e ih)

-- a carrier's place is within the list of all places
pub places-move : (p : Placement) (x : Crossing) → x.carrier < length p → places (move p x) ≡ move (places p) x
places-move p x h = rw (length-set p x.carrier x.to) (sym (set-append_left p _ x.carrier x.to h))

pub record-step : (starts : Placement) (xs : List Crossing) (ms : List ℕ) (i : ℕ) → length ms ≡ length xs → InOrder xs ms → i < length xs
    → is_done ms i ≡ false → (named xs i).carrier < length starts
    → record_of starts xs (set ms i 1) ≡ posted (record_of starts xs ms) (named xs i) (get_or (slots xs) i 0)
record-step starts xs ms i len order h d there =
    record-parts (record_of starts xs (set ms i 1)) (posted (record_of starts xs ms) (named xs i) (get_or (slots xs) i 0))
    (ap places (moved_by starts xs ms i h len d (closed_of xs ms order))
    ∙ places-move (after starts (done_of xs ms)) (named xs i) (rw after-length there))
    (one_more xs ms i h len d)
    (highest-with (slots xs) ms i (rw slots_length h) (rw slots_length len))

-- ## The lines

counted : (c : Carrier) (xs : List Crossing) (ms : List ℕ) (i : ℕ) → i < length xs → length ms ≡ length xs → is_done ms i ≡ false
    → (named xs i).carrier ≡ c → count_of c (done_of xs (set ms i 1)) ≡ suc (count_of c (done_of xs ms))
unfolding done_of count_of
counted c [] ms i h len d e = absurd (omega arith)
counted c (x ∷ xs) [] i h len d e = absurd (omega arith)
counted c (x ∷ xs) (m ∷ ms) zero h len d e = rw (d, eq-eqb x.carrier c e)
counted c (x ∷ xs) (m ∷ ms) (suc i) h len d e =
    let ih = counted c xs ms i (omega arith) (omega arith) d e in
    by_cases (done m)
    (λ q. by_cases (eqb x.carrier c) (λ w. rw (q, w) (ap suc ih)) (λ w. rw (q, w) ih))
    (λ q. rw q ih)

not-counted : (c : Carrier) (xs : List Crossing) (ms : List ℕ) (i : ℕ) → i < length xs → length ms ≡ length xs → is_done ms i ≡ false
    → ((named xs i).carrier ≡ c → ⊥) → count_of c (done_of xs (set ms i 1)) ≡ count_of c (done_of xs ms)
unfolding done_of count_of
not-counted c [] ms i h len d n = absurd (omega arith)
not-counted c (x ∷ xs) [] i h len d n = absurd (omega arith)
not-counted c (x ∷ xs) (m ∷ ms) zero h len d n = rw (d, ne_eqb x.carrier c n)
not-counted c (x ∷ xs) (m ∷ ms) (suc i) h len d n =
    let ih = not-counted c xs ms i (omega arith) (omega arith) d n in
    by_cases (done m)
    (λ q. by_cases (eqb x.carrier c) (λ w. rw (q, w) (ap suc ih)) (λ w. rw (q, w) ih))
    (λ q. rw q ih)

-- no done crossing is carrier c's, so the last name is the one before
last-stays : (x : Crossing) (last j : ℕ) (xs : List Crossing) (ms : List ℕ) → AllIndep x (done_of xs ms) → last_done x.carrier last j xs ms ≡ last
unfolding last_done done_of ◌and◌
last-stays x last j [] ms a = refl
last-stays x last j (y ∷ xs) [] a = refl
last-stays x last j (y ∷ xs) (m ∷ ms) a =
    by_cases (done m)
    (λ e.
    let b = rw e at a in
    rw (e, ne_eqb y.carrier x.carrier (λ q. b.0.carriers (sym q))) (last-stays x last (suc j) xs ms b.1))
    (λ e. rw e (last-stays x last (suc j) xs ms (rw e at a)))

-- the last name of its carrier is the name just done, counted from j
pub last-is : (last j : ℕ) (xs : List Crossing) (ms : List ℕ) (i : ℕ) → i < length xs → length ms ≡ length xs → is_done ms i ≡ false → Closed xs ms
    → last_done (named xs i).carrier last j xs (set ms i 1) ≡ j + i
unfolding last_done ◌and◌
last-is last j [] ms i h len d c = absurd (omega arith)
last-is last j (x ∷ xs) [] i h len d c = absurd (omega arith)
last-is last j (x ∷ xs) (m ∷ ms) zero h len d c = rw (eq-eqb x.carrier x.carrier refl) (last-stays x j (suc j) xs ms (c.0 d) ∙ omega arith)
last-is last j (x ∷ xs) (m ∷ ms) (suc i) h len d c = last-is (if done m and eqb x.carrier (named xs i).carrier then j else last) (suc j) xs ms i (omega arith) (omega arith) d c.1 ∙ omega arith

-- and no other carrier's last name has changed
pub last-other : (c : Carrier) (last j : ℕ) (xs : List Crossing) (ms : List ℕ) (i : ℕ) → i < length xs → length ms ≡ length xs → is_done ms i ≡ false
    → ((named xs i).carrier ≡ c → ⊥) → last_done c last j xs (set ms i 1) ≡ last_done c last j xs ms
unfolding last_done ◌and◌
last-other c last j [] ms i h len d n = absurd (omega arith)
last-other c last j (x ∷ xs) [] i h len d n = absurd (omega arith)
last-other c last j (x ∷ xs) (m ∷ ms) zero h len d n = rw (d, ne_eqb x.carrier c n)
last-other c last j (x ∷ xs) (m ∷ ms) (suc i) h len d n = last-other c (if done m and eqb x.carrier c then j else last) (suc j) xs ms i (omega arith) (omega arith) d n

pub count_at : (f : ℕ → Line) (a k j : ℕ) (d : Line) → j < k → get_or (map f (count_from a k)) j d ≡ f (a + j)
unfolding count_from
count_at f a zero j d h = absurd (omega arith)
count_at f a (suc k) zero d h = ap f (omega arith)
count_at f a (suc k) (suc j) d h = count_at f (suc a) k j d (omega arith) ∙ ap f (omega arith)

-- "The line list has exactly k entries", and line c is carrier c's.
pub lines_long : (k : ℕ) (xs : List Crossing) (ms : List ℕ) → length (lines_of k xs ms) ≡ k
lines_long k xs ms = length-map (up_to k) (line_of xs ms) ∙ count-length 0 k

pub line-at : (k : ℕ) (xs : List Crossing) (ms : List ℕ) (c : Carrier) (d : Line) → c < k → get_or (lines_of k xs ms) c d ≡ line_of xs ms c
line-at k xs ms c d h = count_at (line_of xs ms) 0 k c d h ∙ ap (line_of xs ms) (omega arith)

pub lines_step : (k : ℕ) (xs : List Crossing) (ms : List ℕ) (i : ℕ) → length ms ≡ length xs → InOrder xs ms → i < length xs
    → is_done ms i ≡ false → (named xs i).carrier < k
    → lines_of k xs (set ms i 1) ≡ entered (lines_of k xs ms) (named xs i) i
lines_step k xs ms i len order h d there =
    let c = (named xs i).carrier in
    let old = lines_of k xs ms in
    let new = lines_of k xs (set ms i 1) in
    let own : line_of xs (set ms i 1) c ≡ charged (get_or old c no_line) i =
    line-parts (line_of xs (set ms i 1) c) (charged (get_or old c no_line) i)
    (ap (λ l. l.carrier) (sym (line-at k xs ms c no_line there)))
    (counted c xs ms i h len d refl ∙ ap (λ l. suc l.billed) (sym (line-at k xs ms c no_line there)))
    (last-is _ 0 xs ms i h len d (closed_of xs ms order) ∙ omega arith) in
    ext_get_or no_line new (entered old (named xs i) i)
    (lines_long k xs (set ms i 1) ∙ sym (length-set old c _ ∙ lines_long k xs ms))
    (λ j l.
    let inside : j < k = omega (arith, lines_long k xs (set ms i 1)) in
    by_cases (eqb j c)
    (λ e.
    let q = eqb-true j c e in
    rw q (line-at k xs (set ms i 1) c no_line there ∙ own ∙ sym (get_or-set_same old c _ no_line (omega (arith, lines_long k xs ms)))))
    (λ e.
    let n = eqb-false j c e in
    line-at k xs (set ms i 1) j no_line inside
    ∙ line-parts (line_of xs (set ms i 1) j) (line_of xs ms j) refl (not-counted j xs ms i h len d (λ q. n (sym q))) (last-other j _ 0 xs ms i h len d (λ q. n (sym q)))
    ∙ sym (line-at k xs ms j no_line inside)
    ∙ sym (get_or-set_other old c j _ no_line n)))

-- the carrier of a crossing of a legal plan is there
pub carrier_there : (Y : Yard) (p : Placement) (xs : List Crossing) (i : ℕ) → legal_plan Y p xs ≡ true → i < length xs → (named xs i).carrier < length p
carrier_there Y p [] i h l = absurd (omega arith)
carrier_there Y p (x ∷ xs) zero h l = (legal-facts Y p x (plan-head Y p x xs h)).there
carrier_there Y p (x ∷ xs) (suc i) h l =
    let ih = carrier_there Y (move p x) xs i (plan-tail Y p x xs h) (omega arith) in rw length-set at ih
