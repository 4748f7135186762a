-- 7 to 10 in words: what the procedure gives, the first illegal crossing, the lowest carrier away from home.
use mathlib.Core.Path.{◌≡◌, refl, ap}
use mathlib.Core.Bool.{true, not}
use mathlib.Core.List.{List, [], ◌∷◌}
use mathlib.Core.Logic.{◌↔◌, inl, inr, ⊎_elim}
use mathlib.Core.Option.{Option, none, some}
use Prim.Native.Nat.{ℕ, zero, suc, ◌<◌, ◌≤◌}
use native.Mathlib.Omega.{arith}
use lib.Dec.{ltb}
use lib.ListN.{length, take}
use borrow.Author.Tests.{not-true, ltb-true, lt-ltb, eqb-true, eq-eqb}
use Rattle.paper.specs.Basics.{◌or◌, ◌>>=◌, elem}
use Rattle.paper.specs.Yard.{Bay, Carrier, Yard, Placement, Crossing, most_crossings, bay_of, move, after, legal, legal_plan, named}
use Rattle.paper.specs.Procedure.{Outcome, planned, stuck}
use Rattle.paper.specs.Docket.{number, carried, stopped, room, illegal, missed, first_illegal, not_home, no_7, no_8, no_9, no_10}
use Rattle.paper.proofs.Tests.{by_cases, and_left, and_right, and_both, or_left, or_right, or_cases, not-both, never}
use Rattle.paper.proofs.Determined.{docket-tells}
use Rattle.paper.proofs.Checking.{illegal-exactly, missed-exactly}
use Rattle.paper.proofs.Playing.{plan-head, plan-tail}
use Rattle.exactly.specs.First.{carrying}
use Rattle.exactly.specs.Words.{TooLong, Legal, FirstIllegal, LowestAway}
use Rattle.exactly.specs.Rows.{no_room}
use Rattle.exactly.proofs.First.{carrying-test, known-test}
use Rattle.exactly.proofs.Six.{Refuses, joined_words, elem-words}

-- ## 7 and 8

-- the carrier that could not step
unfoldable stuck_of : Outcome → Option Carrier
stuck_of (planned xs) = none
stuck_of (stuck c) = some c

stuck-exactly : (o : Outcome) (c : Carrier) → (stuck_of o ≡ some c) ↔ (o ≡ stuck c)
unfolding stuck_of
stuck-exactly o c = (to o, λ e. rw e)
  where
    to : (o : Outcome) → stuck_of o ≡ some c → o ≡ stuck c
    to (planned xs) h = never (cc)
    to (stuck d) h = let e : d ≡ c = cc in ap stuck e

seven_is : (o : Outcome) → no_7 o ≡ (stuck_of o >>= λ c. some (stopped c))
unfolding stuck_of
seven_is (planned xs) = refl
seven_is (stuck c) = refl

pub reads-7 : (o : Outcome) → Refuses (no_7 o) (carrying 7 (λ c. o ≡ stuck c) ∷ [])
reads-7 o =
    rw (seven_is o)
    (carrying-test number carried (λ c. o ≡ stuck c) (stuck_of o) stopped 7 (λ v. docket-tells (stopped v)) (λ v. refl) (λ v. refl) (stuck-exactly o))

long-words : (lent needed : ℕ) → (ltb lent needed or ltb most_crossings needed ≡ true) ↔ TooLong lent needed
long-words lent needed = (
  λ h. or_cases _ _ h (λ a. inl (ltb-true _ _ a)) (λ a. inr (ltb-true _ _ a)),
  λ t. ⊎_elim (λ a. or_left _ _ (lt-ltb _ _ a)) (λ a. or_right _ _ (lt-ltb _ _ a)) t,
)

-- 8 by any words for what is needed
pub reads-8-by : (lent needed : ℕ) (W : ℕ → Type 0) → (TooLong lent needed → W needed) → ((v : ℕ) → W v → (v ≡ needed) × TooLong lent needed)
    → Refuses (no_8 lent needed) (carrying 8 W ∷ [])
reads-8-by lent needed W f g =
    let e = long-words lent needed in
    known-test number carried W (ltb lent needed or ltb most_crossings needed) room needed 8 (docket-tells (room needed)) refl refl
    (λ h. f (e.0 h))
    (λ v w. let r = g v w in (e.1 r.1, r.0))

pub reads-8 : (lent needed : ℕ) → Refuses (no_8 lent needed) (no_room lent needed ∷ [])
reads-8 lent needed = reads-8-by lent needed (λ v. (v ≡ needed) × TooLong lent needed) (λ t. (refl, t)) (λ v w. w)

-- ## 9

module _ (Y : Yard) where
  -- "to is empty": no carrier stands there
  empty-words : (p : Placement) (b : Bay) → (not (elem b p) ≡ true) ↔ ((c : Carrier) → c < length p → bay_of p c ≡ b → ⊥)
  empty-words p b = (
    λ h c l e. not-both ((elem-words b p).1 (c, l, e)) (not-true _ h),
    λ f. by_cases (elem b p)
        (λ e. let r = (elem-words b p).0 e in absurd (f r.0 r.1 r.2))
        (λ e. ap not e),
  )

  pub legal-words : (p : Placement) (x : Crossing) → (legal Y p x ≡ true) ↔ Legal Y p x
  unfolding legal
  legal-words p x = (
    λ h.
        let a = and_left _ _ h in
        let b = and_left _ _ a in
        record {
          carried = ltb-true _ _ (and_left _ _ b);
          stands = eqb-true _ _ (and_right _ _ b);
          railed = (joined_words Y x.from x.to).0 (and_right _ _ a);
          free = (empty-words p x.to).0 (and_right _ _ h);
        },
    λ r. and_both _ _
        (and_both _ _
        (and_both _ _ (lt-ltb _ _ r.carried) (eq-eqb _ _ r.stands))
        ((joined_words Y x.from x.to).1 r.railed))
        ((empty-words p x.to).1 r.free),
  )

  -- the first d are a legal plan exactly if each of them is legal at the placement left by those before it
  legal-each : (p : Placement) (xs : List Crossing) (d j : ℕ) → j < d → j < length xs → legal_plan Y p (take d xs) ≡ true
      → legal Y (after p (take j xs)) (named xs j) ≡ true
  unfolding after
  legal-each p [] d j l k h = absurd (omega arith)
  legal-each p (x ∷ xs) zero j l k h = absurd (omega arith)
  legal-each p (x ∷ xs) (suc d) zero l k h = plan-head Y p x (take d xs) h
  legal-each p (x ∷ xs) (suc d) (suc j) l k h = legal-each (move p x) xs d j (omega arith) (omega arith) (plan-tail Y p x (take d xs) h)

  each-legal : (p : Placement) (xs : List Crossing) (d : ℕ) → d ≤ length xs → ((j : ℕ) → j < d → legal Y (after p (take j xs)) (named xs j) ≡ true)
      → legal_plan Y p (take d xs) ≡ true
  unfolding after legal_plan
  each-legal p xs zero l f = refl
  each-legal p [] (suc d) l f = absurd (omega arith)
  each-legal p (x ∷ xs) (suc d) l f =
      let first : legal Y p x ≡ true = f 0 (omega arith) in
      rw first (each-legal (move p x) xs d (omega arith) (λ j k. f (suc j) (omega arith)))

  pub illegal-words : (p : Placement) (xs : List Crossing) (i : ℕ) → (first_illegal Y p 0 xs ≡ some i) ↔ FirstIllegal Y p xs i
  illegal-words p xs i =
      let e = illegal-exactly Y p xs i in (
        λ h.
            let r = e.0 h in
            let l = r.there in
            record {
              there = l;
              against = λ k. not-both ((legal-words (after p (take i xs)) (named xs i)).1 k) r.is-illegal;
              earlier = λ j k. (legal-words (after p (take j xs)) (named xs j)).0 (legal-each p xs i j k (omega arith) r.before);
            },
        λ r.
            let l = r.there in
            e.1 (record {
              there = l;
              before = each-legal p xs i (omega arith) (λ j k. (legal-words (after p (take j xs)) (named xs j)).1 (r.earlier j k));
              is-illegal = by_cases (legal Y (after p (take i xs)) (named xs i)) (λ h. absurd (r.against ((legal-words (after p (take i xs)) (named xs i)).0 h))) (λ h. h);
            }),
      )

  pub reads-9 : (p : Placement) (xs : List Crossing) → Refuses (no_9 Y p xs) (carrying 9 (FirstIllegal Y p xs) ∷ [])
  reads-9 p xs =
      carrying-test number carried (FirstIllegal Y p xs) (first_illegal Y p 0 xs) illegal 9 (λ v. docket-tells (illegal v)) (λ v. refl) (λ v. refl) (illegal-words p xs)

-- ## 10

pub away-words : (goals p : Placement) (c : Carrier) → (not_home goals p ≡ some c) ↔ LowestAway goals p c
away-words goals p c =
    let e = missed-exactly goals p c in (
      λ h. let r = e.0 h in record { there = r.there; away = r.away; lower_home = r.lower_home },
      λ r. e.1 (record { there = r.there; away = r.away; lower_home = r.lower_home }),
    )

pub reads-10 : (goals p : Placement) → Refuses (no_10 goals p) (carrying 10 (LowestAway goals p) ∷ [])
reads-10 goals p =
    carrying-test number carried (LowestAway goals p) (not_home goals p) missed 10 (λ v. docket-tells (missed v)) (λ v. refl) (λ v. refl) (away-words goals p)
