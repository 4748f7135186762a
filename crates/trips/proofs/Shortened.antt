-- What comes out of shortening: legal from the same start, the same end, no longer, the rest in its order, and nothing more to shorten.
use mathlib.Core.Path.{◌≡◌, refl, sym, ◌∙◌}
use mathlib.Core.Bool.{true}
use mathlib.Core.List.{List, [], ◌∷◌, map}
use mathlib.Core.Option.{none, some}
use Prim.Native.Nat.{ℕ, zero, suc, ◌≤◌, ◌<◌}
use native.Mathlib.Omega.{arith}
use lib.ListN.{length, length-map}
use Rattle.paper.specs.Basics.{filter}
use Rattle.paper.specs.Yard.{Carrier, Yard, Placement, Crossing, after, legal_plan, pack, unpack, crossings}
use Rattle.paper.specs.Order.{Order}
use Rattle.paper.specs.Dependence.{count_of}
use Rattle.paper.specs.Docket.{yard_of}
use Rattle.paper.specs.Answers.{check, first_six}
use Rattle.paper.proofs.Tests.{by_cases, by-option, some_same, never-some}
use Rattle.paper.proofs.Admitted.{clean_of, of-clean}
use Rattle.paper.proofs.Checking.{check-passed, passed-check}
use Rattle.trips.specs.Trips.{LeftOf, nothing, keeping, taking, is_of, last_return, kept, cut, cuts, shorten}
use Rattle.trips.proofs.Dropping.{kept-own, kept-other, kept-zero, cuts-legal}
use Rattle.trips.proofs.Leaving.{left-same, left-twice, left-length, left-count, left-reads}

kept-nil : (c : Carrier) (n : ℕ) → kept c n [] ≡ []
unfolding kept filter
kept-nil c zero = refl
kept-nil c (suc n) = refl

pub kept-left : (c : Carrier) (n : ℕ) (xs : List Crossing) → LeftOf (kept c n xs) xs
kept-left c zero xs = rw kept-zero (left-same xs)
kept-left c (suc n) [] = rw kept-nil nothing
kept-left c (suc n) (x ∷ xs) =
    by_cases (is_of c x)
    (λ e. rw (kept-own c n x xs e) (taking (kept-left c n xs)))
    (λ e. rw (kept-other c n x xs e) (keeping (kept-left c n xs)))

-- every way in which a cut comes about
pub by-cut : {P : Type 0} (x : Crossing) (xs ys : List Crossing) → cut (x ∷ xs) ≡ some ys
    → ((n : ℕ) → last_return x.carrier x.from xs ≡ some n → kept x.carrier n xs ≡ ys → P)
    → (last_return x.carrier x.from xs ≡ none → (zs : List Crossing) → cut xs ≡ some zs → x ∷ zs ≡ ys → P)
    → P
unfolding cut
by-cut x xs ys h here later =
    by-option (last_return x.carrier x.from xs)
    (λ r. by-option (cut xs) (λ e. never-some ys (rw (r, e) at h)) (λ zs e. later r zs e (some_same (rw (r, e) at h))))
    (λ n r. here n r (some_same (rw r at h)))

pub no_cut : {P : Type 0} (ys : List Crossing) → cut [] ≡ some ys → P
unfolding cut
no_cut ys h = never-some ys h

none-cut : cut [] ≡ none
unfolding cut
none-cut = refl

pub cut_left : (xs ys : List Crossing) → cut xs ≡ some ys → LeftOf ys xs
cut_left [] ys h = no_cut ys h
cut_left (x ∷ xs) ys h =
    by-cut x xs ys h
    (λ n r same. rw (← same) (taking (kept-left x.carrier n xs)))
    (λ r zs e same. rw (← same) (keeping (cut_left xs zs e)))

-- a cut drops the leaving at least
pub cut-shorter : (xs ys : List Crossing) → cut xs ≡ some ys → length ys < length xs
cut-shorter [] ys h = no_cut ys h
cut-shorter (x ∷ xs) ys h =
    by-cut x xs ys h
    (λ n r same. let z = left-length (kept-left x.carrier n xs) in rw (← same) (omega arith))
    (λ r zs e same. let z = cut-shorter xs zs e in rw (← same) (omega arith))

pub cuts-left : (k : ℕ) (xs : List Crossing) → LeftOf (cuts k xs) xs
unfolding cuts
cuts-left zero xs = left-same xs
cuts-left (suc k) xs =
    by-option (cut xs) (λ e. rw e (left-same xs)) (λ ys e. rw e (left-twice (cuts-left k ys) (cut_left xs ys e)))

-- as many cuts as crossings leave no trip
pub cuts-end : (k : ℕ) (xs : List Crossing) → length xs ≤ k → cut (cuts k xs) ≡ none
unfolding cuts
cuts-end zero [] h = none-cut
cuts-end zero (x ∷ xs) h = absurd (omega arith)
cuts-end (suc k) xs h =
    by-option (cut xs) (λ e. rw (e, e)) (λ ys e. let z = cut-shorter xs ys e in rw e (cuts-end k ys (omega arith)))

-- where there is no trip nothing changes
pub cuts-done : (k : ℕ) (xs : List Crossing) → cut xs ≡ none → cuts k xs ≡ xs
unfolding cuts
cuts-done zero xs h = refl
cuts-done (suc k) xs h = rw h

-- more cuts than enough change nothing, so a plan shortens as what its first cut leaves does
cuts-enough : (k l : ℕ) (xs : List Crossing) → length xs ≤ k → length xs ≤ l → cuts k xs ≡ cuts l xs
unfolding cuts
cuts-enough zero l [] h j = sym (cuts-done l [] none-cut)
cuts-enough zero l (x ∷ xs) h j = absurd (omega arith)
cuts-enough (suc k) zero [] h j = cuts-done (suc k) [] none-cut
cuts-enough (suc k) zero (x ∷ xs) h j = absurd (omega arith)
cuts-enough (suc k) (suc l) xs h j =
    by-option (cut xs) (λ e. rw e) (λ ys e. let z = cut-shorter xs ys e in rw e (cuts-enough k l ys (omega arith) (omega arith)))

pub shorten-cut : (xs ys : List Crossing) → cut xs ≡ some ys → shorten xs ≡ shorten ys
unfolding cuts
shorten-cut [] ys e = no_cut ys e
shorten-cut (x ∷ xs) ys e = let z = cut-shorter (x ∷ xs) ys e in rw e (cuts-enough (length xs) (length ys) ys (omega arith) (omega arith))

-- What the request promises of what comes out, for a plan that is legal from p.
pub record Shortened (Y : Yard) (p : Placement) (xs ys : List Crossing) : Type 0 where
  -- "legal from the same start, ends at the same placement,
  pub lawful : legal_plan Y p ys ≡ true
  pub same_end : after p ys ≡ after p xs
  -- is no longer, keeps the order of the rest,
  pub no_longer : length ys ≤ length xs
  pub in_order : LeftOf ys xs
  -- and shortening it again changes nothing": there is no trip left in it.
  pub no-trip : cut ys ≡ none
  pub again : shorten ys ≡ ys
  -- Nobody pays more for it.
  pub bills : (c : Carrier) → count_of c ys ≤ count_of c xs

pub shorten-shortens : (Y : Yard) (p : Placement) (xs : List Crossing) → legal_plan Y p xs ≡ true → Shortened Y p xs (shorten xs)
shorten-shortens Y p xs h =
    let legal = cuts-legal Y (length xs) p xs h in
    let left = cuts-left (length xs) xs in
    let over = cuts-end (length xs) xs (omega arith) in
    record {
      lawful = legal.0;
      same_end = legal.1;
      no_longer = left-length left;
      in_order = left;
      no-trip = over;
      again = cuts-done (length (shorten xs)) (shorten xs) over;
      bills = λ c. left-count c left;
    }

-- 1 to 6 do not refuse a shorter plan where they pass a longer one
fewer : (o : Order) (l m : ℕ) → first_six o l ≡ none → m ≤ l → first_six o m ≡ none
fewer o l m h k =
    let c = clean_of o l h in
    let z = c.sizes in
    let short = z.short-plan in
    of-clean o m (record {
      sizes = record {
        enough-bays = z.enough-bays;
        few_bays = z.few_bays;
        few-rails = z.few-rails;
        even-ends = z.even-ends;
        same_length = z.same_length;
        short-plan = omega arith;
      };
      rails = c.rails;
      reached = c.reached;
      uncrowded = c.uncrowded;
      starts = c.starts;
      goals = c.goals;
    })

-- What comes out of a plan that passes the check passes it too, and its numbers read as its crossings.
pub shortened-passes : (o : Order) (plan : List ℕ) → check o plan ≡ none
    → (check o (map pack (shorten (crossings plan))) ≡ none)
    × (crossings (map pack (shorten (crossings plan))) ≡ shorten (crossings plan))
shortened-passes o plan h =
    let p = check-passed o plan h in
    let xs = crossings plan in
    let m = shorten-shortens (yard_of o) o.starts xs p.lawful in
    let back = left-reads plan (shorten xs) m.in_order in
    let short : length (map pack (shorten xs)) ≤ length plan =
    omega (arith, m.no_longer, length-map plan unpack, length-map (shorten xs) pack) in (
      passed-check o (map pack (shorten xs)) (record {
        sound = fewer o (length plan) (length (map pack (shorten xs))) p.sound short;
        lawful = rw back m.lawful;
        home = rw back (m.same_end ∙ p.home);
      }),
      back,
    )
