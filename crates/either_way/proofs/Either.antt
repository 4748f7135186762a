-- An attempt on copies is the paper's. Those before the first that succeeds all fail, since each starts from the same placement.
-- Assumes nothing.
use Rattle.std.proofs.lemmas.Option.{same_Some}
use Rattle.std.proofs.Common.{None, Some}
use mathlib.Core.Path.{◌≡◌, ◌∙◌, ap}
use mathlib.Core.Bool.{Bool, true, false}
use mathlib.Core.List.{List}
use mathlib.Core.Option.{Option, none, some}
use Prim.Native.Nat.{ℕ, suc, zero, ◌≤◌, ◌<◌, ◌-◌, ◌+◌}
use native.Mathlib.Omega.{arith}
use native.Mathlib.Decide.{ℕ_discrete, dec_lt}
use Rattle.paper.specs.Basics.{filter, first_of, count_from}
use Rattle.paper.specs.Yard.{Bay, Carrier, Yard, Placement}
use Rattle.paper.specs.Procedure.{Made, Action, first_kept, go_on}
use Rattle.paper.proofs.Tests.{by_cases, never, not-both}
use Rattle.words.specs.Sets.{mem, span, Lowest}
use Rattle.docket.specs.declared.Bay.{Bay as Numbered}
use Rattle.acting.specs.Acting.{nothing, Within, Tries}
use Rattle.acting.specs.declared.Tally.{Tally}
use Rattle.acting.specs.Tried.{Tried}
use Rattle.acting.proofs.Acting.{tried-done, tried-failed}
use Rattle.keeping.specs.Keeping.{from}
use Rattle.keeping.specs.Kept.{Kept}
use Rattle.attempts.specs.Asking.{KeptAsks}
use Rattle.attempts.specs.Attempting.{way_of, Logged, Attempts}
use Rattle.attempts.specs.declared.OneKept.{OneKept}
use Rattle.attempts.proofs.Attempting.{tallied-logged}
use Rattle.either_way.specs.Either.{FirstKept, Others}

-- ## An attempt

pub kept-copy : {one : OneKept} {placement standing : List ℕ} (p w : List ℕ) → p ≡ placement → w ≡ standing → KeptAsks one placement standing → KeptAsks one p w
kept-copy p w e d k = rw (e, d) k

pub within_more : (r : Tried) (at : Tally) (k d : ℕ) → k ≤ d → Within at k r → Within at d r
within_more None at k d h w = tt
within_more (Some m) at k d h w = omega arith

pub attempted : {o : Option Made} {n : ℕ} {p log₀ p' standing' empty' log : List ℕ} {r : Tried} → Tries o n p log₀ nothing p' standing' empty' log r → Attempts o log r
attempted t = record { fails = λ z. tried-failed (rw z at t); done = λ m z. let d = tried-done (rw z at t) in (d.0, d.1, tallied-logged d.2) }

-- ## The first that succeeds

module _ {B : Type 0} (f : ℕ → Option B) (q : ℕ → Bool) where
  first-skip : (k a r : ℕ) → a ≤ r → ((y : ℕ) → a ≤ y → y < r → y < a + k → q y ≡ true → f y ≡ none)
      → first_of f (filter q (count_from a k)) ≡ first_of f (filter q (count_from r (a + k - r)))
  unfolding count_from filter first_of
  first-skip zero a r h g = let e : a + zero - r ≡ zero = omega arith in rw e
  first-skip (suc k) a r h g = elim (ℕ_discrete a r) [
    | yes e ↦ let d : a + suc k - a ≡ suc k = omega arith in rw (← e, d)
    | no e ↦
        let d : suc a + k - r ≡ a + suc k - r = omega arith in
        let next = first-skip k (suc a) r (omega arith) (λ y m l i w. g y (omega arith) l (omega arith) w) in
        by_cases (q a)
        (λ w. rw (w, g a (omega arith) (omega arith) (omega arith) w) (rw d at next))
        (λ w. rw w (rw d at next))
  ]

  first-none : (n : ℕ) → ((y : ℕ) → y < n → q y ≡ true → f y ≡ none) → first_of f (from q 0 n) ≡ none
  unfolding count_from filter first_of
  first-none n g =
      let e : 0 + (n - 0) - n ≡ 0 = omega arith in
      first-skip (n - 0) 0 n (omega arith) (λ y i l m w. g y l w) ∙ rw e

  first_some : (n x : ℕ) (z : B) → x < n → q x ≡ true → ((y : ℕ) → y < x → q y ≡ true → f y ≡ none) → f x ≡ some z → first_of f (from q 0 n) ≡ some z
  unfolding count_from filter first_of
  first_some n x z h w g e =
      let d : 0 + (n - 0) - x ≡ suc (n - (x + 1)) = omega arith in
      first-skip (n - 0) 0 x (omega arith) (λ y i l m u. g y l u) ∙ rw (d, w, e)

-- no attempt with one of the others below x succeeds
pub record Failing (way : Bay → Action) (others : List ℕ) (x : ℕ) (p : Placement) : Type 0 where
  pub fails : (y : ℕ) → y < x → mem others y ≡ true → way y p ≡ none

pub failing-none : (way : Bay → Action) (others : List ℕ) (x : ℕ) (p : Placement) → Lowest (mem others) 0 span x → Failing way others x p
failing-none way others x p l = record { fails = λ y h m. not-both m (l.before y (omega arith) h) }

pub failing-more : (way : Bay → Action) (others : List ℕ) (x x' : ℕ) (p : Placement) → Failing way others x p → way x p ≡ none → Lowest (mem others) (x + 1) span x' → Failing way others x' p
failing-more way others x x' p s e l = record {
  fails = λ y k m. elim (dec_lt y x) [
    | yes q ↦ s.fails y q m
    | no q ↦ elim (ℕ_discrete y x) [
      | yes z ↦ rw z e
      | no z ↦ not-both m (l.before y (omega arith) k)
    ]
  ];
}

pub kept-none : (Y : Yard) {way : Bay → Action} (e : Bay) {others : List ℕ} (n : ℕ) {x : ℕ} {p : Placement} (log : List ℕ) → n ≤ x → Failing way others x p
    → FirstKept (first_kept Y way e (from (mem others) 0 n) p) e log None
unfolding first_kept
kept-none Y e {others} n log h s = record { one = λ x m z. never (cc); nothing = λ z. first-none _ (mem others) n (λ y l m. rw (s.fails y (omega arith) m)) }

pub kept-one : (Y : Yard) {way : Bay → Action} (e : Bay) {others : List ℕ} (n : ℕ) {p : Placement} {log : List ℕ} {k : Tally} (x : Numbered) → x.0 < n → mem others x.0 ≡ true → Failing way others x.0 p
    → (made : Made) × (way x.0 p ≡ some made) × Logged made log k → FirstKept (first_kept Y way e (from (mem others) 0 n) p) e log (Some (x, k))
unfolding first_kept
kept-one Y e {others} n {k = k} x h m s d = record {
  one = λ y i z.
      let q = same_Some _ _ z in
      let a : x ≡ y = ap (λ t. t.0) q in
      let b : k ≡ i = ap (λ t. t.1) q in
      rw (← a, ← b) (d.0, first_some _ (mem others) n x.0 _ h m (λ y l w. rw (s.fails y l w)) (rw d.1), d.2);
  nothing = λ z. never (cc);
}

-- ## Either way

pub first_way : (Y : Yard) (L M : Carrier) (v b e : Bay) (p : Placement) (n : ℕ) (others : List ℕ) {log : List ℕ} {x : Numbered} {k : Tally} → Others Y v b e n others
    → FirstKept (first_kept Y (way_of false Y L M v b e) e (from (mem others) 0 n) p) e log (Some (x, k)) → FirstKept (go_on Y L M v b e p) e log (Some (x, k))
unfolding go_on
first_way Y L M v b e p n others o d = record {
  one = λ y i z. let w = d.one y i z in (w.0, rw (o, w.1), w.2);
  nothing = λ z. never (cc);
}

pub second_way : (Y : Yard) (L M : Carrier) (v b e : Bay) (p : Placement) (n : ℕ) (others : List ℕ) {log : List ℕ} {r : Kept} → Others Y v b e n others
    → first_kept Y (way_of false Y L M v b e) e (from (mem others) 0 n) p ≡ none → FirstKept (first_kept Y (way_of true Y L M v b e) e (from (mem others) 0 n) p) e log r → FirstKept (go_on Y L M v b e p) e log r
unfolding go_on
second_way Y L M v b e p n others o f d = record {
  one = λ y i z. let w = d.one y i z in (w.0, rw (o, f, w.1), w.2);
  nothing = λ z. rw (o, f, d.nothing z);
}
