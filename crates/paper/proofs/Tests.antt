-- Taking tests and missing answers apart.
use Rattle.std.specs.Prelude.{if◌then◌else◌}
use mathlib.Core.Path.{◌≡◌, refl, sym, ◌∙◌}
use mathlib.Core.Bool.{Bool, true, false, true≢false}
use mathlib.Core.Option.{Option, none, some}
use Prim.Native.Nat.{ℕ}
use native.Mathlib.Omega.{arith}
use Rattle.paper.specs.Basics.{◌and◌, ◌or◌, ◌>>=◌, or_else, when}
use Rattle.paper.specs.Text.{Read, good, bad_line}

pub by_cases : {P : Type 0} (b : Bool) → (b ≡ true → P) → (b ≡ false → P) → P
by_cases true f g = f refl
by_cases false f g = g refl

pub by-option : {A P : Type 0} (o : Option A) → (o ≡ none → P) → ((a : A) → o ≡ some a → P) → P
by-option none f g = f refl
by-option (some a) f g = g a refl

pub not-both : {P : Type 0} {b : Bool} → b ≡ true → b ≡ false → P
not-both e f = absurd (true≢false (sym e ∙ f))

pub never-some : {A P : Type 0} (a : A) → none ≡ some a → P
never-some a h = let z : ◌≡◌ {A = ℕ} 0 1 = cc in absurd (omega arith)

pub some_same : {A : Type 0} {a b : A} → some a ≡ some b → a ≡ b
some_same h = cc

pub and_left : (a b : Bool) → a and b ≡ true → a ≡ true
unfolding ◌and◌
and_left true b e = refl
and_left false b e = e

pub and_right : (a b : Bool) → a and b ≡ true → b ≡ true
unfolding ◌and◌
and_right true b e = e
and_right false b e = cc

pub and_both : (a b : Bool) → a ≡ true → b ≡ true → a and b ≡ true
unfolding ◌and◌
and_both a b e f = rw (e, f)

pub and-true : (a : Bool) → a and true ≡ a
unfolding ◌and◌
and-true true = refl
and-true false = refl

pub or-false : (a : Bool) → a or false ≡ a
unfolding ◌or◌
or-false true = refl
or-false false = refl

-- a test answered by a test
pub same_test : (t : Bool) → (if t then true else false) ≡ t
same_test true = refl
same_test false = refl

pub or_left : (a b : Bool) → a ≡ true → a or b ≡ true
unfolding ◌or◌
or_left a b e = rw e

pub or_right : (a b : Bool) → b ≡ true → a or b ≡ true
unfolding ◌or◌
or_right true b e = refl
or_right false b e = e

pub or_cases : {P : Type 0} (a b : Bool) → a or b ≡ true → (a ≡ true → P) → (b ≡ true → P) → P
unfolding ◌or◌
or_cases true b e f g = f refl
or_cases false b e f g = g e

pub or-none : (a b : Bool) → a or b ≡ false → (a ≡ false) × (b ≡ false)
unfolding ◌or◌
or-none true b h = (h, not-both refl h)
or-none false b h = (refl, h)

pub or-neither : (a b : Bool) → a ≡ false → b ≡ false → a or b ≡ false
unfolding ◌or◌
or-neither a b e f = rw (e, f)

-- an order of tests that ends in none: each gave none
pub none_both : {A : Type 0} (a b : Option A) → or_else a b ≡ none → (a ≡ none) × (b ≡ none)
none_both none b h = (refl, h)
none_both (some x) b h = never-some x (sym h)

pub none_from : {A B : Type 0} (f : A → B) (o : Option A) → (o >>= λ a. some (f a)) ≡ none → o ≡ none
none_from f none h = refl
none_from f (some a) h = never-some (f a) (sym h)

pub none-when : {A : Type 0} (b : Bool) (a : A) → when b a ≡ none → b ≡ false
none-when true a h = never-some a (sym h)
none-when false a h = refl

-- an order of tests that ends in an answer: the first one's, or the second's where the first gave none
pub either : {A P : Type 0} (a b : Option A) {r : A} → or_else a b ≡ some r → (a ≡ some r → P) → (a ≡ none → b ≡ some r → P) → P
either none b h f g = g refl h
either (some x) b h f g = f h

pub some-when : {A : Type 0} (b : Bool) (a : A) {r : A} → when b a ≡ some r → (b ≡ true) × (a ≡ r)
some-when true a h = (refl, cc)
some-when false a h = never-some _ h

pub some-from : {A B : Type 0} (f : A → B) (o : Option A) {r : B} → (o >>= λ a. some (f a)) ≡ some r → (a : A) × (o ≡ some a) × (f a ≡ r)
some-from f none h = never-some _ h
some-from f (some a) h = (a, refl, cc)

-- nothing follows from two constructors being equal, which `cc` turns into this
pub never : {P : Type 0} → ◌≡◌ {A = ℕ} 0 1 → P
never z = absurd (omega arith)

-- ## What was read

pub by_read : {A P : Type 0} (r : Read A) → ((a : A) → r ≡ good a → P) → ((n : ℕ) → r ≡ bad_line n → P) → P
by_read (good a) f g = f a refl
by_read (bad_line n) f g = g n refl

pub good-same : {R : Type 0} {r q : R} → good r ≡ good q → r ≡ q
good-same h = cc

pub bad-same : {R : Type 0} {m n : ℕ} → ◌≡◌ {A = Read R} (bad_line m) (bad_line n) → m ≡ n
bad-same h = cc

pub not_good : {R P : Type 0} {r : R} {n : ℕ} → good r ≡ bad_line n → P
not_good h = never (cc)
