-- The first of a list of tests that applies: tests that go one by one as rows say give together what the rows say in that order. It
-- holds for answers of any kind that are told apart by a number and a value.
use mathlib.Core.Path.{◌≡◌, refl, sym, ◌∙◌, ap}
use mathlib.Core.Bool.{Bool, true, false}
use mathlib.Core.List.{List, [], ◌∷◌, ◌++◌}
use mathlib.Core.Logic.{◌↔◌, ◌⊎◌, inl, inr, ⊎_elim}
use mathlib.Core.Option.{Option, none, some}
use Prim.Native.Nat.{ℕ}
use lib.Dec.{eqb}
use borrow.Author.Tests.{eqb-true, eqb-false, eq-eqb, ne_eqb, not-true}
use Rattle.paper.specs.Basics.{if_some◌then◌else◌, ◌>>=◌, or_else, when, elem}
use Rattle.paper.proofs.Tests.{by_cases, by-option, not-both, never-some, some_same, and_left, and_right, none_both, none_from, none-when, either, some-when, some-from}
use Rattle.exactly.specs.First.{Row, plain, carrying, number_in, Applies, Passed, NoneOf, Given, numbers_of, distinct}

-- the same without looking at the numbers: some row applies, and none before it does
abbrev pub First : List Row → ℕ → Option ℕ → Type 0
First [] k v = ⊥
First (row ∷ rows) k v = ((k ≡ number_in row) × Applies row v) ⊎ (Passed row × First rows k v)

applies-passed : (row : Row) (v : Option ℕ) → Applies row v → Passed row → ⊥
applies-passed (plain k P) none a n = n a
applies-passed (plain k P) (some v) a n = a
applies-passed (carrying k W) none a n = a
applies-passed (carrying k W) (some v) a n = n v a

first-none : (rows : List Row) (k : ℕ) (v : Option ℕ) → First rows k v → NoneOf rows → ⊥
first-none [] k v f n = f
first-none (row ∷ rows) k v f n = ⊎_elim (λ a. applies-passed row v a.1 n.0) (λ r. first-none rows k v r.1 n.1) f

first-left : (rows more : List Row) (k : ℕ) (v : Option ℕ) → First rows k v → First (rows ++ more) k v
first-left [] more k v f = absurd f
first-left (row ∷ rows) more k v f = ⊎_elim (λ a. inl a) (λ r. inr (r.0, first-left rows more k v r.1)) f

first-right : (rows more : List Row) (k : ℕ) (v : Option ℕ) → NoneOf rows → First more k v → First (rows ++ more) k v
first-right [] more k v n f = f
first-right (row ∷ rows) more k v n f = inr (n.0, first-right rows more k v n.1 f)

first-split : {P : Type 0} (rows more : List Row) (k : ℕ) (v : Option ℕ) → First (rows ++ more) k v
    → (First rows k v → P) → (NoneOf rows → First more k v → P) → P
first-split [] more k v f l r = r tt f
first-split (row ∷ rows) more k v f l r =
    ⊎_elim
    (λ a. l (inl a))
    (λ b. first-split rows more k v b.1 (λ c. l (inr (b.0, c))) (λ n c. r (b.0, n) c))
    f

none-append : (rows more : List Row) → NoneOf rows → NoneOf more → NoneOf (rows ++ more)
none-append [] more n m = m
none-append (row ∷ rows) more n m = (n.0, none-append rows more n.1 m)

-- a number that is given is the number of one of the rows
first-number : (rows : List Row) (k : ℕ) (v : Option ℕ) → First rows k v → elem k (numbers_of rows) ≡ true
unfolding elem
first-number [] k v f = absurd f
first-number (row ∷ rows) k v f =
    by_cases (eqb k (number_in row))
    (λ e. rw e)
    (λ e. ⊎_elim (λ a. not-both (eq-eqb k (number_in row) a.0) e) (λ r. rw e (first-number rows k v r.1)) f)

first-given : (rows : List Row) (k : ℕ) (v : Option ℕ) → distinct (numbers_of rows) ≡ true → First rows k v → Given rows k v
unfolding distinct
first-given [] k v d f = f
first-given (row ∷ rows) k v d f =
    by_cases (eqb (number_in row) k)
    (λ e. rw e (⊎_elim
    (λ a. a.1)
    (λ r. not-both (ap (λ j. elem j (numbers_of rows)) (eqb-true _ _ e) ∙ first-number rows k v r.1) (not-true _ (and_left _ _ d)))
    f))
    (λ e. rw e (⊎_elim
    (λ a. absurd (eqb-false _ _ e (sym a.0)))
    (λ r. (r.0, first-given rows k v (and_right _ _ d) r.1))
    f))

given-first : (rows : List Row) (k : ℕ) (v : Option ℕ) → Given rows k v → First rows k v
given-first [] k v g = g
given-first (row ∷ rows) k v g =
    by_cases (eqb (number_in row) k)
    (λ e. inl (sym (eqb-true _ _ e), rw e at g))
    (λ e. let h : Passed row × Given rows k v = rw e at g in inr (h.0, given-first rows k v h.1))

-- what is given is the number of one of the rows
pub given-number : (rows : List Row) (k : ℕ) (v : Option ℕ) → Given rows k v → elem k (numbers_of rows) ≡ true
given-number rows k v g = first-number rows k v (given-first rows k v g)

-- Past rows of other numbers: none of them applies, and the rest decides.
pub given-past : (rows more : List Row) (k : ℕ) (v : Option ℕ) → elem k (numbers_of rows) ≡ false → Given (rows ++ more) k v ↔ (NoneOf rows × Given more k v)
unfolding elem
given-past [] more k v h = (λ g. (tt, g), λ g. g.1)
given-past (row ∷ rows) more k v h =
    by_cases (eqb k (number_in row))
    (λ e. not-both refl (rw e at h))
    (λ e.
    let other : eqb (number_in row) k ≡ false = ne_eqb (number_in row) k (λ q. eqb-false k (number_in row) e (sym q)) in
    let ih = given-past rows more k v (rw e at h) in
    rw other (λ g. let r = ih.0 g.1 in ((g.0, r.0), r.1), λ g. (g.0.0, ih.1 (g.0.1, g.1))))

-- of one row alone
only : {P : Type 0} (row : Row) (k : ℕ) (v : Option ℕ) → First (row ∷ []) k v → (k ≡ number_in row → Applies row v → P) → P
only row k v f g = ⊎_elim (λ a. g a.0 a.1) (λ r. absurd r.1) f

moved : (rows : List Row) (k k' : ℕ) (v v' : Option ℕ) → k ≡ k' → v ≡ v' → First rows k v → First rows k' v'
moved rows k k' v v' e g f = rw (← e, ← g) f

applies-plain : (k : ℕ) (P : Type 0) (v : Option ℕ) → v ≡ none → P → Applies (plain k P) v
applies-plain k P none e p = p
applies-plain k P (some v) e p = never-some v (sym e)

plain-applies : (k : ℕ) (P : Type 0) (v : Option ℕ) → Applies (plain k P) v → (v ≡ none) × P
plain-applies k P none a = (refl, a)
plain-applies k P (some v) a = absurd a

applies-carrying : (k : ℕ) (W : ℕ → Type 0) (v : Option ℕ) (w : ℕ) → v ≡ some w → W w → Applies (carrying k W) v
applies-carrying k W none w e p = never-some w e
applies-carrying k W (some v) w e p = let q : v ≡ w = some_same e in rw q p

carrying-applies : (k : ℕ) (W : ℕ → Type 0) (v : Option ℕ) → Applies (carrying k W) v → (w : ℕ) × (v ≡ some w) × W w
carrying-applies k W none a = absurd a
carrying-applies k W (some v) a = (v, refl, a)

-- ## The law

module _ {A : Type 0} (number : A → ℕ) (value : A → Option ℕ) where
  -- the tests give what the rows say, and nothing where no row applies
  pub record Reads (t : Option A) (rows : List Row) : Type 0 where
    pub given : (a : A) → t ≡ some a → First rows (number a) (value a)
    pub back : (a : A) → First rows (number a) (value a) → t ≡ some a
    pub passed : t ≡ none → NoneOf rows

  -- no row applies: nothing is given
  pub nothing-given : {t : Option A} {rows : List Row} → Reads t rows → NoneOf rows → t ≡ none
  nothing-given {t} {rows} r n = by-option t (λ e. e) (λ a e. absurd (first-none rows (number a) (value a) (r.given a e) n))

  -- what no row has the number of is never given
  pub never-given : {t : Option A} {rows : List Row} → Reads t rows → (a : A) → elem (number a) (numbers_of rows) ≡ false → t ≡ some a → ⊥
  never-given {t} {rows} r a h e = not-both (first-number rows (number a) (value a) (r.given a e)) h

  -- one test after others, which may rely on their having passed
  pub after-it : {t u : Option A} {rows more : List Row} → Reads t rows → (t ≡ none → Reads u more) → Reads (or_else t u) (rows ++ more)
  after-it {t} {u} {rows} {more} r s = record {
    given = λ a e. either t u e
        (λ h. first-left rows more (number a) (value a) (r.given a h))
        (λ n h. first-right rows more (number a) (value a) (r.passed n) ((s n).given a h));
    back = λ a f. first-split rows more (number a) (value a) f
        (λ c. rw (r.back a c))
        (λ n c. let e = nothing-given r n in rw e ((s e).back a c));
    passed = λ e. let b = none_both t u e in none-append rows more (r.passed b.0) ((s b.0).passed b.1);
  }

  -- What the tests give is exactly what the rows say: the row with its number applies, and none of those before it.
  pub exactly : {t : Option A} {rows : List Row} → Reads t rows → distinct (numbers_of rows) ≡ true
      → (a : A) → (t ≡ some a) ↔ Given rows (number a) (value a)
  exactly {t} {rows} r d a = (
    λ e. first-given rows (number a) (value a) d (r.given a e),
    λ g. r.back a (given-first rows (number a) (value a) g),
  )

  pub nothing-exactly : {t : Option A} {rows : List Row} → Reads t rows → (t ≡ none) ↔ NoneOf rows
  nothing-exactly r = (r.passed, nothing-given r)

  -- number and value tell this answer from any other
  abbrev pub ToldApart : A → Type 0
  ToldApart a = (c : A) → number a ≡ number c → value a ≡ value c → a ≡ c

  -- a test that carries nothing
  pub plain-test : (P : Type 0) (b : Bool) (a : A) → ToldApart a → value a ≡ none → (b ≡ true) ↔ P → Reads (when b a) (plain (number a) P ∷ [])
  plain-test P b a tells v f = record {
    given = λ c e.
        let w = some-when b a e in
        inl (ap number (sym w.1), applies-plain (number a) P (value c) (ap value (sym w.1) ∙ v) (f.0 w.0));
    back = λ c g. only (plain (number a) P) (number c) (value c) g
        (λ q w.
        let p = plain-applies (number a) P (value c) w in
        rw (f.1 p.1) (ap some (tells c (sym q) (v ∙ sym p.0))));
    passed = λ e. (λ p. not-both (f.1 p) (none-when b a e), tt);
  }

  -- a test that carries what it finds
  pub carrying-test : (W : ℕ → Type 0) (o : Option ℕ) (make : ℕ → A) (k : ℕ) → ((v : ℕ) → ToldApart (make v)) → ((v : ℕ) → number (make v) ≡ k) → ((v : ℕ) → value (make v) ≡ some v)
      → ((v : ℕ) → (o ≡ some v) ↔ W v) → Reads (o >>= λ v. some (make v)) (carrying k W ∷ [])
  carrying-test W o make k tells n c f = record {
    given = λ a e.
        let w = some-from make o e in
        inl (ap number (sym w.2) ∙ n w.0, applies-carrying k W (value a) w.0 (ap value (sym w.2) ∙ c w.0) ((f w.0).0 w.1));
    back = λ a g. only (carrying k W) (number a) (value a) g
        (λ q w.
        let p = carrying-applies k W (value a) w in
        rw ((f p.0).1 p.2) (ap some (tells p.0 a (n p.0 ∙ sym q) (c p.0 ∙ sym p.1))));
    passed = λ e. (λ v p. never-some v (sym (none_from make o e) ∙ (f v).1 p), tt);
  }

  -- a test that carries a number known before
  pub known-test : (W : ℕ → Type 0) (b : Bool) (make : ℕ → A) (known : ℕ) (k : ℕ) → ToldApart (make known) → number (make known) ≡ k → value (make known) ≡ some known
      → (b ≡ true → W known) → ((v : ℕ) → W v → (b ≡ true) × (v ≡ known)) → Reads (when b (make known)) (carrying k W ∷ [])
  known-test W b make known k tells n c f g = record {
    given = λ a e.
        let w = some-when b (make known) e in
        inl (ap number (sym w.1) ∙ n, applies-carrying k W (value a) known (ap value (sym w.1) ∙ c) (f w.0));
    back = λ a h. only (carrying k W) (number a) (value a) h
        (λ q w.
        let p = carrying-applies k W (value a) w in
        let z = g p.0 p.2 in
        rw z.0 (ap some (tells a (n ∙ sym q) (c ∙ ap some (sym z.1) ∙ sym p.1))));
    passed = λ e. (λ v p. not-both (g v p).0 (none-when b (make known) e), tt);
  }

-- The same tests, their answers told as another kind of answer.
module _ {A B : Type 0} (number : A → ℕ) (value : A → Option ℕ) (number' : B → ℕ) (value' : B → Option ℕ) (tell : A → B)
    (same_number : (a : A) → number' (tell a) ≡ number a) (same-value : (a : A) → value' (tell a) ≡ value a) where
  pub retold : {t : Option A} {rows : List Row} → Reads number value t rows
      → ((b : B) → elem (number' b) (numbers_of rows) ≡ true → (a : A) × (tell a ≡ b))
      → Reads number' value' (t >>= λ a. some (tell a)) rows
  retold {t} {rows} r comes = record {
    given = λ b e.
        let w = some-from tell t e in
        let a = w.0 in
        let n : number' b ≡ number a = ap number' (sym w.2) ∙ same_number a in
        let v : value' b ≡ value a = ap value' (sym w.2) ∙ same-value a in
        moved rows (number a) (number' b) (value a) (value' b) (sym n) (sym v) (r.given a w.1);
    back = λ b f.
        let w = comes b (first-number rows (number' b) (value' b) f) in
        let a = w.0 in
        let n : number' b ≡ number a = ap number' (sym w.1) ∙ same_number a in
        let v : value' b ≡ value a = ap value' (sym w.1) ∙ same-value a in
        rw (r.back a (moved rows (number' b) (number a) (value' b) (value a) n v f)) (ap some w.1);
    passed = λ e. r.passed (none_from tell t e);
  }

-- ## An answer that is the tests', or else another

module _ {A : Type 0} (t : Option A) (other : A) where
  abbrev pub otherwise : A
  otherwise = if_some t then (λ a. a) else other

  pub otherwise-exactly : (a : A) → (a ≡ other → ⊥) → (otherwise ≡ a) ↔ (t ≡ some a)
  otherwise-exactly a n = (
    λ h. by-option t (λ e. absurd (n (sym h ∙ rw e))) (λ b e. e ∙ ap some (let q = rw e at h in q)),
    λ e. rw e,
  )

  pub other-exactly : (t ≡ some other → ⊥) → (otherwise ≡ other) ↔ (t ≡ none)
  other-exactly n = (
    λ h. by-option t (λ e. e) (λ b e. absurd (n (e ∙ ap some (let q = rw e at h in q)))),
    λ e. rw e,
  )
