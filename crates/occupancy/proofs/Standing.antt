-- The set of occupied bays has as many members as the paper's list of them: both are the bays below n where a carrier stands.
use mathlib.Core.Path.{◌≡◌, refl, sym, ap, ◌∙◌}
use mathlib.Core.Bool.{Bool, true, false}
use mathlib.Core.List.{List, [], ◌∷◌, ◌++◌}
use Prim.Native.Nat.{ℕ, zero, suc, ◌+◌, ◌-◌, ◌*◌, ◌≤◌, ◌<◌}
use native.Mathlib.Numerals.{add-one}
use native.Mathlib.Omega.{arith}
use lib.Dec.{eqb, ltb}
use lib.ListN.{length, get_or, take, length-append}
use lib.Seq.{take-suc, take_all}
use borrow.Author.Tests.{ltb-true, lt-ltb, le-ltb, eqb-true}
use Rattle.paper.specs.Basics.{◌and◌, ◌or◌, filter, elem, count_from, up_to}
use Rattle.paper.specs.Yard.{Bay, Placement, occupied}
use Rattle.paper.proofs.Tests.{by_cases, not-both, and_left, and_right, and_both}
use Rattle.paper.proofs.Members.{elem-last, filter-append, filter-in, filter_passes, in-filter, in_count, count-high, count_low}
use Rattle.paper.proofs.Admitted.{same-filter, filter-nothing}
use Rattle.words.specs.Sets.{mem, members, words, span}
use Rattle.words.proofs.Sets.{count-split, or-false}
use Rattle.words.proofs.Besides.{equal-tests}
use Rattle.occupancy.specs.Standing.{Occupies}

-- bay b is one of the n, and one of the list
abbrev pub stands : ℕ → List Bay → Bay → Bool
stands n bays b = ltb b n and elem b bays

stands-occupied : (n : ℕ) (place : Placement) (b : Bay) → stands n place b ≡ elem b (occupied n place)
unfolding occupied
stands-occupied n place b =
    equal-tests _ _
    (λ h. in-filter (λ x. elem x place) (up_to n) b (in_count 0 n b (omega arith) (let k = ltb-true b n (and_left _ _ h) in omega arith)) (and_right _ _ h))
    (λ i.
    let k = count-high 0 n b (filter-in (λ x. elem x place) (up_to n) b i) in
    and_both _ _ (lt-ltb b n (omega arith)) (filter_passes (λ x. elem x place) (up_to n) b i))

stands-inside : (n : ℕ) (bays : List Bay) (b : Bay) → b < n → stands n bays b ≡ elem b bays
unfolding ◌and◌
stands-inside n bays b h = rw (lt-ltb b n h)

stands-outside : (n : ℕ) (bays : List Bay) (b : Bay) → n ≤ b → stands n bays b ≡ false
unfolding ◌and◌
stands-outside n bays b h = rw (le-ltb b n h)

-- ---- the loop over the carriers

-- what joining bay b does, if it is one of the n and if it is not
pub left_out : (n b x : ℕ) (m : Bool) → n ≤ b → m ≡ m or (ltb b n and eqb x b)
left_out n b x m h = let no : ltb b n and eqb x b ≡ false = unfold ◌and◌ in rw (le-ltb b n h) in sym (or-false m _ no)

pub joins : (n b x : ℕ) (m : Bool) → b < n → m or eqb x b ≡ m or (ltb b n and eqb x b)
unfolding ◌and◌
joins n b x m h = rw (lt-ltb b n h)

-- the set holds the bays, among n, of the first c carriers
pub record Occupying (n : ℕ) (place : Placement) (c : ℕ) (set : List ℕ) : Type 0 where
  pub same : (b : Bay) → mem set b ≡ stands n (take c place) b

pub occupying-none : (n : ℕ) (place : Placement) (set : List ℕ) → ((x : ℕ) → mem set x ≡ false) → Occupying n place 0 set
occupying-none n place set h = record {
  same = λ b. h b ∙ by_cases (ltb b n and elem b []) (λ e. not-both (and_right _ _ e) (unfold elem in refl)) (λ e. sym e);
}

and-or : (p q r : Bool) → p and (q or r) ≡ p and q or (p and r)
unfolding ◌and◌ ◌or◌
and-or true q r = refl
and-or false q r = refl

nothing-more : (p q r : Bool) → p and (q or false) ≡ p and q or (r and false)
unfolding ◌and◌ ◌or◌
nothing-more true true r = refl
nothing-more true false true = refl
nothing-more true false false = refl
nothing-more false q true = refl
nothing-more false q false = refl

one_more : (n : ℕ) (bays : List Bay) (x b : Bay) → stands n (bays ++ (x ∷ [])) b ≡ stands n bays b or (ltb x n and eqb b x)
one_more n bays x b =
    rw (elem-last b bays x)
    (by_cases (eqb b x)
    (λ e. let z = eqb-true b x e in rw z (and-or (ltb x n) (elem x bays) (eqb x x)))
    (λ e. rw e (nothing-more (ltb b n) (elem b bays) (ltb x n))))

pub occupying-more : (n : ℕ) (place : Placement) (c b : ℕ) (set set' : List ℕ) → c < length place → b ≡ get_or place c 0 → Occupying n place c set
    → ((x : ℕ) → mem set' x ≡ mem set x or (ltb b n and eqb x b)) → Occupying n place (c + 1) set'
occupying-more n place c b set set' h e o m = record {
  same = λ x.
      let one : take (suc c) place ≡ take c place ++ (b ∷ []) = take-suc place c 0 h ∙ rw e in
      m x ∙ rw (o.same x, add-one, one) (sym (one_more n (take c place) b x));
}

pub occupying-all : (n : ℕ) (place : Placement) (c : ℕ) (set : List ℕ) → length place ≤ c → Occupying n place c set → Occupies n place set
occupying-all n place c set h o =
    let all : take c place ≡ place = take_all c place h in
    record { same = λ b. (let s = o.same b in rw all at s) ∙ stands-occupied n place b }

-- ---- how many

filter-few : (q : ℕ → Bool) (a k : ℕ) → length (filter q (count_from a k)) ≤ k
unfolding filter count_from
filter-few q a zero = omega arith
filter-few q a (suc k) = let ih = filter-few q (suc a) k in by_cases (q a) (λ e. rw e (omega arith)) (λ e. rw e (omega arith))

module _ (n : ℕ) (place : Placement) (set : List ℕ) (most : n ≤ span) (long : length set ≡ words) (o : Occupies n place set) where
  pub occupied-few : length (occupied n place) ≤ n
  unfolding occupied
  occupied-few = filter-few (λ b. elem b place) 0 n

  below : length (filter (mem set) (up_to n)) ≡ length (occupied n place)
  unfolding occupied
  below =
      ap length
      (same-filter (λ b. elem b place) (mem set) (up_to n)
      (λ x i.
      let k = count-high 0 n x i in
      o.same x ∙ sym (stands-occupied n place x) ∙ stands-inside n place x (omega arith)))

  above : length (filter (mem set) (count_from n (span - n))) ≡ 0
  above =
      ap length
      (same-filter (λ x. elem x []) (mem set) (count_from n (span - n))
      (λ x i.
      let k = count_low n (span - n) x i in
      o.same x ∙ sym (stands-occupied n place x) ∙ stands-outside n place x k ∙ unfold elem in refl)
      ∙ filter-nothing (count_from n (span - n)))

  pub occupied-ones : length (members set) ≡ length (occupied n place)
  unfolding members
  occupied-ones =
      let e : 64 * length set ≡ n + (span - n) = omega arith in
      let d : 0 + n ≡ n = omega arith in
      rw (e, count-split 0 n (span - n), d, filter-append, length-append) (omega (arith, below, above))
