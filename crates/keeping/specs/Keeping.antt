-- The bays kept, one and then two, with what was played for them.
-- Assumes nothing.
use Rattle.std.specs.Prelude.{◌≡◌, Bool, true, List, [], ◌∷◌, ℕ, ◌≤◌, ◌<◌, ◌-◌, length, None, Some}
use Rattle.std.proofs.Math.Option.{none, some}
use Rattle.paper.specs.Basics.{filter, count_from, Out}
use Rattle.paper.specs.Procedure.{Made, only, vacate, Cleared, clearing}
use Rattle.paper.specs.Yard.{Bay, Yard, Placement}
use Rattle.words.specs.Sets.{mem, words, span}
use Rattle.rings.specs.Search.{Shown}
use Rattle.moving.specs.Bounds.{vacate_most}
use Rattle.acting.specs.Acting.{Tabled, HoldsTwo, nothing, Added, Tallied}
use Rattle.acting.specs.declared.Tally.{Tally}
use Rattle.keeping.specs.declared.First.{First}
use Rattle.keeping.specs.Kept.{Kept}
use Rattle.keeping.specs.declared.Two.{Two}
use Rattle.keeping.specs.declared.Two.TheVariants.{Both, Single, Short}
use Rattle.docket.specs.declared.Bay.{Bay as Numbered}

-- the members are among the n bays
pub record Among (n : ℕ) (ws : List ℕ) : Type 0 where
  pub low : (b : ℕ) → b < span → mem ws b ≡ true → b < n

-- ## One bay

-- the bay is small, and not too many crossings were made
abbrev pub KeptBy : Kept → Type 0
KeptBy (Some (x, m)) = (x.0 < span) × (m.crossings ≤ vacate_most)
KeptBy None = Unit {0}

-- none of the others from a on and below x can be vacated
abbrev pub Stuck : Yard → List Bay → List ℕ → ℕ → ℕ → Placement → Type 0
Stuck Y held others a x p = (y : ℕ) → a ≤ y → y < x → mem others y ≡ true → vacate Y held y p ≡ none

-- x is the first of the others from a on that can be vacated, and it was
pub record KeepsOne (Y : Yard) (held : List Bay) (others : List ℕ) (a n : ℕ) (p out p' standing' empty' out' : List ℕ) (x : ℕ) (m : Tally) : Type 0 where
  pub above : a ≤ x
  pub low : x < n
  pub other : mem others x ≡ true
  pub stuck : Stuck Y held others a x p
  pub made : Made
  pub vacated : vacate Y held x p ≡ some made
  pub played : Tallied made n p p' standing' empty' out nothing out' m

-- none of the others from a on can be vacated, and nobody has moved
pub record KeepsNone (Y : Yard) (held : List Bay) (others : List ℕ) (a n : ℕ) (p out p' standing' empty' out' : List ℕ) : Type 0 where
  pub stuck : Stuck Y held others a span p
  pub played : Tallied (only []) n p p' standing' empty' out nothing out' nothing

abbrev pub Keeps : Yard → List Bay → (others : List ℕ) → ℕ → ℕ → (p out p' standing' empty' out' : List ℕ) → Kept → Type 0
Keeps Y held others a n p out p' standing' empty' out' (Some (x, m)) = KeepsOne Y held others a n p out p' standing' empty' out' x.0 m
Keeps Y held others a n p out p' standing' empty' out' None = KeepsNone Y held others a n p out p' standing' empty' out'

-- ## Two bays

-- the bays are small, and at most k crossings were made
pub record TwoBy (k : ℕ) (r : Two) : Type 0 where
  pub few : (x y : Numbered) (m : Tally) → r ≡ Both x y m → (x.0 < span) × (y.0 < span) × (m.crossings ≤ k)
  pub single : (x : Numbered) (m : Tally) → r ≡ Single x m → (x.0 < span) × (m.crossings ≤ k)

-- one bay is kept, which is empty, and the crossings were played
pub record KeptAlone (c : Cleared) (n : ℕ) (p out : List ℕ) (at : Tally) (p' standing' empty' out' : List ℕ) (x : ℕ) (m : Tally) : Type 0 where
  pub kept : c.kept ≡ x ∷ []
  pub low : x < n
  pub free : Out x p'
  pub played : Tallied c.made n p p' standing' empty' out at out' m

-- as the paper's clearing: two bays are kept, or one, and its crossings were played; or none is kept
pub record Clears (c : Cleared) (n : ℕ) (p out : List ℕ) (at : Tally) (p' standing' empty' out' : List ℕ) (r : Two) : Type 0 where
  pub both : (x y : Numbered) (m : Tally) → r ≡ Both x y m → (c.kept ≡ x.0 ∷ y.0 ∷ []) × Tallied c.made n p p' standing' empty' out at out' m
  pub single : (x : Numbered) (m : Tally) → r ≡ Single x m → KeptAlone c n p out at p' standing' empty' out' x.0 m
  pub short : r ≡ Short → c.kept ≡ []

-- the same bays are kept, and what was made before is added
pub record After (made : Tally) (rest r : Two) : Type 0 where
  pub both : (x y : Numbered) (sum : Tally) → r ≡ Both x y sum → (more : Tally) × (rest ≡ Both x y more) × Added made more sum
  pub single : (x : Numbered) (sum : Tally) → r ≡ Single x sum → (more : Tally) × (rest ≡ Single x more) × Added made more sum
  pub short : r ≡ Short → rest ≡ Short

-- the members of a set of bays from a on and below n, rising
abbrev pub from : (ℕ → Bool) → ℕ → ℕ → List Bay
from q a n = filter q (count_from a (n - a))

-- ## What is asked, what is said

-- both were made by a vacate each
pub record AfterAsks (made : Tally) (rest : Two) : Type 0 where
  pub earlier : made.crossings ≤ vacate_most
  pub by : TwoBy vacate_most rest

-- the others are in the yard that the table shows, and the set has the bays held
pub record KeepAsks (table others held : List ℕ) (a : ℕ) (standing : List ℕ) : Type 0 where
  pub others_size : length others ≡ words
  pub held_size : length held ≡ words
  pub from_low : a ≤ span
  pub among : Among (length standing) others
  pub shown : Shown (length standing) table held

-- the first of the others from a on that can be vacated is kept
pub record KeepSays (table others held : List ℕ) (a : ℕ) (p standing out p' standing' empty' out' : List ℕ) (r : Kept) : Type 0 where
  pub few : KeptBy r
  pub keeps : (s : Shown (length standing) table held) → Keeps s.yard s.bays others a (length standing) p out p' standing' empty' out' r

-- two bays are held, and the one that is kept is empty
pub record KeepSecondAsks (others held : List ℕ) (first : First) (p standing : List ℕ) : Type 0 where
  pub others_size : length others ≡ words
  pub held_size : length held ≡ words
  pub from_low : first.from ≤ length standing
  pub inside : first.kept.0 < length standing
  pub among : Among (length standing) others
  pub holds : HoldsTwo held
  pub free : Out first.kept.0 p

-- the paper's clearing goes on through the others, with one bay kept and two held
pub record KeepSecondSays (table others held : List ℕ) (first : First) (p standing out p' standing' empty' out' : List ℕ) (r : Two) : Type 0 where
  pub few : TwoBy vacate_most r
  pub clears : (t : Tabled (length standing) table) (h : HoldsTwo held)
      → Clears (clearing t.yard h.one h.two (first.kept.0 ∷ []) (from (mem others) first.from (length standing)) p)
      (length standing) p out nothing p' standing' empty' out' r
