-- The queue of a search: from its bays up to a place all that they lead to is in it, and each bay of it was met from the first that is
-- joined to it, those of one bay rising.
-- Assumes nothing.
use Rattle.std.specs.Prelude.{◌≡◌, true, false, List, ◌⊎◌, ℕ, ◌*◌, ◌≤◌, ◌<◌, length, get_or, take}
use Rattle.paper.specs.Basics.{◌or◌, elem, In, NoDup}
use Rattle.words.specs.Sets.{mem, mem_row, words, span}

-- a rail leads from the bay at place l of the queue to z, which is not held
abbrev pub Leads : List ℕ → List ℕ → List ℕ → ℕ → ℕ → Type 0
Leads table held queue l z = (mem_row table (get_or queue l 0) z ≡ true) × (mem held z ≡ false)

-- Where the bay at place j was met from. What an earlier bay leads to stands before it, and of what that same bay leads to, what is lower.
pub record Parent (table held queue before : List ℕ) (done j : ℕ) : Type 0 where
  pub place : ℕ
  pub earlier : place < j
  pub passed : place < done
  pub there : get_or before (get_or queue j 0) 0 ≡ get_or queue place 0
  pub rail : mem_row table (get_or queue place 0) (get_or queue j 0) ≡ true
  pub first : (l z : ℕ) → z < span → (l < place) ⊎ ((l ≡ place) × (z < get_or queue j 0)) → Leads table held queue l z → In z (take j queue)

-- every number in the list is a bay's
abbrev pub Low : List ℕ → Type 0
Low before = (y : ℕ) → get_or before y 0 < span

-- the bays below `done` of the queue have been passed
pub record Met (n : ℕ) (table held : List ℕ) (x : ℕ) (seen queue before : List ℕ) (done : ℕ) : Type 0 where
  pub rails : (a b : ℕ) → a < n → b < span → mem_row table a b ≡ true → b < n
  pub starts : get_or queue 0 0 ≡ x
  pub inside : (b : ℕ) → In b queue → b < n
  pub unheld : (b : ℕ) → In b queue → mem held b ≡ false
  pub once : NoDup queue
  pub seeing : (b : ℕ) → b < span → mem seen b ≡ mem held b or elem b queue
  pub parent : (j : ℕ) → 0 < j → j < length queue → Parent table held queue before done j
  pub low : Low before
  pub looked : (l z : ℕ) → l < done → z < span → Leads table held queue l z → In z queue

-- the first `count` bays of the room are the queue of some search
abbrev pub Standing : ℕ → List ℕ → List ℕ → List ℕ → List ℕ → ℕ → ℕ → Type 0
Standing n table seen met before done count = (held : List ℕ) × (x : ℕ) × Met n table held x seen (take count met) before done

-- the bays up to `done` have been passed, and what they led to stands behind the first `count`, which are as they were
pub record Passed (n : ℕ) (table held : List ℕ) (x : ℕ) (met : List ℕ) (count : ℕ) (seen' met' before' : List ℕ) (done r : ℕ) : Type 0 where
  pub queue : Met n table held x seen' (take r met') before' done
  pub kept : take count met' ≡ take count met
  pub more : count ≤ r
  pub most : r ≤ n

-- ## What is asked, what is said

-- the path back from e, in room for its d rails
pub record TraceAsks (before : List ℕ) (e d : ℕ) (path : List ℕ) : Type 0 where
  pub before_size : length before ≡ span
  pub inside : e < span
  pub room : d < length path
  pub low : Low before

-- the bays from `start` to `count` are still to be passed, in room for every bay
pub record PassAsks (n : ℕ) (table : List ℕ) (start count : ℕ) (seen met before : List ℕ) : Type 0 where
  pub most : n ≤ span
  pub table_size : n * words ≤ length table
  pub some_left : start < count
  pub few : count ≤ n
  pub seen_size : length seen ≡ words
  pub room : n ≤ length met
  pub before_size : length before ≡ span
  pub standing : Standing n table seen met before start count

-- they are passed
pub record PassSays (n : ℕ) (table : List ℕ) (start count : ℕ) (seen met before seen' met' before' : List ℕ) (r : ℕ) : Type 0 where
  pub passes : (held : List ℕ) (x : ℕ) → Met n table held x seen (take count met) before start → Passed n table held x met count seen' met' before' count r
