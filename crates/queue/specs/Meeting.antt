-- Bays that are met: which are new, how they go to the end of a queue, and how the path back is read.
-- Assumes nothing.
use Rattle.std.specs.Prelude.{◌≡◌, Bool, not, List, ◌∷◌, ◌++◌, ℕ, zero, suc, ◌+◌, ◌-◌, ◌*◌, ◌≤◌, ◌<◌, length, get_or, take}
use Rattle.paper.specs.Basics.{◌and◌, ◌or◌, filter, elem, count_from, up_to, In, Out}
use Rattle.words.specs.Sets.{on, mem, mem_row, words, span}

-- ## Which bays are new

-- the 64 bays of word i
abbrev pub places : ℕ → List ℕ
places i = count_from (i * 64) 64

-- those of them whose bits the word has, rising
abbrev pub in_word : ℕ → ℕ → List ℕ
in_word i w = filter (λ y. on w (y - i * 64)) (places i)

-- a rail leads there from a, and it is not seen yet
abbrev pub is_new : List ℕ → List ℕ → ℕ → ℕ → Bool
is_new table seen a y = mem_row table a y and not (mem seen y)

-- such bays of word i, and all of them, rising
abbrev pub new_in : List ℕ → List ℕ → ℕ → ℕ → List ℕ
new_in table seen a i = filter (is_new table seen a) (places i)

abbrev pub new : List ℕ → List ℕ → ℕ → List ℕ
new table seen a = filter (is_new table seen a) (up_to span)

-- ## The queue's end

-- the list's bays, met from a, stand at the queue's end now
pub record Queued (f : List ℕ) (a count : ℕ) (met before met' before' : List ℕ) (r : ℕ) : Type 0 where
  pub size : r ≡ count + length f
  pub queue : take r met' ≡ take count met ++ f
  pub parents : (y : ℕ) → In y f → get_or before' y 0 ≡ a
  pub others : (y : ℕ) → Out y f → get_or before' y 0 ≡ get_or before y 0

-- and they are seen
pub record Meets (f : List ℕ) (a count : ℕ) (seen met before seen' met' before' : List ℕ) (r : ℕ) : Type 0 where
  pub queued : Queued f a count met before met' before' r
  pub seeing : (b : ℕ) → b < span → mem seen' b ≡ mem seen b or elem b f

-- ## What is asked

-- the queue has room for the bays of the word
pub record EnqueueAsks (i word : ℕ) (met before : List ℕ) (count : ℕ) : Type 0 where
  pub word_there : i < words
  pub before_size : length before ≡ span
  pub room : count + length (in_word i word) ≤ length met

-- a has its row in the table, and the queue has room for the list's bays
pub record MeetAsks (f table : List ℕ) (a : ℕ) (seen met before : List ℕ) (count : ℕ) : Type 0 where
  pub row : a * words + words ≤ length table
  pub seen_size : length seen ≡ words
  pub before_size : length before ≡ span
  pub room : count + length f ≤ length met

-- the same of the new bays of word i
pub record MeetWordAsks (table : List ℕ) (a i : ℕ) (seen met before : List ℕ) (count : ℕ) : Type 0 where
  pub word_there : i < words
  pub asks : MeetAsks (new_in table seen a i) table a seen met before count

-- ## The path back

-- from u, d times back to the bay from which it was met, before what follows u
unfoldable pub back : List ℕ → ℕ → ℕ → List ℕ → List ℕ
back before zero u rest = u ∷ rest
back before (suc d) u rest = back before d (get_or before u 0) (u ∷ rest)
