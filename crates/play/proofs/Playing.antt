-- A placement put down at the bays of the start is ready to be carried from, and what was carried is the whole procedure.
-- Assumes nothing.
use mathlib.Core.Path.{◌≡◌, ◌∙◌, ap}
use mathlib.Core.List.{List, ◌++◌, append-nil}
use Prim.Native.Nat.{ℕ, ◌≤◌}
use native.Mathlib.Omega.{arith}
use lib.ListN.{length, take, drop, replicate, length-replicate, drop_of_length-le}
use lib.Seq.{length-take-le}
use Rattle.paper.specs.Procedure.{Outcome}
use Rattle.paper.specs.Basics.{elem}
use Rattle.words.specs.Sets.{words, span}
use Rattle.words.proofs.Sets.{mem-zeros}
use Rattle.moving.specs.Placed.{Placed}
use Rattle.acting.specs.Acting.{Ready, nothing}
use Rattle.carry_all.specs.FromBelow.{BaysBelow}
use Rattle.carry_all.specs.FromBelow.{Owners, Stages}
use Rattle.carry_all.specs.FromBelow.{Staged}
use Rattle.play.specs.Playing.{TableAsks, Plays}

-- as many places as are taken of an array
pub places : (k : ℕ) → k ≤ span → length {A = ℕ} (take k (replicate span 0)) ≡ k
places k h = length-take-le k (replicate span 0) (rw (length-replicate {A = ℕ} span 0) h)

-- a copy that fills its list is the list copied
pub all-copied : (to from to' : List ℕ) → length to ≡ length from → to' ≡ from ++ drop (length from) to → to' ≡ from
all-copied to from to' h e = e ∙ ap (λ l. from ++ l) (drop_of_length-le to {i = length from} (omega arith)) ∙ append-nil from

pub ready_of : {table : List ℕ} (s g p standing empty : List ℕ) → TableAsks (length standing) table s g → p ≡ s → length empty ≡ words → Placed (length standing) s standing empty → Ready table p standing empty
ready_of s g p standing empty a e m placed = rw e (record {
  most = a.admitted.most;
  table_size = a.table_size;
  empty_size = m;
  placed = placed;
  tabled = a.admitted.reaching.tabled;
  levelled = a.levelled;
})

-- nobody is finished yet
pub none-settled : (s : List ℕ) → BaysBelow 0 s (replicate words 0)
unfolding elem
none-settled s = record { size = length-replicate {A = ℕ} words 0; bays = λ b. mem-zeros words b }

-- whose goal a bay is, is who would stand there
pub owners_of : {n m : ℕ} {goals owner spare : List ℕ} → m ≡ n → length owner ≡ m → Placed m goals owner spare → Owners n goals owner
owners_of e k placed = record { many = omega arith; whose = λ b h. placed.stands b (omega arith) }

pub plays-of : {o : Outcome} {n : ℕ} {p out p' standing' empty' out' : List ℕ} {z : Staged} → Stages o n p out nothing p' standing' empty' out' z → Plays o out out' z
plays-of st = record {
  plans = λ m e. let w = st.plans m e in (w.0, w.1, w.2.stored, w.2.counted ∙ omega arith, omega (arith, w.2.parks), w.2.few (omega arith));
  stops = st.stops;
}
