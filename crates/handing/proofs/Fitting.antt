-- A text that fits stands at the front; one that does not leaves the list as it was.
use mathlib.Core.Path.{◌≡◌, ◌∙◌, ap}
use mathlib.Core.List.{List, ◌++◌}
use Prim.Native.Nat.{ℕ, ◌≤◌, ◌<◌}
use native.Mathlib.Omega.{arith}
use native.Mathlib.Nat.{zero-add}
use lib.ListN.{length, take, drop}
use lib.Seq.{sets-eq}
use borrow.Author.Tests.{le-leb, lt-leb}
use Rattle.stores.specs.Writing.{Wrote}
use Rattle.stores.proofs.Stores.{wrote-stands}
use Rattle.paper.specs.Docket.{granted, denied, room}
use Rattle.handing.specs.Handing.{fitted, Hands, handed}

pub fits : (t out : List ℕ) → length t ≤ length out → t ++ drop (length t) out ≡ fitted t out
unfolding fitted
fits t out h = rw (le-leb (length t) (length out) h)

pub short : (t out : List ℕ) → length out < length t → out ≡ fitted t out
unfolding fitted
short t out h = rw (lt-leb (length t) (length out) h)

-- writing a text that fits hands it over
pub wrote-hands : {t before after : List ℕ} {n : ℕ} → Wrote before 0 t after n → length t ≤ length before → Hands t before after n
wrote-hands {t} {before} w h = record {
  counted = w.counted ∙ omega arith;
  leaves = w.left ∙ sets-eq t before 0 (omega arith) ∙ ap (λ k. t ++ drop k before) (zero-add (length t)) ∙ fits t before h;
}

pub short-hands : {t out : List ℕ} {n : ℕ} → n ≡ length t → length out < n → Hands t out out n
short-hands {t} {out} {n} e h = record { counted = e; leaves = short t out (omega arith) }

-- what was written and fits is handed over from where it stands
pub hands-part : {l m t before after : List ℕ} {n r : ℕ} → Wrote l 0 t m n → n ≤ length l → Hands (take n m) before after r → Hands t before after r
hands-part w h k = rw (wrote-stands w h) at k

-- ## What is answered
pub handed-fits : (needed has : ℕ) → needed ≤ has → granted needed ≡ handed needed has
unfolding handed
handed-fits needed has h = rw (le-leb needed has h)

pub handed-short : (needed has : ℕ) → has < needed → denied (room needed) ≡ handed needed has
unfolding handed
handed-short needed has h = rw (lt-leb needed has h)
