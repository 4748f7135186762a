-- The shorter plan and the lent list, way out by way out: 8, or the plan is written.
use Rattle.std.proofs.Common.{Err, Ok}
use mathlib.Core.Path.{◌≡◌, sym, ◌∙◌, ap, ap₂}
use mathlib.Core.Bool.{true, false}
use mathlib.Core.List.{List, ◌++◌, map}
use Prim.Native.Nat.{ℕ, ◌<◌, ◌≤◌}
use native.Mathlib.Omega.{arith}
use borrow.Author.Tests.{lt-ltb, le-ltb}
use lib.Dec.{ltb}
use lib.ListN.{length, drop, length-map}
use Rattle.paper.specs.Basics.{◌or◌}
use Rattle.paper.specs.Yard.{crossings, pack, unpack, most_crossings}
use Rattle.paper.specs.Answers.{unless, written}
use Rattle.paper.proofs.Tests.{or_left, or-neither}
use Rattle.paper.proofs.Packing.{packed-back}
use Rattle.docket.specs.declared.Refusal.TheVariants.{Room}
use Rattle.trips.specs.Trips.{shorten}
use Rattle.trips.specs.Names.{left}
use Rattle.trips.specs.Shortening.{into_room}
use Rattle.trips.proofs.Leaving.{left-length}
use Rattle.trips.proofs.Shortened.{cuts-left}
use Rattle.trips.proofs.Naming.{left-map}
use Rattle.remaining.specs.Statements.{RoomSays}

-- what is left, as numbers and as crossings
module _ (plan gone out : List ℕ) (done : left gone (crossings plan) ≡ shorten (crossings plan)) where
  numbers : left gone plan ≡ map pack (shorten (crossings plan))
  numbers = ap (left gone) (sym (packed-back plan)) ∙ left-map pack gone (crossings plan) ∙ ap (map pack) done

  count : length (left gone plan) ≡ length (shorten (crossings plan))
  count = ap length numbers ∙ length-map (shorten (crossings plan)) pack

  pub room-refused : (n : ℕ) → n ≡ length (left gone plan) → length out < n → RoomSays plan out (Err (Room n)) out
  unfolding into_room unless written
  room-refused n e h =
      let is : n ≡ length (shorten (crossings plan)) = e ∙ count in
      let over : (ltb (length out) (length (shorten (crossings plan))) or ltb most_crossings (length (shorten (crossings plan)))) ≡ true =
      or_left _ _ (lt-ltb (length out) (length (shorten (crossings plan))) (rw is at h)) in
      record { answers = rw (over, is); ends = rw over }

  pub room-written : (n : ℕ) (out' : List ℕ) → length plan ≤ most_crossings → n ≡ length (left gone plan) → n ≤ length out
      → out' ≡ left gone plan ++ drop (length (left gone plan)) out → RoomSays plan out (Ok n) out'
  unfolding into_room unless written
  room-written n out' small e h w =
      let ys = shorten (crossings plan) in
      let is : n ≡ length ys = e ∙ count in
      let short : length ys ≤ most_crossings = omega (arith, left-length (cuts-left (length (crossings plan)) (crossings plan)), length-map plan unpack) in
      let room : (ltb (length out) (length ys) or ltb most_crossings (length ys)) ≡ false =
      or-neither _ _ (le-ltb (length out) (length ys) (rw is at h)) (le-ltb most_crossings (length ys) short) in
      record { answers = rw (room, is); ends = rw room (w ∙ ap₂ (λ a k. a ++ drop k out) numbers count) }
