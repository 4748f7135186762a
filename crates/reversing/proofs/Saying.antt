-- What reversing says, way out by way out: 1 first, then 8, then the reverse is written.
use Rattle.std.proofs.Common.{Err, Ok}
use mathlib.Core.Path.{◌≡◌}
use mathlib.Core.Bool.{true, false}
use mathlib.Core.List.{List, ◌++◌}
use Prim.Native.Nat.{ℕ, ◌<◌, ◌≤◌}
use borrow.Author.Tests.{lt-ltb, le-ltb}
use lib.Dec.{ltb}
use lib.ListN.{length, drop}
use Rattle.paper.specs.Basics.{◌or◌}
use Rattle.paper.specs.Yard.{most_crossings}
use Rattle.paper.proofs.Tests.{or_left, or-neither}
use Rattle.docket.specs.declared.Refusal.TheVariants.{Size, Room}
use Rattle.reversing.specs.Reversing.{reversed, reverse_refusal, reversing, reversing_end}
use Rattle.reversing.specs.Statement.{ReverseSays}

module _ (list out : List ℕ) where
  pub too_long : most_crossings < length list → ReverseSays list out (Err Size) out
  unfolding reversing reversing_end reverse_refusal
  too_long h = let over = lt-ltb most_crossings (length list) h in record { answers = rw over; leaves = rw over }

  module _ (short : length list ≤ most_crossings) where
    pub no_room : length out < length list → ReverseSays list out (Err (Room (length list))) out
    unfolding reversing reversing_end reverse_refusal
    no_room h =
        let fits = le-ltb most_crossings (length list) short in
        let over : (ltb (length out) (length list) or ltb most_crossings (length list)) ≡ true = or_left _ _ (lt-ltb (length out) (length list) h) in
        record { answers = rw (over, fits); leaves = rw (over, fits) }

    pub written : (out' : List ℕ) → length list ≤ length out → out' ≡ reversed list ++ drop (length list) out → ReverseSays list out (Ok (length list)) out'
    unfolding reversing reversing_end reverse_refusal
    written out' h e =
        let fits = le-ltb most_crossings (length list) short in
        let room : (ltb (length out) (length list) or ltb most_crossings (length list)) ≡ false = or-neither _ _ (le-ltb (length out) (length list) h) fits in
        record { answers = rw (room, fits); leaves = rw (room, fits) e }
