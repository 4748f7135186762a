-- A plan that the program prints, shortened or not, fits in 180,250 bytes: it passes the check, so it names carriers and bays below 256.
use mathlib.Core.Path.{◌≡◌, ◌∙◌, ap}
use mathlib.Core.List.{List, map}
use mathlib.Core.Option.{none}
use Prim.Native.Nat.{ℕ, ◌≤◌}
use native.Mathlib.Omega.{arith}
use lib.ListN.{length, length-map}
use Rattle.paper.specs.Yard.{Crossing, pack, crossings}
use Rattle.paper.specs.Order.{Order}
use Rattle.paper.specs.Answers.{accepted, refused, plan, check}
use Rattle.paper.specs.Print.{printed}
use Rattle.paper.specs.Program.{program_room}
use Rattle.paper.proofs.Tests.{never}
use Rattle.paper.proofs.Planning.{accepted-exactly}
use Rattle.laws.proofs.Handing.{handed-passes, check-fits}
use Rattle.trips.specs.Trips.{shorten}
use Rattle.trips.proofs.Shortened.{shortened-passes}
use Rattle.print_room.specs.Printout.{print_room}
use Rattle.print_room.specs.Short.{short_answer}
use Rattle.print_room.proofs.Telling.{by_answer}
use Rattle.print_room.proofs.Room.{listed-fits}
use Rattle.program.proofs.Shortening.{left-fewer}

passing-fits : (o : Order) (xs : List Crossing) → check o (map pack xs) ≡ none → crossings (map pack xs) ≡ xs
    → length xs ≤ 8192 → length (printed (accepted xs)) ≤ print_room
passing-fits o xs passes reads h =
    omega (
      arith,
      listed-fits (map pack xs) (check-fits o (map pack xs) passes) (omega (arith, length-map xs pack)),
      ap (λ l. length (printed (accepted l))) reads,
    )

pub plan-fits : (o : Order) (xs : List Crossing) → plan o program_room ≡ accepted xs → length (printed (accepted xs)) ≤ print_room
plan-fits o xs e =
    let a = (accepted-exactly o program_room xs).0 e in
    let p = handed-passes o program_room xs e in
    passing-fits o xs p.0 p.1 (omega (arith, a.2))

-- a shortened plan passes the check too
pub short-fits : (o : Order) (ys : List Crossing) → short_answer (plan o program_room) ≡ accepted ys → length (printed (accepted ys)) ≤ print_room
short-fits o ys e =
    by_answer (plan o program_room)
    (λ xs q.
    let a = (accepted-exactly o program_room xs).0 q in
    let p = handed-passes o program_room xs q in
    let y : accepted (shorten xs) ≡ accepted ys = rw q at e in
    let is : shorten (crossings (map pack xs)) ≡ ys = ap shorten p.1 ∙ cc in
    let left = shortened-passes o (map pack xs) p.0 in
    let few : length (shorten (crossings (map pack xs))) ≤ length (map pack xs) = left-fewer o (map pack xs) p.0 in
    passing-fits o ys (rw is at left.0) (rw is at left.1) (omega (arith, a.2, length-map xs pack, ap length is)))
    (λ d q. let y : refused d ≡ accepted ys = rw q at e in never (cc))
