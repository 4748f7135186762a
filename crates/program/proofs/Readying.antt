-- Why every plan handed on fits the tables of slots: it passes the check, and so does what shortening leaves of it.
use Rattle.std.proofs.Common.{Err, Ok}
use mathlib.Core.Path.{◌≡◌, refl, sym, ◌∙◌, ap}
use mathlib.Core.List.{List, map}
use mathlib.Core.Bool.{Bool, true, false}
use Prim.Native.Nat.{ℕ, ◌≤◌}
use native.Mathlib.Omega.{arith}
use lib.ListN.{length, take, get_or, length-map}
use Rattle.paper.specs.Limits.{most_bays}
use Rattle.paper.specs.Yard.{pack, unpack, crossings, named}
use Rattle.paper.specs.Order.{Order}
use Rattle.paper.specs.Docket.{granted}
use Rattle.paper.specs.Answers.{refused, told, plan}
use Rattle.paper.specs.OnePass.{Fits}
use Rattle.paper.specs.Program.{program_room}
use Rattle.paper.proofs.Tests.{never}
use Rattle.paper.proofs.Packing.{named-is}
use Rattle.laws.proofs.Handing.{handed-passes, check-fits}
use Rattle.docket.specs.declared.Refusal.{Refusal}
use Rattle.docket.specs.Reading.{refusal_of}
use Rattle.docket.specs.Verdict.{Verdict}
use Rattle.trips.specs.Trips.{shorten}
use Rattle.trips.proofs.Shortened.{shortened-passes}
use Rattle.print_room.specs.Short.{short_answer, short_or}
use Rattle.print_room.specs.Ready.{Ready}
use Rattle.print_room.proofs.Telling.{by_answer}
use Rattle.program.specs.Planning.{PlannedIn, ShortIn}

-- lists that read as the same crossings fit the same tables
fits-same : (a b : List ℕ) → crossings a ≡ crossings b → Fits most_bays most_bays b → Fits most_bays most_bays a
fits-same a b e f i h =
    let la = length-map a unpack in
    let lb = length-map b unpack in
    let le = ap length e in
    let same : unpack (get_or a i 0) ≡ unpack (get_or b i 0) = sym (named-is a i) ∙ ap (λ l. named l i) e ∙ named-is b i in
    rw same (f i (omega arith))

-- a refusal has no plan to fit
pub refused-ready : (d : Refusal) (list : List ℕ) → length list ≡ program_room → Ready (refused (refusal_of d)) (Err d) list
refused-ready d list h = record {
  handed = record { tells = refl; stands = λ xs q. never (cc) };
  slottable = record {
    within = record { inside = λ m q. never (cc); few = omega arith };
    sized = omega arith;
    fits = λ m q. never (cc);
  };
}

module _ {o : Order} {r : Verdict} {list : List ℕ} where
  pub plain_ready : PlannedIn o r list → Ready (plan o program_room) r list
  plain_ready p = record {
    handed = p.handed;
    slottable = record {
      within = p.within;
      sized = omega (arith, p.sized);
      fits = λ m q. check-fits o (take m list) (p.passes m q);
    };
  }

  short-fits : ShortIn o r list → (m : ℕ) → r ≡ Ok m → Fits most_bays most_bays (take m list)
  short-fits p m e =
      by_answer (plan o program_room)
      (λ xs q.
      let passes = handed-passes o program_room xs q in
      let left = shortened-passes o (map pack xs) passes.0 in
      let ys = shorten (crossings (map pack xs)) in
      let is : ys ≡ shorten xs = ap shorten passes.1 in
      let y : granted m ≡ granted (length (shorten xs)) = rw (e, q) at p.handed.tells in
      let same : m ≡ length (shorten xs) = cc in
      let reads : crossings (take m list) ≡ crossings (map pack ys) =
      ap (λ j. crossings (take j list)) same ∙ p.handed.stands (shorten xs) (ap short_answer q) ∙ sym is ∙ sym left.1 in
      fits-same (take m list) (map pack ys) reads (check-fits o (map pack ys) left.0))
      (λ d q. let y : granted m ≡ told (refused d) = rw (e, q) at p.handed.tells in never (cc))

  pub short-ready : ShortIn o r list → length list ≤ program_room → Ready (short_answer (plan o program_room)) r list
  short-ready p h = record { handed = p.handed; slottable = record { within = p.within; sized = h; fits = short-fits p } }

  -- by whether shortening is asked for
  pub short-or-ready : {b : Bool} → b ≡ true → ShortIn o r list → length list ≤ program_room → Ready (short_or b (plan o program_room)) r list
  short-or-ready e p h = rw e (short-ready p h)

  pub plain-or-ready : {b : Bool} → b ≡ false → PlannedIn o r list → Ready (short_or b (plan o program_room)) r list
  plain-or-ready e p = rw e (plain_ready p)

pub refused-or-ready : (b : Bool) (d : Refusal) (list : List ℕ) → length list ≡ program_room → Ready (short_or b (refused (refusal_of d))) (Err d) list
refused-or-ready true d list h = refused-ready d list h
refused-or-ready false d list h = refused-ready d list h
