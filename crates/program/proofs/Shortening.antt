-- An accepted plan is shortened and never refused: it passes the check, nothing of it is done, and what is left fits where the plan did.
use Rattle.std.proofs.Common.{Err, Ok}
use mathlib.Core.Path.{◌≡◌, refl, sym, ◌∙◌, ap}
use mathlib.Core.Bool.{false}
use mathlib.Core.List.{List, [], ◌++◌, map}
use mathlib.Core.Option.{none}
use Prim.Native.Nat.{ℕ, zero, suc, ◌+◌, ◌≤◌}
use native.Mathlib.Omega.{arith}
use borrow.Author.Tests.{le-ltb}
use lib.Dec.{ltb}
use lib.ListN.{length, take, drop, replicate, length-map, length-append, length-drop, length-replicate}
use lib.Seq.{take_at, length-take-le}
use Rattle.paper.specs.Basics.{◌or◌, any}
use Rattle.paper.specs.Yard.{pack, unpack, crossings, most_crossings}
use Rattle.paper.specs.Order.{Order}
use Rattle.paper.specs.Docket.{granted, yard_of, bad_marks}
use Rattle.paper.specs.Answers.{accepted, refused, told, unless, written, plan, check}
use Rattle.paper.specs.Log.{marks_from}
use Rattle.paper.specs.Program.{program_room}
use Rattle.paper.proofs.Tests.{never, or-neither}
use Rattle.paper.proofs.Checking.{check-passed}
use Rattle.laws.proofs.Logging.{fine-marks}
use Rattle.docket.specs.declared.Refusal.{Refusal}
use Rattle.docket.specs.Reading.{verdict_of}
use Rattle.docket.specs.Verdict.{Verdict}
use Rattle.shorten.specs.Statements.{ShortenSays}
use Rattle.shorten.proofs.Rooms.{take-fresh}
use Rattle.trips.specs.Trips.{shorten}
use Rattle.trips.specs.Shortening.{any_done, shorten_refusal, shortening}
use Rattle.trips.proofs.Shortened.{shorten-shortens, shortened-passes}
use Rattle.print_room.proofs.Telling.{by_answer, by-verdict}
use Rattle.program.specs.Planning.{PlannedIn, ShortIn}

fresh-begins-nothing : (k : ℕ) → any_done (replicate k 0) ≡ false
unfolding any_done any
fresh-begins-nothing zero = refl
fresh-begins-nothing (suc k) = fresh-begins-nothing k

module _ (o : Order) (crossed : List ℕ) (passes : check o crossed ≡ none) where
  fresh-marked : bad_marks (crossings crossed) (replicate (length crossed) 0) ≡ false
  unfolding marks_from
  fresh-marked = fine-marks o crossed passes []

  pub left-fewer : length (shorten (crossings crossed)) ≤ length crossed
  left-fewer = omega (arith, (shorten-shortens (yard_of o) o.starts (crossings crossed) (check-passed o crossed passes).lawful).no_longer, length-map crossed unpack)

  pub accepted-shortens : (lent : ℕ) → length crossed ≤ lent → lent ≤ most_crossings
      → shortening o crossed (replicate (length crossed) 0) lent ≡ accepted (shorten (crossings crossed))
  unfolding shortening shorten_refusal unless
  accepted-shortens lent h k =
      let few = left-fewer in
      let ys = shorten (crossings crossed) in
      let room : (ltb lent (length ys) or ltb most_crossings (length ys)) ≡ false =
      or-neither _ _ (le-ltb lent (length ys) (omega arith)) (le-ltb most_crossings (length ys) (omega arith)) in
      rw (passes, fresh-marked, fresh-begins-nothing (length crossed), room)

-- the first of the marks that the program lends, all of them fresh
pub enough : (k : ℕ) → k ≤ 8192 → length {A = ℕ} (take k (replicate 8192 0)) ≡ k
enough k h = ap length (take-fresh 0 k 8192 h) ∙ length-replicate {A = ℕ} k 0

-- what the planner answers, and the list that it left
module _ {o : Order} {r : Verdict} {list : List ℕ} (p : PlannedIn o r list) where
  -- a refusal stays
  pub refusal-stays : (f : Refusal) → r ≡ Err f → {lent : List ℕ} → length lent ≡ program_room → ShortIn o (Err f) lent
  refusal-stays f e {lent} h =
      by_answer (plan o program_room)
      (λ xs q. let y : verdict_of (Err f) ≡ told (accepted xs) = rw (e, q) at p.handed.tells in never (cc))
      (λ d q. record {
        handed = record { tells = rw q (rw (e, q) at p.handed.tells); stands = λ zs z. let y : refused d ≡ accepted zs = rw q at z in never (cc) };
        within = record { inside = λ m y. never (cc); few = omega arith };
      })

  pub marked : (m : ℕ) → r ≡ Ok m → take {A = ℕ} m (replicate 8192 0) ≡ replicate (length (take m list)) 0
  marked m e =
      let h = p.within.inside m e in
      take-fresh 0 m 8192 (omega (arith, p.sized)) ∙ ap (λ k. replicate k 0) (sym (length-take-le m list h))

  module _ (m : ℕ) (e : r ≡ Ok m) (marks : List ℕ) (fresh : marks ≡ replicate (length (take m list)) 0) (lent : List ℕ) (room : length lent ≡ program_room) where
    inside : length (take m list) ≤ length lent
    inside = omega (arith, length-take-le m list (p.within.inside m e), p.within.inside m e, p.sized)

    whole : shortening o (take m list) marks (length lent) ≡ accepted (shorten (crossings (take m list)))
    whole = rw fresh (accepted-shortens o (take m list) (p.passes m e) (length lent) inside (omega arith))

    module _ {a : Verdict} {after : List ℕ} (says : ShortenSays o (take m list) marks lent a after) where
      told-short : verdict_of a ≡ granted (length (shorten (crossings (take m list))))
      told-short = says.answers ∙ ap told whole

      not-refused : {P : Type 0} (f : Refusal) → a ≡ Err f → P
      not-refused f q = let y : verdict_of (Err f) ≡ granted (length (shorten (crossings (take m list)))) = rw q at told-short in never (cc)

      ended-short : after ≡ map pack (shorten (crossings (take m list))) ++ drop (length (shorten (crossings (take m list)))) lent
      unfolding written
      ended-short = says.ends_as ∙ ap (λ z. written z lent) whole

      written-short : (left : ℕ) → a ≡ Ok left → ShortIn o (Ok left) after
      written-short left q =
          let ys = shorten (crossings (take m list)) in
          let y : granted left ≡ granted (length ys) = rw q at told-short in
          let k : left ≡ length ys = cc in
          let size : length after ≡ length (map pack ys) + length (drop (length ys) lent) = ap length ended-short ∙ length-append (map pack ys) (drop (length ys) lent) in
          let fewer = left-fewer o (take m list) (p.passes m e) in
          let reads : crossings (take (length ys) after) ≡ ys =
          ap (λ l. crossings (take (length ys) l)) ended-short
          ∙ ap crossings (take_at (map pack ys) (drop (length ys) lent) (length ys) (length-map ys pack))
          ∙ (shortened-passes o (take m list) (p.passes m e)).1 in
          by_answer (plan o program_room)
          (λ xs z.
          let w : granted m ≡ granted (length xs) = rw (e, z) at p.handed.tells in
          let same : m ≡ length xs = cc in
          let is : crossings (take m list) ≡ xs = ap (λ j. crossings (take j list)) same ∙ p.handed.stands xs z in
          record {
            handed = record {
              tells = rw (z, ← is) (ap granted k);
              stands = λ zs v.
                  let u : accepted (shorten xs) ≡ accepted zs = rw z at v in
                  let t : ys ≡ zs = ap shorten is ∙ cc in
                  ap (λ l. crossings (take (length l) after)) (sym t) ∙ reads ∙ t;
            };
            within = record {
              inside = λ j v. let t : j ≡ left = cc in omega (arith, size, length-map ys pack);
              few = omega (arith, size, length-map ys pack, length-drop (length ys) lent, inside, fewer);
            };
          })
          (λ f z. let w : granted m ≡ told (refused f) = rw (e, z) at p.handed.tells in never (cc))

      pub left-short : ShortIn o a after
      left-short = by-verdict a (λ left q. rw q (written-short left q)) (λ f q. not-refused f q)
