-- What shortening says, way out by way out: the check's refusal, 11, 25, and then 8 or the shorter plan.
use Rattle.std.proofs.Common.{Err}
use mathlib.Core.Path.{◌≡◌, sym}
use mathlib.Core.Bool.{true, false}
use mathlib.Core.List.{List}
use mathlib.Core.Option.{none, some}
use Prim.Native.Nat.{ℕ, ◌≤◌}
use lib.ListN.{length}
use Rattle.paper.specs.Limits.{most_bays}
use Rattle.paper.specs.Yard.{crossings, most_crossings}
use Rattle.paper.specs.Order.{Order}
use Rattle.paper.specs.Docket.{yard_of, bad_marks}
use Rattle.paper.specs.Answers.{unless, written, check}
use Rattle.paper.specs.OnePass.{Fits}
use Rattle.paper.proofs.Admitted.{clean_of, good_of}
use Rattle.paper.proofs.Checking.{check-passed}
use Rattle.laws.proofs.Handing.{check-fits}
use Rattle.docket.specs.Reading.{refusal_of}
use Rattle.docket.specs.declared.Refusal.{Refusal}
use Rattle.docket.specs.declared.Refusal.TheVariants.{Mismarked, Begun}
use Rattle.docket.specs.Verdict.{Verdict}
use Rattle.trips.specs.Shortening.{any_done, into_room, shorten_refusal, shortening}
use Rattle.remaining.specs.Statements.{RoomSays}
use Rattle.dropping.specs.Going.{Lawful}
use Rattle.shorten.specs.Statements.{ShortenSays}

module _ (o : Order) (plan marks out : List ℕ) where
  pub says-refused : (r : Refusal) → some (refusal_of r) ≡ check o plan → ShortenSays o plan marks out (Err r) out
  unfolding shortening shorten_refusal unless written
  says-refused r h = record { answers = rw (← h); ends_as = rw (← h) }

  module _ (passes : none ≡ check o plan) where
    pub fits : Fits most_bays most_bays plan
    fits = check-fits o plan (sym passes)

    pub short-plan : length plan ≤ most_crossings
    short-plan = (clean_of o (length plan) (check-passed o plan (sym passes)).sound).sizes.short-plan

    pub lawful : Lawful (crossings plan)
    lawful =
        let p = check-passed o plan (sym passes) in
        let c = clean_of o (length plan) p.sound in
        record { yard = yard_of o; start = o.starts; apart = (good_of o o.starts c.starts).apart; lawful = p.lawful }

    pub says-mismarked : bad_marks (crossings plan) marks ≡ true → ShortenSays o plan marks out (Err Mismarked) out
    unfolding shortening shorten_refusal unless written
    says-mismarked b = record { answers = rw (← passes, b); ends_as = rw (← passes, b) }

    module _ (b : bad_marks (crossings plan) marks ≡ false) where
      pub says-begun : any_done marks ≡ true → ShortenSays o plan marks out (Err Begun) out
      unfolding shortening shorten_refusal unless written
      says-begun d = record { answers = rw (← passes, b, d); ends_as = rw (← passes, b, d) }

      pub says-room : any_done marks ≡ false → (answer : Verdict) (out' : List ℕ) → RoomSays plan out answer out'
          → ShortenSays o plan marks out answer out'
      unfolding shortening shorten_refusal into_room
      says-room d answer out' r = record { answers = rw (← passes, b, d) r.answers; ends_as = rw (← passes, b, d) r.ends }
