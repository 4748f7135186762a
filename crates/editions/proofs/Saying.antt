-- What slots by an edition say, way out by way out: 20 first, then the check's refusal; once it has passed the plan's numbers fit the tables,
-- and the rest is what the passes give.
use Rattle.std.proofs.Common.{Err, Ok}
use mathlib.Core.Path.{◌≡◌, refl, sym}
use mathlib.Core.Bool.{true, false}
use mathlib.Core.List.{List, ◌++◌}
use mathlib.Core.Option.{none, some}
use Prim.Native.Nat.{ℕ, ◌<◌, ◌≤◌}
use borrow.Author.Tests.{lt-ltb, le-ltb, eq-eqb, ne_eqb}
use lib.Dec.{ltb, eqb}
use lib.ListN.{length, drop}
use Rattle.paper.specs.Basics.{◌or◌}
use Rattle.paper.specs.Limits.{most_bays}
use Rattle.paper.specs.Yard.{Crossing, crossings, most_crossings}
use Rattle.paper.specs.Order.{Order}
use Rattle.paper.specs.Dependence.{slots}
use Rattle.paper.specs.Answers.{check, slots_refusal, slots_end}
use Rattle.paper.specs.OnePass.{Fits}
use Rattle.paper.proofs.Tests.{or_left, or-neither}
use Rattle.paper.proofs.Admitted.{clean_of}
use Rattle.paper.proofs.Checking.{check-passed}
use Rattle.laws.proofs.Handing.{check-fits}
use Rattle.docket.specs.Reading.{refusal_of}
use Rattle.docket.specs.declared.Refusal.{Refusal}
use Rattle.docket.specs.declared.Refusal.TheVariants.{Room, Edition}
use Rattle.trains.specs.Slots.{train_slots}
use Rattle.editions.specs.Editions.{is_known, slots_by, slots_of_refusal, slots_of_end}
use Rattle.editions.specs.Statement.{SlotsOfSay}

pub known-one : (e : ℕ) → e ≡ 1 → true ≡ is_known e
unfolding is_known
known-one e h = sym (or_left _ _ (eq-eqb e 1 h))

pub known-else : (e : ℕ) → (e ≡ 1 → ⊥) → eqb e 2 ≡ is_known e
unfolding is_known ◌or◌
known-else e h = rw (ne_eqb e 1 h)

pub by_two : (e : ℕ) (xs : List Crossing) → eqb e 2 ≡ true → slots_by e xs ≡ train_slots xs
unfolding slots_by
by_two e xs h = rw h

pub by_one : (e : ℕ) (xs : List Crossing) → eqb e 2 ≡ false → slots_by e xs ≡ slots xs
unfolding slots_by
by_one e xs h = rw h

module _ (o : Order) (plan : List ℕ) (e : ℕ) where
  pub says-unknown : is_known e ≡ false → (out : List ℕ) → SlotsOfSay o plan e out (Err Edition) out
  unfolding slots_of_refusal slots_of_end
  says-unknown k out = record { answers = rw k; leaves = rw k }

  module _ (k : is_known e ≡ true) where
    pub says-refused : (out : List ℕ) (r : Refusal) → some (refusal_of r) ≡ check o plan → SlotsOfSay o plan e out (Err r) out
    unfolding slots_of_refusal slots_of_end slots_refusal
    says-refused out r h = record { answers = rw (k, ← h); leaves = rw (k, ← h) }

    module _ (passes : none ≡ check o plan) where
      pub fits : Fits most_bays most_bays plan
      fits = check-fits o plan (sym passes)

      pub short : length plan ≤ most_crossings
      short = (clean_of o (length plan) (check-passed o plan (sym passes)).sound).sizes.short-plan

      pub says-room : (out : List ℕ) → length out < length plan → SlotsOfSay o plan e out (Err (Room (length plan))) out
      unfolding slots_of_refusal slots_of_end slots_refusal
      says-room out h =
          let over : (ltb (length out) (length plan) or ltb most_crossings (length plan)) ≡ true = or_left _ _ (lt-ltb (length out) (length plan) h) in
          record { answers = rw (k, ← passes, over); leaves = rw (k, ← passes, over) }

      pub says-written : (out out' : List ℕ) → length plan ≤ length out → out' ≡ slots_by e (crossings plan) ++ drop (length plan) out
          → SlotsOfSay o plan e out (Ok (length plan)) out'
      unfolding slots_of_refusal slots_of_end slots_refusal
      says-written out out' h w =
          let room : (ltb (length out) (length plan) or ltb most_crossings (length plan)) ≡ false =
          or-neither _ _ (le-ltb (length out) (length plan) h) (le-ltb most_crossings (length plan) short) in
          record { answers = rw (k, ← passes, room); leaves = rw (k, ← passes, room) w }

  -- The first edition is slots as document 01 has them: the same refusals, the same list.
  pub first-edition : (lent : List ℕ) → (slots_of_refusal o plan 1 (length lent) ≡ slots_refusal o plan (length lent))
      × (slots_of_end o plan 1 lent ≡ slots_end o plan lent)
  unfolding slots_of_refusal slots_of_end slots_end slots_by is_known ◌or◌
  first-edition lent = (refl, refl)
