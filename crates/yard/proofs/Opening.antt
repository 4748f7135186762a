-- The first of 1 to 6: with those before it passed, the one that is met is the answer.
use Rattle.std.proofs.Common.{Err, None, Ok, Some}
use mathlib.Core.Path.{◌≡◌, sym, ap, ◌∙◌}
use mathlib.Core.Bool.{Bool, true, false}
use mathlib.Core.List.{List, []}
use mathlib.Core.Option.{none, some}
use Prim.Native.Nat.{ℕ, ◌+◌, ◌-◌, ◌≤◌, ◌<◌}
use native.Mathlib.Omega.{arith}
use lib.ListN.{length}
use borrow.Author.Tests.{lt-ltb, le-ltb}
use Rattle.paper.specs.Basics.{first_bad}
use Rattle.paper.specs.Yard.{kept_empty}
use Rattle.paper.specs.Order.{Order}
use Rattle.paper.specs.Docket.{size, rail, apart, crowd, start, goal, rails_of, yard_of, bad_size, bad_rail, bad_place, apart_bay}
use Rattle.paper.specs.Answers.{first_six}
use Rattle.paper.proofs.Tests.{never}
use Rattle.paper.proofs.Admitted.{Sizes, sizes-of}
use Rattle.docket.specs.Reading.{refusal_of}
use Rattle.docket.specs.declared.Refusal.{Refusal}
use Rattle.words.specs.Sets.{mem}
use Rattle.first_bad.specs.Finding.{found_of, Finds, Lays, Laid}
use Rattle.first_bad.specs.Found.{Found}
use Rattle.first_bad.proofs.Rails.{table_of, empty-beyond}
use Rattle.yard.specs.declared.Yard.{Yard as Numbers}
use Rattle.yard.specs.Opened.{Opened}
use Rattle.yard.specs.Opening.{opened_of, Admits, Tests, Opens}

module _ (o : Order) (lent : ℕ) where
  pub first-1 : (r : Bool) → r ≡ bad_size o lent → r ≡ true → first_six o lent ≡ some size
  unfolding first_six
  first-1 r e t = let h = sym e ∙ t in rw h

  -- what is known once 1, 1 and 2, .., 1 to 5 have passed
  pub record Past-1 : Type 0 where
    pub sizes : bad_size o lent ≡ false

  pub record Past-2 : Type 0 where
    pub past : Past-1
    pub rails : first_bad (bad_rail o.bays) 0 [] (rails_of o.ends) ≡ none

  pub record Past-3 : Type 0 where
    pub past : Past-2
    pub reached : apart_bay (yard_of o) ≡ none

  pub record Past-4 : Type 0 where
    pub past : Past-3
    pub uncrowded : length o.starts + kept_empty ≤ o.bays

  pub record Past-5 : Type 0 where
    pub past : Past-4
    pub starts : first_bad (bad_place o.bays) 0 [] o.starts ≡ none

  pub past-1 : (r : Bool) → r ≡ bad_size o lent → r ≡ false → Past-1
  past-1 r e h = record { sizes = sym e ∙ h }

  pub past-2 : Past-1 → (table : List ℕ) (f : Found) → Lays o.bays o.ends table f → f ≡ None → Past-2
  past-2 p table f l e = record { past = p; rails = sym l.which ∙ ap found_of e }

  pub past-3 : Past-2 → (f : Found) → Finds (apart_bay (yard_of o)) o.bays f → f ≡ None → Past-3
  past-3 p f h e = record { past = p; reached = sym h.which ∙ ap found_of e }

  -- the sizes then
  pub fitting : Past-1 → Sizes o lent
  fitting p = sizes-of o lent p.sizes

  pub past-4 : Past-3 → length o.starts ≤ o.bays - kept_empty → Past-4
  past-4 p h = let z = fitting p.past.past in record { past = p; uncrowded = omega (arith, h) }

  pub past-5 : Past-4 → (f : Found) → Finds (first_bad (bad_place o.bays) 0 [] o.starts) (length o.starts) f → f ≡ None → Past-5
  past-5 p f h e = record { past = p; starts = sym h.which ∙ ap found_of e }

  pub first-2 : Past-1 → (table : List ℕ) (f : Found) (i : ℕ) → Lays o.bays o.ends table f → f ≡ Some i → first_six o lent ≡ some (rail i)
  unfolding first_six
  first-2 p table f i l e = let h = sym l.which ∙ ap found_of e in rw (p.sizes, h)

  pub first-3 : Past-2 → (f : Found) (b : ℕ) → Finds (apart_bay (yard_of o)) o.bays f → f ≡ Some b → first_six o lent ≡ some (apart b)
  unfolding first_six
  first-3 p f b l e = let h = sym l.which ∙ ap found_of e in rw (p.past.sizes, p.rails, h)

  pub first-4 : Past-3 → o.bays - kept_empty < length o.starts → first_six o lent ≡ some crowd
  unfolding first_six
  first-4 p h =
      let z = fitting p.past.past in
      rw (p.past.past.sizes, p.past.rails, p.reached, lt-ltb o.bays (length o.starts + kept_empty) (omega (arith, h)))

  pub first-5 : Past-4 → (f : Found) (c : ℕ) → Finds (first_bad (bad_place o.bays) 0 [] o.starts) (length o.starts) f → f ≡ Some c → first_six o lent ≡ some (start c)
  unfolding first_six
  first-5 p f c l e =
      let h = sym l.which ∙ ap found_of e in
      let q = p.past in
      rw (q.past.past.sizes, q.past.rails, q.reached, le-ltb o.bays (length o.starts + kept_empty) p.uncrowded, h)

  pub first-6 : Past-5 → (f : Found) (c : ℕ) → Finds (first_bad (bad_place o.bays) 0 [] o.goals) (length o.goals) f → f ≡ Some c → first_six o lent ≡ some (goal c)
  unfolding first_six
  first-6 p f c l e =
      let h = sym l.which ∙ ap found_of e in
      let q = p.past in
      let r = q.past in
      rw (r.past.past.sizes, r.past.rails, r.reached, le-ltb o.bays (length o.starts + kept_empty) q.uncrowded, p.starts, h)

  pub first-none : Past-5 → (f : Found) → Finds (first_bad (bad_place o.bays) 0 [] o.goals) (length o.goals) f → f ≡ None → first_six o lent ≡ none
  unfolding first_six
  first-none p f l e =
      let h = sym l.which ∙ ap found_of e in
      let q = p.past in
      let r = q.past in
      rw (r.past.past.sizes, r.past.rails, r.reached, le-ltb o.bays (length o.starts + kept_empty) q.uncrowded, p.starts, h)

  pub tests-refused : (r : Refusal) (table : List ℕ) → first_six o lent ≡ some (refusal_of r) → Tests o lent (Err r) table
  tests-refused r table h = record { answer = sym h; admitted = λ y e. never (cc) }

  pub tests-admitted : (y : Numbers) (table : List ℕ) → first_six o lent ≡ none → y.bays ≡ o.bays → y.ends ≡ length o.ends
      → Laid o.bays (rails_of o.ends) table → Tests o lent (Ok y) table
  tests-admitted y table h b e l = record {
    answer = sym h;
    admitted = λ z q.
        let same : y ≡ z = cc in
        let admits : Admits o y table =
        record { bays = b; ends = e; rows = table_of o.bays o.ends table l; beyond = empty-beyond o.bays (rails_of o.ends) table l } in
        rw same at admits;
  }

-- the table that a refused yard leaves is cleared, whatever the tests left in it
pub opens-cleared : (given : Order) (lent : ℕ) (o : Opened) (r : Refusal) (table table' : List ℕ)
    → Tests given lent o table → o ≡ Err r → ((x : ℕ) → mem table' x ≡ false) → Opens given lent (Err r) table'
opens-cleared given lent o r table table' t e z = record {
  answer = sym (ap opened_of e) ∙ t.answer;
  admitted = λ y q. never (cc);
  refused = λ q h. z;
}

pub opens-admitted : (given : Order) (lent : ℕ) (o : Opened) (y : Numbers) (table : List ℕ)
    → Tests given lent o table → o ≡ Ok y → Opens given lent o table
opens-admitted given lent o y table t e = record {
  answer = t.answer;
  admitted = t.admitted;
  refused = λ r h. never (let z : Ok y ≡ Err r = sym e ∙ h in cc);
}
