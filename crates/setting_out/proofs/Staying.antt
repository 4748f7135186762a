-- No trip begins where nobody enters the bay any more, or another carrier is the next to do so.
use mathlib.Core.Path.{◌≡◌, refl, sym, ◌∙◌, ap}
use mathlib.Core.Bool.{false}
use mathlib.Core.List.{List, []}
use Prim.Native.Nat.{ℕ, suc, ◌≤◌, ◌<◌, ◌+◌, ◌-◌}
use native.Mathlib.Omega.{arith}
use borrow.Author.Tests.{eq-eqb, eqb-true, eqb-false}
use lib.Dec.{eqb}
use lib.ListN.{length, get_or, replicate, length-replicate, get_or-replicate}
use Rattle.paper.specs.Basics.{◌or◌}
use Rattle.paper.specs.Yard.{crossings, named}
use Rattle.paper.proofs.Tests.{by_cases, not-both, or-none}
use Rattle.words.specs.Sets.{mem}
use Rattle.chains.specs.Links.{Passed, Met}
use Rattle.trips.specs.Trips.{is_of}
use Rattle.returning.specs.Returns.{last_from}
use Rattle.returning.proofs.Returning.{returning-over, returning-barred, returning-end, no_return}
use Rattle.setting_out.specs.SetOut.{StaysOut, SetOut, OneMore}

module _ (plan : List ℕ) (name next : ℕ) (later : name < next) (within : next ≤ length plan)
    (met : Met plan [] 0 (named (crossings plan) name).from (suc name) next) where
  abbrev fresh : List ℕ
  fresh = replicate (length plan) 0

  long : length fresh ≡ length plan
  long = length-replicate {A = ℕ} (length plan) 0

  -- nothing of what is passed enters the bay
  passed : Passed plan fresh 0 (named (crossings plan) name).from (suc name) next
  passed k l h e = let one : ◌≡◌ {A = ℕ} 0 1 = met.passed k l h e in absurd (omega arith)

  over : last_from (named (crossings plan) name) (crossings plan) fresh name next ≡ last_from (named (crossings plan) name) (crossings plan) fresh name (suc name)
  over = returning-over plan fresh long (named (crossings plan) name) name (named (crossings plan) name).from (next - suc name) (suc name) next (omega arith) within refl passed

  pub nobody-enters : length plan ≤ next → StaysOut plan name
  nobody-enters h = no_return (crossings plan) fresh name (returning-end plan fresh long (named (crossings plan) name) name next h ∙ over)

  pub another-enters : next < length plan → is_of (named (crossings plan) name).carrier (named (crossings plan) next) ≡ false → StaysOut plan name
  another-enters h other =
      let here : get_or fresh next 0 ≡ 0 = get_or-replicate {A = ℕ} (length plan) next 0 0 h in
      no_return (crossings plan) fresh name
      (returning-barred plan fresh long (named (crossings plan) name) name next h here (met.meets h) (eqb-false _ _ other) ∙ over)

-- ## The set

module _ (plan todo todo' : List ℕ) (m : ℕ) where
  pub one-joins : ((k : ℕ) → mem todo' k ≡ mem todo k or eqb k m) → OneMore plan todo m todo'
  one-joins adds = record {
    fewer = λ k z. (or-none _ _ (sym (adds k) ∙ z)).0;
    here = λ z. not-both (eq-eqb m m refl) (or-none _ _ (sym (adds m) ∙ z)).1;
  }

  pub set_on : SetOut plan todo m → OneMore plan todo m todo' → SetOut plan todo' (m + 1)
  set_on s one k l z =
      by_cases (eqb k m)
      (λ e. let same = eqb-true k m e in rw same (one.here (ap (mem todo') (sym same) ∙ z)))
      (λ e. s k (omega (arith, eqb-false k m e)) (one.fewer k z))
