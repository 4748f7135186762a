-- A text handed over is told by its length, whether it fits or not; a plan of at most 65,536 crossings is handed over as its print.
-- Assumes nothing.
use mathlib.Core.Path.{◌≡◌, ◌∙◌, ap}
use mathlib.Core.List.{List}
use Prim.Native.Nat.{ℕ, ◌≤◌, ◌<◌}
use lib.ListN.{length}
use borrow.Author.Tests.{le-leb, lt-leb}
use Rattle.paper.specs.Yard.{most_crossings}
use Rattle.paper.specs.Docket.{Verdict, denied, size}
use Rattle.paper.specs.Text.{Text}
use Rattle.paper.specs.Print.{printed}
use Rattle.printing.specs.Parts.{handed as lent}
use Rattle.handing.specs.Handing.{fitted, Hands, handed}
use Rattle.handing.specs.Plans.{plan_printed, plan_print_end}
use Rattle.numbers.specs.Tells.{Tells}
use Rattle.numbers.specs.Numbers.{verdict_number, verdict_value}
use Rattle.sejjekoru.specs.Whole.{TextTells, PrintPlanTells}
use Rattle.sejjekoru.proofs.Saying.{told-as}

pub text-tells : {t : Text} {out out' : List ℕ} {needed number value : ℕ} {a : Verdict} → Hands t out out' needed → a ≡ handed needed (length out) → Tells (verdict_number a) (verdict_value a) number value → TextTells t out number value out'
text-tells {t} {out} h e k = record {
  tells = told-as verdict_number verdict_value (e ∙ ap (λ n. handed n (length out)) h.counted) k;
  leaves = h.leaves;
}

module _ (plan : List ℕ) (out : List ℕ) where
  module _ (small : length plan ≤ most_crossings) where
    printed-as : handed (length (printed (lent plan))) (length out) ≡ plan_printed plan (length out)
    unfolding plan_printed printed lent
    printed-as = rw (le-leb (length plan) most_crossings small)

    left_as : fitted (printed (lent plan)) out ≡ plan_print_end plan out
    unfolding plan_print_end printed lent
    left_as = rw (le-leb (length plan) most_crossings small)

    pub plan-tells : {out' : List ℕ} {needed number value : ℕ} {a : Verdict} → Hands (printed (lent plan)) out out' needed → a ≡ handed needed (length out) → Tells (verdict_number a) (verdict_value a) number value → PrintPlanTells plan out number value out'
    plan-tells h e k =
        let t = text-tells h e k in
        record { tells = told-as verdict_number verdict_value printed-as t.tells; leaves = t.leaves ∙ left_as }

  -- a plan over the limit is 1
  pub plan-over-tells : {number value : ℕ} → most_crossings < length plan → Tells (verdict_number (denied size)) (verdict_value (denied size)) number value → PrintPlanTells plan out number value out
  unfolding plan_printed plan_print_end
  plan-over-tells h k =
      let e : denied size ≡ plan_printed plan (length out) = rw (lt-leb (length plan) most_crossings h) in
      record { tells = told-as verdict_number verdict_value e k; leaves = rw (lt-leb (length plan) most_crossings h) }
