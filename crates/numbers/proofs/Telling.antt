-- The two numbers tell any two answers apart, so C is told all that the paper answers: a number says whether its value is a length, "already",
-- nothing, or what a refusal carries.
-- Assumes nothing.
use mathlib.Core.Path.{◌≡◌, refl, sym, ◌∙◌, ap}
use mathlib.Core.Option.{Option, none, some}
use Prim.Native.Nat.{ℕ}
use native.Mathlib.Omega.{arith}
use Rattle.paper.specs.Basics.{elem}
use Rattle.paper.specs.Docket.{Refusal, number, Verdict, granted, denied}
use Rattle.paper.specs.Answers.{Report, accept, already, refuse}
use Rattle.paper.proofs.Determined.{refusals-told-apart, not-in-table}
use Rattle.numbers.specs.Tells.{Tells}
use Rattle.numbers.specs.Numbers.{number_of, value_of, verdict_number, verdict_value, already_number, report_number, report_value}

-- an answer that equals another is told as that one
pub told-as : {A : Type 0} (number value : A → ℕ) {a b : A} {r v : ℕ} → a ≡ b → Tells (number b) (value b) r v → Tells (number a) (value a) r v
told-as number value e t = record { numbered = t.numbered ∙ sym (ap number e); valued = t.valued ∙ sym (ap value e) }

-- a refusal is not told as acceptance is,
pub not_accepted : {P : Type 0} (r : Refusal) → 0 ≡ number r → P
unfolding elem
not_accepted r e = absurd (not-in-table 0 refl r (sym e))

-- nor as "already" is
not_done : {P : Type 0} (r : Refusal) → already_number ≡ number r → P
unfolding elem
not_done r e = absurd (not-in-table 100 refl r (sym e))

-- The check and slots.
pub answers-told-apart : (w : ℕ) (a b : Option Refusal) → number_of a ≡ number_of b → value_of w a ≡ value_of w b → a ≡ b
answers-told-apart w none none e f = refl
answers-told-apart w none (some q) e f = not_accepted q e
answers-told-apart w (some r) none e f = not_accepted r (sym e)
answers-told-apart w (some r) (some q) e f = ap some (refusals-told-apart r q e f)

-- A function that hands back a number.
pub verdicts-told-apart : (a b : Verdict) → verdict_number a ≡ verdict_number b → verdict_value a ≡ verdict_value b → a ≡ b
verdicts-told-apart (granted m) (granted k) e f = ap granted f
verdicts-told-apart (granted m) (denied q) e f = not_accepted q e
verdicts-told-apart (denied r) (granted k) e f = not_accepted r (sym e)
verdicts-told-apart (denied r) (denied q) e f = ap denied (refusals-told-apart r q e f)

-- Report.
pub reports-told-apart : (a b : Report) → report_number a ≡ report_number b → report_value a ≡ report_value b → a ≡ b
reports-told-apart accept accept e f = refl
reports-told-apart accept already e f = absurd (omega arith)
reports-told-apart accept (refuse q) e f = not_accepted q e
reports-told-apart already accept e f = absurd (omega arith)
reports-told-apart already already e f = refl
reports-told-apart already (refuse q) e f = not_done q e
reports-told-apart (refuse r) accept e f = not_accepted r (sym e)
reports-told-apart (refuse r) already e f = not_done r (sym e)
reports-told-apart (refuse r) (refuse q) e f = ap refuse (refusals-told-apart r q e f)
