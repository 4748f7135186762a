-- The two numbers tell any two answers of the agreement test apart.
-- Assumes nothing.
use mathlib.Core.Path.{◌≡◌, refl, sym, ap}
use native.Mathlib.Omega.{arith}
use Rattle.paper.proofs.Determined.{refusals-told-apart}
use Rattle.bills.specs.Answering.{Agreement, agrees, differs, refused as unagreed}
use Rattle.numbers.proofs.Telling.{not_accepted}
use Rattle.log_numbers.specs.Agreeing.{agreement_number, agreement_value}

-- Yes and no have values of their own.
pub agreements-told-apart : (a b : Agreement) → agreement_number a ≡ agreement_number b → agreement_value a ≡ agreement_value b → a ≡ b
agreements-told-apart agrees agrees e f = refl
agreements-told-apart agrees differs e f = absurd (omega arith)
agreements-told-apart agrees (unagreed q) e f = not_accepted q e
agreements-told-apart differs agrees e f = absurd (omega arith)
agreements-told-apart differs differs e f = refl
agreements-told-apart differs (unagreed q) e f = not_accepted q e
agreements-told-apart (unagreed r) agrees e f = not_accepted r (sym e)
agreements-told-apart (unagreed r) differs e f = not_accepted r (sym e)
agreements-told-apart (unagreed r) (unagreed q) e f = ap unagreed (refusals-told-apart r q e f)
