-- What the code's crossings and refusals read as tells any two of them apart, so a statement about the reading fixes the value;
-- and a crossing and its number are had back from each other.
use Rattle.std.proofs.Common.{Err, Ok}
use mathlib.Core.Path.{◌≡◌, refl, sym, ◌∙◌, ap}
use mathlib.Core.Option.{Option}
use Prim.Native.Nat.{ℕ, ◌<◌, ◌^◌}
use Rattle.paper.specs.Yard.{pack, unpack}
use Rattle.paper.specs.Docket as paper
use Rattle.paper.proofs.Determined.{Telling, telling-by}
use Rattle.paper.proofs.Packing.{unpack-pack, pack-unpack}
use Rattle.docket.specs.Reading.{crossing_of, refusal_of, row_of, verdict_of}
use Rattle.docket.specs.declared.Crossing.{Crossing as Held}
use Rattle.docket.specs.declared.Refusal.{Refusal}
use Rattle.docket.specs.declared.Row.{Row}
use Rattle.docket.specs.Verdict.{Verdict}
use Rattle.docket.specs.declared.Refusal.TheVariants as code

pub crossing-tells : Telling crossing_of
crossing-tells a b e =
    let c : a.carrier.0 ≡ b.carrier.0 = ap (λ x. x.carrier) e in
    let f : a.from.0 ≡ b.from.0 = ap (λ x. x.from) e in
    let t : a.to.0 ≡ b.to.0 = ap (λ x. x.to) e in
    λ i. record { carrier = record { 0 = c i }; from = record { 0 = f i }; to = record { 0 = t i } }

-- whatever `unpack` may answer on what `pack` may answer is the crossing,
pub unpacked-packed : (x r : Held) (w : ℕ) → x.from.0 < 2 ^ 16 → x.to.0 < 2 ^ 16 → w ≡ pack (crossing_of x) → crossing_of r ≡ unpack w → r ≡ x
unpacked-packed x r w f t p u = crossing-tells r x (u ∙ ap unpack p ∙ unpack-pack (crossing_of x) f t)

-- and the other way round.
pub packed-unpacked : (w v : ℕ) (r : Held) → crossing_of r ≡ unpack w → v ≡ pack (crossing_of r) → v ≡ w
packed-unpacked w v r u p = p ∙ ap pack u ∙ pack-unpack w

-- the code's refusal for the paper's
unfoldable pub refusal_for : paper.Refusal → Refusal
refusal_for paper.size = code.Size
refusal_for (paper.rail i) = code.Rail i
refusal_for (paper.apart b) = code.Apart (record { 0 = b })
refusal_for paper.crowd = code.Crowd
refusal_for (paper.start c) = code.Start (record { 0 = c })
refusal_for (paper.goal c) = code.Goal (record { 0 = c })
refusal_for (paper.stopped c) = code.Stopped (record { 0 = c })
refusal_for (paper.room l) = code.Room l
refusal_for (paper.illegal i) = code.Illegal i
refusal_for (paper.missed c) = code.Missed (record { 0 = c })
refusal_for paper.mismarked = code.Mismarked
refusal_for paper.unknown = code.Unknown
refusal_for (paper.early e) = code.Early e
refusal_for (paper.bad_map l) = code.BadMap l
refusal_for (paper.bad_scenario l) = code.BadScenario l
refusal_for (paper.bad_survey l) = code.BadSurvey l
refusal_for paper.ended = code.Ended
refusal_for paper.long_piece = code.LongPiece
refusal_for paper.disagrees = code.Disagrees
refusal_for paper.edition = code.Edition
refusal_for paper.begun = code.Begun
refusal_for (paper.bad_plan l) = code.BadPlan l
refusal_for (paper.bad_reports l) = code.BadReports l

pub refusal-back : (r : Refusal) → refusal_for (refusal_of r) ≡ r
unfolding refusal_for
refusal-back code.Size = refl
refusal-back (code.Rail i) = refl
refusal-back (code.Apart b) = refl
refusal-back code.Crowd = refl
refusal-back (code.Start c) = refl
refusal-back (code.Goal c) = refl
refusal-back (code.Stopped c) = refl
refusal-back (code.Room l) = refl
refusal-back (code.Illegal i) = refl
refusal-back (code.Missed c) = refl
refusal-back code.Mismarked = refl
refusal-back code.Unknown = refl
refusal-back (code.Early e) = refl
refusal-back (code.BadMap l) = refl
refusal-back (code.BadScenario l) = refl
refusal-back (code.BadSurvey l) = refl
refusal-back code.Ended = refl
refusal-back code.LongPiece = refl
refusal-back code.Disagrees = refl
refusal-back code.Edition = refl
refusal-back code.Begun = refl
refusal-back (code.BadPlan l) = refl
refusal-back (code.BadReports l) = refl

pub refusal-tells : Telling refusal_of
refusal-tells = telling-by refusal_of refusal_for refusal-back

-- what a row is known to be is what it reads as
pub row_read : {x y : Row} {p : ℕ × Option ℕ} → x ≡ y → row_of x ≡ p → row_of y ≡ p
row_read e f = ap row_of (sym e) ∙ f

pub verdict-tells : Telling verdict_of
verdict-tells = telling-by verdict_of verdict_for verdict-back
  where
    verdict_for : paper.Verdict → Verdict
    verdict_for (paper.granted n) = Ok n
    verdict_for (paper.denied r) = Err (refusal_for r)

    verdict-back : (v : Verdict) → verdict_for (verdict_of v) ≡ v
    verdict-back (Ok n) = refl
    verdict-back (Err r) = ap Err (refusal-back r)
