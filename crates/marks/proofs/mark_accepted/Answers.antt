use Rattle.std.proofs.Common.{◌≡◌, ℕ, List, refl, sym, ap}
use Rattle.paper.specs.Answers.{marks_after}
use Rattle.marks.specs.declared.Reported.{Reported}
use Rattle.marks.specs.declared.Reported.TheVariants.{Accepted, Already, Refused}
use Rattle.marks.specs.Reading.{report_of}
use Rattle.marks.proofs.mark_accepted.Goals as goal

kept : (marks : List ℕ) (name : ℕ) (r : Reported) → (r ≡ Accepted → ⊥) → marks ≡ marks_after marks name (report_of r)
unfolding marks_after
kept marks name Accepted h = absurd (h refl)
kept marks name Already h = refl
kept marks name (Refused r) h = refl

pub returns-in-Accepted : goal.returns-in-Accepted
unfolding marks_after
returns-in-Accepted c = ap (λ r. marks_after c.args.marks.now c.args.name (report_of r)) (sym c.in-Accepted.is)

-- on any other answer the marks are as they were
pub returns-in_default : goal.returns-in_default
returns-in_default c = kept c.args.marks.now c.args.name c.args.answer c.in_default.not-Accepted
