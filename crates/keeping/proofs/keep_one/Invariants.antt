-- `keeping::keep_one` meets its contract. A failed vacate changes nothing, so the placement is that of the start, and all others before x are stuck.
use Rattle.std.proofs.Common.{◌∙◌, ◌≡◌, refl, true, ◌≤◌, ◌<◌, ◌-◌, arith, length, rules, None, Some}
use Rattle.paper.specs.Procedure.{vacate}
use Rattle.words.specs.Sets.{mem, span}
use Rattle.rings.specs.Search.{Shown}
use Rattle.moving.specs.Placed.{Unchanged}
use Rattle.acting.proofs.Acting.{acted-failed}
use Rattle.keeping.specs.Keeping.{Stuck}
use Rattle.acting.proofs.Holding.{ready-again}
use Rattle.keeping.proofs.Keeping.{same-again, unchanged-played, stuck-none, stuck-more, keeps_here}
use Rattle.keeping.proofs.keep_one.Given as goal

abbrev pub invariant-loop-x : goal.invariant-loop-x
invariant-loop-x l =
    (l.x ≤ span) × (l.from ≤ l.x) × (l.x < span → mem l.others l.x ≡ true) × (length l.placement ≡ length l.initial.placement) × (length l.standing ≡ length l.initial.standing) × (length l.empty ≡ length l.initial.empty) × (length l.out ≡ length l.initial.out)
    × Unchanged l.initial.placement l.initial.standing l.initial.empty l.initial.out l.placement l.standing l.empty l.out × ((v : Shown (length l.initial.standing) l.table l.held) → Stuck v.yard v.bays l.others l.from l.x l.initial.placement)

abbrev pub decreases-loop-x : goal.decreases-loop-x
decreases-loop-x l =
    span - l.x
