use Rattle.std.proofs.Common.{◌≡◌, Bool, true, false, not, List, ℕ, sym, ◌∙◌}
use borrow.Author.Tests.{not-true}
use Rattle.paper.specs.Basics.{◌and◌}
use Rattle.paper.proofs.Tests.{and_left, and_right}
use Rattle.words.specs.Sets.{mem}
use Rattle.ways.specs.Few.{few, by_queue}
use Rattle.ways.proofs.path_between.Goals as goal

-- where a queue serves, neither bay is held
unheld : (table held : List ℕ) (u v : ℕ) {r : Bool} → r ≡ by_queue table held u v → r ≡ true → (mem held u ≡ false) × (mem held v ≡ false)
unheld table held u v e t =
    let z = and_right (few table u and few table v) (not (mem held u) and not (mem held v)) (sym e ∙ t) in
    (not-true (mem held u) (and_left (not (mem held u)) (not (mem held v)) z), not-true (mem held v) (and_right (not (mem held u)) (not (mem held v)) z))

pub path_by_queue-requires : goal.path_by_queue-requires
path_by_queue-requires c =
    let a = c.args in
    let t = unheld a.table.now a.held.now a.u.0 a.v.0 c.by_queue.ensures c.if-by_queue.true in
    record { asks = c.requires; start_unheld = t.0; goal_unheld = t.1 }
