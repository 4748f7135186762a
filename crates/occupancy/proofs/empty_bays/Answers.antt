use Rattle.std.proofs.Common.{◌-◌, ◌∙◌, ap, arith}
use Rattle.occupancy.proofs.Standing.{occupied-few, occupied-ones}
use Rattle.occupancy.proofs.empty_bays.Goals as goal

-- the set has as many members as there are occupied bays, and those are at most n
pub overflow_sub-result : goal.overflow_sub-result
overflow_sub-result c =
    omega (arith, c.count.ensures, occupied-ones c.args.n c.args.place.now _ (omega arith) (omega arith) c.occupied.ensures, occupied-few c.args.n c.args.place.now _ (omega arith) (omega arith) c.occupied.ensures)

pub returns : goal.returns
returns c = record {
  within = λ h. ap (λ k. c.args.n - k) (c.count.ensures ∙ occupied-ones c.args.n c.args.place.now _ (omega arith) (omega arith) c.occupied.ensures);
  beyond = λ h. absurd (omega arith);
}
