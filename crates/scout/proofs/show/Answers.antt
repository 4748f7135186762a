-- `scout::show` meets its contract.
use Rattle.std.proofs.Common.{◌≡◌, ◌∙◌, ◌≤◌, arith, length, rules}
use Rattle.words.specs.Sets.{span}
use Rattle.scout.proofs.Fronts.{rest-size, rest-leaves-front, rest-begins}
use Rattle.scout.proofs.show.Goals as goal

pub returns : goal.returns
returns c =
    let z = c.requires in
    let a = c.args in
    let copy = c.copy in
    let copy2 = c.copy-2 in
    let fits : span ≤ length copy.new.to = omega (arith, copy.auto.to, z.room_size) in
    let inside : length a.standing.now ≤ length copy2.new.to =
    omega (arith, copy2.auto.to, rest-size copy.new.to span, copy.auto.to, z.room_size, z.bays_fit) in
    record {
      same_placement = rest-leaves-front copy.new.to copy2.new.to _ span fits _ z.carriers_fit ∙ copy.ensures;
      same_standing = rest-begins copy.new.to copy2.new.to _ span fits _ inside ∙ copy2.ensures;
    }
