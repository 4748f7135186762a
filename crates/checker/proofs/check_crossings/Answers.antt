use Rattle.std.proofs.Common.{rules}
use Rattle.paper.specs.Yard.{crossings}
use Rattle.replay.specs.Playing.{legality_of}
use Rattle.replay.proofs.Walking.{none-occupied}
use Rattle.checker.specs.Reading.{checked_of}
use Rattle.checker.proofs.NineTen.{nine-ten, all_placed}
use Rattle.checker.proofs.check_crossings.Goals as goal

pub occupy-requires : goal.occupy-requires
occupy-requires c = (search (rules, c.requires.1.starts_inside), none-occupied)

pub returns : goal.returns
returns c =
    let play = c.play-legality in
    nine-ten c.args.rows c.args.table.now c.args.start.now c.args.goal.now (crossings c.args.plan.now) _ _ _ (legality_of play.result)
    (all_placed c.args.start.now c.args.at.now _ c.requires.0 c.copy.ensures) c.occupy.ensures play.ensures (checked_of c.judge.result) c.judge.ensures
