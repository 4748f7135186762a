use Rattle.std.proofs.Common.{sym, ◌∙◌}
use Rattle.docket.specs.Reading.{crossing_of}
use Rattle.paper.specs.Yard.{crossings}
use Rattle.returning.proofs.Returning.{no_return}
use Rattle.dropping.proofs.Looking.{rank-next, look-passed, look-cut, cut-rank}
use Rattle.dropping.proofs.look.Goals as goal

pub returns-then-gone-name-ne0 : goal.returns-then-gone-name-ne0
returns-then-gone-name-ne0 c =
    let going = c.requires.going in
    record {
      going = look-passed c.args.plan.now c.args.gone.now c.args.todo.now c.args.name c.requires.inside going _ c.remove.auto.ws c.remove.ensures (λ z. absurd (c.if-gone-name-ne0.true z));
      less = rank-next c.args.plan.now c.args.gone.now c.args.todo.now c.args.name c.requires.inside going;
      linked = c.requires.linked;
    }

pub returns-then-last-name : goal.returns-then-last-name
returns-then-last-name c =
    let going = c.requires.going in
    let remove = c.remove-then-last-name in
    let none_here = no_return (crossings c.args.plan.now) c.args.gone.now c.args.name (sym c.if-last-name.true ∙ c.last_return-last.ensures.1) in
    record {
      going = look-passed c.args.plan.now c.args.gone.now c.args.todo.now c.args.name c.requires.inside going _ remove.auto.ws remove.ensures (λ z. none_here);
      less = rank-next c.args.plan.now c.args.gone.now c.args.todo.now c.args.name c.requires.inside going;
      linked = c.last_return-last.ensures.2;
    }

pub returns : goal.returns
returns c =
    let plan = c.args.plan.now in
    let gone = c.args.gone.now in
    let last = c.last_return-last in
    let noted = c.note_leavings-low in
    let x = crossing_of c.crossing_at-x.result in
    let dropped = c.drop_trip.ensures.dropped in
    record {
      going = rw dropped (look-cut plan gone c.args.todo.now c.args.name c.requires.inside c.requires.going last.result noted.result _ noted.auto.todo x
          c.crossing_at-x.ensures c.if-gone-name-ne0.false c.if-last-name.false last.ensures.1 noted.ensures.low noted.ensures.noted);
      less = rw dropped (cut-rank plan gone c.args.todo.now c.args.name c.requires.inside c.requires.going last.result noted.result _ noted.auto.todo x
          c.crossing_at-x.ensures c.if-gone-name-ne0.false c.if-last-name.false last.ensures.1 noted.ensures.low noted.ensures.noted);
      linked = c.drop_trip.ensures.linked;
    }
