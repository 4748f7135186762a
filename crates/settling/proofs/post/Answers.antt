-- `settling::post` meets its contract: the name's crossing, its slot, and the step of record and line.
use Rattle.std.proofs.Common.{rules, refl, ◌∙◌, ap, ap₂}
use Rattle.paper.specs.Limits.{most_bays}
use Rattle.paper.specs.Yard.{Crossing}
use Rattle.docket.specs.Reading.{crossing_of}
use Rattle.plans.proofs.Rest.{fits-named}
use Rattle.bills.specs.Billing.{posted, charged}
use Rattle.bills.specs.declared.Line.{Line}
use Rattle.held_lines.specs.Lines.{line_at}
use Rattle.settling.proofs.post.Goals as goal

pub posted-requires : goal.posted-requires
posted-requires c = ((fits-named most_bays most_bays c.args.plan.now c.requires.0.fits c.args.name c.requires.0.inside (crossing_of c.crossing_at-x.result) c.crossing_at-x.ensures).0, c.requires.0.not_all)

pub charged-requires : goal.charged-requires
charged-requires c = rw (ap (λ (l : Line). l.billed) (c.line_at.ensures ∙ ap (λ (y : Crossing). line_at c.args.held y.carrier) c.crossing_at-x.ensures)) c.requires.0.not_full

pub returns : goal.returns
returns c =
    let x = c.crossing_at-x.ensures in
    record {
      answers = refl;
      leaves = c.posted.ensures ∙ ap₂ (posted c.args.running) x (c.requires.1 c.requires.0.inside);
      place = ap (λ (y : Crossing). y.carrier) x;
      line_then = c.charged.ensures ∙ ap (λ (l : Line). charged l c.args.name) (c.line_at.ensures ∙ ap (λ (y : Crossing). line_at c.args.held y.carrier) x);
    }
