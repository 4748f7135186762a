use Rattle.std.proofs.Common.{refl, sym, ◌∙◌}
use Rattle.docket.specs.Reading.{crossing_of}
use Rattle.replay.proofs.Judging.{nobody-there, stands-elsewhere, to-outside, no-rail, by-the-mark}
use Rattle.replay.proofs.is_legal.Goals as goal

-- each way out is one law of proofs/Judging

pub returns-then-at-carrier : goal.returns-then-at-carrier
returns-then-at-carrier c = nobody-there _ _ _ _ (crossing_of c.args.x) c.if-at-carrier.true

pub returns-then-at-carrier-2 : goal.returns-then-at-carrier-2
returns-then-at-carrier-2 c = stands-elsewhere _ _ _ _ (crossing_of c.args.x) c.if-at-carrier-2.true

pub returns-then-rows-to : goal.returns-then-rows-to
returns-then-rows-to c = to-outside _ _ _ _ (crossing_of c.args.x) c.if-rows-to.true

pub returns-then-not-is_in : goal.returns-then-not-is_in
returns-then-not-is_in c = no-rail _ _ _ _ (crossing_of c.args.x) c.requires c.if-at-carrier.false c.if-at-carrier-2.false c.if-rows-to.false (sym c.is_in.ensures ∙ c.if-not-is_in.true)

pub returns : goal.returns
returns c =
    by-the-mark _ _ _ _ (crossing_of c.args.x) c.requires c.if-at-carrier.false c.if-at-carrier-2.false c.if-rows-to.false (sym c.is_in.ensures ∙ c.if-not-is_in.false) _ refl
