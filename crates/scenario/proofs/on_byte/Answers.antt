-- a byte of the version, a tab, a byte of a field.
use Rattle.std.proofs.Common.{refl, ap, eq-eqb, ne_eqb}
use Rattle.paper.specs.Bytes.{in_version, in_carrier, in_line, blank}
use Rattle.fields.specs.ReadAs.{past_of}
use Rattle.scenario.proofs.on_byte.Goals as goal

pub returns-then-s : goal.returns-then-s
unfolding in_line
returns-then-s c = record { failed = refl; version = refl; count = refl; under = λ bay cs. rw c.if-s.true (ap in_version c.text_seen-t.ensures) }

pub returns-then-b-eq9 : goal.returns-then-b-eq9
unfolding in_line
returns-then-b-eq9 c = record { failed = refl; version = refl; count = refl; under = λ bay cs. rw (c.if-s.false, eq-eqb c.args.b 9 c.if-b-eq9.true) (ap (λ p. in_carrier cs p blank) c.field_past-p.ensures) }

pub returns : goal.returns
unfolding in_line
returns c =
    record { failed = refl; version = refl; count = refl; under = λ bay cs. rw (c.if-s.false, ne_eqb c.args.b 9 c.if-b-eq9.false) (ap (in_carrier cs (past_of c.args.s.past)) c.seen-f.ensures) }
