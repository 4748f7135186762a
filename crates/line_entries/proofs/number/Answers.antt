use Rattle.std.proofs.Common.{sym, ◌∙◌, arith}
use Rattle.line_entries.proofs.Numbers.{none-there, first-there, one_on, one-stops, all_read}
use Rattle.line_entries.proofs.number.Goals as goal

pub returns-then-digits-eq0 : goal.returns-then-digits-eq0
returns-then-digits-eq0 c = none-there _ _ c.if-digits-eq0.true

pub loop-b-init : goal.loop-b-init
loop-b-init c =
    record { within = omega arith; reads = first-there c.args.digits.now c.args.most c.if-digits-eq0.false }

pub returns-in_err-n : goal.returns-in_err-n
returns-in_err-n c =
    let loop = c.loop-b in
    rw c.from_residual.ensures (one-stops c.args.digits.now c.args.most loop.n loop.b-index (omega arith) loop.invariant.reads (sym c.in_err-n.was ∙ c.digit_on.ensures))

pub loop-b-preserved : goal.loop-b-preserved
loop-b-preserved c =
    let loop = c.loop-b in
    let s = one_on c.args.digits.now c.args.most loop.n loop.b-index (omega arith) loop.invariant.reads _ (sym c.in_ok-n.was ∙ c.digit_on.ensures) in
    record { within = s.0; reads = s.1 }

pub returns : goal.returns
returns c =
    let loop = c.loop-b in
    all_read c.args.digits.now c.args.most loop.n loop.b-index (omega arith) loop.invariant.within loop.invariant.reads
