use Rattle.std.proofs.Common.{◌≡◌, length, ap, ◌∙◌, arith}
use Rattle.reverse_list.proofs.Writing.{written_to, written-more, written_all}
use Rattle.reverse_list.proofs.write.Goals as goal

pub loop-i-preserved : goal.loop-i-preserved
loop-i-preserved c = written-more c.args.list.now c.args.out.now _ _ _ (omega arith) c.requires c.turned.ensures c.loop-i.invariant

pub returns : goal.returns
returns c =
    let end : c.loop-i.i ≡ length c.args.list.now = omega arith in
    written_all c.args.list.now c.args.out.now _ (c.loop-i.invariant ∙ ap (written_to c.args.list.now c.args.out.now) end)
