-- One word more has its ones more members.
use Rattle.std.proofs.Common.{◌≡◌, refl, length, get_or, arith}
use Rattle.std.proofs.lemmas.Nat.{ones-le}
use Rattle.paper.specs.Basics.{filter, count_from}
use Rattle.words.specs.Sets.{members}
use Rattle.words.proofs.Sets.{count_word}
use Rattle.words.proofs.count.Goals as goal

pub overflow_add-n : goal.overflow_add-n
overflow_add-n c = omega (arith, ones-le 64 (get_or c.args.ws.now c.loop-w.w-index 0) (c.type_inv.ws _).fits)

pub loop-w-init : goal.loop-w-init
unfolding filter count_from
loop-w-init c = record { fits = omega arith; counted = refl }

pub loop-w-preserved : goal.loop-w-preserved
loop-w-preserved c =
    let i = c.loop-w.w-index in
    record {
      fits = omega (arith, ones-le 64 (get_or c.args.ws.now i 0) (c.type_inv.ws i).fits);
      counted = omega (arith, count_word c.args.ws.now i (c.type_inv.ws i).fits);
    }

pub returns : goal.returns
unfolding members
returns c = let e : c.loop-w.w-index ≡ length c.args.ws.now = omega arith in rw e at c.loop-w.invariant.counted
