-- The first word with a bit left has the lowest at its trailing zeros.
use Rattle.std.proofs.Common.{ℕ, ◌*◌, length, get_or, arith}
use Rattle.std.proofs.Math.Nat.{lt_of_le_of_lt}
use Rattle.std.proofs.lemmas.Nat.{shr_le}
use Rattle.words.specs.Sets.{mem}
use Rattle.words.proofs.Bits.{lowest-left}
use Rattle.words.proofs.Loops.{lowest-here, lowest-on, next_word}
use Rattle.name_sets.proofs.next_name.Goals as goal

pub returns-then-rest-ne0 : goal.returns-then-rest-ne0
returns-then-rest-ne0 c =
    let l = c.loop-i in
    let v = l.invariant in
    let a = c.args in
    let f = (c.type_inv.ws l.i).fits in
    let w : ℕ = get_or a.ws.now l.i 0 in
    lowest-here (mem a.ws.now) a.a l.i _ l.s (64 * length a.ws.now) v.from v.shift (omega arith) (omega arith) (lt_of_le_of_lt (shr_le w l.s) f)
    (λ k h. next_word a.ws.now l.i l.s k v.shift h) (lowest-left w l.s v.shift f (omega arith)) v.before

pub loop-i-preserved : goal.loop-i-preserved
loop-i-preserved c =
    let l = c.loop-i in
    let v = l.invariant in
    let a = c.args in
    record {
      shift = omega arith;
      upto = omega arith;
      from = omega arith;
      before = λ k g q. lowest-on (mem a.ws.now) a.a l.i _ l.s v.shift c.if-rest-ne0.false (λ k h. next_word a.ws.now l.i l.s k v.shift h) v.before k g (omega arith);
    }
