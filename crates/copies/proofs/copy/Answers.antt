-- `copies::copy` meets its contract. The first places are copied, and the rest is as it was.
use Rattle.std.proofs.Common.{◌≡◌, ◌≤◌, ◌<◌, ◌+◌, refl, arith, length, slice_index_or, slice_set, ℕ, List}
use Rattle.copies.proofs.Copies.{copied, copied-more, copied-all}
use Rattle.copies.proofs.copy.Goals as goal

pub loop-i-init : goal.loop-i-init
loop-i-init g c = refl

-- the place that is stored at is the one that was read
one_more : {A : Type 0} (to₀ from to : List A) (i k : ℕ) (x : A) → k ≡ i → i < length from → length from ≤ length to₀ → x ≡ slice_index_or from i x
    → to ≡ copied to₀ from i → slice_set to k x ≡ copied to₀ from (i + 1)
one_more to₀ from to i k x z h l e is = rw z (copied-more to₀ from to i x h l e is)

pub loop-i-preserved : goal.loop-i-preserved
loop-i-preserved g c = one_more _ _ _ c.loop-i.i _ _ (omega arith) (omega arith) c.requires c.index-from-i.is c.loop-i.invariant

pub returns : goal.returns
returns g c = copied-all _ _ _ c.loop-i.i (omega arith) (omega arith) c.loop-i.invariant
