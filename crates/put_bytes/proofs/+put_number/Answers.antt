-- The digits are those of the tenth, by the call, and the last one behind them.
use Rattle.std.proofs.Common.{◌+◌, ◌/◌, ◌%◌, arith}
use Rattle.stores.proofs.Stores.{wrote_one}
use Rattle.laws.proofs.Digits.{decimal-one, decimal-more, decimal-short}
use Rattle.put_bytes.proofs.+put_number.Goals as goal

pub returns-then-n-lt10 : goal.returns-then-n-lt10
returns-then-n-lt10 t c =
    rw (decimal-one c.args.n c.if-n-lt10.true) (record { left = c.store.ensures; counted = omega arith })

pub overflow_add-result-2 : goal.overflow_add-result-2
overflow_add-result-2 t c =
    record { fits = omega (arith, c.put_number-end.ensures.counted, decimal-short (c.args.n / 10) (omega arith)) }

pub returns : goal.returns
returns t c =
    rw (decimal-more c.args.n c.if-n-lt10.false)
    (wrote_one (48 + c.args.n % 10) c.put_number-end.ensures c.store-2.ensures (omega arith))
