-- `edge_lines::one_more` meets its contract: one more, as long as there is one more.
use Rattle.std.proofs.Common.{arith, add-one, rules}
use Rattle.edge_lines.proofs.one_more.Goals as goal

pub returns-then-n-lt18446744073709551615 : goal.returns-then-n-lt18446744073709551615
returns-then-n-lt18446744073709551615 c = record { one = λ h. add-one _; most = omega arith }

pub returns-else-n-lt18446744073709551615 : goal.returns-else-n-lt18446744073709551615
returns-else-n-lt18446744073709551615 c = record { one = λ h. absurd (omega arith); most = omega arith }
