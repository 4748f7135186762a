use Rattle.std.proofs.Common.{◌∙◌}
use Rattle.bills.proofs.Tested.{record-tested}
use Rattle.entries.proofs.same_record.Goals as goal

pub returns : goal.returns
returns c = c.eq.ensures ∙ record-tested c.args.a c.args.b
