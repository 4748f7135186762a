-- An open yard has its table, and any set may be held.
use Rattle.std.proofs.Common.{arith}
use Rattle.rings.proofs.Searching.{shown-any}
use Rattle.search_cases.proofs.Opened.{opened-table}
use Rattle.search_cases.proofs.path_agrees.Goals as goal

pub path_is-requires : goal.path_is-requires
path_is-requires c =
    (omega arith, omega arith, omega arith, c.requires, shown-any (opened-table c.«open».ensures _ c.in-Ok.is) c.requires)
