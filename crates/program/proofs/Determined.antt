-- The contracts of `program::program` and `program::program_short` determine the answer and every byte of the lent list: any two that one allows are equal.
use mathlib.Core.Path.{◌≡◌, sym, ◌∙◌}
use mathlib.Core.List.{List}
use mathlib.Core.Option.{Option}
use Prim.Native.Nat.{ℕ}
use Rattle.paper.specs.Text.{Text}
use Rattle.paper.specs.Program.{program}
use Rattle.stores.specs.Writing.{Wrote}
use Rattle.print_room.specs.Short.{short_program}

wrote-determined : {text before out out' : List ℕ} {n n' : ℕ} → Wrote before 0 text out n → Wrote before 0 text out' n' → (n ≡ n') × (out ≡ out')
wrote-determined a b = (a.counted ∙ sym b.counted, a.left ∙ sym b.left)

pub program-determined : (map_file scenario_file : Option Text) {before out out' : List ℕ} {n n' : ℕ} → Wrote before 0 (program map_file scenario_file) out n
    → Wrote before 0 (program map_file scenario_file) out' n' → (n ≡ n') × (out ≡ out')
program-determined map_file scenario_file a b = wrote-determined a b

pub short-determined : (map_file scenario_file : Option Text) {before out out' : List ℕ} {n n' : ℕ} → Wrote before 0 (short_program map_file scenario_file) out n
    → Wrote before 0 (short_program map_file scenario_file) out' n' → (n ≡ n') × (out ≡ out')
short-determined map_file scenario_file a b = wrote-determined a b
