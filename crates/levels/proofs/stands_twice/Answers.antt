-- Parts that are equal have the same words.
use Rattle.std.proofs.Common.{◌≡◌, ℕ, ◌+◌, ◌-◌, ◌<◌, List, take, drop, get_or, get_or-take, get_or-drop, sym, ap, ◌∙◌, arith}
use Rattle.std.proofs.lemmas.Bool.Decides.{Decides-eqb}
use Rattle.std.proofs.lemmas.Slice.Eq.{slice_eq-Decides}
use Rattle.levels.proofs.stands_twice.Goals as goal

word-twice : (table : List ℕ) (a b k m : ℕ) → take k (drop a table) ≡ take m (drop b table)
    → (i : ℕ) → i < k → i < m → get_or table (b + i) 0 ≡ get_or table (a + i) 0
word-twice table a b k m same i lk lm =
    sym (get_or-take m (drop b table) i 0 lm ∙ get_or-drop b table i 0)
    ∙ ap (λ xs. get_or xs i 0) (sym same)
    ∙ get_or-take k (drop a table) i 0 lk
    ∙ get_or-drop a table i 0

pub returns : goal.returns
returns c = λ e i h.
    let at = c.args.at in
    let size = c.args.size in
    let same = (slice_eq-Decides Decides-eqb _ _ _ c.eq.ensures).0 e in
    word-twice c.args.table.now at (at + size) (at + size - at) (at + size + size - (at + size)) same i (omega arith) (omega arith)
