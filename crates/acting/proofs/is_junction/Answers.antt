-- `acting::is_junction` meets its contract. The rails counted are the yard's.
use Rattle.std.proofs.Common.{ap, ◌∙◌, ℕ, arith, ltb, rules}
use Rattle.acting.proofs.Junctions.{junction-rails}
use Rattle.acting.proofs.is_junction.Goals as goal

pub count_rails-requires : goal.count_rails-requires
count_rails-requires c = let p = c.requires in omega (arith, p.1, p.2)

pub returns : goal.returns
returns c =
    let p = c.requires in
    λ t. ap (λ (k : ℕ). ltb 2 k) c.count_rails.ensures ∙ junction-rails t p.0 c.args.v.0 p.1
