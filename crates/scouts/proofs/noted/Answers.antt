-- `scouts::noted` meets its contract.
use Rattle.std.proofs.Common.{sym, ◌∙◌, inl, inr, arith, rules, eqb-true}
use Rattle.paper.proofs.Tests.{or_cases}
use Rattle.scouts.proofs.noted.Goals as goal

pub overflow_cast-path : goal.overflow_cast-path
overflow_cast-path c =
    omega (arith, c.requires.low c.args.place c.if-place-path.true)

pub join-requires : goal.join-requires
join-requires c =
    (c.requires.size, omega (arith, c.requires.low c.args.place c.if-place-path.true))

pub returns-then-place-path : goal.returns-then-place-path
returns-then-place-path c =
    let join = c.join in
    record {
      size = join.auto.ws ∙ c.requires.size;
      only = λ b h. or_cases _ _ (sym (join.ensures b) ∙ h) (λ t. inl t) (λ t. inr (c.if-place-path.true, eqb-true _ _ t));
    }

pub returns-else-place-path : goal.returns-else-place-path
returns-else-place-path c = record { size = c.requires.size; only = λ b h. inl h }
