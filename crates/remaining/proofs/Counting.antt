-- The bytes that are 0 are counted one by one: so many of the first i are.
use Rattle.std.proofs.Common.{◌≡◌, ℕ, ◌+◌, ◌≤◌, ◌<◌, length, get_or, take, List, count_by, ◌∙◌, ap, arith}
use Rattle.std.proofs.lemmas.List.Sums.{count_by_more_no, count_by_more_yes}
use mir.Val.{bool_byte}
use lib.Dec.{eqb}
use Rattle.paper.proofs.Tests.{by_cases}

pub record Counted (gone : List ℕ) (n i : ℕ) : Type 0 where
  pub fits : n ≤ i
  pub counted : n ≡ count_by (λ byte. eqb byte 0) (take i gone)

pub one_at-most : (byte k : ℕ) → k ≡ bool_byte (eqb byte 0) → k ≤ 1
one_at-most byte k is =
    by_cases (eqb byte 0)
    (λ t. let one : k ≡ 1 = is ∙ ap bool_byte t in omega (arith, one))
    (λ t. let none : k ≡ 0 = is ∙ ap bool_byte t in omega (arith, none))

pub counted-on : (gone : List ℕ) (n i k : ℕ) → i < length gone → k ≡ bool_byte (eqb (get_or gone i 0) 0) → Counted gone n i → Counted gone (n + k) (i + 1)
counted-on gone n i k h is c =
    by_cases (eqb (get_or gone i 0) 0)
    (λ t.
    let one : k ≡ 1 = is ∙ ap bool_byte t in
    record { fits = omega (arith, one, c.fits); counted = omega (arith, one, c.counted, count_by_more_yes (λ byte. eqb byte 0) gone i 0 h t) })
    (λ t.
    let none : k ≡ 0 = is ∙ ap bool_byte t in
    record { fits = omega (arith, none, c.fits); counted = omega (arith, none, c.counted, count_by_more_no (λ byte. eqb byte 0) gone i 0 h t) })
