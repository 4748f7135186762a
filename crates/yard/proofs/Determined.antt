-- What opening promises allows one answer and one table: the answer reads as the paper's, an open yard has the given bays and rail ends, and each
-- bay of each row is said to be there or not.
use Rattle.std.proofs.Common.{Err, Ok}
use mathlib.Core.Path.{◌≡◌, refl, sym, ap, ◌∙◌}
use mathlib.Core.List.{List}
use mathlib.Core.Option.{none, some}
use Prim.Native.Nat.{ℕ, ◌+◌, ◌*◌, ◌/◌, ◌%◌, ◌^◌, ◌<◌}
use native.Mathlib.Decide.{dec_lt}
use native.Mathlib.Omega.{arith}
use lib.ListN.{length, get_or}
use Rattle.paper.specs.Order.{Order}
use Rattle.paper.proofs.Tests.{never}
use Rattle.docket.specs.Reading.{refusal_of}
use Rattle.docket.proofs.Telling.{refusal-tells}
use Rattle.words.specs.Sets.{mem, mem_row, span}
use Rattle.words.proofs.Sets.{same-words}
use Rattle.yard.specs.declared.Yard.{Yard as Numbers}
use Rattle.yard.specs.Opened.{Opened}
use Rattle.yard.specs.Opening.{Admits, Opens}

same_numbers : (y z : Numbers) → y.bays ≡ z.bays → y.ends ≡ z.ends → y ≡ z
same_numbers y z b e = λ i. record { bays = b i; ends = e i }

module _ (given : Order) where
  -- what a row of an open yard's table holds
  same_row : (y z : Numbers) (t u : List ℕ) → Admits given y t → Admits given z u → (a b : ℕ) → b < span → mem_row t a b ≡ mem_row u a b
  same_row y z t u p q a b h = elim (dec_lt a given.bays) [
    | yes l ↦ p.rows.same a b l h ∙ sym (q.rows.same a b l h)
    | no l ↦ p.beyond a b (omega arith) h ∙ sym (q.beyond a b (omega arith) h)
  ]

  same-table : (y z : Numbers) (t u : List ℕ) → Admits given y t → Admits given z u → (x : ℕ) → mem t x ≡ mem u x
  same-table y z t u p q x =
      let e : x / span * span + x % span ≡ x = omega arith in
      rw e at (same_row y z t u p q (x / span) (x % span) (omega arith))

  module _ (lent : ℕ) where
    same_answer : (o o' : Opened) (t t' : List ℕ) → Opens given lent o t → Opens given lent o' t'
        → (o ≡ o') × ((x : ℕ) → mem t x ≡ mem t' x)
    same_answer (Ok y) (Ok z) t t' p q =
        let a = p.admitted y refl in
        let b = q.admitted z refl in
        (ap Ok (same_numbers y z (a.bays ∙ sym b.bays) (a.ends ∙ sym b.ends)), same-table y z t t' a b)
    same_answer (Err r) (Err r') t t' p q =
        let e : some (refusal_of r) ≡ some (refusal_of r') = p.answer ∙ sym q.answer in
        (ap Err (refusal-tells r r' (cc)), λ x. p.refused r refl x ∙ sym (q.refused r' refl x))
    same_answer (Ok y) (Err r) t t' p q = let e : none ≡ some (refusal_of r) = p.answer ∙ sym q.answer in never (cc)
    same_answer (Err r) (Ok y) t t' p q = let e : none ≡ some (refusal_of r) = q.answer ∙ sym p.answer in never (cc)

    -- Any two answers that the statement allows are equal, and so are any two tables of as many 64-bit words.
    pub open-determined : (o o' : Opened) (t t' : List ℕ) → Opens given lent o t → Opens given lent o' t'
        → length t ≡ length t' → ((i : ℕ) → get_or t i 0 < 2 ^ 64) → ((i : ℕ) → get_or t' i 0 < 2 ^ 64) → (o ≡ o') × (t ≡ t')
    open-determined o o' t t' p q l f h =
        let k = same_answer o o' t t' p q in (k.0, same-words t t' l f h k.1)
