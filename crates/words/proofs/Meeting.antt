-- Words or-ed together are 0 only if each of them is, and then no bay of theirs passes the test that their bits tell.
use mathlib.Core.Path.{◌≡◌, refl, sym, ◌∙◌}
use mathlib.Core.Bool.{Bool, true, false, not}
use Prim.Native.Nat.{ℕ, ◌+◌, ◌*◌, ◌^◌, ◌≤◌, ◌<◌}
use native.Mathlib.Decide.{dec_lt}
use native.Mathlib.Omega.{arith}
use lib.Bits.{bit_or, or_add_and, and_le_l, and_le_r}
use lib.Dec.{eqb}
use borrow.Author.Tests.{eq-eqb, ne_eqb}
use Rattle.paper.proofs.Tests.{by_cases, not-both}
use Rattle.words.specs.Sets.{on, any_below}
use Rattle.words.proofs.Bits.{on-lowest}
use Rattle.words.proofs.Besides.{any_below-some, any_below-of}
use Rattle.words.proofs.Loops.{lowest-on}

-- a bit is set in `any` exactly if the test passes for one of 0 to m − 1
pub record Told (f : ℕ → Bool) (any m : ℕ) : Type 0 where
  pub none : any ≡ 0 → (k : ℕ) → 0 ≤ k → k < m → f k ≡ false
  pub some : 0 < any → any_below f m ≡ true

module _ (f : ℕ → Bool) where
  pub told_none : Told f 0 0
  told_none = record { none = λ e k g l. absurd (omega arith); some = λ h. absurd (omega arith) }

  pub told_more : (any i w : ℕ) → w < 2 ^ 64 → ((k : ℕ) → 0 + k < 64 → f (i * 64 + 0 + k) ≡ on w k)
      → Told f any (i * 64) → Told f (bit_or any w) ((i + 1) * 64)
  told_more any i w fits says t = record {
    none = λ e. lowest-on f 0 i w 0 (omega arith) (omega (arith, or_add_and any w, and_le_l any w)) says
        (λ k g l. t.none (omega (arith, or_add_and any w, and_le_r any w)) k g (omega arith));
    some = λ h. elim (dec_lt 0 any) [
      | yes q ↦ let r = any_below-some f (i * 64) (t.some q) in any_below-of f ((i + 1) * 64) r.0 (omega (arith, r.1)) r.2
      | no q ↦
          let z = on-lowest w (omega (arith, or_add_and any w)) fits in
          any_below-of f ((i + 1) * 64) _ (omega (arith, z.0)) (says _ (omega (arith, z.0)) ∙ z.1)
    ];
  }

  module _ (any m : ℕ) (t : Told f any m) where
    pub told-some : not (eqb any 0) ≡ any_below f m
    told-some = elim (dec_lt 0 any) [
      | yes h ↦ rw (t.some h, ne_eqb any 0 (λ e. absurd (omega arith)))
      | no h ↦
          let e : any ≡ 0 = omega arith in
          rw (eq-eqb any 0 e) (sym (by_cases (any_below f m)
          (λ q. let r = any_below-some f m q in not-both r.2 (t.none e r.0 (omega arith) r.1)) (λ q. q)))
    ]

    pub told-no : eqb any 0 ≡ not (any_below f m)
    told-no = rw (← told-some) (twice (eqb any 0))
      where
        twice : (b : Bool) → b ≡ not (not b)
        twice true = refl
        twice false = refl
