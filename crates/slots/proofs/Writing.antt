-- Why the slots stand in the lent list at the end of a pass: what is written, and then the slots still to come, are the slots of the plan.
-- It is said of any slots of a plan, `whole`, and of what any pass would still give, so that the train slots cite it too.
use mathlib.Core.Path.{◌≡◌, refl, sym, ◌∙◌, ap, ap₂}
use mathlib.Core.List.{List, [], ◌∷◌, ◌++◌, append-nil}
use Prim.Native.Nat.{ℕ, ◌≤◌, ◌<◌, ◌+◌}
use native.Mathlib.Omega.{arith}
use native.Mathlib.Numerals.{add-one}
use lib.ListN.{length, take, drop, set, replicate, length-set, take-append-drop}
use lib.Seq.{take-suc-set, drop-set-lt, append_snoc}
use Rattle.paper.specs.Limits.{most_bays}
use Rattle.slots.proofs.Passing.{Tables, tables_start}

pub record Writing (whole : List ℕ) (still : List ℕ → List ℕ → ℕ → List ℕ) (plan out₀ out carriers bays : List ℕ) (i : ℕ) : Type 0 where
  pub tables : Tables plan carriers bays i
  pub long : length out ≡ length out₀
  pub so_far : take i out ++ still carriers bays i ≡ whole
  pub beyond : drop (length plan) out ≡ drop (length plan) out₀

pub writing_start : {whole : List ℕ} {still : List ℕ → List ℕ → ℕ → List ℕ} (plan out : List ℕ)
    → whole ≡ still (replicate most_bays 0) (replicate most_bays 0) 0 → Writing whole still plan out out (replicate most_bays 0) (replicate most_bays 0) 0
writing_start plan out first = record { tables = tables_start plan; long = refl; so_far = sym first; beyond = refl }

module _ {whole : List ℕ} {still : List ℕ → List ℕ → ℕ → List ℕ} {plan out₀ out carriers bays : List ℕ} {i : ℕ}
    (w : Writing whole still plan out₀ out carriers bays i) where
  pub writing-on : i < length plan → length plan ≤ length out₀ → {s : ℕ} {carriers' bays' : List ℕ} → Tables plan carriers' bays' (i + 1)
      → still carriers bays i ≡ s ∷ still carriers' bays' (i + 1) → Writing whole still plan out₀ (set out i s) carriers' bays' (i + 1)
  writing-on more room {s} {carriers'} {bays'} tables next =
      let inside : i < length out = omega (arith, w.long) in
      record {
        tables = tables;
        long = length-set out i s ∙ w.long;
        so_far =
            ap (λ k. take k (set out i s) ++ still carriers' bays' (i + 1)) (add-one i)
            ∙ ap (λ l. l ++ still carriers' bays' (i + 1)) (take-suc-set out i s inside)
            ∙ append_snoc (take i out) s _
            ∙ ap (λ l. take i out ++ l) (sym next)
            ∙ w.so_far;
        beyond = drop-set-lt (length plan) out i s more ∙ w.beyond;
      }

  pub writing-end : length plan ≤ i → still carriers bays i ≡ [] → out ≡ whole ++ drop (length plan) out₀
  writing-end h nothing =
      let e : i ≡ length plan = omega (arith, w.tables.within) in
      let all : take i out ≡ whole = sym (append-nil (take i out)) ∙ ap (λ l. take i out ++ l) (sym nothing) ∙ w.so_far in
      sym (take-append-drop i out) ∙ ap₂ (λ a b. a ++ b) all (ap (λ k. drop k out) e ∙ w.beyond)
