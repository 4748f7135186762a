-- Many parameters at once: what a function has at entry, as one list of items, and what a callee without a `requires` asks, from such a list.
--     apart    what stands at entry, [κs] ∗ own a, is the tokens and what the parameters own, in a row
--     passes   the tokens and what the parameters own, in a row, are what a callee without a `requires` asks
-- Assumes nothing.
use mathlib.Core.List.{List, ◌++◌}
use seplogic.Ra.Ura.{Ura}
use base.Logic.{ent, sep, emp, via, emp∗, comm∗}
use types.Logic.{Logic}
use types.Kit.{Item, ⋆, ++⊢, ⊢++}

module _ {M : Type 1} {𝓤 : Ura M} (𝓛 : Logic 𝓤) (Δ Γ : List (Item 𝓤)) where
  pub apart : ent 𝓤 (sep 𝓤 (⋆ 𝓛 Δ) (⋆ 𝓛 Γ)) (⋆ 𝓛 (Δ ++ Γ))
  apart = ++⊢ 𝓛 Δ Γ

  pub passes : ent 𝓤 (⋆ 𝓛 (Δ ++ Γ)) (sep 𝓤 (sep 𝓤 (⋆ 𝓛 Δ) (⋆ 𝓛 Γ)) (emp 𝓤))
  passes =
      via 𝓤 (sep 𝓤 (⋆ 𝓛 Δ) (⋆ 𝓛 Γ)) (⊢++ 𝓛 Δ Γ)
      (via 𝓤 (sep 𝓤 (emp 𝓤) (sep 𝓤 (⋆ 𝓛 Δ) (⋆ 𝓛 Γ))) (emp∗ 𝓤 (sep 𝓤 (⋆ 𝓛 Δ) (⋆ 𝓛 Γ))) (comm∗ 𝓤 (emp 𝓤) (sep 𝓤 (⋆ 𝓛 Δ) (⋆ 𝓛 Γ))))
