-- Each bay that is entered makes the way that is behind the pair one bay longer: a bring along it, and then one along that bay, is a bring along both.
-- Assumes nothing.
use Rattle.std.proofs.Common.{None, Some}
use mathlib.Core.Path.{◌≡◌, sym, ◌∙◌, ap, refl}
use mathlib.Core.List.{List, [], ◌∷◌, ◌++◌}
use mathlib.Core.Option.{none, some}
use Prim.Native.Nat.{ℕ, suc, ◌≤◌, ◌<◌, ◌+◌, zero}
use native.Mathlib.Omega.{arith}
use native.Mathlib.Numerals.{add-one}
use lib.ListN.{length, get_or, take}
use lib.Seq.{take-suc}
use Rattle.paper.specs.Basics.{◌>>=◌}
use Rattle.paper.specs.Yard.{Bay, Yard, Placement, after}
use Rattle.paper.specs.Procedure.{Made, only, together, bring}
use Rattle.paper.proofs.Playing.{after-append}
use Rattle.parts.proofs.Bringing.{bring-on, bring-stopped}
use Rattle.moving.specs.Placed.{Placed}
use Rattle.acting.specs.Acting.{Tries}
use Rattle.acting.proofs.Acting.{tried-done, tried-failed}
use Rattle.acting.specs.declared.Tally.{Tally}
use Rattle.bring.specs.Bringing.{brings}
use Rattle.bring.specs.declared.Couple.{Couple}
use Rattle.scout.specs.Scouting.{Gone}

pub gone-nowhere : (Y : Yard) (couple : Couple) (n : ℕ) (way p standing empty : List ℕ) → Placed n p standing empty → Gone Y couple n (take 0 way) p p standing empty
unfolding bring after
gone-nowhere Y couple n way p standing empty k = record { brought = only []; made = refl; moved = refl; placed = k }

module _ (way : List ℕ) {Y : Yard} {couple : Couple} {n : ℕ} {p p' standing' empty' : List ℕ} {i : ℕ} (here : i < length way) (g : Gone Y couple n (take i way) p p' standing' empty') where
  longer : take (suc i) way ≡ take i way ++ (get_or way i 0 ∷ [])
  longer = take-suc way i 0 here

  on : brings couple (take (suc i) way) Y p ≡ (bring Y couple.leader.0 couple.follower.0 (get_or way i 0 ∷ []) p' >>= λ b. some (together g.brought b))
  on = rw (longer, g.moved) (bring-on Y couple.leader.0 couple.follower.0 (take i way) (get_or way i 0 ∷ []) p g.brought g.made)

  pub gone-further : {out out' : List ℕ} {at m : Tally} {q standing'' empty'' : List ℕ} → Tries (brings couple (get_or way i 0 ∷ []) Y p') n p' out at q standing'' empty'' out' (Some m)
      → Gone Y couple n (take (i + 1) way) p q standing'' empty''
  gone-further t =
      let d = tried-done t in
      rw add-one (record {
        brought = together g.brought d.0;
        made = on ∙ ap (λ o. o >>= λ b. some (together g.brought b)) d.1;
        moved = d.2.moved ∙ ap (λ (l : Placement). after l d.0.moves) g.moved ∙ sym (after-append p g.brought.moves d.0.moves);
        placed = d.2.placed;
      })

  pub gone-stops : {out out' : List ℕ} {at : Tally} {q standing'' empty'' : List ℕ} → Tries (brings couple (get_or way i 0 ∷ []) Y p') n p' out at q standing'' empty'' out' None
      → brings couple (take (suc i) way) Y p ≡ none
  gone-stops t = on ∙ rw (tried-failed t)
