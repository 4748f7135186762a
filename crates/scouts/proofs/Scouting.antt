-- Paths from one bay are the branches of a tree: where a path passes the bay at which a scout stands, it begins with the path that the scout has gone. So
-- the scout's way and what is left of the path are the whole of it, and a bring along both is a bring along the path.
-- Assumes nothing.
use mathlib.Core.Path.{◌≡◌, sym, ◌∙◌, ap, refl}
use mathlib.Core.Bool.{true, false}
use mathlib.Core.List.{List, [], ◌∷◌, ◌++◌, append_assoc, append-nil}
use mathlib.Core.Logic.{◌⊎◌, inl, inr, ⊎_elim}
use mathlib.Core.Option.{none, some}
use Prim.Native.Nat.{ℕ, zero, suc, ◌≤◌, ◌<◌, ◌+◌, ◌-◌}
use native.Mathlib.Omega.{arith}
use lib.ListN.{length, get_or, take, drop, length-append, length-drop, take-append-drop, drop_of_length-le}
use lib.Seq.{length-take-le, take-add}
use Rattle.paper.specs.Basics.{◌>>=◌, In}
use Rattle.paper.specs.Path.{Free, nearest_first, shortest_path}
use Rattle.paper.specs.Procedure.{Made, only, together, bring, clear, finish, trial_led, trial}
use Rattle.paper.specs.Yard.{Bay, Carrier, Yard, Placement, bay_of, after}
use Rattle.paper.proofs.Playing.{Apart, after-append}
use Rattle.paper.proofs.Tests.{never}
use Rattle.parts.proofs.Bringing.{bring-on, bring-stopped}
use Rattle.parts.proofs.Paths.{Begins, path-begins}
use Rattle.words.specs.Sets.{span}
use Rattle.moving.specs.Placed.{Placed}
use Rattle.acting.specs.Acting.{Tabled}
use Rattle.attempts.specs.declared.Lead.{Lead}
use Rattle.trial.specs.FromBelow.{AtJunction}
use Rattle.scout.specs.Scouting.{Gone, Sized, SetOutSays, placement_in, standing_in}
use Rattle.scout.specs.declared.Scout.{Scout}
use Rattle.trial.specs.Trying.{Led}
use Rattle.trial.proofs.Attempting.{at-junction, too_few}
use Rattle.scouts.specs.Scouts.{Came}

-- ## Lists in two parts

drop-front : {A : Type 0} (k : ℕ) (xs ys : List A) → k ≤ length xs → drop k (xs ++ ys) ≡ drop k xs ++ ys
drop-front zero xs ys h = refl
drop-front (suc k) [] ys h = absurd (omega arith)
drop-front (suc k) (x ∷ xs) ys h = drop-front k xs ys (omega arith)

-- ## Where the scout stands on the path

module _ (Y : Yard) (L M : Carrier) (past : ℕ) (u v : Bay) (p : Placement) (n : ℕ) (u-free : Free Y [] u) (v-free : Free Y [] v) (reached : In u (nearest_first Y [] v)) where
  abbrev path : List Bay
  path = shortest_path Y [] u v

  begins : (j : ℕ) → j < length path → Begins Y [] u v j
  begins j h = path-begins Y [] u v u-free v-free reached j h

  -- the path to the bay at place j, and what is left
  pub path-splits : (j : ℕ) → j < length path → path ≡ shortest_path Y [] u (get_or path j 0) ++ drop (suc j) path
  path-splits j h = sym (take-append-drop (suc j) path) ∙ ap (λ (l : List Bay). l ++ drop (suc j) path) (begins j h).same

  pub path-long : (j : ℕ) → j < length path → length (shortest_path Y [] u (get_or path j 0)) ≡ suc j
  path-long j h = ap length (sym (begins j h).same) ∙ length-take-le (suc j) path (omega arith)

  -- a scout that sets out at the first bay past which it goes has been brought nowhere
  module _ (scout : Scout) (room : List ℕ) (there : scout.rails < length path) (stands : get_or path scout.rails 0 ≡ scout.at.0) where
    pub came-nowhere : past ≡ suc scout.rails → Sized scout room → placement_in (length p) room ≡ p → Placed n (placement_in (length p) room) (standing_in n room) scout.empty
        → Came Y L M past u p n scout room
    unfolding bring after
    came-nowhere e sized same placed =
        let long : length (shortest_path Y [] u scout.at.0) ≡ suc scout.rails = rw stands at (path-long scout.rails there) in
        let nil : drop past (shortest_path Y [] u scout.at.0) ≡ [] = drop_of_length-le (shortest_path Y [] u scout.at.0) {i = past} (omega (arith, e, long)) in
        record {
          sized = sized;
          brought = only [];
          made = rw nil;
          stands = same;
          placed = placed;
          far = long;
          begun = omega (arith, e);
        }

    module _ (c : Came Y L M past u p n scout room) where
      abbrev here : List Bay
      here = shortest_path Y [] u scout.at.0

      abbrev left : List Bay
      left = drop (suc scout.rails) path

      splits : path ≡ here ++ left
      splits = path-splits scout.rails there ∙ ap (λ (b : Bay). shortest_path Y [] u b ++ left) stands

      -- the way that it has gone, and then any other bays
      pub goes_on : (rest : List Bay) → bring Y L M (drop past (here ++ rest)) p ≡ (bring Y L M rest (placement_in (length p) room) >>= λ b. some (together c.brought b))
      goes_on rest =
          ap (λ (l : List Bay). bring Y L M l p) (drop-front past here rest (omega (arith, c.far, c.begun)))
          ∙ bring-on Y L M (drop past here) rest p c.brought c.made
          ∙ ap (λ (q : Placement). bring Y L M rest q >>= λ b. some (together c.brought b)) (sym c.stands)

      -- It comes to the path's end.
      module _ (b : Made) (made : bring Y L M left (placement_in (length p) room) ≡ some b) where
        pub whole : bring Y L M (drop past path) p ≡ some (together c.brought b)
        whole = ap (λ (l : List Bay). bring Y L M (drop past l) p) splits ∙ goes_on left ∙ ap (λ o. o >>= λ d. some (together c.brought d)) made

        pub came-there : (next : Scout) (room' : List ℕ) → Sized next room' → placement_in (length p) room' ≡ after (placement_in (length p) room) b.moves
            → Placed n (placement_in (length p) room') (standing_in n room') next.empty → next.at.0 ≡ v → next.rails ≡ scout.rails + length left
            → Came Y L M past u p n next room'
        came-there next room' sized moved placed at far =
            let long : length left ≡ length path - suc scout.rails = length-drop (suc scout.rails) path in
            record {
              sized = sized;
              brought = together c.brought b;
              made = rw at whole;
              stands = moved ∙ ap (λ (q : Placement). after q b.moves) c.stands ∙ sym (after-append p c.brought.moves b.moves);
              placed = placed;
              far = let same : length (shortest_path Y [] u next.at.0) ≡ length path = ap (λ (z : Bay). length (shortest_path Y [] u z)) at in omega (arith, same, long, far, there);
              begun = omega (arith, c.begun, far);
            }

        -- Two bays cannot be kept there.
        pub comes-to-nothing : Apart p → L < length p → M < length p → (M ≡ L → ⊥) → Led Y L M v (drop past path) p → (q : Placement) → q ≡ after (placement_in (length p) room) b.moves
            → (AtJunction L M v (bay_of q M) q → length (clear Y L M v (bay_of q M) q).kept < 2)
            → trial_led Y L M v (drop past path) p ≡ none
        unfolding trial_led
        comes-to-nothing apart hL hM differ led q moved few =
            let is : q ≡ after p (c.brought.moves ++ b.moves) = moved ∙ ap (λ (z : Placement). after z b.moves) c.stands ∙ sym (after-append p c.brought.moves b.moves) in
            let k = few (at-junction (together c.brought b) led apart hL hM differ whole q is) in
            rw whole (too_few Y L M v _ _ _ (rw is at k))

      -- It cannot enter the bay that is e bays further.
      module _ (e : ℕ) (short : e < length left) (stops : bring Y L M (take (suc e) left) (placement_in (length p) room) ≡ none) where
        abbrev place : ℕ
        place = suc scout.rails + e

        inside : place < length path
        inside = let long = length-drop (suc scout.rails) path in omega (arith, short, long)

        -- the path to it
        to-it : shortest_path Y [] u (get_or path place 0) ≡ here ++ take (suc e) left
        to-it =
            let more : suc place ≡ suc scout.rails + suc e = omega arith in
            let h : suc scout.rails ≡ length here = sym c.far in
            sym (begins place inside).same
            ∙ ap (λ (k : ℕ). take k path) more
            ∙ take-add (suc scout.rails) (suc e) path
            ∙ ap (λ (l : List Bay). l ++ take (suc e) left) ((begins scout.rails there).same ∙ ap (λ (z : Bay). shortest_path Y [] u z) stands)

        pub never-past : (rest : List Bay) → bring Y L M (drop past (shortest_path Y [] u (get_or path place 0) ++ rest)) p ≡ none
        never-past rest =
            ap (λ (l : List Bay). bring Y L M (drop past (l ++ rest)) p) to-it
            ∙ ap (λ (l : List Bay). bring Y L M (drop past l) p) (append_assoc here (take (suc e) left) rest)
            ∙ goes_on (take (suc e) left ++ rest)
            ∙ ap (λ o. o >>= λ d. some (together c.brought d)) (bring-stopped Y L M (take (suc e) left) rest (placement_in (length p) room) stops)
