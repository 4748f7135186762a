-- The copies are the placement, and the path is the paper's: so the trial is the paper's with the leader that it names.
-- Assumes nothing.
use mathlib.Core.Path.{◌≡◌, sym, ◌∙◌, ap, refl}
use mathlib.Core.Bool.{Bool, true, false}
use mathlib.Core.List.{List, [], ◌∷◌}
use mathlib.Core.Option.{none, some}
use Prim.Native.Nat.{ℕ, suc, ◌≤◌, ◌<◌, ◌-◌, ◌+◌, zero}
use native.Mathlib.Omega.{arith}
use lib.ListN.{length, get_or, drop, take, length-drop}
use lib.Dec.{eqb, ltb}
use lib.Seq.{take_all, get_or-drop}
use borrow.Author.Tests.{eqb-true, ltb-true}
use Rattle.paper.specs.Basics.{◌and◌, elem, up_to, In}
use Rattle.paper.specs.Path.{Free, Route, Way, nearest_first, shortest_path, path_between}
use Rattle.paper.specs.Procedure.{trial_led, trial}
use Rattle.paper.specs.Yard.{Bay, Carrier, Yard, Placement, bay_of}
use Rattle.paper.proofs.Members.{nothing-in-nil, count-high, In-head, out-cons}
use Rattle.acting.specs.Acting.{Tabled}
use Rattle.paper.proofs.Rings.{joined-sym}
use Rattle.paper.proofs.Shortest.{shortest-path}
use Rattle.paper.proofs.Swapping.{Chain, way-tail}
use Rattle.paper.proofs.Tests.{not-both, never-some, and_left, and_right, some-when}
use Rattle.words.specs.Sets.{words, span, mem_row}
use Rattle.words.proofs.Sets.{zeros, mem-zeros}
use Rattle.rings.specs.Search.{Shown}
use Rattle.acting.proofs.FromBelow.{beside-path}
use Rattle.clear_on.proofs.Attempting.{in-bays}
use Rattle.clear_on.specs.Going.{Attempts}
use Rattle.trial.specs.Trying.{Led, Near}
use Rattle.acting.specs.Tried.{Tried}

-- the code's part of a list from i on
pub part : (l : List ℕ) (i : ℕ) → take (length l - i) (drop i l) ≡ drop i l
part l i = take_all (length l - i) (drop i l) (rw length-drop (omega arith))

-- ## The path

way-inside : (Y : Yard) (u : Bay) (l : List Bay) (v : Bay) → Route Y [] u l v → u < Y.bays → (k : ℕ) → k < suc (length l) → get_or (u ∷ l) k 0 < Y.bays
way-inside Y u l v r h zero m = h
way-inside Y u [] v r h (suc k) m = absurd (omega arith)
way-inside Y u (x ∷ xs) v r h (suc k) m = let i = count-high 0 Y.bays x r.1.0 in way-inside Y x xs v r.2 (omega arith) k (omega arith)

second-chain : (Y : Yard) (u v : Bay) (l : List Bay) → Chain Y u (drop 1 l) v → ltb 1 (length l) ≡ true → Chain Y (get_or l 1 0) (drop 2 l) v
second-chain Y u v [] c h = not-both h refl
second-chain Y u v (a ∷ []) c h = not-both h refl
second-chain Y u v (a ∷ x ∷ l) c h = c.1

-- the path of the code is the paper's
pub path-found : {n : ℕ} {table : List ℕ} (t : Tabled n table) (u v : Bay) (path : List ℕ) → u < n → v < n → some path ≡ path_between t.yard [] u v
    → (path ≡ shortest_path t.yard [] u v) × (1 ≤ length path) × ((k : ℕ) → k < length path → get_or path k 0 < n)
unfolding path_between
path-found {n} t u v path hu hv e =
    let w = some-when (elem u (nearest_first t.yard [] v)) (shortest_path t.yard [] u v) (sym e) in
    let way : Way t.yard [] u path v = rw w.1 at (shortest-path t.yard [] u v (in-bays t hu, nothing-in-nil u) (in-bays t hv, nothing-in-nil v) w.0).way in
    let cons : path ≡ u ∷ way.rest = way.starts in
    let long : length path ≡ suc (length way.rest) = ap length cons in (
      sym w.1,
      omega arith,
      λ k h.
          let i : get_or (u ∷ way.rest) k 0 < t.yard.bays = way-inside t.yard u way.rest v way.route (omega (arith, t.joins.bays)) k (omega arith) in
          let same : get_or path k 0 ≡ get_or (u ∷ way.rest) k 0 = ap (λ (l : List ℕ). get_or l k 0) cons in
          omega (arith, t.joins.bays),
    )

one_only : (l rest : List ℕ) (v : ℕ) → l ≡ v ∷ rest → length l ≤ 1 → v ∷ [] ≡ l
one_only l [] v e h = sym e
one_only l (x ∷ rest) v e h = let z : length l ≡ suc (suc (length rest)) = ap length e in absurd (omega arith)

-- the shortest path of a bay to itself is the bay alone
path-alone : (Y : Yard) (v : Bay) → In v (up_to Y.bays) → In v (nearest_first Y [] v) → v ∷ [] ≡ shortest_path Y [] v v
path-alone Y v h i =
    let f : Free Y [] v = (h, nothing-in-nil v) in
    let s = shortest-path Y [] v v f f i in
    one_only (shortest_path Y [] v v) s.way.rest v s.way.starts (s.fewest (v ∷ []) (record { rest = []; starts = refl; free = f; route = refl }))

pub path-own : {Y : Yard} {r s : Carrier} {v : Bay} {p : Placement} → Near Y r s v p → In v (up_to Y.bays) → bay_of p r ≡ v → bay_of p r ∷ [] ≡ shortest_path Y [] (bay_of p r) v
path-own {Y = Y} {v = v} near h e = rw e (path-alone Y v h (rw e at near.reached))

pub alone-inside : (u n : ℕ) → u < n → (k : ℕ) → k < 1 → get_or (u ∷ []) k 0 < n
alone-inside u n h zero m = h
alone-inside u n h (suc k) m = absurd (omega arith)

-- the shortest path to a bay beside is those two bays
pub path-beside : {n : ℕ} {table : List ℕ} (t : Tabled n table) (u v : Bay) → n ≤ span → u < n → v < n → (u ≡ v → ⊥) → true ≡ mem_row table u v → u ∷ v ∷ [] ≡ shortest_path t.yard [] u v
path-beside t u v most hu hv ne m =
    beside-path t.yard [] u (u ∷ []) v (in-bays t hu, nothing-in-nil u) (In-head u []) (sym (m ∙ t.joins.same u v hu (omega arith))) (in-bays t hv, nothing-in-nil v)
    (out-cons v u [] (λ e. ne (sym e)) (nothing-in-nil v))

pub two-inside : (u v n : ℕ) → u < n → v < n → (k : ℕ) → k < 2 → get_or (u ∷ v ∷ []) k 0 < n
two-inside u v n h i zero m = h
two-inside u v n h i (suc k) m = alone-inside v n i k (omega arith)

pub path-missing : {P : Type 0} {Y : Yard} {r s : Carrier} {v : Bay} {p : Placement} → Near Y r s v p → none ≡ path_between Y [] (bay_of p r) v → P
unfolding path_between
path-missing {Y = Y} {r = r} {v = v} {p = p} near e = never-some (shortest_path Y [] (bay_of p r) v) (e ∙ rw near.reached)

module _ {Y : Yard} {r s : Carrier} {v : Bay} {p path : List ℕ} (near : Near Y r s v p) (hu : In (bay_of p r) (up_to Y.bays)) (hv : In v (up_to Y.bays))
    (short : path ≡ shortest_path Y [] (bay_of p r) v) where
  ahead : Chain Y (bay_of p r) (drop 1 path) v
  ahead = way-tail Y [] (bay_of p r) path v (rw short (shortest-path Y [] (bay_of p r) v (hu, nothing-in-nil (bay_of p r)) (hv, nothing-in-nil v) near.reached).way)

  pub second-leads : true ≡ ltb 1 (length path) and eqb (get_or path 1 0) (bay_of p s) → (q : List ℕ) → q ≡ drop 2 path → Led Y s r v q p
  second-leads h q e = record {
    sound = near.sound;
    chain = rw (e, ← (eqb-true (get_or path 1 0) (bay_of p s) (and_right _ _ (sym h)))) (second-chain Y (bay_of p r) v path ahead (and_left _ _ (sym h)));
    beside = near.beside;
  }

  pub first-leads : (q : List ℕ) → q ≡ drop 1 path → Led Y r s v q p
  first-leads q e = record { sound = near.sound; chain = rw e ahead; beside = joined-sym Y (bay_of p r) (bay_of p s) near.beside }

  pub trial-second : true ≡ ltb 1 (length path) and eqb (get_or path 1 0) (bay_of p s) → trial Y r s v p ≡ trial_led Y s r v (drop 2 path) p
  unfolding trial
  trial-second h = rw (← short, ← h)

  pub trial-first : false ≡ ltb 1 (length path) and eqb (get_or path 1 0) (bay_of p s) → trial Y r s v p ≡ trial_led Y r s v (drop 1 path) p
  unfolding trial
  trial-first h = rw (← short, ← h)

  pub tried-second : {log : List ℕ} {z : Tried} (q : List ℕ) → q ≡ drop 2 path → true ≡ ltb 1 (length path) and eqb (get_or path 1 0) (bay_of p s) → Attempts (trial_led Y s r v q p) log z → Attempts (trial Y r s v p) log z
  tried-second q e h w = rw (trial-second h, ← e) w

  pub tried-first : {log : List ℕ} {z : Tried} (q : List ℕ) → q ≡ drop 1 path → false ≡ ltb 1 (length path) and eqb (get_or path 1 0) (bay_of p s) → Attempts (trial_led Y r s v q p) log z → Attempts (trial Y r s v p) log z
  tried-first q e h w = rw (trial-first h, ← e) w

-- the code's link, with nothing held
abbrev pub free_shown : {n : ℕ} {table : List ℕ} (t : Tabled n table) → Shown n table (zeros words)
free_shown t = record { yard = t.yard; bays = []; joins = t.joins; holds = λ b h. mem-zeros words b ∙ sym (nothing-in-nil b) }

pub part-long : (l : List ℕ) (i : ℕ) → length (take (length l - i) (drop i l)) ≤ length l
part-long l i = rw (part l i, length-drop) (omega arith)

pub part-inside : (l : List ℕ) (i n : ℕ) → ((k : ℕ) → k < length l → get_or l k 0 < n) → (k : ℕ) → k < length (take (length l - i) (drop i l)) → get_or (take (length l - i) (drop i l)) k 0 < n
part-inside l i n f k h =
    let m : k < length l - i = rw (part l i, length-drop) at h in
    rw (part l i, get_or-drop) (f (i + k) (omega arith))

pub has-second : (m : ℕ) (b : Bool) → ltb 1 m and b ≡ true → 2 ≤ m
has-second m b e = let h = ltb-true 1 m (and_left (ltb 1 m) b e) in omega arith
