-- How the order is found, sentence by sentence. An action takes the placement and gives what it makes, or none where it fails.
-- Assumes nothing.
use Rattle.std.specs.Prelude.{not, ◌≡◌, ℕ, zero, suc, min, max, ◌+◌, eqb, ltb, leb, length, get_or, set, take, drop, if◌then◌else◌}
use mathlib.Core.List.{List, [], ◌∷◌, ◌++◌, map, drop_last}
use Rattle.std.proofs.Math.Option.{Option, none, some}
use Rattle.paper.specs.Basics.{if_some◌then◌else◌, ◌and◌, ◌>>=◌, or_else, filter, first_of, elem, without}
use Rattle.paper.specs.Yard.{Bay, Carrier, Yard, Placement, Crossing, crossing, bay_of, carrier_at, is_empty, after, reverse_of, neighbours, junction, carousel}
use Rattle.paper.specs.Path.{nearest_first, shortest_path, path_between, nearest_of}

-- what is made: crossings, in order, and how many vacates among them filled a bay of three rails or more
pub record Made : Type 0 where
  pub moves : List Crossing
  pub parked : ℕ

-- crossings that are no vacate's
abbrev pub only : List Crossing → Made
only xs = record { moves = xs; parked = 0 }

-- one after the other
abbrev pub together : Made → Made → Made
together a b = record { moves = a.moves ++ b.moves; parked = a.parked + b.parked }

abbrev pub Action : Type 0
Action = Placement → Option Made

infixr 20 ◌then◌
-- the first action, then the second at the placement that the first leaves
unfoldable pub ◌then◌ : Action → Action → Action
◌then◌ f g p = f p >>= λ a. g (after p a.moves) >>= λ b. some (together a b)

-- carrier c crosses from where it stands
unfoldable pub cross : Carrier → Bay → Action
cross c to p = some (only (crossing c (bay_of p c) to ∷ []))

-- ## Vacate

-- "the last carrier before the empty bay moves first, then the one behind it, and so on"
unfoldable pub shift : Placement → List Bay → List Crossing
shift p [] = []
shift p (a ∷ []) = []
shift p (a ∷ b ∷ rest) = shift p (b ∷ rest) ++ (crossing (carrier_at p a) a b ∷ [])

module _ (Y : Yard) where
  -- "the nearest empty bay that is reached from x through bays not held, itself not held"; "among nearest empty bays take the one
  -- with fewest rails, and only then the lowest number"
  unfoldable pub nearest_empty : List Bay → Placement → Bay → Option Bay
  nearest_empty held p x = nearest_of Y (is_empty p) held x

  -- "Vacating must also say which bay it filled, if it moved anything."
  abbrev pub filled_by : List Bay → Bay → Placement → Option Bay
  filled_by held x p = if is_empty p x then none else if elem x held then none else nearest_empty held p x

  -- 1 for the vacate that "filled a bay of three rails or more"
  abbrev pub parking : Bay → ℕ
  parking e = if junction Y e then 1 else 0

  -- Vacate(x, held): "if x is empty, done. If x is held, fail. Otherwise take the nearest empty bay [..] None: fail."
  unfoldable pub vacate : List Bay → Bay → Action
  vacate held x p =
      if is_empty p x then some (only [])
      else if elem x held then none
      else nearest_empty held p x >>= λ e. some (record { moves = shift p (shortest_path Y held x e); parked = parking e })

-- ## Swap

-- 3. Exchange: "With x < y kept, leader L, follower M: L v→x, M b→v, M v→y, L x→v, L v→b, M y→v."
unfoldable pub exchange : Carrier → Carrier → Bay → Bay → Bay → Bay → List Crossing
exchange L M v b x y =
    crossing L v x ∷ crossing M b v ∷ crossing M v y ∷ crossing L x v ∷ crossing L v b ∷ crossing M y v ∷ []

-- L and M trading places, everybody else as before
unfoldable pub trade : Carrier → Carrier → Carrier → Carrier
trade L M c = if eqb c L then M else if eqb c M then L else c

-- the two have each other's bay
unfoldable pub traded : Carrier → Carrier → Placement → Placement
traded L M p = set (set p L (bay_of p M)) M (bay_of p L)

-- a crossing with the two names traded
abbrev pub renamed : Carrier → Carrier → Crossing → Crossing
renamed L M x = crossing (trade L M x.carrier) x.from x.to

-- 4. Undo: "Steps 1 and 2 backwards, each crossing reversed, with L and M trading places in it."
unfoldable pub undo : Carrier → Carrier → List Crossing → List Crossing
undo L M xs = map (renamed L M) (reverse_of xs)

-- the two carriers' bays
abbrev pub their_bays : Carrier → Carrier → Placement → List Bay
their_bays L M p = bay_of p L ∷ bay_of p M ∷ []

-- "holding v, b and those kept"
abbrev pub clearing_held : Bay → Bay → List Bay → List Bay
clearing_held v b kept = v ∷ b ∷ kept

-- "holding r's bay and the present bays of finished carriers", who are those below `finished`
abbrev pub holding : ℕ → Carrier → Placement → List Bay
holding finished r p = bay_of p r ∷ take finished p

-- what clearing comes to: what is made, and the bays kept
pub record Cleared : Type 0 where
  pub made : Made
  pub kept : List Bay

abbrev pub following : Made → Cleared → Cleared
following m c = record { made = together m c.made; kept = c.kept }

module _ (Y : Yard) where
  -- 1. Bring, along the bays that the leader has yet to enter: "While the leader is not at v: vacate the path's next bay,
  -- holding both their bays; leader crosses into it, follower crosses into the leader's old bay."
  unfoldable pub bring : Carrier → Carrier → List Bay → Action
  bring L M [] p = some (only [])
  bring L M (x ∷ xs) p =
      let u = bay_of p L in
      (vacate Y (their_bays L M p) x then cross L x then cross M u then bring L M xs) p

  -- "While fewer than two: go once through the other neighbours of v except b, in rising order; vacate each, holding v, b and
  -- those kept; on success keep it."
  unfoldable pub clearing : Bay → Bay → List Bay → List Bay → Placement → Cleared
  clearing v b kept [] p = record { made = only []; kept = kept }
  clearing v b kept (x ∷ xs) p =
      let passed = clearing v b kept xs p in
      if leb 2 (length kept) then record { made = only []; kept = kept }
      else if_some vacate Y (clearing_held v b kept) x p
      then (λ m. following m (clearing v b (kept ++ (x ∷ [])) xs (after p m.moves)))
      else passed

  -- 2. Clear: "The follower is at b. Keep the empty neighbours of v other than b, at most the two lowest." Then once through the others.
  unfoldable pub clear_once : Bay → Bay → Placement → Cleared
  clear_once v b p =
      let others = without (b ∷ []) (neighbours Y v) in
      let kept = take 2 (filter (is_empty p) others) in
      clearing v b kept (without kept others) p

  -- The first way to go on with the one kept bay e: "vacate x holding v and b; then vacate e holding v, b and x."
  unfoldable pub aside : Bay → Bay → Bay → Bay → Action
  aside v b e x = vacate Y (v ∷ b ∷ []) x then vacate Y (v ∷ b ∷ x ∷ []) e

  -- The second: "leader v→e, follower b→v, vacate x holding v and e, vacate b holding v, e and x, follower v→b, leader e→v." What is
  -- vacated is as in the first, with b and e in each other's place.
  unfoldable pub around : Carrier → Carrier → Bay → Bay → Bay → Bay → Action
  around L M v b e x = cross L e then cross M v then aside v e b x then cross M b then cross L v

  -- "for each other neighbour x except b, rising": the first attempt that succeeds counts, and x is kept with e
  unfoldable pub first_kept : (Bay → Action) → Bay → List Bay → Placement → Option Cleared
  first_kept attempt e xs p = first_of (λ x. attempt x p >>= λ m. some (record { made = m; kept = x ∷ e ∷ [] })) xs

  -- "First, for each [..]. If that never works, for each x [..]. Each attempt starts from the placement at which clearing ended".
  unfoldable pub go_on : Carrier → Carrier → Bay → Bay → Bay → Placement → Option Cleared
  go_on L M v b e p =
      let others = without (b ∷ e ∷ []) (neighbours Y v) in
      or_else (first_kept (aside v b e) e others p) (first_kept (around L M v b e) e others p)

  -- "If clearing ends with exactly one kept bay e, go on": from p, by what is made and the bays kept
  unfoldable pub gone_on : Carrier → Carrier → Bay → Bay → Placement → Made → List Bay → Cleared
  gone_on L M v b p m [] = record { made = m; kept = [] }
  gone_on L M v b p m (e ∷ []) = if_some go_on L M v b e (after p m.moves) then following m else record { made = m; kept = e ∷ [] }
  gone_on L M v b p m (x ∷ y ∷ rest) = record { made = m; kept = x ∷ y ∷ rest }

  -- The whole of step 2, with leader L at v and follower M at b.
  unfoldable pub clear : Carrier → Carrier → Bay → Bay → Placement → Cleared
  clear L M v b p = let once = clear_once v b p in gone_on L M v b p once.made once.kept

  -- Steps 3 and 4 after what steps 1 and 2 made: "Fewer than two at the end: the trial fails." The vacates are counted once, "undoing
  -- left aside".
  unfoldable pub finish : Carrier → Carrier → Bay → Bay → Made → List Bay → Option Made
  finish L M v b m [] = none
  finish L M v b m (x ∷ []) = none
  finish L M v b m (x ∷ y ∷ rest) =
      some (record { moves = m.moves ++ exchange L M v b (min x y) (max x y) ++ undo L M m.moves; parked = m.parked })

  -- a trial at v with leader L, follower M and the bays ahead of the leader
  unfoldable pub trial_led : Carrier → Carrier → Bay → List Bay → Action
  trial_led L M v ahead p =
      bring L M ahead p >>= λ brought.
      let p₁ = after p brought.moves in
      let b = bay_of p₁ M in
      let cleared = clear L M v b p₁ in
      finish L M v b (together brought cleared.made) cleared.kept

  -- "Take the shortest path from u to v. If its second bay is w, s leads and r follows; otherwise r leads."
  unfoldable pub trial : Carrier → Carrier → Bay → Action
  trial r s v p =
      let path = shortest_path Y [] (bay_of p r) v in
      if ltb 1 (length path) and eqb (get_or path 1 0) (bay_of p s)
      then trial_led s r v (drop 2 path) p
      else trial_led r s v (drop 1 path) p

  -- "tries each junction v, nearest to u first, ties lowest. [..] The first junction whose trial succeeds is used and the rest
  -- are not tried. None: fail."
  unfoldable pub swap : Carrier → Carrier → Action
  swap r s p = first_of (λ v. trial r s v p) (filter (junction Y) (nearest_first Y [] (bay_of p r)))

  -- ## Carriers

  -- One step of r to w, the carriers below `finished` being finished: "vacate it, holding r's bay and the present bays of
  -- finished carriers, then cross. If vacating fails, swap r with the carrier there."
  unfoldable pub step : ℕ → Carrier → Bay → Action
  step finished r w p =
      or_else ((vacate Y (holding finished r p) w then cross r w) p) (swap r (carrier_at p w) p)

-- what is made, or the carrier that could not step
pub data Outcome : Type 0 where
  planned : Made → Outcome
  stuck : Carrier → Outcome

abbrev pub Stage : Type 0
Stage = Placement → Outcome

-- "If the swap fails, stop with 7 for r."
unfoldable pub or_stuck : Carrier → Option Made → Outcome
or_stuck c none = stuck c
or_stuck c (some a) = planned a

unfoldable pub onward : Outcome → (Made → Outcome) → Outcome
onward (planned a) f = f a
onward (stuck c) f = stuck c

infixr 20 ◌next◌
-- the first stage, then the second at the placement that the first leaves
unfoldable pub ◌next◌ : Stage → Stage → Stage
◌next◌ f g p = onward (f p) (λ a. onward (g (after p a.moves)) (λ b. planned (together a b)))

module _ (Y : Yard) (goals : Placement) where
  -- The bays that r's path avoids: none, "other carriers disregarded"; in a carousel "the present bays of finished carriers".
  abbrev pub avoided : Carrier → Placement → List Bay
  avoided r p = if carousel Y then take r p else []

  -- "the shortest path v0..vm from its bay to its goal", past the bays avoided, where there is one
  abbrev pub path_of : Carrier → Placement → Option (List Bay)
  path_of r p = path_between Y (avoided r p) (bay_of p r) (bay_of goals r)

  -- "For each next bay": r steps through the bays ahead
  unfoldable pub go : Carrier → List Bay → Stage
  go r [] p = planned (only [])
  go r (w ∷ ws) p = ((λ q. or_stuck r (step Y r r w q)) next go r ws) p

  -- "if a finished carrier has goal vi and is not there, it steps [..] to vi by the same rule; a failure is 7 for that carrier"
  unfoldable pub home_at : ℕ → Bay → Stage
  home_at finished v p =
      let f = carrier_at (take finished goals) v in
      if ltb f finished and not (eqb (bay_of p f) v) then or_stuck f (step Y finished f v p) else planned (only [])

  -- the bays of the path one after the other, the last of them first
  unfoldable pub way_home : ℕ → List Bay → Stage
  way_home finished [] p = planned (only [])
  way_home finished (v ∷ vs) p = (way_home finished vs next home_at finished v) p

  -- Carrier r goes its path v0..vm, past v0 the bays ahead. "Way home: r now counts as finished. For i from m−1 down to 1".
  unfoldable pub along : Carrier → List Bay → Stage
  along r ahead p = (go r ahead next way_home (suc r) (drop_last ahead)) p

  -- "no such path is 7 for that carrier"
  unfoldable pub carry : Carrier → Stage
  carry r p = if_some path_of r p then (λ path. along r (drop 1 path) p) else stuck r

  -- k carriers from r on: "Carriers are planned by rising number."
  unfoldable pub carry_from : Carrier → ℕ → Stage
  carry_from r zero p = planned (only [])
  carry_from r (suc k) p = (carry r next carry_from (suc r) k) p

  -- the whole procedure
  unfoldable pub procedure : Stage
  procedure p = carry_from 0 (length goals) p

  -- ## Where a turn has come to

  -- It is r's turn: those below r are planned, and the carriers stand at p.
  pub record TurnOf (starts : Placement) (r : Carrier) (p : Placement) : Type 0 where
    pub before : Made
    pub planned_before : carry_from 0 r starts ≡ planned before
    pub stand : after starts before.moves ≡ p

  -- The way home comes to vi: r has gone its path v0..vm, v(m−1) down to v(i+1) are looked after, and the carriers stand at q.
  pub record ComesTo (r : Carrier) (path : List Bay) (i : ℕ) (p q : Placement) : Type 0 where
    pub gone : Made
    pub goes : go r (drop 1 path) p ≡ planned gone
    pub home : Made
    pub homes : way_home (suc r) (drop i (drop_last (drop 1 path))) (after p gone.moves) ≡ planned home
    pub stand : after (after p gone.moves) home.moves ≡ q
