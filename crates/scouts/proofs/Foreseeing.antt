-- Who leads is told by a path's second bay, which is the same in all paths that begin alike: so what one scout cannot enter, no pair enters on its way
-- along such a path.
-- Assumes nothing.
use mathlib.Core.Path.{◌≡◌, sym, ◌∙◌, ap, ap₂, refl}
use mathlib.Core.Bool.{Bool, true, false, not}
use mathlib.Core.List.{List, [], ◌∷◌, ◌++◌}
use mathlib.Core.Logic.{◌⊎◌, inl, inr, ⊎_elim}
use mathlib.Core.Option.{none, some}
use Prim.Native.Nat.{ℕ, zero, suc, ◌≤◌, ◌<◌, ◌+◌}
use native.Mathlib.Omega.{arith}
use lib.Dec.{eqb, ltb}
use lib.ListN.{length, get_or, take, drop, length-append, take-append-drop}
use lib.Seq.{length-take-le, get_or-take}
use borrow.Author.Tests.{lt-ltb}
use Rattle.paper.specs.Basics.{◌and◌, up_to, In}
use Rattle.paper.specs.Path.{Free, shortest_path}
use Rattle.paper.specs.Procedure.{bring, trial_led, trial}
use Rattle.paper.specs.Yard.{Bay, Carrier, Yard, Placement, bay_of}
use Rattle.paper.proofs.Members.{nothing-in-nil}
use Rattle.paper.proofs.Tests.{by_cases}
use Rattle.parts.proofs.Paths.{path-begins}
use Rattle.words.specs.Sets.{mem, words, span}
use Rattle.acting.specs.Acting.{Tabled, Ready}
use Rattle.trial.proofs.FromBelow.{in-bays}
use Rattle.scout.specs.Scouting.{scout_room}
use Rattle.scout.specs.declared.Scout.{Scout}
use Rattle.scout.specs.declared.Sight.{Sight}
use Rattle.trial.specs.declared.Trial.{Trial}
use Rattle.trial.proofs.Copying.{second-leads, first-leads, trial-second, trial-first}
use Rattle.trial.specs.Trying.{Beside, neighbour_leads, carrier_leads}
use Rattle.scouts.specs.Scouts.{second_leads, brought_along, Stuck, Came, Scouting, Scouted, PassesSays, NotedSays, Sending, Sent, ForeseeAsks}
use Rattle.scouts.specs.declared.Scouts.{Scouts}

front-bay : (l m : List Bay) (k : ℕ) → k < length l → get_or (l ++ m) k 0 ≡ get_or l k 0
front-bay [] m k h = absurd (omega arith)
front-bay (a ∷ l) m zero h = refl
front-bay (a ∷ l) m (suc k) h = front-bay l m k (omega arith)

-- a scout whose room is as it was is where it was
pub came-kept : {Y : Yard} {L M : Carrier} {past : ℕ} {u : Bay} {p : Placement} {n : ℕ} {scout : Scout} {room room' : List ℕ} → room' ≡ room
    → Came Y L M past u p n scout room → Came Y L M past u p n scout room'
came-kept e c = rw e c

module _ {table p standing empty : List ℕ} (ready : Ready table p standing empty) {path : List Bay} {x : Trial} {scouts : Scouts} {room : List ℕ}
    (z : ForeseeAsks path x table p standing scouts room)
    (t : Tabled (length standing) table) (b : Beside t.yard x.carrier.0 x.neighbour.0 p) where
  abbrev Y : Yard
  Y = t.yard

  abbrev r : Carrier
  r = x.carrier.0

  abbrev s : Carrier
  s = x.neighbour.0

  abbrev v : Bay
  v = x.junction.0

  abbrev u : Bay
  u = bay_of p r

  hu : In u (up_to Y.bays)
  hu = in-bays t (ready.placed.inside r z.on_path.asks.first)

  hv : In v (up_to Y.bays)
  hv = in-bays t z.on_path.asks.inside

  now-scouting : Scouting Y r s p (length standing) scouts room
  now-scouting = z.scouted.scouting t b

  pub sending-theirs : second_leads s p path ≡ true → Sending Y path (neighbour_leads x) 1 p (length standing) u scouts.theirs (drop scout_room room)
  sending-theirs h = record {
    is_path = z.is_path t b;
    start_free = (hu, nothing-in-nil u);
    reached = (z.near t b).reached;
    led = second-leads (z.near t b) hu hv (z.is_path t b) (sym h) (drop 2 path) refl;
    came = now-scouting.theirs;
  }

  pub sending-ours : Sending Y path (carrier_leads x) 0 p (length standing) u scouts.ours (take scout_room room)
  sending-ours = record {
    is_path = z.is_path t b;
    start_free = (hu, nothing-in-nil u);
    reached = (z.near t b).reached;
    led = first-leads (z.near t b) hu hv (z.is_path t b) (drop 1 path) refl;
    came = now-scouting.ours;
  }

  -- ## Paths that begin alike

  module _ (e : ℕ) (inside : e < length path) where
    begins-so : shortest_path Y [] u (get_or path e 0) ≡ take (suc e) path
    begins-so =
        let is = z.is_path t b in
        let k = path-begins Y [] u v (hu, nothing-in-nil u) (hv, nothing-in-nil v) (z.near t b).reached e (rw is at inside) in
        rw is (sym k.same)

    second-same : 1 ≤ e → (rest : List Bay) → second_leads s p (shortest_path Y [] u (get_or path e 0) ++ rest) ≡ second_leads s p path
    second-same far rest =
        let long : length (take (suc e) path) ≡ suc e = length-take-le (suc e) path (omega arith) in
        let all : length (take (suc e) path ++ rest) ≡ suc e + length rest = length-append (take (suc e) path) rest ∙ ap (λ (k : ℕ). k + length rest) long in
        let one : ltb 1 (length (take (suc e) path ++ rest)) ≡ ltb 1 (length path) = lt-ltb 1 (length (take (suc e) path ++ rest)) (omega (arith, all, far)) ∙ sym (lt-ltb 1 (length path) (omega arith)) in
        let two : get_or (take (suc e) path ++ rest) 1 0 ≡ get_or path 1 0 = front-bay (take (suc e) path) rest 1 (omega (arith, long, far)) ∙ get_or-take (suc e) path 1 0 (omega arith) in
        ap (λ (l : List Bay). second_leads s p (l ++ rest)) begins-so
        ∙ ap₂ (λ (i : Bool) (k : ℕ). i and eqb k (bay_of p s)) one two

    pub path-cut : path ≡ shortest_path Y [] u (get_or path e 0) ++ drop (suc e) path
    path-cut = sym (take-append-drop (suc e) path) ∙ ap (λ (l : List Bay). l ++ drop (suc e) path) (sym begins-so)

    pub stuck-theirs : 1 ≤ e → second_leads s p path ≡ true → ((rest : List Bay) → bring Y s r (drop 2 (shortest_path Y [] u (get_or path e 0) ++ rest)) p ≡ none) → Stuck Y r s p (get_or path e 0)
    unfolding brought_along
    stuck-theirs far h f rest = rw (second-same far rest, h) (f rest)

    pub stuck-ours : 1 ≤ e → second_leads s p path ≡ false → ((rest : List Bay) → bring Y r s (drop 1 (shortest_path Y [] u (get_or path e 0) ++ rest)) p ≡ none) → Stuck Y r s p (get_or path e 0)
    unfolding brought_along
    stuck-ours far h f rest = rw (second-same far rest, h) (f rest)

  -- ## The trial

  led-none : (L M : Carrier) (way : List Bay) → bring Y L M way p ≡ none → trial_led Y L M v way p ≡ none
  unfolding trial_led
  led-none L M way e = rw e

  pub fails-theirs : second_leads s p path ≡ true → trial_led Y s r v (drop 2 path) p ≡ none → trial Y r s v p ≡ none
  fails-theirs h e = trial-second (z.near t b) hu hv (z.is_path t b) (sym h) ∙ e

  pub fails-ours : second_leads s p path ≡ false → trial_led Y r s v (drop 1 path) p ≡ none → trial Y r s v p ≡ none
  fails-ours h e = trial-first (z.near t b) hu hv (z.is_path t b) (sym h) ∙ e

  -- the path passes a bay that cannot be entered
  pub fails-passing : PassesSays path scouts.stuck → trial Y r s v p ≡ none
  unfolding brought_along
  fails-passing w =
      let bay : Bay = get_or path w.place 0 in
      let low : bay < span = omega (arith, z.on_path.bays_inside w.place w.there, ready.most) in
      let no = now-scouting.stuck bay low w.passed (drop (suc w.place) path) in
      let not-brought : brought_along Y r s path p ≡ none = ap (λ (l : List Bay). brought_along Y r s l p) (path-cut w.place w.there) ∙ no in
      by_cases (second_leads s p path)
      (λ h. fails-theirs h (led-none s r (drop 2 path) (rw h at not-brought)))
      (λ h. fails-ours h (led-none r s (drop 1 path) (rw h at not-brought)))

  -- ## What the scouts know then

  module _ (sight : Sight) (stuck' : List ℕ) (noted : NotedSays path scouts.stuck sight.entered stuck')
      (more : sight.entered < length path → Stuck Y r s p (get_or path sight.entered 0)) where
    pub stuck-now : (k : ℕ) → k < span → mem stuck' k ≡ true → Stuck Y r s p k
    stuck-now k low m = ⊎_elim (λ old. now-scouting.stuck k low old) (λ new. rw new.1 (more new.0)) (noted.only k m)
