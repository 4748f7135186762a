-- The path found is the paper's: it leads from r's bay over rails to its goal. Where there is none, or r cannot go it, the paper is stuck too.
-- Assumes nothing.
use Rattle.std.proofs.lemmas.Option.{same_Some}
use Rattle.std.proofs.Common.{None, Some}
use Rattle.std.specs.Prelude.{if◌then◌else◌}
use mathlib.Core.Path.{◌≡◌, sym, ◌∙◌, ap, refl}
use mathlib.Core.Bool.{true, false}
use mathlib.Core.List.{List, [], ◌∷◌, drop_last}
use mathlib.Core.Option.{Option, none, some}
use Prim.Native.Nat.{ℕ, zero, suc, ◌≤◌, ◌<◌, ◌-◌, ◌+◌, ◌*◌}
use native.Mathlib.Omega.{arith}
use native.Mathlib.Numerals.{add-one}
use lib.ListN.{length, drop, take, length-take, length-drop}
use lib.Dec.{eqb}
use lib.Seq.{take-suc, take-nil, length-take-le}
use Rattle.paper.specs.Basics.{◌or◌}
use Rattle.paper.specs.Path.{Route, path_between}
use Rattle.paper.specs.Procedure.{Made, only, together, step, Outcome, planned, stuck, or_stuck, onward, ◌next◌, path_of, go, way_home, along, carry}
use Rattle.paper.specs.Yard.{Bay, Carrier, Yard, Placement, bay_of, after, carousel}
use Rattle.go.proofs.FromBelow.{sound-of}
use Rattle.paper.proofs.Carrying.{path-short}
use Rattle.paper.proofs.Tests.{by-option, never, never-some}
use Rattle.go.specs.Going.{plan_of, Linked}
use Rattle.words.specs.Sets.{mem, span, words}
use Rattle.words.proofs.Sets.{zeros}
use Rattle.rings.specs.Search.{Shown}
use Rattle.rings.specs.Ways.{PathFound, path_length, path_of as paths_of}
use Rattle.rings.specs.Path.{Path}
use Rattle.rings.proofs.Searching.{elem-append, elem-one}
use Rattle.moving.specs.Bounds.{swap_most}
use Rattle.moving.specs.Placed.{Placed}
use Rattle.acting.specs.Acting.{Tabled, Ready, Tallied, Tries, nothing}
use Rattle.acting.specs.declared.Tally.{Tally}
use Rattle.acting.proofs.Acting.{tried-done}
use Rattle.go.proofs.FromBelow.{in-bays}
use Rattle.go.specs.FromBelow.{Loopless, BaysBelow}
use Rattle.along.specs.Along.{Goals, HomeBelow, EndsAt, OnPath, PathPast, PathPastSays, TurnAsks, GoalAsks, Goes, Arrives}
use Rattle.along.specs.declared.ToGoal.{ToGoal}

-- ## The path in its room

-- the code's part from the second bay on
part-ahead : (k : ℕ) (room : List ℕ) → take (k - 1) (drop 1 room) ≡ drop 1 (take k room)
part-ahead zero room = refl
part-ahead (suc k) room = let e : suc k - 1 ≡ k = omega arith in rw e (plain room)
  where
    plain : (l : List ℕ) → take k (drop 1 l) ≡ drop 1 (take (suc k) l)
    plain [] = take-nil k
    plain (x ∷ l) = refl

pub ahead-length : (k : ℕ) (room : List ℕ) → k ≤ length room → length (drop 1 (take k room)) ≡ k - 1
ahead-length k room h = length-drop 1 (take k room) ∙ ap (λ (j : ℕ). j - 1) (length-take-le k room h)

-- ## The bays of the finished carriers

-- r is finished, and its bay joins
pub bays-more : {p settled settled' : List ℕ} (r : Carrier) → r < length p → BaysBelow r p settled → length settled' ≡ length settled
    → ((y : ℕ) → mem settled' y ≡ mem settled y or eqb y (bay_of p r)) → BaysBelow (r + 1) p settled'
bays-more {p} r h s same joins = record {
  size = same ∙ s.size;
  bays = λ b. joins b ∙ rw (s.bays b, add-one, take-suc p r 0 h, elem-append, elem-one);
}

-- ## Outcomes

go-none : (Y : Yard) (goals : Placement) (r : Carrier) (l : List Bay) (p : Placement) → plan_of (go Y goals r l p) ≡ none → go Y goals r l p ≡ stuck r
unfolding go ◌next◌ onward or_stuck
go-none Y goals r [] p h = never-some (only []) (sym h)
go-none Y goals r (w ∷ ws) p h =
    by-option (step Y r r w p)
    (λ e. rw e)
    (λ a e. let k = rw e at h in rw e (on-stuck a (go Y goals r ws (after p a.moves)) (go-none Y goals r ws (after p a.moves)) k))
  where
    on-stuck : (a : Made) (o : Outcome) → (plan_of o ≡ none → o ≡ stuck r) → plan_of (onward o (λ b. planned (together a b))) ≡ none → onward o (λ b. planned (together a b)) ≡ stuck r
    on-stuck a (planned b) f k = never-some (together a b) (sym k)
    on-stuck a (stuck c) f k = f refl

-- ## The turn, by its path

module _ (Y : Yard) (goals : Placement) (r : Carrier) (p : Placement) {u : Bay} {path ahead : List Bay} (starts : path ≡ u ∷ ahead) (short : some path ≡ path_of Y goals r p) where
  pub carry-is : carry Y goals r p ≡ onward (go Y goals r ahead p) (λ a. onward (way_home Y goals (suc r) (drop_last ahead) (after p a.moves)) (λ b. planned (together a b)))
  unfolding carry along ◌next◌
  carry-is = let ahead-is : drop 1 path ≡ ahead = ap (drop 1) starts in rw (← short, ahead-is)

  carried-stuck : plan_of (go Y goals r ahead p) ≡ none → carry Y goals r p ≡ stuck r
  unfolding onward
  carried-stuck e = carry-is ∙ rw (go-none Y goals r ahead p e)

-- ## The path

route-linked : {n : ℕ} {table : List ℕ} (t : Tabled n table) → n ≤ span → (held : List Bay) (u : Bay) (l : List Bay) (v : Bay) → u < n → Route t.yard held u l v → Linked n table u l
route-linked t most held u [] v h r = tt
route-linked t most held u (x ∷ xs) v h r =
    let low = (t.joins.inside u x r.0).1 in
    (low, t.joins.same u x h (omega arith) ∙ r.0, route-linked t most held x xs v low r.2)

route-ends : (Y : Yard) (held : List Bay) (u : Bay) (l : List Bay) (v : Bay) → Route Y held u l v → EndsAt u l v
route-ends Y held u [] v r = r
route-ends Y held u (x ∷ xs) v r = route-ends Y held x xs v r.2

-- the settled bays are those of the finished carriers
abbrev pub settled_shown : {n : ℕ} {table settled : List ℕ} (t : Tabled n table) (r : Carrier) (p : Placement) → BaysBelow r p settled → Shown n table settled
settled_shown t r p s = record { yard = t.yard; bays = take r p; joins = t.joins; holds = λ b h. s.bays b }

-- the path past the bays avoided, by whether the yard is a carousel
pub past-held : {n : ℕ} {table held : List ℕ} (s : Shown n table held) (u v : Bay) (room : List ℕ) (r : Path) → true ≡ carousel s.yard → PathFound s u v room r → PathPast s u v room r
past-held s u v room r e f = record { fits = f.fits; same = rw (← e) f.same }

pub past-none : {n : ℕ} {table held : List ℕ} (s : Shown n table held) (f : Shown n table (zeros words)) (u v : Bay) (room : List ℕ) (r : Path) → f.yard ≡ s.yard → f.bays ≡ [] → false ≡ carousel s.yard
    → PathFound f u v room r → PathPast s u v room r
past-none s f u v room r same bare e found = record { fits = found.fits; same = rw (← e, ← same, ← bare) found.same }

on_path : {n : ℕ} {table : List ℕ} (t : Tabled n table) → n ≤ span → Loopless n table → (goals : List ℕ) (r : Carrier) (p : Placement) {standing empty : List ℕ} → Placed n p standing empty
    → Goals n goals p → r < length p → HomeBelow r goals p → (path : List ℕ) → some path ≡ path_of t.yard goals r p → OnPath n table (bay_of p r) (bay_of goals r) path
on_path t most loopless goals r p k g hr hm path e =
    let s = path-short t.yard (sound-of t most loopless) goals g.apart r p path (record { apart = k.apart; inside = λ i h. in-bays t (k.inside i h) }) (sym g.many) hr
    (in-bays t (g.inside r (omega (arith, g.many)))) hm.home (sym e) in
    let way = s.way in
    record {
      ahead = way.rest;
      starts = way.starts;
      linked = route-linked t most _ (bay_of p r) way.rest (bay_of goals r) (k.inside r hr) way.route;
      once = rw way.starts at s.once;
      ends = route-ends t.yard _ (bay_of p r) way.rest (bay_of goals r) way.route;
    }

-- where there is no path r is stuck
pub carried-nowhere : (Y : Yard) (goals : List ℕ) (r : Carrier) (p : Placement) → none ≡ path_of Y goals r p → carry Y goals r p ≡ stuck r
unfolding carry
carried-nowhere Y goals r p e = rw (← e)

-- ## Where r has gone

module _ {Y : Yard} {goals : Placement} {r : Carrier} {n : ℕ} {p out p' standing' empty' out' room : List ℕ} where
  pub went-there : {k : ℕ} {m : Tally} (a : Made) → some (take k room) ≡ path_of Y goals r p → plan_of (go Y goals r (take (k - 1) (drop 1 room)) p) ≡ some a
      → Tallied a n p p' standing' empty' out nothing out' m → Goes Y goals r n p out p' standing' empty' out' room (Some (k, m))
  went-there {k} {m} a short e w = record {
    there = λ j b d.
        let q = same_Some _ _ d in
        let same : k ≡ j = ap (λ t. t.0) q in
        let same-m : m ≡ b = ap (λ t. t.1) q in
        rw (← same, ← same-m) (record { path = short; made = a; goes = rw (part-ahead k room) at e; played = w });
    nowhere = λ d. never (cc);
  }

  pub went-nowhere : carry Y goals r p ≡ stuck r → Goes Y goals r n p out p' standing' empty' out' room None
  went-nowhere e = record { there = λ j b d. never (cc); nowhere = λ d. e }

module _ {n : ℕ} {r : Carrier} {p settled : List ℕ} where
  pub arrives : {k : ℕ} {m : Tally} → k ≤ n → m.crossings ≤ swap_most * k → BaysBelow (r + 1) p settled → Arrives n r p settled (Some (k, m))
  arrives {k} {m} fits few below = record {
    fits = λ j b d. let same : k ≡ j = ap (λ t. t.0) (same_Some _ _ d) in rw same at fits;
    few = λ j b d.
        let q = same_Some _ _ d in
        let same : k ≡ j = ap (λ t. t.0) q in
        let same-m : m ≡ b = ap (λ t. t.1) q in
        rw (same, same-m) at few;
    below = λ j b d. below;
  }

  pub arrives-nowhere : Arrives n r p settled None
  arrives-nowhere = record { fits = λ j b d. never (cc); few = λ j b d. never (cc); below = λ j b d. never (cc) }

-- whoever tried is among the bays afterwards
pub bay-after : {o : Option Made} {n : ℕ} {p out : List ℕ} {at m : Tally} {p' standing' empty' out' : List ℕ} → Tries o n p out at p' standing' empty' out' (Some m)
    → (c : Carrier) → c < length p' → bay_of p' c < n
bay-after tries = (tried-done tries).2.placed.inside

-- ## The path that is found leads to the carrier's goal

module _ {table p standing settled : List ℕ} (t : Tabled (length standing) table) {to : ToGoal} (turn : TurnAsks to table p standing settled) where
  abbrev r : Carrier
  r = to.carrier.0

  pub way-there : (b : GoalAsks to p standing) {room : List ℕ} {z : Path} → PathPastSays (length standing) table settled (bay_of p r) to.goal.0 room z
      → paths_of z room ≡ path_of t.yard b.goals r p
  way-there b past =
      (past (settled_shown t r p turn.below)).same
      ∙ ap (λ (w : Bay). path_between t.yard (if carousel t.yard then take r p else []) (bay_of p r) w) (sym b.own)

  pub way-fits : {room : List ℕ} {z : Path} → PathPastSays (length standing) table settled (bay_of p r) to.goal.0 room z → path_length z ≤ length standing
  way-fits past = (past (settled_shown t r p turn.below)).fits

  pub way-short : {room : List ℕ} {m : ℕ} → PathPastSays (length standing) table settled (bay_of p r) to.goal.0 room (Some m)
      → length (take (m - 1) (drop 1 room)) ≤ m
  way-short {room} {m} past = omega (arith, length-take (m - 1) (drop 1 room))

  module _ {empty : List ℕ} (ready : Ready table p standing empty) (b : GoalAsks to p standing) where
    module _ (room : List ℕ) (m : ℕ) (short : some (take m room) ≡ path_of t.yard b.goals r p) where
      pub way_of : OnPath (length standing) table (bay_of p r) (bay_of b.goals r) (take m room)
      way_of = on_path t ready.most turn.loopless b.goals r p ready.placed b.each turn.carrier_there b.below (take m room) short

    -- the path that was found has m bays
    module _ {room : List ℕ} {m : ℕ} (past : PathPastSays (length standing) table settled (bay_of p r) to.goal.0 room (Some m)) where
      abbrev found : OnPath (length standing) table (bay_of p r) (bay_of b.goals r) (take m room)
      found = way_of room m (way-there b past)

      ahead-is : take (m - 1) (drop 1 room) ≡ found.ahead
      ahead-is = part-ahead m room ∙ ap (drop 1) found.starts

      pub way_long : 1 ≤ m
      way_long = let e = ap length found.starts in omega (arith, e, length-take m room)

      pub way-linked : Linked (length standing) table (bay_of p r) (take (m - 1) (drop 1 room))
      way-linked = rw ahead-is found.linked

      pub way-stuck : plan_of (go t.yard b.goals r (take (m - 1) (drop 1 room)) p) ≡ none → carry t.yard b.goals r p ≡ stuck r
      way-stuck e = carried-stuck t.yard b.goals r p found.starts (way-there b past) (rw ahead-is at e)
