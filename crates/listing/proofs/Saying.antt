-- What each way out of reading a scenario says: 14 or 15, too little room, or all of it written.
use Rattle.std.proofs.Common.{Err, Ok}
use mathlib.Core.Path.{◌≡◌, refl}
use mathlib.Core.Bool.{true, false}
use mathlib.Core.List.{List}
use Prim.Native.Nat.{ℕ, ◌≤◌, ◌<◌}
use native.Mathlib.Omega.{arith}
use lib.ListN.{length}
use lib.Seq.{sets}
use borrow.Author.Tests.{lt-ltb, le-ltb}
use Rattle.paper.specs.Yard.{Bay}
use Rattle.paper.specs.Docket.{room, bad_map, bad_scenario, Verdict, granted, denied}
use Rattle.paper.specs.Text.{Text, Read, good, bad_line}
use Rattle.paper.specs.Map.{Grid}
use Rattle.paper.proofs.Tests.{never, or_left, or_right, or-neither, by_read}
use Rattle.paper.specs.Scenario.{read_scenario}
use Rattle.gridmap.specs.declared.Grid.{Grid as Held}
use Rattle.scenario.specs.ScenarioRead.{ScenarioRead}
use Rattle.scenario.specs.Under.{bay_by, starts_of, goals_of, Reads}
use Rattle.listing.specs.Reading.{Listing, listing, listing_in, short, ScenarioSays}

module _ {file t : List ℕ} {G : Held} {x : ScenarioRead} {a a' b b' : List ℕ} (read : Reads file G t x a a' b b') (starts goals : List ℕ) where
  abbrev R : Read (List (Bay × Bay))
  R = read_scenario G.width G.height (bay_by t G) file

  pub list-bad : (l : ℕ) → x ≡ Err l → ScenarioSays (listing_in R) starts goals (denied (bad_scenario l)) starts goals
  list-bad l e =
      by_read R
      (λ cs q. let y : bad_line l ≡ good (length cs) = rw (e, q) at read.answer in never (cc))
      (λ n q.
      let y : bad_line l ≡ bad_line n = rw (e, q) at read.answer in
      let z : n ≡ l = cc in
      rw (q, z) (record { answers = refl; starts_then = refl; goals_then = refl }))

  module _ (k : ℕ) (e : x ≡ Ok k) where
    carriers : (cs : List (Bay × Bay)) → R ≡ good cs → k ≡ length cs
    carriers cs q = let y : good k ≡ good (length cs) = rw (e, q) at read.answer in cc

    no_line : {P : Type 0} (n : ℕ) → R ≡ bad_line n → P
    no_line n q = let y : good k ≡ bad_line n = rw (e, q) at read.answer in never (cc)

    too_short : ((cs : List (Bay × Bay)) → k ≡ length cs → short starts goals cs ≡ true) → ScenarioSays (listing_in R) starts goals (denied (room k)) starts goals
    too_short h =
        by_read R
        (λ cs q.
        let e = carriers cs q in
        let f = h cs e in
        rw q (record { answers = rw (f, e); starts_then = rw f; goals_then = rw f }))
        no_line

    pub list-short : length starts < k → ScenarioSays (listing_in R) starts goals (denied (room k)) starts goals
    list-short h = too_short (λ cs e. or_left _ _ (lt-ltb (length starts) (length cs) (omega arith)))

    pub list-short-2 : length goals < k → ScenarioSays (listing_in R) starts goals (denied (room k)) starts goals
    list-short-2 h = too_short (λ cs e. or_right _ _ (lt-ltb (length goals) (length cs) (omega arith)))

    pub list-fits : k ≤ length starts → k ≤ length goals → {x' : ScenarioRead} {starts' goals' : List ℕ} → Reads file G t x' starts starts' goals goals' → ScenarioSays (listing_in R) starts goals (granted k) starts' goals'
    list-fits h i {x'} {starts'} {goals'} again =
        by_read R
        (λ cs q.
        let e = carriers cs q in
        let f : short starts goals cs ≡ false = or-neither _ _ (le-ltb (length starts) (length cs) (omega arith)) (le-ltb (length goals) (length cs) (omega arith)) in
        let x : starts' ≡ sets starts 0 (starts_of cs) = rw q at again.starts_left in
        let y : goals' ≡ sets goals 0 (goals_of cs) = rw q at again.goals_left in
        rw q (record { answers = rw (f, e); starts_then = rw f x; goals_then = rw f y }))
        no_line

pub list-unmapped : {M : Read Grid} (file : Text) (l : ℕ) (starts goals : List ℕ) → M ≡ bad_line l → ScenarioSays (listing M file) starts goals (denied (bad_map l)) starts goals
list-unmapped file l starts goals e = rw e (record { answers = refl; starts_then = refl; goals_then = refl })

pub list-as : {x y : Listing} {starts goals starts' goals' : List ℕ} {v : Verdict} → x ≡ y → ScenarioSays y starts goals v starts' goals' → ScenarioSays x starts goals v starts' goals'
list-as e h = rw e h
