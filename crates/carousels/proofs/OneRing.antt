-- A carousel is one ring. The walk round from bay 0 closes, and whatever a bay of it is joined with is on it too; since rails lead from bay 0
-- to every bay, every bay is on it, once.
use mathlib.Core.Path.{◌≡◌, refl, sym, ◌∙◌, ap}
use mathlib.Core.Bool.{Bool, true}
use mathlib.Core.Logic.{◌⊎◌, ⊎_elim}
use mathlib.Core.List.{[]}
use mathlib.Core.Option.{none, get_or}
use Prim.Native.Nat.{ℕ, suc, ◌<◌, ◌≤◌}
use native.Mathlib.Omega.{arith}
use lib.Dec.{eqb}
use borrow.Author.Tests.{eqb-true, eq-eqb}
use Rattle.paper.specs.Basics.{find, up_to}
use Rattle.paper.specs.Yard.{Bay, Yard, joined, carousel}
use Rattle.paper.specs.Order.{Order}
use Rattle.paper.specs.Docket.{yard_of, apart_bay}
use Rattle.paper.specs.Answers.{first_six}
use Rattle.paper.proofs.Members.{in_count, count-high, find-some, find-in, find-passes}
use Rattle.paper.proofs.Rings.{Walk, here, on, reached-walk}
use Rattle.paper.proofs.Playing.{Sound}
use Rattle.paper.proofs.Admitted.{clean_of, sound-of, all-reached}
use Rattle.carousels.specs.Round.{Next, Round}
use Rattle.carousels.proofs.Crowding.{no_more}
use Rattle.carousels.proofs.GoingRound.{GoingRound, going-round}
use Rattle.carousels.proofs.Closing.{Closed, beside-walk, three-or-more, closes-somewhere, few}

module _ (Y : Yard) (sound : Sound Y) (all-joined : apart_bay Y ≡ none) (w : GoingRound Y) where
  abbrev at : ℕ → Bay
  at = w.at

  -- the bay stands on the walk, before its end
  abbrev On : ℕ → Bay → Type 0
  On m b = (i : ℕ) × (i < m) × (at i ≡ b)

  module _ (m : ℕ) (c : Closed at m) where
    on-walk : {d : ℕ} {b : Bay} → Walk Y [] 0 d b → On m b
    on-walk here = (0, let h = c.count in omega arith, w.begins)
    on-walk (on {w = u} {v = v} r j f) =
        let t = on-walk r in
        let s = beside-walk Y sound w m c t.0 t.1 v (rw t.2 j) in
        (s.place, s.low, s.is)

    every-bay : (b : Bay) → b < Y.bays → On m b
    every-bay b l =
        let n = Y.bays in
        let reached = all-reached Y all-joined b 0 (in_count 0 n b (omega arith) (omega arith)) (in_count 0 n 0 (omega arith) (omega arith)) in
        on-walk (reached-walk Y [] 0 b reached).2

    as_many : m ≡ Y.bays
    as_many =
        let least = no_more Y.bays m (λ b l. (every-bay b l).0) (λ b l. (every-bay b l).1)
        (λ a b la lb e. sym (every-bay a la).2 ∙ ap at e ∙ (every-bay b lb).2) in
        omega (arith, few Y sound w m c.different)

  module _ (c : Closed at Y.bays) where
    -- the first place on the walk at which the bay stands
    place_on : Bay → ℕ
    place_on b = get_or (find (λ i. eqb (at i) b) (up_to Y.bays)) 0

    place-on : (b : Bay) → b < Y.bays → (place_on b < Y.bays) × (at (place_on b) ≡ b)
    unfolding place_on
    place-on b l =
        let q : ℕ → Bool = λ i. eqb (at i) b in
        let t = every-bay Y.bays c b l in
        let f = find-some q (up_to Y.bays) t.0 (in_count 0 Y.bays t.0 (omega arith) (omega arith)) (eq-eqb _ _ t.2) in
        rw f.1 (
          (let h = count-high 0 Y.bays f.0 (find-in q (up_to Y.bays) f.1) in omega arith),
          eqb-true _ _ (find-passes q (up_to Y.bays) f.1),
        )

    place_is : (b : Bay) (i : ℕ) → b < Y.bays → i < Y.bays → at i ≡ b → place_on b ≡ i
    place_is b i l k e = let p = place-on b l in c.different (place_on b) i p.0 k (p.1 ∙ sym e)

    beside-on : (a b : Bay) → a < Y.bays → b < Y.bays → joined Y a b ≡ true
        → Next Y.bays (place_on a) (place_on b) ⊎ Next Y.bays (place_on b) (place_on a)
    beside-on a b la lb j =
        let p = place-on a la in
        let s = beside-walk Y sound w Y.bays c (place_on a) p.0 b (rw p.1 j) in
        rw (place_is b s.place lb s.low s.is) s.next

    joins-on : (a b : Bay) → a < Y.bays → b < Y.bays → Next Y.bays (place_on a) (place_on b) → joined Y a b ≡ true
    joins-on a b la lb next =
        let p = place-on a la in
        let q = place-on b lb in
        let r = w.rail (place_on a) in
        let to-b : at (suc (place_on a)) ≡ b =
        ⊎_elim
        (λ h. ap at (sym h) ∙ q.1)
        (λ h. ap at h.0 ∙ c.closes ∙ ap at (sym h.1) ∙ q.1)
        next in
        rw (p.1, to-b) at r

    around : Round Y
    around = record {
      place = place_on;
      bay = at;
      place_low = λ b l. (place-on b l).0;
      bay_low = λ i l. w.low i;
      place_bay = λ i l. place_is (at i) i (w.low i) l refl;
      bay_place = λ b l. (place-on b l).1;
      beside = beside-on;
      joins = joins-on;
    }

-- the walk round such a yard, closed after as many rails as there are bays
walk-closed : (Y : Yard) (some_bay : 0 < Y.bays) (sound : Sound Y) → apart_bay Y ≡ none → (two-each : carousel Y ≡ true)
    → Closed (going-round Y sound two-each some_bay).at Y.bays
walk-closed Y some_bay sound all-joined two-each =
    let w = going-round Y sound two-each some_bay in
    let c = closes-somewhere Y sound w in
    rw (as_many Y sound all-joined w c.0 c.1) at c.1

-- A yard in which every rail leads to another bay, every bay is reached from bay 0, and every bay has exactly two rails, is one ring.
pub goes-round : (Y : Yard) → 0 < Y.bays → Sound Y → apart_bay Y ≡ none → carousel Y ≡ true → Round Y
goes-round Y some_bay sound all-joined two-each =
    around Y sound all-joined (going-round Y sound two-each some_bay) (walk-closed Y some_bay sound all-joined two-each)

pub three-bays : (Y : Yard) → 0 < Y.bays → Sound Y → apart_bay Y ≡ none → carousel Y ≡ true → 3 ≤ Y.bays
three-bays Y some_bay sound all-joined two-each =
    three-or-more Y sound (going-round Y sound two-each some_bay) Y.bays (walk-closed Y some_bay sound all-joined two-each)

-- Once 1 to 6 pass, a carousel is one ring.
pub one-ring : (o : Order) (lent : ℕ) → first_six o lent ≡ none
    → carousel (yard_of o) ≡ true → Round (yard_of o)
one-ring o lent passed two-each =
    let c = clean_of o lent passed in
    let enough = c.sizes.enough-bays in
    goes-round (yard_of o) (omega arith) (sound-of o c.rails) c.reached two-each
