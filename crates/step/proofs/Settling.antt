-- A step trades the bays u, where r stood, and w among the finished carriers: r is at w, and one of them that stood there is at u. So the set of their
-- bays afterwards is the set before with u and w traded.
-- Assumes nothing.
use Rattle.std.proofs.Common.{Some}
use mathlib.Core.Path.{◌≡◌, sym, ap, ◌∙◌, refl}
use mathlib.Core.Bool.{false}
use mathlib.Core.List.{List, [], ◌∷◌}
use mathlib.Core.Logic.{◌⊎◌, inl, ⊎_elim}
use mathlib.Core.Option.{some}
use Prim.Native.Nat.{ℕ, ◌≤◌, ◌<◌}
use native.Mathlib.Omega.{arith}
use lib.Dec.{eqb}
use lib.ListN.{length, take, set, length-take, length-set}
use lib.Seq.{get_or-take, get_or-set_same, get_or-set_other}
use borrow.Author.Tests.{eqb-true, eqb-false, ne_eqb}
use Rattle.paper.specs.Basics.{elem, In}
use Rattle.paper.specs.Procedure.{Made, only, trade, step}
use Rattle.paper.specs.Yard.{Bay, Carrier, Placement, bay_of, carrier_at, crossing, after}
use Rattle.paper.proofs.Carrying.{Stepped, step-steps}
use Rattle.paper.proofs.Playing.{Apart, Good, after-length, place_of-bay, place_of-there, bay-in}
use Rattle.paper.proofs.Tests.{by_cases}
use Rattle.paper.proofs.Trading.{trade-first, trade-second, trade-other, trade-twice}
use Rattle.words.specs.Sets.{mem, span}
use Rattle.words.proofs.Besides.{equal-tests}
use Rattle.moving.specs.Placed.{Placed}
use Rattle.moving.proofs.Playing.{carrier-is}
use Rattle.swap.proofs.FromBelow.{in-bays}
use Rattle.acting.specs.Acting.{Tabled, Tallied, Proceeds}
use Rattle.acting.specs.declared.Tally.{Tally}
use Rattle.acting.proofs.Acting.{tried-done}
use Rattle.step.specs.Asking.{BaysBelow, CanStep}
use Rattle.step.proofs.Stepping.{sound-of, railed}

-- ## The bays of the carriers below

module _ (finished : ℕ) (p : Placement) where
  below_in : (c : Carrier) → c < finished → c < length p → In (bay_of p c) (take finished p)
  below_in c h there = rw (get_or-take finished p c 0 h) at (bay-in (take finished p) c (rw length-take (omega arith)))

  in-below : (b : Bay) → In b (take finished p) → (c : Carrier) × (c < finished) × (c < length p) × (bay_of p c ≡ b)
  in-below b i =
      let c = carrier_at (take finished p) b in
      let j = rw length-take at (place_of-there (take finished p) b i) in
      let h : c < finished = omega arith in
      (c, h, omega arith, sym (get_or-take finished p c 0 h) ∙ place_of-bay (take finished p) b i)

-- ## After a step

-- r is at w, and of the others below only one that stood there has moved
module _ (finished : ℕ) (r : Carrier) (w : Bay) (p p' : Placement) (apart : Apart p) (apart' : Apart p') (same : length p' ≡ length p) (hr : r < length p) (arrives : bay_of p' r ≡ w)
    (others : (c : Carrier) → c < finished → eqb c r ≡ false → (bay_of p' c ≡ bay_of p c) ⊎ ((bay_of p c ≡ w) × (bay_of p' c ≡ bay_of p r))) where
  -- nobody but r is at w afterwards
  left-w : (c : Carrier) → c < length p → eqb c r ≡ false → bay_of p' c ≡ bay_of p c → eqb (bay_of p c) w ≡ false
  left-w c h n e = ne_eqb (bay_of p c) w (λ q. eqb-false c r n (apart' c r (omega arith) (omega arith) (e ∙ q ∙ sym arrives)))

  each-moves : (c : Carrier) → c < finished → c < length p → bay_of p' c ≡ trade (bay_of p r) w (bay_of p c)
  each-moves c h there =
      by_cases (eqb c r)
      (λ e. rw (eqb-true c r e) (arrives ∙ sym (trade-first (bay_of p r) w)))
      (λ n.
      ⊎_elim
      (λ e.
      let other : eqb (bay_of p c) (bay_of p r) ≡ false = ne_eqb (bay_of p c) (bay_of p r) (λ q. eqb-false c r n (apart c r there hr q)) in
      e ∙ sym (trade-other (bay_of p r) w (bay_of p c) other (left-w c there n e)))
      (λ e. e.1 ∙ sym (rw e.0 (trade-second (bay_of p r) w)))
      (others c h n))

  bays-traded : (b : Bay) → elem b (take finished p') ≡ elem (trade (bay_of p r) w b) (take finished p)
  bays-traded b =
      equal-tests _ _
      (λ i.
      let k = in-below finished p' b i in
      let there : k.0 < length p = omega (arith, k.2, same) in
      let e : bay_of p k.0 ≡ trade (bay_of p r) w b = sym (trade-twice (bay_of p r) w (bay_of p k.0)) ∙ ap (trade (bay_of p r) w) (sym (each-moves k.0 k.1 there) ∙ k.3) in
      rw e at (below_in finished p k.0 k.1 there))
      (λ i.
      let k = in-below finished p (trade (bay_of p r) w b) i in
      let e : bay_of p' k.0 ≡ b = each-moves k.0 k.1 k.2 ∙ ap (trade (bay_of p r) w) k.3 ∙ trade-twice (bay_of p r) w b in
      rw e at (below_in finished p' k.0 k.1 (omega (arith, k.2, same))))

  below-traded : {settled settled' : List ℕ} → BaysBelow finished p settled → length settled' ≡ length settled → ((b : Bay) → mem settled' b ≡ mem settled (trade (bay_of p r) w b))
      → BaysBelow finished p' settled'
  below-traded s kept traded = record { size = kept ∙ s.size; bays = λ b. traded b ∙ s.bays (trade (bay_of p r) w b) ∙ sym (bays-traded b) }

-- by crossing alone nobody but r moves
pub settled-free : {n : ℕ} (r : Carrier) (w : Bay) (p : Placement) {standing empty out : List ℕ} {at m : Tally} {p' standing' empty' out' settled settled' : List ℕ} → Placed n p standing empty
    → r < length p → Tallied (only (crossing (carrier_at p (bay_of p r)) (bay_of p r) w ∷ [])) n p p' standing' empty' out at out' m
    → length settled' ≡ length settled → ((b : Bay) → mem settled' b ≡ mem settled (trade (bay_of p r) w b)) → (finished : ℕ) → BaysBelow finished p settled → BaysBelow finished p' settled'
unfolding after
settled-free r w p {p' = p'} k hr y kept traded finished s =
    let moved : p' ≡ set p r w = y.moved ∙ rw (carrier-is p (bay_of p r) r k.apart hr refl) in
    below-traded finished r w p p' k.apart y.placed.apart (ap length moved ∙ length-set p r w) hr
    (ap (λ (q : Placement). bay_of q r) moved ∙ get_or-set_same p r w 0 hr)
    (λ c h n. inl (ap (λ (q : Placement). bay_of q c) moved ∙ get_or-set_other p r c w 0 (eqb-false c r n)))
    s kept traded

module _ {n : ℕ} {table : List ℕ} (t : Tabled n table) (most : n ≤ span) {finished : ℕ} {r : Carrier} {w : Bay} {p : Placement} (can : CanStep n table finished r w p)
    {standing empty : List ℕ} (k : Placed n p standing empty) where
  good_of : Good t.yard p
  good_of = record { apart = k.apart; inside = λ c h. in-bays t (k.inside c h) }

  -- what the paper says of the step
  pub stepped-of : (m : Made) → step t.yard finished r w p ≡ some m → Stepped t.yard (sound-of t most can.loopless) finished r w p m.moves
  stepped-of m e = step-steps t.yard (sound-of t most can.loopless) finished r w p good_of can.carrier_there can.finished_there (railed t most can k) m e

  pub settled-after : {out : List ℕ} {at b : Tally} {p' standing' empty' out' settled settled' : List ℕ} → Proceeds (step t.yard finished r w p) n p out at p' standing' empty' out' (Some b)
      → BaysBelow finished p settled → length settled' ≡ length settled → ((b : Bay) → mem settled' b ≡ mem settled (trade (bay_of p r) w b)) → BaysBelow finished p' settled'
  settled-after {p' = p'} a s kept traded =
      let d = tried-done a.tries in
      let o = stepped-of d.0 d.1 in
      below-traded finished r w p p' k.apart d.2.placed.apart (rw d.2.moved (after-length p d.0.moves)) can.carrier_there (rw d.2.moved o.arrives) (rw d.2.moved o.others) s kept traded
