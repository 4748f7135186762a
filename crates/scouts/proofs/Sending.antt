-- A scout that is on the path has come along its beginning, whether it is the old one or has just set out: so what it meets the pair would meet.
-- Assumes nothing.
use mathlib.Core.Path.{◌≡◌, sym, ◌∙◌, ap, refl}
use mathlib.Core.Bool.{true, false}
use mathlib.Core.List.{List, [], ◌∷◌, ◌++◌}
use mathlib.Core.Logic.{◌⊎◌, inl, inr, ⊎_elim}
use mathlib.Core.Option.{none, some}
use Prim.Native.Nat.{ℕ, suc, ◌≤◌, ◌<◌, ◌+◌, ◌-◌}
use native.Mathlib.Omega.{arith}
use native.Mathlib.Decide.{dec_lt}
use lib.ListN.{length, get_or, take, drop, length-drop}
use lib.Seq.{length-take-le}
use Rattle.paper.specs.Path.{Free, shortest_path}
use Rattle.paper.specs.Procedure.{trial_led, bring}
use Rattle.paper.specs.Yard.{Bay, Yard, Placement, bay_of}
use Rattle.words.specs.Sets.{span}
use Rattle.docket.specs.declared.Bay.{Bay as Numbered}
use Rattle.moving.specs.Placed.{Placed}
use Rattle.acting.specs.Acting.{Tabled, Ready}
use Rattle.attempts.proofs.Attempting.{ready-copy}
use Rattle.attempts.specs.declared.Lead.{Lead}
use Rattle.scout.specs.Scouting.{LookSays, SetOutSays, placement_in, standing_in}
use Rattle.scout.specs.declared.Scout.{Scout}
use Rattle.scout.specs.declared.Sight.{Sight}
use Rattle.scouts.specs.Scouts.{Came, PathSays, Sending, Sent}
use Rattle.scouts.proofs.Scouting.{path-splits, came-nowhere, came-there, comes-to-nothing, never-past}

module _ {table p standing empty : List ℕ} (ready : Ready table p standing empty) (t : Tabled (length standing) table) {path : List Bay} {lead : Lead} {rails : ℕ} {start : Bay} {scout : Scout} {room : List ℕ}
    (s : Sending t.yard path lead rails p (length standing) start scout room) (v-free : Free t.yard [] lead.junction.0) (short : length path ≤ span) where
  abbrev Y : Yard
  Y = t.yard

  abbrev L : ℕ
  L = lead.couple.leader.0

  abbrev M : ℕ
  M = lead.couple.follower.0

  abbrev v : Bay
  v = lead.junction.0

  module _ {from : Numbered} (r : Scout) (room' : List ℕ) (w : PathSays path p standing empty from rails scout room r room') where
    on_path : r.rails < length (shortest_path Y [] start v)
    on_path = rw s.is_path at w.there

    at-bay : get_or (shortest_path Y [] start v) r.rails 0 ≡ r.at.0
    at-bay = rw s.is_path at w.stands

    pub came-of : Came Y L M (suc rails) start p (length standing) r room'
    came-of =
        ⊎_elim
        (λ e. rw (e.0, e.1) (s.came (let h : scout.rails < length path = rw e.0 at w.there in omega (arith, h, short))))
        (λ o.
        let again = ready-copy ready (placement_in (length p) room') (standing_in (length standing) room') r.empty o.same_placement o.same_standing o.sized.empty_size o.same_empty in
        came-nowhere Y L M (suc rails) start v p (length standing) s.start_free v-free s.reached r room' on_path at-bay (ap suc (sym o.far)) o.sized o.same_placement
        (let k : length (standing_in (length standing) room') ≡ length standing = ap length o.same_standing in rw k at again.placed))
        w.which

    module _ (hL : L < length p) (hM : M < length p) (differ : M ≡ L → ⊥) (sight : Sight) (room'' : List ℕ)
        (l : LookSays table (drop (suc r.rails) path) lead (length p) (length standing) r room' sight room'') where
      abbrev left : List Bay
      left = drop (suc r.rails) path

      abbrev z : Sight
      z = record { scout = sight.scout; entered = suc r.rails + sight.entered; fits = sight.fits }

      left_is : drop (suc r.rails) path ≡ drop (suc r.rails) (shortest_path Y [] start v)
      left_is = ap (drop (suc r.rails)) s.is_path

      c : Came Y L M (suc rails) start p (length standing) r room'
      c = came-of

      long : length left ≡ length path - suc r.rails
      long = length-drop (suc r.rails) path

      pub sent-most : suc r.rails + sight.entered ≤ length path
      sent-most = omega (arith, l.most, long, w.there)

      came-now : Came Y L M (suc rails) start p (length standing) sight.scout room''
      came-now = elim (dec_lt sight.entered (length left)) [
        | yes h ↦ rw ((l.stays h).0, (l.stays h).1) c
        | no h ↦
            let all : sight.entered ≡ length left = omega (arith, l.most) in
            let g = l.gone all t in
            came-there Y L M (suc rails) start v p (length standing) s.start_free v-free s.reached r room' on_path at-bay c g.brought
            (ap (λ (x : List Bay). bring Y L M x (placement_in (length p) room')) (sym left_is) ∙ g.made) sight.scout room'' l.sized g.moved g.placed (ap (λ (b : Numbered). b.0) (l.there all))
            (l.far all ∙ ap (λ (x : List Bay). r.rails + length x) left_is)
      ]

      past-it : (h : sight.entered < length left) (rest : List Bay)
          → bring Y L M (drop (suc rails) (shortest_path Y [] start (get_or path (suc r.rails + sight.entered) 0) ++ rest)) p ≡ none
      past-it h rest =
          rw s.is_path (never-past Y L M (suc rails) start v p (length standing) s.start_free v-free s.reached r room' on_path at-bay c sight.entered
          (rw left_is at h) (rw left_is at (l.stops h t)) rest)

      not-led : bring Y L M (drop (suc rails) path) p ≡ none → trial_led Y L M v (drop (suc rails) path) p ≡ none
      unfolding trial_led
      not-led e = rw e

      fails : sight.fits ≡ false → trial_led Y L M v (drop (suc rails) path) p ≡ none
      fails f = elim (dec_lt sight.entered (length left)) [
        | yes h ↦
            let place : ℕ = suc r.rails + sight.entered in
            let inside : place < length (shortest_path Y [] start v) = let k : place < length path = omega (arith, h, long) in rw s.is_path at k in
            let cut = path-splits Y L M (suc rails) start v p (length standing) s.start_free v-free s.reached place inside in
            not-led (ap (λ (x : List Bay). bring Y L M (drop (suc rails) x) p) (s.is_path ∙ cut ∙ ap (λ (b : Bay). shortest_path Y [] start b ++ drop (suc place) (shortest_path Y [] start v)) (ap (λ (x : List Bay). get_or x place 0) (sym s.is_path))) ∙ past-it h (drop (suc place) (shortest_path Y [] start v)))
        | no h ↦
            let all : sight.entered ≡ length left = omega (arith, l.most) in
            let g = l.gone all t in
            let size : length (standing_in (length standing) room'') ≡ length standing =
            length-take-le (length standing) (drop span room'') (omega (arith, l.sized.room_size, length-drop span room'', ready.most)) in
            let few = rw size at (l.unfit all f) in
            ap (λ (x : List Bay). trial_led Y L M v (drop (suc rails) x) p) s.is_path
            ∙ comes-to-nothing Y L M (suc rails) start v p (length standing) s.start_free v-free s.reached r room' on_path at-bay c g.brought
            (ap (λ (x : List Bay). bring Y L M x (placement_in (length p) room')) (sym left_is) ∙ g.made) ready.placed.apart hL hM differ (rw s.is_path at s.led) (placement_in (length p) room'') g.moved (few t s.led.sound)
      ]

      pub sent-of : Sent Y path lead rails p (length standing) start z room''
      sent-of = record {
        came = came-now;
        stops = λ h. (omega (arith, c.begun), past-it (omega (arith, h, long)));
        unfit = fails;
      }
