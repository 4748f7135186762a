-- A vacate that holds both bays leaves leader and follower in place, so the leader can cross into the vacated bay and the follower
-- into the bay that the leader left: each turn of the loop is one step of the paper's bring.
-- Assumes nothing.
use Rattle.std.proofs.Common.{None, Some}
use mathlib.Core.Path.{◌≡◌, sym, ◌∙◌, ap, refl}
use mathlib.Core.Bool.{true}
use mathlib.Core.List.{List, [], ◌∷◌, ◌++◌, append_assoc}
use mathlib.Core.Option.{Option, none, some}
use Prim.Native.Nat.{ℕ, suc, ◌≤◌, ◌<◌, ◌+◌}
use native.Mathlib.Omega.{arith}
use native.Mathlib.Numerals.{add-one}
use lib.ListN.{length, get_or, drop, drop_of_length-le, set, length-set}
use lib.Seq.{drop-cons, get_or-set_same, get_or-set_other}
use native.Mathlib.Decide.{ℕ_discrete}
use borrow.Author.Tests.{not-true}
use Rattle.paper.specs.Basics.{◌>>=◌, elem, In, Out}
use Rattle.paper.specs.Procedure.{Made, only, together, ◌then◌, cross, vacate, bring}
use Rattle.paper.specs.Yard.{Bay, Carrier, Yard, Placement, bay_of, carrier_at, Crossing, crossing, move, after}
use Rattle.paper.proofs.Members.{In-head, In-tail, in_count}
use Rattle.paper.proofs.Playing.{Apart, after-append, after-length, bay-in, out_of}
use Rattle.paper.proofs.Tests.{by-option, not-both, never-some}
use Rattle.paper.proofs.Vacating.{Vacated, vacate-vacates, vacate-empty}
use Rattle.words.specs.Sets.{mem}
use Rattle.moving.specs.Placed.{Placed}
use Rattle.moving.proofs.Playing.{carrier-is}
use Rattle.paper.proofs.Making.{same-made, together-assoc, together-none, none-together}
use Rattle.acting.specs.Acting.{Tabled, nothing, Tallied, Acts, Tries}
use Rattle.bring.specs.Bringing.{entering}
use Rattle.acting.specs.declared.Tally.{Tally}
use Rattle.acting.proofs.Lending.{RestLent, on-the-rest}
use Rattle.acting.proofs.Acting.{tallied-none, tallied-then, tries-some, tried-done, tried-failed, acts-some, acted-done}

-- what is made, and then what the rest answers
abbrev ahead : Made → Option Made → Option Made
ahead a none = none
ahead a (some b) = some (together a b)

pub bay_low : {n : ℕ} {table : List ℕ} {x : ℕ} (t : Tabled n table) → x < n → x < t.yard.bays
bay_low t h = rw t.joins.bays h

-- ## Entering an empty bay

module _ (q : Placement) (L M : Carrier) (x : Bay) (apart : Apart q) (hL : L < length q) (hM : M < length q) (differ : M ≡ L → ⊥) (free : Out x q) where
  -- whoever crosses to an empty bay leaves its own empty
  leader-leaves : Out (bay_of q L) (set q L x)
  leader-leaves = out_of (set q L x) (bay_of q L) (λ c k e. elim (ℕ_discrete c L) [
    | yes d ↦ let same : x ≡ bay_of q L = sym (get_or-set_same q L x 0 hL) ∙ (rw d at e) in not-both (rw (← same) at (bay-in q L hL)) free
    | no d ↦ d (apart c L (rw length-set at k) hL (sym (get_or-set_other q L c x 0 d) ∙ e))
  ])

  -- the follower's crossing, after the leader's
  module _ {n : ℕ} {out : List ℕ} {at : Tally} {q₁ standing₁ empty₁ out₁ : List ℕ} {a : Tally}
      (first : Tallied (only (crossing (carrier_at q (bay_of q L)) (bay_of q L) x ∷ [])) n q q₁ standing₁ empty₁ out at out₁ a) where
    first-is : Tallied (only (crossing L (bay_of q L) x ∷ [])) n q q₁ standing₁ empty₁ out at out₁ a
    first-is = rw (carrier-is q (bay_of q L) L apart hL refl) at first

    first-move : q₁ ≡ set q L x
    unfolding after
    first-move = first-is.moved

    follower-inside : M < length q₁
    follower-inside = rw (first-move, length-set) hM

    follower-stays : bay_of q₁ M ≡ bay_of q M
    follower-stays = rw first-move (get_or-set_other q L M x 0 differ)

    pub followed : In (bay_of q M) q₁ × Out (bay_of q L) q₁
    followed = (rw follower-stays at (bay-in q₁ M follower-inside), rw first-move leader-leaves)

    pub entered : {q₂ standing₂ empty₂ out₂ : List ℕ} {r : Tally} → Tallied (only (crossing (carrier_at q₁ (bay_of q M)) (bay_of q M) (bay_of q L) ∷ [])) n q₁ q₂ standing₂ empty₂ out₁ a out₂ r
        → Tallied (entering L M x q) n q q₂ standing₂ empty₂ out at out₂ r
    entered second =
        let second_is = rw (carrier-is q₁ (bay_of q M) M first.placed.apart follower-inside follower-stays) at second in
        tallied-then first-is second_is

-- ## One bay of the path

module _ (Y : Yard) (L M : Carrier) (x : Bay) (p : Placement) (apart : Apart p) (hL : L < length p) (hM : M < length p) (differ : M ≡ L → ⊥)
    (hx : x < Y.bays) (vs : Made) (made : vacate Y (bay_of p L ∷ bay_of p M ∷ []) x p ≡ some vs) where
  vacated : Vacated Y (bay_of p L ∷ bay_of p M ∷ []) x p vs.moves
  vacated = vacate-vacates Y (bay_of p L ∷ bay_of p M ∷ []) x p vs apart (in_count 0 Y.bays x (omega arith) (omega arith)) made

  leader-held : bay_of (after p vs.moves) L ≡ bay_of p L
  leader-held = vacated.keeps L hL (In-head _ _)

  follower-held : bay_of (after p vs.moves) M ≡ bay_of p M
  follower-held = vacated.keeps M hM (In-tail _ _ _ (In-head _ _))

  abbrev q : Placement
  q = after p vs.moves

  next-free : Out x q
  next-free = vacated.empties

  enters-alike : entering L M x q ≡ entering L M x p
  enters-alike = rw (leader-held, follower-held)

  abbrev one : Crossing
  one = crossing L (bay_of p L) x

  follower-next : bay_of (move q one) M ≡ bay_of p M
  follower-next = get_or-set_other q L M x 0 differ ∙ follower-held

  abbrev two : Crossing
  two = crossing M (bay_of p M) (bay_of p L)

  abbrev made-here : Made
  made-here = together vs (entering L M x p)

  bring-on : (xs : List Bay) → bring Y L M (x ∷ xs) p ≡ ahead made-here (bring Y L M xs (after p made-here.moves))
  unfolding bring ◌then◌ cross after
  bring-on xs = rw (made, after-append, leader-held, follower-next) (regroup (bring Y L M xs (move (move q one) two)))
    where
      regroup : (o : Option Made)
          → ((some (only (one ∷ [])) >>= λ a. ((some (only (two ∷ [])) >>= λ b. o >>= λ d. some (together b d)) >>= λ b. some (together a b))) >>= λ b. some (together vs b)) ≡ ahead made-here o
      regroup none = refl
      regroup (some ys) = ap some (same-made (sym (append_assoc vs.moves (one ∷ two ∷ []) ys.moves)) (omega arith))

-- ## All bays of the path

-- what has been brought so far, and what is still to be done
pub record Bringing (Y : Yard) (L M : Carrier) (path : List Bay) (n : ℕ) (p : Placement) (out : List ℕ) (i : ℕ) (p' standing' empty' out' : List ℕ) (m : Tally) : Type 0 where
  pub xs : Made
  pub played : Tallied xs n p p' standing' empty' out nothing out' m
  pub answer : bring Y L M path p ≡ ahead xs (bring Y L M (drop i path) p')

pub bringing-none : (Y : Yard) (L M : Carrier) (path : List Bay) (n : ℕ) (p standing empty out : List ℕ) → Placed n p standing empty
    → Bringing Y L M path n p out 0 p standing empty out nothing
bringing-none Y L M path n p standing empty out k = record {
  xs = only [];
  played = tallied-none n p standing empty out nothing k;
  answer = plain (bring Y L M path p);
}
  where
    plain : (o : Option Made) → o ≡ ahead (only []) o
    plain none = refl
    plain (some ys) = ap some (sym (none-together ys))

ahead-ahead : (xs ys : Made) (o : Option Made) → ahead xs (ahead ys o) ≡ ahead (together xs ys) o
ahead-ahead xs ys none = refl
ahead-ahead xs ys (some zs) = ap some (sym (together-assoc xs ys zs))

pub bringing-all : {Y : Yard} {L M : Carrier} {path : List Bay} {n : ℕ} {p out : List ℕ} {i : ℕ} {p' standing' empty' out' : List ℕ} {m : Tally}
    → Bringing Y L M path n p out i p' standing' empty' out' m → length path ≤ i → Tries (bring Y L M path p) n p out nothing p' standing' empty' out' (Some m)
bringing-all {Y} {L} {M} {path} {p = p} {p' = p'} b h =
    let nil : bring Y L M [] p' ≡ some (only []) = unfold bring in refl in
    let e : bring Y L M path p ≡ some b.xs = b.answer ∙ rw (drop_of_length-le path h, nil) (ap some (together-none b.xs)) in
    tries-some e b.played

module _ (Y : Yard) (n : ℕ) (L M : Carrier) (x : Bay) (p : Placement) (apart : Apart p) (hL : L < length p) (hM : M < length p) (differ : M ≡ L → ⊥)
    (hx : x < Y.bays) {standing empty out : List ℕ} {at a : Tally} {q standing₁ empty₁ out₁ : List ℕ}
    (acts : Acts (vacate Y (bay_of p L ∷ bay_of p M ∷ []) x p) n p standing empty out at q standing₁ empty₁ out₁ (Some a)) where
  made_of : (m : Made) × (vacate Y (bay_of p L ∷ bay_of p M ∷ []) x p ≡ some m) × Tallied m n p q standing₁ empty₁ out at out₁ a
  made_of = acted-done acts

  -- what the vacate leaves: both are there, and x is empty
  pub led : (L < length q) × (M < length q) × Out x q × Placed n q standing₁ empty₁
  led =
      let m = made_of in
      let e = m.2.moved in (
        rw (e, after-length) hL,
        rw (e, after-length) hM,
        rw e (next-free Y L M x p apart hL hM differ hx m.0 m.1),
        m.2.placed,
      )

  pub brought-one : {q₂ standing₂ empty₂ out₂ : List ℕ} {r : Tally} → Tallied (entering L M x q) n q q₂ standing₂ empty₂ out₁ a out₂ r
      → Tries (bring Y L M (x ∷ []) p) n p out at q₂ standing₂ empty₂ out₂ (Some r)
  brought-one {q₂} {standing₂} {empty₂} {out₂} {r} entry =
      let m = made_of in
      let alike : entering L M x q ≡ entering L M x p = rw m.2.moved (enters-alike Y L M x p apart hL hM differ hx m.0 m.1) in
      let entry-is : Tallied (entering L M x p) n q q₂ standing₂ empty₂ out₁ a out₂ r = rw alike at entry in
      let nil : (s : Placement) → bring Y L M [] s ≡ some (only []) = λ s. unfold bring in refl in
      let on : bring Y L M (x ∷ []) p ≡ some (together m.0 (entering L M x p)) =
      bring-on Y L M x p apart hL hM differ hx m.0 m.1 [] ∙ rw nil (ap some (together-none (together m.0 (entering L M x p)))) in
      tries-some on (tallied-then m.2 entry-is)

-- an empty bay is vacated already
module _ {n : ℕ} {standing empty : List ℕ} (x : Bay) (p : Placement) (k : Placed n p standing empty) (hx : x < n) (h : true ≡ mem empty x) where
  pub free : Out x p
  free = not-true (elem x p) (sym (k.empties x hx) ∙ sym h)

  pub acts-free : {out : List ℕ} {at : Tally} (Y : Yard) (held : List Bay) → Acts (vacate Y held x p) n p standing empty out at p standing empty out (Some at)
  acts-free {out} {at} Y held = acts-some (vacate-empty Y held x p free) (tallied-none n p standing empty out at k)

pub brought-not : (Y : Yard) (L M : Carrier) (x : Bay) (p : Placement) → vacate Y (bay_of p L ∷ bay_of p M ∷ []) x p ≡ none → (xs : List Bay) → bring Y L M (x ∷ xs) p ≡ none
unfolding bring ◌then◌
brought-not Y L M x p e xs = rw e

-- the rest of the path after its first bay
module _ (Y : Yard) (L M : Carrier) (x : Bay) (p : Placement) (apart : Apart p) (hL : L < length p) (hM : M < length p) (differ : M ≡ L → ⊥) (hx : x < Y.bays) where
  pub bring-then : (xs : List Bay) (cs : Made) → bring Y L M (x ∷ []) p ≡ some cs → bring Y L M (x ∷ xs) p ≡ ahead cs (bring Y L M xs (after p cs.moves))
  bring-then xs cs e =
      by-option (vacate Y (bay_of p L ∷ bay_of p M ∷ []) x p)
      (λ none_made. never-some cs (sym (brought-not Y L M x p none_made []) ∙ e))
      (λ vs made.
      let here : Made = together vs (entering L M x p) in
      let nil : bring Y L M [] (after p here.moves) ≡ some (only []) = unfold bring in refl in
      let z : bring Y L M (x ∷ []) p ≡ some here = bring-on Y L M x p apart hL hM differ hx vs made [] ∙ rw nil (ap some (together-none here)) in
      let same : here ≡ cs = let y = sym z ∙ e in cc in
      bring-on Y L M x p apart hL hM differ hx vs made xs ∙ ap (λ (l : Made). ahead l (bring Y L M xs (after p l.moves))) same)

  pub bring-stops : (xs : List Bay) → bring Y L M (x ∷ []) p ≡ none → bring Y L M (x ∷ xs) p ≡ none
  bring-stops xs e =
      by-option (vacate Y (bay_of p L ∷ bay_of p M ∷ []) x p)
      (λ none_made. brought-not Y L M x p none_made xs)
      (λ vs made.
      let here : Made = together vs (entering L M x p) in
      let nil : bring Y L M [] (after p here.moves) ≡ some (only []) = unfold bring in refl in
      let z : bring Y L M (x ∷ []) p ≡ some here = bring-on Y L M x p apart hL hM differ hx vs made [] ∙ rw nil (ap some (together-none here)) in
      never-some here (sym e ∙ z))

module _ {Y : Yard} {L M : Carrier} {path : List Bay} {n : ℕ} {p out : List ℕ} {i : ℕ} {p' standing' empty' out' : List ℕ} {m : Tally} (b : Bringing Y L M path n p out i p' standing' empty' out' m)
    (here : i < length path) (hL : L < length p') (hM : M < length p') (differ : M ≡ L → ⊥) (hx : get_or path i 0 < Y.bays) {lent rest : List ℕ} {q standing'' empty'' : List ℕ} where
  -- one bay more, in the rest of the list
  pub bringing-more : {out'' : List ℕ} {more sum : Tally} → RestLent out' m rest more out'' sum → Tries (bring Y L M (get_or path i 0 ∷ []) p') n p' lent nothing q standing'' empty'' rest (Some more)
      → Bringing Y L M path n p out (i + 1) q standing'' empty'' out'' sum
  bringing-more l t =
      let s = tried-done t in
      record {
        xs = together b.xs s.0;
        played = tallied-then b.played (on-the-rest l s.2);
        answer =
            b.answer
            ∙ rw (drop-cons path i 0, bring-then Y L M (get_or path i 0) p' b.played.placed.apart hL hM differ hx (drop (suc i) path) s.0 s.1, ahead-ahead, ← add-one, ← s.2.moved);
      }

  pub bringing-stops : Tries (bring Y L M (get_or path i 0 ∷ []) p') n p' lent nothing q standing'' empty'' rest None → bring Y L M path p ≡ none
  bringing-stops t =
      b.answer ∙ rw (drop-cons path i 0, bring-stops Y L M (get_or path i 0) p' b.played.placed.apart hL hM differ hx (drop (suc i) path) (tried-failed t))
