-- Bring and clear are legal, so the bays that they name are small, and the follower is where bring left it: what is written after the
-- exchange is the paper's undo of what is still in the list.
-- Assumes nothing.
use Rattle.std.proofs.Common.{None, Some}
use mathlib.Core.Path.{◌≡◌, sym, ◌∙◌, ap, refl}
use mathlib.Core.Bool.{true}
use mathlib.Core.List.{List, [], ◌∷◌, ◌++◌, map, map-append}
use mathlib.Core.Option.{Option, none, some}
use Prim.Native.Nat.{ℕ, suc, ◌≤◌, ◌<◌, ◌+◌, zero, ◌^◌, max, min}
use native.Mathlib.Omega.{arith}
use lib.ListN.{length, get_or, take, length-map, set, length-append, get_or-map, length-reverse}
use lib.Seq.{get_or-set_other, sets, get_or-take}
use borrow.Author.Tests.{ne_eqb}
use Rattle.paper.specs.Procedure.{Made, together, exchange, undo, Cleared, bring, clear, finish, trial_led}
use Rattle.paper.specs.Yard.{Bay, Carrier, Yard, Placement, bay_of, Crossing, crossing, reverse_of, pack, move, after, joined, legal_plan}
use Rattle.paper.proofs.Members.{In-head, In-tail}
use Rattle.paper.proofs.Playing.{Apart, legal-facts, after-length, plan-head, plan-tail, plan-append}
use Rattle.paper.proofs.Rings.{joined-sym}
use Rattle.paper.proofs.Swapping.{Brought, bring-brings, ClearedIs, once-clears, clear-clears}
use Rattle.paper.proofs.Tests.{never}
use Rattle.paper.proofs.Vacating.{plan-apart}
use Rattle.words.specs.Sets.{span}
use Rattle.yard.specs.Table.{Table}
use Rattle.moving.specs.Placed.{Placed, Stored}
use Rattle.moving.proofs.Playing.{stored_exact}
use Rattle.acting.specs.Acting.{nothing, Added, Tallied}
use Rattle.acting.specs.declared.Tally.{Tally}
use Rattle.undo.specs.Turning.{Small, Holds, numbers}
use Rattle.acting.proofs.Lending.{RestLent}
use Rattle.clear_on.specs.Going.{Logged, AtJunction, Attempts, After, ClearsTwo}
use Rattle.clear_on.proofs.Attempting.{logged_then}
use Rattle.exchange.specs.Exchanging.{Noted}
use Rattle.trial.specs.Trying.{Prepared, SetsUp, Led}
use Rattle.clear_on.specs.Pair.{Pair}

pub too_few : (Y : Yard) (L M : Carrier) (v b : Bay) (done : Made) (kept : List Bay) → length kept < 2 → finish Y L M v b done kept ≡ none
unfolding finish
too_few Y L M v b done [] h = refl
too_few Y L M v b done (x ∷ []) h = refl
too_few Y L M v b done (x ∷ y ∷ l) h = absurd (omega arith)

pub not-brought : {Y : Yard} {L M : Carrier} {v : Bay} {path : List Bay} {p p' log : List ℕ} → bring Y L M path p ≡ none → SetsUp Y L M v path p p' log None
unfolding trial_led
not-brought e = record { both = λ x y m d. never (cc); missing = λ d. rw e }

-- where bring ends, the leader is at v and the follower beside it
pub at-junction : {Y : Yard} {L M : Carrier} {v : Bay} {path : List Bay} {p : Placement} (xs : Made) → Led Y L M v path p → Apart p → L < length p → M < length p → (M ≡ L → ⊥) → bring Y L M path p ≡ some xs
    → (q : Placement) → q ≡ after p xs.moves → AtJunction L M v (bay_of q M) q
at-junction {Y} {L} {M} {v} {path} {p} xs led apart hL hM differ made q moved =
    record { at_v = rw moved (bring-brings Y led.sound L M (ne_eqb L M (λ e. differ (sym e))) path v p xs apart hL hM led.chain led.beside made).leads; at_b = refl }

-- bring counts from nothing, and clear is lent the rest of the list
pub set-up-all : {Y : Yard} {L M : Carrier} {v : Bay} {path : List Bay} {n : ℕ} {p out q standing₁ empty₁ out₁ p' rest log : List ℕ} {a : Tally} {g r : Pair}
    → (xs : Made) → bring Y L M path p ≡ some xs → Tallied xs n p q standing₁ empty₁ out nothing out₁ a → ((more sum : Tally) → Added a more sum → RestLent out₁ a rest more log sum)
    → ClearsTwo Y L M v (bay_of q M) q p' rest g → After a g r → SetsUp Y L M v path p p' log r
unfolding trial_led
set-up-all {Y} {L} {M} {v} xs made w l c f =
    let k = rw w.moved at c in
    record {
      both = λ x y sum e.
          let s = f.both x y sum e in
          let b = k.both x y s.0 s.1 in
          record { brought = xs; made = made; kept = b.kept; logged = logged_then w (l s.0 sum s.2) b.logged; moved = b.moved };
      missing = λ e. rw made (too_few Y L M v _ _ _ (k.missing (f.missing e)));
    }

pub attempts-none : {o : Option Made} {log : List ℕ} → o ≡ none → Attempts o log None
attempts-none e = record { fails = λ d. e; done = λ m d. never (cc) }

pub attempts-some : {o : Option Made} {log : List ℕ} {m : Tally} {xs : Made} → o ≡ some xs → Logged xs log m → Attempts o log (Some m)
attempts-some {m = m} {xs = xs} e l = record { fails = λ d. never (cc); done = λ k d. let same : m ≡ k = cc in (xs, e, rw same at l) }

-- bays of a legal plan are small
legal-small : (Y : Yard) (n : ℕ) (inside : (a b : ℕ) → joined Y a b ≡ true → (a < n) × (b < n)) (most : n ≤ span) (p : Placement) (xs : List Crossing) → legal_plan Y p xs ≡ true
    → (j : ℕ) → ((get_or xs j (crossing 0 0 0)).from < 2 ^ 16) × ((get_or xs j (crossing 0 0 0)).to < 2 ^ 16)
legal-small Y n inside most p [] h j = (omega arith, omega arith)
legal-small Y n inside most p (x ∷ xs) h zero =
    let l = legal-facts Y p x (plan-head Y p x xs h) in
    let i = inside x.from x.to l.rail in
    (omega (arith, i.0), omega (arith, i.1))
legal-small Y n inside most p (x ∷ xs) h (suc j) = legal-small Y n inside most (move p x) xs (plan-tail Y p x xs h) j

sets-before : (l : List ℕ) (i : ℕ) (vs : List ℕ) (k : ℕ) → k < i → get_or (sets l i vs) k 0 ≡ get_or l k 0
sets-before l i [] k h = refl
sets-before l i (v ∷ vs) k h = sets-before (set l i v) (suc i) vs k (omega arith) ∙ get_or-set_other l i k v 0 (λ e. omega arith)

length-undo : (L M : Carrier) (xs : List Crossing) → length (undo L M xs) ≡ length xs
unfolding undo reverse_of
length-undo L M xs = rw (length-map, length-map, length-reverse)

-- what the log begins with stays there, and what is stored after it goes on
logged-on : {xs vs log log' : List ℕ} {c : ℕ} → take c log ≡ xs → Stored vs log c log' → c + length vs ≤ length log → take (c + length vs) log' ≡ xs ++ vs
logged-on {vs = vs} e k fits = k.front fits ∙ ap (λ (l : List ℕ). l ++ vs) e

module _ {Y : Yard} {L M : Carrier} {v : Bay} {path : List Bay} {n : ℕ} {p standing empty p' log : List ℕ} {x y : ℕ} {c : Tally}
    (w : Prepared Y L M v path p p' log x y c) (k : Placed n p standing empty) (hL : L < length p) (hM : M < length p) (differ : M ≡ L → ⊥) where
  abbrev p₁ : Placement
  p₁ = after p w.brought.moves

  abbrev cleared : Cleared
  cleared = clear Y L M v (bay_of p₁ M) p₁

  abbrev done : List Crossing
  done = w.brought.moves ++ cleared.made.moves

  module _ (rows : List ℕ) (shown : Table Y n rows) (most : n ≤ span) (led : Led Y L M v path p) where
    brings : Brought Y led.sound L M (ne_eqb L M (λ e. differ (sym e))) v p w.brought.moves
    brings = bring-brings Y led.sound L M (ne_eqb L M (λ e. differ (sym e))) path v p w.brought k.apart hL hM led.chain led.beside w.made

    apart₁ : Apart p₁
    apart₁ = plan-apart Y p w.brought.moves k.apart brings.legal

    clears : ClearedIs Y led.sound v (bay_of p₁ M) p₁ cleared
    clears = clear-clears Y led.sound L M (ne_eqb L M (λ e. differ (sym e))) v (bay_of p₁ M) p₁ (record {
      apart = apart₁;
      there = rw after-length hL;
      follows = rw after-length hM;
      at_v = brings.leads;
      at_b = refl;
      beside = joined-sym Y (bay_of p₁ M) v brings.follows;
    })

    legal : legal_plan Y p done ≡ true
    legal = plan-append Y p w.brought.moves cleared.made.moves brings.legal clears.legal

    same-bay : bay_of p' M ≡ bay_of p₁ M
    same-bay = rw w.moved ((once-clears Y led.sound v (bay_of p₁ M) p₁ apart₁).stays M (rw after-length hM) (In-tail (bay_of p₁ M) v (bay_of p₁ M ∷ []) (In-head (bay_of p₁ M) [])))

    module _ {log₁ log₂ : List ℕ} {d : ℕ} (ex : Noted (exchange L M v (bay_of p' M) (min x y) (max x y)) log c.crossings log₁ d)
        (un : (xs : List Crossing) → Small xs → Holds log₁ 0 xs → length xs ≡ c.crossings → log₂ ≡ sets log₁ d (numbers L M xs)) (long : length log₂ ≡ length log₁) where
      abbrev traded : List Crossing
      traded = exchange L M v (bay_of p' M) (min x y) (max x y)

      -- bring and clear are read back from the log's start, where there was room for all of it
      holds : c.crossings ≤ length log → Holds log₁ 0 done
      unfolding pack
      holds fits = record {
        at = λ j h l.
            let low : j < c.crossings = omega (arith, h, w.logged.counted) in
            let here : 0 + j ≡ j = omega arith in
            rw here (ap (λ (o : List ℕ). get_or o j 0) ex.stored ∙ sets-before log c.crossings (map pack traded) j low
            ∙ sym (get_or-take c.crossings log j 0 low) ∙ ap (λ (o : List ℕ). get_or o j 0) (w.logged.stored fits) ∙ get_or-map pack done j (crossing 0 0 0));
      }

      small : Small done
      small = record {
        from_low = λ j. (legal-small Y n shown.inside most p done legal j).0;
        to_low = λ j. (legal-small Y n shown.inside most p done legal j).1;
      }

      abbrev whole : List Crossing
      whole = done ++ traded ++ undo L M done

      numbered : map pack whole ≡ map pack done ++ map pack traded ++ numbers L M done
      numbered = map-append pack (done ++ traded) (undo L M done) ∙ ap (λ (l : List ℕ). l ++ numbers L M done) (map-append pack done traded)

      first : Stored (map pack traded) log c.crossings log₁
      first = stored_exact ex.stored

      counted : d + c.crossings ≡ length whole
      counted = omega (arith, ex.counted, w.logged.counted, length-append (done ++ traded) (undo L M done), length-append done traded, length-undo L M done)

      stored : d + c.crossings ≤ length log₂ → take (d + c.crossings) log₂ ≡ map pack whole
      stored h =
          let same : length log₁ ≡ length log = first.long in
          let fits : c.crossings ≤ length log = omega (arith, h, long, same) in
          let ends : c.crossings + length (map pack traded) ≡ d = omega (arith, ex.counted, length-map traded pack) in
          let both = logged-on (w.logged.stored fits) first (omega (arith, ends, h, long, same)) in
          let size : length (numbers L M done) ≡ c.crossings = length-map (undo L M done) pack ∙ length-undo L M done ∙ sym w.logged.counted in
          let undone : Stored (numbers L M done) log₁ d log₂ = stored_exact (un done small (holds fits) (sym w.logged.counted)) in
          (rw size at (logged-on (rw ends at both) undone (omega (arith, size, h, long)))) ∙ sym numbered

      answer : trial_led Y L M v path p ≡ some (record { moves = whole; parked = w.brought.parked + cleared.made.parked })
      unfolding trial_led finish
      answer = rw (w.made, w.kept, same-bay)

      pub attempted : Attempts (trial_led Y L M v path p) log₂ (Some (record { crossings = d + c.crossings; parked = c.parked }))
      attempted = attempts-some answer (record { counted = counted; stored = stored; parks = w.logged.parks; few = omega (arith, w.logged.few) })
