-- Going on in code is the paper's: the attempts are with the junction's other neighbours, and what the first that succeeds has logged in the rest of the
-- list stands in the whole behind what was made before.
-- Assumes nothing.
use Rattle.std.proofs.lemmas.Option.{same_Some}
use Rattle.std.proofs.Common.{None, Some}
use Rattle.std.specs.Prelude.{if◌then◌else◌}
use mathlib.Core.Path.{◌≡◌, sym, ◌∙◌, ap, refl}
use mathlib.Core.Bool.{Bool, true, false, not}
use mathlib.Core.List.{List, [], ◌∷◌, ◌++◌, map, map-append}
use mathlib.Core.Option.{Option, none, some}
use Prim.Native.Nat.{ℕ, ◌≤◌, ◌<◌, ◌-◌, ◌+◌}
use native.Mathlib.Omega.{arith}
use lib.ListN.{length, length-map, length-append}
use lib.Dec.{eqb}
use Rattle.paper.specs.Basics.{◌and◌, ◌or◌, elem, without, up_to}
use Rattle.paper.specs.Yard.{Bay, Carrier, Yard, Placement, pack, after, joined, neighbours}
use Rattle.paper.specs.Procedure.{Made, together, Cleared, clear_once, go_on, gone_on, clear}
use Rattle.paper.proofs.Tests.{never}
use Rattle.paper.proofs.Members.{In-head, In-tail}
use Rattle.paper.proofs.Playing.{Apart, Sound}
use Rattle.paper.proofs.Swapping.{once-clears}
use Rattle.words.specs.Sets.{mem, words, span, mem_row}
use Rattle.words.proofs.Sets.{zeros}
use Rattle.moving.specs.Bounds.{room_crossing}
use Rattle.moving.specs.Placed.{Stored}
use Rattle.moving.proofs.Playing.{stored-then}
use Rattle.docket.specs.declared.Bay.{Bay as Numbered}
use Rattle.acting.specs.Acting.{Tabled, nothing, AsFar, Added, Tallied}
use Rattle.acting.specs.declared.Tally.{Tally}
use Rattle.acting.proofs.Lending.{RestLent, stored-on-the-rest}
use Rattle.keeping.specs.Keeping.{KeptAlone}
use Rattle.keeping.proofs.Around.{filter-both, filter_same, around-of}
use Rattle.either_way.specs.Either.{Others}
use Rattle.clear_on.specs.Going.{AtJunction, Logged, PairBy, GoesOn, AfterAsks, After, TwoCleared, ClearsTwo}
use Rattle.clear_on.specs.Pair.{Pair}
use Rattle.attempts.proofs.Attempting.{tallied-logged}
pub use Rattle.attempts.proofs.Attempting.{ready-copy, in-bays}

-- ## The other neighbours

both_out : (j s t : Bool) → (j and not s) and not t ≡ j and not (if s then true else (if t then true else false))
unfolding ◌and◌
both_out true true true = refl
both_out true true false = refl
both_out true false true = refl
both_out true false false = refl
both_out false s t = refl

pub others-is : {n : ℕ} {table : List ℕ} (t : Tabled n table) (v b e : Bay) (w₁ w₂ w₃ : List ℕ) → n ≤ span → v < n → ((y : ℕ) → y < span → mem w₁ y ≡ mem (zeros words) y or mem_row table v y)
    → ((y : ℕ) → mem w₂ y ≡ mem w₁ y and not (eqb y b)) → ((y : ℕ) → mem w₃ y ≡ mem w₂ y and not (eqb y e)) → Others t.yard v b e n w₃
unfolding without neighbours elem
others-is {n} t v b e w₁ w₂ w₃ most hv f g h =
    let w = around-of t v b w₁ w₂ most hv f g in
    let z : n - 0 ≡ n = omega arith in
    filter-both (joined t.yard v) (λ y. not (elem y (b ∷ e ∷ []))) (up_to t.yard.bays)
    ∙ filter_same _ (mem w₃) 0 t.yard.bays (λ y i l. sym (h y ∙ rw (w.same y (omega (arith, w.bays))) (both_out (joined t.yard v y) (eqb y b) (eqb y e))))
    ∙ rw (z, w.bays)

-- ## Going on

pub pair-none : (at : Tally) (k : ℕ) → PairBy at k None
pair-none at k = record { few = λ x y m e. never (cc) }

pub pair-both : {at : Tally} {k : ℕ} {m : Tally} {x y : Numbered} → m.crossings ≤ at.crossings + k → at.crossings ≤ m.crossings → PairBy at k (Some (x, y, m))
pair-both {m = m} h l = record { few = λ u v w e. let c : m ≡ w = ap (λ t. t.2) (same_Some _ _ e) in (rw c at h, rw c at l) }

pub gone-none : {o : Option Cleared} {log : List ℕ} → o ≡ none → GoesOn o log None
gone-none e = record { both = λ x y m z. never (cc); missing = λ z. e }

pub gone-both : {o : Option Cleared} {log : List ℕ} {x y : Numbered} {m : Tally} → (xs : Made) → o ≡ some (record { made = xs; kept = x.0 ∷ y.0 ∷ [] }) → Logged xs log m
    → GoesOn o log (Some (x, y, m))
gone-both {x = x} {y = y} {m = m} xs e d = record {
  both = λ u v w z.
      let q = same_Some _ _ z in
      let a : x ≡ u = ap (λ t. t.0) q in
      let b : y ≡ v = ap (λ t. t.1) q in
      let k : m ≡ w = ap (λ t. t.2) q in
      (xs, rw (← a, ← b) e, rw (← k) d);
  missing = λ z. never (cc);
}

-- ## After so much was made

pub after_both : {made more sum : Tally} {x y : Numbered} → Added made more sum → After made (Some (x, y, more)) (Some (x, y, sum))
after_both {more = more} {sum = sum} {x = x} {y = y} a = record {
  both = λ u v w e.
      let q = same_Some _ _ e in
      let d : x ≡ u = ap (λ t. t.0) q in
      let f : y ≡ v = ap (λ t. t.1) q in
      let k : sum ≡ w = ap (λ t. t.2) q in
      (more, rw (d, f), rw k at a);
  missing = λ e. never (cc);
}

pub after-missing : {made : Tally} → After made None None
after-missing = record { both = λ u v w e. never (cc); missing = λ e. refl }

-- few enough for a count
pub after-asks : {made : Tally} {rest : Pair} (d k : ℕ) → made.crossings ≤ d → PairBy nothing k rest → d + k < room_crossing → AfterAsks made rest
after-asks d k h b few = record { fits = λ x y more e. let f = b.few x y more e in omega (arith, h, f.0, few) }

pub pair-after : {made : Tally} {k : ℕ} {rest r : Pair} (d : ℕ) → made.crossings ≤ d → PairBy nothing k rest → After made rest r → PairBy nothing (d + k) r
pair-after d h b a = record {
  few = λ x y sum e.
      let s = a.both x y sum e in
      let f = b.few x y s.0 s.1 in
      (omega (arith, h, f.0, s.2.crossings), omega arith);
}

as-far-from-nothing : (j k : ℕ) → AsFar j (0 + k) → AsFar j k
as-far-from-nothing j k h = omega (arith, h)

as-far-sum : (a b m k : ℕ) → AsFar m a → AsFar k b → AsFar (m + k) (a + b)
as-far-sum a b m k f g = omega (arith, f, g)

parks-then : (a b m k r : ℕ) → AsFar m a → AsFar k b → AsFar r (m + k) → AsFar r (a + b)
parks-then a b m k r f g h = h ∙ as-far-sum a b m k f g

few-then : (c d r rc kc mc : ℕ) → c ≤ mc → d ≤ kc → r ≤ c + d → rc ≡ mc + kc → r ≤ rc
few-then c d r rc kc mc e f g h = omega (arith, e, f, g, h)

-- what was counted from nothing, and then what was logged in the rest of the list
pub logged_then : {a b : Made} {n : ℕ} {p q standing empty out out₁ rest log : List ℕ} {m more sum : Tally} → Tallied a n p q standing empty out nothing out₁ m → RestLent out₁ m rest more log sum
    → Logged b rest more → Logged (together a b) log sum
logged_then {a} {b} {out = out} {rest = rest} {log = log} {m = m} {more = more} {sum = r} x l y =
    let size : length (map pack b.moves) ≡ more.crossings = length-map b.moves pack ∙ sym y.counted in
    let second = stored-on-the-rest l (map pack b.moves) (sym size) (λ h. rw size (y.stored (omega (arith, h, size)))) in
    let k : Stored (map pack (a.moves ++ b.moves)) out 0 log = rw map-append (stored-then (x.counted ∙ rw length-map) x.stored second) in
    let counted : r.crossings ≡ length (a.moves ++ b.moves) = omega (arith, x.counted, y.counted, l.added.crossings, length-append a.moves b.moves) in
    let many : 0 + length (map pack (a.moves ++ b.moves)) ≡ r.crossings = omega (arith, counted, length-map (a.moves ++ b.moves) pack) in
    record {
      counted = counted;
      stored = λ h. rw many at (k.front (omega (arith, many, h, k.long)));
      parks = parks-then a.parked b.parked m.parked more.parked r.parked (as-far-from-nothing m.parked a.parked x.parks) y.parks l.added.parks;
      few = few-then m.parked more.parked r.parked r.crossings more.crossings m.crossings (x.few (omega arith)) y.few l.added.few l.added.crossings;
    }

-- ## The whole of clearing

module _ (Y : Yard) (L M : Carrier) (v b : Bay) (p : Placement) where
  abbrev once : Cleared
  once = clear_once Y v b p

  abbrev all : Cleared
  all = clear Y L M v b p

  kept-both : {x y : Bay} → once.kept ≡ x ∷ y ∷ [] → (all.kept ≡ x ∷ y ∷ []) × (all.made ≡ once.made)
  unfolding clear gone_on
  kept-both e = (rw e, rw e)

  kept-few : once.kept ≡ [] → length all.kept < 2
  unfolding clear gone_on
  kept-few e = rw e (omega arith)

  kept_on : {e : Bay} {c : Cleared} → once.kept ≡ e ∷ [] → go_on Y L M v b e (after p once.made.moves) ≡ some c → (all.kept ≡ c.kept) × (all.made ≡ together once.made c.made)
  unfolding clear gone_on
  kept_on e d = (rw (e, d), rw (e, d))

  kept-still : {e : Bay} → once.kept ≡ e ∷ [] → go_on Y L M v b e (after p once.made.moves) ≡ none → length all.kept < 2
  unfolding clear gone_on
  kept-still e d = rw (e, d) (omega arith)

  -- the two stand where they stood
  pub still-there : Sound Y → Apart p → L < length p → M < length p → AtJunction L M v b p → (q : Placement) → q ≡ after p once.made.moves → AtJunction L M v b q
  still-there sound apart hL hM j q moved =
      let s = once-clears Y sound v b p apart in
      rw moved (record {
        at_v = s.stays L hL (rw j.at_v (In-head v (b ∷ []))) ∙ j.at_v;
        at_b = s.stays M hM (rw j.at_b (In-tail b v (b ∷ []) (In-head b []))) ∙ j.at_b;
      })

  pub two_at_once : {n : ℕ} {out p' standing' empty' out' : List ℕ} {x y : Numbered} {m : Tally} → (once.kept ≡ x.0 ∷ y.0 ∷ []) × Tallied once.made n p p' standing' empty' out nothing out' m
      → ClearsTwo Y L M v b p p' out' (Some (x, y, m))
  two_at_once {x = x} {y = y} {m = m} d =
      let k = kept-both d.0 in
      record {
        both = λ u w i z.
            let q = same_Some _ _ z in
            let a : x ≡ u = ap (λ t. t.0) q in
            let c : y ≡ w = ap (λ t. t.1) q in
            let e : m ≡ i = ap (λ t. t.2) q in
            rw (← a, ← c, ← e) (record { kept = k.0; logged = rw k.1 (tallied-logged d.1); moved = d.1.moved });
        missing = λ z. never (cc);
      }

  two-missing : {p' log : List ℕ} → length all.kept < 2 → ClearsTwo Y L M v b p p' log None
  two-missing h = record { both = λ u w i z. never (cc); missing = λ z. h }

  pub two-few : {p' log : List ℕ} → once.kept ≡ [] → ClearsTwo Y L M v b p p' log None
  two-few e = two-missing (kept-few e)

  pub two-in-time : {n : ℕ} {out p' standing' empty' out₁ log out' : List ℕ} {e : ℕ} {m : Tally} {rest r : Pair} → KeptAlone once n p out nothing p' standing' empty' out₁ e m
      → ((more sum : Tally) → Added m more sum → RestLent out₁ m log more out' sum) → GoesOn (go_on Y L M v b e p') log rest → After m rest r → ClearsTwo Y L M v b p p' out' r
  two-in-time {p' = p'} {e = e} a l g f = record {
    both = λ x y sum z.
        let s = f.both x y sum z in
        let d = g.both x y s.0 s.1 in
        let on : go_on Y L M v b e (after p once.made.moves) ≡ some (record { made = d.0; kept = x.0 ∷ y.0 ∷ [] }) = rw (← a.played.moved) d.1 in
        let k = kept_on a.kept on in
        record { kept = k.0; logged = rw k.1 (logged_then a.played (l s.0 sum s.2) d.2); moved = a.played.moved };
    missing = λ z. kept-still a.kept (rw (← a.played.moved) (g.missing (f.missing z)));
  }
