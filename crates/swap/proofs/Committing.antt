-- The winner's trial trades the two carriers and leaves all others in place, so the end state is written by trading the two entries.
-- Assumes nothing.
use Rattle.std.proofs.Common.{None, Some}
use mathlib.Core.Path.{◌≡◌, refl, sym, ◌∙◌, ap}
use mathlib.Core.Bool.{false, not}
use mathlib.Core.List.{List, map}
use mathlib.Core.Option.{some}
use Prim.Native.Nat.{ℕ, ◌+◌, ◌≤◌, ◌<◌}
use native.Mathlib.Omega.{arith}
use lib.ListN.{length, get_or, set, length-set, length-map}
use native.Mathlib.Decide.{ℕ_discrete}
use lib.Dec.{eqb}
use lib.Seq.{get_or-set_same, get_or-set_other}
use borrow.Author.Tests.{ne_eqb}
use Rattle.paper.specs.Basics.{elem, place_of, up_to, In}
use Rattle.paper.specs.Procedure.{Made, only, trade, traded, swap}
use Rattle.paper.specs.Yard.{Bay, Carrier, Crossing, bay_of, pack}
use Rattle.paper.proofs.Members.{in_count}
use Rattle.paper.proofs.Playing.{Apart, place_of-bay, place_of-there, bay-in}
use Rattle.paper.proofs.Swapping.{swap-trades}
use Rattle.paper.proofs.Tests.{by_cases}
use Rattle.paper.proofs.Trading.{traded-length, trade-first, trade-second, trade-other, trade-twice, trade-there, traded-bay}
use Rattle.paper.proofs.Vacating.{plan-apart}
use Rattle.trade.specs.Trading.{standing_traded}
use Rattle.seek.specs.FromBelow.{Beside}
use Rattle.words.proofs.Besides.{equal-tests}
use Rattle.moving.specs.Placed.{Placed, Stored}
use Rattle.moving.proofs.Playing.{carrier-is, carrier-none, stored_exact}
use Rattle.exchange.specs.Exchanging.{Noted}
use Rattle.acting.specs.Acting.{Tabled, nothing, Proceeds}
use Rattle.acting.specs.declared.Tally.{Tally}
use Rattle.acting.proofs.Acting.{proceeds-none, proceeds-some}
use Rattle.seek.specs.FromBelow.{Logged, Attempts}

module _ {n : ℕ} {p standing empty : List ℕ} (k : Placed n p standing empty) (r s : Carrier) (hr : r < length p) (hs : s < length p) (differ : s ≡ r → ⊥) (apart : Apart (traded r s p)) (long : n ≤ length standing) where
  in-traded : (b : Bay) → elem b (traded r s p) ≡ elem b p
  in-traded b =
      equal-tests _ _
      (λ i.
      let c = place_of b (traded r s p) in
      let hc : c < length p = rw traded-length at (place_of-there (traded r s p) b i) in
      let e : bay_of p (trade r s c) ≡ b = sym (traded-bay r s p hr hs c) ∙ place_of-bay (traded r s p) b i in
      rw e at (bay-in p (trade r s c) (trade-there r s p hr hs c hc)))
      (λ i.
      let c = place_of b p in
      let hc : c < length p = place_of-there p b i in
      let e : bay_of (traded r s p) (trade r s c) ≡ b = traded-bay r s p hr hs (trade r s c) ∙ ap (bay_of p) (trade-twice r s c) ∙ place_of-bay p b i in
      rw e at (bay-in (traded r s p) (trade r s c) (rw traded-length (trade-there r s p hr hs c hc))))

  asked-traded : (b : ℕ) → b < n → get_or (standing_traded r s p standing) b 0 ≡ place_of b (traded r s p)
  asked-traded b h = elim (ℕ_discrete b (get_or p s 0)) [
    | yes e ↦
        rw e (get_or-set_same (set standing (get_or p r 0) s) (get_or p s 0) r 0 (rw length-set (omega arith))
        ∙ sym (carrier-is (traded r s p) (get_or p s 0) r apart (rw traded-length hr) (traded-bay r s p hr hs r ∙ ap (bay_of p) (trade-first r s))))
    | no e ↦ get_or-set_other (set standing (get_or p r 0) s) (get_or p s 0) b r 0 e ∙ (elim (ℕ_discrete b (get_or p r 0)) [
      | yes d ↦
          rw d (get_or-set_same standing (get_or p r 0) s 0 (omega arith)
          ∙ sym (carrier-is (traded r s p) (get_or p r 0) s apart (rw traded-length hs) (traded-bay r s p hr hs s ∙ ap (bay_of p) (trade-second r s))))
      | no d ↦ get_or-set_other standing (get_or p r 0) b s 0 d ∙ k.stands b h ∙ by_cases (elem b p)
          (λ i.
          let c = place_of b p in
          let hc : c < length p = place_of-there p b i in
          let at_b : bay_of p c ≡ b = place_of-bay p b i in
          let nr : eqb c r ≡ false = ne_eqb c r (λ q. d (sym at_b ∙ ap (bay_of p) q)) in
          let ns : eqb c s ≡ false = ne_eqb c s (λ q. e (sym at_b ∙ ap (bay_of p) q)) in
          sym (carrier-is (traded r s p) b c apart (rw traded-length hc) (traded-bay r s p hr hs c ∙ ap (bay_of p) (trade-other r s c nr ns) ∙ at_b)))
          (λ o. carrier-none p b o ∙ sym (carrier-none (traded r s p) b (in-traded b ∙ o) ∙ traded-length r s p))
    ])
  ]

  pub placed-traded : Placed n (traded r s p) (standing_traded r s p standing) empty
  placed-traded = record {
    apart = apart;
    inside = λ c h. rw (traded-bay r s p hr hs c) (k.inside (trade r s c) (trade-there r s p hr hs c (rw traded-length at h)));
    few = rw traded-length k.few;
    stands = asked-traded;
    empties = λ b h. k.empties b h ∙ ap not (sym (in-traded b));
  }

-- an exchange that was noted from the start of the list
pub noted-logged : {xs : List Crossing} {out log : List ℕ} {m : ℕ} → Noted xs out 0 log m → Logged (only xs) log (record { crossings = m; parked = 0 })
noted-logged {xs} {out} {log} {m} w =
    let k : Stored (map pack xs) out 0 log = stored_exact w.stored in
    let many : 0 + length (map pack xs) ≡ m = omega (arith, w.counted, length-map xs pack) in
    record { counted = omega (arith, w.counted); stored = λ h. rw many at (k.front (omega (arith, many, h, k.long))); parks = refl; few = omega arith }

module _ {n : ℕ} {table : List ℕ} (t : Tabled n table) {p standing empty : List ℕ} (k : Placed n p standing empty) (long : length standing ≡ n) (r s : Carrier) (hr : r < length p) (hs : s < length p) (differ : s ≡ r → ⊥) (b : Beside t.yard r s p) where
  home : In (bay_of p r) (up_to t.yard.bays)
  home = in_count 0 t.yard.bays (bay_of p r) (omega arith) (omega (arith, t.joins.bays, k.inside r hr))

  -- the crossings of the swap are in the list, and the two have traded places
  pub traded-proceeds : {xs : Made} {out out' : List ℕ} {m : Tally} (p' standing' : List ℕ) → swap t.yard r s p ≡ some xs
      → p' ≡ traded r s p → standing' ≡ standing_traded r s p standing → length out' ≡ length out → Logged xs out' m → Proceeds (swap t.yard r s p) n p out nothing p' standing' empty out' (Some m)
  traded-proceeds {xs = xs} {out} {out'} {m} p' standing' made e d size l =
      let tr = swap-trades t.yard b.sound r s (ne_eqb r s (λ y. differ (sym y))) p k.apart hr hs b.beside xs home made in
      let apart : Apart (traded r s p) = rw tr.1 at (plan-apart t.yard p xs.moves k.apart tr.0) in
      let many : 0 + length (map pack xs.moves) ≡ m.crossings = omega (arith, l.counted, length-map xs.moves pack) in
      proceeds-some made (record {
        moved = e ∙ sym tr.1;
        placed = rw (e, d) (placed-traded k r s hr hs differ apart (omega arith));
        stored = record { long = size; front = λ h. rw many (l.stored (omega (arith, many, h, size))) };
        counted = omega (arith, l.counted);
        parks = omega (arith, l.parks);
        few = λ h. l.few;
      })

  -- the trial that was sought is the swap
  pub committed : {out log : List ℕ} {m : Tally} (p' standing' : List ℕ) → p' ≡ traded r s p → standing' ≡ standing_traded r s p standing → length log ≡ length out
      → Attempts (swap t.yard r s p) log (Some m) → Proceeds (swap t.yard r s p) n p out nothing p' standing' empty log (Some m)
  committed {m = m} p' standing' e d size a = let q = a.done m refl in traded-proceeds p' standing' q.1 e d size q.2

  pub not_found : {out log : List ℕ} → Attempts (swap t.yard r s p) log None → Proceeds (swap t.yard r s p) n p out nothing p standing empty log None
  not_found a = proceeds-none (a.fails refl) refl
