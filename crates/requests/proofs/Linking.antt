-- A piece of the serial link is refused exactly by the first of 17 and 18 that applies, and taken exactly if neither does.
use mathlib.Core.Path.{◌≡◌, refl, ap}
use mathlib.Core.Bool.{Bool, true, false, not}
use mathlib.Core.List.{List}
use mathlib.Core.Logic.{◌↔◌}
use mathlib.Core.Option.{Option, none, some}
use Prim.Native.Nat.{ℕ, ◌<◌}
use lib.Dec.{leb}
use lib.ListN.{length}
use borrow.Author.Tests.{not-true, leb-false, lt-leb, eqb-false, ne_eqb}
use Rattle.paper.specs.Basics.{or_else, when, elem, ◌and◌}
use Rattle.paper.specs.Yard.{Bay}
use Rattle.paper.specs.Docket.{Refusal, bad_scenario, ended, long_piece, number, carried, denied}
use Rattle.paper.specs.Text.{Text, Read, good, bad_line}
use Rattle.paper.proofs.Tests.{never}
use Rattle.paper.proofs.Determined.{docket-tells}
use Rattle.exactly.specs.First.{NoneOf, Given, distinct}
use Rattle.exactly.proofs.First.{after-it, exactly, nothing-exactly, plain-test}
use Rattle.exactly.proofs.Six.{Refuses}
use Rattle.link.specs.declared.Link.{Link}
use Rattle.link.specs.Link.{piece_bytes, more, told, is_open, piece_saying, end_saying}
use Rattle.requests.specs.Rows.{piece_rows}

module _ (l : Link) (bytes : Text) where
  abbrev short : Bool
  short = leb (length bytes) piece_bytes

  abbrev tests : Option Refusal
  tests = or_else (when (not (is_open l)) ended) (when (not short) long_piece)

  piece-reads : Refuses tests (piece_rows l bytes)
  piece-reads =
      after-it number carried
      (plain-test number carried (l.phase ≡ 1 → ⊥) (not (is_open l)) ended (docket-tells ended) refl
      (λ h. eqb-false _ _ (not-true _ h), λ f. ap not (ne_eqb _ _ f))) (λ _.
      plain-test number carried (piece_bytes < length bytes) (not short) long_piece (docket-tells long_piece) refl
      (λ h. leb-false _ _ (not-true _ h), λ f. ap not (lt-leb _ _ f)))

  saying : (running short : Bool) (r : Refusal) → (piece_saying running short ≡ told (denied r)) ↔ (or_else (when (not running) ended) (when (not short) long_piece) ≡ some r)
  saying false short r = (λ h. let z : ended ≡ r = cc in ap some z, λ h. let z : ended ≡ r = cc in ap (λ q. told (denied q)) z)
  saying true false r = (λ h. let z : long_piece ≡ r = cc in ap some z, λ h. let z : long_piece ≡ r = cc in ap (λ q. told (denied q)) z)
  saying true true r = (λ h. never (cc), λ h. never (cc))

  taking : (running short : Bool) → (piece_saying running short ≡ more) ↔ (or_else (when (not running) ended) (when (not short) long_piece) ≡ none)
  taking false short = (λ h. never (cc), λ h. never (cc))
  taking true false = (λ h. never (cc), λ h. never (cc))
  taking true true = (λ h. refl, λ h. refl)

  pub piece-refused : (r : Refusal) → (piece_saying (is_open l) short ≡ told (denied r)) ↔ Given (piece_rows l bytes) (number r) (carried r)
  unfolding distinct elem ◌and◌
  piece-refused r =
      let e = exactly number carried piece-reads refl r in
      let f = saying (is_open l) short r in
      (λ h. e.0 (f.0 h), λ g. f.1 (e.1 g))

  pub piece-taken : (piece_saying (is_open l) short ≡ more) ↔ NoneOf (piece_rows l bytes)
  piece-taken =
      let e = nothing-exactly number carried piece-reads in
      let f = taking (is_open l) short in
      (λ h. e.0 (f.0 h), λ g. f.1 (e.1 g))

-- The end of the link: 17, then 15 with the first bad line.
pub end-17 : (r : Read (List (Bay × Bay))) (running : Bool) → (end_saying running r ≡ told (denied ended)) ↔ (running ≡ false)
end-17 r false = (λ h. refl, λ h. refl)
end-17 (good cs) true = (λ h. never (cc), λ h. never (cc))
end-17 (bad_line n) true = (λ h. never (cc), λ h. never (cc))

pub end-15 : (r : Read (List (Bay × Bay))) (running : Bool) (n : ℕ) → (end_saying running r ≡ told (denied (bad_scenario n))) ↔ ((running ≡ true) × (r ≡ bad_line n))
end-15 r false n = (λ h. never (cc), λ h. let q = h.0 in never (cc))
end-15 (good cs) true n = (λ h. never (cc), λ h. let q = h.1 in never (cc))
end-15 (bad_line k) true n = (λ h. let z : k ≡ n = cc in (refl, ap bad_line z), λ h. let z : k ≡ n = let q = h.1 in cc in ap (λ j. told (denied (bad_scenario j))) z)
