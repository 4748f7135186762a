-- What each way out of reading a map says: 14, too little room, or all of it written.
use mathlib.Core.Path.{◌≡◌, refl}
use mathlib.Core.Bool.{true, false}
use mathlib.Core.List.{List}
use Prim.Native.Nat.{ℕ, ◌+◌, ◌≤◌, ◌<◌}
use native.Mathlib.Omega.{arith}
use lib.Dec.{ltb}
use lib.ListN.{length}
use borrow.Author.Tests.{lt-ltb, le-ltb}
use Rattle.paper.specs.Docket.{room, bad_map, Verdict, granted, denied}
use Rattle.paper.specs.Text.{Read, bad_line}
use Rattle.paper.specs.Map.{Grid}
use Rattle.stores.specs.Writing.{Wrote}
use Rattle.laying.specs.Laying.{Laid, laid, laying, MapSays}

module _ (n : ℕ) (ends before : List ℕ) (needed : ℕ) (counted : needed ≡ 0 + length ends) where
  pub lay-short : length before < needed → MapSays (laid n ends) before (denied (room needed)) 0 before
  lay-short h =
      let e : needed ≡ length ends = omega arith in
      let q : ltb (length before) (length ends) ≡ true = lt-ltb (length before) (length ends) (omega arith) in
      record { answers = rw (q, e); bays_then = rw q; leaves = rw q }

  pub lay-fits : needed ≤ length before → (after : List ℕ) (written : ℕ) → Wrote before 0 ends after written → MapSays (laid n ends) before (granted written) n after
  lay-fits h after written w =
      let e : written ≡ length ends = omega (arith, w.counted) in
      let q : ltb (length before) (length ends) ≡ false = le-ltb (length before) (length ends) (omega arith) in
      record { answers = rw (q, e); bays_then = rw q; leaves = rw q w.left }

pub lay-bad : {M : Read Grid} (l : ℕ) (before : List ℕ) → M ≡ bad_line l → MapSays (laying M) before (denied (bad_map l)) 0 before
lay-bad l before e = rw e (record { answers = refl; bays_then = refl; leaves = refl })

pub lay-as : {x y : Laid} {before after : List ℕ} {v : Verdict} {bays : ℕ} → x ≡ y → MapSays y before v bays after → MapSays x before v bays after
lay-as e h = rw e h
