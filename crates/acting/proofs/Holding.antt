-- What is lent stays ready while actions play on it, and bays that are held show as a list: two of them, or those two and a third.
-- Assumes nothing.
use Rattle.std.specs.Prelude.{if◌then◌else◌}
use mathlib.Core.Path.{◌≡◌, refl, ◌∙◌}
use mathlib.Core.Bool.{Bool, true, false}
use mathlib.Core.List.{List, [], ◌∷◌}
use Prim.Native.Nat.{ℕ, ◌<◌}
use native.Mathlib.Omega.{arith}
use lib.Dec.{eqb}
use lib.ListN.{length}
use Rattle.paper.specs.Basics.{◌or◌, elem}
use Rattle.paper.specs.Yard.{Bay}
use Rattle.words.specs.Sets.{mem, span}
use Rattle.rings.specs.Search.{Shown}
use Rattle.moving.specs.Placed.{Placed}
use Rattle.acting.specs.Acting.{Tabled, Ready, HoldsTwo}

pub ready-again : {table p standing empty : List ℕ} → Ready table p standing empty → (p' standing' empty' : List ℕ) → length standing' ≡ length standing → length empty' ≡ length empty → Placed (length standing) p' standing' empty' → Ready table p' standing' empty'
ready-again f p' standing' empty' kw kf k = record {
  most = omega (arith, f.most);
  table_size = rw kw f.table_size;
  empty_size = omega (arith, f.empty_size);
  placed = rw kw k;
  tabled = rw kw f.tabled;
  levelled = rw kw f.levelled;
}

-- ## Held bays

-- two of them
pub pair-view : {n : ℕ} {table : List ℕ} (t : Tabled n table) (u w : Bay) (h₁ h₂ : List ℕ) → ((y : ℕ) → mem h₁ y ≡ eqb y u)
    → ((y : ℕ) → mem h₂ y ≡ mem h₁ y or eqb y w) → (b : ℕ) → mem h₂ b ≡ elem b (u ∷ w ∷ [])
unfolding ◌or◌ elem
pair-view t u w h₁ h₂ f g b = g b ∙ rw (f b) (sort (eqb b u) (eqb b w))
  where
    sort : (s t : Bool) → (s or t) ≡ (if s then true else (if t then true else false))
    sort true t = refl
    sort false true = refl
    sort false false = refl

abbrev pub pair_shown : {n : ℕ} {table : List ℕ} (t : Tabled n table) (u w : Bay) (h₁ h₂ : List ℕ) → ((y : ℕ) → mem h₁ y ≡ eqb y u)
    → ((y : ℕ) → mem h₂ y ≡ mem h₁ y or eqb y w) → Shown n table h₂
pair_shown t u w h₁ h₂ f g = record { yard = t.yard; bays = u ∷ w ∷ []; joins = t.joins; holds = λ b h. pair-view t u w h₁ h₂ f g b }

abbrev pub holds_two : {n : ℕ} {table : List ℕ} (t : Tabled n table) (v b : Bay) (h₁ h₂ : List ℕ) → ((y : ℕ) → mem h₁ y ≡ eqb y v)
    → ((y : ℕ) → mem h₂ y ≡ mem h₁ y or eqb y b) → HoldsTwo h₂
holds_two t v b h₁ h₂ f g = record { one = v; two = b; holds = λ y h. pair-view t v b h₁ h₂ f g y }

or-nested : (s t u : Bool) → (if s then true else (if t then true else false)) or u ≡ (if s then true else (if t then true else (if u then true else false)))
unfolding ◌or◌
or-nested true t u = refl
or-nested false true u = refl
or-nested false false true = refl
or-nested false false false = refl

-- and a third
pub third : (held held' : List ℕ) (h : HoldsTwo held) (x : Bay) → ((y : ℕ) → mem held' y ≡ mem held y or eqb y x)
    → (y : ℕ) → y < span → mem held' y ≡ elem y (h.one ∷ h.two ∷ x ∷ [])
unfolding elem
third held held' h x f y k = f y ∙ rw (h.holds y k) (or-nested (eqb y h.one) (eqb y h.two) (eqb y x))

abbrev pub held_shown : {n : ℕ} {table held held' : List ℕ} (t : Tabled n table) (h : HoldsTwo held) (x : Bay) → ((y : ℕ) → mem held' y ≡ mem held y or eqb y x) → Shown n table held'
held_shown {held = held} {held' = held'} t h x f = record { yard = t.yard; bays = h.one ∷ h.two ∷ x ∷ []; joins = t.joins; holds = λ y k. third held held' h x f y k }

-- the two bays alone
abbrev pub two_shown : {n : ℕ} {table held : List ℕ} (t : Tabled n table) (h : HoldsTwo held) → Shown n table held
two_shown t h = record { yard = t.yard; bays = h.one ∷ h.two ∷ []; joins = t.joins; holds = h.holds }
