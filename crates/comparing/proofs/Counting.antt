-- One pass that counts: what stands counted, with what the rest gives, is the whole; and no carrier number above 253 has been passed.
use Rattle.std.specs.Prelude.{if◌then◌else◌}
use mathlib.Core.Path.{◌≡◌, refl, sym, ◌∙◌, ap}
use mathlib.Core.Bool.{true, false}
use mathlib.Core.List.{List, [], ◌∷◌}
use mathlib.Core.Option.{none, some}
use Prim.Native.Nat.{ℕ, suc, ◌≤◌, ◌<◌, ◌+◌}
use native.Mathlib.Omega.{arith}
use native.Mathlib.Numerals.{add-one}
use borrow.Author.Tests.{eq-eqb, ne_eqb, eqb-true, eqb-false, le-leb, lt-leb}
use lib.Dec.{eqb, leb}
use lib.ListN.{length, get_or, drop, set, replicate, length-set, length-replicate, get_or-replicate, drop_of_length-le}
use lib.Seq.{drop-cons, get_or-set_same, get_or-set_other}
use Rattle.lists.proofs.Lists.{low_zeros, low-set}
use Rattle.paper.specs.Basics.{find}
use Rattle.paper.specs.Limits.{most_carriers}
use Rattle.paper.specs.Yard.{Carrier, crossings}
use Rattle.paper.specs.Dependence.{count_of}
use Rattle.paper.proofs.Tests.{by_cases}
use Rattle.comparing.specs.Comparing.{carrier_of, first_above}
use Rattle.comparing.specs.Statements.{Counts}

pub record Counting (list counts : List ℕ) (i : ℕ) : Type 0 where
  pub long : length counts ≡ most_carriers
  pub low : (c : Carrier) → get_or counts c 0 ≤ i
  pub whole : (c : Carrier) → c < most_carriers → get_or counts c 0 + count_of c (crossings (drop i list)) ≡ count_of c (crossings list)
  pub above : first_above list ≡ first_above (drop i list)

pub counting-start : (list : List ℕ) → Counting list (replicate most_carriers 0) 0
counting-start list = record {
  long = length-replicate {A = ℕ} most_carriers 0;
  low = low_zeros most_carriers;
  whole = λ c h. let z = get_or-replicate {A = ℕ} most_carriers c 0 0 h in omega arith;
  above = refl;
}

count-cons : (c w : ℕ) (list : List ℕ) → count_of c (crossings (w ∷ list)) ≡ (if eqb (carrier_of w) c then suc (count_of c (crossings list)) else count_of c (crossings list))
unfolding count_of
count-cons c w list = refl

module _ (list counts : List ℕ) (i : ℕ) (k : Counting list counts i) where
  module _ (more : i < length list) where
    rest : drop i list ≡ get_or list i 0 ∷ drop (i + 1) list
    rest = rw (add-one, drop-cons list i 0)

    pub counting-stops : (c : Carrier) → c ≡ carrier_of (get_or list i 0) → most_carriers ≤ c → some c ≡ first_above list
    unfolding find
    counting-stops c is h =
        let t : leb most_carriers (carrier_of (get_or list i 0)) ≡ true = rw (← is) (le-leb most_carriers c h) in
        sym (k.above ∙ ap first_above rest ∙ rw t (ap some (sym is)))

    pub counting-on : (c : Carrier) → c ≡ carrier_of (get_or list i 0) → c < most_carriers → Counting list (set counts c (get_or counts c 0 + 1)) (i + 1)
    unfolding find
    counting-on c is h =
        let t : leb most_carriers (carrier_of (get_or list i 0)) ≡ false = rw (← is) (lt-leb most_carriers c h) in
        let inside : c < length counts = rw k.long h in
        let put = get_or counts c 0 + 1 in
        record {
          long = length-set counts c put ∙ k.long;
          low = let l = k.low c in low-set counts c put i (i + 1) k.low (omega arith) (omega arith);
          whole = λ d b.
              let w = k.whole d b in
              let r = ap (λ l. count_of d (crossings l)) rest ∙ count-cons d (get_or list i 0) (drop (i + 1) list) in
              by_cases (eqb d c)
              (λ z.
              let same = eqb-true d c z in
              let g : get_or (set counts c put) d 0 ≡ get_or counts d 0 + 1 = rw same (get_or-set_same counts c put 0 inside) in
              let r' : count_of d (crossings (drop i list)) ≡ suc (count_of d (crossings (drop (i + 1) list))) = r ∙ rw (eq-eqb (carrier_of (get_or list i 0)) d (sym is ∙ sym same)) in
              omega (arith, g, r', w))
              (λ z.
              let other = eqb-false d c z in
              let g = get_or-set_other counts c d put 0 other in
              let r' : count_of d (crossings (drop i list)) ≡ count_of d (crossings (drop (i + 1) list)) = r ∙ rw (ne_eqb (carrier_of (get_or list i 0)) d (λ q. other (sym (is ∙ q)))) in
              omega (arith, g, r', w));
          above = k.above ∙ ap first_above rest ∙ rw t;
        }

  module _ (ends : length list ≤ i) where
    nothing : drop i list ≡ []
    nothing = drop_of_length-le list ends

    pub counting-none : none ≡ first_above list
    unfolding find
    counting-none = sym (k.above ∙ ap first_above nothing)

    pub counting-all : Counts list counts
    unfolding count_of
    counting-all c h = let r = ap (λ l. count_of c (crossings l)) nothing in let w = k.whole c h in omega arith
