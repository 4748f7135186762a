-- The cases of the code are the paper's: an empty bay, a held one, no empty bay reached, and the path to the nearest one, along which
-- carriers can be shifted since every bay before the nearest empty one is occupied.
-- Assumes nothing.
use mathlib.Core.Path.{◌≡◌, sym, ap, ◌∙◌}
use mathlib.Core.Bool.{Bool, true, false, not}
use mathlib.Core.List.{List, [], ◌∷◌}
use mathlib.Core.Option.{Option, none, some}
use Prim.Native.Nat.{ℕ, ◌≤◌, ◌<◌}
use native.Mathlib.Nat.{zero-add}
use native.Mathlib.Omega.{arith}
use lib.ListN.{length}
use borrow.Author.Tests.{not-true, not-false}
use Rattle.paper.specs.Basics.{◌and◌, elem}
use Rattle.paper.specs.Yard.{Bay, Crossing, crossing, carrier_at, is_empty, joined, rails_at}
use Rattle.paper.specs.Path.{Free, Rather, rings, ring_of, shortest_path}
use Rattle.paper.specs.Procedure.{nearest_empty, shift, vacate}
use Rattle.paper.proofs.Tests.{never-some, not-both, and_left, and_right, and_both}
use Rattle.paper.proofs.Members.{count-high, in_count}
use Rattle.paper.proofs.Shortest.{inward-head}
use Rattle.paper.proofs.Vacating.{path-shiftable, path-free}
use Rattle.words.specs.Sets.{mem, mem_row, span}
use Rattle.choice.specs.Taking.{Taken}
use Rattle.choice.proofs.Taking.{rather-paper}
use Rattle.rings.specs.Search.{Shown}
use Rattle.rings.specs.Ways.{WayFound}
use Rattle.rings.specs.Way.{Way}
use Rattle.moving.specs.Placed.{Placed, Played, Acted, CanShift}
use Rattle.vacate.specs.Answer.{Vacates, vacating, bay_filled, count_after, filled}
use Rattle.vacate.specs.declared.Vacated.{Vacated}
use Rattle.vacate.specs.declared.Vacated.TheVariants.{Empty, Failed}
use Rattle.moving.proofs.Playing.{played-none, unchanged}
use Rattle.moving.proofs.Shifting.{shift-length, shift-some, two-bays}
use Rattle.vacate.proofs.Beside.{beside-nearest, beside-path}

-- the way that was found, by what was answered
pub way-told : {n : ℕ} {table held : List ℕ} {s : Shown n table held} {x : Bay} {q : Bay → Bool} {room : List ℕ} {r r' : Way} → r ≡ r' → WayFound s x q room r → WayFound s x q room r'
way-told e f = rw e at f

acted-none : {o : Option (List Crossing)} {n : ℕ} {p standing empty out : List ℕ} → o ≡ none → Acted o n p standing empty out p standing empty out
acted-none {p = p} {standing = standing} {empty = empty} {out = out} e = record {
  fails = λ d. unchanged p standing empty out;
  plays = λ xs d. never-some xs (sym e ∙ d);
}

acted-some : {o : Option (List Crossing)} {n : ℕ} {p standing empty out p' standing' empty' out' : List ℕ} {xs : List Crossing} {r : ℕ}
    → o ≡ some xs → Played xs n p p' standing' empty' out 0 out' r → Acted o n p standing empty out p' standing' empty' out'
acted-some {xs = xs} {r = r} e w = record {
  fails = λ d. never-some xs (sym d ∙ e);
  plays = λ ys d.
      let same : xs ≡ ys = let z = sym e ∙ d in cc in
      let many : r ≡ length xs = omega (arith, w.counted) in
      rw same at (rw many at w);
}

module _ {n : ℕ} {table held : List ℕ} (s : Shown n table held) (most : n ≤ span) (x : Bay) (hx : x < n) {p standing empty : List ℕ} (k : Placed n p standing empty) (out : List ℕ) where
  -- x is empty
  pub vacates-empty : true ≡ mem empty x → Vacates s x p standing empty out p standing empty out Empty
  unfolding vacate
  vacates-empty h =
      let e : is_empty p x ≡ true = sym (k.empties x hx) ∙ sym h in
      let o : vacating s x p standing empty out ≡ some [] = rw e in
      record {
        counts = rw e (ap some (omega arith));
        fills = rw e;
        acted = acted-some o (played-none n p standing empty out 0 k);
        still = λ d. unchanged p standing empty out;
        short = λ xs d. let same : [] ≡ xs = let z = sym o ∙ d in cc in rw (← same) (omega arith);
        some_moved = λ e f. never-some e f;
      }

  -- nothing can be done
  vacates-failed : vacating s x p standing empty out ≡ none → bay_filled s.yard s.bays x p ≡ none → Vacates s x p standing empty out p standing empty out Failed
  vacates-failed o f = record {
    counts = rw o;
    fills = sym f;
    acted = acted-none o;
    still = λ d. unchanged p standing empty out;
    short = λ xs d. never-some xs (sym o ∙ d);
    some_moved = λ e f. never-some e f;
  }

  module _ (full : false ≡ mem empty x) where
    full-x : is_empty p x ≡ false
    full-x = sym (k.empties x hx) ∙ sym full

    -- x is held
    pub vacates-held : true ≡ mem held x → Vacates s x p standing empty out p standing empty out Failed
    unfolding vacate
    vacates-held h =
        let e : elem x s.bays ≡ true = sym (s.holds x (omega arith)) ∙ sym h in
        vacates-failed (rw (full-x, e)) (rw (full-x, e))

    module _ (unheld : false ≡ mem held x) where
      out-x : elem x s.bays ≡ false
      out-x = sym (s.holds x (omega arith)) ∙ sym unheld

      -- The choice among the empty bays beside x that are not held is the nearest, and one rail leads there.
      module _ (e : Bay) (low : Taken table (λ b. mem_row table x b and (mem empty b and not (mem held b))) e) (there : e < span) where
        taken : mem_row table x e and (mem empty e and not (mem held e)) ≡ true
        taken = low.hit there

        pub rail-e : joined s.yard x e ≡ true
        rail-e = sym (s.joins.same x e hx there) ∙ and_left _ _ taken

        pub inside-e : e < n
        inside-e = (s.joins.inside x e rail-e).1

        pub empty-e : elem e p ≡ false
        empty-e = not-true (elem e p) (sym (k.empties e inside-e) ∙ and_left _ _ (and_right _ _ taken))

        pub full-in : elem x p ≡ true
        full-in = not-false (elem x p) full-x

        free_of : (b : Bay) → b < n → elem b s.bays ≡ false → Free s.yard s.bays b
        free_of b h o = (in_count 0 s.yard.bays b (omega arith) (rw s.joins.bays (omega arith)), o)

        free-e : Free s.yard s.bays e
        free-e = free_of e inside-e (sym (s.holds e there) ∙ not-true (mem held e) (and_right _ _ (and_right _ _ taken)))

        rather-e : (b : Bay) → joined s.yard x b ≡ true → Free s.yard s.bays b → elem b p ≡ false → Rather (rails_at s.yard) e b
        rather-e b j f o =
            let h : b < n = (s.joins.inside x b j).1 in
            let railed : mem_row table x b ≡ true = s.joins.same x b hx (omega arith) ∙ j in
            let unheld-b : not (mem held b) ≡ true = ap not (s.holds b (omega arith) ∙ f.1) in
            let passes = and_both (mem_row table x b) (mem empty b and not (mem held b)) railed (and_both (mem empty b) (not (mem held b)) (k.empties b h ∙ ap not o) unheld-b) in
            rather-paper s.joins most e b inside-e h (low.before there b (omega arith) passes)

        pub nearest-beside : some e ≡ nearest_empty s.yard s.bays p x
        nearest-beside = sym (beside-nearest s.yard s.bays x p e (free_of x hx out-x) full-in rail-e free-e empty-e rather-e)

        pub path-beside : x ∷ e ∷ [] ≡ shortest_path s.yard s.bays x e
        path-beside = beside-path s.yard s.bays x p e (free_of x hx out-x) full-in rail-e free-e empty-e

      -- no empty bay is reached
      pub vacates-none : none ≡ nearest_empty s.yard s.bays p x → Vacates s x p standing empty out p standing empty out Failed
      unfolding vacate
      vacates-none h = vacates-failed (rw (full-x, out-x, ← h)) (rw (full-x, out-x, ← h))

      module _ (e : Bay) (found : some e ≡ nearest_empty s.yard s.bays p x) (path : List ℕ) (shortest : path ≡ shortest_path s.yard s.bays x e) where
        free-x : Free s.yard s.bays x
        free-x = (in_count 0 s.yard.bays x (omega arith) (rw s.joins.bays (omega arith)), out-x)

        pub can_shift : CanShift n p path
        can_shift = rw shortest (record {
          yard = s.yard;
          apart = k.apart;
          shiftable = path-shiftable s.yard s.bays p k.apart x e free-x (sym found);
          within = λ b i.
              let f = path-free s.yard s.bays p k.apart x e free-x (sym found) b i in
              rw s.joins.bays at (rw zero-add at (count-high 0 s.yard.bays b f.0));
        })

        -- the carriers on the path were shifted
        pub vacates-filled : (p' standing' empty' out' : List ℕ) (r : Vacated) (m : ℕ) → count_after r ≡ some m → filled r ≡ some e → length path ≤ n
            → Played (shift p path) n p p' standing' empty' out 0 out' m → Vacates s x p standing empty out p' standing' empty' out' r
        unfolding vacate
        vacates-filled p' standing' empty' out' r m c f short w =
            let o : vacating s x p standing empty out ≡ some (shift p path) = rw (full-x, out-x, ← found, ← shortest) in
            let starts = inward-head s.yard (rings s.yard s.bays e) (ring_of s.yard x (rings s.yard s.bays e)) x in
            let far : shortest_path s.yard s.bays x e ≡ x ∷ starts.0 = unfold shortest_path in starts.1 in
            let two : 2 ≤ length path =
            rw shortest (two-bays s.yard p k.apart x _ starts.0 far (not-false (elem x p) full-x) (path-shiftable s.yard s.bays p k.apart x e free-x (sym found))) in
            record {
              counts = let many : m ≡ length (shift p path) = omega (arith, w.counted) in c ∙ rw o (ap some many);
              fills = f ∙ rw (full-x, out-x) found;
              acted = acted-some o w;
              still = λ d. never-some e (sym d ∙ f);
              short = λ xs d.
                  let same : shift p path ≡ xs = let z = sym o ∙ d in cc in
                  rw (← same) (omega (arith, shift-length p path));
              some_moved = λ d g xs h.
                  let same : shift p path ≡ xs = let z = sym o ∙ h in cc in
                  rw (← same) (shift-some p path two);
            }

      -- the carrier at x crossed to the bay beside it
      pub vacates-beside : (e : Bay) (low : Taken table (λ b. mem_row table x b and (mem empty b and not (mem held b))) e) (there : e < span)
          (p' standing' empty' out' : List ℕ) (r : Vacated) (m : ℕ) → count_after r ≡ some m → filled r ≡ some e
          → Played (crossing (carrier_at p x) x e ∷ []) n p p' standing' empty' out 0 out' m → Vacates s x p standing empty out p' standing' empty' out' r
      unfolding shift
      vacates-beside e low there p' standing' empty' out' r m c f w =
          let ex = inside-e e low there in
          let other : x ≡ e → ⊥ = λ q. not-both (rw q at (full-in e low there)) (empty-e e low there) in
          vacates-filled e (nearest-beside e low there) (x ∷ e ∷ []) (path-beside e low there) p' standing' empty' out' r m c f (omega (arith, ex, hx, other)) w
