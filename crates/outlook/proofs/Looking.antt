-- Around each side of a junction the bays seen grow by all that rails join to the last ring. Where there is no further ring, and none of them is free,
-- they are shut. What is not shut holds all that the empty bays and the two carriers reach.
-- Assumes nothing.
use mathlib.Core.Path.{◌≡◌, refl, sym, ◌∙◌, ap}
use mathlib.Core.Bool.{true, false, not}
use mathlib.Core.List.{List}
use Prim.Native.Nat.{ℕ, ◌*◌, ◌+◌, ◌≤◌, ◌<◌}
use native.Mathlib.Omega.{arith}
use lib.Dec.{eqb, ltb}
use lib.ListN.{length}
use borrow.Author.Tests.{eqb-true, eqb-false, eq-eqb, ne_eqb, not-true, ltb-true, ltb-false}
use Rattle.paper.specs.Basics.{◌and◌, ◌or◌}
use Rattle.paper.specs.Yard.{Bay, joined}
use Rattle.paper.proofs.Members.{count-high}
use Rattle.paper.proofs.Rings.{joined-sym}
use Rattle.paper.proofs.Tests.{by_cases, not-both, and_left, and_right, and_both, or_left, or_right, or_cases}
use Rattle.words.specs.Sets.{mem, mem_row, words, span, any_below, reaches, Lowest, Kept}
use Rattle.words.proofs.Besides.{any_below-some, any_below-of}
use Rattle.words.proofs.Sets.{zeros, row_zero, mem-zeros}
use Rattle.rings.specs.Widening.{Widened}
use Rattle.outlook.specs.Outlook.{SeenBeside, AtMostTwo, Shut, Charted, OutlookSays}

-- ## At most two

-- three that are all one of two are not different
two-of : (table seen : List ℕ) (v a b : Bay) → ((i : Bay) → SeenBeside table seen v i → (i ≡ a → ⊥) → i ≡ b) → AtMostTwo table seen v
two-of table seen v a b f x y z xy xz yz hx hy hz =
    by_cases (eqb x a)
    (λ e. let q = eqb-true x a e in yz (f y hy (λ k. xy (q ∙ sym k)) ∙ sym (f z hz (λ k. xz (q ∙ sym k)))))
    (λ e. let q = f x hx (eqb-false x a e) in
    by_cases (eqb y a)
    (λ d. let k = eqb-true y a d in xz (q ∙ sym (f z hz (λ l. yz (k ∙ sym l)))))
    (λ d. xy (q ∙ sym (f y hy (eqb-false y a d)))))

module _ (table seen near : List ℕ) (v : Bay) (f : (b : ℕ) → b < span → mem near b ≡ mem (zeros words) b or mem_row table v b) where
  is-near : (i : Bay) → SeenBeside table seen v i → mem_row near 0 i and mem_row seen 0 i ≡ true
  is-near i h = and_both _ _ (row_zero near i ∙ f i h.low ∙ or_right _ _ h.joins) (row_zero seen i ∙ h.is_seen)

  -- none is found
  pub none_found : (x : ℕ) → Lowest (λ b. mem_row near 0 b and mem_row seen 0 b) 0 span x → span ≤ x → AtMostTwo table seen v
  none_found x l h = two-of table seen v 0 0 (λ i s n. not-both (is-near i s) (l.before i (omega arith) (omega (arith, s.low))))

  module _ (x : ℕ) (fewer : List ℕ) (g : (b : ℕ) → mem fewer b ≡ mem near b and not (eqb b x)) where
    is-fewer : (i : Bay) → SeenBeside table seen v i → (i ≡ x → ⊥) → mem_row fewer 0 i and mem_row seen 0 i ≡ true
    is-fewer i h n =
        let other : not (eqb i x) ≡ true = ap not (ne_eqb i x n) in
        and_both _ _ (row_zero fewer i ∙ g i ∙ and_both _ _ (sym (row_zero near i) ∙ and_left _ _ (is-near i h)) other) (row_zero seen i ∙ h.is_seen)

    -- only one is found
    pub one_found : (y : ℕ) → Lowest (λ b. mem_row fewer 0 b and mem_row seen 0 b) 0 span y → span ≤ y → AtMostTwo table seen v
    one_found y l h = two-of table seen v x x (λ i s n. not-both (is-fewer i s n) (l.before i (omega arith) (omega (arith, s.low))))

    -- only two are found
    pub two-found : (y : ℕ) (last : List ℕ) → ((b : ℕ) → mem last b ≡ mem fewer b and not (eqb b y))
        → any_below (λ b. mem_row last 0 b and mem_row seen 0 b) span ≡ false → AtMostTwo table seen v
    two-found y last k a =
        two-of table seen v x y (λ i s n.
        by_cases (eqb i y)
        (λ e. eqb-true i y e)
        (λ e.
        let there = is-fewer i s n in
        let left : mem last i ≡ true = k i ∙ and_both _ _ (sym (row_zero fewer i) ∙ and_left _ _ there) (ap not e) in
        not-both (any_below-of _ span i s.low (and_both _ _ (row_zero last i ∙ left) (and_right _ _ there))) a))

-- ## A side, ring by ring

-- what is seen around a side, and of it the last ring: it is closed but for that ring, and none of the rings before is free
pub record Looking (n : ℕ) (v : Bay) (table free seen ring : List ℕ) : Type 0 where
  pub holds : mem seen v ≡ true
  pub closed : (a b : ℕ) → a < span → b < span → mem seen a ≡ true → (a ≡ v → ⊥) → mem ring a ≡ false → mem_row table a b ≡ true → mem seen b ≡ true
  pub none_free : (b : ℕ) → b < span → mem seen b ≡ true → (b ≡ v → ⊥) → mem ring b ≡ false → mem free b ≡ false

-- the ring's bays are in the yard
pub record Inside (n : ℕ) (ring : List ℕ) : Type 0 where
  pub low : (b : ℕ) → b < span → mem ring b ≡ true → b < n

pub rows : {n : ℕ} (table : List ℕ) {ring : List ℕ} → n * words ≤ length table → Inside n ring → (b : ℕ) → b < span → mem ring b ≡ true → b * words + words ≤ length table
rows table size l b h m = let k = l.low b h m in omega arith

pub inside-first : (n : ℕ) (x : Bay) (ring : List ℕ) → x < n → ((y : ℕ) → mem ring y ≡ eqb y x) → Inside n ring
inside-first n x ring h f = record { low = λ b l m. rw (eqb-true b x (sym (f b) ∙ m)) h }

pub inside-more : {n : ℕ} {table seen ring seen' ring' : List ℕ} → Charted n table → Inside n ring → Widened table seen ring seen' ring' → Inside n ring'
inside-more {table = table} {ring = ring} t l d = record {
  low = λ b h m.
      let r = any_below-some (reaches table ring b) span (and_left _ _ (sym (d.ringed b h) ∙ m)) in
      let a = r.0 in
      let ha = l.low a r.1 (and_left _ _ r.2) in
      (t.joins.inside a b (sym (t.joins.same a b ha h) ∙ and_right _ _ r.2)).1;
}

module _ {n : ℕ} {v : Bay} {table free : List ℕ} where
  -- at first what is shut, and x, which is the ring
  pub look-first : (x : Bay) (shut zero first seen ring : List ℕ) → v < span → Shut v table free shut → Kept zero 0 shut first
      → ((y : ℕ) → mem seen y ≡ mem first y or eqb y x) → ((y : ℕ) → mem ring y ≡ eqb y x) → Looking n v table free seen ring
  look-first x shut zero first seen ring hv s k f g =
      let same : (b : ℕ) → b < span → mem first b ≡ mem shut b = λ b h. sym (row_zero first b) ∙ k.row b h in
      let was : (b : ℕ) → b < span → mem seen b ≡ true → mem ring b ≡ false → mem shut b ≡ true =
      λ b h m nr. sym (same b h) ∙ or_cases (mem first b) (eqb b x) (sym (f b) ∙ m) (λ i. i) (λ i. not-both (g b ∙ i) nr) in
      record {
        holds = f v ∙ or_left _ _ (same v hv ∙ s.holds);
        closed = λ a b ha hb m na nr j. f b ∙ or_left _ _ (same b hb ∙ s.closed a b ha hb (was a ha m nr) na j);
        none_free = λ b h m nb nr. s.none_free b h (was b h m nr) nb;
      }

  -- no bay of the last ring is free: one ring more
  pub look-more : {seen ring seen' ring' : List ℕ} → v < span → Looking n v table free seen ring
      → any_below (λ b. mem_row ring 0 b and mem_row free 0 b) span ≡ false → Widened table seen ring seen' ring' → Looking n v table free seen' ring'
  look-more {seen} {ring} {seen'} {ring'} hv l none d =
      let grows : (b : ℕ) → b < span → mem seen b ≡ true → mem seen' b ≡ true = λ b h m. d.all_seen b h ∙ or_left _ _ m in
      let was : (b : ℕ) → b < span → mem seen' b ≡ true → mem ring' b ≡ false → mem seen b ≡ true =
      λ b h m nr. or_cases (mem seen b) (mem ring' b) (sym (d.all_seen b h) ∙ m) (λ i. i) (λ i. not-both i nr) in
      record {
        holds = grows v hv l.holds;
        closed = λ a b ha hb m na nr j.
            by_cases (mem ring a)
            (λ i. by_cases (mem seen b)
            (λ k. grows b hb k)
            (λ k. d.all_seen b hb ∙ or_right _ _ (d.ringed b hb ∙ and_both _ _ (any_below-of (reaches table ring b) span a ha (and_both _ _ i j)) (ap not k))))
            (λ i. grows b hb (l.closed a b ha hb (was a ha m nr) na i j));
        none_free = λ b h m nb nr.
            by_cases (mem ring b)
            (λ i. by_cases (mem free b)
            (λ o. not-both (any_below-of (λ b. mem_row ring 0 b and mem_row free 0 b) span b h (and_both _ _ (row_zero ring b ∙ i) (row_zero free b ∙ o))) none)
            (λ o. o))
            (λ i. l.none_free b h (was b h m nr) nb i);
      }

  -- there is no further ring: all that was seen is shut
  pub look-last : {seen ring shut shut' : List ℕ} → v < span → Looking n v table free seen ring → not (any_below (mem ring) span) ≡ true
      → Kept shut 0 seen shut' → Shut v table free shut'
  look-last {seen} {ring} {shut} {shut'} hv l e k =
      let same : (b : ℕ) → b < span → mem shut' b ≡ mem seen b = λ b h. sym (row_zero shut' b) ∙ k.row b h in
      let over : (b : ℕ) → b < span → mem ring b ≡ false =
      λ b h. by_cases (mem ring b) (λ m. not-both (any_below-of (mem ring) span b h m) (not-true (any_below (mem ring) span) e)) (λ m. m) in
      record {
        holds = same v hv ∙ l.holds;
        closed = λ a b ha hb m na j. same b hb ∙ l.closed a b ha hb (sym (same a ha) ∙ m) na (over a ha) j;
        none_free = λ b h m nb. l.none_free b h (sym (same b h) ∙ m) nb (over b h);
      }

-- ## All sides

-- the sides are bays of the yard
pub side-inside : (n : ℕ) (v x : Bay) (table sides : List ℕ) → Charted n table → v < n → ((b : ℕ) → b < span → mem sides b ≡ mem (zeros words) b or mem_row table v b)
    → x < span → mem sides x ≡ true → x < n
side-inside n v x table sides t hv f h m =
    or_cases (mem (zeros words) x) (mem_row table v x) (sym (f x h) ∙ m)
    (λ i. not-both i (mem-zeros words x))
    (λ i. (t.joins.inside v x (sym (t.joins.same v x hv h) ∙ i)).1)

-- v alone is shut at first
pub shut-first : {v : Bay} {table free shut : List ℕ} → ((y : ℕ) → mem shut y ≡ eqb y v) → Shut v table free shut
shut-first {v} {table} {free} {shut} f =
    let only : (b : ℕ) → mem shut b ≡ true → b ≡ v = λ b m. eqb-true b v (sym (f b) ∙ m) in
    record {
      holds = f v ∙ eq-eqb v v refl;
      closed = λ a b ha hb m na j. absurd (na (only a m));
      none_free = λ b h m nb. absurd (nb (only b m));
    }

-- the empty bays and the two are free
pub record Free (n : ℕ) (u w : Bay) (empty free : List ℕ) : Type 0 where
  pub empties : (b : ℕ) → b < n → mem empty b ≡ true → mem free b ≡ true
  pub first : mem free u ≡ true
  pub second : mem free w ≡ true

pub free-first : (n : ℕ) (u w : Bay) (empty zero start with-u free : List ℕ) → n ≤ span → Kept zero 0 empty start
    → ((y : ℕ) → mem with-u y ≡ mem start y or eqb y u) → ((y : ℕ) → mem free y ≡ mem with-u y or eqb y w) → Free n u w empty free
free-first n u w empty zero start with-u free most k fu fw = record {
  empties = λ b h m. fw b ∙ or_left _ _ (fu b ∙ or_left _ _ (sym (row_zero start b) ∙ k.row b (omega arith) ∙ m));
  first = fw u ∙ or_left _ _ (fu u ∙ or_right _ _ (eq-eqb u u refl));
  second = fw w ∙ or_right _ _ (eq-eqb w w refl);
}

-- no three of v's sides are left when those that are shut have gone
pub blocked-by : (n : ℕ) (v u w : Bay) (table empty free shut sides left zero : List ℕ) → n ≤ span → u < n → w < n → Free n u w empty free
    → Shut v table free shut → ((b : ℕ) → b < span → mem sides b ≡ mem zero b or mem_row table v b)
    → ((b : ℕ) → mem left b ≡ mem sides b and not (mem shut b)) → AtMostTwo table left v → OutlookSays n v u w table empty
blocked-by n v u w table empty free shut sides left zero most hu hw o s fs fl few Y joins p same =
    let not-shut : (b : ℕ) → b < span → mem free b ≡ true → (b ≡ v → ⊥) → not (mem shut b) ≡ true =
    λ b h m nb. by_cases (mem shut b) (λ i. not-both m (s.none_free b h i nb)) (λ i. ap not i) in
    record {
      reached = λ b. not (mem shut b);
      empties = λ b i out nv.
          let z = count-high 0 Y.bays b i in
          let h : b < n = omega (arith, joins.bays) in
          not-shut b (omega arith) (o.empties b h (same b h ∙ ap not out)) nv;
      first = λ nv. not-shut u (omega arith) o.first nv;
      second = λ nv. not-shut w (omega arith) o.second nv;
      closed = λ a b m j nv.
          let k = joins.inside a b j in
          let ha : a < span = omega (arith, k.0) in
          let hb : b < span = omega (arith, k.1) in
          by_cases (mem shut b)
          (λ i. not-both (s.closed b a hb ha i nv (joins.same b a k.1 ha ∙ joined-sym Y a b j)) (not-true (mem shut a) m))
          (λ i. ap not i);
      few = λ x y z xy xz yz jx jy jz rx ry rz.
          let beside : (b : ℕ) → joined Y v b ≡ true → not (mem shut b) ≡ true → SeenBeside table left v b =
          λ b j m.
          let k = joins.inside v b j in
          let hb : b < span = omega (arith, k.1) in
          let there = joins.same v b k.0 hb ∙ j in
          record { low = hb; joins = there; is_seen = fl b ∙ and_both _ _ (fs b hb ∙ or_right _ _ there) m } in
          few x y z xy xz yz (beside x jx rx) (beside y jy ry) (beside z jz rz);
    }
