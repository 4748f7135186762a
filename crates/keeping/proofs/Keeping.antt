-- What is kept and held does not change while the others are passed over, and a failed vacate changes nothing: so the first that can
-- be vacated is the one that the paper keeps next.
-- Assumes nothing.
use Rattle.std.proofs.Common.{None, Some}
use mathlib.Core.Path.{◌≡◌, ◌∙◌, ap, refl}
use mathlib.Core.Bool.{Bool, true, false}
use mathlib.Core.List.{List, [], ◌∷◌, ◌++◌}
use mathlib.Core.Option.{Option, none, some}
use Prim.Native.Nat.{ℕ, suc, zero, ◌≤◌, ◌<◌, ◌-◌, ◌+◌}
use native.Mathlib.Decide.{ℕ_discrete, dec_lt}
use native.Mathlib.Omega.{arith}
use lib.Dec.{leb}
use lib.ListN.{length}
use borrow.Author.Tests.{lt-leb}
use Rattle.paper.specs.Basics.{filter, count_from, Out}
use Rattle.paper.specs.Procedure.{Made, only, together, vacate, clearing_held, Cleared, following, clearing}
use Rattle.paper.specs.Yard.{Bay, Yard, Placement, after}
use Rattle.paper.proofs.Making.{together-none}
use Rattle.paper.proofs.Tests.{by_cases, not-both, never}
use Rattle.words.specs.Sets.{mem, span, Lowest}
use Rattle.moving.specs.Placed.{Placed, Unchanged}
use Rattle.docket.specs.declared.Bay.{Bay as Numbered}
use Rattle.acting.specs.Acting.{nothing, Added, Tallied, Acts}
use Rattle.acting.specs.declared.Tally.{Tally}
use Rattle.acting.proofs.Acting.{tallied-none, acted-done, acted-failed}
use Rattle.acting.proofs.Lending.{RestLent, on-the-rest}
use Rattle.keeping.specs.Keeping.{Stuck, KeepsOne, KeepsNone, TwoBy, KeptAlone, Clears, After, from}
use Rattle.keeping.specs.declared.Two.{Two}
use Rattle.keeping.specs.declared.Two.TheVariants.{Both, Single, Short}

pub same-again : {p standing empty out p' standing' empty' out' p'' standing'' empty'' out'' : List ℕ} {o : Option Made} {n : ℕ} {at : Tally}
    → Unchanged p standing empty out p' standing' empty' out' → Acts o n p' standing' empty' out' at p'' standing'' empty'' out'' None → Unchanged p standing empty out p'' standing'' empty'' out''
same-again s a =
    let u = (a.fails (acted-failed a)).1 in
    record { same_placement = u.same_placement ∙ s.same_placement; same_standing = u.same_standing ∙ s.same_standing; same_empty = u.same_empty ∙ s.same_empty; same_list = u.same_list ∙ s.same_list }

pub unchanged-played : {n : ℕ} {p standing empty out p' standing' empty' out' : List ℕ} → Placed n p standing empty → Unchanged p standing empty out p' standing' empty' out'
    → Tallied (only []) n p p' standing' empty' out nothing out' nothing
unchanged-played {n} {p} {standing} {empty} {out} k s = rw (s.same_placement, s.same_standing, s.same_empty, s.same_list) (tallied-none n p standing empty out nothing k)

pub stuck-none : (Y : Yard) (held : List Bay) (others : List ℕ) (a x : ℕ) (p : Placement) → Lowest (mem others) a span x → Stuck Y held others a x p
stuck-none Y held others a x p l y h k m = not-both m (l.before y h k)

pub stuck-more : (Y : Yard) (held : List Bay) (others : List ℕ) (a x x' : ℕ) (p : Placement) → Stuck Y held others a x p → vacate Y held x p ≡ none
    → Lowest (mem others) (x + 1) span x' → Stuck Y held others a x' p
stuck-more Y held others a x x' p s e l y h k m = elim (dec_lt y x) [
  | yes q ↦ s y h q m
  | no q ↦ elim (ℕ_discrete y x) [
    | yes z ↦ rw z e
    | no z ↦ not-both m (l.before y (omega arith) k)
  ]
]

pub keeps_here : {Y : Yard} {held : List Bay} {others : List ℕ} {a x n : ℕ} {p standing empty out q standing₁ empty₁ out₁ p' standing' empty' out' : List ℕ} {m : Tally}
    → a ≤ x → x < n → mem others x ≡ true → Stuck Y held others a x p → Unchanged p standing empty out q standing₁ empty₁ out₁
    → Acts (vacate Y held x q) n q standing₁ empty₁ out₁ nothing p' standing' empty' out' (Some m) → KeepsOne Y held others a n p out p' standing' empty' out' x m
keeps_here h k o s same acts =
    let d = acted-done (rw (same.same_placement, same.same_list) at acts) in
    record {
      above = h;
      low = k;
      other = o;
      stuck = s;
      made = d.0;
      vacated = d.1;
      played = d.2;
    }

pub two-short : (k : ℕ) → TwoBy k Short
two-short k = record { few = λ x y m e. never (cc); single = λ x m e. never (cc) }

pub two-both : {k : ℕ} {m : Tally} {x y : Numbered} → x.0 < span → y.0 < span → m.crossings ≤ k → TwoBy k (Both x y m)
two-both {k} {m} {x} {y} hx hy h = record {
  few = λ u v w e.
      let a : x ≡ u = cc in
      let b : y ≡ v = cc in
      let c : m ≡ w = cc in
      (rw a at hx, rw b at hy, rw c at h);
  single = λ u w e. never (cc);
}

pub two-single : {k : ℕ} {m : Tally} {x : Numbered} → x.0 < span → m.crossings ≤ k → TwoBy k (Single x m)
two-single {k} {m} {x} hx h = record {
  few = λ u v w e. never (cc);
  single = λ u w e.
      let a : x ≡ u = cc in
      let c : m ≡ w = cc in
      (rw a at hx, rw c at h);
}

pub two-within : {k d : ℕ} {r : Two} → k ≤ d → TwoBy k r → TwoBy d r
two-within h b = record {
  few = λ x y k e. let f = b.few x y k e in (f.0, f.1, omega (arith, h, f.2));
  single = λ x k e. let f = b.single x k e in (f.0, omega (arith, h, f.1));
}

-- ## After so much was made

pub after_both : {made more sum : Tally} {x y : Numbered} → Added made more sum → After made (Both x y more) (Both x y sum)
after_both {more = more} {sum = sum} {x = x} {y = y} a = record {
  both = λ u v w e.
      let d : x ≡ u = cc in
      let f : y ≡ v = cc in
      let k : sum ≡ w = cc in
      (more, rw (d, f), rw k at a);
  single = λ u w e. never (cc);
  short = λ e. never (cc);
}

pub after-single : {made more sum : Tally} {x : Numbered} → Added made more sum → After made (Single x more) (Single x sum)
after-single {more = more} {sum = sum} {x = x} a = record {
  both = λ u v w e. never (cc);
  single = λ u w e.
      let d : x ≡ u = cc in
      let k : sum ≡ w = cc in
      (more, rw d, rw k at a);
  short = λ e. never (cc);
}

pub after-short : {made : Tally} → After made Short Short
after-short = record { both = λ u v w e. never (cc); single = λ u w e. never (cc); short = λ e. refl }

pub two-after : {made : Tally} {d k : ℕ} {rest r : Two} → made.crossings ≤ d → TwoBy k rest → After made rest r → TwoBy (d + k) r
two-after h b a = record {
  few = λ x y sum e. let s = a.both x y sum e in let f = b.few x y s.0 s.1 in (f.0, f.1, omega (arith, h, f.2, s.2.crossings));
  single = λ x sum e. let s = a.single x sum e in let f = b.single x s.0 s.1 in (f.0, omega (arith, h, f.1, s.2.crossings));
}

-- what was kept in the rest of the list stands in the whole
pub clears-after : {c : Cleared} {n : ℕ} {p lent p' standing' empty' log out out' : List ℕ} {made : Tally} {rest r : Two}
    → ((more sum : Tally) → Added made more sum → RestLent out made log more out' sum) → Clears c n p lent nothing p' standing' empty' log rest → After made rest r
    → Clears c n p out made p' standing' empty' out' r
clears-after l h a = record {
  both = λ x y sum e. let s = a.both x y sum e in let k = h.both x y s.0 s.1 in (k.0, on-the-rest (l s.0 sum s.2) k.1);
  single = λ x sum e.
      let s = a.single x sum e in
      let k = h.single x s.0 s.1 in
      record { kept = k.kept; low = k.low; free = k.free; played = on-the-rest (l s.0 sum s.2) k.played };
  short = λ e. h.short (a.short e);
}

pub clears-two : {c : Cleared} {n : ℕ} {p out : List ℕ} {at : Tally} {p' standing' empty' out' : List ℕ} {x y : Numbered} {m : Tally} → c.kept ≡ x.0 ∷ y.0 ∷ [] → Tallied c.made n p p' standing' empty' out at out' m
    → Clears c n p out at p' standing' empty' out' (Both x y m)
clears-two {x = x} {y = y} {m = m} e d = record {
  both = λ u v w q.
      let a : x ≡ u = cc in
      let b : y ≡ v = cc in
      let k : m ≡ w = cc in
      (rw (← a, ← b) e, rw (← k) d);
  single = λ u w q. never (cc);
  short = λ q. never (cc);
}

pub clears-single : {c : Cleared} {n : ℕ} {p out : List ℕ} {at : Tally} {p' standing' empty' out' : List ℕ} {x : Numbered} {m : Tally} → KeptAlone c n p out at p' standing' empty' out' x.0 m
    → Clears c n p out at p' standing' empty' out' (Single x m)
clears-single {x = x} {m = m} d = record {
  both = λ u v w q. never (cc);
  single = λ u w q.
      let a : x ≡ u = cc in
      let k : m ≡ w = cc in
      rw (← a, ← k) d;
  short = λ q. never (cc);
}

pub clears-short : {c : Cleared} {n : ℕ} {p out : List ℕ} {at : Tally} {p' standing' empty' out' : List ℕ} → c.kept ≡ [] → Clears c n p out at p' standing' empty' out' Short
clears-short h = record { both = λ x y m e. never (cc); single = λ x m e. never (cc); short = λ e. h }

pub clears-as : {c c' : Cleared} {n : ℕ} {p out : List ℕ} {at : Tally} {p' standing' empty' out' : List ℕ} {r : Two} → c ≡ c' → Clears c' n p out at p' standing' empty' out' r → Clears c n p out at p' standing' empty' out' r
clears-as e h = rw e h

module _ (Y : Yard) (v b : Bay) (kept : List Bay) (few : length kept < 2) (q : ℕ → Bool) (p : Placement) where
  -- those that cannot be vacated are passed over
  skip : (k a r : ℕ) → a ≤ r → ((y : ℕ) → a ≤ y → y < r → y < a + k → q y ≡ true → vacate Y (v ∷ b ∷ kept) y p ≡ none)
      → clearing Y v b kept (filter q (count_from a k)) p ≡ clearing Y v b kept (filter q (count_from r (a + k - r))) p
  unfolding count_from filter clearing
  skip zero a r h f = let e : a + zero - r ≡ zero = omega arith in rw e
  skip (suc k) a r h f = elim (ℕ_discrete a r) [
    | yes e ↦ let d : a + suc k - a ≡ suc k = omega arith in rw (← e, d)
    | no e ↦
        let d : suc a + k - r ≡ a + suc k - r = omega arith in
        let next = skip k (suc a) r (omega arith) (λ y m l i w. f y (omega arith) l (omega arith) w) in
        let t : leb 2 (length kept) ≡ false = lt-leb 2 (length kept) few in
        by_cases (q a)
        (λ w. rw (w, t, f a (omega arith) (omega arith) (omega arith) w) (rw d at next))
        (λ w. rw w (rw d at next))
  ]

  pub clearing-none : (a n : ℕ) → a ≤ n → ((y : ℕ) → a ≤ y → y < n → q y ≡ true → vacate Y (v ∷ b ∷ kept) y p ≡ none)
      → clearing Y v b kept (from q a n) p ≡ record { made = only []; kept = kept }
  unfolding count_from filter clearing
  clearing-none a n h f =
      let e : a + (n - a) - n ≡ 0 = omega arith in
      skip (n - a) a n h (λ y k l m w. f y k l w) ∙ rw e

  pub clearing-one : (a n x : ℕ) (ms : Made) → a ≤ x → x < n → q x ≡ true
      → ((y : ℕ) → a ≤ y → y < x → q y ≡ true → vacate Y (v ∷ b ∷ kept) y p ≡ none) → vacate Y (v ∷ b ∷ kept) x p ≡ some ms
      → clearing Y v b kept (from q a n) p ≡ following ms (clearing Y v b (kept ++ (x ∷ [])) (from q (x + 1) n) (after p ms.moves))
  unfolding count_from filter clearing
  clearing-one a n x ms h k w f e =
      let d : a + (n - a) - x ≡ suc (n - (x + 1)) = omega arith in
      let t : leb 2 (length kept) ≡ false = lt-leb 2 (length kept) few in
      let z : suc x ≡ x + 1 = omega arith in
      skip (n - a) a x h (λ y i l m u. f y i l u) ∙ rw (d, w, t, e, z)

pub clearing-full : (Y : Yard) (v b x y : Bay) (xs : List Bay) (p : Placement) → clearing Y v b (x ∷ y ∷ []) xs p ≡ record { made = only []; kept = x ∷ y ∷ [] }
unfolding clearing
clearing-full Y v b x y [] p = refl
clearing-full Y v b x y (z ∷ xs) p = refl

-- the second bay kept
pub second-both : {Y : Yard} {v b : Bay} {x y : Numbered} {others : List ℕ} {a n : ℕ} {p out p' standing' empty' out' : List ℕ} {m : Tally}
    → KeepsOne Y (clearing_held v b (x.0 ∷ [])) others a n p out p' standing' empty' out' y.0 m
    → Clears (clearing Y v b (x.0 ∷ []) (from (mem others) a n) p) n p out nothing p' standing' empty' out' (Both x y m)
second-both {Y} {v} {b} {x} {y} {others} {a} {n} {p} k =
    let e : clearing Y v b (x.0 ∷ []) (from (mem others) a n) p ≡ record { made = together k.made (only []); kept = x.0 ∷ y.0 ∷ [] } =
    clearing-one Y v b (x.0 ∷ []) (omega arith) (mem others) p a n y.0 k.made k.above k.low k.other k.stuck k.vacated
    ∙ ap (following k.made) (clearing-full Y v b x.0 y.0 (from (mem others) (y.0 + 1) n) (after p k.made.moves)) in
    clears-two (ap (λ (c : Cleared). c.kept) e) (rw (ap (λ (c : Cleared). c.made) e ∙ together-none k.made) k.played)

pub second-single : {Y : Yard} {v b : Bay} {x : Numbered} {others : List ℕ} {a n : ℕ} {p out p' standing' empty' out' : List ℕ} → a ≤ n → n ≤ span → x.0 < n → Out x.0 p
    → KeepsNone Y (v ∷ b ∷ x.0 ∷ []) others a n p out p' standing' empty' out'
    → Clears (clearing Y v b (x.0 ∷ []) (from (mem others) a n) p) n p out nothing p' standing' empty' out' (Single x nothing)
unfolding after
second-single {Y} {v} {b} {x} {others} {a} {n} {p} h most low o k =
    let e : clearing Y v b (x.0 ∷ []) (from (mem others) a n) p ≡ record { made = only []; kept = x.0 ∷ [] } =
    clearing-none Y v b (x.0 ∷ []) (omega arith) (mem others) p a n h (λ y i l m. k.stuck y i (omega arith) m) in
    clears-single (record { kept = ap (λ (c : Cleared). c.kept) e; low = low; free = rw k.played.moved o; played = rw (ap (λ (c : Cleared). c.made) e) k.played })
