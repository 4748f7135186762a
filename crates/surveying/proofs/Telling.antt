-- What is answered and left, case by case: refused by the layout, by 1 to 3, by 8, or taken over whole.
use Rattle.std.proofs.Common.{Err, Ok}
use mathlib.Core.Path.{◌≡◌, refl, sym, ◌∙◌, ap}
use mathlib.Core.List.{List, ◌++◌, map}
use mathlib.Core.Option.{Option, none, some}
use Prim.Native.Nat.{ℕ, ◌+◌, ◌*◌, ◌≤◌, ◌<◌}
use native.Mathlib.Omega.{arith}
use lib.Dec.{ltb}
use lib.ListN.{length, take, drop, length-map}
use lib.Seq.{sets, sets-eq, take-append_seam}
use borrow.Author.Tests.{lt-ltb, le-ltb, ltb-true, ltb-false}
use Rattle.paper.specs.Basics.{or_else}
use Rattle.paper.specs.Limits.{most_rails, most_crossings}
use Rattle.paper.specs.Yard.{Bay}
use Rattle.paper.specs.Docket.{Refusal, size, room, no_8, granted, denied, bad_survey}
use Rattle.paper.specs.Text.{Text, Read, good, bad_line}
use Rattle.paper.proofs.Tests.{by_cases, by-option, or_left, or-neither, never, none_both}
use Rattle.stores.specs.Writing.{Wrote}
use Rattle.survey.specs.Survey.{read_survey, survey_of, first_three, read_refusal, write_refusal}
use Rattle.survey.specs.Narrow.{narrow}
use Rattle.survey.proofs.Written.{passes}
use Rattle.survey.proofs.Three.{narrow-three, narrow-same, long-size}
use Rattle.edges.specs.Held.{Reads, answer_of, count_read}
use Rattle.edges.specs.SurveyRead.{SurveyRead}
use Rattle.docket.specs.Reading.{verdict_of}
use Rattle.docket.specs.Verdict.{Verdict as Told}
use Rattle.surveying.specs.Says.{Says, ReadSays, TakeSays, WriteSays}
use Rattle.surveying.specs.declared.Survey.{Survey}

-- ## 8
no_room : (lent needed : ℕ) → lent < needed → no_8 lent needed ≡ some (room needed)
no_room lent needed h = rw (or_left (ltb lent needed) (ltb most_crossings needed) (lt-ltb lent needed h))

enough-room : (lent needed : ℕ) → needed ≤ lent → needed ≤ most_crossings → no_8 lent needed ≡ none
enough-room lent needed h s = rw (or-neither (ltb lent needed) (ltb most_crossings needed) (le-ltb lent needed h) (le-ltb most_crossings needed s))

-- ## A file that keeps its layout
module _ (n : ℕ) (ends : List Bay) (before : List ℕ) (r : Survey) where
  pub accept-refused : (q : Refusal) → some q ≡ first_three n ends → r.bays ≡ 0 → verdict_of r.verdict ≡ denied q → Says (good (n, ends)) before r before
  unfolding read_refusal
  accept-refused q e b v = record { answer = rw (← e) v; bays = rw (← e) b; left = rw (← e) }

  module _ (e : none ≡ first_three n ends) where
    pub accept-room : length before < length ends → r.bays ≡ 0 → verdict_of r.verdict ≡ denied (room (length ends)) → Says (good (n, ends)) before r before
    unfolding read_refusal
    accept-room h b v =
        let f = no_room (length before) (length ends) h in
        record { answer = rw (← e, f) v; bays = rw (← e, f) b; left = rw (← e, f) }

    pub accept-all : (after : List ℕ) → length ends ≤ length before → r.bays ≡ n → verdict_of r.verdict ≡ granted (length ends) → after ≡ ends ++ drop (length ends) before → Says (good (n, ends)) before r after
    unfolding read_refusal
    accept-all after h b v l =
        let f = enough-room (length before) (length ends) h (omega (arith, (passes n ends (sym e)).few-ends)) in
        record { answer = rw (← e, f) v; bays = rw (← e, f) b; left = rw (← e, f) l }

pub take_long : (n k : ℕ) (held before : List ℕ) (r : Survey) → length held < k → r.bays ≡ 0 → verdict_of r.verdict ≡ denied size → TakeSays n k held before r before
take_long n k held before r h b v = record { long = λ l. record { bays = b; answer = v; left = refl }; whole = λ l. absurd (omega arith) }

pub take_whole : (n k : ℕ) (held before : List ℕ) (r : Survey) (after : List ℕ) → k ≤ length held → Says (good (n, take k held)) before r after → TakeSays n k held before r after
take_whole n k held before r after h s = record { long = λ l. absurd (omega arith); whole = λ l. s }

-- ## What the bytes gave
bad-found : (x : Read (ℕ × List Bay)) (l : ℕ) → bad_line l ≡ count_read x → x ≡ bad_line l
bad-found (good y) l h = let z : ◌≡◌ {A = Read (ℕ × ℕ)} (bad_line l) (good (y.0, length y.1)) = h in never (cc)
bad-found (bad_line k) l h = let z : ◌≡◌ {A = Read (ℕ × ℕ)} (bad_line l) (bad_line k) = h in let e : l ≡ k = cc in ap bad_line (sym e)

pairs : {a b : ℕ × ℕ} → good a ≡ good b → a ≡ b
pairs h = cc

good-found : (x : Read (ℕ × List Bay)) (n k : ℕ) → good (n, k) ≡ count_read x → (ends : List Bay) × (x ≡ good (n, ends)) × (length ends ≡ k)
good-found (good y) n k h =
    let p = pairs h in
    let e : y.0 ≡ n = sym (ap (λ (q : ℕ × ℕ). q.0) p) in
    (y.1, ap (λ m. good (m, y.1)) e, sym (ap (λ (q : ℕ × ℕ). q.1) p))
good-found (bad_line l) n k h = let z : ◌≡◌ {A = Read (ℕ × ℕ)} (good (n, k)) (bad_line l) = h in never (cc)

earlier : {A : Type 0} (a b : Option A) → or_else a b ≡ none → a ≡ none
earlier a b h = (none_both a b h).0

zero-on : (n : ℕ) → 0 + n ≡ n
zero-on n = omega arith

narrow-refusal : (n : ℕ) (ends : List Bay) (lent : ℕ) → read_refusal n (map narrow ends) lent ≡ read_refusal n ends lent
unfolding read_refusal
narrow-refusal n ends lent = rw (narrow-three n ends, length-map ends narrow)

-- the ends in 16 bits say the same
says-narrow : (n : ℕ) (ends : List Bay) (before : List ℕ) (r : Survey) (after : List ℕ) → Says (good (n, map narrow ends)) before r after → Says (good (n, ends)) before r after
unfolding read_refusal
says-narrow n ends before r after s =
    let same = narrow-refusal n ends (length before) in
    record {
      answer = s.answer ∙ rw (same, length-map ends narrow);
      bays = s.bays ∙ rw same;
      left = s.left ∙ rw same (by-option (read_refusal n ends (length before)) (λ e. rw (e, narrow-same n ends (first e))) (λ q e. rw e));
    }
  where
    first : read_refusal n ends (length before) ≡ none → first_three n ends ≡ none
    first e = earlier (first_three n ends) (no_8 (length before) (length ends)) e

stands : (t empty held : List ℕ) (k : ℕ) → held ≡ sets empty 0 t → length t ≡ k → length t ≤ length empty → take k held ≡ t
stands t empty held k e c h = rw (e, ← c, sets-eq t empty 0 (omega arith)) (take-append_seam t (drop (0 + length t) empty))

module _ (file : Text) (found : SurveyRead) (empty room before : List ℕ) (r : Survey) (after : List ℕ) (reads : Reads file found empty room) where
  pub settle-bad : (l : ℕ) → found ≡ Err l → r.bays ≡ 0 → verdict_of r.verdict ≡ denied (bad_survey l) → after ≡ before → ReadSays file before r after
  settle-bad l e b v k =
      let f = bad-found (read_survey file) l (ap answer_of (sym e) ∙ reads.answer) in
      rw f (record { answer = v; bays = b; left = k })

  pub settle-yard : (n k : ℕ) → found ≡ Ok (n, k) → length empty ≡ length room → 2 * most_rails ≤ length room → TakeSays n k room before r after → ReadSays file before r after
  settle-yard n k e sized long t =
      let f = good-found (read_survey file) n k (ap answer_of (sym e) ∙ reads.answer) in
      by_cases (ltb (length room) k)
      (λ h.
      let l = t.long (ltb-true (length room) k h) in
      rw (f.1, l.left) (accept-refused n f.0 before r size (sym (long-size n f.0 (omega (arith, f.2, ltb-true (length room) k h)))) l.bays l.answer))
      (λ h.
      let i : k ≤ length room = ltb-false (length room) k h in
      let count : length (map narrow f.0) ≡ k = length-map f.0 narrow ∙ f.2 in
      let at_front : take k room ≡ map narrow f.0 = stands (map narrow f.0) empty room k (reads.kept n f.0 f.1) count (omega arith) in
      rw f.1 (says-narrow n f.0 before r after (rw at_front at (t.whole i))))

-- ## Writing
module _ (n : ℕ) (ends : List Bay) (before : List ℕ) (r : Told) where
  pub write-refused : (q : Refusal) → some q ≡ first_three n ends → verdict_of r ≡ denied q → WriteSays n ends before r before
  unfolding write_refusal
  write-refused q e v = record { answer = rw (← e) v; left = rw (← e) }

  module _ (e : none ≡ first_three n ends) where
    pub write-room : (needed : ℕ) → needed ≡ 0 + length (survey_of n ends) → length before < needed → verdict_of r ≡ denied (room needed) → WriteSays n ends before r before
    unfolding write_refusal
    write-room needed c h v =
        let f = no_room (length before) (length (survey_of n ends)) (omega arith) in
        let g : needed ≡ length (survey_of n ends) = omega arith in
        record { answer = rw (← e, f, ← g) v; left = rw (← e, f) }

    pub write-all : (needed written : ℕ) (after : List ℕ) → needed ≡ 0 + length (survey_of n ends) → needed ≤ most_crossings → needed ≤ length before → Wrote before 0 (survey_of n ends) after written → verdict_of r ≡ granted written → WriteSays n ends before r after
    unfolding write_refusal
    write-all needed written after c s h w v =
        let f = enough-room (length before) (length (survey_of n ends)) (omega arith) (omega arith) in
        let g : written ≡ length (survey_of n ends) = omega (arith, w.counted) in
        let l : after ≡ survey_of n ends ++ drop (length (survey_of n ends)) before = w.left ∙ sets-eq (survey_of n ends) before 0 (omega arith) ∙ ap (λ k. survey_of n ends ++ drop k before) (zero-on (length (survey_of n ends))) in
        record { answer = rw (← e, f, ← g) v; left = rw (← e, f) l }
