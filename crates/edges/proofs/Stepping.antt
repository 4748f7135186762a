-- A byte of the file makes of the state what the definition's step makes of it, byte by byte of the four kinds; and so does the end.
use Rattle.std.specs.Prelude.{if◌then◌else◌}
use mathlib.Core.Path.{◌≡◌, refl, sym, ◌∙◌, ap}
use mathlib.Core.Bool.{Bool, true, false}
use mathlib.Core.List.{List}
use mathlib.Core.Option.{Option, none, some}
use Prim.Native.Nat.{ℕ, suc, ◌*◌}
use native.Mathlib.Omega.{arith}
use lib.Dec.{eqb}
use lib.ListN.{length}
use borrow.Author.Tests.{ne_eqb}
use Rattle.paper.specs.Yard.{Bay}
use Rattle.paper.specs.Bytes.{State, failed, going, release, feed, line_closed, ending, end_after, finish_file}
use Rattle.paper.proofs.Tests.{by_cases, never}
use Rattle.survey.specs.Survey.{Surveyed, survey_end}
use Rattle.survey.specs.Bytes.{LineUnderWay, fresh, line_byte, Under, begin_line, in_line, close_line, end_line, survey_step, survey_finish}
use Rattle.edge_lines.specs.Lines.{part_by, word_by, count_of, due_of, under_of, state_of, ends_after, Marked, Closes}
use Rattle.edges.specs.Held.{Steps, due_read, read_of, Finishes}
use Rattle.edge_lines.specs.declared.Due.{Due}
use Rattle.edge_lines.specs.declared.Due.TheVariants.{Head, Rails}
use Rattle.edge_lines.specs.declared.Part.{Part}
use Rattle.edge_lines.specs.declared.Reading.{Reading}
use Rattle.edge_lines.proofs.Closing.{same_ends}

abbrev at : Due → List Bay → LineUnderWay → Under
at d ends l = record { due = due_of d ends; line = l }

byte-is : (d : Due) (ends : List Bay) (l : LineUnderWay) (b : ℕ) → in_line (at d ends l) b ≡ at d ends (line_byte (word_by d) l b)
unfolding in_line
byte-is Head ends l b = refl
byte-is (Rails n m k) ends l b = refl

abbrev line_after : Due → Bool → LineUnderWay → LineUnderWay
line_after d held l = if held then line_byte (word_by d) l 13 else l

release-is : (d : Due) (ends : List Bay) (held : Bool) (l : LineUnderWay) → release in_line held (at d ends l) ≡ at d ends (line_after d held l)
unfolding release
release-is d ends true l = byte-is d ends l 13
release-is d ends false l = refl

module _ (s : Reading) (b : ℕ) where
  pub steps-failed : s.failed ≡ true → Steps s b s
  unfolding survey_step feed
  steps-failed f = record { most = omega arith; counts = λ ends l. rw (same_ends s s ends refl) l; steps = λ h ends l. rw (same_ends s s ends refl, f) }

  module _ (f : s.failed ≡ false) where
    pub steps-end : b ≡ 10 → (r : Reading) → Closes s r → Steps s b r
    unfolding survey_step feed
    steps-end e r k = record { most = k.most; counts = k.counts; steps = λ h ends l. k.ended h ends l ∙ sym (rw (f, e)) }

    module _ (n : b ≡ 10 → ⊥) (u : Part) (k : part_by s.due u ≡ line_after s.due s.held (part_by s.due s.part)) where
      pub steps-cr : b ≡ 13 → (r : Reading) → Marked s u true r → Steps s b r
      unfolding survey_step feed
      steps-cr e r m = record {
        most = omega (arith, m.line);
        counts = λ ends l. rw (same_ends s r ends m.due, m.due) l;
        steps = λ h ends l. rw (same_ends s r ends m.due, m.failed, m.line, m.begun, m.held, m.due, m.part, f, e, release-is s.due ends s.held (part_by s.due s.part), k);
      }

      pub steps_on : (b ≡ 13 → ⊥) → (v : Part) → part_by s.due v ≡ line_byte (word_by s.due) (part_by s.due u) b → (r : Reading) → Marked s v false r → Steps s b r
      unfolding survey_step feed
      steps_on n' v j r m = record {
        most = omega (arith, m.line);
        counts = λ ends l. rw (same_ends s r ends m.due, m.due) l;
        steps = λ h ends l. rw (same_ends s r ends m.due, m.failed, m.line, m.begun, m.held, m.due, m.part, f, ne_eqb b 10 n, ne_eqb b 13 n', release-is s.due ends s.held (part_by s.due s.part), byte-is s.due ends (line_after s.due s.held (part_by s.due s.part)) b, j, k);
      }

-- ## The end
due-read : (n : ℕ) (d : Due) (ends : List Bay) → length ends ≡ count_of d → due_read n d ends ≡ ending n (survey_end (due_of d ends))
unfolding ending survey_end
due-read n Head ends l = refl
due-read n (Rails a m k) ends l = rw l (by_cases (eqb k (2 * m)) (λ e. rw e) (λ e. rw e))

-- a state in which a line has ended is read as the end of the file behind that line
ended-reads : (r : Reading) (ends : List Bay) (n : ℕ) (o : Option Surveyed) → length ends ≡ count_of r.due → state_of r ends ≡ line_closed begin_line n o → read_of r ends ≡ end_after begin_line in_line close_line end_line n o
unfolding line_closed end_after begin_line end_line
ended-reads r ends n none l h =
    by_cases r.failed
    (λ f. let z : ◌≡◌ {A = State Under} (failed r.line) (failed n) = rw f at h in let e : r.line ≡ n = cc in rw (f, e))
    (λ f. let z : ◌≡◌ {A = State Under} (going r.line r.begun r.held (under_of r ends)) (failed n) = rw f at h in never (cc))
ended-reads r ends n (some a) l h =
    by_cases r.failed
    (λ f. let z : ◌≡◌ {A = State Under} (failed r.line) (going (suc n) false false (record { due = a; line = fresh })) = rw f at h in never (cc))
    (λ f.
    let z : ◌≡◌ {A = State Under} (going r.line r.begun r.held (under_of r ends)) (going (suc n) false false (record { due = a; line = fresh })) = rw f at h in
    let e : r.line ≡ suc n = cc in
    let g : ◌≡◌ {A = Under} (under_of r ends) (record { due = a; line = fresh }) = cc in
    let d : due_of r.due ends ≡ a = ap (λ (u : Under). u.due) g in
    rw (f, e) (due-read (suc n) r.due ends l ∙ rw d))

module _ (s : Reading) where
  pub finishes-failed : s.failed ≡ true → Finishes s s
  unfolding survey_finish finish_file
  finishes-failed f = record { counts = λ ends l. rw (same_ends s s ends refl) l; finishes = λ h ends l. rw (same_ends s s ends refl, f) }

  module _ (f : s.failed ≡ false) where
    pub finishes-fresh : s.begun ≡ false → Finishes s s
    unfolding survey_finish finish_file end_line
    finishes-fresh b = record { counts = λ ends l. rw (same_ends s s ends refl) l; finishes = λ h ends l. rw (same_ends s s ends refl, f, b) (due-read s.line s.due ends l) }

    pub finishes-line : s.begun ≡ true → (u : Part) → part_by s.due u ≡ line_after s.due s.held (part_by s.due s.part) → (m : Reading) → Marked s u false m → (r : Reading) → Closes m r → Finishes s r
    unfolding survey_finish finish_file
    finishes-line b u k m q r c =
        let same : (ends : List Bay) → ends_after m r ends ≡ ends_after s r ends = λ ends. rw q.due in
        let counts : (ends : List Bay) → length ends ≡ count_of s.due → length (ends_after s r ends) ≡ count_of r.due = λ ends l. rw (same ends) at (c.counts ends (rw q.due l)) in
        record {
          counts = counts;
          finishes = λ h ends l.
              let under : under_of m ends ≡ release in_line s.held (under_of s ends) = rw (q.due, q.part, release-is s.due ends s.held (part_by s.due s.part), k) in
              let state : state_of r (ends_after s r ends) ≡ line_closed begin_line s.line (close_line (release in_line s.held (under_of s ends))) =
              rw (← same ends, ← under, ← q.line) (c.ended (rw q.line h) ends (rw q.due l)) in
              rw (f, b) (ended-reads r (ends_after s r ends) s.line _ (counts ends l) state);
        }
