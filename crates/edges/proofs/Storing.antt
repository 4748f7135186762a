-- After each byte the ends read so far are stored behind one another, and the state is the definition's: so at the end of the file the
-- answer is the layout's.
use mathlib.Core.Path.{◌≡◌, refl, sym, ◌∙◌, ap}
use mathlib.Core.List.{List, [], ◌∷◌, ◌++◌, map, map-append, foldl-append, append_assoc}
use Prim.Native.Nat.{ℕ, ◌+◌, ◌*◌, ◌≤◌, ◌<◌}
use native.Mathlib.Omega.{arith}
use native.Mathlib.Numerals.{add-one}
use lib.Dec.{eqb, ltb}
use lib.ListN.{length, get_or, take, set, length-append, length-set, length-take}
use lib.Seq.{sets, take-suc}
use borrow.Author.Tests.{lt-ltb, le-ltb}
use Rattle.paper.specs.Yard.{Bay}
use Rattle.paper.specs.Text.{Text, Read, good, bad_line}
use Rattle.paper.proofs.Tests.{by_cases, never, good-same}
use Rattle.stores.specs.Writing.{Wrote}
use Rattle.stores.proofs.Stores.{wrote_then}
use Rattle.survey.specs.Survey.{read_survey}
use Rattle.survey.specs.Bytes.{unread, survey_step, survey_finish}
use Rattle.survey.specs.Narrow.{narrow}
use Rattle.survey.proofs.Stepping.{stepped}
use Rattle.edge_lines.specs.Lines.{count_of, ends_after, last_line}
use Rattle.edges.specs.Held.{Steps, Finishes, read_of, due_read, answer_of, answer_by, due_answer, count_read, stored, Came, Reads}
use Rattle.edge_lines.specs.declared.Due.{Due}
use Rattle.edge_lines.specs.declared.Due.TheVariants.{Head, Rails}
use Rattle.edge_lines.specs.declared.Reading.{Reading}
use Rattle.edges.specs.SurveyRead.{SurveyRead}

-- ## One rail
module _ (s r : Reading) (l : List ℕ) where
  pub stored-length : length (stored s r l) ≡ length l
  unfolding stored
  stored-length =
      by_cases (ltb (count_of s.due) (count_of r.due))
      (λ e. rw e (length-set (set l (count_of s.due) (narrow r.from)) (count_of s.due + 1) (narrow r.to) ∙ length-set l (count_of s.due) (narrow r.from)))
      (λ e. rw e)

  module _ (k c : ℕ) (before : k ≡ count_of s.due) (after : c ≡ count_of r.due) where
    pub stored-off : c ≤ k → l ≡ stored s r l
    unfolding stored
    stored-off h = rw (← before, ← after, le-ltb k c h)

    pub stored_on : k < c → (a b : ℕ) → a ≡ narrow r.from → b ≡ narrow r.to → (m x : List ℕ) → m ≡ set l k a → x ≡ set m (k + 1) b → x ≡ stored s r l
    unfolding stored
    stored_on h a b p q m x e f = rw (← before, ← after, lt-ltb k c h, f, e, p, q)

-- ## The file so far
module _ (t : Text) (s : Reading) (before mid : List ℕ) (came : Came t s before mid) (r : Reading)
    (counts : (ends : List Bay) → length ends ≡ count_of s.due → length (ends_after s r ends) ≡ count_of r.due) where
  pub wrote_after : Wrote before 0 (map narrow (ends_after s r came.ends)) (stored s r mid) (count_of r.due)
  unfolding stored
  wrote_after =
      let n = counts came.ends came.count in
      by_cases (ltb (count_of s.due) (count_of r.due))
      (λ e.
      let m : length (came.ends ++ (r.from ∷ r.to ∷ [])) ≡ count_of r.due = rw e at n in
      let two : count_of r.due ≡ count_of s.due + 2 = omega (arith, length-append came.ends (r.from ∷ r.to ∷ []), came.count) in
      let more : Wrote mid (count_of s.due) (narrow r.from ∷ narrow r.to ∷ []) (set (set mid (count_of s.due) (narrow r.from)) (count_of s.due + 1) (narrow r.to)) (count_of r.due) =
      record { left = rw (add-one (count_of s.due)) refl; counted = two } in
      rw (e, map-append narrow came.ends (r.from ∷ r.to ∷ [])) (wrote_then came.wrote more))
      (λ e.
      let m : length came.ends ≡ count_of r.due = rw e at n in
      let same : count_of r.due ≡ count_of s.due = omega (arith, came.count) in
      rw (e, same) came.wrote)

-- one byte more
pub came-next : (t : Text) (s : Reading) (before mid : List ℕ) (b : ℕ) (r : Reading) (after : List ℕ) → length t + 1 < last_line
    → Came t s before mid → Steps s b r → after ≡ stored s r mid → Came (t ++ (b ∷ [])) r before after
came-next t s before mid b r after small came step e = record {
  ends = ends_after s r came.ends;
  count = step.counts came.ends came.count;
  wrote = rw e (wrote_after t s before mid came r step.counts);
  state = step.steps (omega (arith, came.line)) came.ends came.count ∙ ap (λ x. survey_step x b) came.state ∙ sym (foldl-append survey_step unread t (b ∷ []));
  line = omega (arith, step.most, came.line, length-append t (b ∷ []));
}

-- a piece, byte by byte
pub came-piece : (piece : Text) (i : ℕ) → i < length piece → (now : Reading) (first mid : List ℕ) (s next : Reading) (after : List ℕ)
    → ((t : Text) (before : List ℕ) → length t + length piece < last_line → Came t s before first → Came (t ++ take i piece) now before mid)
    → Steps now (get_or piece i 0) next → after ≡ stored now next mid
    → (t : Text) (before : List ℕ) → length t + length piece < last_line → Came t s before first → Came (t ++ take (i + 1) piece) next before after
came-piece piece i h now first mid s next after f step e t before small came =
    rw (add-one i, take-suc piece i 0 h, ← append_assoc t (take i piece) (get_or piece i 0 ∷ []))
    (came-next (t ++ take i piece) now before mid (get_or piece i 0) next after (omega (arith, length-append t (take i piece), length-take i piece)) (f t before small came) step e)

-- ## The end
answer-count : (r : Reading) (ends : List Bay) → length ends ≡ count_of r.due → answer_by r ≡ count_read (read_of r ends)
answer-count r ends l = by_cases r.failed (λ f. rw f) (λ f. rw f (due r.line r.due l))
  where
    due : (n : ℕ) (d : Due) → length ends ≡ count_of d → due_answer n d ≡ count_read (due_read n d ends)
    due n Head l = refl
    due n (Rails a m k) l = by_cases (eqb k (2 * m)) (λ e. rw (e, l)) (λ e. rw e)

read-ends : (r : Reading) (ends : List Bay) (n : ℕ) (es : List Bay) → read_of r ends ≡ good (n, es) → ends ≡ es
read-ends r ends n es h =
    by_cases r.failed
    (λ f. let z : ◌≡◌ {A = Read (ℕ × List Bay)} (bad_line r.line) (good (n, es)) = rw f at h in never (cc))
    (λ f. due r.line r.due (rw f at h))
  where
    due : (l : ℕ) (d : Due) → due_read l d ends ≡ good (n, es) → ends ≡ es
    due l Head h = let z : ◌≡◌ {A = Read (ℕ × List Bay)} (bad_line l) (good (n, es)) = h in never (cc)
    due l (Rails a m k) h =
        by_cases (eqb k (2 * m))
        (λ e. ap (λ (y : ℕ × List Bay). y.1) (good-same (rw e at h)))
        (λ e. let z : ◌≡◌ {A = Read (ℕ × List Bay)} (bad_line l) (good (n, es)) = rw e at h in never (cc))

pub reads_all : (t : Text) (s : Reading) (before mid : List ℕ) (r : Reading) (after : List ℕ) (a : SurveyRead) → length t + 1 < last_line
    → Came t s before mid → Finishes s r → after ≡ stored s r mid → answer_of a ≡ answer_by r → Reads t a before after
reads_all t s before mid r after a small came f e g =
    let ends = ends_after s r came.ends in
    let count = f.counts came.ends came.count in
    let read : read_of r ends ≡ read_survey t = f.finishes (omega (arith, came.line)) came.ends came.count ∙ ap survey_finish came.state ∙ stepped t in
    record {
      answer = g ∙ answer-count r ends count ∙ ap count_read read;
      kept = λ n es q. e ∙ (wrote_after t s before mid came r f.counts).left ∙ ap (λ l. sets before 0 (map narrow l)) (read-ends r ends n es (read ∙ q));
    }
