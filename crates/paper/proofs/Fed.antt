-- Bytes fed one by one read as the file's lines do, for any layout whose lines can be read byte by byte: a CR is held back
-- until the next byte shows whether it belongs to the line's end.
use mathlib.Core.Path.{◌≡◌, refl, sym, ◌∙◌, ap}
use mathlib.Core.Bool.{Bool, true, false}
use mathlib.Core.List.{List, [], ◌∷◌, foldl}
use mathlib.Core.Option.{Option, none, some}
use Prim.Native.Nat.{ℕ, suc}
use lib.Dec.{eqb}
use borrow.Author.Tests.{eqb-true}
use Rattle.paper.specs.Basics.{◌and◌}
use Rattle.paper.specs.Text.{Text, LF, CR, begins_with_lf, join, lines, Read, bad_line, read_lines}
use Rattle.paper.specs.Bytes.{State, failed, going, release, line_closed, feed, ending, end_after, finish_file}
use Rattle.paper.proofs.Tests.{by_cases, by-option}

abbrev pub Some : List Text → Type 0
Some ls = (l : Text) × (ls' : List Text) × (ls ≡ l ∷ ls')

pub join-some : (b : ℕ) (ls : List Text) → Some (join b ls)
unfolding join
join-some b [] = (b ∷ [], [], refl)
join-some b (l ∷ ls) = (b ∷ l, ls, refl)

-- where there is a byte, there is a line
pub line-some : (b : ℕ) (bs : Text) → Some (lines (b ∷ bs))
unfolding lines begins_with_lf ◌and◌
line-some b [] =
    by_cases (eqb b LF) (λ e. rw e ([], [], refl))
    (λ e. by_cases (eqb b CR) (λ f. rw (e, f) (join-some b [])) (λ f. rw (e, f) (join-some b [])))
line-some b (c ∷ cs) =
    by_cases (eqb b LF) (λ e. rw e ([], _, refl))
    (λ e. by_cases (eqb b CR and eqb c LF) (λ f. rw (e, f) (line-some c cs)) (λ f. rw (e, f) (join-some b (lines (c ∷ cs)))))

module _ {A R U : Type 0} (line : A → Text → Option A) (end : A → Option R) (begin : A → U) (byte : U → ℕ → U) (close : U → Option A) (rest : U → Option R) where
  -- What a line is byte by byte, it is at once; and a line not begun is read as the end.
  pub record ByByte : Type 0 where
    pub closed : (a : A) (l : Text) → close (foldl byte (begin a) l) ≡ line a l
    pub rests : (a : A) → rest (begin a) ≡ end a

  abbrev run : State U → Text → Read R
  run s bs = finish_file begin byte close rest (foldl (feed begin byte close) s bs)

  -- the line under way goes on with the first of these
  abbrev line_on : ℕ → Option A → List Text → Read R
  line_on n none ls = bad_line n
  line_on n (some a) ls = read_lines line end (suc n) a ls

  abbrev go_on : ℕ → U → List Text → Read R
  go_on n u [] = line_on n (close u) []
  go_on n u (l ∷ ls) = line_on n (close (foldl byte u l)) ls

  run-failed : (n : ℕ) (bs : Text) → run (failed n) bs ≡ bad_line n
  unfolding feed finish_file
  run-failed n [] = refl
  run-failed n (b ∷ bs) = run-failed n bs

  on-join : (n : ℕ) (u : U) (b : ℕ) (ls : List Text) → go_on n u (join b ls) ≡ go_on n (byte u b) ls
  unfolding join
  on-join n u b [] = refl
  on-join n u b (l ∷ ls) = refl

  module _ (by : ByByte) where
    ended : (n : ℕ) (a : A) → ending n (rest (begin a)) ≡ read_lines line end n a []
    unfolding ending read_lines
    ended n a = rw (by.rests a) (by-option (end a) (λ e. rw e) (λ r e. rw e))

    closes : (n : ℕ) (u : U) → end_after begin byte close rest n (close u) ≡ line_on n (close u) []
    unfolding end_after
    closes n u = by-option (close u) (λ e. rw e) (λ a e. rw e (ended (suc n) a))

    -- a line not begun yet
    opened : (n : ℕ) (a : A) (l : Text) (ls : List Text) → go_on n (begin a) (l ∷ ls) ≡ read_lines line end n a (l ∷ ls)
    unfolding read_lines
    opened n a l ls = rw (by.closed a l) (by-option (line a l) (λ e. rw e) (λ r e. rw e))

    record Laws (bs : Text) : Type 0 where
      on : (n : ℕ) (u : U) → run (going n true false u) bs ≡ go_on n u (lines bs)
      held : (n : ℕ) (u : U) → run (going n true true u) bs ≡ go_on n u (lines (CR ∷ bs))
      new : (n : ℕ) (a : A) → run (going n false false (begin a)) bs ≡ read_lines line end n a (lines bs)

    -- an LF closes the line
    ends : (bs : Text) → Laws bs → (n : ℕ) (o : Option A) → run (line_closed begin n o) bs ≡ line_on n o (lines bs)
    unfolding line_closed
    ends bs ih n none = run-failed n bs
    ends bs ih n (some a) = ih.new (suc n) a

    none_left : Laws []
    unfolding lines finish_file join release begins_with_lf ◌and◌
    none_left = record { on = λ n u. closes n u; held = λ n u. closes n (byte u CR); new = λ n a. ended n a }

    module _ (b : ℕ) (bs : Text) (ih : Laws bs) where
      on-next : (n : ℕ) (u : U) → run (going n true false u) (b ∷ bs) ≡ go_on n u (lines (b ∷ bs))
      unfolding feed lines release begins_with_lf ◌and◌
      on-next n u =
          by_cases (eqb b LF)
          (λ e. rw e (ends bs ih n (close u)))
          (λ e. by_cases (eqb b CR)
          (λ f. rw (eqb-true b CR f) (ih.held n u))
          (λ f. rw (e, f) (ih.on n (byte u b) ∙ sym (on-join n u b (lines bs)))))

      skip : (n : ℕ) (begun hold : Bool) (u : U) → eqb b LF ≡ false → run (going n begun hold u) (b ∷ bs) ≡ run (going n true false (release byte hold u)) (b ∷ bs)
      unfolding feed release
      skip n begun hold u e = ap (λ s. run s bs) (rw e)

      held_next : (n : ℕ) (u : U) → run (going n true true u) (b ∷ bs) ≡ go_on n u (lines (CR ∷ b ∷ bs))
      unfolding feed lines release begins_with_lf ◌and◌
      held_next n u =
          by_cases (eqb b LF)
          (λ e. rw (eqb-true b LF e) (ends bs ih n (close u)))
          (λ e.
          let kept : lines (CR ∷ b ∷ bs) ≡ join CR (lines (b ∷ bs)) = rw e in
          skip n true true u e ∙ on-next n (byte u CR) ∙ sym (on-join n u CR (lines (b ∷ bs))) ∙ ap (go_on n u) (sym kept))

      new-next : (n : ℕ) (a : A) → run (going n false false (begin a)) (b ∷ bs) ≡ read_lines line end n a (lines (b ∷ bs))
      unfolding feed lines release
      new-next n a =
          by_cases (eqb b LF)
          (λ e. rw e (ends bs ih n (close (begin a)) ∙ opened n a [] (lines bs)))
          (λ e.
          let t = line-some b bs in
          skip n false false (begin a) e ∙ on-next n (begin a) ∙ ap (go_on n (begin a)) t.2 ∙ opened n a t.0 t.1 ∙ ap (read_lines line end n a) (sym t.2))

      one_more : Laws (b ∷ bs)
      one_more = record { on = on-next; held = held_next; new = new-next }

    laws : (bs : Text) → Laws bs
    laws [] = none_left
    laws (b ∷ bs) = one_more b bs (laws bs)

    -- Folding the step over the file and finishing is reading it line by line.
    pub fed : (n : ℕ) (a : A) (bs : Text) → finish_file begin byte close rest (foldl (feed begin byte close) (going n false false (begin a)) bs) ≡ read_lines line end n a (lines bs)
    fed n a bs = (laws bs).new n a
