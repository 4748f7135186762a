-- The file is its parts one behind the other: a line is two numbers with what stands before them, and lines follow lines.
use mathlib.Core.Path.{◌≡◌, refl, sym, ◌∙◌, ap}
use mathlib.Core.List.{List, [], ◌∷◌, ◌++◌, map, append-nil, append_assoc}
use Prim.Native.Nat.{ℕ, suc, ◌+◌, ◌*◌, ◌/◌, ◌≤◌, ◌<◌, ◌^◌}
use native.Mathlib.Omega.{arith}
use native.Mathlib.Numerals.{add-one}
use lib.ListN.{length, get_or, drop, length-drop}
use lib.Seq.{drop-cons}
use Rattle.paper.specs.Yard.{Bay}
use Rattle.paper.specs.Docket.{rails_of}
use Rattle.paper.specs.Text.{Text, text, LF}
use Rattle.paper.specs.Print.{decimal, ended}
use Rattle.stores.specs.Writing.{Wrote}
use Rattle.stores.proofs.Stores.{wrote_none, wrote_then}
use Rattle.put_bytes.specs.Named.{named}
use Rattle.put_bytes.proofs.Short.{named-short}
use Rattle.survey.specs.Survey.{head_line, rail_line, rail_lines, survey_of}

five : (a x b y l : Text) → (a ++ x) ++ (b ++ y) ++ l ≡ (((a ++ x) ++ b) ++ y) ++ l
five a x b y l = simp append_assoc

pub head-parts : (n m : ℕ) → named (text "p edge ") n ++ named (text " ") m ++ text "\n" ≡ ended (head_line n m ∷ [])
unfolding named head_line ended
head-parts n m = five (text "p edge ") (decimal n) (text " ") (decimal m) (LF ∷ [])

pub rail-parts : (a b : ℕ) → named (text "e ") (a + 1) ++ named (text " ") (b + 1) ++ text "\n" ≡ ended (rail_line (a, b) ∷ [])
unfolding named rail_line ended
rail-parts a b = rw (add-one a, add-one b) (five (text "e ") (decimal (suc a)) (text " ") (decimal (suc b)) (LF ∷ []))

module _ {l a b c : List ℕ} {at i j k : ℕ} (x y : ℕ) (small : (x < 2 ^ 64) × (y < 2 ^ 64)) where
  pub head_done : Wrote l at (named (text "p edge ") x) a i → Wrote a i (named (text " ") y) b j → Wrote b j (text "\n") c k
      → Wrote l at (ended (head_line x y ∷ [])) c k × (k ≤ at + 49)
  head_done p q r = (
    rw head-parts at (wrote_then (wrote_then p q) r),
    omega (arith, p.counted, q.counted, r.counted, named-short (text "p edge ") x small.0, named-short (text " ") y small.1),
  )

  pub rail-done : (u v : ℕ) → x ≡ u + 1 → y ≡ v + 1 → Wrote l at (named (text "e ") x) a i → Wrote a i (named (text " ") y) b j → Wrote b j (text "\n") c k
      → Wrote l at (ended (rail_line (u, v) ∷ [])) c k × (k ≤ at + 44)
  rail-done u v e f p q r = (
    rw (← rail-parts u v, ← e, ← f) (wrote_then (wrote_then p q) r),
    omega (arith, p.counted, q.counted, r.counted, named-short (text "e ") x small.0, named-short (text " ") y small.1),
  )

-- ## Rails
rails-next : (ends : List Bay) (k : ℕ) → k + 1 < length ends
    → rail_lines (drop k ends) ≡ ended (rail_line (get_or ends k 0, get_or ends (k + 1) 0) ∷ []) ++ rail_lines (drop (k + 2) ends)
unfolding rail_lines rails_of ended
rails-next ends k h =
    let plus : k + 2 ≡ suc (suc k) = omega arith in
    rw (drop-cons ends k 0 (omega arith), add-one k, drop-cons ends (suc k) 0 (more h), plus)
    (sym (append_assoc (rail_line (get_or ends k 0, get_or ends (suc k) 0)) (LF ∷ []) (ended (map rail_line (rails_of (drop (suc (suc k)) ends))))))
  where
    more : k + 1 < length ends → suc k < length ends
    more h = omega arith

rails-none : (ends : List Bay) → length ends ≤ 1 → rail_lines ends ≡ []
unfolding rail_lines rails_of ended
rails-none [] h = refl
rails-none (a ∷ []) h = refl
rails-none (a ∷ b ∷ ends) h = absurd (omega arith)

-- so many ends are written, and what is left of them makes the whole
pub record Written (ends : List Bay) (before : List ℕ) (at k : ℕ) (after : List ℕ) (next : ℕ) : Type 0 where
  pub lines : Text
  pub wrote : Wrote before at lines after next
  pub left : lines ++ rail_lines (drop k ends) ≡ rail_lines ends
  pub short : next ≤ at + 22 * k

pub written_none : (ends : List Bay) (before : List ℕ) (at : ℕ) → Written ends before at 0 before at
written_none ends before at = record { lines = []; wrote = wrote_none before at; left = refl; short = omega arith }

pub written-rail : {ends : List Bay} {before mid after : List ℕ} {at next last : ℕ} (k : ℕ) → k + 1 < length ends → Written ends before at k mid next
    → Wrote mid next (ended (rail_line (get_or ends k 0, get_or ends (k + 1) 0) ∷ [])) after last → last ≤ next + 44 → Written ends before at (k + 2) after last
written-rail {ends} {before} {mid} {after} {at} {next} {last} k h w o s =
    let line = ended (rail_line (get_or ends k 0, get_or ends (k + 1) 0) ∷ []) in
    record {
      lines = w.lines ++ line;
      wrote = wrote_then w.wrote o;
      left = append_assoc w.lines line (rail_lines (drop (k + 2) ends)) ∙ ap (λ t. w.lines ++ t) (sym (rails-next ends k h)) ∙ w.left;
      short = omega (arith, w.short);
    }

pub written_all : {ends : List Bay} {before after : List ℕ} {at last : ℕ} (k : ℕ) → length ends ≤ k + 1 → Written ends before at k after last → Wrote before at (rail_lines ends) after last
written_all {ends} {before} {after} {at} {last} k h w =
    let none_left : rail_lines (drop k ends) ≡ [] = rails-none (drop k ends) (rw (length-drop k ends) (omega arith)) in
    let all : w.lines ≡ rail_lines ends = sym (append-nil w.lines) ∙ ap (λ t. w.lines ++ t) (sym none_left) ∙ w.left in
    rw all at w.wrote

pub file-parts : (n : ℕ) (ends : List Bay) → ended (head_line n (length ends / 2) ∷ []) ++ rail_lines ends ≡ survey_of n ends
unfolding survey_of rail_lines ended
file-parts n ends = append_assoc (head_line n (length ends / 2)) (LF ∷ []) (ended (map rail_line (rails_of ends)))
