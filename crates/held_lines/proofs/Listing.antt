-- The lines of the first carriers, from counts and last names: each stands at its place, and with the counts and names worked out afresh they are the lines
-- worked out afresh.
use mathlib.Core.Path.{◌≡◌, sym, ◌∙◌, ap, ap₂}
use mathlib.Core.List.{List}
use Prim.Native.Nat.{ℕ, ◌<◌, ◌≤◌, ◌+◌}
use native.Mathlib.Omega.{arith}
use native.Mathlib.Numerals.{add-one}
use lib.ListN.{length, get_or, set, length-map}
use lib.Seq.{ext_get_or}
use Rattle.paper.specs.Basics.{up_to}
use Rattle.paper.specs.Limits.{most_bays}
use Rattle.paper.specs.Yard.{Carrier, Crossing}
use Rattle.paper.specs.Dependence.{done_of, count_of}
use Rattle.paper.proofs.Reach.{count-length}
use Rattle.bills.specs.Billing.{no_line, untouched, last_done, lines_of, line_of}
use Rattle.bills.specs.declared.Line.{Line}
use Rattle.bills.proofs.Stepping.{count_at, line-at, lines_long, line-parts}
use Rattle.held_lines.specs.Lines.{held_of, top_of, listed, gathered}
use Rattle.held_lines.proofs.Laid.{read_to, one-more-read, all_read}

module _ (k : ℕ) (billed last : List ℕ) where
  abbrev line_for : Carrier → Line
  line_for c = record { carrier = c; billed = get_or billed c 0; last = get_or last c 0 }

  pub listed-long : length (listed k billed last) ≡ k
  listed-long = length-map (up_to k) line_for ∙ count-length 0 k

  pub listed_at : (c : Carrier) → c < k → get_or (listed k billed last) c no_line ≡ line_for c
  listed_at c h = count_at line_for 0 k c no_line h ∙ ap line_for (omega arith)

  pub listing-on : (lines : List Line) (c : ℕ) → lines ≡ read_to (listed k billed last) c → c < k → set lines c (line_for c) ≡ read_to (listed k billed last) (c + 1)
  listing-on lines c so_far h =
      rw (add-one c)
      (ap₂ (λ (a : List Line) (b : Line). set a c b) so_far (sym (listed_at c h)) ∙ one-more-read (listed k billed last) c no_line (rw listed-long h))

  pub listing-end : (lines : List Line) (c : ℕ) → lines ≡ read_to (listed k billed last) c → k ≤ most_bays → c ≡ k → held_of k lines ≡ gathered (listed k billed last)
  listing-end lines c so_far few end =
      let all : c ≡ top_of (length (listed k billed last)) = omega (arith, listed-long) in
      ap₂ held_of (sym listed-long) (so_far ∙ ap (read_to (listed k billed last)) all) ∙ all_read (listed k billed last)

  pub listed-afresh : (xs : List Crossing) (ms : List ℕ) → k ≤ most_bays
      → ((c : Carrier) → c < most_bays → get_or billed c 0 ≡ count_of c (done_of xs ms))
      → ((c : Carrier) → c < most_bays → get_or last c 0 ≡ last_done c untouched 0 xs ms)
      → listed k billed last ≡ lines_of k xs ms
  listed-afresh xs ms few counts names =
      ext_get_or no_line (listed k billed last) (lines_of k xs ms) (listed-long ∙ sym (lines_long k xs ms))
      (λ c h.
      let in-k : c < k = omega (arith, h, listed-long) in
      listed_at c in-k
      ∙ line-parts (line_for c) (line_of xs ms c) refl-number (counts c (omega (arith, in-k, few))) (names c (omega (arith, in-k, few)))
      ∙ sym (line-at k xs ms c no_line in-k))
    where
      refl-number : {c : ℕ} → c ≡ c
      refl-number = omega arith
