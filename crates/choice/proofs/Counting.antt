-- A bay's row names its neighbours and no bay above the yard's: so the members of the row are the bay's rails.
-- Assumes nothing.
use mathlib.Core.Path.{◌≡◌, refl, sym, ap, ◌∙◌}
use mathlib.Core.List.{List, [], ◌++◌}
use Prim.Native.Nat.{ℕ, ◌+◌, ◌-◌, ◌*◌, ◌/◌, ◌%◌, ◌≤◌, ◌<◌}
use native.Mathlib.Omega.{arith}
use lib.ListN.{length, get_or, take, drop, length-append, length-drop}
use lib.Seq.{length-take-le, get_or-take, get_or-drop}
use Rattle.paper.specs.Basics.{filter, elem, count_from, up_to}
use Rattle.paper.specs.Yard.{Bay, Yard, joined, neighbours, rails_at}
use Rattle.paper.proofs.Admitted.{same-filter, filter-nothing}
use Rattle.paper.proofs.Members.{nothing-in-nil, filter-append, count_low, count-high}
use Rattle.paper.proofs.Tests.{by_cases}
use Rattle.words.specs.Sets.{on, mem, mem_row, members, words, span}
use Rattle.words.proofs.Sets.{mem-row, count-split}
use Rattle.yard.specs.Table.{Table}
use Rattle.choice.specs.Taking.{rails}

-- the members of the row's words
pub row-rails : (table : List ℕ) (a k : ℕ) → k ≡ words → a * words + words ≤ length table → length (members (take k (drop (a * words) table))) ≡ rails table a
unfolding members
row-rails table a k same h =
    let row : List ℕ = take words (drop (a * words) table) in
    let size : length row ≡ words = length-take-le words (drop (a * words) table) (omega (arith, length-drop (a * words) table)) in
    rw (same, size) (ap length (same-filter (mem_row table a) (mem row) (up_to span)
    (λ y k.
    let l = count-high 0 span y k in
    let e : mem row y ≡ on (get_or row (y / 64) 0) (y % 64) = unfold mem in refl in
    rw (e, get_or-take words (drop (a * words) table) (y / 64) 0 (omega arith), get_or-drop (a * words) table (y / 64) 0) (sym (mem-row table a y)))))

module _ {Y : Yard} {n : ℕ} {table : List ℕ} (t : Table Y n table) (most : n ≤ span) (v : Bay) (hv : v < n) where
  rails-below : filter (mem_row table v) (up_to n) ≡ filter (joined Y v) (up_to n)
  rails-below = same-filter (joined Y v) (mem_row table v) (up_to n) (λ y i. let h = count-high 0 n y i in t.same v y hv (omega arith))

  rails-above : filter (mem_row table v) (count_from n (span - n)) ≡ []
  rails-above =
      same-filter (λ y. elem y []) (mem_row table v) (count_from n (span - n))
      (λ y i.
      let l = count_low n (span - n) y i in
      let h = count-high n (span - n) y i in
      by_cases (mem_row table v y)
      (λ e. let k = (t.inside v y (sym (t.same v y hv (omega arith)) ∙ e)).1 in absurd (omega arith))
      (λ e. e ∙ sym (nothing-in-nil y)))
      ∙ filter-nothing (count_from n (span - n))

  pub table-rails : rails table v ≡ rails_at Y v
  unfolding neighbours
  table-rails =
      let all : n + (span - n) ≡ span = omega arith in
      let from : 0 + n ≡ n = omega arith in
      let split : up_to span ≡ up_to n ++ count_from n (span - n) = rw (all, from) at (count-split 0 n (span - n)) in
      let count : rails table v ≡ length (filter (joined Y v) (up_to n)) = rw (split, filter-append, length-append, rails-below, rails-above) (omega arith) in
      count ∙ rw t.bays
