-- What takes the contract of `open_on` to the contract of `sejjekoru_open`, and to what `fill` requires. Only this file reads the fields of `OpenOn`.
-- Assumes nothing.
use mathlib.Core.Path.{◌≡◌, refl, sym, subst}
use mathlib.Core.List.{List, ◌++◌}
use Prim.Native.Nat.{ℕ, ◌≤◌}
use lib.ListN.{length, take, drop}
use Rattle.paper.specs.Limits.{most_bays}
use Rattle.paper.specs.Order.{Order}
use Rattle.bills.specs.declared.Line.{Line}
use Rattle.bills.specs.declared.Record.{Record}
use Rattle.held_lines.specs.declared.HeldLines.{HeldLines}
use Rattle.sejjekoru.specs.declared.ToldOpening.{ToldOpening}
use Rattle.sejjekoru.specs.Bills.{OpenOn, OpenTells}

-- the held lines over the first of the lent ones, as `fill` leaves them
abbrev pub filled : HeldLines → List Line → List Line
filled held lines = take held.count held.lines ++ drop held.count lines

module _ (o : Order) (plan marks : List ℕ) (rec : Record) (lines : List Line) (r : ToldOpening) (value : ℕ) where
  abbrev pub On : Type 0
  On = OpenOn o plan marks rec (length lines) r value

  -- what `fill` requires of the lines held
  pub held-few : On → r.held.count ≤ most_bays
  held-few on = on.few

  pub held-room : On → r.held.count ≤ length lines
  held-room on = on.room

  pub held_whole : On → length r.held.lines ≡ most_bays
  held_whole on = on.whole

  pub may-fill : On → (r.held.count ≤ most_bays) × (r.held.count ≤ length lines) × (length r.held.lines ≡ most_bays)
  may-fill on = (held-few on, held-room on, held_whole on)

  pub open-says : On → OpenTells o plan marks rec lines r.number value r.record (filled r.held lines)
  open-says on = record { tells = on.tells; record_then = on.record_then; lines_then = on.lines_then lines refl }

  -- the same at lines that are known to be those
  pub open-tells : On → (lines' : List Line) → lines' ≡ filled r.held lines → OpenTells o plan marks rec lines r.number value r.record lines'
  open-tells on lines' e = subst (λ (ls : List Line). OpenTells o plan marks rec lines r.number value r.record ls) (sym e) (open-says on)
