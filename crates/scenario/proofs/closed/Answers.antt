-- the version, a carrier, a 255th carrier, a line that breaks the layout.
use Rattle.std.proofs.Common.{sym, ◌∙◌, ap}
use Rattle.paper.specs.Bytes.{carrier_of}
use Rattle.scenario.specs.Under.{bay_by, carrier_is}
use Rattle.scenario.proofs.Closing.{not-version, not-carrier, too_many, closes-broken, closes-version, closes-carrier}
use Rattle.scenario.proofs.closed.Goals as goal

pub returns-then-is_version : goal.returns-then-is_version
returns-then-is_version c =
    λ o. closes-version c.args.cells.now c.args.grid c.args.s o _ c.due.ensures c.if-s.true (sym c.is_version.ensures ∙ c.if-is_version.true)

pub returns-then-s : goal.returns-then-s
returns-then-s c =
    λ o. closes-broken c.args.cells.now c.args.grid c.args.s o _ c.broken.ensures (not-version c.args.cells.now c.args.grid c.args.s c.if-s.true (sym c.is_version.ensures ∙ c.if-is_version.false))

pub returns-in_default : goal.returns-in_default
returns-in_default c =
    let if1 = c.if-s in
    λ o. closes-broken c.args.cells.now c.args.grid c.args.s o _ c.broken-in_default.ensures (not-carrier c.args.cells.now c.args.grid c.args.s if1.false (ap carrier_is (sym c.in_default.is) ∙ (c.carrier_of-found.ensures ∙ ap (carrier_of c.args.grid.width c.args.grid.height (bay_by c.args.cells.now c.args.grid)) c.field_past-past.ensures)) c.if-count-lt-MOST.true)

pub returns-then-count-lt-MOST : goal.returns-then-count-lt-MOST
returns-then-count-lt-MOST c =
    let if3 = c.if-count-lt-MOST in
    let if1 = c.if-s in
    λ o. closes-carrier c.args.cells.now c.args.grid c.args.s _ _ _ c.due-then-count-lt-MOST.ensures if1.false if3.true (ap carrier_is (sym c.in-Some.is) ∙ (c.carrier_of-found.ensures ∙ ap (carrier_of c.args.grid.width c.args.grid.height (bay_by c.args.cells.now c.args.grid)) c.field_past-past.ensures))

pub returns : goal.returns
returns c =
    λ o. closes-broken c.args.cells.now c.args.grid c.args.s o _ c.broken-2.ensures (too_many c.args.cells.now c.args.grid c.args.s c.if-s.false c.if-count-lt-MOST.false)
