use Rattle.std.proofs.Common.{◌≡◌, ℕ, List, ◌∙◌, ap, arith}
use lib.ListN.{length-map}
use Rattle.paper.specs.Basics.{find, up_to}
use Rattle.paper.specs.Yard.{Crossing, unpack, crossings, named}
use Rattle.paper.specs.Dependence.{undone_before}
use Rattle.plans.proofs.Found.{found_some, found_none}
use Rattle.marks.proofs.Telling.{waits_for, told-unknown, told-already, told-early, told-accept}
use Rattle.marks.proofs.tell_in_order.Goals as goal

-- what is found for the crossing is what is found for its name
same-search : (xs : List Crossing) (marks : List ℕ) (name : ℕ) (x : Crossing) → x ≡ named xs name → find (waits_for xs marks x) (up_to name) ≡ undone_before xs marks name
unfolding undone_before
same-search xs marks name x is = ap (λ y. find (waits_for xs marks y) (up_to name)) is

pub returns-in_default : goal.returns-in_default
returns-in_default c = told-unknown (crossings c.args.plan.now) c.args.marks.now c.args.name (found_none (crossings c.args.plan.now) c.args.name c.in_default.ensures)

pub bounds-marks-at : goal.bounds-marks-at
bounds-marks-at c = let t = found_some _ _ _ c.in-Some.ensures in omega (arith, t.0, length-map c.args.plan.now unpack)

pub returns-then-marks-at-eq1 : goal.returns-then-marks-at-eq1
returns-then-marks-at-eq1 c =
    let t = found_some _ _ _ c.in-Some.ensures in
    told-already (crossings c.args.plan.now) c.args.marks.now c.args.name t.0 c.if-marks-at-eq1.true

pub undone_before-earlier-requires : goal.undone_before-earlier-requires
undone_before-earlier-requires c =
    let t = found_some _ _ _ c.in-Some.ensures in
    (omega (arith, t.0, length-map c.args.plan.now unpack), c.requires)

pub returns-in-Some-earlier : goal.returns-in-Some-earlier
returns-in-Some-earlier c =
    let t = found_some _ _ _ c.in-Some.ensures in
    told-early (crossings c.args.plan.now) c.args.marks.now c.args.name t.0 c.if-marks-at-eq1.false _
    (c.in-Some-earlier.ensures ∙ same-search (crossings c.args.plan.now) c.args.marks.now c.args.name _ t.1)

pub returns-in-None : goal.returns-in-None
returns-in-None c =
    let t = found_some _ _ _ c.in-Some.ensures in
    told-accept (crossings c.args.plan.now) c.args.marks.now c.args.name t.0 c.if-marks-at-eq1.false
    (c.in-None.ensures ∙ same-search (crossings c.args.plan.now) c.args.marks.now c.args.name _ t.1)
