use Rattle.std.proofs.Common.{◌≡◌, ◌∙◌, ◌+◌, suc, max, get_or, ap, rules, add-one}
use lib.ListN.{set}
use Rattle.docket.specs.Reading.{crossing_of}
use Rattle.slots.specs.Turn.{slot_after}
use Rattle.slots.proofs.next_slot.Goals as goal

pub overflow_add-slot : goal.overflow_add-slot
unfolding slot_after
overflow_add-slot c = search rules

pub returns : goal.returns
unfolding slot_after
returns c =
    let s = c.args in
    let highest = c.max-slot.ensures ∙ ap (max (get_or s.carriers.now s.x.carrier.0 0)) c.max.ensures in
    let e : c.max-slot.result + 1 ≡ slot_after s.carriers.now s.bays.now (crossing_of s.x) =
    add-one c.max-slot.result ∙ ap suc highest in
    record {
      slot = e;
      of_carriers = ap (set s.carriers.now s.x.carrier.0) e;
      of_bays = ap (λ v. set (set s.bays.now s.x.from.0 v) s.x.to.0 v) e;
    }
