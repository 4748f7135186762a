use Rattle.std.proofs.Common.{◌≡◌, ◌∙◌, length, sym, ap}
use Rattle.play.proofs.Playing.{all-copied, none-settled, owners_of, plays-of}
use Rattle.play.proofs.play_on.Goals as goal

pub carry_all-requires-clause-carry_all_asks : goal.carry_all-requires-clause-carry_all_asks
carry_all-requires-clause-carry_all_asks c =
    let pre = c.requires in
    let a = pre.asks.admitted in
    let e = all-copied _ _ _ pre.placement_size c.copy.ensures in
    let kept : length c.place.new.standing ≡ length c.args.standing.now = c.place.auto.standing in
    let kept-owner : length c.place-2.new.standing ≡ length c.args.owner.now = c.place-2.auto.standing in
    record {
      each = record { many = a.goals.many ∙ sym (ap length e); apart = a.goals.apart; inside = rw kept a.goals.inside };
      owners = rw kept (owners_of pre.owner_size kept-owner c.place-2.ensures);
      loopless = rw kept a.loopless;
      reaching = rw kept a.reaching;
      below = rw e (none-settled c.args.start.now);
    }

pub returns : goal.returns
returns c =
    λ t.
    let e = all-copied _ _ _ c.requires.placement_size c.copy.ensures in
    let kept : length c.place.new.standing ≡ length c.args.standing.now = c.place.auto.standing in
    plays-of ((rw (kept, e) at c.carry_all.ensures.stages) t)
