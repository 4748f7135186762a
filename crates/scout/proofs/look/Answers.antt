-- `scout::look` meets its contract. It goes on from where the scout stands, on copies; what they show at the junction its room shows then.
use Rattle.std.proofs.Common.{◌≡◌, refl, sym, ◌∙◌, ap, ◌++◌, false, ℕ, List, ◌+◌, ◌-◌, ◌≤◌, ◌<◌, arith, length, take, drop, length-drop, length-take-le, rules}
use Rattle.words.specs.Sets.{span}
use Rattle.acting.proofs.Holding.{ready-again}
use Rattle.attempts.specs.declared.Lead.{Lead}
use Rattle.scout.specs.declared.Scout.{Scout}
use Rattle.scout.specs.Scouting.{placement_in, standing_in, LookAsks}
use Rattle.scout.proofs.Fronts.{front_long, front-stands, all-long, copied, part_of}
use Rattle.scout.proofs.look.Goals as goal

module _ {table way : List ℕ} {lead : Lead} {k n : ℕ} {scout : Scout} {room : List ℕ} (z : LookAsks table way lead k n scout room) where
  -- the copies show what the room shows
  placement-long : length (placement_in k room) ≡ k
  placement-long = length-take-le _ _ (omega (arith, z.carriers_fit, z.sized.room_size))

  standing-long : length (standing_in n room) ≡ n
  standing-long = length-take-le _ _ (omega (arith, z.bays_fit, z.sized.room_size, length-drop span room))

  bays-copied : (to : List ℕ) → take (length (take k room)) to ≡ take k room → take k to ≡ placement_in k room
  bays-copied to e = copied _ _ to _ refl placement-long e

  carriers-copied : (to : List ℕ) → take (length (take ((span + n) - span) (drop span room))) to ≡ take ((span + n) - span) (drop span room) → take n to ≡ standing_in n room
  carriers-copied to e = copied _ _ to _ (part_of room span n) standing-long e

  -- what the pair leaves of them
  module _ (to front : List ℕ) (whole : length to ≡ span) where
    module _ (same : length front ≡ length (take k to)) where
      bays-long : length front ≡ k
      bays-long = front_long to front k (omega (arith, z.carriers_fit, whole)) same

      bays-stand : take k (front ++ drop k to) ≡ front
      bays-stand = front-stands to front k (omega (arith, z.carriers_fit, whole)) same

      bays-lend : k ≤ length (front ++ drop k to)
      bays-lend = omega (arith, z.carriers_fit, whole, all-long to front k (omega (arith, z.carriers_fit, whole)) same)

    module _ (same : length front ≡ length (take n to)) where
      carriers-long : length front ≡ n
      carriers-long = front_long to front n (omega (arith, z.bays_fit, whole)) same

      carriers-stand : take n (front ++ drop n to) ≡ front
      carriers-stand = front-stands to front n (omega (arith, z.bays_fit, whole)) same

      carriers-lend : n ≤ length (front ++ drop n to)
      carriers-lend = omega (arith, z.bays_fit, whole, all-long to front n (omega (arith, z.bays_fit, whole)) same)

-- ## The needs

pub slice_bounds-copy-end : goal.slice_bounds-copy-end
slice_bounds-copy-end c = refl

pub slice_bounds-copy-end-2 : goal.slice_bounds-copy-end-2
slice_bounds-copy-end-2 c = let z = c.requires in omega (arith, z.carriers_fit, z.sized.room_size)

pub slice_bounds-copy-end-3 : goal.slice_bounds-copy-end-3
slice_bounds-copy-end-3 c = let z = c.requires in sym (length-take-le _ _ (omega (arith, z.carriers_fit, z.sized.room_size)))

pub slice_bounds-copy-end-4 : goal.slice_bounds-copy-end-4
slice_bounds-copy-end-4 c = refl

pub slice_bounds-copy-count : goal.slice_bounds-copy-count
slice_bounds-copy-count c = omega arith

pub slice_bounds-copy-start : goal.slice_bounds-copy-start
slice_bounds-copy-start c = omega arith

pub slice_bounds-copy-end-5 : goal.slice_bounds-copy-end-5
slice_bounds-copy-end-5 c = let z = c.requires in omega (arith, z.bays_fit, z.sized.room_size)

pub slice_bounds-bays-end : goal.slice_bounds-bays-end
slice_bounds-bays-end c = omega (arith, c.requires.carriers_fit, c.copy.auto.to)

pub slice_bounds-advance-end : goal.slice_bounds-advance-end
slice_bounds-advance-end c = sym (length-take-le _ _ (omega (arith, c.requires.carriers_fit, c.copy.auto.to)))

pub slice_bounds-carriers-end : goal.slice_bounds-carriers-end
slice_bounds-carriers-end c = omega (arith, c.requires.bays_fit, c.copy-2.auto.to)

pub slice_bounds-advance-end-2 : goal.slice_bounds-advance-end-2
slice_bounds-advance-end-2 c = sym (length-take-le _ _ (omega (arith, c.requires.bays_fit, c.copy-2.auto.to)))

pub slice_bounds-advance-end-3 : goal.slice_bounds-advance-end-3
slice_bounds-advance-end-3 c = sym c.requires.sized.empty_size

pub advance-entered-requires : goal.advance-entered-requires
advance-entered-requires c =
    let z = c.requires in
    let bp = bays-copied c.requires _ c.copy.ensures in
    let bw = carriers-copied c.requires _ c.copy-2.ensures in
    let op = placement-long c.requires in
    let ow = standing-long c.requires in
    record {
      ready = rw (bp, bw) z.ready;
      advance_asks = record { leads = rw (bp, op) z.leads; follows = rw (bp, op) z.follows; differ = z.differ; inside = rw (bw, ow) z.inside };
    }

pub returns-then-entered-way : goal.returns-then-entered-way
returns-then-entered-way c =
    let z = c.requires in
    let a = c.advance-entered.ensures in
    let h = c.if-entered-way.true in
    record {
      sized = z.sized;
      most = a.most;
      stops = λ l t. (rw (bays-copied c.requires _ c.copy.ensures, carriers-copied c.requires _ c.copy-2.ensures, standing-long c.requires) at a.stops) l t;
      stays = λ l. (refl, refl);
      gone = λ e. absurd (omega (arith, e, h));
      there = λ e. absurd (omega (arith, e, h));
      far = λ e. absurd (omega (arith, e, h));
      unfit = λ e. absurd (omega (arith, e, h));
    }

pub slice_bounds-bays-end-2 : goal.slice_bounds-bays-end-2
slice_bounds-bays-end-2 c = bays-lend c.requires _ _ c.copy.auto.to c.advance-entered.auto.placement

pub slice_bounds-show-end : goal.slice_bounds-show-end
slice_bounds-show-end c = sym (ap length (bays-stand c.requires _ _ c.copy.auto.to c.advance-entered.auto.placement) ∙ bays-long c.requires _ _ c.copy.auto.to c.advance-entered.auto.placement)

pub slice_bounds-carriers-end-2 : goal.slice_bounds-carriers-end-2
slice_bounds-carriers-end-2 c = carriers-lend c.requires _ _ c.copy-2.auto.to c.advance-entered.auto.standing

pub slice_bounds-show-end-2 : goal.slice_bounds-show-end-2
slice_bounds-show-end-2 c = sym (ap length (carriers-stand c.requires _ _ c.copy-2.auto.to c.advance-entered.auto.standing) ∙ carriers-long c.requires _ _ c.copy-2.auto.to c.advance-entered.auto.standing)

pub show-requires : goal.show-requires
show-requires c =
    let z = c.requires in
    record {
      carriers_fit = rw (bays-stand c.requires _ _ c.copy.auto.to c.advance-entered.auto.placement, bays-long c.requires _ _ c.copy.auto.to c.advance-entered.auto.placement) z.carriers_fit;
      bays_fit = rw (carriers-stand c.requires _ _ c.copy-2.auto.to c.advance-entered.auto.standing, carriers-long c.requires _ _ c.copy-2.auto.to c.advance-entered.auto.standing) z.bays_fit;
      room_size = z.sized.room_size;
    }

pub overflow_add-rails : goal.overflow_add-rails
overflow_add-rails c = omega (arith, c.requires.short)

pub slice_bounds-bays-end-3 : goal.slice_bounds-bays-end-3
slice_bounds-bays-end-3 c = bays-lend c.requires _ _ c.copy.auto.to c.advance-entered.auto.placement

pub slice_bounds-clears-end : goal.slice_bounds-clears-end
slice_bounds-clears-end c = sym (ap length (bays-stand c.requires _ _ c.copy.auto.to c.advance-entered.auto.placement) ∙ bays-long c.requires _ _ c.copy.auto.to c.advance-entered.auto.placement)

pub slice_bounds-carriers-end-3 : goal.slice_bounds-carriers-end-3
slice_bounds-carriers-end-3 c = carriers-lend c.requires _ _ c.copy-2.auto.to c.advance-entered.auto.standing

pub slice_bounds-clears-end-2 : goal.slice_bounds-clears-end-2
slice_bounds-clears-end-2 c = sym (ap length (carriers-stand c.requires _ _ c.copy-2.auto.to c.advance-entered.auto.standing) ∙ carriers-long c.requires _ _ c.copy-2.auto.to c.advance-entered.auto.standing)

pub slice_bounds-clears-end-3 : goal.slice_bounds-clears-end-3
slice_bounds-clears-end-3 c = sym (c.advance-entered.auto.empty ∙ c.requires.sized.empty_size)

pub clears-requires : goal.clears-requires
clears-requires c =
    let z = c.requires in
    let advance = c.advance-entered in
    let fp = bays-stand c.requires _ _ c.copy.auto.to c.advance-entered.auto.placement in
    let fw = carriers-stand c.requires _ _ c.copy-2.auto.to c.advance-entered.auto.standing in
    let lp = bays-long c.requires _ _ c.copy.auto.to c.advance-entered.auto.placement in
    let lw = carriers-long c.requires _ _ c.copy-2.auto.to c.advance-entered.auto.standing in
    let bp = bays-copied c.requires _ c.copy.ensures in
    let bw = carriers-copied c.requires _ c.copy-2.ensures in
    let ow = standing-long c.requires in
    let all : advance.result ≡ length c.args.way.now = omega (arith, c.if-entered-way.false, advance.ensures.most) in
    let g = (rw (bp, bw) at advance.ensures.gone) all z.ready.tabled in
    record {
      ready = rw (fp, fw) (ready-again z.ready _ _ _ (lw ∙ sym ow) advance.auto.empty g.placed);
      clears_asks = record { leads = rw (fp, lp) z.leads; follows = rw (fp, lp) z.follows; differ = z.differ; inside = rw (fw, lw) z.junction_inside };
    }

pub returns : goal.returns
returns c =
    let z = c.requires in
    let advance = c.advance-entered in
    let show = c.show in
    let fp = bays-stand c.requires _ _ c.copy.auto.to c.advance-entered.auto.placement in
    let fw = carriers-stand c.requires _ _ c.copy-2.auto.to c.advance-entered.auto.standing in
    let lp = bays-long c.requires _ _ c.copy.auto.to c.advance-entered.auto.placement in
    let lw = carriers-long c.requires _ _ c.copy-2.auto.to c.advance-entered.auto.standing in
    let sp = rw (fp, lp) at show.ensures.same_placement in
    let sw = rw (fw, lw) at show.ensures.same_standing in
    let all : advance.result ≡ length c.args.way.now = omega (arith, c.if-entered-way.false, advance.ensures.most) in
    record {
      sized = record {
        room_size = show.auto.room ∙ z.sized.room_size;
        empty_size = advance.auto.empty ∙ z.sized.empty_size;
      };
      most = advance.ensures.most;
      stops = λ l. absurd (omega (arith, l, all));
      stays = λ l. absurd (omega (arith, l, all));
      gone = λ e t. rw (sp, sw) ((rw (bays-copied c.requires _ c.copy.ensures, carriers-copied c.requires _ c.copy-2.ensures, standing-long c.requires) at advance.ensures.gone) e t);
      there = λ e. refl;
      far = λ e. refl;
      unfit = λ e f. rw (sp, sw) ((rw (fp, fw) at c.clears.ensures) f);
    }
