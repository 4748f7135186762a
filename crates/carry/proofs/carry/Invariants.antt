-- The way home starts where r's path ends. The bays from here on are looked after, and the rest of the finished carriers are home or one bay back.
use Rattle.std.proofs.Common.{◌≡◌, List, ℕ, [], ◌∷◌, ◌++◌, ◌+◌, ◌-◌, ◌*◌, ◌≤◌, length, drop}
use Rattle.paper.proofs.Playing.{Apart}
use Rattle.moving.specs.Bounds.{swap_most}
use Rattle.acting.specs.Acting.{Tabled}
use Rattle.home.specs.FromBelow.{BaysBelow}
use Rattle.home.specs.Homing.{Owners}
use Rattle.home.proofs.Homing.{Homed}
use Rattle.home.proofs.Settling.{Settled, Homeward}
use Rattle.carry.proofs.Carrying.{between}
use Rattle.carry.proofs.carry.Given as goal

abbrev pub invariant-loop-i : goal.invariant-loop-i
invariant-loop-i l = record {
  few : l.count.crossings + swap_most * l.i ≤ l.initial.count.crossings + swap_most * (l.k - 1);
  settled : (goals : List ℕ) (h : Homeward (length l.initial.standing) l.table goals l.finished (between l.k l.path) l.initial.placement)
      → Apart goals
      → l.finished ≤ length goals
      → length l.initial.placement ≡ length goals
      → Owners (length l.initial.standing) goals l.owner
      → Settled goals l.finished h.first (between l.k l.path ++ (h.last ∷ [])) (drop (l.i - 1) (between l.k l.path) ++ (h.last ∷ [])) l.placement;
  homed : (t : Tabled (length l.initial.standing) l.table) (goals : List ℕ)
      → l.finished ≤ length goals
      → Owners (length l.initial.standing) goals l.owner
      → Homed t.yard goals l.finished (between l.k l.path) (length l.initial.standing) l.initial.placement l.initial.out l.initial.count (l.i - 1) l.placement l.standing l.empty l.out l.count;
  below : BaysBelow l.finished l.placement l.settled;
}
