-- `along::path_past` meets its contract. What the yard is decides which bays are held.
use Rattle.std.proofs.Common.{refl, sym, ◌∙◌, rules}
use Rattle.go.proofs.FromBelow.{free_shown}
use Rattle.along.proofs.Along.{past-held, past-none}
use Rattle.along.proofs.path_past.Goals as goal

pub returns-then-in_carousel : goal.returns-then-in_carousel
returns-then-in_carousel c =
    λ s. past-held s _ _ _ _ (sym c.if-in_carousel.true ∙ c.requires.kind_told s.yard s.joins) (c.path_between.ensures.found s)

pub path_between-requires-2 : goal.path_between-requires-2
path_between-requires-2 c =
    let asks = c.requires.path_asks in
    let shown = asks.lent.shown in
    record {
      lent = record { most = asks.lent.most; table_size = asks.lent.table_size; held_size = refl; shown = free_shown (record { yard = shown.yard; joins = shown.joins }) };
      start_inside = asks.start_inside;
      goal_inside = asks.goal_inside;
      room = asks.room;
    }

pub returns : goal.returns
returns c =
    λ s.
    let bare = free_shown (record { yard = s.yard; joins = s.joins }) in
    past-none s bare _ _ _ _ refl refl (sym c.if-in_carousel.false ∙ c.requires.kind_told s.yard s.joins) (c.path_between-2.ensures.found bare)
