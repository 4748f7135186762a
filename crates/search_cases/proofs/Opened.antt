-- An open yard has its table, and past 4 and 5 the carriers stand at different bays of it, no more than there are bays.
use Rattle.std.proofs.Common.{Ok}
use mathlib.Core.Path.{◌≡◌, sym, ap, ◌∙◌}
use mathlib.Core.List.{List}
use mathlib.Core.Option.{none}
use Prim.Native.Nat.{ℕ, ◌*◌, ◌≤◌, ◌<◌}
use native.Mathlib.Omega.{arith}
use lib.ListN.{length, take}
use lib.Seq.{length-take-le}
use Rattle.paper.specs.Yard.{bay_of}
use Rattle.paper.specs.Order.{Order}
use Rattle.paper.specs.Docket.{yard_by}
use Rattle.paper.specs.Answers.{first_six}
use Rattle.paper.proofs.Admitted.{clean_of, good_of}
use Rattle.paper.proofs.Members.{count-high}
use Rattle.paper.proofs.Playing.{Apart}
use Rattle.words.specs.Sets.{words, span}
use Rattle.yard.specs.Table.{Table}
use Rattle.yard.specs.Opening.{Opens, opened_of}
use Rattle.yard.specs.declared.Yard.{Yard}
use Rattle.yard.specs.Opened.{Opened}
use Rattle.levels.specs.Levels.{Levelled}
use Rattle.levels.proofs.Levels.{row-take, only-rails}
use Rattle.rings.specs.Search.{Shown}
use Rattle.rings.proofs.Searching.{shown-any}

module _ {given : Order} {lent : ℕ} {o : Opened} {table : List ℕ} (w : Opens given lent o table) (y : Yard) (told : o ≡ Ok y) where
  pub opened-table : Table (yard_by y.bays given.ends) y.bays table
  opened-table = rw (w.admitted y told).bays (w.admitted y told).rows

  admitted : first_six given lent ≡ none
  admitted = sym w.answer ∙ ap opened_of told

  pub opened-apart : Apart given.starts
  opened-apart = (good_of given given.starts (clean_of given lent admitted).starts).apart

  pub opened_inside : (c : ℕ) → c < length given.starts → bay_of given.starts c < y.bays
  opened_inside c h =
      let r = count-high 0 given.bays (bay_of given.starts c) ((good_of given given.starts (clean_of given lent admitted).starts).inside c h) in
      rw (w.admitted y told).bays (omega arith)

  pub opened-few : length given.starts ≤ y.bays
  opened-few = let r = (clean_of given lent admitted).uncrowded in rw (w.admitted y told).bays (omega arith)

  -- what vacating asks, with the first bays of a longer list for those of the yard
  pub ready : (standing : List ℕ) {held : List ℕ} {x : ℕ} → y.bays ≤ span → y.bays ≤ length standing → x < y.bays → length held ≡ words
      → (length (take y.bays standing) ≤ span) × (x < length (take y.bays standing)) × (length held ≡ words)
      × (length given.starts ≤ length (take y.bays standing)) × Apart given.starts × ((c : ℕ) → c < length given.starts → bay_of given.starts c < length (take y.bays standing))
      × Shown (length (take y.bays standing)) table held
  ready standing most h hx l =
      rw (length-take-le y.bays standing h) (most, hx, l, opened-few, opened-apart, opened_inside, shown-any opened-table l)

-- ---- the rails alone

module _ (n : ℕ) (table : List ℕ) (room : n * words ≤ length table) where
  rails-size : length (take (n * words) table) ≡ n * words
  rails-size = length-take-le (n * words) table room

  pub rails-room : n * words ≤ length (take (n * words) table)
  rails-room = omega (arith, rails-size)

  -- they show the same yard
  pub shown-rails : {held : List ℕ} → Shown n table held → Shown n (take (n * words) table) held
  shown-rails s = record {
    yard = s.yard;
    bays = s.bays;
    joins = record {
      bays = s.joins.bays;
      same = λ a b h k. row-take table (n * words) a b (omega arith) k ∙ s.joins.same a b h k;
      inside = s.joins.inside;
    };
    holds = s.holds;
  }

  pub levelled-rails : 0 < n → Levelled n (take (n * words) table)
  levelled-rails h = only-rails n (take (n * words) table) h (omega (arith, rails-size))
