-- Any two answers that shortening's statement allows are equal, and so are what they leave: an answer reads in one way only, since it can be
-- read back.
use mathlib.Core.List.{List}
use Prim.Native.Nat.{ℕ}
use lib.ListN.{length}
use Rattle.paper.specs.Order.{Order}
use Rattle.paper.specs.Answers.{told}
use Rattle.paper.proofs.Determined.{Determined, determined-by}
use Rattle.docket.specs.Reading.{verdict_of}
use Rattle.docket.proofs.Telling.{verdict-tells}
use Rattle.trips.specs.Shortening.{shortening, shortening_end}
use Rattle.shorten.specs.Statements.{ShortenSays}

module _ (o : Order) (plan marks out : List ℕ) where
  pub shorten-determined : Determined (λ a l. ShortenSays o plan marks out a l)
  shorten-determined a b l m p q =
      determined-by verdict_of verdict-tells (told (shortening o plan marks (length out)))
      (shortening_end o plan marks out) a b l m (p.answers, p.ends_as) (q.answers, q.ends_as)
