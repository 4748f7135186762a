-- What each function makes of its part of a line.
-- Assumes nothing.
use Rattle.std.specs.Prelude.{Bool, true, false, List, [], ◌∷◌, ◌≡◌, ℕ, ◌+◌, ◌-◌, ◌*◌, ◌≤◌, ◌<◌, leb, length, take, drop, if◌then◌else◌, None, Some}
use Rattle.std.proofs.Math.Option.{Option, none, some}
use Rattle.paper.specs.Basics.{◌and◌}
use Rattle.paper.specs.Yard.{crossing, pack}
use Rattle.paper.specs.Text.{Text, text, split, same, is_digit}
use Rattle.paper.specs.Print.{number_after}
use Rattle.line_entries.specs.Entries.{most_carrier, most_bay}
use Rattle.line_entries.specs.declared.Entry.{Entry}
use Rattle.line_entries.specs.declared.Entry.TheVariants.{Number, Broken}
use Rattle.line_entries.specs.Figure.{Figure}

-- ## Numbers

abbrev pub figure : Bool → ℕ → Figure
figure true n = Some n
figure false n = None

-- one digit more, and not over the most
unfoldable pub digit_on : ℕ → ℕ → ℕ → Figure
digit_on most n b = figure (is_digit b and leb (n * 10 + (b - 48)) most) (n * 10 + (b - 48))

-- a number that is not over the most
abbrev pub capped : ℕ → Option ℕ → Figure
capped most none = None
capped most (some n) = figure (leb n most) n

-- ## Pieces

-- the place of the first byte t, or the end: where the pieces between such bytes are cut
pub record Cut (t : ℕ) (l : Text) (place : ℕ) : Type 0 where
  pub within : place ≤ length l
  pub found : place < length l → split t l ≡ take place l ∷ split t (drop (place + 1) l)
  pub whole : length l ≤ place → split t l ≡ l ∷ []

-- ## The words of an action, from the last on

abbrev pub entered : ℕ → ℕ → Figure → Entry
entered c a None = Broken
entered c a (Some b) = Number (pack (crossing c a b))

abbrev pub to_entry : ℕ → ℕ → List Text → Entry
to_entry c a [] = Broken
to_entry c a (w ∷ []) = entered c a (capped most_bay (number_after 98 w))
to_entry c a (w ∷ v ∷ ws) = Broken

abbrev pub left : ℕ → Figure → List Text → Entry
left c None ws = Broken
left c (Some a) ws = to_entry c a ws

abbrev pub from_entry : ℕ → List Text → Entry
from_entry c [] = Broken
from_entry c (w ∷ []) = Broken
from_entry c (w ∷ v ∷ ws) = left c (capped most_bay (number_after 98 w)) (v ∷ ws)

abbrev pub moved : Figure → List Text → Entry
moved None ws = Broken
moved (Some c) ws = from_entry c ws

abbrev pub carrier_entry : List Text → Entry
carrier_entry [] = Broken
carrier_entry (w ∷ []) = Broken
carrier_entry (w ∷ v ∷ ws) = moved (capped most_carrier (number_after 99 w)) (v ∷ ws)

abbrev pub words_entry : List Text → Entry
words_entry [] = Broken
words_entry (w ∷ []) = Broken
words_entry (w ∷ v ∷ ws) = if same w (text "(move") then carrier_entry (v ∷ ws) else Broken
