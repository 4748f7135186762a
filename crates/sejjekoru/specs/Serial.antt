-- What the exported calls of a link promise.
-- Assumes nothing.
use Rattle.std.specs.Prelude.{◌≡◌, ℕ, leb, length}
use Rattle.paper.specs.Text.{Text, Read}
use Rattle.paper.specs.Map.{Grid}
use Rattle.numbers.specs.Numbers.{verdict_number, verdict_value}
use Rattle.numbers.specs.Tells.{Tells}
use Rattle.link.specs.declared.Link.{Link}
use Rattle.link.specs.Link.{piece_bytes, Saying, more, told, is_open, begin_saying, begin_link, piece_saying, PieceLeaves, end_saying, finish_in, EndLeaves}

-- "more" is no refusal and has no number in the table
abbrev pub more_number : ℕ
more_number = 101

abbrev pub saying_number : Saying → ℕ
saying_number more = more_number
saying_number (told v) = verdict_number v

abbrev pub saying_value : Saying → ℕ
saying_value more = 0
saying_value (told v) = verdict_value v

pub record BeginTells (map : Read Grid) (l : Link) (number value : ℕ) (l' : Link) : Type 0 where
  pub tells : Tells (saying_number (begin_saying map)) (saying_value (begin_saying map)) number value
  pub leaves : l' ≡ begin_link map l

pub record PieceTells (l : Link) (bytes : Text) (number value : ℕ) (l' : Link) : Type 0 where
  pub tells : Tells (saying_number (piece_saying (is_open l) (leb (length bytes) piece_bytes))) (saying_value (piece_saying (is_open l) (leb (length bytes) piece_bytes))) number value
  pub after : PieceLeaves l bytes l'

pub record EndTells (l : Link) (number value : ℕ) (l' : Link) : Type 0 where
  pub tells : Tells (saying_number (end_saying (is_open l) (finish_in l))) (saying_value (end_saying (is_open l) (finish_in l))) number value
  pub after : EndLeaves l l'
