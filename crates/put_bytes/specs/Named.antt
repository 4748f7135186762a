-- What is written at once: a text and a number behind it.
-- Assumes nothing.
use Rattle.std.specs.Prelude.{◌++◌, ℕ}
use Rattle.paper.specs.Text.{Text}
use Rattle.paper.specs.Print.{decimal}

-- a text and a number behind it
unfoldable pub named : Text → ℕ → Text
named t n = t ++ decimal n
