-- What the C functions for surveyors' files tell: the answer by its number and value, and what is left in the lent lists.
-- Assumes nothing.
use Rattle.std.specs.Prelude.{List, ◌≡◌, ℕ, length}
use Rattle.paper.specs.Yard.{Bay}
use Rattle.paper.specs.Text.{Text}
use Rattle.numbers.specs.Numbers.{verdict_number, verdict_value}
use Rattle.numbers.specs.Tells.{Tells}
use Rattle.survey.specs.Survey.{read_survey}
use Rattle.surveying.specs.Says.{read_answer, read_bays, read_left, write_answer, write_left}
use Rattle.sejjekoru.specs.Statements.{TellsAndLeaves}

pub record ReadSurveyTells (file : Text) (before : List ℕ) (number value bays : ℕ) (after : List ℕ) : Type 0 where
  pub tells : Tells (verdict_number (read_answer (read_survey file) (length before))) (verdict_value (read_answer (read_survey file) (length before))) number value
  pub counted : bays ≡ read_bays (read_survey file) (length before)
  pub leaves : after ≡ read_left (read_survey file) before

abbrev pub WriteSurveyTells : ℕ → List Bay → List ℕ → ℕ → ℕ → List ℕ → Type 0
WriteSurveyTells n ends before =
    let answer = write_answer n ends (length before) in
    TellsAndLeaves (verdict_number answer) (verdict_value answer) (write_left n ends before)
