-- What a line does.
use Rattle.std.specs.Prelude.{ℕ, Bool, List, Result}
use Rattle.fax_http.specs.declared.answer.Answer.{Answer}
use Rattle.fax_http.specs.declared.answer.AnswerFault.{AnswerFault}

-- what comes back for a message
abbrev pub Reply : Type 0
Reply = Result Answer AnswerFault

-- what may come back for a message that is sent while the journal is this, and the line after it
abbrev pub Carrying : Type 0 → Type 0 → Type 1
Carrying L J = L → J → List ℕ → Reply → L → Type 0

-- whether there may be another try after a pause, and the line after it
abbrev pub Pausing : Type 0 → Type 1
Pausing L = L → Bool → L → Type 0
