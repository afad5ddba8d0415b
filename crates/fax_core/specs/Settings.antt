-- What the machine asks of the setup and of the destination controls. How their texts say it isn't told here.
use Rattle.std.specs.Prelude.{ℕ, Bool, List, Option}
use Rattle.std.specs.List.{list_any}
use Rattle.std.specs.Str.{bytes_eq}
use Rattle.fax_job.specs.declared.job.Call.{Call}

-- destctrls(5): what holds for a number
pub record Rule : Type 0 where
  -- how many calls there may be at a time
  pub calls : ℕ
  -- how many pages a job may have, if that is limited
  pub pages : Option ℕ
  -- why jobs are rejected, if they are
  pub notice : Option (List ℕ)
  -- the moments at which calls may begin
  pub hours : ℕ → Bool

pub record Settings : Type 0 where
  -- the rule of a canonical number
  pub rule : List ℕ → Rule
  -- whether a job's modem value admits a modem
  pub admits : List ℕ → List ℕ → Bool
  -- the names of the modems
  pub modems : List (List ℕ)
  -- how long a job waits after a grant with that call, or with none
  pub delay : Option Call → ℕ
  pub max_jobs : ℕ
  pub max_grants : ℕ
  -- how a clock of the office shows a moment
  pub shows : ℕ → List ℕ

-- whether there is such a modem
abbrev pub has_modem : Settings → List ℕ → Bool
has_modem s modem = list_any (λ name. bytes_eq name modem) s.modems
