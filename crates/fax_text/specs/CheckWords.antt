-- What the words of the command `check` ask for.
use Rattle.std.specs.Prelude.{◌≡◌, List, codes, Some}
use Rattle.clap.specs.Simple.{App, new_app, with_rule}
use Rattle.clap.specs.Walk.{Row, first_of}
use Rattle.fax_text.specs.Option.{long_option, required}
use Rattle.fax_text.specs.declared.check_words.CheckPlan.{CheckPlan}

-- `check --db FILE`
abbrev pub check_command : App
check_command = with_rule (new_app (codes "check")) (required (long_option (codes "db")))

-- the plan has what the options say
pub record IsCheckPlan (rows : List Row) (plan : CheckPlan) : Type 0 where
  pub database : first_of (codes "db") rows ≡ Some plan.database.now
