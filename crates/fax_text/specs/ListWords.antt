-- What the words of the command `list` ask for.
use Rattle.std.specs.Prelude.{◌≡◌, List, codes, Some}
use Rattle.clap.specs.Simple.{App, new_app, with_rule}
use Rattle.clap.specs.Walk.{Row, first_of}
use Rattle.fax_text.specs.Option.{long_option, number_or_none, required}
use Rattle.fax_text.specs.Server.{file_names, files_in, with_files}
use Rattle.fax_text.specs.declared.list_words.ListPlan.{ListPlan}

-- `list --db FILE [--moment SECONDS] [--setup FILE] [--controls FILE]`
abbrev pub list_command : App
list_command = with_files (with_rule (with_rule (new_app (codes "list")) (required (long_option (codes "db")))) (long_option (codes "moment")))

-- the plan has what the options say
pub record IsListPlan (rows : List Row) (plan : ListPlan) : Type 0 where
  pub files : file_names plan.files ≡ files_in rows
  pub database : first_of (codes "db") rows ≡ Some plan.database.now
  pub moment : number_or_none (first_of (codes "moment") rows) ≡ Some plan.moment
