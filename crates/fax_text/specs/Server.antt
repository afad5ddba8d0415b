-- What the words of the commands that serve ask for.
use Rattle.std.specs.Prelude.{◌≡◌, List, codes, Option, Some}
use Rattle.std.specs.Option.{option_copied}
use Rattle.clap.specs.Simple.{App, new_app, with_rule}
use Rattle.clap.specs.Walk.{Row, Text, first_of}
use Rattle.fax_text.specs.Option.{long_option, number_or, required}
use Rattle.fax_text.specs.declared.server.OfficeFiles.{OfficeFiles}
use Rattle.fax_text.specs.declared.server.ServePlan.{ServePlan}

-- ---- the commands

-- a command with `[--setup FILE] [--controls FILE]`
abbrev pub with_files : App → App
with_files app = with_rule (with_rule app (long_option (codes "setup"))) (long_option (codes "controls"))

abbrev pub replay_command : App
replay_command = with_files (new_app (codes "replay"))

abbrev pub settings_command : App
settings_command = with_files (new_app (codes "settings"))

-- `serve --db FILE --listen ADDRESS [--connections N] [--timeout SECONDS]`
abbrev pub serve_command : App
serve_command =
    with_files (with_rule (with_rule (with_rule (with_rule (new_app (codes "serve"))
    (required (long_option (codes "db")))) (required (long_option (codes "listen")))) (long_option (codes "connections"))) (long_option (codes "timeout")))

-- ---- what their options say

-- the names of files
abbrev pub file_names : OfficeFiles → Option Text × Option Text
file_names files = (option_copied files.setup, option_copied files.controls)

-- the files that the options of a command name
abbrev pub files_in : List Row → Option Text × Option Text
files_in rows = (first_of (codes "setup") rows, first_of (codes "controls") rows)

-- the plan has what the options say, and for those that are missing their defaults
pub record IsServePlan (rows : List Row) (plan : ServePlan) : Type 0 where
  pub files : file_names plan.files ≡ files_in rows
  pub database : first_of (codes "db") rows ≡ Some plan.database.now
  pub address : first_of (codes "listen") rows ≡ Some plan.address.now
  pub connections : number_or 1000 1 1000000 (first_of (codes "connections") rows) ≡ Some plan.connections
  pub timeout : number_or 10 1 3600 (first_of (codes "timeout") rows) ≡ Some plan.timeout
