-- What the words of the command line ask for, read as clap reads them.
use Rattle.std.specs.Prelude.{◌≡◌, ◌⊎◌, ℕ, true, List, [], codes, Option, Some, option_and_then, unwrap_or, Result, Ok, Err, string_bytes, ⊤}
use Rattle.std.specs.Option.{option_copied}
use Rattle.clap.specs.Faults.{fault_of}
use Rattle.clap.specs.Kinds.{IsAmong}
use Rattle.clap.specs.Simple.{App, new_app, on_top, subcommand_of, with_rule, with_subcommand}
use Rattle.clap.specs.Walk.{Row, Text, first_of}
use Rattle.clap.specs.declared.error.kind.ErrorKind.{ErrorKind}
use Rattle.clap.specs.declared.error.kind.ErrorKind.TheVariants.{DisplayHelp, DisplayVersion, OutOfMemory}
use Rattle.fax_text.specs.declared.check_words.CheckPlan.{CheckPlan}
use Rattle.fax_text.specs.declared.client_words.PostPlan.{PostPlan}
use Rattle.fax_text.specs.declared.client_words.WorkerPlan.{WorkerPlan}
use Rattle.fax_text.specs.declared.import_words.ImportPlan.{ImportPlan}
use Rattle.fax_text.specs.declared.list_words.ListPlan.{ListPlan}
use Rattle.fax_text.specs.declared.sendfax.SendPlan.{SendPlan}
use Rattle.fax_text.specs.declared.server.ServePlan.{ServePlan}
use Rattle.fax_text.specs.CheckWords.{IsCheckPlan, check_command}
use Rattle.fax_text.specs.ClientWords.{IsPostPlan, IsWorkerPlan, post_command, worker_command}
use Rattle.fax_text.specs.ImportWords.{IsImportPlan, import_command}
use Rattle.fax_text.specs.ListWords.{IsListPlan, list_command}
use Rattle.fax_text.specs.Misuse.{IsMisuseOf, usage_line}
use Rattle.fax_text.specs.Option.{long_option, number_or_none, number_from, number_or, required, short_option}
use Rattle.fax_text.specs.Server.{IsServePlan, file_names, files_in, replay_command, serve_command, settings_command}
use Rattle.fax_text.specs.declared.words.Misuse.{Misuse}
use Rattle.fax_text.specs.declared.words.Misuse.TheVariants as misuse
use Rattle.fax_text.specs.declared.words.Plan.{Plan}
use Rattle.fax_text.specs.declared.words.Plan.TheVariants.{Check, List as ListJobs, Replay, Serve, Sendfax, Import, Settings, Worker, Post}
use Rattle.fax_text.specs.declared.words.WordsFault.{WordsFault}
use Rattle.fax_text.specs.declared.words.WordsFault.TheVariants.{Help, Usage, NoMemory}

-- ---- the commands

-- `-d NUMBER --pages PAGES [-i TAG]`
abbrev pub with_fax : App → App
with_fax app = with_rule (with_rule (with_rule app (required (short_option (codes "destination") 100))) (required (long_option (codes "pages")))) (short_option (codes "tag") 105)

-- `[-P PRIORITY] [-t TRIES] [-T DIALS]`
abbrev pub with_limits : App → App
with_limits app = with_rule (with_rule (with_rule app (short_option (codes "priority") 80)) (short_option (codes "tries") 116)) (short_option (codes "dials") 84)

-- `[-a TIME] [-k TIME] [--moment SECONDS]`
abbrev pub with_times : App → App
with_times app = with_rule (with_rule (with_rule app (short_option (codes "at") 97)) (short_option (codes "kill") 107)) (long_option (codes "moment"))

-- `--request NUMBER [--client NAME] [--to ADDRESS]`
abbrev pub with_request : App → App
with_request app = with_rule (with_rule (with_rule app (required (long_option (codes "request")))) (long_option (codes "client"))) (long_option (codes "to"))

abbrev pub sendfax_command : App
sendfax_command = with_request (with_times (with_limits (with_fax (new_app (codes "sendfax")))))

-- `faxqd COMMAND`
abbrev pub program : App
program =
    with_subcommand (with_subcommand (with_subcommand (with_subcommand (with_subcommand (with_subcommand (with_subcommand (with_subcommand (with_subcommand (on_top (λ s. record s { subcommand_required = true; has_version = true }) (new_app (codes "faxqd")))
    replay_command.top) serve_command.top) list_command.top) check_command.top) sendfax_command.top) import_command.top) settings_command.top) worker_command.top) post_command.top

-- ---- what the words ask for

-- the plan has what the options say, and for those that are missing their defaults
pub record IsSendPlan (rows : List Row) (plan : SendPlan) : Type 0 where
  pub destination : first_of (codes "destination") rows ≡ Some plan.destination.now
  pub pages : option_and_then (number_from 1 9999) (first_of (codes "pages") rows) ≡ Some plan.pages
  pub request : first_of (codes "request") rows ≡ Some plan.request.now
  pub client : unwrap_or (first_of (codes "client") rows) (codes "sendfax") ≡ plan.client.now
  pub priority : number_or 127 0 255 (first_of (codes "priority") rows) ≡ Some plan.priority
  pub tries : number_or 3 1 1000 (first_of (codes "tries") rows) ≡ Some plan.tries
  pub dials : number_or 12 1 1000 (first_of (codes "dials") rows) ≡ Some plan.dials
  pub at : first_of (codes "at") rows ≡ option_copied plan.at
  pub kill : first_of (codes "kill") rows ≡ option_copied plan.kill
  pub tag : first_of (codes "tag") rows ≡ option_copied plan.tag
  pub moment : number_or_none (first_of (codes "moment") rows) ≡ Some plan.moment
  pub to : first_of (codes "to") rows ≡ option_copied plan.to

-- the plan of a command and its options
abbrev pub IsPlanOf : Option (Text × List Row) → Plan → Type 0
IsPlanOf found (Replay files) = (rows : List Row) × (found ≡ Some (codes "replay", rows)) × (file_names files ≡ files_in rows)
IsPlanOf found (Serve plan) = (rows : List Row) × (found ≡ Some (codes "serve", rows)) × IsServePlan rows plan
IsPlanOf found (ListJobs plan) = (rows : List Row) × (found ≡ Some (codes "list", rows)) × IsListPlan rows plan
IsPlanOf found (Check plan) = (rows : List Row) × (found ≡ Some (codes "check", rows)) × IsCheckPlan rows plan
IsPlanOf found (Sendfax plan) = (rows : List Row) × (found ≡ Some (codes "sendfax", rows)) × IsSendPlan rows plan
IsPlanOf found (Import plan) = (rows : List Row) × (found ≡ Some (codes "import", rows)) × IsImportPlan rows plan
IsPlanOf found (Settings files) = (rows : List Row) × (found ≡ Some (codes "settings", rows)) × (file_names files ≡ files_in rows)
IsPlanOf found (Worker plan) = (rows : List Row) × (found ≡ Some (codes "worker", rows)) × IsWorkerPlan rows plan
IsPlanOf found (Post plan) = (rows : List Row) × (found ≡ Some (codes "post", rows)) × IsPostPlan rows plan

-- No plan has what they say. Whatever the options of `replay` and of `settings` say, there is one.
pub record IsNoPlan (found : Option (Text × List Row)) : Type 0 where
  pub replay : (rows : List Row) → ¬ (found ≡ Some (codes "replay", rows))
  pub serve : (plan : ServePlan) → ¬ (IsPlanOf found (Serve plan))
  pub list : (plan : ListPlan) → ¬ (IsPlanOf found (ListJobs plan))
  pub check : (plan : CheckPlan) → ¬ (IsPlanOf found (Check plan))
  pub sendfax : (plan : SendPlan) → ¬ (IsPlanOf found (Sendfax plan))
  pub import : (plan : ImportPlan) → ¬ (IsPlanOf found (Import plan))
  pub settings : (rows : List Row) → ¬ (found ≡ Some (codes "settings", rows))
  pub worker : (plan : WorkerPlan) → ¬ (IsPlanOf found (Worker plan))
  pub post : (plan : PostPlan) → ¬ (IsPlanOf found (Post plan))

-- text that is asked for, and no fault
abbrev pub IsAsked : ErrorKind → Type 0
IsAsked kind = (kind ≡ DisplayHelp) ⊎ (kind ≡ DisplayVersion)

-- the text is the line of something that is wrong with what was found
abbrev pub TellsOf : Option (Text × List Row) → List ℕ → Type 0
TellsOf found text = (m : Misuse) × IsMisuseOf found m × (text ≡ usage_line m)

-- What comes of words: the plan of their command and its options where no rule of the command line is broken, help
-- where it is asked for, else a usage fault. Where the options are wrong, its text is a line of what is.
abbrev pub Reads : List Text → Result Plan WordsFault → Type 0
Reads words (Ok plan) = IsPlanOf (subcommand_of program words) plan × (fault_of program words ≡ [])
Reads words (Err (Help text)) = (kind : ErrorKind) × IsAmong kind (fault_of program words) × IsAsked kind
Reads words (Err (Usage text)) =
    ((kind : ErrorKind) × IsAmong kind (fault_of program words) × ¬ (IsAsked kind))
    ⊎ ((fault_of program words ≡ []) × IsNoPlan (subcommand_of program words) × TellsOf (subcommand_of program words) (string_bytes text))
Reads words (Err NoMemory) = ⊤

-- the fault of an error of that kind
abbrev pub TellsKind : ErrorKind → WordsFault → Type 0
TellsKind kind (Help text) = IsAsked kind
TellsKind kind (Usage text) = ¬ (kind ≡ OutOfMemory) × ¬ (IsAsked kind)
TellsKind kind NoMemory = kind ≡ OutOfMemory

-- the fault of options that are wrong
abbrev pub TellsMisuse : Misuse → WordsFault → Type 0
TellsMisuse m (Help text) = ⊥
TellsMisuse m (Usage text) = ¬ (m ≡ misuse.NoMemory) × (string_bytes text ≡ usage_line m)
TellsMisuse m NoMemory = ⊤
