-- What the words of the command `import` ask for.
use Rattle.std.specs.Prelude.{◌≡◌, List, codes, map, Some}
use Rattle.clap.specs.Lexer.{usize_max}
use Rattle.clap.specs.Simple.{App, new_app, new_rule, with_rule}
use Rattle.clap.specs.Walk.{Row, Rule, all_of, first_of}
use Rattle.fax_text.specs.Option.{long_option, required}
use Rattle.fax_text.specs.declared.import_words.ImportPlan.{ImportPlan}

-- `FILE..`
abbrev pub files_argument : Rule
files_argument = required (record (new_rule (codes "file")) { range = Some (record { start_inclusive = 1; end_inclusive = usize_max }); value_names = 1 })

-- `import --client NAME --request NUMBER FILE..`
abbrev pub import_command : App
import_command = with_rule (with_rule (with_rule (new_app (codes "import")) (required (long_option (codes "client")))) (required (long_option (codes "request")))) files_argument

-- the plan has what the words say
pub record IsImportPlan (rows : List Row) (plan : ImportPlan) : Type 0 where
  pub client : first_of (codes "client") rows ≡ Some plan.client.now
  pub request : first_of (codes "request") rows ≡ Some plan.request.now
  pub files : all_of (codes "file") rows ≡ Some (map (λ file. file.now) plan.files.items)
