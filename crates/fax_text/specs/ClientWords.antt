-- What the words of the commands of a client with a journal ask for.
use Rattle.std.specs.Prelude.{◌≡◌, List, [], codes, map, Some, unwrap_or}
use Rattle.std.specs.Option.{option_copied}
use Rattle.clap.specs.Lexer.{usize_max}
use Rattle.clap.specs.Simple.{App, new_app, new_rule, with_rule}
use Rattle.clap.specs.Walk.{Row, Rule, all_of, first_of}
use Rattle.fax_text.specs.Option.{long_option, number_or_none, required}
use Rattle.fax_text.specs.declared.client_words.Journaled.{Journaled}
use Rattle.fax_text.specs.declared.client_words.PostPlan.{PostPlan}
use Rattle.fax_text.specs.declared.client_words.WorkerPlan.{WorkerPlan}

-- `WORD..`
abbrev pub words_argument : Rule
words_argument = record (new_rule (codes "word")) { range = Some (record { start_inclusive = 1; end_inclusive = usize_max }); value_names = 1 }

-- a command with `--to ADDRESS --journal FILE [--wait SECONDS]`
abbrev pub with_journal : App → App
with_journal app = with_rule (with_rule (with_rule app (required (long_option (codes "to")))) (required (long_option (codes "journal")))) (long_option (codes "wait"))

-- `worker [--modem MODEM] WORD..`
abbrev pub worker_command : App
worker_command = with_journal (with_rule (with_rule (new_app (codes "worker")) (long_option (codes "modem"))) (required words_argument))

-- `post --client NAME [--key KEY] [--forget KEY] [WORD..]`
abbrev pub post_command : App
post_command =
    with_journal (with_rule (with_rule (with_rule (with_rule (new_app (codes "post")) (required (long_option (codes "client")))) (long_option (codes "key"))) (long_option (codes "forget"))) words_argument)

-- it has what the options say
pub record IsJournaled (rows : List Row) (at : Journaled) : Type 0 where
  pub to : first_of (codes "to") rows ≡ Some at.to.now
  pub journal : first_of (codes "journal") rows ≡ Some at.journal.now
  pub wait : number_or_none (first_of (codes "wait") rows) ≡ Some at.wait

-- the plan has what the words say
pub record IsWorkerPlan (rows : List Row) (plan : WorkerPlan) : Type 0 where
  pub at : IsJournaled rows plan.at
  pub modem : first_of (codes "modem") rows ≡ option_copied plan.modem
  pub words : all_of (codes "word") rows ≡ Some (map (λ word. word.now) plan.words.items)

-- the plan has what the words say; there may be none but the options
pub record IsPostPlan (rows : List Row) (plan : PostPlan) : Type 0 where
  pub at : IsJournaled rows plan.at
  pub client : first_of (codes "client") rows ≡ Some plan.client.now
  pub key : first_of (codes "key") rows ≡ option_copied plan.key
  pub forget : first_of (codes "forget") rows ≡ option_copied plan.forget
  pub words : unwrap_or (all_of (codes "word") rows) [] ≡ map (λ word. word.now) plan.words.items
