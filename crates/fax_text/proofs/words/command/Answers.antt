use Rattle.std.proofs.Common.{◌≡◌, ◌∙◌, ap, codes, false, true}
use Rattle.std.proofs.lemmas.Result.{IfOk-weaker}
use Rattle.clap.specs.Simple.{App, Shape, app_of, app_of_fields, new_app, on_top}
use Rattle.clap.specs.declared.builder.command.Command.TheViews.{out-Command as fields_of}
use Rattle.fax_text.proofs.WordsLemmas.{adds_made, plain_is_local}
use Rattle.fax_text.specs.CheckWords.{check_command}
use Rattle.fax_text.specs.ClientWords.{post_command, worker_command}
use Rattle.fax_text.specs.ImportWords.{import_command}
use Rattle.fax_text.specs.ListWords.{list_command}
use Rattle.fax_text.specs.Server.{replay_command, serve_command, settings_command}
use Rattle.fax_text.specs.Words.{sendfax_command}
use Rattle.fax_text.proofs.words.command.Goals as goal

pub returns : goal.returns
returns c =
    let versioned : App → App = on_top (λ (s : Shape). record s { has_version = true }) in
    let top : app_of c.after_help.result ≡ versioned (new_app (codes "faxqd")) =
    ap app_of_fields c.after_help.ensures ∙ ap app_of_fields c.version.ensures ∙ ap versioned (ap app_of_fields c.about.ensures ∙ c.new.ensures.app) in
    let wants : App → App = on_top (λ (s : Shape). record s { subcommand_required = true }) in
    let start : app_of c.subcommand_required-program.result ≡ wants (versioned (new_app (codes "faxqd"))) =
    ap app_of_fields c.subcommand_required-program.ensures ∙ ap wants top in
    let replay = adds_made _ _ _ _ replay_command c.in_ok-program.ensures c.replay_command.ensures.shape c.replay_command.ensures.local start in
    let serve = adds_made _ _ _ _ serve_command c.in_ok-program-2.ensures c.serve_command.ensures.shape c.serve_command.ensures.local replay in
    let list = adds_made _ _ _ _ list_command c.in_ok-program-3.ensures c.list_command.ensures.shape c.list_command.ensures.local serve in
    let check = adds_made _ _ _ _ check_command c.in_ok-program-4.ensures c.check_command.ensures.shape c.check_command.ensures.local list in
    let is_local = IfOk-weaker c.sendfax_command.result _ (λ made. (fields_of made).has_globals ≡ false)
    (λ made e. plain_is_local _ _ _ _ (ap (λ (a : App). a.top.is_plain) e)) c.sendfax_command.ensures in
    let sendfax = adds_made _ _ _ _ sendfax_command c.in_ok-program-5.ensures c.sendfax_command.ensures is_local check in
    let import = adds_made _ _ _ _ import_command c.in_ok-program-6.ensures c.import_command.ensures.shape c.import_command.ensures.local sendfax in
    let settings = adds_made _ _ _ _ settings_command c.in_ok-program-7.ensures c.settings_command.ensures.shape c.settings_command.ensures.local import in
    let worker = adds_made _ _ _ _ worker_command c.in_ok-program-8.ensures c.worker_command.ensures.shape c.worker_command.ensures.local settings in
    IfOk-weaker c.with_command-9.result _ _
    (λ made adds. adds_made _ made _ _ post_command adds c.post_command.ensures.shape c.post_command.ensures.local worker)
    c.with_command-9.ensures
