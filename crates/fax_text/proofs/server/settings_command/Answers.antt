use Rattle.std.proofs.Common.{◌≡◌, ◌∙◌, ap, codes, false}
use Rattle.std.proofs.lemmas.Result.{IfOk-weaker}
use Rattle.clap.specs.Simple.{app_of, app_of_fields, new_app}
use Rattle.clap.specs.declared.builder.command.Command.TheViews.{out-Command as fields_of}
use Rattle.fax_text.specs.Server.{with_files}
use Rattle.fax_text.proofs.server.settings_command.Goals as goal

pub returns-clause-shape : goal.returns-clause-shape
returns-clause-shape c =
    let start : app_of c.after_help-settings.result ≡ new_app (codes "settings") = ap app_of_fields c.after_help-settings.ensures ∙ ap app_of_fields c.about.ensures ∙ c.new.ensures.app in
    IfOk-weaker c.with_files.result _ _ (λ made e. e ∙ ap with_files start) c.with_files.ensures.shape

pub returns-clause-local : goal.returns-clause-local
returns-clause-local c =
    let start : (fields_of c.after_help-settings.result).has_globals ≡ false = ap (λ f. f.has_globals) c.after_help-settings.ensures ∙ ap (λ f. f.has_globals) c.about.ensures ∙ c.new.ensures.local in
    IfOk-weaker c.with_files.result _ _ (λ made local. local start) c.with_files.ensures.local
