use Rattle.std.proofs.Common.{◌≡◌, ◌∙◌, ap, codes}
use Rattle.std.proofs.lemmas.Result.{IfOk-weaker}
use Rattle.clap.specs.Simple.{app_of, app_of_fields, new_app}
use Rattle.fax_text.specs.Words.{with_fax, with_limits, with_request, with_times}
use Rattle.fax_text.proofs.words.sendfax_command.Goals as goal

pub returns : goal.returns
returns c =
    let start : app_of c.after_help-command.result ≡ new_app (codes "sendfax") = ap app_of_fields c.after_help-command.ensures ∙ ap app_of_fields c.about.ensures ∙ c.new.ensures.app in
    let fax = c.in_ok-command.ensures ∙ ap with_fax start in
    let limits = c.in_ok-command-2.ensures ∙ ap with_limits fax in
    let times = c.in_ok-command-3.ensures ∙ ap with_times limits in
    IfOk-weaker c.with_request.result _ _ (λ made e. e ∙ ap with_request times) c.with_request.ensures
