use Rattle.std.proofs.Common.{◌≡◌, ◌∙◌, ◌||◌, ap, ap₂, codes, false}
use Rattle.std.proofs.lemmas.Result.{IfOk-weaker}
use Rattle.clap.specs.Simple.{app_of, app_of_fields, new_app, with_rule}
use Rattle.clap.specs.Walk.{rule_of}
use Rattle.clap.specs.declared.builder.arg.Arg.{Arg}
use Rattle.clap.specs.declared.builder.command.Command.TheViews.{out-Command as fields_of}
use Rattle.fax_text.specs.ClientWords.{with_journal}
use Rattle.fax_text.specs.Option.{long_option, required}
use Rattle.fax_text.proofs.client_words.post_command.Goals as goal

pub returns-clause-shape : goal.returns-clause-shape
returns-clause-shape c =
    let client : rule_of c.required.result ≡ required (long_option (codes "client")) = ap rule_of c.required.ensures ∙ ap required c.long_option.ensures.rule in
    let no_client : c.required.result.global ≡ false = ap (λ (a : Arg). a.global) c.required.ensures ∙ c.long_option.ensures.local in
    let start : app_of c.after_help.result ≡ new_app (codes "post") = ap app_of_fields c.after_help.ensures ∙ ap app_of_fields c.about.ensures ∙ c.new.ensures.app in
    let one = c.in_ok-arg.ensures.shape no_client ∙ ap₂ with_rule start client in
    let two = c.in_ok-arg-2.ensures.shape c.long_option-2.ensures.local ∙ ap₂ with_rule one c.long_option-2.ensures.rule in
    let three = c.in_ok-arg-3.ensures.shape c.long_option-3.ensures.local ∙ ap₂ with_rule two c.long_option-3.ensures.rule in
    let four = c.in_ok-post.ensures.shape c.words_argument.ensures.local ∙ ap₂ with_rule three c.words_argument.ensures.rule in
    IfOk-weaker c.with_journal.result _ _ (λ made e. e ∙ ap with_journal four) c.with_journal.ensures.shape

pub returns-clause-local : goal.returns-clause-local
returns-clause-local c =
    let no_client : c.required.result.global ≡ false = ap (λ (a : Arg). a.global) c.required.ensures ∙ c.long_option.ensures.local in
    let start : (fields_of c.after_help.result).has_globals ≡ false = ap (λ f. f.has_globals) c.after_help.ensures ∙ ap (λ f. f.has_globals) c.about.ensures ∙ c.new.ensures.local in
    let one = c.in_ok-arg.ensures.globals ∙ ap₂ (λ a b. a || b) start no_client in
    let two = c.in_ok-arg-2.ensures.globals ∙ ap₂ (λ a b. a || b) one c.long_option-2.ensures.local in
    let three = c.in_ok-arg-3.ensures.globals ∙ ap₂ (λ a b. a || b) two c.long_option-3.ensures.local in
    let four = c.in_ok-post.ensures.globals ∙ ap₂ (λ a b. a || b) three c.words_argument.ensures.local in
    IfOk-weaker c.with_journal.result _ _ (λ made local. local four) c.with_journal.ensures.local
