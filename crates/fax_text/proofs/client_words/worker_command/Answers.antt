use Rattle.std.proofs.Common.{◌≡◌, ◌∙◌, ◌||◌, ap, ap₂, codes, false}
use Rattle.std.proofs.lemmas.Result.{IfOk-weaker}
use Rattle.clap.specs.Simple.{app_of, app_of_fields, new_app, with_rule}
use Rattle.clap.specs.Walk.{rule_of}
use Rattle.clap.specs.declared.builder.arg.Arg.{Arg}
use Rattle.clap.specs.declared.builder.command.Command.TheViews.{out-Command as fields_of}
use Rattle.fax_text.specs.ClientWords.{with_journal, words_argument}
use Rattle.fax_text.specs.Option.{required}
use Rattle.fax_text.proofs.client_words.worker_command.Goals as goal

pub returns-clause-shape : goal.returns-clause-shape
returns-clause-shape c =
    let word : rule_of c.required.result ≡ required words_argument = ap rule_of c.required.ensures ∙ ap required c.words_argument.ensures.rule in
    let no_word : c.required.result.global ≡ false = ap (λ (a : Arg). a.global) c.required.ensures ∙ c.words_argument.ensures.local in
    let start : app_of c.after_help.result ≡ new_app (codes "worker") = ap app_of_fields c.after_help.ensures ∙ ap app_of_fields c.about.ensures ∙ c.new.ensures.app in
    let one = c.in_ok-arg.ensures.shape c.long_option.ensures.local ∙ ap₂ with_rule start c.long_option.ensures.rule in
    let two = c.in_ok-worker.ensures.shape no_word ∙ ap₂ with_rule one word in
    IfOk-weaker c.with_journal.result _ _ (λ made e. e ∙ ap with_journal two) c.with_journal.ensures.shape

pub returns-clause-local : goal.returns-clause-local
returns-clause-local c =
    let no_word : c.required.result.global ≡ false = ap (λ (a : Arg). a.global) c.required.ensures ∙ c.words_argument.ensures.local in
    let start : (fields_of c.after_help.result).has_globals ≡ false = ap (λ f. f.has_globals) c.after_help.ensures ∙ ap (λ f. f.has_globals) c.about.ensures ∙ c.new.ensures.local in
    let one = c.in_ok-arg.ensures.globals ∙ ap₂ (λ a b. a || b) start c.long_option.ensures.local in
    let two = c.in_ok-worker.ensures.globals ∙ ap₂ (λ a b. a || b) one no_word in
    IfOk-weaker c.with_journal.result _ _ (λ made local. local two) c.with_journal.ensures.local
