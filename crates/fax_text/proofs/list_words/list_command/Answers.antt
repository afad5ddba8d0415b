use Rattle.std.proofs.Common.{◌≡◌, ◌∙◌, ◌||◌, ap, ap₂, codes, true, false}
use Rattle.std.proofs.lemmas.Result.{IfOk-weaker}
use Rattle.clap.specs.Simple.{app_of, app_of_fields, new_app, with_rule}
use Rattle.clap.specs.Walk.{Rule, rule_of}
use Rattle.clap.specs.declared.builder.arg.Arg.{Arg}
use Rattle.clap.specs.declared.builder.command.Command.TheViews.{out-Command as fields_of}
use Rattle.fax_text.specs.Option.{long_option, required}
use Rattle.fax_text.specs.Server.{with_files}
use Rattle.fax_text.proofs.list_words.list_command.Goals as goal

abbrev as_needed : Rule → Rule
as_needed r = record r { required = true }

pub returns-clause-shape : goal.returns-clause-shape
returns-clause-shape c =
    let database : rule_of c.required.result ≡ required (long_option (codes "db")) = ap rule_of c.required.ensures ∙ ap as_needed c.long_option.ensures.rule in
    let no_database : c.required.result.global ≡ false = ap (λ (a : Arg). a.global) c.required.ensures ∙ c.long_option.ensures.local in
    let start : app_of c.after_help.result ≡ new_app (codes "list") = ap app_of_fields c.after_help.ensures ∙ ap app_of_fields c.about.ensures ∙ c.new.ensures.app in
    let first = c.in_ok-arg.ensures.shape no_database ∙ ap₂ with_rule start database in
    let second = c.in_ok-list.ensures.shape c.long_option-2.ensures.local ∙ ap₂ with_rule first c.long_option-2.ensures.rule in
    IfOk-weaker c.with_files.result _ _ (λ made e. e ∙ ap with_files second) c.with_files.ensures.shape

pub returns-clause-local : goal.returns-clause-local
returns-clause-local c =
    let database : c.required.result.global ≡ false = ap (λ (a : Arg). a.global) c.required.ensures ∙ c.long_option.ensures.local in
    let start : (fields_of c.after_help.result).has_globals ≡ false = ap (λ f. f.has_globals) c.after_help.ensures ∙ ap (λ f. f.has_globals) c.about.ensures ∙ c.new.ensures.local in
    let first = c.in_ok-arg.ensures.globals ∙ ap₂ (λ a b. a || b) start database in
    let second = c.in_ok-list.ensures.globals ∙ ap₂ (λ a b. a || b) first c.long_option-2.ensures.local in
    IfOk-weaker c.with_files.result _ _ (λ made local. local second) c.with_files.ensures.local
