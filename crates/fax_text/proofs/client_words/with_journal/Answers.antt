use Rattle.std.proofs.Common.{◌≡◌, ◌∙◌, ◌||◌, ap, ap₂, codes, false, refl}
use Rattle.std.proofs.lemmas.Result.{IfOk-weaker}
use Rattle.clap.specs.Simple.{with_rule}
use Rattle.clap.specs.Walk.{rule_of}
use Rattle.clap.specs.declared.builder.arg.Arg.{Arg}
use Rattle.fax_text.specs.Option.{long_option, required}
use Rattle.fax_text.proofs.client_words.with_journal.Goals as goal

pub returns-clause-shape : goal.returns-clause-shape
returns-clause-shape c =
    let to : rule_of c.required.result ≡ required (long_option (codes "to")) = ap rule_of c.required.ensures ∙ ap required c.long_option.ensures.rule in
    let journal : rule_of c.required-2.result ≡ required (long_option (codes "journal")) = ap rule_of c.required-2.ensures ∙ ap required c.long_option-2.ensures.rule in
    let no_to : c.required.result.global ≡ false = ap (λ (a : Arg). a.global) c.required.ensures ∙ c.long_option.ensures.local in
    let no_journal : c.required-2.result.global ≡ false = ap (λ (a : Arg). a.global) c.required-2.ensures ∙ c.long_option-2.ensures.local in
    let one = c.in_ok-arg.ensures.shape no_to ∙ ap₂ with_rule refl to in
    let two = c.in_ok-arg-2.ensures.shape no_journal ∙ ap₂ with_rule one journal in
    IfOk-weaker c.arg-3.result _ _ (λ made h. h.shape c.long_option-3.ensures.local ∙ ap₂ with_rule two c.long_option-3.ensures.rule) c.arg-3.ensures

pub returns-clause-local : goal.returns-clause-local
returns-clause-local c =
    let no_to : c.required.result.global ≡ false = ap (λ (a : Arg). a.global) c.required.ensures ∙ c.long_option.ensures.local in
    let no_journal : c.required-2.result.global ≡ false = ap (λ (a : Arg). a.global) c.required-2.ensures ∙ c.long_option-2.ensures.local in
    IfOk-weaker c.arg-3.result _ _
    (λ made h none. h.globals
    ∙ ap₂ (λ a b. a || b) (c.in_ok-arg-2.ensures.globals ∙ ap₂ (λ a b. a || b) (c.in_ok-arg.ensures.globals ∙ ap₂ (λ a b. a || b) none no_to) no_journal) c.long_option-3.ensures.local)
    c.arg-3.ensures
