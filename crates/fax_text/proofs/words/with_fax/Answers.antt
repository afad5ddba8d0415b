use Rattle.std.proofs.Common.{◌≡◌, ◌∙◌, ap, ap₂, codes, false, refl}
use Rattle.std.proofs.lemmas.Result.{IfOk-weaker}
use Rattle.clap.specs.Simple.{with_rule}
use Rattle.clap.specs.Walk.{rule_of}
use Rattle.clap.specs.declared.builder.arg.Arg.{Arg}
use Rattle.fax_text.specs.Option.{long_option, required, short_option}
use Rattle.fax_text.proofs.words.with_fax.Goals as goal

pub returns : goal.returns
returns c =
    let destination : rule_of c.required.result ≡ required (short_option (codes "destination") 100) = ap rule_of c.required.ensures ∙ ap required c.short_option.ensures.rule in
    let pages : rule_of c.required-2.result ≡ required (long_option (codes "pages")) = ap rule_of c.required-2.ensures ∙ ap required c.long_option.ensures.rule in
    let no_destination : c.required.result.global ≡ false = ap (λ (a : Arg). a.global) c.required.ensures ∙ c.short_option.ensures.local in
    let no_pages : c.required-2.result.global ≡ false = ap (λ (a : Arg). a.global) c.required-2.ensures ∙ c.long_option.ensures.local in
    let one = c.in_ok-arg.ensures.shape no_destination ∙ ap₂ with_rule refl destination in
    let two = c.in_ok-arg-2.ensures.shape no_pages ∙ ap₂ with_rule one pages in
    IfOk-weaker c.arg-3.result _ _ (λ made h. h.shape c.short_option-2.ensures.local ∙ ap₂ with_rule two c.short_option-2.ensures.rule) c.arg-3.ensures
