use Rattle.std.proofs.Common.{◌≡◌, ◌∙◌, ap, ap₂, codes, false, refl}
use Rattle.std.proofs.lemmas.Result.{IfOk-weaker}
use Rattle.clap.specs.Simple.{with_rule}
use Rattle.clap.specs.Walk.{rule_of}
use Rattle.clap.specs.declared.builder.arg.Arg.{Arg}
use Rattle.fax_text.specs.Option.{long_option, required}
use Rattle.fax_text.proofs.words.with_request.Goals as goal

pub returns : goal.returns
returns c =
    let number : rule_of c.required.result ≡ required (long_option (codes "request")) = ap rule_of c.required.ensures ∙ ap required c.long_option.ensures.rule in
    let is_local : c.required.result.global ≡ false = ap (λ (a : Arg). a.global) c.required.ensures ∙ c.long_option.ensures.local in
    let one = c.in_ok-arg.ensures.shape is_local ∙ ap₂ with_rule refl number in
    let two = c.in_ok-arg-2.ensures.shape c.long_option-2.ensures.local ∙ ap₂ with_rule one c.long_option-2.ensures.rule in
    IfOk-weaker c.arg-3.result _ _ (λ made h. h.shape c.long_option-3.ensures.local ∙ ap₂ with_rule two c.long_option-3.ensures.rule) c.arg-3.ensures
