use Rattle.std.proofs.Common.{◌∙◌, ap₂, refl}
use Rattle.std.proofs.lemmas.Result.{IfOk-weaker}
use Rattle.clap.specs.Simple.{with_rule}
use Rattle.fax_text.proofs.words.with_times.Goals as goal

pub returns : goal.returns
returns c =
    let one = c.in_ok-arg.ensures.shape c.short_option.ensures.local ∙ ap₂ with_rule refl c.short_option.ensures.rule in
    let two = c.in_ok-arg-2.ensures.shape c.short_option-2.ensures.local ∙ ap₂ with_rule one c.short_option-2.ensures.rule in
    IfOk-weaker c.arg-3.result _ _ (λ made h. h.shape c.long_option.ensures.local ∙ ap₂ with_rule two c.long_option.ensures.rule) c.arg-3.ensures
