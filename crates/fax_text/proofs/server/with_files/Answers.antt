use Rattle.std.proofs.Common.{◌∙◌, ◌||◌, ap₂, refl}
use Rattle.std.proofs.lemmas.Result.{IfOk-weaker}
use Rattle.clap.specs.Simple.{with_rule}
use Rattle.fax_text.proofs.server.with_files.Goals as goal

pub returns-clause-shape : goal.returns-clause-shape
returns-clause-shape c =
    IfOk-weaker c.arg-2.result _ _
    (λ made h. h.shape c.long_option-2.ensures.local
    ∙ ap₂ with_rule (c.in_ok-arg.ensures.shape c.long_option.ensures.local ∙ ap₂ with_rule refl c.long_option.ensures.rule) c.long_option-2.ensures.rule)
    c.arg-2.ensures

pub returns-clause-local : goal.returns-clause-local
returns-clause-local c =
    IfOk-weaker c.arg-2.result _ _
    (λ made h none. h.globals
    ∙ ap₂ (λ a b. a || b) (c.in_ok-arg.ensures.globals ∙ ap₂ (λ a b. a || b) none c.long_option.ensures.local) c.long_option-2.ensures.local)
    c.arg-2.ensures
