use Rattle.std.proofs.Common.{[], ◌∷◌, ap, refl, sym, ◌∙◌}
use Rattle.fax_dest.specs.Controls.{behind_of, one_parameter}
use Rattle.fax_dest.specs.Rule.{with_parameter}
use Rattle.fax_dest.proofs.controls.Entry.behind.Goals as goal

pub returns-then-is_skipped : goal.returns-then-is_skipped
unfolding behind_of
returns-then-is_skipped c = λ is_pattern grammar. ([], rw (sym c.if-is_skipped.ensures) refl, record { is = c.default_rule-rule.ensures })

pub returns : goal.returns
unfolding behind_of
returns c = λ is_pattern grammar.
    (c.in_ok-read.field-0 ∷ [], rw (sym c.if-is_skipped.ensures) (ap (λ r. one_parameter r) c.in_ok-read.ensures), record { is = c.set.ensures ∙ ap (λ rule. with_parameter rule c.in_ok-read.field-0) c.default_rule-rule.ensures })
