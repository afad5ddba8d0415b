use Rattle.std.proofs.Common.{ap, sym, refl, ◌∙◌}
use Rattle.std.specs.Prelude.{Ok}
use Rattle.fax_dest.specs.Controls.{Begins, begins, behind_of}
use Rattle.fax_dest.specs.ControlsStep.{IsBegun}
use Rattle.fax_dest.specs.Fault.{is_memory}
use Rattle.fax_dest.proofs.FaultLemmas.{MatchBool-weaker, handed_on}
use Rattle.fax_dest.proofs.PatternLemmas.{fault_behind}
use Rattle.fax_dest.proofs.controls.Entry.begin.Goals as goal

pub returns-in_err-pattern : goal.returns-in_err-pattern
returns-in_err-pattern c = λ is_pattern grammar.
    let word = c.at_blank.result.0.now in
    let behind = behind_of c.at_blank.result.1.now in
    let kind = c.in_err-pattern.field-0.0 in
    rw (sym c.at_blank.ensures)
    (handed_on is_pattern IsBegun (λ compile. begins (compile word) behind) c.from_residual.result kind c.from_residual.ensures
    (MatchBool-weaker (is_memory kind) (ap (λ r. begins r behind)) (c.in_err-pattern.ensures.given is_pattern grammar)))

pub returns-in_err-rule : goal.returns-in_err-rule
returns-in_err-rule c = λ is_pattern grammar.
    let word = c.at_blank.result.0.now in
    let behind = behind_of c.at_blank.result.1.now in
    let kind = c.in_err-rule.field-0.0 in
    let written = c.in_ok-pattern.ensures.given is_pattern grammar in
    rw (sym c.at_blank.ensures)
    (handed_on is_pattern IsBegun (λ compile. begins (compile word) behind) c.from_residual-in_err-rule.result kind c.from_residual-in_err-rule.ensures
    (MatchBool-weaker (is_memory kind) (λ e. fault_behind is_pattern word written.0 (λ r. begins r behind) kind written.1 refl (ap (λ r. begins (Ok written.0) r) e))
    (c.in_err-rule.ensures is_pattern grammar)))

pub returns : goal.returns
returns c = λ is_pattern grammar.
    let behind = behind_of c.at_blank.result.1.now in
    let written = c.in_ok-pattern.ensures.given is_pattern grammar in
    let made = c.in_ok-rule.ensures is_pattern grammar in (
      Begins written.0 made.0,
      rw (sym c.at_blank.ensures) (ap (λ r. begins r behind) written.1 ∙ ap (λ r. begins (Ok written.0) r) made.1),
      record { parameters = made.0; line = ap (λ w. Begins w made.0) (sym written.2); rule = made.2.is },
    )
