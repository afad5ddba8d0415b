use Rattle.std.proofs.Common.{◌≡◌, ◌≢◌, length, nat_eq, false, ap, sym, ◌∙◌, arith}
use Rattle.std.proofs.lemmas.Bool.{eqb-false}
use Rattle.fax_dest.specs.Controls.{Adds, adds}
use Rattle.fax_dest.proofs.ControlsLemmas.{has_rule-some, set_last, spelled_by}
use Rattle.fax_dest.proofs.controls.Entry.add.Goals as goal

pub returns : goal.returns
returns c = λ is_pattern grammar.
    let rules = c.args.rules.now in
    let some : nat_eq (length rules.items) 0 ≡ false = ap (λ n. nat_eq n 0) (sym rules.ok.0) ∙ sym c.if-is_empty.ensures in
    let full : length rules.items ≢ 0 = eqb-false (length rules.items) 0 some in (
      Adds c.in_ok-parameter.parameter,
      rw (has_rule-some rules.items some) (ap (λ r. adds r) c.in_ok-parameter.ensures),
      record { rules = set_last rules.items _ c.index_mut-entry.result.now _ c.in_ok-parameter.parameter (omega arith) c.index_mut-entry.ensures.value (spelled_by c.index_mut-entry.result.now c.in_ok-parameter.parameter c.set.new.rule c.set.ensures) },
    )
