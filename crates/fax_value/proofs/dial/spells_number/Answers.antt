use Rattle.std.proofs.Common.{ℕ, ◌+◌, List, sym, ap, ◌∙◌}
use Rattle.std.proofs.lemmas.List.{take_rest}
use Rattle.fax_value.specs.Dial.{are_keys, without_separators}
use Rattle.fax_value.proofs.DialLemmas.{keys_behind_plus, keys_without_plus, no_keys}
use Rattle.fax_value.proofs.dial.spells_number.Goals.{in_default-via-in-Some+else-text-first-eq43, in_default-via-in_default}
use Rattle.fax_value.proofs.dial.spells_number.Goals as goal

pub returns-in-Some : goal.returns-in-Some
returns-in-Some c =
    c.spells_keys.ensures
    ∙ ap (λ (rest : List ℕ). are_keys (without_separators rest)) (take_rest c.args.text.now (c.in-Some.first + 1))
    ∙ keys_behind_plus c.args.text.now c.in-Some.first (sym c.in-Some.ensures.place) c.if-text-first-eq43.true

pub returns-in_default : goal.returns-in_default
returns-in_default c =
    c.spells_keys-in_default.ensures ∙ elim c.in_default.branch [
      | in_default-via-in-Some+else-text-first-eq43 w ↦ keys_without_plus c.args.text.now w.in-Some.first (sym w.in-Some.ensures.place) w.if-text-first-eq43.false
      | in_default-via-in_default w ↦ no_keys c.args.text.now (sym w.in_default.ensures.place)
    ]
