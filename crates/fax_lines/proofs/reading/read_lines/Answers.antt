use Rattle.std.proofs.Common.{List, ℕ, subst, inl, refl}
use Rattle.fax_value.specs.Gives.{Gives}
use Rattle.fax_lines.specs.Reading.{is_no_memory}
use Rattle.fax_lines.proofs.TextLemmas.{Read, found_in, first_in, only_in}
use Rattle.fax_lines.proofs.reading.read_lines.Goals as goal

pub returns-in-Ok : goal.returns-in-Ok
returns-in-Ok c =
    let text = c.args.bytes.now in
    let r = c.read_text.result in
    let cases = c.in-Ok.ensures.cases in
    let given : Gives is_no_memory c.read_text.result (Read c.args.bytes.now) = subst (λ (bytes : List ℕ). Gives is_no_memory c.read_text.result (Read bytes)) cases.0 c.read_text.ensures in
    record { found = found_in text r cases.1 given; first = first_in text r cases.1 given; only = only_in text r given }

pub returns-in-Err : goal.returns-in-Err
returns-in-Err c =
    let cases = c.in-Err.ensures.cases in
    record { found = tt; first = λ real. inl (refl, cases.0); only = λ ps h. absurd (cases.0 h.utf8) }
