use Rattle.std.proofs.Common.{◌≡◌, ◌++◌, true, sym, ◌∙◌}
use Rattle.std.specs.String.{string_bytes}
use Rattle.fax_value.specs.Value.{is_plain}
use Rattle.fax_lines.proofs.StatusLemmas.{open_more, pair_of_parts, once_of_parts}
use Rattle.fax_lines.proofs.reading.go_on.Goals as goal

pub returns-in_ok-joined-in-Some-clause-opened : goal.returns-in_ok-joined-in-Some-clause-opened
returns-in_ok-joined-in-Some-clause-opened c =
    let plain : is_plain c.args.line.now ≡ true = cc in
    rw (c.in_ok-joined-in-Some.ensures, c.as_str.ensures.value) (open_more c.args.lines.now (string_bytes c.args.begun) c.args.line.now c.in-Some.part.now c.requires plain (sym c.in-Some.ensures))

pub push-requires-clause-formed : goal.push-requires-clause-formed
push-requires-clause-formed c =
    let plain : is_plain c.args.line.now ≡ true = cc in
    let value : c.as_str-in-None.result.now ≡ string_bytes c.args.begun ++ c.args.line.now = c.as_str-in-None.ensures.value ∙ c.in_ok-push_str-in-None.ensures.bytes in
    rw value (pair_of_parts c.args.lines.now (string_bytes c.args.begun) c.args.line.now c.requires plain (sym c.in-None.ensures))

pub push-requires-clause-once : goal.push-requires-clause-once
push-requires-clause-once c = (once_of_parts c.args.lines.now (string_bytes c.args.begun) c.requires)
