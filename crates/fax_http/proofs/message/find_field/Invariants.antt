use Rattle.std.proofs.Common.{map, take}
use Rattle.httparse.specs.Spans.{header_bytes}
use Rattle.fax_http.specs.Field.{Shows}
use Rattle.fax_http.specs.Message.{values_of}
use Rattle.fax_http.proofs.message.find_field.Given as goal

abbrev pub invariant-loop-field : goal.invariant-loop-field
invariant-loop-field l = Shows l.found (values_of l.name (map (header_bytes l.input) (take l.field-index l.fields)))
