use Rattle.std.proofs.Common.{◌≡◌, map, take}
use Rattle.std.specs.List.{list_any}
use Rattle.httparse.specs.Spans.{header_bytes}
use Rattle.fax_http.specs.Message.{lists, values_of}
use Rattle.fax_http.proofs.message.has_word.Given as goal

abbrev pub invariant-loop-field : goal.invariant-loop-field
invariant-loop-field l = l.found ≡ list_any (lists l.word) (values_of l.name (map (header_bytes l.input) (take l.field-index l.fields)))
