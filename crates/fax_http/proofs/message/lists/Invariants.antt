use Rattle.std.proofs.Common.{◌≡◌, ◌+◌, ℕ, List, length, Option, Some, None}
use Rattle.std.specs.List.{list_any}
use Rattle.std.specs.Option.{option_copied}
use Rattle.std.specs.Str.{str_eq_ignore_ascii_case}
use Rattle.fax_value.specs.Blank.{trimmed}
use Rattle.fax_value.specs.Comma.{parts_left}
use Rattle.fax_http.specs.Message.{lists}
use Rattle.fax_http.proofs.message.lists.Given as goal

abbrev left : Option (List ℕ) → ℕ
left None = 0
left (Some text) = length text + 1

abbrev pub invariant-loop-rest : goal.invariant-loop-rest
invariant-loop-rest l = lists l.word l.list ≡ list_any (λ part. str_eq_ignore_ascii_case (trimmed part) l.word) (parts_left (option_copied l.rest))

abbrev pub decreases-loop-rest : goal.decreases-loop-rest
decreases-loop-rest l = left (option_copied l.rest)
