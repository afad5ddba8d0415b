use Rattle.std.proofs.Common.{◌≡◌, ◌++◌, length, rules, ◌∙◌}
use Rattle.std.specs.Prelude.{ℕ, List}
use Rattle.std.specs.String.{string_bytes}
use Rattle.std.proofs.lemmas.Str.{IsUtf8-string_bytes}
use Rattle.fax_job.proofs.LineTextLemmas.{Keeps-grown, Keeps-grown_twice, IsPlace-written}
use Rattle.fax_job.proofs.line_text.write.Goals as goal

pub returns-in_err-push_str-2-clause-kept : goal.returns-in_err-push_str-2-clause-kept
returns-in_err-push_str-2-clause-kept c =
    Keeps-grown _ _ c.args.tag.now (IsUtf8-string_bytes c.args.text.now) c.utf8.tag (c.in_err-push_str-2.ensures.bytes ∙ c.in_ok-push_str.ensures.bytes)

pub returns-then-end-gt-LAST_END-clause-kept : goal.returns-then-end-gt-LAST_END-clause-kept
returns-then-end-gt-LAST_END-clause-kept c =
    Keeps-grown_twice _ _ _ c.args.tag.now c.args.value.now (IsUtf8-string_bytes c.args.text.now) c.utf8.tag (IsUtf8-string_bytes c.push_str.new.self) c.utf8.value c.in_ok-push_str.ensures.bytes c.in_ok-push_str-2.ensures.bytes

pub returns-clause-kept : goal.returns-clause-kept
returns-clause-kept c =
    Keeps-grown_twice _ _ _ c.args.tag.now c.args.value.now (IsUtf8-string_bytes c.args.text.now) c.utf8.tag (IsUtf8-string_bytes c.push_str.new.self) c.utf8.value c.in_ok-push_str.ensures.bytes c.in_ok-push_str-2.ensures.bytes

pub returns-clause-place : goal.returns-clause-place
returns-clause-place c =
    let old : List ℕ = string_bytes c.args.text.now in
    let middle : string_bytes c.push_str.new.self ≡ old ++ c.args.tag.now = c.in_ok-push_str.ensures.bytes in
    let new : string_bytes c.push_str-2.new.self ≡ old ++ c.args.tag.now ++ c.args.value.now = rw middle at c.in_ok-push_str-2.ensures.bytes in
    let start : c.len-start.result ≡ length old = search rules in
    let value : c.len-middle.result ≡ length (old ++ c.args.tag.now) = rw (← middle) (search rules) in
    let end : c.len-end.result ≡ length (old ++ c.args.tag.now ++ c.args.value.now) = rw (← new) (search rules) in
    rw new (IsPlace-written old c.args.tag.now c.args.value.now _ c.utf8.tag c.utf8.value start value end)
