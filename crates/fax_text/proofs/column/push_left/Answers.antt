use Rattle.std.proofs.Common.{◌≡◌, ◌∙◌, ◌++◌, ◌-◌, append_assoc, ap, length, map, replicate, rules, take}
use Rattle.std.specs.Str.{chars}
use Rattle.std.proofs.lemmas.Iterator.{YieldsList-from_chars, YieldsList-from_map, YieldsList-from_take}
use Rattle.std.proofs.lemmas.Iterator.Adapters.{items_from_extend}
use Rattle.std.proofs.lemmas.Result.{on_ok_weaker}
use Rattle.std.proofs.lemmas.Str.{chars_from_encodes}
use Rattle.fax_text.specs.Column.{shown}
use Rattle.fax_text.proofs.column.push_left.Goals as goal

pub returns : goal.returns
returns c =
    let width = c.args.width in
    let text = chars c.args.field.now in
    let all = items_from_extend c.extend.result c.extend.ensures.ran (YieldsList-from_map _ shown (YieldsList-from_take width (YieldsList-from_chars c.args.field.now (search rules) cc) cc) c.map.ensures.closure (λ x r q k. search rules)) in
    let cut = rw c.in_ok-extend.was at all in
    let count : c.count.result ≡ length text = search (rules, chars_from_encodes) in
    on_ok_weaker c.push_fill.result
    (λ filled. filled ∙ ap (λ t. t ++ replicate c.saturating_sub.result 32) cut.0 ∙ append_assoc c.args.text.now.items (map shown (take width text)) (replicate c.saturating_sub.result 32) ∙ ap (λ n. c.args.text.now.items ++ (map shown (take width text) ++ replicate n 32)) (c.saturating_sub.ensures ∙ ap (λ n. width - n) count))
    c.push_fill.ensures
