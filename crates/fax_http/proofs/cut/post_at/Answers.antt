use Rattle.std.proofs.Common.{rules, ◌≡◌, ◌∙◌, ◌++◌, ◌-◌, append_assoc, ap, drop, length, not, subst, sym}
use Rattle.std.specs.Prelude.{codes}
use Rattle.std.specs.Str.{bytes_eq}
use Rattle.httparse.specs.Grammar.{print_request}
use Rattle.fax_http.specs.Cut.{HoldsMessage}
use Rattle.fax_http.specs.Message.{BeginsWith}
use Rattle.fax_http.proofs.TurnLemmas.{behind_front}
use Rattle.fax_http.proofs.cut.post_at.Goals as goal

pub returns-in-Ok-Whole : goal.returns-in-Ok-Whole
returns-in-Ok-Whole c =
    let input = c.args.input.now in
    let message = c.in-Ok-Whole.message in
    let rest = c.in-Ok-Whole.rest.now in
    let held : HoldsMessage input message rest = search rules in
    let posted : message.method.now ≡ codes "POST" = search rules in
    let method : held.head.method ≡ codes "POST" = sym held.parts.method ∙ posted in
    let front = print_request held.head ++ message.body.now in
    let left : drop (length input - length rest) input ≡ rest =
    behind_front input front rest (held.begins.bytes ∙ sym (append_assoc (print_request held.head) message.body.now rest)) in
    record {
      head = held.head;
      method = method;
      begins = subst (BeginsWith input held.head message.body.now) (sym left) held.begins;
      within = search rules;
      parts = held.parts;
      has_body = ap (λ name. not (bytes_eq name (codes "HEAD"))) (sym method);
      ends = held.parts.is_last;
    }
