use Rattle.std.proofs.Common.{◌≡◌, rules, ap, ap₂, sym, ◌∙◌, ◌++◌, Err, Ok, length, codes, refl, length-drop, length-take}
use Rattle.fax_http.specs.declared.message.Broken.TheVariants.{BadHttp}
use Rattle.httparse.specs.Grammar.{print_request}
use Rattle.fax_http.specs.Cut.{HoldsHead}
use Rattle.fax_http.specs.Message.{closes, framed, sole, values_of}
use Rattle.fax_http.proofs.MessageLemmas.{body_and_rest, stays_bad, unfinished_body}
use Rattle.fax_http.proofs.message.split_message.Goals as goal

pub returns-in_err-length-clause-bad : goal.returns-in_err-length-clause-bad
returns-in_err-length-clause-bad c e =
    let h : HoldsHead c.args.input.now c.read_head.new.room c.in-Head.head = c.in-Head.ensures.head in
    let is_bad : c.body_length.result ≡ Err BadHttp = search rules in
    stays_bad c.args.input.now h.head _ h.at.reads (sym (c.body_length.ensures ∙ ap framed h.at.fields) ∙ is_bad)

pub returns-then-behind-length-clause-not_yet : goal.returns-then-behind-length-clause-not_yet
returns-then-behind-length-clause-not_yet c e =
    let h : HoldsHead c.args.input.now c.read_head.new.room c.in-Head.head = c.in-Head.ensures.head in
    unfinished_body c.args.input.now h.head _ c.in_ok-length.length h.is_head h.at.reads (sym (c.body_length.ensures ∙ ap framed h.at.fields) ∙ c.in_ok-length.was)
    (search (rules, length-drop, length-take))

pub returns-clause-message : goal.returns-clause-message
returns-clause-message c =
    let h : HoldsHead c.args.input.now c.read_head.new.room c.in-Head.head = c.in-Head.ensures.head in
    let size : c.in_ok-length.length ≡ length c.split_at.result.0.now = search rules in
    record {
      head = h.head;
      begins = record {
        message = record {
          is_head = h.is_head;
          frames = sym (c.body_length.ensures ∙ ap framed h.at.fields) ∙ c.in_ok-length.was ∙ ap Ok size;
        };
        bytes = h.at.reads.1 ∙ ap (λ r. print_request h.head ++ r) (body_and_rest c.args.input.now _ _ _ _ c.split_at.ensures.front c.split_at.ensures.back);
      };
      parts = record {
        method = c.of-2.ensures ∙ h.at.method;
        target = search rules;
        client = c.or_empty.ensures _ c.find_field.ensures ∙ ap (λ f. sole (values_of (codes "Fax-Client") f)) h.at.fields;
        number = c.or_empty-2.ensures _ c.find_field-2.ensures ∙ ap (λ f. sole (values_of (codes "Fax-Number") f)) h.at.fields;
        moment = c.or_empty-3.ensures _ c.find_field-3.ensures ∙ ap (λ f. sole (values_of (codes "Fax-Moment") f)) h.at.fields;
        content = refl;
        is_last = c.is_last.ensures ∙ ap₂ closes h.at.version h.at.fields;
      };
    }
