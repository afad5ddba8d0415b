use Rattle.std.proofs.Common.{◌≡◌, rules, ap, sym, ◌∙◌, ◌++◌, Ok, length, codes, refl, arith, length-drop, length-take}
use Rattle.httparse.specs.Grammar.{print_response}
use Rattle.httparse.specs.Spans.{IsResponseOf}
use Rattle.fax_http.specs.Message.{framed, values_of}
use Rattle.fax_http.proofs.AnswerLemmas.{few_fields, interim, long_reply, no_length, no_part, no_room, shows_as, unframed, unlike_one}
use Rattle.fax_http.proofs.MessageLemmas.{body_and_rest}
use Rattle.fax_http.proofs.answer.split_answer.Goals as goal
use Rattle.fax_http.proofs.answer.split_answer.Goals.{in-Once, in_default-matches, in_default-via-in-Ok-Complete+else-head-le-HEAD_LIMIT, in_default-via-in-Ok-Partial+else-input-lt-HEAD_LIMIT, in_default-via-in_default, then-head-lt-FINAL_STATUS-via-then-head-lt-FINAL_STATUS, then-head-lt-FINAL_STATUS-via-else-head-lt-FINAL_STATUS+then-not-says_length}

pub returns-clause-answer : goal.returns-clause-answer
returns-clause-answer c =
    let h : IsResponseOf c.args.input.now c.parse_response.new.headers c.in-Ok-Complete.head = rw c.in-Ok-Complete.field-0-is at c.in-Ok-Complete.ensures.complete in
    let room : length c.parse_response.new.headers ≡ 64 = search rules in
    record {
      head = h.0;
      rest = _;
      is_answer = record {
        grammar = h.1.reads.0;
        bytes = omega (arith, h.1.len);
        fields = omega (arith, room, few_fields _ _ _ _ h.1);
        final = omega (arith, h.1.code);
        says_length = elim c.match-matches.branch [
          | in-Once w ↦ sym (ap (λ f. length (values_of (codes "Content-Length") f)) h.1.fields) ∙ ap length (shows_as _ _ _ w.in-Once.is c.content_length.ensures)
          | in_default-matches w ↦ let no = w.matches-is in let yes = c.if-not-says_length.false in cc
        ];
        frames = sym (c.body_length.ensures ∙ ap framed h.1.fields) ∙ c.in-Ok.is ∙ ap Ok (search (rules, length-drop, length-take));
      };
      bytes = h.1.reads.1 ∙ ap (λ r. print_response h.0 ++ r) (body_and_rest c.args.input.now _ _ c.in-Ok-Complete.head.len c.in-Ok.length refl refl);
      status_is = h.1.code;
    }

pub returns-in_default-clause-never : goal.returns-in_default-clause-never
returns-in_default-clause-never c is = elim c.in_default.branch [
  | in_default-via-in-Ok-Complete+else-head-le-HEAD_LIMIT w ↦
      let h : IsResponseOf c.args.input.now c.parse_response.new.headers w.in-Ok-Complete.head = rw w.in-Ok-Complete.field-0-is at w.in-Ok-Complete.ensures.complete in
      long_reply c.args.input.now h.0 _ h.1.reads (omega (arith, h.1.len))
  | in_default-via-in-Ok-Partial+else-input-lt-HEAD_LIMIT w ↦
      no_part c.args.input.now (rw w.in-Ok-Partial.field-0-is at w.in-Ok-Partial.ensures.partial) (omega arith)
  | in_default-via-in_default w ↦ no_room c.args.input.now (rw w.in_default.is at c.parse_response.ensures.no_room)
]

pub returns-then-head-lt-FINAL_STATUS-clause-never : goal.returns-then-head-lt-FINAL_STATUS-clause-never
returns-then-head-lt-FINAL_STATUS-clause-never c is =
    let h : IsResponseOf c.args.input.now c.parse_response.new.headers c.in-Ok-Complete.head = rw c.in-Ok-Complete.field-0-is at c.in-Ok-Complete.ensures.complete in
    elim c.then-head-lt-FINAL_STATUS.branch [
      | then-head-lt-FINAL_STATUS-via-then-head-lt-FINAL_STATUS w ↦ interim c.args.input.now h.0 _ h.1.reads (omega (arith, h.1.code))
      | then-head-lt-FINAL_STATUS-via-else-head-lt-FINAL_STATUS+then-not-says_length w ↦ no_length c.args.input.now h.0 _ h.1.reads (λ one. elim c.match-matches.branch [
        | in-Once o ↦ absurd (let no = sym o.matches-is ∙ w.if-not-says_length.true in cc)
        | in_default-matches o ↦ unlike_one _ _ c.content_length.ensures o.in_default-matches.not-Once (ap (λ f. length (values_of (codes "Content-Length") f)) h.1.fields ∙ one)
      ])
    ]

pub returns-in_default-body_length-clause-never : goal.returns-in_default-body_length-clause-never
returns-in_default-body_length-clause-never c is =
    let h : IsResponseOf c.args.input.now c.parse_response.new.headers c.in-Ok-Complete.head = rw c.in-Ok-Complete.field-0-is at c.in-Ok-Complete.ensures.complete in
    unframed c.args.input.now h.0 _ h.1.reads _ (sym (c.body_length.ensures ∙ ap framed h.1.fields) ∙ c.in_default-body_length.is)
