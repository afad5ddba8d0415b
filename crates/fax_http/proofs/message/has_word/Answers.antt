use Rattle.fax_http.specs.Message.{lists}
use Rattle.fax_http.proofs.FieldLemmas.{values_of-more, any_found, any_passed}
use Rattle.fax_http.proofs.message.has_word.Goals as goal
use Rattle.fax_http.proofs.message.has_word.Goals.{then-eq_ignore_ascii_case, else-eq_ignore_ascii_case}

pub loop-field-preserved : goal.loop-field-preserved
loop-field-preserved c =
    let more = values_of-more c.args.input.now c.args.name.now c.args.fields.now c.loop-field.field-index _ c.eq_ignore_ascii_case.result c.of.result.now c.loop-field-test.true c.of.ensures c.eq_ignore_ascii_case.ensures.test in
    elim c.if-eq_ignore_ascii_case.branch [
      | then-eq_ignore_ascii_case w ↦
          any_found (lists c.args.word.now) _ _ _ _ _ _ _ _ more w.if-eq_ignore_ascii_case.true c.loop-field.invariant w.of-then-eq_ignore_ascii_case.ensures w.lists-found.ensures w.found-is
      | else-eq_ignore_ascii_case w ↦
          any_passed (lists c.args.word.now) _ _ _ _ _ _ more w.if-eq_ignore_ascii_case.false c.loop-field.invariant w.found-is
    ]
