use Rattle.fax_http.proofs.FieldLemmas.{values_of-more, shows_found, shows_passed}
use Rattle.fax_http.proofs.message.find_field.Goals as goal
use Rattle.fax_http.proofs.message.find_field.Goals.{then-eq_ignore_ascii_case, else-eq_ignore_ascii_case}

pub loop-field-preserved : goal.loop-field-preserved
loop-field-preserved c =
    let more = values_of-more c.args.input.now c.args.name.now c.args.fields.now c.loop-field.field-index _ c.eq_ignore_ascii_case.result c.of.result.now c.loop-field-test.true c.of.ensures c.eq_ignore_ascii_case.ensures.test in
    elim c.if-eq_ignore_ascii_case.branch [
      | then-eq_ignore_ascii_case w ↦
          shows_found _ _ _ _ _ _ _ more w.if-eq_ignore_ascii_case.true w.found-is w.of-then-eq_ignore_ascii_case.ensures (w.and-found.ensures _ c.loop-field.invariant)
      | else-eq_ignore_ascii_case w ↦
          shows_passed _ _ _ _ _ _ more w.if-eq_ignore_ascii_case.false w.found-is c.loop-field.invariant
    ]
