use Rattle.std.proofs.Common.{◌≡◌, [], ◌∷◌, ap, refl, sym, ◌∙◌, rules, if◌then◌else◌}
use Rattle.sqlite.specs.Order.{column}
use Rattle.sqlite.specs.Values.{bound_value}
use Rattle.sqlite_value.specs.Value.{owned}
use Rattle.fax_schema.proofs.TimesTexts as texts
use Rattle.fax_schema.specs.Schema.{times_tree}
use Rattle.fax_schema.specs.declared.statements.TheConstants.{INSERT_TIMES}
use Rattle.fax_store.proofs.FrameLemmas.{edits_with}
use Rattle.fax_store.proofs.StatementLemmas.{edit_text}
use Rattle.fax_store.proofs.TimedLemmas.{ended, job_timed}
use Rattle.fax_store.proofs.TurnLemmas.{turns_edit}
use Rattle.fax_tables.specs.Row.{number}
use Rattle.fax_tables.specs.Tables.{is_over_phase}
use Rattle.fax_store.proofs.store.Store.time_row.Goals as goal
use Rattle.fax_store.proofs.store.Store.time_row.Goals.{then-is_over_phase, else-is_over_phase}

pub run-requires : goal.run-requires
run-requires g c = edit_text INSERT_TIMES.now _ tt texts.insert_times

pub returns : goal.returns
returns g c =
    let job = owned c.in_ok-job.job in
    let end = owned c.if-is_over_phase.ended in
    let clock = owned c.args.clock in
    let told : c.is_over_phase.result ≡ is_over_phase (column c.args.row.now 1) = c.is_over_phase.ensures ∙ ap is_over_phase c.in_ok-phase.ensures.ok.1 in
    let at : end ≡ ended clock c.args.row.now = elim c.if-is_over_phase.branch [
      | then-is_over_phase w ↦ ap owned w.ended-is ∙ sym (ap (λ b. if b then clock else number 0) (sym told ∙ w.if-is_over_phase.true))
      | else-is_over_phase w ↦ ap owned w.ended-is ∙ sym (ap (λ b. if b then clock else number 0) (sym told ∙ w.if-is_over_phase.false))
    ] in
    turns_edit g.S.Store times_tree (edits_with g.S.Store _ _ _ INSERT_TIMES.now _ (bound_value job ∷ number 0 ∷ bound_value end ∷ []) (search rules) c.run.ensures)
    (λ was ran. job_timed clock c.args.row.now (bound_value job ∷ number 0 ∷ bound_value end ∷ []) job end refl _ _ was ran c.in_ok-job.ensures.ok.1 at)
