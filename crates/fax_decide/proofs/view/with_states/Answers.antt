use Rattle.std.proofs.Common.{[], ◌∷◌, ◌++◌, ap, refl, sym, ◌∙◌, append_assoc, append-nil}
use Rattle.std.proofs.lemmas.List.{map_push, nil_from_length}
use Rattle.fax_decide.proofs.LookingLemmas.{both, goes_on, stops}
use Rattle.fax_decide.proofs.ViewLemmas.{row_is}
use Rattle.fax_decide.specs.Settings.{settings_of}
use Rattle.fax_text.specs.Listing.{Listed}
use Rattle.fax_decide.proofs.view.with_states.Goals as goal

pub loop-job-preserved : goal.loop-job-preserved
loop-job-preserved g c = record {
  can = tt;
  ends = tt;
  items = c.loop-job.invariant.items ∙ ap (λ rest. c.loop-job.yielded ++ rest) c.in-Some.ensures.steps.0 ∙ sym (append_assoc c.loop-job.yielded (c.in-Some.job ∷ []) c.next.new.self.rest.items);
  consults = goes_on (both c.loop-job.invariant.consults c.in_ok-state.ensures) (λ m k at calls.
      rw (map_push, ← calls.0) (c.in_ok-add_row.ensures ∙ ap (λ (row : Listed). c.loop-job.rows.items ++ row ∷ [])
      (row_is (settings_of c.args.office.now.setup c.args.office.now.controls) m c.args.t c.in-Some.job c.aged_job-job.result c.in_ok-state.state
      c.aged_job-job.ensures calls.1)));
}

pub returns : goal.returns
returns g c = goes_on c.loop-job.invariant.consults (λ m k at rows.
    let none = nil_from_length c.loop-job.job-iterator.rest.items (sym c.loop-job.job-iterator.rest.ok.0 ∙ c.in-None.ensures.steps.0) in
    rw (c.loop-job.invariant.items ∙ ap (λ rest. c.loop-job.yielded ++ rest) none ∙ append-nil c.loop-job.yielded) rows)

pub returns-in_err-state : goal.returns-in_err-state
returns-in_err-state g c = stops c.from_residual-in_err-state.ensures.1 (both c.loop-job.invariant.consults c.in_err-state.ensures) (λ m out why. out _ why.1)

pub returns-in_err-add_row : goal.returns-in_err-add_row
returns-in_err-add_row g c = stops c.from_residual-in_err-add_row.ensures.1 (both c.loop-job.invariant.consults c.in_ok-state.ensures) (λ m out calls. out _ refl)
