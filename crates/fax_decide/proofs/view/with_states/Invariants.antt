use Rattle.std.specs.Prelude.{⊤}
use Rattle.std.proofs.Common.{◌≡◌, ◌++◌, Ok, map}
use Rattle.fax_core.specs.Ageing.{aged_job}
use Rattle.fax_core.specs.Job.{job_of}
use Rattle.fax_decide.specs.Looking.{Consults}
use Rattle.fax_decide.specs.Settings.{settings_of}
use Rattle.fax_run.specs.View.{with_state}
use Rattle.fax_decide.proofs.view.with_states.Given as goal

abbrev pub invariant-loop-job : goal.invariant-loop-job
invariant-loop-job g l = record {
  can : (goal.iterator-loop-job g).can_next l.job-iterator;
  ends : (goal.iterator-loop-job g).is_finite l.job-iterator;
  items : l.fn.jobs.items ≡ l.yielded ++ l.job-iterator.rest.items;
  consults : Consults g.S.Store {A = ⊤} {E = ⊤} l.initial.store l.store (Ok tt)
      (λ m. l.rows.items ≡ map (λ f. with_state (settings_of l.office.setup l.office.controls) m l.t (aged_job l.t (job_of f))) l.yielded);
}
