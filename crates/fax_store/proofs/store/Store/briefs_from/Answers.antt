use Rattle.std.proofs.Common.{nat_le, rules, subst}
use Rattle.std.proofs.lemmas.Result.{IfOk-weaker}
use Rattle.sqlite.specs.Held.{state}
use Rattle.sqlite.specs.State.{Shown}
use Rattle.fax_layout.proofs.ColumnLemmas.{all_kept}
use Rattle.fax_schema.specs.declared.statements.TheConstants.{SELECT_BRIEFS_FROM}
use Rattle.fax_store.specs.Job.{jobs_from}
use Rattle.fax_tables.specs.Job.{IsLawfulJob}
use Rattle.fax_store.proofs.JobsLemmas.{later_found, later_shown, from}
use Rattle.fax_store.proofs.FrameLemmas.{finds_as}
use Rattle.fax_store.proofs.store.Store.briefs_from.Goals as goal

pub returns : goal.returns
returns g c =
    let old = state g.S.Store c.args.self.now.conn in
    let new = state g.S.Store c.show.new.self.conn in
    let first = c.args.first in
    record {
      leaves = finds_as g.S.Store _ _ _ _ c.in_ok-shown.ensures.leaves;
      answers = λ m k means s. let means_now = means (c.in_ok-shown.ensures.leaves.served s) in
          let rows = later_found first old new m k means_now c.in_ok-shown.shown.items
          (subst (λ p. Shown SELECT_BRIEFS_FROM.now p old new c.in_ok-shown.shown.items) {y = from first} (search rules) (c.in_ok-shown.ensures.found s.clean)) in
          c.briefs_in.ensures.found (jobs_from first m) (search rules) (all_kept IsLawfulJob (λ j. nat_le first j.number) m.jobs means_now.lawful.jobs);
      stands = λ db ours now clean.
          let shown = subst (λ p. Shown SELECT_BRIEFS_FROM.now p old new c.in_ok-shown.shown.items) {y = from first} (search rules) (c.in_ok-shown.ensures.found clean) in
          IfOk-weaker c.briefs_in.result _ _ (λ found. later_shown first old new db ours now c.in_ok-shown.shown.items shown found.items)
          (rw c.as_slice.ensures.value at c.briefs_in.ensures.stands);
      lawful = c.briefs_in.ensures.bare;
    }
