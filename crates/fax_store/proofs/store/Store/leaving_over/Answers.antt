use Rattle.std.proofs.Common.{subst, rules}
use Rattle.sqlite.specs.Held.{state}
use Rattle.sqlite.specs.State.{Shown}
use Rattle.fax_schema.specs.declared.statements.TheConstants.{SELECT_LEAVING_OVER}
use Rattle.fax_store.specs.Purge.{leaving_from}
use Rattle.fax_store.proofs.FrameLemmas.{finds_as}
use Rattle.fax_store.proofs.LeavingLemmas.{leaving_low, over_shown}
use Rattle.fax_store.proofs.store.Store.leaving_over.Goals as goal

pub returns : goal.returns
returns g c = record {
  leaves = finds_as g.S.Store _ _ _ _ c.in_ok-rows.ensures.leaves;
  answers = λ m k means s. let old = state g.S.Store c.args.self.now.conn in
      let new = state g.S.Store c.show.new.self.conn in
      let before = c.args.before in
      let means_now = means (c.in_ok-rows.ensures.leaves.served s) in
      let is = over_shown before old new m k means_now c.in_ok-rows.rows.items
      (subst (λ p. Shown SELECT_LEAVING_OVER.now p old new c.in_ok-rows.rows.items) (search rules) (c.in_ok-rows.ensures.found s.clean)) in
      c.numbers_in.ensures.found (leaving_from 0 before m) (search rules) (leaving_low 0 before m means_now.lawful.jobs);
}
