use Rattle.std.proofs.Common.{subst, rules}
use Rattle.sqlite.specs.Held.{state}
use Rattle.sqlite.specs.State.{Shown}
use Rattle.fax_schema.specs.declared.statements.TheConstants.{SELECT_LEAVING}
use Rattle.fax_store.specs.Purge.{leaving_from}
use Rattle.fax_store.proofs.FrameLemmas.{finds_as}
use Rattle.fax_store.proofs.LeavingLemmas.{leaving_low, leaving_shown}
use Rattle.fax_store.proofs.store.Store.leaving_from.Goals as goal

pub returns : goal.returns
returns g c = record {
  leaves = finds_as g.S.Store _ _ _ _ c.in_ok-rows.ensures.leaves;
  answers = λ m k means s. let old = state g.S.Store c.args.self.now.conn in
      let new = state g.S.Store c.show.new.self.conn in
      let from = c.args.from in
      let before = c.args.before in
      let means_now = means (c.in_ok-rows.ensures.leaves.served s) in
      let is = leaving_shown from before old new m k means_now c.in_ok-rows.rows.items
      (subst (λ p. Shown SELECT_LEAVING.now p old new c.in_ok-rows.rows.items) (search rules) (c.in_ok-rows.ensures.found s.clean)) in
      c.numbers_in.ensures.found (leaving_from from before m) (search rules) (leaving_low from before m means_now.lawful.jobs);
}
