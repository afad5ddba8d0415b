use Rattle.std.proofs.Common.{subst, rules}
use Rattle.sqlite.specs.Order.{Row}
use Rattle.sqlite.specs.State.{Shown}
use Rattle.fax_schema.specs.declared.statements.TheConstants.{SELECT_EXPIRED}
use Rattle.fax_store.specs.Calls.{shown}
use Rattle.fax_store.proofs.JobLemmas.{expired_shown}
use Rattle.fax_store.proofs.FrameLemmas.{finds_as}
use Rattle.fax_store.proofs.store.Store.expired.Goals as goal

pub returns : goal.returns
returns g c = record {
  leaves = finds_as g.S.Store _ _ _ _ c.in_ok-rows.ensures.leaves;
  answers = λ m k means s.
      let old = shown g.S.Store c.args.self.now in
      let new = shown g.S.Store c.show.new.self in
      let rows = c.in_ok-rows.rows.items in
      expired_shown c.args.phase c.args.t old new m k (means (c.in_ok-rows.ensures.leaves.served s)) rows
      (subst (λ (params : Row). Shown SELECT_EXPIRED.now params old new rows) (search rules) (c.in_ok-rows.ensures.found s.clean));
  cause = search rules;
}
