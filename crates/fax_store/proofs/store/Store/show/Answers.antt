use Rattle.std.proofs.Common.{rules, sym, subst}
use Rattle.sqlite.specs.Given.{IsPlain}
use Rattle.sqlite.specs.Held.{state}
use Rattle.sqlite.specs.Listing.{understood}
use Rattle.sqlite.specs.State.{HasCleanDisk}
use Rattle.sqlite.specs.Values.{bound}
use Rattle.fax_store.specs.Store.{LeavesCommit}
use Rattle.fax_store.proofs.StatementLemmas.{query_fails, left_open, shown_keeps, shown_at}
use Rattle.fax_store.proofs.StoreLemmas.{cleaner, served}
use Rattle.fax_store.proofs.StopLemmas.{queries_nothing}
use Rattle.fax_store.proofs.FrameLemmas.{finds_by, on_err, reads_refused}
use Rattle.fax_store.proofs.store.Store.show.Goals as goal

pub returns-in_err-rows : goal.returns-in_err-rows
returns-in_err-rows g c =
    let old = state g.S.Store c.args.self.now.conn in
    let new = state g.S.Store c.query_all.new.self in
    let left : HasCleanDisk new → LeavesCommit old new = λ clean. query_fails old new c.args.sql.now (bound c.args.params.now) c.in_err-rows.field-0.0 (c.in_err-rows.ensures.err clean) in
    record {
      leaves = finds_by g.S.Store _ _ _ (λ s. served old new c.query_all.ensures.survives.clean s (left_open old new c.args.sql.now (bound c.args.params.now) (left s.clean) s.is_open))
          (cleaner old new c.query_all.ensures.survives.clean) (search rules) (λ tables clean. reads_refused old new c.from_residual.result _ c.from_residual.ensures.1 (left clean))
          (queries_nothing old new c.args.sql.now (bound c.args.params.now) c.requires c.query_all.ensures.survives);
      found = search rules;
      left = λ clean. on_err c.from_residual.result (left clean);
      cause = search rules;
    }

pub returns : goal.returns
returns g c =
    let old = state g.S.Store c.args.self.now.conn in
    let new = state g.S.Store c.query_all.new.self in
    record {
      leaves = finds_by g.S.Store _ _ _ (λ s. served old new c.query_all.ensures.survives.clean s (shown_at old new c.args.sql.now (bound c.args.params.now) c.in_ok-rows.rows.items (c.in_ok-rows.ensures.ok s.clean)).0)
          (cleaner old new c.query_all.ensures.survives.clean)
          (λ clean. record { clean = clean; is_open = (shown_at old new c.args.sql.now (bound c.args.params.now) c.in_ok-rows.rows.items (c.in_ok-rows.ensures.ok clean)).1 })
          (λ tables clean. shown_keeps old new c.args.sql.now (bound c.args.params.now) (subst (λ s. IsPlain (understood s c.args.sql.now)) (sym tables) c.requires) c.in_ok-rows.rows.items (c.in_ok-rows.ensures.ok clean))
          (queries_nothing old new c.args.sql.now (bound c.args.params.now) c.requires c.query_all.ensures.survives);
      found = c.in_ok-rows.ensures.ok;
      left = search rules;
      cause = search rules;
    }
