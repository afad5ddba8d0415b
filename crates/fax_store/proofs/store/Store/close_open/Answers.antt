use Rattle.std.proofs.Common.{rules}
use Rattle.fax_store.specs.Calls.{shown}
use Rattle.fax_store.specs.Grant.{with_closed}
use Rattle.fax_tables.proofs.TablesLemmas.{calls, calls_of}
use Rattle.fax_store.proofs.GrantLemmas.{close_counted, close_params, grant_closed}
use Rattle.fax_store.proofs.FrameLemmas.{edits_with, inside_by, moves_by, ok_as, runs_then, step_of, writes_where_refused}
use Rattle.fax_store.proofs.store.Store.close_open.Goals as goal

pub returns-in_err-run-2 : goal.returns-in_err-run-2
returns-in_err-run-2 g c =
    let told = c.from_residual-in_err-run-2.ensures.1 in
    writes_where_refused g.S.Store _ told (runs_then g.S.Store c.in_ok-run.ensures.leaves c.in_err-run-2.ensures.leaves) c.in_err-run-2.ensures.cause

pub returns : goal.returns
returns g c =
    let n = c.args.number in
    let params = close_params n in
    let shut_one = edits_with g.S.Store _ _ _ _ _ params (search rules) c.in_ok-run.ensures in
    let freed = edits_with g.S.Store _ _ _ _ _ params (search rules) c.in_ok-run-2.ensures in
    let before = runs_then g.S.Store shut_one.leaves freed.leaves in
    let runs = runs_then g.S.Store before c.set_calls.ensures.leaves in
    record {
      leaves = runs;
      written = λ m₀ m k₀ k it works s.
          let at_shut = c.set_calls.ensures.leaves.served s in
          let held = it.0 in
          let called = held.3 in
          step_of _ c.set_calls.result m₀ (with_closed n m) k₀ k c.set_calls.ensures.cause
          (moves_by _ _ c.set_calls.result m₀ m (with_closed n m) k₀ k k runs.served runs.holds works s
          (λ means inside.
          let parts = grant_closed n _ _ _ m k means (shut_one.ran (freed.leaves.clean at_shut.clean)) (freed.ran at_shut.clean) in
          let on = inside_by _ _ before.holds at_shut inside means.schema in
          ok_as c.set_calls.result
          (λ set. close_counted n _ m k means (shown g.S.Store c.run-2.new.self) (shown g.S.Store c.set_calls.new.self) held.0 called.0 held.1 held.2 called.1
          parts (rw (called.2, ← it.1) set))
          (c.set_calls.ensures.set (calls_of m) (record { is_open = at_shut.is_open; inside = on.0; tables = on.1; sound = parts.sound; calls = parts.says calls }) s.clean)));
      cause = c.set_calls.ensures.cause;
    }
