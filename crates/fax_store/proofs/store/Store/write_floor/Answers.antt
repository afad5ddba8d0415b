use Rattle.std.proofs.Common.{rules}
use Rattle.fax_core.specs.Ledger.{floors_with}
use Rattle.fax_store.proofs.CallLemmas.{params}
use Rattle.fax_store.proofs.FloorLemmas.{floor_gone, floor_params, floor_set}
use Rattle.fax_store.proofs.FrameLemmas.{edits_with, runs_then, step_by, writes_by, writes_where_refused}
use Rattle.fax_store.proofs.store.Store.write_floor.Goals as goal

pub returns : goal.returns
returns g c = record {
  leaves = runs_then g.S.Store c.in_ok-run.ensures.leaves c.run-2.ensures.leaves;
  written = λ m₀ m k₀ k name works s. let client = c.args.client.now in
      let floor = c.args.floor in
      let gone = edits_with g.S.Store _ _ _ _ _ (params client) (search rules) c.in_ok-run.ensures in
      let set = edits_with g.S.Store _ _ _ _ _ (floor_params client floor) (search rules) c.run-2.ensures in
      let first = writes_by g.S.Store _ _ _ _ (params client) 11 (λ m. m) (λ k. record k { floor = floors_with client 0 k.floor }) gone
      (λ m k means has. floor_gone client _ _ m k means has) in
      step_by _ _ _ (floor_params client floor) 11 c.run-2.result m₀ m m k₀ (record k { floor = floors_with client 0 k.floor }) _
      set.leaves.served (λ _. first.written m₀ m k₀ k works (set.leaves.served s)) s
      (set.ran s.clean) (set.left s.clean) set.cause (λ means has. floor_set client floor _ _ m k means name c.requires.0 c.requires.1 has);
  cause = c.run-2.ensures.cause;
}

pub returns-in_err-run : goal.returns-in_err-run
returns-in_err-run g c =
    writes_where_refused g.S.Store _ c.from_residual.ensures.1 c.in_err-run.ensures.leaves c.in_err-run.ensures.cause
