use Rattle.std.proofs.Common.{rules, false}
use Rattle.sqlite.specs.Held.{state}
use Rattle.fax_store.proofs.FrameLemmas.{edit_ran, edit_refused, on_err}
use Rattle.sqlite.specs.State.{HasCleanDisk}
use Rattle.sqlite.specs.Values.{bound}
use Rattle.sqlite.proofs.InsideLemmas.{fails_whole}
use Rattle.fax_store.proofs.store.Store.run.Goals as goal

pub returns-in_err-execute : goal.returns-in_err-execute
returns-in_err-execute g c =
    let left = λ (clean : HasCleanDisk (state g.S.Store c.execute.new.self)). fails_whole _ _ false _ _ _ (c.in_err-execute.ensures.runs clean) in
    record {
      leaves = edit_refused g.S.Store _ _ c.args.sql.now (bound c.args.params.now) c.requires c.execute.ensures.survives c.from_residual.result
          c.from_residual.ensures.0 left;
      ran = search rules;
      left = λ clean. on_err c.from_residual.result (left clean);
      cause = search rules;
    }

pub returns : goal.returns
returns g c = record {
  leaves = edit_ran g.S.Store _ _ c.args.sql.now (bound c.args.params.now) c.requires c.execute.ensures.survives _ c.in_ok-execute.field-0 c.in_ok-execute.ensures.runs;
  ran = λ clean. (c.in_ok-execute.field-0, c.in_ok-execute.ensures.runs clean);
  left = search rules;
  cause = search rules;
}
