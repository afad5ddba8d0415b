use Rattle.std.proofs.Common.{rules, false, refl}
use Rattle.sqlite.specs.Held.{state}
use Rattle.fax_store.proofs.FrameLemmas.{edit_ran, edit_refused}
use Rattle.sqlite.specs.State.{HasCleanDisk}
use Rattle.sqlite.specs.Values.{bound}
use Rattle.sqlite.proofs.InsideLemmas.{fails_whole}
use Rattle.fax_store.proofs.store.Store.insert.Goals as goal

pub returns-in-Err : goal.returns-in-Err
returns-in-Err g c =
    let left = λ (clean : HasCleanDisk (state g.S.Store c.execute.new.self)). fails_whole _ _ false _ _ _ (c.in-Err.ensures.runs clean) in
    record {
      leaves = edit_refused g.S.Store _ _ c.args.sql.now (bound c.args.params.now) c.requires c.execute.ensures.survives _ refl left;
      ran = search rules;
      left = left;
      told = λ clean. (c.in-Err.error, c.in-Err.ensures.runs clean, c.insert_fault.ensures);
    }

pub returns-in-Ok : goal.returns-in-Ok
returns-in-Ok g c = record {
  leaves = edit_ran g.S.Store _ _ c.args.sql.now (bound c.args.params.now) c.requires c.execute.ensures.survives _ c.in-Ok.field-0 c.in-Ok.ensures.runs;
  ran = λ clean. (c.in-Ok.field-0, c.in-Ok.ensures.runs clean);
  left = search rules;
  told = search rules;
}
