use Rattle.std.proofs.Common.{rules, ◌≡◌}
use Rattle.sqlite.specs.Held.{state}
use Rattle.fax_schema.specs.Schema.{no_tables}
use Rattle.fax_tables.proofs.CreateLemmas.{refused_keeps}
use Rattle.fax_store.specs.declared.store.TheConstants.{BEGIN}
use Rattle.fax_store.proofs.AdoptLemmas.{HasBegun, commit_kept_before, creation_kept, founds_refused, settles_done, settles_refused, starts, tables_hold_back, tables_made, tables_stop, has_begun}
use Rattle.fax_store.proofs.StoreLemmas.{clean_in, cleaner, commit_opens}
use Rattle.fax_store.proofs.StopLemmas.{begin_nothing}
use Rattle.fax_store.proofs.store.Store.make_tables.Goals as goal

pub returns-in_err-execute : goal.returns-in_err-execute
returns-in_err-execute g c =
    founds_refused _ _ c.from_residual.result c.from_residual.ensures.0 (clean_in c.execute.ensures.survives) (λ clean. refused_keeps _ _ BEGIN.now c.in_err-execute.field-0.0 (c.in_err-execute.ensures.runs clean))
    (begin_nothing _ _ c.execute.ensures.survives) (search rules)

pub returns-in_err-create_tables : goal.returns-in_err-create_tables
returns-in_err-create_tables g c =
    let begun : HasBegun (λ schema. schema ≡ no_tables) _ _ = has_begun c.in_ok-execute.field-0 c.requires c.execute.ensures.survives c.in_ok-execute.ensures.runs in
    let s2 = state g.S.Store c.create_tables.new.conn in
    let clean1 = cleaner (state g.S.Store c.execute.new.self) s2 c.create_tables.ensures.doubt in
    founds_refused _ _ c.from_residual-in_err-create_tables.result c.from_residual-in_err-create_tables.ensures.0
    (λ clean. clean_in begun.survives (clean1 clean)) (creation_kept _ _ _ begun clean1 c.in_err-create_tables.ensures.kept)
    (tables_hold_back _ _ s2 begun c.create_tables.ensures.crash) (search rules)

pub returns-in_err-execute-2 : goal.returns-in_err-execute-2
returns-in_err-execute-2 g c =
    let begun : HasBegun (λ schema. schema ≡ no_tables) _ _ = has_begun c.in_ok-execute.field-0 c.requires c.execute.ensures.survives c.in_ok-execute.ensures.runs in
    let s2 = state g.S.Store c.create_tables.new.conn in
    let clean2 = clean_in c.execute-2.ensures.survives in
    let clean1 = cleaner (state g.S.Store c.execute.new.self) s2 c.create_tables.ensures.doubt in
    record {
      settles = settles_refused _ _ c.from_residual-in_err-execute-2.result c.from_residual-in_err-execute-2.ensures.0 (λ clean. clean_in begun.survives (clean1 (clean2 clean)))
          (λ clean. commit_kept_before _ _ s2 begun clean1 c.in_ok-create_tables.ensures.made _ (clean2 clean) c.in_err-execute-2.field-0.0
          (c.in_err-execute-2.ensures.runs clean));
      made = search rules;
      crash = tables_stop _ _ s2 begun clean1 c.in_ok-create_tables.ensures.made _ c.create_tables.ensures.crash c.execute-2.ensures.survives;
      cause = search rules;
    }

pub returns : goal.returns
returns g c =
    let begun : HasBegun (λ schema. schema ≡ no_tables) _ _ = has_begun c.in_ok-execute.field-0 c.requires c.execute.ensures.survives c.in_ok-execute.ensures.runs in
    let s2 = state g.S.Store c.create_tables.new.conn in
    let done = c.in_ok-execute-2.ensures.runs in
    let clean2 = clean_in c.execute-2.ensures.survives in
    let clean1 = cleaner (state g.S.Store c.execute.new.self) s2 c.create_tables.ensures.doubt in
    record {
      settles = settles_done _ _ _ (λ clean. clean_in begun.survives (clean1 (clean2 clean))) (λ clean. (starts begun (clean1 (clean2 clean))).was_open)
          (commit_opens s2 _ c.execute-2.ensures.survives.clean c.in_ok-execute-2.field-0 done);
      made = λ clean. tables_made _ _ s2 begun clean1 c.in_ok-create_tables.ensures.made _ (clean2 clean) c.in_ok-execute-2.field-0 (done clean);
      crash = tables_stop _ _ s2 begun clean1 c.in_ok-create_tables.ensures.made _ c.create_tables.ensures.crash c.execute-2.ensures.survives;
      cause = tt;
    }
