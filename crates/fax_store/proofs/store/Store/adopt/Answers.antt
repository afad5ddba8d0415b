use Rattle.std.proofs.Common.{subst, sym}
use Rattle.sqlite.specs.Held.{state}
use Rattle.fax_store.specs.Adopt.{IsGivenBack}
use Rattle.fax_store.proofs.AdoptLemmas.{back_over, means_rows, rows_reopened}
use Rattle.fax_layout.proofs.StopLemmas.{nothing_then}
use Rattle.fax_store.proofs.store.Store.adopt.Goals as goal

pub returns-in-Ok : goal.returns-in-Ok
returns-in-Ok g c =
    let old = state g.S.Store c.args.conn in
    record {
      adopts = c.in-Ok.ensures.taken;
      means = λ m k means s. let before = means_rows old.now m k (means (c.in-Ok.ensures.settles.served s)).means in c.in-Ok.ensures.means m k s.clean before.0 before.1;
      means_rows = λ m k ours rows s. c.in-Ok.ensures.means m k s.clean ours rows;
      reopens = λ m k rows sound s. let before = means_rows old.now m k (rows_reopened old.now m k rows sound) in c.in-Ok.ensures.means m k s.clean before.0 before.1;
      served = c.in-Ok.ensures.settles.served;
      clean = c.in-Ok.ensures.settles.clean;
      opens = c.in-Ok.ensures.settles.opens;
      crash = c.in-Ok.ensures.crash;
      alone = λ serves found leaves. g.met.S.Store.settled c.take_tables.new.self.conn.store found serves.is_open leaves;
    }

pub returns-in-Err : goal.returns-in-Err
returns-in-Err g c =
    let old = state g.S.Store c.args.conn in
    let mid = state g.S.Store c.take_tables.new.self.conn in
    let new = state g.S.Store c.roll_back.new.self.conn in
    let took = c.in-Err.ensures in
    let given : IsGivenBack old new c.in-Err.fault = record {
      back = back_over old mid new took.settles.served took.settles.kept c.roll_back.ensures.back;
      crash_before = λ found may. took.crash found (c.roll_back.ensures.crash found may);
      nothing = λ is. nothing_then old mid new (took.nothing (let e = is in cc)) c.roll_back.ensures.crash;
      served_before = λ s. took.settles.served (c.roll_back.ensures.served s);
      clean_before = λ clean. took.settles.clean (c.roll_back.ensures.clean clean);
      strange = λ clean is. took.strange (c.roll_back.ensures.clean clean) (let e = is in cc);
    } in
    subst (λ k. IsGivenBack old (state g.S.Store k) c.in-Err.fault) (sym c.close.ensures) given
