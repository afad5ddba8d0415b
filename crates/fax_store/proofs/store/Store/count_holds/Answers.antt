use Rattle.std.proofs.Common.{rules, ◌<◌, ◌^◌, length, sym, subst}
use Rattle.sqlite.specs.Effect.{Database}
use Rattle.sqlite.specs.Held.{state}
use Rattle.fax_store.specs.Adopt.{AreCallable, AreOfJobs}
use Rattle.fax_tables.proofs.CreateLemmas.{commit_kept}
use Rattle.fax_store.proofs.CallLemmas.{has_calls, no_calls, set_still, set_then}
use Rattle.fax_store.proofs.HeldLemmas.{held_callable, held_counted, held_few, held_jobs, none_small, rows_still}
use Rattle.fax_store.proofs.WorkLemmas.{both_as, ok_as}
use Rattle.fax_store.proofs.store.Store.count_holds.Goals as goal

pub returns-clause-leaves : goal.returns-clause-leaves
returns-clause-leaves g c = record {
  goes = λ clean has. let first = set_still _ _ (λ _. 0) (no_calls _ has) (c.in_ok-held.ensures.leaves.reads has.schema_is (c.count_rows.ensures.counts.clean clean)) in
      both_as c.count_rows.result
      (λ set. let whole = set_then _ _ _ (λ _. 0) set.0 first set.1 in
      (whole.goes_on, record { schema_is = whole.schema_is; sound = whole.sound; rows = whole.rows })) (λ kept. commit_kept _ _ _ first.goes_on kept)
      (c.count_rows.ensures.counts.set (λ _. 0) (has_calls _ _ (λ _. 0) first) none_small clean);
  crash = search rules;
  clean = search rules;
}

pub returns-clause-counted : goal.returns-clause-counted
returns-clause-counted g c m k has clean mean =
    let at_mid = c.count_rows.ensures.counts.clean clean in
    let same = c.in_ok-held.ensures.leaves.reads has.schema_is at_mid in
    let first = set_still _ _ (λ _. 0) (no_calls _ has) same in
    let rows = c.in_ok-held.held.items in
    let shown = c.in_ok-held.ensures.found at_mid in
    let jobs = subst (AreOfJobs m) (sym c.as_slice.ensures.value) (held_jobs _ _ m k has.schema_is mean rows shown) in
    let few = subst (λ rs. length rs < 2 ^ 32) (sym c.as_slice.ensures.value) (held_few _ _ m k has.schema_is mean rows shown) in
    ok_as c.count_rows.result (λ set. held_counted _ _ m k has.schema_is mean rows shown _ _ same.0.now_is (rw c.as_slice.ensures.value at set))
    (c.count_rows.ensures.counted m k (rows_still _ _ m k (λ _. 0) first mean) jobs few (has_calls _ _ (λ _. 0) first) clean)

pub returns-clause-cause : goal.returns-clause-cause
returns-clause-cause g c has clean can =
    let mid = state g.S.Store c.show.new.self.conn in
    let at_mid = c.count_rows.ensures.counts.clean clean in
    let same = c.in_ok-held.ensures.leaves.reads has.schema_is at_mid in
    let first = set_still _ mid (λ _. 0) (no_calls _ has) same in
    let rows = c.in_ok-held.held.items in
    let callable = held_callable _ mid has.schema_is rows (c.in_ok-held.ensures.found at_mid) can in
    c.count_rows.ensures.cause (λ _. 0) (subst (AreCallable mid.now) (sym c.as_slice.ensures.value) (subst (λ (d : Database). AreCallable d rows) (sym same.0.now_is) callable)) (has_calls _ mid (λ _. 0) first) none_small clean
