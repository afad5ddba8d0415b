use Rattle.std.proofs.Common.{refl, ◌∙◌, rules}
use Rattle.fax_store.specs.Calls.{shown}
use Rattle.fax_value.specs.Name.{IsName}
use Rattle.fax_store.specs.Grant.{with_placed}
use Rattle.fax_tables.proofs.TablesLemmas.{calls, calls_of}
use Rattle.fax_store.proofs.GrantLemmas.{hold_params, grant_params, hold_goes, grant_counted, grant_put, grant_goes}
use Rattle.fax_store.proofs.FrameLemmas.{inserts_with, inside_by, moves_by, ok_as, refused_as, runs_then, writes_if_where_refused}
use Rattle.fax_store.proofs.store.Store.place_grant.Goals as goal

pub returns-in_err-insert : goal.returns-in_err-insert
returns-in_err-insert g c =
    let told = c.from_residual.ensures.1 in
    let grant = c.args.grant.now in
    let put = inserts_with g.S.Store _ _ _ _ _ (hold_params grant) (search rules) c.in_err-insert.ensures in
    writes_if_where_refused g.S.Store _ told put.leaves (λ m₀ m k₀ k works s fit.
    let why = put.told s.clean in
    refused_as c.from_residual.result c.in_err-insert.field-0.0 told (why.2 ∙ hold_goes grant _ _ m k ((works (put.leaves.served s)).goes_on refl).means fit.1 why.0 why.1))

pub returns-in_err-insert-2 : goal.returns-in_err-insert-2
returns-in_err-insert-2 g c =
    let told = c.from_residual-in_err-insert-2.ensures.1 in
    let grant = c.args.grant.now in
    let put_hold = inserts_with g.S.Store _ _ _ _ _ (hold_params grant) (search rules) c.in_ok-insert.ensures in
    let put = inserts_with g.S.Store _ _ _ _ _ (grant_params grant) (search rules) c.in_err-insert-2.ensures in
    writes_if_where_refused g.S.Store _ told (runs_then g.S.Store put_hold.leaves put.leaves) (λ m₀ m k₀ k works s fit.
    let at_mid = put.leaves.served s in
    let why = put.told s.clean in
    refused_as c.from_residual-in_err-insert-2.result c.in_err-insert-2.field-0.0 told
    (why.2 ∙ grant_goes grant _ _ m k ((works (put_hold.leaves.served at_mid)).goes_on refl).means _ fit.0.is_open fit.1 (put_hold.ran at_mid.clean) why.0 why.1))

pub returns : goal.returns
returns g c =
    let grant = c.args.grant.now in
    let put_hold = inserts_with g.S.Store _ _ _ _ _ (hold_params grant) (search rules) c.in_ok-insert.ensures in
    let put = inserts_with g.S.Store _ _ _ _ _ (grant_params grant) (search rules) c.in_ok-insert-2.ensures in
    let before = runs_then g.S.Store put_hold.leaves put.leaves in
    let runs = runs_then g.S.Store before c.set_calls.ensures.leaves in
    let modem : IsName grant.modem = search rules in
    record {
      leaves = runs;
      written = λ m₀ m k₀ k it works s.
          let fit = it.0 in
          let called = it.1 in
          let at_put = c.set_calls.ensures.leaves.served s in
          let at_mid = put.leaves.served at_put in
          moves_by _ _ c.set_calls.result m₀ m (with_placed grant m) k₀ k k runs.served runs.holds works s
          (λ means inside.
          let parts = grant_put grant _ _ m k means _ fit.is_open (record { limits = fit.limits; modem = modem }) (put_hold.ran at_mid.clean)
          (put.ran at_put.clean) in
          let on = inside_by _ _ before.holds at_put inside means.schema in
          ok_as c.set_calls.result
          (λ set. grant_counted grant m means.held (shown g.S.Store c.insert-2.new.self) (shown g.S.Store c.set_calls.new.self) k called.0 called.1
          fit.is_open parts (rw (called.2, ← it.2) set))
          (c.set_calls.ensures.set (calls_of m) (record { is_open = at_put.is_open; inside = on.0; tables = on.1; sound = parts.sound; calls = parts.says calls }) s.clean));
      cause = λ m₀ m k₀ k works s fit. c.set_calls.ensures.cause;
    }
