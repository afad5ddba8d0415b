use Rattle.std.proofs.Common.{rules}
use Rattle.fax_tables.specs.Grant.{IsOpenGrant}
use Rattle.fax_store.proofs.store.Store.add_grant.Goals as goal

pub returns : goal.returns
returns g c =
    let put = c.insert_grant.ensures in
    let grant : IsOpenGrant c.args.grant.now = search rules in
    record { leaves = put.leaves; written = λ m₀ m k₀ k works s. put.written m₀ m k₀ k grant works s; cause = put.cause }
