use Rattle.std.proofs.Common.{◌≡◌, refl, sym, subst, ◌∙◌, rules, false, true}
use Rattle.fax_store.proofs.FrameLemmas.{reads_on, runs_of, runs_then}
use Rattle.sqlite.specs.Tree.{IsTable}
use Rattle.fax_store.proofs.GrantLemmas.{closed_already}
use Rattle.fax_store.proofs.store.Store.shut_grant.Goals as goal

pub returns-then-not-grant-clause-written : goal.returns-then-not-grant-clause-written
returns-then-not-grant-clause-written g c m₀ m k₀ k works s =
    let first = reads_on g.S.Store c.in_ok-grant.ensures.leaves c.in_ok-grant.ensures.answers m₀ m k₀ k works s in
    let off : c.in-Some.grant.is_open ≡ false = search rules in
    let means = (first.1.goes_on refl).means in
    rw (closed_already c.args.number c.in-Some.grant m (subst IsTable means.grants means.ordered.grants.rise) (sym first.0 ∙ c.in-Some.is) off) first.1

pub returns-clause-leaves : goal.returns-clause-leaves
returns-clause-leaves g c = runs_then g.S.Store (runs_of g.S.Store c.in_ok-grant.ensures.leaves) c.end_call.ensures.leaves

pub returns-clause-written : goal.returns-clause-written
returns-clause-written g c m₀ m k₀ k works s =
    let first = reads_on g.S.Store c.in_ok-grant.ensures.leaves c.in_ok-grant.ensures.answers m₀ m k₀ k works (c.end_call.ensures.leaves.served s) in
    let on : c.in-Some.grant.is_open ≡ true = search rules in
    c.end_call.ensures.written m₀ m k₀ k (λ _. first.1) s (c.in-Some.grant, sym first.0 ∙ c.in-Some.is, on, refl)
