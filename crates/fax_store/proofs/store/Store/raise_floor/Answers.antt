use Rattle.std.proofs.Common.{◌≡◌, subst, ap, ◌∙◌, refl, rules}
use Rattle.fax_store.specs.Calls.{shown}
use Rattle.fax_core.specs.Ledger.{greater, with_floor}
use Rattle.fax_value.specs.Name.{IsName}
use Rattle.fax_store.specs.Work.{Steps}
use Rattle.fax_store.proofs.FrameLemmas.{moves_of, reads_on, refused_as, runs_of, runs_then, writes_if_refused}
use Rattle.fax_store.proofs.store.Store.raise_floor.Goals as goal

pub returns : goal.returns
returns g c = record {
  leaves = runs_then g.S.Store (runs_of g.S.Store c.in_ok-floor.ensures.leaves) c.put_floor.ensures.leaves;
  written = λ m₀ m k₀ k works s. let new = shown g.S.Store c.put_floor.new.self in
      let client = c.args.client.now in
      let name : IsName client = search rules in
      let first = reads_on g.S.Store c.in_ok-floor.ensures.leaves c.in_ok-floor.ensures.answers m₀ m k₀ k works (c.put_floor.ensures.leaves.served s) in
      let raised : c.get.result ≡ greater (k.floor client) c.args.upto = c.get.ensures.number ∙ c.at_least.ensures ∙ ap (λ f. greater f c.args.upto) first.0 in
      moves_of new c.put_floor.result m₀ m k₀ _ (subst (λ f. Steps new c.put_floor.result m₀ k₀ m (with_floor client f k)) raised (c.put_floor.ensures.written m₀ m k₀ k name (λ _. first.1) s));
  cause = λ m₀ m k₀ k works s named. c.put_floor.ensures.cause;
}

pub returns-in_err-floor : goal.returns-in_err-floor
returns-in_err-floor g c =
    let told = c.from_residual.ensures.1 in
    writes_if_refused g.S.Store _ told (runs_of g.S.Store c.in_err-floor.ensures.leaves) (λ m₀ m k₀ k works s named.
    refused_as c.from_residual.result c.in_err-floor.field-0.0 told (c.in_err-floor.ensures.answers m k (λ at. ((works at).goes_on refl).means) s))
