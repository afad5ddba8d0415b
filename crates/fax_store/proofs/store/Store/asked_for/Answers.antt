use Rattle.std.proofs.Common.{◌≡◌, [], sym, subst, arith, rules}
use Rattle.std.specs.Vec.Iter.{into_iter_items}
use Rattle.fax_store.specs.Candidates.{StandsAt}
use Rattle.fax_store.specs.declared.candidates.TheConstants.{FIRST_PAGE}
use Rattle.fax_store.specs.declared.candidates.Front.TheVariants.{First}
use Rattle.fax_store.proofs.CandidateLemmas.{stands_first}
use Rattle.fax_store.proofs.store.Store.asked_for.Goals as goal

pub returns : goal.returns
returns g c = record {
  same_reference = search rules;
  same = search rules;
  asked = search rules;
  stands = λ m k means serves. let empty : into_iter_items c.into_iter.result ≡ [] = search rules in
      subst (λ rows. StandsAt c.args.asked m [] rows First FIRST_PAGE) (sym empty) (stands_first _ m k (means serves) c.args.asked FIRST_PAGE (omega arith) (omega arith));
}
