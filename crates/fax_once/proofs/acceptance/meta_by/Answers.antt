use Rattle.std.proofs.Common.{◌≡◌, Option, subst}
use Rattle.fax_core.specs.Queue.{Queue}
use Rattle.fax_store.proofs.FrameLemmas.{looks_at, looks_of}
use Rattle.fax_tables.specs.Fault.{OrUnavailable}
use Rattle.fax_tables.specs.Meta.{meta_of}
use Rattle.fax_tables.specs.declared.meta.Meta.{Meta}
use Rattle.fax_once.proofs.KnownLemmas.{still_open}
use Rattle.fax_once.specs.Acceptance.{IsKnownOf}
use Rattle.fax_once.proofs.acceptance.meta_by.Goals as goal

pub returns-in-None : goal.returns-in-None
returns-in-None g c = record {
  leaves = looks_of g.S.Store c.meta.ensures.leaves;
  opens = still_open c.meta.result _ _ _ c.meta.ensures.leaves.opens;
  answers = λ tables m k means known serves.
      let same : tables ≡ m = subst (λ (o : Option Meta). IsKnownOf o tables m) c.in-None.is known in
      subst (λ (q : Queue). OrUnavailable c.meta.result (λ meta. meta ≡ meta_of q)) same (c.meta.ensures.answers tables k means serves);
}

pub returns-in-Some : goal.returns-in-Some
returns-in-Some g c = record {
  leaves = looks_at g.S.Store;
  opens = λ clean serves. serves;
  answers = λ tables m k means known serves. subst (λ (o : Option Meta). IsKnownOf o tables m) c.in-Some.is known;
}
