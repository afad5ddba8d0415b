use Rattle.std.proofs.Common.{sym, ◌∙◌, rules}
use Rattle.std.proofs.lemmas.Result.{IfOk-weaker}
use Rattle.fax_store.proofs.MetaLemmas.{meta_found, meta_stands}
use Rattle.fax_store.proofs.FrameLemmas.{finds_as}
use Rattle.fax_store.proofs.store.Store.meta.Goals as goal

pub returns-in-Some : goal.returns-in-Some
returns-in-Some g c = record {
  leaves = finds_as g.S.Store _ _ _ _ c.in_ok-row.ensures.leaves;
  answers = λ m k means s. let means_now = means (c.in_ok-row.ensures.leaves.served s) in
      let is = sym c.in-Some.is ∙ meta_found _ _ m k means_now c.in_ok-row.field-0 (c.in_ok-row.ensures.found s.clean) in
      c.in_row.ensures.found m (let it = is in cc) means_now.lawful.meta;
  stands = λ db ours now clean.
      IfOk-weaker c.in_row.result _ _ (λ meta has. meta_stands _ _ db ours now c.in-Some.row meta (rw c.in-Some.is at (c.in_ok-row.ensures.found clean)) has)
      c.in_row.ensures.stands;
  lawful = c.in_row.ensures.lawful;
}

pub returns-in-None : goal.returns-in-None
returns-in-None g c = record {
  leaves = finds_as g.S.Store _ _ _ _ c.in_ok-row.ensures.leaves;
  answers = λ m k means s. absurd (let is = sym c.in-None.is ∙ meta_found _ _ m k (means (c.in_ok-row.ensures.leaves.served s)) c.in_ok-row.field-0 (c.in_ok-row.ensures.found s.clean) in cc);
  stands = search rules;
  lawful = tt;
}
