use Rattle.std.proofs.Common.{rules}
use Rattle.fax_store.specs.Kept.{IsKeptFor}
use Rattle.fax_store.proofs.KeptLemmas.{none_kept, one_kept, tables_keep_once, params, reply_found, lawful_of, none_found}
use Rattle.fax_store.proofs.FrameLemmas.{finds_as, passes_on, queries_with}
use Rattle.fax_store.proofs.store.Store.kept.Goals as goal

pub returns-in_err-in_row-in-Some : goal.returns-in_err-in_row-in-Some
returns-in_err-in_row-in-Some g c = record {
  leaves = finds_as g.S.Store _ _ _ _ c.in_ok-row.ensures.leaves;
  answers = λ m k means s. let client = c.args.client.now in
      let finds = queries_with g.S.Store _ _ _ _ _ (params client c.args.number) (search rules) c.in_ok-row.ensures in
      let means_now = means (c.in_ok-row.ensures.leaves.served s) in
      let it = rw c.in-Some.is at (reply_found client c.args.number _ _ m k means_now c.in_ok-row.field-0 (finds.found s.clean)) in
      passes_on c.from_residual-in_err-in_row-in-Some.result c.in_err-in_row-in-Some.field-0.0 (IsKeptFor k.replies client c.args.number) c.from_residual-in_err-in_row-in-Some.ensures.1
      (c.in_err-in_row-in-Some.ensures.found it.0 it.3 (lawful_of k.replies it.0 means_now.lawful.replies it.1));
  stands = search rules;
  lawful = search rules;
}

pub returns-in_ok-in_row-in-Some : goal.returns-in_ok-in_row-in-Some
returns-in_ok-in_row-in-Some g c = record {
  leaves = finds_as g.S.Store _ _ _ _ c.in_ok-row.ensures.leaves;
  answers = λ m k means s. let client = c.args.client.now in
      let finds = queries_with g.S.Store _ _ _ _ _ (params client c.args.number) (search rules) c.in_ok-row.ensures in
      let means_now = means (c.in_ok-row.ensures.leaves.served s) in
      let it = rw c.in-Some.is at (reply_found client c.args.number _ _ m k means_now c.in_ok-row.field-0 (finds.found s.clean)) in
      let tells = c.in_ok-in_row-in-Some.ensures.found it.0 it.3 (lawful_of k.replies it.0 means_now.lawful.replies it.1) in
      (it.0, one_kept client c.args.number k.replies it.0 (tables_keep_once _ m k means_now) it.1 it.2, tells);
  stands = search rules;
  lawful = c.in_ok-in_row-in-Some.ensures.lawful;
}

pub returns-in-None : goal.returns-in-None
returns-in-None g c =
    let client = c.args.client.now in
    let finds = queries_with g.S.Store _ _ _ _ _ (params client c.args.number) (search rules) c.in_ok-row.ensures in
    record {
      leaves = finds_as g.S.Store _ _ _ _ finds.leaves;
      answers = λ m k means s. none_kept client c.args.number k.replies
          (rw c.in-None.is at (reply_found client c.args.number _ _ m k (means (finds.leaves.served s)) c.in_ok-row.field-0 (finds.found s.clean)));
      stands = λ db ours now clean. none_found client c.args.number _ _ db ours now (rw c.in-None.is at (finds.found clean));
      lawful = tt;
    }
