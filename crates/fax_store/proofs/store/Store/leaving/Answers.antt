use Rattle.std.proofs.Common.{◌∙◌}
use Rattle.fax_store.proofs.EarlyLemmas.{leaving_whole}
use Rattle.fax_store.proofs.FrameLemmas.{finds_then, means_then, or_weaker}
use Rattle.fax_store.proofs.store.Store.leaving.Goals as goal

pub returns-then-not-branch : goal.returns-then-not-branch
returns-then-not-branch g c =
    let asked = c.in_ok-has_many_not_over.ensures.leaves in
    let all = c.leaving_from.ensures in
    record {
      leaves = finds_then g.S.Store _ _ _ _ _ asked all.leaves;
      answers = λ m k means s.
          or_weaker c.leaving_from.result _ _ (λ found is. is ∙ leaving_whole c.args.before m) (all.answers m k (means_then g.S.Store _ _ _ asked m k means) s);
    }

pub returns-then-not-branch-2 : goal.returns-then-not-branch-2
returns-then-not-branch-2 g c =
    let asked = c.in_ok-has_many_not_over.ensures.leaves in
    let next = c.in_ok-has_many_over.ensures.leaves in
    let all = c.leaving_over.ensures in
    record {
      leaves = finds_then g.S.Store _ _ _ _ _ asked (finds_then g.S.Store _ _ _ _ _ next all.leaves);
      answers = λ m k means s.
          let means_next = means_then g.S.Store _ _ _ next m k (means_then g.S.Store _ _ _ asked m k means) in
          or_weaker c.leaving_over.result _ _ (λ found is. is ∙ leaving_whole c.args.before m) (all.answers m k means_next s);
    }

pub returns : goal.returns
returns g c =
    let asked = c.in_ok-has_many_not_over.ensures.leaves in
    let next = c.in_ok-has_many_over.ensures.leaves in
    let all = c.leaving_past_endless.ensures in
    record {
      leaves = finds_then g.S.Store _ _ _ _ _ asked (finds_then g.S.Store _ _ _ _ _ next all.leaves);
      answers = λ m k means s. all.answers m k (means_then g.S.Store _ _ _ next m k (means_then g.S.Store _ _ _ asked m k means)) s;
    }
