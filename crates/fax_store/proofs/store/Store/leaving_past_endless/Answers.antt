use Rattle.std.proofs.Common.{◌∙◌, rules, subst}
use Rattle.sqlite.specs.Tree.{IsTable}
use Rattle.fax_store.specs.Purge.{NoneEndedAtZero}
use Rattle.fax_store.proofs.EarlyLemmas.{leaving_late, leaving_whole}
use Rattle.fax_store.proofs.FrameLemmas.{finds_as, finds_then, means_then, or_weaker}
use Rattle.fax_store.proofs.JobsLemmas.{ascend}
use Rattle.fax_store.proofs.store.Store.leaving_past_endless.Goals as goal

pub returns-then-branch : goal.returns-then-branch
returns-then-branch g c =
    let first = c.in_ok-ended.ensures.leaves in
    let next = c.in_ok-has_ended_at_0.ensures.leaves in
    let all = c.leaving_from-then-branch.ensures in
    record {
      leaves = finds_then g.S.Store _ _ _ _ _ first (finds_then g.S.Store _ _ _ _ _ next all.leaves);
      answers = λ m k means s.
          let means_next = means_then g.S.Store _ _ _ next m k (means_then g.S.Store _ _ _ first m k means) in
          or_weaker c.leaving_from-then-branch.result _ _ (λ found is. is ∙ leaving_whole c.args.before m) (all.answers m k means_next s);
    }

pub returns : goal.returns
returns g c =
    let first = c.in_ok-ended.ensures in
    let next = c.in_ok-has_ended_at_0.ensures in
    record {
      leaves = finds_then g.S.Store _ _ _ _ _ first.leaves (finds_as g.S.Store _ _ _ _ next.leaves);
      answers = λ m k means s.
          let before = c.args.before in
          let served = next.leaves.served s in
          let now = means (first.leaves.served served) in
          let is = first.answers m k means served in
          let none = subst (λ last. NoneEndedAtZero last m) (search rules) (next.answers m k (means_then g.S.Store _ _ _ first.leaves m k means) s (search rules)) in
          is ∙ leaving_late before m (ascend m.jobs (subst IsTable now.jobs now.ordered.jobs.rise)) now.lawful.jobs none;
    }
