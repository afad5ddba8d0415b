use Rattle.std.proofs.Common.{ap, ◌∙◌, IsTrue, rules}
use Rattle.sqlite.specs.Effect.{Database}
use Rattle.sqlite.specs.Held.{state}
use Rattle.sqlite_trees.specs.Tree.{Trees}
use Rattle.fax_store.proofs.ControlLemmas.{commits}
use Rattle.fax_store.specs.Store.{GoesBack, Serves}
use Rattle.fax_tables.proofs.ResultLemmas.{on_err}
use Rattle.fax_store.proofs.StoreLemmas.{cleaner, forgets, forgets_commit, undoes, undoes_commit, commit_opens, commit_served, committed, fails_served, not_committed}
use Rattle.fax_store.proofs.StopLemmas.{given_up, may_commit}
use Rattle.fax_store.proofs.work.Work.commit.Goals as goal

pub returns-then-failed : goal.returns-then-failed
returns-then-failed g c = search (rules, forgets, undoes, given_up)

pub returns-in_err-execute : goal.returns-in_err-execute
returns-in_err-execute g c =
    let old = state g.S.Store c.args.self.store.now.conn in
    let new = state g.S.Store c.execute.new.self in
    let kept = c.execute.ensures.survives in
    let ran = c.in_err-execute.ensures.runs in
    let back : (Serves old → IsTrue old.in_transaction) → GoesBack old new =
    λ inside. not_committed old new kept.clean c.in_err-execute.field-0.0 inside ran in
    let forgets = on_err c.from_residual.result (forgets_commit old new back) in
    let undone = on_err c.from_residual.result (undoes_commit old new (fails_served old new kept.clean _ c.in_err-execute.field-0.0 ran) back) in
    let clean = cleaner old new kept.clean in
    let crash = may_commit old new kept in
    rw c.if-failed.false (search rules)

pub returns : goal.returns
returns g c =
    let old = state g.S.Store c.args.self.store.now.conn in
    let new = state g.S.Store c.execute.new.self in
    let kept = c.execute.ensures.survives in
    let ran = c.in_ok-execute.ensures.runs in
    let made = committed old new kept.clean c.in_ok-execute.field-0 ran in
    let served = commit_served old new kept.clean c.in_ok-execute.field-0 ran in
    let clean = cleaner old new kept.clean in
    let opens = commit_opens old new kept.clean c.in_ok-execute.field-0 ran in
    let crash = may_commit old new kept in
    let alone = λ (s : Serves new) (found : Trees) (leaves : new.may_leave found).
    g.met.S.Store.settled c.execute.new.self.store found s.is_open leaves
    ∙ ap (λ (d : Database). d.trees) (commits old new c.in_ok-execute.field-0 (ran s.clean)).committed_is in
    rw c.if-failed.false (search rules)
