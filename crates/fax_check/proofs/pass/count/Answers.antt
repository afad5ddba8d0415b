use Rattle.std.proofs.Common.{◌++◌, [], ◌∷◌, rules, sym, subst, w64, ◌∙◌}
use Rattle.std.proofs.lemmas.Int.{to_z-of_z}
use Rattle.fax_check.specs.Pass.{IsPassed, IsStep, Names}
use Rattle.fax_check.specs.Whole.{Shows}
use Rattle.fax_check.proofs.TellsLemmas.{pass_more}
use Rattle.fax_check.proofs.TallyLemmas.{right_flaw, wrong_flaw}
use Rattle.fax_check.proofs.pass.count.Goals.{in-Right, in-Wrong}
use Rattle.fax_check.proofs.pass.count.Goals as goal

pub returns-in-End-clause-counted : goal.returns-in-End-clause-counted
returns-in-End-clause-counted g c sql begun clean =
    let first = c.args.rows.now.conn.now in
    let mid = c.loop.rows.conn.now in
    let new = c.next_step.new.rows.conn.now in
    let P = Shows c.args.meta.now c.args.held.now c.args.query in
    let N = Names c.args.query in
    let before = c.loop.invariant.counted sql begun (c.in_ok-next_step.ensures.leaves.clean clean) in
    let step = subst (IsStep g.S.Store P N sql before.0 mid new) c.in-End.is (c.in_ok-next_step.ensures.steps sql before.0 before.1 clean) in
    (before.0, (mid, sym (c.in_ok-next_step.ensures.leaves.same clean).0.now_is, step), before.2)

pub loop-preserved : goal.loop-preserved
loop-preserved g c =
    let first = c.args.rows.now.conn.now in
    let mid = c.loop.rows.conn.now in
    let new = c.next_step.new.rows.conn.now in
    let P = Shows c.args.meta.now c.args.held.now c.args.query in
    let N = Names c.args.query in
    record {
      same_reference = c.next_step.ensures.same_reference ∙ c.loop.invariant.same_reference;
      passed = pass_more g.S.Store c.loop.counter first mid new _ c.loop.invariant.passed c.in_ok-next_step.ensures.leaves;
      counted = λ sql begun clean.
          let before = c.loop.invariant.counted sql begun (c.in_ok-next_step.ensures.leaves.clean clean) in
          let step = c.in_ok-next_step.ensures.steps sql before.0 before.1 clean in
          elim c.match-branch-2.branch [
            | in-Right w ↦
                (let right = subst (IsStep g.S.Store P N sql before.0 mid new) w.in-Right.is step in
                (before.0 ++ right.0 ∷ [], right.1, subst (IsPassed P N (before.0 ++ right.0 ∷ [])) (sym w.flaw-is) (right_flaw P N before.0 right.0 c.loop.flaw before.2 right.2)))
            | in-Wrong w ↦
                (let wrong = subst (IsStep g.S.Store P N sql before.0 mid new) w.in-Wrong.is step in
                (before.0 ++ wrong.0 ∷ [], wrong.1, subst (IsPassed P N (before.0 ++ wrong.0 ∷ [])) (sym w.flaw-is) (subst (IsPassed P N (before.0 ++ wrong.0 ∷ [])) (sym w.or-flaw.ensures) (wrong_flaw P N before.0 wrong.0 c.loop.flaw _ before.2 wrong.2 (λ n has. to_z-of_z w64 w.in-Wrong.row (search rules) ∙ wrong.3 n has)))))
          ];
    }
