use Rattle.std.proofs.Common.{Ok, ◌≡◌, false, rules, subst}
use Rattle.sqlite.specs.Held.{state}
use Rattle.sqlite.specs.State.{HasCleanDisk}
use Rattle.fax_decide.proofs.WorkLemmas.{refused_with}
use Rattle.fax_decide.specs.Settings.{settings_of}
use Rattle.fax_run.specs.Run.{Start}
use Rattle.fax_store.proofs.StoreLemmas.{means_stay}
use Rattle.fax_store.specs.Calls.{within}
use Rattle.fax_store.specs.Store.{StaysAsItWas}
use Rattle.fax_once.proofs.BatchLemmas.{asked_to_commit, committed_stops, still_stops}
use Rattle.fax_once.proofs.StopLemmas.{dropped_stops, has_tables}
use Rattle.fax_once.specs.Batch.{AnswersTogether}
use Rattle.fax_once.specs.declared.batch.Batch.TheVariants.{Done, Failed}
use Rattle.fax_once.proofs.batch.answer_together.Goals as goal

pub returns-in_err-replies : goal.returns-in_err-replies
returns-in_err-replies g c = record {
  clean = λ now. now;
  as_many = search rules;
  ended = λ m k sound means. refused_with c.from_residual.result _ _ c.from_residual.ensures.0 (means, λ found may. may);
}

pub returns-in_err-work : goal.returns-in_err-work
returns-in_err-work g c =
    let given = c.from_residual-in_err-work in
    let stays : StaysAsItWas (state g.S.Store c.args.store.now.conn) (state g.S.Store c.begin.follows.lender-at-none.conn) = search rules in
    record { clean = stays.2; as_many = search rules; ended = λ m k sound means. refused_with given.result _ _ given.ensures.0 (means_stay stays.0 stays.1 m k means, stays.3) }

pub returns-in_err-answer_each : goal.returns-in_err-answer_each
returns-in_err-answer_each g c =
    let given = c.from_residual-in_err-answer_each in
    let begun = c.in_ok-work.ensures.work in
    let answers = c.in_err-answer_each.ensures in
    let dropped = c.drop-work.ensures in
    let old = state g.S.Store c.args.store.now.conn in
    let s = settings_of c.args.office.now.setup c.args.office.now.controls in
    let same : c.drop-work.new.self.0 ≡ c.store-in_err-answer_each-1.given.0 = search rules in
    subst (λ store. AnswersTogether g.S.Store c.args.store.now store given.result s c.args.arrivals.now) same (record {
      clean = λ now. begun.clean (answers.leaves.clean (dropped.clean now));
      as_many = search rules;
      ended = λ m k sound means.
          refused_with given.result _ _ given.ensures.0 (
            λ serves.
                let none = answers.ran m k sound (begun.begun m k means) (dropped.served serves) in
                dropped.undone m none.1.0 k none.1.1 (λ _. none.1.2) serves,
            dropped_stops old _ _ (state g.S.Store c.drop-work.new.self.0.conn) _ _ begun.opens (has_tables old m k means) answers.leaves.crash dropped.crash,
          );
    })

pub returns-in-Ok : goal.returns-in-Ok
returns-in-Ok g c =
    let begun = c.in_ok-work.ensures.work in
    let answers = c.in_ok-answer_each.ensures in
    let ended = c.in-Ok.ensures in
    let old = state g.S.Store c.args.store.now.conn in
    let new = state g.S.Store c.commit.new.self.0.conn in
    let s = settings_of c.args.office.now.setup c.args.office.now.controls in
    let work = c.answer_each.new.work in
    let same : c.commit.new.self.0 ≡ c.store-2-1.given.0 = search rules in
    subst (λ store. AnswersTogether g.S.Store c.args.store.now store (Ok (Done c.answer_each.new.replies)) s c.args.arrivals.now) same (record {
      clean = λ now. begun.clean (answers.leaves.clean (ended.clean now));
      as_many = answers.as_many;
      ended = λ m k sound means clean.
          let start : Start = record { queue = m; kept = k } in
          let serves = ended.opens clean in
          let (runs, under) = answers.ran m k sound (begun.begun m k means) (ended.served serves) in
          committed_stops s start c.args.arrivals.now c.answer_each.new.replies.items c.in_ok-answer_each.field-0 runs old new
          (ended.committed m _ k _ (λ _. under)) serves
          (λ at found leaves. g.met.S.Store.settled c.commit.new.self.0.conn.store found at.is_open leaves);
    })

pub returns-in-Err : goal.returns-in-Err
returns-in-Err g c =
    let begun = c.in_ok-work.ensures.work in
    let answers = c.in_ok-answer_each.ensures in
    let ended = c.in-Err.ensures in
    let old = state g.S.Store c.args.store.now.conn in
    let new = state g.S.Store c.commit.new.self.0.conn in
    let s = settings_of c.args.office.now.setup c.args.office.now.controls in
    let work = c.answer_each.new.work in
    let same : c.commit.new.self.0 ≡ c.store-2-1.given.0 = search rules in
    subst (λ store. AnswersTogether g.S.Store c.args.store.now store (Ok Failed) s c.args.arrivals.now) same (record {
      clean = λ now. begun.clean (answers.leaves.clean (ended.clean now));
      as_many = tt;
      ended = λ m k sound means.
          let start : Start = record { queue = m; kept = k } in
          let tables = has_tables old m k means in
          let runs = λ (clean : HasCleanDisk new). answers.ran m k sound (begun.begun m k means) (answers.opens (begun.opens.0 tables) (ended.clean clean)) in (
            λ serves. ended.undone m _ k _ (λ _. (runs serves.clean).1) serves,
            λ found may.
                asked_to_commit s start c.args.arrivals.now c.answer_each.new.replies.items c.in_ok-answer_each.field-0 (runs may.0).0 old _ (within g.S.Store work) new _ work.failed (runs may.0).1
                begun.opens tables answers.leaves.crash ended.crash found may,
          );
    })

pub returns-then-not-branch : goal.returns-then-not-branch
returns-then-not-branch g c =
    let begun = c.in_ok-work.ensures.work in
    let answers = c.in_ok-answer_each.ensures in
    let dropped = c.drop-work-then-not-branch.ensures in
    let old = state g.S.Store c.args.store.now.conn in
    let new = state g.S.Store c.drop-work-then-not-branch.new.self.0.conn in
    let s = settings_of c.args.office.now.setup c.args.office.now.controls in
    let work = c.answer_each.new.work in
    let none : c.in_ok-answer_each.field-0 ≡ false = search rules in
    let same : c.drop-work-then-not-branch.new.self.0 ≡ c.store-then-not-branch-1.given.0 = search rules in
    subst (λ store. AnswersTogether g.S.Store c.args.store.now store (Ok (Done c.answer_each.new.replies)) s c.args.arrivals.now) same (record {
      clean = λ now. begun.clean (answers.leaves.clean (dropped.clean now));
      as_many = answers.as_many;
      ended = λ m k sound means clean.
          let start : Start = record { queue = m; kept = k } in
          let tables = has_tables old m k means in
          let (runs, under) = answers.ran m k sound (begun.begun m k means) (answers.opens (begun.opens.0 tables) (dropped.clean clean)) in
          still_stops s start c.args.arrivals.now c.answer_each.new.replies.items c.in_ok-answer_each.field-0 runs old new none
          (dropped.undone m _ k _ (λ _. under)) (dropped_stops old _ _ new _ _ begun.opens tables answers.leaves.crash dropped.crash);
    })
