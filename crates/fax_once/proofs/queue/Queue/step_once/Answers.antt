use Rattle.std.proofs.Common.{◌≡◌, Ok, inl, refl, rules, subst}
use Rattle.std.specs.Prelude.{⊤}
use Rattle.sqlite.specs.Held.{state}
use Rattle.fax_decide.proofs.FaultLemmas.{only_no_answer, passed_on}
use Rattle.fax_decide.proofs.WorkLemmas.{refused_with}
use Rattle.fax_store.proofs.StoreLemmas.{means_stay}
use Rattle.fax_decide.specs.Settings.{settings_of}
use Rattle.fax_run.specs.Reading.{post_of}
use Rattle.fax_run.specs.Verdict.{new_asked}
use Rattle.fax_store.specs.Calls.{within}
use Rattle.fax_store.specs.Store.{Serves, StaysAsItWas}
use Rattle.fax_store.proofs.FrameLemmas.{follows_then}
use Rattle.fax_once.specs.Acceptance.{IsBy}
use Rattle.fax_once.proofs.AnsweringLemmas.{accepted_leaves, accepted_stops, refused_leaves}
use Rattle.fax_once.proofs.CauseLemmas.{gave_out}
use Rattle.fax_once.proofs.StopLemmas.{dropped_stops, has_tables}
use Rattle.fax_once.specs.Queue.{AnswersNew}
use Rattle.fax_once.proofs.queue.Queue.step_once.Goals as goal

pub returns-in_err-work : goal.returns-in_err-work
returns-in_err-work g c =
    let given = c.from_residual in
    let stays : StaysAsItWas (state g.S.Store c.args.self.now.store.conn) (state g.S.Store c.begin.follows.lender-at-none.conn) = search rules in
    record {
      leaves = record { office = search rules; clean = stays.2; unchanged = λ refused. stays.1 };
      comes = λ m k sound means asks fresh. record {
        crash = λ found may. inl (stays.3 found may);
        leaves = λ clean. refused_with given.result _ _ given.ensures.0 (means_stay stays.0 stays.1 m k means);
        cause = λ serves. gave_out given.result c.in_err-work.field-0.0 given.ensures.1 c.in_err-work.ensures.cause;
      };
    }

pub returns-in_err-reply : goal.returns-in_err-reply
returns-in_err-reply g c =
    let given = c.from_residual-in_err-reply in
    let begun = c.in_ok-work.ensures.work in
    let answers = c.in_err-reply.ensures in
    let dropped = c.drop-work.ensures in
    let old = state g.S.Store c.args.self.now.store.conn in
    let same : c.drop-work.new.self.0 ≡ c.self-in_err-reply-1.given.0 = search rules in
    subst (λ store. AnswersNew g.S.Store c.args.self.now (record c.args.self.now { store = store }) given.result c.args.arrival.now c.args.sender.now c.args.ask c.args.floor) same (record {
      leaves = record {
        office = search rules;
        clean = λ now. begun.clean (answers.leaves.clean (dropped.clean now));
        unchanged = λ refused db ours rests. dropped.forgets db (answers.leaves.holds db (begun.at db ours rests));
      };
      comes = λ m k sound means asks fresh.
          let none = answers.comes m m m k k sound (begun.begun m k means) (c.nothing-known.ensures m) (inl refl) asks (λ at. fresh.unkept (begun.served at)) in
          record {
            crash = λ found may. inl (dropped_stops old _ _ (state g.S.Store c.drop-work.new.self.0.conn) _ _ begun.opens (has_tables old m k means) answers.leaves.crash dropped.crash found may);
            leaves = λ clean. refused_with given.result _ _ given.ensures.0 (λ serves.
                let begins = (none (dropped.served serves)).1 in
                dropped.undone m begins.0 k begins.1 (λ _. begins.2) serves);
            cause = λ serves. only_no_answer given.result (λ _. ⊤) (passed_on given.result c.in_err-reply.field-0.0 (λ _. ⊤) given.ensures.1 (none (dropped.served serves)).0);
          };
    })

pub returns-in-Unchanged : goal.returns-in-Unchanged
returns-in-Unchanged g c =
    let begun = c.in_ok-work.ensures.work in
    let answers = c.in_ok-reply.ensures in
    let dropped = c.drop-work-in-Unchanged-1.ensures in
    let new = state g.S.Store c.drop-work-in-Unchanged-1.new.self.0.conn in
    let work = c.answer_new.new.work in
    let there = within g.S.Store work in
    let old = state g.S.Store c.args.self.now.store.conn in
    let same : c.drop-work-in-Unchanged-1.new.self.0 ≡ c.self-in-Unchanged-1.given.0 = search rules in
    subst (λ store. AnswersNew g.S.Store c.args.self.now (record c.args.self.now { store = store }) (Ok c.in-Unchanged.reply) c.args.arrival.now c.args.sender.now c.args.ask c.args.floor) same (record {
      leaves = record {
        office = search rules;
        clean = λ now. begun.clean (answers.leaves.clean (dropped.clean now));
        unchanged = λ refused db ours rests. dropped.forgets db (answers.leaves.holds db (begun.at db ours rests));
      };
      comes = λ m k sound means asks fresh.
          let v = new_asked (settings_of c.args.self.now.office.setup c.args.self.now.office.controls) m k c.args.floor (post_of c.args.arrival.now c.args.sender.now.number c.args.ask) in
          let left = answers.comes m m m k k sound (begun.begun m k means) (c.nothing-known.ensures m) (inl refl) asks (λ at. fresh.unkept (begun.served at)) in
          let tables = has_tables old m k means in
          record {
            crash = λ found may. inl (dropped_stops old _ _ new _ _ begun.opens tables answers.leaves.crash dropped.crash found may);
            leaves = λ clean.
                let at = left (answers.opens (begun.opens.0 tables) (dropped.clean clean)) in
                refused_leaves new m k v c.in-Unchanged.reply (subst (λ x. IsBy x v) c.in-Unchanged.is at.0) (dropped.undone m at.2.0 k _ (λ _. at.2.2));
            cause = λ serves. tt;
          };
    })

pub returns-in_err-settle-in-Accepted : goal.returns-in_err-settle-in-Accepted
returns-in_err-settle-in-Accepted g c =
    let given = c.from_residual-in_err-settle-in-Accepted in
    let begun = c.in_ok-work.ensures.work in
    let answers = c.in_ok-reply.ensures in
    let settles = c.in_err-settle-in-Accepted.ensures in
    let writes = follows_then g.S.Store _ _ _ answers.leaves settles.leaves in
    let dropped = c.drop-work-in_err-settle-in-Accepted.ensures in
    let old = state g.S.Store c.args.self.now.store.conn in
    let same : c.drop-work-in_err-settle-in-Accepted.new.self.0 ≡ c.self-in_err-settle-in-Accepted-1.given.0 = search rules in
    subst (λ store. AnswersNew g.S.Store c.args.self.now (record c.args.self.now { store = store }) given.result c.args.arrival.now c.args.sender.now c.args.ask c.args.floor) same (record {
      leaves = record {
        office = search rules;
        clean = λ now. begun.clean (writes.clean (dropped.clean now));
        unchanged = λ refused db ours rests. dropped.forgets db (writes.holds db (begun.at db ours rests));
      };
      comes = λ m k sound means asks fresh.
          let left = answers.comes m m m k k sound (begun.begun m k means) (c.nothing-known.ensures m) (inl refl) asks (λ at. fresh.unkept (begun.served at)) in
          record {
            crash = λ found may. inl (dropped_stops old _ _ (state g.S.Store c.drop-work-in_err-settle-in-Accepted.new.self.0.conn) _ _ begun.opens (has_tables old m k means) writes.crash dropped.crash found may);
            leaves = λ clean. refused_with given.result _ _ given.ensures.0 (λ serves.
                let at = left (settles.leaves.served (dropped.served serves)) in
                dropped.undone m _ k _ (settles.settled m at.2.0 _ k _ (λ _. at.2.2) at.2.1) serves);
            cause = λ serves. gave_out given.result c.in_err-settle-in-Accepted.field-0.0 given.ensures.1 settles.cause;
          };
    })

pub returns-in_err-commit-in-Accepted : goal.returns-in_err-commit-in-Accepted
returns-in_err-commit-in-Accepted g c =
    let given = c.from_residual-in_err-commit-in-Accepted in
    let begun = c.in_ok-work.ensures.work in
    let answers = c.in_ok-reply.ensures in
    let settles = c.in_ok-settle-in-Accepted.ensures in
    let writes = follows_then g.S.Store _ _ _ answers.leaves settles.leaves in
    let ended = c.in_err-commit-in-Accepted.ensures in
    let new = state g.S.Store c.commit.new.self.0.conn in
    let work = c.settle.new.work in
    let there = within g.S.Store work in
    let old = state g.S.Store c.args.self.now.store.conn in
    let same : c.commit.new.self.0 ≡ c.self-in-Accepted-1.given.0 = search rules in
    subst (λ store. AnswersNew g.S.Store c.args.self.now (record c.args.self.now { store = store }) given.result c.args.arrival.now c.args.sender.now c.args.ask c.args.floor) same (record {
      leaves = record {
        office = search rules;
        clean = λ now. begun.clean (writes.clean (ended.clean now));
        unchanged = λ refused db ours rests. ended.forgets db (writes.holds db (begun.at db ours rests));
      };
      comes = λ m k sound means asks fresh.
          let v = new_asked (settings_of c.args.self.now.office.setup c.args.self.now.office.controls) m k c.args.floor (post_of c.args.arrival.now c.args.sender.now.number c.args.ask) in
          let left = answers.comes m m m k k sound (begun.begun m k means) (c.nothing-known.ensures m) (inl refl) asks (λ at. fresh.unkept (begun.served at)) in
          let at = λ (serves : Serves there). left (settles.leaves.served serves) in
          let by = λ (serves : Serves there). subst (λ x. IsBy x v) c.in-Accepted.is (at serves).0 in
          let works = λ (serves : Serves there). settles.settled m (at serves).2.0 _ k _ (λ _. (at serves).2.2) (at serves).2.1 serves in
          record {
            crash = accepted_stops old _ there new _ work.failed begun.opens (has_tables old m k means) writes.crash m k v c.in-Accepted.reply (λ serves. (by serves, works serves)) ended.clean
                (λ serves. begun.served (writes.served serves)) ended.crash;
            leaves = λ clean. refused_with given.result _ _ given.ensures.0 (ended.undone m _ k _ works);
            cause = λ serves. gave_out given.result c.in_err-commit-in-Accepted.field-0.0 given.ensures.1 ended.cause;
          };
    })

pub returns-in_ok-commit-in-Accepted : goal.returns-in_ok-commit-in-Accepted
returns-in_ok-commit-in-Accepted g c =
    let begun = c.in_ok-work.ensures.work in
    let answers = c.in_ok-reply.ensures in
    let settles = c.in_ok-settle-in-Accepted.ensures in
    let writes = follows_then g.S.Store _ _ _ answers.leaves settles.leaves in
    let ended = c.in_ok-commit-in-Accepted.ensures in
    let new = state g.S.Store c.commit.new.self.0.conn in
    let work = c.settle.new.work in
    let there = within g.S.Store work in
    let old = state g.S.Store c.args.self.now.store.conn in
    let same : c.commit.new.self.0 ≡ c.self-in-Accepted-1.given.0 = search rules in
    subst (λ store. AnswersNew g.S.Store c.args.self.now (record c.args.self.now { store = store }) (Ok c.in-Accepted.reply) c.args.arrival.now c.args.sender.now c.args.ask c.args.floor) same (record {
      leaves = record {
        office = search rules;
        clean = λ now. begun.clean (writes.clean (ended.clean now));
        unchanged = λ refused. absurd (refused (search rules));
      };
      comes = λ m k sound means asks fresh.
          let v = new_asked (settings_of c.args.self.now.office.setup c.args.self.now.office.controls) m k c.args.floor (post_of c.args.arrival.now c.args.sender.now.number c.args.ask) in
          let left = answers.comes m m m k k sound (begun.begun m k means) (c.nothing-known.ensures m) (inl refl) asks (λ at. fresh.unkept (begun.served at)) in
          let at = λ (serves : Serves there). left (settles.leaves.served serves) in
          let by = λ (serves : Serves there). subst (λ x. IsBy x v) c.in-Accepted.is (at serves).0 in
          let works = λ (serves : Serves there). settles.settled m (at serves).2.0 _ k _ (λ _. (at serves).2.2) (at serves).2.1 serves in
          record {
            crash = accepted_stops old _ there new _ work.failed begun.opens (has_tables old m k means) writes.crash m k v c.in-Accepted.reply (λ serves. (by serves, works serves)) ended.clean
                (λ serves. begun.served (writes.served serves)) ended.crash;
            leaves = λ clean.
                let serves = ended.opens clean in
                let before = ended.served serves in
                accepted_leaves new m k v c.in-Accepted.reply (by before) (at before).1 serves (ended.committed m _ k _ works);
            cause = λ serves. tt;
          };
    })
