use Rattle.std.proofs.Common.{List, ap, inl, subst, sym}
use Rattle.sqlite.specs.Held.{state}
use Rattle.sqlite.specs.State.{State}
use Rattle.fax_ask.specs.Response.{Response}
use Rattle.fax_decide.specs.Settings.{settings_of}
use Rattle.fax_run.specs.Run.{Start}
use Rattle.fax_store.proofs.StoreLemmas.{means_stay}
use Rattle.fax_once.proofs.BatchLemmas.{failed_stops, refused_where, stops_from}
use Rattle.fax_once.proofs.HandledLemmas.{runs_well}
use Rattle.fax_once.specs.Batch.{HasEnded, all_refused, replies_to}
use Rattle.fax_once.specs.Queue.{tables}
use Rattle.fax_once.specs.Stop.{StopsIn}
use Rattle.fax_once.proofs.queue.Queue.batch.Goals as goal

pub returns-in-Done-clause-crash : goal.returns-in-Done-clause-crash
returns-in-Done-clause-crash g c m k sound means clean =
    let s = settings_of c.args.self.now.office.setup c.args.self.now.office.controls in
    let start : Start = record { queue = m; kept = k } in
    let old = state g.S.Store c.args.self.now.store.conn in
    let new = state g.S.Store c.answer_together-answered.new.store.conn in
    subst (HasEnded s start c.args.arrivals.now old new) c.in-Done.is (c.in-Ok.ensures.ended m k sound means) clean

pub returns-in-Done-clause-ran : goal.returns-in-Done-clause-ran
returns-in-Done-clause-ran g c m k sound means clean =
    let s = settings_of c.args.self.now.office.setup c.args.self.now.office.controls in
    let start : Start = record { queue = m; kept = k } in
    runs_well s start c.args.arrivals.now c.in-Done.replies.items (state g.S.Store c.answer_together-answered.new.store.conn) sound (returns-in-Done-clause-crash g c m k sound means clean).0

pub returns-in-Failed-clause-crash : goal.returns-in-Failed-clause-crash
returns-in-Failed-clause-crash g c m k sound means clean =
    let s = settings_of c.args.self.now.office.setup c.args.self.now.office.controls in
    let start : Start = record { queue = m; kept = k } in
    let old = state g.S.Store c.args.self.now.store.conn in
    let it = subst (HasEnded s start c.args.arrivals.now old (state g.S.Store c.answer_together-answered.new.store.conn)) c.in-Failed.is (c.in-Ok.ensures.ended m k sound means) in
    let look = c.is_shut.ensures.leaves in
    failed_stops s start c.args.arrivals.now (state g.S.Store c.args.self.now.store.conn) (state g.S.Store c.is_shut.new.self.conn)
    (means_stay look.served look.stays m k it.0) (λ found may. it.1 found (look.crash found may))

pub returns-in-Failed-clause-ran : goal.returns-in-Failed-clause-ran
returns-in-Failed-clause-ran g c m k sound means clean =
    let s = settings_of c.args.self.now.office.setup c.args.self.now.office.controls in
    let start : Start = record { queue = m; kept = k } in
    runs_well s start c.args.arrivals.now (all_refused c.args.arrivals.now) (state g.S.Store c.is_shut.new.self.conn) sound (returns-in-Failed-clause-crash g c m k sound means clean).0

pub returns-in_default-clause-crash : goal.returns-in_default-clause-crash
returns-in_default-clause-crash g c m k sound means clean =
    let s = settings_of c.args.self.now.office.setup c.args.self.now.office.controls in
    let start : Start = record { queue = m; kept = k } in
    let it = c.in_default.ensures.ended m k sound means in
    stops_from s start c.args.arrivals.now c.in_ok-run.field-0.items (state g.S.Store c.args.self.now.store.conn) (state g.S.Store c.answer_together-answered.new.store.conn)
    (state g.S.Store c.run.new.self.store.conn) it.1 (c.in_ok-run.ensures.crash m k sound it.0 clean)

pub returns-in_default-clause-ran : goal.returns-in_default-clause-ran
returns-in_default-clause-ran g c m k sound means clean = c.in_ok-run.ensures.ran m k sound (c.in_default.ensures.ended m k sound means).0 clean

pub returns-in_err-run-clause-crash : goal.returns-in_err-run-clause-crash
returns-in_err-run-clause-crash g c m k sound means clean =
    let s = settings_of c.args.self.now.office.setup c.args.self.now.office.controls in
    let start : Start = record { queue = m; kept = k } in
    let old = state g.S.Store c.args.self.now.store.conn in
    let given = c.from_residual in
    let it = c.in_default.ensures.ended m k sound means in
    subst (λ (store : State). StopsIn s start c.args.arrivals.now (replies_to c.args.arrivals.now given.result) old store) (sym (ap (tables g.S.Store) c.in_err-run.ensures.none))
    (subst (λ (rs : List Response). StopsIn s start c.args.arrivals.now rs old (state g.S.Store c.answer_together-answered.new.store.conn)) (sym (refused_where c.args.arrivals.now given.result given.ensures.0))
    (failed_stops s start c.args.arrivals.now old (state g.S.Store c.answer_together-answered.new.store.conn) it.0 (λ found may. inl (it.1 found may))))

pub returns-in_err-run-clause-ran : goal.returns-in_err-run-clause-ran
returns-in_err-run-clause-ran g c m k sound means clean =
    let s = settings_of c.args.self.now.office.setup c.args.self.now.office.controls in
    let start : Start = record { queue = m; kept = k } in
    runs_well s start c.args.arrivals.now (replies_to c.args.arrivals.now c.from_residual.result) (state g.S.Store c.run.new.self.store.conn) sound
    (returns-in_err-run-clause-crash g c m k sound means clean).0
