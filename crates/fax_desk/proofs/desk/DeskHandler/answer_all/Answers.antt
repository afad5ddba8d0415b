use Rattle.std.proofs.Common.{◌≡◌, ◌∙◌, List, ap, inl, length, refl, subst, sym}
use Rattle.fax_job.specs.declared.refusal.Refusal.TheVariants.{Unavailable}
use Rattle.fax_ask.specs.Response.{Response, refused_response}
use Rattle.fax_core.specs.Reply.{NoKeys}
use Rattle.fax_http.specs.Joined.{replies_to}
use Rattle.fax_once.proofs.BatchLemmas.{failed_stops}
use Rattle.fax_once.specs.Batch.{all_refused}
use Rattle.fax_once.specs.Queue.{tables}
use Rattle.fax_once.specs.Stop.{StopsIn}
use Rattle.fax_run.specs.Run.{Start}
use Rattle.fax_run.specs.declared.arrival.Arrival.{Arrival}
use Rattle.fax_desk.specs.Desk.{Arrive, replies_of}
use Rattle.fax_desk.specs.Replaying.{settings_in}
use Rattle.fax_desk.proofs.ArriveLemmas.{as_many}
use Rattle.fax_desk.proofs.TogetherLemmas.{many_replies, told_as_batch}
use Rattle.fax_desk.proofs.desk.DeskHandler.answer_all.Goals as goal

pub returns-in_err-arrivals-clause-answered : goal.returns-in_err-arrivals-clause-answered
returns-in_err-arrivals-clause-answered g c turns are =
    let old = c.args.self.now in
    record {
      office = refl;
      clean = λ now. now;
      shut = λ before. before;
      ran = λ m k sound means clean.
          let s = settings_in old.queue.office in
          let start : Start = record { queue = m; kept = k } in
          let store = tables g.S.Store old.queue in
          let came = c.arrivals_of.ensures.arrived turns are.parts in
          let refused : replies_of turns ≡ all_refused came.0 = are.replies ∙ ap (replies_to c.args.messages.now) c.from_residual.ensures
          ∙ as_many g.C.Clock.gives (refused_response Unavailable NoKeys) old.clock c.arrivals_of.new.clock c.args.messages.now turns came.0 are.parts came.1 in (
            came.0,
            came.1,
            subst (λ (rs : List Response). StopsIn s start came.0 rs store store) (sym refused) (failed_stops s start came.0 store store means (λ found may. inl may)),
          );
    }

pub returns-clause-as_many : goal.returns-clause-as_many
returns-clause-as_many g c = many_replies c.batch.result c.ok.result _ _ c.ok.ensures.value c.batch.ensures.as_many (ap (λ (arrivals : List Arrival). length arrivals) c.deref.ensures.value ∙ c.in_ok-arrivals.ensures.as_many)

pub returns-clause-answered : goal.returns-clause-answered
returns-clause-answered g c turns are =
    let old = c.args.self.now in
    let batch = c.batch.ensures in
    record {
      office = batch.office;
      clean = batch.clean;
      shut = λ _. batch.shut;
      ran = λ m k sound means clean.
          let start : Start = record { queue = m; kept = k } in
          let came = c.in_ok-arrivals.ensures.arrived turns are.parts in
          let given = c.deref.result.now in
          let arrive = subst (λ (arrivals : List Arrival). Arrive g.C.Clock.gives old.clock turns arrivals c.arrivals_of.new.clock) (sym (c.deref.ensures.value ∙ came.2)) came.1 in
          let told = told_as_batch g.C.Clock.gives old.clock c.arrivals_of.new.clock c.args.messages.now turns given c.ok.result are arrive c.batch.result c.ok.ensures.value in (
            given,
            arrive,
            subst (λ (rs : List Response). StopsIn (settings_in old.queue.office) start given rs (tables g.S.Store old.queue) (tables g.S.Store c.batch.new.self)) (sym told)
                (batch.crash m k sound means clean),
          );
    }
