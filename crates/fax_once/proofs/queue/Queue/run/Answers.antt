use Rattle.std.proofs.Common.{◌≡◌, refl, ◌+◌, ◌<◌, ◌≤◌, arith, true, List, [], ◌∷◌, ◌++◌, length, take, if◌then◌else◌, sym, ap, subst, ◌∙◌, rules}
use Rattle.std.proofs.lemmas.List.{take_all, take_more}
use Rattle.std.specs.Result.{is_ok}
use Rattle.sqlite.specs.Held.{state}
use Rattle.fax_ask.specs.Response.{Response}
use Rattle.fax_decide.specs.Settings.{settings_of}
use Rattle.fax_decide.specs.declared.office.Office.{Office}
use Rattle.fax_once.proofs.HandledLemmas.{run_sound, runs_well, stops_alone, stops_at_first}
use Rattle.fax_once.proofs.JoinLemmas.{stops_joined}
use Rattle.fax_once.proofs.SessionsLemmas.{runs_as_session}
use Rattle.fax_once.proofs.queue.Queue.run.Goals as goal
use Rattle.fax_once.specs.Ran.{HasRun}
use Rattle.fax_once.specs.Stop.{StopsAnswered, StopsIn}
use Rattle.fax_run.specs.Run.{Start, end_of}
use Rattle.fax_once.specs.Handled.{Handles}
use Rattle.fax_run.specs.declared.arrival.Arrival.{Arrival}

pub loop-arrival-init : goal.loop-arrival-init
loop-arrival-init g c = record {
  filled = c.in_ok-replies.ensures.len;
  room = search rules;
  office = refl;
  clean = λ now. now;
  shut = λ before. before;
  ran = λ m k sound means clean.
      let s = settings_of c.args.self.now.office.setup c.args.self.now.office.controls in
      let start : Start = record { queue = m; kept = k } in
      let store = state g.S.Store c.args.self.now.store.conn in
      subst (λ (rs : List Response). StopsIn s start [] rs store store) (sym c.in_ok-replies.ensures.items) (stops_at_first s start store means);
}

pub loop-arrival-preserved : goal.loop-arrival-preserved
loop-arrival-preserved g c =
    let i = c.loop-arrival.arrival-index in
    let room = c.loop-arrival.invariant.room in
    let grown = c.push.ensures.capacity in
    let put : is_ok c.push.result ≡ true = search rules in
    record {
      filled = search rules;
      room = omega (arith, room, grown);
      office = c.handle-reply.ensures.office ∙ c.loop-arrival.invariant.office;
      clean = λ now. c.loop-arrival.invariant.clean (c.handle-reply.ensures.clean now);
      shut = λ before. c.handle-reply.ensures.shut;
      ran = λ m k sound means clean.
          let old = state g.S.Store c.loop-arrival.self.store.conn in
          let new = state g.S.Store c.handle-reply.new.self.store.conn in
          let s = settings_of c.args.self.now.office.setup c.args.self.now.office.controls in
          let start : Start = record { queue = m; kept = k } in
          let front = take i c.args.arrivals.now in
          let replies = c.loop-arrival.replies.items in
          let initial = state g.S.Store c.args.self.now.store.conn in
          let before : StopsIn s start front replies initial old = c.loop-arrival.invariant.ran m k sound means (c.handle-reply.ensures.clean clean) in
          let here = end_of s start before.0.heard in
          let here_sound = run_sound s start front replies old sound before.0 in
          let handled = subst (λ (o : Office). Handles (settings_of o.setup o.controls) c.arrival-item.result here.queue here.kept c.handle-reply.result new) c.loop-arrival.invariant.office
          (c.handle-reply.ensures.handled here.queue here.kept here_sound before.0.means clean) in
          let stops = subst (λ (o : Office). StopsAnswered (settings_of o.setup o.controls) c.arrival-item.result here.queue here.kept c.handle-reply.result old new) c.loop-arrival.invariant.office
          (c.handle-reply.ensures.crash here.queue here.kept here_sound before.0.means) in
          let one = stops_alone s here c.arrival-item.result c.handle-reply.result old new stops handled c.handle-reply.ensures.alone in
          let on : StopsIn s start (front ++ c.arrival-item.result ∷ []) (replies ++ c.handle-reply.result ∷ []) initial new =
          stops_joined s start front (c.arrival-item.result ∷ []) replies (c.handle-reply.result ∷ []) initial old new before one in
          let low : i < length c.args.arrivals.now = search rules in
          let seen : take (i + 1) c.args.arrivals.now ≡ front ++ c.arrival-item.result ∷ [] = take_more c.args.arrivals.now i c.arrival-item.result low ∙ ap (λ (a : Arrival). front ++ a ∷ []) (sym c.arrival-item.is) in
          let told : c.push.new.self.items ≡ replies ++ c.handle-reply.result ∷ [] = c.push.ensures.items ∙ ap (λ b. if b then replies ++ c.handle-reply.result ∷ [] else replies) put in
          subst (λ (arrivals : List Arrival). StopsIn s start arrivals c.push.new.self.items initial new) (sym seen)
          (subst (λ (rs : List Response). StopsIn s start (front ++ c.arrival-item.result ∷ []) rs initial new) (sym told) on);
    }

pub returns-clause-ran : goal.returns-clause-ran
returns-clause-ran g c m k sound means clean =
    let all : length c.args.arrivals.now ≤ c.loop-arrival.arrival-index = search rules in
    let s = settings_of c.args.self.now.office.setup c.args.self.now.office.controls in
    let start : Start = record { queue = m; kept = k } in
    let store = state g.S.Store c.loop-arrival.self.store.conn in
    runs_well s start c.args.arrivals.now c.loop-arrival.replies.items store sound
    (subst (λ (arrivals : List Arrival). HasRun s start arrivals c.loop-arrival.replies.items store) (take_all c.loop-arrival.arrival-index c.args.arrivals.now all) (c.loop-arrival.invariant.ran m k sound means clean).0)

pub returns-clause-crash : goal.returns-clause-crash
returns-clause-crash g c m k sound means clean =
    let all : length c.args.arrivals.now ≤ c.loop-arrival.arrival-index = search rules in
    let s = settings_of c.args.self.now.office.setup c.args.self.now.office.controls in
    let start : Start = record { queue = m; kept = k } in
    let store = state g.S.Store c.loop-arrival.self.store.conn in
    subst (λ (arrivals : List Arrival). StopsIn s start arrivals c.loop-arrival.replies.items (state g.S.Store c.args.self.now.store.conn) store)
    (take_all c.loop-arrival.arrival-index c.args.arrivals.now all) (c.loop-arrival.invariant.ran m k sound means clean)

pub returns-clause-session : goal.returns-clause-session
returns-clause-session g c m k sound means clean =
    let s = settings_of c.args.self.now.office.setup c.args.self.now.office.controls in
    let start : Start = record { queue = m; kept = k } in
    runs_as_session s start c.args.arrivals.now c.loop-arrival.replies.items (state g.S.Store c.args.self.now.store.conn)
    (state g.S.Store c.loop-arrival.self.store.conn) (returns-clause-crash g c m k sound means clean)
