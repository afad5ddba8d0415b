use Rattle.std.proofs.Common.{ap, inl, rules, subst, sym}
use Rattle.std.specs.Prelude.{⊤}
use Rattle.sqlite.specs.Held.{state}
use Rattle.fax_ask.specs.Ask.{IsAsk, IsLawful}
use Rattle.fax_core.specs.Clock.{decided_at}
use Rattle.fax_decide.proofs.FaultLemmas.{only_no_answer, passed_on}
use Rattle.fax_decide.specs.Settings.{settings_of}
use Rattle.fax_run.specs.Verdict.{Told, denied}
use Rattle.fax_run.specs.View.{view}
use Rattle.fax_store.proofs.FrameLemmas.{looks_as, looks_at, looks_stop}
use Rattle.fax_once.proofs.CauseLemmas.{ask_read}
use Rattle.fax_once.proofs.GetLemmas.{no_step}
use Rattle.fax_once.proofs.LookingLemmas.{found_by, fresh_by, none_found, stays_open_by, submits_job, view_means}
use Rattle.fax_once.proofs.RequestLemmas.{is_post, sender_verdict, view_verdict}
use Rattle.fax_once.proofs.SenderLemmas.{its_floor, its_reply, sender_plain}
use Rattle.fax_once.proofs.looking.look_for.Goals as goal

pub returns-in_err-reply-in-View : goal.returns-in_err-reply-in-View
returns-in_err-reply-in-View g c =
    let given = c.from_residual in
    record {
      leaves = looks_stop g.S.Store given.result _ given.ensures.1 c.in_err-reply-in-View.ensures.leaves;
      opens = search rules;
      fresh = λ asks. none_found given.result _ given.ensures.0;
      seen = λ get is. none_found given.result _ given.ensures.0;
      used = λ db ours now clean used. none_found given.result _ given.ensures.0;
      given = λ db ours now clean up. none_found given.result _ given.ensures.0;
      found = λ asks tables m k sound sees means clean. none_found given.result _ given.ensures.0;
      cause = λ asks tables m k sound sees means serves.
          let a = c.args.arrival.now in
          only_no_answer given.result (λ _. ⊤) (passed_on given.result c.in_err-reply-in-View.field-0.0 (λ _. ⊤) given.ensures.1
          (c.in_err-reply-in-View.ensures.seen m k sound (view_means a c.in-View.view tables m k _ (subst (IsAsk a.method a.path.now a.body.now) c.in-View.is asks.is) sees means) serves));
    }

pub returns-in-Ok : goal.returns-in-Ok
returns-in-Ok g c =
    let a = c.args.arrival.now in
    let its = IsAsk a.method a.path.now a.body.now in
    let from = c.in-Ok.ensures.sender in
    let sender = c.in-Ok.sender in
    let step = c.in-Step.step in
    let old = state g.S.Store c.args.store.now.conn in
    let new = state g.S.Store c.look_for_reply.new.store.conn in
    let look = c.look_for_reply.ensures in
    record {
      leaves = look.leaves;
      opens = stays_open_by old new c.look_for_reply.result look.opens;
      fresh = λ asks. fresh_by a sender step new c.look_for_reply.result (record {
        from = from;
        lawful = subst IsLawful c.in-Step.is asks.lawful;
        read = ask_read a.method a.path.now a.body.now step (subst its c.in-Step.is asks.is);
      }) look.opens (submits_job a step (subst its c.in-Step.is asks.is)) look.own;
      seen = λ get is. absurd (no_step a.method a.path.now a.body.now step get (subst its c.in-Step.is is));
      used = λ db ours now clean used. look.used db ours now clean (its_reply a sender db from used);
      given = λ db ours now clean up. look.given db ours now clean (its_floor a sender db from up);
      found = λ asks tables m k sound sees means clean.
          let s = settings_of c.args.office.now.setup c.args.office.now.controls in
          found_by a sender step new c.look_for_reply.result s m k (is_post s a m k sender c.args.ask step asks.is c.in-Step.is from) look.own
          (look.found (record {
            from = from;
            lawful = subst IsLawful c.in-Step.is asks.lawful;
            read = ask_read a.method a.path.now a.body.now step (subst its c.in-Step.is asks.is);
          }) s tables m k sound sees means clean);
      cause = λ asks. look.cause;
    }

pub returns-in-Err : goal.returns-in-Err
returns-in-Err g c = record {
  leaves = looks_at g.S.Store;
  opens = λ clean serves. serves;
  fresh = λ asks. tt;
  seen = λ get is. tt;
  used = λ db ours now clean used. tt;
  given = λ db ours now clean up. tt;
  found = λ asks tables m k sound sees means clean.
      let s = settings_of c.args.office.now.setup c.args.office.now.controls in
      let refusal = c.in-Err.refusal in (
        denied refusal,
        sender_verdict s c.args.arrival.now m k c.args.ask c.in-Step.step refusal asks.is c.in-Step.is c.in-Err.ensures.refused,
        inl (ap (λ r. Told r) (sym c.refused.ensures)),
      );
  cause = λ asks tables m k sound sees means serves. tt;
}

pub refused-requires : goal.refused-requires
refused-requires g c = sender_plain c.args.arrival.now c.in-Err.refusal c.in-Err.ensures.refused

pub returns-in_ok-reply-in-View : goal.returns-in_ok-reply-in-View
returns-in_ok-reply-in-View g c =
    let see = c.in_ok-reply-in-View.ensures in
    record {
      leaves = looks_as g.S.Store see.leaves;
      opens = λ clean serves. see.opens clean;
      fresh = λ asks. tt;
      seen = λ get is. tt;
      used = λ db ours now clean used. tt;
      given = λ db ours now clean up. tt;
      found = λ asks tables m k sound sees means clean.
          let s = settings_of c.args.office.now.setup c.args.office.now.controls in
          let a = c.args.arrival.now in (
            Told (view s m (decided_at m.clock a.moment) c.in-View.view),
            view_verdict s a m k c.args.ask c.in-View.view asks.is c.in-View.is,
            inl (ap (λ r. Told r) (sym (see.seen m k sound (view_means a c.in-View.view tables m k _ (subst (IsAsk a.method a.path.now a.body.now) c.in-View.is asks.is) sees means) (see.opens clean)))),
          );
      cause = λ asks tables m k sound sees means serves. tt;
    }
