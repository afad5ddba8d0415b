use Rattle.std.proofs.Common.{◌<◌, ◌≤◌, ◌∙◌, ap, inl, refl, rules, subst, sym}
use Rattle.sqlite.specs.Effect.{Database}
use Rattle.sqlite.specs.Held.{state}
use Rattle.fax_store.proofs.FrameLemmas.{looks_as, looks_of, looks_stop, looks_then, means_on}
use Rattle.fax_store.specs.Kept.{IsKeptFor, MissesNone}
use Rattle.fax_run.specs.Verdict.{Told}
use Rattle.fax_once.proofs.CauseLemmas.{gave_out, unkept_by}
use Rattle.fax_once.proofs.LookingLemmas.{none_found}
use Rattle.fax_once.proofs.SenderLemmas.{given_not_above}
use Rattle.fax_once.proofs.VerdictLemmas.{above_is, given_up_is, repeated_told, unused_is}
use Rattle.fax_once.specs.Looking.{IsTold}
use Rattle.fax_once.proofs.looking.look_for_reply.Goals as goal

pub returns-in_err-floor : goal.returns-in_err-floor
returns-in_err-floor g c =
    let given = c.from_residual in
    record {
      leaves = looks_stop g.S.Store given.result _ given.ensures.1 (looks_of g.S.Store c.floor.ensures.leaves);
      opens = search rules;
      own = none_found given.result _ given.ensures.0;
      used = λ db ours now clean used. none_found given.result _ given.ensures.0;
      given = λ db ours now clean up. none_found given.result _ given.ensures.0;
      found = λ asks s tables m k sound sees means clean. none_found given.result _ given.ensures.0;
      cause = λ tables m k sound sees means serves. gave_out given.result c.in_err-floor.field-0.0 given.ensures.1 (c.in_err-floor.ensures.answers tables k means serves);
    }

pub returns-then-get-floor : goal.returns-then-get-floor
returns-then-get-floor g c = record {
  leaves = looks_as g.S.Store (looks_of g.S.Store c.in_ok-floor.ensures.leaves);
  opens = c.in_ok-floor.ensures.leaves.opens;
  own = tt;
  used = λ db ours now clean used. tt;
  given = λ db ours now clean up. tt;
  found = λ asks s tables m k sound sees means clean.
      let through : c.args.sender.now.number ≤ c.in_ok-floor.floor = search rules in
      inl (sym (given_up_is s c.args.arrival.now m k c.in_ok-floor.floor c.args.sender.now c.args.ask asks.from
      (c.in_ok-floor.ensures.answers tables k means (c.in_ok-floor.ensures.leaves.opens clean)) through) ∙ ap (λ r. Told r) (sym c.refused.ensures));
  cause = λ tables m k sound sees means serves. tt;
}

pub returns-in_err-kept : goal.returns-in_err-kept
returns-in_err-kept g c =
    let first = looks_of g.S.Store c.in_ok-floor.ensures.leaves in
    let given = c.from_residual-in_err-kept in
    record {
      leaves = looks_stop g.S.Store given.result _ given.ensures.1 (looks_then g.S.Store first (looks_of g.S.Store c.kept.ensures.leaves));
      opens = search rules;
      own = none_found given.result _ given.ensures.0;
      used = λ db ours now clean used. none_found given.result _ given.ensures.0;
      given = λ db ours now clean up. none_found given.result _ given.ensures.0;
      found = λ asks s tables m k sound sees means clean. none_found given.result _ given.ensures.0;
      cause = λ tables m k sound sees means serves. gave_out given.result c.in_err-kept.field-0.0 given.ensures.1
          (c.in_err-kept.ensures.answers tables k (means_on g.S.Store first tables k means) serves);
    }

pub returns-in-Some : goal.returns-in-Some
returns-in-Some g c =
    let first = looks_of g.S.Store c.in_ok-floor.ensures.leaves in
    record {
      leaves = looks_as g.S.Store (looks_then g.S.Store first (looks_of g.S.Store c.in_ok-kept.ensures.leaves));
      opens = c.in_ok-kept.ensures.leaves.opens;
      own = tt;
      used = λ db ours now clean used. tt;
      given = λ db ours now clean up. tt;
      found = λ asks s tables m k sound sees means clean.
          let a = c.args.arrival.now in
          let sender = c.args.sender.now in
          let floor = c.in_ok-floor.floor in
          let now = state g.S.Store c.kept.new.self.conn in
          let above : floor < sender.number = search rules in
          let serves = c.in_ok-kept.ensures.leaves.opens clean in
          let found = subst (IsKeptFor k.replies sender.client.now sender.number) c.in-Some.is
          (c.in_ok-kept.ensures.answers tables k (means_on g.S.Store first tables k means) serves) in
          subst (IsTold c.repeat.result now)
          (above_is s a m k floor sender c.args.ask asks.from (c.in_ok-floor.ensures.answers tables k means (c.kept.ensures.leaves.served serves)) above)
          (repeated_told s a m k floor sender c.args.ask c.in-Some.kept found.0 c.repeat.result now asks.from found.1 found.2 serves c.repeat.ensures);
      cause = λ tables m k sound sees means serves. tt;
    }

pub returns-in-None : goal.returns-in-None
returns-in-None g c =
    let first = looks_of g.S.Store c.in_ok-floor.ensures.leaves in
    let sender = c.args.sender.now in
    let floor = c.in_ok-floor.floor in
    let above : floor < sender.number = search rules in
    let opens = c.in_ok-kept.ensures.leaves.opens in
    record {
      leaves = looks_as g.S.Store (looks_then g.S.Store first (looks_of g.S.Store c.in_ok-kept.ensures.leaves));
      opens = opens;
      own = (refl, refl, c.in_ok-floor.ensures.lawful);
      used = λ db ours now clean used.
          let read = c.kept.ensures.leaves.served (opens clean) in
          absurd (subst (MissesNone db sender.client.now sender.number) c.in-None.is
          (c.in_ok-kept.ensures.stands db ours ((c.in_ok-floor.ensures.leaves.reads (ap (λ (d : Database). d.schema) now ∙ ours) read.clean).0.now_is ∙ now) clean) used);
      given = λ db ours now clean up.
          let read = c.kept.ensures.leaves.served (opens clean) in
          absurd (given_not_above db sender.client.now sender.number floor (c.in_ok-floor.ensures.stands db ours now read.clean) up above);
      found = λ asks s tables m k sound sees means clean.
          let a = c.args.arrival.now in
          let serves = opens clean in
          let unused = subst (IsKeptFor k.replies sender.client.now sender.number) c.in-None.is
          (c.in_ok-kept.ensures.answers tables k (means_on g.S.Store first tables k means) serves) in (
            unused_is s a m k floor sender c.args.ask asks.from unused
                ∙ above_is s a m k floor sender c.args.ask asks.from (c.in_ok-floor.ensures.answers tables k means (c.kept.ensures.leaves.served serves)) above,
            unkept_by sender.client.now sender.number k.replies unused,
          );
      cause = λ tables m k sound sees means serves. tt;
    }
