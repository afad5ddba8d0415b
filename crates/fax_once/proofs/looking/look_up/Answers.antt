use Rattle.std.proofs.Common.{inl, refl, rules}
use Rattle.std.specs.Prelude.{⊤}
use Rattle.fax_decide.proofs.FaultLemmas.{only_no_answer, passed_on}
use Rattle.fax_decide.specs.Settings.{settings_of}
use Rattle.fax_run.specs.Verdict.{Told}
use Rattle.fax_store.proofs.FrameLemmas.{looks_at}
use Rattle.fax_once.proofs.LookingLemmas.{none_found}
use Rattle.fax_once.specs.Looking.{AsksFor}
use Rattle.fax_once.proofs.looking.look_up.Goals as goal

pub returns-in-Ok : goal.returns-in-Ok
returns-in-Ok g c =
    let look = c.look_for.ensures in
    let asks : AsksFor c.args.arrival.now c.in-Ok.ask = record { is = c.in-Ok.ensures.ask; lawful = c.in-Ok.ensures.lawful } in
    record {
      leaves = look.leaves;
      opens = look.opens;
      fresh = look.fresh asks;
      seen = λ get. look.seen get c.in-Ok.ensures.ask;
      used = look.used;
      given = look.given;
      found = look.found asks;
      cause = look.cause asks;
    }

pub returns-in_err-refuse_ask-in-Err : goal.returns-in_err-refuse_ask-in-Err
returns-in_err-refuse_ask-in-Err g c =
    let given = c.from_residual in
    record {
      leaves = looks_at g.S.Store;
      opens = search rules;
      fresh = none_found given.result _ given.ensures.0;
      seen = λ get. none_found given.result _ given.ensures.0;
      used = λ db ours now clean used. none_found given.result _ given.ensures.0;
      given = λ db ours now clean up. none_found given.result _ given.ensures.0;
      found = λ tables m k sound sees means clean. none_found given.result _ given.ensures.0;
      cause = λ tables m k sound sees means serves.
          only_no_answer given.result (λ _. ⊤) (passed_on given.result c.in_err-refuse_ask-in-Err.field-0.0 (λ _. ⊤) given.ensures.1 c.in_err-refuse_ask-in-Err.ensures.fault);
    }

pub returns-in_ok-refuse_ask-in-Err : goal.returns-in_ok-refuse_ask-in-Err
returns-in_ok-refuse_ask-in-Err g c = record {
  leaves = looks_at g.S.Store;
  opens = λ clean serves. serves;
  fresh = tt;
  seen = λ get. tt;
  used = λ db ours now clean used. tt;
  given = λ db ours now clean up. tt;
  found = λ tables m k sound sees means clean.
      let s = settings_of c.args.office.now.setup c.args.office.now.controls in
      (Told c.in_ok-refuse_ask-in-Err.field-0, c.in_ok-refuse_ask-in-Err.ensures.verdict s m k c.in-Err.ensures.refused, inl refl);
  cause = λ tables m k sound sees means serves. tt;
}
