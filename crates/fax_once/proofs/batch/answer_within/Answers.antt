use Rattle.std.proofs.Common.{refl, rules, subst, sym}
use Rattle.fax_decide.specs.Settings.{settings_of}
use Rattle.fax_store.proofs.FrameLemmas.{follows_then}
use Rattle.fax_store.specs.Calls.{within}
use Rattle.fax_once.proofs.AnsweringLemmas.{no_answer}
use Rattle.fax_once.proofs.BatchLemmas.{given_still, means_for, new_given, opens_behind, told_given}
use Rattle.fax_once.proofs.CauseLemmas.{gave_out_none}
use Rattle.fax_once.specs.Known.{LeadsTo}
use Rattle.fax_once.specs.Looking.{IsFound, IsFresh}
use Rattle.fax_once.specs.declared.acceptance.Answered.TheVariants.{Unchanged}
use Rattle.fax_once.proofs.batch.answer_within.Goals as goal

pub returns-in_err-known : goal.returns-in_err-known
returns-in_err-known g c =
    let given = c.from_residual in
    let settles = c.in_err-known.ensures in
    record {
      leaves = settles.leaves;
      goes_on = search rules;
      opens = search rules;
      comes = λ m₀ tables m k₀ k sound works knows serves.
          let none = settles.settled m₀ tables m k₀ k works knows in
          gave_out_none given.result c.in_err-known.field-0.0 given.ensures.1 none.0 _ (m, k, none.1 serves);
    }

pub returns-in_err-reply : goal.returns-in_err-reply
returns-in_err-reply g c =
    let given = c.from_residual-in_err-reply in
    let settles = c.in_ok-known.ensures in
    let looked = c.in_err-reply.ensures in
    record {
      leaves = follows_then g.S.Store _ _ _ settles.leaves looked.leaves;
      goes_on = search rules;
      opens = search rules;
      comes = λ m₀ tables m k₀ k sound works knows serves.
          let at = settles.settled m₀ tables m k₀ k works knows in
          no_answer given.result c.in_err-reply.field-0.0 _ given.ensures.1 (looked.found m₀ at.0 m k₀ k sound at.3 at.1 serves) (at.0, k, looked.keeps m₀ at.0 k₀ k at.1 serves);
    }

pub returns-in-Known : goal.returns-in-Known
returns-in-Known g c =
    let settles = c.in_ok-known.ensures in
    let looked = c.in_ok-reply.ensures in
    let new = c.look_within.new.work in
    let known = c.in_ok-known.field-0 in
    record {
      leaves = follows_then g.S.Store _ _ _ settles.leaves looked.leaves;
      goes_on = looked.goes_on;
      opens = λ active. looked.opens (settles.leaves.crash active).0;
      comes = λ m₀ tables m k₀ k sound works knows serves.
          let s = settings_of c.args.office.now.setup c.args.office.now.controls in
          let at = settles.settled m₀ tables m k₀ k works knows in
          let found = subst (IsFound s c.args.arrival.now m k (within g.S.Store new)) c.in-Known.is (looked.found m₀ at.0 m k₀ k sound at.3 at.1 serves) in
          let gives = told_given c.in-Known.reply (within g.S.Store new) found.0 found.2 in (
            found.0,
            found.1,
            gives,
            subst (LeadsTo known (within g.S.Store new) new.failed m₀ k₀) (sym (given_still m k (Unchanged c.in-Known.reply) found.0 gives refl)) (at.0, at.2, looked.keeps m₀ at.0 k₀ k at.1 serves),
          );
    }

pub returns-in-New : goal.returns-in-New
returns-in-New g c =
    let settles = c.in_ok-known.ensures in
    let looked = c.in_ok-reply.ensures in
    let mid = c.look_within.new.work in
    let answers = c.answer_new.ensures in
    let a = c.args.arrival.now in
    let fresh = subst (IsFresh a (within g.S.Store mid)) c.in-New.is looked.fresh in
    record {
      leaves = follows_then g.S.Store _ _ _ settles.leaves (follows_then g.S.Store _ _ _ looked.leaves answers.leaves);
      goes_on = answers.goes_on;
      opens = opens_behind c.answer_new.result _ _ _ _ (λ active. (looked.leaves.crash (settles.leaves.crash active).0).0) answers.opens;
      comes = λ m₀ tables m k₀ k sound works knows serves.
          let s = settings_of c.args.office.now.setup c.args.office.now.controls in
          let at = settles.settled m₀ tables m k₀ k works knows in
          let found = subst (IsFound s a m k (within g.S.Store mid)) c.in-New.is (looked.found m₀ at.0 m k₀ k sound at.3 at.1 (answers.leaves.served serves)) in
          let kept = looked.keeps m₀ at.0 k₀ k at.1 in
          new_given c.answer_new.result s a c.answer_new.new.known _ _ m₀ m k₀ k _ found.0
          (answers.comes m₀ at.0 m k₀ k sound kept at.2 (means_for a at.0 m c.in-New.field-0.ask at.3 fresh.3) fresh.0 (λ serves. found.1) serves);
    }

pub look_within-requires : goal.look_within-requires
look_within-requires g c = c.in_ok-known.ensures.goes_on c.requires
