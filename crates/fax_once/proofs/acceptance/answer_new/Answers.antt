use Rattle.std.proofs.Common.{◌≡◌, ◌∙◌, ap, rules, subst, sym, true}
use Rattle.std.specs.Prelude.{IfSome}
use Rattle.fax_core.specs.Ageing.{aged}
use Rattle.fax_core.specs.Machine.{act}
use Rattle.fax_decide.specs.Decision.{Decides}
use Rattle.fax_decide.specs.Settings.{settings_of}
use Rattle.fax_run.specs.Verdict.{Told}
use Rattle.fax_store.proofs.FrameLemmas.{follows_at, follows_then}
use Rattle.fax_core.proofs.StepLemmas.{step_sound}
use Rattle.fax_once.specs.Known.{IsAged}
use Rattle.fax_once.proofs.AnsweringLemmas.{active_serves, answered_by, kept_by, no_answer, opened_by, refused_by}
use Rattle.fax_once.proofs.CauseLemmas.{sender_named, taken_status, taken_writable}
use Rattle.fax_once.proofs.KnownLemmas.{aged_of, known_as, lawful_of, sees_raised, suits_of, writable_of}
use Rattle.fax_once.proofs.VerdictLemmas.{accepted_is, lawful_ask, raised_is, raised_lawful, raised_read, refused_is, too_high_is}
use Rattle.fax_once.proofs.acceptance.answer_new.Goals as goal

pub returns-in_default : goal.returns-in_default
returns-in_default g c = record {
  leaves = follows_at g.S.Store c.args.work.now;
  goes_on = c.requires.on;
  opens = λ active clean. active_serves _ _ c.requires.on active clean;
  kept = tt;
  comes = λ m₀ tables m k₀ k sound works knows sees asks unkept serves.
      let settings = settings_of c.args.office.now.setup c.args.office.now.controls in
      refused_by c.args.known.now _ _ m₀ m k₀ k _ _
      (ap (λ r. Told r) c.refused.ensures ∙ too_high_is settings m k c.args.floor c.args.sender.now.number c.args.arrival.now c.args.ask (sym c.in_default.is ∙ c.raised.ensures)) sound
      (tables, knows, works serves);
}

pub returns-in_err-t : goal.returns-in_err-t
returns-in_err-t g c =
    let given = c.from_residual in
    let looked = c.in_err-t.ensures in
    record {
      leaves = looked.leaves;
      goes_on = search rules;
      opens = search rules;
      kept = search rules;
      comes = λ m₀ tables m k₀ k sound works knows sees asks unkept serves.
          let ask = c.in-Some.ask in
          let rises = sym c.in-Some.is ∙ c.raised.ensures in
          let read = raised_read c.args.floor c.args.sender.now.number c.args.ask ask rises asks.read in
          let known = known_as c.args.known.now c.meta.result tables m ask c.meta.ensures knows (sees_raised c.args.floor c.args.sender.now.number c.args.ask ask tables m rises sees) in
          no_answer given.result c.in_err-t.field-0.0 _ given.ensures.1 (looked.decided m₀ tables m k₀ k sound works known serves read) (tables, k, looked.keeps m₀ tables k₀ k works serves);
    }

pub returns-in-Refused : goal.returns-in-Refused
returns-in-Refused g c =
    let looked = c.in_ok-t.ensures in
    record {
      leaves = looked.leaves;
      goes_on = looked.goes_on;
      opens = looked.opens;
      kept = tt;
      comes = λ m₀ tables m k₀ k sound works knows sees asks unkept serves.
          let settings = settings_of c.args.office.now.setup c.args.office.now.controls in
          let ask = c.in-Some.ask in
          let number = c.args.sender.now.number in
          let rises = sym c.in-Some.is ∙ c.raised.ensures in
          let read = raised_read c.args.floor number c.args.ask ask rises asks.read in
          let known = known_as c.args.known.now c.meta.result tables m ask c.meta.ensures knows (sees_raised c.args.floor number c.args.ask ask tables m rises sees) in
          let found = looked.decided m₀ tables m k₀ k sound works known serves read in
          let t = c.in_ok-t.field-0.t in
          let decides = subst (Decides (act settings (aged t m) t ask) m t) c.in-Refused.is found.decides in
          refused_by c.args.known.now _ _ m₀ m k₀ k _ _
          (refused_is settings c.args.arrival.now m k number t ask c.in-Refused.reply found.now decides ∙ raised_is settings m k c.args.floor number c.args.arrival.now c.args.ask ask rises)
          sound (tables, knows, looked.keeps m₀ tables k₀ k works serves);
    }

pub returns-in-Taken : goal.returns-in-Taken
returns-in-Taken g c =
    let looked = c.in_ok-t.ensures in
    let accepts = c.accept.ensures in
    record {
      leaves = follows_then g.S.Store _ _ _ looked.leaves accepts.leaves;
      goes_on = accepts.goes_on;
      opens = opened_by g.S.Store _ _ _ c.accept.result looked.leaves accepts.leaves accepts.goes_on;
      kept = kept_by c.accept.result c.in-Taken.reply accepts.gives;
      comes = λ m₀ tables m k₀ k sound works knows sees asks unkept serves.
          let settings = settings_of c.args.office.now.setup c.args.office.now.controls in
          let ask = c.in-Some.ask in
          let number = c.args.sender.now.number in
          let rises = sym c.in-Some.is ∙ c.raised.ensures in
          let read = raised_read c.args.floor number c.args.ask ask rises asks.read in
          let between = accepts.leaves.served serves in
          let known = known_as c.args.known.now c.meta.result tables m ask c.meta.ensures knows (sees_raised c.args.floor number c.args.ask ask tables m rises sees) in
          let found = looked.decided m₀ tables m k₀ k sound works known between read in
          let t = c.in_ok-t.field-0.t in
          let effect = c.in-Taken.effect in
          let reply = c.in-Taken.reply in
          let stand = knows.numbers in
          let decides = subst (Decides (act settings (aged t m) t ask) m t) c.in-Taken.is found.decides in
          let lawful = lawful_ask ask (raised_lawful c.args.floor number c.args.ask ask rises asks.lawful) in
          let kept = looked.keeps m₀ tables k₀ k works in
          let within = ((kept between).goes_on looked.goes_on).means.lawful.meta in
          let is = accepted_is settings c.args.arrival.now m k c.args.sender.now t ask effect reply asks.from found.now decides
          ∙ raised_is settings m k c.args.floor number c.args.arrival.now c.args.ask ask rises in
          let has_aged = λ (on : c.is_aged-is_aged.result ≡ true). aged_of _ t tables m stand (subst (λ aged. IfSome aged (λ t. IsAged t m)) (c.is_aged-is_aged.ensures on) knows.aged) in
          answered_by c.accept.result c.after.result _ _ m₀ tables _ m k₀ k _ reply _ _ _ is accepts.gives (step_sound settings m _ t ask decides.told sound lawful decides.taken)
          (c.after.ensures tables m knows found.meta (lawful_of _ tables m stand within) decides.left)
          (accepts.changes m₀ tables k₀ k has_aged (suits_of _ t effect tables m stand decides.suits) kept) serves
          (accepts.cause m₀ tables k₀ k kept serves has_aged (
            writable_of _ t effect tables m stand (taken_writable settings m t ask effect reply sound lawful decides),
            sender_named c.args.arrival.now c.args.sender.now asks.from,
            taken_status settings m t ask effect reply decides,
            unkept (looked.leaves.served between),
          ));
    }
