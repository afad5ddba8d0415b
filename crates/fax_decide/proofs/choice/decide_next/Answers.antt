use Rattle.std.proofs.Common.{List, ℕ, sym, ap, option_map, ◌∙◌, rules, refl, subst}
use Rattle.fax_core.specs.Machine.{held_by, is_down}
use Rattle.fax_dest.specs.Setup.{has_modem}
use Rattle.fax_tables.specs.Grant.{as_hold}
use Rattle.fax_decide.specs.Decision.{Decides}
use Rattle.fax_decide.specs.Fault.{OrNoAnswer}
use Rattle.fax_decide.specs.Settings.{settings_of}
use Rattle.fax_decide.proofs.DecisionLemmas.{refused_as}
use Rattle.fax_decide.proofs.FaultLemmas.{or_weaker}
use Rattle.fax_decide.proofs.GivenLemmas.{goes_free, is_busy}
use Rattle.fax_decide.proofs.LookingLemmas.{both, by_reading, gives, goes_on}
use Rattle.fax_decide.proofs.choice.decide_next.Goals as goal

pub returns-in-Some : goal.returns-in-Some
returns-in-Some g c =
    let looked = both (by_reading c.in_ok-is_down.ensures.leaves c.in_ok-is_down.ensures.answers) (by_reading c.in_ok-hold.ensures.leaves c.in_ok-hold.ensures.answers) in
    gives (both looked c.busy.ensures.found) (λ m k at calls sound next.
    is_busy (settings_of c.args.office.now.setup c.args.office.now.controls) m c.args.t c.args.modem
    (sym (c.has_modem.ensures ∙ ap (has_modem c.args.office.now.setup) c.as_str.ensures.text) ∙ c.if-not-has_modem.false)
    (sym (calls.0.0 ∙ ap (λ (name : List ℕ). is_down name m) c.as_str-2.ensures.text) ∙ c.if-branch.false)
    (λ step. OrNoAnswer c.busy.result (Decides step m c.args.t)) c.in-Some.hold
    (sym c.in-Some.is ∙ calls.0.1 ∙ ap (λ (name : List ℕ). option_map as_hold (held_by name m)) c.as_str-3.ensures.text)
    (λ one is same. or_weaker c.busy.result _ _ (λ d refused. subst (Decides _ m c.args.t) (sym refused) (refused_as refl refl)) (calls.1 c.args.t one sound is same)))

pub returns-in-None : goal.returns-in-None
returns-in-None g c =
    let looked = both (by_reading c.in_ok-is_down.ensures.leaves c.in_ok-is_down.ensures.answers) (by_reading c.in_ok-hold.ensures.leaves c.in_ok-hold.ensures.answers) in
    gives (both looked c.decide_free.ensures) (λ m k at calls sound next.
    goes_free (settings_of c.args.office.now.setup c.args.office.now.controls) m c.args.t c.args.modem
    (sym (c.has_modem.ensures ∙ ap (has_modem c.args.office.now.setup) c.as_str.ensures.text) ∙ c.if-not-has_modem.false)
    (sym (calls.0.0 ∙ ap (λ (name : List ℕ). is_down name m) c.as_str-2.ensures.text) ∙ c.if-branch.false)
    (λ step. OrNoAnswer c.decide_free.result (Decides step m c.args.t))
    (sym c.in-None.is ∙ calls.0.1 ∙ ap (λ (name : List ℕ). option_map as_hold (held_by name m)) c.as_str-3.ensures.text)
    (calls.1 sound next))

pub returns-then-branch : goal.returns-then-branch
returns-then-branch g c = goes_on (by_reading c.in_ok-is_down.ensures.leaves c.in_ok-is_down.ensures.answers) (λ m k at down sound next. search rules)
