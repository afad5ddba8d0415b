use Rattle.std.proofs.Common.{◌≡◌, true≢false, rules, subst, sym}
use Rattle.fax_decide.specs.Choice.{IsBusy}
use Rattle.fax_decide.specs.Settings.{settings_of}
use Rattle.fax_decide.proofs.ChoiceLemmas.{first_known}
use Rattle.fax_decide.proofs.FaultLemmas.{or_weaker}
use Rattle.fax_decide.proofs.LookingLemmas.{both, gives, known, moved}
use Rattle.fax_decide.proofs.choice.first_but.Goals as goal

pub returns : goal.returns
returns g c =
    let last : c.first_of.new.candidates.store.now ≡ c.store-1.given.0 = search rules in
    gives (both (known c.candidates_but-candidates.ensures.stands) (moved c.candidates_but-candidates.ensures.same last c.first_of.ensures.consults)) (λ m k at calls sound learned busy.
    let s = settings_of c.args.office.now.setup c.args.office.now.controls in
    let asked = c.candidates_but-candidates.ensures.asked in
    let but = subst (IsBusy s m c.args.t) (sym asked.1) busy in
    or_weaker c.first_of.result _ _
    (λ found told. first_known s m c.args.t c.args.modem.now _ found asked.0 but (told.1 (λ no. absurd (true≢false (sym no)))))
    (calls.1 sound asked.0 calls.0 learned))
