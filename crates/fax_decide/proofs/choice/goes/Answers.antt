use Rattle.std.proofs.Common.{◌≡◌, ◌∙◌, ◌&&◌, rules, true, false, ap, sym, subst}
use Rattle.std.specs.List.{list_any}
use Rattle.std.specs.Str.{bytes_eq}
use Rattle.fax_core.specs.State.{calls_to}
use Rattle.fax_dest.specs.Setup.{admits}
use Rattle.fax_decide.specs.Choice.{AreBusy}
use Rattle.fax_decide.specs.Settings.{settings_of}
use Rattle.fax_decide.specs.State.{may_call}
use Rattle.fax_decide.proofs.ChoiceLemmas.{known_busy, with_busy}
use Rattle.fax_decide.proofs.LookingLemmas.{goes_on, no_call, stops}
use Rattle.fax_decide.proofs.choice.goes.Goals as goal

pub returns-then-is_known-clause-consults : goal.returns-then-is_known-clause-consults
returns-then-is_known-clause-consults g c = goes_on no_call (λ m k at none learned.
    let known : list_any (bytes_eq c.args.prospect.dial) c.args.learned.now.busy.items ≡ true = search rules in
    let no = known_busy (settings_of c.args.office.now.setup c.args.office.now.controls) m c.args.t _ _ learned.1 known in
    (sym (ap (λ b. b && admits c.args.office.now.setup c.args.prospect.modem c.args.modem.now) no), learned))

pub returns-in_err-may_call-clause-consults : goal.returns-in_err-may_call-clause-consults
returns-in_err-may_call-clause-consults g c = stops c.from_residual.ensures.1 c.in_err-may_call.ensures.consults (λ m out found learned. out _ (found c.args.t learned.2 learned.0))

pub returns-then-not-branch-clause-consults : goal.returns-then-not-branch-clause-consults
returns-then-not-branch-clause-consults g c = goes_on c.in_ok-may_call.ensures.consults (λ m k at may learned.
    let told = may c.args.t learned.2 learned.0 in
    let s = settings_of c.args.office.now.setup c.args.office.now.controls in
    let dial = c.args.prospect.dial in
    let no : may_call s dial (calls_to dial m) c.args.t ≡ false = (let not_so = c.if-not-branch.true in let is = told.0 in cc) in (
      sym (ap (λ b. b && admits c.args.office.now.setup c.args.prospect.modem c.args.modem.now) no),
      (told.1, subst (AreBusy s m c.args.t) (sym c.in_ok-remember.ensures) (with_busy s m c.args.t c.args.learned.now.busy.items dial learned.1 no), learned.2),
    ))

pub returns-clause-consults : goal.returns-clause-consults
returns-clause-consults g c = goes_on c.in_ok-may_call.ensures.consults (λ m k at may learned.
    let told = may c.args.t learned.2 learned.0 in
    let s = settings_of c.args.office.now.setup c.args.office.now.controls in
    let dial = c.args.prospect.dial in
    let yes : may_call s dial (calls_to dial m) c.args.t ≡ true = (let so = c.if-not-branch.false in let is = told.0 in cc) in
    let admitted : c.in_ok-admits.field-0 ≡ admits c.args.office.now.setup c.args.prospect.modem c.args.modem.now = search rules in
    (admitted ∙ sym (ap (λ b. b && admits c.args.office.now.setup c.args.prospect.modem c.args.modem.now) yes), (told.1, learned.1, learned.2)))
