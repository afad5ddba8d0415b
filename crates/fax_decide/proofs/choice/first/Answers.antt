use Rattle.std.proofs.Common.{◌≡◌, [], rules, subst, sym}
use Rattle.fax_decide.specs.Choice.{AreBusy}
use Rattle.fax_decide.specs.Settings.{settings_of}
use Rattle.fax_hours.specs.Zone.{week_minute_at}
use Rattle.fax_decide.proofs.ChoiceLemmas.{first_busy, last_busy, none_busy}
use Rattle.fax_decide.proofs.LookingLemmas.{both, gives, goes_on, stops}
use Rattle.fax_decide.proofs.choice.first.Goals as goal

pub returns-in_err-found : goal.returns-in_err-found
returns-in_err-found g c = stops c.from_residual-in_err-found.ensures.1 c.in_err-found.ensures (λ m out found sound.
    let s = settings_of c.args.office.now.setup c.args.office.now.controls in
    let none : c.new.result.items ≡ [] = search rules in
    let at_minute : c.in_ok-minute_at.field-0 ≡ week_minute_at c.args.office.now.setup.zone c.args.t = (let is = c.in_ok-minute_at.ensures in cc) in
    out _ (found sound (c.finder.ensures, subst (AreBusy s m c.args.t) (sym none) (none_busy s m c.args.t), at_minute)))

pub returns-in-None : goal.returns-in-None
returns-in-None g c = goes_on c.in_ok-found.ensures (λ m k at found sound.
    let s = settings_of c.args.office.now.setup c.args.office.now.controls in
    let none : c.new.result.items ≡ [] = search rules in
    let at_minute : c.in_ok-minute_at.field-0 ≡ week_minute_at c.args.office.now.setup.zone c.args.t = (let is = c.in_ok-minute_at.ensures in cc) in
    let still : c.first_or_busy.new.learned.busy.items ≡ [] = search rules in
    (found sound (c.finder.ensures, subst (AreBusy s m c.args.t) (sym none) (none_busy s m c.args.t), at_minute)).1 still)

pub returns : goal.returns
returns g c = gives (both c.in_ok-found.ensures c.first_but.ensures) (λ m k at calls sound.
    let s = settings_of c.args.office.now.setup c.args.office.now.controls in
    let none : c.new.result.items ≡ [] = search rules in
    let at_minute : c.in_ok-minute_at.field-0 ≡ week_minute_at c.args.office.now.setup.zone c.args.t = (let is = c.in_ok-minute_at.ensures in cc) in
    let found = calls.0 sound (c.finder.ensures, subst (AreBusy s m c.args.t) (sym none) (none_busy s m c.args.t), at_minute) in
    let learned = found.0 in
    calls.1 sound (learned.0, first_busy s m c.args.t _ _ c.in-Some.dial c.in-Some.ensures.items learned.1, learned.2)
    (last_busy s m c.args.t _ _ c.in-Some.dial c.in-Some.ensures.items learned.1))
