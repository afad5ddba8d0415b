use Rattle.std.proofs.Common.{◌∙◌, List, ℕ, ap, ap₂, sym}
use Rattle.fax_core.specs.Ageing.{aged}
use Rattle.fax_core.specs.Machine.{held_by}
use Rattle.fax_core.specs.declared.grants.Grant.{Grant}
use Rattle.fax_run.specs.Modems.{grant_shown}
use Rattle.fax_store.proofs.WorkLemmas.{there_as}
use Rattle.fax_tables.specs.Grant.{as_hold}
use Rattle.fax_text.specs.Modems.{grant_words}
use Rattle.fax_decide.proofs.RecordLemmas.{none_told}
use Rattle.fax_decide.proofs.LookingLemmas.{both, by_reading, goes_on, stops}
use Rattle.fax_decide.proofs.held.held_of.Goals as goal

pub returns-in_err-held_grant-in-Some : goal.returns-in_err-held_grant-in-Some
returns-in_err-held_grant-in-Some g c = stops c.from_residual-in_err-held_grant-in-Some.ensures.1
    (both (by_reading c.in_ok-hold.ensures.leaves c.in_ok-hold.ensures.answers) c.in_err-held_grant-in-Some.ensures.found) (λ m out calls t sound.
    let it = there_as as_hold (held_by c.args.modem.now m) c.in-Some.hold (sym c.in-Some.is ∙ calls.0) in
    out _ (calls.1 t it.0 sound it.1 it.2))

pub returns-in_ok-held_grant-in-Some : goal.returns-in_ok-held_grant-in-Some
returns-in_ok-held_grant-in-Some g c = goes_on
    (both (by_reading c.in_ok-hold.ensures.leaves c.in_ok-hold.ensures.answers) c.in_ok-held_grant-in-Some.ensures.found) (λ m k at calls t sound.
    let it = there_as as_hold (held_by c.args.modem.now m) c.in-Some.hold (sym c.in-Some.is ∙ calls.0) in
    let held = calls.1 t it.0 sound it.1 it.2 in
    ap₂ (λ (x : Grant) (dial : List ℕ). grant_words x.number x.job dial x.first_page x.last_page x.call x.confirmed) held.0 (sym held.1)
    ∙ sym (ap (grant_shown (aged t m)) it.1))

pub returns-in-None : goal.returns-in-None
returns-in-None g c = goes_on (by_reading c.in_ok-hold.ensures.leaves c.in_ok-hold.ensures.answers) (λ m k at found t sound.
    sym (ap (grant_shown (aged t m)) (none_told as_hold (held_by c.args.modem.now m) (sym c.in-None.is ∙ found))))
