use Rattle.std.proofs.Common.{◌≡◌, ap, option_map, sym, ◌∙◌, true≢false}
use Rattle.std.proofs.lemmas.Option.{none-some, same_Some}
use Rattle.fax_core.specs.Job.{fields_of}
use Rattle.fax_tables.specs.Job.{brief}
use Rattle.fax_decide.specs.Choice.{is_held_by}
use Rattle.fax_decide.proofs.GivenLemmas.{hold_dials, hold_has_grant, hold_has_job, hold_is_its}
use Rattle.fax_decide.proofs.LookingLemmas.{both, by_reading, goes_on}
use Rattle.fax_decide.proofs.held.held_grant.Goals as goal

pub returns-clause-found : goal.returns-clause-found
returns-clause-found g c = goes_on (both (by_reading c.in_ok-grant.ensures.leaves c.in_ok-grant.ensures.answers) (by_reading c.in_ok-job.ensures.leaves c.in_ok-job.ensures.answers)) (λ m k at calls t one sound is same.
    let it : c.in-Some.grant ≡ one = same_Some _ _ (sym c.in-Some.is ∙ calls.0 ∙ hold_has_grant m c.args.modem.now one c.args.hold sound is same) in
    (it, hold_dials m c.args.modem.now one c.args.hold sound is same t c.in-Some-2.job (sym c.in-Some-2.is ∙ calls.1)))

pub returns-in_default-clause-found : goal.returns-in_default-clause-found
returns-in_default-clause-found g c = goes_on (by_reading c.in_ok-grant.ensures.leaves c.in_ok-grant.ensures.answers) (λ m k at grant t one sound is same.
    absurd (none-some one (sym c.in_default.is ∙ grant ∙ hold_has_grant m c.args.modem.now one c.args.hold sound is same)))

pub returns-in_default-2-clause-found : goal.returns-in_default-2-clause-found
returns-in_default-2-clause-found g c = goes_on (both (by_reading c.in_ok-grant.ensures.leaves c.in_ok-grant.ensures.answers) (by_reading c.in_ok-job.ensures.leaves c.in_ok-job.ensures.answers)) (λ m k at calls t one sound is same.
    absurd (none-some _ (sym c.in_default-2.is ∙ calls.1
    ∙ ap (option_map (λ j. brief (fields_of j))) (hold_has_job m c.args.modem.now one c.args.hold sound is same).1)))

pub returns-then-not-is_held-clause-found : goal.returns-then-not-is_held-clause-found
returns-then-not-is_held-clause-found g c = goes_on (both (by_reading c.in_ok-grant.ensures.leaves c.in_ok-grant.ensures.answers) (by_reading c.in_ok-job.ensures.leaves c.in_ok-job.ensures.answers)) (λ m k at calls t one sound is same.
    let it : c.in-Some.grant ≡ one = same_Some _ _ (sym c.in-Some.is ∙ calls.0 ∙ hold_has_grant m c.args.modem.now one c.args.hold sound is same) in
    let held = ap (is_held_by c.args.modem.now c.in-Some-2.job) it ∙ hold_is_its m c.args.modem.now one c.args.hold sound is same c.in-Some-2.job (sym c.in-Some-2.is ∙ calls.1) in
    absurd (true≢false (sym held ∙ sym c.is_held.ensures ∙ c.if-not-is_held.true)))
