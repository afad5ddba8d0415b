use Rattle.std.proofs.Common.{List, ℕ, map, sym, subst, ap, refl, ◌∙◌}
use Rattle.std.specs.List.Sorted.{IsStrictlyIncreasing}
use Rattle.fax_ask.specs.Answer.{Listed}
use Rattle.fax_ask.specs.Response.{accepted_response}
use Rattle.fax_core.specs.Ageing.{aged}
use Rattle.fax_text.specs.Listing.{listing_of, number_of}
use Rattle.fax_run.specs.View.{with_state}
use Rattle.fax_decide.specs.Settings.{settings_of}
use Rattle.fax_decide.proofs.ViewLemmas.{briefs_seen, listing_thin, numbers_thin, rows_ascend}
use Rattle.fax_decide.proofs.LookingLemmas.{both, by_reading, goes_on, stops, views}
use Rattle.fax_decide.proofs.view.show_jobs.Goals as goal

pub returns : goal.returns
returns g c = views (goes_on (both (by_reading c.in_ok-jobs.ensures.leaves c.in_ok-jobs.ensures.answers) c.in_ok-rows.ensures) (λ m k at calls sound.
    let s = settings_of c.args.office.now.setup c.args.office.now.controls in
    let t = c.args.t in
    let seen = map (with_state s (aged t m) t) (aged t m).jobs in
    let rows = c.as_slice.ensures.value ∙ calls.1 ∙ briefs_seen s m t m.jobs c.in_ok-jobs.jobs.items at.lawful.jobs calls.0 in
    c.in_ok-listed.ensures (subst IsStrictlyIncreasing (sym (ap (map number_of) rows ∙ numbers_thin seen)) (rows_ascend s m t sound))
    ∙ ap (λ (text : List ℕ). accepted_response (Listed text)) (ap (listing_of s.shows) rows ∙ listing_thin s.shows seen)))

pub returns-in_err-rows : goal.returns-in_err-rows
returns-in_err-rows g c =
    views (stops c.from_residual-in_err-rows.ensures.1
    (both (by_reading c.in_ok-jobs.ensures.leaves c.in_ok-jobs.ensures.answers) c.in_err-rows.ensures) (λ m out why sound. out _ why.1))

pub returns-in_err-listed : goal.returns-in_err-listed
returns-in_err-listed g c =
    views (stops c.from_residual-in_err-listed.ensures.1
    (both (by_reading c.in_ok-jobs.ensures.leaves c.in_ok-jobs.ensures.answers) c.in_ok-rows.ensures) (λ m out calls sound. out _ refl))
