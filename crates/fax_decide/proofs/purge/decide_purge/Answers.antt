use Rattle.std.proofs.Common.{◌≡◌, ◌≤◌, ◌∙◌, ℕ, List, arith, length, rules, subst, sym}
use Rattle.fax_decide.specs.declared.effect.Effect.TheVariants.{Purged}
use Rattle.fax_decide.proofs.DecisionLemmas.{taken_or}
use Rattle.fax_decide.proofs.LookingLemmas.{by_reading, goes_on}
use Rattle.fax_decide.proofs.PurgeLemmas.{leaving_few, purge_taken}
use Rattle.fax_decide.proofs.purge.decide_purge.Goals as goal

pub returns-in_default : goal.returns-in_default
returns-in_default g c = goes_on (by_reading c.in_ok-jobs.ensures.leaves c.in_ok-jobs.ensures.answers) (λ m k at is sound. absurd (
    let few : length c.in_ok-jobs.jobs.items ≤ 1000 = subst (λ (l : List ℕ). length l ≤ 1000) (sym is) (leaving_few c.args.before m) in
    let same : c.len.result ≡ length c.in_ok-jobs.jobs.items = search rules in
    c.in_default.ensures (omega (arith, few, same))))

pub returns : goal.returns
returns g c = goes_on (by_reading c.in_ok-jobs.ensures.leaves c.in_ok-jobs.ensures.answers) (λ m k at is sound.
    let same : c.len.result ≡ length c.in_ok-jobs.jobs.items = search rules in
    taken_or (Purged c.in_ok-jobs.jobs) _ _ c.answered-reply.result _ c.take.ensures c.answered-reply.ensures (λ r told.
    purge_taken m c.args.t c.args.before c.in_ok-jobs.jobs c.in-Ok.count r sound (search rules) is (c.in-Ok.ensures.1 ∙ same) told))
