use Rattle.std.proofs.Common.{◌≡◌, false, Ok, refl, sym, subst, ap, ◌∙◌, arith, true≢false, Err, List, nat_lt, ℕ}
use Rattle.fax_core.specs.Ageing.{aged}
use Rattle.fax_core.specs.Decisions.{grant, granted}
use Rattle.fax_core.specs.Job.{job_of, Job}
use Rattle.fax_core.specs.Machine.{given}
use Rattle.fax_core.specs.Times.{has_ended}
use Rattle.fax_core.specs.declared.grants.Grant.{Grant}
use Rattle.fax_decide.specs.Choice.{IsGrantOf}
use Rattle.fax_decide.specs.Decision.{Decides}
use Rattle.fax_decide.specs.Fault.{OrNoAnswer}
use Rattle.fax_decide.proofs.DecisionLemmas.{refused_as}
use Rattle.fax_decide.proofs.GivenLemmas.{given_by}
use Rattle.fax_ask.specs.Detail.{has_detail}
use Rattle.fax_core.proofs.RefusalLemmas.{refused_or}
use Rattle.fax_job.specs.declared.refusal.Refusal.TheVariants.{Full}
use Rattle.fax_decide.proofs.KeptLemmas.{fits_alone, grant_keeps, number_within, page_left}
use Rattle.fax_job.specs.declared.refusal.Refusal.{Refusal}
use Rattle.fax_decide.proofs.choice.give.Goals as goal

-- of a refused grant no more is told than number and word
grant_plain : (j : Job) (modem : List ℕ) (next max : ℕ) (e : Refusal) → grant j modem next max ≡ Err e → has_detail e ≡ false
grant_plain j modem next max e h = refused_or (λ x. has_detail x ≡ false) (nat_lt max next) Full e (Ok (granted j modem next)) h refl (λ x. cc x)

pub returns-in-Ok-clause-decided : goal.returns-in-Ok-clause-decided
returns-in-Ok-clause-decided c m t sound there next waits =
    let new : IsGrantOf c.args.job c.new-grant.result = record {
      is = subst (λ (g : Grant). g ≡ (granted (job_of c.args.job) g.modem g.number).grant) (sym c.new-grant.ensures) refl;
      page = page_left c.args.job (fits_alone m t c.args.job sound there waits) waits;
      last =
          let number : c.new-grant.result.number ≡ c.args.next_grant = ap (λ (g : Grant). g.number) c.new-grant.ensures in
          let few = number_within (job_of c.args.job) c.args.modem c.args.next_grant c.max_grants.result _ (sym (c.in-Ok.ensures c.args.modem)) in
          omega (arith, number, few, c.max_grants.ensures.bounds.1);
    } in
    given_by (λ step. OrNoAnswer c.given.result (Decides step m t)) (aged t m) (job_of c.args.job) c.args.modem c.args.next_grant c.max_grants.result c.args.office.now.setup.max_grants
    (Ok c.in-Ok.change) c.new-grant.result c.new-grant.ensures (c.in-Ok.ensures c.args.modem) c.max_grants.ensures.number
    (c.given.ensures m t sound there (ap (λ (g : Grant). g.number) c.new-grant.ensures ∙ next) (ap has_ended waits) new
    (grant_keeps c.args.job c.args.modem c.args.next_grant c.max_grants.result _ c.in-Ok.change (c.in-Ok.ensures c.args.modem)))

pub refused-requires : goal.refused-requires
refused-requires c = grant_plain (job_of c.args.job) c.args.modem c.args.next_grant c.max_grants.result c.in-Err.refusal (sym (c.in-Err.ensures c.args.modem))

pub returns-in-Err-clause-decided : goal.returns-in-Err-clause-decided
returns-in-Err-clause-decided c m t sound there next waits =
    refused_as (ap (given (aged t m)) (sym (c.in-Err.ensures c.args.modem
    ∙ ap (grant (job_of c.args.job) c.args.modem c.args.next_grant) c.max_grants.ensures.number))) c.refused.ensures

pub returns-then-not-fits-clause-decided : goal.returns-then-not-fits-clause-decided
returns-then-not-fits-clause-decided c m t sound there next waits =
    absurd (true≢false (sym (c.fits.ensures ∙ fits_alone m t c.args.job sound there waits) ∙ c.if-not-fits.true))
