-- What is decided of a request on a job.
use Rattle.std.proofs.Common.{◌≡◌, ℕ, true, false, cond, refl, Some, Ok, Err, Result, sym, ap, subst, ◌∙◌}
use Rattle.fax_job.specs.declared.job.JobFields.{JobFields}
use Rattle.fax_job.specs.declared.refusal.Refusal.{Refusal}
use Rattle.fax_job.specs.declared.refusal.Refusal.TheVariants.{Unavailable}
use Rattle.fax_job.specs.Job.{is_lawful}
use Rattle.fax_ask.specs.Answer.{Replied}
use Rattle.fax_ask.specs.Response.{Response, accepted_response}
use Rattle.fax_core.specs.Ageing.{aged}
use Rattle.fax_core.specs.Change.{changed}
use Rattle.fax_core.specs.declared.change.Change.{Change}
use Rattle.fax_core.specs.Decisions.{job_asked}
use Rattle.fax_core.specs.Job.{Job, job_of, fields_of}
use Rattle.fax_core.specs.Machine as machine
use Rattle.fax_core.specs.Machine.{with_job}
use Rattle.fax_core.specs.Queue.{Queue, job_numbered}
use Rattle.fax_core.specs.Reply.{Stands, Taken}
use Rattle.fax_core.specs.Settings.{Settings}
use Rattle.fax_core.specs.State.{calls_to, state}
use Rattle.fax_core.specs.Submission.{recorded}
use Rattle.fax_store.specs.Job.{IsChange, lines_of, with_expired, with_its_lines}
use Rattle.fax_core.specs.Stamp.{stamp}
use Rattle.fax_core.specs.Times.{has_ended}
use Rattle.fax_store.specs.Times.{is_over_as, with_ends}
use Rattle.fax_decide.proofs.EndLemmas.{stamp_put}
use Rattle.fax_decide.specs.Decision.{IsTaken}
use Rattle.fax_decide.specs.Records.{job_in}
use Rattle.fax_core.specs.declared.ask.JobAsk.{JobAsk}
use Rattle.fax_decide.specs.declared.effect.Effect.TheVariants.{ChangedJob}
use Rattle.fax_decide.proofs.CallLemmas.{state_changed}
use Rattle.fax_decide.proofs.LinesLemmas.{decision_lined, job_lined, state_lined}

-- ---- what is recorded

-- what is recorded was decided, unless no record could hold the job
pub recorded_as : (r x : Result Job Refusal) → x ≡ recorded r → (x ≡ Err Unavailable → ⊥) → r ≡ x
recorded_as (Err e) x is never = sym is
recorded_as (Ok j) x is never =
    (elim (is_lawful (fields_of j)) as (λ b. x ≡ cond b (Ok j) (Err Unavailable) → Ok j ≡ x) [ true ↦ λ e. sym e | false ↦ λ e. absurd (never e) ]) is

-- so a job that is recorded was decided
pub recorded_ok : (r : Result Job Refusal) (x : Job) → Ok x ≡ recorded r → r ≡ Ok x
recorded_ok r x is = recorded_as r (Ok x) is (λ no. cc)

-- and is the one that was
pub recorded_is : (x j : Job) → Ok x ≡ recorded (Ok j) → x ≡ j
recorded_is x j is = let same = recorded_ok (Ok j) x is in cc

-- ---- a job that is changed, with its lines

module _ (m : Queue) (t : ℕ) (c : Change) (f g : JobFields) (there : job_numbered f.job (aged t m) ≡ Some (job_in (aged t m) f))
    (after : Ok (job_of g) ≡ recorded (Ok (changed c (job_of f)))) where
  -- with its lines it is what the change makes of the job with them
  pub whole_changed : job_in (aged t m) g ≡ changed c (job_in (aged t m) f)
  whole_changed = ap (with_its_lines (aged t m)) (recorded_is (job_of g) (changed c (job_of f)) after)

  -- its number has the job as it was
  pub old_there : job_numbered g.job (aged t m) ≡ Some (job_in (aged t m) f)
  old_there = subst (λ (n : ℕ). job_numbered n (aged t m) ≡ Some (job_in (aged t m) f)) (sym (ap (λ (x : Job). x.number) whole_changed)) there

  -- it keeps its order
  pub order_kept : IsChange (job_of g) (with_expired t m)
  order_kept k of =
      let same : k ≡ job_in (aged t m) f = (let both = sym of ∙ old_there in cc) in record {
        dial = ap (λ (x : Job). x.dial) same ∙ sym (ap (λ (x : Job). x.dial) whole_changed);
        totpages = ap (λ (x : Job). x.totpages) same ∙ sym (ap (λ (x : Job). x.totpages) whole_changed);
      }

  -- it is taken, and its state is told, where it wasn't over before
  pub job_taken : has_ended f.phase ≡ false → (s : Settings) (reply : Response) → reply ≡ accepted_response (Replied (Stands g.job (state s m t (job_of g))))
      → IsTaken (machine.changed s (aged t m) t (Ok (changed c (job_in (aged t m) f)))) m t (ChangedJob g) reply
  job_taken goes s reply replied =
      let whole = job_in (aged t m) g in
      let lines = lines_of (job_numbered g.job (aged t m)) in record {
        suits = order_kept;
        within = tt;
        left = tt;
        given = refl;
        told = Stands g.job (state s m t (job_of g));
        taken = ap (λ (x : Job). Taken (stamp t (aged t m) (with_job x (aged t m))) (Stands x.number (state s (with_job x (aged t m)) t x))) (sym whole_changed)
            ∙ ap (λ (q : Queue). Taken q (Stands g.job (state s (with_job whole (aged t m)) t whole)))
            (stamp_put t (aged t m) (with_job whole (aged t m)) (job_in (aged t m) f) whole refl old_there goes)
            ∙ ap (λ (n : ℕ). Taken (with_ends t (is_over_as whole) (with_job whole (aged t m))) (Stands g.job n))
            (state_changed s m t whole (job_in (aged t m) f) old_there (ap (λ (x : Job). x.dial) whole_changed)
            ∙ state_lined lines g.phase (job_of g) ((s.rule g.dial).hours t) (calls_to g.dial m) (s.rule g.dial).calls t);
        replied = replied;
      }

-- the job that is there is decided on, with its lines
pub on_job_is : (s : Settings) (m : Queue) (t : ℕ) (ask : JobAsk) (n : ℕ) (r : Result Job Refusal) (f : JobFields)
    → job_numbered n (aged t m) ≡ Some (job_in (aged t m) f) → r ≡ job_asked ask t (job_of f)
    → machine.changed s (aged t m) t (job_lined (lines_of (job_numbered f.job (aged t m))) r) ≡ machine.on_job s (aged t m) t ask (job_numbered n (aged t m))
on_job_is s m t ask n r f there decided =
    let lines = lines_of (job_numbered f.job (aged t m)) in
    ap (machine.changed s (aged t m) t) (ap (job_lined lines) decided ∙ decision_lined lines ask t (job_of f)) ∙ ap (machine.on_job s (aged t m) t ask) (sym there)
