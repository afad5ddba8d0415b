-- What is decided of a new job, which is submitted or brought in.
use Rattle.std.proofs.Common.{◌≡◌, ℕ, ◌+◌, ◌≤◌, Bool, true, false, cond, eqb, List, None, Result, Ok, Err, IfOk, IsOk, refl, sym, ap, ap₂, subst, ◌∙◌, arith, is_some, nat_lt, not, ◌&&◌}
use Rattle.fax_value.specs.Limits.{last_job}
use Rattle.fax_job.specs.declared.job.JobFields.{JobFields}
use Rattle.fax_job.specs.declared.refusal.Refusal.{Refusal}
use Rattle.fax_job.specs.declared.refusal.Refusal.TheVariants.{Unavailable, Rejected, TooManyPages, Full}
use Rattle.fax_job.specs.Job.{is_lawful}
use Rattle.fax_ask.specs.Answer.{Replied}
use Rattle.fax_ask.specs.Detail.{has_detail}
use Rattle.fax_ask.specs.Response.{Response, accepted_response, refused_response}
use Rattle.fax_core.specs.Ageing.{aged}
use Rattle.fax_core.specs.Job.{Job, job_of, fields_of}
use Rattle.fax_core.specs.Machine.{keys_of_rule, with_new_job}
use Rattle.fax_core.specs.Queue.{Queue}
use Rattle.fax_core.specs.Reply.{Reply, Refused, Step, Taken}
use Rattle.fax_core.specs.Settings.{Rule, Settings}
use Rattle.fax_core.specs.Sound.{Sound}
use Rattle.fax_core.specs.State.{is_of_number, calls_to, state, state_at}
use Rattle.fax_core.specs.Submission.{recorded, rule_of}
use Rattle.fax_core.proofs.DecisionLemmas.{not_refused, ok_same}
use Rattle.fax_core.proofs.PlaceLemmas.{stays}
use Rattle.fax_core.proofs.StepLemmas.{aged_sound}
use Rattle.fax_store.proofs.CountLemmas.{same_calls}
use Rattle.fax_rule.specs.declared.rule.Rule as dest
use Rattle.fax_decide.specs.Decision.{Decides, IsTaken, given_told}
use Rattle.fax_decide.specs.declared.decision.Decision.{Decision}
use Rattle.fax_decide.specs.declared.decision.Decision.TheVariants as decision
use Rattle.fax_decide.specs.declared.fault.Fault.{Fault}
use Rattle.fax_decide.specs.declared.effect.Effect.TheVariants.{NewJob}
use Rattle.fax_decide.proofs.CallLemmas.{calls_aged}
use Rattle.fax_decide.proofs.DecisionLemmas.{refused_as}
use Rattle.fax_core.proofs.StampLemmas.{stamp_new}
use Rattle.fax_core.specs.Stamp.{came}
use Rattle.fax_core.specs.declared.times.Times.{Times}
use Rattle.fax_decide.proofs.FreeLemmas.{job_placed, times_placed}
use Rattle.fax_decide.proofs.JobLemmas.{recorded_as}
use Rattle.fax_decide.proofs.RecordLemmas.{has_job}
use Rattle.fax_job.specs.declared.import.Import.{Import}
use Rattle.fax_job.specs.declared.order.Order.{Order}
use Rattle.fax_core.specs.Import.{bring, brought, is_ended, old_job}
use Rattle.fax_core.specs.Decisions.{is_over, new_job, submit}

-- ---- what is taken

-- a job of the next number, within the limits, is taken, and told
pub new_taken : (m : Queue) (t : ℕ) (f : JobFields) (told : Reply) (reply : Response) → Sound m → f.job ≡ m.next_job → f.job ≤ last_job
    → given_told told ≡ None → reply ≡ accepted_response (Replied told) → IsTaken (Taken (with_new_job (job_of f) (aged t m)) told) m t (NewJob f) reply
new_taken m t f told reply sound next limit plain replied = record {
  suits = tt;
  within = tt;
  left = omega (arith, next, limit);
  given = sym plain;
  told = told;
  taken =
      let now = aged_sound t m sound in
      ap (λ (n : Queue). Taken n told) (stamp_new t (aged t m) (job_of f))
      ∙ ap₂ (λ (js : List Job) (xs : List Times). Taken (record (aged t m) { jobs = js; times = xs; next_job = m.next_job + 1 }) told)
      (sym (job_placed (aged t m) (job_of f) now next)) (sym (times_placed (aged t m) (came t (job_of f)) now next));
  replied = replied;
}

-- a new job adds no call to any number, since open grants have their jobs
calls_new : (dial : List ℕ) (m : Queue) (j : Job) → Sound m → calls_to dial (with_new_job j m) ≡ calls_to dial m
calls_new dial m j sound =
    sym (same_calls dial m (with_new_job j m).jobs (λ g has.
    let job = has_job m g sound has in
    ap (is_of_number dial) (stays (λ (k : Job). eqb k.number g.job) m.jobs j job.0 job.1 ∙ sym job.1)))

-- so its state is the same in the queue with it
pub state_new : (s : Settings) (m : Queue) (t : ℕ) (j : Job) → Sound m → state s (with_new_job j (aged t m)) t j ≡ state s m t j
state_new s m t j sound =
    ap (λ calls. state_at j ((s.rule j.dial).hours t) calls (s.rule j.dial).calls t) (calls_new j.dial (aged t m) j (aged_sound t m sound) ∙ calls_aged j.dial t m)

-- ---- what is refused

-- a new job is rejected by its rule, has too many pages for it, finds the queue full, or is this one
abbrev new_or : Bool → Bool → Bool → Job → Result Job Refusal
new_or rejected over full j = cond rejected (Err Rejected) (cond over (Err TooManyPages) (cond full (Err Full) (Ok j)))

-- what holds of this refusal holds of the one that it is
it_is : (P : Refusal → Type 0) (e x : Refusal) → ◌≡◌ {A = Result Job Refusal} (Err e) (Err x) → P x → P e
it_is P e x is holds = let same : x ≡ e = cc in subst P same holds

-- what holds of each refusal that a new job may meet holds of the one that it meets
refused_by : (P : Refusal → Type 0) (rejected over full : Bool) (j : Job) (e : Refusal) → Err e ≡ recorded (new_or rejected over full j)
    → (rejected ≡ true → P Rejected) → P TooManyPages → P Full → (full ≡ false → recorded (Ok j) ≡ Err Unavailable → P Unavailable) → P e
refused_by P true over full j e is first second third last = it_is P e Rejected is (first refl)
refused_by P false true full j e is first second third last = it_is P e TooManyPages is second
refused_by P false false true j e is first second third last = it_is P e Full is third
refused_by P false false false j e is first second third last = by (is_lawful (fields_of j)) refl is
  where
    by : (b : Bool) → is_lawful (fields_of j) ≡ b → Err e ≡ cond b (Ok j) (Err Unavailable) → P e
    by true lawful is = absurd cc
    by false lawful is = it_is P e Unavailable is (last refl (ap (λ b. cond b (Ok j) (Err Unavailable)) lawful))

-- A new job's refusal: it is rejected where the rule rejects it, of no other more is told, and none is refused as unlawful that a record could hold.
pub record IsNewRefusal (rejected full : Bool) (j : Job) (e : Refusal) : Type 0 where
  pub rejects : e ≡ Rejected → rejected ≡ true
  pub plain : ¬ (e ≡ Rejected) → has_detail e ≡ false
  pub known : (full ≡ false → recorded (Ok j) ≡ Ok j) → ¬ (e ≡ Unavailable)

-- as it is of each
new_refused : (rejected over full : Bool) (j : Job) (e : Refusal) → Err e ≡ recorded (new_or rejected over full j) → IsNewRefusal rejected full j e
new_refused rejected over full j e is = record {
  rejects = refused_by (λ x. x ≡ Rejected → rejected ≡ true) rejected over full j e is (λ yes _. yes) (λ no. absurd cc) (λ no. absurd cc) (λ _ _ no. absurd cc);
  plain = refused_by (λ x. ¬ (x ≡ Rejected) → has_detail x ≡ false) rejected over full j e is (λ yes no. absurd (no refl)) (λ _. refl) (λ _. refl) (λ _ _ _. refl);
  known = λ holds. refused_by (λ x. ¬ (x ≡ Unavailable)) rejected over full j e is (λ yes no. cc) (λ no. cc) (λ no. cc)
      (λ few off no. let both = sym (holds few) ∙ off in cc);
}

-- so it is of a submission
pub submit_refused : (o : Order) (rule : Rule) (n max t : ℕ) (e : Refusal) → Err e ≡ recorded (submit o rule n max t)
    → IsNewRefusal (is_some rule.notice) (nat_lt max n) (new_job o n t) e
submit_refused o rule n max t e is = new_refused (is_some rule.notice) (is_over o.totpages rule.pages) (nat_lt max n) (new_job o n t) e is

-- and of an import
pub bring_refused : (i : Import) (rule : Rule) (n max t : ℕ) (e : Refusal) → Err e ≡ recorded (bring i rule n max t)
    → IsNewRefusal (not (is_ended i.state) && is_some rule.notice) (nat_lt max n) (brought i.state (old_job i n t)) e
bring_refused i rule n max t e is =
    new_refused (not (is_ended i.state) && is_some rule.notice) (not (is_ended i.state) && is_over i.order.totpages rule.pages) (nat_lt max n)
    (brought i.state (old_job i n t)) e is

-- a submission that is taken is that job
pub submit_is : (o : Order) (rule : Rule) (n max t : ℕ) (j : Job) → submit o rule n max t ≡ Ok j → new_job o n t ≡ j
submit_is o rule n max t j is =
    ok_same (new_job o n t) j
    (not_refused (nat_lt max n) Full _ j (not_refused (is_over o.totpages rule.pages) TooManyPages _ j (not_refused (is_some rule.notice) Rejected _ j is).1).1).1

-- a new job that is refused is refused by the machine, with the keys of its rule
pub refused_new : (step : Result Job Refusal → Step) (r : Result Job Refusal) (e : Refusal) (rule : dest.Rule) (here : Rule) (hours : ℕ → Bool) (m : Queue)
    (t : ℕ) (result : Result Decision Fault)
    → step (Err e) ≡ Refused e (keys_of_rule e here) → Err e ≡ recorded r → rule_of rule hours ≡ here
    → (IsOk result → ¬ (e ≡ Unavailable)) → IfOk result (λ d. d ≡ decision.Refused (refused_response e (keys_of_rule e (rule_of rule hours))))
    → IfOk result (Decides (step r) m t)
refused_new step r e rule here hours m t (Err fault) refuses is same known told = tt
refused_new step r e rule here hours m t (Ok d) refuses is same known told =
    subst (Decides (step r) m t) (sym told)
    (refused_as (ap step (recorded_as r (Err e) is (λ no. known refl cc)) ∙ refuses) (ap (λ x. refused_response e (keys_of_rule e x)) same))
