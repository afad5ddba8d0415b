-- What is decided of a report on a grant.
use Rattle.std.proofs.Common.{◌≡◌, ℕ, ◌≤◌, ◌-◌, true, false, not, None, Some, Ok, Err, List, refl, sym, ap, subst, ◌∙◌, Option, Result}
use Rattle.std.proofs.lemmas.Bool.{not-false}
use Rattle.fax_value.specs.Limits.{most_pages}
use Rattle.fax_job.specs.Pair.{Pair}
use Rattle.fax_job.specs.declared.job.JobFields.{JobFields}
use Rattle.fax_job.specs.declared.job.Call.{Call as CallResult}
use Rattle.fax_job.specs.declared.refusal.Refusal.{Refusal}
use Rattle.fax_job.specs.declared.refusal.Refusal.TheVariants.{GrantClosed, PageOrder}
use Rattle.fax_ask.specs.Answer.{Replied}
use Rattle.fax_ask.specs.Response.{Response, accepted_response, refused_response}
use Rattle.fax_core.specs.Ageing.{aged}
use Rattle.fax_core.specs.Change.{changed}
use Rattle.fax_core.specs.declared.change.Change.{Change}
use Rattle.fax_core.specs.declared.grants.Grant.{Grant}
use Rattle.fax_core.specs.declared.report.Report.{Report}
use Rattle.fax_core.specs.Decisions.{JobAndGrant, refuse_if◌because◌otherwise◌}
use Rattle.fax_core.specs.Job.{Job, job_of}
use Rattle.fax_core.specs.Machine.{with_both, reported, on_grant, on_both, keys_of_job, page_reply, outcome_reply}
use Rattle.fax_core.specs.Queue.{Queue, job_numbered, grant_numbered}
use Rattle.fax_core.specs.Reply as machine
use Rattle.fax_core.specs.Reply.{Reply, Stands, Step, Taken}
use Rattle.fax_core.specs.Settings.{Settings}
use Rattle.fax_core.specs.Sound.{Sound}
use Rattle.fax_core.specs.State.{calls_to, state}
use Rattle.fax_core.specs.Submission.{recorded}
use Rattle.fax_core.proofs.FitsLemmas.{record_again}
use Rattle.fax_core.proofs.KeepLemmas.{numbered_job, numbered_grant, same_job}
use Rattle.fax_core.proofs.StepLemmas.{aged_sound}
use Rattle.fax_core.specs.Stamp.{stamp}
use Rattle.fax_core.specs.Times.{has_ended}
use Rattle.fax_store.specs.Times.{is_over_as, with_ends}
use Rattle.fax_decide.proofs.EndLemmas.{stamp_put}
use Rattle.fax_store.specs.Grant.{IsSameGrant, with_shut}
use Rattle.fax_store.specs.Job.{lines_of, with_change, with_expired}
use Rattle.fax_store.specs.Meta.{with_clock}
use Rattle.fax_decide.specs.Decision.{IsTaken, IsRefused, given_told}
use Rattle.fax_decide.specs.Records.{job_in}
use Rattle.fax_decide.specs.Report.{AreThere}
use Rattle.fax_decide.specs.State.{state_with}
use Rattle.fax_decide.specs.declared.effect.Effect.TheVariants.{Reported, Closed}
use Rattle.fax_decide.proofs.CallLemmas.{state_ended}
use Rattle.fax_decide.proofs.JobLemmas.{old_there, order_kept, whole_changed}
use Rattle.fax_decide.proofs.LinesLemmas.{both_lined, keys_lined, lined, state_lined}
use Rattle.fax_decide.proofs.RecordLemmas.{found_itself}
use Rattle.fax_core.proofs.DecisionLemmas.{not_refused}
use Rattle.fax_decide.proofs.DecisionLemmas.{refused_as}

-- the job of an open grant isn't over
pub goes_there : (m : Queue) (t : ℕ) (f : JobFields) (g : Grant) → Sound m → AreThere m t f g → g.is_open ≡ true → has_ended f.phase ≡ false
goes_there m t f g sound there is_open =
    let held = (aged_sound t m sound).held g.number g (there.grant_there, is_open) in
    let job : job_numbered g.job (aged t m) ≡ Some (job_in (aged t m) f) = subst (λ (n : ℕ). job_numbered n (aged t m) ≡ Some (job_in (aged t m) f)) (sym there.of_job) there.job_there in
    let same : held.0 ≡ job_in (aged t m) f = same_job (aged t m) g.job held.0 (job_in (aged t m) f) held.1 job in
    ap has_ended (sym (ap (λ (j : Job). j.phase) same) ∙ held.2.phase)

-- ---- reports that leave the grant open

-- job and grant are put in their places, and the reply to the report is told
pub report_taken : (m : Queue) (t : ℕ) (c : Change) (f g : JobFields) (before grant : Grant) (reply_to : Queue → JobAndGrant → Reply) (reply : Response)
    → AreThere m t f before → IsSameGrant before grant → grant.number ≡ before.number → grant.confirmed ≤ most_pages → Ok (job_of g) ≡ recorded (Ok (changed c (job_of f))) → has_ended f.phase ≡ false
    → ((n : Queue) (b : JobAndGrant) → given_told (reply_to n b) ≡ None) → ((n : Queue) → reply ≡ accepted_response (Replied (reply_to n (record { job = job_in (aged t m) g; grant = grant }))))
    → IsTaken (reported (aged t m) reply_to (job_in (aged t m) f) (Ok (record { job = changed c (job_in (aged t m) f); grant = grant }))) m t (Reported g grant) reply
report_taken m t c f g before grant reply_to reply there same number few after goes plain replied = record {
  suits = (
    order_kept m t c f g there.job_there after,
    λ h is.
        let one : h ≡ before = (let both = sym (subst (λ (a : ℕ). grant_numbered a m ≡ Some h) number is) ∙ there.grant_there in cc) in
        subst (λ (x : Grant). IsSameGrant x grant) (sym one) same,
  );
  within = few;
  left = tt;
  told = reply_to (both (job_in (aged t m) g)) (record { job = job_in (aged t m) g; grant = grant });
  taken = ap (λ (x : Job). Taken (stamp t (aged t m) (both x)) (reply_to (both x) (record { job = x; grant = grant }))) (sym (whole_changed m t c f g there.job_there after))
      ∙ ap (λ (q : Queue). Taken q (reply_to (both (job_in (aged t m) g)) (record { job = job_in (aged t m) g; grant = grant })))
      (stamp_put t (aged t m) (both (job_in (aged t m) g)) (job_in (aged t m) f) (job_in (aged t m) g) refl (old_there m t c f g there.job_there after) goes);
  given = sym (plain (both (job_in (aged t m) g)) (record { job = job_in (aged t m) g; grant = grant }));
  replied = replied (both (job_in (aged t m) g));
}
  where
    both : Job → Queue
    both x = with_both (record { job = x; grant = grant }) (aged t m)

-- ---- outcomes

-- an outcome is taken, closes the grant, and tells the job's state with one call less
pub outcome_taken : (s : Settings) (m : Queue) (t : ℕ) (c : Change) (f g : JobFields) (grant : Grant) (reply : Response)
    → Sound m → AreThere m t f grant → grant.is_open ≡ true → Ok (job_of g) ≡ recorded (Ok (changed c (job_of f)))
    → reply ≡ accepted_response (Replied (Stands g.job (state_with s (job_of g) (calls_to g.dial m - 1) t)))
    → IsTaken (reported (aged t m) (outcome_reply s t) (job_in (aged t m) f) (Ok (record { job = changed c (job_in (aged t m) f); grant = record grant { is_open = false } }))) m t (Closed g grant.number) reply
outcome_taken s m t c f g grant reply sound there is_open after replied = record {
  suits = order_kept m t c f g there.job_there after;
  within = tt;
  left = tt;
  told = Stands g.job (state_with s (job_of g) calls t);
  taken = ap (λ (x : Job). Taken (stamp t (aged t m) (both x)) (Stands x.number (state s (both x) t x))) (sym one)
      ∙ ap (λ (q : Queue). Taken q (Stands g.job (state s (both whole) t whole)))
      (stamp_put t (aged t m) (both whole) (job_in (aged t m) f) whole refl (old_there m t c f g there.job_there after) (goes_there m t f grant sound there is_open))
      ∙ ap (λ (n : ℕ). Taken (with_ends t (is_over_as whole) (both whole)) (Stands g.job n))
      (state_ended s m t whole (job_in (aged t m) f) grant sound (old_there m t c f g there.job_there after) (ap (λ (x : Job). x.dial) one)
      (there.of_job ∙ sym (ap (λ (x : Job). x.number) one)) there.grant_there is_open
      ∙ state_lined (lines_of (job_numbered g.job (aged t m))) g.phase (job_of g) ((s.rule g.dial).hours t) calls (s.rule g.dial).calls t)
      ∙ ap (λ (o : Option Grant). Taken (with_clock t (with_shut o (with_change t (job_of g) (with_expired t m))))
      (Stands g.job (state_with s (job_of g) calls t))) (sym there.grant_there);
  given = refl;
  replied = replied;
}
  where
    both : Job → Queue
    both x = with_both (record { job = x; grant = record grant { is_open = false } }) (aged t m)

    whole : Job
    whole = job_in (aged t m) g

    calls : ℕ
    calls = calls_to g.dial m - 1

    one : whole ≡ changed c (job_in (aged t m) f)
    one = whole_changed m t c f g there.job_there after

-- ---- the grant and its job

-- the grant and its job are there where both were found
pub are_there : (m : Queue) (t n : ℕ) (g : Grant) (f : JobFields) → grant_numbered n m ≡ Some g → job_numbered g.job (aged t m) ≡ Some (job_in (aged t m) f)
    → AreThere m t f g
are_there m t n g f grant job = record {
  of_job = sym (numbered_job (aged t m) g.job (job_in (aged t m) f) job);
  job_there = found_itself (aged t m) g.job f job;
  grant_there = subst (λ (a : ℕ). grant_numbered a m ≡ Some g) (sym (numbered_grant m n g grant)) grant;
}

-- a report on a grant that was found is one on it and its job, if that is there
pub on_grant_is : (s : Settings) (m : Queue) (t n : ℕ) (report : Report) (g : Grant) (o : Option Job) → grant_numbered n m ≡ Some g → job_numbered g.job m ≡ o
    → on_both s m t report g o ≡ on_grant s m t report (grant_numbered n m)
on_grant_is s m t n report g o grant job = sym (ap (on_grant s m t report) grant ∙ ap (on_both s m t report g) job)

-- ---- what is decided without the extra lines

-- a grant with another call and other confirmed pages is as it was given
pub same_given : (g : Grant) (call : Option CallResult) (confirmed : ℕ) → IsSameGrant g (record g { call = call; confirmed = confirmed })
same_given g call confirmed = record { job = refl; modem = refl; first_page = refl; last_page = refl; is_open = refl }

-- what holds of the job with its lines and the grant holds of what the machine decides
pub reported_on : (P : Step → Type 0) (m : Queue) (reply_to : Queue → JobAndGrant → Reply) (lines : List Pair) (j : Job) (c : Change) (g h : Grant) (r whole : Result JobAndGrant Refusal)
    → h ≡ g → Ok (record { job = changed c j; grant = g }) ≡ r → both_lined lines r ≡ whole
    → P (reported m reply_to (lined lines j) (Ok (record { job = changed c (lined lines j); grant = h }))) → P (reported m reply_to (lined lines j) whole)
reported_on P m reply_to lines j c g h r whole same decided is holds =
    subst (λ (x : Result JobAndGrant Refusal). P (reported m reply_to (lined lines j) x))
    (ap (λ (x : Grant). Ok (record { job = changed c (lined lines j); grant = x })) same ∙ ap (both_lined lines) decided ∙ is) holds

-- a report is taken of an open grant alone
pub was_open : (g : Grant) (b : JobAndGrant) (rest : Result JobAndGrant Refusal) → Ok b ≡ (refuse_if not g.is_open because GrantClosed otherwise rest) → g.is_open ≡ true
was_open g b rest is = not-false g.is_open (not_refused (not g.is_open) GrantClosed rest b (sym is)).0

-- ---- closed grants

-- what is refused as closed has no detail
pub closed_page : (r : Result JobAndGrant Refusal) (e : Refusal) → Err e ≡ r → r ≡ Err GrantClosed → ¬ (e ≡ PageOrder)
closed_page r e is closed named = let both = is ∙ closed in cc

-- ---- a page that is refused

-- how many pages are sent doesn't depend on the extra lines
pub page_refused_is : (m : Queue) (t : ℕ) (lines : List Pair) (j : Job) (r : Result JobAndGrant Refusal) (e : Refusal) → Err e ≡ r
    → IsRefused (reported m (page_reply t) (lined lines j) r) (refused_response e (keys_of_job e j))
page_refused_is m t lines j r e is = refused_as (ap (reported m (page_reply t) (lined lines j)) (sym is)) (ap (refused_response e) (sym (keys_lined lines e j)))

-- how many pages are confirmed, by the record
pub order_keys : (f : JobFields) (e : Refusal) → e ≡ PageOrder → refused_response PageOrder (machine.Pages f.npages) ≡ refused_response e (keys_of_job e (job_of f))
order_keys f e named =
    subst (λ (x : Refusal). refused_response PageOrder (machine.Pages f.npages) ≡ refused_response x (keys_of_job x (job_of f))) (sym named)
    (ap (λ (n : ℕ). refused_response PageOrder (machine.Pages n)) (sym (ap (λ (x : JobFields). x.npages) (record_again f))))
