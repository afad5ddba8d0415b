-- A refused step has one of the numbers of its request, and what goes with it.
use Rattle.std.proofs.Common.{◌≡◌, ℕ, Bool, true, false, cond, not, ◌&&◌, ◌||◌, eqb, leb, List, [], ◌∷◌, refl, ap, subst}
use Rattle.std.specs.Prelude.{Option, Some, None, Result, Ok, Err, is_some, is_none, nat_lt}
use Rattle.fax_job.specs.declared.alter.Alter.{Alter}
use Rattle.fax_job.specs.declared.import.Import.{Import}
use Rattle.fax_job.specs.declared.job.Call.{Call}
use Rattle.fax_job.specs.declared.job.Phase.{Phase}
use Rattle.fax_job.specs.declared.job.Phase.TheVariants as phase
use Rattle.fax_job.specs.declared.job.Wish.{Wish}
use Rattle.fax_job.specs.declared.job.Wish.TheVariants as wish
use Rattle.fax_job.specs.declared.order.Order.{Order}
use Rattle.fax_job.specs.declared.refusal.Refusal.{Refusal}
use Rattle.fax_job.specs.declared.refusal.Refusal.TheVariants.{NoJob, NoModem, NoGrant, Rejected, TooManyPages, JobOver, JobActive, NotSuspended, LimitReached, ModemDown, ModemBusy, GrantClosed, CallKnown, NotConnected, PageOrder, CallMissing, PagesMismatch, PagesLeft, Full, PurgeHigh}
use Rattle.fax_job.specs.Refusal.{refusal_number}
use Rattle.fax_core.specs.declared.grants.Grant.{Grant}
use Rattle.fax_core.specs.Ageing.{aged}
use Rattle.fax_core.specs.declared.ask.Ask.{Ask}
use Rattle.fax_core.specs.declared.ask.Ask.TheVariants.{Submission, Bring, OnJob, Mark, Next, OnGrant, GiveUp, Purge}
use Rattle.fax_core.specs.declared.ask.JobAsk.{JobAsk}
use Rattle.fax_core.specs.declared.ask.JobAsk.TheVariants as ask
use Rattle.fax_core.specs.declared.report.Outcome.{Outcome}
use Rattle.fax_core.specs.declared.report.Report.{Report}
use Rattle.fax_core.specs.declared.report.Report.TheVariants as report
use Rattle.fax_core.specs.Best.{best}
use Rattle.fax_core.specs.Decisions.{JobAndGrant, is_over, new_job, submit, suspend_in, resume_in, kill_in, altered, alter_in, job_asked, granted, grant, after_call, call, is_connected, page_of, page, ended, is_done, is_empty, outcome, grant_reported}
use Rattle.fax_core.specs.Import.{old_job, is_ended, brought, bring}
use Rattle.fax_core.specs.Job.{Job}
use Rattle.fax_core.specs.Laws.{TellsHeld}
use Rattle.fax_core.specs.Machine.{with_mark, is_down, held_by, dial_of, handed, keys_of_rule, keys_of_job, submitted, brought_in, changed, on_job, reported, without_job, on_both, on_grant, given, given_best, given_free, given_to, report_reply, act, step}
use Rattle.fax_core.specs.Queue.{Queue, open_grants, job_numbered, grant_numbered}
use Rattle.fax_core.specs.Refusals.{may_meet, goes_with}
use Rattle.fax_core.specs.Reply.{Handed, Reply, Marked, Keys, NoKeys, HeldGrant, Step, Taken, Refused}
use Rattle.fax_core.specs.Settings.{Rule, Settings, has_modem}
use Rattle.fax_core.specs.Sound.{IsOpen, Sound}
use Rattle.fax_core.proofs.PlaceLemmas.{found, found_in, of_filter, in_found}
use Rattle.fax_core.proofs.StepLemmas.{aged_sound}
use Rattle.std.specs.Str.{bytes_eq}
use Rattle.std.specs.Cmp.Lexicographic.{bytes_decides}
use Rattle.fax_core.proofs.TimesLemmas.{stamped_refused}

-- the refusal is one of the request's, with its keys
pub record IsOf (ask : Ask) (e : Refusal) (k : Keys) : Type 0 where
  pub met : may_meet ask e ≡ true
  pub keys : goes_with k (refusal_number e) ≡ true

-- what may be met, and what goes with it, is the request's
is_of : {ask : Ask} {e : Refusal} {k : Keys} → may_meet ask e ≡ true → goes_with k (refusal_number e) ≡ true → IsOf ask e k
is_of met keys = record { met = met; keys = keys }

abbrev pub Decided : Type 0 → Type 0
Decided A = Result A Refusal

-- what holds of the refusal that is told holds of the one that is known
err_is : {A : Type 0} (P : Refusal → Type 0) (x e : Refusal) → Path (Decided A) (Err x) (Err e) → P x → P e
err_is P x e h p = let same : x ≡ e = cc in subst P same p

-- what holds of a test's refusal, and of those behind, holds of the one that is told
pub refused_or : {A : Type 0} (P : Refusal → Type 0) (b : Bool) (x e : Refusal) (r : Decided A) → cond b (Err x) r ≡ Err e → P x → (r ≡ Err e → P e) → P e
refused_or P true x e r h p f = err_is P x e h p
refused_or P false x e r h p f = f h

-- the same of a step's refusal and keys
refused_is : (P : Refusal → Keys → Type 0) (x e : Refusal) (l k : Keys) → Refused x l ≡ Refused e k → P x l → P e k
refused_is P x e l k h p =
    let a : x ≡ e = cc in
    let b : l ≡ k = cc in
    subst (P e) b (subst (λ (y : Refusal). P y l) a p)

-- the same of a step behind a test
step_or : (P : Refusal → Keys → Type 0) (b : Bool) (x e : Refusal) (l k : Keys) (r : Step) → cond b (Refused x l) r ≡ Refused e k → P x l → (r ≡ Refused e k → P e k) → P e k
step_or P true x e l k r h p f = refused_is P x e l k h p
step_or P false x e l k r h p f = f h

-- ---- the machine's ways

module _ (P : Refusal → Keys → Type 0) where
  -- a refused submission has its decision's refusal, with its rule's keys
  submitted_refused : (m : Queue) (rule : Rule) (d : Result Job Refusal) (e : Refusal) (k : Keys) → ((x : Refusal) → d ≡ Err x → P x (keys_of_rule x rule)) → submitted m rule d ≡ Refused e k → P e k
  submitted_refused m rule (Ok j) e k f h = cc
  submitted_refused m rule (Err x) e k f h = refused_is P x e (keys_of_rule x rule) k h (f x refl)

  -- so has a refused import
  import_refused : (s : Settings) (m : Queue) (t : ℕ) (rule : Rule) (d : Result Job Refusal) (e : Refusal) (k : Keys) → ((x : Refusal) → d ≡ Err x → P x (keys_of_rule x rule)) → brought_in s m t rule d ≡ Refused e k → P e k
  import_refused s m t rule (Ok j) e k f h = cc
  import_refused s m t rule (Err x) e k f h = refused_is P x e (keys_of_rule x rule) k h (f x refl)

  -- a refused change of a job has its decision's refusal, and no keys
  changed_refused : (s : Settings) (m : Queue) (t : ℕ) (d : Result Job Refusal) (e : Refusal) (k : Keys) → ((x : Refusal) → d ≡ Err x → P x NoKeys) → changed s m t d ≡ Refused e k → P e k
  changed_refused s m t (Ok j) e k f h = cc
  changed_refused s m t (Err x) e k f h = refused_is P x e NoKeys k h (f x refl)

  -- so has a refused request on a job, where the job is there
  on_job_refused : (s : Settings) (m : Queue) (t : ℕ) (a : JobAsk) (o : Option Job) (e : Refusal) (k : Keys)
      → P NoJob NoKeys → ((j : Job) (x : Refusal) → job_asked a t j ≡ Err x → P x NoKeys) → on_job s m t a o ≡ Refused e k → P e k
  on_job_refused s m t a None e k p f h = refused_is P NoJob e NoKeys k h p
  on_job_refused s m t a (Some j) e k p f h = changed_refused s m t (job_asked a t j) e k (f j) h

  -- a refused report has its decision's refusal, with the job's keys
  reported_refused : (m : Queue) (reply : Queue → JobAndGrant → Reply) (j : Job) (d : Result JobAndGrant Refusal) (e : Refusal) (k : Keys) → ((x : Refusal) → d ≡ Err x → P x (keys_of_job x j)) → reported m reply j d ≡ Refused e k → P e k
  reported_refused m reply j (Ok b) e k f h = cc
  reported_refused m reply j (Err x) e k f h = refused_is P x e (keys_of_job x j) k h (f x refl)

  -- in a sound queue an open grant has its job
  no_job : (m : Queue) (a : ℕ) (g : Grant) → Sound m → grant_numbered a m ≡ Some g → job_numbered g.job m ≡ None → P GrantClosed NoKeys → (b : Bool) → g.is_open ≡ b → P (without_job b) NoKeys
  no_job m a g h is none p true o = let old = h.held a g (is, o) in cc (none, old.1)
  no_job m a g h is none p false o = p

  -- a report on a grant whose job is there or not is refused by the decision, or as closed
  on_both_refused : (s : Settings) (m : Queue) (t a : ℕ) (r : Report) (g : Grant) (o : Option Job) (e : Refusal) (k : Keys)
      → Sound m → grant_numbered a m ≡ Some g → job_numbered g.job m ≡ o → P GrantClosed NoKeys
      → ((j : Job) (x : Refusal) → grant_reported r s.delay t j g ≡ Err x → P x (keys_of_job x j)) → on_both s m t r g o ≡ Refused e k → P e k
  on_both_refused s m t a r g None e k sound is none p f h = refused_is P (without_job g.is_open) e NoKeys k h (no_job m a g sound is none p g.is_open refl)
  on_both_refused s m t a r g (Some j) e k sound is there p f h = reported_refused m (report_reply s t r) j (grant_reported r s.delay t j g) e k (f j) h

  -- the same of a grant that is there or not
  on_grant_refused : (s : Settings) (m : Queue) (t a : ℕ) (r : Report) (o : Option Grant) (e : Refusal) (k : Keys) → Sound m → grant_numbered a m ≡ o → P NoGrant NoKeys → P GrantClosed NoKeys
      → ((j : Job) (g : Grant) (x : Refusal) → grant_reported r s.delay t j g ≡ Err x → P x (keys_of_job x j)) → on_grant s m t r o ≡ Refused e k → P e k
  on_grant_refused s m t a r None e k sound is p q f h = refused_is P NoGrant e NoKeys k h p
  on_grant_refused s m t a r (Some g) e k sound is p q f h = on_both_refused s m t a r g (job_numbered g.job m) e k sound is refl q (λ j x. f j g x) h

  -- a refused mark is of no modem
  mark_refused : (m : Queue) (modem : List ℕ) (down b : Bool) (e : Refusal) (k : Keys) → P NoModem NoKeys → cond b (Taken (with_mark modem down m) (Marked down)) (Refused NoModem NoKeys) ≡ Refused e k → P e k
  mark_refused m modem down true e k p h = cc
  mark_refused m modem down false e k p h = refused_is P NoModem e NoKeys k h p

-- ---- the decisions

module _ (P : Refusal → Type 0) where
  -- a suspension is refused of an active job or one that is over
  pub suspend_refused : P JobActive → P JobOver → (p : Phase) (w : Wish) (j : Job) (e : Refusal) → suspend_in p w j ≡ Err e → P e
  suspend_refused a o phase.Held w j e h = cc
  suspend_refused a o phase.Waiting w j e h = cc
  suspend_refused a o phase.Granted wish.Go j e h = cc
  suspend_refused a o phase.Granted wish.Hold j e h = cc
  suspend_refused a o phase.Granted wish.Kill j e h = err_is P JobActive e h a
  suspend_refused a o phase.Done w j e h = err_is P JobOver e h o
  suspend_refused a o phase.Failed w j e h = err_is P JobOver e h o

  -- a resumption also of one that isn't suspended
  pub resume_refused : P JobActive → P JobOver → P NotSuspended → (p : Phase) (w : Wish) (j : Job) (e : Refusal) → resume_in p w j ≡ Err e → P e
  resume_refused a o n phase.Held w j e h = cc
  resume_refused a o n phase.Waiting w j e h = err_is P NotSuspended e h n
  resume_refused a o n phase.Granted wish.Go j e h = err_is P JobActive e h a
  resume_refused a o n phase.Granted wish.Hold j e h = cc
  resume_refused a o n phase.Granted wish.Kill j e h = err_is P JobActive e h a
  resume_refused a o n phase.Done w j e h = err_is P JobOver e h o
  resume_refused a o n phase.Failed w j e h = err_is P JobOver e h o

  -- a kill is refused of one that is over
  pub kill_refused : P JobOver → (p : Phase) (j : Job) (e : Refusal) → kill_in p j ≡ Err e → P e
  kill_refused o phase.Held j e h = cc
  kill_refused o phase.Waiting j e h = cc
  kill_refused o phase.Granted j e h = cc
  kill_refused o phase.Done j e h = err_is P JobOver e h o
  kill_refused o phase.Failed j e h = err_is P JobOver e h o

  -- an alteration also where a limit is reached
  pub alter_refused : P JobActive → P JobOver → P NotSuspended → P LimitReached → (p : Phase) (c : Alter) (j : Job) (t : ℕ) (e : Refusal) → alter_in p c j t ≡ Err e → P e
  alter_refused a o n l phase.Held c j t e h = refused_or P (leb (altered c j t).maxdials j.totdials || leb (altered c j t).maxtries j.tottries) LimitReached e (Ok (altered c j t)) h l (λ x. cc x)
  alter_refused a o n l phase.Waiting c j t e h = err_is P NotSuspended e h n
  alter_refused a o n l phase.Granted c j t e h = err_is P JobActive e h a
  alter_refused a o n l phase.Done c j t e h = err_is P JobOver e h o
  alter_refused a o n l phase.Failed c j t e h = err_is P JobOver e h o

  -- a submission is refused by its rule, for too many pages, or for a full queue
  pub submit_refused : P Rejected → P TooManyPages → P Full → (o : Order) (rule : Rule) (n max t : ℕ) (e : Refusal) → submit o rule n max t ≡ Err e → P e
  submit_refused a b c o rule n max t e h =
      refused_or P (is_some rule.notice) Rejected e _ h a (λ h.
      refused_or P (is_over o.totpages rule.pages) TooManyPages e _ h b (λ h.
      refused_or P (nat_lt max n) Full e (Ok (new_job o n t)) h c (λ x. cc x)))

  -- so is an import
  pub bring_refused : P Rejected → P TooManyPages → P Full → (i : Import) (rule : Rule) (n max t : ℕ) (e : Refusal) → bring i rule n max t ≡ Err e → P e
  bring_refused a b c i rule n max t e h =
      refused_or P (not (is_ended i.state) && is_some rule.notice) Rejected e _ h a (λ h.
      refused_or P (not (is_ended i.state) && is_over i.order.totpages rule.pages) TooManyPages e _ h b (λ h.
      refused_or P (nat_lt max n) Full e (Ok (brought i.state (old_job i n t))) h c (λ x. cc x)))

  -- a call is refused of a closed grant, or where one is known
  pub call_refused : P GrantClosed → P CallKnown → (c : Call) (j : Job) (g : Grant) (e : Refusal) → call c j g ≡ Err e → P e
  call_refused a b c j g e h =
      refused_or P (not g.is_open) GrantClosed e _ h a (λ h.
      refused_or P (is_some g.call) CallKnown e (Ok (record { job = after_call c j; grant = record g { call = Some c } })) h b (λ x. cc x))

  -- a page is refused out of order
  page_of_refused : P PageOrder → (ps : List ℕ) (n : ℕ) (j : Job) (g : Grant) (e : Refusal) → page_of ps n j g ≡ Err e → P e
  page_of_refused a [] n j g e h = err_is P PageOrder e h a
  page_of_refused a (p ∷ rest) n j g e h = refused_or P (not (eqb p n)) PageOrder e _ h a (λ x. cc x)

  -- a page report also of a closed grant, or without a connection
  pub page_refused : P GrantClosed → P NotConnected → P PageOrder → (n : ℕ) (j : Job) (g : Grant) (e : Refusal) → page n j g ≡ Err e → P e
  page_refused a b c n j g e h =
      refused_or P (not g.is_open) GrantClosed e _ h a (λ h.
      refused_or P (not (is_connected g.call)) NotConnected e (page_of j.left n j g) h b (λ h.
      page_of_refused c j.left n j g e h))

  -- an outcome is refused of a closed grant, or where call or pages don't match
  pub outcome_refused : P GrantClosed → P CallKnown → P CallMissing → P PagesMismatch → P PagesLeft → (o : Outcome) (j : Job) (g : Grant) (delay t : ℕ) (e : Refusal) → outcome o j g delay t ≡ Err e → P e
  outcome_refused a b c d f o j g delay t e h =
      refused_or P (not g.is_open) GrantClosed e _ h a (λ h.
      refused_or P (not o.dialed && is_some g.call) CallKnown e _ h b (λ h.
      refused_or P (o.dialed && is_none g.call) CallMissing e _ h c (λ h.
      refused_or P (not (eqb o.pages g.confirmed)) PagesMismatch e _ h d (λ h.
      refused_or P (is_done o.ending && not (is_empty j.left)) PagesLeft e (Ok (record { job = ended j.left o j delay t; grant = record g { is_open = false } })) h f (λ x. cc x)))))

-- ---- a modem's request for a job

-- a refused grant is refused as a request for work may be
one_refused : (m : Queue) (modem : List ℕ) (d : Result JobAndGrant Refusal) (e : Refusal) (k : Keys) → ((x : Refusal) → d ≡ Err x → IsOf (Next modem) x NoKeys) → given m d ≡ Refused e k → IsOf (Next modem) e k
one_refused m modem (Ok b) e k f h = cc
one_refused m modem (Err x) e k f h = refused_is (IsOf (Next modem)) x e NoKeys k h (f x refl)

-- so is the best job's
best_refused : (s : Settings) (m : Queue) (modem : List ℕ) (o : Option Job) (e : Refusal) (k : Keys) → given_best s m modem o ≡ Refused e k → IsOf (Next modem) e k
best_refused s m modem None e k h = cc
best_refused s m modem (Some j) e k h = one_refused m modem (grant j modem m.next_grant s.max_grants) e k (λ x q. refused_or (λ y. IsOf (Next modem) y NoKeys) (nat_lt s.max_grants m.next_grant) Full x (Ok (granted j modem m.next_grant)) q (is_of refl refl) (λ z. cc z)) h

-- so is a modem that holds a grant or none
free_refused : (s : Settings) (m : Queue) (t : ℕ) (modem : List ℕ) (o : Option Grant) (e : Refusal) (k : Keys) → given_free s m t modem o ≡ Refused e k → IsOf (Next modem) e k
free_refused s m t modem (Some g) e k h = refused_is (IsOf (Next modem)) ModemBusy e _ k h (is_of refl refl)
free_refused s m t modem None e k h = best_refused s m modem (best s m t modem) e k h

-- so is each request for work
next_refused : (s : Settings) (m : Queue) (t : ℕ) (modem : List ℕ) (e : Refusal) (k : Keys) → given_to s m t modem ≡ Refused e k → IsOf (Next modem) e k
next_refused s m t modem e k h =
    step_or (IsOf (Next modem)) (not (has_modem s modem)) NoModem e NoKeys k _ h (is_of refl refl) (λ h.
    step_or (IsOf (Next modem)) (is_down modem m) ModemDown e NoKeys k (given_free s m t modem (held_by modem m)) h (is_of refl refl) (λ h.
    free_refused s m t modem (held_by modem m) e k h))

-- ---- each request

-- what a client asks of a job that is there has one of its refusals
ask_refused : (n t : ℕ) (a : JobAsk) (j : Job) (x : Refusal) → job_asked a t j ≡ Err x → IsOf (OnJob n a) x NoKeys
ask_refused n t ask.Suspend j = suspend_refused (λ y. IsOf (OnJob n ask.Suspend) y NoKeys) (is_of refl refl) (is_of refl refl) j.phase j.wish j
ask_refused n t ask.Resume j = resume_refused (λ y. IsOf (OnJob n ask.Resume) y NoKeys) (is_of refl refl) (is_of refl refl) (is_of refl refl) j.phase j.wish j
ask_refused n t ask.Kill j = kill_refused (λ y. IsOf (OnJob n ask.Kill) y NoKeys) (is_of refl refl) j.phase j
ask_refused n t (ask.Alter c) j = alter_refused (λ y. IsOf (OnJob n (ask.Alter c)) y NoKeys) (is_of refl refl) (is_of refl refl) (is_of refl refl) (is_of refl refl) j.phase c j t

-- so has what a worker reports on a grant that is there
report_refused : (n : ℕ) (s : Settings) (t : ℕ) (r : Report) (j : Job) (g : Grant) (x : Refusal) → grant_reported r s.delay t j g ≡ Err x → IsOf (OnGrant n r) x (keys_of_job x j)
report_refused n s t (report.Call c) j g = call_refused (λ y. IsOf (OnGrant n (report.Call c)) y (keys_of_job y j)) (is_of refl refl) (is_of refl refl) c j g
report_refused n s t (report.Page p) j g = page_refused (λ y. IsOf (OnGrant n (report.Page p)) y (keys_of_job y j)) (is_of refl refl) (is_of refl refl) (is_of refl refl) p j g
report_refused n s t (report.Outcome o) j g =
    outcome_refused (λ y. IsOf (OnGrant n (report.Outcome o)) y (keys_of_job y j)) (is_of refl refl) (is_of refl refl) (is_of refl refl) (is_of refl refl) (is_of refl refl) o j g (s.delay g.call) t

-- each refused request has one of its refusals, with its keys
act_refused : (s : Settings) (m : Queue) (t : ℕ) (ask : Ask) (e : Refusal) (k : Keys) → Sound m → act s m t ask ≡ Refused e k → IsOf ask e k
act_refused s m t (Submission o) e k h x =
    let P = λ (y : Refusal). IsOf (Submission o) y (keys_of_rule y (s.rule o.dial)) in
    submitted_refused (IsOf (Submission o)) m (s.rule o.dial) (submit o (s.rule o.dial) m.next_job s.max_jobs t) e k
    (submit_refused P (is_of refl refl) (is_of refl refl) (is_of refl refl) o (s.rule o.dial) m.next_job s.max_jobs t) x
act_refused s m t (Bring i) e k h x =
    let P = λ (y : Refusal). IsOf (Bring i) y (keys_of_rule y (s.rule i.order.dial)) in
    import_refused (IsOf (Bring i)) s m t (s.rule i.order.dial) (bring i (s.rule i.order.dial) m.next_job s.max_jobs t) e k
    (bring_refused P (is_of refl refl) (is_of refl refl) (is_of refl refl) i (s.rule i.order.dial) m.next_job s.max_jobs t) x
act_refused s m t (OnJob n a) e k h x = on_job_refused (IsOf (OnJob n a)) s m t a (job_numbered n m) e k (is_of refl refl) (λ j. ask_refused n t a j) x
act_refused s m t (Mark modem down) e k h x = mark_refused (IsOf (Mark modem down)) m modem down (has_modem s modem) e k (is_of refl refl) x
act_refused s m t (Next modem) e k h x = next_refused s m t modem e k x
act_refused s m t (OnGrant n r) e k h x = on_grant_refused (IsOf (OnGrant n r)) s m t n r (grant_numbered n m) e k h refl (is_of refl refl) (is_of refl refl) (λ j g. report_refused n s t r j g) x
act_refused s m t (GiveUp floor) e k h x = cc
act_refused s m t (Purge before) e k h x = step_or (IsOf (Purge before)) (nat_lt t before) PurgeHigh e NoKeys k _ x (is_of refl refl) (λ x. cc)

-- so has each refused step
pub step_refused : (s : Settings) (m : Queue) (t : ℕ) (ask : Ask) (e : Refusal) (k : Keys) → Sound m → step s m t ask ≡ Refused e k → IsOf ask e k
step_refused s m t ask e k h x = act_refused s (aged t m) t ask e k (aged_sound t m h) (stamped_refused t (aged t m) (act s (aged t m) t ask) e k x)

-- ---- what a busy modem is told

-- a modem is told of the grant that it holds
pub held_told : (m : Queue) (modem : List ℕ) (g : Grant) → Sound m → held_by modem m ≡ Some g → TellsHeld m modem (is_some g.call) (handed g m)
held_told m modem g h e =
    let f = of_filter (λ (x : Grant). x.is_open) m.grants g (found_in (λ (x : Grant). bytes_eq x.modem modem) (open_grants m) g e) in
    let is_open : IsOpen m g.number g = (in_found (λ (x : Grant). x.number) 0 m.next_grant m.grants g h.grants f.0, f.1) in
    let held = h.held g.number g is_open in
    record {
      grant = g;
      open_grant = is_open;
      of_modem = (bytes_decides g.modem modem).0 (found (λ (x : Grant). bytes_eq x.modem modem) (open_grants m) g e);
      of_job = refl;
      first_page = refl;
      last_page = refl;
      call = refl;
      job = held.0;
      there = held.1;
      dial = ap dial_of held.1;
    }

-- of no other refusal a grant is told
same_told : (m : Queue) (modem : List ℕ) (x e : Refusal) (c d : Bool) (g h : Handed) → TellsHeld m modem c g → Refused x (HeldGrant c g) ≡ Refused e (HeldGrant d h) → TellsHeld m modem d h
same_told m modem x e c d g h t r =
    let a : c ≡ d = cc in
    let b : g ≡ h = cc in
    subst (TellsHeld m modem d) b (subst (λ (y : Bool). TellsHeld m modem y g) a t)

-- a refused grant tells of none
one_held : (m : Queue) (r : Result JobAndGrant Refusal) (e : Refusal) (c : Bool) (h : Handed) → given m r ≡ Refused e (HeldGrant c h) → ⊥
one_held m (Ok b) e c h x = cc
one_held m (Err y) e c h x = cc

-- nor does the best job's
best_held : (s : Settings) (m : Queue) (modem : List ℕ) (o : Option Job) (e : Refusal) (c : Bool) (h : Handed) → given_best s m modem o ≡ Refused e (HeldGrant c h) → ⊥
best_held s m modem None e c h x = cc
best_held s m modem (Some j) e c h x = one_held m (grant j modem m.next_grant s.max_grants) e c h x

-- a modem that is told of a grant holds it
free_held : (s : Settings) (m : Queue) (t : ℕ) (modem : List ℕ) (o : Option Grant) (e : Refusal) (c : Bool) (h : Handed) → Sound m → held_by modem m ≡ o → given_free s m t modem o ≡ Refused e (HeldGrant c h) → TellsHeld m modem c h
free_held s m t modem (Some g) e c h sound is x = same_told m modem ModemBusy e (is_some g.call) c (handed g m) h (held_told m modem g sound is) x
free_held s m t modem None e c h sound is x = absurd (best_held s m modem (best s m t modem) e c h x)

-- whether it is in the setup or down, or not
next_held : (s : Settings) (m : Queue) (t : ℕ) (modem : List ℕ) (e : Refusal) (c : Bool) (h : Handed) → Sound m → (a b : Bool) → cond a (Refused NoModem NoKeys) (cond b (Refused ModemDown NoKeys) (given_free s m t modem (held_by modem m))) ≡ Refused e (HeldGrant c h) → TellsHeld m modem c h
next_held s m t modem e c h sound true b x = cc
next_held s m t modem e c h sound false true x = cc
next_held s m t modem e c h sound false false x = free_held s m t modem (held_by modem m) e c h sound refl x

-- the same of a step, which ages the jobs first
pub step_held : (s : Settings) (m : Queue) (t : ℕ) (modem : List ℕ) (e : Refusal) (c : Bool) (h : Handed) → Sound m → step s m t (Next modem) ≡ Refused e (HeldGrant c h) → TellsHeld (aged t m) modem c h
step_held s m t modem e c h sound x =
    next_held s (aged t m) t modem e c h (aged_sound t m sound) (not (has_modem s modem)) (is_down modem (aged t m)) (stamped_refused t (aged t m) (given_to s (aged t m) t modem) e (HeldGrant c h) x)
