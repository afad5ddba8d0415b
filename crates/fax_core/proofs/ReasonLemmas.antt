-- A refusal is met only for its reason.
use Rattle.std.proofs.Common.{◌≡◌, ◌≢◌, ◌⊎◌, inl, inr, ℕ, ◌<◌, Bool, true, false, cond, not, ◌&&◌, ◌||◌, eqb, leb, List, [], ◌∷◌, refl, ap, subst}
use Rattle.std.proofs.lemmas.Bool.{and_parts, eq-eqb, leb-true, ltb-true}
use Rattle.std.specs.Prelude.{Option, Some, None, Result, Ok, Err, is_some, is_none, nat_lt}
use Rattle.fax_job.specs.declared.alter.Alter.{Alter}
use Rattle.fax_job.specs.declared.import.Import.{Import}
use Rattle.fax_job.specs.declared.job.Call.{Call}
use Rattle.fax_job.specs.declared.job.Call.TheVariants.{Connected}
use Rattle.fax_job.specs.declared.job.Phase.{Phase}
use Rattle.fax_job.specs.declared.job.Phase.TheVariants as phase
use Rattle.fax_job.specs.declared.job.Wish.{Wish}
use Rattle.fax_job.specs.declared.job.Wish.TheVariants as wish
use Rattle.fax_job.specs.declared.order.Order.{Order}
use Rattle.fax_job.specs.declared.refusal.Refusal.{Refusal}
use Rattle.fax_job.specs.declared.refusal.Refusal.TheVariants.{NoJob, NoModem, NoGrant, Rejected, TooManyPages, JobOver, JobActive, NotSuspended, LimitReached, ModemDown, ModemBusy, GrantClosed, CallKnown, NotConnected, PageOrder, CallMissing, PagesMismatch, PagesLeft, Full, PurgeHigh}
use Rattle.fax_core.specs.Ageing.{aged}
use Rattle.fax_core.specs.Best.{best}
use Rattle.fax_core.specs.Decisions.{JobAndGrant, after_call, alter_in, altered, call, ended, grant, grant_reported, granted, is_connected, is_done, is_empty, is_over, job_asked, kill_in, new_job, outcome, page, page_of, resume_in, submit, suspend_in}
use Rattle.fax_core.specs.Import.{bring, brought, is_ended, old_job}
use Rattle.fax_core.specs.Job.{Job}
use Rattle.fax_core.specs.Machine.{act, brought_in, changed, given, given_best, given_free, given_to, handed, held_by, is_down, marked, on_both, on_grant, on_job, report_reply, reported, submitted, with_mark, without_job}
use Rattle.fax_core.specs.Queue.{Queue, grant_numbered, job_numbered}
use Rattle.fax_core.specs.Reasons.{IsAtLimit, IsNotNext, RefusalsHaveReasons, When, WhenAsked, WhenNew, WhenNext, WhenPurged, WhenReported}
use Rattle.fax_core.specs.Reply.{Keys, Marked, NoKeys, Reply, Step, Taken, Refused}
use Rattle.fax_core.specs.Settings.{Rule, Settings, has_modem}
use Rattle.fax_core.specs.Sound.{Sound}
use Rattle.fax_core.specs.declared.ask.Ask.{Ask}
use Rattle.fax_core.specs.declared.ask.Ask.TheVariants.{Submission, Bring, OnJob, Mark, Next, OnGrant, GiveUp, Purge}
use Rattle.fax_core.specs.declared.ask.JobAsk.{JobAsk}
use Rattle.fax_core.specs.declared.ask.JobAsk.TheVariants as ask
use Rattle.fax_core.specs.declared.grants.Grant.{Grant}
use Rattle.fax_core.specs.declared.report.Ending.{Ending}
use Rattle.fax_core.specs.declared.report.Ending.TheVariants as ending
use Rattle.fax_core.specs.declared.report.Outcome.{Outcome}
use Rattle.fax_core.specs.declared.report.Report.{Report}
use Rattle.fax_core.specs.declared.report.Report.TheVariants as report
use Rattle.fax_core.proofs.RefusalLemmas.{Decided, held_told}
use Rattle.fax_core.proofs.StepLemmas.{aged_sound}
use Rattle.fax_core.proofs.TimesLemmas.{stamped_refused}

-- ---- tests

-- what holds of the refusal that is known holds of the one that is told
told : {A : Type 0} (P : Refusal → Type 0) (x e : Refusal) → Path (Decided A) (Err x) (Err e) → P x → P e
told P x e h p = let same : x ≡ e = cc in subst P same p

-- a test is refused since it failed, or by what is behind it
by_test : {A : Type 0} (P : Refusal → Type 0) (b : Bool) (x e : Refusal) (r : Decided A) → cond b (Err x) r ≡ Err e → (b ≡ true → P x) → (r ≡ Err e → P e) → P e
by_test P true x e r h p f = told P x e h (p refl)
by_test P false x e r h p f = f h

-- the same of a step
step_told : (P : Refusal → Type 0) (x e : Refusal) (l k : Keys) → Refused x l ≡ Refused e k → P x → P e
step_told P x e l k h p = let same : x ≡ e = cc in subst P same p

step_by_test : (P : Refusal → Type 0) (b : Bool) (x e : Refusal) (l k : Keys) (r : Step) → cond b (Refused x l) r ≡ Refused e k → (b ≡ true → P x) → (r ≡ Refused e k → P e) → P e
step_by_test P true x e l k r h p f = step_told P x e l k h (p refl)
step_by_test P false x e l k r h p f = f h

-- ---- what a test says

not_is : (b : Bool) → not b ≡ true → b ≡ false
not_is true h = cc
not_is false h = refl

some_is : {A : Type 0} (o : Option A) → is_some o ≡ true → (a : A) × (o ≡ Some a)
some_is (Some a) h = (a, refl)
some_is None h = cc

is_not_none : {A : Type 0} (o : Option A) → is_some o ≡ true → o ≢ None
is_not_none (Some a) h e = cc
is_not_none None h e = cc

none_is : {A : Type 0} (o : Option A) → is_none o ≡ true → o ≡ None
none_is (Some a) h = cc
none_is None h = refl

not_connected : (o : Option Call) → not (is_connected o) ≡ true → o ≢ Some Connected
not_connected o h e = let yes : is_connected o ≡ true = ap is_connected e in cc

is_over_by : (pages : ℕ) (limit : Option ℕ) → is_over pages limit ≡ true → (n : ℕ) × (limit ≡ Some n) × (n < pages)
is_over_by pages None h = cc
is_over_by pages (Some n) h = (n, refl, ltb-true n pages h)

at_limit : (j : Job) (a b : Bool) → leb j.maxdials j.totdials ≡ a → leb j.maxtries j.tottries ≡ b → a || b ≡ true → IsAtLimit j
at_limit j true b dials tries h = inl (leb-true j.maxdials j.totdials dials)
at_limit j false true dials tries h = inr (leb-true j.maxtries j.tottries tries)
at_limit j false false dials tries h = cc

not_equal : (a b : ℕ) → not (eqb a b) ≡ true → a ≢ b
not_equal a b h e = let yes : eqb a b ≡ true = eq-eqb a b e in cc

done_is : (e : Ending) → is_done e ≡ true → e ≡ ending.Done
done_is ending.Done h = refl
done_is ending.Fail h = cc
done_is ending.Retry h = cc

not_empty : (ps : List ℕ) → not (is_empty ps) ≡ true → ps ≢ []
not_empty [] h e = cc
not_empty (p ∷ rest) h e = cc

-- ---- decisions

module _ (P : Refusal → Type 0) where
  -- an order
  order_by : (s : Settings) (m : Queue) (t : ℕ) (o : Order) (e : Refusal) → submit o (s.rule o.dial) m.next_job s.max_jobs t ≡ Err e → ((x : Refusal) → WhenNew s m o false x → P x) → P e
  order_by s m t o e h p =
      let rule = s.rule o.dial in
      by_test P (is_some rule.notice) Rejected e _ h (λ b. p Rejected (refl, some_is rule.notice b)) (λ h.
      by_test P (is_over o.totpages rule.pages) TooManyPages e _ h (λ b. p TooManyPages (refl, is_over_by o.totpages rule.pages b)) (λ h.
      by_test P (nat_lt s.max_jobs m.next_job) Full e (Ok (new_job o m.next_job t)) h (λ b. p Full (ltb-true s.max_jobs m.next_job b)) (λ x. cc x)))

  -- an import
  import_by : (s : Settings) (m : Queue) (t : ℕ) (i : Import) (e : Refusal) → bring i (s.rule i.order.dial) m.next_job s.max_jobs t ≡ Err e
      → ((x : Refusal) → WhenNew s m i.order (is_ended i.state) x → P x) → P e
  import_by s m t i e h p =
      let rule = s.rule i.order.dial in
      by_test P (not (is_ended i.state) && is_some rule.notice) Rejected e _ h
      (λ b. let both = and_parts (not (is_ended i.state)) (is_some rule.notice) b in p Rejected (not_is (is_ended i.state) both.0, some_is rule.notice both.1)) (λ h.
      by_test P (not (is_ended i.state) && is_over i.order.totpages rule.pages) TooManyPages e _ h
      (λ b. let both = and_parts (not (is_ended i.state)) (is_over i.order.totpages rule.pages) b in
      p TooManyPages (not_is (is_ended i.state) both.0, is_over_by i.order.totpages rule.pages both.1)) (λ h.
      by_test P (nat_lt s.max_jobs m.next_job) Full e (Ok (brought i.state (old_job i m.next_job t))) h (λ b. p Full (ltb-true s.max_jobs m.next_job b)) (λ x. cc x)))

  -- a suspension
  suspend_by : (p : Phase) (w : Wish) (j : Job) (e : Refusal) → suspend_in p w j ≡ Err e → (p ≡ phase.Granted → w ≡ wish.Kill → P JobActive) → ((p ≡ phase.Done) ⊎ (p ≡ phase.Failed) → P JobOver) → P e
  suspend_by phase.Held w j e h a o = cc
  suspend_by phase.Waiting w j e h a o = cc
  suspend_by phase.Granted wish.Go j e h a o = cc
  suspend_by phase.Granted wish.Hold j e h a o = cc
  suspend_by phase.Granted wish.Kill j e h a o = told P JobActive e h (a refl refl)
  suspend_by phase.Done w j e h a o = told P JobOver e h (o (inl refl))
  suspend_by phase.Failed w j e h a o = told P JobOver e h (o (inr refl))

  -- a resumption
  resume_by : (p : Phase) (w : Wish) (j : Job) (e : Refusal) → resume_in p w j ≡ Err e → (p ≡ phase.Granted → (w ≡ wish.Go) ⊎ (w ≡ wish.Kill) → P JobActive) → ((p ≡ phase.Done) ⊎ (p ≡ phase.Failed) → P JobOver)
      → (p ≡ phase.Waiting → P NotSuspended) → P e
  resume_by phase.Held w j e h a o n = cc
  resume_by phase.Waiting w j e h a o n = told P NotSuspended e h (n refl)
  resume_by phase.Granted wish.Go j e h a o n = told P JobActive e h (a refl (inl refl))
  resume_by phase.Granted wish.Hold j e h a o n = cc
  resume_by phase.Granted wish.Kill j e h a o n = told P JobActive e h (a refl (inr refl))
  resume_by phase.Done w j e h a o n = told P JobOver e h (o (inl refl))
  resume_by phase.Failed w j e h a o n = told P JobOver e h (o (inr refl))

  -- a kill
  kill_by : (p : Phase) (j : Job) (e : Refusal) → kill_in p j ≡ Err e → ((p ≡ phase.Done) ⊎ (p ≡ phase.Failed) → P JobOver) → P e
  kill_by phase.Held j e h o = cc
  kill_by phase.Waiting j e h o = cc
  kill_by phase.Granted j e h o = cc
  kill_by phase.Done j e h o = told P JobOver e h (o (inl refl))
  kill_by phase.Failed j e h o = told P JobOver e h (o (inr refl))

  -- an alteration
  alter_by : (p : Phase) (c : Alter) (j : Job) (t : ℕ) (e : Refusal) → alter_in p c j t ≡ Err e → (p ≡ phase.Granted → P JobActive) → ((p ≡ phase.Done) ⊎ (p ≡ phase.Failed) → P JobOver)
      → (p ≡ phase.Waiting → P NotSuspended) → (p ≡ phase.Held → IsAtLimit (altered c j t) → P LimitReached) → P e
  alter_by phase.Held c j t e h a o n l =
      let k = altered c j t in
      by_test P (leb k.maxdials k.totdials || leb k.maxtries k.tottries) LimitReached e (Ok k) h (λ b. l refl (at_limit k (leb k.maxdials k.totdials) (leb k.maxtries k.tottries) refl refl b)) (λ x. cc x)
  alter_by phase.Waiting c j t e h a o n l = told P NotSuspended e h (n refl)
  alter_by phase.Granted c j t e h a o n l = told P JobActive e h (a refl)
  alter_by phase.Done c j t e h a o n l = told P JobOver e h (o (inl refl))
  alter_by phase.Failed c j t e h a o n l = told P JobOver e h (o (inr refl))

  -- a call report
  call_by : (c : Call) (j : Job) (g : Grant) (e : Refusal) → call c j g ≡ Err e → (g.is_open ≡ false → P GrantClosed) → (g.call ≢ None → P CallKnown) → P e
  call_by c j g e h p q =
      by_test P (not g.is_open) GrantClosed e _ h (λ b. p (not_is g.is_open b)) (λ h.
      by_test P (is_some g.call) CallKnown e (Ok (record { job = after_call c j; grant = record g { call = Some c } })) h (λ b. q (is_not_none g.call b)) (λ x. cc x))

  -- a page that is out of order
  order_of_page : (left : List ℕ) (n : ℕ) (j : Job) (g : Grant) (e : Refusal) → page_of left n j g ≡ Err e → (((rest : List ℕ) → left ≢ n ∷ rest) → P PageOrder) → P e
  order_of_page [] n j g e h p = told P PageOrder e h (p (λ rest same. cc))
  order_of_page (first ∷ left) n j g e h p =
      by_test P (not (eqb first n)) PageOrder e _ h (λ b. p (λ rest same. let it : first ≡ n = cc in not_equal first n b it)) (λ x. cc x)

  -- a page report
  page_by : (n : ℕ) (j : Job) (g : Grant) (e : Refusal) → page n j g ≡ Err e → (g.is_open ≡ false → P GrantClosed) → (g.call ≢ Some Connected → P NotConnected) → (IsNotNext n j → P PageOrder) → P e
  page_by n j g e h p q r =
      by_test P (not g.is_open) GrantClosed e _ h (λ b. p (not_is g.is_open b)) (λ h.
      by_test P (not (is_connected g.call)) NotConnected e (page_of j.left n j g) h (λ b. q (not_connected g.call b)) (λ h.
      order_of_page j.left n j g e h r))

  -- an outcome
  outcome_by : (m : Queue) (n : ℕ) (o : Outcome) (j : Job) (g : Grant) (delay t : ℕ) (e : Refusal) → outcome o j g delay t ≡ Err e → grant_numbered n m ≡ Some g → job_numbered g.job m ≡ Some j
      → ((x : Refusal) → WhenReported m n (report.Outcome o) x → P x) → P e
  outcome_by m n o j g delay t e h there its p =
      by_test P (not g.is_open) GrantClosed e _ h (λ b. p GrantClosed (g, there, not_is g.is_open b)) (λ h.
      by_test P (not o.dialed && is_some g.call) CallKnown e _ h
      (λ b. let both = and_parts (not o.dialed) (is_some g.call) b in p CallKnown (g, there, (j, its, (not_is o.dialed both.0, is_not_none g.call both.1)))) (λ h.
      by_test P (o.dialed && is_none g.call) CallMissing e _ h
      (λ b. let both = and_parts o.dialed (is_none g.call) b in p CallMissing (g, there, (j, its, (both.0, none_is g.call both.1)))) (λ h.
      by_test P (not (eqb o.pages g.confirmed)) PagesMismatch e _ h (λ b. p PagesMismatch (g, there, (j, its, not_equal o.pages g.confirmed b))) (λ h.
      by_test P (is_done o.ending && not (is_empty j.left)) PagesLeft e (Ok (record { job = ended j.left o j delay t; grant = record g { is_open = false } })) h
      (λ b. let both = and_parts (is_done o.ending) (not (is_empty j.left)) b in p PagesLeft (g, there, (j, its, (done_is o.ending both.0, not_empty j.left both.1)))) (λ x. cc x)))))

-- ---- the machine's ways

module _ (P : Refusal → Type 0) where
  -- a new job
  new_by : (m : Queue) (rule : Rule) (d : Result Job Refusal) (e : Refusal) (k : Keys) → submitted m rule d ≡ Refused e k → ((x : Refusal) → d ≡ Err x → P x) → P e
  new_by m rule (Ok j) e k h f = cc
  new_by m rule (Err x) e k h f = step_told P x e _ k h (f x refl)

  -- a job that is brought in
  brought_by : (s : Settings) (m : Queue) (t : ℕ) (rule : Rule) (d : Result Job Refusal) (e : Refusal) (k : Keys) → brought_in s m t rule d ≡ Refused e k → ((x : Refusal) → d ≡ Err x → P x) → P e
  brought_by s m t rule (Ok j) e k h f = cc
  brought_by s m t rule (Err x) e k h f = step_told P x e _ k h (f x refl)

  changed_by : (s : Settings) (m : Queue) (t : ℕ) (d : Result Job Refusal) (e : Refusal) (k : Keys) → changed s m t d ≡ Refused e k → ((x : Refusal) → d ≡ Err x → P x) → P e
  changed_by s m t (Ok j) e k h f = cc
  changed_by s m t (Err x) e k h f = step_told P x e NoKeys k h (f x refl)

  -- a request on a job
  on_job_by : (s : Settings) (m : Queue) (t : ℕ) (a : JobAsk) (o : Option Job) (e : Refusal) (k : Keys) → on_job s m t a o ≡ Refused e k
      → (o ≡ None → P NoJob) → ((j : Job) (x : Refusal) → o ≡ Some j → job_asked a t j ≡ Err x → P x) → P e
  on_job_by s m t a None e k h p f = step_told P NoJob e NoKeys k h (p refl)
  on_job_by s m t a (Some j) e k h p f = changed_by s m t (job_asked a t j) e k h (λ x d. f j x refl d)

  reported_by : (m : Queue) (reply : Queue → JobAndGrant → Reply) (j : Job) (d : Result JobAndGrant Refusal) (e : Refusal) (k : Keys) → reported m reply j d ≡ Refused e k
      → ((x : Refusal) → d ≡ Err x → P x) → P e
  reported_by m reply j (Ok b) e k h f = cc
  reported_by m reply j (Err x) e k h f = step_told P x e _ k h (f x refl)

  -- a report on a grant, with its job: in a sound queue an open grant has it
  on_both_by : (s : Settings) (m : Queue) (t n : ℕ) (r : Report) (g : Grant) (o : Option Job) (b : Bool) (e : Refusal) (k : Keys)
      → on_both s m t r g o ≡ Refused e k → Sound m → grant_numbered n m ≡ Some g → job_numbered g.job m ≡ o → g.is_open ≡ b
      → (g.is_open ≡ false → P GrantClosed) → ((j : Job) (x : Refusal) → job_numbered g.job m ≡ Some j → grant_reported r s.delay t j g ≡ Err x → P x) → P e
  on_both_by s m t n r g None true e k h sound is none was p f = let held = sound.held n g (is, was) in cc (none, held.1)
  on_both_by s m t n r g None false e k h sound is none shut p f =
      step_told P GrantClosed e NoKeys k (subst (λ (b : Bool). Refused (without_job b) NoKeys ≡ Refused e k) shut h) (p shut)
  on_both_by s m t n r g (Some j) b e k h sound is there was p f = reported_by m (report_reply s t r) j (grant_reported r s.delay t j g) e k h (λ x d. f j x there d)

  -- a report on a grant
  on_grant_by : (s : Settings) (m : Queue) (t n : ℕ) (r : Report) (o : Option Grant) (e : Refusal) (k : Keys)
      → on_grant s m t r o ≡ Refused e k → Sound m → grant_numbered n m ≡ o → (o ≡ None → P NoGrant) → ((g : Grant) → o ≡ Some g → g.is_open ≡ false → P GrantClosed)
      → ((j : Job) (g : Grant) (x : Refusal) → o ≡ Some g → job_numbered g.job m ≡ Some j → grant_reported r s.delay t j g ≡ Err x → P x) → P e
  on_grant_by s m t n r None e k h sound is p q f = step_told P NoGrant e NoKeys k h (p refl)
  on_grant_by s m t n r (Some g) e k h sound is p q f =
      on_both_by s m t n r g (job_numbered g.job m) g.is_open e k h sound is refl refl (q g refl) (λ j x there d. f j g x refl there d)

  -- a mark of a modem
  mark_by : (s : Settings) (m : Queue) (modem : List ℕ) (down b : Bool) (e : Refusal) (k : Keys) → has_modem s modem ≡ b → marked s m modem down ≡ Refused e k → (has_modem s modem ≡ false → P NoModem) → P e
  mark_by s m modem down true e k is h p =
      let taken : Taken (with_mark modem down m) (Marked down) ≡ Refused e k = subst (λ (b : Bool). cond b (Taken (with_mark modem down m) (Marked down)) (Refused NoModem NoKeys) ≡ Refused e k) is h in cc
  mark_by s m modem down false e k is h p = step_told P NoModem e NoKeys k
      (subst (λ (b : Bool). cond b (Taken (with_mark modem down m) (Marked down)) (Refused NoModem NoKeys) ≡ Refused e k) is h) (p is)

-- ---- a modem's request for a job

-- the grant of a job that goes
given_by : (s : Settings) (m : Queue) (modem : List ℕ) (d : Result JobAndGrant Refusal) (e : Refusal) (k : Keys) → given m d ≡ Refused e k → ((x : Refusal) → d ≡ Err x → WhenNext s m modem x) → WhenNext s m modem e
given_by s m modem (Ok b) e k h f = cc
given_by s m modem (Err x) e k h f = step_told (WhenNext s m modem) x e NoKeys k h (f x refl)

best_by : (s : Settings) (m : Queue) (modem : List ℕ) (o : Option Job) (e : Refusal) (k : Keys) → given_best s m modem o ≡ Refused e k → WhenNext s m modem e
best_by s m modem None e k h = cc
best_by s m modem (Some j) e k h =
    given_by s m modem (grant j modem m.next_grant s.max_grants) e k h
    (λ x d. by_test (WhenNext s m modem) (nat_lt s.max_grants m.next_grant) Full x (Ok (granted j modem m.next_grant)) d (λ b. ltb-true s.max_grants m.next_grant b) (λ z. cc z))

-- a modem that holds a grant, or none
free_by : (s : Settings) (m : Queue) (t : ℕ) (modem : List ℕ) (o : Option Grant) (e : Refusal) (k : Keys) → Sound m → held_by modem m ≡ o → given_free s m t modem o ≡ Refused e k → WhenNext s m modem e
free_by s m t modem (Some g) e k sound is h =
    let it = held_told m modem g sound is in
    step_told (WhenNext s m modem) ModemBusy e _ k h ((handed g m).grant, it.grant, it.open_grant, it.of_modem)
free_by s m t modem None e k sound is h = best_by s m modem (best s m t modem) e k h

next_by : (s : Settings) (m : Queue) (t : ℕ) (modem : List ℕ) (e : Refusal) (k : Keys) → Sound m → given_to s m t modem ≡ Refused e k → WhenNext s m modem e
next_by s m t modem e k sound h =
    step_by_test (WhenNext s m modem) (not (has_modem s modem)) NoModem e NoKeys k _ h (not_is (has_modem s modem)) (λ h.
    step_by_test (WhenNext s m modem) (is_down modem m) ModemDown e NoKeys k (given_free s m t modem (held_by modem m)) h (λ b. b) (λ h.
    free_by s m t modem (held_by modem m) e k sound refl h))

-- ---- each request

-- what a client asks of a job that is there
ask_by : (m : Queue) (t n : ℕ) (a : JobAsk) (j : Job) (x : Refusal) → job_numbered n m ≡ Some j → job_asked a t j ≡ Err x → WhenAsked m t n a x
ask_by m t n ask.Suspend j x there d = suspend_by (WhenAsked m t n ask.Suspend) j.phase j.wish j x d (λ is w. (j, there, (is, w))) (λ over. (j, there, over))
ask_by m t n ask.Resume j x there d = resume_by (WhenAsked m t n ask.Resume) j.phase j.wish j x d (λ is w. (j, there, (is, w))) (λ over. (j, there, over)) (λ is. (j, there, is))
ask_by m t n ask.Kill j x there d = kill_by (WhenAsked m t n ask.Kill) j.phase j x d (λ over. (j, there, over))
ask_by m t n (ask.Alter c) j x there d =
    alter_by (WhenAsked m t n (ask.Alter c)) j.phase c j t x d (λ is. (j, there, is)) (λ over. (j, there, over)) (λ is. (j, there, is)) (λ is limit. (j, there, (is, limit)))

-- what a worker reports on a grant that is there
report_by : (s : Settings) (m : Queue) (t n : ℕ) (r : Report) (j : Job) (g : Grant) (x : Refusal)
    → grant_numbered n m ≡ Some g → job_numbered g.job m ≡ Some j → grant_reported r s.delay t j g ≡ Err x → WhenReported m n r x
report_by s m t n (report.Call c) j g x there its d = call_by (WhenReported m n (report.Call c)) c j g x d (λ shut. (g, there, shut)) (λ known. (g, there, (j, its, known)))
report_by s m t n (report.Page p) j g x there its d =
    page_by (WhenReported m n (report.Page p)) p j g x d (λ shut. (g, there, shut)) (λ other. (g, there, (j, its, other))) (λ order. (g, there, (j, its, order)))
report_by s m t n (report.Outcome o) j g x there its d = outcome_by (WhenReported m n (report.Outcome o)) m n o j g (s.delay g.call) t x d there its (λ y w. w)

reason : (s : Settings) (m : Queue) (t : ℕ) (ask : Ask) (e : Refusal) (k : Keys) → Sound m → act s m t ask ≡ Refused e k → When s m t ask e
reason s m t (Submission o) e k sound h =
    let P = When s m t (Submission o) in
    new_by P m (s.rule o.dial) (submit o (s.rule o.dial) m.next_job s.max_jobs t) e k h (λ x d. order_by P s m t o x d (λ y w. w))
reason s m t (Bring i) e k sound h =
    let P = When s m t (Bring i) in
    brought_by P s m t (s.rule i.order.dial) (bring i (s.rule i.order.dial) m.next_job s.max_jobs t) e k h (λ x d. import_by P s m t i x d (λ y w. w))
reason s m t (OnJob n a) e k sound h = on_job_by (WhenAsked m t n a) s m t a (job_numbered n m) e k h (λ none. none) (λ j x there d. ask_by m t n a j x there d)
reason s m t (Mark modem down) e k sound h = mark_by (When s m t (Mark modem down)) s m modem down (has_modem s modem) e k refl h (λ none. none)
reason s m t (Next modem) e k sound h = next_by s m t modem e k sound h
reason s m t (OnGrant n r) e k sound h =
    on_grant_by (WhenReported m n r) s m t n r (grant_numbered n m) e k h sound refl (λ none. none) (λ g there shut. (g, there, shut)) (λ j g x there its d. report_by s m t n r j g x there its d)
reason s m t (GiveUp floor) e k sound h = cc
reason s m t (Purge before) e k sound h = step_by_test (WhenPurged t before) (nat_lt t before) PurgeHigh e NoKeys k _ h (ltb-true t before) (λ h. cc)

-- so has each step, in the queue as it is at its moment
pub refusals_have_reasons : RefusalsHaveReasons
refusals_have_reasons s m t ask e k sound h = reason s (aged t m) t ask e k (aged_sound t m sound) (stamped_refused t (aged t m) (act s (aged t m) t ask) e k h)
