-- What a step makes of the counters of the jobs, and which grants it leaves.
use Rattle.std.proofs.Common.{◌≡◌, ◌≢◌, ◌⊎◌, inl, inr, ℕ, ◌<◌, ◌≤◌, eqb, Bool, true, false, cond, ◌&&◌, ◌||◌, List, [], ◌∷◌, ◌++◌, length, Option, Some, None, Ok, Err, refl, sym, ap, subst, ◌∙◌, arith}
use Rattle.std.specs.Prelude.{Result, find, nat_lt}
use Rattle.std.specs.Option.{option_map, option_or}
use Rattle.std.proofs.lemmas.Bool.{and_parts, cases_Bool, eqb-true, eq-eqb, ltb-false, ltb-true}
use Rattle.std.proofs.lemmas.List.Folds.{find-append}
use Rattle.fax_job.specs.declared.import.Import.{Import}
use Rattle.fax_job.specs.declared.order.Order.{Order}
use Rattle.fax_job.specs.declared.refusal.Refusal.{Refusal}
use Rattle.fax_job.specs.declared.refusal.Refusal.TheVariants as refusal
use Rattle.fax_core.specs.declared.grants.Grant.{Grant}
use Rattle.fax_core.specs.declared.report.Report.{Report}
use Rattle.fax_core.specs.declared.report.Report.TheVariants as report
use Rattle.fax_core.specs.Ageing.{aged, aged_job}
use Rattle.fax_core.specs.declared.ask.Ask.{Ask}
use Rattle.fax_core.specs.declared.ask.Ask.TheVariants.{Submission, Bring, OnJob, Mark, Next, OnGrant, GiveUp, Purge}
use Rattle.fax_core.specs.declared.ask.JobAsk.{JobAsk}
use Rattle.fax_core.specs.Decisions.{JobAndGrant, grant_reported, granted, job_asked, submit}
use Rattle.fax_core.specs.Import.{bring}
use Rattle.fax_core.specs.Job.{Job}
use Rattle.fax_core.specs.Machine as machine
use Rattle.fax_core.specs.Machine.{act, brought_in, changed, handed, on_job, report_reply, step, submitted, with_both, with_job, with_mark, with_new_grant, with_new_job}
use Rattle.fax_core.specs.Laws.{IsThere}
use Rattle.fax_core.specs.Purge.{is_none_of, leaving, without_jobs}
use Rattle.fax_core.specs.Queue.{Queue, grant_numbered, job_numbered}
use Rattle.fax_core.specs.Reply.{Brought, Given, Marked, NoKeys, NoneToSend, Purged, Refused, Reply, Submitted, Taken}
use Rattle.fax_core.specs.Settings.{Rule, Settings, has_modem}
use Rattle.fax_core.specs.Sound.{IsJob, Sound}
use Rattle.fax_core.specs.State.{state}
use Rattle.fax_core.proofs.DecisionLemmas.{aged_number, asked_in}
use Rattle.fax_core.proofs.KeepLemmas.{looked_up, numbered_grant, numbered_job, same_job}
use Rattle.fax_core.proofs.LeaveLemmas.{found_after, found_before, job_before, left_nothing}
use Rattle.fax_core.proofs.PageLemmas.{on_grant_is}
use Rattle.fax_core.proofs.PurgeLemmas.{leaver_gone}
use Rattle.fax_core.proofs.PlaceLemmas.{absent, comes, either, find_placed, in_place, mapped, placed, stays}
use Rattle.fax_core.proofs.StepLemmas.{Best_to, GivenTo, None_to, aged_sound, given_is, taken_same}
use Rattle.fax_run.proofs.CountLemmas.{Same, aged_same, asked_same, brought_counters, counted_all, report_counted, submitted_none}
use Rattle.fax_run.proofs.CountLemmas as count
use Rattle.fax_run.specs.Counts.{came_in, counters_of, hands, reported}
use Rattle.fax_core.proofs.TimesLemmas.{by_stamp}

-- the grant that is found is of that job
abbrev pub has_job : ℕ → Option Grant → Bool
has_job x None = false
has_job x (Some g) = eqb g.job x

-- the reports on a job that a request makes in the queue
abbrev pub fresh : Queue → Ask → ℕ → List Report
fresh m ask x = reported (λ a. has_job x (grant_numbered a m)) ask

-- a job was there and is counted with what is reported of it, or is new and has what came in with it
pub data Became (m : Queue) (ask : Ask) (x : ℕ) (j : Job) : Type 0 where
  Was : (i : Job) → IsJob m x i → counters_of j ≡ counted_all (fresh m ask x) (counters_of i) → Became m ask x j
  Is_new : x ≡ m.next_job → counters_of j ≡ came_in ask → Became m ask x j

-- the job of a number is there, or yet to come
abbrev pub Lives : Queue → ℕ → Type 0
Lives m x = IsThere m x ⊎ (m.next_job ≤ x)

-- what a step that is taken makes of a queue
pub record Moved (m n : Queue) (ask : Ask) (r : Reply) : Type 0 where
  pub jobs : (x : ℕ) (j : Job) → IsJob n x j → Became m ask x j
  pub numbers : m.next_job ≤ n.next_job
  pub grants : (a x : ℕ) → Lives n x → has_job x (grant_numbered a n) ≡ (hands r a x || has_job x (grant_numbered a m))
  pub given : (a x : ℕ) → hands r a x ≡ true → x < m.next_job

-- ---- places

-- a number that is found is below the next
pub below : (m : Queue) (x : ℕ) (j : Job) → Sound m → IsJob m x j → x < m.next_job
below m x j h is = elim (cases_Bool (nat_lt x m.next_job)) [
  | inl low ↦ ltb-true x m.next_job low
  | inr high ↦
      let over : m.next_job ≤ x = ltb-false x m.next_job high in
      let none : job_numbered x m ≡ None = absent (λ (j : Job). j.number) 0 m.next_job x m.jobs h.jobs over in
      absurd (let no = sym none ∙ is in cc)
]

-- a job in its place
jobs_placed : (m : Queue) (ask : Ask) (b : ℕ) (j k : Job) → IsJob m b j → k.number ≡ b
    → ((x : ℕ) → x ≡ b → counters_of k ≡ counted_all (fresh m ask x) (counters_of j)) → ((x : ℕ) → x ≢ b → fresh m ask x ≡ [])
    → (x : ℕ) (y : Job) → IsJob (with_job k m) x y → Became m ask x y
jobs_placed m ask b j k is number at off x y found = by (placed (λ (z : Job). z.number) x k y m.jobs found).now
  where
    before : Job
    before = (placed (λ (z : Job). z.number) x k y m.jobs found).before

    was : IsJob m x before
    was = (placed (λ (z : Job). z.number) x k y m.jobs found).was

    by : ((k.number ≡ x) × (y ≡ k)) ⊎ ((k.number ≢ x) × (y ≡ before)) → Became m ask x y
    by (inl (here, same)) =
        let place : x ≡ b = sym here ∙ number in
        let it : before ≡ j = same_job m b before j (subst (λ (i : ℕ). IsJob m i before) place was) is in
        Was before was (ap counters_of same ∙ at x place ∙ ap (λ (z : Job). counted_all (fresh m ask x) (counters_of z)) (sym it))
    by (inr (other, same)) = Was before was (ap counters_of same ∙ ap (λ (rs : List Report). counted_all rs (counters_of before)) (sym (off x (λ q. other (number ∙ sym q)))))

-- a queue with the same jobs
jobs_same : (m n : Queue) (ask : Ask) → n.jobs ≡ m.jobs → ((x : ℕ) → fresh m ask x ≡ []) → (x : ℕ) (y : Job) → IsJob n x y → Became m ask x y
jobs_same m n ask same none x y found =
    Was y (subst (λ (js : List Job). find (λ (z : Job). eqb z.number x) js ≡ Some y) same found) (ap (λ (rs : List Report). counted_all rs (counters_of y)) (sym (none x)))

-- what moves to the queue that the step made moves to the one that it took
moved_as : (m q n : Queue) (ask : Ask) (told r : Reply) → Taken q told ≡ Taken n r → Moved m q ask told → Moved m n ask r
moved_as m q n ask told r e moved =
    let same = taken_same q n told r e in
    subst (λ x. Moved m n ask x) same.1 (subst (λ x. Moved m x ask told) same.0 moved)

-- a queue with one job more, which has the next number and what came in
new_moves : (m : Queue) (ask : Ask) (k : Job) (r : Reply) → ((x : ℕ) → fresh m ask x ≡ []) → ((a x : ℕ) → hands r a x ≡ false)
    → k.number ≡ m.next_job → counters_of k ≡ came_in ask → Moved m (with_new_job k m) ask r
new_moves m ask k r none gives_none number came = record {
  jobs = λ x y found. elim (either (λ (z : Job). eqb z.number x) m.jobs k y found) [
    | inl old ↦ Was y old (rw (none x) refl)
    | inr (here, same) ↦ Is_new (sym (eqb-true k.number x here) ∙ number) (ap counters_of (sym same) ∙ came)
  ];
  numbers = omega arith;
  grants = λ a x lives. rw (gives_none a x) refl;
  given = λ a x on. absurd (let no = sym (gives_none a x) ∙ on in cc);
}

-- ---- requests on a job

-- a change of a job with the same number and counters moves none
changed_moves : (s : Settings) (m n : Queue) (t : ℕ) (ask : Ask) (b : ℕ) (j : Job) (d : Result Job Refusal) (r : Reply) → IsJob m b j → ((x : ℕ) → fresh m ask x ≡ [])
    → ((k : Job) → d ≡ Ok k → Same j k × (k.number ≡ j.number)) → changed s m t d ≡ Taken n r → Moved m n ask r
changed_moves s m n t ask b j (Ok k) r is none keeps e =
    let f = keeps k refl in
    let at : (x : ℕ) → x ≡ b → counters_of k ≡ counted_all (fresh m ask x) (counters_of j) = λ x q. f.0 ∙ ap (λ (rs : List Report). counted_all rs (counters_of j)) (sym (none x)) in
    moved_as m (with_job k m) n ask _ r e (record {
      jobs = jobs_placed m ask b j k is (f.1 ∙ numbered_job m b j is) at (λ x q. none x);
      numbers = omega arith;
      grants = λ a x lives. refl;
      given = λ a x no. absurd cc;
    })
changed_moves s m n t ask b j (Err x) r is none keeps e = cc

-- so no request on a job moves any
on_job_moves : (s : Settings) (m n : Queue) (t b : ℕ) (a : JobAsk) (o : Option Job) (r : Reply) → job_numbered b m ≡ o → on_job s m t a o ≡ Taken n r → Moved m n (OnJob b a) r
on_job_moves s m n t b a None r is e = cc
on_job_moves s m n t b a (Some j) r is e = changed_moves s m n t (OnJob b a) b j (job_asked a t j) r is (λ x. refl) (λ k d. (asked_same a t j k d, (asked_in a t j k d).number)) e

-- ---- submissions and marks

-- a submission adds a job with the next number and no counters
submission_moves : (m n : Queue) (o : Order) (rule : Rule) (most t : ℕ) (d : Result Job Refusal) (r : Reply) → submit o rule m.next_job most t ≡ d → submitted m rule d ≡ Taken n r → Moved m n (Submission o) r
submission_moves m n o rule most t (Ok k) r is e =
    let f = submitted_none o rule m.next_job most t k is in
    moved_as m (with_new_job k m) n (Submission o) _ r e (new_moves m (Submission o) k (Submitted k.number) (λ x. refl) (λ a x. refl) f.0 f.1)
submission_moves m n o rule most t (Err x) r is e = cc

-- an import adds a job with the next number and the counters that came in
import_moves : (s : Settings) (m n : Queue) (i : Import) (rule : Rule) (most t : ℕ) (d : Result Job Refusal) (r : Reply) → bring i rule m.next_job most t ≡ d → brought_in s m t rule d ≡ Taken n r → Moved m n (Bring i) r
import_moves s m n i rule most t (Ok k) r is e =
    let f = brought_counters i rule m.next_job most t k is in
    moved_as m (with_new_job k m) n (Bring i) _ r e
    (new_moves m (Bring i) k (Brought k.number (state s (with_new_job k m) t k)) (λ x. refl) (λ a x. refl) f.0 f.1)
import_moves s m n i rule most t (Err x) r is e = cc

-- a mark leaves the jobs, the grants and the next number
mark_same : (m : Queue) (modem : List ℕ) (down : Bool) → ((with_mark modem down m).jobs ≡ m.jobs) × ((with_mark modem down m).grants ≡ m.grants) × ((with_mark modem down m).next_job ≡ m.next_job)
mark_same m modem true = (refl, refl, refl)
mark_same m modem false = (refl, refl, refl)

-- a request that marks a modem moves no counter
mark_moves : (m n : Queue) (ask : Ask) (modem : List ℕ) (down b : Bool) (r : Reply) → ((x : ℕ) → fresh m ask x ≡ []) → cond b (Taken (with_mark modem down m) (Marked down)) (Refused refusal.NoModem NoKeys) ≡ Taken n r → Moved m n ask r
mark_moves m n ask modem down true r none e =
    let same = mark_same m modem down in
    moved_as m (with_mark modem down m) n ask _ r e (record {
      jobs = jobs_same m (with_mark modem down m) ask same.0 none;
      numbers = omega (arith, same.2);
      grants = λ a x lives. ap (λ (gs : List Grant). has_job x (find (λ (g : Grant). eqb g.number a) gs)) same.1;
      given = λ a x no. absurd cc;
    })
mark_moves m n ask modem down false r none e = cc

-- ---- reports

module _ (m : Queue) (b : ℕ) (x : Report) (g : Grant) (j : Job) (both : JobAndGrant) (is : grant_numbered b m ≡ Some g) (of : IsJob m g.job j) (made : count.Reported j g both x) where
  abbrev ask : Ask
  ask = OnGrant b x

  -- the report is one on the grant's job
  fronts : (i : ℕ) → fresh m ask i ≡ cond (eqb g.job i) (x ∷ []) []
  fronts i = ap (λ (o : Option Grant). cond (has_job i o) (x ∷ []) []) is

  -- the grant's job counts what was reported
  at_its : (i : ℕ) → i ≡ g.job → counters_of both.job ≡ counted_all (fresh m ask i) (counters_of j)
  at_its i here = made.counted_now ∙ ap (λ (rs : List Report). counted_all rs (counters_of j)) (sym (fronts i ∙ ap (λ (q : Bool). cond q (x ∷ []) []) (eq-eqb g.job i (sym here))))

  -- and no other job has a report
  off_its : (i : ℕ) → i ≢ g.job → fresh m ask i ≡ []
  off_its i other = elim (cases_Bool (eqb g.job i)) [
    | inl on ↦ absurd (other (sym (eqb-true g.job i on)))
    | inr off ↦ fronts i ∙ ap (λ (q : Bool). cond q (x ∷ []) []) off
  ]

  -- a grant keeps its job where the reported one is put in its place
  same_job_of : (a x : ℕ) (o : Option Grant) → grant_numbered a m ≡ o → has_job x (option_map (in_place (λ (z : Grant). z.number) both.grant) o) ≡ has_job x o
  same_job_of a x None e = refl
  same_job_of a x (Some h) e = elim (cases_Bool (eqb h.number both.grant.number)) [
    | inl on ↦
        let here : h.number ≡ g.number = eqb-true h.number both.grant.number on ∙ made.grant_number in
        let place : a ≡ b = sym (numbered_grant m a h e) ∙ here ∙ numbered_grant m b g is in
        let it : h ≡ g = same (sym e ∙ ap (λ (i : ℕ). grant_numbered i m) place ∙ is) in
        ap (λ (q : Bool). has_job x (Some (cond q both.grant h))) on ∙ ap (λ (i : ℕ). eqb i x) (made.grant_job ∙ ap (λ (z : Grant). z.job) (sym it))
    | inr off ↦ ap (λ (q : Bool). has_job x (Some (cond q both.grant h))) off
  ]
    where
      same : {x y : Grant} → ◌≡◌ {A = Option Grant} (Some x) (Some y) → x ≡ y
      same h = cc

  -- so the report moves the job's counters by what was reported
  report_moved : (r : Reply) → ((a x : ℕ) → hands r a x ≡ false) → Moved m (with_both both m) ask r
  report_moved r none = record {
    jobs = jobs_placed m ask g.job j both.job of (made.number ∙ numbered_job m g.job j of) at_its off_its;
    numbers = omega arith;
    grants = λ a x lives.
        ap (has_job x) (find_placed (λ (z : Grant). z.number) a both.grant m.grants) ∙ same_job_of a x (grant_numbered a m) refl ∙ ap (λ (q : Bool). q || has_job x (grant_numbered a m)) (sym (none a x));
    given = λ a x on. absurd (let no = sym (none a x) ∙ on in cc);
  }

-- what is told of a report that is taken
reported_told : (m n : Queue) (reply : Queue → JobAndGrant → Reply) (j : Job) (d : Result JobAndGrant Refusal) (r : Reply) → machine.reported m reply j d ≡ Taken n r → (b : JobAndGrant) × (reply (with_both b m) b ≡ r)
reported_told m n reply j (Ok b) r e = (b, (taken_same (with_both b m) n _ r e).1)
reported_told m n reply j (Err x) r e = cc

-- the same where the grant's job is looked up
on_both_told : (s : Settings) (m n : Queue) (t : ℕ) (x : Report) (g : Grant) (o : Option Job) (r : Reply)
    → machine.on_both s m t x g o ≡ Taken n r → (b : JobAndGrant) × (report_reply s t x (with_both b m) b ≡ r)
on_both_told s m n t x g None r e = cc
on_both_told s m n t x g (Some j) r e = reported_told m n (report_reply s t x) j (grant_reported x s.delay t j g) r e

-- the same where the grant is looked up
pub on_grant_told : (s : Settings) (m n : Queue) (t : ℕ) (x : Report) (o : Option Grant) (r : Reply)
    → machine.on_grant s m t x o ≡ Taken n r → (b : JobAndGrant) × (report_reply s t x (with_both b m) b ≡ r)
on_grant_told s m n t x None r e = cc
on_grant_told s m n t x (Some g) r e = on_both_told s m n t x g (job_numbered g.job m) r e

-- no report is told a grant
tells_none : (s : Settings) (t : ℕ) (x : Report) (q : Queue) (b : JobAndGrant) (a i : ℕ) → hands (report_reply s t x q b) a i ≡ false
tells_none s t (report.Call c) q b a i = refl
tells_none s t other q b a i = refl

-- a report on a grant moves the job's counters by what was reported
on_grant_moves : (s : Settings) (m n : Queue) (t b : ℕ) (x : Report) (r : Reply) → machine.on_grant s m t x (grant_numbered b m) ≡ Taken n r → Moved m n (OnGrant b x) r
on_grant_moves s m n t b x r e =
    let it = on_grant_is s m t b x (grant_numbered b m) n r refl e in
    let told = on_grant_told s m n t x (grant_numbered b m) r e in
    subst (λ (q : Queue). Moved m q (OnGrant b x) r) it.left
    (report_moved m b x it.grant it.job it.both it.is it.of (report_counted x s.delay t it.job it.grant it.both it.made) r
    (λ a i. ap (λ (q : Reply). hands q a i) (sym told.1) ∙ tells_none s t x (with_both told.0 m) told.0 a i))

-- ---- a request for work

-- where neither the list nor the one behind it passes, none is found
found_end : {X : Type 0} (q : X → Bool) (xs : List X) (y : X) → find q xs ≡ None → q y ≡ false → find q (xs ++ y ∷ []) ≡ None
found_end q xs y none off = find-append q xs (y ∷ []) ∙ ap (λ o. option_or o (find q (y ∷ []))) none ∙ ap (λ b. cond b (Some y) None) off

module _ (m : Queue) (h : Sound m) (g : Grant) (is : g.number ≡ m.next_grant) where
  -- no grant has the next number yet
  none_at : (a : ℕ) → eqb g.number a ≡ true → grant_numbered a m ≡ None
  none_at a on =
      let here : a ≡ m.next_grant = sym (eqb-true g.number a on) ∙ is in
      absent (λ (z : Grant). z.number) 0 m.next_grant a m.grants h.grants (omega (arith, here))

  -- beside a new grant, each number has the job that it had, or the new one's
  grants_more : (a x : ℕ) (o : Option Grant) (b : Bool) → grant_numbered a m ≡ o → eqb g.number a ≡ b
      → has_job x (find (λ (z : Grant). eqb z.number a) (m.grants ++ g ∷ [])) ≡ ((b && eqb g.job x) || has_job x o)
  grants_more a x None true e on = ap (has_job x) (comes (λ (z : Grant). eqb z.number a) m.grants g e on) ∙ or_false (eqb g.job x)
    where
      or_false : (b : Bool) → b ≡ (b || false)
      or_false true = refl
      or_false false = refl
  grants_more a x None false e off = ap (has_job x) (found_end (λ (z : Grant). eqb z.number a) m.grants g e off)
  grants_more a x (Some old) true e on = absurd (let no = sym (none_at a on) ∙ e in cc)
  grants_more a x (Some old) false e off = ap (has_job x) (stays (λ (z : Grant). eqb z.number a) m.grants g old e)

-- a request for work that is given a grant moves the queue by it
given_moves : (s : Settings) (m n : Queue) (t : ℕ) (modem : List ℕ) (r : Reply) → Sound m → GivenTo s m t modem n r → Moved m n (Next modem) r
given_moves s m n t modem r h (None_to none same told) =
    subst (λ (q : Reply). Moved m n (Next modem) q) told (subst (λ (q : Queue). Moved m q (Next modem) NoneToSend) same (record {
      jobs = λ x y found. Was y found refl;
      numbers = omega arith;
      grants = λ a x lives. refl;
      given = λ a x no. absurd cc;
    }))
given_moves s m n t modem r h (Best_to j best none same told) =
    let both = granted j modem m.next_grant in
    subst (λ (q : Reply). Moved m n (Next modem) q) told (subst (λ (q : Queue). Moved m q (Next modem) (Given (handed both.grant (with_new_grant both m)))) same (record {
      jobs = jobs_placed m (Next modem) j.number j both.job best.goes.there refl (λ x q. refl) (λ x q. refl);
      numbers = omega arith;
      grants = λ a x lives. grants_more m h both.grant refl a x (grant_numbered a m) (eqb m.next_grant a) refl refl;
      given = λ a x on. subst (λ (i : ℕ). i < m.next_job) (eqb-true j.number x (and_parts (eqb m.next_grant a) (eqb j.number x) on).1) (below m j.number j h best.goes.there);
    }))

-- ---- a purge

-- the number of a job that stays, or of one yet to come, isn't among those that leave
stays_of : (m : Queue) (before x : ℕ) → Sound m → Lives (without_jobs (leaving before m) m) x → is_none_of (leaving before m) x ≡ true
stays_of m before x h lives = elim (cases_Bool (is_none_of (leaving before m) x)) [
  | inl stays ↦ stays
  | inr leaves ↦
      let gone = leaver_gone m before x h leaves in
      elim lives [
        | inl there ↦ absurd (let none = gone.absent in let some = there.1 in cc (none, some))
        | inr high ↦ absurd (let low = gone.given in omega (arith, low, high))
      ]
]

-- of such a job each grant stays, and no other becomes its
its_grants : (m : Queue) (before a x : ℕ) (o : Option Grant) → Sound m → is_none_of (leaving before m) x ≡ true → grant_numbered a m ≡ o
    → has_job x (grant_numbered a (without_jobs (leaving before m) m)) ≡ has_job x o
its_grants m before a x None h stays e = ap (has_job x) (left_nothing (λ (z : Grant). eqb z.number a) (λ (z : Grant). is_none_of (leaving before m) z.job) m.grants e)
its_grants m before a x (Some g) h stays e = elim (cases_Bool (eqb g.job x)) [
  | inl its ↦
      let there : is_none_of (leaving before m) g.job ≡ true = ap (is_none_of (leaving before m)) (eqb-true g.job x its) ∙ stays in
      ap (has_job x) (found_after (λ (z : Grant). z.number) (λ (z : Grant). is_none_of (leaving before m) z.job) m.next_grant a m.grants g h.grants e there)
  | inr other ↦ not_its other (grant_numbered a (without_jobs (leaving before m) m)) refl ∙ sym other
]
  where
    not_its : eqb g.job x ≡ false → (p : Option Grant) → grant_numbered a (without_jobs (leaving before m) m) ≡ p → has_job x p ≡ false
    not_its other None q = refl
    not_its other (Some y) q =
        let was = found_before (λ (z : Grant). z.number) (λ (z : Grant). is_none_of (leaving before m) z.job) m.next_grant a m.grants y h.grants q in
        let same : ◌≡◌ {A = Option Grant} (Some g) (Some y) = sym e ∙ was.0 in
        let it : g ≡ y = cc in
        ap (λ (z : Grant). eqb z.job x) (sym it) ∙ other

-- a purge moves no counter
purge_moves : (m n : Queue) (before : ℕ) (b : Bool) (r : Reply) → Sound m → cond b (Refused refusal.PurgeHigh NoKeys) (Taken (without_jobs (leaving before m) m) (Purged (length (leaving before m)))) ≡ Taken n r → Moved m n (Purge before) r
purge_moves m n before true r h e = cc
purge_moves m n before false r h e =
    moved_as m (without_jobs (leaving before m) m) n (Purge before) _ r e (record {
      jobs = λ x y found. Was y (job_before m (leaving before m) h x y found).0 refl;
      numbers = omega arith;
      grants = λ a x lives. its_grants m before a x (grant_numbered a m) h (stays_of m before x h lives) refl;
      given = λ a x no. absurd cc;
    })

-- ---- each request

-- each request that is taken moves the queue so
act_moves : (s : Settings) (m n : Queue) (t : ℕ) (ask : Ask) (r : Reply) → Sound m → act s m t ask ≡ Taken n r → Moved m n ask r
act_moves s m n t (Submission o) r h e = submission_moves m n o (s.rule o.dial) s.max_jobs t (submit o (s.rule o.dial) m.next_job s.max_jobs t) r refl e
act_moves s m n t (Bring i) r h e = import_moves s m n i (s.rule i.order.dial) s.max_jobs t (bring i (s.rule i.order.dial) m.next_job s.max_jobs t) r refl e
act_moves s m n t (OnJob a ask) r h e = on_job_moves s m n t a ask (job_numbered a m) r refl e
act_moves s m n t (Mark modem down) r h e = mark_moves m n (Mark modem down) modem down (has_modem s modem) r (λ x. refl) e
act_moves s m n t (Next modem) r h e = given_moves s m n t modem r h (given_is s m t modem n r h e)
act_moves s m n t (OnGrant a report) r h e = on_grant_moves s m n t a report r e
act_moves s m n t (GiveUp upto) r h e =
    moved_as m m n (GiveUp upto) _ r e (record { jobs = λ x y found. Was y found refl; numbers = omega arith; grants = λ a x lives. refl; given = λ a x no. absurd cc })
act_moves s m n t (Purge before) r h e = purge_moves m n before (nat_lt t before) r h e

-- ageing moves no counter
pub step_moves : (s : Settings) (m n : Queue) (t : ℕ) (ask : Ask) (r : Reply) → Sound m → step s m t ask ≡ Taken n r → Moved m n ask r
step_moves s m n t ask r h e = by_stamp (λ n. Moved m n ask r) t (aged t m) (act s (aged t m) t ask) n r e (λ k is.
    let moved = act_moves s (aged t m) k t ask r (aged_sound t m h) is in
    record {
      jobs = λ x y found. by x y (moved.jobs x y found);
      numbers = moved.numbers;
      grants = moved.grants;
      given = moved.given;
    })
  where
    by : (x : ℕ) (y : Job) → Became (aged t m) ask x y → Became m ask x y
    by x y (Was i there counted) =
        let old = mapped (aged_job t) (job_numbered x m) i (sym (looked_up m (aged_job t) (aged_number t) x) ∙ there) in
        Was old.0 old.1 (counted ∙ ap (counted_all (fresh m ask x)) (ap counters_of (sym old.2) ∙ aged_same t old.0))
    by x y (Is_new new none) = Is_new new none
