-- What a step of the queue does to a grant: reports that fit it are accepted, and nothing else changes it.
use Rattle.std.proofs.Common.{◌≡◌, ◌≢◌, inl, inr, ℕ, suc, ◌+◌, ◌-◌, ◌<◌, ◌≤◌, Bool, true, false, cond, not, ◌&&◌, eqb, List, [], ◌∷◌, ◌++◌, length, Option, Some, None, refl, sym, ap, subst, ◌∙◌, arith}
use Rattle.std.specs.Prelude.{Result, Ok, Err, find, is_some, is_none, nat_lt}
use Rattle.std.specs.List.{range_with_len}
use Rattle.std.proofs.lemmas.Bool.{eq-eqb, not-false}
use Rattle.fax_job.specs.declared.job.Call.{Call}
use Rattle.fax_job.specs.declared.job.Call.TheVariants.{Connected}
use Rattle.fax_job.specs.declared.refusal.Refusal.{Refusal}
use Rattle.fax_job.specs.declared.refusal.Refusal.TheVariants as refusal
use Rattle.fax_core.specs.declared.grants.Grant.{Grant}
use Rattle.fax_core.specs.declared.report.Ending.{Ending}
use Rattle.fax_core.specs.declared.report.Ending.TheVariants.{Done, Retry, Fail}
use Rattle.fax_core.specs.declared.report.Outcome.{Outcome}
use Rattle.fax_core.specs.declared.report.Report.{Report}
use Rattle.fax_core.specs.declared.report.Report.TheVariants as report
use Rattle.fax_core.specs.Ageing.{aged, aged_job}
use Rattle.fax_core.specs.declared.ask.Ask.{Ask}
use Rattle.fax_core.specs.declared.ask.Ask.TheVariants.{Submission, Bring, OnJob, Mark, Next, OnGrant, GiveUp, Purge}
use Rattle.fax_core.specs.declared.ask.JobAsk.{JobAsk}
use Rattle.fax_core.specs.Decisions.{JobAndGrant, after_call, call, ended, grant_reported, granted, is_connected, is_done, is_empty, job_asked, outcome, page, page_of, submit}
use Rattle.fax_core.specs.Import.{bring}
use Rattle.fax_core.specs.Job.{Job}
use Rattle.fax_core.specs.Machine.{act, brought_in, changed, handed, on_both, on_grant, on_job, report_reply, given_to, stamped, step, submitted, with_both, with_job, with_mark, with_new_grant, with_new_job, dial_of}
use Rattle.fax_core.specs.Machine as machine
use Rattle.fax_core.specs.Purge.{is_none_of, leaving, without_jobs}
use Rattle.fax_core.specs.Queue.{Queue, grant_numbered, job_numbered}
use Rattle.fax_core.specs.Reply.{Given, Handed, Marked, NoKeys, Purged, Reply, Taken, Refused}
use Rattle.fax_core.specs.Settings.{Rule, Settings, has_modem}
use Rattle.fax_core.specs.Sound.{FitsGrant, IsJob, IsOpen, Sound}
use Rattle.fax_core.proofs.DecisionLemmas.{not_refused, ok_same, reported_in}
use Rattle.fax_core.proofs.GrantLemmas.{open_stays}
use Rattle.fax_core.proofs.LeaveLemmas.{found_after, found_before}
use Rattle.fax_core.proofs.KeepLemmas.{Grants, found_new, numbered_grant, numbered_job, same_job}
use Rattle.fax_core.proofs.PageLemmas.{Reported, on_grant_is, tail_is}
use Rattle.fax_core.proofs.PlaceLemmas.{either, placed, placed_here, placed_other, stays}
use Rattle.fax_core.proofs.StepLemmas.{Best_to, GivenTo, None_to, aged_sound, given_grants, given_is, taken_same}
use Rattle.fax_core.specs.Stamp.{stamp}
use Rattle.fax_core.proofs.TimesLemmas.{by_stamp}
use Rattle.fax_worker.proofs.DialLemmas.{aged_dial, aged_there, report_dial}
use Rattle.fax_worker.specs.Laws.{Agrees}
use Rattle.fax_worker.specs.Trace.{CallsComeFirst}
use Rattle.fax_worker.specs.Worker.{Held, after_report, held_of, next_page}

-- ---- what leaves the grants

-- a change of a job leaves the grants
changed_same : (s : Settings) (m n : Queue) (t : ℕ) (d : Result Job Refusal) (r : Reply) → changed s m t d ≡ Taken n r → n.grants ≡ m.grants
changed_same s m n t (Ok k) r e = ap (λ (q : Queue). q.grants) (sym (taken_same (with_job k m) n _ r e).0)
changed_same s m n t (Err x) r e = cc

-- so does a request on a job
on_job_same : (s : Settings) (m n : Queue) (t : ℕ) (ask : JobAsk) (o : Option Job) (r : Reply) → on_job s m t ask o ≡ Taken n r → n.grants ≡ m.grants
on_job_same s m n t ask None r e = cc
on_job_same s m n t ask (Some j) r e = changed_same s m n t (job_asked ask t j) r e

-- and a submission
submission_same : (m n : Queue) (rule : Rule) (d : Result Job Refusal) (r : Reply) → submitted m rule d ≡ Taken n r → n.grants ≡ m.grants
submission_same m n rule (Ok k) r e = ap (λ (q : Queue). q.grants) (sym (taken_same (with_new_job k m) n _ r e).0)
submission_same m n rule (Err x) r e = cc

-- and an import
import_same : (s : Settings) (m n : Queue) (t : ℕ) (rule : Rule) (d : Result Job Refusal) (r : Reply) → brought_in s m t rule d ≡ Taken n r → n.grants ≡ m.grants
import_same s m n t rule (Ok k) r e = ap (λ (q : Queue). q.grants) (sym (taken_same (with_new_job k m) n _ r e).0)
import_same s m n t rule (Err x) r e = cc

-- and a mark
mark_same : (m : Queue) (modem : List ℕ) (down : Bool) → (with_mark modem down m).grants ≡ m.grants
mark_same m modem true = refl
mark_same m modem false = refl

marked_same : (m n : Queue) (modem : List ℕ) (down b : Bool) (r : Reply) → cond b (Taken (with_mark modem down m) (Marked down)) (Refused refusal.NoModem NoKeys) ≡ Taken n r → n.grants ≡ m.grants
marked_same m n modem down true r e = ap (λ (q : Queue). q.grants) (sym (taken_same (with_mark modem down m) n _ r e).0) ∙ mark_same m modem down
marked_same m n modem down false r e = cc

-- the same grants find the same
found_same : (m n : Queue) (a : ℕ) (g : Grant) → n.grants ≡ m.grants → grant_numbered a m ≡ Some g → grant_numbered a n ≡ Some g
found_same m n a g same is = subst (λ (gs : List Grant). find (λ (z : Grant). eqb z.number a) gs ≡ Some g) (sym same) is

-- a request for work adds a grant or none
given_stays : (s : Settings) (m n : Queue) (t : ℕ) (modem : List ℕ) (r : Reply) (a : ℕ) (g : Grant) → GivenTo s m t modem n r → grant_numbered a m ≡ Some g → grant_numbered a n ≡ Some g
given_stays s m n t modem r a g (None_to none same told) is = subst (λ (q : Queue). grant_numbered a q ≡ Some g) same is
given_stays s m n t modem r a g (Best_to j best none same told) is =
    subst (λ (q : Queue). grant_numbered a q ≡ Some g) same (stays (λ (z : Grant). eqb z.number a) m.grants (granted j modem m.next_grant).grant g is)

-- what a report makes of its grant
abbrev pub changed_by : Report → Grant → Grant
changed_by (report.Call c) g = record g { call = Some c }
changed_by (report.Page p) g = record g { confirmed = g.confirmed + 1 }
changed_by (report.Outcome o) g = record g { is_open = false }

-- a page that is accepted adds one
page_after : (ps : List ℕ) (n : ℕ) (j : Job) (g : Grant) (b : JobAndGrant) → page_of ps n j g ≡ Ok b → b.grant ≡ record g { confirmed = g.confirmed + 1 }
page_after [] n j g b e = cc
page_after (p ∷ rest) n j g b e =
    let new : JobAndGrant = record { job = record j { sent = j.sent ++ p ∷ []; left = rest; ntries = 0 }; grant = record g { confirmed = g.confirmed + 1 } } in
    let q = not_refused (not (eqb p n)) _ (Ok new) b e in
    ap (λ (x : JobAndGrant). x.grant) (sym (ok_same new b q.1))

-- a report that is accepted changes the grant so
grant_after : (x : Report) (delay : Option Call → ℕ) (t : ℕ) (j : Job) (g : Grant) (b : JobAndGrant) → grant_reported x delay t j g ≡ Ok b → b.grant ≡ changed_by x g
grant_after (report.Call c) delay t j g b e =
    let new : JobAndGrant = record { job = after_call c j; grant = record g { call = Some c } } in
    let p = not_refused (not g.is_open) _ _ b e in
    let q = not_refused (is_some g.call) _ (Ok new) b p.1 in
    ap (λ (x : JobAndGrant). x.grant) (sym (ok_same new b q.1))
grant_after (report.Page n) delay t j g b e =
    let p = not_refused (not g.is_open) _ _ b e in
    let q = not_refused (not (is_connected g.call)) _ (page_of j.left n j g) b p.1 in
    page_after j.left n j g b q.1
grant_after (report.Outcome o) delay t j g b e =
    let new : JobAndGrant = record { job = ended j.left o j (delay g.call) t; grant = record g { is_open = false } } in
    let p = not_refused (not g.is_open) _ _ b e in
    let q = not_refused (not o.dialed && is_some g.call) _ _ b p.1 in
    let r = not_refused (o.dialed && is_none g.call) _ _ b q.1 in
    let s = not_refused (not (eqb o.pages g.confirmed)) _ _ b r.1 in
    let u = not_refused _ _ (Ok new) b s.1 in
    ap (λ (x : JobAndGrant). x.grant) (sym (ok_same new b u.1))

-- the number stays
number_after : (x : Report) (g : Grant) → (changed_by x g).number ≡ g.number
number_after (report.Call c) g = refl
number_after (report.Page p) g = refl
number_after (report.Outcome o) g = refl

-- the grant that a report leaves has the number of the old one
reported_number : (s : Settings) (m n : Queue) (t b : ℕ) (x : Report) (it : Reported s m n t b x) → it.both.grant.number ≡ it.grant.number
reported_number s m n t b x it = ap (λ (z : Grant). z.number) (grant_after x s.delay t it.job it.grant it.both it.made) ∙ number_after x it.grant

-- a report on another grant leaves this one
other_stays : (s : Settings) (m n : Queue) (t b : ℕ) (x : Report) (a : ℕ) (g : Grant) → Reported s m n t b x → b ≢ a → grant_numbered a m ≡ Some g → grant_numbered a n ≡ Some g
other_stays s m n t b x a g it other is =
    let its : it.both.grant.number ≢ a = λ q. other (sym (numbered_grant m b it.grant it.is) ∙ sym (reported_number s m n t b x it) ∙ q) in
    subst (λ (q : Queue). grant_numbered a q ≡ Some g) it.left (placed_other (λ (z : Grant). z.number) a it.both.grant g m.grants is its)

-- a purge leaves the open grants
purged_stays : (m n : Queue) (before : ℕ) (b : Bool) (r : Reply) (a : ℕ) (g : Grant) → Sound m → cond b (Refused refusal.PurgeHigh NoKeys) (Taken (without_jobs (leaving before m) m) (Purged (length (leaving before m)))) ≡ Taken n r → IsOpen m a g → grant_numbered a n ≡ Some g
purged_stays m n before true r a g h e o = cc
purged_stays m n before false r a g h e o =
    subst (λ (q : Queue). grant_numbered a q ≡ Some g) (taken_same (without_jobs (leaving before m) m) n _ r e).0
    (found_after (λ (z : Grant). z.number) (λ (z : Grant). is_none_of (leaving before m) z.job) m.next_grant a m.grants g h.grants o.0 (open_stays m before a g h o))

-- a request that isn't a report on a grant leaves it, while it is open
acted_stays : (s : Settings) (m n : Queue) (t : ℕ) (ask : Ask) (r : Reply) (a : ℕ) (g : Grant) → Sound m → act s (aged t m) t ask ≡ Taken n r
    → ((x : Report) → ask ≢ OnGrant a x) → IsOpen m a g → grant_numbered a n ≡ Some g
acted_stays s m n t (Submission o) r a g h e other is = found_same m n a g (submission_same (aged t m) n (s.rule o.dial) (submit o (s.rule o.dial) m.next_job s.max_jobs t) r e) is.0
acted_stays s m n t (Bring i) r a g h e other is = found_same m n a g (import_same s (aged t m) n t (s.rule i.order.dial) (bring i (s.rule i.order.dial) m.next_job s.max_jobs t) r e) is.0
acted_stays s m n t (OnJob b ask) r a g h e other is = found_same m n a g (on_job_same s (aged t m) n t ask (job_numbered b (aged t m)) r e) is.0
acted_stays s m n t (Mark modem down) r a g h e other is = found_same m n a g (marked_same (aged t m) n modem down (has_modem s modem) r e) is.0
acted_stays s m n t (Next modem) r a g h e other is = given_stays s (aged t m) n t modem r a g (given_is s (aged t m) t modem n r (aged_sound t m h) e) is.0
acted_stays s m n t (OnGrant b x) r a g h e other is =
    other_stays s (aged t m) n t b x a g (on_grant_is s (aged t m) t b x (grant_numbered b (aged t m)) n r refl e) (λ q. other x (ap (λ (i : ℕ). OnGrant i x) q)) is.0
acted_stays s m n t (GiveUp upto) r a g h e other is = found_same m n a g (ap (λ (q : Queue). q.grants) (sym (taken_same (aged t m) n _ r e).0)) is.0
acted_stays s m n t (Purge before) r a g h e other is = purged_stays (aged t m) n before (nat_lt t before) r a g (aged_sound t m h) e is

-- so does its step, which sets the times of the jobs
pub grant_stays : (s : Settings) (m n : Queue) (t : ℕ) (ask : Ask) (r : Reply) (a : ℕ) (g : Grant) → Sound m → step s m t ask ≡ Taken n r
    → ((x : Report) → ask ≢ OnGrant a x) → IsOpen m a g → grant_numbered a n ≡ Some g
grant_stays s m n t ask r a g h e other is =
    by_stamp (λ q. grant_numbered a q ≡ Some g) t (aged t m) (act s (aged t m) t ask) n r e (λ k taken. acted_stays s m k t ask r a g h taken other is)

-- ---- calls come first

-- where a grant has no call, none of its pages is confirmed
abbrev HasCall : Grant → Type 0
HasCall g = g.call ≡ None → g.confirmed ≡ 0

-- grants that are there still have it
calls_same : (m n : Queue) → n.grants ≡ m.grants → CallsComeFirst m → CallsComeFirst n
calls_same m n same h a g is = h a g (found_same n m a g (sym same) is)

-- so has one that is new
calls_given : (s : Settings) (m n : Queue) (t : ℕ) (modem : List ℕ) (r : Reply) → GivenTo s m t modem n r → CallsComeFirst m → CallsComeFirst n
calls_given s m n t modem r (None_to none same told) h = subst CallsComeFirst same h
calls_given s m n t modem r (Best_to j best none same told) h =
    let new : Grant = (granted j modem m.next_grant).grant in
    subst CallsComeFirst same (λ a g is. elim (either (λ (z : Grant). eqb z.number a) m.grants new g is) [
      | inl old ↦ h a g old
      | inr it ↦ subst HasCall it.1 (λ none. refl)
    ])

-- a page report is on a connected call
page_connected : (n : ℕ) (j : Job) (g : Grant) (b : JobAndGrant) → page n j g ≡ Ok b → is_connected g.call ≡ true
page_connected n j g b e =
    let p = not_refused (not g.is_open) _ _ b e in
    not-false (is_connected g.call) (not_refused (not (is_connected g.call)) _ (page_of j.left n j g) b p.1).0

-- no call isn't a connected one
none_connected : (o : Option Call) → is_connected o ≡ true → o ≡ None → ⊥
none_connected None on none = cc
none_connected (Some c) on none = cc

-- so has one that was reported on
calls_after : (x : Report) (delay : Option Call → ℕ) (t : ℕ) (j : Job) (g : Grant) (b : JobAndGrant) → grant_reported x delay t j g ≡ Ok b → HasCall g → HasCall (changed_by x g)
calls_after (report.Call c) delay t j g b e h none = cc none
calls_after (report.Page n) delay t j g b e h none = absurd (none_connected g.call (page_connected n j g b e) none)
calls_after (report.Outcome o) delay t j g b e h none = h none

calls_reported : (s : Settings) (m n : Queue) (t b : ℕ) (x : Report) → Reported s m n t b x → CallsComeFirst m → CallsComeFirst n
calls_reported s m n t b x it h = subst CallsComeFirst it.left (λ a g is.
    let p = placed (λ (z : Grant). z.number) a it.both.grant g m.grants is in
    elim p.now [
      | inl c ↦
          let after = calls_after x s.delay t it.job it.grant it.both it.made (h b it.grant it.is) in
          subst HasCall (sym (c.1 ∙ grant_after x s.delay t it.job it.grant it.both it.made)) after
      | inr c ↦ subst HasCall (sym c.1) (h a p.before p.was)
    ])

-- so have those that a purge leaves
calls_purged : (m n : Queue) (before : ℕ) (b : Bool) (r : Reply) → Sound m → cond b (Refused refusal.PurgeHigh NoKeys) (Taken (without_jobs (leaving before m) m) (Purged (length (leaving before m)))) ≡ Taken n r → CallsComeFirst m → CallsComeFirst n
calls_purged m n before true r h e first = cc
calls_purged m n before false r h e first =
    subst CallsComeFirst (taken_same (without_jobs (leaving before m) m) n _ r e).0 (λ a g is.
    first a g (found_before (λ (z : Grant). z.number) (λ (z : Grant). is_none_of (leaving before m) z.job) m.next_grant a m.grants g h.grants is).0)

-- each request keeps it so
acted_calls : (s : Settings) (m n : Queue) (t : ℕ) (ask : Ask) (r : Reply) → Sound m → act s (aged t m) t ask ≡ Taken n r → CallsComeFirst m → CallsComeFirst n
acted_calls s m n t (Submission o) r h e = calls_same m n (submission_same (aged t m) n (s.rule o.dial) (submit o (s.rule o.dial) m.next_job s.max_jobs t) r e)
acted_calls s m n t (Bring i) r h e = calls_same m n (import_same s (aged t m) n t (s.rule i.order.dial) (bring i (s.rule i.order.dial) m.next_job s.max_jobs t) r e)
acted_calls s m n t (OnJob b ask) r h e = calls_same m n (on_job_same s (aged t m) n t ask (job_numbered b (aged t m)) r e)
acted_calls s m n t (Mark modem down) r h e = calls_same m n (marked_same (aged t m) n modem down (has_modem s modem) r e)
acted_calls s m n t (Next modem) r h e = calls_given s (aged t m) n t modem r (given_is s (aged t m) t modem n r (aged_sound t m h) e)
acted_calls s m n t (OnGrant b x) r h e = calls_reported s (aged t m) n t b x (on_grant_is s (aged t m) t b x (grant_numbered b (aged t m)) n r refl e)
acted_calls s m n t (GiveUp upto) r h e = calls_same m n (ap (λ (q : Queue). q.grants) (sym (taken_same (aged t m) n _ r e).0))
acted_calls s m n t (Purge before) r h e = calls_purged (aged t m) n before (nat_lt t before) r (aged_sound t m h) e

-- so does its step
pub calls_first : (s : Settings) (m n : Queue) (t : ℕ) (ask : Ask) (r : Reply) → Sound m → step s m t ask ≡ Taken n r → CallsComeFirst m → CallsComeFirst n
calls_first s m n t ask r h e before = by_stamp CallsComeFirst t (aged t m) (act s (aged t m) t ask) n r e (λ k taken. acted_calls s m k t ask r h taken before)

-- ---- a grant that is given

-- it is the modem's open grant, as it was handed out, with no call and no page
given_agrees : (s : Settings) (m n : Queue) (t : ℕ) (modem : List ℕ) (h : Handed) → Sound m → GivenTo s m t modem n (Given h) → Agrees n modem (held_of h None 0)
given_agrees s m n t modem h sound (None_to none same told) = cc
given_agrees s m n t modem h sound (Best_to j b none same told) =
    let made : JobAndGrant = granted j modem m.next_grant in
    let r : Grants m j.number j made = given_grants s m t modem j sound none b in
    let is : handed made.grant (with_new_grant made m) ≡ h = cc in
    let all : Agrees n modem (held_of (handed made.grant (with_new_grant made m)) None 0) = record {
      grant = made.grant;
      open_grant = subst (λ (q : Queue). IsOpen q m.next_grant made.grant) same (found_new m j.number j made r sound);
      of_modem = refl;
      of_job = refl;
      first_page = refl;
      last_page = refl;
      call = refl;
      pages = refl;
      job = made.job;
      there = subst (λ (q : Queue). IsJob q j.number made.job) same (placed_here (λ (z : Job). z.number) j.number made.job j m.jobs b.goes.there refl);
      dial = sym (ap dial_of (placed_here (λ (z : Job). z.number) j.number made.job j m.jobs b.goes.there refl));
    } in
    subst (λ (x : Handed). Agrees n modem (held_of x None 0)) is all

-- the times of jobs don't touch it
agrees_stamped : (t : ℕ) (m n : Queue) (modem : List ℕ) (h : Held) → Agrees n modem h → Agrees (stamp t m n) modem h
agrees_stamped t m n modem h a = record {
  grant = a.grant;
  open_grant = a.open_grant;
  of_modem = a.of_modem;
  of_job = a.of_job;
  first_page = a.first_page;
  last_page = a.last_page;
  call = a.call;
  pages = a.pages;
  job = a.job;
  there = a.there;
  dial = a.dial;
}

pub step_given : (s : Settings) (m n : Queue) (t : ℕ) (modem : List ℕ) (h : Handed) → Sound m → step s m t (Next modem) ≡ Taken n (Given h) → Agrees n modem (held_of h None 0)
step_given s m n t modem h sound e =
    let aged_one : Sound (aged t m) = aged_sound t m sound in
    by_stamp (λ q. Agrees q modem (held_of h None 0)) t (aged t m) (given_to s (aged t m) t modem) n (Given h) e (λ k taken.
    agrees_stamped t (aged t m) k modem (held_of h None 0) (given_agrees s (aged t m) k t modem h aged_one (given_is s (aged t m) t modem k (Given h) aged_one taken)))

-- ---- reports that are accepted

-- the report fits what is held
abbrev pub FitsHeld : Held → Report → Type 0
FitsHeld h (report.Call c) = h.call ≡ None
FitsHeld h (report.Page p) = (h.call ≡ Some Connected) × (next_page h ≤ h.last_page) × (p ≡ next_page h)
FitsHeld h (report.Outcome o) = (o.ending ≡ Done → h.last_page < next_page h) × (o.dialed ≡ is_some h.call) × (o.pages ≡ h.pages)

-- a call on a grant without one is accepted
takes_call : (c : Call) (j : Job) (g : Grant) → g.is_open ≡ true → g.call ≡ None → call c j g ≡ Ok (record { job = after_call c j; grant = record g { call = Some c } })
takes_call c j g is none =
    let made : Result JobAndGrant Refusal = Ok (record { job = after_call c j; grant = record g { call = Some c } }) in
    ap (λ b. cond (not b) (Err refusal.GrantClosed) (cond (is_some g.call) (Err refusal.CallKnown) made)) is
    ∙ ap (λ (o : Option Call). cond (is_some o) (Err refusal.CallKnown) made) none

-- the pages left begin with the next one
first_left : (j : Job) (g : Grant) → FitsGrant j g → g.first_page + g.confirmed ≤ g.last_page → (rest : List ℕ) × (j.left ≡ (g.first_page + g.confirmed) ∷ rest)
first_left j g fits more =
    let n = length j.sent in
    let tail = tail_is j.sent j.left 1 j.totpages fits.counted.pages in
    let one : j.totpages - n ≡ suc (j.totpages - (n + 1)) = omega (arith, more, fits.confirmed, fits.last_page) in
    let place : 1 + n ≡ g.first_page + g.confirmed = omega (arith, fits.confirmed) in
    (range_with_len (1 + n + 1) (j.totpages - (n + 1)), tail ∙ ap (λ (k : ℕ). range_with_len (1 + n) k) one ∙ ap (λ (p : ℕ). p ∷ range_with_len (1 + n + 1) (j.totpages - (n + 1))) place)

-- where the next page is past the last, none is left
none_left : (j : Job) (g : Grant) → FitsGrant j g → g.last_page < g.first_page + g.confirmed → j.left ≡ []
none_left j g fits over =
    let n = length j.sent in
    let tail = tail_is j.sent j.left 1 j.totpages fits.counted.pages in
    let no : j.totpages - n ≡ 0 = omega (arith, over, fits.confirmed, fits.last_page) in
    tail ∙ ap (λ (k : ℕ). range_with_len (1 + n) k) no

-- the page that is next is accepted
takes_page : (p : ℕ) (rest : List ℕ) (j : Job) (g : Grant) → g.is_open ≡ true → g.call ≡ Some Connected → j.left ≡ p ∷ rest
    → page p j g ≡ Ok (record { job = record j { sent = j.sent ++ p ∷ []; left = rest; ntries = 0 }; grant = record g { confirmed = g.confirmed + 1 } })
takes_page p rest j g is on left =
    let made : Result JobAndGrant Refusal = Ok (record { job = record j { sent = j.sent ++ p ∷ []; left = rest; ntries = 0 }; grant = record g { confirmed = g.confirmed + 1 } }) in
    ap (λ b. cond (not b) (Err refusal.GrantClosed) (cond (not (is_connected g.call)) (Err refusal.NotConnected) (page_of j.left p j g))) is
    ∙ ap (λ (o : Option Call). cond (not (is_connected o)) (Err refusal.NotConnected) (page_of j.left p j g)) on
    ∙ ap (λ (ps : List ℕ). page_of ps p j g) left
    ∙ ap (λ b. cond (not b) (Err refusal.PageOrder) made) (eq-eqb p p refl)

-- an outcome states whether there was a call
said_call : (c : Option Call) → ((not (is_some c) && is_some c) ≡ false) × ((is_some c && is_none c) ≡ false)
said_call None = (refl, refl)
said_call (Some call) = (refl, refl)

-- it says Done where no page is left
said_done : (e : Ending) (left : List ℕ) → (e ≡ Done → left ≡ []) → (is_done e && not (is_empty left)) ≡ false
said_done Done left none = ap (λ (ps : List ℕ). not (is_empty ps)) (none refl)
said_done Retry left none = refl
said_done Fail left none = refl

-- an outcome that fits is accepted
takes_outcome : (o : Outcome) (j : Job) (g : Grant) (delay t : ℕ) → g.is_open ≡ true → o.dialed ≡ is_some g.call → o.pages ≡ g.confirmed → (o.ending ≡ Done → j.left ≡ [])
    → outcome o j g delay t ≡ Ok (record { job = ended j.left o j delay t; grant = record g { is_open = false } })
takes_outcome o j g delay t is dialed pages none =
    let made : Result JobAndGrant Refusal = Ok (record { job = ended j.left o j delay t; grant = record g { is_open = false } }) in
    let said = said_call g.call in
    let last : Result JobAndGrant Refusal = cond (is_done o.ending && not (is_empty j.left)) (Err refusal.PagesLeft) made in
    ap (λ b. cond (not b) (Err refusal.GrantClosed) (cond (not o.dialed && is_some g.call) (Err refusal.CallKnown) (cond (o.dialed && is_none g.call) (Err refusal.CallMissing) (cond (not (eqb o.pages g.confirmed)) (Err refusal.PagesMismatch) last)))) is
    ∙ ap (λ b. cond b (Err refusal.CallKnown) (cond (o.dialed && is_none g.call) (Err refusal.CallMissing) (cond (not (eqb o.pages g.confirmed)) (Err refusal.PagesMismatch) last))) (ap (λ b. not b && is_some g.call) dialed ∙ said.0)
    ∙ ap (λ b. cond b (Err refusal.CallMissing) (cond (not (eqb o.pages g.confirmed)) (Err refusal.PagesMismatch) last)) (ap (λ b. b && is_none g.call) dialed ∙ said.1)
    ∙ ap (λ b. cond (not b) (Err refusal.PagesMismatch) last) (eq-eqb o.pages g.confirmed pages)
    ∙ ap (λ b. cond b (Err refusal.PagesLeft) made) (said_done o.ending j.left none)

-- a report that fits what is held, where the queue agrees, is accepted of the grant and its job
decides : (x : Report) (delay : Option Call → ℕ) (t : ℕ) (m : Queue) (modem : List ℕ) (h : Held) (j : Job) (a : Agrees m modem h) → FitsGrant j a.grant → FitsHeld h x
    → (b : JobAndGrant) × (grant_reported x delay t j a.grant ≡ Ok b)
decides (report.Call c) delay t m modem h j a fits none =
    (record { job = after_call c j; grant = record a.grant { call = Some c } }, takes_call c j a.grant a.open_grant.1 (a.call ∙ none))
decides (report.Page p) delay t m modem h j a fits (on, more, is) =
    let g = a.grant in
    let here : g.first_page + g.confirmed ≡ p = omega (arith, a.first_page, a.pages, is) in
    let left = first_left j g fits (omega (arith, a.first_page, a.pages, a.last_page, more)) in
    let at : j.left ≡ p ∷ left.0 = left.1 ∙ ap (λ (i : ℕ). i ∷ left.0) here in
    (record { job = record j { sent = j.sent ++ p ∷ []; left = left.0; ntries = 0 }; grant = record g { confirmed = g.confirmed + 1 } }, takes_page p left.0 j g a.open_grant.1 (a.call ∙ on) at)
decides (report.Outcome o) delay t m modem h j a fits (done, dialed, pages) =
    let g = a.grant in
    let none : o.ending ≡ Done → j.left ≡ [] = λ e. let over = done e in none_left j g fits (omega (arith, a.first_page, a.pages, a.last_page, over)) in
    (record { job = ended j.left o j (delay g.call) t; grant = record g { is_open = false } }, takes_outcome o j g (delay g.call) t a.open_grant.1 (dialed ∙ ap is_some (sym a.call)) (pages ∙ sym a.pages) none)

-- what is held after a report that the queue accepted agrees with the queue
agrees_after : (x : Report) (n : Queue) (modem : List ℕ) (h k : Held) (g : Grant) (j : Job) → grant_numbered h.grant n ≡ Some (changed_by x g) → g.is_open ≡ true
    → g.modem ≡ modem → g.job ≡ h.job → g.first_page ≡ h.first_page → g.last_page ≡ h.last_page → g.call ≡ h.call → g.confirmed ≡ h.pages
    → IsJob n h.job j → j.dial ≡ h.dial → after_report x h ≡ Some k → Agrees n modem k
agrees_after (report.Call c) n modem h k g j there is of_modem of_job first_page last_page call pages at dial e =
    let same : record h { call = Some c } ≡ k = cc in
    subst (Agrees n modem) same (record {
      grant = changed_by (report.Call c) g;
      open_grant = (there, is);
      of_modem = of_modem;
      of_job = of_job;
      first_page = first_page;
      last_page = last_page;
      call = refl;
      pages = pages;
      job = j;
      there = at;
      dial = dial;
    })
agrees_after (report.Page p) n modem h k g j there is of_modem of_job first_page last_page call pages at dial e =
    let same : record h { pages = h.pages + 1 } ≡ k = cc in
    subst (Agrees n modem) same (record {
      grant = changed_by (report.Page p) g;
      open_grant = (there, is);
      of_modem = of_modem;
      of_job = of_job;
      first_page = first_page;
      last_page = last_page;
      call = call;
      pages = ap (λ (i : ℕ). i + 1) pages;
      job = j;
      there = at;
      dial = dial;
    })
agrees_after (report.Outcome o) n modem h k g j there is of_modem of_job first_page last_page call pages at dial e = cc

-- what an accepted report leaves: the queue agrees with what is held then
pub record Accepts (s : Settings) (m : Queue) (t : ℕ) (modem : List ℕ) (h : Held) (x : Report) : Type 0 where
  pub after : Queue
  pub reply : Reply
  pub taken : step s m t (OnGrant h.grant x) ≡ Taken after reply
  pub agrees : (k : Held) → after_report x h ≡ Some k → Agrees after modem k

pub accepts : (s : Settings) (m : Queue) (t : ℕ) (modem : List ℕ) (h : Held) (x : Report) → Sound m → Agrees m modem h → FitsHeld h x → Accepts s m t modem h x
accepts s m t modem h x sound a fits =
    let g = a.grant in
    let held = (aged_sound t m sound).held h.grant g a.open_grant in
    let j = held.0 in
    let made = decides x s.delay t m modem h j a held.2 fits in
    let b = made.0 in
    let left = with_both b (aged t m) in
    let after = stamp t (aged t m) left in
    let becomes = grant_after x s.delay t j g b made.1 in
    let number : b.grant.number ≡ h.grant = ap (λ (z : Grant). z.number) becomes ∙ number_after x g ∙ numbered_grant m h.grant g a.open_grant.0 in
    let there : grant_numbered h.grant after ≡ Some b.grant = placed_here (λ (z : Grant). z.number) h.grant b.grant g m.grants a.open_grant.0 number in
    let job_number : b.job.number ≡ g.job = (reported_in x s.delay t j g b made.1).number ∙ numbered_job (aged t m) g.job j held.1 in
    let job_there : IsJob after h.job b.job = subst (λ (i : ℕ). IsJob after i b.job) a.of_job (placed_here (λ (z : Job). z.number) g.job b.job j (aged t m).jobs held.1 job_number) in
    let one : j ≡ aged_job t a.job = same_job (aged t m) h.job j (aged_job t a.job) (subst (λ (i : ℕ). IsJob (aged t m) i j) a.of_job held.1) (aged_there t m h.job a.job a.there) in
    let dials : b.job.dial ≡ h.dial = report_dial x s.delay t j g b made.1 ∙ ap (λ (z : Job). z.dial) one ∙ aged_dial t a.job ∙ a.dial in
    record {
      after = after;
      reply = report_reply s t x left b;
      taken =
          ap (stamped t (aged t m)) (ap (on_grant s (aged t m) t x) a.open_grant.0
          ∙ ap (on_both s (aged t m) t x g) held.1
          ∙ ap (machine.reported (aged t m) (report_reply s t x) j) made.1);
      agrees = λ k e. agrees_after x after modem h k g b.job (there ∙ ap (λ (z : Grant). Some z) becomes) a.open_grant.1 a.of_modem a.of_job a.first_page a.last_page a.call a.pages job_there dials e;
    }
