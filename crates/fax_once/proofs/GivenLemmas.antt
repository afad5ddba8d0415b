-- A reply states a floor exactly where replies are given up.
use Rattle.std.proofs.Common.{◌≡◌, ◌∙◌, ℕ, Bool, true, false, not, List, Option, Some, None, Ok, Err, ap, refl, if◌then◌else◌}
use Rattle.std.specs.Prelude.{⊤, Result, nat_lt}
use Rattle.fax_job.specs.declared.refusal.Refusal.{Refusal}
use Rattle.fax_core.specs.Ageing.{aged}
use Rattle.fax_core.specs.Best.{best}
use Rattle.fax_core.specs.Decisions.{JobAndGrant}
use Rattle.fax_core.specs.Job.{Job}
use Rattle.fax_core.specs.Machine.{act, brought_in, changed, given, given_best, given_free, given_to, held_by, is_down, marked, on_both, on_grant, on_job, reported, report_reply, stamped, submitted}
use Rattle.fax_core.specs.Purge.{purged}
use Rattle.fax_core.specs.Queue.{Queue, grant_numbered, job_numbered}
use Rattle.fax_core.specs.Reply.{Floored, Refused, Reply, Step, Taken}
use Rattle.fax_core.specs.Settings.{Rule, Settings, has_modem}
use Rattle.fax_core.specs.declared.ask.Ask.{Ask}
use Rattle.fax_core.specs.declared.ask.Ask.TheVariants.{Submission, Bring, OnJob, Mark, Next, OnGrant, GiveUp, Purge}
use Rattle.fax_core.specs.declared.ask.JobAsk.{JobAsk}
use Rattle.fax_core.specs.declared.grants.Grant.{Grant}
use Rattle.fax_core.specs.declared.report.Report.{Report}
use Rattle.fax_core.specs.declared.report.Report.TheVariants.{Call, Page, Outcome}
use Rattle.fax_decide.specs.Decision.{given_told}
use Rattle.fax_run.specs.Verdict.{given_by}

-- the reply of the step states no floor
abbrev IsPlain : Step → Type 0
IsPlain (Taken after told) = given_told told ≡ None
IsPlain (Refused e keys) = ⊤

of_both : (b : Bool) (x y : Step) → IsPlain x → IsPlain y → IsPlain (if b then x else y)
of_both true x y one other = one
of_both false x y one other = other

-- none of a job or a modem does
of_submitted : (m : Queue) (rule : Rule) (r : Result Job Refusal) → IsPlain (submitted m rule r)
of_submitted m rule (Ok j) = refl
of_submitted m rule (Err e) = tt

of_brought : (s : Settings) (m : Queue) (t : ℕ) (rule : Rule) (r : Result Job Refusal) → IsPlain (brought_in s m t rule r)
of_brought s m t rule (Ok j) = refl
of_brought s m t rule (Err e) = tt

of_changed : (s : Settings) (m : Queue) (t : ℕ) (r : Result Job Refusal) → IsPlain (changed s m t r)
of_changed s m t (Ok j) = refl
of_changed s m t (Err e) = tt

of_job : (s : Settings) (m : Queue) (t : ℕ) (ask : JobAsk) (found : Option Job) → IsPlain (on_job s m t ask found)
of_job s m t ask None = tt
of_job s m t ask (Some j) = of_changed s m t _

of_marked : (s : Settings) (m : Queue) (modem : List ℕ) (down : Bool) → IsPlain (marked s m modem down)
of_marked s m modem down = of_both (has_modem s modem) _ _ refl tt

-- nor a grant
of_given : (m : Queue) (r : Result JobAndGrant Refusal) → IsPlain (given m r)
of_given m (Ok b) = refl
of_given m (Err e) = tt

of_best : (s : Settings) (m : Queue) (modem : List ℕ) (found : Option Job) → IsPlain (given_best s m modem found)
of_best s m modem None = refl
of_best s m modem (Some j) = of_given m _

of_free : (s : Settings) (m : Queue) (t : ℕ) (modem : List ℕ) (held : Option Grant) → IsPlain (given_free s m t modem held)
of_free s m t modem None = of_best s m modem (best s m t modem)
of_free s m t modem (Some g) = tt

of_next : (s : Settings) (m : Queue) (t : ℕ) (modem : List ℕ) → IsPlain (given_to s m t modem)
of_next s m t modem = of_both (not (has_modem s modem)) _ _ tt (of_both (is_down modem m) _ _ tt (of_free s m t modem (held_by modem m)))

-- nor a report
of_reported : (s : Settings) (m : Queue) (t : ℕ) (report : Report) (j : Job) (r : Result JobAndGrant Refusal) → IsPlain (reported m (report_reply s t report) j r)
of_reported s m t (Call c) j (Ok b) = refl
of_reported s m t (Page p) j (Ok b) = refl
of_reported s m t (Outcome o) j (Ok b) = refl
of_reported s m t report j (Err e) = tt

of_on_both : (s : Settings) (m : Queue) (t : ℕ) (report : Report) (g : Grant) (found : Option Job) → IsPlain (on_both s m t report g found)
of_on_both s m t report g None = tt
of_on_both s m t report g (Some j) = of_reported s m t report j _

of_grant : (s : Settings) (m : Queue) (t : ℕ) (report : Report) (found : Option Grant) → IsPlain (on_grant s m t report found)
of_grant s m t report None = tt
of_grant s m t report (Some g) = of_on_both s m t report g (job_numbered g.job m)

-- nor a purge
of_purged : (m : Queue) (t before : ℕ) → IsPlain (purged m t before)
of_purged m t before = of_both (nat_lt t before) _ _ tt refl

-- nor does the reply to what is taken of such a step
plain_told : (t : ℕ) (m : Queue) (step : Step) (q : Queue) (told : Reply) → IsPlain step → stamped t m step ≡ Taken q told → given_told told ≡ None
plain_told t m (Taken after reply) q told plain is = let same : told ≡ reply = cc in ap given_told same ∙ plain
plain_told t m (Refused e keys) q told plain is = absurd cc

-- the reply states what the request gives up
pub given_as_told : (s : Settings) (m : Queue) (t : ℕ) (ask : Ask) (q : Queue) (told : Reply) → stamped t (aged t m) (act s (aged t m) t ask) ≡ Taken q told → given_told told ≡ given_by ask
given_as_told s m t (Submission order) q told is = plain_told t (aged t m) _ q told (of_submitted (aged t m) _ _) is
given_as_told s m t (Bring i) q told is = plain_told t (aged t m) _ q told (of_brought s (aged t m) t _ _) is
given_as_told s m t (OnJob n ask) q told is = plain_told t (aged t m) _ q told (of_job s (aged t m) t ask (job_numbered n (aged t m))) is
given_as_told s m t (Mark modem down) q told is = plain_told t (aged t m) _ q told (of_marked s (aged t m) modem down) is
given_as_told s m t (Next modem) q told is = plain_told t (aged t m) _ q told (of_next s (aged t m) t modem) is
given_as_told s m t (OnGrant n report) q told is = plain_told t (aged t m) _ q told (of_grant s (aged t m) t report (grant_numbered n (aged t m))) is
given_as_told s m t (GiveUp upto) q told is = let same : told ≡ Floored upto = cc in ap given_told same
given_as_told s m t (Purge before) q told is = plain_told t (aged t m) _ q told (of_purged (aged t m) t before) is
