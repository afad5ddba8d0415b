-- What a client sees of the queue: a job, its times, the listing of all jobs or of the newest, or the modems.
use Rattle.std.specs.Prelude.{ℕ, ◌-◌, List, drop, length, map, Option, Some, None}
use Rattle.fax_job.specs.JobLines.{job_lines}
use Rattle.fax_job.specs.Spelling.{printed}
use Rattle.fax_job.specs.declared.refusal.Refusal.TheVariants.{NoJob}
use Rattle.fax_ask.specs.Answer as answer
use Rattle.fax_ask.specs.Response.{Response, accepted_response, refused_response}
use Rattle.fax_ask.specs.declared.view.View.{View}
use Rattle.fax_ask.specs.declared.view.View.TheVariants as asked
use Rattle.fax_core.specs.Ageing.{aged}
use Rattle.fax_core.specs.Job.{Job, fields_of}
use Rattle.fax_core.specs.Queue.{Queue, job_numbered, times_numbered}
use Rattle.fax_core.specs.Reply.{NoKeys}
use Rattle.fax_core.specs.Settings.{Settings}
use Rattle.fax_core.specs.State.{state}
use Rattle.fax_core.specs.declared.times.Times.{Times}
use Rattle.fax_text.specs.Listing.{Listed, listing_of}
use Rattle.fax_text.specs.Times.{times_lines}
use Rattle.fax_run.specs.Modems.{modems_shown}

-- a job's key lines, with its state
abbrev pub viewed : Settings → Queue → ℕ → Option Job → Response
viewed s m t None = refused_response NoJob NoKeys
viewed s m t (Some j) = accepted_response (answer.Shown (printed (job_lines (fields_of j) (state s m t j))))

-- the key lines of a job's times
abbrev pub times_viewed : Option Times → Response
times_viewed None = refused_response NoJob NoKeys
times_viewed (Some x) = accepted_response (answer.Shown (printed (times_lines x.submitted x.ended)))

-- a job with the number of its state
abbrev pub with_state : Settings → Queue → ℕ → Job → Listed
with_state s m t j = (fields_of j, state s m t j)

-- the last 200, or all where there are fewer: of jobs by number, those with the greatest numbers
abbrev pub newest : {A : Type 0} → List A → List A
newest xs = drop (length xs - 200) xs

-- what is seen of the queue as it is at t
abbrev pub seen : Settings → Queue → ℕ → View → Response
seen s m t (asked.Job n) = viewed s m t (job_numbered n m)
seen s m t (asked.Times n) = times_viewed (times_numbered n m)
-- a sound queue has its jobs in ascending order of their numbers
seen s m t asked.Jobs = accepted_response (answer.Listed (listing_of s.shows (map (with_state s m t) m.jobs)))
seen s m t asked.Newest = accepted_response (answer.Listed (listing_of s.shows (map (with_state s m t) (newest m.jobs))))
seen s m t asked.Modems = accepted_response (answer.Shown (modems_shown s m))

-- the queue is aged and not stored
abbrev pub view : Settings → Queue → ℕ → View → Response
view s m t what = seen s (aged t m) t what
