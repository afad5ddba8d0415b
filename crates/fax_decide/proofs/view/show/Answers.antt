use Rattle.fax_decide.proofs.LookingLemmas.{gives, views}
use Rattle.fax_decide.proofs.view.show.Goals as goal

pub returns-in-Job : goal.returns-in-Job
returns-in-Job g c = views (gives c.show_job.ensures (λ m k at viewed sound. rw c.in-Job.is viewed))

pub returns-in-Times : goal.returns-in-Times
returns-in-Times g c = views (gives c.show_times.ensures (λ m k at viewed sound. rw c.in-Times.is (viewed sound)))

pub returns-in-Jobs : goal.returns-in-Jobs
returns-in-Jobs g c = rw c.in-Jobs.is c.show_jobs.ensures

pub returns-in-Newest : goal.returns-in-Newest
returns-in-Newest g c = rw c.in-Newest.is c.show_newest.ensures

pub returns-in-Modems : goal.returns-in-Modems
returns-in-Modems g c = rw c.in-Modems.is (c.show_modems.ensures c.args.t)
