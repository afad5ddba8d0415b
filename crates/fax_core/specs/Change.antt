-- What a change makes of a job.
use Rattle.std.specs.Prelude.{◌+◌, ◌-◌, None, unwrap_or, Result, Ok, Err}
use Rattle.std.specs.List.{range_with_len}
use Rattle.fax_job.specs.declared.job.JobFields.{JobFields}
use Rattle.fax_job.specs.declared.refusal.Refusal.{Refusal}
use Rattle.fax_core.specs.declared.change.Altered.{Altered}
use Rattle.fax_core.specs.declared.change.Change.{Change}
use Rattle.fax_core.specs.declared.grants.Grant.{Grant}
use Rattle.fax_core.specs.Decisions.{JobAndGrant}
use Rattle.fax_core.specs.Job.{Job, pages_to}

-- the job afterwards: what the change doesn't name stays
abbrev pub changed : Change → Job → Job
changed c j = record j {
  modem = unwrap_or c.altered.modem j.modem;
  jobtag = unwrap_or c.altered.jobtag j.jobtag;
  tts = unwrap_or c.altered.tts j.tts;
  killtime = unwrap_or c.altered.killtime j.killtime;
  priority = unwrap_or c.altered.priority j.priority;
  maxtries = unwrap_or c.altered.maxtries j.maxtries;
  maxdials = unwrap_or c.altered.maxdials j.maxdials;
  sent = pages_to c.npages;
  left = range_with_len (c.npages + 1) (j.totpages - c.npages);
  ntries = c.ntries;
  tottries = c.tottries;
  ndials = c.ndials;
  totdials = c.totdials;
  phase = c.phase;
  wish = c.wish;
  next = c.next;
  status = unwrap_or c.status j.status;
}

-- what is decided of a job: the job that the change leaves, or the refusal
abbrev pub decided : Job → Result Change Refusal → Result Job Refusal
decided j (Ok change) = Ok (changed change j)
decided j (Err refusal) = Err refusal

-- the same of a job with the grant that goes with the change
abbrev pub decided_with : Grant → Job → Result Change Refusal → Result JobAndGrant Refusal
decided_with g j (Ok change) = Ok (record { job = changed change j; grant = g })
decided_with g j (Err refusal) = Err refusal

-- no field is altered
abbrev pub unaltered : Altered
unaltered = record { modem = None; jobtag = None; tts = None; killtime = None; priority = None; maxtries = None; maxdials = None }

-- the change that leaves the job as it is
abbrev pub unchanged : JobFields → Change
unchanged f = record {
  phase = f.phase;
  wish = f.wish;
  npages = f.npages;
  ntries = f.ntries;
  tottries = f.tottries;
  ndials = f.ndials;
  totdials = f.totdials;
  next = f.next;
  status = None;
  altered = unaltered;
}
