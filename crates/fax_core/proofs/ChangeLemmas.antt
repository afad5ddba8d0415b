-- The record of a job after a change, and the job that it is.
use Rattle.std.proofs.Common.{◌≡◌, ℕ, ◌+◌, ◌-◌, List, refl, sym, ap, ◌∙◌}
use Rattle.std.specs.Prelude.{Option, unwrap_or}
use Rattle.std.specs.List.{range_with_len}
use Rattle.std.proofs.lemmas.List.FromFn.{length-range_with_len}
use Rattle.fax_job.specs.declared.job.JobFields.{JobFields}
use Rattle.fax_core.specs.declared.change.Change.{Change}
use Rattle.fax_core.specs.Change.{changed}
use Rattle.fax_core.specs.Job.{Job, job_of, fields_of, pages_to}

-- the record whose fields are what the change names, else what they were
pub fields_changed : (c : Change) (f : JobFields) (modem jobtag status : List ℕ) (tts priority maxtries maxdials : ℕ) (killtime : Option ℕ)
    → modem ≡ unwrap_or c.altered.modem f.modem → jobtag ≡ unwrap_or c.altered.jobtag f.jobtag → tts ≡ unwrap_or c.altered.tts f.tts → killtime ≡ unwrap_or c.altered.killtime f.killtime
    → priority ≡ unwrap_or c.altered.priority f.priority → maxtries ≡ unwrap_or c.altered.maxtries f.maxtries → maxdials ≡ unwrap_or c.altered.maxdials f.maxdials → status ≡ unwrap_or c.status f.status
    → record {
      job = f.job;
      dial = f.dial;
      modem = modem;
      jobtag = jobtag;
      tts = tts;
      killtime = killtime;
      priority = priority;
      npages = c.npages;
      totpages = f.totpages;
      ntries = c.ntries;
      tottries = c.tottries;
      maxtries = maxtries;
      ndials = c.ndials;
      totdials = c.totdials;
      maxdials = maxdials;
      phase = c.phase;
      wish = c.wish;
      next = c.next;
      status = status;
      extra = f.extra;
    }
    ≡ fields_of (changed c (job_of f))
fields_changed c f modem jobtag status tts priority maxtries maxdials killtime is_modem is_jobtag is_tts is_killtime is_priority is_maxtries is_maxdials is_status =
    let named : ◌≡◌ {A = JobFields} _ (record (fields_of (changed c (job_of f))) { npages = c.npages }) = rw (is_modem, is_jobtag, is_tts, is_killtime, is_priority, is_maxtries, is_maxdials, is_status) refl in
    named ∙ ap (λ (n : ℕ). record (fields_of (changed c (job_of f))) { npages = n }) (sym (length-range_with_len 1 c.npages))

-- its record is that of the job after the change
pub changed_again : (c : Change) (j : Job) → job_of (fields_of (changed c j)) ≡ changed c j
changed_again c j = ap (λ (n : ℕ). record (changed c j) { sent = pages_to n; left = range_with_len (n + 1) (j.totpages - n) }) (length-range_with_len 1 c.npages)
