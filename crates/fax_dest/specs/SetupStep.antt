-- What one line does to a setup that is read so far.
use Rattle.std.specs.Prelude.{◌≡◌, ℕ, List, [], ◌∷◌, ◌++◌, Option, Some, None, unwrap_or}
use Rattle.jiff.specs.Types.{TimeZone as JiffZone, UTC}
use Rattle.fax_job.specs.declared.job.Call.{Call}
use Rattle.fax_job.specs.declared.job.Call.TheVariants.{Connected, Busy, NoAnswer, NoCarrier, Other}
use Rattle.fax_dest.specs.Setting.{Setting, DelayAfter}
use Rattle.fax_dest.specs.Setup.{Shown, shown, shown_of, modem_in, class_in, delay_in, jobs_in, grants_in, zone_in, IsZoneFor}
use Rattle.fax_dest.specs.declared.setup.Setup.{Setup}

abbrev pub with_one : {A : Type 0} → List A → Option A → List A
with_one xs None = xs
with_one xs (Some x) = xs ++ x ∷ []

abbrev pub with_setting : Setting → Shown → Shown
with_setting setting s = record {
  modems = with_one s.modems (modem_in setting);
  classes = with_one s.classes (class_in setting);
  busy = unwrap_or (delay_in Busy setting) s.busy;
  no_answer = unwrap_or (delay_in NoAnswer setting) s.no_answer;
  no_carrier = unwrap_or (delay_in NoCarrier setting) s.no_carrier;
  other = unwrap_or (delay_in Other setting) s.other;
  proto = unwrap_or (delay_in Connected setting) s.proto;
  max_jobs = unwrap_or (jobs_in setting) s.max_jobs;
  max_grants = unwrap_or (grants_in setting) s.max_grants;
}

-- the zone that a setting names, or the zone as it was
abbrev pub IsZoneAfter : Option (Option (List ℕ)) → JiffZone → JiffZone → Type 0
IsZoneAfter None old new = new ≡ old
IsZoneAfter (Some text) old new = IsZoneFor text new

pub record IsSetBy (setting : Setting) (old new : Setup) : Type 0 where
  pub shown : shown new ≡ with_setting setting (shown old)
  pub zone : IsZoneAfter (zone_in setting) old.zone new.zone

pub record IsDelaySet (call : Call) (seconds : ℕ) (old new : Setup) : Type 0 where
  pub shown : shown new ≡ with_setting (DelayAfter call seconds) (shown old)
  pub zone : new.zone ≡ old.zone

-- the setup of no lines
pub record IsEmpty (setup : Setup) : Type 0 where
  pub shown : shown setup ≡ shown_of []
  pub zone : setup.zone ≡ UTC
