-- The state of a job, and whether a call to a number may begin, where the calls to it are told.
use Rattle.std.specs.Prelude.{ℕ, Bool, ◌&&◌, List, nat_lt}
use Rattle.fax_core.specs.Job.{Job}
use Rattle.fax_core.specs.Settings.{Settings}
use Rattle.fax_core.specs.State.{state_at}

-- by the rule of its number
abbrev pub state_with : Settings → Job → ℕ → ℕ → ℕ
state_with s j calls t = state_at j ((s.rule j.dial).hours t) calls (s.rule j.dial).calls t

-- the hours of the number's rule have t, and it has fewer calls than the rule allows
abbrev pub may_call : Settings → List ℕ → ℕ → ℕ → Bool
may_call s dial calls t = (s.rule dial).hours t && nat_lt calls (s.rule dial).calls
