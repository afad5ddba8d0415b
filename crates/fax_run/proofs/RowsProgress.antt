-- Worked rows of progress: what each law says of an example at the ends of its premises.
use Rattle.std.proofs.Common.{arith, ◌≡◌, refl, Some, [], ◌∷◌}
use Rattle.std.specs.Prelude.{codes, is_some, false}
use Rattle.fax_job.specs.declared.job.Phase.TheVariants.{Waiting}
use Rattle.fax_job.specs.declared.refusal.Refusal.TheVariants.{ModemBusy}
use Rattle.fax_core.specs.Ageing.{aged}
use Rattle.fax_core.specs.Best.{MayGo}
use Rattle.fax_core.specs.Job.{Job}
use Rattle.fax_core.specs.Machine.{handed, held_by, step}
use Rattle.fax_core.specs.Queue.{Queue, grant_numbered}
use Rattle.fax_core.specs.Reply.{Given, Handed, HeldGrant, Refused, Reply, Taken}
use Rattle.fax_core.specs.Settings.{Settings}
use Rattle.fax_core.specs.Sound.{IsOpen, Sound}
use Rattle.fax_core.specs.State.{state, state_number}
use Rattle.fax_core.specs.declared.ask.Ask.TheVariants.{Next, OnGrant, Submission}
use Rattle.fax_core.specs.declared.grants.Grant.{Grant}
use Rattle.fax_core.specs.declared.report.Outcome.{Outcome}
use Rattle.fax_core.specs.declared.report.Report.TheVariants as report
use Rattle.fax_core.specs.declared.state.State.TheVariants.{Ready}
use Rattle.fax_core.proofs.RowWords.{◌at◌, after, default_rule, order, settings, ttyS0}
use Rattle.fax_run.specs.Progress.{BusyModemsFindTheirs, FreeModemsAreServed, OpenGrantsCanEnd, WaitingJobsGetReady}

-- ---- words

-- a fax waits, and then a modem holds its grant
abbrev waiting : Queue
waiting = after (Submission (order (codes "5550111") 2) at 1000 ∷ [])

abbrev granted : Queue
granted = after (Submission (order (codes "5550111") 2) at 1000 ∷ Next ttyS0 at 1000 ∷ [])

-- the number of one grant is left
abbrev one_left : Settings
one_left = record settings { max_grants = 1 }

-- two calls to a number may be open
abbrev two_calls : Settings
two_calls = record settings { rule = λ dial. record default_rule { calls = 2 } }

-- ---- rows

-- the last number of a grant is given
free_row : FreeModemsAreServed → (j : Job) → MayGo one_left (aged 2000 waiting) 2000 ttyS0 j → (n : Queue) × (h : Handed) × (step one_left waiting 2000 (Next ttyS0) ≡ Taken n (Given h))
free_row law j goes = law one_left waiting 2000 ttyS0 j (record { known = refl; up = refl }) refl (omega arith) goes

-- a modem that holds a grant is told it
busy_row : BusyModemsFindTheirs → (g : Grant) → held_by ttyS0 granted ≡ Some g
    → step settings granted 2000 (Next ttyS0) ≡ Refused ModemBusy (HeldGrant (is_some g.call) (handed g (aged 2000 granted)))
busy_row law g holds = law settings granted 2000 ttyS0 g (record { known = refl; up = refl }) holds

-- that grant can end
open_row : OpenGrantsCanEnd → Sound granted → (g : Grant) → IsOpen granted 1 g
    → (o : Outcome) × (n : Queue) × (reply : Reply) × (step settings granted 2000 (OnGrant 1 (report.Outcome o)) ≡ Taken n reply)
    × ((h : Grant) → grant_numbered 1 n ≡ Some h → h.is_open ≡ false)
open_row law sound g opened = law settings granted 2000 1 g sound opened

-- a job to the same number is ready at its time to send and its next time, a second before its kill time, beside one call
ready_row : WaitingJobsGetReady → (j : Job)
    → state two_calls granted 1400 (record j { phase = Waiting; dial = codes "5550111"; tts = 1400; next = 1400; killtime = Some 1401 }) ≡ state_number Ready
ready_row law j =
    law two_calls granted 1400 (record j { phase = Waiting; dial = codes "5550111"; tts = 1400; next = 1400; killtime = Some 1401 })
    refl refl (omega arith) (omega arith) refl (omega arith)
