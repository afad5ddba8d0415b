-- What is told with refusals, in the machine's words.
use Rattle.std.specs.Prelude.{Bool, true, false}
use Rattle.fax_job.specs.declared.refusal.Refusal.{Refusal}
use Rattle.fax_job.specs.declared.refusal.Refusal.TheVariants as refusal
use Rattle.fax_core.specs.Reply as machine
use Rattle.fax_ask.specs.declared.detail.Detail.{Detail}
use Rattle.fax_ask.specs.declared.detail.Detail.TheVariants.{Body, Rejected, Held, PageOrder}
use Rattle.fax_ask.specs.Answer.{grant_told}

abbrev pub refusal_in : Detail → Refusal
refusal_in (Body fault) = refusal.BadBody fault
refusal_in (Rejected notice) = refusal.Rejected
refusal_in (Held called handed) = refusal.ModemBusy
refusal_in (PageOrder npages) = refusal.PageOrder

abbrev pub keys_in : Detail → machine.Keys
keys_in (Body fault) = machine.NoKeys
keys_in (Rejected notice) = machine.Notice notice.now
keys_in (Held called handed) = machine.HeldGrant called (grant_told handed)
keys_in (PageOrder npages) = machine.Pages npages

-- the refusals that say more than their number and word
abbrev pub has_detail : Refusal → Bool
has_detail (refusal.BadBody fault) = true
has_detail refusal.Rejected = true
has_detail refusal.ModemBusy = true
has_detail refusal.PageOrder = true
has_detail other = false
