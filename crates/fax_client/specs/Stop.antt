-- How a command ends that stops without its answer.
use Rattle.fax_client.specs.declared.stop.Stop.{Stop}
use Rattle.fax_client.specs.declared.stop.Stop.TheVariants.{NotNow, Later, Journal, Refused, NoMemory}
use Rattle.fax_client.specs.declared.step.StepFault.{StepFault}
use Rattle.fax_client.specs.declared.step.StepFault.TheVariants as step
use Rattle.fax_text.specs.declared.status.Status.{Status}
use Rattle.fax_text.specs.declared.status.Status.TheVariants as status

abbrev pub stop_status : Stop → Status
stop_status NotNow = status.Usage
stop_status Later = status.Later
stop_status Journal = status.Fault
stop_status (Refused refusal) = status.Fault
stop_status NoMemory = status.Fault

abbrev pub step_status : StepFault → Status
step_status step.Modem = status.Usage
step_status step.Action = status.Usage
step_status step.NoMemory = status.Fault
