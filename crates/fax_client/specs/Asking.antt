-- One try of a request.
use Rattle.std.specs.Prelude.{◌≡◌, ◌⊎◌, Option, Some, None, Result, Ok, Err}
use Rattle.fax_http.specs.declared.answer.Answer.{Answer as Response}
use Rattle.fax_http.specs.declared.answer.AnswerFault.TheVariants as fault
use Rattle.fax_client.specs.Line.{Carrying, Reply}
use Rattle.fax_client.specs.Message.{get_modems}
use Rattle.fax_client.specs.declared.stop.Stop.{Stop}
use Rattle.fax_client.specs.declared.stop.Stop.TheVariants.{NoMemory}

-- what came back, if a reply did
abbrev pub heard : Reply → Result (Option Response) Stop
heard (Ok response) = Ok (Some response)
heard (Err fault.NoReply) = Ok None
heard (Err fault.NoMemory) = Err NoMemory

-- nothing is sent, or it is asked what the modems hold
abbrev pub MayLook : {L J : Type 0} → Carrying L J → L → J → L → Type 0
MayLook carries old journal new = (new ≡ old) ⊎ ((back : Reply) × carries old journal get_modems back new)
