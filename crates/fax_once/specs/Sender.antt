-- Who sent an arrival.
use Rattle.std.specs.Prelude.{◌≡◌, Ok}
use Rattle.fax_run.specs.declared.arrival.Arrival.{Arrival}
use Rattle.fax_once.specs.declared.sender.Sender.{Sender}
use Rattle.fax_run.specs.Arrival.{number_of}
use Rattle.fax_ask.specs.Ask.{IsLawfulStep}
use Rattle.fax_core.specs.declared.ask.Ask.{Ask as Step}
use Rattle.fax_decide.specs.Read.{IsRead}

-- the client as it stands, and the number that its digits write
pub record IsSender (arrival : Arrival) (sender : Sender) : Type 0 where
  pub client : sender.client.now ≡ arrival.client.now
  pub number : number_of arrival ≡ Ok sender.number

-- this sender asks for this step
pub record AsksStep (a : Arrival) (sender : Sender) (ask : Step) : Type 0 where
  pub from : IsSender a sender
  pub lawful : IsLawfulStep ask
  pub read : IsRead ask
