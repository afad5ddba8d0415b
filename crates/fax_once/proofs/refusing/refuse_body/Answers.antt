use Rattle.fax_once.proofs.SenderLemmas.{sender_plain}
use Rattle.fax_once.proofs.refusing.refuse_body.Goals as goal

pub refused-requires : goal.refused-requires
refused-requires c = sender_plain c.args.arrival.now c.in-Err.refusal c.in-Err.ensures.refused
