-- Worked rows: the lines of commands that use sockets.
use Rattle.std.specs.Prelude.{◌≡◌, codes, refl}
use Rattle.std.specs.Fmt.{digits}
use Rattle.fax_http.specs.declared.answer.AnswerFault.TheVariants.{NoReply}
use Rattle.fax_net.specs.Listening.{bind_line}
use Rattle.fax_net.specs.Sendfax.{answer_line, refusal, refused_line}
use Rattle.fax_net.specs.declared.peers.BindFault.TheVariants.{Refused}
use Rattle.fax_text.specs.declared.sendfax.SendFault.TheVariants.{Request}

-- another fax under a number that was used
number_was_used : refused_line 409 ≡ codes "faxqd: refused 409\n"
unfolding digits
number_was_used = refl

-- a number that none can have
bad_request : refusal Request ≡ codes "faxqd: bad request\n"
bad_request = refl

-- a reply that is lost
lost_reply : answer_line NoReply ≡ codes "faxqd: no reply\n"
lost_reply = refl

-- an address that another listens on
taken_address : bind_line Refused ≡ codes "faxqd: cannot listen\n"
taken_address = refl
