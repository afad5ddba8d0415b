-- Worked rows: times, and the requests of plans.
use Rattle.std.specs.Prelude.{◌≡◌, ℕ, List, codes, refl, None, Some, Ok, Err}
use Rattle.std.specs.Fmt.{digits}
use Rattle.std.proofs.Common.{Bor}
use Rattle.fax_text.specs.Sendfax.{client_in, destination_in, moment_in, number_in, request_of, tag_in}
use Rattle.fax_text.specs.Time.{behind, seconds_named, span_in, time_in}
use Rattle.fax_text.specs.declared.sendfax.SendFault.TheVariants.{Destination, At, Kill, Client}
use Rattle.fax_text.specs.declared.sendfax.SendPlan.{SendPlan}

-- now is the moment
now_itself : time_in 1000 (codes "now") ≡ Some 1000
unfolding time_in seconds_named
now_itself = refl

-- two hours from now
two_hours : time_in 1000 (codes "now + 2 hours") ≡ Some 8200
unfolding time_in seconds_named behind span_in
two_hours = refl

-- weeks aren't known
weeks : time_in 1000 (codes "now + 2 weeks") ≡ None
unfolding time_in seconds_named behind span_in
weeks = refl

-- two spaces are too many
two_spaces : time_in 1000 (codes "now +  2 hours") ≡ None
unfolding time_in seconds_named behind span_in
two_spaces = refl

-- seven digits are too many
seven_digits : time_in 0 (codes "now + 0000001 minutes") ≡ None
unfolding time_in seconds_named behind span_in
seven_digits = refl

-- the last moment there is
last_day : time_in 4102358400 (codes "now + 1 days") ≡ Some 4102444800
unfolding time_in seconds_named behind span_in
last_day = refl

-- one second past it is none
past_the_last : time_in 4102358401 (codes "now + 1 days") ≡ None
unfolding time_in seconds_named behind span_in
past_the_last = refl

-- ---- requests

abbrev pub text : List ℕ → Bor (List ℕ)
text bytes = record { ref_ptr = (0, 0); now = bytes }

abbrev pub of_desk : SendPlan
of_desk = record {
  destination = text (codes "+1 415 555-0100");
  pages = 3;
  request = text (codes "7");
  client = text (codes "desk");
  priority = 127;
  tries = 3;
  dials = 12;
  at = None;
  kill = None;
  tag = None;
  moment = None;
  to = None;
}

-- a request with the defaults
with_defaults : request_of of_desk 0
    ≡ Ok (codes "POST /jobs HTTP/1.1\r\nHost: localhost\r\nFax-Client: desk\r\nFax-Number: 7\r\nContent-Length: 67\r\n\r\nnumber:+14155550100\npriority:127\ntotpages:3\nmaxtries:3\nmaxdials:12\n")
unfolding request_of destination_in moment_in tag_in client_in number_in digits
with_defaults = refl

-- one with times and a tag
with_times : request_of (record of_desk { at = Some (text (codes "now + 2 hours")); kill = Some (text (codes "now + 1 days")); tag = Some (text (codes "memo")) }) 0
    ≡ Ok (codes "POST /jobs HTTP/1.1\r\nHost: localhost\r\nFax-Client: desk\r\nFax-Number: 7\r\nContent-Length: 103\r\n\r\nnumber:+14155550100\ntts:7200\nkilltime:86400\npriority:127\ntotpages:3\nmaxtries:3\nmaxdials:12\njobtag:memo\n")
unfolding request_of destination_in moment_in tag_in client_in number_in digits time_in seconds_named behind span_in
with_times = refl

-- the first fault is told, whatever else is wrong
bad_destination : request_of (record of_desk { destination = text (codes "call me"); at = Some (text (codes "now + 2 weeks")) }) 0 ≡ Err Destination
unfolding request_of destination_in
bad_destination = refl

-- then the time to send
bad_at : request_of (record of_desk { at = Some (text (codes "now + 2 weeks")); kill = Some (text (codes "now + 2 weeks")) }) 1000 ≡ Err At
unfolding request_of destination_in moment_in time_in seconds_named behind span_in
bad_at = refl

-- then the kill time
bad_kill : request_of (record of_desk { kill = Some (text (codes "now + 2 weeks")); client = text (codes "") }) 1000 ≡ Err Kill
unfolding request_of destination_in moment_in time_in seconds_named behind span_in
bad_kill = refl

-- then the client, before its number
bad_client : request_of (record of_desk { client = text (codes "a b"); request = text (codes "0") }) 0 ≡ Err Client
unfolding request_of destination_in moment_in tag_in client_in
bad_client = refl
