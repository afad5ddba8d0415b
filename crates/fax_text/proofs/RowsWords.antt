-- Worked rows: words of the command line, and the plans that they spell.
use Rattle.std.specs.Prelude.{◌≡◌, List, [], ◌∷◌, codes, option_and_then, refl, None, Some}
use Rattle.clap.proofs.OnLiterals.{clap_on_literals}
use Rattle.clap.specs.Faults.{fault_of}
use Rattle.clap.specs.Simple.{subcommand_of}
use Rattle.clap.specs.Walk.{Text, first_of}
use Rattle.clap.specs.declared.error.kind.ErrorKind.TheVariants as kind
use Rattle.fax_text.specs.Option.{number_or_none, number_or}
use Rattle.fax_text.specs.Words.{IsPlanOf, program}
use Rattle.fax_text.specs.declared.words.Plan.TheVariants.{Check, List as ListJobs, Sendfax}
use Rattle.fax_text.proofs.RowsSendfax.{of_desk, text}

abbrev desk_words : List Text
desk_words =
    codes "faxqd" ∷ codes "sendfax" ∷ codes "-d" ∷ codes "+1 415 555-0100" ∷ codes "--pages" ∷ codes "3"
    ∷ codes "--client" ∷ codes "desk" ∷ codes "--request" ∷ codes "7" ∷ []

-- the words of a submission have no fault
desk_has_no_fault : fault_of program desk_words ≡ []
unfolding clap_on_literals
desk_has_no_fault = refl

-- they spell this plan
desk_plan : IsPlanOf (subcommand_of program desk_words) (Sendfax of_desk)
unfolding clap_on_literals number_or number_or_none
desk_plan = (
  _,
  refl,
  record {
    destination = refl;
    pages = refl;
    request = refl;
    client = refl;
    priority = refl;
    tries = refl;
    dials = refl;
    at = refl;
    kill = refl;
    tag = refl;
    moment = refl;
    to = refl;
  },
)

-- with an address to send it to
sent_words : List Text
sent_words =
    codes "faxqd" ∷ codes "sendfax" ∷ codes "-d" ∷ codes "5550100" ∷ codes "--pages" ∷ codes "1" ∷ codes "--request" ∷ codes "7"
    ∷ codes "--to" ∷ codes "localhost:4559" ∷ []

-- these have no fault
sent_has_no_fault : fault_of program sent_words ≡ []
unfolding clap_on_literals sent_words
sent_has_no_fault = refl

-- the address is told
sent_address : option_and_then (λ found. first_of (codes "to") found.1) (subcommand_of program sent_words) ≡ Some (codes "localhost:4559")
unfolding clap_on_literals sent_words
sent_address = refl

-- words that ask for a listing
list_words : List Text
list_words = codes "faxqd" ∷ codes "list" ∷ codes "--db" ∷ codes "queue.db" ∷ codes "--moment" ∷ codes "1000" ∷ []

-- have no fault
list_has_no_fault : fault_of program list_words ≡ []
unfolding clap_on_literals list_words
list_has_no_fault = refl

-- and spell this plan
list_plan : IsPlanOf (subcommand_of program list_words) (ListJobs (record { files = record { setup = None; controls = None }; database = text (codes "queue.db"); moment = Some 1000 }))
unfolding clap_on_literals list_words number_or_none
list_plan = (_, refl, record { files = refl; database = refl; moment = refl })

-- a listing needs a database
no_database : fault_of program (codes "faxqd" ∷ codes "list" ∷ []) ≡ kind.MissingRequiredArgument ∷ []
unfolding clap_on_literals
no_database = refl

-- words that ask for a check
check_words : List Text
check_words = codes "faxqd" ∷ codes "check" ∷ codes "--db" ∷ codes "queue.db" ∷ []

-- have no fault
check_has_no_fault : fault_of program check_words ≡ []
unfolding clap_on_literals check_words
check_has_no_fault = refl

-- and spell this plan
check_plan : IsPlanOf (subcommand_of program check_words) (Check (record { database = text (codes "queue.db") }))
unfolding clap_on_literals check_words
check_plan = (_, refl, record { database = refl })

-- an option of sendfax(1) that isn't here
cover_page : fault_of program (codes "faxqd" ∷ codes "sendfax" ∷ codes "-n" ∷ []) ≡ kind.UnknownArgument ∷ []
unfolding clap_on_literals
cover_page = refl

-- a submission needs its options
nothing_is_said : fault_of program (codes "faxqd" ∷ codes "sendfax" ∷ []) ≡ kind.MissingRequiredArgument ∷ []
unfolding clap_on_literals
nothing_is_said = refl

-- the greatest priority is 255
greatest_priority : number_or 127 0 255 (Some (codes "255")) ≡ Some 255
unfolding number_or
greatest_priority = refl

-- 256 is none
past_the_priorities : number_or 127 0 255 (Some (codes "256")) ≡ None
unfolding number_or
past_the_priorities = refl

-- 0 tries are none
no_tries : number_or 3 1 1000 (Some (codes "0")) ≡ None
unfolding number_or
no_tries = refl
