-- Worked rows: grants, reports and outcomes.
use Rattle.std.specs.Prelude.{◌≡◌, refl, ℕ, true, false, List, [], ◌∷◌, ◌++◌, map, codes, Some}
use Rattle.fax_job.specs.declared.job.Call.TheVariants.{Connected, Busy}
use Rattle.fax_job.specs.declared.refusal.Refusal.TheVariants.{ModemBusy, NotConnected, PagesMismatch}
use Rattle.fax_core.specs.declared.report.Ending.TheVariants.{Done, Retry}
use Rattle.fax_core.specs.declared.ask.Ask.TheVariants.{Submission, OnJob, Next, OnGrant}
use Rattle.fax_core.specs.declared.ask.JobAsk.TheVariants.{Kill}
use Rattle.fax_core.specs.declared.report.Report.TheVariants.{Call, Page, Outcome}
use Rattle.fax_core.specs.Reply.{Submitted, Stands, NoneToSend, Given, Called, Confirmed, NoKeys, HeldGrant}
use Rattle.fax_core.specs.Run.{Request, Replied, Denied}
use Rattle.fax_core.proofs.RowWords.{ttyS0, ttyS1, order, report, hand, ◌at◌, told, after, shown, statuses}

abbrev pub long_number : List ℕ
long_number = codes "+14155550100"

abbrev pub first_grant : List Request
first_grant = Submission (order long_number 3) at 1000 ∷ Next ttyS0 at 1000 ∷ []

-- a job that is submitted is given to the first modem that asks
first_grant_row : told first_grant ≡ Replied (Submitted 1) ∷ Replied (Given (hand 1 1 long_number 1 3)) ∷ []
first_grant_row = refl

abbrev two_clients : List Request
two_clients = Submission (order long_number 3) at 1000 ∷ Submission (order long_number 3) at 1000 ∷ Next ttyS0 at 1000 ∷ []

-- of two jobs to one number, one is given at a time
two_clients_row : told (two_clients ++ Next ttyS1 at 1000 ∷ []) ≡ Replied (Submitted 1) ∷ Replied (Submitted 2) ∷ Replied (Given (hand 1 1 long_number 1 3)) ∷ Replied NoneToSend ∷ []
two_clients_row = refl

-- the other is blocked
two_clients_shown : shown (after two_clients) 1000 ≡ 6 ∷ 4 ∷ []
two_clients_shown = refl

abbrev choice : List Request
choice =
    Submission (record (order (codes "5550113") 1) { priority = 100 }) at 1000
    ∷ Submission (record (order (codes "5550113") 1) { priority = 126 }) at 1000
    ∷ Submission (order (codes "5550111") 1) at 1000
    ∷ Submission (record (order (codes "5550112") 1) { tts = Some 500 }) at 1000
    ∷ Next ttyS1 at 1000 ∷ Next ttyS0 at 1000 ∷ []

-- of four jobs the best is given that the modem admits and whose number is free
choice_row : told choice ≡
    Replied (Submitted 1) ∷ Replied (Submitted 2) ∷ Replied (Submitted 3) ∷ Replied (Submitted 4)
    ∷ Replied (Given (hand 1 1 (codes "5550113") 1 1)) ∷ Replied (Given (hand 2 4 (codes "5550112") 1 1)) ∷ []
choice_row = refl

-- the second is blocked, and the third is ready
choice_shown : shown (after choice) 1000 ≡ 6 ∷ 4 ∷ 5 ∷ 6 ∷ []
choice_shown = refl

abbrev pub page_before_call : List Request
page_before_call = first_grant ++ OnGrant 1 (Page 1) at 1010 ∷ OnGrant 1 (Call Connected) at 1011 ∷ OnGrant 1 (Page 1) at 1012 ∷ []

-- a page isn't confirmed before the call is
page_before_call_row : told page_before_call ≡
    Replied (Submitted 1) ∷ Replied (Given (hand 1 1 long_number 1 3))
    ∷ Denied NotConnected NoKeys ∷ Replied (Called false) ∷ Replied (Confirmed 1 false) ∷ []
page_before_call_row = refl

abbrev pub outcome_before_page : List Request
outcome_before_page =
    page_before_call
    ++ OnGrant 1 (Outcome (report true Retry 2 (codes "line dropped"))) at 1020 ∷ OnGrant 1 (Page 2) at 1021
    ∷ OnGrant 1 (Outcome (report true Retry 2 (codes "line dropped"))) at 1022 ∷ []

-- an outcome is refused until its pages are those confirmed
outcome_before_page_row : told outcome_before_page ≡
    Replied (Submitted 1) ∷ Replied (Given (hand 1 1 long_number 1 3))
    ∷ Denied NotConnected NoKeys ∷ Replied (Called false) ∷ Replied (Confirmed 1 false)
    ∷ Denied PagesMismatch NoKeys ∷ Replied (Confirmed 2 false) ∷ Replied (Stands 1 3) ∷ []
outcome_before_page_row = refl

-- the job is called again 60 seconds after the outcome at the earliest
outcome_before_page_next : map (λ j. j.next) (after outcome_before_page).jobs ≡ 1082 ∷ []
outcome_before_page_next = refl

abbrev pub retry_goes_on : List Request
retry_goes_on =
    outcome_before_page
    ++ Next ttyS0 at 1081 ∷ Next ttyS0 at 1082 ∷ OnGrant 2 (Call Connected) at 1083 ∷ OnGrant 2 (Page 3) at 1083
    ∷ OnGrant 2 (Outcome (report true Done 1 [])) at 1083 ∷ []

-- then it goes on with the page behind those sent
retry_goes_on_row : told retry_goes_on ≡
    Replied (Submitted 1) ∷ Replied (Given (hand 1 1 long_number 1 3))
    ∷ Denied NotConnected NoKeys ∷ Replied (Called false) ∷ Replied (Confirmed 1 false)
    ∷ Denied PagesMismatch NoKeys ∷ Replied (Confirmed 2 false) ∷ Replied (Stands 1 3)
    ∷ Replied NoneToSend ∷ Replied (Given (hand 2 1 long_number 3 3)) ∷ Replied (Called false) ∷ Replied (Confirmed 3 false)
    ∷ Replied (Stands 1 7) ∷ []
retry_goes_on_row = refl

-- a job that is killed while granted stops, and fails when its grant ends
kill_while_granted_row : told (first_grant ++ OnJob 1 Kill at 1005 ∷ OnGrant 1 (Call Connected) at 1006 ∷ OnGrant 1 (Outcome (report true Retry 0 [])) at 1007 ∷ []) ≡
    Replied (Submitted 1) ∷ Replied (Given (hand 1 1 long_number 1 3))
    ∷ Replied (Stands 1 6) ∷ Replied (Called true) ∷ Replied (Stands 1 8) ∷ []
kill_while_granted_row = refl

-- its status tells so
kill_while_granted_status : statuses (after (first_grant ++ OnJob 1 Kill at 1005 ∷ OnGrant 1 (Call Connected) at 1006
    ∷ OnGrant 1 (Outcome (report true Retry 0 [])) at 1007 ∷ [])) 1007 ≡ codes "Killed" ∷ []
kill_while_granted_status = refl

-- all pages are confirmed all the same
killed_but_sent_row : told (first_grant ++ OnJob 1 Kill at 1005 ∷ OnGrant 1 (Call Connected) at 1006 ∷ OnGrant 1 (Page 1) at 1007 ∷ OnGrant 1 (Page 2) at 1007
    ∷ OnGrant 1 (Page 3) at 1007 ∷ OnGrant 1 (Outcome (report true Retry 3 [])) at 1007 ∷ []) ≡
    Replied (Submitted 1) ∷ Replied (Given (hand 1 1 long_number 1 3))
    ∷ Replied (Stands 1 6) ∷ Replied (Called true) ∷ Replied (Confirmed 1 true) ∷ Replied (Confirmed 2 true) ∷ Replied (Confirmed 3 true)
    ∷ Replied (Stands 1 7) ∷ []
killed_but_sent_row = refl

abbrev connected_round : ℕ → ℕ → List Request
connected_round grant moment = Next ttyS0 at moment ∷ OnGrant grant (Call Connected) at moment ∷ OnGrant grant (Outcome (report true Retry 0 [])) at moment ∷ []

abbrev three_tries : ℕ → List Request
three_tries maxtries = Submission (record (order (codes "5550111") 2) { maxtries = maxtries }) at 1000 ∷ connected_round 1 1000 ++ connected_round 2 1060 ++ connected_round 3 1120

-- the third try of a page without success fails the job
too_many_tries_row : told (three_tries 5) ≡
    Replied (Submitted 1)
    ∷ Replied (Given (hand 1 1 (codes "5550111") 1 2)) ∷ Replied (Called false) ∷ Replied (Stands 1 3)
    ∷ Replied (Given (hand 2 1 (codes "5550111") 1 2)) ∷ Replied (Called false) ∷ Replied (Stands 1 3)
    ∷ Replied (Given (hand 3 1 (codes "5550111") 1 2)) ∷ Replied (Called false) ∷ Replied (Stands 1 8) ∷ []
too_many_tries_row = refl

-- its status tells so
too_many_tries_of_a_page : statuses (after (three_tries 5)) 1120 ≡ codes "Unable to transmit page" ∷ []
too_many_tries_of_a_page = refl

-- so does the third try in all, where three are allowed
too_many_tries_in_all : statuses (after (three_tries 3)) 1120 ≡ codes "Too many attempts to transmit" ∷ []
too_many_tries_in_all = refl

abbrev busy_round : ℕ → ℕ → List Request
busy_round grant moment = Next ttyS0 at moment ∷ OnGrant grant (Call Busy) at moment ∷ OnGrant grant (Outcome (report true Retry 0 [])) at moment ∷ []

abbrev twelve_dials : List Request
twelve_dials =
    Submission (order (codes "5550111") 1) at 1000
    ∷ busy_round 1 1000 ++ busy_round 2 1180 ++ busy_round 3 1360 ++ busy_round 4 1540 ++ busy_round 5 1720 ++ busy_round 6 1900
    ++ busy_round 7 2080 ++ busy_round 8 2260 ++ busy_round 9 2440 ++ busy_round 10 2620 ++ busy_round 11 2800 ++ busy_round 12 2980

-- twelve dials are counted, in a row and in all
too_many_dials_counted : map (λ j. j.ndials ∷ j.totdials ∷ j.tottries ∷ []) (after twelve_dials).jobs ≡ (12 ∷ 12 ∷ 0 ∷ []) ∷ []
too_many_dials_counted = refl

-- the status tells that they were too many
too_many_dials_status : statuses (after twelve_dials) 2980 ≡ codes "Too many attempts to dial" ∷ []
too_many_dials_status = refl

-- a modem that holds a grant is told of it, and whether its call is known
modem_busy_row : told (first_grant ++ Next ttyS0 at 1100 ∷ OnGrant 1 (Call Busy) at 1100 ∷ Next ttyS0 at 1100 ∷ []) ≡
    Replied (Submitted 1) ∷ Replied (Given (hand 1 1 long_number 1 3))
    ∷ Denied ModemBusy (HeldGrant false (hand 1 1 long_number 1 3)) ∷ Replied (Called false) ∷ Denied ModemBusy (HeldGrant true (hand 1 1 long_number 1 3)) ∷ []
modem_busy_row = refl

-- a class of modems
abbrev modem_class : List Request
modem_class = Submission (record (order (codes "5550111") 1) { modem = codes "fast" }) at 1000 ∷ Next ttyS1 at 1000 ∷ Next ttyS0 at 1000 ∷ []

-- a job for fast modems is given to a fast one
modem_class_row : told modem_class ≡ Replied (Submitted 1) ∷ Replied NoneToSend ∷ Replied (Given (hand 1 1 (codes "5550111") 1 1)) ∷ []
modem_class_row = refl
