-- Worked rows of counters: what is counted of the reports on a job, and what came in with it. Of requests the newest comes first.
use Rattle.std.specs.Prelude.{◌≡◌, refl, ℕ, ◌+◌, ◌*◌, true, List, [], ◌∷◌, length, map, codes}
use Rattle.fax_job.specs.declared.import.Import.{Import}
use Rattle.fax_job.specs.declared.job.Call.TheVariants.{Busy, Connected}
use Rattle.fax_core.specs.declared.ask.Ask.{Ask}
use Rattle.fax_core.specs.declared.ask.Ask.TheVariants.{Bring, Next, OnGrant, Submission}
use Rattle.fax_core.specs.declared.report.Report.TheVariants.{Call, Page, Outcome}
use Rattle.fax_core.specs.declared.report.Ending.TheVariants.{Retry}
use Rattle.fax_core.specs.Queue.{empty_queue}
use Rattle.fax_core.proofs.RowWords.{◌at◌, order, report, settings, ttyS0, ttyS1}
use Rattle.fax_run.specs.Counts.{Counters, brought_with, counters_of, counts, reports_of}
use Rattle.fax_run.specs.Run.{Fed, queue_after, under}

-- ---- words

-- somebody asks for this at 1000, an hour later for each request before it
abbrev fed : List Ask → List Fed
fed [] = []
fed (ask ∷ earlier) =
    under settings (record { client = codes "w0"; number = length earlier + 1; said = []; request = ask at (1000 + 3600 * length earlier) }) ∷ fed earlier

-- the counters of a job behind these
abbrev counted : ℕ → List Ask → Counters
counted job asks = counts (brought_with empty_queue job (fed asks)) (reports_of empty_queue job (fed asks))

-- the calls, the connected ones, each in all and since the last that came further, and the pages
abbrev these : ℕ → ℕ → ℕ → ℕ → ℕ → Counters
these totdials ndials tottries ntries npages = record { totdials = totdials; tottries = tottries; ndials = ndials; npages = npages; ntries = ntries }

-- ---- a submission

-- a busy call, and the grant is over
abbrev busy_once : List Ask
busy_once = OnGrant 1 (Outcome (report true Retry 0 [])) ∷ OnGrant 1 (Call Busy) ∷ Next ttyS0 ∷ Submission (order (codes "5550111") 3) ∷ []

-- a call is a dial
busy_row : counted 1 busy_once ≡ these 1 1 0 0 0
busy_row = refl

-- a connected one is a try, and no dial in a row is left
abbrev connected : List Ask
connected = OnGrant 2 (Call Connected) ∷ Next ttyS0 ∷ busy_once

connected_row : counted 1 connected ≡ these 2 0 1 1 0
connected_row = refl

-- a page leaves no try in a row
page_row : counted 1 (OnGrant 2 (Page 1) ∷ connected) ≡ these 2 0 1 0 1
page_row = refl

-- the next try is one, in a row, and two in all
abbrev twice : List Ask
twice = OnGrant 3 (Call Connected) ∷ Next ttyS0 ∷ OnGrant 2 (Outcome (report true Retry 1 [])) ∷ OnGrant 2 (Page 1) ∷ connected

twice_row : counted 1 twice ≡ these 3 0 2 1 1
twice_row = refl

-- what isn't a report on its grants counts for no job
others_row : counted 2 (Submission (order (codes "5550112") 1) ∷ twice) ≡ these 0 0 0 0 0
others_row = refl

-- a report on a grant that was never given counts for nothing
never_given_row : reports_of empty_queue 1 (fed (OnGrant 7 (Call Busy) ∷ busy_once)) ≡ Outcome (report true Retry 0 []) ∷ Call Busy ∷ []
never_given_row = refl

-- of reports the newest comes first
reports_row : reports_of empty_queue 1 (fed (OnGrant 2 (Page 1) ∷ connected)) ≡ Page 1 ∷ Call Connected ∷ Outcome (report true Retry 0 []) ∷ Call Busy ∷ []
reports_row = refl

-- ---- an import

-- four pages of six were sent; of seven calls three were connected, the last of them since the fourth page, and then two were busy
abbrev older : Import
older = record { order = record (order (codes "5550111") 6) { maxtries = 9 }; npages = 4; ntries = 1; tottries = 3; ndials = 2; totdials = 7; state = 5; status = [] }

abbrev brought : List Ask
brought = Bring older ∷ []

-- a job comes in with its counters
brought_row : counted 1 brought ≡ these 7 2 3 1 4
brought_row = refl

-- they are those of the job
counters_row : map counters_of (queue_after empty_queue (fed brought)).jobs ≡ these 7 2 3 1 4 ∷ []
counters_row = refl

-- a call is one more, in a row too
brought_busy_row : counted 1 (OnGrant 1 (Call Busy) ∷ Next ttyS1 ∷ brought) ≡ these 8 3 3 1 4
brought_busy_row = refl

-- behind a connected one what came in counts in all, and of the calls in a row no more
abbrev brought_connected : List Ask
brought_connected = OnGrant 1 (Call Connected) ∷ Next ttyS1 ∷ brought

brought_connected_row : counted 1 brought_connected ≡ these 8 0 4 2 4
brought_connected_row = refl

-- behind a page the tries in a row are none
brought_page_row : counted 1 (OnGrant 1 (Page 5) ∷ brought_connected) ≡ these 8 0 4 0 5
brought_page_row = refl

-- a job may come in behind another
brought_second_row : counted 2 (Bring older ∷ Submission (order (codes "5550112") 1) ∷ []) ≡ these 7 2 3 1 4
brought_second_row = refl

-- what is refused brings nothing in, gives no grant and leaves the queue
refused_row : counted 1 (OnGrant 7 (Call Busy) ∷ Next (codes "ttyS9") ∷ brought) ≡ these 7 2 3 1 4
refused_row = refl

refused_left_row : (queue_after empty_queue (fed (Next (codes "ttyS9") ∷ brought))).next_job ≡ 2
refused_left_row = refl

-- the next job didn't come in with them
brought_alone_row : counted 2 (Submission (order (codes "5550112") 1) ∷ brought) ≡ these 0 0 0 0 0
brought_alone_row = refl
