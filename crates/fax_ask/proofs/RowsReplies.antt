-- Worked rows: the bytes of replies and refusals.
use Rattle.std.specs.Prelude.{◌≡◌, refl, false, codes}
use Rattle.std.specs.Fmt.{digits}
use Rattle.json.specs.Print.{escape_byte}
use Rattle.fax_job.specs.declared.lines.LineKind.TheVariants.{NoColon}
use Rattle.fax_job.specs.declared.order.OrderFault.TheVariants.{NoPages}
use Rattle.fax_job.specs.declared.refusal.BodyFault.TheVariants as body
use Rattle.fax_job.specs.declared.refusal.Refusal.TheVariants.{NoRoute, BadBody, ModemBusy, PageOrder, PurgeHigh, Rejected}
use Rattle.fax_core.specs.Reply.{Handed, Submitted, Brought, Stands, Given, Confirmed, Floored, Purged, NoKeys, Notice, HeldGrant, Pages}
use Rattle.fax_ask.specs.Response.{reply_body, refused_body}

-- a submission tells the job
submitted : reply_body (Submitted 1) ≡ codes "{\"job\":1}"
unfolding digits escape_byte
submitted = refl

-- a request on a job tells its state
stands : reply_body (Stands 1 1) ≡ codes "{\"job\":1,\"state\":1}"
unfolding digits escape_byte
stands = refl

-- a client that gives up replies is told its floor
floored : reply_body (Floored 999999999999999999) ≡ codes "{\"floor\":999999999999999999}"
unfolding digits escape_byte
floored = refl

-- a purge tells how many jobs left
purged : reply_body (Purged 1000) ≡ codes "{\"purged\":1000}"
unfolding digits escape_byte
purged = refl

-- an import tells the job and its state
brought : reply_body (Brought 1 5) ≡ codes "{\"job\":1,\"state\":5}"
unfolding digits escape_byte
brought = refl

-- a page tells the pages sent, and whether to stop
confirmed : reply_body (Confirmed 1 false) ≡ codes "{\"npages\":1,\"stop\":false}"
unfolding digits escape_byte
confirmed = refl

abbrev first_grant : Handed
first_grant = record { grant = 1; job = 1; dial = codes "+14155550100"; from = 1; to = 3 }

-- a grant tells its pages, its number, its job and the number to dial
given : reply_body (Given first_grant) ≡ codes "{\"from\":1,\"grant\":1,\"job\":1,\"number\":\"+14155550100\",\"to\":3}"
unfolding digits escape_byte
given = refl

-- ---- refusals

-- a refusal tells its number and word
no_route : refused_body NoRoute NoKeys ≡ codes "{\"no\":3,\"word\":\"no-route\"}"
unfolding digits escape_byte
no_route = refl

-- a purge before a moment that is yet to come
purge_high : refused_body PurgeHigh NoKeys ≡ codes "{\"no\":30,\"word\":\"purge-high\"}"
unfolding digits escape_byte
purge_high = refl

-- a fault of a line tells its line and kind
no_colon : refused_body (BadBody (body.Line 2 NoColon)) NoKeys ≡ codes "{\"kind\":\"no-colon\",\"line\":2,\"no\":6,\"word\":\"bad-body\"}"
unfolding digits escape_byte
no_colon = refl

-- a fault of an order tells its kind
no_pages : refused_body (BadBody (body.Order NoPages)) NoKeys ≡ codes "{\"kind\":\"no-pages\",\"no\":6,\"word\":\"bad-body\"}"
unfolding digits escape_byte
no_pages = refl

-- a rejection tells the notice
rejected : refused_body Rejected (Notice (codes "Number no longer served")) ≡ codes "{\"no\":11,\"notice\":\"Number no longer served\",\"word\":\"rejected\"}"
unfolding digits escape_byte
rejected = refl

-- a busy modem is told the grant that it holds
modem_busy : refused_body ModemBusy (HeldGrant false first_grant) ≡ codes "{\"held\":{\"called\":false,\"from\":1,\"grant\":1,\"job\":1,\"number\":\"+14155550100\",\"to\":3},\"no\":18,\"word\":\"modem-busy\"}"
unfolding digits escape_byte
modem_busy = refl

-- a page out of order tells the pages sent
page_order : refused_body PageOrder (Pages 0) ≡ codes "{\"no\":22,\"npages\":0,\"word\":\"page-order\"}"
unfolding digits escape_byte
page_order = refl
