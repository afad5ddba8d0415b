-- Refusals of requests, and what is wrong with bodies.
use Rattle.std.specs.Prelude.{ℕ, List, codes, Option, Some, None}
use Rattle.fax_job.specs.declared.lines.LineKind.{LineKind}
use Rattle.fax_job.specs.declared.lines.LineKind.TheVariants as line
use Rattle.fax_job.specs.declared.order.OrderFault.{OrderFault}
use Rattle.fax_job.specs.declared.order.OrderFault.TheVariants as order
use Rattle.fax_job.specs.declared.refusal.BodyFault.{BodyFault}
use Rattle.fax_job.specs.declared.refusal.BodyFault.TheVariants.{Line, Order, BadJson, BadField}
use Rattle.fax_job.specs.declared.refusal.Refusal.{Refusal}
use Rattle.fax_job.specs.declared.refusal.Refusal.TheVariants.{BadHttp, TooLarge, NoRoute, BadClient, BadNumber, BadBody, NumberReused, NoJob, NoModem, NoGrant, Rejected, TooManyPages, JobOver, JobActive, NotSuspended, LimitReached, ModemDown, ModemBusy, GrantClosed, CallKnown, NotConnected, PageOrder, CallMissing, PagesMismatch, PagesLeft, Full, Unavailable, GivenUp, FloorHigh, PurgeHigh}

-- the words that replies have for faults
abbrev pub line_word : LineKind → List ℕ
line_word line.NotText = codes "not-text"
line_word line.NoColon = codes "no-colon"
line_word line.BadTag = codes "bad-tag"
line_word line.Twice = codes "twice"
line_word line.BadValue = codes "bad-value"
line_word line.OpenEnd = codes "open-end"
line_word line.NoMemory = codes "no-memory"

abbrev pub order_word : OrderFault → List ℕ
order_word order.NoNumber = codes "no-number"
order_word order.BadDial = codes "bad-dial"
order_word order.BadModem = codes "bad-modem"
order_word order.BadJobtag = codes "bad-jobtag"
order_word order.BadTts = codes "bad-tts"
order_word order.BadKilltime = codes "bad-killtime"
order_word order.BadPriority = codes "bad-priority"
order_word order.NoPages = codes "no-pages"
order_word order.BadPages = codes "bad-pages"
order_word order.BadMaxtries = codes "bad-maxtries"
order_word order.BadMaxdials = codes "bad-maxdials"
order_word order.NotAlterable = codes "not-alterable"
order_word order.BadNpages = codes "bad-npages"
order_word order.BadNtries = codes "bad-ntries"
order_word order.BadTottries = codes "bad-tottries"
order_word order.BadNdials = codes "bad-ndials"
order_word order.BadTotdials = codes "bad-totdials"
order_word order.BadState = codes "bad-state"
order_word order.NoMemory = codes "no-memory"

abbrev pub body_word : BodyFault → List ℕ
body_word (Line number kind) = line_word kind
body_word (Order fault) = order_word fault
body_word BadJson = codes "bad-json"
body_word BadField = codes "bad-field"

-- the line at fault, of the text of key lines alone
abbrev pub body_line : BodyFault → Option ℕ
body_line (Line number kind) = Some number
body_line (Order fault) = None
body_line BadJson = None
body_line BadField = None

abbrev pub refusal_number : Refusal → ℕ
refusal_number BadHttp = 1
refusal_number TooLarge = 2
refusal_number NoRoute = 3
refusal_number BadClient = 4
refusal_number BadNumber = 5
refusal_number (BadBody fault) = 6
refusal_number NumberReused = 7
refusal_number NoJob = 8
refusal_number NoModem = 9
refusal_number NoGrant = 10
refusal_number Rejected = 11
refusal_number TooManyPages = 12
refusal_number JobOver = 13
refusal_number JobActive = 14
refusal_number NotSuspended = 15
refusal_number LimitReached = 16
refusal_number ModemDown = 17
refusal_number ModemBusy = 18
refusal_number GrantClosed = 19
refusal_number CallKnown = 20
refusal_number NotConnected = 21
refusal_number PageOrder = 22
refusal_number CallMissing = 23
refusal_number PagesMismatch = 24
refusal_number PagesLeft = 25
refusal_number Full = 26
refusal_number Unavailable = 27
refusal_number GivenUp = 28
refusal_number FloorHigh = 29
refusal_number PurgeHigh = 30

abbrev pub refusal_word : Refusal → List ℕ
refusal_word BadHttp = codes "bad-http"
refusal_word TooLarge = codes "too-large"
refusal_word NoRoute = codes "no-route"
refusal_word BadClient = codes "bad-client"
refusal_word BadNumber = codes "bad-number"
refusal_word (BadBody fault) = codes "bad-body"
refusal_word NumberReused = codes "number-reused"
refusal_word NoJob = codes "no-job"
refusal_word NoModem = codes "no-modem"
refusal_word NoGrant = codes "no-grant"
refusal_word Rejected = codes "rejected"
refusal_word TooManyPages = codes "too-many-pages"
refusal_word JobOver = codes "job-over"
refusal_word JobActive = codes "job-active"
refusal_word NotSuspended = codes "not-suspended"
refusal_word LimitReached = codes "limit-reached"
refusal_word ModemDown = codes "modem-down"
refusal_word ModemBusy = codes "modem-busy"
refusal_word GrantClosed = codes "grant-closed"
refusal_word CallKnown = codes "call-known"
refusal_word NotConnected = codes "not-connected"
refusal_word PageOrder = codes "page-order"
refusal_word CallMissing = codes "call-missing"
refusal_word PagesMismatch = codes "pages-mismatch"
refusal_word PagesLeft = codes "pages-left"
refusal_word Full = codes "full"
refusal_word Unavailable = codes "unavailable"
refusal_word GivenUp = codes "given-up"
refusal_word FloorHigh = codes "floor-high"
refusal_word PurgeHigh = codes "purge-high"

-- RFC 9110, section 15
abbrev pub refusal_status : Refusal → ℕ
refusal_status BadHttp = 400
refusal_status TooLarge = 413
refusal_status NoRoute = 404
refusal_status BadClient = 400
refusal_status BadNumber = 400
refusal_status (BadBody fault) = 400
refusal_status NumberReused = 409
refusal_status NoJob = 404
refusal_status NoModem = 404
refusal_status NoGrant = 404
refusal_status Rejected = 403
refusal_status TooManyPages = 403
refusal_status JobOver = 409
refusal_status JobActive = 409
refusal_status NotSuspended = 409
refusal_status LimitReached = 409
refusal_status ModemDown = 409
refusal_status ModemBusy = 409
refusal_status GrantClosed = 409
refusal_status CallKnown = 409
refusal_status NotConnected = 409
refusal_status PageOrder = 409
refusal_status CallMissing = 409
refusal_status PagesMismatch = 409
refusal_status PagesLeft = 409
refusal_status Full = 507
refusal_status Unavailable = 503
refusal_status GivenUp = 410
refusal_status FloorHigh = 409
refusal_status PurgeHigh = 409

-- want of memory is no fault of the body
abbrev pub line_refusal : ℕ → LineKind → Refusal
line_refusal number line.NoMemory = Unavailable
line_refusal number kind = BadBody (Line number kind)

abbrev pub order_refusal : OrderFault → Refusal
order_refusal order.NoMemory = Unavailable
order_refusal fault = BadBody (Order fault)
