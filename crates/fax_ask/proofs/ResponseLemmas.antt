use Rattle.std.proofs.Common.{◌≡◌, ℕ, ◌≤◌, false, length, lit≤, lit<, refl, inl, inr, arith}
use Rattle.fax_job.specs.declared.lines.LineKind.{LineKind}
use Rattle.fax_job.specs.declared.lines.LineKind.TheVariants as line
use Rattle.fax_job.specs.declared.order.OrderFault.{OrderFault}
use Rattle.fax_job.specs.declared.order.OrderFault.TheVariants as order
use Rattle.fax_job.specs.declared.refusal.BodyFault.{BodyFault}
use Rattle.fax_job.specs.declared.refusal.BodyFault.TheVariants.{Line, Order, BadJson, BadField}
use Rattle.fax_job.specs.declared.refusal.Refusal.{Refusal}
use Rattle.fax_job.specs.declared.refusal.Refusal.TheVariants.{BadHttp, TooLarge, NoRoute, BadClient, BadNumber, BadBody, NumberReused, NoJob, NoModem, NoGrant, Rejected, TooManyPages, JobOver, JobActive, NotSuspended, LimitReached, ModemDown, ModemBusy, GrantClosed, CallKnown, NotConnected, PageOrder, CallMissing, PagesMismatch, PagesLeft, Full, Unavailable, GivenUp, FloorHigh, PurgeHigh}
use Rattle.fax_job.specs.Refusal.{body_word, line_word, order_word, refusal_status, refusal_word}
use Rattle.fax_ask.specs.Detail.{has_detail}
use Rattle.fax_ask.specs.Response.{IsAcceptedStatus, plain_body, refusal_bytes}
use Rattle.http.specs.StatusCode.{IsStatusCode}
use Rattle.fax_core.specs.Reply.{Submitted, Brought}
use Rattle.fax_ask.specs.Answer.{Replied, Shown, Listed}
use Rattle.fax_ask.specs.Laws.{AcceptedAre200Or201, OnlyUnavailableIs503}

-- the words of refusals are short
pub short_word : (refusal : Refusal) → length (refusal_word refusal) ≤ 16
short_word BadHttp = lit≤ tt
short_word TooLarge = lit≤ tt
short_word NoRoute = lit≤ tt
short_word BadClient = lit≤ tt
short_word BadNumber = lit≤ tt
short_word (BadBody fault) = lit≤ tt
short_word NumberReused = lit≤ tt
short_word NoJob = lit≤ tt
short_word NoModem = lit≤ tt
short_word NoGrant = lit≤ tt
short_word Rejected = lit≤ tt
short_word TooManyPages = lit≤ tt
short_word JobOver = lit≤ tt
short_word JobActive = lit≤ tt
short_word NotSuspended = lit≤ tt
short_word LimitReached = lit≤ tt
short_word ModemDown = lit≤ tt
short_word ModemBusy = lit≤ tt
short_word GrantClosed = lit≤ tt
short_word CallKnown = lit≤ tt
short_word NotConnected = lit≤ tt
short_word PageOrder = lit≤ tt
short_word CallMissing = lit≤ tt
short_word PagesMismatch = lit≤ tt
short_word PagesLeft = lit≤ tt
short_word Full = lit≤ tt
short_word Unavailable = lit≤ tt
short_word GivenUp = lit≤ tt
short_word FloorHigh = lit≤ tt
short_word PurgeHigh = lit≤ tt

-- the words of faults of lines are short
short_line_word : (kind : LineKind) → length (line_word kind) ≤ 16
short_line_word line.NotText = lit≤ tt
short_line_word line.NoColon = lit≤ tt
short_line_word line.BadTag = lit≤ tt
short_line_word line.Twice = lit≤ tt
short_line_word line.BadValue = lit≤ tt
short_line_word line.OpenEnd = lit≤ tt
short_line_word line.NoMemory = lit≤ tt

-- so are those of faults of orders
short_order_word : (fault : OrderFault) → length (order_word fault) ≤ 16
short_order_word order.NoNumber = lit≤ tt
short_order_word order.BadDial = lit≤ tt
short_order_word order.BadModem = lit≤ tt
short_order_word order.BadJobtag = lit≤ tt
short_order_word order.BadTts = lit≤ tt
short_order_word order.BadKilltime = lit≤ tt
short_order_word order.BadPriority = lit≤ tt
short_order_word order.NoPages = lit≤ tt
short_order_word order.BadPages = lit≤ tt
short_order_word order.BadMaxtries = lit≤ tt
short_order_word order.BadMaxdials = lit≤ tt
short_order_word order.NotAlterable = lit≤ tt
short_order_word order.BadNpages = lit≤ tt
short_order_word order.BadNtries = lit≤ tt
short_order_word order.BadTottries = lit≤ tt
short_order_word order.BadNdials = lit≤ tt
short_order_word order.BadTotdials = lit≤ tt
short_order_word order.BadState = lit≤ tt
short_order_word order.NoMemory = lit≤ tt

-- the kinds of faults are short
pub short_kind : (fault : BodyFault) → length (body_word fault) ≤ 16
short_kind (Line number kind) = short_line_word kind
short_kind (Order fault) = short_order_word fault
short_kind BadJson = lit≤ tt
short_kind BadField = lit≤ tt

-- what says no more than its number and word is no fault of a body
pub plain : (refusal : Refusal) → has_detail refusal ≡ false → plain_body refusal ≡ refusal_bytes refusal
plain (BadBody fault) h = absurd cc
plain other h = refl

-- ---- statuses

-- a reply has the status 200 or 201
pub accepted_statuses : AcceptedAre200Or201
accepted_statuses (Replied (Submitted job)) = inr refl
accepted_statuses (Replied (Brought job state)) = inr refl
accepted_statuses (Replied other) = inl refl
accepted_statuses (Shown lines) = inl refl
accepted_statuses (Listed text) = inl refl

-- 503 stands for want of memory or the store alone
pub unavailable_alone : OnlyUnavailableIs503
unavailable_alone Unavailable keys e = refl
unavailable_alone other keys e = absurd (omega arith)

-- these are statuses of HTTP
pub accepted_status : (status : ℕ) → IsAcceptedStatus status → IsStatusCode status
accepted_status status (inl is) = (omega arith, omega arith)
accepted_status status (inr is) = (omega arith, omega arith)

-- so is that of each refusal
pub refused_status : (refusal : Refusal) → IsStatusCode (refusal_status refusal)
refused_status BadHttp = (lit≤ tt, lit< tt)
refused_status TooLarge = (lit≤ tt, lit< tt)
refused_status NoRoute = (lit≤ tt, lit< tt)
refused_status BadClient = (lit≤ tt, lit< tt)
refused_status BadNumber = (lit≤ tt, lit< tt)
refused_status (BadBody fault) = (lit≤ tt, lit< tt)
refused_status NumberReused = (lit≤ tt, lit< tt)
refused_status NoJob = (lit≤ tt, lit< tt)
refused_status NoModem = (lit≤ tt, lit< tt)
refused_status NoGrant = (lit≤ tt, lit< tt)
refused_status Rejected = (lit≤ tt, lit< tt)
refused_status TooManyPages = (lit≤ tt, lit< tt)
refused_status JobOver = (lit≤ tt, lit< tt)
refused_status JobActive = (lit≤ tt, lit< tt)
refused_status NotSuspended = (lit≤ tt, lit< tt)
refused_status LimitReached = (lit≤ tt, lit< tt)
refused_status ModemDown = (lit≤ tt, lit< tt)
refused_status ModemBusy = (lit≤ tt, lit< tt)
refused_status GrantClosed = (lit≤ tt, lit< tt)
refused_status CallKnown = (lit≤ tt, lit< tt)
refused_status NotConnected = (lit≤ tt, lit< tt)
refused_status PageOrder = (lit≤ tt, lit< tt)
refused_status CallMissing = (lit≤ tt, lit< tt)
refused_status PagesMismatch = (lit≤ tt, lit< tt)
refused_status PagesLeft = (lit≤ tt, lit< tt)
refused_status Full = (lit≤ tt, lit< tt)
refused_status Unavailable = (lit≤ tt, lit< tt)
refused_status GivenUp = (lit≤ tt, lit< tt)
refused_status FloorHigh = (lit≤ tt, lit< tt)
refused_status PurgeHigh = (lit≤ tt, lit< tt)
