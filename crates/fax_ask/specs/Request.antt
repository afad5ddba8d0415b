-- The table of requests: which method and path name which.
use Rattle.std.specs.Prelude.{ℕ, true, false, List, [], ◌∷◌, ◌==◌, length, codes, Option, Some, None, option_and_then, option_map, if◌then◌else◌}
use Rattle.std.specs.Str.{bytes_eq}
use Rattle.fax_value.specs.Name.{is_name}
use Rattle.fax_value.specs.Number.{request_number_of}
use Rattle.fax_ask.specs.declared.method.Method.{Method}
use Rattle.fax_ask.specs.declared.method.Method.TheVariants.{Get, Post, Another}
use Rattle.fax_ask.specs.declared.request.Action.TheVariants.{Suspend, Resume, Kill, Alter}
use Rattle.fax_ask.specs.declared.request.ReportKind.TheVariants.{Call, Page, Outcome}
use Rattle.fax_ask.specs.declared.request.Request.{Request}
use Rattle.fax_ask.specs.declared.request.Request.TheVariants.{Show, Submit, Import, OnJob, Mark, Next, OnGrant, Floor, Purge}
use Rattle.fax_ask.specs.declared.view.View.{View}
use Rattle.fax_ask.specs.declared.view.View.TheVariants as view
use Rattle.fax_ask.specs.Path.{parts, two_texts}

-- POST /jobs/{id}/ACTION
abbrev pub job_action : ℕ → List ℕ → Option Request
job_action job action =
    if bytes_eq action (codes "suspend") then Some (OnJob job Suspend)
    else if bytes_eq action (codes "resume") then Some (OnJob job Resume)
    else if bytes_eq action (codes "kill") then Some (OnJob job Kill)
    else if bytes_eq action (codes "alter") then Some (OnJob job Alter)
    else None

-- what GET shows at /jobs/{id}: the newest jobs, or the job of a number
abbrev pub job_view : List ℕ → Option View
job_view id = if bytes_eq id (codes "newest") then Some view.Newest else option_map view.Job (request_number_of id)

-- GET /jobs/{id}/times
abbrev pub job_times : ℕ → List ℕ → Option Request
job_times job word = if bytes_eq word (codes "times") then Some (Show (view.Times job)) else None

-- POST /jobs/purge
abbrev pub job_posted : List ℕ → Option Request
job_posted id = if bytes_eq id (codes "purge") then Some Purge else None

-- GET /jobs/{id}, POST /jobs/purge, and what stands below them
abbrev pub job_request : Method → List ℕ → List (List ℕ) → Option Request
job_request Get id [] = option_map Show (job_view id)
job_request Get id (word ∷ []) = option_and_then (λ job. job_times job word) (request_number_of id)
job_request Post id [] = job_posted id
job_request Post id (action ∷ []) = option_and_then (λ job. job_action job action) (request_number_of id)
job_request method id rest = None

-- GET and POST of /jobs, and what stands below; {id} is 1 to 18 digits, the first not 0
abbrev pub jobs_request : Method → List (List ℕ) → Option Request
jobs_request Get [] = Some (Show view.Jobs)
jobs_request Post [] = Some Submit
jobs_request method (id ∷ rest) = job_request method id rest
jobs_request method [] = None

-- POST /modems/{m}/ACTION
abbrev pub modem_action : List ℕ → List ℕ → Option Request
modem_action modem action =
    if bytes_eq action (codes "ready") then Some (Mark modem false)
    else if bytes_eq action (codes "down") then Some (Mark modem true)
    else if bytes_eq action (codes "next") then Some (Next modem)
    else None

-- {m} is 1 to 32 of `A-Za-z0-9._-`
abbrev pub modem_request : Option (List ℕ × List ℕ) → Option Request
modem_request None = None
modem_request (Some texts) = if is_name texts.0 then modem_action texts.0 texts.1 else None

-- GET of /modems, and what is posted below it
abbrev pub modems_request : Method → List (List ℕ) → Option Request
modems_request Post rest = modem_request (two_texts rest)
modems_request Get [] = Some (Show view.Modems)
modems_request Get (text ∷ rest) = None
modems_request Another rest = None

-- POST /grants/{g}/REPORT
abbrev pub grant_report : ℕ → List ℕ → Option Request
grant_report grant report =
    if bytes_eq report (codes "call") then Some (OnGrant grant Call)
    else if bytes_eq report (codes "page") then Some (OnGrant grant Page)
    else if bytes_eq report (codes "outcome") then Some (OnGrant grant Outcome)
    else None

-- {g} is written as {id} is
abbrev pub grant_request : Option (List ℕ × List ℕ) → Option Request
grant_request None = None
grant_request (Some texts) = option_and_then (λ grant. grant_report grant texts.1) (request_number_of texts.0)

abbrev pub grants_request : Method → List (List ℕ) → Option Request
grants_request Post rest = grant_request (two_texts rest)
grants_request Get rest = None
grants_request Another rest = None

-- POST /imports
abbrev pub imports_request : Method → List (List ℕ) → Option Request
imports_request Post [] = Some Import
imports_request method rest = None

-- POST /numbers/floor
abbrev pub numbers_request : Method → List (List ℕ) → Option Request
numbers_request Post (name ∷ []) = if bytes_eq name (codes "floor") then Some Floor else None
numbers_request method rest = None

abbrev pub root_request : Method → List (List ℕ) → Option Request
root_request method (collection ∷ rest) =
    if bytes_eq collection (codes "jobs") then jobs_request method rest
    else if bytes_eq collection (codes "modems") then modems_request method rest
    else if bytes_eq collection (codes "grants") then grants_request method rest
    else if bytes_eq collection (codes "imports") then imports_request method rest
    else if bytes_eq collection (codes "numbers") then numbers_request method rest
    else None
root_request method [] = None

-- a path begins with `/`
abbrev pub path_request : Method → List (List ℕ) → Option Request
path_request method (lead ∷ rest) = if length lead == 0 then root_request method rest else None
path_request method [] = None

-- the request that a method and a path name, if they name one
unfoldable pub request_of : Method → List ℕ → Option Request
request_of method path = path_request method (parts path)
