-- The routes of requests: the rows that a router has of them, and the request that a method and a route name.
use Rattle.std.specs.Prelude.{ℕ, List, [], ◌∷◌, Option, Some, None, Result, Ok, Err, map, option_and_then, option_map, if◌then◌else◌}
use Rattle.matchit.specs.Order.{placed}
use Rattle.matchit.specs.Route.{Scan, parse_route}
use Rattle.matchit.specs.Router.{RouteOf, route_from}
use Rattle.matchit.specs.Rows.{RowsOf}
use Rattle.matchit.specs.declared.error.InsertError.{InsertError}
use Rattle.fax_value.specs.Name.{is_name}
use Rattle.fax_value.specs.Number.{request_number_of}
use Rattle.fax_ask.specs.declared.method.Method.{Method}
use Rattle.fax_ask.specs.declared.method.Method.TheVariants.{Get, Post, Another}
use Rattle.fax_ask.specs.declared.request.Request.{Request}
use Rattle.fax_ask.specs.declared.request.Request.TheVariants as request
use Rattle.fax_ask.specs.declared.routes.Route.{Route}
use Rattle.fax_ask.specs.declared.routes.Route.TheVariants.{Jobs, Job, OnJob, Times, Modems, Mark, Next, OnGrant, Imports, Floor}
use Rattle.fax_ask.specs.declared.routes.TheConstants.{ROUTES}
use Rattle.fax_ask.specs.declared.view.View.TheVariants as view
use Rattle.fax_ask.specs.Request.{job_posted, job_view}

-- the rows with the route that a pattern's text gives
abbrev pub with_route : Result Scan InsertError → Route → RowsOf (RouteOf Route) → RowsOf (RouteOf Route)
with_route (Ok scan) route rows = placed (scan.pattern, route_from scan route) rows
with_route (Err error) route rows = rows

-- the rows with the routes of these patterns, in turn
abbrev pub with_routes : List (List ℕ × Route) → RowsOf (RouteOf Route) → RowsOf (RouteOf Route)
with_routes [] rows = rows
with_routes (entry ∷ entries) rows = with_routes entries (with_route (parse_route entry.0) entry.1 rows)

-- the rows of all routes
unfoldable pub table : RowsOf (RouteOf Route)
table = with_routes (map (λ entry. (entry.0.now, entry.1)) ROUTES) []

-- ---- what a route and its parameter name

-- {id} of a job or a grant is 1 to 18 digits, the first not 0
abbrev pub number_in : Option (List ℕ) → Option ℕ
number_in id = option_and_then request_number_of id

-- {id} of a modem is 1 to 32 of `A-Za-z0-9._-`
abbrev pub modem_in : Option (List ℕ) → Option (List ℕ)
modem_in id = option_and_then (λ text. if is_name text then Some text else None) id

-- what is posted on a route with this text in its parameter's place
abbrev pub posted : Route → Option (List ℕ) → Option Request
posted Jobs id = Some request.Submit
posted Job id = option_and_then job_posted id
posted Times id = None
posted Modems id = None
posted Imports id = Some request.Import
posted Floor id = Some request.Floor
posted (OnJob action) id = option_map (λ job. request.OnJob job action) (number_in id)
posted (Mark down) id = option_map (λ modem. request.Mark modem down) (modem_in id)
posted Next id = option_map request.Next (modem_in id)
posted (OnGrant kind) id = option_map (λ grant. request.OnGrant grant kind) (number_in id)

-- what GET names on it
abbrev pub shown : Route → Option (List ℕ) → Option Request
shown Jobs id = Some (request.Show view.Jobs)
shown Job id = option_map request.Show (option_and_then job_view id)
shown Times id = option_map (λ job. request.Show (view.Times job)) (number_in id)
shown Modems id = Some (request.Show view.Modems)
shown other id = None

-- what a method names on it
abbrev pub route_request : Method → Route → Option (List ℕ) → Option Request
route_request Get route id = shown route id
route_request Post route id = posted route id
route_request Another route id = None
