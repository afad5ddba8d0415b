-- A GET asks for a view.
use Rattle.std.proofs.Common.{◌≡◌, ◌∙◌, ℕ, Bool, true, false, List, [], ◌∷◌, Option, Some, None, refl, sym, subst, if◌then◌else◌}
use Rattle.std.specs.Prelude.{MatchOption, codes, length, option_and_then, option_map, ◌==◌}
use Rattle.std.specs.Str.{bytes_eq}
use Rattle.fax_value.specs.Number.{request_number_of}
use Rattle.fax_core.specs.declared.ask.Ask.{Ask}
use Rattle.fax_ask.specs.declared.method.Method.{Method}
use Rattle.fax_ask.specs.declared.method.Method.TheVariants.{Get}
use Rattle.fax_ask.specs.declared.request.Request.{Request}
use Rattle.fax_ask.specs.declared.request.Request.TheVariants.{Show}
use Rattle.fax_ask.specs.declared.view.View.{View}
use Rattle.fax_ask.specs.declared.view.View.TheVariants as view
use Rattle.fax_ask.specs.Ask.{Asks, IsAsk}
use Rattle.fax_ask.specs.declared.ask.Ask.TheVariants.{Step}
use Rattle.fax_ask.specs.Path.{parts}
use Rattle.fax_job.specs.declared.refusal.Refusal.TheVariants.{NoRoute}
use Rattle.fax_run.specs.Reading.{IsForRoute, IsReading, Post, Reading, Faulty, Posts}
use Rattle.fax_run.specs.declared.arrival.Arrival.{Arrival}
use Rattle.fax_ask.specs.Request.{grants_request, imports_request, job_request, job_times, job_view, jobs_request, modems_request, numbers_request, path_request, request_of, root_request}

-- the request asks for a view
IsShow : Request → Type 0
IsShow r = (what : View) × (r ≡ Show what)

-- what a view asks for is one
of_view : (found : Option View) (r : Request) → option_map Show found ≡ Some r → IsShow r
unfolding IsShow
of_view None r e = absurd cc
of_view (Some what) r e = (what, cc)

-- a GET below a job's path shows its times
of_times : (job : ℕ) (word : List ℕ) (named : Bool) (r : Request) → (if named then Some (Show (view.Times job)) else None) ≡ Some r → IsShow r
unfolding IsShow
of_times job word true r e = (view.Times job, cc)
of_times job word false r e = absurd cc

of_word : (number : Option ℕ) (word : List ℕ) (r : Request) → option_and_then (λ job. job_times job word) number ≡ Some r → IsShow r
of_word None word r e = absurd cc
of_word (Some job) word r e = of_times job word (bytes_eq word (codes "times")) r e

-- a GET of a job's path shows it, or the newest
of_job : (id : List ℕ) (rest : List (List ℕ)) (r : Request) → job_request Get id rest ≡ Some r → IsShow r
of_job id [] r e = of_view (job_view id) r e
of_job id (word ∷ []) r e = of_word (request_number_of id) word r e
of_job id (word ∷ x ∷ xs) r e = absurd cc

-- a GET of the path of jobs shows them
of_jobs : (rest : List (List ℕ)) (r : Request) → jobs_request Get rest ≡ Some r → IsShow r
unfolding IsShow
of_jobs [] r e = (view.Jobs, cc)
of_jobs (id ∷ rest) r e = of_job id rest r e

-- a GET of the path of modems shows these
of_modems : (rest : List (List ℕ)) (r : Request) → modems_request Get rest ≡ Some r → IsShow r
unfolding IsShow
of_modems [] r e = (view.Modems, cc)
of_modems (text ∷ rest) r e = absurd cc

-- where there is no request, nothing is said of it
none : (r : Request) → ◌≡◌ {A = Option Request} None (Some r) → IsShow r
none r e = absurd cc

-- what holds of either of two requests holds of the one that is picked
either : (b : Bool) (x y : Option Request) (r : Request) → (x ≡ Some r → IsShow r) → (y ≡ Some r → IsShow r) → (if b then x else y) ≡ Some r → IsShow r
either true x y r one other e = one e
either false x y r one other e = other e

-- a GET below the root shows something
of_root : (path : List (List ℕ)) (r : Request) → root_request Get path ≡ Some r → IsShow r
of_root [] r e = none r e
of_root (collection ∷ rest) r e =
    either (bytes_eq collection (codes "jobs")) (jobs_request Get rest) _ r (of_jobs rest r)
    (either (bytes_eq collection (codes "modems")) (modems_request Get rest) _ r (of_modems rest r) (either (bytes_eq collection (codes "grants")) (grants_request Get rest) _ r (none r)
    (either (bytes_eq collection (codes "imports")) (imports_request Get rest) _ r (none r)
    (either (bytes_eq collection (codes "numbers")) (numbers_request Get rest) None r (none r) (none r))))) e

-- a GET of a path's parts shows something
of_path : (path : List (List ℕ)) (r : Request) → path_request Get path ≡ Some r → IsShow r
of_path [] r e = none r e
of_path (lead ∷ rest) r e = either (length lead == 0) (root_request Get rest) None r (of_root rest r) (none r) e

-- a GET of a path shows something
get_shows : (path : List ℕ) (r : Request) → request_of Get path ≡ Some r → IsShow r
unfolding request_of
get_shows path r e = of_path (parts path) r e

-- so it asks for no step of the queue
pub no_step : (method : Method) (path body : List ℕ) (ask : Ask) → method ≡ Get → IsAsk method path body (Step ask) → ⊥
unfolding IsShow
no_step method path body ask get is = by (request_of Get path) refl (subst (λ (m : Method). MatchOption (request_of m path) ⊥ (λ r. Asks r body (Step ask))) get is)
  where
    by : (o : Option Request) → request_of Get path ≡ o → MatchOption o ⊥ (λ r. Asks r body (Step ask)) → ⊥
    by None e h = h
    by (Some r) e h =
        let shown = get_shows path r e in
        let no = subst (λ (q : Request). Asks q body (Step ask)) shown.1 h in cc

-- and nothing is posted by it
pub no_post : (a : Arrival) (r : Reading) (p : Post) → a.method ≡ Get → IsReading a r → r ≡ Posts p → ⊥
unfolding IsShow
no_post a r p get reads is = by (request_of Get a.path.now) refl (subst (λ (m : Method). MatchOption (request_of m a.path.now) (r ≡ Faulty NoRoute) (IsForRoute a r)) get reads)
  where
    by : (o : Option Request) → request_of Get a.path.now ≡ o → MatchOption o (r ≡ Faulty NoRoute) (IsForRoute a r) → ⊥
    by None e h = let no = sym h ∙ is in cc
    by (Some route) e h =
        let shown = get_shows a.path.now route e in
        let no = sym (subst (IsForRoute a r) shown.1 h) ∙ is in cc
