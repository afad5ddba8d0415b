-- What a router of all routes answers is what the table of requests says.
use Rattle.std.proofs.Common.{◌≡◌, ℕ, suc, ◌+◌, List, [], ◌∷◌, ◌++◌, length, get_or, Option, Some, None, Bool, true, false, cond, codes, refl, sym, ap, ap₂, ◌∙◌, subst, arith, Bor, IsUtf8}
use Rattle.std.specs.Prelude.{MatchOption, option_and_then, option_copied, option_map}
use Rattle.std.specs.Str.{bytes_eq}
use Rattle.std.proofs.lemmas.Bool.{ne_eqb}
use Rattle.matchit.specs.Params.{AllText, named, part_of, walk}
use Rattle.matchit.specs.Rows.{RowsOf, catch_all_token, param_token}
use Rattle.matchit.specs.Seek.{first, has_slash, or_else, step}
use Rattle.matchit.proofs.OnLiterals.{matchit_on_literals}
use Rattle.fax_value.specs.Name.{is_name}
use Rattle.fax_value.specs.Number.{request_number_of}
use Rattle.fax_ask.specs.declared.method.Method.{Method}
use Rattle.fax_ask.specs.declared.method.Method.TheVariants.{Get, Post, Another}
use Rattle.fax_ask.specs.declared.request.Action.TheVariants.{Suspend, Resume, Kill, Alter}
use Rattle.fax_ask.specs.declared.request.ReportKind.TheVariants.{Call, Page, Outcome}
use Rattle.fax_ask.specs.declared.request.Request.{Request}
use Rattle.fax_ask.specs.declared.request.Request.TheVariants as request
use Rattle.fax_ask.specs.declared.routes.Route.{Route}
use Rattle.fax_ask.specs.declared.routes.Route.TheVariants.{Jobs, Job, OnJob, Times, Modems, Mark, Next, OnGrant, Imports, Floor}
use Rattle.fax_ask.specs.Path.{parts, two_texts}
use Rattle.fax_ask.specs.Request.{grant_report, grant_request, job_action, job_request, job_times, jobs_request, modem_action, modem_request, modems_request, grants_request, imports_request, numbers_request, root_request, path_request, request_of}
use Rattle.fax_ask.specs.Routes.{posted, route_request, shown, table}
use Rattle.fax_ask.proofs.CutLemmas.{IsTextIfSome, parts_left, both_texts, cut, same_bytes}
use Rattle.fax_ask.proofs.PathLemmas.{filled}
use Rattle.fax_ask.proofs.TakenLemmas.{are_bytes, taken_last, taken_middle}
use Rattle.fax_ask.proofs.WalkLemmas.{IsPlain, behind, branch, ends_of, joined, led_by, or_none, seek_empty, word}
use Rattle.fax_ask.proofs.CollectionLemmas.{Entry, IsCollection, NoneIs, Says, below, in_collection, says_as, says_by, taken_says}

-- ---- the rows

-- a route with no parameter, and one with a parameter between these texts
plain_route : List ℕ → Route → Entry
plain_route text value = record { pattern = text; text = text; names = []; value = value }

id_route : List ℕ → List ℕ → Route → Entry
id_route w s value = record { pattern = w ++ param_token ∷ s; text = w ++ (codes "{id}" ++ s); names = (length w + 1, length w + 3) ∷ []; value = value }

abbrev action : List ℕ → List ℕ → Route → List ℕ × Entry
action w name value = (name, id_route w (47 ∷ name) value)

abbrev of_jobs : List (List ℕ × Entry)
of_jobs =
    action (codes "/jobs/") (codes "alter") (OnJob Alter) ∷ action (codes "/jobs/") (codes "kill") (OnJob Kill)
    ∷ action (codes "/jobs/") (codes "resume") (OnJob Resume) ∷ action (codes "/jobs/") (codes "suspend") (OnJob Suspend)
    ∷ action (codes "/jobs/") (codes "times") Times ∷ []

abbrev of_modems : List (List ℕ × Entry)
of_modems =
    action (codes "/modems/") (codes "down") (Mark true) ∷ action (codes "/modems/") (codes "next") Next
    ∷ action (codes "/modems/") (codes "ready") (Mark false) ∷ []

abbrev of_grants : List (List ℕ × Entry)
of_grants =
    action (codes "/grants/") (codes "call") (OnGrant Call) ∷ action (codes "/grants/") (codes "outcome") (OnGrant Outcome)
    ∷ action (codes "/grants/") (codes "page") (OnGrant Page) ∷ []

-- what follows the name of each collection
abbrev jobs_end : Option Entry
jobs_end = Some (plain_route (codes "/jobs") Jobs)

abbrev modems_end : Option Entry
modems_end = Some (plain_route (codes "/modems") Modems)

abbrev imports_end : Option Entry
imports_end = Some (plain_route (codes "/imports") Imports)

abbrev floor_end : Option Entry
floor_end = Some (plain_route (codes "/numbers/floor") Floor)

abbrev job_end : Option Entry
job_end = Some (id_route (codes "/jobs/") [] Job)

abbrev jobs_below : RowsOf Entry
jobs_below = below job_end of_jobs

abbrev modems_below : RowsOf Entry
modems_below = below None of_modems

abbrev grants_below : RowsOf Entry
grants_below = below None of_grants

abbrev numbers_below : RowsOf Entry
numbers_below = led_by (codes "floor") (led_by (47 ∷ []) [] ++ ends_of floor_end)

abbrev grants_rows : RowsOf Entry
grants_rows = led_by (codes "grants") (led_by (47 ∷ []) grants_below ++ ends_of None)

abbrev imports_rows : RowsOf Entry
imports_rows = led_by (codes "imports") (led_by (47 ∷ []) [] ++ ends_of imports_end)

abbrev jobs_rows : RowsOf Entry
jobs_rows = led_by (codes "jobs") (led_by (47 ∷ []) jobs_below ++ ends_of jobs_end)

abbrev modems_rows : RowsOf Entry
modems_rows = led_by (codes "modems") (led_by (47 ∷ []) modems_below ++ ends_of modems_end)

abbrev numbers_rows : RowsOf Entry
numbers_rows = led_by (codes "numbers") (led_by (47 ∷ []) numbers_below ++ ends_of None)

abbrev collections : RowsOf Entry
collections = grants_rows ++ (imports_rows ++ (jobs_rows ++ (modems_rows ++ numbers_rows)))

-- the table has the rows of the collections, behind a slash
rows_are : table ≡ led_by [] (led_by (47 ∷ []) collections ++ ends_of None)
unfolding matchit_on_literals table plain_route id_route
rows_are = refl

-- ---- the three collections

-- a route with its parameter between slashes says what its request is with that text
middle_says : (w name : List ℕ) (value : Route) (names : Method → Option Request) (id : List ℕ) → are_bytes w ≡ true
    → part_of (w ++ (codes "{id}" ++ 47 ∷ name)) (length w + 1) (length w + 3) ≡ codes "id"
    → IsUtf8 id → has_slash id ≡ false → ((method : Method) → names method ≡ route_request method value (Some id))
    → Says names (w ++ (id ++ 47 ∷ name)) (Some (id_route w (47 ∷ name) value))
unfolding id_route
middle_says w name value names id h key u f same =
    taken_says names (w ++ (id ++ 47 ∷ name)) (id_route w (47 ∷ name) value) id
    (taken_middle w name id name (w ++ (codes "{id}" ++ 47 ∷ name)) (length w + 1, length w + 3) h f ∙ ap (λ (k : List ℕ). (k, id) ∷ []) key) u same

-- so does one with its parameter at the end
last_says : (w : List ℕ) (value : Route) (names : Method → Option Request) (id : List ℕ) → are_bytes w ≡ true
    → part_of (w ++ codes "{id}") (length w + 1) (length w + 3) ≡ codes "id"
    → IsUtf8 id → ((method : Method) → names method ≡ route_request method value (Some id))
    → Says names (w ++ id) (Some (id_route w [] value))
unfolding id_route
last_says w value names id h key u same =
    taken_says names (w ++ id) (id_route w [] value) id
    (taken_last w id (w ++ codes "{id}") (length w + 1, length w + 3) h ∙ ap (λ (k : List ℕ). (k, id) ∷ []) key) u same

abbrev plain : {rs : RowsOf Entry} → step param_token rs ≡ [] → step catch_all_token rs ≡ [] → IsPlain rs
plain {rs} params catches = record { params = params; catches = catches }

-- a route's request is known by its methods
by_method : (names : Method → Option Request) (value : Route) (id : List ℕ)
    → names Get ≡ route_request Get value (Some id) → names Post ≡ route_request Post value (Some id)
    → names Another ≡ None → (method : Method) → names method ≡ route_request method value (Some id)
by_method names value id get post another Get = get
by_method names value id get post another Post = post
by_method names value id get post another Another = another

-- a word behind a job's number says which request it is
job_word : (id : List ℕ) → IsUtf8 id → has_slash id ≡ false → (name : List ℕ) (value : Route)
    → jobs_request Post (id ∷ name ∷ []) ≡ posted value (Some id) → jobs_request Get (id ∷ name ∷ []) ≡ shown value (Some id)
    → part_of (codes "/jobs/" ++ (codes "{id}" ++ 47 ∷ name)) 7 9 ≡ codes "id"
    → Says (λ method. jobs_request method (id ∷ name ∷ [])) (codes "/jobs/" ++ (id ++ 47 ∷ name)) (Some (id_route (codes "/jobs/") (47 ∷ name) value))
job_word id u f name value post get key =
    middle_says (codes "/jobs/") name value (λ method. jobs_request method (id ∷ name ∷ [])) id refl key u f
    (by_method (λ method. jobs_request method (id ∷ name ∷ [])) value id get post refl)

-- no other word is an action on a job
no_job_action : (job : ℕ) (text : List ℕ) → NoneIs text of_jobs → job_action job text ≡ None
no_job_action job text none = rw (none.1.1.1.0, none.1.1.0, none.1.0, none.0)

-- nor that of its times
no_job_times : (o : Option ℕ) (text : List ℕ) → NoneIs text of_jobs → option_and_then (λ job. job_times job text) o ≡ None
no_job_times None text none = refl
no_job_times (Some job) text none = rw none.1.1.1.1.0

-- so none names a request behind what may be a number
no_job_word : (o : Option ℕ) (text : List ℕ) → NoneIs text of_jobs → option_and_then (λ job. job_action job text) o ≡ None
no_job_word None text none = refl
no_job_word (Some job) text none = no_job_action job text none

-- nor does anything with an empty number
no_job : (method : Method) (rest : List (List ℕ)) → job_request method [] rest ≡ None
no_job Get [] = refl
no_job Get (x ∷ []) = refl
no_job Get (x ∷ y ∷ rest) = refl
no_job Post [] = refl
no_job Post (x ∷ []) = refl
no_job Post (x ∷ y ∷ rest) = refl
no_job Another rest = refl

-- an action isn't shown
no_shown : (o : Option ℕ) (text : List ℕ) → bytes_eq text (codes "times") ≡ false → option_and_then (λ job. job_times job text) o ≡ None
no_shown None text other = refl
no_shown (Some job) text other = rw other

-- and the times aren't posted
no_posted : (o : Option ℕ) → option_and_then (λ job. job_action job (codes "times")) o ≡ None
no_posted None = refl
no_posted (Some job) = refl

-- the routes behind `/jobs/` are a collection
jobs_are : IsCollection (codes "/jobs/") jobs_request job_end of_jobs
jobs_are = record {
  apart = (refl, refl, plain refl refl, (refl, refl, plain refl refl, (refl, refl, plain refl refl, (refl, refl, plain refl refl, (refl, refl, plain refl refl, tt)))));
  some = refl;
  no_id = λ rest method. no_job method rest;
  last = λ id u. last_says (codes "/jobs/") Job (λ method. jobs_request method (id ∷ [])) id refl refl u
      (by_method (λ method. jobs_request method (id ∷ [])) Job id refl refl refl);
  words = λ id u f. (
    job_word id u f (codes "alter") (OnJob Alter) refl (no_shown (request_number_of id) (codes "alter") refl) refl,
    (
      job_word id u f (codes "kill") (OnJob Kill) refl (no_shown (request_number_of id) (codes "kill") refl) refl,
      (
        job_word id u f (codes "resume") (OnJob Resume) refl (no_shown (request_number_of id) (codes "resume") refl) refl,
        (
          job_word id u f (codes "suspend") (OnJob Suspend) refl (no_shown (request_number_of id) (codes "suspend") refl) refl,
          (job_word id u f (codes "times") Times (no_posted (request_number_of id)) refl refl, tt),
        ),
      ),
    ),
  );
  others = λ id text none method. elim method as (λ m. jobs_request m (id ∷ text ∷ []) ≡ None) [ Get ↦ no_job_times (request_number_of id) text none | Post ↦ no_job_word (request_number_of id) text none | Another ↦ refl ];
  longer = λ id text more rest method. elim method as (λ m. jobs_request m (id ∷ text ∷ more ∷ rest) ≡ None) [ Get ↦ refl | Post ↦ refl | Another ↦ refl ];
}

-- a word behind a modem's name says which request it is
modem_word : (id : List ℕ) → IsUtf8 id → has_slash id ≡ false → (name : List ℕ) (value : Route)
    → modems_request Post (id ∷ name ∷ []) ≡ posted value (Some id) → shown value (Some id) ≡ None
    → part_of (codes "/modems/" ++ (codes "{id}" ++ 47 ∷ name)) 9 11 ≡ codes "id"
    → Says (λ method. modems_request method (id ∷ name ∷ [])) (codes "/modems/" ++ (id ++ 47 ∷ name)) (Some (id_route (codes "/modems/") (47 ∷ name) value))
modem_word id u f name value post get key =
    middle_says (codes "/modems/") name value (λ method. modems_request method (id ∷ name ∷ [])) id refl key u f
    (by_method (λ method. modems_request method (id ∷ name ∷ [])) value id (sym get) post refl)

-- with an empty name there is no request of a modem
no_modem : (rest : List (List ℕ)) → modem_request (two_texts ([] ∷ rest)) ≡ None
no_modem [] = refl
no_modem (x ∷ []) = refl
no_modem (x ∷ y ∷ rest) = refl

-- no other word is an action on a modem
no_modem_word : (modem text : List ℕ) → NoneIs text of_modems → cond (is_name modem) (modem_action modem text) None ≡ None
no_modem_word modem text none = by (is_name modem) (rw (none.1.1.0, none.0, none.1.0))
  where
    by : (v : Bool) → modem_action modem text ≡ None → cond v (modem_action modem text) None ≡ None
    by true e = e
    by false e = refl

-- a request on a name is that on what passes as one
on_name : (v : Bool) (request_on : List ℕ → Request) (id : List ℕ) → cond v (Some (request_on id)) None ≡ option_map request_on (cond v (Some id) None)
on_name true request_on id = refl
on_name false request_on id = refl

-- the routes behind `/modems/` are a collection
modems_are : IsCollection (codes "/modems/") modems_request None of_modems
modems_are = record {
  apart = (refl, refl, plain refl refl, (refl, refl, plain refl refl, (refl, refl, plain refl refl, tt)));
  some = refl;
  no_id = λ rest method. elim method as (λ m. modems_request m ([] ∷ rest) ≡ None) [ Get ↦ refl | Post ↦ no_modem rest | Another ↦ refl ];
  last = λ id u method. elim method as (λ m. modems_request m (id ∷ []) ≡ None) [ Get ↦ refl | Post ↦ refl | Another ↦ refl ];
  words = λ id u f. (
    modem_word id u f (codes "down") (Mark true) (on_name (is_name id) (λ modem. request.Mark modem true) id) refl refl,
    (
      modem_word id u f (codes "next") Next (on_name (is_name id) request.Next id) refl refl,
      (modem_word id u f (codes "ready") (Mark false) (on_name (is_name id) (λ modem. request.Mark modem false) id) refl refl, tt),
    ),
  );
  others = λ id text none method. elim method as (λ m. modems_request m (id ∷ text ∷ []) ≡ None) [ Get ↦ refl | Post ↦ no_modem_word id text none | Another ↦ refl ];
  longer = λ id text more rest method. elim method as (λ m. modems_request m (id ∷ text ∷ more ∷ rest) ≡ None) [ Get ↦ refl | Post ↦ refl | Another ↦ refl ];
}

-- a word behind a grant's number says which request it is
grant_word : (id : List ℕ) → IsUtf8 id → has_slash id ≡ false → (name : List ℕ) (value : Route)
    → grants_request Post (id ∷ name ∷ []) ≡ posted value (Some id) → shown value (Some id) ≡ None
    → part_of (codes "/grants/" ++ (codes "{id}" ++ 47 ∷ name)) 9 11 ≡ codes "id"
    → Says (λ method. grants_request method (id ∷ name ∷ [])) (codes "/grants/" ++ (id ++ 47 ∷ name)) (Some (id_route (codes "/grants/") (47 ∷ name) value))
grant_word id u f name value post get key =
    middle_says (codes "/grants/") name value (λ method. grants_request method (id ∷ name ∷ [])) id refl key u f
    (by_method (λ method. grants_request method (id ∷ name ∷ [])) value id (sym get) post refl)

-- with an empty number there is no request on a grant
no_grant : (rest : List (List ℕ)) → grant_request (two_texts ([] ∷ rest)) ≡ None
no_grant [] = refl
no_grant (x ∷ []) = refl
no_grant (x ∷ y ∷ rest) = refl

-- no other word is a report on a grant
no_grant_word : (o : Option ℕ) (text : List ℕ) → NoneIs text of_grants → option_and_then (λ grant. grant_report grant text) o ≡ None
no_grant_word None text none = refl
no_grant_word (Some grant) text none = rw (none.0, none.1.1.0, none.1.0)

-- the routes behind `/grants/` are a collection
grants_are : IsCollection (codes "/grants/") grants_request None of_grants
grants_are = record {
  apart = (refl, refl, plain refl refl, (refl, refl, plain refl refl, (refl, refl, plain refl refl, tt)));
  some = refl;
  no_id = λ rest method. elim method as (λ m. grants_request m ([] ∷ rest) ≡ None) [ Get ↦ refl | Post ↦ no_grant rest | Another ↦ refl ];
  last = λ id u method. elim method as (λ m. grants_request m (id ∷ []) ≡ None) [ Get ↦ refl | Post ↦ refl | Another ↦ refl ];
  words = λ id u f. (
    grant_word id u f (codes "call") (OnGrant Call) refl refl refl,
    (
      grant_word id u f (codes "outcome") (OnGrant Outcome) refl refl refl,
      (grant_word id u f (codes "page") (OnGrant Page) refl refl refl, tt),
    ),
  );
  others = λ id text none method. elim method as (λ m. grants_request m (id ∷ text ∷ []) ≡ None) [ Get ↦ refl | Post ↦ no_grant_word (request_number_of id) text none | Another ↦ refl ];
  longer = λ id text more rest method. elim method as (λ m. grants_request m (id ∷ text ∷ more ∷ rest) ≡ None) [ Get ↦ refl | Post ↦ refl | Another ↦ refl ];
}

-- ---- the whole

-- what follows `/grants` says which request is named
in_grants : (more : Option (List ℕ)) → IsTextIfSome more
    → Says (λ method. root_request method (codes "grants" ∷ parts_left more)) (47 ∷ joined (codes "grants") more) (behind None grants_below more)
in_grants None u = λ method. elim method as (λ m. grants_request m [] ≡ None) [ Get ↦ refl | Post ↦ refl | Another ↦ refl ]
in_grants (Some path) u = in_collection (codes "/grants/") grants_request None of_grants grants_are path u

-- with a text behind it, `imports` names none
no_import : (texts : List (List ℕ)) (text : List ℕ) (more : List (List ℕ)) → texts ≡ text ∷ more → (method : Method) → imports_request method texts ≡ None
no_import texts text more e method =
    ap (imports_request method) e ∙ (elim method as (λ m. imports_request m (text ∷ more) ≡ None) [ Get ↦ refl | Post ↦ refl | Another ↦ refl ])

-- what follows `/imports` says which request is named
in_imports : (more : Option (List ℕ)) → IsTextIfSome more
    → Says (λ method. root_request method (codes "imports" ∷ parts_left more)) (47 ∷ joined (codes "imports") more) (behind imports_end [] more)
unfolding plain_route
in_imports None u = (tt, λ method. elim method as (λ m. imports_request m [] ≡ route_request m Imports None) [ Get ↦ refl | Post ↦ refl | Another ↦ refl ])
in_imports (Some path) u =
    says_by (λ method. root_request method (codes "imports" ∷ parts path)) (47 ∷ joined (codes "imports") (Some path)) (first {K = Entry} [] path) None (seek_empty 0 path)
    (λ method. let texts = filled path in no_import (parts path) texts.0 texts.1 texts.2 method)

-- but for `floor`, nothing behind `numbers` names one
no_number : (texts : List (List ℕ)) (method : Method) → ((text : List ℕ) → texts ≡ text ∷ [] → bytes_eq text (codes "floor") ≡ false) → numbers_request method texts ≡ None
no_number texts Get other = refl
no_number [] Post other = refl
no_number (text ∷ []) Post other = rw (other text refl) refl
no_number (text ∷ next ∷ rest) Post other = refl
no_number texts Another other = refl

-- what follows the name and its slash
numbers_says : (text : List ℕ) (more : Option (List ℕ)) → Says (λ method. numbers_request method (text ∷ parts_left more)) (codes "/numbers/" ++ joined text more) (cond (bytes_eq text (codes "floor")) (behind floor_end [] more) None)
unfolding plain_route
numbers_says text more = by (bytes_eq text (codes "floor")) refl more
  where
    by : (named : Bool) → bytes_eq text (codes "floor") ≡ named → (more : Option (List ℕ))
        → Says (λ method. numbers_request method (text ∷ parts_left more)) (codes "/numbers/" ++ joined text more) (cond named (behind floor_end [] more) None)
    by false e more = λ method. no_number (text ∷ parts_left more) method (λ other is. subst (λ (t : List ℕ). bytes_eq t (codes "floor") ≡ false) (ap (λ (ts : List (List ℕ)). get_or ts 0 []) is) e)
    by true e None =
        subst (λ (t : List ℕ). Says (λ method. numbers_request method (t ∷ [])) (codes "/numbers/" ++ t) floor_end) (sym (same_bytes text (codes "floor") e))
        (tt, λ method. elim method as (λ m. numbers_request m (codes "floor" ∷ []) ≡ route_request m Floor None) [ Get ↦ refl | Post ↦ refl | Another ↦ refl ])
    by true e (Some path) =
        says_by (λ method. numbers_request method (text ∷ parts path)) (codes "/numbers/" ++ joined text (Some path)) (first {K = Entry} [] path) None (seek_empty 0 path)
        (λ method. let texts = filled path in
        no_number (text ∷ parts path) method (λ other is. absurd (let n = ap length is in let m = ap length texts.2 in omega (arith, n, m))))

-- what follows `/numbers` says which request is named
in_numbers : (more : Option (List ℕ))
    → Says (λ method. root_request method (codes "numbers" ∷ parts_left more)) (47 ∷ joined (codes "numbers") more) (behind None numbers_below more)
in_numbers None = λ method. elim method as (λ m. numbers_request m [] ≡ None) [ Get ↦ refl | Post ↦ refl | Another ↦ refl ]
in_numbers (Some path) =
    let c = cut path in
    says_as (λ method. numbers_request method (parts path)) (λ method. numbers_request method (c.text ∷ parts_left c.more)) (codes "/numbers/" ++ path) (first numbers_below path)
    (λ method. ap (numbers_request method) c.texts)
    (subst (λ (p : List ℕ). Says (λ method. numbers_request method (c.text ∷ parts_left c.more)) (codes "/numbers/" ++ p) (first numbers_below p)) (sym c.whole)
    (says_by (λ method. numbers_request method (c.text ∷ parts_left c.more)) (codes "/numbers/" ++ joined c.text c.more) (first numbers_below (joined c.text c.more)) (cond (bytes_eq c.text (codes "floor")) (behind floor_end [] c.more) None)
    (word (codes "floor") c.text [] floor_end c.more refl c.free) (numbers_says c.text c.more)))

-- what follows `/modems` does
in_modems : (more : Option (List ℕ)) → IsTextIfSome more
    → Says (λ method. root_request method (codes "modems" ∷ parts_left more)) (47 ∷ joined (codes "modems") more) (behind modems_end modems_below more)
unfolding plain_route
in_modems None u = (tt, λ method. elim method as (λ m. modems_request m [] ≡ route_request m Modems None) [ Get ↦ refl | Post ↦ refl | Another ↦ refl ])
in_modems (Some path) u = in_collection (codes "/modems/") modems_request None of_modems modems_are path u

-- what follows `/jobs` does
in_jobs : (more : Option (List ℕ)) → IsTextIfSome more
    → Says (λ method. root_request method (codes "jobs" ∷ parts_left more)) (47 ∷ joined (codes "jobs") more)
    (behind jobs_end jobs_below more)
unfolding plain_route
in_jobs None u = (tt, λ method. elim method as (λ m. jobs_request m [] ≡ route_request m Jobs None) [ Get ↦ refl | Post ↦ refl | Another ↦ refl ])
in_jobs (Some path) u = in_collection (codes "/jobs/") jobs_request job_end of_jobs jobs_are path u

-- the first text of a path behind its slash
abbrev by_name : List ℕ → Option (List ℕ) → Option Entry
by_name text more =
    or_else (cond (bytes_eq text (codes "grants")) (behind None grants_below more) None)
    (or_else (cond (bytes_eq text (codes "imports")) (behind imports_end [] more) None)
    (or_else (cond (bytes_eq text (codes "jobs")) (behind jobs_end jobs_below more) None)
    (or_else (cond (bytes_eq text (codes "modems")) (behind modems_end modems_below more) None)
    (cond (bytes_eq text (codes "numbers")) (behind None numbers_below more) None))))

-- the name of a collection has its rows
name_found : (text : List ℕ) (more : Option (List ℕ)) → has_slash text ≡ false → first collections (joined text more) ≡ by_name text more
name_found text more f =
    branch 103 (codes "rants") (led_by (47 ∷ []) grants_below ++ ends_of None) (imports_rows ++ (jobs_rows ++ (modems_rows ++ numbers_rows))) (joined text more) (omega arith) refl (plain refl refl)
    ∙ ap₂ or_else (word (codes "grants") text grants_below None more refl f)
    (branch 105 (codes "mports") (led_by (47 ∷ []) [] ++ ends_of imports_end) (jobs_rows ++ (modems_rows ++ numbers_rows)) (joined text more) (omega arith) refl (plain refl refl)
    ∙ ap₂ or_else (word (codes "imports") text [] imports_end more refl f)
    (branch 106 (codes "obs") (led_by (47 ∷ []) jobs_below ++ ends_of jobs_end) (modems_rows ++ numbers_rows) (joined text more) (omega arith) refl (plain refl refl)
    ∙ ap₂ or_else (word (codes "jobs") text jobs_below jobs_end more refl f)
    (branch 109 (codes "odems") (led_by (47 ∷ []) modems_below ++ ends_of modems_end) numbers_rows (joined text more) (omega arith) refl (plain refl refl)
    ∙ ap₂ or_else (word (codes "modems") text modems_below modems_end more refl f)
    (word (codes "numbers") text numbers_below None more refl f))))

-- no other name has a request
other_name : (text : List ℕ) (rest : List (List ℕ)) → bytes_eq text (codes "grants") ≡ false → bytes_eq text (codes "imports") ≡ false → bytes_eq text (codes "jobs") ≡ false → bytes_eq text (codes "modems") ≡ false → bytes_eq text (codes "numbers") ≡ false
    → (method : Method) → root_request method (text ∷ rest) ≡ None
other_name text rest grants imports jobs modems numbers method = rw (jobs, modems, grants, imports, numbers)

-- a name and what follows it say which request is named
name_says : (text : List ℕ) (more : Option (List ℕ)) → IsTextIfSome more → Says (λ method. root_request method (text ∷ parts_left more)) (47 ∷ joined text more) (by_name text more)
name_says text more u = by (bytes_eq text (codes "grants")) refl (bytes_eq text (codes "imports")) refl (bytes_eq text (codes "jobs")) refl (bytes_eq text (codes "modems")) refl (bytes_eq text (codes "numbers")) refl
  where
    at : List ℕ → Type 0
    at name = Says (λ method. root_request method (name ∷ parts_left more)) (47 ∷ joined name more) (by_name name more)

    named_so : (name : List ℕ) → bytes_eq text name ≡ true → at name → at text
    named_so name e s = subst at (sym (same_bytes text name e)) s

    by : (grants : Bool) → bytes_eq text (codes "grants") ≡ grants → (imports : Bool) → bytes_eq text (codes "imports") ≡ imports → (jobs : Bool) → bytes_eq text (codes "jobs") ≡ jobs → (modems : Bool) → bytes_eq text (codes "modems") ≡ modems → (numbers : Bool) → bytes_eq text (codes "numbers") ≡ numbers → at text
    by true e imports i jobs f modems g numbers n = named_so (codes "grants") e
        (says_by (λ method. root_request method (codes "grants" ∷ parts_left more)) (47 ∷ joined (codes "grants") more) (by_name (codes "grants") more) (behind None grants_below more)
        (or_none (behind None grants_below more)) (in_grants more u))
    by false e true i jobs f modems g numbers n = named_so (codes "imports") i
        (says_by (λ method. root_request method (codes "imports" ∷ parts_left more)) (47 ∷ joined (codes "imports") more) (by_name (codes "imports") more)
        (behind imports_end [] more)
        (or_none (behind imports_end [] more)) (in_imports more u))
    by false e false i true f modems g numbers n = named_so (codes "jobs") f
        (says_by (λ method. root_request method (codes "jobs" ∷ parts_left more)) (47 ∷ joined (codes "jobs") more) (by_name (codes "jobs") more)
        (behind jobs_end jobs_below more)
        (or_none (behind jobs_end jobs_below more)) (in_jobs more u))
    by false e false i false f true g numbers n = named_so (codes "modems") g
        (says_by (λ method. root_request method (codes "modems" ∷ parts_left more)) (47 ∷ joined (codes "modems") more) (by_name (codes "modems") more) (behind modems_end modems_below more)
        (or_none (behind modems_end modems_below more)) (in_modems more u))
    by false e false i false f false g true n = named_so (codes "numbers") n (in_numbers more)
    by false e false i false f false g false n =
        says_by (λ method. root_request method (text ∷ parts_left more)) (47 ∷ joined text more) (by_name text more) None (rw (e, i, f, g, n)) (other_name text (parts_left more) e i f g n)

-- so does a path behind its slash
in_collections : (path : List ℕ) → IsUtf8 path → Says (λ method. root_request method (parts path)) (47 ∷ path) (first collections path)
in_collections path u =
    let c = cut path in
    let t = both_texts c.text c.more (subst IsUtf8 c.whole u) in
    says_as (λ method. root_request method (parts path)) (λ method. root_request method (c.text ∷ parts_left c.more)) (47 ∷ path) (first collections path)
    (λ method. ap (root_request method) c.texts)
    (subst (λ (p : List ℕ). Says (λ method. root_request method (c.text ∷ parts_left c.more)) (47 ∷ p) (first collections p)) (sym c.whole)
    (says_by (λ method. root_request method (c.text ∷ parts_left c.more)) (47 ∷ joined c.text c.more) (first collections (joined c.text c.more)) (by_name c.text c.more)
    (name_found c.text c.more c.free) (name_says c.text c.more t.1)))

-- so does a path, which begins with a slash
lead_says : (text : List ℕ) (more : Option (List ℕ)) → IsTextIfSome more
    → Says (λ method. path_request method (text ∷ parts_left more)) (joined text more) (cond (bytes_eq text []) (behind None collections more) None)
lead_says [] None u = λ method. refl
lead_says [] (Some path) u = in_collections path u
lead_says (b ∷ text) more u = λ method.
    let n = ne_eqb (suc (length text)) 0 (λ e. omega arith) in
    ap (λ (empty : Bool). cond empty (root_request method (parts_left more)) None) n

-- the route of a path says what the table of requests does, and a path with no route names no request
routed : (path : List ℕ) → IsUtf8 path → Says (λ method. request_of method path) path (first table path)
unfolding request_of
routed path u =
    let c = cut path in
    let t = both_texts c.text c.more (subst IsUtf8 c.whole u) in
    says_as (λ method. request_of method path) (λ method. path_request method (c.text ∷ parts_left c.more)) path (first table path)
    (λ method. ap (path_request method) c.texts)
    (subst (λ (p : List ℕ). Says (λ method. path_request method (c.text ∷ parts_left c.more)) p (first table p)) (sym c.whole)
    (says_by (λ method. path_request method (c.text ∷ parts_left c.more)) (joined c.text c.more) (first table (joined c.text c.more)) (cond (bytes_eq c.text []) (behind None collections c.more) None)
    (ap (λ (rows : RowsOf Entry). first rows (joined c.text c.more)) rows_are ∙ word [] c.text collections None c.more refl c.free)
    (lead_says c.text c.more t.1)))

-- ---- what `Routes::request` cites

module _ (path : List ℕ) (rows : RowsOf Entry) (text : IsUtf8 path) (all : rows ≡ table) (method : Method) where
  -- a path with no route names no request
  pub no_route : first rows path ≡ None → request_of method path ≡ None
  no_route none =
      subst (Says (λ m. request_of m path) path) (ap (λ (r : RowsOf Entry). first r path) (sym all) ∙ none) (routed path text) method

  -- a parameter that is told is the one that was found
  got : (id : Option (Bor (List ℕ))) (found : Option (List ℕ)) → MatchOption id (found ≡ None) (λ value. found ≡ Some value.now) → found ≡ option_copied id
  got None found e = e
  got (Some value) found e = e

  -- what a router's `get` says of a parameter, for the path that the match keeps
  abbrev Gives : Entry → List ℕ → Option (Bor (List ℕ)) → Type 0
  Gives route seen id =
      AllText (walk route.pattern route.text seen route.names 0 0)
      → MatchOption id (named (codes "id") (walk route.pattern route.text seen route.names 0 0) ≡ None) (λ value. named (codes "id") (walk route.pattern route.text seen route.names 0 0) ≡ Some value.now)

  -- a route that was found says which request is named
  pub found_route : (route : Entry) (seen : List ℕ) (id : Option (Bor (List ℕ))) → seen ≡ path → first rows path ≡ Some route → Gives route seen id
      → route_request method route.value (option_copied id) ≡ request_of method path
  found_route route seen id same found get =
      let said : Says (λ m. request_of m path) path (Some route) = subst (Says (λ m. request_of m path) path) (ap (λ (r : RowsOf Entry). first r path) (sym all) ∙ found) (routed path text) in
      let given : Gives route path id = subst (λ (p : List ℕ). Gives route p id) same get in
      sym (said.1 method ∙ ap (route_request method route.value) (got id (named (codes "id") (walk route.pattern route.text path route.names 0 0)) (given said.0)))
