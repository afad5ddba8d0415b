-- A repeat of what was accepted gets its reply.
use Rattle.std.proofs.Common.{◌≡◌, ◌<◌, inl, inr, ℕ, eqb, List, [], ◌∷◌, ◌++◌, ◌&&◌, nat_lt, Bool, true, Option, Some, None, Ok, Err, refl, sym, ap, ap₂, subst, ◌∙◌, arith}
use Rattle.std.specs.Prelude.{Result, MatchOption, MatchResult}
use Rattle.std.specs.List.{find}
use Rattle.std.specs.Str.{bytes_eq}
use Rattle.std.specs.Cmp.Lexicographic.{bytes_decides}
use Rattle.std.proofs.lemmas.Bool.{and_from, cases_Bool, eq-eqb}
use Rattle.std.proofs.lemmas.Bool.Decides.{nat_tests}
use Rattle.fax_job.specs.declared.refusal.Refusal.{Refusal}
use Rattle.fax_job.specs.declared.refusal.Refusal.TheVariants.{NoRoute}
use Rattle.fax_ask.specs.declared.request.Request.{Request as Route}
use Rattle.fax_ask.specs.declared.view.View.{View}
use Rattle.fax_ask.specs.Request.{request_of}
use Rattle.fax_ask.specs.Answer.{Replied}
use Rattle.fax_ask.specs.Response.{Response, accepted_response, kept_response}
use Rattle.fax_core.specs.Ledger.{Ledger, kept_for, entry}
use Rattle.fax_core.specs.Queue.{Entry, Queue}
use Rattle.fax_core.specs.Reply.{Reply}
use Rattle.fax_core.specs.Settings.{Settings}
use Rattle.fax_run.proofs.AcceptedLemmas.{acceptance, is_posted}
use Rattle.fax_run.proofs.LedgerLemmas.{given_none}
use Rattle.fax_run.specs.Laws.{RepeatsGetTheirReply, SaysTheSame}
use Rattle.fax_run.specs.Arrival.{number_of}
use Rattle.fax_run.specs.Reading.{Post, Reading, Faulty, Sees, Posts, IsForBody, IsForRoute, IsReading, seen_by}
use Rattle.fax_run.specs.Verdict.{Repeated, kept_with, raised, verdict, without_given}
use Rattle.fax_run.specs.declared.arrival.Arrival.{Arrival}

-- ---- what a repeat says

-- the same, at another moment
abbrev moved : ℕ → Reading → Reading
moved t (Faulty refusal) = Faulty refusal
moved t (Sees moment what) = Sees t what
moved t (Posts p) = Posts (record p { request = record p.request { moment = t } })

module _ (t : ℕ) (a : Arrival) (r : Reading) where
  abbrev other : Arrival
  other = record a { moment = t }

  -- what a body says under a number it says at another moment
  for_body : (number : ℕ) (route : Route) → IsForBody a number route r → IsForBody other number route (moved t r)
  for_body number route (inl (ask, asks, is)) = inl (ask, asks, ap (moved t) is)
  for_body number route (inr (fault, refused, is)) = inr (fault, refused, ap (moved t) is)

  -- the same whether the sender is at fault or not
  by_number : (route : Route) (n : Result ℕ Refusal) → MatchResult n (λ number. IsForBody a number route r) (λ refusal. r ≡ Faulty refusal)
      → MatchResult n (λ number. IsForBody other number route (moved t r)) (λ refusal. moved t r ≡ Faulty refusal)
  by_number route (Ok number) h = for_body number route h
  by_number route (Err refusal) h = ap (moved t) h

  -- the same whether a view is asked for or not
  for_route : (route : Route) (o : Option View)
      → MatchOption o (MatchResult (number_of a) (λ number. IsForBody a number route r) (λ refusal. r ≡ Faulty refusal)) (λ what. r ≡ Sees a.moment what)
      → MatchOption o (MatchResult (number_of a) (λ number. IsForBody other number route (moved t r)) (λ refusal. moved t r ≡ Faulty refusal)) (λ what. moved t r ≡ Sees t what)
  for_route route None h = by_number route (number_of a) h
  for_route route (Some what) h = ap (moved t) h

  -- the same whether there is a route or not
  by_route : (o : Option Route) → MatchOption o (r ≡ Faulty NoRoute) (IsForRoute a r) → MatchOption o (moved t r ≡ Faulty NoRoute) (IsForRoute other (moved t r))
  by_route None h = ap (moved t) h
  by_route (Some route) h = for_route route (seen_by route) h

  -- an arrival reads the same at another moment
  at_another_moment : IsReading a r → IsReading other (moved t r)
  at_another_moment h = by_route (request_of a.method a.path.now) h

-- what the same client says under the same number is read the same, but for its moment
pub same_reading : (a b : Arrival) (r : Reading) → SaysTheSame a b → IsReading a r → IsReading b (moved b.moment r)
same_reading a b r same h =
    let q = moved b.moment r in
    subst (λ x. IsReading (record b { body = record b.body { now = x } }) q) same.body
    (subst (λ x. IsReading (record a { moment = b.moment; method = b.method; path = b.path; client = b.client; number = record b.number { now = x }; body = record b.body { now = a.body.now } }) q) same.number
    (subst (λ x. IsReading (record a { moment = b.moment; method = b.method; path = b.path; client = record b.client { now = x }; body = record b.body { now = a.body.now } }) q) same.client
    (subst (λ x. IsReading (record a { moment = b.moment; method = b.method; path = record b.path { now = x }; body = record b.body { now = a.body.now } }) q) same.path
    (subst (λ x. IsReading (record a { moment = b.moment; method = x; body = record b.body { now = a.body.now } }) q) same.method (at_another_moment b.moment a r h)))))

-- ---- the entry of a number that was new

-- where none is found, one behind them that passes is
found_behind : (q : Entry → Bool) (k : List Entry) (e : Entry) → find q k ≡ None → q e ≡ true → find q (k ++ e ∷ []) ≡ Some e
found_behind q [] e none is = rw is refl
found_behind q (x ∷ k) e none is = elim (cases_Bool (q x)) [
  | inl on ↦ absurd (let no = rw on at none in cc)
  | inr off ↦ rw off (found_behind q k e (rw off at none) is)
]

-- it is found
pub kept_since : (p : Post) (k : Ledger) (reply : Response) → kept_for p.client p.number k.replies ≡ None
    → kept_for p.client p.number (kept_with p k reply).replies ≡ Some (entry p.client p.number p.said reply.status reply.body)
kept_since p k reply none =
    found_behind (λ e. bytes_eq e.client p.client && eqb e.number p.number) (without_given p.client p.request.ask k).replies (entry p.client p.number p.said reply.status reply.body)
    (given_none p.client p.request.ask k p.client p.number none)
    (and_from (bytes_eq p.client p.client) (eqb p.number p.number) ((bytes_decides p.client p.client).1 refl) (eq-eqb p.number p.number refl))

-- ---- the repeat

-- who says under a number above the floor what its entry has said gets the entry's reply
pub gets_kept : (s : Settings) (m : Queue) (k : Ledger) (p : Post) (e : Entry) → nat_lt (k.floor p.client) p.number ≡ true
    → kept_for p.client p.number k.replies ≡ Some e → bytes_eq e.said p.said ≡ true → verdict s m k (Posts p) ≡ Repeated (kept_response e.status e.body)
gets_kept s m k p e above found said = rw (above, found, said) refl

-- what was accepted is JSON, so it comes back whole from its status and its body
whole : (told : Reply) (reply : Response) → reply ≡ accepted_response (Replied told) → kept_response reply.status reply.body ≡ reply
whole told reply is = ap (λ r. kept_response r.status r.body) is ∙ sym is

-- a number that is less compares so
is_below : (a b : ℕ) → a < b → nat_lt a b ≡ true
is_below a b low = grind (arith, nat_tests)

-- an arrival has one number
number_once : (a : Arrival) (n m : ℕ) → number_of a ≡ Ok n → number_of a ≡ Ok m → n ≡ m
number_once a n m is also = let same : ◌≡◌ {A = Result ℕ Refusal} (Ok n) (Ok m) = sym is ∙ also in cc

pub repeats_get_their_reply : RepeatsGetTheirReply
repeats_get_their_reply s a b m after queue k kept later reply (r, is, v_is) same still =
    let it = acceptance s m k after kept reply r v_is in
    let p = it.post in
    let from = is_posted a p (subst (IsReading a) it.posts is) in
    let client : a.client.now ≡ p.client = sym (ap (λ (q : Post). q.client) from.is) in
    let number : still.number ≡ p.number = number_once a still.number p.number still.its from.number in
    let put : kept_for p.client p.number kept.replies ≡ Some (entry p.client p.number p.said reply.status reply.body) =
    ap (λ (l : Ledger). kept_for p.client p.number l.replies) it.keeps ∙ kept_since (raised (k.floor p.client) p) k reply it.unused in
    let found : kept_for p.client p.number later.replies ≡ Some (entry p.client p.number p.said reply.status reply.body) =
    ap₂ (λ c n. kept_for c n later.replies) (sym client) (sym number) ∙ still.same ∙ ap₂ (λ c n. kept_for c n kept.replies) client number ∙ put in
    let above : nat_lt (later.floor p.client) p.number ≡ true = is_below (later.floor p.client) p.number (subst (λ n. later.floor p.client < n) number (subst (λ c. later.floor c < still.number) client still.above)) in
    let its = entry p.client p.number p.said reply.status reply.body in
    let again : Post = record p { request = record p.request { moment = b.moment } } in
    let repeats : verdict s queue later (Posts again) ≡ Repeated reply =
    gets_kept s queue later again its above found ((bytes_decides p.said p.said).1 refl) ∙ ap Repeated (whole it.told reply it.replied) in
    (Posts again, same_reading a b (Posts p) same (subst (IsReading a) it.posts is), sym repeats)
