-- What is answered by the request that method and path name.
use Rattle.std.proofs.Common.{◌≡◌, inl, inr, ℕ, List, Option, Some, None, Ok, Err, refl, sym, ap, subst}
use Rattle.std.specs.Prelude.{Result, MatchOption, MatchResult}
use Rattle.fax_job.specs.declared.refusal.Refusal.{Refusal}
use Rattle.fax_job.specs.declared.refusal.Refusal.TheVariants.{BadBody, NoRoute}
use Rattle.fax_job.specs.declared.refusal.BodyFault.{BodyFault}
use Rattle.fax_ask.specs.declared.request.Request.{Request}
use Rattle.fax_ask.specs.declared.request.Request.TheVariants.{Show, Submit, Import, OnJob, Mark, Next, OnGrant, Floor, Purge}
use Rattle.fax_ask.specs.declared.request.Action.TheVariants.{Suspend, Resume, Kill, Alter}
use Rattle.fax_ask.specs.Ask.{Asks, IsAsk, IsBodyRefusal, IsRefused}
use Rattle.fax_ask.specs.declared.ask.Ask.{Ask as Asked}
use Rattle.fax_ask.specs.declared.ask.Ask.TheVariants.{Step, View}
use Rattle.fax_ask.specs.declared.view.View.{View as Sight}
use Rattle.fax_ask.specs.Request.{request_of}
use Rattle.fax_ask.specs.Response.{Response, refused_response}
use Rattle.fax_core.specs.declared.ask.Ask.{Ask}
use Rattle.fax_core.specs.Clock.{decided_at}
use Rattle.fax_core.specs.Ledger.{Ledger}
use Rattle.fax_core.specs.Queue.{Queue}
use Rattle.fax_core.specs.Reply.{NoKeys}
use Rattle.fax_core.specs.Settings.{Settings}
use Rattle.fax_once.specs.Sender.{IsSender}
use Rattle.fax_run.specs.Arrival.{number_of}
use Rattle.fax_run.specs.Reading.{Reading, Faulty, Sees, Posts, post_of, seen_by, IsForBody, IsForRoute}
use Rattle.fax_run.specs.Verdict.{Told, denied, asked_for, IsVerdict}
use Rattle.fax_run.specs.View.{view}
use Rattle.fax_run.specs.declared.arrival.Arrival.{Arrival}
use Rattle.fax_once.specs.declared.sender.Sender.{Sender}

-- ---- which requests ask for a view

-- where the body asks to see something, the request asks for that view
seen : (r : Request) (body : List ℕ) (what : Sight) → Asks r body (View what) → seen_by r ≡ Some what
seen (Show n) body what is = cc
seen Submit body what is = absurd (let e = is.2 in cc)
seen Import body what is = absurd (let e = is.2 in cc)
seen (OnJob n action) body what is = absurd (let e = is.2 in cc)
seen (Mark n down) body what is = absurd cc
seen (Next n) body what is = absurd cc
seen (OnGrant n kind) body what is = absurd (let e = is.2 in cc)
seen Floor body what is = absurd (let e = is.2 in cc)
seen Purge body what is = absurd (let e = is.2 in cc)

-- where the body asks for a step, the request asks for no view
unseen : (r : Request) (body : List ℕ) (ask : Ask) → Asks r body (Step ask) → seen_by r ≡ None
unseen (Show n) body ask is = absurd cc
unseen other body ask is = refl

-- ---- readings

-- what is to be seen is read so, whether there is a route or not
for_view : (a : Arrival) (o : Option Request) (what : Sight) → MatchOption o ⊥ (λ r. Asks r a.body.now (View what)) → MatchOption o (Sees a.moment what ≡ Faulty NoRoute) (IsForRoute a (Sees a.moment what))
for_view a None what is = absurd is
for_view a (Some r) what is = by (seen_by r) (seen r a.body.now what is)
  where
    by : (o : Option Sight) → o ≡ Some what → MatchOption o (MatchResult (number_of a) (λ number. IsForBody a number r (Sees a.moment what)) (λ refusal. Sees a.moment what ≡ Faulty refusal)) (λ x. Sees a.moment what ≡ Sees a.moment x)
    by None e = absurd cc
    by (Some x) e = let same : x ≡ what = cc in ap (Sees a.moment) (sym same)

-- a request that asks for no view, by its number
posted : (a : Arrival) (v : Reading) (r : Request) → seen_by r ≡ None
    → MatchResult (number_of a) (λ number. IsForBody a number r v) (λ refusal. v ≡ Faulty refusal) → IsForRoute a v r
posted a v r is post = by (seen_by r) is
  where
    by : (o : Option Sight) → o ≡ None → MatchOption o (MatchResult (number_of a) (λ number. IsForBody a number r v) (λ refusal. v ≡ Faulty refusal)) (λ what. v ≡ Sees a.moment what)
    by None e = post
    by (Some n) e = absurd cc

-- a body is read under the arrival's number
by_number : (a : Arrival) (v : Reading) (r : Request) (number : ℕ) → number_of a ≡ Ok number → IsForBody a number r v
    → MatchResult (number_of a) (λ n. IsForBody a n r v) (λ refusal. v ≡ Faulty refusal)
by_number a v r number is post = subst (λ (x : Result ℕ Refusal). MatchResult x (λ n. IsForBody a n r v) (λ refusal. v ≡ Faulty refusal)) (sym is) post

-- a sender at fault is refused so
by_refusal : (a : Arrival) (r : Request) (e : Refusal) → number_of a ≡ Err e
    → MatchResult (number_of a) (λ n. IsForBody a n r (Faulty e)) (λ refusal. Faulty e ≡ Faulty refusal)
by_refusal a r e is = subst (λ (x : Result ℕ Refusal). MatchResult x (λ n. IsForBody a n r (Faulty e)) (λ refusal. Faulty e ≡ Faulty refusal)) (sym is) refl

-- what is asked of the queue
for_step : (a : Arrival) (o : Option Request) (number : ℕ) (ask : Ask) → number_of a ≡ Ok number → MatchOption o ⊥ (λ r. Asks r a.body.now (Step ask))
    → MatchOption o (Posts (post_of a number ask) ≡ Faulty NoRoute) (IsForRoute a (Posts (post_of a number ask)))
for_step a None number ask of is = absurd is
for_step a (Some r) number ask of is =
    posted a (Posts (post_of a number ask)) r (unseen r a.body.now ask is) (by_number a (Posts (post_of a number ask)) r number of (inl (ask, is, refl)))

-- a step asked for by a sender at fault reads as the fault
for_sender : (a : Arrival) (o : Option Request) (e : Refusal) (ask : Ask) → number_of a ≡ Err e → MatchOption o ⊥ (λ r. Asks r a.body.now (Step ask))
    → MatchOption o (Faulty e ≡ Faulty NoRoute) (IsForRoute a (Faulty e))
for_sender a None e ask of is = absurd is
for_sender a (Some r) e ask of is = posted a (Faulty e) r (unseen r a.body.now ask is) (by_refusal a r e of)

-- ---- verdicts

-- the verdict on an arrival that asks for a view tells it
pub view_verdict : (s : Settings) (a : Arrival) (m : Queue) (k : Ledger) (x : Asked) (what : Sight)
    → IsAsk a.method a.path.now a.body.now x → x ≡ View what → IsVerdict s a m k (Told (view s m (decided_at m.clock a.moment) what))
view_verdict s a m k x what is shown =
    (Sees a.moment what, for_view a (request_of a.method a.path.now) what (subst (λ (y : Asked). IsAsk a.method a.path.now a.body.now y) shown is), refl)

-- what is posted comes to what is asked for
pub is_post : (s : Settings) (a : Arrival) (m : Queue) (k : Ledger) (sender : Sender) (x : Asked) (ask : Ask)
    → IsAsk a.method a.path.now a.body.now x → x ≡ Step ask → IsSender a sender → IsVerdict s a m k (asked_for s m k (post_of a sender.number ask))
is_post s a m k sender x ask is asked from =
    (Posts (post_of a sender.number ask), for_step a (request_of a.method a.path.now) sender.number ask from.number (subst (λ (y : Asked). IsAsk a.method a.path.now a.body.now y) asked is), refl)

-- an arrival whose sender is at fault is refused so
pub sender_verdict : (s : Settings) (a : Arrival) (m : Queue) (k : Ledger) (x : Asked) (ask : Ask) (e : Refusal)
    → IsAsk a.method a.path.now a.body.now x → x ≡ Step ask → number_of a ≡ Err e → IsVerdict s a m k (denied e)
sender_verdict s a m k x ask e is asked of =
    (Faulty e, for_sender a (request_of a.method a.path.now) e ask of (subst (λ (y : Asked). IsAsk a.method a.path.now a.body.now y) asked is), refl)

-- ---- bodies at fault
-- what is shown has no fault
unseen_fault : (r : Request) (body : List ℕ) (fault : BodyFault) → IsBodyRefusal r body (BadBody fault) → seen_by r ≡ None
unseen_fault (Show n) body fault is = absurd is
unseen_fault other body fault is = refl

-- the client and the number come before the body
pub body_told : (s : Settings) (a : Arrival) (m : Queue) (k : Ledger) (fault : BodyFault) (reply : Response) → IsRefused a.method a.path.now a.body.now (BadBody fault)
    → MatchResult (number_of a) (λ _. reply ≡ refused_response (BadBody fault) NoKeys) (λ e. reply ≡ refused_response e NoKeys) → IsVerdict s a m k (Told reply)
body_told s a m k fault reply refused told = sent (number_of a) refl told
  where
    by : (e : Refusal) (o : Option Request) → MatchOption o (BadBody fault ≡ NoRoute) (λ r. IsBodyRefusal r a.body.now (BadBody fault))
        → ((r : Request) → IsBodyRefusal r a.body.now (BadBody fault) → MatchResult (number_of a) (λ number. IsForBody a number r (Faulty e)) (λ x. Faulty e ≡ Faulty x))
        → MatchOption o (Faulty e ≡ Faulty NoRoute) (IsForRoute a (Faulty e))
    by e None h of = absurd (let no = h in cc)
    by e (Some r) h of = posted a (Faulty e) r (unseen_fault r a.body.now fault h) (of r h)

    sent : (n : Result ℕ Refusal) → number_of a ≡ n → MatchResult n (λ _. reply ≡ refused_response (BadBody fault) NoKeys) (λ e. reply ≡ refused_response e NoKeys) → IsVerdict s a m k (Told reply)
    sent (Ok number) is h = (Faulty (BadBody fault), by (BadBody fault) (request_of a.method a.path.now) refused (λ r at. by_number a (Faulty (BadBody fault)) r number is (inr (fault, at, refl))), ap (λ (x : Response). Told x) h)
    sent (Err e) is h = (Faulty e, by e (request_of a.method a.path.now) refused (λ r at. by_refusal a r e is), ap (λ (x : Response). Told x) h)

-- ---- paths without a route

-- a body has no such fault
no_body_fault : (r : Request) (body : List ℕ) → IsBodyRefusal r body NoRoute → ⊥
no_body_fault (Show n) body is = is
no_body_fault Submit body is = is
no_body_fault Import body is = is
no_body_fault (OnJob n Suspend) body is = is
no_body_fault (OnJob n Resume) body is = is
no_body_fault (OnJob n Kill) body is = is
no_body_fault (OnJob n Alter) body is = is
no_body_fault (Mark n down) body is = absurd (let no = is in cc)
no_body_fault (Next n) body is = absurd (let no = is in cc)
no_body_fault (OnGrant n kind) body is = is
no_body_fault Floor body is = is
no_body_fault Purge body is = is

-- an arrival with no route is refused so
pub unrouted : (s : Settings) (a : Arrival) (m : Queue) (k : Ledger) (reply : Response) → IsRefused a.method a.path.now a.body.now NoRoute → reply ≡ refused_response NoRoute NoKeys → IsVerdict s a m k (Told reply)
unrouted s a m k reply refused told = (Faulty NoRoute, by (request_of a.method a.path.now) refused, ap (λ (x : Response). Told x) told)
  where
    by : (o : Option Request) → MatchOption o (NoRoute ≡ NoRoute) (λ r. IsBodyRefusal r a.body.now NoRoute) → MatchOption o (Faulty NoRoute ≡ Faulty NoRoute) (IsForRoute a (Faulty NoRoute))
    by None h = refl
    by (Some r) h = absurd (no_body_fault r a.body.now h)
