-- Looking back over a run gives what taking one arrival after the other gives.
use Rattle.std.proofs.Common.{◌≡◌, inl, inr, ℕ, eqb, Bool, true, false, not, ◌&&◌, ◌||◌, nat_lt, List, [], ◌∷◌, ◌++◌, Option, Some, None, refl, sym, ap, ◌∙◌, if◌then◌else◌}
use Rattle.std.specs.Prelude.{is_none}
use Rattle.std.specs.List.{find, list_any}
use Rattle.std.specs.Str.{bytes_eq}
use Rattle.fax_job.specs.declared.refusal.Refusal.TheVariants.{FloorHigh, GivenUp}
use Rattle.fax_core.specs.Clock.{decided_at}
use Rattle.fax_core.specs.declared.ask.Ask.{Ask}
use Rattle.fax_core.specs.Ledger.{Ledger, kept_for}
use Rattle.fax_core.specs.Machine.{step}
use Rattle.fax_core.specs.Queue.{Queue, Entry}
use Rattle.fax_core.specs.Reply.{Step, Taken, Refused}
use Rattle.fax_core.specs.Run.{decided, left_by}
use Rattle.fax_core.specs.Settings.{Settings}
use Rattle.fax_run.specs.Laws.{RunsThread, left_of}
use Rattle.fax_run.specs.Reading.{Post, Reading, Faulty, Sees, Posts}
use Rattle.fax_run.proofs.LedgerLemmas.{floors_rise, floors_same, given_finds, gives}
use Rattle.fax_run.specs.Run.{Fed, Start, end_after, floors_after, floors_by, is_new, is_of, kept_after, kept_once, queue_after, reply_to, step_of, taken, takes, under, with_taken}
use Rattle.fax_run.specs.Verdict.{asked_above, decided_new, denied, is_too_high, kept_with, new_asked, raised, raised_ask, repeated, step_reply, stepped, taken_once, verdict, without_given}

-- ---- a number is new where nothing is kept for it

-- none is found with one more behind them where none was and it doesn't pass
none_behind : (q : Entry → Bool) (k : List Entry) (e : Entry) → is_none (find q (k ++ e ∷ [])) ≡ (is_none (find q k) && not (q e))
none_behind q [] e = by (q e) refl
  where
    by : (b : Bool) → q e ≡ b → is_none (find q (e ∷ [])) ≡ not (q e)
    by true is = rw is refl
    by false is = rw is refl
none_behind q (x ∷ k) e = by (q x) refl (none_behind q k e)
  where
    by : (b : Bool) → q x ≡ b → is_none (find q (k ++ e ∷ [])) ≡ (is_none (find q k) && not (q e)) → is_none (find q (x ∷ (k ++ e ∷ []))) ≡ (is_none (find q (x ∷ k)) && not (q e))
    by true is rest = rw is refl
    by false is rest = rw is rest

-- not this and not that is neither
regroup : (a b x : Bool) → ((a && not b) && not x) ≡ (a && not (x || b))
regroup false b x = refl
regroup true true true = refl
regroup true true false = refl
regroup true false true = refl
regroup true false false = refl

-- ---- floors

-- the floors that are kept are those after the requests
pub kept_floors : (start : Start) (fed : List Fed) → (kept_after start fed).floor ≡ floors_after start fed
kept_floors start [] = refl
kept_floors start (f ∷ earlier) =
    floors_same f.post.client f.post.request.ask (kept_after start earlier) ∙ ap (floors_by f.post.client f.post.request.ask) (kept_floors start earlier)

-- a number is free: above the client's floor, and with no kept reply
abbrev pub is_free : Ledger → List ℕ → ℕ → Bool
is_free k client number = nat_lt (k.floor client) number && is_none (kept_for client number k.replies)

-- a number is new with one more post where it was and isn't that post's, as long as it is above the floor
one_more : (g k n n' a b x : Bool) → (g ≡ true → k ≡ true) → (g ≡ true → n' ≡ n) → (k && n) ≡ (k && (a && not b)) → (g && (n' && not x)) ≡ (g && (a && not (x || b)))
one_more false k n n' a b x up same is = refl
one_more true k n n' a b x up same is = let found : n ≡ (a && not b) = rw (up refl) at is in ap (λ y. y && not x) (same refl ∙ found) ∙ regroup a b x

-- a number that is free is one that is new
pub new_is_free : (start : Start) (earlier : List Fed) (p : Post) → is_free (kept_after start earlier) p.client p.number ≡ is_new start earlier p
new_is_free start [] p = ap (λ b. nat_lt (start.kept.floor p.client) p.number && b) (by (is_none (kept_for p.client p.number start.kept.replies)))
  where
    by : (b : Bool) → b ≡ (b && true)
    by true = refl
    by false = refl
new_is_free start (f ∷ earlier) p =
    let k = kept_after start earlier in
    let q = f.post in
    let r = raised (k.floor q.client) q in
    let reply = reply_to (end_after start earlier) f in
    let given = without_given q.client r.request.ask k in
    let is = λ (e : Entry). bytes_eq e.client p.client && eqb e.number p.number in
    let kept = is_none (kept_for p.client p.number start.kept.replies) in
    let used = list_any (is_of p.client p.number) earlier in
    let before : is_free k p.client p.number ≡ (nat_lt (k.floor p.client) p.number && (kept && not used)) = new_is_free start earlier p
    ∙ ap (λ (floors : List ℕ → ℕ). nat_lt (floors p.client) p.number && (kept && not used)) (sym (kept_floors start earlier)) in
    ap (λ b. nat_lt (given.floor p.client) p.number && b)
    (none_behind is given.replies (record { client = q.client; number = q.number; said = q.said; status = reply.status; body = reply.body }))
    ∙ one_more (nat_lt (given.floor p.client) p.number) (nat_lt (k.floor p.client) p.number)
    (is_none (kept_for p.client p.number k.replies)) (is_none (kept_for p.client p.number given.replies)) kept used (is_of p.client p.number f)
    (floors_rise q.client r.request.ask k p.client p.number) (λ above. ap is_none (given_finds q.client r.request.ask k p.client p.number above)) before
    ∙ ap (λ (floors : List ℕ → ℕ). nat_lt (floors p.client) p.number && (kept && not (is_of p.client p.number f || used))) (kept_floors start (f ∷ earlier))

-- ---- one list behind another

-- where one more request leads
abbrev fed_to : Start → Fed → Start
fed_to here f = record { queue = left_by here.queue (step_of here.queue f); kept = kept_once here f }

-- newer requests lead on from where the older lead
pub ends_after : (start : Start) (newer older : List Fed) → end_after start (newer ++ older) ≡ end_after (end_after start older) newer
ends_after start [] older = refl
ends_after start (f ∷ newer) older = ap (λ (here : Start). fed_to here f) (ends_after start newer older)

-- ---- a request that is raised is taken as it was, and leaves the same queue

-- a request whose floor is raised is taken as it was, and leaves the same queue
pub raised_step : (s : Settings) (m : Queue) (t floor : ℕ) (ask : Ask) → (left_by m (step s m t (raised_ask floor ask)) ≡ left_by m (step s m t ask)) × (takes (step s m t (raised_ask floor ask)) ≡ takes (step s m t ask))
raised_step s m t floor ask = elim (gives ask) [
  | inl it ↦ rw it.1 (refl, refl)
  | inr other ↦ rw (other.raised floor) (refl, refl)
]

-- ---- one more arrival

module _ (s : Settings) (start : Start) (earlier : List Fed) where
  abbrev m : Queue
  m = queue_after start.queue earlier

  abbrev k : Ledger
  k = kept_after start earlier

  abbrev here : Start
  here = end_after start earlier

  module _ (p : Post) where
    abbrev it : Post
    it = raised (k.floor p.client) p

    -- the post is taken, by what of it is so
    abbrev if_taken : Bool → Bool → List Fed
    if_taken new low = if new && (low && takes (decided s m p.request)) then under s p ∷ earlier else earlier

    -- the post is taken as it was where its floor is raised, and leaves the same queue
    same : (left_by m (decided s m it.request) ≡ left_by m (decided s m p.request)) × (takes (decided s m it.request) ≡ takes (decided s m p.request))
    same = raised_step s m (decided_at m.clock p.request.moment) (k.floor p.client) p.request.ask

    -- a number with a kept reply leads nowhere, whether it says the same or not
    by_bytes : (e : Entry) (b : Bool) → bytes_eq e.said p.said ≡ b → here ≡ left_of here (repeated p.said e)
    by_bytes e true is = rw is refl
    by_bytes e false is = rw is refl

    -- where the step takes it, it leads where the step does
    by_step : (x : Step) → decided s m it.request ≡ x → end_after start (if takes x then under s p ∷ earlier else earlier) ≡ left_of here (stepped it k x)
    by_step (Taken q told) is =
        let queue : left_by m (decided s m p.request) ≡ q = sym same.0 ∙ ap (left_by m) is in
        ap (λ (x : Queue). record { queue = x; kept = kept_with it k (step_reply (decided s m it.request)) }) queue
        ∙ ap (λ (x : Step). record { queue = q; kept = kept_with it k (step_reply x) }) is
    by_step (Refused refusal keys) is = refl

    -- what gives up its own reply leads nowhere, and all else where it is decided
    by_high : (b : Bool) → is_too_high p.number p.request.ask ≡ b
        → end_after start (if_taken true (not b)) ≡ left_of here (if b then denied FloorHigh else decided_new s m k it)
    by_high true is = refl
    by_high false is = ap (λ (b : Bool). end_after start (if b then under s p ∷ earlier else earlier)) (sym same.1) ∙ by_step (decided s m it.request) refl

    -- the same whether a reply is kept for the number or not
    by_entry : (o : Option Entry) → kept_for p.client p.number k.replies ≡ o
        → end_after start (if_taken (is_none o) (not (is_too_high p.number p.request.ask))) ≡ left_of here (taken_once o p.said (new_asked s m k (k.floor p.client) p))
    by_entry None is = by_high (is_too_high p.number p.request.ask) refl
    by_entry (Some e) is = by_bytes e (bytes_eq e.said p.said) refl

    -- the same whether the number is above the floor or not
    by_floor : (b : Bool) → nat_lt (k.floor p.client) p.number ≡ b
        → end_after start (if_taken (b && is_none (kept_for p.client p.number k.replies)) (not (is_too_high p.number p.request.ask)))
        ≡ left_of here (if b then asked_above s m k (k.floor p.client) p else denied GivenUp)
    by_floor true is = by_entry (kept_for p.client p.number k.replies) refl
    by_floor false is = refl

    -- a post leads where its verdict does
    posted : end_after start (with_taken s start earlier (Posts p)) ≡ left_of here (verdict s m k (Posts p))
    posted =
        ap (λ (b : Bool). end_after start (if_taken b (not (is_too_high p.number p.request.ask)))) (sym (new_is_free start earlier p))
        ∙ by_floor (nat_lt (k.floor p.client) p.number) refl

  -- each reading leads where its verdict does
  pub behind : (r : Reading) → end_after start (with_taken s start earlier r) ≡ left_of here (verdict s m k r)
  behind (Faulty refusal) = refl
  behind (Sees moment what) = refl
  behind (Posts p) = posted p

pub runs_thread : RunsThread
runs_thread s start past r = behind s start (taken s start past) r
