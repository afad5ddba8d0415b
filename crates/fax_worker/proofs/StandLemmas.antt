-- What holds of a worker, its modem's grant and the queue: it holds at the beginning, and each event keeps it.
use Rattle.std.proofs.Common.{◌≡◌, ◌⊎◌, inl, inr, ℕ, ◌<◌, ◌≤◌, Bool, true, false, cond, not, eqb, nat_lt, List, [], ◌∷◌, Option, Some, None, refl, sym, ap, subst, ◌∙◌, arith}
use Rattle.std.specs.Prelude.{⊤, is_none, is_some}
use Rattle.std.specs.List.{list_any}
use Rattle.std.specs.Str.{bytes_eq}
use Rattle.std.specs.Cmp.Lexicographic.{bytes_decides}
use Rattle.std.proofs.lemmas.Bool.{and_from, and_parts, cases_Bool, eqb-true, ltb-true, ne_eqb, not-true, true≢false}
use Rattle.fax_job.specs.declared.job.Call.{Call}
use Rattle.fax_job.specs.declared.job.Call.TheVariants.{Connected}
use Rattle.fax_job.specs.declared.refusal.Refusal.{Refusal}
use Rattle.fax_job.specs.declared.refusal.Refusal.TheVariants.{FloorHigh, GivenUp}
use Rattle.fax_core.specs.declared.ask.Ask.{Ask}
use Rattle.fax_core.specs.declared.ask.Ask.TheVariants.{Next, OnGrant, GiveUp}
use Rattle.fax_core.specs.declared.grants.Grant.{Grant}
use Rattle.fax_core.specs.declared.report.Report.{Report}
use Rattle.fax_core.specs.Ledger.{greater, kept_for}
use Rattle.fax_core.specs.Machine.{step}
use Rattle.fax_core.specs.Queue.{Queue, grant_numbered}
use Rattle.fax_core.specs.Reply.{Given, HeldGrant, Keys, NoKeys, Reply, Step, Taken, Refused}
use Rattle.fax_core.specs.Run.{Answer, Replied, Denied, answer_of, left_by}
use Rattle.fax_core.specs.Settings.{Settings}
use Rattle.fax_core.specs.Sound.{IsOpen, Sound}
use Rattle.fax_core.proofs.RefusalLemmas.{step_held}
use Rattle.fax_run.specs.Reading.{Post}
use Rattle.fax_run.specs.Run.{Fed, Start, floors_after, floors_by, is_new, is_of, is_taken, queue_after, step_of, takes, under}
use Rattle.fax_run.specs.Verdict as verdict
use Rattle.fax_run.specs.Verdict.{is_too_high, raised, raised_ask}
use Rattle.fax_worker.proofs.QueueLemmas.{FitsHeld, step_given}
use Rattle.fax_worker.proofs.DialLemmas.{KeepsDials, unaged_there}
use Rattle.fax_worker.specs.Laws.{Agrees}
use Rattle.fax_worker.specs.Trace.{CallsComeFirst, Has, PageOf, Shows, SentAnswer, World, answer_to, new_answer, repeated}
use Rattle.fax_worker.specs.Worker as worker
use Rattle.fax_worker.specs.Worker.{Action, Held, IsRequest, Look, Pending, Worker, after_report, held_after, held_of, next_page, with_answer, with_request}

-- ---- lists and numbers

-- one more that passes
pub any_on : (q : Fed → Bool) (f : Fed) (fs : List Fed) → q f ≡ true → list_any q (f ∷ fs) ≡ true
any_on q f fs on = rw on refl

-- one more that doesn't
pub any_off : (q : Fed → Bool) (f : Fed) (fs : List Fed) → q f ≡ false → list_any q (f ∷ fs) ≡ list_any q fs
any_off q f fs off = rw off refl

-- one more after one that passes
pub any_later : (q : Fed → Bool) (f : Fed) (fs : List Fed) → list_any q fs ≡ true → list_any q (f ∷ fs) ≡ true
any_later q f fs on = elim (cases_Bool (q f)) [
  | inl here ↦ any_on q f fs here
  | inr off ↦ any_off q f fs off ∙ on
]

below : (a b : ℕ) → nat_lt a b ≡ true → a < b
below a b low = ltb-true a b low

not_equal : (a b : ℕ) → a < b → eqb a b ≡ false
not_equal a b low = ne_eqb a b (λ q. omega (arith, low, q))

-- ---- floors

greater_below : (a b n : ℕ) → a < n → b < n → greater a b < n
greater_below a b n low high = by (nat_lt a b)
  where
    by : (x : Bool) → cond x b a < n
    by true = high
    by false = low

greater_least : (a b : ℕ) → a ≤ greater a b
greater_least a b = by (nat_lt a b) refl
  where
    by : (x : Bool) → nat_lt a b ≡ x → a ≤ cond x b a
    by true low = let less = below a b low in omega (arith, less)
    by false same = omega arith

-- a request of another client leaves a floor
pub floors_other : (client : List ℕ) (ask : Ask) (floors : List ℕ → ℕ) (c : List ℕ) → bytes_eq c client ≡ false → floors_by client ask floors c ≡ floors c
floors_other client (GiveUp u) floors c off = ap (λ b. cond b (greater (floors client) u) (floors c)) off
floors_other client other floors c off = refl

-- a floor that is low stays low, where what is given up is
pub floors_below : (client : List ℕ) (ask : Ask) (floors : List ℕ → ℕ) (c : List ℕ) (n : ℕ) → floors c < n → ((u : ℕ) → ask ≡ GiveUp u → u < n) → floors_by client ask floors c < n
floors_below client (GiveUp u) floors c n low gives = by (bytes_eq c client) refl
  where
    by : (b : Bool) → bytes_eq c client ≡ b → cond b (greater (floors client) u) (floors c) < n
    by true on = greater_below (floors client) u n (subst (λ (x : List ℕ). floors x < n) ((bytes_decides c client).0 on) low) (gives u refl)
    by false off = low
floors_below client other floors c n low gives = low

-- no floor falls
pub floors_up : (client : List ℕ) (ask : Ask) (floors : List ℕ → ℕ) (c : List ℕ) → floors c ≤ floors_by client ask floors c
floors_up client (GiveUp u) floors c = by (bytes_eq c client) refl
  where
    by : (b : Bool) → bytes_eq c client ≡ b → floors c ≤ cond b (greater (floors client) u) (floors c)
    by true on = subst (λ (x : List ℕ). floors x ≤ greater (floors client) u) (sym ((bytes_decides c client).0 on)) (greater_least (floors client) u)
    by false off = omega arith
floors_up client other floors c = omega arith

-- ---- accepted requests

pub record IsTaken (start : Start) (fs : List Fed) (f : Fed) : Type 0 where
  pub above : floors_after start fs f.post.client < f.post.number
  pub above' : nat_lt (floors_after start fs f.post.client) f.post.number ≡ true
  pub unused : list_any (is_of f.post.client f.post.number) fs ≡ false
  pub after : Queue
  pub reply : Reply
  pub taken : step_of (queue_after start.queue fs) f ≡ Taken after reply

taken_step : (x : Step) → takes x ≡ true → (n : Queue) × (r : Reply) × (x ≡ Taken n r)
taken_step (Taken n r) on = (n, r, refl)
taken_step (Refused e k) on = absurd cc

-- the parts of it
pub taken_parts : (start : Start) (fs : List Fed) (f : Fed) → is_taken start fs f ≡ true → IsTaken start fs f
taken_parts start fs f on =
    let p = f.post in
    let a = and_parts (is_new start fs p) _ on in
    let b = and_parts (nat_lt (floors_after start fs p.client) p.number) _ a.0 in
    let c = and_parts (is_none (kept_for p.client p.number start.kept.replies)) _ b.1 in
    let d = and_parts (not (is_too_high p.number p.request.ask)) (takes (step_of (queue_after start.queue fs) f)) a.1 in
    let it = taken_step (step_of (queue_after start.queue fs) f) d.1 in
    record { above = below _ _ b.0; above' = b.0; unused = not-true _ c.1; after = it.0; reply = it.1; taken = it.2 }

-- a request with a new number is accepted where the machine accepts it
pub taken_from : (start : Start) (fs : List Fed) (f : Fed) → nat_lt (floors_after start fs f.post.client) f.post.number ≡ true → kept_for f.post.client f.post.number start.kept.replies ≡ None
    → list_any (is_of f.post.client f.post.number) fs ≡ false → is_too_high f.post.number f.post.request.ask ≡ false
    → (n : Queue) (r : Reply) → step_of (queue_after start.queue fs) f ≡ Taken n r → is_taken start fs f ≡ true
taken_from start fs f above none unused low n r e =
    let p = f.post in
    and_from (is_new start fs p) _
    (and_from (nat_lt (floors_after start fs p.client) p.number) _ above (and_from (is_none (kept_for p.client p.number start.kept.replies)) _ (ap is_none none) (ap not unused)))
    (and_from (not (is_too_high p.number p.request.ask)) (takes (step_of (queue_after start.queue fs) f)) (ap not low) (ap takes e))

-- ---- what is answered

-- a request that gives up no replies is decided as it is
pub record IsPlain (ask : Ask) : Type 0 where
  pub raised : (floor : ℕ) → raised_ask floor ask ≡ ask
  pub low : (n : ℕ) → is_too_high n ask ≡ false

pub plain_next : (modem : List ℕ) → IsPlain (Next modem)
plain_next modem = record { raised = λ floor. refl; low = λ n. refl }

pub plain_report : (grant : ℕ) (x : Report) → IsPlain (OnGrant grant x)
plain_report grant x = record { raised = λ floor. refl; low = λ n. refl }

-- the answer to the accepted request of this client under this number
abbrev pub kept_answer : Start → List Fed → List ℕ → ℕ → Option Answer
kept_answer start [] client number = None
kept_answer start (f ∷ earlier) client number = cond (is_of client number f) (Some (new_answer start earlier f)) (kept_answer start earlier client number)

-- where none has the number, none is repeated
pub repeats_none : (start : Start) (fs : List Fed) (p : Post) (new : Answer) → list_any (is_of p.client p.number) fs ≡ false → repeated start fs p new ≡ new
repeats_none start [] p new none = refl
repeats_none start (f ∷ fs) p new none = elim (cases_Bool (is_of p.client p.number f)) [
  | inl on ↦ absurd (true≢false (sym (any_on (is_of p.client p.number) f fs on) ∙ none))
  | inr off ↦ rw off (repeats_none start fs p new (sym (any_off (is_of p.client p.number) f fs off) ∙ none))
]

-- where none has it, none is kept
keeps_none : (start : Start) (fs : List Fed) (c : List ℕ) (n : ℕ) → list_any (is_of c n) fs ≡ false → kept_answer start fs c n ≡ None
keeps_none start [] c n none = refl
keeps_none start (f ∷ fs) c n none = elim (cases_Bool (is_of c n f)) [
  | inl on ↦ absurd (true≢false (sym (any_on (is_of c n) f fs on) ∙ none))
  | inr off ↦ rw off (keeps_none start fs c n (sym (any_off (is_of c n) f fs off) ∙ none))
]

-- one that has it is repeated as kept, where it says the same
pub repeats_kept : (start : Start) (fs : List Fed) (p : Post) (new : Answer) → list_any (is_of p.client p.number) fs ≡ true
    → ((f : Fed) → Has f fs → is_of p.client p.number f ≡ true → f.post.said ≡ p.said) → kept_answer start fs p.client p.number ≡ Some (repeated start fs p new)
repeats_kept start [] p new any same = absurd cc
repeats_kept start (f ∷ fs) p new any same = elim (cases_Bool (is_of p.client p.number f)) [
  | inl on ↦ rw (on, (bytes_decides f.post.said p.said).1 (same f (inl refl) on)) refl
  | inr off ↦ rw off (repeats_kept start fs p new (sym (any_off (is_of p.client p.number) f fs off) ∙ any) (λ g has. same g (inr has)))
]

-- a plain request is decided as it is
pub new_plain : (start : Start) (fs : List Fed) (f : Fed) → IsPlain f.post.request.ask → new_answer start fs f ≡ answer_of (step_of (queue_after start.queue fs) f)
new_plain start fs f plain =
    let p = f.post in
    let decided : Answer = answer_of (step_of (queue_after start.queue fs) (under f.settings (verdict.raised (floors_after start fs p.client) p))) in
    ap (λ b. cond b (Denied FloorHigh NoKeys) decided) (plain.low p.number)
    ∙ ap (λ (a : Ask). answer_of (step_of (queue_after start.queue fs) (under f.settings (record p { request = record p.request { ask = a } })))) (plain.raised (floors_after start fs p.client))

-- above the floor a request is repeated or new
pub answer_above : (start : Start) (fs : List Fed) (f : Fed) → nat_lt (floors_after start fs f.post.client) f.post.number ≡ true
    → answer_to start fs f ≡ repeated start fs f.post (new_answer start fs f)
answer_above start fs f above = ap (λ b. cond b (repeated start fs f.post (new_answer start fs f)) (Denied GivenUp NoKeys)) above

-- a new one has the answer of its step
pub answer_new : (start : Start) (fs : List Fed) (f : Fed) → nat_lt (floors_after start fs f.post.client) f.post.number ≡ true → IsPlain f.post.request.ask
    → list_any (is_of f.post.client f.post.number) fs ≡ false → answer_to start fs f ≡ answer_of (step_of (queue_after start.queue fs) f)
answer_new start fs f above plain unused = answer_above start fs f above ∙ repeats_none start fs f.post (new_answer start fs f) unused ∙ new_plain start fs f plain

-- ---- agreement stays

-- the open grants of a modem stay as they are, and each job that has one dials the same number
abbrev pub Stays : List ℕ → Queue → Queue → Type 0
Stays modem m n = ((a : ℕ) (g : Grant) → IsOpen m a g → g.modem ≡ modem → grant_numbered a n ≡ Some g) × KeepsDials m n

-- so agreement stays
pub agrees_still : (modem : List ℕ) (m n : Queue) (h : Held) → Stays modem m n → Agrees m modem h → Agrees n modem h
agrees_still modem m n h (stays, dials) a = record {
  job = (dials h.job a.job a.there h.grant a.grant a.open_grant a.of_job).0;
  there = (dials h.job a.job a.there h.grant a.grant a.open_grant a.of_job).1;
  dial = (dials h.job a.job a.there h.grant a.grant a.open_grant a.of_job).2 ∙ a.dial;
  grant = a.grant;
  open_grant = (stays h.grant a.grant a.open_grant a.of_modem, a.open_grant.1);
  of_modem = a.of_modem;
  of_job = a.of_job;
  first_page = a.first_page;
  last_page = a.last_page;
  call = a.call;
  pages = a.pages;
}

-- a busy modem's refusal shows its open grant, as it is for some look; with no call none of its pages is confirmed
abbrev pub KeysLead : Queue → List ℕ → Keys → Type 0
KeysLead m modem (HeldGrant called h) = (look : Look) × Agrees m modem (held_of h look.call look.pages) × (called ≡ false → look ≡ record { call = None; pages = 0 })
KeysLead m modem other = ⊤

-- a grant that is given is the open one
abbrev pub ReplyLeads : Queue → List ℕ → Reply → Type 0
ReplyLeads m modem (Given h) = Agrees m modem (held_of h None 0)
ReplyLeads m modem other = ⊤

-- so an answer to `next` leads to agreement
abbrev pub NextLeads : Queue → List ℕ → Answer → Type 0
NextLeads m modem (Replied reply) = ReplyLeads m modem reply
NextLeads m modem (Denied refusal keys) = KeysLead m modem keys

reply_still : (modem : List ℕ) (m n : Queue) (r : Reply) → Stays modem m n → ReplyLeads m modem r → ReplyLeads n modem r
reply_still modem m n (Given h) stays a = agrees_still modem m n (held_of h None 0) stays a
reply_still modem m n other stays a = a

keys_still : (modem : List ℕ) (m n : Queue) (k : Keys) → Stays modem m n → KeysLead m modem k → KeysLead n modem k
keys_still modem m n (HeldGrant called h) stays (look, a, none) = (look, agrees_still modem m n (held_of h look.call look.pages) stays a, none)
keys_still modem m n other stays a = a

pub next_still : (modem : List ℕ) (m n : Queue) (answer : Answer) → Stays modem m n → NextLeads m modem answer → NextLeads n modem answer
next_still modem m n (Replied r) stays a = reply_still modem m n r stays a
next_still modem m n (Denied e k) stays a = keys_still modem m n k stays a

none_is : (o : Option Call) → is_some o ≡ false → o ≡ None
none_is None e = refl
none_is (Some c) e = cc

-- the refusal of `next` leads to it
keys_lead : (s : Settings) (m : Queue) (t : ℕ) (modem : List ℕ) (e : Refusal) (k : Keys) → Sound m → CallsComeFirst m → step s m t (Next modem) ≡ Refused e k → KeysLead m modem k
keys_lead s m t modem e (HeldGrant called h) sound calls is =
    let it = step_held s m t modem e called h sound is in
    let old = unaged_there t m h.job it.job it.there in
    let g = it.grant in (
      record { call = g.call; pages = g.confirmed },
      record {
        grant = g;
        open_grant = it.open_grant;
        of_modem = it.of_modem;
        of_job = it.of_job;
        first_page = it.first_page;
        last_page = it.last_page;
        call = refl;
        pages = refl;
        job = old.0;
        there = old.1;
        dial = old.2 ∙ sym it.dial;
      },
      λ off.
          let none = none_is g.call (it.call ∙ off) in
          ap (λ (c : Option Call). record { call = c; pages = g.confirmed }) none ∙ ap (λ (n : ℕ). record { call = None; pages = n }) (calls h.grant g it.open_grant.0 none),
    )
keys_lead s m t modem e other sound calls is = tt

-- so does each of its answers
pub step_leads : (s : Settings) (m : Queue) (t : ℕ) (modem : List ℕ) (x : Step) → Sound m → CallsComeFirst m → step s m t (Next modem) ≡ x → (n : Queue) → left_by m x ≡ n → NextLeads n modem (answer_of x)
step_leads s m t modem (Taken q r) sound calls is n same = subst (λ (z : Queue). ReplyLeads z modem r) same (by r is)
  where
    by : (r : Reply) → step s m t (Next modem) ≡ Taken q r → ReplyLeads q modem r
    by (Given h) e = step_given s m q t modem h sound e
    by other e = tt
step_leads s m t modem (Refused e k) sound calls is n same = subst (λ (z : Queue). KeysLead z modem k) same (keys_lead s m t modem e k sound calls is)

-- ---- what holds of a worker

-- an acceptance
abbrev pub IsReplied : Answer → Type 0
IsReplied answer = (reply : Reply) × (answer ≡ Replied reply)

module _ (first : World) (modem : List ℕ) where
  -- its name
  abbrev pub name : List ℕ
  name = (first.worker modem).client

  -- whether the queue has accepted a request of its with this number
  abbrev pub is_accepted : List Fed → ℕ → Bool
  is_accepted fs n = list_any (is_of name n) fs

  -- an answer that was sent to a request, or would be
  abbrev pub IsSent : List Fed → List SentAnswer → ℕ → Ask → Answer → Type 0
  IsSent fs ts n ask answer = Has (record { number = n; ask = ask; answer = answer }) ts ⊎ (kept_answer first.start fs name n ≡ Some answer)

  -- while `next` is unanswered nothing is held, and each answer leads to agreement
  pub record NextWaits (m : Queue) (fs : List Fed) (ts : List SentAnswer) (n : ℕ) (asked : List ℕ) (held : Option Held) : Type 0 where
    pub own : asked ≡ modem
    pub none : held ≡ None
    pub leads : (answer : Answer) → IsSent fs ts n (Next asked) answer → NextLeads m modem answer

  -- a report that isn't accepted yet has no answer, and the queue agrees
  pub record Waiting (m : Queue) (fs : List Fed) (ts : List SentAnswer) (n grant : ℕ) (x : Report) (h : Held) : Type 0 where
    pub unused : is_accepted fs n ≡ false
    pub agrees : Agrees m modem h
    pub silent : (answer : Answer) → Has (record { number = n; ask = OnGrant grant x; answer = answer }) ts → ⊥

  -- one that is accepted leads to agreement
  pub record Arrived (m : Queue) (fs : List Fed) (n : ℕ) (x : Report) (h : Held) : Type 0 where
    pub used : is_accepted fs n ≡ true
    pub agrees : (k : Held) → after_report x h ≡ Some k → Agrees m modem k

  pub record ReportWaits (m : Queue) (fs : List Fed) (ts : List SentAnswer) (n grant : ℕ) (x : Report) (held : Option Held) : Type 0 where
    pub h : Held
    pub holds : held ≡ Some h
    pub its : grant ≡ h.grant
    pub fits : FitsHeld h x
    pub accepted : (answer : Answer) → IsSent fs ts n (OnGrant grant x) answer → IsReplied answer
    pub state : Waiting m fs ts n grant x h ⊎ Arrived m fs n x h

  -- nothing is held, or the queue agrees
  abbrev pub HoldsSo : Queue → Option Held → Type 0
  HoldsSo m held = (h : Held) → held ≡ Some h → Agrees m modem h

  abbrev pub Waits : Queue → List Fed → List SentAnswer → ℕ → Ask → Option Held → Type 0
  Waits m fs ts n (Next asked) held = NextWaits m fs ts n asked held
  Waits m fs ts n (OnGrant grant x) held = ReportWaits m fs ts n grant x held
  Waits m fs ts n other held = HoldsSo m held

  -- by what is unanswered
  abbrev pub Stands : Queue → List Fed → List SentAnswer → Option Pending → Option Held → Type 0
  Stands m fs ts None held = HoldsSo m held
  Stands m fs ts (Some p) held = Waits m fs ts p.number p.ask held

  -- a page whose report isn't begun is the next of the held grant
  pub record IsInWindow (w : Worker) (p : PageOf) : Type 0 where
    pub answered : w.unanswered ≡ None
    pub held : Held
    pub holds : w.held ≡ Some held
    pub connected : held.call ≡ Some Connected
    pub of_job : held.job ≡ p.job
    pub next : next_page held ≡ p.page
    pub left : p.page ≤ held.last_page

  -- a report that was begun is unanswered, accepted or given up
  abbrev pub IsSettled : Worker → List Fed → Pending → Type 0
  IsSettled w fs p = (w.unanswered ≡ Some p) ⊎ (is_accepted fs p.number ≡ true) ⊎ (p.number ≤ floors_after first.start fs name)

  pub record Inv (w : Worker) (fs : List Fed) (bs : List Pending) (ts : List SentAnswer) (win : Option PageOf) : Type 0 where
    -- what is begun has a number of its own, the last at most
    pub low : (p : Pending) → Has p bs → p.number ≤ w.last
    pub once : (p q : Pending) → Has p bs → Has q bs → p.number ≡ q.number → p.ask ≡ q.ask
    pub waits : (p : Pending) → w.unanswered ≡ Some p → Has p bs × (p.number ≡ w.last)
    pub gives : (p : Pending) (u : ℕ) → Has p bs → p.ask ≡ GiveUp u → u < p.number
    -- what the queue has accepted of it is begun
    pub own : (f : Fed) → Has f fs → f.post.client ≡ name → Has (record { number = f.post.number; ask = f.post.request.ask }) bs × (f.post.said ≡ first.says f.post.request.ask)
    -- the queue keeps nothing else under its numbers
    pub unused : (n : ℕ) → w.last < n → kept_for name n first.start.kept.replies ≡ None
    pub free : (p : Pending) → w.unanswered ≡ Some p → kept_for name p.number first.start.kept.replies ≡ None
    pub floor : floors_after first.start fs name ≤ w.last
    pub above : (p : Pending) → w.unanswered ≡ Some p → floors_after first.start fs name < p.number
    pub sent_low : (t : SentAnswer) → Has t ts → t.number ≤ w.last
    pub settled : (p : Pending) (grant : ℕ) (x : Report) → Has p bs → p.ask ≡ OnGrant grant x → IsSettled w fs p
    pub stands : Stands (queue_after first.start.queue fs) fs ts w.unanswered w.held
    pub in_window : (p : PageOf) → win ≡ Some p → IsInWindow w p

  -- ---- the worker's events

  -- what is kept is of one that is accepted
  kept_any : (start : Start) (fs : List Fed) (c : List ℕ) (n : ℕ) (a : Answer) → kept_answer start fs c n ≡ Some a → list_any (is_of c n) fs ≡ true
  kept_any start fs c n a e = elim (cases_Bool (list_any (is_of c n) fs)) [
    | inl on ↦ on
    | inr off ↦ absurd (let none = keeps_none start fs c n off in cc)
  ]

  -- some request is accepted under a number that is accepted
  some_has : (fs : List Fed) (c : List ℕ) (n : ℕ) → list_any (is_of c n) fs ≡ true → (f : Fed) × Has f fs × (f.post.client ≡ c) × (f.post.number ≡ n)
  some_has [] c n any = absurd cc
  some_has (f ∷ fs) c n any = elim (cases_Bool (is_of c n f)) [
    | inl on ↦
        let parts = and_parts (bytes_eq f.post.client c) (eqb f.post.number n) on in
        (f, inl refl, (bytes_decides f.post.client c).0 parts.0, eqb-true f.post.number n parts.1)
    | inr off ↦
        let it = some_has fs c n (sym (any_off (is_of c n) f fs off) ∙ any) in
        (it.0, inr it.1, it.2, it.3)
  ]

  module _ (w : Worker) (fs : List Fed) (bs : List Pending) (ts : List SentAnswer) (win : Option PageOf) (i : Inv w fs bs ts win) where
    abbrev m : Queue
    m = queue_after first.start.queue fs

    -- under a new number nothing was accepted
    pub new_unused : (n : ℕ) → w.last < n → is_accepted fs n ≡ false
    new_unused n new = elim (cases_Bool (is_accepted fs n)) [
      | inl on ↦
          let it = some_has fs name n on in
          let b = i.own it.0 it.1 it.2 in
          absurd (let small = i.low _ b.0 in omega (arith, small, it.3, new))
      | inr off ↦ off
    ]

    -- and no answer was sent
    new_silent : (n : ℕ) (ask : Ask) (answer : Answer) → w.last < n → Has (record { number = n; ask = ask; answer = answer }) ts → ⊥
    new_silent n ask answer new has = let small = i.sent_low _ has in omega (arith, small, new)

    new_unsent : (n : ℕ) (ask : Ask) (answer : Answer) → w.last < n → IsSent fs ts n ask answer → ⊥
    new_unsent n ask answer new (inl has) = new_silent n ask answer new has
    new_unsent n ask answer new (inr kept) =
        let on = kept_any first.start fs name n answer kept in
        let off = new_unused n new in
        true≢false (sym on ∙ off)

    -- ---- it begins a request

    -- what it holds agrees while nothing is unanswered
    stood : w.unanswered ≡ None → HoldsSo m w.held
    stood none = subst (λ (o : Option Pending). Stands m fs ts o w.held) none i.stands

    -- a request that it may begin waits
    begins_so : (action : Action) (held : Option Held) (n : ℕ) (ask : Ask) → w.last < n → HoldsSo m held → IsRequest modem w.last action held ask → Waits m fs ts n ask held
    begins_so worker.AsksForWork None n ask new so is = subst (λ (a : Ask). Waits m fs ts n a None) (sym is) (record { own = refl; none = refl; leads = λ answer sent. absurd (new_unsent n (Next modem) answer new sent) })
    begins_so worker.AsksForWork (Some h) n ask new so is = absurd is
    begins_so (worker.ReportsCall call) None n ask new so is = absurd is
    begins_so (worker.ReportsCall call) (Some h) n ask new so (none, is) = subst (λ (a : Ask). Waits m fs ts n a (Some h)) (sym is) (record {
      h = h;
      holds = refl;
      its = refl;
      fits = none;
      accepted = λ answer sent. absurd (new_unsent n _ answer new sent);
      state = inl (record { unused = new_unused n new; agrees = so h refl; silent = λ answer has. new_silent n _ answer new has });
    })
    begins_so worker.ReportsPage None n ask new so is = absurd is
    begins_so worker.ReportsPage (Some h) n ask new so (on, more, is) = subst (λ (a : Ask). Waits m fs ts n a (Some h)) (sym is) (record {
      h = h;
      holds = refl;
      its = refl;
      fits = (on, more, refl);
      accepted = λ answer sent. absurd (new_unsent n _ answer new sent);
      state = inl (record { unused = new_unused n new; agrees = so h refl; silent = λ answer has. new_silent n _ answer new has });
    })
    begins_so (worker.ReportsOutcome ending reason) None n ask new so is = absurd is
    begins_so (worker.ReportsOutcome ending reason) (Some h) n ask new so (done, is) = subst (λ (a : Ask). Waits m fs ts n a (Some h)) (sym is) (record {
      h = h;
      holds = refl;
      its = refl;
      fits = (done, refl, refl);
      accepted = λ answer sent. absurd (new_unsent n _ answer new sent);
      state = inl (record { unused = new_unused n new; agrees = so h refl; silent = λ answer has. new_silent n _ answer new has });
    })
    begins_so worker.GivesUp held n ask new so is = subst (λ (a : Ask). Waits m fs ts n a held) (sym is) so

    -- it gives up numbers below the request's own
    gives_below : (action : Action) (held : Option Held) (n u : ℕ) (ask : Ask) → w.last < n → IsRequest modem w.last action held ask → ask ≡ GiveUp u → u < n
    gives_below worker.AsksForWork None n u ask new is e = absurd (cc (is, e))
    gives_below worker.AsksForWork (Some h) n u ask new is e = absurd is
    gives_below (worker.ReportsCall call) None n u ask new is e = absurd is
    gives_below (worker.ReportsCall call) (Some h) n u ask new is e = absurd (cc (is.1, e))
    gives_below worker.ReportsPage None n u ask new is e = absurd is
    gives_below worker.ReportsPage (Some h) n u ask new is e = absurd (cc (is.2, e))
    gives_below (worker.ReportsOutcome ending reason) None n u ask new is e = absurd is
    gives_below (worker.ReportsOutcome ending reason) (Some h) n u ask new is e = absurd (cc (is.1, e))
    gives_below worker.GivesUp held n u ask new is e = let same : w.last ≡ u = cc (is, e) in omega (arith, same, new)

    pub begins : (action : Action) (n : ℕ) (ask : Ask) → worker.Begins modem w action n ask (with_request n ask w) → Inv (with_request n ask w) fs (record { number = n; ask = ask } ∷ bs) ts None
    begins action n ask is = record {
      low = λ p has. elim has [
        | inl same ↦ let at : n ≡ p.number = ap (λ (q : Pending). q.number) same in omega (arith, at)
        | inr old ↦ let small = i.low p old in omega (arith, small, is.new)
      ];
      once = λ p q a b e. elim a [
        | inl here ↦ elim b [
          | inl there ↦ ap (λ (x : Pending). x.ask) (sym here ∙ there)
          | inr old ↦ let small = i.low q old in let at : n ≡ p.number = ap (λ (q : Pending). q.number) here in absurd (omega (arith, small, at, e, is.new))
        ]
        | inr old ↦ elim b [
          | inl there ↦ let small = i.low p old in let at : n ≡ q.number = ap (λ (q : Pending). q.number) there in absurd (omega (arith, small, at, e, is.new))
          | inr also ↦ i.once p q old also e
        ]
      ];
      waits = λ p e. let same : record { number = n; ask = ask } ≡ p = cc in (inl same, sym (ap (λ (q : Pending). q.number) same));
      gives = λ p u has e. elim has [
        | inl same ↦
            let at : n ≡ p.number = ap (λ (q : Pending). q.number) same in
            let less = gives_below action w.held n u ask is.new is.request (ap (λ (q : Pending). q.ask) same ∙ e) in
            omega (arith, at, less)
        | inr old ↦ i.gives p u old e
      ];
      own = λ f has its. let b = i.own f has its in (inr b.0, b.1);
      unused = λ k more. i.unused k (omega (arith, more, is.new));
      free = λ p e. let same : record { number = n; ask = ask } ≡ p = cc in subst (λ (q : Pending). kept_for name q.number first.start.kept.replies ≡ None) same (i.unused n is.new);
      floor = omega (arith, i.floor, is.new);
      above = λ p e. let at : n ≡ p.number = cc in omega (arith, i.floor, is.new, at);
      sent_low = λ t has. let small = i.sent_low t has in omega (arith, small, is.new);
      settled = λ p grant x has e. elim has [
        | inl same ↦ inl (ap (λ (q : Pending). Some q) same)
        | inr old ↦ elim (i.settled p grant x old e) [
          | inl was ↦ absurd (let none = is.answered in cc)
          | inr rest ↦ inr rest
        ]
      ];
      stands = begins_so action w.held n ask is.new (stood is.answered) is.request;
      in_window = λ p e. absurd (cc e);
    }

    -- ---- it gets an answer

    -- a look that shows what is known
    look_is : (g : Grant) (seen : Look) → g.call ≡ seen.call → g.confirmed ≡ seen.pages → Path Look (record { call = g.call; pages = g.confirmed }) seen
    look_is g seen call pages = ap (λ (c : Option Call). record { call = c; pages = g.confirmed }) call ∙ ap (λ (n : ℕ). record { call = seen.call; pages = n }) pages

    -- what `next` leaves agrees
    next_lands : (answer : Answer) (look : Look) (held : Option Held) (asked : List ℕ) → Shows m answer look → NextLeads m modem answer → HoldsSo m (held_after (Next asked) answer look held)
    next_lands (Replied (Given h)) look held asked shows leads k e = let same : held_of h None 0 ≡ k = cc in subst (Agrees m modem) same leads
    next_lands (Replied other) look held asked shows leads k e = absurd cc
    next_lands (Denied refusal (HeldGrant false h)) look held asked shows (seen, a, none) k e =
        let same : held_of h None 0 ≡ k = cc in
        subst (Agrees m modem) same (subst (λ (l : Look). Agrees m modem (held_of h l.call l.pages)) (none refl) a)
    next_lands (Denied refusal (HeldGrant true h)) look held asked (g, there, is) (seen, a, none) k e =
        let same : held_of h look.call look.pages ≡ k = cc in
        let it : a.grant ≡ g = (let both = sym a.open_grant.0 ∙ there in cc) in
        let shown : look ≡ seen = is ∙ ap (λ (z : Grant). record { call = z.call; pages = z.confirmed }) (sym it) ∙ look_is a.grant seen a.call a.pages in
        subst (Agrees m modem) same (subst (λ (l : Look). Agrees m modem (held_of h l.call l.pages)) (sym shown) a)
    next_lands (Denied refusal other) look held asked shows leads k e = absurd cc

    -- so does what any answer leaves
    lands : (n : ℕ) (ask : Ask) (answer : Answer) (look : Look) (held : Option Held) → Shows m answer look → Has (record { number = n; ask = ask; answer = answer }) ts
        → Waits m fs ts n ask held → HoldsSo m (held_after ask answer look held)
    lands n (Next asked) answer look held shows sent waits = next_lands answer look held asked shows (waits.leads answer (inl sent))
    lands n (OnGrant grant x) answer look held shows sent waits =
        let replied = waits.accepted answer (inl sent) in
        elim waits.state [
          | inl waiting ↦ absurd (waiting.silent answer sent)
          | inr arrived ↦
              λ k e. arrived.agrees k (sym (ap (λ (a : Answer). held_after (OnGrant grant x) a look held) replied.1 ∙ ap (worker.reported x) waits.holds) ∙ e)
        ]
    lands n other answer look held shows sent waits = waits

    -- a report that is answered was accepted
    answered_used : (n grant : ℕ) (x : Report) (answer : Answer) (held : Option Held) → Has (record { number = n; ask = OnGrant grant x; answer = answer }) ts → ReportWaits m fs ts n grant x held → is_accepted fs n ≡ true
    answered_used n grant x answer held sent waits = elim waits.state [
      | inl waiting ↦ absurd (waiting.silent answer sent)
      | inr arrived ↦ arrived.used
    ]

    pub answers : (n : ℕ) (ask : Ask) (answer : Answer) (look : Look) → w.unanswered ≡ Some (record { number = n; ask = ask }) → Has (record { number = n; ask = ask; answer = answer }) ts
        → Shows m answer look → Inv (with_answer ask answer look w) fs bs ts None
    answers n ask answer look is sent shows =
        let stood = subst (λ (o : Option Pending). Stands m fs ts o w.held) is i.stands in
        record {
          low = i.low;
          once = i.once;
          waits = λ p e. absurd (cc e);
          gives = i.gives;
          own = i.own;
          unused = i.unused;
          free = λ p e. absurd (cc e);
          floor = i.floor;
          above = λ p e. absurd (cc e);
          sent_low = i.sent_low;
          settled = λ p grant x has e. elim (i.settled p grant x has e) [
            | inl was ↦
                let same : record { number = n; ask = ask } ≡ p = (let both = sym is ∙ was in cc) in
                let at : n ≡ p.number = ap (λ (q : Pending). q.number) same in
                let asked : ask ≡ OnGrant grant x = ap (λ (q : Pending). q.ask) same ∙ e in
                inr (inl (subst (λ (k : ℕ). is_accepted fs k ≡ true) at
                (answered_used n grant x answer w.held
                (subst (λ (a : Ask). Has (record { number = n; ask = a; answer = answer }) ts) asked sent)
                (subst (λ (a : Ask). Waits m fs ts n a w.held) asked stood))))
            | inr rest ↦ inr rest
          ];
          stands = lands n ask answer look w.held shows sent stood;
          in_window = λ p e. absurd (cc e);
        }

    -- ---- a page is transmitted, or the driver dies

    pub transmits : (p : PageOf) → IsInWindow w p → Inv w fs bs ts (Some p)
    transmits p is = record {
      low = i.low;
      once = i.once;
      waits = i.waits;
      gives = i.gives;
      own = i.own;
      unused = i.unused;
      free = i.free;
      floor = i.floor;
      above = i.above;
      sent_low = i.sent_low;
      settled = i.settled;
      stands = i.stands;
      in_window = λ q e. let same : p ≡ q = cc in subst (IsInWindow w) same is;
    }

    pub dies : Inv w fs bs ts None
    dies = record {
      low = i.low;
      once = i.once;
      waits = i.waits;
      gives = i.gives;
      own = i.own;
      unused = i.unused;
      free = i.free;
      floor = i.floor;
      above = i.above;
      sent_low = i.sent_low;
      settled = i.settled;
      stands = i.stands;
      in_window = λ q e. absurd (cc e);
    }
