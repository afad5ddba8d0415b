-- What was heard before a position decides what is taken, answered and left there.
use Rattle.std.proofs.Common.{◌≡◌, inl, inr, eqb, Bool, true, false, not, ◌&&◌, ◌||◌, nat_lt, List, [], ◌∷◌, ◌++◌, Option, Some, None, refl, sym, ap, ap₂, subst, ◌∙◌, append_assoc, true≢false, if◌then◌else◌}
use Rattle.std.specs.Prelude.{is_none}
use Rattle.std.specs.List.{find}
use Rattle.std.specs.Str.{bytes_eq}
use Rattle.std.specs.Cmp.Lexicographic.{bytes_decides}
use Rattle.std.proofs.lemmas.Bool.{and_parts, not-true}
use Rattle.fax_job.specs.Refusal.{refusal_status}
use Rattle.fax_job.specs.declared.refusal.Refusal.{Refusal}
use Rattle.fax_job.specs.declared.refusal.Refusal.TheVariants.{GivenUp, NoRoute, NumberReused}
use Rattle.fax_ask.specs.Response.{Response, kept_response, refused_response}
use Rattle.fax_core.specs.Clock.{decided_at}
use Rattle.fax_core.specs.Ledger.{Ledger, kept_for, entry, IsKeptStatus}
use Rattle.fax_core.specs.Queue.{Entry, Queue}
use Rattle.fax_core.specs.Reply.{Keys, NoKeys, Step, Taken, Refused}
use Rattle.fax_core.specs.Run.{decided}
use Rattle.fax_core.specs.Settings.{Settings}
use Rattle.fax_run.proofs.RepeatLemmas.{gets_kept, kept_since}
use Rattle.fax_run.proofs.LedgerLemmas.{floors_rise, given_finds}
use Rattle.fax_run.proofs.RunLemmas.{ends_after, is_free, new_is_free, raised_step}
use Rattle.fax_run.specs.Laws.{CopiesLeaveNoTrace, IsTakenAt, NumbersHaveOneReply, RunsSplit, UntakenLeaveNoTrace}
use Rattle.fax_run.specs.Reading.{Post, Reading, Faulty, Sees, Posts}
use Rattle.fax_run.specs.Run.{Fed, Start, end_after, end_of, is_new, is_taken, kept_after, queue_after, reply_at, reply_to, step_of, taken, takes, under, with_taken}
use Rattle.fax_run.specs.Verdict.{Repeated, asked_above, denied, is_too_high, new_asked, raised, reply_of, step_reply, stepped, taken_once, verdict, without_given}

-- ---- what is taken behind some requests

-- a request is taken in a place: its number is free there, it doesn't give up its own, and the step takes it
abbrev pub taken_in : Start → Fed → Bool
taken_in here f = is_free here.kept f.post.client f.post.number && (not (is_too_high f.post.number f.post.request.ask) && takes (step_of here.queue f))

-- a request is taken by where those before it lead
pub taken_by : (start : Start) (earlier : List Fed) (f : Fed) → is_taken start earlier f ≡ taken_in (end_after start earlier) f
taken_by start earlier f =
    ap (λ b. b && (not (is_too_high f.post.number f.post.request.ask) && takes (step_of (queue_after start.queue earlier) f)))
    (sym (new_is_free start earlier f.post))

module _ (s : Settings) (start : Start) (before : List Fed) where
  -- where they lead
  abbrev next : Start
  next = end_after start before

  -- what is taken behind them of what was heard, with them
  abbrev pub taken_on : List Reading → List Fed
  taken_on [] = before
  taken_on (r ∷ past) = with_taken s start (taken_on past) r

  -- a request is taken behind more of them where it is taken from where the first lead
  same_taken : (some : List Fed) (f : Fed) → is_taken start (some ++ before) f ≡ is_taken next some f
  same_taken some f = taken_by start (some ++ before) f ∙ ap (λ (here : Start). taken_in here f) (ends_after start some before) ∙ sym (taken_by next some f)

  -- one more taken, or not, goes in front of what was taken before
  one_more : (f : Fed) (b : Bool) (all some : List Fed) → all ≡ some ++ before → (if b then f ∷ all else all) ≡ (if b then f ∷ some else some) ++ before
  one_more f true all some is = ap (λ fs. f ∷ fs) is
  one_more f false all some is = is

  -- one more reading behind them goes in front of what was taken from where they lead
  more : (past : List Reading) (r : Reading) → taken_on past ≡ taken s next past ++ before
      → with_taken s start (taken_on past) r ≡ with_taken s next (taken s next past) r ++ before
  more past (Faulty refusal) is = is
  more past (Sees moment what) is = is
  more past (Posts p) is =
      let f = under s p in
      ap (λ b. if b then f ∷ taken_on past else taken_on past) (ap (λ fs. is_taken start fs f) is ∙ same_taken (taken s next past) f)
      ∙ one_more f (is_taken next (taken s next past) f) (taken_on past) (taken s next past) is

  -- what is taken behind them is what is taken from where they lead
  pub joined : (past : List Reading) → taken_on past ≡ taken s next past ++ before
  joined [] = refl
  joined (r ∷ past) = more past r (joined past)

  -- and leads where that leads
  pub ends_joined : (past : List Reading) → end_after start (taken_on past) ≡ end_of s next past
  ends_joined past = ap (end_after start) (joined past) ∙ ends_after start (taken s next past) before

-- ---- a run in two parts

module _ (s : Settings) (start : Start) (beginning : List Reading) where
  -- what was taken of the beginning
  abbrev begun : List Fed
  begun = taken s start beginning

  -- what is taken of a run is taken behind what was taken of its beginning
  goes_on : (rest : List Reading) → taken s start (rest ++ beginning) ≡ taken_on s start begun rest
  goes_on [] = refl
  goes_on (r ∷ rest) = ap (λ fs. with_taken s start fs r) (goes_on rest)

  -- where a run leads is where its parts lead
  ends_split : (rest : List Reading) → end_of s start (rest ++ beginning) ≡ end_of s (end_of s start beginning) rest
  ends_split rest = ap (end_after start) (goes_on rest) ∙ ends_joined s start begun rest

pub runs_split : RunsSplit
runs_split s start rest beginning r =
    let ends = ends_split s start beginning rest in
    (goes_on s start beginning rest ∙ joined s start (taken s start beginning) rest, ends, ap (λ (e : Start). reply_of (verdict s e.queue e.kept r)) ends)

-- ---- what is not taken

-- what isn't taken changes nothing of what is taken later
no_trace : (s : Settings) (start : Start) (later past : List Reading) (r : Reading) → taken s start (r ∷ past) ≡ taken s start past
    → taken s start (later ++ r ∷ past) ≡ taken s start (later ++ past)
no_trace s start [] past r is = is
no_trace s start (x ∷ later) past r is = ap (λ fs. with_taken s start fs x) (no_trace s start later past r is)

pub untaken_leave_no_trace : UntakenLeaveNoTrace
untaken_leave_no_trace s start later past r is =
    let same = no_trace s start later past r is in
    (ap (end_after start) same, λ x. ap (λ fs. reply_of (verdict s (queue_after start.queue fs) (kept_after start fs) x)) same)

-- ---- what was taken stays taken

-- the one is the other, with more behind it
abbrev pub GoesOn : List Fed → List Fed → Type 0
GoesOn all some = (more : List Fed) × (all ≡ more ++ some)

-- what goes on from what goes on from a list goes on from that
pub through : (all some few : List Fed) → GoesOn all some → GoesOn some few → GoesOn all few
through all some few (more, is) (less, was) = (more ++ less, is ∙ ap (λ fs. more ++ fs) was ∙ sym (append_assoc more less few))

-- one more reading goes on from what was taken before it
pub one_goes_on : (s : Settings) (start : Start) (earlier : List Fed) (r : Reading) → GoesOn (with_taken s start earlier r) earlier
one_goes_on s start earlier (Faulty refusal) = ([], refl)
one_goes_on s start earlier (Sees moment what) = ([], refl)
one_goes_on s start earlier (Posts p) = by (is_taken start earlier (under s p))
  where
    by : (b : Bool) → GoesOn (if b then under s p ∷ earlier else earlier) earlier
    by true = (under s p ∷ [], refl)
    by false = ([], refl)

-- and so do more
grows : (s : Settings) (start : Start) (earlier : List Fed) (later past : List Reading) → GoesOn (taken s start past) earlier
    → GoesOn (taken s start (later ++ past)) earlier
grows s start earlier [] past is = is
grows s start earlier (r ∷ later) past is =
    let before = taken s start (later ++ past) in
    through (with_taken s start before r) before earlier (one_goes_on s start before r) (grows s start earlier later past is)

-- ---- a request that was taken

-- what stands in front stays found
found_before : (q : Entry → Bool) (k more : List Entry) (e : Entry) → find q k ≡ Some e → find q (k ++ more) ≡ Some e
found_before q [] more e is = absurd cc
found_before q (x ∷ k) more e is = by (q x) refl (found_before q k more e)
  where
    by : (b : Bool) → q x ≡ b → (find q k ≡ Some e → find q (k ++ more) ≡ Some e) → find q (x ∷ (k ++ more)) ≡ Some e
    by true on rest = rw on (rw on at is)
    by false off rest = rw off (rest (rw off at is))

-- the reply to what a step comes to is that of the step
pub told : (p : Post) (k : Ledger) (x : Step) → reply_of (stepped p k x) ≡ step_reply x
told p k (Taken after reply) = refl
told p k (Refused refusal keys) = refl

-- no refusal has the status of an accepted request
refused_status : (refusal : Refusal) → (eqb (refusal_status refusal) 200 || eqb (refusal_status refusal) 201) ≡ false
refused_status NoRoute = refl
refused_status other = refl

-- so no reply that refuses is kept
pub refused_unkept : (refusal : Refusal) (keys : Keys) → IsKeptStatus (refused_response refusal keys).status → ⊥
refused_unkept refusal keys (inl is) = true≢false (sym (ap (λ n. eqb n 200 || eqb n 201) is) ∙ refused_status refusal)
refused_unkept refusal keys (inr is) = true≢false (sym (ap (λ n. eqb n 200 || eqb n 201) is) ∙ refused_status refusal)

-- the reply to a repeat is the kept one, or a refusal
again : (b : Bool) (reply : Response) → reply_of (if b then Repeated reply else denied NumberReused) ≡ (if b then reply else refused_response NumberReused NoKeys)
again true reply = refl
again false reply = refl

module _ (start : Start) (earlier : List Fed) (f : Fed) (at : is_taken start earlier f ≡ true) where
  abbrev p : Post
  p = f.post

  abbrev kept : Ledger
  kept = kept_after start earlier

  abbrev m : Queue
  m = queue_after start.queue earlier

  -- as it is decided
  abbrev it : Post
  it = raised (kept.floor p.client) p

  abbrev reply : Response
  reply = reply_to (end_after start earlier) f

  abbrev its : Entry
  its = entry p.client p.number p.said reply.status reply.body

  -- its number was free
  free : is_free kept p.client p.number ≡ true
  free = new_is_free start earlier p ∙ (and_parts (is_new start earlier p) _ at).0

  -- it was above the client's floor
  above : nat_lt (kept.floor p.client) p.number ≡ true
  above = (and_parts (nat_lt (kept.floor p.client) p.number) _ free).0

  -- no reply was kept for it
  unused : kept_for p.client p.number kept.replies ≡ None
  unused = none (kept_for p.client p.number kept.replies) (and_parts (nat_lt (kept.floor p.client) p.number) _ free).1
    where
      none : (o : Option Entry) → is_none o ≡ true → o ≡ None
      none None is = refl
      none (Some e) is = absurd cc

  -- it doesn't give up its own reply
  not_high : is_too_high p.number p.request.ask ≡ false
  not_high = not-true _ (and_parts (not (is_too_high p.number p.request.ask)) _ (and_parts (is_new start earlier p) _ at).1).0

  -- the step took it
  takes_it : takes (decided f.settings m it.request) ≡ true
  takes_it =
      (raised_step f.settings m (decided_at m.clock p.request.moment) (kept.floor p.client) p.request.ask).1
      ∙ (and_parts (not (is_too_high p.number p.request.ask)) _ (and_parts (is_new start earlier p) _ at).1).1

  -- so its reply is JSON, and comes back whole from its status and its body
  pub whole : kept_response reply.status reply.body ≡ reply
  whole = by (decided f.settings m it.request) takes_it
    where
      by : (x : Step) → takes x ≡ true → kept_response (step_reply x).status (step_reply x).body ≡ step_reply x
      by (Taken after told) is = refl
      by (Refused refusal keys) is = absurd cc

  -- it was answered by its step
  pub its_reply : reply_of (verdict f.settings m kept (Posts p)) ≡ reply
  its_reply = rw (above, unused, not_high) (told it kept (decided f.settings m it.request))

  -- as long as the number is above the floor, the entry is found
  pub found_after : (more : List Fed) → let k = kept_after start (more ++ f ∷ earlier) in
      nat_lt (k.floor p.client) p.number ≡ true → kept_for p.client p.number k.replies ≡ Some its
  found_after [] high = kept_since it kept reply unused
  found_after (g ∷ more) high =
      let k = kept_after start (more ++ f ∷ earlier) in
      let q = g.post in
      let r = raised (k.floor q.client) q in
      let before = found_after more (floors_rise q.client r.request.ask k p.client p.number high) in
      found_before (λ e. bytes_eq e.client p.client && eqb e.number p.number) (without_given q.client r.request.ask k).replies _ its
      (given_finds q.client r.request.ask k p.client p.number high ∙ before)

  -- whoever says the same under its client and number then gets its reply, by whatever settings
  pub repeats : (more : List Fed) (q : Post) (t : Settings) → p.client ≡ q.client → p.number ≡ q.number → p.said ≡ q.said →
      let here = end_after start (more ++ f ∷ earlier) in
      nat_lt (here.kept.floor q.client) q.number ≡ true → verdict t here.queue here.kept (Posts q) ≡ Repeated reply
  repeats more q t client number same high =
      let here = end_after start (more ++ f ∷ earlier) in
      let found : kept_for q.client q.number here.kept.replies ≡ Some its =
      ap₂ (λ c n. kept_for c n here.kept.replies) (sym client) (sym number)
      ∙ found_after more (ap₂ (λ c n. nat_lt (here.kept.floor c) n) client number ∙ high) in
      gets_kept t here.queue here.kept q its high found ((bytes_decides p.said q.said).1 same) ∙ ap Repeated whole

-- ---- numbers that were taken

module _ (s : Settings) (start : Start) (later past : List Reading) (p : Post) (at : IsTakenAt s start past p) where
  abbrev first : List Fed
  first = taken s start past

  abbrev first_reply : Response
  first_reply = reply_to (end_after start first) (under s p)

  abbrev entry_of : Entry
  entry_of = entry p.client p.number p.said first_reply.status first_reply.body

  -- the post is taken here
  taken_here : taken s start (Posts p ∷ past) ≡ under s p ∷ first
  taken_here = rw at refl

  -- wherever one looks later, its entry is found
  found : let k = kept_after start (taken s start (later ++ Posts p ∷ past)) in
      nat_lt (k.floor p.client) p.number ≡ true → kept_for p.client p.number k.replies ≡ Some entry_of
  found =
      let since = grows s start (under s p ∷ first) later (Posts p ∷ past) ([], taken_here) in
      subst
      (λ (fs : List Fed). nat_lt ((kept_after start fs).floor p.client) p.number ≡ true → kept_for p.client p.number (kept_after start fs).replies ≡ Some entry_of)
      (sym since.1) (found_after start first (under s p) at since.0)

  module _ (q : Post) (client : q.client ≡ p.client) (number : q.number ≡ p.number) where
    abbrev there : List Fed
    there = taken s start (later ++ Posts p ∷ past)

    abbrev n : Queue
    n = queue_after start.queue there

    abbrev k : Ledger
    k = kept_after start there

    -- a post of the same client and number finds the same entry
    found_for : nat_lt (k.floor q.client) q.number ≡ true → kept_for q.client q.number k.replies ≡ Some entry_of
    found_for high = ap₂ (λ c n. kept_for c n k.replies) client number ∙ found (ap₂ (λ c n. nat_lt (k.floor c) n) (sym client) (sym number) ∙ high)

    -- so its number is free no more
    used : is_free k q.client q.number ≡ false
    used = by (nat_lt (k.floor q.client) q.number) refl
      where
        by : (b : Bool) → nat_lt (k.floor q.client) q.number ≡ b → (b && is_none (kept_for q.client q.number k.replies)) ≡ false
        by true high = ap is_none (found_for high)
        by false low = refl

    -- and it isn't taken
    not_new : is_taken start there (under s q) ≡ false
    not_new = taken_by start there (under s q) ∙ ap (λ b. b && (not (is_too_high q.number q.request.ask) && takes (decided s n q.request))) used

    -- so it leaves what was taken
    pub once : taken s start (Posts q ∷ later ++ Posts p ∷ past) ≡ there
    once = rw not_new refl

    -- what of the entry's reply and the refusal has a kept status is the reply
    by : (b : Bool) → IsKeptStatus (if b then kept_response first_reply.status first_reply.body else refused_response NumberReused NoKeys).status
        → (if b then kept_response first_reply.status first_reply.body else refused_response NumberReused NoKeys) ≡ first_reply
    by true status = whole start first (under s p) at
    by false status = absurd (refused_unkept NumberReused NoKeys status)

    -- the second is answered by the kept reply, or refused where it says something else
    looked_up : nat_lt (k.floor q.client) q.number ≡ true → reply_of (asked_above s n k (k.floor q.client) q)
        ≡ (if bytes_eq p.said q.said then kept_response first_reply.status first_reply.body else refused_response NumberReused NoKeys)
    looked_up high =
        ap (λ o. reply_of (taken_once o q.said (new_asked s n k (k.floor q.client) q))) (found_for high)
        ∙ again (bytes_eq p.said q.said) (kept_response first_reply.status first_reply.body)

    -- where it is answered with a kept status, it gets that reply, whatever the floor
    by_floor : (b : Bool) → nat_lt (k.floor q.client) q.number ≡ b
        → IsKeptStatus (reply_of (if b then asked_above s n k (k.floor q.client) q else denied GivenUp)).status
        → reply_of (if b then asked_above s n k (k.floor q.client) q else denied GivenUp) ≡ first_reply
    by_floor true high status = looked_up high ∙ by (bytes_eq p.said q.said) (subst (λ (r : Response). IsKeptStatus r.status) (looked_up high) status)
    by_floor false low status = absurd (refused_unkept GivenUp NoKeys status)

    -- so who is answered 200 or 201 under the number gets its reply
    pub one_reply : IsKeptStatus (reply_at s start (later ++ Posts p ∷ past) (Posts q)).status
        → reply_at s start (later ++ Posts p ∷ past) (Posts q) ≡ reply_at s start past (Posts p)
    one_reply status = by_floor (nat_lt (k.floor q.client) q.number) refl status ∙ sym (its_reply start first (under s p) at)

pub copies_leave_no_trace : CopiesLeaveNoTrace
copies_leave_no_trace s start later between past p q at client number =
    untaken_leave_no_trace s start later (between ++ Posts p ∷ past) (Posts q) (once s start between past p at q client number)

pub numbers_have_one_reply : NumbersHaveOneReply
numbers_have_one_reply s start later past p q at client number status = one_reply s start later past p at q client number status
