-- Over all sessions there is one list of requests that were accepted.
use Rattle.std.proofs.Common.{◌≡◌, ◌⊎◌, inl, inr, eqb, Bool, true, false, not, ◌&&◌, nat_lt, List, [], ◌∷◌, ◌++◌, Option, Some, None, refl, sym, ap, subst, ◌∙◌, append_assoc, if◌then◌else◌}
use Rattle.std.specs.Prelude.{is_none}
use Rattle.std.specs.List.{AllByRecursion, AllZip, list_any}
use Rattle.std.specs.Str.{bytes_eq}
use Rattle.sqlite_rules.specs.Lists.{Has}
use Rattle.std.specs.Cmp.Lexicographic.{bytes_decides}
use Rattle.std.proofs.lemmas.Bool.{and_from, and_parts, cases_Bool, eqb-true, not-true}
use Rattle.fax_job.specs.declared.refusal.Refusal.TheVariants.{FloorHigh, GivenUp, NumberReused, Unavailable}
use Rattle.fax_ask.specs.Response.{Response, kept_response, refused_response}
use Rattle.fax_core.specs.Clock.{decided_at}
use Rattle.fax_core.specs.Ledger.{Ledger, kept_for, entry, IsKeptStatus}
use Rattle.fax_core.specs.Queue.{Entry, Queue}
use Rattle.fax_core.specs.Reply.{NoKeys, Step, Taken, Refused}
use Rattle.fax_core.specs.Run.{decided}
use Rattle.fax_core.specs.Settings.{Settings}
use Rattle.fax_core.proofs.PlaceLemmas.{either}
use Rattle.fax_run.proofs.FedLemmas.{accepted_more, are_taken, goes_well, lawful_reading}
use Rattle.fax_run.proofs.LedgerLemmas.{floors_rise, given_finds}
use Rattle.fax_run.proofs.PastLemmas.{GoesOn, ends_joined, its_reply, one_goes_on, refused_unkept, repeats, taken_by, taken_on, told, through, whole}
use Rattle.fax_run.proofs.RunLemmas.{is_free, raised_step}
use Rattle.fax_run.specs.Laws.{AreAccepted}
use Rattle.fax_run.specs.Reading.{Post, Reading, Faulty, Sees, Posts, IsReading}
use Rattle.fax_run.specs.Run.{Fed, Start, IsRun, end_after, end_of, floors_after, is_new, is_of, is_taken, kept_after, queue_after, reply_to, takes, under, with_taken}
use Rattle.fax_run.specs.Sessions.{Adds, AreAdded, AreHeard, CameIn, CameInTurn, EachOnce, Failed, Follow, HasIts, HasReplyOf, IsAnswered, IsAnsweredBy, IsSession, IsSettled, IsToldBy, LeavesOff, MayTake, Nothing, Session, SessionsHaveOneList, Unanswered, UnderWay, WasKept, WasUnderWay}
use Rattle.fax_run.specs.Verdict.{Repeated, asked_above, decided_new, denied, is_too_high, new_asked, raised, reply_of, step_reply, taken_once, verdict, without_given}
use Rattle.fax_run.specs.declared.arrival.Arrival.{Arrival}

-- ---- what one list has, a longer one has

module _ (first : Start) (all fed : List Fed) (on : GoesOn all fed) where
  -- one of the list has the reply still
  reply_on : (p : Post) (reply : Response) → HasReplyOf first fed p reply → HasReplyOf first all p reply
  reply_on p reply has = record {
    later = on.0 ++ has.later;
    it = has.it;
    earlier = has.earlier;
    one = on.1 ∙ ap (λ fs. on.0 ++ fs) has.one ∙ sym (append_assoc on.0 has.later (has.it ∷ has.earlier));
    client = has.client;
    number = has.number;
    told = has.told;
  }

  -- who posted has its reply still
  its_on : (reply : Response) (r : Reading) → HasIts first fed reply r → HasIts first all reply r
  its_on reply (Faulty refusal) its = tt
  its_on reply (Sees moment what) its = tt
  its_on reply (Posts p) its = λ status. elim (its status) [
    | inl has ↦ inl (reply_on p reply has)
    | inr was ↦ inr was
  ]

  -- a reply is told by it still
  told_on : (s : Settings) (a : Arrival) (reply : Response) → IsToldBy first fed s a reply → IsToldBy first all s a reply
  told_on s a reply by = record {
    later = on.0 ++ by.later;
    earlier = by.earlier;
    part = on.1 ∙ ap (λ fs. on.0 ++ fs) by.part ∙ sym (append_assoc on.0 by.later by.earlier);
    reading = by.reading;
    reads = by.reads;
    told = by.told;
    its = its_on reply by.reading by.its;
  }

  -- and so are all of a session
  all_told_on : (s : Settings) (arrivals : List Arrival) (replies : List Response)
      → AllZip (λ a reply. (reply ≡ refused_response Unavailable NoKeys) ⊎ IsToldBy first fed s a reply) arrivals replies
      → AllZip (λ a reply. (reply ≡ refused_response Unavailable NoKeys) ⊎ IsToldBy first all s a reply) arrivals replies
  all_told_on s [] [] each = tt
  all_told_on s (a ∷ arrivals) (reply ∷ replies) (inl lost, each) = (inl lost, all_told_on s arrivals replies each)
  all_told_on s (a ∷ arrivals) (reply ∷ replies) (inr by, each) = (inr (told_on s a reply by), all_told_on s arrivals replies each)
  all_told_on s arrivals replies each = each

  -- and of all sessions
  sessions_on : (sessions : List Session) → AllByRecursion (IsAnsweredBy first fed) sessions → AllByRecursion (IsAnsweredBy first all) sessions
  sessions_on [] each = tt
  sessions_on (x ∷ sessions) (this, each) = (all_told_on x.settings x.arrivals x.replies this, sessions_on sessions each)

-- ---- where an entry comes from

-- a request behind the list has what one of the list has
abbrev Origin : Start → List Fed → Post → Entry → Type 0
Origin first fed p e = HasReplyOf first fed p (kept_response e.status e.body) ⊎ (kept_for p.client p.number first.kept.replies ≡ Some e)

-- an entry above the floor is of one of the list, or was there at first
origin : (first : Start) (fed : List Fed) (p : Post) (e : Entry) → AreAccepted first fed → nat_lt ((kept_after first fed).floor p.client) p.number ≡ true
    → kept_for p.client p.number (kept_after first fed).replies ≡ Some e → Origin first fed p e
origin first [] p e are high found = inr found
origin first (f ∷ earlier) p e (lawful, at, are) high found =
    let k = kept_after first earlier in
    let q = f.post in
    let r = raised (k.floor q.client) q in
    let reply = reply_to (end_after first earlier) f in
    let new = entry q.client q.number q.said reply.status reply.body in
    elim (either (λ (x : Entry). bytes_eq x.client p.client && eqb x.number p.number) (without_given q.client r.request.ask k).replies new e found) [
      | inl old ↦
          let there = sym (given_finds q.client r.request.ask k p.client p.number high) ∙ old in
          elim (origin first earlier p e are (floors_rise q.client r.request.ask k p.client p.number high) there) [
            | inl has ↦ inl (reply_on first (f ∷ earlier) earlier (f ∷ [], refl) p (kept_response e.status e.body) has)
            | inr was ↦ inr was
          ]
      | inr (its, same) ↦
          let parts = and_parts (bytes_eq q.client p.client) (eqb q.number p.number) its in
          inl (record {
            later = [];
            it = f;
            earlier = earlier;
            one = refl;
            client = (bytes_decides q.client p.client).0 parts.0;
            number = eqb-true q.number p.number parts.1;
            told = ap (λ (x : Entry). kept_response x.status x.body) (sym same) ∙ whole first earlier f at;
          })
    ]

-- ---- whose reply it is

module _ (first : Start) (earlier : List Fed) (are : AreAccepted first earlier) (s : Settings) (p : Post) where
  abbrev m : Queue
  m = queue_after first.queue earlier

  abbrev k : Ledger
  k = kept_after first earlier

  abbrev f : Fed
  f = under s p

  abbrev it : Post
  it = raised (k.floor p.client) p

  -- with it, where it is taken
  abbrev behind : List Fed
  behind = with_taken s first earlier (Posts p)

  -- the reply is of one of the list, or was kept at first
  abbrev Its : Response → Type 0
  Its reply = IsKeptStatus reply.status → HasReplyOf first behind p reply ⊎ WasKept first p reply

  -- a request that is taken here has its own reply
  of_taken : is_taken first earlier f ≡ true → HasReplyOf first behind p (reply_to (end_after first earlier) f)
  of_taken on = record { later = []; it = f; earlier = earlier; one = rw on refl; client = refl; number = refl; told = refl }

  -- it is taken where its number is free, its floor isn't too high and the step takes it
  is_taken_by : (x : Step) → decided s m it.request ≡ x → takes x ≡ true → nat_lt (k.floor p.client) p.number ≡ true
      → kept_for p.client p.number k.replies ≡ None
      → is_too_high p.number p.request.ask ≡ false → is_taken first earlier f ≡ true
  is_taken_by x is on high none low =
      let taken : takes (decided s m p.request) ≡ true =
      sym (raised_step s m (decided_at m.clock p.request.moment) (k.floor p.client) p.request.ask).1 ∙ ap takes is ∙ on in
      let free = and_from (nat_lt (k.floor p.client) p.number) (is_none (kept_for p.client p.number k.replies)) high (ap is_none none) in
      let rest = and_from (not (is_too_high p.number p.request.ask)) (takes (decided s m p.request)) (ap not low) taken in
      taken_by first earlier f ∙ and_from (is_free k p.client p.number) (not (is_too_high p.number p.request.ask) && takes (decided s m p.request)) free rest

  -- by the step
  by_step : (x : Step) → decided s m it.request ≡ x → nat_lt (k.floor p.client) p.number ≡ true → kept_for p.client p.number k.replies ≡ None
      → is_too_high p.number p.request.ask ≡ false → Its (step_reply x)
  by_step (Taken after reply) is high none low status =
      inl (subst (HasReplyOf first behind p) (ap step_reply is) (of_taken (is_taken_by (Taken after reply) is refl high none low)))
  by_step (Refused refusal keys) is high none low status = absurd (refused_unkept refusal keys status)

  -- by the floor that it asks for
  by_low : (b : Bool) → is_too_high p.number p.request.ask ≡ b → nat_lt (k.floor p.client) p.number ≡ true → kept_for p.client p.number k.replies ≡ None
      → Its (reply_of (if b then denied FloorHigh else decided_new s m k it))
  by_low true is high none status = absurd (refused_unkept FloorHigh NoKeys status)
  by_low false low high none status = subst Its (sym (told it k (decided s m it.request))) (by_step (decided s m it.request) refl high none low) status

  -- an entry's reply, where the same was said
  by_entry : (e : Entry) (b : Bool) → nat_lt (k.floor p.client) p.number ≡ true → kept_for p.client p.number k.replies ≡ Some e
      → Its (reply_of (if b then Repeated (kept_response e.status e.body) else denied NumberReused))
  by_entry e true high found status = elim (origin first earlier p e are high found) [
    | inl has ↦ inl (reply_on first behind earlier (one_goes_on s first earlier (Posts p)) p (kept_response e.status e.body) has)
    | inr was ↦ inr (e, was, refl)
  ]
  by_entry e false high found status = absurd (refused_unkept NumberReused NoKeys status)

  -- by what is kept for its number
  by_kept : (o : Option Entry) → kept_for p.client p.number k.replies ≡ o → nat_lt (k.floor p.client) p.number ≡ true
      → Its (reply_of (taken_once o p.said (new_asked s m k (k.floor p.client) p)))
  by_kept None none high = by_low (is_too_high p.number p.request.ask) refl high none
  by_kept (Some e) found high = by_entry e (bytes_eq e.said p.said) high found

  -- by the floor of its client
  by_floor : (b : Bool) → nat_lt (k.floor p.client) p.number ≡ b → Its (reply_of (if b then asked_above s m k (k.floor p.client) p else denied GivenUp))
  by_floor true high status = by_kept (kept_for p.client p.number k.replies) refl high status
  by_floor false low status = absurd (refused_unkept GivenUp NoKeys status)

  -- the reply of its verdict
  its_own : Its (reply_of (verdict s m k (Posts p)))
  its_own = by_floor (nat_lt (k.floor p.client) p.number) refl

-- the reply of its verdict is that of one of the list, with what was taken here, or was kept at first
has_its : (first : Start) (earlier : List Fed) (are : AreAccepted first earlier) (s : Settings) (r : Reading)
    → HasIts first (with_taken s first earlier r) (reply_of (verdict s (queue_after first.queue earlier) (kept_after first earlier) r)) r
has_its first earlier are s (Faulty refusal) = tt
has_its first earlier are s (Sees moment what) = tt
has_its first earlier are s (Posts p) = its_own first earlier are s p

-- ---- one session more

-- what came in turn after some that came in turn came in turn with them
in_turn_on : (first : Start) (x : Session) (some few before : List Fed) → CameInTurn first x some (few ++ before) → CameInTurn first x few before
    → CameInTurn first x (some ++ few) before
in_turn_on first x [] few before came others = others
in_turn_on first x (f ∷ some) few before came others = (
  subst (CameIn first x f) (sym (append_assoc some few before)) came.0,
  in_turn_on first x some few before came.1 others,
)

-- what a session adds to what it added, it added
adds_on : (first : Start) (x : Session) (all some few : List Fed) → Adds first x all some → Adds first x some few → Adds first x all few
adds_on first x all some few (more, is, each) (less, was, others) = (
  more ++ less,
  is ∙ ap (λ fs. more ++ fs) was ∙ sym (append_assoc more less few),
  in_turn_on first x more less few (subst (CameInTurn first x more) was each) others,
)

module _ (first : Start) (before : List Fed) (x : Session) where
  abbrev s : Settings
  s = x.settings

  -- where it begins
  abbrev from : Start
  from = end_after first before

  -- what is taken behind what was heard, with what was taken before
  abbrev on : List Reading → List Fed
  on past = taken_on s first before past

  -- what was taken is accepted
  accepted_on : (past : List Reading) (arrivals : List Arrival) (replies : List Response) (heard : List Reading)
      → IsRun s from past arrivals replies heard → AreAccepted first (on past) → AreAccepted first (on heard)
  accepted_on past [] [] heard run are = subst (λ rs. AreAccepted first (on rs)) (sym run) are
  accepted_on past (a ∷ arrivals) (reply ∷ replies) heard (inl (lost, run)) are = accepted_on past arrivals replies heard run are
  accepted_on past (a ∷ arrivals) (reply ∷ replies) heard (inr (r, reads, is, run)) are =
      accepted_on (r ∷ past) arrivals replies heard run (accepted_more s first (on past) r (lawful_reading a r reads) are)
  accepted_on past arrivals replies heard run are = absurd run

  -- how an arrival that is taken was answered, with this reply, or not
  abbrev CameSo : Arrival → Response → Type 0
  CameSo a reply = IsAnswered a reply x.arrivals x.replies ⊎ WasUnderWay a x.under_way

  -- the reply to a post that is taken is that to its step
  its_step : (past : List Reading) (p : Post) → is_taken first (on past) (under s p) ≡ true
      → reply_of (verdict s (end_of s from past).queue (end_of s from past).kept (Posts p)) ≡ reply_to (end_after first (on past)) (under s p)
  its_step past p taken =
      ap (λ (e : Start). reply_of (verdict s e.queue e.kept (Posts p))) (sym (ends_joined s first before past)) ∙ its_reply first (on past) (under s p) taken

  -- one more arrival adds what it posts, if that is taken
  one_adds : (a : Arrival) (past : List Reading) (r : Reading) → CameSo a (reply_of (verdict s (end_of s from past).queue (end_of s from past).kept r)) → IsReading a r
      → Adds first x (on (r ∷ past)) (on past)
  one_adds a past (Faulty refusal) came reads = ([], refl, tt)
  one_adds a past (Sees moment what) came reads = ([], refl, tt)
  one_adds a past (Posts p) came reads = by (is_taken first (on past) (under s p)) refl
    where
      by : (b : Bool) → is_taken first (on past) (under s p) ≡ b → Adds first x (if b then under s p ∷ on past else on past) (on past)
      by true taken = (under s p ∷ [], refl, (record { arrival = a; posts = reads; settings = refl; answered = subst (CameSo a) (its_step past p taken) came }, tt))
      by false untaken = ([], refl, tt)

  -- so do all of a batch that was under way
  batch_adds : (batch : List Arrival) (past all : List Reading) → AreHeard batch past all → ((a : Arrival) → Has batch a → WasUnderWay a x.under_way)
      → Adds first x (on all) (on past)
  batch_adds [] past all is were = ([], ap on is, tt)
  batch_adds (a ∷ batch) past all (r, reads, more) were =
      adds_on first x (on all) (on (r ∷ past)) (on past) (batch_adds batch (r ∷ past) all more (λ b has. were b (inr has)))
      (one_adds a past r (inr (were a (inl refl))) reads)

  -- and what is taken of it is accepted
  batch_accepted : (batch : List Arrival) (past all : List Reading) → AreHeard batch past all → AreAccepted first (on past) → AreAccepted first (on all)
  batch_accepted [] past all is are = subst (λ rs. AreAccepted first (on rs)) (sym is) are
  batch_accepted (a ∷ batch) past all (r, reads, more) are =
      batch_accepted batch (r ∷ past) all more (accepted_more s first (on past) r (lawful_reading a r reads) are)

  -- what was answered among these was answered in the session
  abbrev AreOfSession : List Arrival → List Response → Type 0
  AreOfSession arrivals replies = (a : Arrival) (reply : Response) → IsAnswered a reply arrivals replies → IsAnswered a reply x.arrivals x.replies

  -- so all of them add what they post
  run_adds : (past : List Reading) (arrivals : List Arrival) (replies : List Response) (heard : List Reading)
      → IsRun s from past arrivals replies heard → AreOfSession arrivals replies → Adds first x (on heard) (on past)
  run_adds past [] [] heard run came = ([], ap on run, tt)
  run_adds past (a ∷ arrivals) (reply ∷ replies) heard (inl (lost, run)) came = run_adds past arrivals replies heard run (λ b other has. came b other (inr has))
  run_adds past (a ∷ arrivals) (reply ∷ replies) heard (inr (r, reads, is, run)) came =
      adds_on first x (on heard) (on (r ∷ past)) (on past) (run_adds (r ∷ past) arrivals replies heard run (λ b other has. came b other (inr has)))
      (one_adds a past r (subst (CameSo a) is (inl (came a reply (inl (refl, refl))))) reads)
  run_adds past arrivals replies heard run came = absurd run

  -- a reply there is told by the list
  told_here : (past : List Reading) (a : Arrival) (reply : Response) (r : Reading) → AreAccepted first (on past) → IsReading a r
      → reply ≡ reply_of (verdict s (end_of s from past).queue (end_of s from past).kept r) → IsToldBy first (on (r ∷ past)) s a reply
  told_here past a reply r are reads is =
      let same : reply ≡ reply_of (verdict s (queue_after first.queue (on past)) (kept_after first (on past)) r) =
      is ∙ ap (λ (e : Start). reply_of (verdict s e.queue e.kept r)) (sym (ends_joined s first before past)) in
      let goes = one_goes_on s first (on past) r in
      record {
        later = goes.0;
        earlier = on past;
        part = goes.1;
        reading = r;
        reads = reads;
        told = same;
        its = subst (λ (y : Response). HasIts first (on (r ∷ past)) y r) (sym same) (has_its first (on past) are s r);
      }

  -- and so is each of its replies
  run_told : (all : List Fed) (past : List Reading) (arrivals : List Arrival) (replies : List Response) (heard : List Reading)
      → IsRun s from past arrivals replies heard → AreOfSession arrivals replies
      → AreAccepted first (on past) → GoesOn all (on heard)
      → AllZip (λ a reply. (reply ≡ refused_response Unavailable NoKeys) ⊎ IsToldBy first all s a reply) arrivals replies
  run_told all past [] [] heard run came are goes = tt
  run_told all past (a ∷ arrivals) (reply ∷ replies) heard (inl (lost, run)) came are goes =
      (inl lost, run_told all past arrivals replies heard run (λ b other has. came b other (inr has)) are goes)
  run_told all past (a ∷ arrivals) (reply ∷ replies) heard (inr (r, reads, is, run)) came are goes =
      let rest = run_adds (r ∷ past) arrivals replies heard run (λ b other has. came b other (inr has)) in
      let now = through all (on heard) (on (r ∷ past)) goes (rest.0, rest.1) in (
        inr (told_on first all (on (r ∷ past)) now s a reply (told_here past a reply r are reads is)),
        run_told all (r ∷ past) arrivals replies heard run (λ b other has. came b other (inr has)) (accepted_more s first (on past) r (lawful_reading a r reads) are) goes,
      )
  run_told all past arrivals replies heard run came are goes = run

-- what is known of the list of some sessions
record OneList (first : Start) (sessions : List Session) (last : Start) : Type 0 where
  fed : List Fed
  left : last ≡ end_after first fed
  added : AreAdded first sessions fed
  accepted : AreAccepted first fed
  answered : AllByRecursion (IsAnsweredBy first fed) sessions

module _ (first : Start) (x : Session) (earlier : List Session) (middle last : Start) (old : OneList first earlier middle)
    (session : IsSession (end_after first old.fed) x last) where
  -- what is taken behind what was heard, with what was taken before
  abbrev since : List Reading → List Fed
  since past = taken_on x.settings first old.fed past

  -- what was taken of what was heard is accepted
  accepted_heard : AreAccepted first (since session.heard)
  accepted_heard = accepted_on first old.fed x [] x.arrivals x.replies session.heard session.answered old.accepted

  -- one session more has one list, where it leaves off behind this past
  one_more : (past : List Reading) → AreAccepted first (since past) → Adds first x (since past) (since session.heard)
      → last ≡ end_of x.settings (end_after first old.fed) past → OneList first (x ∷ earlier) last
  one_more past accepted adds is =
      let all = since past in
      let left = is ∙ sym (ends_joined x.settings first old.fed past) in
      let came = λ (a : Arrival) (reply : Response) (has : IsAnswered a reply x.arrivals x.replies). has in
      let own = adds_on first x all (since session.heard) old.fed adds (run_adds first old.fed x [] x.arrivals x.replies session.heard session.answered came) in
      record {
        fed = all;
        left = left;
        added = (old.fed, own, subst (λ (e : Start). IsSession (end_after first old.fed) x e) left session, old.added);
        accepted = accepted;
        answered = (
          run_told first old.fed x all [] x.arrivals x.replies session.heard session.answered came old.accepted (adds.0, adds.1),
          sessions_on first all old.fed (own.0, own.1) earlier old.answered,
        );
      }

  -- where what was under way was taken, or lost
  may_take : (batch : List Arrival) → ((a : Arrival) → Has batch a → WasUnderWay a x.under_way)
      → MayTake x.settings (end_after first old.fed) session.heard batch last → OneList first (x ∷ earlier) last
  may_take batch were (inl is) = one_more session.heard accepted_heard ([], refl, tt) is
  may_take batch were (inr (all, heard, is)) =
      one_more all (batch_accepted first old.fed x batch session.heard all heard accepted_heard) (batch_adds first old.fed x batch session.heard all heard were) is

  -- the same however it left off
  by_end : (o : UnderWay) → x.under_way ≡ o → LeavesOff (end_after first old.fed) x session.heard o last → OneList first (x ∷ earlier) last
  by_end Nothing was is = one_more session.heard accepted_heard ([], refl, tt) is
  by_end (Unanswered batch) was is = may_take batch (λ a has. subst (WasUnderWay a) (sym was) has) is
  by_end (Failed batch) was (failed, is) = may_take batch (λ a has. subst (WasUnderWay a) (sym was) has) is

-- all sessions have one list
one_list : (first : Start) (sessions : List Session) (last : Start) → Follow first sessions last → OneList first sessions last
one_list first [] last is = record { fed = []; left = is; added = refl; accepted = tt; answered = tt }
one_list first (x ∷ earlier) last (from, follow, session) =
    let old = one_list first earlier from follow in
    let here = subst (λ (e : Start). IsSession e x last) old.left session in
    by_end first x earlier from last old here x.under_way refl here.leaves

-- ---- what holds of the list

-- no two of it have the same client and number
each_once : (first : Start) (fed : List Fed) → AreAccepted first fed → EachOnce fed
each_once first [] are = tt
each_once first (f ∷ earlier) (lawful, at, are) =
    let p = f.post in
    let new = (and_parts (is_new first earlier p) _ at).0 in
    let unused = (and_parts (nat_lt (floors_after first earlier p.client) p.number) _ new).1 in
    (not-true _ (and_parts (is_none (kept_for p.client p.number first.kept.replies)) _ unused).1, each_once first earlier are)

-- what passes in a list stands somewhere in it
somewhere : (q : Fed → Bool) (fed : List Fed) → list_any q fed ≡ true
    → (later : List Fed) × (it : Fed) × (earlier : List Fed) × (fed ≡ later ++ it ∷ earlier) × (q it ≡ true)
somewhere q [] any = absurd cc
somewhere q (f ∷ earlier) any = elim (cases_Bool (q f)) [
  | inl on ↦ ([], f, earlier, refl, on)
  | inr off ↦
      let it = somewhere q earlier (rw off at any) in
      (f ∷ it.0, it.1, it.2, ap (λ fs. f ∷ fs) it.3, it.4)
]

-- each of it was taken where it stands
taken_there : (first : Start) (later : List Fed) (g : Fed) (earlier : List Fed) → AreAccepted first (later ++ g ∷ earlier) → is_taken first earlier g ≡ true
taken_there first [] g earlier are = are.1
taken_there first (f ∷ later) g earlier are = taken_there first later g earlier are.2

-- one of the list has the post's client and number: so it stands, and the same again gets its reply
stands : (first : Start) (fed : List Fed) (p : Post) (later : List Fed) (it : Fed) (earlier : List Fed) → AreAccepted first fed → fed ≡ later ++ it ∷ earlier
    → is_of p.client p.number it ≡ true → IsSettled first fed p
stands first fed p later it earlier are split its =
    let parts = and_parts (bytes_eq it.post.client p.client) (eqb it.post.number p.number) its in
    let client = (bytes_decides it.post.client p.client).0 parts.0 in
    let number = eqb-true it.post.number p.number parts.1 in
    let reply = reply_to (end_after first earlier) it in
    let at = taken_there first later it earlier (subst (AreAccepted first) split are) in
    inr (
      reply,
      record { later = later; it = it; earlier = earlier; one = split; client = client; number = number; told = refl },
      λ same high s.
          subst (λ (fs : List Fed). verdict s (queue_after first.queue fs) (kept_after first fs) (Posts p) ≡ Repeated reply) (sym split)
          (repeats first earlier it at later p s client number same
          (subst (λ (fs : List Fed). nat_lt ((kept_after first fs).floor p.client) p.number ≡ true) split high)),
    )

-- whatever became of a post is settled
settled : (first : Start) (fed : List Fed) → AreAccepted first fed → (p : Post) → IsSettled first fed p
settled first fed are p = elim (cases_Bool (list_any (is_of p.client p.number) fed)) [
  | inl on ↦
      let it = somewhere (is_of p.client p.number) fed on in
      stands first fed p it.0 it.1 it.2 are it.3 it.4
  | inr off ↦ inl off
]

pub sessions_have_one_list : SessionsHaveOneList
sessions_have_one_list first last sessions sound follow =
    let it = one_list first sessions last follow in
    record {
      fed = it.fed;
      left = it.left;
      added = it.added;
      accepted = it.accepted;
      once = each_once first it.fed it.accepted;
      well = goes_well first it.fed sound (are_taken first it.fed it.accepted);
      answered = it.answered;
      settled = settled first it.fed it.accepted;
    }
