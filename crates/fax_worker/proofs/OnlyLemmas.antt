-- Only answers that a queue has are read.
use Rattle.std.proofs.Common.{◌≡◌, ◌≤◌, ◌&&◌, ◌==◌, ℕ, List, [], ◌∷◌, Bool, true, false, cond, Option, Some, None, option_and_then, codes, refl, sym, ◌∙◌, subst}
use Rattle.std.proofs.lemmas.Bool.{and_parts, eqb-true, leb-true}
use Rattle.std.specs.List.{find}
use Rattle.std.specs.Option.{option_map}
use Rattle.std.specs.Prelude.{⊤, IfOk, Result, Ok, Err, nat_le}
use Rattle.std.specs.Str.{bytes_eq}
use Rattle.serde_json.specs.Data.{Data}
use Rattle.serde_json.specs.Find.{get}
use Rattle.fax_value.specs.Dial.{IsCanonical, is_canonical, without_separators}
use Rattle.fax_value.specs.Limits.{last_grant, last_job, most_pages}
use Rattle.fax_job.specs.declared.refusal.Refusal.{Refusal}
use Rattle.fax_job.specs.declared.refusal.Refusal.TheVariants.{BadBody, ModemBusy, PageOrder, Rejected, Unavailable}
use Rattle.fax_job.specs.Refusal.{refusal_number, refusal_status, refusal_word}
use Rattle.fax_core.specs.declared.ask.Ask.{Ask}
use Rattle.fax_core.specs.declared.ask.Ask.TheVariants.{Next, OnGrant, GiveUp}
use Rattle.fax_job.specs.declared.job.Call.{Call}
use Rattle.fax_core.specs.declared.report.Outcome.{Outcome}
use Rattle.fax_core.specs.declared.report.Report.{Report}
use Rattle.fax_core.specs.declared.report.Report.TheVariants as report
use Rattle.fax_core.specs.Reply.{Handed, Reply, NoneToSend, Given, Called, Confirmed, Stands, Floored, NoKeys, Notice, HeldGrant, Pages}
use Rattle.fax_core.specs.Run.{Answer, Replied, Denied}
use Rattle.fax_ask.specs.Report.{bool_at, number_at, text_at, within}
use Rattle.fax_worker.specs.Answer.{answer_of}
use Rattle.fax_worker.specs.declared.answer.Answer.{Answer as CodeAnswer}
use Rattle.fax_worker.specs.declared.reading.TheConstants.{REFUSALS}
use Rattle.fax_worker.specs.Join.{response_of}
use Rattle.fax_worker.specs.Reading.{IsRead, answer_in, called_in, confirmed_in, denied_in, dial_in, fault_in, floored_in, handed_from, handed_in, handed_of, held_in, is_handed, is_stated, is_zero, npages_in, parts_in, refusal_in, refusal_stated, reply_in, report_reply_in, stands_in}
use Rattle.fax_worker.specs.Replies.{IsAnswerTo, IsRefusal, IsReplyTo, IsReportReply, IsStanding, OnlyAnswersAreRead}
use Rattle.fax_worker.specs.Sayable.{IsHanded}

-- ---- options

-- what is made of an option is made of what is in it
taken : {A B : Type 0} (f : A → Option B) (o : Option A) (b : B) → option_and_then f o ≡ Some b → (a : A) × (o ≡ Some a) × (f a ≡ Some b)
taken f None b e = absurd (cc)
taken f (Some a) b e = (a, refl, e)

mapped : {A B : Type 0} (f : A → B) (o : Option A) (b : B) → option_map f o ≡ Some b → (a : A) × (o ≡ Some a) × (f a ≡ b)
mapped f None b e = absurd (cc)
mapped f (Some a) b e = (a, refl, cc)

-- what is given under a test passed it
passed : {A : Type 0} (test : Bool) (a b : A) → cond test (Some a) None ≡ Some b → (test ≡ true) × (a ≡ b)
passed true a b e = (refl, cc)
passed false a b e = absurd (cc)

-- ---- parts

-- a number within bounds
bounded : (least greatest n m : ℕ) → within least greatest n ≡ Some m → (least ≤ m) × (m ≤ greatest)
bounded least greatest n m e =
    let inside = passed (nat_le least n && nat_le n greatest) n m e in
    let both = and_parts (nat_le least n) (nat_le n greatest) inside.0 in
    (subst (λ (k : ℕ). least ≤ k) inside.1 (leb-true least n both.0), subst (λ (k : ℕ). k ≤ greatest) inside.1 (leb-true n greatest both.1))

-- a number to dial
dialed : (text dial : List ℕ) → dial_in text ≡ Some dial → IsCanonical dial
dialed text dial e =
    let out = passed (is_canonical (without_separators text)) (without_separators text) dial e in
    subst (λ (bytes : List ℕ). IsCanonical bytes) out.1 out.0

-- a grant has a page, and nothing of it is over its limit
handed_is : (grant job : ℕ) (dial : List ℕ) (from to : ℕ) → IsCanonical dial → is_handed grant job from to ≡ true
    → IsHanded (record { grant = grant; job = job; dial = dial; from = from; to = to })
handed_is grant job dial from to canonical e =
    let f = and_parts (nat_le 1 grant && nat_le grant last_grant && nat_le 1 job && nat_le job last_job && nat_le 1 from && nat_le from to) (nat_le to most_pages) e in
    let d = and_parts (nat_le 1 grant && nat_le grant last_grant && nat_le 1 job && nat_le job last_job && nat_le 1 from) (nat_le from to) f.0 in
    let c = and_parts (nat_le 1 grant && nat_le grant last_grant && nat_le 1 job && nat_le job last_job) (nat_le 1 from) d.0 in
    let b = and_parts (nat_le 1 grant && nat_le grant last_grant && nat_le 1 job) (nat_le job last_job) c.0 in
    let a = and_parts (nat_le 1 grant && nat_le grant last_grant) (nat_le 1 job) b.0 in
    let g = and_parts (nat_le 1 grant) (nat_le grant last_grant) a.0 in
    record {
      grant = leb-true 1 grant g.0;
      last_grant = leb-true grant last_grant g.1;
      job = leb-true 1 job a.1;
      last_job = leb-true job last_job b.1;
      dial = canonical;
      from = leb-true 1 from c.1;
      pages = leb-true from to d.1;
      to = leb-true to most_pages f.1;
    }

-- a grant that is read
grant_read : (json : Data) (h : Handed) → handed_in json ≡ Some h → IsHanded h
grant_read json h e =
    let p = taken handed_of (parts_in json) h e in
    let d = taken (λ (dial : List ℕ). handed_from p.0.grant p.0.job dial p.0.from p.0.to) (dial_in p.0.number) h p.2 in
    let out = passed (is_handed p.0.grant p.0.job p.0.from p.0.to) (record { grant = p.0.grant; job = p.0.job; dial = d.0; from = p.0.from; to = p.0.to }) h d.2 in
    subst IsHanded out.1 (handed_is p.0.grant p.0.job d.0 p.0.from p.0.to (dialed p.0.number d.0 d.1) out.0)

-- how many pages
pages_read : (json : Data) (npages : ℕ) → npages_in json ≡ Some npages → npages ≤ most_pages
pages_read json npages e = let n = taken (within 0 most_pages) (number_at (codes "npages") json) npages e in (bounded 0 most_pages n.0 npages n.2).1

-- ---- accepted requests

work_read : (modem : List ℕ) (json : Data) (zero : Bool) (reply : Reply) → cond zero (Some NoneToSend) (option_map Given (handed_in json)) ≡ Some reply → IsReplyTo (Next modem) reply
work_read modem json true reply e = let same : NoneToSend ≡ reply = cc in subst (λ (r : Reply). IsReplyTo (Next modem) r) same tt
work_read modem json false reply e = let h = mapped Given (handed_in json) reply e in subst (λ (r : Reply). IsReplyTo (Next modem) r) h.2 (grant_read json h.0 h.1)

called_read : (call : Call) (json : Data) (reply : Reply) → called_in json ≡ Some reply → IsReportReply (report.Call call) reply
unfolding called_in
called_read call json reply e = let s = mapped Called (bool_at (codes "stop") json) reply e in subst (λ (r : Reply). IsReportReply (report.Call call) r) s.2 tt

confirmed_read : (page : ℕ) (json : Data) (reply : Reply) → confirmed_in json ≡ Some reply → IsReportReply (report.Page page) reply
unfolding confirmed_in
confirmed_read page json reply e =
    let n = taken (λ (npages : ℕ). option_map (Confirmed npages) (bool_at (codes "stop") json)) (npages_in json) reply e in
    let s = mapped (Confirmed n.0) (bool_at (codes "stop") json) reply n.2 in
    subst (λ (r : Reply). IsReportReply (report.Page page) r) s.2 (pages_read json n.0 n.1)

stands_read : (outcome : Outcome) (json : Data) (reply : Reply) → stands_in json ≡ Some reply → IsReportReply (report.Outcome outcome) reply
unfolding stands_in
stands_read outcome json reply e =
    let j = taken (λ (job : ℕ). option_map (Stands job) (option_and_then (within 1 8) (number_at (codes "state") json))) (option_and_then (within 1 last_job) (number_at (codes "job") json)) reply e in
    let s = mapped (Stands j.0) (option_and_then (within 1 8) (number_at (codes "state") json)) reply j.2 in
    let n = taken (within 1 last_job) (number_at (codes "job") json) j.0 j.1 in
    let m = taken (within 1 8) (number_at (codes "state") json) s.0 s.1 in
    let job = bounded 1 last_job n.0 j.0 n.2 in
    let state = bounded 1 8 m.0 s.0 m.2 in
    let standing : IsStanding j.0 s.0 = record { from_job = job.0; to_job = job.1; from_state = state.0; to_state = state.1 } in
    subst (λ (r : Reply). IsReportReply (report.Outcome outcome) r) s.2 standing

floored_read : (upto : ℕ) (json : Data) (reply : Reply) → floored_in json ≡ Some reply → IsReplyTo (GiveUp upto) reply
unfolding floored_in
floored_read upto json reply e = let f = mapped Floored (number_at (codes "floor") json) reply e in subst (λ (r : Reply). IsReplyTo (GiveUp upto) r) f.2 tt

report_read : (grant : ℕ) (r : Report) (json : Data) (reply : Reply) → report_reply_in r json ≡ Some reply → IsReplyTo (OnGrant grant r) reply
report_read grant (report.Call call) json reply e = called_read call json reply e
report_read grant (report.Page page) json reply e = confirmed_read page json reply e
report_read grant (report.Outcome outcome) json reply e = stands_read outcome json reply e

-- a reply that is read
reply_read : (ask : Ask) (json : Data) (reply : Reply) → reply_in ask json ≡ Some reply → IsReplyTo ask reply
reply_read (Next modem) json reply e = work_read modem json (is_zero (number_at (codes "grant") json)) reply e
reply_read (OnGrant grant r) json reply e = report_read grant r json reply e
reply_read (GiveUp upto) json reply e = floored_read upto json reply e
reply_read other json reply e = absurd (cc)

-- the queue sends these replies with 200
ok_status : (ask : Ask) (reply : Reply) → IsReplyTo ask reply → 200 ≡ (response_of (Replied reply)).status
ok_status (Next modem) NoneToSend is = refl
ok_status (Next modem) (Given h) is = refl
ok_status (Next modem) other is = absurd is
ok_status (OnGrant grant (report.Call call)) (Called stop) is = refl
ok_status (OnGrant grant (report.Call call)) other is = absurd is
ok_status (OnGrant grant (report.Page page)) (Confirmed npages stop) is = refl
ok_status (OnGrant grant (report.Page page)) other is = absurd is
ok_status (OnGrant grant (report.Outcome outcome)) (Stands job state) is = refl
ok_status (OnGrant grant (report.Outcome outcome)) other is = absurd is
ok_status (GiveUp upto) (Floored floor) is = refl
ok_status (GiveUp upto) other is = absurd is
ok_status other reply is = absurd is

-- ---- refused requests

abbrev AreKnown : List Refusal → Type 0
AreKnown [] = ⊤
AreKnown (refusal ∷ refusals) = (refusal ≡ Unavailable → ⊥) × AreKnown refusals

-- what is found passed the test, and is one of those
found_of : (test : Refusal → Bool) (refusals : List Refusal) (refusal : Refusal) → AreKnown refusals → find test refusals ≡ Some refusal → (test refusal ≡ true) × (refusal ≡ Unavailable → ⊥)
found_of test [] refusal known e = absurd (cc)
found_of test (r ∷ rs) refusal known e = by (test r) refl e (found_of test rs refusal known.1)
  where
    by : (t : Bool) → test r ≡ t → cond t (Some r) (find test rs) ≡ Some refusal → (find test rs ≡ Some refusal → (test refusal ≡ true) × (refusal ≡ Unavailable → ⊥)) → (test refusal ≡ true) × (refusal ≡ Unavailable → ⊥)
    by true is this more = let same : r ≡ refusal = cc in (subst (λ (x : Refusal). test x ≡ true) same is, subst (λ (x : Refusal). x ≡ Unavailable → ⊥) same known.0)
    by false is this more = more this

-- none of the refusals that are answers is `Unavailable`
all_known : AreKnown REFUSALS
all_known = (λ e. cc, (λ e. cc, (λ e. cc, (λ e. cc, (λ e. cc, (λ e. cc, (λ e. cc, (λ e. cc, (λ e. cc, (λ e. cc, (λ e. cc, (λ e. cc, (λ e. cc, (λ e. cc, (λ e. cc, (λ e. cc, (λ e. cc, (λ e. cc, (λ e. cc, (λ e. cc, (λ e. cc, (λ e. cc, (λ e. cc, (λ e. cc, (λ e. cc, (λ e. cc, (λ e. cc, (λ e. cc, (λ e. cc, tt)))))))))))))))))))))))))))))

-- a refusal that is read
refusal_read : (status : ℕ) (json : Data) (refusal : Refusal) → refusal_in status json ≡ Some refusal → (status ≡ refusal_status refusal) × (refusal ≡ Unavailable → ⊥)
unfolding refusal_in
refusal_read status json refusal e =
    let n = taken (λ (number : ℕ). option_and_then (refusal_stated status number) (text_at (codes "word") json)) (number_at (codes "no") json) refusal e in
    let w = taken (refusal_stated status n.0) (text_at (codes "word") json) refusal n.2 in
    let f = found_of (is_stated status n.0 w.0) REFUSALS refusal all_known w.2 in
    let outer = and_parts ((refusal_status refusal == status) && (refusal_number refusal == n.0)) (bytes_eq (refusal_word refusal) w.0) f.0 in
    let inner = and_parts (refusal_status refusal == status) (refusal_number refusal == n.0) outer.0 in
    (sym (eqb-true (refusal_status refusal) status inner.0), f.1)

-- an answer of a refusal
abbrev IsDenial : Refusal → Answer → Type 0
IsDenial refusal (Replied reply) = ⊥
IsDenial refusal (Denied other keys) = IsRefusal other keys × (refusal_status refusal ≡ refusal_status other)

held_read : (json : Data) (answer : Answer) → held_in json ≡ Some answer → IsDenial ModemBusy answer
held_read json answer e =
    let c = taken (λ (called : Bool). option_map (λ handed. Denied ModemBusy (HeldGrant called handed)) (handed_in json)) (bool_at (codes "called") json) answer e in
    let h = mapped (λ (handed : Handed). Denied ModemBusy (HeldGrant c.0 handed)) (handed_in json) answer c.2 in
    subst (λ (a : Answer). IsDenial ModemBusy a) h.2 (grant_read json h.0 h.1, refl)

denied_read : (refusal : Refusal) (json : Data) (answer : Answer) → (refusal ≡ Unavailable → ⊥) → denied_in refusal json ≡ Some answer → IsDenial refusal answer
denied_read (BadBody fault) json answer is e = let f = mapped (λ f. Denied (BadBody f) NoKeys) (fault_in json) answer e in subst (λ (a : Answer). IsDenial (BadBody fault) a) f.2 (tt, refl)
denied_read Rejected json answer is e = let n = mapped (λ (notice : List ℕ). Denied Rejected (Notice notice)) (text_at (codes "notice") json) answer e in subst (λ (a : Answer). IsDenial Rejected a) n.2 (tt, refl)
denied_read ModemBusy json answer is e = let h = taken held_in (get (codes "held") json) answer e in held_read h.0 answer h.2
denied_read PageOrder json answer is e = let n = mapped (λ (npages : ℕ). Denied PageOrder (Pages npages)) (npages_in json) answer e in subst (λ (a : Answer). IsDenial PageOrder a) n.2 (pages_read json n.0 n.1, refl)
denied_read Unavailable json answer is e = absurd (is refl)
denied_read other json answer is e = let same : Denied other NoKeys ≡ answer = cc in subst (λ (a : Answer). IsDenial other a) same (tt, refl)

-- ---- the whole

abbrev IsOurs : Ask → ℕ → Answer → Type 0
IsOurs ask status answer = IsAnswerTo ask answer × (status ≡ (response_of answer).status)

denial_ours : (ask : Ask) (status : ℕ) (refusal : Refusal) (answer : Answer) → status ≡ refusal_status refusal → IsDenial refusal answer → IsOurs ask status answer
denial_ours ask status refusal (Replied reply) e is = absurd is
denial_ours ask status refusal (Denied other keys) e is = (is.0, e ∙ is.1)

answer_read : (ask : Ask) (status : ℕ) (json : Data) (answer : Answer) (ok : Bool) → (status == 200) ≡ ok
    → cond ok (option_map Replied (reply_in ask json)) (option_and_then (λ refusal. denied_in refusal json) (refusal_in status json)) ≡ Some answer → IsOurs ask status answer
answer_read ask status json answer true is e =
    let r = mapped Replied (reply_in ask json) answer e in
    let reply = reply_read ask json r.0 r.1 in
    subst (λ (a : Answer). IsOurs ask status a) r.2 (reply, eqb-true status 200 is ∙ ok_status ask r.0 reply)
answer_read ask status json answer false is e =
    let r = taken (λ (refusal : Refusal). denied_in refusal json) (refusal_in status json) answer e in
    let refusal = refusal_read status json r.0 r.1 in
    denial_ours ask status r.0 answer refusal.0 (denied_read r.0 json answer refusal.1 r.2)

-- only an answer that the queue has for the request is read, under its status
pub only_answers_are_read : OnlyAnswersAreRead
only_answers_are_read ask status body answer r =
    let j = taken (answer_in ask status) r.json answer (sym r.read) in
    answer_read ask status j.0 answer (status == 200) refl j.2

pub only_if : {E : Type 0} (asked ask : Ask) (status : ℕ) (body : List ℕ) (r : Result (Option CodeAnswer) E) → asked ≡ ask → IfOk r (λ out. IsRead asked status body (option_map answer_of out))
    → IfOk r (λ out. (answer : Answer) → option_map answer_of out ≡ Some answer → IsAnswerTo ask answer × (status ≡ (response_of answer).status))
only_if asked ask status body (Ok out) same is =
    λ answer e. subst (λ (a : Ask). IsAnswerTo a answer × (status ≡ (response_of answer).status)) same
    (only_answers_are_read asked status body answer (subst (λ (o : Option Answer). IsRead asked status body o) e is))
only_if asked ask status body (Err fault) same is = tt
