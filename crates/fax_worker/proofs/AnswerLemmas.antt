-- A queue's answers are read as they were sent.
use Rattle.std.proofs.Common.{◌≡◌, ◌≤◌, ◌<◌, ◌^◌, ◌&&◌, ◌==◌, ℕ, List, [], ◌∷◌, ◌++◌, length, filter, Bool, true, false, not, leb, Option, Some, None, option_and_then, codes, decimal, refl, sym, ap, ◌∙◌, subst, inl, inr, arith, append_assoc, IsUtf8}
use Rattle.std.proofs.lemmas.Bool.{and_parts, cases_Bool, le-leb, ne_eqb}
use Rattle.std.proofs.lemmas.Bool.Decides.{nat_tests}
use Rattle.std.specs.Fmt.{digits}
use Rattle.std.specs.List.{list_all}
use Rattle.std.specs.Option.{option_map}
use Rattle.std.specs.Prelude.{⊤, IfOk, Result, Ok, Err}
use Rattle.fax_worker.specs.Answer.{answer_of}
use Rattle.fax_worker.specs.declared.answer.Answer.{Answer as CodeAnswer}
use Rattle.json.specs.Print.{escape, escape_byte, quoted}
use Rattle.json.proofs.Printed.Utf8.{IsUtf8-are_ascii, are_ascii}
use Rattle.serde_json.specs.Data.{Data, Members, boolean, member, no_members, null, number, object, string, unsigned}
use Rattle.serde_json.specs.Written.{compact_text}
use Rattle.fax_value.specs.Dial.{IsCanonical, are_keys, is_canonical, is_key, is_separator, without_separators}
use Rattle.fax_value.specs.Limits.{last_grant, last_job, most_pages}
use Rattle.fax_value.proofs.DialLemmas.{canonical_utf8}
use Rattle.fax_job.specs.declared.lines.LineKind.{LineKind}
use Rattle.fax_job.specs.declared.lines.LineKind.TheVariants as line
use Rattle.fax_job.specs.declared.order.OrderFault.{OrderFault}
use Rattle.fax_job.specs.declared.order.OrderFault.TheVariants as order
use Rattle.fax_job.specs.declared.refusal.BodyFault.{BodyFault}
use Rattle.fax_job.specs.declared.refusal.BodyFault.TheVariants.{BadField, BadJson, Line, Order}
use Rattle.fax_job.specs.declared.refusal.Refusal.{Refusal}
use Rattle.fax_job.specs.declared.refusal.Refusal.TheVariants.{BadBody, ModemBusy, PageOrder, Rejected, Unavailable}
use Rattle.fax_job.specs.Refusal.{body_word, line_word, order_word, refusal_number, refusal_status, refusal_word}
use Rattle.fax_core.specs.declared.ask.Ask.{Ask}
use Rattle.fax_core.specs.declared.ask.Ask.TheVariants.{Next, OnGrant, GiveUp}
use Rattle.fax_core.specs.declared.report.Report.{Report}
use Rattle.fax_core.specs.declared.report.Report.TheVariants as report
use Rattle.fax_core.specs.Reply.{Handed, Reply, NoneToSend, Given, Called, Confirmed, Stands, Floored, Keys, NoKeys, Notice, HeldGrant, Pages}
use Rattle.fax_core.specs.Run.{Answer, Replied, Denied}
use Rattle.fax_ask.specs.Report.{IsJson, number_at, text_at}
use Rattle.fax_ask.specs.Response.{fault_bytes, refusal_bytes, refused_body, reply_body}
use Rattle.json.specs.Tree.{depth}
use Rattle.serde_json.specs.Read.{max_depth}
use Rattle.serde_json.specs.Written.{outline}
use Rattle.fax_job.specs.declared.job.Call.{Call}
use Rattle.fax_core.specs.declared.report.Outcome.{Outcome}
use Rattle.fax_worker.proofs.JsonLemmas.{ArePlain, IsPlain, text_is_json}
use Rattle.fax_worker.specs.Join.{response_of}
use Rattle.fax_worker.specs.Reading.{HandedParts, IsJsonIfSome, IsRead, answer_in, called_in, confirmed_in, denied_in, dial_in, fault_in, fault_named, kind_named, floored_in, handed_of, parts_in, refusal_in, refusal_stated, stands_in}
use Rattle.fax_worker.specs.Replies.{AnswersAreRead, HasLine, IsAnswerTo, IsRefusal, IsReplyTo, IsReportReply, IsStanding, IsWritable}
use Rattle.fax_worker.specs.Sayable.{IsHanded}

-- ---- the JSON of answers

abbrev handed_members : Handed → Members
handed_members h =
    member (codes "from") (number (unsigned h.from))
    (member (codes "grant") (number (unsigned h.grant))
    (member (codes "job") (number (unsigned h.job))
    (member (codes "number") (string h.dial)
    (member (codes "to") (number (unsigned h.to)) no_members))))

abbrev reply_json : Reply → Data
reply_json NoneToSend = object (member (codes "grant") (number (unsigned 0)) no_members)
reply_json (Given h) = object (handed_members h)
reply_json (Called stop) = object (member (codes "stop") (boolean stop) no_members)
reply_json (Confirmed npages stop) = object (member (codes "npages") (number (unsigned npages)) (member (codes "stop") (boolean stop) no_members))
reply_json (Stands job state) = object (member (codes "job") (number (unsigned job)) (member (codes "state") (number (unsigned state)) no_members))
reply_json (Floored floor) = object (member (codes "floor") (number (unsigned floor)) no_members)
reply_json other = null

abbrev refusal_json : Refusal → Data
refusal_json refusal = object (member (codes "no") (number (unsigned (refusal_number refusal))) (member (codes "word") (string (refusal_word refusal)) no_members))

abbrev bad_body : Members
bad_body = member (codes "no") (number (unsigned 6)) (member (codes "word") (string (codes "bad-body")) no_members)

abbrev fault_json : BodyFault → Data
fault_json (Line line kind) = object (member (codes "kind") (string (line_word kind)) (member (codes "line") (number (unsigned line)) bad_body))
fault_json other = object (member (codes "kind") (string (body_word other)) bad_body)

abbrev denied_json : Refusal → Keys → Data
denied_json (BadBody fault) NoKeys = fault_json fault
denied_json refusal NoKeys = refusal_json refusal
denied_json refusal (Notice text) =
    object (member (codes "no") (number (unsigned (refusal_number refusal))) (member (codes "notice") (string text) (member (codes "word") (string (refusal_word refusal)) no_members)))
denied_json refusal (HeldGrant called h) =
    object (member (codes "held") (object (member (codes "called") (boolean called) (handed_members h)))
    (member (codes "no") (number (unsigned (refusal_number refusal))) (member (codes "word") (string (refusal_word refusal)) no_members)))
denied_json refusal (Pages npages) =
    object (member (codes "no") (number (unsigned (refusal_number refusal))) (member (codes "npages") (number (unsigned npages)) (member (codes "word") (string (refusal_word refusal)) no_members)))

-- ---- its text is the body

-- a word has nothing to escape
escape_word : (refusal : Refusal) → escape (refusal_word refusal) ≡ refusal_word refusal
unfolding escape_byte
escape_word (BadBody fault) = refl
escape_word other = refl

line_words : (kind : LineKind) → escape (line_word kind) ≡ line_word kind
unfolding escape_byte
line_words line.NotText = refl
line_words other = refl

json_word : escape (codes "bad-json") ≡ codes "bad-json"
unfolding escape_byte
json_word = refl

field_word : escape (codes "bad-field") ≡ codes "bad-field"
unfolding escape_byte
field_word = refl

order_words : (fault : OrderFault) → escape (order_word fault) ≡ order_word fault
unfolding escape_byte
order_words order.NoNumber = refl
order_words other = refl

-- ---- what is read of it

-- this JSON is the body's, and it is read as the answer
record ReadsAs (ask : Ask) (answer : Answer) (json : Data) : Type 0 where
  text : compact_text json ≡ (response_of answer).body
  plain : IsPlain json
  shallow : depth (outline json) ≤ max_depth
  says : answer_in ask (response_of answer).status json ≡ Some answer

key : (text : List ℕ) → are_ascii text ≡ true → IsUtf8 text
key text h = IsUtf8-are_ascii text h

-- ---- numbers to dial

-- a key is no separator
key_stays : (b : ℕ) → is_key b ≡ true → not (is_separator b) ≡ true
key_stays b h = grind (arith, nat_tests)

-- a plus is no separator
plus_stays : (b : ℕ) → (b == 43) ≡ true → not (is_separator b) ≡ true
plus_stays b h = grind (arith, nat_tests)

-- keys stay where separators are left out
keys_stay : (bs : List ℕ) → list_all is_key bs ≡ true → filter (λ b. not (is_separator b)) bs ≡ bs
keys_stay [] h = refl
keys_stay (b ∷ bs) h =
    let both = and_parts (is_key b) (list_all is_key bs) h in
    rw (key_stays b both.0) (ap (λ rest. b ∷ rest) (keys_stay bs both.1))

-- bytes that are keys are each one
all_keys : (bs : List ℕ) → are_keys bs ≡ true → list_all is_key bs ≡ true
all_keys bs h = (and_parts (leb 1 (length bs) && leb (length bs) 32) (list_all is_key bs) h).1

-- a canonical number stays where separators are left out
canonical_stays : (bs : List ℕ) → is_canonical bs ≡ true → without_separators bs ≡ bs
canonical_stays [] h = refl
canonical_stays (b ∷ bs) h = elim (cases_Bool (b == 43)) [
  | inl plus ↦ rw (plus_stays b plus) (ap (λ rest. b ∷ rest) (keys_stay bs (all_keys bs (rw plus at h))))
  | inr off ↦ keys_stay (b ∷ bs) (all_keys (b ∷ bs) (rw off at h))
]

-- so it is read as it is written
dial_read : (text : List ℕ) → IsCanonical text → dial_in text ≡ Some text
dial_read text h = rw (canonical_stays text h, h) refl

-- ---- grants

parts : Handed → HandedParts
parts h = record { grant = h.grant; job = h.job; number = h.dial; from = h.from; to = h.to }

-- a grant is read of its parts
handed_read : (h : Handed) → IsHanded h → handed_of (parts h) ≡ Some h
unfolding parts
handed_read h is = rw (dial_read h.dial is.dial) (rw (le-leb 1 h.grant is.grant, le-leb h.grant last_grant is.last_grant, le-leb 1 h.job is.job, le-leb h.job last_job is.last_job, le-leb 1 h.from is.from, le-leb h.from h.to is.pages, le-leb h.to most_pages is.to) refl)

-- its members can be read
handed_plain : (h : Handed) → IsHanded h → ArePlain (handed_members h)
handed_plain h is =
    let from : h.from < 2 ^ 64 = omega (arith, is.pages, is.to) in
    let grant : h.grant < 2 ^ 64 = omega (arith, is.last_grant) in
    let job : h.job < 2 ^ 64 = omega (arith, is.last_job) in
    let to : h.to < 2 ^ 64 = omega (arith, is.to) in
    (key (codes "from") refl, from, (key (codes "grant") refl, grant, (key (codes "job") refl, job, (key (codes "number") refl, canonical_utf8 h.dial is.dial, (key (codes "to") refl, to, tt)))))

-- ---- accepted requests

none_reads : (modem : List ℕ) → ReadsAs (Next modem) (Replied NoneToSend) (reply_json NoneToSend)
unfolding escape_byte digits
none_reads modem =
    let zero : 0 < 2 ^ 64 = omega arith in
    record { text = refl; plain = ((key (codes "grant") refl, zero, tt), refl); shallow = omega arith; says = refl }

given_says : (modem : List ℕ) (h : Handed) → IsHanded h → answer_in (Next modem) 200 (reply_json (Given h)) ≡ Some (Replied (Given h))
unfolding parts_in parts
given_says modem h is = rw (ne_eqb h.grant 0 (λ e. omega (arith, is.grant))) (ap (λ o. option_map Replied (option_map Given o)) (handed_read h is))

-- the texts of a grant join the same, however they are grouped
grant_texts : (o a b c d e f g q i j z : List ℕ) → o ++ (a ++ (b ++ (c ++ (d ++ (e ++ (f ++ (g ++ (q ++ (i ++ (j ++ z)))))))))) ≡ o ++ (a ++ b ++ c ++ d ++ e ++ f ++ g ++ q ++ i ++ j) ++ z
grant_texts o a b c d e f g q i j z = simp append_assoc

given_text : (h : Handed) → compact_text (reply_json (Given h)) ≡ reply_body (Given h)
unfolding escape_byte
given_text h = grant_texts (codes "{") (codes "\"from\":") (decimal h.from) (codes ",\"grant\":") (decimal h.grant) (codes ",\"job\":") (decimal h.job) (codes ",\"number\":") (quoted h.dial) (codes ",\"to\":") (decimal h.to) (codes "}")

given_reads : (modem : List ℕ) (h : Handed) → IsHanded h → ReadsAs (Next modem) (Replied (Given h)) (reply_json (Given h))
given_reads modem h is = record { text = given_text h; plain = (handed_plain h is, refl); shallow = omega arith; says = given_says modem h is }

called_text : (stop : Bool) → compact_text (reply_json (Called stop)) ≡ reply_body (Called stop)
unfolding escape_byte
called_text true = refl
called_text false = refl

called_reads : (grant : ℕ) (call : Call) (stop : Bool) → ReadsAs (OnGrant grant (report.Call call)) (Replied (Called stop)) (reply_json (Called stop))
unfolding called_in
called_reads grant call stop = record { text = called_text stop; plain = ((key (codes "stop") refl, tt, tt), refl); shallow = omega arith; says = refl }

confirmed_text : (npages : ℕ) (stop : Bool) → compact_text (reply_json (Confirmed npages stop)) ≡ reply_body (Confirmed npages stop)
unfolding escape_byte
confirmed_text npages true = simp append_assoc
confirmed_text npages false = simp append_assoc

confirmed_reads : (grant page npages : ℕ) (stop : Bool) → npages ≤ most_pages → ReadsAs (OnGrant grant (report.Page page)) (Replied (Confirmed npages stop)) (reply_json (Confirmed npages stop))
unfolding confirmed_in
confirmed_reads grant page npages stop most =
    let small : npages < 2 ^ 64 = omega (arith, most) in
    record {
      text = confirmed_text npages stop;
      plain = ((key (codes "npages") refl, small, (key (codes "stop") refl, tt, tt)), refl);
      shallow = omega arith;
      says = rw (le-leb 0 npages (omega arith), le-leb npages most_pages most) refl;
    }

stands_text : (job state : ℕ) → compact_text (reply_json (Stands job state)) ≡ reply_body (Stands job state)
unfolding escape_byte
stands_text job state = simp append_assoc

stands_reads : (grant job state : ℕ) (outcome : Outcome) → IsStanding job state → ReadsAs (OnGrant grant (report.Outcome outcome)) (Replied (Stands job state)) (reply_json (Stands job state))
unfolding stands_in
stands_reads grant job state outcome is =
    let small : job < 2 ^ 64 = omega (arith, is.to_job) in
    let few : state < 2 ^ 64 = omega (arith, is.to_state) in
    record {
      text = stands_text job state;
      plain = ((key (codes "job") refl, small, (key (codes "state") refl, few, tt)), refl);
      shallow = omega arith;
      says = rw (le-leb 1 job is.from_job, le-leb job last_job is.to_job, le-leb 1 state is.from_state, le-leb state 8 is.to_state) refl;
    }

floored_text : (floor : ℕ) → compact_text (reply_json (Floored floor)) ≡ reply_body (Floored floor)
unfolding escape_byte
floored_text floor = simp append_assoc

floored_reads : (upto floor : ℕ) → floor < 2 ^ 64 → ReadsAs (GiveUp upto) (Replied (Floored floor)) (reply_json (Floored floor))
unfolding floored_in
floored_reads upto floor small = record { text = floored_text floor; plain = ((key (codes "floor") refl, small, tt), refl); shallow = omega arith; says = refl }

-- a report's reply
report_reads : (grant : ℕ) (r : Report) (reply : Reply) → IsReportReply r reply → ReadsAs (OnGrant grant r) (Replied reply) (reply_json reply)
report_reads grant (report.Call call) (Called stop) is = called_reads grant call stop
report_reads grant (report.Call call) other is = absurd is
report_reads grant (report.Page page) (Confirmed npages stop) is = confirmed_reads grant page npages stop is
report_reads grant (report.Page page) other is = absurd is
report_reads grant (report.Outcome outcome) (Stands job state) is = stands_reads grant job state outcome is
report_reads grant (report.Outcome outcome) other is = absurd is

-- the reply to an accepted request
reply_reads : (ask : Ask) (reply : Reply) → IsReplyTo ask reply → IsWritable (Replied reply) → ReadsAs ask (Replied reply) (reply_json reply)
reply_reads (Next modem) NoneToSend is written = none_reads modem
reply_reads (Next modem) (Given h) is written = given_reads modem h is
reply_reads (Next modem) other is written = absurd is
reply_reads (OnGrant grant r) reply is written = report_reads grant r reply is
reply_reads (GiveUp upto) (Floored floor) is written = floored_reads upto floor written
reply_reads (GiveUp upto) other is written = absurd is
reply_reads other reply is written = absurd is

-- ---- refused requests

-- the refusal of this status, number and word: one fault of a body is for all
abbrev named : Refusal → Refusal
named (BadBody fault) = BadBody BadField
named other = other

stated : (refusal : Refusal) → (refusal ≡ Unavailable → ⊥) → refusal_stated (refusal_status refusal) (refusal_number refusal) (refusal_word refusal) ≡ Some (named refusal)
stated (BadBody fault) is = refl
stated Unavailable is = absurd (is refl)
stated other is = refl

-- it is no reply to an accepted request
not_ok : (refusal : Refusal) → (refusal_status refusal == 200) ≡ false
not_ok (BadBody fault) = refl
not_ok other = refl

word_ascii : (refusal : Refusal) → are_ascii (refusal_word refusal) ≡ true
word_ascii (BadBody fault) = refl
word_ascii other = refl

number_small : (refusal : Refusal) → refusal_number refusal < 2 ^ 64
number_small (BadBody fault) = omega arith
number_small other = omega arith

-- a JSON with this number and word is read as the refusal
refused : (ask : Ask) (refusal : Refusal) (json : Data) → (refusal ≡ Unavailable → ⊥) → number_at (codes "no") json ≡ Some (refusal_number refusal) → text_at (codes "word") json ≡ Some (refusal_word refusal)
    → answer_in ask (refusal_status refusal) json ≡ denied_in (named refusal) json
unfolding refusal_in
refused ask refusal json is numbered worded = rw (not_ok refusal, numbered, worded, stated refusal is) refl

-- ---- a refusal of which no more is stated

-- the refusal has no more to tell
abbrev IsPlainRefusal : Refusal → Type 0
IsPlainRefusal (BadBody fault) = ⊥
IsPlainRefusal Rejected = ⊥
IsPlainRefusal ModemBusy = ⊥
IsPlainRefusal PageOrder = ⊥
IsPlainRefusal Unavailable = ⊥
IsPlainRefusal other = ⊤

other_than : (refusal : Refusal) → IsPlainRefusal refusal → refusal ≡ Unavailable → ⊥
other_than refusal is e = let P : Refusal → Type 0 = IsPlainRefusal in subst P e is

plain_denied : (refusal : Refusal) (json : Data) → IsPlainRefusal refusal → denied_in (named refusal) json ≡ Some (Denied refusal NoKeys)
plain_denied (BadBody fault) json is = absurd is
plain_denied Rejected json is = absurd is
plain_denied ModemBusy json is = absurd is
plain_denied PageOrder json is = absurd is
plain_denied Unavailable json is = absurd is
plain_denied other json is = refl

-- the texts of a refusal join the same
refusal_texts : (o n w t q e : List ℕ) → o ++ (n ++ (w ++ ((t ++ q) ++ e))) ≡ o ++ n ++ w ++ t ++ (q ++ e)
refusal_texts o n w t q e = simp append_assoc

plain_text : (refusal : Refusal) → compact_text (refusal_json refusal) ≡ refusal_bytes refusal
unfolding escape_byte
plain_text refusal =
    refusal_texts (codes "{\"no\":") (decimal (refusal_number refusal)) (codes ",\"word\":\"") (escape (refusal_word refusal)) (codes "\"") (codes "}")
    ∙ ap (λ (t : List ℕ). codes "{\"no\":" ++ decimal (refusal_number refusal) ++ codes ",\"word\":\"" ++ t ++ codes "\"}") (escape_word refusal)

plain_reads : (ask : Ask) (refusal : Refusal) → IsPlainRefusal refusal → refused_body refusal NoKeys ≡ refusal_bytes refusal → ReadsAs ask (Denied refusal NoKeys) (refusal_json refusal)
plain_reads ask refusal is body = record {
  text = plain_text refusal ∙ sym body;
  plain = ((key (codes "no") refl, number_small refusal, (key (codes "word") refl, key (refusal_word refusal) (word_ascii refusal), tt)), refl);
  shallow = omega arith;
  says = refused ask refusal (refusal_json refusal) (other_than refusal is) refl refl ∙ plain_denied refusal (refusal_json refusal) is;
}

-- ---- a fault of a body

kind_read : (kind : LineKind) → kind_named (line_word kind) ≡ Some kind
kind_read line.NotText = refl
kind_read other = refl

order_read : (fault : OrderFault) → fault_named (order_word fault) ≡ Some (Order fault)
order_read order.NoNumber = refl
order_read other = refl

line_ascii : (kind : LineKind) → are_ascii (line_word kind) ≡ true
line_ascii line.NotText = refl
line_ascii other = refl

order_ascii : (fault : OrderFault) → are_ascii (order_word fault) ≡ true
order_ascii order.NoNumber = refl
order_ascii other = refl

is_bad_body : (fault : BodyFault) → BadBody fault ≡ Unavailable → ⊥
is_bad_body fault e = cc

six : decimal 6 ≡ codes "6"
unfolding digits
six = refl

-- the texts of a fault join the same
line_texts : (o t q c l n e : List ℕ) → o ++ ((t ++ q) ++ ((c ++ l) ++ (n ++ (c ++ e)))) ≡ o ++ t ++ (q ++ c) ++ (l ++ n ++ c) ++ e
line_texts o t q c l n e = simp append_assoc

fault_texts : (o t q c e : List ℕ) → o ++ ((t ++ q) ++ (c ++ e)) ≡ o ++ t ++ (q ++ c) ++ [] ++ e
fault_texts o t q c e = simp append_assoc

line_text : (number : ℕ) (kind : LineKind) → compact_text (fault_json (Line number kind)) ≡ fault_bytes (Line number kind)
unfolding escape_byte
line_text n kind =
    ap (λ (d : List ℕ). codes "{\"kind\":\"" ++ ((escape (line_word kind) ++ codes "\"") ++ (codes ",\"line\":" ++ (decimal n ++ (codes ",\"no\":" ++ (d ++ codes ",\"word\":\"bad-body\"}")))))) six
    ∙ (line_texts (codes "{\"kind\":\"") (escape (line_word kind)) (codes "\"") (codes ",") (codes "\"line\":") (decimal n) (codes "\"no\":6,\"word\":\"bad-body\"}")
    ∙ ap (λ (t : List ℕ). codes "{\"kind\":\"" ++ t ++ codes "\"," ++ (codes "\"line\":" ++ decimal n ++ codes ",") ++ codes "\"no\":6,\"word\":\"bad-body\"}") (line_words kind))

fault_text : (word : List ℕ) → escape word ≡ word
    → compact_text (object (member (codes "kind") (string word) bad_body)) ≡ codes "{\"kind\":\"" ++ word ++ codes "\"," ++ [] ++ codes "\"no\":6,\"word\":\"bad-body\"}"
unfolding escape_byte
fault_text word plain =
    ap (λ (d : List ℕ). codes "{\"kind\":\"" ++ ((escape word ++ codes "\"") ++ (codes ",\"no\":" ++ (d ++ codes ",\"word\":\"bad-body\"}")))) six
    ∙ (fault_texts (codes "{\"kind\":\"") (escape word) (codes "\"") (codes ",") (codes "\"no\":6,\"word\":\"bad-body\"}")
    ∙ ap (λ (t : List ℕ). codes "{\"kind\":\"" ++ t ++ codes "\"," ++ [] ++ codes "\"no\":6,\"word\":\"bad-body\"}") plain)

-- the members of each fault can be read
bad_body_plain : ArePlain bad_body
bad_body_plain = let small : 6 < 2 ^ 64 = omega arith in (key (codes "no") refl, small, (key (codes "word") refl, key (codes "bad-body") refl, tt))

line_says : (number : ℕ) (kind : LineKind) → fault_in (fault_json (Line number kind)) ≡ Some (Line number kind)
unfolding fault_in
line_says n kind = rw (kind_read kind) refl

fault_says : (fault : BodyFault) (word : List ℕ) → fault_named word ≡ Some fault → fault_in (object (member (codes "kind") (string word) bad_body)) ≡ Some fault
unfolding fault_in
fault_says fault word is = is

fault_reads : (ask : Ask) (fault : BodyFault) (json : Data) → compact_text json ≡ fault_bytes fault → IsPlain json → depth (outline json) ≤ max_depth
    → number_at (codes "no") json ≡ Some 6 → text_at (codes "word") json ≡ Some (codes "bad-body") → fault_in json ≡ Some fault → ReadsAs ask (Denied (BadBody fault) NoKeys) json
fault_reads ask fault json text plain shallow numbered worded is = record {
  text = text;
  plain = plain;
  shallow = shallow;
  says = refused ask (BadBody fault) json (is_bad_body fault) numbered worded ∙ ap (option_map (λ f. Denied (BadBody f) NoKeys)) is;
}

body_reads : (ask : Ask) (fault : BodyFault) → HasLine fault → ReadsAs ask (Denied (BadBody fault) NoKeys) (fault_json fault)
body_reads ask (Line n kind) small =
    fault_reads ask (Line n kind) (fault_json (Line n kind)) (line_text n kind)
    ((key (codes "kind") refl, key (line_word kind) (line_ascii kind), (key (codes "line") refl, small, bad_body_plain)), refl)
    (omega arith) refl refl (line_says n kind)
body_reads ask (Order fault) is =
    fault_reads ask (Order fault) (fault_json (Order fault)) (fault_text (order_word fault) (order_words fault))
    ((key (codes "kind") refl, key (order_word fault) (order_ascii fault), bad_body_plain), refl)
    (omega arith) refl refl (fault_says (Order fault) (order_word fault) (order_read fault))
body_reads ask BadJson is =
    fault_reads ask BadJson (fault_json BadJson) (fault_text (codes "bad-json") json_word)
    ((key (codes "kind") refl, key (codes "bad-json") refl, bad_body_plain), refl)
    (omega arith) refl refl (fault_says BadJson (codes "bad-json") refl)
body_reads ask BadField is =
    fault_reads ask BadField (fault_json BadField) (fault_text (codes "bad-field") field_word)
    ((key (codes "kind") refl, key (codes "bad-field") refl, bad_body_plain), refl)
    (omega arith) refl refl (fault_says BadField (codes "bad-field") refl)

-- ---- refusals of which more is stated

-- their texts join the same
more_texts : (o n w t c d e : List ℕ) → o ++ (n ++ (w ++ (t ++ (c ++ (d ++ e))))) ≡ o ++ n ++ w ++ t ++ c ++ d ++ e
more_texts o n w t c d e = simp append_assoc

notice_text : (text : List ℕ) → compact_text (denied_json Rejected (Notice text)) ≡ refused_body Rejected (Notice text)
unfolding escape_byte
notice_text text = more_texts (codes "{\"no\":") (decimal 11) (codes ",\"notice\":") (quoted text) (codes ",\"word\":\"") (codes "rejected") (codes "\"}")

notice_reads : (ask : Ask) (text : List ℕ) → IsUtf8 text → ReadsAs ask (Denied Rejected (Notice text)) (denied_json Rejected (Notice text))
notice_reads ask text utf8 =
    let small : 11 < 2 ^ 64 = omega arith in
    record {
      text = notice_text text;
      plain = ((key (codes "no") refl, small, (key (codes "notice") refl, utf8, (key (codes "word") refl, key (codes "rejected") refl, tt))), refl);
      shallow = omega arith;
      says = refused ask Rejected (denied_json Rejected (Notice text)) (λ e. cc) refl refl;
    }

pages_text : (npages : ℕ) → compact_text (denied_json PageOrder (Pages npages)) ≡ refused_body PageOrder (Pages npages)
unfolding escape_byte
pages_text npages = more_texts (codes "{\"no\":") (decimal 22) (codes ",\"npages\":") (decimal npages) (codes ",\"word\":\"") (codes "page-order") (codes "\"}")

pages_denied : (npages : ℕ) → npages ≤ most_pages → denied_in PageOrder (denied_json PageOrder (Pages npages)) ≡ Some (Denied PageOrder (Pages npages))
pages_denied npages most = rw (le-leb 0 npages (omega arith), le-leb npages most_pages most) refl

pages_reads : (ask : Ask) (npages : ℕ) → npages ≤ most_pages → ReadsAs ask (Denied PageOrder (Pages npages)) (denied_json PageOrder (Pages npages))
pages_reads ask npages most =
    let small : 22 < 2 ^ 64 = omega arith in
    let few : npages < 2 ^ 64 = omega (arith, most) in
    record {
      text = pages_text npages;
      plain = ((key (codes "no") refl, small, (key (codes "npages") refl, few, (key (codes "word") refl, key (codes "page-order") refl, tt))), refl);
      shallow = omega arith;
      says = refused ask PageOrder (denied_json PageOrder (Pages npages)) (λ e. cc) refl refl ∙ pages_denied npages most;
    }

busy_texts : (o p b c a f d g e h k q i j z n m w t s : List ℕ)
    → o ++ ((p ++ (b ++ ((c ++ a) ++ (f ++ (d ++ (g ++ (e ++ (h ++ (k ++ (q ++ (i ++ (j ++ z)))))))))))) ++ (n ++ (m ++ (w ++ (t ++ s)))))
    ≡ (o ++ p) ++ b ++ c ++ (a ++ f ++ d ++ g ++ e ++ h ++ k ++ q ++ i ++ j) ++ (z ++ n) ++ m ++ w ++ t ++ s
busy_texts o p b c a f d g e h k q i j z n m w t s = simp append_assoc

busy_text : (called : Bool) (h : Handed) → compact_text (denied_json ModemBusy (HeldGrant called h)) ≡ refused_body ModemBusy (HeldGrant called h)
unfolding escape_byte
busy_text true h = busy_texts (codes "{\"held\":") (codes "{\"called\":") (codes "true") (codes ",") (codes "\"from\":") (decimal h.from) (codes ",\"grant\":") (decimal h.grant) (codes ",\"job\":") (decimal h.job) (codes ",\"number\":") (quoted h.dial) (codes ",\"to\":") (decimal h.to) (codes "}") (codes ",\"no\":") (decimal 18) (codes ",\"word\":\"") (codes "modem-busy") (codes "\"}")
busy_text false h = busy_texts (codes "{\"held\":") (codes "{\"called\":") (codes "false") (codes ",") (codes "\"from\":") (decimal h.from) (codes ",\"grant\":") (decimal h.grant) (codes ",\"job\":") (decimal h.job) (codes ",\"number\":") (quoted h.dial) (codes ",\"to\":") (decimal h.to) (codes "}") (codes ",\"no\":") (decimal 18) (codes ",\"word\":\"") (codes "modem-busy") (codes "\"}")

busy_denied : (called : Bool) (h : Handed) → IsHanded h → denied_in ModemBusy (denied_json ModemBusy (HeldGrant called h)) ≡ Some (Denied ModemBusy (HeldGrant called h))
unfolding parts_in parts
busy_denied called h is = ap (option_map (λ handed. Denied ModemBusy (HeldGrant called handed))) (handed_read h is)

busy_reads : (ask : Ask) (called : Bool) (h : Handed) → IsHanded h → ReadsAs ask (Denied ModemBusy (HeldGrant called h)) (denied_json ModemBusy (HeldGrant called h))
busy_reads ask called h is =
    let small : 18 < 2 ^ 64 = omega arith in
    record {
      text = busy_text called h;
      plain = ((key (codes "held") refl, ((key (codes "called") refl, tt, handed_plain h is), refl), (key (codes "no") refl, small, (key (codes "word") refl, key (codes "modem-busy") refl, tt))), refl);
      shallow = omega arith;
      says = refused ask ModemBusy (denied_json ModemBusy (HeldGrant called h)) (λ e. cc) refl refl ∙ busy_denied called h is;
    }

-- each refusal
refusal_reads : (ask : Ask) (refusal : Refusal) (keys : Keys) → IsRefusal refusal keys → IsWritable (Denied refusal keys) → ReadsAs ask (Denied refusal keys) (denied_json refusal keys)
refusal_reads ask (BadBody fault) NoKeys is written = body_reads ask fault written
refusal_reads ask Rejected (Notice text) is written = notice_reads ask text written
refusal_reads ask ModemBusy (HeldGrant called h) is written = busy_reads ask called h is
refusal_reads ask PageOrder (Pages npages) is written = pages_reads ask npages is
refusal_reads ask Rejected NoKeys is written = absurd is
refusal_reads ask ModemBusy NoKeys is written = absurd is
refusal_reads ask PageOrder NoKeys is written = absurd is
refusal_reads ask Unavailable NoKeys is written = absurd is
refusal_reads ask refusal NoKeys is written = plain_reads ask refusal tt refl
refusal_reads ask refusal other is written = absurd is

-- ---- the whole

abbrev json_of : Answer → Data
json_of (Replied reply) = reply_json reply
json_of (Denied refusal keys) = denied_json refusal keys

-- each answer has its JSON
answer_reads : (ask : Ask) (answer : Answer) → IsAnswerTo ask answer → IsWritable answer → ReadsAs ask answer (json_of answer)
answer_reads ask (Replied reply) is written = reply_reads ask reply is written
answer_reads ask (Denied refusal keys) is written = refusal_reads ask refusal keys is written

-- a body has one JSON
one_json : (body : List ℕ) (o : Option Data) (json : Data) → IsJsonIfSome body o → IsJson body json → o ≡ Some json
one_json body None json none is = let never : None ≡ Some json = sym (none is.text) ∙ is.written in absurd (cc)
one_json body (Some d) json some is = sym some.written ∙ is.written

-- so each answer is read as itself
pub answers_are_read : AnswersAreRead
answers_are_read ask answer out is written r =
    let json = json_of answer in
    let reads : ReadsAs ask answer json = answer_reads ask answer is written in
    let there : IsJson (response_of answer).body json = subst (λ (body : List ℕ). IsJson body json) reads.text (text_is_json json reads.plain reads.shallow) in
    r.read ∙ (ap (option_and_then (answer_in ask (response_of answer).status)) (one_json (response_of answer).body r.json json r.is_json there) ∙ reads.says)

-- wherever status and bytes are
read_as_sent : (ask : Ask) (status : ℕ) (body : List ℕ) (out : Option Answer) → IsRead ask status body out
    → (answer : Answer) → IsAnswerTo ask answer → IsWritable answer → status ≡ (response_of answer).status → body ≡ (response_of answer).body → out ≡ Some answer
read_as_sent ask status body out r answer is written same bytes =
    answers_are_read ask answer out is written (subst (λ (n : ℕ). IsRead ask n (response_of answer).body out) same (subst (λ (text : List ℕ). IsRead ask status text out) bytes r))

pub sent_if : {E : Type 0} (asked ask : Ask) (status : ℕ) (body : List ℕ) (r : Result (Option CodeAnswer) E) → asked ≡ ask → IfOk r (λ out. IsRead asked status body (option_map answer_of out))
    → IfOk r (λ out. (answer : Answer) → IsAnswerTo ask answer → IsWritable answer → status ≡ (response_of answer).status → body ≡ (response_of answer).body → option_map answer_of out ≡ Some answer)
sent_if asked ask status body (Ok out) same is = λ answer is_answer written number bytes. read_as_sent ask status body (option_map answer_of out) (subst (λ (a : Ask). IsRead a status body (option_map answer_of out)) same is) answer is_answer written number bytes
sent_if asked ask status body (Err fault) same is = tt
