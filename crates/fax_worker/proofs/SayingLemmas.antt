-- What a worker says is read as what it meant.
use Rattle.std.proofs.Common.{◌≡◌, ◌≤◌, ◌<◌, ◌^◌, ◌&&◌, ◌==◌, ℕ, List, [], ◌∷◌, ◌++◌, length, get_or, Bool, true, false, not, leb, Option, Some, IsUtf8, codes, decimal, refl, sym, ap, subst, arith}
use Rattle.std.proofs.lemmas.Bool.{and_from, and_parts, eqb-true, le-leb, lt-ltb, ne_eqb}
use Rattle.std.proofs.lemmas.Fmt.{decimal_is_IsNumeral, first_decimal, length-decimal-le}
use Rattle.std.specs.Prelude.{MatchOption}
use Rattle.std.proofs.lemmas.Str.Parse.{digit_from_value}
use Rattle.std.specs.Int.{IsInRange}
use Rattle.std.specs.Char.{digit_value, is_ascii_digit}
use Rattle.std.specs.List.{list_all}
use Rattle.std.specs.Str.Parse.{AllDigits}
use Rattle.fax_value.specs.Limits.{most_pages}
use Rattle.fax_value.specs.Name.{IsName, is_name, is_name_byte}
use Rattle.fax_value.specs.Number.{begins_with_zero, request_number_of}
use Rattle.fax_lines.specs.Reading.{onto}
use Rattle.fax_job.specs.declared.job.Call.{Call}
use Rattle.fax_job.specs.declared.job.Call.TheVariants.{Connected, Busy, NoAnswer, NoCarrier, Other}
use Rattle.fax_core.specs.declared.ask.Ask.TheVariants.{Next, OnGrant, GiveUp}
use Rattle.fax_core.specs.declared.ask.Ask.{Ask}
use Rattle.fax_core.specs.declared.report.Ending.{Ending}
use Rattle.fax_core.specs.declared.report.Ending.TheVariants.{Done, Retry, Fail}
use Rattle.fax_core.specs.declared.report.Outcome.{Outcome as OutcomeParts}
use Rattle.fax_core.specs.declared.report.Report.{Report}
use Rattle.fax_core.specs.declared.report.Report.TheVariants.{Call as OfCall, Page, Outcome}
use Rattle.fax_ask.specs.Ask.{Asks, IsAsk}
use Rattle.fax_ask.specs.Path.{parts}
use Rattle.fax_ask.specs.Report.{Reports, call_in, ending_named, outcome_in, page_in, report_in, upto_in}
use Rattle.fax_ask.specs.Request.{request_of}
use Rattle.fax_ask.specs.declared.ask.Ask.TheVariants.{Step}
use Rattle.fax_ask.specs.declared.method.Method.TheVariants.{Post}
use Rattle.fax_ask.specs.declared.request.ReportKind.{ReportKind}
use Rattle.fax_ask.specs.declared.request.ReportKind.TheVariants as kind
use Rattle.fax_ask.specs.declared.request.Request.{Request}
use Rattle.fax_ask.specs.declared.request.Request.TheVariants as request
use Rattle.serde_json.specs.Written.{compact_text}
use Rattle.json.proofs.Printed.Utf8.{IsUtf8-are_ascii, are_ascii}
use Rattle.fax_worker.proofs.JsonLemmas.{text_is_json}
use Rattle.fax_worker.specs.Sayable.{IsNumbered, IsSayable, IsSayableOutcome, IsSayableReport}
use Rattle.fax_worker.specs.Saying.{SaysWhatItMeans, body_of, call_word, ending_word, outcome_json, path_of, report_json, upto_json}

-- ---- paths

-- no byte is a slash
abbrev pub has_none : List ℕ → Bool
has_none text = list_all (λ byte. not (byte == 47)) text

-- a text with no slash is a part of its own
parts_to : (text rest : List ℕ) → has_none text ≡ true → parts (text ++ 47 ∷ rest) ≡ text ∷ parts rest
parts_to [] rest h = refl
parts_to (b ∷ text) rest h = by (b == 47) refl (parts_to text rest)
  where
    by : (slash : Bool) → (b == 47) ≡ slash → (has_none text ≡ true → parts (text ++ 47 ∷ rest) ≡ text ∷ parts rest) → parts (b ∷ text ++ 47 ∷ rest) ≡ (b ∷ text) ∷ parts rest
    by true e more = let never : false ≡ true = rw e at h in absurd (cc)
    by false e more = rw e (ap (onto b) (more (and_parts (not (b == 47)) (has_none text) h).1))

-- bytes of a name are no slashes
name_byte : (b : ℕ) → is_name_byte b ≡ true → not (b == 47) ≡ true
name_byte b h = by (b == 47) refl
  where
    by : (slash : Bool) → (b == 47) ≡ slash → not (b == 47) ≡ true
    by true e = let never : false ≡ true = subst (λ (n : ℕ). is_name_byte n ≡ true) (eqb-true b 47 e) h in absurd (cc)
    by false e = ap not e

name_bytes : (text : List ℕ) → list_all is_name_byte text ≡ true → has_none text ≡ true
name_bytes [] h = refl
name_bytes (b ∷ text) h =
    let both = and_parts (is_name_byte b) (list_all is_name_byte text) h in
    and_from (not (b == 47)) (has_none text) (name_byte b both.0) (name_bytes text both.1)

-- a name has no slash
name_has_none : (text : List ℕ) → is_name text ≡ true → has_none text ≡ true
name_has_none text h = name_bytes text (and_parts (leb 1 (length text) && leb (length text) 32) (list_all is_name_byte text) h).1

-- so the queue reads the modem's name
next_path : (modem : List ℕ) → IsName modem → request_of Post (path_of (Next modem)) ≡ Some (request.Next modem)
unfolding request_of
next_path modem h = rw (parts_to modem (codes "next") (name_has_none modem h)) (rw h refl)

-- ---- numbers in paths

-- the ASCII digits are the bytes from 48 to 57
digit_byte : (b : ℕ) → digit_value b < 10 → (is_ascii_digit b ≡ true) × (not (b == 47) ≡ true)
digit_byte b h =
    let range : IsInRange 48 57 b = digit_from_value b h in
    (rw (le-leb 48 b range.0, le-leb b 57 range.1) refl, ap not (ne_eqb b 47 (λ e. omega (arith, range))))

digit_bytes : (text : List ℕ) → AllDigits 10 text → (list_all is_ascii_digit text ≡ true) × (has_none text ≡ true)
digit_bytes [] h = (refl, refl)
digit_bytes (b ∷ text) h =
    let here = digit_byte b h.0 in
    let rest = digit_bytes text h.1 in
    (and_from (is_ascii_digit b) (list_all is_ascii_digit text) here.0 rest.0, and_from (not (b == 47)) (has_none text) here.1 rest.1)

-- a number from 1 begins with no zero
no_zero : (text : List ℕ) → 48 < get_or text 0 0 → begins_with_zero text ≡ false
no_zero [] h = refl
no_zero (b ∷ text) h = ne_eqb b 48 (λ e. omega arith)

-- what a number of 1 to 18 digits writes is read as that number
number_read : (n : ℕ) → IsNumbered n → request_number_of (decimal n) ≡ Some n
number_read n h =
    let small : n < 2 ^ 64 = omega (arith, h.below) in
    let numeral = decimal_is_IsNumeral n small in
    let digits = digit_bytes (decimal n) numeral.0.1 in
    let short : length (decimal n) ≤ 18 = length-decimal-le 18 n (omega arith) h.below small in
    rw (no_zero (decimal n) (first_decimal n h.least small), le-leb 1 (length (decimal n)) numeral.0.0, le-leb _ 18 short, digits.0, numeral.1) refl

-- it has no slash
number_has_none : (n : ℕ) → IsNumbered n → has_none (decimal n) ≡ true
number_has_none n h =
    let small : n < 2 ^ 64 = omega (arith, h.below) in
    (digit_bytes (decimal n) (decimal_is_IsNumeral n small).0.1).1

-- the report of a path
abbrev kind_of : Report → ReportKind
kind_of (OfCall call) = kind.Call
kind_of (Page page) = kind.Page
kind_of (Outcome outcome) = kind.Outcome

-- so the queue reads the grant's number
grant_path : (grant : ℕ) (r : Report) → IsNumbered grant → request_of Post (path_of (OnGrant grant r)) ≡ Some (request.OnGrant grant (kind_of r))
unfolding request_of
grant_path grant (OfCall call) h = rw (parts_to (decimal grant) (codes "call") (number_has_none grant h)) (rw (number_read grant h) refl)
grant_path grant (Page page) h = rw (parts_to (decimal grant) (codes "page") (number_has_none grant h)) (rw (number_read grant h) refl)
grant_path grant (Outcome outcome) h = rw (parts_to (decimal grant) (codes "outcome") (number_has_none grant h)) (rw (number_read grant h) refl)

floor_path : (upto : ℕ) → request_of Post (path_of (GiveUp upto)) ≡ Some request.Floor
unfolding request_of
floor_path upto = refl

-- ---- bodies

ascii : (text : List ℕ) → are_ascii text ≡ true → IsUtf8 text
ascii text h = IsUtf8-are_ascii text h

-- a call is read
call_says : (call : Call) → report_in kind.Call (report_json (OfCall call)) ≡ Some (OfCall call)
unfolding call_in
call_says Connected = refl
call_says Busy = refl
call_says NoAnswer = refl
call_says NoCarrier = refl
call_says Other = refl

call_ascii : (call : Call) → are_ascii (call_word call) ≡ true
call_ascii Connected = refl
call_ascii Busy = refl
call_ascii NoAnswer = refl
call_ascii NoCarrier = refl
call_ascii Other = refl

call_reports : (call : Call) → Reports (report_in kind.Call) (compact_text (report_json (OfCall call))) (OfCall call)
call_reports call = record {
  json = report_json (OfCall call);
  is_json = text_is_json (report_json (OfCall call)) ((ascii (codes "result") refl, ascii (call_word call) (call_ascii call), tt), refl) (omega arith);
  says = call_says call;
}

-- so is a page
page_says : (page : ℕ) → 1 ≤ page → page ≤ most_pages → report_in kind.Page (report_json (Page page)) ≡ Some (Page page)
unfolding page_in
page_says page least most = rw (le-leb 1 page least, le-leb page most_pages most) refl

page_reports : (page : ℕ) → 1 ≤ page → page ≤ most_pages → Reports (report_in kind.Page) (compact_text (report_json (Page page))) (Page page)
page_reports page least most =
    let small : page < 2 ^ 64 = omega arith in
    record {
      json = report_json (Page page);
      is_json = text_is_json (report_json (Page page)) ((ascii (codes "page") refl, small, tt), refl) (omega arith);
      says = page_says page least most;
    }

-- and an outcome
ending_says : (ending : Ending) → ending_named (ending_word ending) ≡ Some ending
ending_says Done = refl
ending_says Retry = refl
ending_says Fail = refl

ending_ascii : (ending : Ending) → are_ascii (ending_word ending) ≡ true
ending_ascii Done = refl
ending_ascii Retry = refl
ending_ascii Fail = refl

outcome_says : (o : OutcomeParts) → IsSayableOutcome o → report_in kind.Outcome (outcome_json o) ≡ Some (Outcome o)
unfolding outcome_in
outcome_says o h = rw (le-leb 0 o.pages (omega arith), le-leb o.pages most_pages h.pages, ending_says o.ending, h.reason.reason) refl

outcome_reports : (o : OutcomeParts) → IsSayableOutcome o → Reports (report_in kind.Outcome) (compact_text (outcome_json o)) (Outcome o)
outcome_reports o h =
    let small : o.pages < 2 ^ 64 = omega (arith, h.pages) in
    record {
      json = outcome_json o;
      is_json = text_is_json (outcome_json o)
          ((ascii (codes "dialed") refl, tt, (ascii (codes "outcome") refl, ascii (ending_word o.ending) (ending_ascii o.ending), (ascii (codes "pages") refl, small, (ascii (codes "reason") refl, h.reason.utf8, tt)))), refl)
          (omega arith);
      says = outcome_says o h;
    }

-- and through which number replies are given up
upto_says : (upto : ℕ) → IsNumbered upto → upto_in (upto_json upto) ≡ Some upto
unfolding upto_in
upto_says upto h = rw (lt-ltb 0 upto h.least, lt-ltb upto (10 ^ 18) h.below) refl

upto_reports : (upto : ℕ) → IsNumbered upto → Reports upto_in (compact_text (upto_json upto)) upto
upto_reports upto h =
    let small : upto < 2 ^ 64 = omega (arith, h.below) in
    record {
      json = upto_json upto;
      is_json = text_is_json (upto_json upto) ((ascii (codes "upto") refl, small, tt), refl) (omega arith);
      says = upto_says upto h;
    }

-- ---- requests

-- a report is read
report_asks : (grant : ℕ) (r : Report) → IsSayableReport r → Asks (request.OnGrant grant (kind_of r)) (body_of (OnGrant grant r)) (Step (OnGrant grant r))
report_asks grant (OfCall call) h = (OfCall call, call_reports call, refl)
report_asks grant (Page page) h = (Page page, page_reports page h.0 h.1, refl)
report_asks grant (Outcome outcome) h = (Outcome outcome, outcome_reports outcome h, refl)

-- whatever names a request is read by its body
asks_by : (path : List ℕ) (body : List ℕ) (named : Request) (ask : Ask) → request_of Post path ≡ Some named → Asks named body (Step ask) → IsAsk Post path body (Step ask)
asks_by path body named ask e asks = subst (λ (o : Option Request). MatchOption o ⊥ (λ request. Asks request body (Step ask))) (sym e) asks

-- a worker's request is read as it was meant
pub says_what_it_means : SaysWhatItMeans
says_what_it_means (Next modem) h = asks_by (path_of (Next modem)) [] (request.Next modem) (Next modem) (next_path modem h) refl
says_what_it_means (OnGrant grant r) h = asks_by (path_of (OnGrant grant r)) (body_of (OnGrant grant r)) (request.OnGrant grant (kind_of r)) (OnGrant grant r) (grant_path grant r h.0) (report_asks grant r h.1)
says_what_it_means (GiveUp upto) h = asks_by (path_of (GiveUp upto)) (body_of (GiveUp upto)) request.Floor (GiveUp upto) (floor_path upto) (upto, upto_reports upto h, refl)
says_what_it_means other h = absurd h

-- so are its path and body, wherever their bytes are
pub meant_by : (ask asked : Ask) (path body : List ℕ) → asked ≡ ask → IsSayable asked → path ≡ path_of asked → body ≡ body_of asked → IsAsk Post path body (Step ask)
meant_by ask asked path body same sayable p b = rw (p, b, ← same) (says_what_it_means asked sayable)
