use Rattle.std.proofs.Common.{◌≡◌, ℕ, ◌-◌, ◌<◌, ◌≤◌, List, [], ◌∷◌, ◌++◌, Bool, true, false, codes, cond, length, take, drop, Option, Some, None, Ok, Err, refl, ap, sym, ◌∙◌, inr, arith, length-append}
use Rattle.std.specs.Prelude.{nat_le}
use Rattle.std.proofs.Math.Seq.{take-append_seam}
use Rattle.std.proofs.lemmas.Bool.{leb-true}
use Rattle.std.proofs.lemmas.List.{take-append-drop, take-append-le, take_rest}
use Rattle.httparse.specs.Grammar.{RequestHead, HasNoRequest, ReadsRequest, print_request}
use Rattle.httparse.specs.Spans.{IsRequestOf}
use Rattle.httparse.specs.declared.spans.HeaderSpan.{HeaderSpan}
use Rattle.httparse.specs.declared.spans.RequestSpans.{RequestSpans}
use Rattle.httparse.proofs.GrammarLemmas.{ReadsRequest-append, request_prefix_free, request_unique}
use Rattle.fax_value.specs.Number.{number_of}
use Rattle.fax_http.specs.declared.message.Broken.TheVariants.{BadHttp, TooLarge}
use Rattle.fax_http.specs.Message.{Fields, IsBad, IsHead, IsUnfinished, NeverHasHead, StaysBad, bounded, fields_of, framed, said_length, uncoded, values_of}

-- a front that fits into the bytes before what follows is theirs
pub front_of : (input more front behind : List ℕ) → input ++ more ≡ front ++ behind → length front ≤ length input
    → input ≡ front ++ drop (length front) input
front_of input more front behind e fits =
    sym (take-append-drop (length front) input)
    ∙ ap (λ f. f ++ drop (length front) input) (sym (take-append-le (length front) input more fits) ∙ ap (take (length front)) e ∙ take-append_seam front behind)

-- as many bytes as a head may have, and no head among them
pub long_part : (input : List ℕ) → HasNoRequest input → 16384 ≤ length input → NeverHasHead input
long_part input none long more head behind is_head e =
    none head _ (is_head.grammar, front_of input more (print_request head) behind e (omega (arith, long, is_head.bytes)))

-- a head past its limit of bytes
pub long_head : (input : List ℕ) (room : List HeaderSpan) (spans : RequestSpans) → IsRequestOf input room spans → 16384 < spans.len
    → NeverHasHead input
long_head input room spans (head, at) long more other behind is_head e =
    let same = request_prefix_free input more head other _ behind at.reads (is_head.grammar, e) in
    let size : length (print_request head) ≡ length (print_request other) = ap (λ h. length (print_request h)) same.0 in
    omega (arith, long, at.len, size, is_head.bytes)

-- the head that begins the input is the only one
same_head : (input : List ℕ) (head other : RequestHead) (rest more : List ℕ) → ReadsRequest input head rest
    → IsHead other → input ≡ print_request other ++ more → (head ≡ other) × (rest ≡ more)
same_head input head other rest more reads is_head e =
    request_unique input head other rest more reads (is_head.grammar, e)

-- a body and what is behind it are what is behind the head
pub body_and_rest : (input body rest : List ℕ) (len n : ℕ)
    → body ≡ take n (take (length input - len) (drop len input)) → rest ≡ drop n (take (length input - len) (drop len input))
    → drop len input ≡ body ++ rest
body_and_rest input body rest len n front back =
    sym (ap (λ b. b ++ rest) front ∙ ap (λ r. take n (take (length input - len) (drop len input)) ++ r) back
    ∙ take-append-drop n (take (length input - len) (drop len input)) ∙ take_rest input len)

-- a head whose framing isn't taken
pub bad_framing : (input : List ℕ) (head : RequestHead) (rest : List ℕ) → ReadsRequest input head rest
    → framed (fields_of head) ≡ Err BadHttp → IsBad input
bad_framing input head rest reads e = record {
  none = λ other body more b.
      let same = same_head input head other rest (body ++ more) reads b.message.is_head b.bytes in
      let both = sym e ∙ ap (λ h. framed (fields_of h)) same.0 ∙ b.message.frames in
      cc;
  not_too_large = λ t.
      let same = same_head input head t.head rest t.rest reads t.is_head t.bytes in
      let both = sym e ∙ ap (λ h. framed (fields_of h)) same.0 ∙ t.frames in
      cc;
}

-- a body that ends too soon
pub short_body : (input : List ℕ) (head : RequestHead) (rest : List ℕ) (n : ℕ) → ReadsRequest input head rest
    → framed (fields_of head) ≡ Ok n → length rest < n → IsBad input
short_body input head rest n reads e short = record {
  none = λ other body more b.
      let same = same_head input head other rest (body ++ more) reads b.message.is_head b.bytes in
      let both : Ok n ≡ Ok (length body) = sym e ∙ ap (λ h. framed (fields_of h)) same.0 ∙ b.message.frames in
      let size : n ≡ length body = cc in
      let whole : length rest ≡ length (body ++ more) = ap length same.1 in
      absurd (omega (arith, length-append body more));
  not_too_large = λ t.
      let same = same_head input head t.head rest t.rest reads t.is_head t.bytes in
      let both = sym e ∙ ap (λ h. framed (fields_of h)) same.0 ∙ t.frames in
      cc;
}

-- the same whatever follows
pub stays_bad : (input : List ℕ) (head : RequestHead) (rest : List ℕ) → ReadsRequest input head rest
    → framed (fields_of head) ≡ Err BadHttp → StaysBad input
stays_bad input head rest reads e more = bad_framing (input ++ more) head (rest ++ more) (ReadsRequest-append input head rest more reads) e

-- a length that is taken is at most 65536
bounded_within : (said : Option ℕ) (n : ℕ) → bounded said ≡ Ok n → n ≤ 65536
bounded_within None n e = cc
bounded_within (Some m) n e = chosen_within m n (nat_le m 65536) refl e
  where
    chosen_within : (m n : ℕ) (fits : Bool) → fits ≡ nat_le m 65536 → cond fits (Ok m) (Err TooLarge) ≡ Ok n → n ≤ 65536
    chosen_within m n true fits e = let same : m ≡ n = cc in omega (arith, same, leb-true m 65536 (sym fits))
    chosen_within m n false fits e = cc

-- so is one that a field says
said_within : (values : List (List ℕ)) (n : ℕ) → said_length values ≡ Ok n → n ≤ 65536
said_within [] n e = let same : 0 ≡ n = cc in omega (arith, same)
said_within (value ∷ []) n e = bounded_within (number_of value) n e
said_within (value ∷ another ∷ more) n e = cc

-- and one of a body without a coding
uncoded_within : (codings values : List (List ℕ)) (n : ℕ) → uncoded codings (said_length values) ≡ Ok n → n ≤ 65536
uncoded_within [] values n e = said_within values n e
uncoded_within (coding ∷ more) values n e = cc

-- a body that is framed is within its limit
framed_within : (fields : Fields) (n : ℕ) → framed fields ≡ Ok n → n ≤ 65536
framed_within fields n e = uncoded_within (values_of (codes "Transfer-Encoding") fields) (values_of (codes "Content-Length") fields) n e

-- a body that ends too soon may go on, so the message is unfinished
pub unfinished_body : (input : List ℕ) (head : RequestHead) (rest : List ℕ) (n : ℕ) → IsHead head → ReadsRequest input head rest
    → framed (fields_of head) ≡ Ok n → length rest < n → IsUnfinished input
unfinished_body input head rest n is_head reads e short = record {
  none = short_body input head rest n reads e short;
  within =
      let size : length input ≡ length (print_request head ++ rest) = ap length reads.1 in
      omega (arith, short, size, length-append (print_request head) rest, is_head.bytes, framed_within (fields_of head) n e);
  part = inr (record { head = head; rest = rest; size = n; is_head = is_head; frames = e; bytes = reads.1; short = short });
}
