-- Replies that are read.
use Rattle.std.proofs.Common.{◌≡◌, ◌∙◌, inl, inr, ℕ, ◌<◌, ◌≤◌, List, [], ◌∷◌, ◌++◌, true, false, codes, length, map, take, Option, Ok, Err, refl, ap, sym, subst, arith, append-nil, length-append, length-take}
use Rattle.std.proofs.lemmas.List.{length-map}
use Rattle.httparse.specs.Grammar.{ResponseHead, HasNoResponse, ReadsResponse, print_response, status_code}
use Rattle.httparse.specs.Spans.{IsResponseAt, ResponseOverflows, header_bytes, name_and_value}
use Rattle.httparse.specs.declared.spans.HeaderSpan.{HeaderSpan}
use Rattle.httparse.specs.declared.spans.ResponseSpans.{ResponseSpans}
use Rattle.httparse.proofs.GrammarLemmas.{response_prefix_free, response_unique}
use Rattle.fax_http.specs.declared.device.Watched.{Watched}
use Rattle.fax_http.specs.declared.message.Broken.{Broken}
use Rattle.std.specs.Borrow.{Bor}
use Rattle.fax_http.specs.declared.message.Occurrence.{Occurrence}
use Rattle.fax_http.specs.declared.message.Occurrence.TheVariants.{Missing, Once, Repeated}
use Rattle.fax_http.specs.Answer.{BeginsNoAnswer, BeginsWithAnswer, GivesNone, NeverBeginsAnswer, reply_fields}
use Rattle.fax_http.specs.Buffer.{ReadMore}
use Rattle.fax_http.specs.Device.{Took}
use Rattle.fax_http.specs.Field.{Shows}
use Rattle.fax_http.specs.Message.{framed, values_of}
use Rattle.fax_http.proofs.DeviceLemmas.{took_both}
use Rattle.fax_http.proofs.MessageLemmas.{front_of}

-- a head has no more fields than there was room for
pub few_fields : (input : List ℕ) (room : List HeaderSpan) (spans : ResponseSpans) (head : ResponseHead) → IsResponseAt input room spans head
    → length head.fields ≤ length room
few_fields input room spans head at =
    let same : length (map (header_bytes input) (take spans.headers room)) ≡ length (map name_and_value head.fields) = ap length at.fields in
    omega (arith, same, length-map (take spans.headers room) (header_bytes input), length-map head.fields name_and_value, length-take spans.headers room)

-- the same values, by another name of the occurrence
pub shows_as : (found other : Occurrence) (values : List (List ℕ)) → found ≡ other → Shows found values → Shows other values
shows_as found other values same shows = subst (λ o. Shows o values) same shows

-- a field that isn't there once has not one value
pub unlike_one : (found : Occurrence) (values : List (List ℕ)) → Shows found values → ((value : Bor (List ℕ)) → ¬ (found ≡ Once value)) → ¬ (length values ≡ 1)
unlike_one Missing values shows unlike one = omega (arith, ap length shows, one)
unlike_one (Once value) values shows unlike one = unlike value refl
unlike_one Repeated values shows unlike one = omega (arith, shows, one)

-- bytes that were taken, and those of one read more
pub took_more : {R : Type 0} (remaining : R → Option (List ℕ)) (a b c : Watched R) (before after : List ℕ) (count : ℕ)
    → Took remaining a b before false → ReadMore remaining b c before after count → Took remaining a c after false
took_more remaining a b c before after count took m =
    subst (λ v. Took remaining a c v false) (sym m.behind) (took_both remaining a b c before m.more false took m.took)

-- ---- no reply

-- where no head begins the bytes, no reply does
pub no_head : (input : List ℕ) → HasNoResponse input → BeginsNoAnswer input
no_head input none status body b = none b.head (body ++ b.rest) (b.is_answer.grammar, b.bytes)

-- as many bytes as a head may have, and no head among them
pub no_part : (input : List ℕ) → HasNoResponse input → 16384 ≤ length input → NeverBeginsAnswer input
no_part input none long more status body b =
    none b.head _ (b.is_answer.grammar, front_of input more (print_response b.head) (body ++ b.rest) b.bytes (omega (arith, long, b.is_answer.bytes)))

-- whatever follows, a head has more fields than there is room for
pub no_room : (input : List ℕ) → ResponseOverflows 64 input → NeverBeginsAnswer input
no_room input overflows more status body b =
    let many = overflows more b.head (body ++ b.rest) (b.is_answer.grammar, b.bytes) in omega (arith, many, b.is_answer.fields)

module _ (input : List ℕ) (head : ResponseHead) (rest : List ℕ) (reads : ReadsResponse input head rest) where
  -- the head of a reply is the one that the bytes begin with
  its_head : (more : List ℕ) (status : ℕ) (body : List ℕ) (b : BeginsWithAnswer (input ++ more) status body) → (head ≡ b.head) × (rest ++ more ≡ body ++ b.rest)
  its_head more status body b = response_prefix_free input more head b.head rest (body ++ b.rest) reads (b.is_answer.grammar, b.bytes)

  -- that is past its limit of bytes
  pub long_reply : 16384 < length (print_response head) → NeverBeginsAnswer input
  long_reply long more status body b =
      let size : length (print_response head) ≡ length (print_response b.head) = ap (λ h. length (print_response h)) (its_head more status body b).0 in
      omega (arith, long, size, b.is_answer.bytes)

  -- or of an interim reply
  pub interim : status_code head < 200 → NeverBeginsAnswer input
  interim low more status body b =
      let same : status_code head ≡ status_code b.head = ap status_code (its_head more status body b).0 in
      omega (arith, low, same, b.is_answer.final)

  -- or doesn't say one length
  pub no_length : ¬ (length (values_of (codes "Content-Length") (reply_fields head)) ≡ 1) → NeverBeginsAnswer input
  no_length none more status body b =
      none (ap (λ h. length (values_of (codes "Content-Length") (reply_fields h))) (its_head more status body b).0 ∙ b.is_answer.says_length)

  -- or frames no body
  pub unframed : (broken : Broken) → framed (reply_fields head) ≡ Err broken → NeverBeginsAnswer input
  unframed broken e more status body b =
      absurd (let both = sym e ∙ ap (λ h. framed (reply_fields h)) (its_head more status body b).0 ∙ b.is_answer.frames in cc)

  -- or frames a body that isn't there to its end
  pub short_reply : (n : ℕ) → framed (reply_fields head) ≡ Ok n → length rest < n → BeginsNoAnswer input
  short_reply n e short status body b =
      let same = response_unique input head b.head rest (body ++ b.rest) reads (b.is_answer.grammar, b.bytes) in
      let frames : Ok n ≡ Ok (length body) = sym e ∙ ap (λ h. framed (reply_fields h)) same.0 ∙ b.is_answer.frames in
      let size : n ≡ length body = cc in
      omega (arith, short, size, ap length same.1, length-append body b.rest)

-- ---- no reply comes

module _ {R : Type 0} (remaining : R → Option (List ℕ)) (a b : Watched R) (before : List ℕ) (took : Took remaining a b before false) where
  -- none can begin what was read
  pub gives_never : NeverBeginsAnswer before → GivesNone remaining a b
  gives_never never = record { taken = before; failed = false; took = took; lacks = inl never }

  -- none does, and the reader failed
  pub gives_broken : (c : Watched R) → BeginsNoAnswer before → Took remaining b c [] true → GivesNone remaining a c
  gives_broken c none broke = record {
    taken = before;
    failed = true;
    took = subst (λ v. Took remaining a c v true) (append-nil before) (took_both remaining a b c before [] true took broke);
    lacks = inr (none, inl refl);
  }

  -- none does, and the input has ended
  pub gives_end : (c : Watched R) (after : List ℕ) (count : ℕ) → BeginsNoAnswer before → ReadMore remaining b c before after count → count ≡ 0 → GivesNone remaining a c
  gives_end c after count none m zero = record {
    taken = after;
    failed = false;
    took = took_more remaining a b c before after count took m;
    lacks = inr (subst BeginsNoAnswer (sym (m.behind ∙ ap (λ v. before ++ v) (no_more m.more (m.counts ∙ zero)) ∙ append-nil before)) none, inr (m.at_end zero));
  }
    where
      no_more : (ys : List ℕ) → length ys ≡ 0 → ys ≡ []
      no_more [] e = refl
      no_more (y ∷ ys) e = absurd cc
