-- What the front of some bytes comes to.
use Rattle.std.proofs.Common.{◌≡◌, ℕ, ◌-◌, ◌<◌, Bool, codes, List, [], ◌∷◌, ◌++◌, length, drop, Result, Err, refl, ap, inl, subst, sym, ◌∙◌, append-nil, append_assoc, arith, length-append}
use Rattle.std.proofs.Math.Seq.{drop-append_seam}
use Rattle.std.proofs.lemmas.List.Sums.{AllPass-from_list_all}
use Rattle.httparse.specs.Grammar.{AllPass, RequestHead, IsRequestHead, crlf, is_token_byte, is_uri_byte, print_request}
use Rattle.fax_http.specs.declared.message.Broken.{Broken}
use Rattle.fax_http.specs.declared.message.Broken.TheVariants.{BadHttp, TooLarge}
use Rattle.fax_http.specs.declared.message.Message.{Message}
use Rattle.fax_http.specs.declared.turn.Found.{Found}
use Rattle.fax_http.specs.declared.turn.Found.TheVariants.{Answered, Last, Refused, NotYet}
use Rattle.fax_http.specs.Cut.{ArePartsOf, HoldsMessage}
use Rattle.fax_http.specs.Found.{Finds, HandsOver, NeverBegins}
use Rattle.fax_http.specs.Message.{BeginsWith, IsMessage, IsTooLarge, IsUnfinished, StaysBad}
use Rattle.fax_http.specs.Serving.{Answering}
use Rattle.fax_http.proofs.DivisionLemmas.{some_head}

-- ---- no bytes at all are no failure

abbrev least : RequestHead
least = record { blank = []; method = codes "G"; target = codes "/"; minor = 1; line_end = crlf; fields = []; last = crlf }

-- the method of the least head is a token
least_method : AllPass is_token_byte (codes "G")
unfolding is_token_byte
least_method = AllPass-from_list_all is_token_byte (codes "G") refl

-- the least head is one
least_is : IsRequestHead least
unfolding lib.Utf8.encode
least_is = record {
  method = (omega arith, least_method);
  target = (omega arith, AllPass-from_list_all is_uri_byte (codes "/") refl);
  target_text = (47 ∷ [], (refl, refl));
  minor = omega arith;
  fields = λ k d h. absurd (omega (arith, h));
}

-- it has 16 bytes
least_size : length (print_request least) ≡ 16
unfolding print_request
least_size = refl

-- with no body it is a message
least_message : IsMessage least []
least_message = record { is_head = record { grammar = least_is; bytes = omega (arith, least_size); fields = omega arith }; frames = refl }

-- an empty input isn't bad whatever follows: a message may
none_stays : ¬ (StaysBad [])
none_stays bad = (bad (print_request least ++ ([] ++ []))).none least [] [] (record { message = least_message; bytes = refl })

-- it may be the front of a message
pub none_unfinished : IsUnfinished []
none_unfinished = record {
  none = record {
    none = λ head body rest begins. some_head head (body ++ rest) begins.bytes;
    not_too_large = λ large. some_head large.head large.rest large.bytes;
  };
  within = omega arith;
  part = inl (record {
    none = λ head rest is_head begins. some_head head rest begins;
    within = omega arith;
    grammar = inl (print_request least, least, (least_is, sym (append-nil (print_request least))));
  });
}

-- bytes that aren't none are some
some_bytes : (input : List ℕ) → ¬ (input ≡ []) → 0 < length input
some_bytes [] n = absurd (n refl)
some_bytes (x ∷ xs) n = omega arith

-- ---- a message

-- what stands behind the front of bytes
pub behind_front : (input front rest : List ℕ) → input ≡ front ++ rest → drop (length input - length rest) input ≡ rest
behind_front input front rest e =
    let size : length input - length rest ≡ length front = omega (arith, ap length e, length-append front rest) in
    ap (λ n. drop n input) size ∙ ap (drop (length front)) e ∙ drop-append_seam front rest

module _ {H : Type 0} (answers : Answering H) (over : H → Bool) (old new : H) (before after : List ℕ) where
  module _ (message : Message) (rest : List ℕ) (holds : HoldsMessage before message rest) (left : after ≡ drop (length before - length rest) before) where
    -- the message begins the bytes, and the rest is left
    begins : BeginsWith before holds.head message.body.now after
    begins =
        let front = print_request holds.head ++ message.body.now in
        let cut : before ≡ front ++ rest = holds.begins.bytes ∙ sym (append_assoc (print_request holds.head) message.body.now rest) in
        subst (λ v. BeginsWith before holds.head message.body.now v) (sym (left ∙ behind_front before front rest cut)) holds.begins

    -- what is handed over of the message is what the front of the bytes comes to
    answered_by : (found : Found) → HandsOver answers over old new holds.head message.body.now found → Finds answers over old new before after found
    answered_by (Answered bytes) (reply, step, spelled, going, on) = (
      record { turn = record { head = holds.head; body = message.body.now; reply = reply }; begins = begins; step = step; spelled = spelled },
      going,
      on,
    )
    answered_by (Last bytes) (reply, step, spelled, ends) = (
      record { turn = record { head = holds.head; body = message.body.now; reply = reply }; begins = begins; step = step; spelled = spelled },
      ends,
    )
    answered_by (Refused bytes) none = absurd none
    answered_by NotYet none = absurd none

    -- a message was cut off and handed over
    pub answered : (found : Found) → ((head : RequestHead) (body : List ℕ) → ArePartsOf message head body → HandsOver answers over old new head body found)
        → Finds answers over old new before after found
    answered found hands = answered_by found (hands holds.head message.body.now holds.parts)

-- the bytes begin no message
pub never_begins : {T : Type 0} (result : Result T Broken) (bytes : List ℕ) (broken : Broken) → result ≡ Err broken
    → (result ≡ Err TooLarge → IsTooLarge bytes) → (result ≡ Err BadHttp → StaysBad bytes) → (0 < length bytes) × NeverBegins bytes broken
never_begins result bytes BadHttp e large bad = (some_bytes bytes (λ none. none_stays (subst StaysBad none (bad e))), bad e)
never_begins result bytes TooLarge e large bad =
    (some_bytes bytes (λ none. some_head (large e).head (large e).rest (sym none ∙ (large e).bytes)), large e)
