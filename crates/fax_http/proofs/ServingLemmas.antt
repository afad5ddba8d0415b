-- How far serving has come, and how it goes on and ends.
use Rattle.std.proofs.Common.{◌≡◌, ℕ, ◌+◌, ◌<◌, List, [], ◌∷◌, ◌++◌, length, Bool, true, false, Option, refl, ap, subst, sym, ◌∙◌, inl, inr, append_assoc, append-nil, arith, length-append}
use Rattle.std.proofs.lemmas.Grind.{flat_map-append}
use Rattle.httparse.specs.Grammar.{RequestHead, print_request}
use Rattle.fax_http.specs.declared.device.Watched.{Watched}
use Rattle.fax_http.specs.declared.exchange.Exchange.{Exchange}
use Rattle.fax_http.specs.declared.exchange.Exchange.TheVariants.{Answered, Last}
use Rattle.fax_http.specs.declared.message.Broken.{Broken}
use Rattle.fax_http.specs.declared.serving.End.{End}
use Rattle.fax_http.specs.declared.serving.End.TheVariants.{Closed, Bad, Bound, ReadFailed, WriteFailed, NoMemory}
use Rattle.fax_http.specs.Conversation.{EndWithLast, GoOn, Reads, Turn, failure_of, spelled_turn, spelled_turns}
use Rattle.fax_http.specs.Device.{BrokeOff, IsFresh, Put, Took}
use Rattle.fax_http.specs.Exchange.{HasTurned, HasRead, IsMissing}
use Rattle.fax_http.specs.Message.{BeginsWith, is_last}
use Rattle.fax_http.specs.Serving.{Answering, Answers, EndOver, EndsBy, FailedInReply, FailsHere, IsRefused, ServesOne, failed_to_read}
use Rattle.fax_http.proofs.DeviceLemmas.{put_both, put_none, took_both, took_none}

-- ---- lists of turns

-- one turn more is read from what was left
pub reads_one_more : (input : List ℕ) (turns : List Turn) (turn : Turn) (rest next : List ℕ) → Reads input turns rest
    → BeginsWith rest turn.head turn.body next → Reads input (turns ++ turn ∷ []) next
reads_one_more input [] turn rest next e begins = (next, subst (λ i. BeginsWith i turn.head turn.body next) (sym e) begins, refl)
reads_one_more input (t ∷ ts) turn rest next r begins = (r.0, r.1, reads_one_more r.0 ts turn rest next r.2 begins)

-- a message begins the bytes whatever follows
pub begins_more : (input : List ℕ) (head : RequestHead) (body rest more : List ℕ) → BeginsWith input head body rest → BeginsWith (input ++ more) head body (rest ++ more)
begins_more input head body rest more b = record {
  message = b.message;
  bytes =
      ap (λ i. i ++ more) b.bytes ∙ append_assoc (print_request head) (body ++ rest) more
      ∙ ap (λ v. print_request head ++ v) (append_assoc body rest more);
}

-- turns are read whatever follows
pub reads_more : (input : List ℕ) (turns : List Turn) (rest more : List ℕ) → Reads input turns rest → Reads (input ++ more) turns (rest ++ more)
reads_more input [] rest more e = ap (λ i. i ++ more) e
reads_more input (t ∷ ts) rest more r = (r.0 ++ more, begins_more input t.head t.body r.0 more r.1, reads_more r.0 ts rest more r.2)

-- one turn more is answered from where the others led
pub answers_one_more : {H : Type 0} (answers : Answering H) (old : H) (turns : List Turn) (turn : Turn) (now next : H) → Answers answers old turns now
    → answers now turn.head turn.body turn.reply next → Answers answers old (turns ++ turn ∷ []) next
answers_one_more answers old [] turn now next e step = (next, subst (λ h. answers h turn.head turn.body turn.reply next) e step, refl)
answers_one_more answers old (t ∷ ts) turn now next a step = (a.0, a.1, answers_one_more answers a.0 ts turn now next a.2 step)

-- turns that go on, and one that isn't the last, go on
pub go_on_one_more : (turns : List Turn) (turn : Turn) → GoOn turns → is_last turn.head ≡ false → GoOn (turns ++ turn ∷ [])
go_on_one_more [] turn g e = (e, tt)
go_on_one_more (t ∷ ts) turn g e = (g.0, go_on_one_more ts turn g.1 e)

-- one turn more is spelled behind the others
pub spelled_one_more : (turns : List Turn) (turn : Turn) → spelled_turns (turns ++ turn ∷ []) ≡ spelled_turns turns ++ spelled_turn turn
spelled_one_more turns turn =
    flat_map-append spelled_turn turns (turn ∷ []) ∙ ap (λ bs. spelled_turns turns ++ bs) (append-nil (spelled_turn turn))

-- one turn more is one more
pub length_one_more : (turns : List Turn) (turn : Turn) → length (turns ++ turn ∷ []) ≡ length turns + 1
length_one_more turns turn = omega (arith, length-append turns (turn ∷ []))

module _ {R W H : Type 0} (remaining : R → Option (List ℕ)) (contents : W → Option (List ℕ)) (answers : Answering H) (over : H → Bool)
    (reader reader₁ : Watched R) (writer writer₁ : Watched W) (old now : H) where
  -- so many messages were answered, another may follow, and their replies were written
  pub record Progress (rest : List ℕ) (count : ℕ) : Type 0 where
    pub taken : List ℕ
    pub turns : List Turn
    pub took : Took remaining reader reader₁ taken false
    pub reads : Reads taken turns rest
    pub going : GoOn turns
    pub answered : Answers answers old turns now
    pub goes_on : over now ≡ false
    pub count_is : count ≡ length turns
    pub put : Put contents writer writer₁ (spelled_turns turns) false

-- nothing was answered yet
pub progress_begins : {R W H : Type 0} (remaining : R → Option (List ℕ)) (contents : W → Option (List ℕ)) (answers : Answering H) (over : H → Bool) (reader : Watched R) (writer : Watched W) (handler : H) (buffer : List ℕ)
    → IsFresh reader → IsFresh writer → over handler ≡ false → buffer ≡ [] → Progress remaining contents answers over reader reader writer writer handler handler buffer 0
progress_begins remaining contents answers over reader writer handler buffer r w on empty = record {
  taken = [];
  turns = [];
  took = took_none remaining reader r.failed;
  reads = sym empty;
  going = tt;
  answered = refl;
  goes_on = on;
  count_is = refl;
  put = put_none contents writer w.failed;
}

module _ {R W H : Type 0} (remaining : R → Option (List ℕ)) (contents : W → Option (List ℕ)) (answers : Answering H) (over : H → Bool)
    (reader reader₁ reader₂ : Watched R) (writer writer₁ writer₂ : Watched W) (old now next : H) (before after : List ℕ) (count bound : ℕ)
    (p : Progress remaining contents answers over reader reader₁ writer writer₁ old now before count) (below : count < bound) where
  -- one message more was answered
  module _ (exchange : Exchange) (t : HasTurned remaining contents answers over reader₁ reader₂ writer₁ writer₂ now next before after exchange) where
    -- the turns with this one were read from all that was taken
    all_read : Reads (p.taken ++ t.more) (p.turns ++ t.turn ∷ []) after
    all_read = reads_one_more (p.taken ++ t.more) p.turns t.turn (before ++ t.more) after (reads_more p.taken p.turns before t.more p.reads) t.begins

    -- all of that was taken from the reader
    all_took : Took remaining reader reader₂ (p.taken ++ t.more) false
    all_took = took_both remaining reader reader₁ reader₂ p.taken t.more false p.took t.took

    -- all of them were answered
    all_answered : Answers answers old (p.turns ++ t.turn ∷ []) next
    all_answered = answers_one_more answers old p.turns t.turn now next p.answered t.step

    -- where this reply was written, all were
    all_put : Put contents writer₁ writer₂ (spelled_turn t.turn) false → Put contents writer writer₂ (spelled_turns (p.turns ++ t.turn ∷ [])) false
    all_put w =
        subst (λ bs. Put contents writer writer₂ bs false) (sym (spelled_one_more p.turns t.turn))
        (put_both contents writer writer₁ writer₂ (spelled_turns p.turns) (spelled_turn t.turn) false p.put w)

    -- the count with this one is right
    counted_one_more : count + 1 ≡ length (p.turns ++ t.turn ∷ [])
    counted_one_more = ap (λ n. n + 1) p.count_is ∙ sym (length_one_more p.turns t.turn)

    -- where this is the end, so many messages were served, and it ends so
    served_by : (end : End) → failed_to_read end ≡ false → EndsBy contents writer writer₂ bound (p.turns ++ t.turn ∷ []) after (remaining reader₂.device) (over next) end
        → ServesOne remaining contents answers over bound reader reader₂ writer writer₂ old next (record { messages = count + 1; end = end })
    served_by end e ends = record {
      taken = p.taken ++ t.more;
      turns = p.turns ++ t.turn ∷ [];
      rest = after;
      took = subst (λ f. Took remaining reader reader₂ (p.taken ++ t.more) f) (sym e) all_took;
      reads = all_read;
      answered = all_answered;
      handed = counted_one_more;
      within = omega (arith, below, counted_one_more);
      ends = ends;
    }

    -- where who answers is over, the turns end with that
    ends_over : over next ≡ true → EndOver (p.turns ++ t.turn ∷ []) (over next)
    ends_over e = record { earlier = p.turns; last = t.turn; parts = refl; going = p.going; over_is = e }

    -- where the message is the last, the turns end with it
    ends_with_last : is_last t.turn.head ≡ true → EndWithLast (p.turns ++ t.turn ∷ [])
    ends_with_last e = record { earlier = p.turns; last = t.turn; parts = refl; going = p.going; is_last = e }

    -- where the writer broke off in this reply, it failed in the replies
    failed_in_reply : BrokeOff contents writer₁ writer₂ (spelled_turn t.turn) → FailedInReply contents writer writer₂ (p.turns ++ t.turn ∷ [])
    failed_in_reply o = record {
      earlier = p.turns;
      last = t.turn;
      parts = refl;
      going = p.going;
      failed = record {
        part = o.front;
        left = o.back;
        parts = o.parts;
        some = o.some;
        put = put_both contents writer writer₁ writer₂ (spelled_turns p.turns) o.front true p.put o.put;
      };
    }

  -- and another may follow
  pub progress_next : HasTurned remaining contents answers over reader₁ reader₂ writer₁ writer₂ now next before after Answered
      → Progress remaining contents answers over reader reader₂ writer writer₂ old next after (count + 1)
  progress_next t = record {
    taken = p.taken ++ t.more;
    turns = p.turns ++ t.turn ∷ [];
    took = all_took Answered t;
    reads = all_read Answered t;
    going = go_on_one_more p.turns t.turn p.going t.replies.1;
    answered = all_answered Answered t;
    goes_on = t.replies.2;
    count_is = counted_one_more Answered t;
    put = all_put Answered t t.replies.0;
  }

  -- and none follows
  pub ends_last : (end : End) → HasTurned remaining contents answers over reader₁ reader₂ writer₁ writer₂ now next before after (Last end)
      → ServesOne remaining contents answers over bound reader reader₂ writer writer₂ old next (record { messages = count + 1; end = end })
  ends_last Closed t =
      let put = all_put (Last Closed) t t.replies.0 in
      elim t.replies.1 [
        | inl last ↦ served_by (Last Closed) t Closed refl (inr (inl (ends_with_last (Last Closed) t last)), put)
        | inr over ↦ served_by (Last Closed) t Closed refl (inr (inr (ends_over (Last Closed) t over)), put)
      ]
  ends_last (WriteFailed sent) t =
      served_by (Last (WriteFailed sent)) t (WriteFailed sent) refl (t.replies.1, inl (failed_in_reply (Last (WriteFailed sent)) t t.replies.0))
  ends_last Bad t = absurd t.replies
  ends_last Bound t = absurd t.replies
  ends_last ReadFailed t = absurd t.replies
  ends_last NoMemory t = absurd t.replies

  -- there is no message
  module _ (same : next ≡ now) where
    -- fewer messages were answered than the bound
    turns_below : length p.turns < bound
    turns_below = subst (λ n. n < bound) p.count_is below

    -- where there is no more message, those before were served, and it ends so
    missing_by : (end : End) (failed : Bool) → failed_to_read end ≡ failed → HasRead remaining contents answers over reader₁ reader₂ writer₁ writer₂ now next before after failed
        → EndsBy contents writer writer₂ bound p.turns after (remaining reader₂.device) (over next) end
        → ServesOne remaining contents answers over bound reader reader₂ writer writer₂ old next (record { messages = count; end = end })
    missing_by end failed e read ends = record {
      taken = p.taken ++ read.0;
      turns = p.turns;
      rest = after;
      took = subst (λ f. Took remaining reader reader₂ (p.taken ++ read.0) f) (sym e) (took_both remaining reader reader₁ reader₂ p.taken read.0 failed p.took read.1);
      reads = subst (λ v. Reads (p.taken ++ read.0) p.turns v) (sym read.2) (reads_more p.taken p.turns before read.0 p.reads);
      answered = subst (λ h. Answers answers old p.turns h) (sym same) p.answered;
      handed = p.count_is;
      within = omega (arith, turns_below);
      ends = ends;
    }

    -- where nothing more was written, the replies are written still
    still_put : writer₂ ≡ writer₁ → Put contents writer writer₂ (spelled_turns p.turns) false
    still_put w = subst (λ v. Put contents writer v (spelled_turns p.turns) false) (sym w) p.put

    -- bytes that begin no message are refused within the bound
    refused : (broken : Broken) → 0 < length after → FailsHere after (remaining reader₂.device) broken → IsRefused bound p.turns after (remaining reader₂.device) broken
    refused broken some fails = record { going = p.going; below = turns_below; some = some; fails = fails }

    -- where no message is there, serving ends so
    pub ends_missing : (end : End) → IsMissing remaining contents answers over reader₁ reader₂ writer₁ writer₂ now next before after end
        → ServesOne remaining contents answers over bound reader reader₂ writer writer₂ old next (record { messages = count; end = end })
    ends_missing Closed m = missing_by Closed false refl m.0 (inl (p.going, turns_below, m.1, m.2), still_put m.3)
    ends_missing ReadFailed m = missing_by ReadFailed true refl m.0 (record { going = p.going; below = turns_below; unfinished = m.1 }, still_put m.2)
    ends_missing Bad m =
        missing_by Bad false refl m.0
        (m.2, refused m.2 m.1 m.3, put_both contents writer writer₁ writer₂ (spelled_turns p.turns) (failure_of m.2) false p.put m.4.0)
    ends_missing (WriteFailed sent) m =
        missing_by (WriteFailed sent) false refl m.0 (
          m.4.1,
          inr (
            m.2,
            refused m.2 m.1 m.3,
            record {
              part = m.4.0.front;
              left = m.4.0.back;
              parts = m.4.0.parts;
              some = m.4.0.some;
              put = put_both contents writer writer₁ writer₂ (spelled_turns p.turns) m.4.0.front true p.put m.4.0.put;
            },
          ),
        )
    ends_missing Bound m = absurd (let e = m.4.1 in cc)
    ends_missing NoMemory m = absurd (let e = m.4.1 in cc)

-- the bound is reached
pub ends_bound : {R W H : Type 0} (remaining : R → Option (List ℕ)) (contents : W → Option (List ℕ)) (answers : Answering H) (over : H → Bool)
    (reader reader₁ : Watched R) (writer writer₁ : Watched W) (old now : H) (rest : List ℕ) (count bound : ℕ)
    → Progress remaining contents answers over reader reader₁ writer writer₁ old now rest count → count ≡ bound
    → ServesOne remaining contents answers over bound reader reader₁ writer writer₁ old now (record { messages = bound; end = Bound })
ends_bound remaining contents answers over reader reader₁ writer writer₁ old now rest count bound p at = record {
  taken = p.taken;
  turns = p.turns;
  rest = rest;
  took = p.took;
  reads = p.reads;
  answered = p.answered;
  handed = sym at ∙ p.count_is;
  within = omega (arith, at, p.count_is);
  ends = (p.going, sym p.count_is ∙ at, p.put);
}

-- there was no memory
pub gives_out : {R W H : Type 0} (remaining : R → Option (List ℕ)) (contents : W → Option (List ℕ)) (answers : Answering H) (over : H → Bool)
    (reader : Watched R) (writer : Watched W) (handler : H) (bound : ℕ) → IsFresh reader
    → ServesOne remaining contents answers over bound reader reader writer writer handler handler (record { messages = 0; end = NoMemory })
gives_out remaining contents answers over reader writer handler bound r = record {
  taken = [];
  turns = [];
  rest = [];
  took = took_none remaining reader r.failed;
  reads = refl;
  answered = refl;
  handed = refl;
  within = omega arith;
  ends = (refl, refl, refl);
}
