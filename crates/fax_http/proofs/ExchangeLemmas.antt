-- What comes of looking for a message.
use Rattle.std.proofs.Common.{◌≡◌, ◌⊎◌, ℕ, ◌<◌, Bool, true, false, List, [], ◌∷◌, ◌++◌, length, Option, inl, inr, refl, ap, subst, sym, ◌∙◌, append-nil, append_assoc, arith}
use Rattle.fax_http.specs.declared.device.Watched.{Watched}
use Rattle.fax_http.specs.declared.exchange.Exchange.{Exchange}
use Rattle.fax_http.specs.declared.exchange.Exchange.TheVariants.{Answered, Last, Missing}
use Rattle.fax_http.specs.declared.message.Broken.{Broken}
use Rattle.fax_http.specs.declared.message.Broken.TheVariants.{BadHttp, TooLarge}
use Rattle.fax_http.specs.declared.serving.End.{End}
use Rattle.fax_http.specs.declared.serving.End.TheVariants.{Closed, Bad, Bound, ReadFailed, WriteFailed, NoMemory}
use Rattle.fax_http.specs.Buffer.{ReadMore}
use Rattle.fax_http.specs.Conversation.{failure_of}
use Rattle.fax_http.specs.Device.{BrokeOff, Put, Took}
use Rattle.fax_http.specs.Exchange.{Exchanges, IsMissing, Replies, RepliesTo, WritesTo}
use Rattle.fax_http.specs.Found.{HasAnswered, HasRefused, NeverBegins, Stays}
use Rattle.fax_http.specs.Message.{BeginsWith, IsBad, IsUnfinished, is_last}
use Rattle.fax_http.specs.Serving.{Answering, FailsHere}
use Rattle.fax_http.proofs.DeviceLemmas.{took_both, took_none}

-- ---- reading

module _ {R W H : Type 0} (remaining : R → Option (List ℕ)) (old now : Watched R) (writer writer₁ : Watched W) (handler handler₁ : H) (before after : List ℕ) where
  -- bytes were read, and stand behind those that were there; no more was done
  pub record Reading : Type 0 where
    pub more : List ℕ
    pub took : Took remaining old now more false
    pub behind : after ≡ before ++ more
    pub same_writer : writer₁ ≡ writer
    pub same_handler : handler₁ ≡ handler

-- nothing was read yet
pub reading_begins : {R W H : Type 0} (remaining : R → Option (List ℕ)) (r : Watched R) (w : Watched W) (h : H) (buffer : List ℕ) → r.failed ≡ false → Reading remaining r r w w h h buffer buffer
reading_begins remaining r w h buffer going = record {
  more = [];
  took = took_none remaining r going;
  behind = sym (append-nil buffer);
  same_writer = refl;
  same_handler = refl;
}

-- more bytes were read
pub reading_more : {R W H : Type 0} (remaining : R → Option (List ℕ)) (a b c : Watched R) (w w₁ : Watched W) (h h₁ : H) (before between after : List ℕ) (n : ℕ)
    → Reading remaining a b w w₁ h h₁ before between → ReadMore remaining b c between after n → Reading remaining a c w w₁ h h₁ before after
reading_more remaining a b c w w₁ h h₁ before between after n r m = record {
  more = r.more ++ m.more;
  took = took_both remaining a b c r.more m.more false r.took m.took;
  behind = m.behind ∙ ap (λ v. v ++ m.more) r.behind ∙ append_assoc before r.more m.more;
  same_writer = r.same_writer;
  same_handler = r.same_handler;
}

-- no message was there yet
pub reading_stays : {R W H : Type 0} (remaining : R → Option (List ℕ)) (answers : Answering H) (over : H → Bool) (a b : Watched R) (w w₁ : Watched W) (h h₁ h₂ : H) (before between after : List ℕ)
    → Reading remaining a b w w₁ h h₁ before between → Stays answers over h₁ h₂ between after → Reading remaining a b w w₁ h h₂ before after
reading_stays remaining answers over a b w w₁ h h₁ h₂ before between after r stays = record {
  more = r.more;
  took = r.took;
  behind = stays.same_bytes ∙ r.behind;
  same_writer = r.same_writer;
  same_handler = stays.same_handler ∙ r.same_handler;
}

-- ---- a message

module _ {R W H : Type 0} (remaining : R → Option (List ℕ)) (contents : W → Option (List ℕ)) (answers : Answering H) (over : H → Bool)
    (a b : Watched R) (w w₁ w₂ : Watched W) (h h₁ h₂ : H) (before between after : List ℕ) (r : Reading remaining a b w w₁ h h₁ before between)
    (bytes : List ℕ) (t : HasAnswered answers over h₁ h₂ between after bytes) where
  -- a message was read and answered, and its reply written or not
  turned : (exchange : Exchange) → Replies contents w₁ w₂ (over h₂) t.turn exchange → Exchanges remaining contents answers over a b w w₂ h h₂ before after exchange
  turned Answered replies = record {
    turn = t.turn;
    more = r.more;
    took = r.took;
    begins = subst (λ v. BeginsWith v t.turn.head t.turn.body after) r.behind t.begins;
    step = subst (λ v. answers v t.turn.head t.turn.body t.turn.reply h₂) r.same_handler t.step;
    replies = subst (λ v. Replies contents v w₂ (over h₂) t.turn Answered) r.same_writer replies;
  }
  turned (Last end) replies = record {
    turn = t.turn;
    more = r.more;
    took = r.took;
    begins = subst (λ v. BeginsWith v t.turn.head t.turn.body after) r.behind t.begins;
    step = subst (λ v. answers v t.turn.head t.turn.body t.turn.reply h₂) r.same_handler t.step;
    replies = subst (λ v. Replies contents v w₂ (over h₂) t.turn (Last end)) r.same_writer replies;
  }
  turned (Missing end) replies = absurd replies

  -- another message may follow
  pub goes_on : is_last t.turn.head ≡ false → over h₂ ≡ false → (exchange : Exchange) → RepliesTo contents w₁ w₂ bytes false exchange
      → Exchanges remaining contents answers over a b w w₂ h h₂ before after exchange
  goes_on going on Answered (put, same) = turned Answered (subst (λ v. Put contents w₁ w₂ v false) t.spelled put, going, on)
  goes_on going on (Last Closed) (put, same) = absurd cc
  goes_on going on (Last (WriteFailed sent)) (broke, is) = turned (Last (WriteFailed sent)) (subst (λ v. BrokeOff contents w₁ w₂ v) t.spelled broke, is)
  goes_on going on (Last Bad) none = absurd none
  goes_on going on (Last Bound) none = absurd none
  goes_on going on (Last ReadFailed) none = absurd none
  goes_on going on (Last NoMemory) none = absurd none
  goes_on going on (Missing end) none = absurd none

  -- and none follows
  pub ends_here : (is_last t.turn.head ≡ true) ⊎ (over h₂ ≡ true) → (exchange : Exchange) → RepliesTo contents w₁ w₂ bytes true exchange
      → Exchanges remaining contents answers over a b w w₂ h h₂ before after exchange
  ends_here ends Answered (put, same) = absurd cc
  ends_here ends (Last Closed) (put, same) = turned (Last Closed) (subst (λ v. Put contents w₁ w₂ v false) t.spelled put, ends)
  ends_here ends (Last (WriteFailed sent)) (broke, is) = turned (Last (WriteFailed sent)) (subst (λ v. BrokeOff contents w₁ w₂ v) t.spelled broke, is)
  ends_here ends (Last Bad) none = absurd none
  ends_here ends (Last Bound) none = absurd none
  ends_here ends (Last ReadFailed) none = absurd none
  ends_here ends (Last NoMemory) none = absurd none
  ends_here ends (Missing end) none = absurd none

-- ---- no message

module _ {R W H : Type 0} (remaining : R → Option (List ℕ)) (contents : W → Option (List ℕ)) (answers : Answering H) (over : H → Bool)
    (a b : Watched R) (w w₁ w₂ : Watched W) (h h₁ : H) (before after : List ℕ) (r : Reading remaining a b w w₁ h h₁ before after) where
  -- bytes that begin no message were answered so
  refused_by : (end : End) (broken : Broken) → 0 < length after → FailsHere after (remaining b.device) broken → WritesTo contents w w₂ (failure_of broken) Bad end
      → IsMissing remaining contents answers over a b w w₂ h h₁ before after end
  refused_by Closed broken some fails writes = absurd (let no = writes.1 in cc)
  refused_by ReadFailed broken some fails writes = absurd (let no = writes.1 in cc)
  refused_by Bad broken some fails writes = ((r.more, r.took, r.behind), some, broken, fails, writes)
  refused_by Bound broken some fails writes = ((r.more, r.took, r.behind), some, broken, fails, writes)
  refused_by NoMemory broken some fails writes = ((r.more, r.took, r.behind), some, broken, fails, writes)
  refused_by (WriteFailed sent) broken some fails writes = ((r.more, r.took, r.behind), some, broken, fails, writes)

-- bytes that never begin a message fail, whatever is left to read
fails_here : (rest : List ℕ) (unread : Option (List ℕ)) (broken : Broken) → NeverBegins rest broken → FailsHere rest unread broken
fails_here rest unread BadHttp never = inl never
fails_here rest unread TooLarge never = never

module _ {R W H : Type 0} (remaining : R → Option (List ℕ)) (contents : W → Option (List ℕ)) (answers : Answering H) (over : H → Bool)
    (a b : Watched R) (w w₁ w₂ : Watched W) (h h₁ h₂ : H) (before between after : List ℕ) (r : Reading remaining a b w w₁ h h₁ before between)
    (bytes : List ℕ) (f : HasRefused answers over h₁ h₂ between after bytes) where
  -- the bytes begin no message, and that was answered
  pub refused : (end : End) → WritesTo contents w₁ w₂ bytes Bad end → Exchanges remaining contents answers over a b w w₂ h h₂ before after (Missing end)
  refused end writes =
      let now = reading_stays remaining answers over a b w w₁ h h₁ h₂ before between after r f.stays in
      let same = sym f.stays.same_bytes in (
        now.same_handler,
        refused_by remaining contents answers over a b w w₁ w₂ h h₂ before after now end f.broken (subst (λ v. 0 < length v) same f.some)
            (fails_here after (remaining b.device) f.broken (subst (λ v. NeverBegins v f.broken) same f.never))
            (subst (λ v. WritesTo contents v w₂ (failure_of f.broken) Bad end) now.same_writer
            (subst (λ v. WritesTo contents w₁ w₂ v Bad end) f.spelled writes)),
      )

-- the reader failed
pub broke : {R W H : Type 0} (remaining : R → Option (List ℕ)) (contents : W → Option (List ℕ)) (answers : Answering H) (over : H → Bool) (a b c : Watched R) (w w₁ : Watched W) (h h₁ : H) (before between after : List ℕ)
    → Reading remaining a b w w₁ h h₁ before between → IsUnfinished between → (after ≡ between) × Took remaining b c [] true
    → Exchanges remaining contents answers over a c w w₁ h h₁ before after (Missing ReadFailed)
broke remaining contents answers over a b c w w₁ h h₁ before between after r u (same, took) = (
  r.same_handler,
  (
    (r.more, subst (λ v. Took remaining a c v true) (append-nil r.more) (took_both remaining a b c r.more [] true r.took took), same ∙ r.behind),
    subst IsUnfinished (sym same) u,
    r.same_writer,
  ),
)

-- the input ended
pub ended : {R W H : Type 0} (remaining : R → Option (List ℕ)) (contents : W → Option (List ℕ)) (answers : Answering H) (over : H → Bool) (a b c : Watched R) (w w₁ w₂ : Watched W) (h h₁ : H) (before between after : List ℕ) (n : ℕ) (end : End)
    → Reading remaining a b w w₁ h h₁ before between → IsUnfinished between → ReadMore remaining b c between after n → n ≡ 0
    → (after ≡ [] → (end ≡ Closed) × (w₂ ≡ w₁)) → (¬ (after ≡ []) → WritesTo contents w₁ w₂ (failure_of BadHttp) Bad end)
    → Exchanges remaining contents answers over a c w w₂ h h₁ before after (Missing end)
ended remaining contents answers over a b c w w₁ w₂ h h₁ before between [] n end r u m zero none some =
    let read = reading_more remaining a b c w w₁ h h₁ before between [] n r m in
    subst (λ e. Exchanges remaining contents answers over a c w w₂ h h₁ before [] (Missing e)) (sym (none refl).0)
    (r.same_handler, ((read.more, read.took, read.behind), refl, m.at_end zero, (none refl).1 ∙ r.same_writer))
ended remaining contents answers over a b c w w₁ w₂ h h₁ before between (x ∷ xs) n end r u m zero none some =
    let read = reading_more remaining a b c w w₁ h h₁ before between (x ∷ xs) n r m in
    let same : x ∷ xs ≡ between = m.behind ∙ ap (λ v. between ++ v) (no_more m.more (m.counts ∙ zero)) ∙ append-nil between in (
      r.same_handler,
      refused_by remaining contents answers over a c w w₁ w₂ h h₁ before (x ∷ xs) read end BadHttp (omega arith) (inr (subst IsBad (sym same) u.none, m.at_end zero))
          (subst (λ v. WritesTo contents v w₂ (failure_of BadHttp) Bad end) r.same_writer (some (λ e. absurd cc))),
    )
  where
    no_more : (ys : List ℕ) → length ys ≡ 0 → ys ≡ []
    no_more [] e = refl
    no_more (y ∷ ys) e = absurd (omega (arith, e))
