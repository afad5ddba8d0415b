-- What holds of a worker holds after the queue handles a request.
use Rattle.std.proofs.Common.{◌≡◌, ◌≢◌, ◌⊎◌, inl, inr, ℕ, ◌+◌, ◌<◌, ◌≤◌, Bool, true, false, ◌&&◌, eqb, nat_lt, List, ◌∷◌, Option, Some, None, refl, sym, ap, subst, ◌∙◌, arith}
use Rattle.std.specs.List.{list_any}
use Rattle.std.specs.Str.{bytes_eq}
use Rattle.std.specs.Cmp.Lexicographic.{bytes_decides}
use Rattle.std.proofs.lemmas.Bool.{and_from, and_parts, cases_Bool, cases_eq, eq-eqb, eqb-true, ne_eqb, true≢false}
use Rattle.std.proofs.lemmas.Bool.Decides.{nat_tests}
use Rattle.fax_core.specs.declared.ask.Ask.{Ask}
use Rattle.fax_core.specs.declared.ask.Ask.TheVariants.{Next, OnGrant}
use Rattle.fax_core.specs.declared.grants.Grant.{Grant}
use Rattle.fax_core.specs.declared.report.Report.{Report}
use Rattle.fax_core.specs.Clock.{decided_at}
use Rattle.fax_core.specs.Ledger.{kept_for}
use Rattle.fax_core.specs.Machine.{step}
use Rattle.fax_core.specs.Queue.{Queue, grant_numbered}
use Rattle.fax_core.specs.Reply.{Reply, Step, Taken, Refused}
use Rattle.fax_core.specs.Run.{Answer, answer_of, left_by}
use Rattle.fax_core.specs.Sound.{IsOpen, Sound}
use Rattle.fax_run.specs.Run.{Fed, floors_after, is_of, is_taken, queue_after, step_of}
use Rattle.fax_worker.proofs.DialLemmas.{KeepsDials, step_dials}
use Rattle.fax_worker.proofs.QueueLemmas.{accepts, grant_stays}
use Rattle.fax_worker.proofs.StandLemmas.{HoldsSo, Inv, IsPlain, IsSent, IsTaken, NextLeads, Stands, Stays, Waits, agrees_still, answer_above, answer_new, any_later, any_off, any_on, floors_below, floors_other, floors_up, is_accepted, kept_answer, name, new_plain, next_still, plain_next, plain_report, repeats_kept, step_leads, taken_from}
use Rattle.fax_worker.specs.Laws.{Agrees}
use Rattle.fax_worker.specs.Trace.{CallsComeFirst, Has, PageOf, SentAnswer, World, answer_to, new_answer}
use Rattle.fax_worker.specs.Worker.{Held, Pending, Worker}

-- texts that differ
differ : (a b : List ℕ) → a ≢ b → bytes_eq a b ≡ false
differ a b other = elim (cases_Bool (bytes_eq a b)) [
  | inl on ↦ absurd (other ((bytes_decides a b).0 on))
  | inr off ↦ off
]

-- an accepted request that is no report on a modem's grant leaves its open grants
pub stays_by : (modem : List ℕ) (m : Queue) (f : Fed) (n : Queue) (r : Reply) → Sound m → step_of m f ≡ Taken n r
    → ((a : ℕ) (g : Grant) (x : Report) → IsOpen m a g → g.modem ≡ modem → f.post.request.ask ≢ OnGrant a x) → Stays modem m (left_by m (step_of m f))
stays_by modem m f n r sound taken none = (
  λ a g is of_modem.
      let there = grant_stays f.settings m n (decided_at m.clock f.post.request.moment) f.post.request.ask r a g sound taken (λ x. none a g x is of_modem) is in
      subst (λ (x : Step). grant_numbered a (left_by m x) ≡ Some g) (sym taken) there,
  subst (λ (x : Step). KeepsDials m (left_by m x)) (sym taken) (step_dials f.settings m n (decided_at m.clock f.post.request.moment) f.post.request.ask r sound taken),
)

module _ (first : World) (modem : List ℕ) where
  abbrev c : List ℕ
  c = name first modem

  -- ---- what waits goes on waiting

  -- what holds of an answer holds of each that was sent, whether before or now
  abbrev SentBefore : List Fed → List SentAnswer → List Fed → List SentAnswer → ℕ → Type 0
  SentBefore fs ts gs us n = (ask : Ask) (answer : Answer) → (Has (record { number = n; ask = ask; answer = answer }) us → Has (record { number = n; ask = ask; answer = answer }) ts)
      × (kept_answer first.start gs c n ≡ Some answer → kept_answer first.start fs c n ≡ Some answer)

  sent_before : (fs : List Fed) (ts : List SentAnswer) (gs : List Fed) (us : List SentAnswer) (n : ℕ) (ask : Ask) (answer : Answer) → SentBefore fs ts gs us n → IsSent first modem gs us n ask answer → IsSent first modem fs ts n ask answer
  sent_before fs ts gs us n ask answer before (inl has) = inl ((before ask answer).0 has)
  sent_before fs ts gs us n ask answer before (inr kept) = inr ((before ask answer).1 kept)

  holds_still : (m n : Queue) (held : Option Held) → Stays modem m n → HoldsSo first modem m held → HoldsSo first modem n held
  holds_still m n held stays so h e = agrees_still modem m n h stays (so h e)

  waits_still : (m n : Queue) (fs gs : List Fed) (ts us : List SentAnswer) (k : ℕ) (ask : Ask) (held : Option Held) → Stays modem m n → is_accepted first modem gs k ≡ is_accepted first modem fs k → SentBefore fs ts gs us k
      → Waits first modem m fs ts k ask held → Waits first modem n gs us k ask held
  waits_still m n fs gs ts us k (Next asked) held stays same before w = record {
    own = w.own;
    none = w.none;
    leads = λ answer sent. next_still modem m n answer stays (w.leads answer (sent_before fs ts gs us k (Next asked) answer before sent));
  }
  waits_still m n fs gs ts us k (OnGrant grant x) held stays same before w = record {
    h = w.h;
    holds = w.holds;
    its = w.its;
    fits = w.fits;
    accepted = λ answer sent. w.accepted answer (sent_before fs ts gs us k (OnGrant grant x) answer before sent);
    state = elim w.state [
      | inl waiting ↦ inl (record { unused = same ∙ waiting.unused; agrees = agrees_still modem m n w.h stays waiting.agrees; silent = λ answer has. waiting.silent answer ((before (OnGrant grant x) answer).0 has) })
      | inr arrived ↦ inr (record { used = same ∙ arrived.used; agrees = λ h e. agrees_still modem m n h stays (arrived.agrees h e) })
    ];
  }
  waits_still m n fs gs ts us k other held stays same before w = holds_still m n held stays w

  stands_still : (m n : Queue) (fs gs : List Fed) (ts us : List SentAnswer) (o : Option Pending) (held : Option Held) → Stays modem m n
      → ((p : Pending) → o ≡ Some p → (is_accepted first modem gs p.number ≡ is_accepted first modem fs p.number) × SentBefore fs ts gs us p.number)
      → Stands first modem m fs ts o held → Stands first modem n gs us o held
  stands_still m n fs gs ts us None held stays same w = holds_still m n held stays w
  stands_still m n fs gs ts us (Some p) held stays same w = let x = same p refl in waits_still m n fs gs ts us p.number p.ask held stays x.0 x.1 w

  module _ (w : Worker) (fs : List Fed) (bs : List Pending) (ts : List SentAnswer) (win : Option PageOf) (i : Inv first modem w fs bs ts win) where
    abbrev m : Queue
    m = queue_after first.start.queue fs

    -- where one more request is accepted
    with_fed : (f : Fed) (us : List SentAnswer)
        → (f.post.client ≡ c → Has (record { number = f.post.number; ask = f.post.request.ask }) bs × (f.post.said ≡ first.says f.post.request.ask))
        → ((n : ℕ) → w.last ≤ n → floors_after first.start fs c < n → floors_after first.start (f ∷ fs) c < n)
        → ((t : SentAnswer) → Has t us → t.number ≤ w.last)
        → Stands first modem (queue_after first.start.queue (f ∷ fs)) (f ∷ fs) us w.unanswered w.held
        → Inv first modem w (f ∷ fs) bs us win
    with_fed f us own floors low stands = record {
      low = i.low;
      once = i.once;
      waits = i.waits;
      gives = i.gives;
      own = λ g has its. elim has [
        | inl same ↦ subst (λ (x : Fed). Has (record { number = x.post.number; ask = x.post.request.ask }) bs × (x.post.said ≡ first.says x.post.request.ask)) same (own (ap (λ (x : Fed). x.post.client) same ∙ its))
        | inr old ↦ i.own g old its
      ];
      unused = i.unused;
      free = i.free;
      floor = let small = floors (w.last + 1) (omega arith) (omega (arith, i.floor)) in omega (arith, small);
      above = λ p e. let last = (i.waits p e).1 in floors p.number (omega (arith, last)) (i.above p e);
      sent_low = low;
      settled = λ p grant x has e. elim (i.settled p grant x has e) [
        | inl was ↦ inl was
        | inr rest ↦ elim rest [
          | inl on ↦ inr (inl (any_later (is_of c p.number) f fs on))
          | inr given ↦ let up = floors_up f.post.client f.post.request.ask (floors_after first.start fs) c in inr (inr (omega (arith, given, up)))
        ]
      ];
      stands = stands;
      in_window = i.in_window;
    }

    -- where one more answer is sent
    with_told : (us : List SentAnswer) → ((t : SentAnswer) → Has t us → t.number ≤ w.last) → Stands first modem m fs us w.unanswered w.held → Inv first modem w fs bs us win
    with_told us low stands = record {
      low = i.low;
      once = i.once;
      waits = i.waits;
      gives = i.gives;
      own = i.own;
      unused = i.unused;
      free = i.free;
      floor = i.floor;
      above = i.above;
      sent_low = low;
      settled = i.settled;
      stands = stands;
      in_window = i.in_window;
    }

    -- ---- a request of another client

    pub other_taken : (f : Fed) → f.post.client ≢ c → Stays modem m (queue_after first.start.queue (f ∷ fs)) → Inv first modem w (f ∷ fs) bs ts win
    other_taken f other stays =
        let off : (n : ℕ) → is_of c n f ≡ false = λ n. ap (λ b. b && eqb f.post.number n) (differ f.post.client c other) in
        let floors = floors_other f.post.client f.post.request.ask (floors_after first.start fs) c (differ c f.post.client (λ q. other (sym q))) in
        with_fed f ts (λ its. absurd (other its)) (λ n last low. subst (λ (x : ℕ). x < n) (sym floors) low) i.sent_low
        (stands_still m (queue_after first.start.queue (f ∷ fs)) fs (f ∷ fs) ts ts w.unanswered w.held stays
        (λ p e. (any_off (is_of c p.number) f fs (off p.number), λ ask answer. (λ has. has, λ kept. rw (off p.number) at kept)))
        i.stands)

    -- ---- a request of its own

    module _ (f : Fed) (its : f.post.client ≡ c) (has : Has (record { number = f.post.number; ask = f.post.request.ask }) bs) (says : f.post.said ≡ first.says f.post.request.ask) where
      abbrev k : ℕ
      k = f.post.number

      abbrev ask : Ask
      ask = f.post.request.ask

      abbrev answer : Answer
      answer = answer_to first.start fs f

      abbrev us : List SentAnswer
      us = record { number = k; ask = ask; answer = answer } ∷ ts

      abbrev next : Queue
      next = queue_after first.start.queue (f ∷ fs)

      -- its number is one that was begun
      us_low : (t : SentAnswer) → Has t us → t.number ≤ w.last
      us_low t (inl same) = let small = i.low _ has in let at : k ≡ t.number = ap (λ (x : SentAnswer). x.number) same in omega (arith, small, at)
      us_low t (inr old) = i.sent_low t old

      -- a floor that it gives up is low
      own_floors : (n : ℕ) → w.last ≤ n → floors_after first.start fs c < n → floors_after first.start (f ∷ fs) c < n
      own_floors n last low = floors_below f.post.client ask (floors_after first.start fs) c n low (λ u e. let less = i.gives _ u has e in let small = i.low _ has in omega (arith, less, small, last))

      -- an answer under another number was sent before
      other_sent : (n : ℕ) → n ≢ k → (a : Ask) (x : Answer) → Has (record { number = n; ask = a; answer = x }) us → Has (record { number = n; ask = a; answer = x }) ts
      other_sent n other a x (inl same) = absurd (other (sym (ap (λ (t : SentAnswer). t.number) same)))
      other_sent n other a x (inr old) = old

      -- ---- it is accepted

      module _ (it : IsTaken first.start fs f) (sound : Sound m) (calls : CallsComeFirst m) where
        -- nothing was accepted under its number
        unused : is_accepted first modem fs k ≡ false
        unused = subst (λ (x : List ℕ). list_any (is_of x k) fs ≡ false) its it.unused

        here : is_of c k f ≡ true
        here = and_from (bytes_eq f.post.client c) (eqb k k) ((bytes_decides f.post.client c).1 its) (eq-eqb k k refl)

        off_here : (n : ℕ) → n ≢ k → is_of c n f ≡ false
        off_here n other = ap (λ b. bytes_eq f.post.client c && b) (ne_eqb k n (λ q. other (sym q))) ∙ and_false (bytes_eq f.post.client c)
          where
            and_false : (b : Bool) → (b && false) ≡ false
            and_false true = refl
            and_false false = refl

        -- what is no report leaves the modem's grants
        no_report : ((a : ℕ) (x : Report) → ask ≢ OnGrant a x) → Stays modem m next
        no_report none = stays_by modem m f it.after it.reply sound it.taken (λ a g x is of_modem. none a x)

        -- it isn't the unanswered request: then it is no report
        none_settled : ((p : Pending) → w.unanswered ≡ Some p → p.number ≢ k) → (a : ℕ) (x : Report) → ask ≢ OnGrant a x
        none_settled other a x e = elim (i.settled _ a x has e) [
          | inl was ↦ other _ was refl
          | inr rest ↦ elim rest [
            | inl on ↦ true≢false (sym on ∙ unused)
            | inr given ↦ let above = subst (λ (z : List ℕ). floors_after first.start fs z < k) its it.above in omega (arith, given, above)
          ]
        ]

        pub late_taken : ((p : Pending) → w.unanswered ≡ Some p → p.number ≢ k) → Inv first modem w (f ∷ fs) bs us win
        late_taken other =
            with_fed f us (λ e. (has, says)) own_floors us_low
            (stands_still m next fs (f ∷ fs) ts us w.unanswered w.held (no_report (none_settled other))
            (λ p e.
            let off = off_here p.number (other p e) in
            (any_off (is_of c p.number) f fs off, λ a x. (other_sent p.number (other p e) a x, λ kept. rw off at kept)))
            i.stands)

        -- a new plain request is answered by its step
        answer_is : IsPlain ask → answer ≡ answer_of (step_of m f)
        answer_is plain = answer_new first.start fs f it.above' plain it.unused

        -- each answer that is sent to it is that one, or was sent before
        sent_is : IsPlain ask → (a : Ask) (x : Answer) → IsSent first modem (f ∷ fs) us k a x → (x ≡ answer_of (step_of m f)) ⊎ Has (record { number = k; ask = a; answer = x }) ts
        sent_is plain a x (inl (inl same)) = inl (sym (ap (λ (t : SentAnswer). t.answer) same) ∙ answer_is plain)
        sent_is plain a x (inl (inr old)) = inr old
        sent_is plain a x (inr kept) = inl (let both : Some (new_answer first.start fs f) ≡ Some x = (rw here at kept) in let same : new_answer first.start fs f ≡ x = cc in sym same ∙ new_plain first.start fs f plain)

        -- the unanswered request is accepted
        taken_this : (a : Ask) (held : Option Held) → ask ≡ a → Waits first modem m fs ts k a held → Waits first modem next (f ∷ fs) us k a held
        taken_this (Next asked) held e waits = record {
          own = waits.own;
          none = waits.none;
          leads = λ x sent. elim (sent_is (subst IsPlain (sym e) (plain_next asked)) (Next asked) x sent) [
            | inl same ↦
                subst (NextLeads next modem) (sym same)
                (step_leads f.settings m (decided_at m.clock f.post.request.moment) modem (step_of m f) sound calls
                (sym (ap (step f.settings m (decided_at m.clock f.post.request.moment)) (e ∙ ap Next waits.own))) next refl)
            | inr old ↦ next_still modem m next x (no_report (λ b y q. absurd (cc (e, q)))) (waits.leads x (inl old))
          ];
        }
        taken_this (OnGrant grant x) held e waits = elim waits.state [
          | inl waiting ↦
              let done = accepts f.settings m (decided_at m.clock f.post.request.moment) modem waits.h x sound waiting.agrees waits.fits in
              let steps : step_of m f ≡ Taken done.after done.reply = ap (step f.settings m (decided_at m.clock f.post.request.moment)) (e ∙ ap (λ (b : ℕ). OnGrant b x) waits.its) ∙ done.taken in
              let leaves : next ≡ done.after = ap (left_by m) steps in
              record {
                h = waits.h;
                holds = waits.holds;
                its = waits.its;
                fits = waits.fits;
                accepted = λ y sent. elim (sent_is (subst IsPlain (sym e) (plain_report grant x)) (OnGrant grant x) y sent) [
                  | inl same ↦ (done.reply, same ∙ ap answer_of steps)
                  | inr old ↦ absurd (waiting.silent y old)
                ];
                state = inr (record { used = any_on (is_of c k) f fs here; agrees = λ h q. subst (λ (z : Queue). Agrees z modem h) (sym leaves) (done.agrees h q) });
              }
          | inr arrived ↦ absurd (true≢false (sym arrived.used ∙ unused))
        ]
        taken_this other held e waits = holds_still m next held (no_report (λ b y q. absurd (cc (e, q)))) waits

        pub this_taken : w.unanswered ≡ Some (record { number = k; ask = ask }) → Inv first modem w (f ∷ fs) bs us win
        this_taken is =
            with_fed f us (λ e. (has, says)) own_floors us_low
            (subst (λ (o : Option Pending). Stands first modem next (f ∷ fs) us o w.held) (sym is)
            (taken_this ask w.held refl (subst (λ (o : Option Pending). Stands first modem m fs ts o w.held) is i.stands)))

      -- ---- it isn't accepted

      module _ (untaken : is_taken first.start fs f ≡ false) (sound : Sound m) (calls : CallsComeFirst m) where
        pub late_untaken : ((p : Pending) → w.unanswered ≡ Some p → p.number ≢ k) → Inv first modem w fs bs us win
        late_untaken other =
            with_told us us_low
            (stands_still m m fs fs ts us w.unanswered w.held ((λ a g is of_modem. is.0), (λ x j is a g o its. (j, is, refl))) (λ p e. (refl, λ a x. (other_sent p.number (other p e) a x, λ kept. kept))) i.stands)

        module _ (is : w.unanswered ≡ Some (record { number = k; ask = ask })) where
          above : nat_lt (floors_after first.start fs f.post.client) k ≡ true
          above = is_below _ k (subst (λ (z : List ℕ). floors_after first.start fs z < k) (sym its) (i.above _ is))
            where
              is_below : (a b : ℕ) → a < b → nat_lt a b ≡ true
              is_below a b low = grind (arith, nat_tests)

          -- one that was accepted is answered as it was
          repeat_is : is_accepted first modem fs k ≡ true → kept_answer first.start fs c k ≡ Some answer
          repeat_is on =
              subst (λ (z : List ℕ). kept_answer first.start fs z k ≡ Some answer) its
              (repeats_kept first.start fs f.post (new_answer first.start fs f) (subst (λ (z : List ℕ). list_any (is_of z k) fs ≡ true) (sym its) on) same
              ∙ ap (λ (x : Answer). Some x) (sym (answer_above first.start fs f above)))
            where
              same : (g : Fed) → Has g fs → is_of f.post.client k g ≡ true → g.post.said ≡ f.post.said
              same g there of_it =
                  let parts = and_parts (bytes_eq g.post.client f.post.client) (eqb g.post.number k) of_it in
                  let b = i.own g there ((bytes_decides g.post.client f.post.client).0 parts.0 ∙ its) in
                  b.1 ∙ ap first.says (i.once _ _ b.0 has (eqb-true g.post.number k parts.1)) ∙ sym says

          -- one that wasn't accepted is refused by the machine
          not_taken : is_accepted first modem fs k ≡ false → IsPlain ask → (n : Queue) (r : Reply) → step_of m f ≡ Taken n r → ⊥
          not_taken off plain n r e =
              let on = taken_from first.start fs f above
              (subst (λ (z : List ℕ). kept_for z k first.start.kept.replies ≡ None) (sym its) (i.free _ is))
              (subst (λ (z : List ℕ). list_any (is_of z k) fs ≡ false) (sym its) off) (plain.low k) n r e in
              true≢false (sym on ∙ untaken)

          -- a new plain request is answered by its step
          new_is : is_accepted first modem fs k ≡ false → IsPlain ask → answer ≡ answer_of (step_of m f)
          new_is off plain = answer_new first.start fs f above plain (subst (λ (z : List ℕ). list_any (is_of z k) fs ≡ false) (sym its) off)

          -- `next` that is refused leads to agreement
          refused_leads : (x : Step) → step_of m f ≡ x → ask ≡ Next modem → is_accepted first modem fs k ≡ false → NextLeads m modem (answer_of (step_of m f))
          refused_leads (Taken n r) steps e off = absurd (not_taken off (subst IsPlain (sym e) (plain_next modem)) n r steps)
          refused_leads (Refused x keys) steps e off =
              step_leads f.settings m (decided_at m.clock f.post.request.moment) modem (step_of m f) sound calls
              (sym (ap (step f.settings m (decided_at m.clock f.post.request.moment)) e)) m (ap (left_by m) steps)

          untaken_this : (a : Ask) (held : Option Held) → ask ≡ a → Waits first modem m fs ts k a held → Waits first modem m fs us k a held
          untaken_this (Next asked) held e waits = record {
            own = waits.own;
            none = waits.none;
            leads = λ x sent. elim sent [
              | inl told ↦ elim told [
                | inl same ↦
                    let x_is : answer ≡ x = ap (λ (t : SentAnswer). t.answer) same in
                    elim (cases_Bool (is_accepted first modem fs k)) [
                      | inl on ↦ waits.leads x (inr (repeat_is on ∙ ap (λ (y : Answer). Some y) x_is))
                      | inr off ↦
                          let asks : ask ≡ Next modem = e ∙ ap Next waits.own in
                          subst (NextLeads m modem) (sym (new_is off (subst IsPlain (sym asks) (plain_next modem))) ∙ x_is) (refused_leads (step_of m f) refl asks off)
                    ]
                | inr old ↦ waits.leads x (inl old)
              ]
              | inr kept ↦ waits.leads x (inr kept)
            ];
          }
          untaken_this (OnGrant grant x) held e waits = elim waits.state [
            | inl waiting ↦
                let done = accepts f.settings m (decided_at m.clock f.post.request.moment) modem waits.h x sound waiting.agrees waits.fits in
                let steps : step_of m f ≡ Taken done.after done.reply = ap (step f.settings m (decided_at m.clock f.post.request.moment)) (e ∙ ap (λ (b : ℕ). OnGrant b x) waits.its) ∙ done.taken in
                absurd (not_taken waiting.unused (subst IsPlain (sym e) (plain_report grant x)) done.after done.reply steps)
            | inr arrived ↦ record {
              h = waits.h;
              holds = waits.holds;
              its = waits.its;
              fits = waits.fits;
              accepted = λ y sent. elim sent [
                | inl told ↦ elim told [
                  | inl same ↦ waits.accepted y (inr (repeat_is arrived.used ∙ ap (λ (z : Answer). Some z) (ap (λ (t : SentAnswer). t.answer) same)))
                  | inr old ↦ waits.accepted y (inl old)
                ]
                | inr kept ↦ waits.accepted y (inr kept)
              ];
              state = inr arrived;
            }
          ]
          untaken_this other held e waits = waits

          pub this_untaken : Inv first modem w fs bs us win
          this_untaken =
              with_told us us_low
              (subst (λ (o : Option Pending). Stands first modem m fs us o w.held) (sym is)
              (untaken_this ask w.held refl (subst (λ (o : Option Pending). Stands first modem m fs ts o w.held) is i.stands)))

      -- ---- accepted or not, unanswered or not

      -- the unanswered request, or one under another number
      which : (o : Option Pending) → w.unanswered ≡ o → (w.unanswered ≡ Some (record { number = k; ask = ask })) ⊎ ((p : Pending) → w.unanswered ≡ Some p → p.number ≢ k)
      which None e = inr (λ p q. absurd (cc (e, q)))
      which (Some p) e = elim (cases_eq p.number k) [
        | inl same ↦
            let asks : p.ask ≡ ask = i.once p _ (i.waits p e).0 has same in
            inl (e ∙ ap (λ (n : ℕ). Some (record { number = n; ask = p.ask })) same ∙ ap (λ (a : Ask). Some (record { number = k; ask = a })) asks)
        | inr other ↦ inr (λ q also. let it : p ≡ q = (let both = sym e ∙ also in cc) in λ x. other (ap (λ (z : Pending). z.number) it ∙ x))
      ]

      pub own_taken : IsTaken first.start fs f → Sound m → CallsComeFirst m → Inv first modem w (f ∷ fs) bs us win
      own_taken it sound calls = elim (which w.unanswered refl) [
        | inl is ↦ this_taken it sound calls is
        | inr other ↦ late_taken it sound calls other
      ]

      pub own_untaken : is_taken first.start fs f ≡ false → Sound m → CallsComeFirst m → Inv first modem w fs bs us win
      own_untaken untaken sound calls = elim (which w.unanswered refl) [
        | inl is ↦ this_untaken untaken sound calls is
        | inr other ↦ late_untaken untaken sound calls other
      ]
