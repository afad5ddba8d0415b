-- What an accepted arrival had.
use Rattle.std.proofs.Common.{◌≡◌, ◌<◌, inl, inr, ℕ, Bool, true, false, cond, nat_lt, List, Option, Some, None, Ok, refl, sym, ap, subst, ◌∙◌, if◌then◌else◌}
use Rattle.std.proofs.lemmas.Bool.{ltb-true}
use Rattle.std.specs.Str.{bytes_eq}
use Rattle.fax_job.specs.declared.refusal.Refusal.{Refusal}
use Rattle.fax_job.specs.declared.refusal.Refusal.TheVariants.{FloorHigh, GivenUp, NumberReused}
use Rattle.fax_ask.specs.Answer.{Replied}
use Rattle.fax_ask.specs.declared.view.View.{View}
use Rattle.fax_ask.specs.Response.{Response, accepted_response, kept_response}
use Rattle.fax_core.specs.declared.ask.Ask.{Ask}
use Rattle.fax_core.specs.Ledger.{Ledger, with_reply, kept_for, entry}
use Rattle.fax_core.specs.Queue.{Queue, Entry}
use Rattle.fax_core.specs.Reply.{Reply, Step, Taken, Refused}
use Rattle.fax_core.specs.Run.{decided}
use Rattle.fax_core.specs.Settings.{Settings}
use Rattle.fax_run.proofs.LedgerLemmas.{gives, greater_twice}
use Rattle.fax_run.proofs.ReadingLemmas.{Says, Says_fault, Says_post, Says_view, says}
use Rattle.fax_run.specs.Arrival.{number_of}
use Rattle.fax_run.specs.Laws.{AcceptedOnce}
use Rattle.fax_run.specs.Reading.{Post, Reading, Faulty, Sees, Posts, IsReading, post_of}
use Rattle.fax_run.specs.Verdict.{Verdict, Told, Repeated, Accepted, asked_above, decided_new, denied, is_too_high, kept_with, new_asked, raised, raised_ask, stepped, taken_once, verdict, without_given}
use Rattle.fax_run.specs.declared.arrival.Arrival.{Arrival}

-- ---- what is accepted

-- it asked for a step under a number that is new, the step took it, and its reply is kept
pub record IsAcceptance (s : Settings) (m : Queue) (k : Ledger) (r : Reading) (after : Queue) (kept : Ledger) (reply : Response) : Type 0 where
  pub post : Post
  pub told : Reply
  pub posts : r ≡ Posts post
  pub above : nat_lt (k.floor post.client) post.number ≡ true
  pub unused : kept_for post.client post.number k.replies ≡ None
  pub taken : decided s m (raised (k.floor post.client) post).request ≡ Taken after told
  pub replied : reply ≡ accepted_response (Replied told)
  pub keeps : kept ≡ kept_with (raised (k.floor post.client) post) k reply

module _ (s : Settings) (m : Queue) (k : Ledger) (after : Queue) (kept : Ledger) (reply : Response) where
  abbrev this : Verdict
  this = Accepted after kept reply

  -- what is accepted isn't told
  is_told : (told : Response) → this ≡ Told told → ⊥
  is_told told e = cc

  -- nor is it a repeat, or a number used for something else
  is_repeated : (e : Entry) (b : Bool) → this ≡ cond b (Repeated (kept_response e.status e.body)) (denied NumberReused) → ⊥
  is_repeated e true h = cc
  is_repeated e false h = is_told _ h

  module _ (p : Post) (above : nat_lt (k.floor p.client) p.number ≡ true) where
    abbrev it : Post
    it = raised (k.floor p.client) p

    -- where nothing is kept for the number, a step that took it accepted it
    of_step : (taken : Step) → kept_for p.client p.number k.replies ≡ None → decided s m it.request ≡ taken → this ≡ stepped it k taken → IsAcceptance s m k (Posts p) after kept reply
    of_step (Taken q told) unused is e =
        let queue : after ≡ q = cc in
        let replies : reply ≡ accepted_response (Replied told) = cc in
        let entries : kept ≡ kept_with it k (accepted_response (Replied told)) = cc in
        record {
          post = p;
          told = told;
          posts = refl;
          above = above;
          unused = unused;
          taken = is ∙ ap (λ (x : Queue). Taken x told) (sym queue);
          replied = replies;
          keeps = entries ∙ ap (kept_with it k) (sym replies);
        }
    of_step (Refused refusal keys) unused is e = absurd (is_told _ e)

    -- the same where its floor isn't too high
    of_low : (b : Bool) → kept_for p.client p.number k.replies ≡ None → this ≡ (if b then denied FloorHigh else decided_new s m k it) → IsAcceptance s m k (Posts p) after kept reply
    of_low true unused h = absurd (is_told _ h)
    of_low false unused h = of_step (decided s m it.request) unused refl h

    -- the same whatever is kept for the number
    of_kept : (o : Option Entry) → kept_for p.client p.number k.replies ≡ o → this ≡ taken_once o p.said (new_asked s m k (k.floor p.client) p) → IsAcceptance s m k (Posts p) after kept reply
    of_kept None is h = of_low (is_too_high p.number p.request.ask) is h
    of_kept (Some e) is h = absurd (is_repeated e (bytes_eq e.said p.said) h)

  -- the same whatever the client's floor is
  of_floor : (p : Post) (b : Bool) → nat_lt (k.floor p.client) p.number ≡ b → this ≡ (if b then asked_above s m k (k.floor p.client) p else denied GivenUp) → IsAcceptance s m k (Posts p) after kept reply
  of_floor p true above h = of_kept p above (kept_for p.client p.number k.replies) refl h
  of_floor p false low h = absurd (is_told _ h)

  -- what is accepted of a reading has all of this
  pub acceptance : (r : Reading) → this ≡ verdict s m k r → IsAcceptance s m k r after kept reply
  acceptance (Faulty refusal) h = absurd (is_told _ h)
  acceptance (Sees moment what) h = absurd (is_told _ h)
  acceptance (Posts p) h = of_floor p (nat_lt (k.floor p.client) p.number) refl h

-- what is posted is of the arrival's client, under its number, in its bytes
pub record IsPosted (a : Arrival) (p : Post) : Type 0 where
  pub number : number_of a ≡ Ok p.number
  pub is : p ≡ post_of a p.number p.request.ask

module _ (a : Arrival) (p : Post) where
  -- a post has no fault
  is_faulty : (refusal : Refusal) → Posts p ≡ Faulty refusal → ⊥
  is_faulty refusal e = cc

  -- and asks for no view
  is_seen : (moment : ℕ) (what : View) → Posts p ≡ Sees moment what → ⊥
  is_seen moment what e = cc

  -- a post that is this one, under the arrival's number, is posted
  of_post : (n : ℕ) (ask : Ask) → number_of a ≡ Ok n → p ≡ post_of a n ask → IsPosted a p
  of_post n ask is same =
      let number : n ≡ p.number = ap (λ q. q.number) (sym same) in
      let asked : ask ≡ p.request.ask = ap (λ q. q.request.ask) (sym same) in
      record { number = is ∙ ap (λ (x : ℕ). Ok x) number; is = same ∙ ap (λ x. post_of a x ask) number ∙ ap (λ x. post_of a p.number x) asked }

  -- posts that read the same are the same
  same_post : (q : Post) → Posts p ≡ Posts q → p ≡ q
  same_post q e = cc

  -- what the arrival says is posted under its number
  of_said : Says a (Posts p) → IsPosted a p
  of_said (Says_fault refusal cause is) = absurd (is_faulty refusal is)
  of_said (Says_view what is) = absurd (is_seen a.moment what is)
  of_said (Says_post number route ask its asks is) = of_post number ask its (same_post (post_of a number ask) is)

  -- what the arrival reads as is posted under its number
  pub is_posted : IsReading a (Posts p) → IsPosted a p
  is_posted h = of_said (says a (Posts p) h)

-- what is given up is the same, whether the request is raised to the floor before or not
given_as : (client : List ℕ) (ask : Ask) (k : Ledger) → without_given client (raised_ask (k.floor client) ask) k ≡ without_given client ask k
given_as client ask k = elim (gives ask) [
  | inl it ↦ rw (it.1, greater_twice) refl
  | inr other ↦ rw (other.raised (k.floor client)) refl
]

pub accepted_once : AcceptedOnce
accepted_once s a m k after kept reply (r, is, v_is) =
    let it = acceptance s m k after kept reply r v_is in
    let p = it.post in
    let from = is_posted a p (subst (IsReading a) it.posts is) in
    let client : p.client ≡ a.client.now = ap (λ (q : Post). q.client) from.is in (
      p.number,
      p.request.ask,
      subst (IsReading a) (it.posts ∙ ap (λ (q : Post). Posts q) from.is) is,
      below (k.floor a.client.now) p.number (ap (λ c. nat_lt (k.floor c) p.number) (sym client) ∙ it.above),
      subst (λ c. kept_for c p.number k.replies ≡ None) client it.unused,
      it.keeps ∙ ap (λ (l : Ledger). with_reply (entry p.client p.number p.said reply.status reply.body) l) (given_as p.client p.request.ask k)
          ∙ ap (λ (q : Post). with_reply (entry q.client q.number q.said reply.status reply.body) (without_given q.client p.request.ask k)) from.is,
    )
  where
    below : (x y : ℕ) → nat_lt x y ≡ true → x < y
    below x y low = ltb-true x y low
