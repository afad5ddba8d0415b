-- What comes of an arrival.
use Rattle.std.proofs.Common.{◌≡◌, ◌⊎◌, ◌<◌, ◌≤◌, inl, inr, ℕ, Bool, true, false, nat_lt, List, Option, Some, None, refl, sym, ap, subst, ◌∙◌, arith, if◌then◌else◌, not, [], ◌∷◌, filter}
use Rattle.std.proofs.lemmas.Bool.{cases_Bool}
use Rattle.std.proofs.lemmas.Bool.Decides.{nat_tests}
use Rattle.fax_decide.specs.Read.{IsRead, IsSubmission}
use Rattle.std.specs.Str.{bytes_eq}
use Rattle.sqlite.specs.State.{State, HasCleanDisk}
use Rattle.fax_job.specs.declared.refusal.Refusal.TheVariants.{FloorHigh, GivenUp, NumberReused}
use Rattle.fax_ask.specs.Ask.{IsLawfulStep}
use Rattle.fax_ask.specs.Response.{Response, kept_response, refused_response}
use Rattle.fax_core.specs.Ask.{IsLawfulAsk}
use Rattle.fax_core.specs.declared.ask.Ask.{Ask}
use Rattle.fax_core.specs.declared.ask.Ask.TheVariants as machine
use Rattle.fax_core.specs.declared.ask.Ask.TheVariants.{GiveUp}
use Rattle.fax_core.specs.Clock.{decided_at}
use Rattle.fax_core.specs.Ageing.{aged}
use Rattle.fax_core.specs.Machine.{act, stamped, step}
use Rattle.fax_core.specs.Ledger.{Ledger, greater, kept_for, is_through}
use Rattle.fax_core.specs.Queue.{Queue, Entry}
use Rattle.fax_core.specs.Reply.{NoKeys, Taken}
use Rattle.fax_core.specs.Settings.{Settings}
use Rattle.fax_tables.specs.Kept.{Tells}
use Rattle.fax_tables.specs.Tables.{IsAtRest}
use Rattle.fax_store.specs.Store.{Means, Serves}
use Rattle.fax_tables.specs.declared.replies.Kept.{Kept}
use Rattle.fax_once.proofs.GivenLemmas.{given_as_told}
use Rattle.fax_once.specs.Accepting.{kept_after}
use Rattle.fax_once.specs.Sender.{IsSender}
use Rattle.fax_run.specs.Arrival.{said_of}
use Rattle.fax_decide.specs.Decision.{IsTaken, IsRefused as IsRefusedBy}
use Rattle.fax_decide.specs.Effect.{accepted, given_in}
use Rattle.fax_run.specs.Reading.{post_of}
use Rattle.fax_run.specs.Verdict.{Verdict, Told, Repeated, Accepted, asked_above, asked_for, decided_new, denied, given_by, is_too_high, new_asked, raised_ask, repeated, stepped, taken_once, without}
use Rattle.fax_once.specs.Handled.{Handles, Leaves}
use Rattle.fax_once.specs.Looking.{IsTold}
use Rattle.fax_run.specs.declared.arrival.Arrival.{Arrival}
use Rattle.fax_decide.specs.declared.effect.Effect.{Effect}
use Rattle.fax_once.specs.declared.sender.Sender.{Sender}
use Rattle.sqlite_rules.specs.Lists.{Has}
use Rattle.fax_store.specs.Kept.{IsUnkept}

-- a number is above another, or through it
is_below : (a b : ℕ) → a < b → nat_lt a b ≡ true
is_below a b low = grind (arith, nat_tests)

-- a number through another isn't above it
not_above : (a b : ℕ) → b ≤ a → nat_lt a b ≡ false
not_above a b low = grind (arith, nat_tests)

-- ---- a store that gives out

-- the store serves and has what it means, or it is shut
pub gives_out : (s : State) (m : Queue) (k : Ledger) → HasCleanDisk s → Means s m k → (Serves s × IsAtRest s m k) ⊎ (s.is_open ≡ false)
gives_out s m k clean means = elim (cases_Bool s.is_open) [
  | inl on ↦ (let serves : Serves s = record { clean = clean; is_open = on } in inl (serves, means serves))
  | inr shut ↦ inr shut
]

-- either way it means that as long as it serves
pub still_means : (s : State) (m : Queue) (k : Ledger) → (Serves s × IsAtRest s m k) ⊎ (s.is_open ≡ false) → Means s m k
still_means s m k (inl (serves, rests)) _ = rests
still_means s m k (inr shut) serves = absurd (let no = sym serves.is_open ∙ shut in cc)

-- no work is under way in a store that serves
pub idle_by : (s : Settings) (a : Arrival) (m : Queue) (k : Ledger) (reply : Response) (store : State) → Handles s a m k reply store → Serves store → store.in_transaction ≡ false
idle_by s a m k reply store (inl (v, is, leaves)) serves = by v leaves
  where
    by : (v : Verdict) → Leaves m k reply store v → store.in_transaction ≡ false
    by (Told told) left = (left.1 serves).autocommit
    by (Repeated told) left = left.2.autocommit
    by (Accepted after kept told) left = left.2.autocommit
idle_by s a m k reply store (inr gone) serves = (still_means store m k gone.1 serves).autocommit

-- ---- repeats

-- what is kept tells its entry
repeats_as : (said : List ℕ) (kept : Kept) (e : Entry) (reply : Response) (store : State) (b : Bool) → Tells kept e → Serves store
    → bytes_eq kept.said.items said ≡ b → reply ≡ (if b then kept_response kept.status kept.body.items else refused_response NumberReused NoKeys) → IsTold reply store (repeated said e)
repeats_as said kept e reply store true tells serves same is =
    let says : bytes_eq e.said said ≡ true = ap (λ x. bytes_eq x said) (sym tells.said) ∙ same in
    let told : reply ≡ kept_response e.status e.body = is ∙ ap (λ (x : ℕ). kept_response x kept.body.items) tells.status ∙ ap (kept_response e.status) tells.body in
    rw says (inr (ap Repeated (sym told), serves))
repeats_as said kept e reply store false tells serves same is =
    let says : bytes_eq e.said said ≡ false = ap (λ x. bytes_eq x said) (sym tells.said) ∙ same in
    rw says (inl (ap (λ (r : Response). Told r) (sym is)))

-- a number above the floor with a kept reply gets it where the same is said, and is refused else
pub repeated_told : (s : Settings) (a : Arrival) (m : Queue) (k : Ledger) (floor : ℕ) (sender : Sender) (ask : Ask) (kept : Kept) (e : Entry) (reply : Response) (store : State)
    → IsSender a sender → kept_for sender.client.now sender.number k.replies ≡ Some e → Tells kept e → Serves store
    → reply ≡ (if bytes_eq kept.said.items (said_of a) then kept_response kept.status kept.body.items else refused_response NumberReused NoKeys)
    → IsTold reply store (asked_above s m k floor (post_of a sender.number ask))
repeated_told s a m k floor sender ask kept e reply store from found tells serves is =
    let here : kept_for a.client.now sender.number k.replies ≡ Some e = ap (λ client. kept_for client sender.number k.replies) (sym from.client) ∙ found in
    subst (λ o. IsTold reply store (taken_once o (said_of a) (new_asked s m k floor (post_of a sender.number ask)))) (sym here)
    (repeats_as (said_of a) kept e reply store (bytes_eq kept.said.items (said_of a)) tells serves refl is)

-- one without a kept reply is new
pub unused_is : (s : Settings) (a : Arrival) (m : Queue) (k : Ledger) (floor : ℕ) (sender : Sender) (ask : Ask) → IsSender a sender → kept_for sender.client.now sender.number k.replies ≡ None
    → new_asked s m k floor (post_of a sender.number ask) ≡ asked_above s m k floor (post_of a sender.number ask)
unused_is s a m k floor sender ask from is =
    let here : kept_for a.client.now sender.number k.replies ≡ None = ap (λ client. kept_for client sender.number k.replies) (sym from.client) ∙ is in
    ap (λ o. taken_once o (said_of a) (new_asked s m k floor (post_of a sender.number ask))) (sym here)

-- ---- floors

-- a number above the floor is asked for above it
pub above_is : (s : Settings) (a : Arrival) (m : Queue) (k : Ledger) (floor : ℕ) (sender : Sender) (ask : Ask) → IsSender a sender → floor ≡ k.floor sender.client.now → floor < sender.number
    → asked_above s m k floor (post_of a sender.number ask) ≡ asked_for s m k (post_of a sender.number ask)
above_is s a m k floor sender ask from is above =
    let here : floor ≡ k.floor a.client.now = is ∙ ap k.floor from.client in
    let high : nat_lt (k.floor a.client.now) sender.number ≡ true = ap (λ f. nat_lt f sender.number) (sym here) ∙ is_below floor sender.number above in
    ap (λ f. asked_above s m k f (post_of a sender.number ask)) here
    ∙ ap (λ b. if b then asked_above s m k (k.floor a.client.now) (post_of a sender.number ask) else denied GivenUp) (sym high)

-- one through it is refused
pub given_up_is : (s : Settings) (a : Arrival) (m : Queue) (k : Ledger) (floor : ℕ) (sender : Sender) (ask : Ask) → IsSender a sender → floor ≡ k.floor sender.client.now → sender.number ≤ floor
    → denied GivenUp ≡ asked_for s m k (post_of a sender.number ask)
given_up_is s a m k floor sender ask from is through =
    let here : floor ≡ k.floor a.client.now = is ∙ ap k.floor from.client in
    let low : nat_lt (k.floor a.client.now) sender.number ≡ false = ap (λ f. nat_lt f sender.number) (sym here) ∙ not_above floor sender.number through in
    ap (λ b. if b then asked_above s m k (k.floor a.client.now) (post_of a sender.number ask) else denied GivenUp) (sym low)

-- what is raised doesn't ask for too high a floor
raised_by : (floor number : ℕ) (ask raised : Ask) → ◌≡◌ {A = Option Ask} (Some raised) (if is_too_high number ask then None else Some (raised_ask floor ask))
    → (is_too_high number ask ≡ false) × (raised ≡ raised_ask floor ask)
raised_by floor number ask raised is = by (is_too_high number ask) refl is
  where
    by : (b : Bool) → is_too_high number ask ≡ b → ◌≡◌ {A = Option Ask} (Some raised) (if b then None else Some (raised_ask floor ask))
        → (is_too_high number ask ≡ false) × (raised ≡ raised_ask floor ask)
    by true high e = absurd cc
    by false low e = (low, cc)

-- it is decided as it is raised
pub raised_is : (s : Settings) (m : Queue) (k : Ledger) (floor number : ℕ) (a : Arrival) (ask raised : Ask) → ◌≡◌ {A = Option Ask} (Some raised) (if is_too_high number ask then None else Some (raised_ask floor ask))
    → decided_new s m k (post_of a number raised) ≡ new_asked s m k floor (post_of a number ask)
raised_is s m k floor number a ask raised is = let it = raised_by floor number ask raised is in rw (it.0, it.1) refl

-- what gives up its own reply is refused
pub too_high_is : (s : Settings) (m : Queue) (k : Ledger) (floor number : ℕ) (a : Arrival) (ask : Ask) → ◌≡◌ {A = Option Ask} None (if is_too_high number ask then None else Some (raised_ask floor ask))
    → denied FloorHigh ≡ new_asked s m k floor (post_of a number ask)
too_high_is s m k floor number a ask is = elim (cases_Bool (is_too_high number ask)) [
  | inl high ↦ rw high refl
  | inr low ↦ absurd (let no = rw low at is in cc)
]

-- what holds of a request, and of whatever gives up replies, holds of the request as it is raised
kept_raised : (P : Ask → Type 0) (floor : ℕ) (ask : Ask) → ((upto : ℕ) → P (GiveUp upto)) → P ask → P (raised_ask floor ask)
kept_raised P floor (GiveUp upto) any is = any (greater floor upto)
kept_raised P floor other any is = is

-- a submission stays as it is
pub raised_submits : (floor number : ℕ) (ask raised : Ask) → ◌≡◌ {A = Option Ask} (Some raised) (if is_too_high number ask then None else Some (raised_ask floor ask)) → IsSubmission ask → IsSubmission raised
raised_submits floor number ask raised is submits = rw (raised_by floor number ask raised is).1 (by ask submits)
  where
    by : (a : Ask) → IsSubmission a → IsSubmission (raised_ask floor a)
    by (machine.Submission order) it = tt
    by other it = absurd it

-- what is raised is as lawful
pub raised_lawful : (floor number : ℕ) (ask raised : Ask) → ◌≡◌ {A = Option Ask} (Some raised) (if is_too_high number ask then None else Some (raised_ask floor ask)) → IsLawfulStep ask → IsLawfulStep raised
raised_lawful floor number ask raised is lawful = rw (raised_by floor number ask raised is).1 (kept_raised IsLawfulStep floor ask (λ upto. _) lawful)

-- and was read as well
pub raised_read : (floor number : ℕ) (ask raised : Ask) → ◌≡◌ {A = Option Ask} (Some raised) (if is_too_high number ask then None else Some (raised_ask floor ask)) → IsRead ask → IsRead raised
raised_read floor number ask raised is read = rw (raised_by floor number ask raised is).1 (kept_raised IsRead floor ask (λ upto. tt) read)

-- ---- what is asked for

-- what is decided at the later of moment and clock is what it comes to
pub decided_is : (s : Settings) (a : Arrival) (m : Queue) (k : Ledger) (number t : ℕ) (ask : Ask) → t ≡ decided_at m.clock a.moment
    → stepped (post_of a number ask) k (step s m t ask) ≡ decided_new s m k (post_of a number ask)
decided_is s a m k number t ask now = ap (λ (u : ℕ). stepped (post_of a number ask) k (step s m u ask)) now

-- what is refused is told
pub refused_is : (s : Settings) (a : Arrival) (m : Queue) (k : Ledger) (number t : ℕ) (ask : Ask) (reply : Response) → t ≡ decided_at m.clock a.moment
    → IsRefusedBy (act s (aged t m) t ask) reply → Told reply ≡ decided_new s m k (post_of a number ask)
refused_is s a m k number t ask reply now by =
    ap (λ (r : Response). Told r) by.replied ∙ ap (stepped (post_of a number ask) k) (sym (ap (stamped t (aged t m)) by.refused)) ∙ decided_is s a m k number t ask now

-- what is taken is accepted
pub accepted_is : (s : Settings) (a : Arrival) (m : Queue) (k : Ledger) (sender : Sender) (t : ℕ) (ask : Ask) (effect : Effect) (reply : Response)
    → IsSender a sender → t ≡ decided_at m.clock a.moment → IsTaken (act s (aged t m) t ask) m t effect reply
    → Accepted (accepted t effect m) (kept_after sender (said_of a) reply (given_in effect) k) reply ≡ decided_new s m k (post_of a sender.number ask)
accepted_is s a m k sender t ask effect reply from now by =
    let gives_so : given_in effect ≡ given_by ask = by.given ∙ given_as_told s m t ask _ by.told by.taken in
    let is : Accepted (accepted t effect m) (kept_after sender (said_of a) reply (given_in effect) k) reply ≡ stepped (post_of a sender.number ask) k (Taken (accepted t effect m) by.told) =
    rw (from.client, gives_so, by.replied) refl in
    is ∙ ap (stepped (post_of a sender.number ask) k) (sym by.taken) ∙ decided_is s a m k sender.number t ask now

-- what is lawful to ask
pub lawful_ask : (ask : Ask) → IsLawfulStep ask → IsLawfulAsk ask
lawful_ask (machine.Submission order) is = is
lawful_ask (machine.Bring i) is = is
lawful_ask other is = _

-- ---- what has no reply yet

-- what is among part of the entries is among them
has_more : (keep : Entry → Bool) (rs : List Entry) (e : Entry) → Has (filter keep rs) e → Has rs e
has_more keep [] e has = absurd has
has_more keep (x ∷ rs) e has = by (keep x) refl (has_more keep rs e)
  where
    by : (b : Bool) → keep x ≡ b → (Has (filter keep rs) e → Has rs e) → Has (x ∷ rs) e
    by true on rest = elim (rw on at has) [ inl here ↦ inl here | inr there ↦ inr (rest there) ]
    by false off rest = inr (rest (rw off at has))

-- a number that has no entry has none then
pub unkept_still : (c : List ℕ) (n : ℕ) (client : List ℕ) (given : Option ℕ) (k : Ledger) → IsUnkept c n k.replies → IsUnkept c n (without client given k).replies
unkept_still c n client None k unkept e has = unkept e has
unkept_still c n client (Some upto) k unkept e has = unkept e (has_more (λ x. not (is_through client (greater (k.floor client) upto) x)) k.replies e has)
