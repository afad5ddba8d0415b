-- Why a request gets no answer.
use Rattle.std.proofs.Common.{◌≡◌, inl, inr, ℕ, ◌==◌, ◌&&◌, Bool, true, false, List, [], ◌∷◌, Option, Some, None, Ok, Err, refl, sym, ap, subst, ◌∙◌, if◌then◌else◌}
use Rattle.std.specs.Prelude.{MatchOption, MatchResult, Result, IsErrAnd}
use Rattle.std.specs.Str.{bytes_eq}
use Rattle.std.proofs.lemmas.Bool.{eq-eqb}
use Rattle.std.proofs.lemmas.Slice.Eq.{bytes_eq-Decides}
use Rattle.sqlite_rules.specs.Lists.{Has}
use Rattle.fax_value.specs.Name.{IsName, is_name}
use Rattle.fax_value.specs.Number.{request_number_of}
use Rattle.fax_job.specs.declared.refusal.Refusal.TheVariants.{BadClient}
use Rattle.fax_ask.specs.Ask.{Asks, AsksOfJob, IsAsk}
use Rattle.fax_ask.specs.Request.{request_of}
use Rattle.fax_ask.specs.Response.{Response, reply_status}
use Rattle.fax_ask.specs.declared.ask.Ask.TheVariants.{Step}
use Rattle.fax_ask.specs.declared.method.Method.{Method}
use Rattle.fax_ask.specs.declared.request.Request.{Request as Route}
use Rattle.fax_ask.specs.declared.request.Request.TheVariants.{Show, Submit, Import, OnJob, Mark, Next, OnGrant, Floor, Purge}
use Rattle.fax_ask.specs.declared.request.Action.{Action}
use Rattle.fax_ask.specs.declared.request.Action.TheVariants.{Suspend, Resume, Kill, Alter}
use Rattle.fax_core.specs.Ask.{IsLawfulAsk}
use Rattle.fax_core.specs.Ledger.{kept_for, IsKeptStatus}
use Rattle.fax_core.specs.Ageing.{aged}
use Rattle.fax_core.specs.Machine.{act}
use Rattle.fax_core.specs.Queue.{Queue, Entry}
use Rattle.fax_core.specs.Reply.{Brought, Reply, Submitted}
use Rattle.fax_core.specs.Settings.{Settings}
use Rattle.fax_core.specs.Sound.{Sound}
use Rattle.fax_core.specs.declared.ask.Ask.{Ask}
use Rattle.fax_core.specs.declared.ask.JobAsk.{JobAsk}
use Rattle.fax_core.proofs.StepLemmas.{step_sound}
use Rattle.fax_store.specs.Job.{with_expired}
use Rattle.fax_store.specs.Kept.{IsOf, IsUnkept}
use Rattle.fax_tables.specs.declared.fault.StoreFault.{StoreFault}
use Rattle.fax_tables.specs.declared.fault.StoreFault.TheVariants.{Unavailable}
use Rattle.fax_decide.specs.Decision.{IsTaken}
use Rattle.fax_decide.specs.Effect.{IsWritable}
use Rattle.fax_decide.specs.Read.{IsRead, IsReadOn}
use Rattle.fax_decide.specs.declared.effect.Effect.{Effect}
use Rattle.fax_decide.proofs.FreeLemmas.{keys_free}
use Rattle.fax_decide.specs.Fault.{OnlyNoAnswer, fault_of}
use Rattle.fax_decide.specs.declared.fault.Fault.{Fault}
use Rattle.fax_decide.specs.declared.fault.Fault.TheVariants.{NoAnswer}
use Rattle.fax_once.specs.Sender.{IsSender}
use Rattle.fax_run.specs.Arrival.{digits_of}
use Rattle.fax_run.specs.declared.arrival.Arrival.{Arrival}
use Rattle.fax_once.specs.declared.sender.Sender.{Sender}
use Rattle.fax_run.proofs.ReadingLemmas.{same_ask}

-- ---- what was asked was read

-- what a client asks of a job
read_of : (action : Action) (body : List ℕ) (ask : JobAsk) → AsksOfJob action body ask → IsReadOn ask
read_of Suspend body ask h = subst IsReadOn (sym h) tt
read_of Resume body ask h = subst IsReadOn (sym h) tt
read_of Kill body ask h = subst IsReadOn (sym h) tt
read_of Alter body ask h = subst IsReadOn (sym h.2) (h.1.lines, h.1.stated)

-- what a body asks for
asked_read : (route : Route) (body : List ℕ) (ask : Ask) → Asks route body (Step ask) → IsRead ask
asked_read (Show job) body ask h = absurd cc
asked_read Submit body ask h = subst IsRead (sym (same_ask h.2)) (h.1.lines, h.1.stated)
asked_read Import body ask h = subst IsRead (sym (same_ask h.2)) (h.1.lines, h.1.stated)
asked_read (OnJob job action) body ask h = subst IsRead (sym (same_ask h.2)) (read_of action body h.0 h.1)
asked_read (Mark modem down) body ask h = subst IsRead (sym (same_ask h)) tt
asked_read (Next modem) body ask h = subst IsRead (sym (same_ask h)) tt
asked_read (OnGrant grant kind) body ask h = subst IsRead (sym (same_ask h.2)) tt
asked_read Floor body ask h = subst IsRead (sym (same_ask h.2)) tt
asked_read Purge body ask h = subst IsRead (sym (same_ask h.2)) tt

-- so what a method, a path and a body ask for was read
pub ask_read : (method : Method) (path body : List ℕ) (ask : Ask) → IsAsk method path body (Step ask) → IsRead ask
ask_read method path body ask is = by (request_of method path) is
  where
    by : (o : Option Route) → MatchOption o ⊥ (λ route. Asks route body (Step ask)) → IsRead ask
    by None h = absurd h
    by (Some route) h = asked_read route body ask h

-- ---- who asked

-- the sender of an arrival has a name
pub sender_named : (a : Arrival) (sender : Sender) → IsSender a sender → IsName sender.client.now
sender_named a sender from = subst IsName (sym from.client) (by (is_name a.client.now) refl from.number)
  where
    by : (b : Bool) → is_name a.client.now ≡ b → (if b then digits_of (request_number_of a.number.now) else Err BadClient) ≡ Ok sender.number → is_name a.client.now ≡ true
    by true is h = is
    by false is h = absurd cc

-- ---- what is kept

-- where no reply is found for a number, none is kept
pub unkept_by : (client : List ℕ) (n : ℕ) (k : List Entry) → kept_for client n k ≡ None → IsUnkept client n k
unkept_by client n [] is e has of = absurd has
unkept_by client n (x ∷ k) is e has of = by (bytes_eq x.client client && (x.number == n)) refl (λ none there. unkept_by client n k none e there of) has
  where
    by : (b : Bool) → (bytes_eq x.client client && (x.number == n)) ≡ b → (kept_for client n k ≡ None → Has k e → ⊥) → Has (x ∷ k) e → ⊥
    by true on rest there = let found : kept_for client n (x ∷ k) ≡ Some x = rw on refl in cc
    by false off rest (inl here) =
        let it : IsOf client n x = subst (IsOf client n) here of in
        let on : (bytes_eq x.client client && (x.number == n)) ≡ true = rw ((bytes_eq-Decides x.client client).1 it.client_is, eq-eqb x.number n it.number_is) refl in
        cc
    by false off rest (inr more) = rest (rw off at is) more

-- ---- what is accepted

-- a reply of the machine has a status that is kept
kept_status : (told : Reply) → IsKeptStatus (reply_status told)
kept_status (Submitted job) = inr refl
kept_status (Brought job state) = inr refl
kept_status other = inl refl

-- so the reply to what is taken may be kept
pub taken_status : (s : Settings) (m : Queue) (t : ℕ) (ask : Ask) (effect : Effect) (reply : Response) → IsTaken (act s (aged t m) t ask) m t effect reply → IsKeptStatus reply.status
taken_status s m t ask effect reply by = subst (λ (r : Response). IsKeptStatus r.status) (sym by.replied) (kept_status by.told)

-- and what it changes may be written
pub taken_writable : (s : Settings) (m : Queue) (t : ℕ) (ask : Ask) (effect : Effect) (reply : Response) → Sound m → IsLawfulAsk ask → IsTaken (act s (aged t m) t ask) m t effect reply
    → IsWritable effect (with_expired t m)
taken_writable s m t ask effect reply sound lawful by =
    record { suits = by.suits; free = keys_free t effect m sound (step_sound s m _ t ask by.told sound lawful by.taken) by.within; within = by.within }

-- ---- no answer

-- where the store gave out, there is none for want of it
pub gave_out : {A : Type 0} (r : Result A Fault) (fault : StoreFault) → IsErrAnd r (λ e. e ≡ fault_of fault) → fault ≡ Unavailable → OnlyNoAnswer r
gave_out (Ok x) fault is why = tt
gave_out (Err e) fault is why = is ∙ ap fault_of why

-- with what is left then
pub gave_out_none : {A : Type 0} (r : Result A Fault) (fault : StoreFault) → IsErrAnd r (λ e. e ≡ fault_of fault) → fault ≡ Unavailable → {U : Type 0} (P : A → Type 0) → U
    → MatchResult r P (λ e. (e ≡ NoAnswer) × U)
gave_out_none (Ok x) fault is why P left = absurd is
gave_out_none (Err e) fault is why P left = (is ∙ ap fault_of why, left)
