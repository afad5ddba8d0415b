-- What a look at the tables finds.
use Rattle.std.proofs.Common.{◌≡◌, ℕ, List, Option, Some, inl, inr, Ok, Err, codes, refl, subst, subst₂, sym}
use Rattle.std.specs.Prelude.{Result, IfOk, IsErr, MatchOption, OnOk}
use Rattle.sqlite.specs.State.{State, HasCleanDisk}
use Rattle.fax_ask.specs.Ask.{Asks, IsAsk}
use Rattle.fax_ask.specs.Request.{request_of}
use Rattle.fax_ask.specs.Response.{Response}
use Rattle.fax_ask.specs.declared.ask.Ask.TheVariants as asked
use Rattle.fax_ask.specs.declared.method.Method.{Method}
use Rattle.fax_ask.specs.declared.method.Method.TheVariants.{Post}
use Rattle.fax_ask.specs.declared.ask.Ask.{Ask}
use Rattle.fax_ask.specs.declared.request.Request.{Request}
use Rattle.fax_ask.specs.declared.request.Request.TheVariants.{Submit}
use Rattle.fax_ask.specs.declared.view.View.{View}
use Rattle.fax_decide.specs.Read.{IsSubmission}
use Rattle.fax_run.proofs.ReadingLemmas.{same_ask}
use Rattle.fax_core.specs.Ledger.{Ledger}
use Rattle.fax_core.specs.Queue.{Queue}
use Rattle.fax_core.specs.Settings.{Settings}
use Rattle.fax_core.specs.declared.ask.Ask.{Ask as Step}
use Rattle.fax_store.specs.Store.{Means, MeansNow, Serves, StaysOpen}
use Rattle.fax_run.specs.Reading.{post_of}
use Rattle.fax_run.specs.Verdict.{Verdict, IsVerdict, asked_for, new_asked}
use Rattle.fax_run.specs.declared.arrival.Arrival.{Arrival}
use Rattle.fax_once.specs.Handled.{Answers, Leaves, LeavesBy}
use Rattle.fax_once.specs.Looking.{IsFound, IsFoundFor, IsFresh, IsItsOwn, IsTold, SeesIn, Submits}
use Rattle.fax_once.specs.Sender.{AsksStep}
use Rattle.fax_once.specs.declared.looking.Looked.{Looked}
use Rattle.fax_once.specs.declared.looking.Looked.TheVariants.{Known, New}
use Rattle.fax_once.specs.declared.sender.Sender.{Sender}

-- an error holds nothing
pub none_found : {A E : Type 0} (result : Result A E) (P : A → Type 0) → IsErr result → IfOk result P
none_found (Ok x) P is = absurd (let no = is in cc)
none_found (Err e) P is = tt

-- a reply that is told leaves what the store means
pub told_leaves : (m : Queue) (k : Ledger) (reply : Response) (s : State) (v : Verdict) → IsTold reply s v → Means s m k → Leaves m k reply s v
told_leaves m k reply s v (inl is) means = subst (Leaves m k reply s) (sym is) (refl, means)
told_leaves m k reply s v (inr (is, serves)) means = subst (Leaves m k reply s) (sym is) (refl, serves, means serves)

-- what a verdict leaves answers its arrival
pub verdict_answers : {E : Type 0} (result : Result Response E) (s : Settings) (a : Arrival) (m : Queue) (k : Ledger) (v : Verdict) (store : State) → IsVerdict s a m k v
    → LeavesBy m k result store v → Answers s a m k result store
verdict_answers (Ok reply) s a m k v store is leaves = (v, is, leaves)
verdict_answers (Err e) s a m k v store is leaves = leaves

-- ---- where a job is submitted

-- a message to /jobs posts one
posts_job : request_of Post (codes "/jobs") ≡ Some Submit
unfolding request_of
posts_job = refl

-- so that is what it asks for
asks_job : (a : Arrival) (ask : Ask) → IsAsk a.method a.path.now a.body.now ask → Submits a → Asks Submit a.body.now ask
asks_job a ask is (post, path) =
    subst (λ (o : Option Request). MatchOption o ⊥ (λ r. Asks r a.body.now ask)) posts_job
    (subst₂ (λ (method : Method) (at : List ℕ). IsAsk method at a.body.now ask) post path is)

-- it is a submission
pub submits_job : (a : Arrival) (ask : Step) → IsAsk a.method a.path.now a.body.now (asked.Step ask) → Submits a → IsSubmission ask
submits_job a ask is submits = let it = asks_job a (asked.Step ask) is submits in subst IsSubmission (sym (same_ask it.2)) tt

-- and no view, so what a view shows is the queue that the tables mean
pub view_means : (a : Arrival) (view : View) (tables m : Queue) (k : Ledger) (s : State) → IsAsk a.method a.path.now a.body.now (asked.View view) → SeesIn a tables m → MeansNow s tables k → MeansNow s m k
view_means a view tables m k s is (inl same) means = subst (λ (q : Queue). MeansNow s q k) same means
view_means a view tables m k s is (inr submits) means = absurd (let no = (asks_job a (asked.View view) is submits).2 in cc)

-- what leaves a store serving as long as the disk is clean leaves one serving that did
pub stays_open_by : {A E : Type 0} (old new : State) (result : Result A E) → OnOk result (HasCleanDisk new → Serves new) → OnOk result (StaysOpen old new)
stays_open_by old new (Ok x) opens = λ clean serves. opens clean
stays_open_by old new (Err e) opens = tt

module _ (a : Arrival) (sender : Sender) (ask : Step) (s : State) where
  -- what is new of a sender's step is a step that it asks for
  pub fresh_by : {E : Type 0} (result : Result Looked E) → AsksStep a sender ask → OnOk result (HasCleanDisk s → Serves s) → (Submits a → IsSubmission ask)
      → IfOk result (IsItsOwn sender ask) → IfOk result (IsFresh a s)
  fresh_by (Ok (Known reply)) asks opens submits own = tt
  fresh_by (Ok (New new)) asks opens submits (is, what, low) = (subst₂ (AsksStep a) (sym is) (sym what) asks, low, opens, λ it. subst IsSubmission (sym what) (submits it))
  fresh_by (Err e) asks opens submits own = tt

  -- what is found for it is the arrival's verdict, or leads to it
  pub found_by : {E : Type 0} (result : Result Looked E) (settings : Settings) (m : Queue) (k : Ledger) → IsVerdict settings a m k (asked_for settings m k (post_of a sender.number ask))
      → IfOk result (IsItsOwn sender ask) → IfOk result (IsFoundFor settings a sender ask m k s) → IfOk result (IsFound settings a m k s)
  found_by (Ok (Known reply)) settings m k is own told = (asked_for settings m k (post_of a sender.number ask), is, told)
  found_by (Ok (New new)) settings m k is (its, what, low) (same, unused) = (
    subst₂ (λ (from : Sender) (step : Step). IsVerdict settings a m k (new_asked settings m k new.floor (post_of a from.number step))) (sym its) (sym what)
        (subst (IsVerdict settings a m k) (sym same) is),
    unused,
  )
  found_by (Err e) settings m k is own found = tt
