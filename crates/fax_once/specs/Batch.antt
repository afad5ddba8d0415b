-- A batch: arrivals that are answered one after the other within one work.
use Rattle.std.specs.Prelude.{◌≡◌, ◌⊎◌, ⊤, Bool, true, false, List, [], length, map, Vec, Ok, Err, Result, IfOk, MatchResult, OnOk}
use Rattle.std.specs.declared.alloc.Global.{Global}
use Rattle.sqlite.specs.State.{State, HasCleanDisk}
use Rattle.sqlite_trees.specs.Tree.{Trees}
use Rattle.sqlite_trees.specs.declared.store.Store.{Ghosts}
use Rattle.fax_job.specs.declared.refusal.Refusal.TheVariants.{Unavailable}
use Rattle.fax_ask.specs.Response.{Response, refused_response}
use Rattle.fax_core.specs.Ledger.{Ledger}
use Rattle.fax_core.specs.Queue.{Queue}
use Rattle.fax_core.specs.Reply.{NoKeys}
use Rattle.fax_core.specs.Settings.{Settings}
use Rattle.fax_core.specs.Sound.{Sound}
use Rattle.fax_decide.specs.Fault.{OrNoAnswer}
use Rattle.fax_tables.specs.declared.fault.StoreFault.{StoreFault}
use Rattle.fax_tables.specs.declared.fault.StoreFault.TheVariants.{Unavailable as GaveOut}
use Rattle.fax_decide.specs.declared.fault.Fault.{Fault}
use Rattle.fax_decide.specs.declared.fault.Fault.TheVariants.{NoAnswer}
use Rattle.fax_store.specs.Calls.{Follows, shown, within}
use Rattle.fax_store.specs.Store.{CommitsNothing, MayMake, Means, RowsFound, Serves}
use Rattle.fax_store.specs.declared.store.Store.{Store}
use Rattle.fax_store.specs.Work.{IsActive, IsUnderWay, Works}
use Rattle.fax_store.specs.declared.work.Work.{Work}
use Rattle.fax_run.specs.Laws.{AreAccepted}
use Rattle.fax_run.specs.Reading.{Reading}
use Rattle.fax_run.specs.Run.{IsRun, Start, end_of, taken}
use Rattle.fax_run.specs.Sessions.{AreHeard}
use Rattle.fax_run.specs.Verdict.{Verdict, IsVerdict, Told, Repeated}
use Rattle.fax_run.specs.Verdict as verdict
use Rattle.fax_run.specs.declared.arrival.Arrival.{Arrival}
use Rattle.fax_once.specs.Acceptance.{left_by}
use Rattle.fax_once.specs.Known.{HasBegun, Knows, LeadsTo}
use Rattle.fax_once.specs.Looking.{IsFound, IsFresh, SeesIn}
use Rattle.fax_once.specs.declared.known.Known.{Known}
use Rattle.fax_once.specs.declared.acceptance.Answered.{Answered}
use Rattle.fax_once.specs.declared.acceptance.Answered.TheVariants.{Unchanged, Accepted}
use Rattle.fax_once.specs.Stop.{StopsIn}
use Rattle.fax_once.specs.declared.batch.Batch.{Batch}
use Rattle.fax_once.specs.declared.batch.Batch.TheVariants.{Done, Failed}
use Rattle.fax_once.specs.declared.looking.Looked.{Looked}

-- the reply, and whether it is to a request that is accepted
abbrev pub reply_in : Answered → Response
reply_in (Unchanged reply) = reply
reply_in (Accepted reply) = reply

abbrev pub is_accepted : Answered → Bool
is_accepted (Unchanged reply) = false
is_accepted (Accepted reply) = true

-- The verdict accepts with this reply; or it tells it, or finds it kept, and nothing changes.
abbrev pub IsGivenBy : Answered → Verdict → Type 0
IsGivenBy (Unchanged reply) v = (v ≡ Told reply) ⊎ (v ≡ Repeated reply)
IsGivenBy (Accepted reply) v = (after : Queue) × (kept : Ledger) × (v ≡ verdict.Accepted after kept reply)

-- What a batch has done within its work: each arrival is heard, and answered by what was heard before. Where nothing was accepted, that leads nowhere.
pub record RunsWithin (s : Settings) (start : Start) (arrivals : List Arrival) (replies : List Response) (has_accepted : Bool) : Type 0 where
  pub heard : List Reading
  pub all : AreHeard arrivals [] heard
  pub answered : IsRun s start [] arrivals replies heard
  pub accepted : AreAccepted start (taken s start heard)
  pub still : has_accepted ≡ false → end_of s start heard ≡ start

-- the work means where it leads
abbrev pub MeansEnd : Settings → Start → List Reading → State → Bool → Type 0
MeansEnd s start heard store failed = IsUnderWay store failed start.queue start.kept (end_of s start heard).queue (end_of s start heard).kept

-- each arrival is answered 503
abbrev pub all_refused : List Arrival → List Response
all_refused arrivals = map (λ (a : Arrival). refused_response Unavailable NoKeys) arrivals

-- the replies to a batch: where there are none, each arrival is to be answered 503
abbrev pub replies_to : {E : Type 0} → List Arrival → Result (Vec Response Global) E → List Response
replies_to arrivals (Ok replies) = replies.items
replies_to arrivals (Err fault) = all_refused arrivals

-- the rows of where a batch leads that is heard from there on, all of it
abbrev pub AreMadeByAll : Settings → Start → List Arrival → Trees → Type 0
AreMadeByAll s start arrivals found =
    (all : List Reading) × AreHeard arrivals [] all × RowsFound found (end_of s start all).queue (end_of s start all).kept

module _ {S : Type 0} (g : Ghosts S) (old new : Work S) where
  -- where there is an answer, the store of a work that is under way serves as long as the disk is clean
  abbrev pub OpensWithin : {A : Type 0} → Result A Fault → Type 0
  OpensWithin result = OnOk result (IsActive (within g old) old.failed → HasCleanDisk (within g new) → Serves (within g new))

  -- The clock and the next numbers are written where that was still to be done, unless the arrival submits a job.
  pub record SettlesFor (result : Result Known StoreFault) (a : Arrival) (known : Known) : Type 0 where
    pub leaves : Follows g old new
    pub goes_on : OnOk result (old.failed ≡ false → new.failed ≡ false)
    pub settled : (m₀ tables m : Queue) (k₀ k : Ledger) → Works (within g old) old.failed m₀ k₀ tables k → Knows known tables m
        → MatchResult result (λ known₂. (now : Queue) × Works (within g new) new.failed m₀ k₀ now k × Knows known₂ now m × SeesIn a now m)
        (λ fault. (fault ≡ GaveOut) × Works (within g new) new.failed m₀ k₀ m k)

  -- An arrival is looked up within a work, which goes on as it was, or can't be committed.
  pub record LooksWithin (result : Result Looked Fault) (s : Settings) (a : Arrival) : Type 0 where
    pub leaves : Follows g old new
    pub goes_on : OnOk result (new.failed ≡ false)
    pub opens : OpensWithin result
    pub fresh : IfOk result (IsFresh a (within g new))
    pub found : (m₀ tables m : Queue) (k₀ k : Ledger) → Sound m → SeesIn a tables m → Works (within g old) old.failed m₀ k₀ tables k → Serves (within g new)
        → OrNoAnswer result (IsFound s a m k (within g new))
    pub keeps : (m₀ m : Queue) (k₀ k : Ledger) → Works (within g old) old.failed m₀ k₀ m k → Works (within g new) new.failed m₀ k₀ m k

  -- An arrival is answered within a work by its verdict, and the work leads where that does. Or memory or the store gave no answer: then it isn't to be committed.
  pub record AnswersIn (result : Result Answered Fault) (s : Settings) (a : Arrival) (known known₂ : Known) : Type 0 where
    pub leaves : Follows g old new
    pub goes_on : OnOk result (new.failed ≡ false)
    pub opens : OpensWithin result
    pub comes : (m₀ tables m : Queue) (k₀ k : Ledger) → Sound m → Works (within g old) old.failed m₀ k₀ tables k → Knows known tables m → Serves (within g new)
        → MatchResult result (λ x. (v : Verdict) × IsVerdict s a m k v × IsGivenBy x v × LeadsTo known₂ (within g new) new.failed m₀ k₀ (left_by m k v))
        (λ fault. (fault ≡ NoAnswer) × HasBegun (within g new) new.failed m₀ k₀)

  -- Arrivals are answered one after the other within a work that began at a sound queue.
  pub record AnswersEach (result : Result Bool Fault) (s : Settings) (arrivals : List Arrival) (replies : List Response) : Type 0 where
    pub leaves : Follows g old new
    pub goes_on : OnOk result (new.failed ≡ false)
    pub opens : OpensWithin result
    pub as_many : OnOk result (length replies ≡ length arrivals)
    pub ran : (m : Queue) (k : Ledger) → Sound m → Works (within g old) old.failed m k m k → Serves (within g new)
        → MatchResult result
        (λ has_accepted.
        (runs : RunsWithin s (record { queue = m; kept = k }) arrivals replies has_accepted) × MeansEnd s (record { queue = m; kept = k }) runs.heard (within g new) new.failed)
        (λ fault. (fault ≡ NoAnswer) × HasBegun (within g new) new.failed m k)

-- A batch has ended: it has run, or it couldn't be committed. Then the store means what it did, and a crash leaves what one before could leave, or the rows of all of it.
abbrev pub HasEnded : Settings → Start → List Arrival → State → State → Batch → Type 0
HasEnded s start arrivals old new (Done replies) = HasCleanDisk new → StopsIn s start arrivals replies.items old new
HasEnded s start arrivals old new Failed = Means new start.queue start.kept × MayMake old new (AreMadeByAll s start arrivals)

-- where it has run, it has a reply to each arrival
abbrev pub HasEach : List Arrival → Batch → Type 0
HasEach arrivals (Done replies) = length replies.items ≡ length arrivals
HasEach arrivals Failed = ⊤

module _ {S : Type 0} (g : Ghosts S) where
  -- Arrivals are answered in one transaction. Where one has no answer, nothing has changed.
  pub record AnswersTogether (old new : Store S) (result : Result Batch Fault) (s : Settings) (arrivals : List Arrival) : Type 0 where
    pub clean : HasCleanDisk (shown g new) → HasCleanDisk (shown g old)
    pub as_many : IfOk result (HasEach arrivals)
    pub ended : (m : Queue) (k : Ledger) → Sound m → Means (shown g old) m k
        → MatchResult result (HasEnded s (record { queue = m; kept = k }) arrivals (shown g old) (shown g new))
        (λ fault. Means (shown g new) m k × CommitsNothing (shown g old) (shown g new))
