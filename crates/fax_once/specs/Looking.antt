-- A look at the tables for an arrival, before anything is decided of it.
use Rattle.std.specs.Prelude.{◌≡◌, ◌⊎◌, ⊤, ℕ, ◌<◌, ◌^◌, codes, Result, IfOk, OnOk}
use Rattle.sqlite.specs.Effect.{Database}
use Rattle.sqlite.specs.State.{State, HasCleanDisk}
use Rattle.sqlite_trees.specs.declared.store.Store.{Ghosts}
use Rattle.fax_ask.specs.Ask.{IsAsk, IsLawful}
use Rattle.fax_ask.specs.Response.{Response}
use Rattle.fax_ask.specs.declared.ask.Ask.{Ask}
use Rattle.fax_ask.specs.declared.method.Method.TheVariants.{Get, Post}
use Rattle.fax_ask.specs.declared.view.View.{View}
use Rattle.fax_core.specs.Clock.{decided_at}
use Rattle.fax_core.specs.Ledger.{Ledger}
use Rattle.fax_core.specs.Queue.{Queue}
use Rattle.fax_core.specs.Settings.{Settings}
use Rattle.fax_core.specs.Sound.{Sound}
use Rattle.fax_core.specs.declared.ask.Ask.{Ask as Step}
use Rattle.fax_decide.specs.Fault.{OnlyNoAnswer, OrNoAnswer}
use Rattle.fax_decide.specs.Read.{IsSubmission}
use Rattle.fax_decide.specs.declared.fault.Fault.{Fault}
use Rattle.fax_schema.specs.Schema.{our_tables}
use Rattle.fax_store.specs.Calls.{Looks, shown}
use Rattle.fax_store.specs.Kept.{HasReply, IsUnkept}
use Rattle.fax_store.specs.Store.{MeansNow, Serves, StaysOpen}
use Rattle.fax_store.specs.declared.store.Store.{Store}
use Rattle.fax_run.specs.Reading.{post_of}
use Rattle.fax_run.specs.Verdict.{Verdict, IsVerdict, Repeated, Told, asked_for, new_asked}
use Rattle.fax_run.specs.View.{view}
use Rattle.fax_run.specs.declared.arrival.Arrival.{Arrival}
use Rattle.fax_once.specs.Handled.{IsGivenUp, IsUsed, ReachesTo}
use Rattle.fax_once.specs.Sender.{AsksStep}
use Rattle.fax_once.specs.declared.looking.Looked.{Looked}
use Rattle.fax_once.specs.declared.looking.Looked.TheVariants.{Known, New}
use Rattle.fax_once.specs.declared.looking.NewRequest.{NewRequest}
use Rattle.fax_once.specs.declared.sender.Sender.{Sender}

-- the arrival's method, path and body ask for this
pub record AsksFor (a : Arrival) (ask : Ask) : Type 0 where
  pub is : IsAsk a.method a.path.now a.body.now ask
  pub lawful : IsLawful ask

-- its reply is known
abbrev pub IsKnown : Looked → Type 0
IsKnown (Known reply) = ⊤
IsKnown (New new) = ⊥

-- it posts a job
abbrev pub Submits : Arrival → Type 0
Submits a = (a.method ≡ Post) × (a.path.now ≡ codes "/jobs")

-- The tables mean the queue, or the arrival submits a job: then nothing is looked for but its reply.
abbrev pub SeesIn : Arrival → Queue → Queue → Type 0
SeesIn a tables m = (tables ≡ m) ⊎ Submits a

-- A request that is new is a step that its sender asks for, in a store that serves as long as the disk is clean. The floor is within bounds.
abbrev pub IsFresh : Arrival → State → Looked → Type 0
IsFresh a s (Known reply) = ⊤
IsFresh a s (New new) = AsksStep a new.sender new.ask × (new.floor < 10 ^ 18) × (HasCleanDisk s → Serves s) × (Submits a → IsSubmission new.ask)

-- The reply is told by the verdict, and changes nothing. One that was kept comes from a store that serves.
abbrev pub IsTold : Response → State → Verdict → Type 0
IsTold reply s v = (v ≡ Told reply) ⊎ ((v ≡ Repeated reply) × Serves s)

-- no reply is kept to the number of a new request
abbrev pub IsUnused : Ledger → NewRequest → Type 0
IsUnused k new = IsUnkept new.sender.client.now new.sender.number k.replies

-- The reply is that of the arrival's verdict; or the arrival comes to what is asked for under a new number.
abbrev pub IsFound : Settings → Arrival → Queue → Ledger → State → Looked → Type 0
IsFound settings a m k s (Known reply) = (v : Verdict) × IsVerdict settings a m k v × IsTold reply s v
IsFound settings a m k s (New new) =
    IsVerdict settings a m k (new_asked settings m k new.floor (post_of a new.sender.number new.ask)) × IsUnused k new

-- the same of a step that this sender asks for
abbrev pub IsFoundFor : Settings → Arrival → Sender → Step → Queue → Ledger → State → Looked → Type 0
IsFoundFor settings a sender ask m k s (Known reply) = IsTold reply s (asked_for settings m k (post_of a sender.number ask))
IsFoundFor settings a sender ask m k s (New new) =
    (new_asked settings m k new.floor (post_of a sender.number ask) ≡ asked_for settings m k (post_of a sender.number ask)) × IsUnused k new

-- a request that is new is that of the sender
abbrev pub IsItsOwn : Sender → Step → Looked → Type 0
IsItsOwn sender ask (Known reply) = ⊤
IsItsOwn sender ask (New new) = (new.sender ≡ sender) × (new.ask ≡ ask) × (new.floor < 10 ^ 18)

module _ {S : Type 0} (g : Ghosts S) (old new : Store S) where
  -- Whatever the rows say, those of which P holds show that the reply is known.
  abbrev pub KnownWhere : {E : Type 0} → Result Looked E → (Database → Type 0) → Type 0
  KnownWhere result P = (db : Database) → db.schema ≡ our_tables → (shown g old).now ≡ db → HasCleanDisk (shown g new) → P db → IfOk result IsKnown

  -- of what the tables mean now, what was found is one of which P holds, as long as the disk is clean
  abbrev pub FindsOf : {E : Type 0} → Arrival → Result Looked E → (Queue → Ledger → Looked → Type 0) → Type 0
  FindsOf a result P = (tables m : Queue) (k : Ledger) → Sound m → SeesIn a tables m → MeansNow (shown g old) tables k → HasCleanDisk (shown g new) → IfOk result (P m k)

  -- of a sound queue only a missing answer leaves nothing found, while the store serves
  abbrev pub FailsForWant : Arrival → Result Looked Fault → Type 0
  FailsForWant a result = (tables m : Queue) (k : Ledger) → Sound m → SeesIn a tables m → MeansNow (shown g old) tables k → Serves (shown g new) → OnlyNoAnswer result

  -- A view is shown: at the later of that moment and the clock.
  pub record Sees (result : Result Response Fault) (s : Settings) (what : View) (moment : ℕ) : Type 0 where
    pub leaves : Looks g old new result
    pub opens : OnOk result (HasCleanDisk (shown g new) → Serves (shown g new))
    pub seen : (m : Queue) (k : Ledger) → Sound m → MeansNow (shown g old) m k → Serves (shown g new)
        → OrNoAnswer result (λ reply. reply ≡ view s m (decided_at m.clock moment) what)

  -- A reply to a step is looked for.
  pub record LooksForReply (result : Result Looked Fault) (a : Arrival) (sender : Sender) (ask : Step) : Type 0 where
    pub leaves : Looks g old new result
    pub opens : OnOk result (HasCleanDisk (shown g new) → Serves (shown g new))
    pub own : IfOk result (IsItsOwn sender ask)
    pub used : KnownWhere result (λ db. HasReply db sender.client.now sender.number)
    pub given : KnownWhere result (λ db. ReachesTo db sender.client.now sender.number)
    pub found : AsksStep a sender ask → (s : Settings) → FindsOf a result (λ m k. IsFoundFor s a sender ask m k (shown g new))
    pub cause : FailsForWant a result

  -- What an arrival asks for is looked for.
  pub record LooksFor (result : Result Looked Fault) (s : Settings) (a : Arrival) (ask : Ask) : Type 0 where
    pub leaves : Looks g old new result
    pub opens : OnOk result (StaysOpen (shown g old) (shown g new))
    pub fresh : AsksFor a ask → IfOk result (IsFresh a (shown g new))
    pub seen : a.method ≡ Get → IsAsk a.method a.path.now a.body.now ask → IfOk result IsKnown
    pub used : KnownWhere result (IsUsed a)
    pub given : KnownWhere result (IsGivenUp a)
    pub found : AsksFor a ask → FindsOf a result (λ m k. IsFound s a m k (shown g new))
    pub cause : AsksFor a ask → FailsForWant a result

  -- An arrival is looked up: nothing changes, within a transaction or not.
  pub record LooksAt (result : Result Looked Fault) (s : Settings) (a : Arrival) : Type 0 where
    pub leaves : Looks g old new result
    -- Where something is found, a store that served serves still.
    pub opens : OnOk result (StaysOpen (shown g old) (shown g new))
    -- A request that is new is a step that its sender asks for.
    pub fresh : IfOk result (IsFresh a (shown g new))
    -- Whatever the rows say, a GET isn't new, nor is what comes under a used number, or under one that is given up.
    pub seen : a.method ≡ Get → IfOk result IsKnown
    pub used : KnownWhere result (IsUsed a)
    pub given : KnownWhere result (IsGivenUp a)
    -- Of a sound queue it is the arrival's verdict, or leads to it.
    pub found : FindsOf a result (λ m k. IsFound s a m k (shown g new))
    pub cause : FailsForWant a result
