-- What one stream comes to at the desk.
use Rattle.std.specs.Prelude.{◌≡◌, ℕ, ◌≤◌, Bool, List, length, Option}
use Rattle.sqlite.specs.State.{State, HasCleanDisk}
use Rattle.fax_core.specs.Ledger.{Ledger}
use Rattle.fax_core.specs.Queue.{Queue}
use Rattle.fax_core.specs.Settings.{Settings}
use Rattle.fax_core.specs.Sound.{Sound}
use Rattle.fax_desk.specs.Turns.{AreServed}
use Rattle.fax_http.specs.Conversation.{Reads, Turn}
use Rattle.fax_http.specs.Device.{Took}
use Rattle.fax_http.specs.Serving.{EndsBy, failed_to_read}
use Rattle.fax_http.specs.declared.device.Watched.{Watched}
use Rattle.fax_http.specs.declared.serving.Served.{Served}
use Rattle.fax_store.specs.Store.{Means}

-- from a store that means a sound queue the messages were served; where the disk has returned what was written, it had before
pub record ServesFrom {C : Type 0} (gives : C → List ℕ → ℕ → C → Type 0) (settings : Settings) (clock : C) (old : State) (turns : List Turn) (new : State) : Type 0 where
  pub clean : HasCleanDisk new → HasCleanDisk old
  pub served : (m : Queue) (k : Ledger) → Sound m → Means old m k → HasCleanDisk new → AreServed gives settings (record { queue = m; kept = k }) clock turns old new

module _ {R W C : Type 0} (remaining : R → Option (List ℕ)) (contents : W → Option (List ℕ)) (gives : C → List ℕ → ℕ → C → Type 0) where
  -- The bytes that were read are messages and a rest. Each message was answered once and in order, as an arrival at the moment that the clock gave. The replies were written, and so it ended.
  pub record Converses (settings : Settings) (bound : ℕ) (reader reader₂ : Watched R) (out out₂ : Watched W) (clock : C) (old new : State) (is_shut : Bool)
      (served : Served) : Type 0 where
    pub taken : List ℕ
    pub turns : List Turn
    pub rest : List ℕ
    pub took : Took remaining reader reader₂ taken (failed_to_read served.end)
    pub reads : Reads taken turns rest
    pub handed : served.messages ≡ length turns
    pub within : length turns ≤ bound
    pub ends : EndsBy contents out out₂ bound turns rest (remaining reader₂.device) is_shut served.end
    pub answered : ServesFrom gives settings clock old turns new
