-- What a replay did.
use Rattle.std.specs.Prelude.{◌≡◌, ◌⊎◌, ℕ, ◌≤◌, false, List, length, Option}
use Rattle.fax_core.specs.Ledger.{empty_ledger}
use Rattle.fax_core.specs.Queue.{empty_queue}
use Rattle.fax_core.specs.Settings.{Settings}
use Rattle.fax_decide.specs.Settings.{settings_of}
use Rattle.fax_decide.specs.declared.office.Office.{Office}
use Rattle.fax_desk.specs.Turns.{AreTurns}
use Rattle.fax_http.specs.Clock.{moment_said}
use Rattle.fax_http.specs.declared.device.Watched.{Watched}
use Rattle.fax_http.specs.declared.serving.End.{End}
use Rattle.fax_http.specs.declared.serving.End.TheVariants.{NoMemory}
use Rattle.fax_http.specs.Conversation.{Reads, Turn}
use Rattle.fax_http.specs.Device.{Took}
use Rattle.fax_http.specs.Serving.{EndsBy, failed_to_read}
use Rattle.fax_run.specs.Run.{Start}

-- the machine's settings in an office
abbrev pub settings_in : Office → Settings
settings_in office = settings_of office.setup office.controls

-- a clock that believes what is said of a moment, and else gives its last answer
abbrev pub gives_said : ℕ → List ℕ → ℕ → ℕ → Type 0
gives_said last said moment next = (moment ≡ moment_said last said) × (next ≡ moment)

-- the empty queue, and nothing kept
abbrev pub empty_start : Start
empty_start = record { queue = empty_queue; kept = empty_ledger }

-- by the settings of that office, the turns are those of the empty queue from the moment 0 on
abbrev pub AreOfEmptyQueue : Office → List Turn → Type 0
AreOfEmptyQueue office turns = (end : Start) × AreTurns gives_said (settings_in office) empty_start 0 turns end

module _ {R W : Type 0} (remaining : R → Option (List ℕ)) (contents : W → Option (List ℕ)) (reader reader₂ : Watched R) (out out₂ : Watched W) where
  -- The bytes that were read are messages, 1,000 at most, and a rest. Each message was answered in turn from the empty queue on, and the replies were written. That is how it ended.
  pub record IsAnswered (office : Office) (end : End) : Type 0 where
    pub taken : List ℕ
    pub turns : List Turn
    pub rest : List ℕ
    pub took : Took remaining reader reader₂ taken (failed_to_read end)
    pub reads : Reads taken turns rest
    pub within : length turns ≤ 1000
    pub replies : AreOfEmptyQueue office turns
    pub ends : EndsBy contents out out₂ 1000 turns rest (remaining reader₂.device) false end

  -- there was no memory for the tables, and nothing was read or written
  pub record HasNoQueue (end : End) : Type 0 where
    pub ends : end ≡ NoMemory
    pub unread : reader₂ ≡ reader
    pub unwritten : out₂ ≡ out

  -- the input was answered by that office, or there was no memory for it
  abbrev pub IsReplayed : Office → End → Type 0
  IsReplayed office end = IsAnswered office end ⊎ HasNoQueue end
