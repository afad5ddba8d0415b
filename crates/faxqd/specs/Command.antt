-- What the program does by its words.
use Rattle.std.specs.Prelude.{◌≡◌, ℕ, false, List, [], ◌∷◌, codes, Option, Result, Ok, Err, string_bytes}
use Rattle.fax_http.specs.Device.{BrokeOff, Put}
use Rattle.fax_http.specs.declared.device.Watched.{Watched}
use Rattle.faxqd.specs.Check.{Checks}
use Rattle.faxqd.specs.Client.{Answers}
use Rattle.faxqd.specs.Import.{Imports}
use Rattle.faxqd.specs.List.{Lists}
use Rattle.faxqd.specs.Replay.{Ends}
use Rattle.fax_net.specs.Sendfax.{Hands}
use Rattle.faxqd.specs.Saying.{Says}
use Rattle.faxqd.specs.Serve.{Ends as EndsServing}
use Rattle.faxqd.specs.Settings.{ShowsSettings}
use Rattle.fax_text.specs.CommandLine.{IsFixed}
use Rattle.fax_ending.specs.Ending.{no_memory, write_failed}
use Rattle.fax_text.specs.Words.{Reads}
use Rattle.fax_text.specs.declared.status.Status.{Status}
use Rattle.fax_text.specs.declared.status.Status.TheVariants.{Success, Fault, Usage as Misused, Unused, Later}
use Rattle.fax_text.specs.declared.words.Plan.{Plan}
use Rattle.fax_text.specs.declared.words.Plan.TheVariants.{Check, Replay, Serve, List as ListJobs, Sendfax, Import, Settings, Worker, Post}
use Rattle.fax_text.specs.declared.words.WordsFault.{WordsFault}
use Rattle.fax_text.specs.declared.words.WordsFault.TheVariants.{Help, Usage, NoMemory}

-- a word of the command line is no text
abbrev pub not_utf8 : List ℕ
not_utf8 = codes "error: a word is not UTF-8\n"

module _ {W E : Type 0} (contents : W → Option (List ℕ)) (says : E → Option (List ℕ)) (out out₂ : Watched W) (err err₂ : Watched E) where
  -- Help is written to the output, with success, or the output failed. What is wrong with the words is a usage fault and is said, and nothing is written to the output; want of memory is another fault.
  abbrev pub Tells : WordsFault → Status → Type 0
  Tells (Help text) Success = Put contents out out₂ (string_bytes text) false × (err₂ ≡ err)
  Tells (Help text) Fault = BrokeOff contents out out₂ (string_bytes text) × Says says err err₂ write_failed
  Tells (Help text) Misused = ⊥
  Tells (Help text) Unused = ⊥
  Tells (Help text) Later = ⊥
  Tells (Usage text) Success = ⊥
  Tells (Usage text) Fault = ⊥
  Tells (Usage text) Misused = (out₂ ≡ out) × Says says err err₂ (string_bytes text)
  Tells (Usage text) Unused = ⊥
  Tells (Usage text) Later = ⊥
  Tells NoMemory Success = ⊥
  Tells NoMemory Fault = (out₂ ≡ out) × Says says err err₂ no_memory
  Tells NoMemory Misused = ⊥
  Tells NoMemory Unused = ⊥
  Tells NoMemory Later = ⊥

module _ {R W : Type 0} (remaining : R → Option (List ℕ)) (contents : W → Option (List ℕ))
    (reader reader₂ : Watched R) (out out₂ : Watched W) where
  -- what a plan comes to, and what is said then; only `replay` reads of the input
  abbrev pub CarriesOut : Plan → Status → List ℕ → Type 0
  CarriesOut (Replay files) status line = Ends remaining contents reader reader₂ out out₂ files status line
  CarriesOut (Serve plan) status line = (reader₂ ≡ reader) × EndsServing contents out out₂ plan status line
  CarriesOut (ListJobs plan) status line = (reader₂ ≡ reader) × Lists contents out out₂ plan status line
  CarriesOut (Check plan) status line = (reader₂ ≡ reader) × Checks contents out out₂ status line
  CarriesOut (Sendfax plan) status line = (reader₂ ≡ reader) × Hands contents out out₂ plan status line
  CarriesOut (Import plan) status line = (reader₂ ≡ reader) × Imports contents out out₂ plan status line
  CarriesOut (Settings files) status line = (reader₂ ≡ reader) × ShowsSettings contents out out₂ files status line
  CarriesOut (Worker plan) status line = (reader₂ ≡ reader) × Answers contents out out₂ status line
  CarriesOut (Post plan) status line = (reader₂ ≡ reader) × Answers contents out out₂ status line

  module _ {E : Type 0} (says : E → Option (List ℕ)) (err err₂ : Watched E) where
    -- a plan is carried out, and the line is said that this ends with, if there is one
    pub record DoesPlan (plan : Plan) (status : Status) : Type 0 where
      pub line : List ℕ
      pub done : CarriesOut plan status line
      pub said : Says says err err₂ line
      pub silent : line ≡ [] → err₂ ≡ err

    -- what a plan or a fault of words comes to
    abbrev pub Does : Result Plan WordsFault → Status → Type 0
    Does (Ok plan) status = DoesPlan plan status
    Does (Err fault) status = (reader₂ ≡ reader) × Tells contents says out out₂ err err₂ fault status

    -- the words are read, and what they say is done
    pub record Runs (words : List (List ℕ)) (status : Status) : Type 0 where
      pub read : Result Plan WordsFault
      pub reads : Reads words read
      pub fixed : (name : List ℕ) (behind : List (List ℕ)) → words ≡ name ∷ behind → IsFixed behind read
      pub does : Does read status
