-- The words of each command line that the program tells of, and what comes of them.
use Rattle.std.specs.Prelude.{◌≡◌, ◌⊎◌, List, [], ◌∷◌, ◌++◌, codes, Option, Some, None, Result, Ok, Err, ⊤}
use Rattle.clap.specs.Lexer.{strip_byte}
use Rattle.clap.specs.Walk.{Text}
use Rattle.fax_text.specs.Server.{file_names}
use Rattle.fax_text.specs.declared.words.Plan.{Plan}
use Rattle.fax_text.specs.declared.words.Plan.TheVariants.{Check, List as ListJobs, Replay, Serve, Sendfax, Import, Settings, Worker, Post}
use Rattle.fax_text.specs.declared.words.WordsFault.{WordsFault}
use Rattle.fax_text.specs.declared.words.WordsFault.TheVariants.{Help, Usage, NoMemory}

-- a word that begins with no `-`
abbrev pub IsPlainWord : Text → Type 0
IsPlainWord word = strip_byte 45 word ≡ None

abbrev pub IsPlainFile : Option Text → Type 0
IsPlainFile None = ⊤
IsPlainFile (Some file) = IsPlainWord file

-- the words of an option, where it is there
abbrev pub option_words : Text → Option Text → List Text
option_words name None = []
option_words name (Some file) = name ∷ file ∷ []

abbrev pub setup_words : Option Text → List Text
setup_words = option_words (codes "--setup")

abbrev pub controls_words : Option Text → List Text
controls_words = option_words (codes "--controls")

-- `replay [--setup FILE] [--controls FILE]`, the options in either order
abbrev pub AskForReplay : Option Text → Option Text → List Text → Type 0
AskForReplay setup controls words =
    IsPlainFile setup × IsPlainFile controls
    × ((words ≡ codes "replay" ∷ (setup_words setup ++ controls_words controls))
    ⊎ (words ≡ codes "replay" ∷ (controls_words controls ++ setup_words setup)))

-- words that ask for help
abbrev pub AskForHelp : List Text → Type 0
AskForHelp words =
    (words ≡ codes "--help" ∷ []) ⊎ (words ≡ codes "-h" ∷ [])
    ⊎ (words ≡ codes "replay" ∷ codes "--help" ∷ []) ⊎ (words ≡ codes "replay" ∷ codes "-h" ∷ [])
    ⊎ (words ≡ codes "serve" ∷ codes "--help" ∷ []) ⊎ (words ≡ codes "serve" ∷ codes "-h" ∷ [])
    ⊎ (words ≡ codes "list" ∷ codes "--help" ∷ []) ⊎ (words ≡ codes "list" ∷ codes "-h" ∷ [])
    ⊎ (words ≡ codes "check" ∷ codes "--help" ∷ []) ⊎ (words ≡ codes "check" ∷ codes "-h" ∷ [])
    ⊎ (words ≡ codes "sendfax" ∷ codes "--help" ∷ []) ⊎ (words ≡ codes "sendfax" ∷ codes "-h" ∷ [])
    ⊎ (words ≡ codes "import" ∷ codes "--help" ∷ []) ⊎ (words ≡ codes "import" ∷ codes "-h" ∷ [])
    ⊎ (words ≡ codes "settings" ∷ codes "--help" ∷ []) ⊎ (words ≡ codes "settings" ∷ codes "-h" ∷ [])
    ⊎ (words ≡ codes "worker" ∷ codes "--help" ∷ []) ⊎ (words ≡ codes "worker" ∷ codes "-h" ∷ [])
    ⊎ (words ≡ codes "post" ∷ codes "--help" ∷ []) ⊎ (words ≡ codes "post" ∷ codes "-h" ∷ [])

-- a word that names no command
abbrev pub NamesNoCommand : Text → Type 0
NamesNoCommand word =
    IsPlainWord word × ¬ (word ≡ codes "replay") × ¬ (word ≡ codes "serve") × ¬ (word ≡ codes "list") × ¬ (word ≡ codes "check")
    × ¬ (word ≡ codes "sendfax") × ¬ (word ≡ codes "import") × ¬ (word ≡ codes "settings") × ¬ (word ≡ codes "worker")
    × ¬ (word ≡ codes "post") × ¬ (word ≡ codes "help")

-- words that no command has: none, an unknown command, an option without its value, or a command without what it needs
abbrev pub BreakTheUsage : List Text → Type 0
BreakTheUsage words =
    (words ≡ []) ⊎ ((word : Text) × (behind : List Text) × NamesNoCommand word × (words ≡ word ∷ behind))
    ⊎ (words ≡ codes "replay" ∷ codes "--setup" ∷ []) ⊎ (words ≡ codes "replay" ∷ codes "--controls" ∷ [])
    ⊎ (words ≡ codes "serve" ∷ []) ⊎ (words ≡ codes "list" ∷ []) ⊎ (words ≡ codes "check" ∷ [])
    ⊎ (words ≡ codes "sendfax" ∷ []) ⊎ (words ≡ codes "import" ∷ []) ⊎ (words ≡ codes "worker" ∷ []) ⊎ (words ≡ codes "post" ∷ [])

-- a plan with these files, unless memory ran out
abbrev pub GivesReplay : Option Text → Option Text → Result Plan WordsFault → Type 0
GivesReplay setup controls (Ok (Replay files)) = file_names files ≡ (setup, controls)
GivesReplay setup controls (Ok (Serve plan)) = ⊥
GivesReplay setup controls (Ok (ListJobs plan)) = ⊥
GivesReplay setup controls (Ok (Check plan)) = ⊥
GivesReplay setup controls (Ok (Sendfax plan)) = ⊥
GivesReplay setup controls (Ok (Import plan)) = ⊥
GivesReplay setup controls (Ok (Settings files)) = ⊥
GivesReplay setup controls (Ok (Worker plan)) = ⊥
GivesReplay setup controls (Ok (Post plan)) = ⊥
GivesReplay setup controls (Err (Help text)) = ⊥
GivesReplay setup controls (Err (Usage text)) = ⊥
GivesReplay setup controls (Err NoMemory) = ⊤

-- help, unless memory ran out
abbrev pub GivesHelp : Result Plan WordsFault → Type 0
GivesHelp (Ok plan) = ⊥
GivesHelp (Err (Help text)) = ⊤
GivesHelp (Err (Usage text)) = ⊥
GivesHelp (Err NoMemory) = ⊤

-- a usage fault, unless memory ran out
abbrev pub GivesUsage : Result Plan WordsFault → Type 0
GivesUsage (Ok plan) = ⊥
GivesUsage (Err (Help text)) = ⊥
GivesUsage (Err (Usage text)) = ⊤
GivesUsage (Err NoMemory) = ⊤

-- what comes of the words behind the program's name
pub record IsFixed (words : List Text) (result : Result Plan WordsFault) : Type 0 where
  pub replay : (setup controls : Option Text) → AskForReplay setup controls words → GivesReplay setup controls result
  pub help : AskForHelp words → GivesHelp result
  pub usage : BreakTheUsage words → GivesUsage result
