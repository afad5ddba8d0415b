-- Words that ask for help, and words that no command has.
use Rattle.std.proofs.Common.{◌≡◌, ◌∙◌, Bool, true, false, ◌||◌, cond, List, [], ◌∷◌, codes, Option, Some, None, option_map, is_some, Result, Ok, Err, refl, sym, ap, subst, inl, inr}
use Rattle.std.specs.Str.{bytes_eq}
use Rattle.std.proofs.lemmas.Slice.Eq.{bytes_eq-Decides}
use Rattle.clap.proofs.OnLiterals.{clap_on_literals}
use Rattle.clap.specs.Faults.{fault_of, check_fault, defaults_fault, entered_fault, other_fault, settle_fault, step_fault, turn_fault, walk_fault}
use Rattle.clap.specs.Kinds.{IsAmong, Kinds, or_else}
use Rattle.clap.specs.Lexer.{long_of}
use Rattle.clap.specs.Simple.{App, built, entered, names_of}
use Rattle.clap.specs.Walk.{Text, finished, settled, walk, idle, long_or_other, nothing_held, short_or_plain, subcommand_met, subcommand_or_other, trailing, value, walk_from, walked, word_met}
use Rattle.clap.specs.declared.error.kind.ErrorKind.{ErrorKind}
use Rattle.clap.specs.declared.error.kind.ErrorKind.TheVariants as kind
use Rattle.fax_text.proofs.OptionWords.{no_fault, no_dashes, no_long, no_short}
use Rattle.fax_text.specs.CommandLine.{AskForHelp, BreakTheUsage, GivesHelp, GivesUsage, NamesNoCommand}
use Rattle.fax_text.specs.Words.{IsAsked, Reads, program}
use Rattle.fax_text.specs.declared.words.Plan.{Plan}
use Rattle.fax_text.specs.declared.words.WordsFault.{WordsFault}
use Rattle.fax_text.specs.declared.words.WordsFault.TheVariants.{Help, Usage, NoMemory}

-- ---- help

-- words that ask for help have that as their fault
asks : (name : Text) (words : List Text) → AskForHelp words → fault_of program (name ∷ words) ≡ kind.DisplayHelp ∷ []
unfolding clap_on_literals
asks name words (inl e) = ap (λ w. fault_of program (name ∷ w)) e
asks name words (inr (inl e)) = ap (λ w. fault_of program (name ∷ w)) e
asks name words (inr (inr (inl e))) = ap (λ w. fault_of program (name ∷ w)) e
asks name words (inr (inr (inr (inl e)))) = ap (λ w. fault_of program (name ∷ w)) e
asks name words (inr (inr (inr (inr (inl e))))) = ap (λ w. fault_of program (name ∷ w)) e
asks name words (inr (inr (inr (inr (inr (inl e)))))) = ap (λ w. fault_of program (name ∷ w)) e
asks name words (inr (inr (inr (inr (inr (inr (inl e))))))) = ap (λ w. fault_of program (name ∷ w)) e
asks name words (inr (inr (inr (inr (inr (inr (inr (inl e)))))))) = ap (λ w. fault_of program (name ∷ w)) e
asks name words (inr (inr (inr (inr (inr (inr (inr (inr (inl e))))))))) = ap (λ w. fault_of program (name ∷ w)) e
asks name words (inr (inr (inr (inr (inr (inr (inr (inr (inr (inl e)))))))))) = ap (λ w. fault_of program (name ∷ w)) e
asks name words (inr (inr (inr (inr (inr (inr (inr (inr (inr (inr (inl e))))))))))) = ap (λ w. fault_of program (name ∷ w)) e
asks name words (inr (inr (inr (inr (inr (inr (inr (inr (inr (inr (inr (inl e)))))))))))) = ap (λ w. fault_of program (name ∷ w)) e
asks name words (inr (inr (inr (inr (inr (inr (inr (inr (inr (inr (inr (inr (inl e))))))))))))) = ap (λ w. fault_of program (name ∷ w)) e
asks name words (inr (inr (inr (inr (inr (inr (inr (inr (inr (inr (inr (inr (inr (inl e)))))))))))))) = ap (λ w. fault_of program (name ∷ w)) e
asks name words (inr (inr (inr (inr (inr (inr (inr (inr (inr (inr (inr (inr (inr (inr (inl e))))))))))))))) = ap (λ w. fault_of program (name ∷ w)) e
asks name words (inr (inr (inr (inr (inr (inr (inr (inr (inr (inr (inr (inr (inr (inr (inr (inl e)))))))))))))))) = ap (λ w. fault_of program (name ∷ w)) e
asks name words (inr (inr (inr (inr (inr (inr (inr (inr (inr (inr (inr (inr (inr (inr (inr (inr (inl e))))))))))))))))) = ap (λ w. fault_of program (name ∷ w)) e
asks name words (inr (inr (inr (inr (inr (inr (inr (inr (inr (inr (inr (inr (inr (inr (inr (inr (inr (inl e)))))))))))))))))) = ap (λ w. fault_of program (name ∷ w)) e
asks name words (inr (inr (inr (inr (inr (inr (inr (inr (inr (inr (inr (inr (inr (inr (inr (inr (inr (inr (inl e))))))))))))))))))) = ap (λ w. fault_of program (name ∷ w)) e
asks name words (inr (inr (inr (inr (inr (inr (inr (inr (inr (inr (inr (inr (inr (inr (inr (inr (inr (inr (inr e))))))))))))))))))) = ap (λ w. fault_of program (name ∷ w)) e

-- where help is asked for, no command is entered that has no fault
helped : (words : List Text) (result : Result Plan WordsFault) → fault_of program words ≡ kind.DisplayHelp ∷ [] → Reads words result → GivesHelp result
helped words (Ok plan) faults reads = let no : [] ≡ kind.DisplayHelp ∷ [] = sym reads.1 ∙ faults in cc
helped words (Err (Help text)) faults reads = tt
helped words (Err (Usage text)) faults (inl reads) =
    elim (subst (IsAmong reads.0) faults reads.1) [ inl e ↦ reads.2 (inl e) | inr none ↦ none ]
helped words (Err (Usage text)) faults (inr none) = let no : [] ≡ kind.DisplayHelp ∷ [] = sym none.0 ∙ faults in absurd cc
helped words (Err NoMemory) faults reads = tt

-- words that ask for help are given it
pub gives_help : (name : Text) (words : List Text) (result : Result Plan WordsFault) → Reads (name ∷ words) result → AskForHelp words → GivesHelp result
gives_help name words result reads asked = helped (name ∷ words) result (asks name words asked) reads

-- ---- usage

-- another word than a command's isn't equal to it
not_named : (command word : Text) → ¬ (word ≡ command) → bytes_eq command word ≡ false
not_named command word other = go (bytes_eq command word) refl
  where
    go : (b : Bool) → bytes_eq command word ≡ b → bytes_eq command word ≡ false
    go true e = absurd (other (sym ((bytes_eq-Decides command word).0 e)))
    go false e = e

abbrev app : App
app = built program

abbrev stray : Kinds
stray = kind.UnknownArgument ∷ kind.InvalidSubcommand ∷ []

abbrev met : Bool → Text → Option (Text × List Text) → Option (Text × List Text)
met is_named command others = cond (is_named || false) (Some (command, [])) others

module _ (word : Text) (unknown : NamesNoCommand word) where
  -- such a word names no command
  unnamed : subcommand_met (names_of app) idle word ≡ None
  unnamed =
      let name = option_map (λ (s : Text × List Text). s.0) in
      let help = met (bytes_eq (codes "help") word) (codes "help") None in
      let post = met (bytes_eq (codes "post") word) (codes "post") help in
      let worker = met (bytes_eq (codes "worker") word) (codes "worker") post in
      let settings = met (bytes_eq (codes "settings") word) (codes "settings") worker in
      let import = met (bytes_eq (codes "import") word) (codes "import") settings in
      let sendfax = met (bytes_eq (codes "sendfax") word) (codes "sendfax") import in
      let check = met (bytes_eq (codes "check") word) (codes "check") sendfax in
      let list = met (bytes_eq (codes "list") word) (codes "list") check in
      ap (λ b. name (met b (codes "replay") (met (bytes_eq (codes "serve") word) (codes "serve") list))) (not_named (codes "replay") word unknown.1)
      ∙ ap (λ b. name (met b (codes "serve") list)) (not_named (codes "serve") word unknown.2)
      ∙ ap (λ b. name (met b (codes "list") check)) (not_named (codes "list") word unknown.3)
      ∙ ap (λ b. name (met b (codes "check") sendfax)) (not_named (codes "check") word unknown.4)
      ∙ ap (λ b. name (met b (codes "sendfax") import)) (not_named (codes "sendfax") word unknown.5)
      ∙ ap (λ b. name (met b (codes "import") settings)) (not_named (codes "import") word unknown.6)
      ∙ ap (λ b. name (met b (codes "settings") worker)) (not_named (codes "settings") word unknown.7)
      ∙ ap (λ b. name (met b (codes "worker") post)) (not_named (codes "worker") word unknown.8)
      ∙ ap (λ b. name (met b (codes "post") help)) (not_named (codes "post") word unknown.9)
      ∙ ap (λ b. name (met b (codes "help") None)) (not_named (codes "help") word unknown.10)

  -- it is met as a value
  word_stray : word_met app.top.rules (names_of app) false idle 1 word nothing_held ≡ (nothing_held, value)
  word_stray =
      ap (λ o. subcommand_or_other app.top.rules o idle 1 word nothing_held) unnamed
      ∙ ap (λ b. cond b (nothing_held, trailing 1) (long_or_other app.top.rules idle word (long_of word) nothing_held)) (no_dashes word unknown.0)
      ∙ ap (λ l. long_or_other app.top.rules idle word l nothing_held) (no_long word unknown.0)
      ∙ ap (λ s. short_or_plain app.top.rules idle word s nothing_held) (no_short word unknown.0)

  -- which nothing takes, so it is a fault
  turn_stray : turn_fault app.top (names_of app) (walk_from nothing_held) word ≡ stray
  turn_stray =
      ap (λ k. or_else k (step_fault app.top 1 (word_met app.top.rules (names_of app) false idle 1 word nothing_held).0 (word_met app.top.rules (names_of app) false idle 1 word nothing_held).1))
      (ap (λ o. other_fault app.top o word nothing_held) unnamed ∙ no_fault app.top [] word unknown.0 nothing_held)
      ∙ ap (λ met. step_fault app.top 1 met.0 met.1) word_stray

  module _ (name : Text) (behind : List Text) where
    -- the words have this fault, whatever stands behind
    all_stray : fault_of program (name ∷ word ∷ behind) ≡ stray
    unfolding walk_fault
    all_stray =
        let end = walk app.top.rules (names_of app) nothing_held (word ∷ behind) in
        let held = end.held in
        let rules = app.top.rules in
        let below = entered_fault app end.stopped in
        let settle = settle_fault rules app.top.args_override_self held in
        let defaults = defaults_fault (settled rules held).rows rules in
        let check = check_fault app.top (finished rules held) (is_some (entered app end.stopped)) in
        ap (λ k. or_else (or_else k (walk_fault app.top (names_of app) (walked rules (names_of app) (walk_from nothing_held) word) behind))
        (or_else below (or_else settle (or_else defaults check)))) turn_stray

-- the first kind is no request, and neither are the others
abbrev NoneAsked : Kinds → Type 0
NoneAsked [] = ⊥
NoneAsked (k ∷ []) = ¬ (IsAsked k)
NoneAsked (k ∷ more ∷ ks) = ¬ (IsAsked k) × NoneAsked (more ∷ ks)

-- a kind among these isn't a request
none_among : (k : ErrorKind) (ks : Kinds) → NoneAsked ks → IsAmong k ks → ¬ (IsAsked k)
none_among k [] none among = absurd none
none_among k (x ∷ []) none (inl e) = subst (λ y. ¬ (IsAsked y)) (sym e) none
none_among k (x ∷ []) none (inr gone) = absurd gone
none_among k (x ∷ y ∷ ks) none (inl e) = subst (λ z. ¬ (IsAsked z)) (sym e) none.0
none_among k (x ∷ y ∷ ks) none (inr among) = none_among k (y ∷ ks) none.1 among

-- there is some kind
some_kind : (ks : Kinds) → NoneAsked ks → ¬ (ks ≡ [])
some_kind [] none e = none
some_kind (k ∷ ks) none e = absurd (let no = e in cc)

-- words with such faults are told the usage
refused : (words : List Text) (ks : Kinds) (result : Result Plan WordsFault) → NoneAsked ks → fault_of program words ≡ ks → Reads words result → GivesUsage result
refused words ks (Ok plan) none faults reads = some_kind ks none (sym faults ∙ reads.1)
refused words ks (Err (Help text)) none faults reads = none_among reads.0 ks none (subst (IsAmong reads.0) faults reads.1) reads.2
refused words ks (Err (Usage text)) none faults reads = tt
refused words ks (Err NoMemory) none faults reads = tt

-- a kind that asks neither for help nor for the version is no request
not_asked : (k : ErrorKind) → ¬ (k ≡ kind.DisplayHelp) → ¬ (k ≡ kind.DisplayVersion) → ¬ (IsAsked k)
not_asked k help version (inl e) = help e
not_asked k help version (inr e) = version e

-- words that break the usage are told it
pub gives_usage : (name : Text) (words : List Text) (result : Result Plan WordsFault) → Reads (name ∷ words) result → BreakTheUsage words → GivesUsage result
unfolding clap_on_literals
gives_usage name words result reads (inl e) =
    refused (name ∷ words) (kind.MissingSubcommand ∷ []) result (not_asked _ (λ e. cc) (λ e. cc)) (ap (λ w. fault_of program (name ∷ w)) e) reads
gives_usage name words result reads (inr (inl (word, behind, unknown, e))) =
    refused (name ∷ words) stray result (not_asked _ (λ e. cc) (λ e. cc), not_asked _ (λ e. cc) (λ e. cc))
    (ap (λ w. fault_of program (name ∷ w)) e ∙ all_stray word unknown name behind) reads
gives_usage name words result reads (inr (inr (inl e))) =
    refused (name ∷ words) (kind.InvalidValue ∷ []) result (not_asked _ (λ e. cc) (λ e. cc)) (ap (λ w. fault_of program (name ∷ w)) e) reads
gives_usage name words result reads (inr (inr (inr (inl e)))) =
    refused (name ∷ words) (kind.InvalidValue ∷ []) result (not_asked _ (λ e. cc) (λ e. cc)) (ap (λ w. fault_of program (name ∷ w)) e) reads
gives_usage name words result reads (inr (inr (inr (inr (inr (inl e)))))) =
    refused (name ∷ words) (kind.MissingRequiredArgument ∷ []) result (not_asked _ (λ e. cc) (λ e. cc)) (ap (λ w. fault_of program (name ∷ w)) e) reads
gives_usage name words result reads (inr (inr (inr (inr (inr (inr (inl e))))))) =
    refused (name ∷ words) (kind.MissingRequiredArgument ∷ []) result (not_asked _ (λ e. cc) (λ e. cc)) (ap (λ w. fault_of program (name ∷ w)) e) reads
gives_usage name words result reads (inr (inr (inr (inr (inr (inr (inr (inl e)))))))) =
    refused (name ∷ words) (kind.MissingRequiredArgument ∷ []) result (not_asked _ (λ e. cc) (λ e. cc)) (ap (λ w. fault_of program (name ∷ w)) e) reads
gives_usage name words result reads (inr (inr (inr (inr (inr (inr (inr (inr (inl e))))))))) =
    refused (name ∷ words) (kind.MissingRequiredArgument ∷ []) result (not_asked _ (λ e. cc) (λ e. cc)) (ap (λ w. fault_of program (name ∷ w)) e) reads
gives_usage name words result reads (inr (inr (inr (inr (inr (inr (inr (inr (inr (inl e)))))))))) =
    refused (name ∷ words) (kind.MissingRequiredArgument ∷ []) result (not_asked _ (λ e. cc) (λ e. cc)) (ap (λ w. fault_of program (name ∷ w)) e) reads
gives_usage name words result reads (inr (inr (inr (inr (inr (inr (inr (inr (inr (inr e)))))))))) =
    refused (name ∷ words) (kind.MissingRequiredArgument ∷ []) result (not_asked _ (λ e. cc) (λ e. cc)) (ap (λ w. fault_of program (name ∷ w)) e) reads
gives_usage name words result reads (inr (inr (inr (inr (inl e))))) =
    refused (name ∷ words) (kind.MissingRequiredArgument ∷ []) result (not_asked _ (λ e. cc) (λ e. cc)) (ap (λ w. fault_of program (name ∷ w)) e) reads
