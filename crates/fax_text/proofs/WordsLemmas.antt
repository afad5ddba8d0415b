-- What the words of the command line come to.
use Rattle.std.proofs.Common.{◌≡◌, ◌⊎◌, ◌∙◌, Bool, true, false, not, ◌&&◌, List, [], Option, Some, None, refl, sym, ap, subst, inl, inr, Bor, Err}
use Rattle.std.specs.Option.{option_copied}
use Rattle.std.specs.Prelude.{unwrap_or}
use Rattle.std.proofs.lemmas.Bool.{and_parts}
use Rattle.clap.proofs.OnLiterals.{clap_on_literals}
use Rattle.clap.specs.Faults.{fault_of, is_simple_and_free}
use Rattle.clap.specs.Kinds.{IsAmong}
use Rattle.clap.specs.Simple.{App, app_of, is_simple, subcommand_of, with_subcommand}
use Rattle.clap.specs.Walk.{Text}
use Rattle.clap.specs.declared.error.kind.ErrorKind.{ErrorKind}
use Rattle.clap.specs.declared.error.kind.ErrorKind.TheVariants.{OutOfMemory}
use Rattle.std.proofs.Common.{◌∷◌, ap₂, IfOk, MatchResult, Ok, Result}
use Rattle.clap.specs.declared.builder.command.Command.{Command}
use Rattle.clap.specs.declared.builder.command.Command.TheViews.{out-Command as fields_of}
use Rattle.fax_text.proofs.RefusedWords.{gives_help, gives_usage}
use Rattle.fax_text.proofs.ReplayWords.{gives_replay}
use Rattle.fax_text.specs.CommandLine.{IsFixed}
use Rattle.fax_text.specs.Misuse.{IsMisuseOf}
use Rattle.fax_text.specs.Words.{IsNoPlan, Reads, TellsKind, TellsMisuse, program}
use Rattle.fax_text.specs.declared.words.Misuse.{Misuse}
use Rattle.fax_text.specs.declared.words.Misuse.TheVariants as misuse
use Rattle.fax_text.specs.declared.words.Plan.{Plan}
use Rattle.fax_text.specs.declared.words.WordsFault.{WordsFault}
use Rattle.fax_text.specs.declared.words.WordsFault.TheVariants.{Help, Usage, NoMemory}

-- the command line is simple, and its options free
pub is_free : is_simple_and_free program ≡ true
unfolding clap_on_literals
is_free = refl

-- it is simple
pub is_plain : is_simple program ≡ true
unfolding clap_on_literals
is_plain = refl

not_true : (b : Bool) → not b ≡ true → b ≡ false
not_true true e = absurd (let no = e in cc)
not_true false e = refl

-- a command that is plain has no global argument
pub plain_is_local : (groups external globals others : Bool) → (groups && (external && (not globals && others))) ≡ true → globals ≡ false
plain_is_local groups external globals others e =
    not_true globals (and_parts (not globals) others (and_parts external (not globals && others) (and_parts groups (external && (not globals && others)) e).1).1).0

-- a command that was made is added
pub adds_made : {E : Type 0} (before whole : Command) (made : Result Command E) (is sub : App)
    → MatchResult made (λ command. (fields_of command).has_globals ≡ false → app_of whole ≡ with_subcommand (app_of before) (app_of command).top) (λ fault. ⊥)
    → IfOk made (λ command. app_of command ≡ sub) → IfOk made (λ command. (fields_of command).has_globals ≡ false)
    → app_of before ≡ is → app_of whole ≡ with_subcommand is sub.top
adds_made before whole (Ok command) is sub adds shape local e = adds local ∙ ap₂ with_subcommand e (ap (λ (a : App). a.top) shape)
adds_made before whole (Err fault) is sub adds shape local e = absurd adds

-- a fault of words has one of the kinds that they have, unless memory ran out
pub reads_fault : (words : List Text) (kind : ErrorKind) (fault : WordsFault)
    → (kind ≡ OutOfMemory) ⊎ IsAmong kind (fault_of program words) → TellsKind kind fault → Reads words (Err fault)
reads_fault words kind (Help text) (inl memory) tells = absurd (elim tells [ inl e ↦ (let no = sym memory ∙ e in cc) | inr e ↦ (let no = sym memory ∙ e in cc) ])
reads_fault words kind (Help text) (inr among) tells = (kind, among, tells)
reads_fault words kind (Usage text) (inl memory) tells = absurd (tells.0 memory)
reads_fault words kind (Usage text) (inr among) tells = inl (kind, among, tells.1)
reads_fault words kind NoMemory has tells = tt

-- so does a fault of options, where no rule of the command line is broken
pub reads_misuse : (words : List Text) (m : Misuse) (fault : WordsFault) → fault_of program words ≡ [] → (¬ (m ≡ misuse.NoMemory) → IsNoPlan (subcommand_of program words))
    → IsMisuseOf (subcommand_of program words) m → TellsMisuse m fault → Reads words (Err fault)
reads_misuse words m (Help text) whole none is tells = absurd tells
reads_misuse words m (Usage text) whole none is tells = inr (whole, none tells.0, (m, is, tells.1))
reads_misuse words m NoMemory whole none is tells = tt

-- the text of an option, or another text where it is missing
pub or_else_text : (option : Option (Bor Text)) (found : Option Text) (other result : Bor Text)
    → option_copied option ≡ found → result ≡ unwrap_or option other → unwrap_or found other.now ≡ result.now
or_else_text None found other result e r = ap (λ (o : Option Text). unwrap_or o other.now) (sym e) ∙ ap (λ (t : Bor Text). t.now) (sym r)
or_else_text (Some text) found other result e r = ap (λ (o : Option Text). unwrap_or o other.now) (sym e) ∙ ap (λ (t : Bor Text). t.now) (sym r)

-- what the words are to come to, they do
pub fixed_of : (words : List Text) (result : Result Plan WordsFault) → Reads words result
    → (name : Text) (behind : List Text) → words ≡ name ∷ behind → IsFixed behind result
fixed_of words result reads name behind e =
    let here : Reads (name ∷ behind) result = subst (λ w. Reads w result) e reads in
    record {
      replay = gives_replay name behind result here;
      help = gives_help name behind result here;
      usage = gives_usage name behind result here;
    }
