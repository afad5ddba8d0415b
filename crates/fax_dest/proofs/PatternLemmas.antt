-- What a pattern on a line gives.
use Rattle.std.proofs.Common.{◌≡◌, ℕ, Bool, true, false, cond, List, refl, ap, ◌∙◌, subst}
use Rattle.std.specs.Prelude.{Result, Ok, Err}
use Rattle.regex.specs.Failures.{IsPattern}
use Rattle.regex.specs.Names.{names_of}
use Rattle.regex.specs.Patterns.{Config, default_config}
use Rattle.regex.specs.Strings.{regex_source, regex_config, IsReadFromSource}
use Rattle.regex.specs.declared.string.regex.Regex.{Regex}
use Rattle.fax_dest.specs.Fault.{is_big}
use Rattle.fax_dest.specs.Pattern.{compiled}
use Rattle.fax_dest.specs.declared.fault.FileKind.{FileKind}
use Rattle.fax_dest.specs.declared.fault.FileKind.TheVariants.{NotText, NoColon, NoRule, NoEquals, BadQuote, BadValue, BadHours, BadPattern, BigPattern, BadZone, NoMemory}

-- a pattern is one in the same spelling and configuration
alike : (c d : Config) (s t : List ℕ) → c ≡ d → s ≡ t → IsPattern c s → IsPattern d t
alike c d s t config source found = subst (λ c. IsPattern c t) config (subst (λ s. IsPattern c s) source found)

-- the grammar reads the text of a pattern that was compiled
pub pattern_read : (r : Regex) (text : List ℕ) → regex_source r ≡ text → regex_config r ≡ default_config → IsReadFromSource r → IsPattern default_config text
pattern_read r text source config read =
    alike (regex_config r) default_config (regex_source r) text config source (r.pattern.program.hir, names_of r.pattern.names.items, read)

-- a pattern that isn't too big is compiled
pub compiled_fine : (is_pattern : List ℕ → Bool) (text : List ℕ) → is_pattern text ≡ true → compiled is_pattern false text ≡ Ok text
unfolding compiled
compiled_fine is_pattern text e = rw e refl

-- one that is too big is refused for it
pub compiled_big : (is_pattern : List ℕ → Bool) (text : List ℕ) → is_pattern text ≡ true → compiled is_pattern true text ≡ Err BigPattern
unfolding compiled
compiled_big is_pattern text e = rw e refl

-- what is no pattern is refused for that
pub compiled_bad : (is_pattern : List ℕ → Bool) (too_big : Bool) (text : List ℕ) → is_pattern text ≡ false → compiled is_pattern too_big text ≡ Err BadPattern
unfolding compiled
compiled_bad is_pattern too_big text e = rw e refl

abbrev told : FileKind → Result (List ℕ) FileKind
told kind = Err kind

-- what would be compiled, were it not too big, is refused for that
big_by : (b : Bool) (text source : List ℕ) → cond b (Ok text) (told BadPattern) ≡ Ok source → cond b (told BigPattern) (told BadPattern) ≡ told BigPattern
big_by true text source e = refl
big_by false text source e = cc

-- what is compiled may be too big
big_instead : (is_pattern : List ℕ → Bool) (text source : List ℕ) → compiled is_pattern false text ≡ Ok source → compiled is_pattern true text ≡ Err BigPattern
unfolding compiled
big_instead is_pattern text source e = big_by (is_pattern text) text source e

-- a fault behind a pattern that was compiled
pub fault_behind : {A : Type 0} (is_pattern : List ℕ → Bool) (text source : List ℕ) (f : Result (List ℕ) FileKind → Result A FileKind) (kind : FileKind) → compiled is_pattern false text ≡ Ok source → f (Err BigPattern) ≡ Err BigPattern → f (Ok source) ≡ Err kind → f (compiled is_pattern (is_big kind) text) ≡ Err kind
fault_behind is_pattern text source f NotText fine big e = ap f fine ∙ e
fault_behind is_pattern text source f NoColon fine big e = ap f fine ∙ e
fault_behind is_pattern text source f NoRule fine big e = ap f fine ∙ e
fault_behind is_pattern text source f NoEquals fine big e = ap f fine ∙ e
fault_behind is_pattern text source f BadQuote fine big e = ap f fine ∙ e
fault_behind is_pattern text source f BadValue fine big e = ap f fine ∙ e
fault_behind is_pattern text source f BadHours fine big e = ap f fine ∙ e
fault_behind is_pattern text source f BadPattern fine big e = ap f fine ∙ e
fault_behind is_pattern text source f BigPattern fine big e = ap f (big_instead is_pattern text source fine) ∙ big
fault_behind is_pattern text source f BadZone fine big e = ap f fine ∙ e
fault_behind is_pattern text source f NoMemory fine big e = ap f fine ∙ e
