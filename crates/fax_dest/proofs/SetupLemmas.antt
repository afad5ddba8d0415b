-- A setup as it is read line by line.
use Rattle.std.proofs.Common.{◌≡◌, ℕ, ◌+◌, ◌≤◌, ◌<◌, Bool, false, ◌&&◌, nat_eq, List, [], ◌∷◌, ◌++◌, append_assoc, fold, refl, sym, ap, ◌∙◌, arith, filter_map}
use Rattle.std.specs.Prelude.{Option, Some, None, unwrap_or, Result, Ok, Err}
use Rattle.std.proofs.lemmas.Bool.{ne_eqb, eq-eqb}
use Rattle.std.proofs.lemmas.List.{append-nil}
use Rattle.jiff.specs.Types.{TimeZone as JiffZone}
use Rattle.fax_lines.specs.Reading.{lines}
use Rattle.fax_job.specs.declared.job.Call.TheVariants.{Connected, Busy, NoAnswer, NoCarrier, Other}
use Rattle.fax_dest.specs.Fault.{at_line, fault_at, is_big, compiled_on}
use Rattle.fax_dest.specs.Pattern.{compiled}
use Rattle.fax_dest.specs.Setting.{Setting, setting_of}
use Rattle.fax_dest.specs.Setup.{Shown, shown, shown_of, modem_in, class_in, delay_in, jobs_in, grants_in, zone_in, last_of, IsZoneFor, IsSetupOf, then_settings, settings_from, settings_of}
use Rattle.fax_dest.specs.SetupStep.{with_one, with_setting, IsZoneAfter, IsSetBy, IsEmpty}
use Rattle.fax_dest.specs.declared.fault.FileFault.{FileFault}
use Rattle.fax_dest.specs.declared.fault.FileKind.{FileKind}
use Rattle.fax_dest.specs.declared.setup.Setup.{Setup}

-- ---- one setting after another

-- to go through two lists is to go through one and then the other
pub fold-append : {A B : Type 0} (f : A → B → A) (s : A) (xs ys : List B) → fold f s (xs ++ ys) ≡ fold f (fold f s xs) ys
fold-append f s [] ys = refl
fold-append f s (x ∷ xs) ys = fold-append f (f s x) xs ys

abbrev by_setting : Shown → Setting → Shown
by_setting s setting = with_setting setting s

-- what is set in order
abbrev pub set_by : List Setting → Shown
set_by settings = fold by_setting (shown_of []) settings

-- one that is found in front comes before those found behind
filter_map-one : {A : Type 0} (get : Setting → Option A) (xs : List A) (o : Option A) (setting : Setting) (settings : List Setting) → get setting ≡ o → with_one xs o ++ filter_map get settings ≡ xs ++ filter_map get (setting ∷ settings)
filter_map-one get xs None setting settings e = rw e refl
filter_map-one get xs (Some x) setting settings e = rw e (append_assoc xs (x ∷ []) (filter_map get settings))

-- settings in order leave all modems
modems-fold : (s : Shown) (settings : List Setting) → (fold by_setting s settings).modems ≡ s.modems ++ filter_map modem_in settings
modems-fold s [] = sym (append-nil s.modems)
modems-fold s (x ∷ xs) = modems-fold (by_setting s x) xs ∙ filter_map-one modem_in s.modems (modem_in x) x xs refl

-- and all classes
classes-fold : (s : Shown) (settings : List Setting) → (fold by_setting s settings).classes ≡ s.classes ++ filter_map class_in settings
classes-fold s [] = sym (append-nil s.classes)
classes-fold s (x ∷ xs) = classes-fold (by_setting s x) xs ∙ filter_map-one class_in s.classes (class_in x) x xs refl

-- the last delay after a busy number
busy-fold : (s : Shown) (settings : List Setting) → (fold by_setting s settings).busy ≡ last_of (delay_in Busy) s.busy settings
busy-fold s [] = refl
busy-fold s (x ∷ xs) = busy-fold (by_setting s x) xs

-- after no answer
no_answer-fold : (s : Shown) (settings : List Setting) → (fold by_setting s settings).no_answer ≡ last_of (delay_in NoAnswer) s.no_answer settings
no_answer-fold s [] = refl
no_answer-fold s (x ∷ xs) = no_answer-fold (by_setting s x) xs

-- after no carrier
no_carrier-fold : (s : Shown) (settings : List Setting) → (fold by_setting s settings).no_carrier ≡ last_of (delay_in NoCarrier) s.no_carrier settings
no_carrier-fold s [] = refl
no_carrier-fold s (x ∷ xs) = no_carrier-fold (by_setting s x) xs

-- after any other call
other-fold : (s : Shown) (settings : List Setting) → (fold by_setting s settings).other ≡ last_of (delay_in Other) s.other settings
other-fold s [] = refl
other-fold s (x ∷ xs) = other-fold (by_setting s x) xs

-- and after a connected one
proto-fold : (s : Shown) (settings : List Setting) → (fold by_setting s settings).proto ≡ last_of (delay_in Connected) s.proto settings
proto-fold s [] = refl
proto-fold s (x ∷ xs) = proto-fold (by_setting s x) xs

-- the last number of jobs
max_jobs-fold : (s : Shown) (settings : List Setting) → (fold by_setting s settings).max_jobs ≡ last_of jobs_in s.max_jobs settings
max_jobs-fold s [] = refl
max_jobs-fold s (x ∷ xs) = max_jobs-fold (by_setting s x) xs

-- and of grants
max_grants-fold : (s : Shown) (settings : List Setting) → (fold by_setting s settings).max_grants ≡ last_of grants_in s.max_grants settings
max_grants-fold s [] = refl
max_grants-fold s (x ∷ xs) = max_grants-fold (by_setting s x) xs

-- setups that show the same of each are shown the same
same_shown : (a b : Shown) → a.modems ≡ b.modems → a.classes ≡ b.classes → a.busy ≡ b.busy → a.no_answer ≡ b.no_answer → a.no_carrier ≡ b.no_carrier → a.other ≡ b.other → a.proto ≡ b.proto → a.max_jobs ≡ b.max_jobs → a.max_grants ≡ b.max_grants → a ≡ b
same_shown a b e₁ e₂ e₃ e₄ e₅ e₆ e₇ e₈ e₉ = λ i. record { modems = e₁ i; classes = e₂ i; busy = e₃ i; no_answer = e₄ i; no_carrier = e₅ i; other = e₆ i; proto = e₇ i; max_jobs = e₈ i; max_grants = e₉ i }

-- to set in order is to keep all modems and classes, and of each other name the last
pub set_by-shown_of : (settings : List Setting) → set_by settings ≡ shown_of settings
set_by-shown_of xs = same_shown (set_by xs) (shown_of xs) (modems-fold (shown_of []) xs) (classes-fold (shown_of []) xs) (busy-fold (shown_of []) xs) (no_answer-fold (shown_of []) xs) (no_carrier-fold (shown_of []) xs) (other-fold (shown_of []) xs) (proto-fold (shown_of []) xs) (max_jobs-fold (shown_of []) xs) (max_grants-fold (shown_of []) xs)

-- ---- one line after another

-- no pattern up to a line is too big
abbrev pub Agrees : (ℕ → Bool) → ℕ → Type 0
Agrees too_big number = (k : ℕ) → k ≤ number → too_big k ≡ false

abbrev pub behind : List Setting → Result (List Setting) FileFault → Result (List Setting) FileFault
behind done (Ok settings) = Ok (done ++ settings)
behind done (Err fault) = Err fault

-- what is read behind no settings is as it was read
behind_none : (r : Result (List Setting) FileFault) → r ≡ behind [] r
behind_none (Ok settings) = refl
behind_none (Err fault) = refl

-- a setting in front is one behind those that were read
behind_one : (done : List Setting) (setting : Setting) (r : Result (List Setting) FileFault) → behind done (then_settings (Ok setting) r) ≡ behind (done ++ setting ∷ []) r
behind_one done setting (Ok settings) = ap (λ xs. Ok xs) (sym (append_assoc done (setting ∷ []) settings))
behind_one done setting (Err fault) = refl

-- by a test of the grammar
pub record IsReadTo (is_pattern : List ℕ → Bool) (text : List ℕ) (number : ℕ) (setup : Setup) (rest : List ℕ) : Type 0 where
  pub done : List Setting
  pub shown : shown setup ≡ set_by done
  pub zone : IsZoneFor (last_of zone_in None done) setup.zone
  pub left : (too_big : ℕ → Bool) → Agrees too_big number → settings_of text (compiled_on is_pattern too_big) ≡ behind done (settings_from (compiled_on is_pattern too_big) (number + 1) (lines rest))

-- nothing was read yet
pub read_first : (is_pattern : List ℕ → Bool) (text : List ℕ) (setup : Setup) → IsEmpty setup → IsReadTo is_pattern text 0 setup text
read_first is_pattern text setup empty = record {
  done = [];
  shown = empty.shown;
  zone = empty.zone;
  left = λ too_big agrees. behind_none (settings_from (compiled_on is_pattern too_big) 1 (lines text));
}

-- a setting leaves the zone for the last that was named
zone_more : (done : List Setting) (setting : Setting) (old new : JiffZone) (kept : Option (List ℕ)) (o : Option (Option (List ℕ))) → IsZoneFor kept old → IsZoneAfter o old new → IsZoneFor (unwrap_or o kept) new
zone_more done setting old new kept (Some text) before after = after
zone_more done setting old new kept None before after = rw after before

-- what is read of the lines is the next one's, and then that of those behind
step_is : (is_pattern : List ℕ → Bool) (too_big : ℕ → Bool) (number : ℕ) (line rest after : List ℕ) (b : Bool) (r : Result Setting FileKind) → lines rest ≡ line ∷ lines after → too_big (number + 1) ≡ b → setting_of line (compiled is_pattern b) ≡ r → settings_from (compiled_on is_pattern too_big) (number + 1) (lines rest) ≡ then_settings (at_line (number + 1) r) (settings_from (compiled_on is_pattern too_big) (number + 1 + 1) (lines after))
step_is is_pattern too_big number line rest after b r cut e is =
    let compile = compiled_on is_pattern too_big in
    ap (settings_from compile (number + 1)) cut
    ∙ ap (λ b. then_settings (at_line (number + 1) (setting_of line (compiled is_pattern b))) (settings_from compile (number + 1 + 1) (lines after))) e
    ∙ ap (λ r. then_settings (at_line (number + 1) r) (settings_from compile (number + 1 + 1) (lines after))) is

-- one line more was read and set
pub read_more : (is_pattern : List ℕ → Bool) (text : List ℕ) (number : ℕ) (old new : Setup) (line rest after : List ℕ) (setting : Setting) → IsReadTo is_pattern text number old rest → lines rest ≡ line ∷ lines after → setting_of line (compiled is_pattern false) ≡ Ok setting → IsSetBy setting old new → IsReadTo is_pattern text (number + 1) new after
read_more is_pattern text number old new line rest after setting read cut is set = record {
  done = read.done ++ setting ∷ [];
  shown = set.shown ∙ ap (with_setting setting) read.shown ∙ sym (fold-append by_setting (shown_of []) read.done (setting ∷ []));
  zone = rw (fold-append (λ kept x. unwrap_or (zone_in x) kept) None read.done (setting ∷ [])) (zone_more read.done setting old.zone new.zone (last_of zone_in None read.done) (zone_in setting) read.zone set.zone);
  left = λ too_big agrees.
      read.left too_big (λ k h. agrees k (omega arith))
      ∙ ap (behind read.done) (step_is is_pattern too_big number line rest after false (Ok setting) cut (agrees (number + 1) (omega arith)) is)
      ∙ behind_one read.done setting (settings_from (compiled_on is_pattern too_big) (number + 1 + 1) (lines after));
}

-- the pattern of one line alone is too big
abbrev pub at_one : ℕ → Bool → ℕ → Bool
at_one number b k = nat_eq k number && b

-- no earlier pattern is too big
pub at_one_before : (number : ℕ) (b : Bool) (k : ℕ) → k < number → at_one number b k ≡ false
at_one_before number b k h = ap (λ t. t && b) (ne_eqb k number (λ e. absurd (omega arith)))

-- that of the line is, where it is said to be
pub at_one_here : (number : ℕ) (b : Bool) → at_one number b number ≡ b
at_one_here number b = ap (λ t. t && b) (eq-eqb number number refl)

-- where the next line has a fault, the text has it
pub read_fault : (is_pattern : List ℕ → Bool) (text : List ℕ) (number : ℕ) (setup : Setup) (line rest after : List ℕ) (kind : FileKind) → IsReadTo is_pattern text number setup rest → lines rest ≡ line ∷ lines after → setting_of line (compiled is_pattern (is_big kind)) ≡ Err kind → settings_of text (compiled_on is_pattern (at_one (number + 1) (is_big kind))) ≡ Err (fault_at (number + 1) kind)
read_fault is_pattern text number setup line rest after kind read cut is =
    let too_big = at_one (number + 1) (is_big kind) in
    read.left too_big (λ k h. at_one_before (number + 1) (is_big kind) k (omega arith))
    ∙ ap (behind read.done) (step_is is_pattern too_big number line rest after (is_big kind) (Err kind) cut (at_one_here (number + 1) (is_big kind)) is)

-- where nothing is left, all lines were read, and this is their setup
pub read_last : (is_pattern : List ℕ → Bool) (text : List ℕ) (number : ℕ) (setup : Setup) (rest : List ℕ) → IsReadTo is_pattern text number setup rest → rest ≡ [] → (settings : List Setting) × (settings_of text (compiled_on is_pattern (λ k. false)) ≡ Ok settings) × IsSetupOf settings setup
read_last is_pattern text number setup rest read over =
    let compile = compiled_on is_pattern (λ (k : ℕ). false) in (
      read.done,
      read.left (λ k. false) (λ k h. refl) ∙ ap (λ t. behind read.done (settings_from compile (number + 1) (lines t))) over ∙ ap (λ xs. Ok xs) (append-nil read.done),
      record { shown = read.shown ∙ set_by-shown_of read.done; zone = read.zone },
    )
