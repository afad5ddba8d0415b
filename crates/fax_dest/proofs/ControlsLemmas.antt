-- Controls as they are read line by line.
use Rattle.regex.specs.Strings.{regex_source}
use Rattle.std.proofs.Math.ListN.{set}
use Rattle.std.proofs.Common.{zero, nat_eq, get_or, ◌≡◌, ℕ, suc, ◌+◌, Bool, true, false, ◌||◌, List, [], ◌∷◌, ◌++◌, append_assoc, length, fold, refl, sym, ap, ◌∙◌, arith}
use Rattle.std.specs.Prelude.{Result, Ok, Err}
use Rattle.std.proofs.Math.Bool.{or-false}
use Rattle.std.proofs.lemmas.List.{append-nil}
use Rattle.fax_lines.specs.Reading.{lines}
use Rattle.fax_dest.specs.Controls.{Line, Skipped, Begins, Adds, Spelled, spelled, Groups, groups_of, is_beginning, onto, then_lines, lines_from, lines_of, line_of}
use Rattle.fax_dest.specs.ControlsStep.{rules_of, has_rule, with_last, taken, IsTaken}
use Rattle.fax_dest.specs.Fault.{at_line, fault_at, is_big, compiled_on}
use Rattle.fax_dest.specs.Pattern.{compiled}
use Rattle.fax_dest.specs.Rule.{rule_of, with_parameter, last_of, calls_in, pages_in, week_in, notice_of}
use Rattle.fax_rule.specs.Rule.{default_rule}
use Rattle.fax_dest.specs.declared.controls.Entry.{Entry}
use Rattle.fax_dest.specs.declared.fault.FileFault.{FileFault}
use Rattle.fax_dest.specs.declared.fault.FileKind.{FileKind}
use Rattle.fax_dest.specs.declared.parameter.Parameter.{Parameter}
use Rattle.fax_rule.specs.declared.rule.Rule.{Rule}
use Rattle.fax_dest.proofs.SetupLemmas.{fold-append, Agrees, at_one, at_one_before, at_one_here}

-- ---- one parameter after another

-- parameters set in order leave the last number of calls
calls-fold : (r : Rule) (ps : List Parameter) → (fold with_parameter r ps).calls ≡ last_of calls_in r.calls ps
calls-fold r [] = refl
calls-fold r (p ∷ ps) = calls-fold (with_parameter r p) ps

-- the last number of pages
pages-fold : (r : Rule) (ps : List Parameter) → (fold with_parameter r ps).pages ≡ last_of pages_in r.pages ps
pages-fold r [] = refl
pages-fold r (p ∷ ps) = pages-fold (with_parameter r p) ps

-- the last hours
hours-fold : (r : Rule) (ps : List Parameter) → (fold with_parameter r ps).hours ≡ last_of week_in r.hours ps
hours-fold r [] = refl
hours-fold r (p ∷ ps) = hours-fold (with_parameter r p) ps

-- and the last notice
notice-fold : (r : Rule) (ps : List Parameter) → (fold with_parameter r ps).notice ≡ last_of notice_of r.notice ps
notice-fold r [] = refl
notice-fold r (p ∷ ps) = notice-fold (with_parameter r p) ps

-- rules with the same calls, pages, hours and notice are the same
same_rule : (a b : Rule) → a.calls ≡ b.calls → a.pages ≡ b.pages → a.hours ≡ b.hours → a.notice ≡ b.notice → a ≡ b
same_rule a b e₁ e₂ e₃ e₄ = λ i. record { calls = e₁ i; pages = e₂ i; hours = e₃ i; notice = e₄ i }

-- to set in order is to keep the last of each name
pub fold-rule_of : (ps : List Parameter) → fold with_parameter default_rule ps ≡ rule_of ps
fold-rule_of ps = same_rule (fold with_parameter default_rule ps) (rule_of ps) (calls-fold default_rule ps) (pages-fold default_rule ps) (hours-fold default_rule ps) (notice-fold default_rule ps)

-- parameters set behind others make the rule of both
rule_of-append : (ps qs : List Parameter) → fold with_parameter (rule_of ps) qs ≡ rule_of (ps ++ qs)
rule_of-append ps qs =
    ap (λ r. fold with_parameter r qs) (sym (fold-rule_of ps)) ∙ sym (fold-append with_parameter default_rule ps qs) ∙ fold-rule_of (ps ++ qs)

-- ---- the last rule

abbrev with_rule : Spelled → List Parameter → Spelled
with_rule s ps = record { pattern = s.pattern; rule = fold with_parameter s.rule ps }

-- a parameter behind the last rule sets that
with_last-append : (rs : List Spelled) (s : Spelled) (p : Parameter) → with_last (rs ++ s ∷ []) p ≡ rs ++ with_rule s (p ∷ []) ∷ []
with_last-append [] s p = refl
with_last-append (r ∷ []) s p = refl
with_last-append (r ∷ q ∷ rs) s p = ap (λ t. r ∷ t) (with_last-append (q ∷ rs) s p)

-- so do parameters in order
fold-with_last : (rs : List Spelled) (s : Spelled) (ps : List Parameter) → fold with_last (rs ++ s ∷ []) ps ≡ rs ++ with_rule s ps ∷ []
fold-with_last rs s [] = refl
fold-with_last rs s (p ∷ ps) = ap (λ t. fold with_last t ps) (with_last-append rs s p) ∙ fold-with_last rs (with_rule s (p ∷ [])) ps

-- ---- the rules as groups

abbrev joined : List Spelled → Groups → List Spelled
joined rs groups = fold with_last rs groups.before ++ groups.rules

-- what the lines make, taken one after another
pub taken-fold : (rs : List Spelled) (ls : List Line) → fold taken rs ls ≡ joined rs (groups_of ls)
taken-fold rs [] = sym (append-nil rs)
taken-fold rs (Skipped ∷ ls) = taken-fold rs ls
taken-fold rs (Adds p ∷ ls) = taken-fold (with_last rs p) ls
taken-fold rs (Begins pattern ps ∷ ls) =
    taken-fold (rs ++ record { pattern = pattern; rule = rule_of ps } ∷ []) ls
    ∙ ap (λ t. t ++ (groups_of ls).rules) (fold-with_last rs (record { pattern = pattern; rule = rule_of ps }) (groups_of ls).before)
    ∙ append_assoc rs (with_rule (record { pattern = pattern; rule = rule_of ps }) (groups_of ls).before ∷ []) (groups_of ls).rules
    ∙ ap (λ r. rs ++ record { pattern = pattern; rule = r } ∷ (groups_of ls).rules) (rule_of-append ps (groups_of ls).before)

-- with no rule above, parameters set none
fold-with_last-none : (ps : List Parameter) → fold with_last [] ps ≡ []
fold-with_last-none [] = refl
fold-with_last-none (p ∷ ps) = fold-with_last-none ps

-- lines taken in order make the rules of their groups
pub taken-groups_of : (ls : List Line) → fold taken [] ls ≡ (groups_of ls).rules
taken-groups_of ls = taken-fold [] ls ∙ ap (λ t. t ++ (groups_of ls).rules) (fold-with_last-none (groups_of ls).before)

-- ---- a rule stands above

-- where a rule is last, a rule stands above
has_rule-last : (rs : List Spelled) (s : Spelled) → has_rule (rs ++ s ∷ []) ≡ true
has_rule-last [] s = refl
has_rule-last (r ∷ rs) s = refl

-- a parameter leaves whether one does
has_rule-with_last : (rs : List Spelled) (p : Parameter) → has_rule (with_last rs p) ≡ has_rule rs
has_rule-with_last [] p = refl
has_rule-with_last (r ∷ []) p = refl
has_rule-with_last (r ∷ q ∷ rs) p = refl

or_true : (b : Bool) → true ≡ (b || true)
or_true true = refl
or_true false = refl

-- a line leaves a rule above where there was one, or it begins one
pub has_rule-taken : (rs : List Spelled) (line : Line) → has_rule (taken rs line) ≡ (has_rule rs || is_beginning line)
has_rule-taken rs Skipped = sym (or-false (has_rule rs))
has_rule-taken rs (Adds p) = has_rule-with_last rs p ∙ sym (or-false (has_rule rs))
has_rule-taken rs (Begins pattern ps) = has_rule-last rs (record { pattern = pattern; rule = rule_of ps }) ∙ or_true (has_rule rs)

-- ---- one line after another

abbrev pub behind : List Line → Result (List Line) FileFault → Result (List Line) FileFault
behind done (Ok ls) = Ok (done ++ ls)
behind done (Err fault) = Err fault

-- what is read behind no lines is as it was read
behind_none : (r : Result (List Line) FileFault) → r ≡ behind [] r
behind_none (Ok ls) = refl
behind_none (Err fault) = refl

-- a line in front is one behind those that were read
behind_one : (done : List Line) (line : Line) (r : Result (List Line) FileFault) → behind done (onto line r) ≡ behind (done ++ line ∷ []) r
behind_one done line (Ok ls) = ap (λ xs. Ok xs) (sym (append_assoc done (line ∷ []) ls))
behind_one done line (Err fault) = refl

-- by a test of the grammar
pub record IsReadTo (is_pattern : List ℕ → Bool) (text : List ℕ) (number : ℕ) (rules : List Entry) (rest : List ℕ) : Type 0 where
  pub done : List Line
  pub shown : rules_of rules ≡ fold taken [] done
  pub left : (too_big : ℕ → Bool) → Agrees too_big number → lines_of text (compiled_on is_pattern too_big) ≡ behind done (lines_from (compiled_on is_pattern too_big) (has_rule (rules_of rules)) (number + 1) (lines rest))

-- nothing was read yet
pub read_first : (is_pattern : List ℕ → Bool) (text : List ℕ) (rules : List Entry) → rules ≡ [] → IsReadTo is_pattern text 0 rules text
read_first is_pattern text rules none = record {
  done = [];
  shown = ap rules_of none;
  left = λ too_big agrees.
      let compile = compiled_on is_pattern too_big in
      behind_none (lines_from compile false 1 (lines text)) ∙ ap (λ rs. behind [] (lines_from compile (has_rule (rules_of rs)) 1 (lines text))) (sym none);
}

-- what is read of the lines is the next one's, and then that of those behind
step_is : (is_pattern : List ℕ → Bool) (too_big : ℕ → Bool) (under : Bool) (number : ℕ) (line rest after : List ℕ) (b : Bool) (r : Result Line FileKind) → lines rest ≡ line ∷ lines after → too_big (number + 1) ≡ b → line_of under line (compiled is_pattern b) ≡ r → lines_from (compiled_on is_pattern too_big) under (number + 1) (lines rest) ≡ then_lines (at_line (number + 1) r) (λ begun. lines_from (compiled_on is_pattern too_big) (under || begun) (number + 1 + 1) (lines after))
step_is is_pattern too_big under number line rest after b r cut e is =
    let compile = compiled_on is_pattern too_big in
    ap (lines_from compile under (number + 1)) cut
    ∙ ap (λ b. then_lines (at_line (number + 1) (line_of under line (compiled is_pattern b))) (λ begun. lines_from compile (under || begun) (number + 1 + 1) (lines after))) e
    ∙ ap (λ r. then_lines (at_line (number + 1) r) (λ begun. lines_from compile (under || begun) (number + 1 + 1) (lines after))) is

-- one line more was read and taken
pub read_more : (is_pattern : List ℕ → Bool) (text : List ℕ) (number : ℕ) (old new : List Entry) (line rest after : List ℕ) (item : Line) → IsReadTo is_pattern text number old rest → lines rest ≡ line ∷ lines after → line_of (has_rule (rules_of old)) line (compiled is_pattern false) ≡ Ok item → IsTaken item old new → IsReadTo is_pattern text (number + 1) new after
read_more is_pattern text number old new line rest after item read cut is set = record {
  done = read.done ++ item ∷ [];
  shown = set.rules ∙ ap (λ rs. taken rs item) read.shown ∙ sym (fold-append taken [] read.done (item ∷ []));
  left = λ too_big agrees.
      let compile = compiled_on is_pattern too_big in
      read.left too_big (λ k h. agrees k (omega arith))
      ∙ ap (behind read.done) (step_is is_pattern too_big (has_rule (rules_of old)) number line rest after false (Ok item) cut (agrees (number + 1) (omega arith)) is)
      ∙ behind_one read.done item (lines_from compile (has_rule (rules_of old) || is_beginning item) (number + 1 + 1) (lines after))
      ∙ ap (λ under. behind (read.done ++ item ∷ []) (lines_from compile under (number + 1 + 1) (lines after))) (sym (ap has_rule set.rules ∙ has_rule-taken (rules_of old) item));
}

-- where the next line has a fault, the text has it
pub read_fault : (is_pattern : List ℕ → Bool) (text : List ℕ) (number : ℕ) (rules : List Entry) (line rest after : List ℕ) (kind : FileKind) → IsReadTo is_pattern text number rules rest → lines rest ≡ line ∷ lines after → line_of (has_rule (rules_of rules)) line (compiled is_pattern (is_big kind)) ≡ Err kind → lines_of text (compiled_on is_pattern (at_one (number + 1) (is_big kind))) ≡ Err (fault_at (number + 1) kind)
read_fault is_pattern text number rules line rest after kind read cut is =
    let too_big = at_one (number + 1) (is_big kind) in
    read.left too_big (λ k h. at_one_before (number + 1) (is_big kind) k (omega arith))
    ∙ ap (behind read.done) (step_is is_pattern too_big (has_rule (rules_of rules)) number line rest after (is_big kind) (Err kind) cut (at_one_here (number + 1) (is_big kind)) is)

-- where nothing is left, all lines were read, and these are their rules
pub read_last : (is_pattern : List ℕ → Bool) (text : List ℕ) (number : ℕ) (rules : List Entry) (rest : List ℕ) → IsReadTo is_pattern text number rules rest → rest ≡ [] → (ls : List Line) × (lines_of text (compiled_on is_pattern (λ k. false)) ≡ Ok ls) × (rules_of rules ≡ (groups_of ls).rules)
read_last is_pattern text number rules rest read over =
    let compile = compiled_on is_pattern (λ (k : ℕ). false) in (
      read.done,
      read.left (λ k. false) (λ k h. refl) ∙ ap (λ t. behind read.done (lines_from compile (has_rule (rules_of rules)) (number + 1) (lines t))) over ∙ ap (λ xs. Ok xs) (append-nil read.done),
      read.shown ∙ taken-groups_of read.done,
    )

-- ---- the last of the entries

-- where there are entries, a rule stands above
pub has_rule-some : (es : List Entry) → nat_eq (length es) 0 ≡ false → has_rule (rules_of es) ≡ true
has_rule-some [] some = sym some
has_rule-some (e ∷ es) some = refl

abbrev with_added : Entry → Parameter → Spelled
with_added old p = record { pattern = regex_source old.pattern; rule = with_parameter old.rule p }

-- setting the last entry sets the last rule
pub set_last : (es : List Entry) (at : ℕ) (old new : Entry) (p : Parameter) → at + 1 ≡ length es → old ≡ get_or es at old → spelled new ≡ with_added old p → rules_of (set es at new) ≡ with_last (rules_of es) p
set_last [] at old new p size is made = absurd (omega arith)
set_last (e ∷ []) zero old new p size is made = ap (λ s. s ∷ []) (made ∙ ap (λ o. with_added o p) is)
set_last (e ∷ []) (suc at) old new p size is made = absurd (omega arith)
set_last (e ∷ f ∷ es) zero old new p size is made = absurd (omega arith)
set_last (e ∷ f ∷ es) (suc at) old new p size is made = ap (λ t. spelled e ∷ t) (set_last (f ∷ es) at old new p (omega arith) is made)

-- an entry with a parameter more has the rule with it
pub spelled_by : (old : Entry) (p : Parameter) (rule : Rule) → rule ≡ with_parameter old.rule p → spelled (record { pattern = old.pattern; rule = rule; plain = old.plain }) ≡ with_added old p
spelled_by old p rule e = ap (λ r. record { pattern = regex_source old.pattern; rule = r }) e
