-- An option with a value of its own, whatever that is, as clap walks over it.
use Rattle.std.proofs.Common.{◌≡◌, ◌∙◌, ℕ, Bool, true, false, List, [], ◌∷◌, codes, Some, None, cond, refl, ap, ap₂, eqb, ◌&&◌}
use Rattle.std.specs.Prelude.{option_and_then, slice_get, unwrap_or}
use Rattle.std.specs.Str.{bytes_eq}
use Rattle.std.specs.Option.{option_map_or}
use Rattle.clap.proofs.OnLiterals.{clap_on_literals}
use Rattle.clap.specs.Faults.{bundle_fault, check_fault, defaults_fault, flag_word_fault, level_fault, settle_fault, step_fault, turn_fault, walk_fault, word_fault}
use Rattle.clap.specs.Kinds.{Kinds, or_else}
use Rattle.clap.specs.Lexer.{long_of, long_of_rest, short_of, short_of_rest, strip_byte}
use Rattle.clap.specs.Simple.{Shape, built}
use Rattle.clap.specs.Walk.{Held, Row, Rule, Text, Walk, Waiting, after_step, arg_by_id, finished, idle, long_or_other, next, nothing_held, option, option_word, short_or_plain, trailing, settled, walk, walk_from, walked, word_met}
use Rattle.fax_text.specs.CommandLine.{IsPlainWord}
use Rattle.fax_text.specs.Server.{replay_command}
use Rattle.fax_text.specs.Words.{program}

-- where a choice by a test gives none, the test isn't true, with anything beside it
not_both : (b r : Bool) (rest : Text) → cond b (Some rest) None ≡ None → (b && r) ≡ false
not_both true r rest e = absurd (let no = e in cc)
not_both false r rest e = refl

-- a plain word isn't the two dashes
pub no_dashes : (word : Text) → IsPlainWord word → bytes_eq word (45 ∷ 45 ∷ []) ≡ false
no_dashes [] plain = refl
no_dashes (x ∷ xs) plain = not_both (eqb x 45) (bytes_eq xs (45 ∷ [])) xs plain

-- nor a long option
pub no_long : (word : Text) → IsPlainWord word → long_of word ≡ None
no_long word plain = ap (λ o. option_and_then long_of_rest (option_and_then (strip_byte 45) o)) plain

-- nor short ones
pub no_short : (word : Text) → IsPlainWord word → short_of word ≡ None
no_short word plain = ap (option_and_then short_of_rest) plain

module _ (c : List Rule) (id word : Text) (plain : IsPlainWord word) (position : ℕ) (h : Held) where
  -- it is the value that the option waits for
  value_met : word_met c [] false (option id) position word h
      ≡ ((option_word (arg_by_id c id) id word h).0, next (option_word (arg_by_id c id) id word h).1)
  value_met =
      ap (λ b. cond b (h, trailing position) (long_or_other c (option id) word (long_of word) h)) (no_dashes word plain)
      ∙ ap (λ l. long_or_other c (option id) word l h) (no_long word plain)
      ∙ ap (λ s. short_or_plain c (option id) word s h) (no_short word plain)

module _ (s : Shape) (id word : Text) (plain : IsPlainWord word) (h : Held) where
  -- and no fault
  pub no_fault : word_fault s [] false (option id) word h ≡ []
  no_fault =
      ap (λ b. cond b [] (flag_word_fault s.rules s.args_override_self (long_of word) word h)) (no_dashes word plain)
      ∙ ap (λ l. flag_word_fault s.rules s.args_override_self l word h) (no_long word plain)
      ∙ ap (λ o. option_map_or (λ flags. bundle_fault s.rules s.args_override_self flags h) o []) (no_short word plain)

-- `replay` with what clap adds to it
abbrev pub leaf : Shape
leaf = unwrap_or (slice_get (built program).subs 0) replay_command.top

abbrev pub state : Held → Waiting → Walk
state h waiting = record { held = h; waiting = waiting; position = 1; is_trailing = false; stopped = None }

module _ (id word : Text) (plain : IsPlainWord word) (h : Held) where
  -- the option takes the word, and waits for no more
  value_walked : walked leaf.rules [] (state h (option id)) word
      ≡ state (option_word (arg_by_id leaf.rules id) id word h).0 (option_word (arg_by_id leaf.rules id) id word h).1
  unfolding walked
  value_walked = ap (λ met. after_step leaf.rules word (state h (option id)) met.0 met.1) (value_met leaf.rules id word plain 1 h)

  -- with no fault
  no_turn_fault : turn_fault leaf [] (state h (option id)) word ≡ []
  no_turn_fault = ap₂ or_else (no_fault leaf id word plain h) (ap (λ met. step_fault leaf 1 met.0 met.1) (value_met leaf.rules id word plain 1 h))

-- what stays to be looked at behind the words
abbrev pub end_fault : Walk → Kinds
end_fault w = or_else (settle_fault leaf.rules leaf.args_override_self w.held)
    (or_else (defaults_fault (settled leaf.rules w.held).rows leaf.rules) (check_fault leaf (finished leaf.rules w.held) false))

-- the options come to this end without a fault
pub record ComesTo (words : List Text) (end : Walk) : Type 0 where
  pub faults : walk_fault leaf [] (walk_from nothing_held) words ≡ []
  pub walks : walk leaf.rules [] nothing_held words ≡ end

-- words that come to an end without a fault have none
pub no_level_fault : (words : List Text) (end : Walk) → ComesTo words end → end_fault end ≡ [] → level_fault leaf [] nothing_held words false [] ≡ []
no_level_fault words end comes none = ap₂ (λ k w. or_else k (end_fault w)) comes.faults comes.walks ∙ none

abbrev pub pending : Text → Text → List Row → Held
pending id word rows = record { rows = rows; pending = Some (id, word ∷ []); skip = 0 }

abbrev pub waiting_for : Text → List Row → Held
waiting_for id rows = record { rows = rows; pending = Some (id, []); skip = 0 }

-- `--setup` and a file come to this end
pub setup_alone : (file : Text) → IsPlainWord file → ComesTo (codes "--setup" ∷ file ∷ []) (state (pending (codes "setup") file []) idle)
unfolding clap_on_literals
setup_alone file plain = record {
  faults = ap (λ k. or_else k []) (no_turn_fault (codes "setup") file plain (waiting_for (codes "setup") []));
  walks = value_walked (codes "setup") file plain (waiting_for (codes "setup") []);
}

-- so do `--controls` and a file
pub controls_alone : (file : Text) → IsPlainWord file → ComesTo (codes "--controls" ∷ file ∷ []) (state (pending (codes "controls") file []) idle)
unfolding clap_on_literals
controls_alone file plain = record {
  faults = ap (λ k. or_else k []) (no_turn_fault (codes "controls") file plain (waiting_for (codes "controls") []));
  walks = value_walked (codes "controls") file plain (waiting_for (codes "controls") []);
}

-- the rows behind the value of a first option
abbrev pub rows_behind : Text → Text → List Row
rows_behind id file = (settled leaf.rules (pending id file [])).rows

-- `--setup` and a file, and then `--controls` and another, come to this end
pub setup_first : (file other : Text) → IsPlainWord file → IsPlainWord other
    → ComesTo (codes "--setup" ∷ file ∷ codes "--controls" ∷ other ∷ []) (state (pending (codes "controls") other (rows_behind (codes "setup") file)) idle)
unfolding clap_on_literals
setup_first file other plain plain₂ =
    let here = waiting_for (codes "setup") [] in
    let there = waiting_for (codes "controls") (rows_behind (codes "setup") file) in
    record {
      faults =
          ap (λ k. or_else k (walk_fault leaf [] (walked leaf.rules [] (state here (option (codes "setup"))) file) (codes "--controls" ∷ other ∷ []))) (no_turn_fault (codes "setup") file plain here)
          ∙ ap (λ w. walk_fault leaf [] w (codes "--controls" ∷ other ∷ [])) (value_walked (codes "setup") file plain here)
          ∙ ap (λ k. or_else k []) (no_turn_fault (codes "controls") other plain₂ there);
      walks =
          ap (λ w. walked leaf.rules [] (walked leaf.rules [] w (codes "--controls")) other) (value_walked (codes "setup") file plain here)
          ∙ value_walked (codes "controls") other plain₂ there;
    }

-- the same two in the other order do too
pub controls_first : (file other : Text) → IsPlainWord file → IsPlainWord other
    → ComesTo (codes "--controls" ∷ file ∷ codes "--setup" ∷ other ∷ []) (state (pending (codes "setup") other (rows_behind (codes "controls") file)) idle)
unfolding clap_on_literals
controls_first file other plain plain₂ =
    let here = waiting_for (codes "controls") [] in
    let there = waiting_for (codes "setup") (rows_behind (codes "controls") file) in
    record {
      faults =
          ap (λ k. or_else k (walk_fault leaf [] (walked leaf.rules [] (state here (option (codes "controls"))) file) (codes "--setup" ∷ other ∷ []))) (no_turn_fault (codes "controls") file plain here)
          ∙ ap (λ w. walk_fault leaf [] w (codes "--setup" ∷ other ∷ [])) (value_walked (codes "controls") file plain here)
          ∙ ap (λ k. or_else k []) (no_turn_fault (codes "setup") other plain₂ there);
      walks =
          ap (λ w. walked leaf.rules [] (walked leaf.rules [] w (codes "--setup")) other) (value_walked (codes "controls") file plain here)
          ∙ value_walked (codes "setup") other plain₂ there;
    }
