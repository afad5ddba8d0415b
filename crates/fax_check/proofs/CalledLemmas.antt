-- Whether a number that is dialed is counted.
use Rattle.std.proofs.Common.{◌≡◌, ℕ, List, [], ◌∷◌, map, filter, drop, Bool, true, ◌&&◌, refl, sym, ap, subst, ◌∙◌, arith}
use Rattle.std.specs.List.Sorted.{IsPermutation}
use Rattle.std.specs.Bool.{Decides}
use Rattle.std.proofs.lemmas.Bool.{and_parts}
use Rattle.std.proofs.lemmas.Slice.Eq.{bytes_eq-Decides}
use Rattle.sqlite.specs.Effect.{Database}
use Rattle.sqlite.specs.Order.{Row, column}
use Rattle.sqlite.specs.State.{State, Shown}
use Rattle.sqlite.specs.declared.types.Value.TheVariants.{Text}
use Rattle.sqlite_rules.specs.Lists.{Has}
use Rattle.fax_check.specs.Check.{IsCalled}
use Rattle.fax_check.specs.Sound.{IsStored}
use Rattle.fax_check.specs.Whole.{Holder, dialing}
use Rattle.fax_check.proofs.BridgeLemmas.{at_is, shows, two}
use Rattle.fax_check.proofs.ShapeLemmas as shape
use Rattle.fax_schema.specs.Schema.{calls_tree}
use Rattle.fax_schema.specs.declared.statements.TheConstants.{SELECT_OPEN}
use Rattle.fax_layout.proofs.CompareLemmas.{are_equal, equal_texts}
use Rattle.fax_layout.proofs.EditLemmas.{one_shown, shown_one}
use Rattle.fax_schema.proofs.GrantTexts.{call_tests, call_project, select_open}
use Rattle.fax_layout.proofs.SelectLemmas.{passes, show}
use Rattle.fax_tables.specs.Row.{HasNumber, HasValue, call_columns, number}

module _ (old new : State) (db : Database) (stored : IsStored db) (now : old.now ≡ db) (held : List Holder) (h : Holder) (rows : List Row)
    (shown : Shown SELECT_OPEN.now (Text h.dial ∷ []) old new rows) where
  abbrev params : Row
  params = Text h.dial ∷ []

  permuted : IsPermutation (map (show calls_tree call_tests call_project params) (filter (passes calls_tree call_tests call_project params) (db.trees calls_tree))) rows
  permuted = shows SELECT_OPEN.now calls_tree call_tests call_project _ select_open (λ trees. refl) params old new db stored.schema_is now rows shown

  -- a row that is shown counts it
  pub counted : (row : Row) → Has rows row → HasValue row 0 (number (dialing h.dial held)) → IsCalled db held h
  counted row has value =
      let it = shown_one (passes calls_tree call_tests call_project params) (show calls_tree call_tests call_project params) (db.trees calls_tree) rows permuted row has in
      let r = it.0 in
      let dial = shape.call_text db stored r it.1 in
      let same : are_equal (column r 1) (Text h.dial) ≡ true = (and_parts (are_equal (column r 1) (Text h.dial)) true it.2).0 in
      let is : dial.0 ≡ h.dial = (bytes_eq-Decides dial.0 h.dial).0 (sym (equal_texts dial.0 h.dial) ∙ ap (λ v. are_equal v (Text h.dial)) (sym dial.1) ∙ same) in
      let open_calls : column r 2 ≡ number (dialing h.dial held) = ap (λ (s : Row). column s 0) (sym it.3) ∙ value.is in
      (r, it.1, ap (drop 1) (shape.call_columns_of db stored r it.1) ∙ two (dial.1 ∙ ap Text is) open_calls)

  -- and a row that counts it is shown
  pub is_shown : IsCalled db held h → (row : Row) × Has rows row × HasValue row 0 (number (dialing h.dial held))
  is_shown it =
      let r = it.0 in
      let dial : column r 1 ≡ Text h.dial = at_is r 0 (call_columns h.dial (dialing h.dial held)) it.2 in
      let calls : column r 2 ≡ number (dialing h.dial held) = at_is r 1 (call_columns h.dial (dialing h.dial held)) it.2 in
      let on : passes calls_tree call_tests call_project params r ≡ true = ap (λ v. are_equal v (Text h.dial) && true) dial ∙ ap (λ b. b && true) (equal_texts h.dial h.dial ∙ (bytes_eq-Decides h.dial h.dial).1 refl) in (
        show calls_tree call_tests call_project params r,
        one_shown (passes calls_tree call_tests call_project params) (show calls_tree call_tests call_project params) (db.trees calls_tree) rows permuted r it.1 on,
        record { within = omega arith; is = calls },
      )

  -- so the test of the rows decides it
  pub called_decides : (b : Bool) (count : ℕ) → count ≡ dialing h.dial held → Decides b ((row : Row) × Has rows row × HasNumber row 0 count) → Decides b (IsCalled db held h)
  called_decides b count is decides = (
    λ on. let it = decides.0 on in counted it.0 it.1 (subst (HasNumber it.0 0) is it.2),
    λ it. let s = is_shown it in decides.1 (s.0, s.1, subst (HasNumber s.0 0) (sym is) s.2),
  )
