-- Holders whose rows are those of holds: a modem, a job and a grant is in one of them.
use Rattle.std.proofs.Common.{◌≡◌, ◌≢◌, ℕ, suc, List, [], ◌∷◌, map, drop, false, true, refl, sym, ap, subst, ◌∙◌}
use Rattle.std.specs.List.Sorted.{IsPermutation}
use Rattle.std.specs.declared.cmp.Ordering.TheVariants.{Less}
use Rattle.std.proofs.lemmas.Cmp.{tied_itself}
use Rattle.std.proofs.lemmas.List.Sorted.{IsPermutation-sym}
use Rattle.sqlite.specs.Effect.{Database}
use Rattle.sqlite.specs.Order.{Row, column}
use Rattle.sqlite.specs.Tree.{rowid}
use Rattle.sqlite.specs.declared.types.Value.{Value}
use Rattle.sqlite.specs.declared.types.Value.TheVariants.{Text}
use Rattle.sqlite_rules.specs.Lists.{Has}
use Rattle.sqlite_schema.specs.Rules.{clashes}
use Rattle.sqlite_trees.proofs.ListLemmas.{ascending-map, ascending_from_map, ascending_weaker}
use Rattle.sqlite_value.specs.Keys.{plain}
use Rattle.sqlite_value.specs.Order.{value_cmp}
use Rattle.sqlite_value.proofs.OrderLemmas.{value_cmp_total}
use Rattle.fax_check.specs.Sound.{IsStored}
use Rattle.fax_check.specs.Whole.{Holder, holder_columns}
use Rattle.fax_check.proofs.FieldLemmas.{numbers}
use Rattle.fax_check.proofs.MadeLemmas.{AreApart, apart_permuted, ascending_in}
use Rattle.fax_check.proofs.OnceLemmas.{behind, grants_once, jobs_once, modems_once, one_of_key, text_same}
use Rattle.fax_schema.specs.Schema.{holds_tree}
use Rattle.fax_layout.proofs.ColumnLemmas.{record_of, row_of as row_with}
use Rattle.fax_layout.proofs.CompareLemmas.{are_equal, number_same}
use Rattle.fax_tables.specs.Row.{number}

module _ (db : Database) (stored : IsStored db) (held : List Holder) (same : IsPermutation (map holder_columns held) (map (drop 1) (db.trees holds_tree))) where
  abbrev rows : List Row
  rows = db.trees holds_tree

  -- holders with the same value in a column that is UNIQUE have the same columns
  same_columns : (at : ℕ) → ((r : Row) → Has rows r → clashes plain (suc at ∷ []) rows r ≡ false) → (v : Value) → are_equal v v ≡ true → (x y : Holder) → Has held x → Has held y
      → column (holder_columns x) at ≡ v → column (holder_columns y) at ≡ v → holder_columns x ≡ holder_columns y
  same_columns at no_clash v itself x y has_x has_y of_x of_y =
      let r = row_with holder_columns rows held same x has_x in
      let s = row_with holder_columns rows held same y has_y in
      let one = one_of_key rows stored.ordered.holds (suc at) no_clash v itself r.0 s.0 r.1 s.1
      (behind r.0 at ∙ ap (λ columns. column columns at) r.2 ∙ of_x) (behind s.0 at ∙ ap (λ columns. column columns at) s.2 ∙ of_y) in
      sym r.2 ∙ ap (drop 1) (sym one) ∙ s.2

  -- those of one modem have one grant
  pub one_of_modem : (x y : Holder) → Has held x → Has held y → x.modem ≡ y.modem → x.grant ≡ y.grant
  one_of_modem x y has_x has_y alike =
      numbers x.grant y.grant (ap (λ columns. column columns 2)
      (same_columns 0 (modems_once db stored.schema_is stored.sound) (Text y.modem) (text_same y.modem) x y has_x has_y (ap Text alike) refl))

  -- so have those of one job
  pub one_of_job : (x y : Holder) → Has held x → Has held y → x.job ≡ y.job → x.grant ≡ y.grant
  one_of_job x y has_x has_y alike =
      numbers x.grant y.grant (ap (λ columns. column columns 2)
      (same_columns 1 (jobs_once db stored.schema_is stored.sound) (number y.job) (number_same y.job) x y has_x has_y (ap number alike) refl))

  -- no two rows of holds have the same columns
  rows_apart : AreApart (map (drop 1) rows)
  rows_apart =
      ascending-map (λ a b. a ≢ b) (drop 1) rows
      (ascending_in (λ a b. value_cmp (rowid a) (rowid b) ≡ Less) (λ a b. drop 1 a ≢ drop 1 b) rows stored.ordered.holds.rise other)
    where
      other : (a b : Row) → Has rows a → Has rows b → value_cmp (rowid a) (rowid b) ≡ Less → drop 1 a ≢ drop 1 b
      other a b has_a has_b less alike =
          let h = record_of holder_columns rows held same a has_a in
          let one : b ≡ a =
          one_of_key rows stored.ordered.holds 3 (grants_once db stored.schema_is stored.sound) (number (h.0).grant) (number_same (h.0).grant) a b has_a has_b
          (behind a 2 ∙ ap (λ columns. column columns 2) h.2) (behind b 2 ∙ ap (λ columns. column columns 2) (sym alike ∙ h.2)) in
          let itself : value_cmp (rowid a) (rowid a) ≡ Less = subst (λ r. value_cmp (rowid a) (rowid r) ≡ Less) one less in
          let tied = tied_itself value_cmp_total (rowid a) in
          absurd cc

  -- so no holder comes twice
  pub held_apart : AreApart held
  held_apart =
      ascending_weaker (λ a b. holder_columns a ≢ holder_columns b) (λ a b. a ≢ b) (λ a b other alike. other (ap holder_columns alike)) held
      (ascending_from_map (λ a b. a ≢ b) holder_columns held
      (apart_permuted (map (drop 1) rows) (map holder_columns held) (IsPermutation-sym (map holder_columns held) (map (drop 1) rows) same) rows_apart))
