-- Rows of floors and the floors that they are.
use Rattle.std.proofs.Common.{◌≡◌, ◌<◌, ◌≤◌, ◌^◌, ℕ, List, [], ◌∷◌, map, find, drop, false, Option, Some, None, refl, sym, ap, ap₂, subst, ◌∙◌, arith}
use Rattle.std.specs.List.Sorted.{IsPermutation}
use Rattle.std.specs.Str.{bytes_eq}
use Rattle.std.proofs.lemmas.Bool.{both_ways}
use Rattle.std.proofs.lemmas.Slice.Eq.{bytes_eq-Decides}
use Rattle.sqlite.specs.Order.{Row, column}
use Rattle.sqlite.specs.declared.types.Value.TheVariants.{Text}
use Rattle.sqlite_rules.specs.Lists.{Has}
use Rattle.sqlite_rules.proofs.ListLemmas.{has_found}
use Rattle.sqlite_rules.proofs.ProbeLemmas.{mapped_has}
use Rattle.sqlite_schema.specs.Rules.{clashes}
use Rattle.sqlite_trees.proofs.ListLemmas.{IsPermutation-same}
use Rattle.sqlite_value.specs.Keys.{plain}
use Rattle.fax_check.proofs.FieldLemmas.{numbers}
use Rattle.fax_check.proofs.OnceLemmas.{behind, one_of_key, text_same}
use Rattle.fax_value.specs.Name.{IsName}
use Rattle.fax_layout.specs.ByRowid.{IsByRowid}
use Rattle.fax_layout.proofs.ColumnLemmas.{row_of as row_with}
use Rattle.fax_layout.proofs.EditLemmas.{has_mapped}
use Rattle.fax_tables.specs.Row.{floor_columns}
use Rattle.fax_tables.specs.Tables.{AreCounted, AreLawfulFloors}
use Rattle.fax_tables.proofs.FreeLemmas.{none_found}

-- a client, and the number through which it has given up its replies
pub record Floor : Type 0 where
  pub client : List ℕ
  pub upto : ℕ

abbrev pub columns_of : Floor → Row
columns_of f = floor_columns f.client f.upto

-- what a row of floors has to be of
pub record IsLawfulFloor (f : Floor) : Type 0 where
  pub name : IsName f.client
  pub some : 1 ≤ f.upto
  pub low : f.upto < 10 ^ 18

abbrev pub upto_of : Option Floor → ℕ
upto_of None = 0
upto_of (Some f) = f.upto

-- the client's among these, and 0 where it has none
abbrev pub floor_in : List Floor → List ℕ → ℕ
floor_in fs client = upto_of (find (λ f. bytes_eq f.client client) fs)

module _ (rows : List Row) (by : IsByRowid rows) (no_clash : (r : Row) → Has rows r → clashes plain (1 ∷ []) rows r ≡ false)
    (fs : List Floor) (is : map (drop 1) rows ≡ map columns_of fs) (lawful : (f : Floor) → Has fs f → IsLawfulFloor f) where
  same_rows : IsPermutation (map columns_of fs) (map (drop 1) rows)
  same_rows = IsPermutation-same (map columns_of fs) (map (drop 1) rows) (sym is)

  -- a client has one floor
  one_floor : (f g : Floor) → Has fs f → Has fs g → f.client ≡ g.client → f.upto ≡ g.upto
  one_floor f g has_f has_g same =
      let r = row_with columns_of rows fs same_rows f has_f in
      let s = row_with columns_of rows fs same_rows g has_g in
      let one = one_of_key rows by 1 no_clash (Text g.client) (text_same g.client) r.0 s.0 r.1 s.1
      (behind r.0 0 ∙ ap (λ columns. column columns 0) r.2 ∙ ap Text same)
      (behind s.0 0 ∙ ap (λ columns. column columns 0) s.2) in
      numbers f.upto g.upto (ap (λ columns. column columns 1) (sym r.2 ∙ ap (drop 1) (sym one) ∙ s.2))

  -- it is what is found
  floor_is : (f : Floor) → Has fs f → floor_in fs f.client ≡ f.upto
  floor_is f has = found (find (λ (g : Floor). bytes_eq g.client f.client) fs) refl
    where
      found : (o : Option Floor) → find (λ (g : Floor). bytes_eq g.client f.client) fs ≡ o → upto_of o ≡ f.upto
      found None none = absurd (both_ways _ (none_found (λ (g : Floor). bytes_eq g.client f.client) fs f none has) ((bytes_eq-Decides f.client f.client).1 refl))
      found (Some g) one = let it = has_found (λ (g : Floor). bytes_eq g.client f.client) fs g one in one_floor g f it.0 has ((bytes_eq-Decides g.client f.client).0 it.1)

  -- and where one isn't 0, it is of a client that has one
  floor_there : (client : List ℕ) → 1 ≤ floor_in fs client → (f : Floor) × Has fs f × (f.client ≡ client) × (floor_in fs client ≡ f.upto)
  floor_there client some = found (find (λ (g : Floor). bytes_eq g.client client) fs) refl some
    where
      found : (o : Option Floor) → find (λ (g : Floor). bytes_eq g.client client) fs ≡ o → 1 ≤ upto_of o → (f : Floor) × Has fs f × (f.client ≡ client) × (floor_in fs client ≡ f.upto)
      found None none more = absurd (omega (arith, more))
      found (Some g) one more = let it = has_found (λ (g : Floor). bytes_eq g.client client) fs g one in (g, it.0, (bytes_eq-Decides g.client client).0 it.1, ap upto_of one)

  -- so the rows are those of the floors
  pub floors_counted : AreCounted (floor_in fs) (map (drop 1) rows)
  floors_counted = record {
    each = λ row has.
        let it = has_mapped columns_of fs row (subst (λ all. Has all row) is has) in
        let here = floor_is it.0 it.1 in
        ((it.0).client, it.2 ∙ ap (floor_columns (it.0).client) (sym here), subst (λ n. 1 ≤ n) (sym here) (lawful it.0 it.1).some);
    all = λ client some.
        let it = floor_there client some in
        let columns : columns_of it.0 ≡ floor_columns client (floor_in fs client) = ap₂ floor_columns it.2 (sym it.3) in
        subst (λ all. Has all (floor_columns client (floor_in fs client))) (sym is) (subst (Has (map columns_of fs)) columns (mapped_has columns_of fs it.0 it.1));
  }

  pub floors_lawful : AreLawfulFloors (floor_in fs)
  floors_lawful client some =
      let it = floor_there client some in
      (subst IsName it.2 (lawful it.0 it.1).name, subst (λ n. n < 10 ^ 18) (sym it.3) (lawful it.0 it.1).low)
