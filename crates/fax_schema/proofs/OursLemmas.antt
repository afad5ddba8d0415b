-- What no schema of a queue has: references, and the lack of tables.
use Rattle.std.proofs.Common.{◌≡◌, ℕ, List, [], length, nat_lt, true, refl, subst}
use Rattle.std.proofs.lemmas.Bool.{false≢true}
use Rattle.sqlite.specs.Order.{Row}
use Rattle.sqlite_rules.proofs.ListLemmas.{all_has}
use Rattle.sqlite_rules.specs.Action.{works}
use Rattle.sqlite_schema.specs.declared.schema.Keys.TheVariants.{Enforced}
use Rattle.sqlite_schema.specs.declared.schema.Schema.{Schema}
use Rattle.fax_schema.specs.Schema.{AreOurs, no_tables, our_layouts, our_tables}

-- no table refers to another
pub unreferred : (tree : ℕ) (olds news : List Row) → works our_tables Enforced 0 tree olds news ≡ []
unreferred tree olds news = refl

-- no tables are none of a queue's
pub not_ours : (schema : Schema) → schema ≡ no_tables → AreOurs schema → ⊥
not_ours schema none ours =
    let Some = λ (s : Schema). nat_lt 0 (length s.tables) ≡ true in
    let some : nat_lt 0 (length schema.tables) ≡ true =
    all_has Some our_layouts schema (refl, (refl, (refl, (refl, (refl, (refl, (refl, (refl, (refl, (refl, (refl, (refl, (refl, (refl, (refl, (refl, (refl, (refl, tt)))))))))))))))))) ours in
    false≢true (subst Some none some)
