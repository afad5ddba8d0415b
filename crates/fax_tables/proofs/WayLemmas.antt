-- How each step keeps the rows of the tables, and what it leaves of a queue's.
use Rattle.std.proofs.Common.{◌≡◌, inl, inr, true, false, List, [], ◌∷◌, ◌||◌, not, refl, sym, ap, subst, ◌∙◌, if◌then◌else◌}
use Rattle.std.specs.List.{AllByRecursion, list_all}
use Rattle.std.proofs.lemmas.Bool.{and_parts, cases_Bool, not-true}
use Rattle.sqlite.specs.Effect.{Database}
use Rattle.sqlite_catalog.specs.Change.{KeepsRows}
use Rattle.sqlite_rules.specs.Lists.{Has}
use Rattle.sqlite_rules.proofs.ListLemmas.{all_has}
use Rattle.sqlite_schema.specs.declared.schema.Schema.{Schema}
use Rattle.sqlite_schema.specs.declared.schema.Table.{Table}
use Rattle.sqlite_trees.specs.Tree.{Trees}
use Rattle.fax_schema.specs.Schema.{AreOurs, has_floors, has_times, added_list, first_list, second_list, third_list, both_list, core_list, no_tables, our_tables, core_tables, bare_tables, bare_with_calls, vacuumed_tables, second_tables, second_core, second_bare, second_bare_calls, second_vacuumed, first_tables, first_older, first_core, first_older_core, first_bare, first_bare_calls, first_vacuumed, first_older_vacuumed}
use Rattle.fax_schema.specs.Way.{changes}
use Rattle.fax_schema.specs.declared.way.Step.{Step}
use Rattle.fax_schema.specs.declared.way.Step.TheVariants.{DropIndexes, DropJobIndexes, DropCalls, CreateFirst, CreateSecond, CreateThird, CreateIndexes}
use Rattle.fax_layout.proofs.RowsLemmas.{all_given, all_mapped, are_in, at_tree, is_in}
use Rattle.fax_schema.proofs.OursLemmas.{not_ours}
use Rattle.fax_tables.specs.Tables.{ComesTo, Renews, added_in}
use Rattle.fax_tables.proofs.CreateLemmas.{renews_core, renews_first, renews_raised, renews_second, renews_then, renews_timed}

-- ---- the rows of some tables

-- the rows of these tables, and none of others
abbrev pub only_in : List Table → Trees → Trees
only_in tables trees tree = if is_in tables tree then trees tree else []

pub only_there : (all some : List Table) (trees : Trees) → are_in all some ≡ true → KeepsRows some (only_in all trees) trees
only_there all [] trees there = tt
only_there all (t ∷ ts) trees there =
    let parts = and_parts (is_in all t.tree) _ there in
    (sym (ap (λ b. if b then trees t.tree else []) parts.0), only_there all ts trees parts.1)

-- tables of both kept their rows
pub kept_in : (list first last : List Table) (old new : Trees) → are_in first list ≡ true → are_in last list ≡ true → KeepsRows last (only_in first old) new → KeepsRows list old new
kept_in [] first last old new was is rows = tt
kept_in (t ∷ ts) first last old new was is rows =
    let before = and_parts (is_in first t.tree) _ was in
    let behind = and_parts (is_in last t.tree) _ is in
    let same : new t.tree ≡ only_in first old t.tree = at_tree (λ tree. new tree ≡ only_in first old tree) last t.tree behind.0 rows in
    (same ∙ ap (λ b. if b then old t.tree else []) before.0, kept_in ts first last old new before.1 behind.1 rows)

-- those that are new have none
none_in : (list first last : List Table) (old new : Trees) → list_all (λ t. not (is_in first t.tree)) list ≡ true → are_in last list ≡ true → KeepsRows last (only_in first old) new
    → AllByRecursion (λ t. new t.tree ≡ []) list
none_in [] first last old new off is rows = tt
none_in (t ∷ ts) first last old new off is rows =
    let before = and_parts (not (is_in first t.tree)) _ off in
    let behind = and_parts (is_in last t.tree) _ is in
    let same : new t.tree ≡ only_in first old t.tree = at_tree (λ tree. new tree ≡ only_in first old tree) last t.tree behind.0 rows in
    (same ∙ ap (λ b. if b then old t.tree else []) (not-true _ before.0), none_in ts first last old new before.1 behind.1 rows)

-- where none had rows, none has
pub still_none : (first last : List Table) (old new : Trees) → AllByRecursion (λ t. old t.tree ≡ []) first → KeepsRows last (only_in first old) new → AllByRecursion (λ t. new t.tree ≡ []) last
still_none first last old new none rows = all_mapped (λ t. new t.tree ≡ only_in first old t.tree) (λ t. new t.tree ≡ []) last (λ t same. same ∙ nothing t) rows
  where
    nothing : (t : Table) → only_in first old t.tree ≡ []
    nothing t = elim (cases_Bool (is_in first t.tree)) [
      | inl on ↦ ap (λ b. if b then old t.tree else []) on ∙ at_tree (λ tree. old tree ≡ []) first t.tree on none
      | inr off ↦ ap (λ b. if b then old t.tree else []) off
    ]

-- one change after the other
pub kept_twice : (first middle last : List Table) (a b c : Trees) → list_all (λ t. is_in middle t.tree || not (is_in first t.tree)) last ≡ true
    → KeepsRows middle (only_in first a) b → KeepsRows last (only_in middle b) c → KeepsRows last (only_in first a) c
kept_twice first middle [] a b c fit one two = tt
kept_twice first middle (t ∷ ts) a b c fit one two =
    let parts = and_parts (is_in middle t.tree || not (is_in first t.tree)) _ fit in
    (two.0 ∙ before t parts.0, kept_twice first middle ts a b c parts.1 one two.1)
  where
    before : (t : Table) → (is_in middle t.tree || not (is_in first t.tree)) ≡ true → only_in middle b t.tree ≡ only_in first a t.tree
    before t fit = elim (cases_Bool (is_in middle t.tree)) [
      | inl on ↦ ap (λ x. if x then b t.tree else []) on ∙ at_tree (λ tree. b tree ≡ only_in first a tree) middle t.tree on one
      | inr off ↦ ap (λ x. if x then b t.tree else []) off ∙ sym (ap (λ x. if x then a t.tree else []) (not-true _ (rw off at fit)))
    ]

-- ---- what a step keeps of a queue's tables

abbrev Keeps : Schema × Schema → Type 0
Keeps way = AreOurs way.0 → AreOurs way.1 × ((db after : Database) → db.schema ≡ way.0 → after.schema ≡ way.1 → KeepsRows (way.1).tables (only_in (way.0).tables db.trees) after.trees → Renews db after)

-- the tables of the first version
first_kept : (a b : Schema) → has_floors a ≡ false → has_times a ≡ false → has_floors b ≡ false → has_times b ≡ false → are_in a.tables first_list ≡ true → are_in b.tables first_list ≡ true → AreOurs b → Keeps (a, b)
first_kept a b no_floors no_times still none was is ours before =
    (ours, λ db after from to rows. renews_first db after a b no_floors no_times still none from to (kept_in first_list a.tables b.tables db.trees after.trees was is rows))

-- those of the second
second_kept : (a b : Schema) → has_floors a ≡ true → has_times a ≡ false → has_floors b ≡ true → has_times b ≡ false → are_in a.tables both_list ≡ true → are_in b.tables both_list ≡ true → AreOurs b → Keeps (a, b)
second_kept a b floors no_times still none was is ours before =
    (ours, λ db after from to rows. renews_second db after a b floors no_times still none from to (kept_in both_list a.tables b.tables db.trees after.trees was is rows))

-- those of the third
core_kept : (a b : Schema) → has_floors a ≡ true → has_times a ≡ true → has_floors b ≡ true → has_times b ≡ true → are_in a.tables core_list ≡ true → are_in b.tables core_list ≡ true → AreOurs b → Keeps (a, b)
core_kept a b floors times still_floors still_times was is ours before =
    (ours, λ db after from to rows. renews_core db after a b floors times still_floors still_times from to (kept_in core_list a.tables b.tables db.trees after.trees was is rows))

-- what the second has comes to those of the first
raised : Keeps (first_bare, second_bare)
raised before = (
  inr (inr (inr (inr (inr (inr (inr (inl refl))))))),
  λ db after from to rows. renews_raised db after from to
      (kept_in first_list first_list second_bare.tables db.trees after.trees refl refl rows) (none_in second_list first_list second_bare.tables db.trees after.trees refl refl rows).0,
)

-- and what the third has to those of the second
timed : Keeps (second_bare, bare_tables)
timed before = (
  inr (inr (inl refl)),
  λ db after from to rows. renews_timed db after from to
      (kept_in both_list both_list bare_tables.tables db.trees after.trees refl refl rows) (none_in third_list both_list bare_tables.tables db.trees after.trees refl refl rows).0,
)

-- no table was there
made : Keeps (no_tables, first_bare)
made ours = absurd (not_ours no_tables refl ours)

keeps : (step : Step) (a b : Schema) → Has (changes step) (a, b) → Keeps (a, b)
keeps DropIndexes a b = all_has Keeps (changes DropIndexes) (a, b) (core_kept vacuumed_tables bare_with_calls refl refl refl refl refl refl (inr (inr (inr (inl refl)))), tt)
keeps DropJobIndexes a b = all_has Keeps (changes DropJobIndexes) (a, b) (second_kept second_vacuumed second_bare_calls refl refl refl refl refl refl (inr (inr (inr (inr (inr (inr (inr (inr (inl refl))))))))), (second_kept second_core second_bare refl refl refl refl refl refl (inr (inr (inr (inr (inr (inr (inr (inl refl)))))))), (first_kept first_vacuumed first_bare_calls refl refl refl refl refl refl (inr (inr (inr (inr (inr (inr (inr (inr (inr (inr (inr (inr (inr (inr (inr (inl refl)))))))))))))))), (first_kept first_older_vacuumed first_bare_calls refl refl refl refl refl refl (inr (inr (inr (inr (inr (inr (inr (inr (inr (inr (inr (inr (inr (inr (inr (inl refl)))))))))))))))), (first_kept first_core first_bare refl refl refl refl refl refl (inr (inr (inr (inr (inr (inr (inr (inr (inr (inr (inr (inr (inr (inr (inl refl))))))))))))))), (first_kept first_older_core first_bare refl refl refl refl refl refl (inr (inr (inr (inr (inr (inr (inr (inr (inr (inr (inr (inr (inr (inr (inl refl))))))))))))))), tt))))))
keeps DropCalls a b = all_has Keeps (changes DropCalls) (a, b) (core_kept our_tables core_tables refl refl refl refl refl refl (inr (inl refl)), (core_kept bare_with_calls bare_tables refl refl refl refl refl refl (inr (inr (inl refl))), (second_kept second_tables second_core refl refl refl refl refl refl (inr (inr (inr (inr (inr (inr (inl refl))))))), (second_kept second_bare_calls second_bare refl refl refl refl refl refl (inr (inr (inr (inr (inr (inr (inr (inl refl)))))))), (first_kept first_tables first_core refl refl refl refl refl refl (inr (inr (inr (inr (inr (inr (inr (inr (inr (inr (inr (inr (inl refl))))))))))))), (first_kept first_older first_older_core refl refl refl refl refl refl (inr (inr (inr (inr (inr (inr (inr (inr (inr (inr (inr (inr (inr (inl refl)))))))))))))), (first_kept first_bare_calls first_bare refl refl refl refl refl refl (inr (inr (inr (inr (inr (inr (inr (inr (inr (inr (inr (inr (inr (inr (inl refl))))))))))))))), tt)))))))
keeps CreateFirst a b = all_has Keeps (changes CreateFirst) (a, b) (made, tt)
keeps CreateSecond a b = all_has Keeps (changes CreateSecond) (a, b) (raised, tt)
keeps CreateThird a b = all_has Keeps (changes CreateThird) (a, b) (timed, tt)
keeps CreateIndexes a b = all_has Keeps (changes CreateIndexes) (a, b) (core_kept bare_tables core_tables refl refl refl refl refl refl (inr (inl refl)), tt)

-- so it comes to where it leads
pub comes : (step : Step) (to : Schema) (db after : Database) → Has (changes step) (db.schema, to) → after.schema ≡ to → KeepsRows after.schema.tables (only_in db.schema.tables db.trees) after.trees → ComesTo to db after
comes step to db after has is rows = record {
  schema_is = is;
  ours = λ ours. (keeps step db.schema to has ours).0;
  renews = λ ours. (keeps step db.schema to has ours).1 db after refl is (subst (λ (s : Schema). KeepsRows s.tables (only_in db.schema.tables db.trees) after.trees) is rows);
  empty = λ none. still_none db.schema.tables after.schema.tables db.trees after.trees none rows;
}

-- without a step it stays
pub stays : (db : Database) → ComesTo db.schema db db
stays db = record {
  schema_is = refl;
  ours = λ ours. ours;
  renews = λ ours. record { rows = all_given (λ t. db.trees t.tree ≡ db.trees t.tree) first_list (λ t. refl); added = all_given (λ t. added_in db t.tree ≡ added_in db t.tree) added_list (λ t. refl) };
  empty = λ none. none;
}

-- and one step after the other
pub comes_then : (to : Schema) (a b c : Database) → ComesTo b.schema a b → ComesTo to b c → ComesTo to a c
comes_then to a b c first next = record {
  schema_is = next.schema_is;
  ours = λ ours. next.ours (first.ours ours);
  renews = λ ours. renews_then a b c (first.renews ours) (next.renews (first.ours ours));
  empty = λ none. next.empty (first.empty none);
}
