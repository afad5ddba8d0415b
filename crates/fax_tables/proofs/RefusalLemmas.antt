-- Why an INSERT is refused: a row that may stand in its table breaks none of the rules.
use Rattle.std.proofs.Common.{◌≡◌, ◌⊎◌, inl, inr, ℕ, zero, suc, ◌/◌, List, [], ◌∷◌, ◌++◌, length, slice_get, true, false, not, ◌&&◌, Option, Some, None, option_map, Ok, Err, Result, refl, sym, ap, subst, subst₂, ◌∙◌, arith, append-nil, length-append}
use Rattle.std.specs.Prelude.{◌||◌}
use Rattle.std.specs.List.{AllByRecursion, list_all}
use Rattle.std.proofs.lemmas.Bool.{cases_Bool}
use Rattle.sqlite.specs.Clock.{timed}
use Rattle.sqlite.specs.Order.{Row}
use Rattle.sqlite.specs.Tree.{Trees, put_row, with_tree}
use Rattle.sqlite.specs.Effect.{Database, edit_error, value_rows}
use Rattle.sqlite.specs.State.{State, IsNotRun, IsNoStatement, RunsCommand, ExecutesIn, Executes, mode_of, shows_rows, store_error, text_of}
use Rattle.sqlite.specs.Does.{Tally, Does, OnRows, AtPlace, Concludes}
use Rattle.sqlite.specs.Rows.{Task, Inserts, Sourced, Written}
use Rattle.sqlite.specs.Edit.{Edit, edit_of, is_taken, taken_by, with_rowid, IsRefused}
use Rattle.sqlite.specs.Cast.{cast_row}
use Rattle.sqlite.specs.Rowids.TheVariants.{Chosen}
use Rattle.sqlite.specs.Command.{Command}
use Rattle.sqlite.specs.Command.TheVariants.{Insert}
use Rattle.sqlite.specs.Source.TheVariants.{Values}
use Rattle.sqlite.specs.Listing.{understood}
use Rattle.sqlite.specs.declared.error.Error.{Error}
use Rattle.sqlite.proofs.Callers.{IsPlain, command_of, statement_of}
use Rattle.sqlite_resolve.specs.declared.compiled.Compiled.{Compiled}
use Rattle.sqlite_rules.specs.Action.{works, Leads, Writes}
use Rattle.sqlite_rules.specs.declared.error.Refusal.{Refusal}
use Rattle.sqlite_rules.specs.declared.error.Refusal.TheVariants.{Violates}
use Rattle.sqlite_schema.specs.Rules.{passes, Keeps, Refers, has_parent, is_among}
use Rattle.sqlite_schema.specs.declared.schema.Among.{Among}
use Rattle.sqlite_schema.specs.declared.schema.Among.TheVariants.{All}
use Rattle.sqlite_schema.specs.declared.schema.Constraint.TheVariants.{Datatype, NotNull, Check, PrimaryKey, Unique, ForeignKey}
use Rattle.sqlite_schema.specs.declared.schema.Keys.TheVariants.{Enforced}
use Rattle.sqlite_schema.specs.declared.schema.Reference.{Reference}
use Rattle.sqlite_schema.specs.declared.schema.Schema.{Schema}
use Rattle.sqlite_schema.specs.declared.schema.Table.{Table}
use Rattle.sqlite_schema.specs.declared.schema.Column.{Column}
use Rattle.sqlite_sql.specs.Term.{Term}
use Rattle.sqlite_trees.specs.declared.error.StoreError.{StoreError}
use Rattle.sqlite_trees.specs.declared.error.StoreError.TheVariants.{Full}
use Rattle.sqlite_trees.proofs.ListLemmas.{all_of}
use Rattle.sqlite_value.specs.declared.keys.Order.{Order}
use Rattle.fax_tables.specs.Fault.{fault_of}
use Rattle.fax_schema.specs.Schema.{table_of, our_tables}
use Rattle.fax_tables.specs.declared.fault.StoreFault.TheVariants.{Unavailable}
use Rattle.fax_layout.proofs.RowsLemmas.{all_mapped}
use Rattle.fax_schema.proofs.StatementForms.{Commands}
use Rattle.fax_schema.proofs.OursLemmas.{unreferred}

-- no row refers to another
pub unasked : (among : Among) (trees : Trees) → Refers among our_tables trees
unasked among trees =
    all_mapped (λ t. t.references ≡ []) (λ t. Asks t t.references) our_tables.tables (λ t bare. subst (Asks t) (sym bare) (all_of _ (λ r. refl) (trees t.tree)))
    (refl, (refl, (refl, (refl, (refl, (refl, (refl, (refl, (refl, tt)))))))))
  where
    Asks : Table → List Reference → Type 0
    Asks t refs = AllByRecursion (λ row. list_all (λ ref. not (is_among among ref) || has_parent our_tables.tables trees row ref) refs ≡ true) (trees t.tree)

-- the row may stand in the table: each column has a value of its type, and no key of it is taken
pub record MayStand (schema : Schema) (db : Trees) (table : Table) (row : Row) : Type 0 where
  pub typed : passes Datatype schema db table row ≡ true
  pub present : passes NotNull schema db table row ≡ true
  pub checked : passes Check schema db table row ≡ true
  pub fresh : is_taken (db table.tree) row ≡ false
  pub unique : Keeps Unique schema (with_tree db table.tree (put_row row (db table.tree)))

same_stop : {B E : Type 0} {a b : E} → ◌≡◌ {A = Result B E} (Err a) (Err b) → a ≡ b
same_stop e = cc

never : {B E : Type 0} {a : E} {b : B} → ◌≡◌ {A = Result B E} (Err a) (Ok b) → ⊥
never e = cc

-- a fault that stops a part, unless the row can't be stored, is no broken rule
abbrev IsExcused : Option Error → Type 0
IsExcused None = Unit {0}
IsExcused (Some e) = fault_of e ≡ Unavailable

-- it isn't refused for a rule
unbroken : (schema : Schema) (db : Trees) (table : Table) (row : Row) → MayStand schema db table row → (why : Refusal) → IsRefused schema Enforced db (record { table = table; gone = []; news = row ∷ [] }) why
    → fault_of (edit_error why) ≡ Unavailable
unbroken schema db table row may (Violates Datatype) h = absurd (let e = sym (ap (λ b. b && true) may.typed) ∙ h in cc)
unbroken schema db table row may (Violates NotNull) h = absurd (let e = sym (ap (λ b. b && true) may.present) ∙ h in cc)
unbroken schema db table row may (Violates Check) h = absurd (let e = sym (ap (λ b. b && true) may.checked) ∙ h in cc)
unbroken schema db table row may (Violates PrimaryKey) h = absurd (let e = sym (ap (λ b. not b && true) may.fresh) ∙ h in cc)
unbroken schema db table row may (Violates Unique) h = absurd (h may.unique)
unbroken schema db table row may (Violates ForeignKey) h = absurd h
unbroken schema db table row may _ h = refl

-- where no foreign key acts, a write that stops is refused at its one step
stopped : (schema : Schema) (db : Trees) (edit : Edit) → works schema Enforced 0 edit.table.tree (taken_by db edit) edit.news ≡ [] → (why : Option Refusal) → Writes schema Enforced db edit (Err why)
    → (why ≡ None) ⊎ ((reason : Refusal) × (why ≡ Some reason) × IsRefused schema Enforced db edit reason)
stopped schema db edit none why (inl refused) = inr (refused.0, same_stop refused.2, refused.1)
stopped schema db edit none why (inr (inl big)) = inl (same_stop big.3)
stopped schema db edit none why (inr (inr went)) = absurd (settled went.2.0 (rw none at went.2.1))
  where
    settled : (n : ℕ) → Leads schema Enforced n went.0 [] (Err why) → ⊥
    settled zero h = never h.1
    settled (suc n) h = omega (arith, ap length h.2, length-append h.0 (h.1 ∷ []))

-- ---- what refuses a statement, beside what it does

-- a fault of the disk, of memory or of the file is no broken rule
store_fault : (cause : StoreError) → fault_of (store_error cause) ≡ Unavailable
store_fault Full = refl
store_fault _ = refl

-- nor a text that is no statement
no_statement : (s : State) (sql : List ℕ) (params : Row) (e : Error) → IsNoStatement s sql params e → fault_of e ≡ Unavailable
no_statement s sql params e (inl h) = ap fault_of h.2
no_statement s sql params e (inr h) = elim h.2 [ inl many ↦ ap fault_of many.1 | inr others ↦ elim others [ inl params ↦ ap fault_of params.1 | inr clock ↦ ap fault_of clock.1 ] ]

module _ (sql : List ℕ) (params : Row) (old new : State) (schema : Schema) (has : old.now.schema ≡ schema) (command : Command) (is : command_of (understood schema sql) ≡ command)
    (plain : IsPlain (understood schema sql)) where
  -- a text that wasn't run broke no rule
  not_run : (e : Error) → IsNotRun old new sql params e → fault_of e ≡ Unavailable
  unfolding IsNotRun
  not_run e (inl h) = no_statement old sql params e h.0
  not_run e (inr h) = ap fault_of h.1 ∙ store_fault h.0

  -- a command that was refused broke no rule, or was refused by what it does
  by_run : (c : Compiled) (full : Row) (e : Error) → RunsCommand old new sql c full (Err e) → (fault_of e ≡ Unavailable) ⊎ Does old.step_limit (mode_of old) full old.now (text_of sql c) c.returning c.command (Err (Some e))
  by_run c full e (inl h) = elim h.0 [ inl off ↦ elim off [ inl h ↦ inl (ap fault_of h.0) | inr h ↦ inl (ap fault_of h.0) ] | inr does ↦ inr does.1 ]
  by_run c full e (inr h) = inl (ap fault_of h.1 ∙ store_fault h.0)

  -- so was the text
  refused_as : (e : Error) → Executes sql params old new (Err e) → (fault_of e ≡ Unavailable) ⊎ Does old.step_limit (mode_of old) params old.now (statement_of sql (understood schema sql)) None command (Err (Some e))
  unfolding ExecutesIn
  refused_as e (inl h) = inl (not_run e h)
  refused_as e (inr h) =
      let known = sym h.1.is ∙ ap (λ s. understood s sql) has in
      let bare = subst IsPlain (sym known) plain in
      elim (cases_Bool (shows_rows false h.0)) [
        | inl shows ↦ inl (ap fault_of (same_stop (rw shows at h.2).0))
        | inr runs ↦ elim (by_run h.0 (timed params h.0.formats h.1.now) e (rw runs at h.2)) [
          | inl other ↦ inl other
          | inr does ↦
              inr (subst₂ (λ k t. Does old.step_limit (mode_of old) params old.now t None k (Err (Some e))) (ap command_of known ∙ is) (ap (statement_of sql) known) (rw (bare.0, bare.1, append-nil params) at does))
        ]
      ]

-- ---- one row

module _ (name : List ℕ) (tree : ℕ) (columns : List Column) (key : Option ℕ) (primary : List ℕ) (uniques : List (List ℕ)) (orders : List Order) (checks : List Term) (at : ℕ) (found : slice_get our_tables.tables at ≡ Some (table_of name tree columns key primary uniques orders checks)) (old : State)
    (has : old.now.schema ≡ our_tables) (params : Row) (terms : List Term) (width : ℕ) (source row : Row) (is_source : value_rows params width (length terms / width) terms ≡ source ∷ [])
    (is_row : with_rowid Chosen (old.now.trees tree) (cast_row (table_of name tree columns key primary uniques orders checks) source) ≡ row)
    (may : MayStand our_tables old.now.trees (table_of name tree columns key primary uniques orders checks) row) where
  abbrev table : Table
  table = table_of name tree columns key primary uniques orders checks

  abbrev task : Task
  task = record { limit = old.step_limit; keys = Enforced; schema = our_tables; table = table; params = params }

  abbrev command : Command
  command = Insert at (Values terms width)

  -- a fault in working out the row's values is no broken rule
  sourced : (stop : Option Error) → Sourced old.step_limit (record { schema = our_tables; trees = old.now.trees }) (params ++ []) (Values terms width) (Err stop) → IsExcused stop
  sourced None h = absurd h
  sourced (Some e) (inl h) = ap fault_of h.0
  sourced (Some e) (inr h) = ap fault_of h.0

  -- a fault in writing the row is no broken rule
  edited : (rows : List Row) → rows ≡ source ∷ [] → (stop : Option Error) (why : Option Refusal) → Writes our_tables Enforced old.now.trees (edit_of old.now.trees table [] Chosen 0 rows) (Err why)
      → stop ≡ option_map edit_error why → IsExcused stop
  edited rows is stop why h named =
      let edit = edit_of old.now.trees table [] Chosen 0 rows in
      let news : edit.news ≡ row ∷ [] = ap (λ all. (edit_of old.now.trees table [] Chosen 0 all).news) is ∙ ap (λ r. r ∷ []) is_row in
      elim (stopped our_tables old.now.trees edit (unreferred tree (taken_by old.now.trees edit) edit.news) why h) [
        | inl none ↦ subst IsExcused (sym (named ∙ ap (option_map edit_error) none)) tt
        | inr refused ↦
            subst IsExcused (sym (named ∙ ap (option_map edit_error) refused.1))
            (unbroken our_tables old.now.trees table row may refused.0 (subst (λ n. IsRefused our_tables Enforced old.now.trees (record { table = table; gone = []; news = n }) refused.0) news refused.2))
      ]

  -- nor is one of the whole insert
  inserting : (stop : Option Error) → Inserts task (Values terms width) old.now.trees (Err stop) → IsExcused stop
  inserting stop h = elim h [
    | inl none ↦ subst IsExcused (sym (same_stop none.2)) (sourced none.0 none.1)
    | inr given ↦ elim given.2 [
      | inl uncounted ↦ absurd (never uncounted.1)
      | inr counter ↦ elim counter.2 [
        | inl refused ↦
            subst IsExcused (sym (same_stop refused.2))
            (edited given.0 (given.1.1 ∙ ap (λ p. value_rows p width (length terms / width) terms) (append-nil params) ∙ is_source) refused.0 refused.1.0 refused.1.1 refused.1.2)
        | inr written ↦ elim written.2 [ inl uncounted ↦ absurd (never uncounted.1) | inr done ↦ absurd (never done.2) ]
      ]
    ]
  ]

  -- nor one behind the write
  concluding : (w : Written) (stop : Option Error) → Concludes task (mode_of old) None w (Err stop) → IsExcused stop
  concluding w stop h = elim h [
    | inl tested ↦ absurd (tested.1.0 (unasked All w.trees))
    | inr on ↦ elim on.2 [ inl shown ↦ absurd (never shown.1) | inr given ↦ absurd (never given.2) ]
  ]

  -- so the command is refused for want of an answer alone
  does : (text : List ℕ) (e : Error) → Does old.step_limit (mode_of old) params old.now text None command (Err (Some e)) → fault_of e ≡ Unavailable
  does text e h =
      let out : Result (Tally × Database) (Option Error) = Err (Some e) in
      let at_six = subst (λ s. Does old.step_limit (mode_of old) params (record old.now { schema = s }) text None command out) has h in
      let on : OnRows task (mode_of old) None command old.now.trees out = subst (λ o. AtPlace (λ t. OnRows (record task { table = t }) (mode_of old) None command old.now.trees) o out) found at_six in
      elim on [ inl stop ↦ subst IsExcused (sym (same_stop stop.2)) (inserting stop.0 stop.1) | inr done ↦ concluding done.0 (Some e) done.2 ]

  -- the text that puts the row in is refused for want of an answer alone
  pub no_rule_broken : (sql : List ℕ) → Commands sql command → (new : State) (e : Error) → Executes sql params old new (Err e) → fault_of e ≡ Unavailable
  no_rule_broken sql text new e h = elim (refused_as sql params old new our_tables has command text.is text.plain e h) [ inl other ↦ other | inr refused ↦ does (statement_of sql (understood our_tables sql)) e refused ]
