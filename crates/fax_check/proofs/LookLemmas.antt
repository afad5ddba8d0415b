-- What is found by a number: the grant, or the job, that has it.
use Rattle.std.proofs.Common.{◌≡◌, ℕ, List, [], ◌∷◌, true, false, ◌&&◌, Option, Some, None, Ok, Err, Result, IfOk, refl, sym, ap, ap₂, subst, ◌∙◌}
use Rattle.std.specs.Ordering.{is_eq}
use Rattle.std.specs.declared.cmp.Ordering.{Ordering}
use Rattle.std.specs.declared.cmp.Ordering.TheVariants.{Less, Equal, Greater}
use Rattle.std.proofs.lemmas.Bool.{and_parts, both_ways}
use Rattle.sqlite.specs.Effect.{Database}
use Rattle.sqlite.specs.Order.{Row}
use Rattle.sqlite.specs.Program.{overlay}
use Rattle.sqlite.specs.State.{State}
use Rattle.sqlite.specs.Tree.{rowid}
use Rattle.sqlite_rules.specs.Lists.{Has}
use Rattle.sqlite_rules.proofs.ListLemmas.{all_has}
use Rattle.sqlite_rules.proofs.PlaceLemmas.{tied_same}
use Rattle.sqlite_rules.proofs.TableLemmas.{int_is}
use Rattle.sqlite_sql.specs.Ops.{is_null}
use Rattle.sqlite_sql.specs.Term.{Term}
use Rattle.sqlite_sql.specs.declared.ops.CompareOp.TheVariants.{Eq}
use Rattle.sqlite_trees.specs.Tree.{Trees}
use Rattle.sqlite_value.specs.Order.{value_cmp}
use Rattle.fax_check.specs.Holders.{IsGrantFound, IsJobFound}
use Rattle.fax_check.specs.Reading.{known_of}
use Rattle.fax_check.specs.Sound.{IsStored}
use Rattle.fax_check.proofs.BridgeLemmas.{shows, unshown_grant, unshown_job}
use Rattle.fax_check.proofs.ShapeLemmas as shape
use Rattle.fax_core.proofs.FitsLemmas.{record_again}
use Rattle.fax_core.specs.declared.grants.Grant.{Grant}
use Rattle.fax_job.specs.Job.{IsLawful}
use Rattle.fax_job.specs.declared.job.JobFields.{JobFields}
use Rattle.fax_layout.specs.ByRowid.{IsByRowid}
use Rattle.fax_schema.specs.Schema.{our_tables, grants_tree, jobs_tree}
use Rattle.fax_schema.specs.declared.statements.TheConstants.{SELECT_GRANT, SELECT_JOB}
use Rattle.fax_layout.proofs.CompareLemmas.{are_equal, compared, number_same}
use Rattle.fax_layout.proofs.EditLemmas.{shown_one}
use Rattle.fax_schema.proofs.GrantTexts.{grant_names, grant_project, grant_tests, select_grant}
use Rattle.fax_layout.proofs.SelectLemmas.{passes, show}
use Rattle.fax_schema.proofs.StatementForms.{Selects}
use Rattle.fax_schema.proofs.StatementTexts.{job_names, job_project, job_tests, select_job}
use Rattle.fax_store.specs.Grant.{GrantStands}
use Rattle.fax_store.specs.Job.{JobStands}
use Rattle.fax_store.specs.Store.{FindsRow}
use Rattle.fax_store.proofs.FoundLemmas.{none_passes}
use Rattle.fax_store.proofs.GrantLemmas as grants
use Rattle.fax_store.proofs.JobLemmas as jobs
use Rattle.fax_tables.specs.Fault.{OrUnavailable}
use Rattle.fax_tables.specs.Grant.{grant_shown}
use Rattle.fax_tables.specs.Job.{IsFormed, job_shown}
use Rattle.fax_tables.specs.Row.{HasValues, grant_row, job_row, number}
use Rattle.fax_tables.specs.Tables.{IsLawfulGrant}
use Rattle.fax_tables.specs.declared.fault.StoreFault.{StoreFault}
use Rattle.fax_tables.specs.declared.fault.StoreFault.TheVariants.{Strange, Unavailable}

-- ---- a row by its number

-- an order that is equal
pub equal_is : (o : Ordering) → is_eq o ≡ true → o ≡ Equal
equal_is Less h = absurd cc
equal_is Equal h = refl
equal_is Greater h = absurd cc

-- rows of one number are one
pub one_row : (tree : ℕ) (db : Database) → IsByRowid (db.trees tree) → (n : ℕ) (r s : Row) → Has (db.trees tree) r → Has (db.trees tree) s → rowid r ≡ number n → rowid s ≡ number n → s ≡ r
one_row tree db by n r s there also is same =
    tied_same (db.trees tree) s r by.rise also there (ap₂ value_cmp same is ∙ equal_is _ (sym (compared Eq (number n) (number n) refl refl) ∙ number_same n))

pub same_some : {X : Type 0} {a b : X} → ◌≡◌ {A = Option X} (Some a) (Some b) → a ≡ b
same_some h = cc

module _ (sql : List ℕ) (tree : ℕ) (tests project : List Term) (names : List (List ℕ)) (selects : Selects sql tree tests project names) (plain : (trees : Trees) → overlay trees [] tree ≡ trees tree)
    (n : ℕ) (by_key : (r : Row) → passes tree tests project (number n ∷ []) r ≡ (are_equal (rowid r) (number n) && true)) (old new : State) (db : Database) (ours : db.schema ≡ our_tables) (now : old.now ≡ db) (by : IsByRowid (db.trees tree)) where
  -- the row of that number passes
  passes_it : (r : Row) → rowid r ≡ number n → passes tree tests project (number n ∷ []) r ≡ true
  passes_it r is = by_key r ∙ ap (λ v. are_equal v (number n) && true) is ∙ ap (λ b. b && true) (number_same n)

  -- and whichever row passes is that one
  only_it : (r s : Row) → Has (db.trees tree) r → Has (db.trees tree) s → rowid r ≡ number n → passes tree tests project (number n ∷ []) s ≡ true → s ≡ r
  only_it r s there also is on =
      let eq : are_equal (rowid s) (number n) ≡ true = (and_parts (are_equal (rowid s) (number n)) true (sym (by_key s) ∙ on)).0 in
      let whole : is_null (rowid s) ≡ false = ap is_null (int_is (rowid s) (all_has _ (db.trees tree) s by.integers also)) in
      let tied : value_cmp (rowid s) (number n) ≡ Equal = equal_is _ (sym (compared Eq (rowid s) (number n) whole refl) ∙ eq) in
      tied_same (db.trees tree) s r by.rise also there (ap (value_cmp (rowid s)) is ∙ tied)

  -- so it is found
  pub found_it : (r : Row) → Has (db.trees tree) r → rowid r ≡ number n → (found : Option Row) → FindsRow sql (number n ∷ []) old new found → found ≡ Some (show tree tests project (number n ∷ []) r)
  found_it r there is None h = absurd (both_ways _ (none_passes sql tree tests project names selects plain (number n ∷ []) old new db ours now h r there) (passes_it r is))
  found_it r there is (Some row) h =
      let it = shown_one (passes tree tests project (number n ∷ [])) (show tree tests project (number n ∷ [])) (db.trees tree) h.0 (shows sql tree tests project names selects plain (number n ∷ []) old new db ours now h.0 h.1) row h.2 in
      ap Some (it.3 ∙ ap (show tree tests project (number n ∷ [])) (only_it r it.0 there it.1 is it.2))

module _ (db : Database) (stored : IsStored db) (n : ℕ) (old new : State) (now : old.now ≡ db) where
  -- ---- a grant

  grant_there : (g : Grant) → GrantStands db n g → Has (db.trees grants_tree) (grant_row g)
  grant_there g stands = subst (Has (db.trees grants_tree)) (shape.grant_columns_of db stored stands.1.row stands.1.has ∙ ap unshown_grant stands.1.is) stands.1.has

  -- what is read of the row that is found is the grant of the number, or no lawful grant has it
  pub grant_known : (row : Row) (read : Result Grant StoreFault) → FindsRow SELECT_GRANT.now (number n ∷ []) old new (Some row)
      → ((g : Grant) → row ≡ grant_shown g → IsLawfulGrant g → OrUnavailable read (λ found. found ≡ g)) → IfOk read (λ g. HasValues row 0 (grant_shown g)) → IfOk (known_of read) (IsGrantFound db n)
  grant_known row (Ok g) h found stands = let it = grants.grant_stands n old new db stored.schema_is now row g h stands in (grant_there g it, it.0)
  grant_known row (Err Unavailable) h found stands = tt
  grant_known row (Err Strange) h found stands = λ g has is lawful.
      let at = found_it SELECT_GRANT.now grants_tree grant_tests grant_project grant_names select_grant (λ trees. refl) n (λ r. refl) old new db stored.schema_is now stored.ordered.grants (grant_row g) has (ap number is) (Some row) h in
      absurd (let no = found g (same_some at) lawful in cc)

  -- where no row is found, no grant has the number
  pub no_grant_known : FindsRow SELECT_GRANT.now (number n ∷ []) old new None → IsGrantFound db n None
  no_grant_known h g has is lawful =
      let at = found_it SELECT_GRANT.now grants_tree grant_tests grant_project grant_names select_grant (λ trees. refl) n (λ r. refl) old new db stored.schema_is now stored.ordered.grants (grant_row g) has (ap number is) None h in
      absurd (let no = at in cc)

  -- ---- a job

  job_there : (f : JobFields) → JobStands db n f → Has (db.trees jobs_tree) (job_row f)
  job_there f stands = subst (Has (db.trees jobs_tree)) (shape.job_columns_of db stored stands.1.row stands.1.has ∙ ap unshown_job stands.1.is) stands.1.has

  -- the same of a job
  pub job_known : (row : Row) (read : Result JobFields StoreFault) → FindsRow SELECT_JOB.now (number n ∷ []) old new (Some row)
      → ((f : JobFields) → row ≡ job_shown f → IsLawful f → IsFormed f → OrUnavailable read (λ found. found ≡ f)) → IfOk read (λ f. HasValues row 0 (job_shown f)) → IfOk (known_of read) (IsJobFound db n)
  job_known row (Ok f) h found stands = let it = jobs.job_stands n old new db stored.schema_is now row f h stands in (job_there f it, it.0)
  job_known row (Err Unavailable) h found stands = tt
  job_known row (Err Strange) h found stands = λ f has is lawful.
      let at = found_it SELECT_JOB.now jobs_tree job_tests job_project job_names select_job (λ trees. refl) n (λ r. refl) old new db stored.schema_is now stored.ordered.jobs (job_row f) has (ap number is) (Some row) h in
      absurd (let no = found f (same_some at) (subst IsLawful (record_again f) lawful.limits) (subst IsFormed (record_again f) lawful.formed) in cc)

  pub no_job_known : FindsRow SELECT_JOB.now (number n ∷ []) old new None → IsJobFound db n None
  no_job_known h f has is lawful =
      let at = found_it SELECT_JOB.now jobs_tree job_tests job_project job_names select_job (λ trees. refl) n (λ r. refl) old new db stored.schema_is now stored.ordered.jobs (job_row f) has (ap number is) None h in
      absurd (let no = at in cc)
