-- What the rows of holds tell of the holders.
use Rattle.std.proofs.Common.{◌≡◌, inl, inr, ℕ, ◌<◌, ◌^◌, List, [], ◌∷◌, map, drop, take, true, false, Option, Some, None, Ok, Err, Result, IfOk, IsTrue, refl, sym, ap, ap₂, subst, ◌∙◌, arith}
use Rattle.std.specs.List.Sorted.{IsPermutation}
use Rattle.std.proofs.lemmas.List.Sorted.{IsPermutation-map, IsPermutation-sym}
use Rattle.sqlite.specs.Effect.{Database}
use Rattle.sqlite.specs.Order.{Row}
use Rattle.sqlite.specs.State.{State, Shown}
use Rattle.sqlite.specs.declared.types.Value.TheVariants.{Text}
use Rattle.sqlite_rules.specs.Lists.{Has}
use Rattle.std.proofs.lemmas.Bool.{true≢false}
use Rattle.fax_check.specs.Holders.{Grants, HasItsJob, IsGrantFound, IsGrantHeld, IsHolderFor, IsHolderFound, IsHolderOf, IsJobFound, IsShownBy}
use Rattle.fax_check.proofs.FieldLemmas.{fit_of, one_grant as same_grant}
use Rattle.fax_check.proofs.LookLemmas.{one_row}
use Rattle.fax_core.specs.Fits.{fits}
use Rattle.fax_tables.specs.declared.fault.StoreFault.{StoreFault}
use Rattle.fax_check.specs.Sound.{IsStored}
use Rattle.fax_check.specs.Whole.{Holder, IsRightHolder, holder_columns}
use Rattle.fax_check.proofs.BridgeLemmas as bridge
use Rattle.fax_check.proofs.ShapeLemmas as shape
use Rattle.fax_core.specs.declared.grants.Grant.{Grant}
use Rattle.fax_job.specs.declared.job.JobFields.{JobFields}
use Rattle.fax_schema.specs.Schema.{grants_tree, holds_tree, jobs_tree}
use Rattle.fax_check.specs.declared.tables.TheConstants.{SELECT_ALL_HOLDS}
use Rattle.fax_check.proofs.TableLemmas.{all_holds_project, select_all_holds}
use Rattle.fax_layout.proofs.SelectLemmas.{show}
use Rattle.fax_layout.proofs.EditLemmas.{has_mapped, has_permuted}
use Rattle.fax_tables.specs.Row.{HasNumber, HasValue, HasValues, grant_row, job_row, number}

-- the holder of the grant that a row shows is right
pub right_holder : (db : Database) (row : Row) (g : Grant) (f : JobFields) (h : Holder) → Grants db row g → HasItsJob db g f → IsHolderFor g f h → IsRightHolder db h
right_holder db row g f h grants its for = record {
  grant = g;
  has_grant = grants.has;
  number_is = sym for.grant;
  modem_is = sym for.modem;
  job_is = sym for.job;
  is_open = grants.is_open;
  job = f;
  has_job = its.has;
  its_number = its.its ∙ sym for.job;
  dials = sym for.dial;
  fit = its.fit;
}

-- and the row shows it
pub shows_holder : (db : Database) (row : Row) (g : Grant) (f : JobFields) (h : Holder) → Grants db row g → IsHolderFor g f h → HasValues row 0 (holder_columns h)
shows_holder db row g f h grants for = (
  subst (HasValue row 0) (ap Text (sym for.modem)) grants.shown.modem,
  (subst (HasNumber row 1) (sym for.job) grants.shown.job, (subst (HasNumber row 2) (sym for.grant) grants.shown.number, tt)),
)

-- ---- grants and jobs of one number

-- a number is one value
one_number : (row : Row) (at n k : ℕ) → HasNumber row at n → HasNumber row at k → n ≡ k
one_number row at n k a b = let e : number n ≡ number k = sym a.is ∙ b.is in cc

module _ (db : Database) (stored : IsStored db) where
  -- grants of one number are the same
  one_grant : (g x : Grant) → Has (db.trees grants_tree) (grant_row g) → Has (db.trees grants_tree) (grant_row x) → g.number ≡ x.number → g ≡ x
  one_grant g x has also same = same_grant g x (one_row grants_tree db stored.ordered.grants g.number (grant_row x) (grant_row g) also has (ap number (sym same)) refl)

  -- jobs of one number fit the same grants
  one_fit : (f x : JobFields) (g : Grant) → Has (db.trees jobs_tree) (job_row f) → Has (db.trees jobs_tree) (job_row x) → f.job ≡ x.job → fits f (Some g) ≡ true → fits x (Some g) ≡ true
  one_fit f x g has also same = fit_of x f (one_row jobs_tree db stored.ordered.jobs f.job (job_row f) (job_row x) has also refl (ap number (sym same))) g

  -- a row shows one grant
  one_shown : (row : Row) (g x : Grant) → Grants db row g → Grants db row x → g ≡ x
  one_shown row g x a b = one_grant g x a.has b.has (one_number row 2 g.number x.number a.shown.number b.shown.number)

  -- where its number is no lawful grant's, it shows none
  pub no_grant_held : (row : Row) (n : ℕ) → ((k : ℕ) → HasNumber row 2 k → k < 2 ^ 32 → n ≡ k) → IsGrantFound db n None → IsGrantHeld db row None
  no_grant_held row n is none g lawful grants =
      let low : g.number < 2 ^ 32 = let most = lawful.limits.number.1 in omega (arith, most) in
      none g grants.has (sym (is g.number grants.shown.number low)) lawful

  -- nor where that grant isn't open, or isn't shown
  pub not_held : (row : Row) (n : ℕ) (x : Grant) → ((k : ℕ) → HasNumber row 2 k → k < 2 ^ 32 → n ≡ k) → IsGrantFound db n (Some x) → (IsTrue x.is_open → ¬ IsShownBy row x) → IsGrantHeld db row None
  not_held row n x is found never g lawful grants =
      let low : g.number < 2 ^ 32 = let most = lawful.limits.number.1 in omega (arith, most) in
      let same : g ≡ x = one_grant g x grants.has found.0 (sym (is g.number grants.shown.number low) ∙ sym found.1) in
      never (ap (λ (y : Grant). y.is_open) (sym same) ∙ grants.is_open) (subst (IsShownBy row) same grants.shown)

  -- a job that doesn't fit the grant is the only one of its number
  pub misfit_found : (g : Grant) (j : JobFields) → IsJobFound db g.job (Some j) → fits j (Some g) ≡ false → IsHolderOf db g None
  misfit_found g j found off f lawful its = true≢false (sym (one_fit f j g its.has found.0 (its.its ∙ sym found.1) its.fit) ∙ off)

  -- and where there is none, there is no holder
  pub no_job_found : (g : Grant) → IsJobFound db g.job None → IsHolderOf db g None
  no_job_found g none f lawful its = none f its.has its.its lawful

  -- the holder of the grant that a row shows is what is found
  pub holder_found : (now : Database) → db ≡ now → (row : Row) (g : Grant) → Grants db row g → (r : Result (Option Holder) StoreFault) → IfOk r (λ found. IsHolderOf now g found)
      → IfOk r (λ found. IsHolderFound db row found)
  holder_found now is row g grants (Ok (Some h)) of =
      let it = subst (λ d. IsHolderOf d g (Some h)) (sym is) of in
      (shows_holder db row g it.0 h grants it.2, right_holder db row g it.0 h grants it.1 it.2)
  holder_found now is row g grants (Ok None) of = λ shown.
      let none = subst (λ d. IsHolderOf d g None) (sym is) of in
      none shown.job shown.lawful_job (subst (λ x. HasItsJob db x shown.job) (one_shown row shown.grant g shown.grants grants) shown.its)
  holder_found now is row g grants (Err e) of = tt

module _ (old new : State) (db : Database) (stored : IsStored db) (now : old.now ≡ db) (rows : List Row) (shown : Shown SELECT_ALL_HOLDS.now [] old new rows) where
  -- a row of holds without its rowid
  behind : (rs : List Row) → ((r : Row) → Has rs r → Has (db.trees holds_tree) r) → map (take 3) (map (show holds_tree [] all_holds_project []) rs) ≡ map (drop 1) rs
  behind [] all = refl
  behind (r ∷ rs) all = ap₂ ◌∷◌ (sym (ap (drop 1) (shape.hold_columns_of db stored r (all r (inl refl))))) (behind rs (λ s has. all s (inr has)))

  -- the holders of all rows that are shown are those of the table
  pub holders_are : (held : List Holder) → map (take 3) rows ≡ map holder_columns held → IsPermutation (map holder_columns held) (map (drop 1) (db.trees holds_tree))
  holders_are held is =
      let perm = bridge.all_shown SELECT_ALL_HOLDS.now holds_tree all_holds_project _ select_all_holds (λ trees. refl) old new db stored.schema_is now rows shown in
      let cut = IsPermutation-map (take 3) (map (show holds_tree [] all_holds_project []) (db.trees holds_tree)) rows perm in
      IsPermutation-sym (map (drop 1) (db.trees holds_tree)) (map holder_columns held)
      (subst (λ (a : List Row). IsPermutation a (map holder_columns held)) (behind (db.trees holds_tree) (λ r has. has)) (subst (IsPermutation (map (take 3) (map (show holds_tree [] all_holds_project []) (db.trees holds_tree)))) is cut))

  -- a row that is shown is one of the table
  pub hold_of : (row : Row) → Has rows row → (r : Row) × Has (db.trees holds_tree) r × (row ≡ show holds_tree [] all_holds_project [] r)
  hold_of row has =
      let perm = bridge.all_shown SELECT_ALL_HOLDS.now holds_tree all_holds_project _ select_all_holds (λ trees. refl) old new db stored.schema_is now rows shown in
      has_mapped (show holds_tree [] all_holds_project []) (db.trees holds_tree) row (has_permuted rows (map (show holds_tree [] all_holds_project []) (db.trees holds_tree)) row (IsPermutation-sym (map (show holds_tree [] all_holds_project []) (db.trees holds_tree)) rows perm) has)
