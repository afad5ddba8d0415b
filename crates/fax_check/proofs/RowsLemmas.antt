-- What the tests of a row decide.
use Rattle.std.proofs.Common.{◌≡◌, inl, inr, ℕ, List, [], ◌∷◌, filter, length, Bool, true, not, ◌&&◌, ◌||◌, nat_lt, Option, Some, None, Ok, Err, Result, IfErr, IfOk, refl, sym, ap, subst, ◌∙◌, arith}
use Rattle.std.specs.Prelude.{◌==◌}
use Rattle.std.specs.Bool.{Decides}
use Rattle.std.specs.Str.{bytes_eq}
use Rattle.std.proofs.lemmas.Bool.{and_from, and_parts, cases_Bool, eq-eqb, eqb-true, true≢false}
use Rattle.std.proofs.lemmas.Bool.Decides.{nat_tests}
use Rattle.std.proofs.lemmas.List.{take_all}
use Rattle.std.proofs.lemmas.Slice.Eq.{bytes_eq-Decides}
use Rattle.sqlite.specs.Order.{Row}
use Rattle.sqlite.specs.declared.types.Value.TheVariants.{Text}
use Rattle.sqlite_rules.specs.Lists.{Has}
use Rattle.sqlite_rules.proofs.ListLemmas.{has_filtered, has_kept, some_from, some_has}
use Rattle.fax_check.specs.Reading.{known_of}
use Rattle.fax_check.specs.Whole.{HasHolder, Holder, IsHeld, ShowsCall, ShowsGrant, ShowsJob, Stands, dialing, has_holder, holds, is_held, stands}
use Rattle.fax_core.specs.Fits.{fits_phase, is_granted}
use Rattle.fax_core.specs.Job.{job_of}
use Rattle.fax_core.specs.declared.grants.Grant.{Grant}
use Rattle.fax_job.specs.declared.job.JobFields.{JobFields}
use Rattle.fax_job.specs.declared.job.Phase.{Phase}
use Rattle.fax_job.specs.declared.job.Phase.TheVariants.{Held, Waiting, Granted, Done, Failed}
use Rattle.fax_tables.proofs.RowLemmas.{first_from}
use Rattle.fax_tables.specs.Fault.{OrUnavailable}
use Rattle.fax_tables.specs.Grant.{grant_shown}
use Rattle.fax_tables.specs.Job.{IsLawfulJob, job_shown}
use Rattle.fax_tables.specs.Row.{HasNumber, HasValue, HasValues}
use Rattle.fax_tables.specs.Tables.{IsLawfulGrant}
use Rattle.fax_tables.specs.declared.fault.StoreFault.{StoreFault}
use Rattle.fax_tables.specs.declared.fault.StoreFault.TheVariants.{Strange, Unavailable}
use Rattle.fax_tables.specs.declared.meta.Meta.{Meta}

-- ---- what was read

-- a record that is known was read
pub known_some : {A : Type 0} (read : Result A StoreFault) (x : A) → known_of read ≡ Ok (Some x) → read ≡ Ok x
known_some (Ok y) x h = cc
known_some (Err Strange) x h = absurd cc
known_some (Err Unavailable) x h = absurd cc

-- where none is known, the row is strange
pub known_none : {A : Type 0} (read : Result A StoreFault) → known_of read ≡ Ok None → read ≡ Err Strange
known_none (Ok y) h = absurd cc
known_none (Err Strange) h = refl
known_none (Err Unavailable) h = absurd cc

-- a fault that is passed on is want of an answer
pub known_err : {A : Type 0} (read : Result A StoreFault) (fault : StoreFault) → known_of read ≡ Err fault → fault ≡ Unavailable
known_err (Ok y) fault h = absurd cc
known_err (Err Strange) fault h = absurd cc
known_err (Err Unavailable) fault h = cc

-- a fault of what is known is want of an answer
pub known_cause : {A : Type 0} (read : Result A StoreFault) (known : Result (Option A) StoreFault) → known ≡ known_of read → IfErr known (λ fault. fault ≡ Unavailable)
known_cause read (Ok x) is = tt
known_cause read (Err e) is = known_err read e (sym is)

-- what is told under a premise
pub under : {A : Type 0} (r : Result A StoreFault) (X : Type 0) (P : A → Type 0) → (X → IfOk r P) → IfOk r (λ a. X → P a)
under (Ok a) X P so = so
under (Err e) X P so = tt

-- what was read is what is there
pub read_is : {A : Type 0} (read : Result A StoreFault) (x y : A) → read ≡ Ok x → OrUnavailable read (λ found. found ≡ y) → x ≡ y
read_is read x y is or = subst (λ r. OrUnavailable r (λ found. found ≡ y)) is or

-- and a row that is strange is none such
pub not_strange : {A : Type 0} (read : Result A StoreFault) (y : A) → read ≡ Err Strange → OrUnavailable read (λ found. found ≡ y) → ⊥
not_strange read y is or = absurd (let no = subst (λ r. OrUnavailable r (λ found. found ≡ y)) is or in cc)

-- values that fill a row are the row
pub whole_row : (row values : Row) → length row ≡ length values → HasValues row 0 values → row ≡ values
whole_row row values same has = sym (take_all (length values) row (omega (arith, same))) ∙ first_from row values 0 has

-- ---- holders

-- a granted job doesn't fit with no open grant
misfit : (p : Phase) (f : JobFields) → is_granted p ≡ true → fits_phase p f ≡ true → ⊥
misfit Held f on fit = absurd cc
misfit Waiting f on fit = absurd cc
misfit Granted f on fit = absurd cc
misfit Done f on fit = absurd cc
misfit Failed f on fit = absurd cc

has_decides : (held : List Holder) (n : ℕ) → Decides (has_holder held n) (HasHolder held n)
has_decides held n = (
  λ on. let it = some_has (λ (h : Holder). h.job == n) held on in (it.0, it.1, eqb-true (it.0).job n it.2),
  λ it. some_from (λ (h : Holder). h.job == n) held it.0 it.1 (eq-eqb (it.0).job n it.2),
)

-- whether a job stands as it may
pub stands_decides : (held : List Holder) (f : JobFields) → Decides (stands held f) (Stands held f)
stands_decides held f = elim (cases_Bool (is_granted f.phase)) [
  | inl on ↦ (
    λ h. inl (on, (has_decides held f.job).0 (rw on at h)),
    λ it. rw on (elim it [
      | inl granted ↦ (has_decides held f.job).1 granted.1
      | inr fit ↦ absurd (misfit f.phase f on (and_parts _ (fits_phase f.phase f) fit).1)
    ]),
  )
  | inr off ↦ (λ h. inr (rw off at h), λ it. rw off (elim it [ inl granted ↦ absurd (true≢false (sym granted.0 ∙ off)) | inr fit ↦ fit ]))
]

holds_is : (g : Grant) (h : Holder) → holds g h ≡ true → (h.modem ≡ g.modem) × (h.job ≡ g.job) × (h.grant ≡ g.number)
holds_is g h on =
    let last = and_parts _ (h.grant == g.number) on in
    let first = and_parts (bytes_eq h.modem g.modem) (h.job == g.job) last.0 in
    ((bytes_eq-Decides h.modem g.modem).0 first.0, eqb-true h.job g.job first.1, eqb-true h.grant g.number last.1)

is_holds : (g : Grant) (h : Holder) → h.modem ≡ g.modem → h.job ≡ g.job → h.grant ≡ g.number → holds g h ≡ true
is_holds g h modem job grant = and_from (bytes_eq h.modem g.modem && (h.job == g.job)) (h.grant == g.number) (and_from (bytes_eq h.modem g.modem) (h.job == g.job) ((bytes_eq-Decides h.modem g.modem).1 modem) (eq-eqb h.job g.job job)) (eq-eqb h.grant g.number grant)

-- whether a grant is held
pub held_decides : (held : List Holder) (g : Grant) → Decides (is_held held g) (IsHeld held g)
held_decides held g = (
  λ on. let it = some_has (holds g) held on in let is = holds_is g it.0 it.2 in (it.0, it.1, is.0, is.1, is.2),
  λ it. some_from (holds g) held it.0 it.1 (is_holds g it.0 it.2 it.3 it.4),
)

-- ---- rows

-- whether a row shows a grant as it has to be
pub grant_decides : (row : Row) (meta : Meta) (held : List Holder) (g : Grant) (b : Bool) → row ≡ grant_shown g → IsLawfulGrant g → ((x : Grant) → row ≡ grant_shown x → IsLawfulGrant x → g ≡ x)
    → b ≡ (nat_lt g.number meta.next_grant && (not g.is_open || is_held held g)) → Decides b (ShowsGrant meta held row)
grant_decides row meta held g b shown lawful found is = (to, from)
  where
    to : b ≡ true → ShowsGrant meta held row
    to on =
        let both = and_parts (nat_lt g.number meta.next_grant) (not g.is_open || is_held held g) (sym is ∙ on) in
        record { grant = g; is = shown; lawful = lawful; before = (let low = both.0 in grind (arith, nat_tests)); is_held = λ is_open. (held_decides held g).0 (rw is_open at both.1) }

    from : ShowsGrant meta held row → b ≡ true
    from it =
        let same : g ≡ it.grant = found it.grant it.is it.lawful in
        let low : nat_lt g.number meta.next_grant ≡ true = let n = it.before in let e = ap (λ (x : Grant). x.number) same in grind (arith, nat_tests) in
        is ∙ and_from _ _ low (elim (cases_Bool g.is_open) [
          | inl on ↦ rw on ((held_decides held g).1 (subst (IsHeld held) (sym same) (it.is_held (ap (λ (x : Grant). x.is_open) (sym same) ∙ on))))
          | inr off ↦ rw off refl
        ])

-- whether a row shows a job as it has to be
pub job_decides : (row : Row) (meta : Meta) (held : List Holder) (f : JobFields) (b : Bool) → row ≡ job_shown f → IsLawfulJob (job_of f)
    → ((x : JobFields) → row ≡ job_shown x → IsLawfulJob (job_of x) → f ≡ x)
    → b ≡ (nat_lt f.job meta.next_job && stands held f) → Decides b (ShowsJob meta held row)
job_decides row meta held f b shown lawful found is = (to, from)
  where
    to : b ≡ true → ShowsJob meta held row
    to on =
        let both = and_parts (nat_lt f.job meta.next_job) (stands held f) (sym is ∙ on) in
        record { job = f; is = shown; lawful = lawful; before = (let low = both.0 in grind (arith, nat_tests)); stands = (stands_decides held f).0 both.1 }

    from : ShowsJob meta held row → b ≡ true
    from it =
        let same : f ≡ it.job = found it.job it.is it.lawful in
        let low : nat_lt f.job meta.next_job ≡ true = let n = it.before in let e = ap (λ (x : JobFields). x.job) same in grind (arith, nat_tests) in
        is ∙ and_from _ _ low ((stands_decides held f).1 (subst (Stands held) (sym same) it.stands))

-- one of those that dial a number
dials_it : (dial : List ℕ) (held : List Holder) → nat_lt 0 (dialing dial held) ≡ true → (h : Holder) × Has held h × (h.dial ≡ dial)
dials_it dial held some = by (filter (λ (h : Holder). bytes_eq h.dial dial) held) refl some
  where
    by : (kept : List Holder) → filter (λ (h : Holder). bytes_eq h.dial dial) held ≡ kept → nat_lt 0 (length kept) ≡ true → (h : Holder) × Has held h × (h.dial ≡ dial)
    by [] is some = absurd cc
    by (h ∷ kept) is some =
        let it = has_filtered (λ (x : Holder). bytes_eq x.dial dial) held h (subst (λ all. Has all h) (sym is) (inl refl)) in
        (h, it.0, (bytes_eq-Decides h.dial dial).0 it.1)

some_dial : (held : List Holder) (h : Holder) → Has held h → nat_lt 0 (dialing h.dial held) ≡ true
some_dial held h has = by (filter (λ (x : Holder). bytes_eq x.dial h.dial) held) (has_kept (λ (x : Holder). bytes_eq x.dial h.dial) held h has ((bytes_eq-Decides h.dial h.dial).1 refl))
  where
    by : (kept : List Holder) → Has kept h → nat_lt 0 (length kept) ≡ true
    by [] none = absurd none
    by (x ∷ kept) has = grind (arith, nat_tests)

-- a row that counts a number shows what it has to
pub call_to : (held : List Holder) (row : Row) (dial : List ℕ) → HasValue row 0 (Text dial) → nat_lt 0 (dialing dial held) ≡ true → HasNumber row 1 (dialing dial held) → ShowsCall held row
call_to held row dial value some count =
    let it = dials_it dial held some in
    (it.0, it.1, subst (λ d. HasValue row 0 (Text d)) (sym it.2) value, subst (λ d. HasNumber row 1 (dialing d held)) (sym it.2) count)

-- and the other way round
pub call_from : (held : List Holder) (row : Row) (dial : List ℕ) → HasValue row 0 (Text dial) → ShowsCall held row → (nat_lt 0 (dialing dial held) ≡ true) × HasNumber row 1 (dialing dial held)
call_from held row dial value it =
    let texts : Text (it.0).dial ≡ Text dial = sym it.2.is ∙ value.is in
    let same : (it.0).dial ≡ dial = cc in
    (subst (λ d. nat_lt 0 (dialing d held) ≡ true) same (some_dial held it.0 it.1), subst (λ d. HasNumber row 1 (dialing d held)) same it.3)
