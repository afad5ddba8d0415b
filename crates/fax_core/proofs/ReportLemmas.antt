-- What grants and reports make of the pages of a record.
use Rattle.std.proofs.Common.{◌≡◌, ℕ, suc, ◌+◌, ◌-◌, ◌<◌, ◌≤◌, Bool, true, false, cond, not, eqb, ltb, List, [], ◌∷◌, ◌++◌, refl, sym, ap, subst, ◌∙◌, arith}
use Rattle.std.specs.Prelude.{Result, Ok, None}
use Rattle.std.specs.List.{range_with_len}
use Rattle.std.proofs.lemmas.Bool.{ltb-true, ltb-false, eq-eqb}
use Rattle.std.proofs.lemmas.List.FromFn.{length-range_with_len}
use Rattle.fax_job.specs.declared.job.JobFields.{JobFields}
use Rattle.fax_job.specs.declared.refusal.Refusal.{Refusal}
use Rattle.fax_core.specs.declared.change.Change.{Change}
use Rattle.fax_core.specs.declared.grants.Grant.{Grant}
use Rattle.fax_core.specs.Change.{changed, unchanged}
use Rattle.fax_core.specs.Decisions.{JobAndGrant, granted, page_of, is_empty}
use Rattle.fax_core.specs.Job.{job_of, pages_to}
use Rattle.fax_core.proofs.RangeLemmas.{joined}

-- ---- pages that are left

-- where all pages are sent, none is left
none_left : (n all : ℕ) → all ≤ n → range_with_len (n + 1) (all - n) ≡ []
none_left n all h = let no : all - n ≡ 0 = omega (arith, h) in ap (λ (k : ℕ). range_with_len (n + 1) k) no

-- else the one behind those sent is left first
one_left : (n all : ℕ) → n < all → range_with_len (n + 1) (all - n) ≡ (n + 1) ∷ range_with_len (n + 1 + 1) (all - (n + 1))
one_left n all h = let one : all - n ≡ suc (all - (n + 1)) = omega (arith, h) in ap (λ (k : ℕ). range_with_len (n + 1) k) one

-- one more page is sent
one_more : (n : ℕ) → pages_to (n + 1) ≡ pages_to n ++ (n + 1) ∷ []
one_more n = let start : 1 + n ≡ n + 1 = omega arith in sym (joined 1 n 1) ∙ ap (λ (i : ℕ). range_with_len 1 n ++ i ∷ []) start

-- ---- a page report

-- the page report that is taken
abbrev sent_next : JobFields → Grant → ℕ → Result JobAndGrant Refusal
sent_next f g n = Ok (record {
  job = record (job_of f) { sent = pages_to n; left = range_with_len (n + 1) (f.totpages - n); ntries = 0 };
  grant = record g { confirmed = g.confirmed + 1 };
})

-- the next page that is sent is the one that the machine takes
pub next_page : (f : JobFields) (n : ℕ) (g : Grant) → f.npages < f.totpages → n ≡ f.npages + 1 → sent_next f g n ≡ page_of (job_of f).left n (job_of f) g
next_page f n g h is = subst (λ (at : ℕ). sent_next f g at ≡ page_of (job_of f).left at (job_of f) g) (sym is) at_next
  where
    chosen : {A : Type 0} (x y : A) (same : Bool) → same ≡ true → cond (not same) x y ≡ y
    chosen x y true e = refl
    chosen x y false e = cc

    with_sent : List ℕ → Result JobAndGrant Refusal
    with_sent sent = Ok (record {
      job = record (job_of f) { sent = sent; left = range_with_len (f.npages + 1 + 1) (f.totpages - (f.npages + 1)); ntries = 0 };
      grant = record g { confirmed = g.confirmed + 1 };
    })

    at_next : sent_next f g (f.npages + 1) ≡ page_of (job_of f).left (f.npages + 1) (job_of f) g
    at_next =
        let cut = ap (λ (left : List ℕ). page_of left (f.npages + 1) (job_of f) g) (one_left f.npages f.totpages h) in
        let taken : page_of ((f.npages + 1) ∷ range_with_len (f.npages + 1 + 1) (f.totpages - (f.npages + 1))) (f.npages + 1) (job_of f) g ≡ with_sent (pages_to f.npages ++ (f.npages + 1) ∷ []) = chosen _ _ (eqb (f.npages + 1) (f.npages + 1)) (eq-eqb (f.npages + 1) (f.npages + 1) refl) in
        ap with_sent (one_more f.npages) ∙ sym taken ∙ sym cut

-- the change that sends the next page
pub paged : (f : JobFields) (n : ℕ) (c : Change) (g : Grant) → c ≡ unchanged f → f.npages < f.totpages → n ≡ f.npages + 1
    → Ok (record { job = changed (record c { npages = n; ntries = 0 }) (job_of f); grant = record g { confirmed = g.confirmed + 1 } }) ≡ page_of (job_of f).left n (job_of f) g
paged f n c g none h is =
    ap (λ (by : Change). Ok (record { job = changed (record by { npages = n; ntries = 0 }) (job_of f); grant = record g { confirmed = g.confirmed + 1 } })) none ∙ next_page f n g h is

-- ---- an outcome

-- the record has pages left just where its job has
pub pages_left : (f : JobFields) → ltb f.npages f.totpages ≡ not (is_empty (job_of f).left)
pages_left f = by (ltb f.npages f.totpages) refl
  where
    by : (less : Bool) → ltb f.npages f.totpages ≡ less → less ≡ not (is_empty (job_of f).left)
    by true e = sym (ap (λ (left : List ℕ). not (is_empty left)) (one_left f.npages f.totpages (ltb-true f.npages f.totpages e)))
    by false e = sym (ap (λ (left : List ℕ). not (is_empty left)) (none_left f.npages f.totpages (omega (arith, ltb-false f.npages f.totpages e))))

-- ---- a new grant

-- a grant of the job's record begins with the page behind those sent
pub new_grant : (f : JobFields) (modem : List ℕ) (number : ℕ)
    → record { number = number; job = f.job; modem = modem; first_page = f.npages + 1; last_page = f.totpages; call = None; confirmed = 0; is_open = true } ≡ (granted (job_of f) modem number).grant
new_grant f modem number = ap (λ (n : ℕ). record (granted (job_of f) modem number).grant { first_page = n + 1 }) (sym (length-range_with_len 1 f.npages))
