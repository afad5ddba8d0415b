-- What records have in common whose rows are the same.
use Rattle.std.proofs.Common.{◌≡◌, ℕ, List, Bool, true, false, Option, Some, None, refl, sym, ap, subst, ◌∙◌}
use Rattle.std.specs.Prelude.{if◌then◌else◌, ◌==◌}
use Rattle.sqlite.specs.Order.{Row, column}
use Rattle.sqlite.specs.declared.types.Value.TheVariants.{Text}
use Rattle.fax_core.specs.Fits.{fits}
use Rattle.fax_core.specs.declared.grants.Grant.{Grant}
use Rattle.fax_job.specs.declared.job.Call.{Call}
use Rattle.fax_job.specs.declared.job.Call.TheVariants.{Connected, Busy, NoAnswer, NoCarrier, Other}
use Rattle.fax_job.specs.declared.job.JobFields.{JobFields}
use Rattle.fax_job.specs.declared.job.Phase.{Phase}
use Rattle.fax_job.specs.declared.job.Phase.TheVariants.{Held, Waiting, Granted, Done, Failed}
use Rattle.fax_check.specs.Whole.{Holder}
use Rattle.fax_tables.specs.Row.{number, phase_number, call_number, job_row, grant_row}
use Rattle.fax_tables.proofs.GrantRowLemmas.{same_grant}

-- ---- values

-- the same number was written
pub numbers : (m n : ℕ) → number m ≡ number n → m ≡ n
numbers m n e = cc

-- the same text was
pub texts : (s t : List ℕ) → Text s ≡ Text t → s ≡ t
texts s t e = cc

-- the call that a number is for
abbrev call_of : ℕ → Option Call
call_of n = if n == 0 then None else if n == 1 then Some Connected else if n == 2 then Some Busy else if n == 3 then Some NoAnswer else if n == 4 then Some NoCarrier else Some Other

call_again : (c : Option Call) → call_of (call_number c) ≡ c
call_again None = refl
call_again (Some Connected) = refl
call_again (Some Busy) = refl
call_again (Some NoAnswer) = refl
call_again (Some NoCarrier) = refl
call_again (Some Other) = refl

-- the phase that a number is for
abbrev phase_of : ℕ → Phase
phase_of n = if n == 0 then Held else if n == 1 then Waiting else if n == 2 then Granted else if n == 3 then Done else Failed

phase_again : (p : Phase) → phase_of (phase_number p) ≡ p
phase_again Held = refl
phase_again Waiting = refl
phase_again Granted = refl
phase_again Done = refl
phase_again Failed = refl

-- a grant is open where 0 stands for it
open_again : (b : Bool) → ((if b then 0 else 1) == 0) ≡ b
open_again true = refl
open_again false = refl

-- ---- grants

-- grants of the same row are the same
pub one_grant : (a b : Grant) → grant_row a ≡ grant_row b → a ≡ b
one_grant a b is =
    same_grant b a.number a.job a.modem a.first_page a.last_page a.call a.confirmed a.is_open
    (numbers a.number b.number (at 0)) (numbers a.job b.job (at 2)) (texts a.modem b.modem (at 3)) (numbers a.first_page b.first_page (at 4)) (numbers a.last_page b.last_page (at 5))
    (sym (call_again a.call) ∙ ap call_of (numbers (call_number a.call) (call_number b.call) (at 6)) ∙ call_again b.call) (numbers a.confirmed b.confirmed (at 7))
    (sym (open_again a.is_open) ∙ ap (λ n. n == 0) (numbers (if a.is_open then 0 else 1) (if b.is_open then 0 else 1) (at 8)) ∙ open_again b.is_open)
  where
    at : (place : ℕ) → column (grant_row a) place ≡ column (grant_row b) place
    at place = ap (λ (r : Row). column r place) is

-- ---- jobs

-- a job with these counters and this phase
abbrev with_counters : JobFields → ℕ → ℕ → ℕ → ℕ → ℕ → ℕ → ℕ → ℕ → Phase → JobFields
with_counters j npages totpages ntries tottries maxtries ndials totdials maxdials phase = record j {
  npages = npages;
  totpages = totpages;
  ntries = ntries;
  tottries = tottries;
  maxtries = maxtries;
  ndials = ndials;
  totdials = totdials;
  maxdials = maxdials;
  phase = phase;
}

-- with those that it has it is itself
same_counters : (j : JobFields) (npages totpages ntries tottries maxtries ndials totdials maxdials : ℕ) (phase : Phase)
    → npages ≡ j.npages → totpages ≡ j.totpages → ntries ≡ j.ntries → tottries ≡ j.tottries → maxtries ≡ j.maxtries
    → ndials ≡ j.ndials → totdials ≡ j.totdials → maxdials ≡ j.maxdials → phase ≡ j.phase
    → with_counters j npages totpages ntries tottries maxtries ndials totdials maxdials phase ≡ j
same_counters j npages totpages ntries tottries maxtries ndials totdials maxdials phase e0 e1 e2 e3 e4 e5 e6 e7 e8 = rw (e0, e1, e2, e3, e4, e5, e6, e7, e8) refl

module _ (a b : JobFields) (is : job_row a ≡ job_row b) where
  at : (place : ℕ) → column (job_row a) place ≡ column (job_row b) place
  at place = ap (λ (r : Row). column r place) is

  -- jobs of the same row have the same number
  pub number_of : a.job ≡ b.job
  number_of = numbers a.job b.job (at 0)

  -- they dial the same
  pub dial_of : a.dial ≡ b.dial
  dial_of = texts a.dial b.dial (at 2)

  -- where one fits a grant, so does the other
  pub fit_of : (g : Grant) → fits b (Some g) ≡ true → fits a (Some g) ≡ true
  fit_of g fit = subst (λ (f : JobFields). fits f (Some g) ≡ true) (sym same) fit
    where
      same : with_counters b a.npages a.totpages a.ntries a.tottries a.maxtries a.ndials a.totdials a.maxdials a.phase ≡ b
      same =
          same_counters b a.npages a.totpages a.ntries a.tottries a.maxtries a.ndials a.totdials a.maxdials a.phase
          (numbers a.npages b.npages (at 10)) (numbers a.totpages b.totpages (at 11))
          (numbers a.ntries b.ntries (at 12)) (numbers a.tottries b.tottries (at 13)) (numbers a.maxtries b.maxtries (at 14))
          (numbers a.ndials b.ndials (at 15)) (numbers a.totdials b.totdials (at 16)) (numbers a.maxdials b.maxdials (at 17))
          (sym (phase_again a.phase) ∙ ap phase_of (numbers (phase_number a.phase) (phase_number b.phase) (at 18)) ∙ phase_again b.phase)

-- ---- holders

-- a holder with the fields of another is the other
pub same_holder : (h : Holder) (modem : List ℕ) (job grant : ℕ) (dial : List ℕ) → modem ≡ h.modem → job ≡ h.job → grant ≡ h.grant → dial ≡ h.dial
    → ◌≡◌ {A = Holder} (record { modem = modem; job = job; grant = grant; dial = dial }) h
same_holder h modem job grant dial e0 e1 e2 e3 = rw (e0, e1, e2, e3) refl
