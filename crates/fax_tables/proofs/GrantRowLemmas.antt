-- A grant is told by its fields.
use Rattle.std.proofs.Common.{◌≡◌, ℕ, List, Bool, Option, refl}
use Rattle.fax_core.specs.declared.grants.Grant.{Grant}
use Rattle.fax_job.specs.declared.job.Call.{Call}

-- a grant with the fields of another is the other
pub same_grant : (g : Grant) (number job : ℕ) (modem : List ℕ) (first_page last_page : ℕ) (call : Option Call) (confirmed : ℕ) (is_open : Bool)
    → number ≡ g.number → job ≡ g.job → modem ≡ g.modem → first_page ≡ g.first_page → last_page ≡ g.last_page → call ≡ g.call → confirmed ≡ g.confirmed → is_open ≡ g.is_open
    → ◌≡◌ {A = Grant} (record { number = number; job = job; modem = modem; first_page = first_page; last_page = last_page; call = call; confirmed = confirmed; is_open = is_open }) g
same_grant g number job modem first_page last_page call confirmed is_open e0 e1 e2 e3 e4 e5 e6 e7 = rw (e0, e1, e2, e3, e4, e5, e6, e7) refl
