-- Lawful grants, and the rows of queries for them.
use Rattle.std.specs.Prelude.{◌≤◌, ℕ, List, [], ◌∷◌, IsTrue}
use Rattle.sqlite.specs.Order.{Row}
use Rattle.sqlite.specs.declared.types.Value.TheVariants.{Text}
use Rattle.fax_core.specs.declared.grants.Grant.{Grant}
use Rattle.fax_value.specs.Limits.{last_grant, last_job, most_pages}
use Rattle.fax_tables.specs.declared.grants.Hold.{Hold}
use Rattle.fax_tables.specs.Row.{number, call_number, shut_number}

-- what its modem and its job hold of an open grant
abbrev pub as_hold : Grant → Hold
as_hold g = record { grant = g.number; job = g.job }

-- the row of a query for a hold
abbrev pub held_shown : Hold → Row
held_shown h = number h.grant ∷ number h.job ∷ []

-- the same of a grant's
abbrev pub hold_shown : Grant → Row
hold_shown g = held_shown (as_hold g)

-- the row of a query for the modems that hold a grant
abbrev pub holder_shown : List ℕ → Row
holder_shown modem = Text modem ∷ []

-- the row of a query for a grant
abbrev pub grant_shown : Grant → Row
grant_shown g =
    number g.number ∷ number g.job ∷ Text g.modem ∷ number g.first_page ∷ number g.last_page ∷ number (call_number g.call) ∷ number g.confirmed ∷ number (shut_number g) ∷ []

-- its numbers are within their limits, and it begins at a page
pub record IsWithinLimits (g : Grant) : Type 0 where
  pub number : (1 ≤ g.number) × (g.number ≤ last_grant)
  pub job : (1 ≤ g.job) × (g.job ≤ last_job)
  pub pages : (1 ≤ g.first_page) × (g.first_page ≤ most_pages) × (g.last_page ≤ most_pages) × (g.confirmed ≤ most_pages)

-- the same of a hold
pub record IsLawfulHold (h : Hold) : Type 0 where
  pub grant : (1 ≤ h.grant) × (h.grant ≤ last_grant)
  pub job : (1 ≤ h.job) × (h.job ≤ last_job)

-- open, with its numbers within their limits
pub record IsOpenGrant (g : Grant) : Type 0 where
  pub is_open : IsTrue g.is_open
  pub limits : IsWithinLimits g
