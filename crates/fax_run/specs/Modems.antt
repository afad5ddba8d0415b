-- What is shown of the modems.
use Rattle.std.specs.Prelude.{ℕ, not, List, [], ◌∷◌, flat_map, map, Option, Some, None, if◌then◌else◌}
use Rattle.std.specs.Cmp.Lexicographic.{slice_cmp}
use Rattle.std.specs.Ordering.{is_gt, is_lt, nat_cmp}
use Rattle.fax_core.specs.Machine.{dial_of, held_by, is_down}
use Rattle.fax_core.specs.Queue.{Queue, job_numbered, open_grants}
use Rattle.fax_core.specs.Settings.{Settings, has_modem}
use Rattle.fax_core.specs.declared.grants.Grant.{Grant}
use Rattle.fax_text.specs.Modems.{grant_words, modem_line}
use Rattle.fax_text.specs.declared.modems.Standing.{Standing}
use Rattle.fax_text.specs.declared.modems.Standing.TheVariants.{Up, Down, Gone}

-- ---- names, each once, in ascending order of their bytes

-- the name in its place among such names
abbrev pub with_name : List ℕ → List (List ℕ) → List (List ℕ)
with_name name [] = name ∷ []
with_name name (other ∷ names) =
    if is_lt (slice_cmp nat_cmp name other) then name ∷ other ∷ names
    else if is_gt (slice_cmp nat_cmp name other) then other ∷ with_name name names
    else other ∷ names

-- these names among such names
abbrev pub with_names : List (List ℕ) → List (List ℕ) → List (List ℕ)
with_names [] names = names
with_names (name ∷ more) names = with_names more (with_name name names)

-- ---- the modems

-- those of the setup, and those that hold a grant
abbrev pub modem_names : Settings → Queue → List (List ℕ)
modem_names s m = with_names (map (λ g. g.modem) (open_grants m)) (with_names s.modems [])

-- a modem that isn't in the setup is gone, also if it was marked as down
abbrev pub standing : Settings → Queue → List ℕ → Standing
standing s m modem = if not (has_modem s modem) then Gone else if is_down modem m then Down else Up

-- an open grant with the number to dial, if there is one
abbrev pub grant_shown : Queue → Option Grant → List ℕ
grant_shown m None = []
grant_shown m (Some g) = grant_words g.number g.job (dial_of (job_numbered g.job m)) g.first_page g.last_page g.call g.confirmed

abbrev pub modem_shown : Settings → Queue → List ℕ → List ℕ
modem_shown s m modem = modem_line modem (standing s m modem) (grant_shown m (held_by modem m))

-- a line for each
abbrev pub modems_shown : Settings → Queue → List ℕ
modems_shown s m = flat_map (modem_shown s m) (modem_names s m)
