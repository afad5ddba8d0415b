-- The alteration or the first fault of a list.
use Rattle.std.specs.Prelude.{ℕ, Bool, List, [], ◌∷◌, codes, Option, Some, None, Result, Ok, Err, if◌then◌else◌}
use Rattle.std.specs.List.{list_all, list_any}
use Rattle.std.specs.Str.{bytes_eq}
use Rattle.fax_job.specs.declared.alter.Alter.{Alter}
use Rattle.fax_job.specs.declared.order.OrderFault.{OrderFault}
use Rattle.fax_job.specs.declared.order.OrderFault.TheVariants.{NotAlterable}
use Rattle.fax_job.specs.Order.{◌>>=◌, modem_in, jobtag_in, tts_in, killtime_in, priority_in, maxtries_in, maxdials_in}
use Rattle.fax_job.specs.Pair.{Pair, value_of}

abbrev pub alterable_tags : List (List ℕ)
alterable_tags = codes "modem" ∷ codes "jobtag" ∷ codes "tts" ∷ codes "killtime" ∷ codes "priority" ∷ codes "maxtries" ∷ codes "maxdials" ∷ []

unfoldable pub is_alterable : List ℕ → Bool
is_alterable tag = list_any (λ alterable. bytes_eq alterable tag) alterable_tags

-- a tag that doesn't occur changes nothing
abbrev pub if_there : {A : Type 0} → (List ℕ → Result A OrderFault) → Option (List ℕ) → Result (Option A) OrderFault
if_there value_in None = Ok None
if_there value_in (Some value) = value_in value >>= λ x. Ok (Some x)

unfoldable pub changes_of : List Pair → Result Alter OrderFault
changes_of ps = do
  modem ← if_there modem_in (value_of (codes "modem") ps)
  jobtag ← if_there jobtag_in (value_of (codes "jobtag") ps)
  tts ← if_there tts_in (value_of (codes "tts") ps)
  killtime ← if_there killtime_in (value_of (codes "killtime") ps)
  priority ← if_there priority_in (value_of (codes "priority") ps)
  maxtries ← if_there maxtries_in (value_of (codes "maxtries") ps)
  maxdials ← if_there maxdials_in (value_of (codes "maxdials") ps)
  Ok (record { modem = modem; jobtag = jobtag; tts = tts; killtime = killtime; priority = priority; maxtries = maxtries; maxdials = maxdials })

-- the tags are tested before the values
unfoldable pub alter_of : List Pair → Result Alter OrderFault
alter_of ps = if list_all (λ p. is_alterable p.tag) ps then changes_of ps else Err NotAlterable
