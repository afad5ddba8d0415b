use Rattle.std.specs.Prelude.{◌≡◌, ℕ, ◌≤◌, List, [], ◌∷◌, length}
use Rattle.fax_http.specs.declared.message.Occurrence.{Occurrence}
use Rattle.fax_http.specs.declared.message.Occurrence.TheVariants.{Missing, Once, Repeated}

-- these are the values of a field that occurs so often
abbrev pub Shows : Occurrence → List (List ℕ) → Type 0
Shows Missing values = values ≡ []
Shows (Once value) values = values ≡ value.now ∷ []
Shows Repeated values = 2 ≤ length values
