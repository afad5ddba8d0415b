use Rattle.std.specs.Prelude.{◌≡◌, ℕ, ◌≤◌, List, ◌++◌, length, false, Option}
use Rattle.std.specs.Io.KnownBytes.{IsAtEnd}
use Rattle.fax_http.specs.declared.device.Watched.{Watched}
use Rattle.fax_http.specs.Device.{Took}

-- so many bytes were read, and stand behind those that were there; none only at the end of the input
pub record ReadMore {R : Type 0} (remaining : R → Option (List ℕ)) (old new : Watched R) (before after : List ℕ) (count : ℕ) : Type 0 where
  pub more : List ℕ
  pub behind : after ≡ before ++ more
  pub within : length after ≤ 81920
  pub counts : length more ≡ count
  pub took : Took remaining old new more false
  pub at_end : count ≡ 0 → IsAtEnd (remaining new.device)
