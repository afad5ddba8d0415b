-- What happens to a device that is watched: what goes through it, and that it fails.
use Rattle.std.specs.Prelude.{◌≡◌, ℕ, ◌+◌, ◌-◌, ◌^◌, ◌<◌, min, Bool, true, false, List, ◌++◌, length, Option}
use Rattle.std.specs.Io.KnownBytes.{Appends, Consumes}
use Rattle.fax_http.specs.declared.device.Watched.{Watched}

-- a count of bytes, which stays at its greatest value
abbrev pub counted : ℕ → ℕ
counted n = min n (2 ^ 128 - 1)

-- nothing went through it yet, and it hasn't failed
pub record IsFresh {D : Type 0} (w : Watched D) : Type 0 where
  pub passed : w.passed ≡ 0
  pub failed : w.failed ≡ false

module _ {R : Type 0} (remaining : R → Option (List ℕ)) (old new : Watched R) where
  -- the bytes were read, and then the reader failed or didn't
  pub record Took (bytes : List ℕ) (failed : Bool) : Type 0 where
    pub consumed : Consumes (remaining old.device) (remaining new.device) bytes
    pub passed : counted new.passed ≡ counted (old.passed + length bytes)
    pub failed_is : new.failed ≡ failed

module _ {W : Type 0} (contents : W → Option (List ℕ)) (old new : Watched W) where
  -- the bytes were written, and then the writer failed or didn't
  pub record Put (bytes : List ℕ) (failed : Bool) : Type 0 where
    pub appended : Appends (contents old.device) (contents new.device) bytes
    pub passed : counted new.passed ≡ counted (old.passed + length bytes)
    pub failed_is : new.failed ≡ failed

  -- the front of the bytes was written and not all of them, and then the writer failed
  pub record BrokeOff (bytes : List ℕ) : Type 0 where
    pub front : List ℕ
    pub back : List ℕ
    pub parts : bytes ≡ front ++ back
    pub some : 0 < length back
    pub put : Put front true
