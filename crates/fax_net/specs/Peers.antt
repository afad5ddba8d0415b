-- What the calls on connections tell, by their results.
use Rattle.std.specs.Prelude.{ℕ, ◌<◌, ◌≤◌, Bool, true, false, List, take, ⊤}
use Rattle.fax_net.specs.declared.peers.Coming.{Coming}
use Rattle.fax_net.specs.declared.peers.Coming.TheVariants.{One, Missed as MissedOne, Nobody}
use Rattle.fax_net.specs.declared.peers.Moved.{Moved}
use Rattle.fax_net.specs.declared.peers.Moved.TheVariants.{Bytes, Nothing, End, Failed as HasFailed}
use Rattle.fax_net.specs.History.{Step, At, Missed, Came, Said, Dry, Ended, Held, Took, Waits, Failed}

-- bytes are moved, and no more than there are
abbrev pub IsWithin : Moved → ℕ → Type 0
IsWithin (Bytes count) size = (0 < count) × (count ≤ size)
IsWithin Nothing size = ⊤
IsWithin End size = ⊤
IsWithin HasFailed size = ⊤

-- a place was asked for
abbrev pub step_of_coming : ℕ → Coming → Step
step_of_coming place One = At place Came
step_of_coming place MissedOne = At place Missed
step_of_coming place Nobody = At place Waits

-- a read that has these bytes in front
abbrev pub step_of_read : ℕ → List ℕ → Moved → Step
step_of_read place room (Bytes count) = At place (Said (take count room))
step_of_read place room Nothing = At place Dry
step_of_read place room End = At place Ended
step_of_read place room HasFailed = At place Failed

-- a connection is to be held
abbrev pub step_of_hold : ℕ → Bool → Step
step_of_hold place true = At place Held
step_of_hold place false = At place Failed

-- a write of these bytes; one that says that nothing more comes has failed
abbrev pub step_of_write : ℕ → List ℕ → Moved → Step
step_of_write place bytes (Bytes count) = At place (Took (take count bytes))
step_of_write place bytes Nothing = At place Waits
step_of_write place bytes End = At place Failed
step_of_write place bytes HasFailed = At place Failed
