-- How the commands of a client with a journal end, `worker` and `post`.
use Rattle.std.specs.Prelude.{◌≡◌, ◌⊎◌, ℕ, false, List, [], Option}
use Rattle.fax_http.specs.Device.{BrokeOff, Put}
use Rattle.fax_http.specs.declared.device.Watched.{Watched}
use Rattle.fax_ending.specs.Ending.{write_failed}
use Rattle.fax_text.specs.declared.status.Status.{Status}
use Rattle.fax_text.specs.declared.status.Status.TheVariants.{Success, Fault, Usage, Unused, Later}

module _ {W : Type 0} (contents : W → Option (List ℕ)) (out out₂ : Watched W) where
  -- A command that succeeds has printed its text and says nothing else. One that doesn't has printed nothing, unless the output failed.
  abbrev pub Answers : Status → List ℕ → Type 0
  Answers Success line = (text : List ℕ) × Put contents out out₂ text false × (line ≡ [])
  Answers Fault line = (out₂ ≡ out) ⊎ ((text : List ℕ) × BrokeOff contents out out₂ text × (line ≡ write_failed))
  Answers Usage line = out₂ ≡ out
  Answers Unused line = ⊥
  Answers Later line = out₂ ≡ out
