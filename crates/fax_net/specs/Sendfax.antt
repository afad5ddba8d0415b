-- How the command `sendfax` ends.
use Rattle.std.specs.Prelude.{◌≡◌, ◌⊎◌, ℕ, true, false, List, [], ◌∷◌, ◌++◌, codes, MatchOption, Option, Result, Ok, Err, Vec, if◌then◌else◌}
use Rattle.std.specs.Fmt.{decimal}
use Rattle.std.specs.declared.alloc.Global.{Global}
use Rattle.fax_http.specs.Device.{BrokeOff, Put}
use Rattle.fax_http.specs.declared.answer.Answer.{Answer}
use Rattle.fax_http.specs.declared.answer.AnswerFault.{AnswerFault}
use Rattle.fax_http.specs.declared.answer.AnswerFault.TheVariants.{NoReply, NoMemory}
use Rattle.fax_http.specs.declared.device.Watched.{Watched}
use Rattle.fax_ending.specs.Ending.{no_memory, write_failed}
use Rattle.fax_text.specs.Sendfax.{fault_word, is_no_memory, request_of}
use Rattle.fax_text.specs.declared.sendfax.SendFault.{SendFault}
use Rattle.fax_text.specs.declared.sendfax.SendPlan.{SendPlan}
use Rattle.fax_http.specs.Clock.{IsMoment}
use Rattle.fax_text.specs.declared.status.Status.{Status}
use Rattle.fax_text.specs.declared.status.Status.TheVariants.{Success, Fault, Usage, Unused, Later}

-- a text at fault is a usage fault, and want of memory is another
abbrev pub refused : SendFault → Status
refused fault = if is_no_memory fault then Fault else Usage

-- ---- what is said

-- which text is at fault
abbrev pub refusal : SendFault → List ℕ
refusal fault = if is_no_memory fault then no_memory else codes "faxqd: bad " ++ fault_word fault ++ 10 ∷ []

-- with which status no job was made
abbrev pub refused_line : ℕ → List ℕ
refused_line status = codes "faxqd: refused " ++ decimal status ++ 10 ∷ []

-- why there is no reply
abbrev pub answer_line : AnswerFault → List ℕ
answer_line NoReply = codes "faxqd: no reply" ++ 10 ∷ []
answer_line NoMemory = no_memory

-- ---- how it ends

-- the plan's request at its moment is this, or has this fault
abbrev pub Makes : SendPlan → Result (List ℕ) SendFault → Type 0
Makes plan made = (moment : ℕ) × IsMoment plan.moment moment × (request_of plan moment ≡ made)

module _ {W : Type 0} (contents : W → Option (List ℕ)) (out out₂ : Watched W) where
  -- A request that was made is printed, or the output failed; a text at fault is a usage fault, and want of memory is another. The last is what is said.
  abbrev pub Tells : Result (Vec ℕ Global) SendFault → Status → List ℕ → Type 0
  Tells (Ok text) Success line = Put contents out out₂ text.items false × (line ≡ [])
  Tells (Ok text) Fault line = BrokeOff contents out out₂ text.items × (line ≡ write_failed)
  Tells (Ok text) Usage line = ⊥
  Tells (Ok text) Unused line = ⊥
  Tells (Ok text) Later line = ⊥
  Tells (Err fault) Success line = ⊥
  Tells (Err fault) Fault line = (out₂ ≡ out) × (is_no_memory fault ≡ true) × (line ≡ no_memory)
  Tells (Err fault) Usage line = (out₂ ≡ out) × (is_no_memory fault ≡ false) × (line ≡ refusal fault)
  Tells (Err fault) Unused line = ⊥
  Tells (Err fault) Later line = ⊥

  -- The request of the plan is printed. Or a text of it is at fault, and nothing is printed; or memory or the output gave out.
  abbrev pub Prints : SendPlan → Status → List ℕ → Type 0
  Prints plan Success line = (text : List ℕ) × Makes plan (Ok text) × Put contents out out₂ text false × (line ≡ [])
  Prints plan Fault line =
      ((out₂ ≡ out) × (line ≡ no_memory)) ⊎ ((text : List ℕ) × Makes plan (Ok text) × BrokeOff contents out out₂ text × (line ≡ write_failed))
  Prints plan Usage line = (out₂ ≡ out) × (fault : SendFault) × Makes plan (Err fault) × (line ≡ refusal fault)
  Prints plan Unused line = ⊥
  Prints plan Later line = ⊥

  -- The body of a reply is printed: with status 201 it succeeds, and else it is a fault. Without a reply nothing is printed.
  abbrev pub Replies : Result Answer AnswerFault → Status → List ℕ → Type 0
  Replies (Ok answer) Success line = (answer.status ≡ 201) × Put contents out out₂ answer.body.items false × (line ≡ [])
  Replies (Ok answer) Fault line =
      (¬ (answer.status ≡ 201) × Put contents out out₂ answer.body.items false × (line ≡ refused_line answer.status))
      ⊎ (BrokeOff contents out out₂ answer.body.items × (line ≡ write_failed))
  Replies (Ok answer) Usage line = ⊥
  Replies (Ok answer) Unused line = ⊥
  Replies (Ok answer) Later line = ⊥
  Replies (Err fault) Success line = ⊥
  Replies (Err fault) Fault line = (out₂ ≡ out) × (line ≡ answer_line fault)
  Replies (Err fault) Usage line = ⊥
  Replies (Err fault) Unused line = ⊥
  Replies (Err fault) Later line = ⊥

  -- a request that was made is sent, and what is replied is printed; or a text is at fault
  abbrev pub Handed : Result (Vec ℕ Global) SendFault → Status → List ℕ → Type 0
  Handed (Ok text) status line = (reply : Result Answer AnswerFault) × Replies reply status line
  Handed (Err fault) status line = (out₂ ≡ out) × (status ≡ refused fault) × (line ≡ refusal fault)

  -- The request of the plan is made, and the body of a reply is printed. Or a text of it is at fault, and nothing is printed; or memory gave out.
  abbrev pub Sends : SendPlan → Status → List ℕ → Type 0
  Sends plan Success line = (text : List ℕ) × Makes plan (Ok text) × (answer : Answer) × Replies (Ok answer) Success line
  Sends plan Fault line =
      ((out₂ ≡ out) × (line ≡ no_memory)) ⊎ ((text : List ℕ) × Makes plan (Ok text) × (reply : Result Answer AnswerFault) × Replies reply Fault line)
  Sends plan Usage line = (out₂ ≡ out) × (fault : SendFault) × Makes plan (Err fault) × (line ≡ refusal fault)
  Sends plan Unused line = ⊥
  Sends plan Later line = ⊥

  -- the request is printed, or sent to the address that the plan has
  abbrev pub Hands : SendPlan → Status → List ℕ → Type 0
  Hands plan status line = MatchOption plan.to (Prints plan status line) (λ _. Sends plan status line)
