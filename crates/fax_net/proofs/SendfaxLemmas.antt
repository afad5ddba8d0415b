-- What is told of a request is that of the plan.
use Rattle.std.proofs.Common.{◌≡◌, ℕ, Bool, true, false, List, Option, Result, Ok, Err, [], ◌∷◌, ◌++◌, codes, ◌∙◌, ap, refl, subst, inl, inr, sym}
use Rattle.std.specs.Bool.{MatchBool}
use Rattle.std.specs.Prelude.{Vec, ⊤, if◌then◌else◌}
use Rattle.std.specs.declared.alloc.Global.{Global}
use Rattle.fax_http.specs.declared.answer.Answer.{Answer}
use Rattle.fax_http.specs.declared.answer.AnswerFault.{AnswerFault}
use Rattle.fax_http.specs.declared.device.Watched.{Watched}
use Rattle.fax_value.specs.Gives.{GivesBy}
use Rattle.fax_text.specs.Sendfax.{fault_word, is_no_memory, request_of}
use Rattle.fax_text.specs.declared.sendfax.SendFault.{SendFault}
use Rattle.fax_text.specs.declared.sendfax.SendPlan.{SendPlan}
use Rattle.fax_http.specs.Clock.{IsMoment}
use Rattle.fax_net.specs.Sendfax.{Handed, Makes, Prints, Replies, Sends, Tells, refusal}
use Rattle.fax_ending.specs.Ending.{no_memory}
use Rattle.fax_text.specs.declared.status.Status.{Status}
use Rattle.fax_text.specs.declared.status.Status.TheVariants.{Success, Fault, Usage, Unused, Later}

module _ {W : Type 0} (contents : W → Option (List ℕ)) (out out₂ : Watched W) (plan : SendPlan) (moment : ℕ) (at : IsMoment plan.moment moment) where
  -- the fault that a request has is the plan's
  fault_of : (fault : SendFault) → GivesBy (λ (text : Vec ℕ Global). text.items) is_no_memory (Err fault) (request_of plan moment) → is_no_memory fault ≡ false → Makes plan (Err fault)
  fault_of fault given other = (moment, at, subst (λ b. MatchBool b ⊤ (request_of plan moment ≡ Err fault)) other given)

  -- what is told of a request is what its plan prints
  pub prints_of : (made : Result (Vec ℕ Global) SendFault) → GivesBy (λ text. text.items) is_no_memory made (request_of plan moment)
      → (status : Status) (line : List ℕ) → Tells contents out out₂ made status line → Prints contents out out₂ plan status line
  prints_of (Ok text) given Success line told = (text.items, (moment, at, given), told.0, told.1)
  prints_of (Ok text) given Fault line told = inr (text.items, (moment, at, given), told.0, told.1)
  prints_of (Ok text) given Usage line told = absurd told
  prints_of (Ok text) given Unused line told = absurd told
  prints_of (Ok text) given Later line told = absurd told
  prints_of (Err fault) given Success line told = absurd told
  prints_of (Err fault) given Fault line told = inl (told.0, told.2)
  prints_of (Err fault) given Usage line told = (told.0, fault, fault_of fault given told.1, told.2)
  prints_of (Err fault) given Unused line told = absurd told
  prints_of (Err fault) given Later line told = absurd told

  -- what is told of the reply to a request is what its plan comes to
  sent : (text : Vec ℕ Global) → request_of plan moment ≡ Ok text.items → (reply : Result Answer AnswerFault)
      → (status : Status) (line : List ℕ) → Replies contents out out₂ reply status line → Sends contents out out₂ plan status line
  sent text given (Ok answer) Success line replied = (text.items, (moment, at, given), answer, replied)
  sent text given (Ok answer) Fault line replied = inr (text.items, (moment, at, given), Ok answer, replied)
  sent text given (Ok answer) Usage line replied = absurd replied
  sent text given (Ok answer) Unused line replied = absurd replied
  sent text given (Ok answer) Later line replied = absurd replied
  sent text given (Err fault) Success line replied = absurd replied
  sent text given (Err fault) Fault line replied = inr (text.items, (moment, at, given), Err fault, replied)
  sent text given (Err fault) Usage line replied = absurd replied
  sent text given (Err fault) Unused line replied = absurd replied
  sent text given (Err fault) Later line replied = absurd replied

  -- what is told of a request that can't be made is what its plan comes to
  refused_of : (fault : SendFault) → GivesBy (λ (text : Vec ℕ Global). text.items) is_no_memory (Err fault) (request_of plan moment) → out₂ ≡ out
      → (line : List ℕ) → line ≡ refusal fault → (b : Bool) → is_no_memory fault ≡ b → Sends contents out out₂ plan (if b then Fault else Usage) line
  refused_of fault given same line says true is = inl (same, says ∙ ap (λ b. if b then no_memory else codes "faxqd: bad " ++ fault_word fault ++ 10 ∷ []) is)
  refused_of fault given same line says false is = (same, fault, fault_of fault given is, says)

  -- the same whether it can be made or not
  pub sends_of : (made : Result (Vec ℕ Global) SendFault) → GivesBy (λ text. text.items) is_no_memory made (request_of plan moment)
      → (status : Status) (line : List ℕ) → Handed contents out out₂ made status line → Sends contents out out₂ plan status line
  sends_of (Ok text) given status line (reply, replied) = sent text given reply status line replied
  sends_of (Err fault) given status line (same, is, says) =
      subst (λ s. Sends contents out out₂ plan s line) (sym is) (refused_of fault given same line says (is_no_memory fault) refl)
