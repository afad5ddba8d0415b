-- What a replay shows.
use Rattle.std.proofs.Common.{◌≡◌, ◌∙◌, refl, sym, ℕ, Bool, true, false, List, [], ◌∷◌, Option, subst, inl}
use Rattle.sqlite.specs.Held.{Held, state}
use Rattle.sqlite.specs.State.{State, HasCleanDisk}
use Rattle.sqlite.specs.Steps.{over_memory}
use Rattle.sqlite_trees.specs.declared.memory.MemStore.{MemStore}
use Rattle.fax_core.specs.Settings.{Settings}
use Rattle.fax_decide.specs.declared.office.Office.{Office}
use Rattle.fax_desk.specs.Conversing.{Converses, ServesFrom}
use Rattle.fax_desk.specs.Replaying.{AreOfEmptyQueue, IsReplayed}
use Rattle.fax_desk.specs.Desk.{said_in}
use Rattle.fax_desk.specs.Turns.{AreTurns}
use Rattle.fax_http.specs.Conversation.{Turn}
use Rattle.fax_http.specs.Serving.{EndsBy}
use Rattle.fax_http.specs.declared.device.Watched.{Watched}
use Rattle.fax_http.specs.declared.serving.Served.{Served}
use Rattle.fax_run.specs.Run.{Start}
use Rattle.fax_store.proofs.StoreLemmas.{memory_serves}

-- turns by one clock are turns by another that gives the same
pub turns_by : {C D : Type 0} (gives : C → List ℕ → ℕ → C → Type 0) (says : D → List ℕ → ℕ → D → Type 0) (of : C → D)
    → ((clock : C) (said : List ℕ) (moment : ℕ) (later : C) → gives clock said moment later → says (of clock) said moment (of later))
    → (s : Settings) (start : Start) (clock : C) (turns : List Turn) (end : Start) → AreTurns gives s start clock turns end → AreTurns says s start (of clock) turns end
turns_by gives says of each s start clock [] end e = e
turns_by gives says of each s start clock (turn ∷ turns) end (next, later, it, behind) = (
  next,
  of later,
  record {
    moment = it.moment;
    given = each clock (said_in turn) it.moment later it.given;
    arrival = it.arrival;
    comes = it.comes;
    answered = it.answered;
  },
  turns_by gives says of each s next later turns end behind,
)

-- memory is never shut
pub not_shut : (shut : Bool) (held : Held MemStore)
    → (shut ≡ true → HasCleanDisk (state over_memory held) → (state over_memory held).is_open ≡ false) → shut ≡ false
not_shut true held told =
    let serves = memory_serves held in
    absurd (let no = sym serves.is_open ∙ told refl serves.clean in cc)
not_shut false held told = refl

-- what is answered from the empty queue is a replay
pub replayed_of : {R W C : Type 0} (remaining : R → Option (List ℕ)) (contents : W → Option (List ℕ)) (gives : C → List ℕ → ℕ → C → Type 0) (settings : Settings) (office : Office)
    (reader reader₂ : Watched R) (out out₂ : Watched W) (clock : C) (old new : State) (is_shut : Bool) (served : Served)
    → ((turns : List Turn) → ServesFrom gives settings clock old turns new → AreOfEmptyQueue office turns)
    → is_shut ≡ false
    → Converses remaining contents gives settings 1000 reader reader₂ out out₂ clock old new is_shut served
    → IsReplayed remaining contents reader reader₂ out out₂ office served.end
replayed_of remaining contents gives settings office reader reader₂ out out₂ clock old new is_shut served replies on s = inl (record {
  taken = s.taken;
  turns = s.turns;
  rest = s.rest;
  took = s.took;
  reads = s.reads;
  within = s.within;
  replies = replies s.turns s.answered;
  ends = subst (λ b. EndsBy contents out out₂ 1000 s.turns s.rest (remaining reader₂.device) b served.end) on s.ends;
})
