-- Messages arrive at the desk, one after the other.
use Rattle.std.proofs.Common.{◌≡◌, ℕ, Bool, true, List, [], ◌∷◌, ◌++◌, ap, refl, subst, sym, ◌∙◌}
use Rattle.std.specs.Prelude.{map}
use Rattle.httparse.specs.Grammar.{RequestHead}
use Rattle.fax_http.specs.Conversation.{Turn}
use Rattle.fax_http.specs.Cut.{ArePartsOf}
use Rattle.fax_http.specs.Joined.{AreMessages}
use Rattle.fax_http.specs.declared.message.Message.{Message}
use Rattle.fax_run.specs.declared.arrival.Arrival.{Arrival}
use Rattle.fax_desk.specs.Desk.{Arrive, IsArrival}

-- the last of the messages, and those before it
record LastOf (messages : List Message) (message : Message) (turns : List Turn) : Type 0 where
  front : List Turn
  turn : Turn
  one : turns ≡ front ++ turn ∷ []
  before : AreMessages messages front
  parts : ArePartsOf message turn.head turn.body

last_of : (messages : List Message) (message : Message) (turns : List Turn) → AreMessages (messages ++ message ∷ []) turns → LastOf messages message turns
last_of [] message [] none = absurd none
last_of [] message (turn ∷ []) (parts, none) = record { front = []; turn = turn; one = refl; before = tt; parts = parts }
last_of [] message (turn ∷ more ∷ turns) (parts, none) = absurd none
last_of (m ∷ messages) message [] none = absurd none
last_of (m ∷ messages) message (turn ∷ turns) (first, are) =
    let it = last_of messages message turns are in
    record { front = turn ∷ it.front; turn = it.turn; one = ap (λ ts. turn ∷ ts) it.one; before = (first, it.before); parts = it.parts }

module _ {C : Type 0} (gives : C → List ℕ → ℕ → C → Type 0) where
  -- what arrives after others arrives with them
  pub arrive_joined : (clock middle later : C) (turns more : List Turn) (arrivals others : List Arrival) → Arrive gives clock turns arrivals middle
      → Arrive gives middle more others later → Arrive gives clock (turns ++ more) (arrivals ++ others) later
  arrive_joined clock middle later [] more [] others is rest = subst (λ c. Arrive gives c more others later) is rest
  arrive_joined clock middle later [] more (a ∷ arrivals) others none rest = absurd none
  arrive_joined clock middle later (turn ∷ turns) more [] others none rest = absurd none
  arrive_joined clock middle later (turn ∷ turns) more (a ∷ arrivals) others (moment, next, given, its, are) rest =
      (moment, next, given, its, arrive_joined next middle later turns more arrivals others are rest)

  -- messages arrived, and where these are all of their arrivals, they are these
  abbrev pub HaveArrived : C → List Message → C → Bool → List Arrival → Type 0
  HaveArrived clock messages later are_whole items =
      (turns : List Turn) → AreMessages messages turns → (arrivals : List Arrival) × Arrive gives clock turns arrivals later × (are_whole ≡ true → items ≡ arrivals)

  -- at first none has
  pub none_arrived : (clock : C) (are_whole : Bool) (items : List Arrival) → items ≡ [] → HaveArrived clock [] clock are_whole items
  none_arrived clock are_whole items is [] all = ([], refl, λ _. is)
  none_arrived clock are_whole items is (turn ∷ turns) none = absurd none

  -- so did one message more
  pub one_arrived : (clock middle later : C) (messages : List Message) (message : Message) (moment : ℕ) (a : Arrival) (were are : Bool) (items others : List Arrival)
      → HaveArrived clock messages middle were items → gives middle message.moment.now moment later
      → ((head : RequestHead) (body : List ℕ) → ArePartsOf message head body → IsArrival head body moment a)
      → (are ≡ true → (were ≡ true) × (others ≡ items ++ a ∷ [])) → HaveArrived clock (messages ++ message ∷ []) later are others
  one_arrived clock middle later messages message moment a were are items others before given its grown turns all =
      let last = last_of messages message turns all in
      let (arrivals, arrive, is) = before last.front last.before in
      let one : Arrive gives middle (last.turn ∷ []) (a ∷ []) later = (
        moment,
        later,
        subst (λ (said : List ℕ). gives middle said moment later) last.parts.moment given,
        its last.turn.head last.turn.body last.parts,
        refl,
      ) in (
        arrivals ++ a ∷ [],
        subst (λ ts. Arrive gives clock ts (arrivals ++ a ∷ []) later) (sym last.one) (arrive_joined clock middle later last.front (last.turn ∷ []) arrivals (a ∷ []) arrive one),
        λ whole. (grown whole).1 ∙ ap (λ (xs : List Arrival). xs ++ a ∷ []) (is (grown whole).0),
      )

  -- as many arrive as there are messages
  pub as_many : {X : Type 0} (x : X) (clock later : C) (messages : List Message) (turns : List Turn) (arrivals : List Arrival) → AreMessages messages turns
      → Arrive gives clock turns arrivals later → map (λ (message : Message). x) messages ≡ map (λ (a : Arrival). x) arrivals
  as_many x clock later [] [] [] all are = refl
  as_many x clock later [] [] (a ∷ arrivals) all none = absurd none
  as_many x clock later [] (turn ∷ turns) arrivals none are = absurd none
  as_many x clock later (message ∷ messages) [] arrivals none are = absurd none
  as_many x clock later (message ∷ messages) (turn ∷ turns) [] all none = absurd none
  as_many x clock later (message ∷ messages) (turn ∷ turns) (a ∷ arrivals) (parts, all) (moment, next, given, its, are) =
      ap (λ xs. x ∷ xs) (as_many x next later messages turns arrivals all are)
