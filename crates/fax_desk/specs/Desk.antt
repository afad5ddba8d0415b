-- What messages come to at the desk: arrivals, which the queue answers.
use Rattle.std.specs.Prelude.{◌≡◌, ℕ, List, [], ◌∷◌, codes, map}
use Rattle.httparse.specs.Grammar.{RequestHead}
use Rattle.sqlite.specs.State.{HasCleanDisk}
use Rattle.sqlite_trees.specs.declared.store.Store.{Ghosts}
use Rattle.fax_ask.specs.Method.{method_of}
use Rattle.fax_ask.specs.Response.{Response}
use Rattle.fax_http.specs.Conversation.{Turn}
use Rattle.fax_http.specs.Message.{fields_of, sole, values_of}
use Rattle.fax_once.specs.Queue.{ClosedWhereShut, From, settings, tables}
use Rattle.fax_once.specs.Stop.{StopsIn}
use Rattle.fax_run.specs.declared.arrival.Arrival.{Arrival}
use Rattle.fax_desk.specs.declared.desk.Desk.{Desk}

-- the arrival of a message with that head and body, at that moment
pub record IsArrival (head : RequestHead) (body : List ℕ) (moment : ℕ) (a : Arrival) : Type 0 where
  pub method : a.method ≡ method_of head.method
  pub path : a.path.now ≡ head.target
  pub client : a.client.now ≡ sole (values_of (codes "Fax-Client") (fields_of head))
  pub number : a.number.now ≡ sole (values_of (codes "Fax-Number") (fields_of head))
  pub content : a.body.now ≡ body
  pub at : a.moment ≡ moment

-- what a message says of its moment
abbrev pub said_in : Turn → List ℕ
said_in turn = sole (values_of (codes "Fax-Moment") (fields_of turn.head))

-- what was replied to messages
abbrev pub replies_of : List Turn → List Response
replies_of turns = map (λ turn. turn.reply) turns

module _ {C : Type 0} (gives : C → List ℕ → ℕ → C → Type 0) where
  -- messages arrive as these, each at the moment that the clock gives then, and this is the clock after them
  abbrev pub Arrive : C → List Turn → List Arrival → C → Type 0
  Arrive clock [] [] later = later ≡ clock
  Arrive clock [] (a ∷ arrivals) later = ⊥
  Arrive clock (turn ∷ turns) [] later = ⊥
  Arrive clock (turn ∷ turns) (a ∷ arrivals) later =
      (moment : ℕ) × (next : C) × gives clock (said_in turn) moment next × IsArrival turn.head turn.body moment a × Arrive next turns arrivals later

  module _ {S : Type 0} (g : Ghosts S) where
    -- Messages were answered, by the same setup and controls as ever. From each sound queue that the tables mean they are a run of their arrivals, and a crash after it leaves such rows. Where the disk has returned what was written, it had before.
    pub record HasAnswered (old : Desk C S) (turns : List Turn) (new : Desk C S) : Type 0 where
      pub office : new.queue.office ≡ old.queue.office
      pub clean : HasCleanDisk (tables g new.queue) → HasCleanDisk (tables g old.queue)
      pub shut : ClosedWhereShut g old.queue → ClosedWhereShut g new.queue
      pub ran : From g old.queue (λ m k. HasCleanDisk (tables g new.queue) → (arrivals : List Arrival) × Arrive old.clock turns arrivals new.clock
          × StopsIn (settings old.queue) (record { queue = m; kept = k }) arrivals (replies_of turns) (tables g old.queue) (tables g new.queue))
