-- A replay's replies are fixed by its input and its settings, where nothing gave out.
use Rattle.std.proofs.Common.{◌≡◌, ◌⊎◌, ◌∙◌, ℕ, List, [], ◌∷◌, map, refl, ap, sym, subst, inl, inr}
use Rattle.fax_job.specs.declared.refusal.Refusal.TheVariants.{Unavailable}
use Rattle.fax_ask.specs.Response.{refused_response}
use Rattle.fax_ask.proofs.AloneLemmas.{one_ask, ask_or_refused, one_fault}
use Rattle.fax_core.specs.Ledger.{Ledger}
use Rattle.fax_core.specs.Queue.{Queue}
use Rattle.fax_core.specs.Reply.{NoKeys}
use Rattle.fax_core.specs.Settings.{Settings}
use Rattle.fax_run.proofs.OneVerdictLemmas.{one_verdict}
use Rattle.fax_run.specs.Laws.{left_of}
use Rattle.fax_run.specs.Run.{Start}
use Rattle.fax_run.specs.Verdict.{Verdict, IsVerdict, reply_of}
use Rattle.fax_run.specs.declared.arrival.Arrival.{Arrival}
use Rattle.fax_http.specs.Clock.{moment_said}
use Rattle.fax_http.specs.Conversation.{Turn}
use Rattle.fax_http.specs.Laws.{message_of}
use Rattle.fax_http.proofs.DivisionLemmas.{one_division}
use Rattle.fax_desk.specs.Desk.{IsArrival, said_in}
use Rattle.fax_desk.specs.Laws.{NoneGaveOut, OneReplay}
use Rattle.fax_desk.specs.Replaying.{empty_start, gives_said, settings_in}
use Rattle.fax_desk.specs.Turns.{AreTurns, IsTurn}

-- ---- one message

-- a verdict speaks of what an arrival says, wherever that stands
same_verdict : (s : Settings) (m : Queue) (k : Ledger) (v : Verdict) (a b : Arrival)
    → a.method ≡ b.method → a.path.now ≡ b.path.now → a.client.now ≡ b.client.now → a.number.now ≡ b.number.now
    → a.body.now ≡ b.body.now → a.moment ≡ b.moment → IsVerdict s a m k v → IsVerdict s b m k v
same_verdict s m k v a b method path client number body moment h =
    subst (λ x. IsVerdict s (record b { moment = x }) m k v) moment
    (subst (λ x. IsVerdict s (record b { body = record b.body { now = x }; moment = a.moment }) m k v) body
    (subst (λ x. IsVerdict s (record a { method = b.method; path = b.path; client = b.client; number = record b.number { now = x } }) m k v) number
    (subst (λ x. IsVerdict s (record a { method = b.method; path = b.path; client = record b.client { now = x } }) m k v) client
    (subst (λ x. IsVerdict s (record a { method = b.method; path = record b.path { now = x } }) m k v) path
    (subst (λ x. IsVerdict s (record a { method = x }) m k v) method h)))))

-- what one message leaves: its reply, where it leads, and the clock
record SameLeft (turn other : Turn) (next after : Start) (later then : ℕ) : Type 0 where
  pub replies : turn.reply ≡ other.reply
  pub starts : next ≡ after
  pub clocks : later ≡ then

-- the same message, answered from one start at one clock, leaves the same, where neither reply is 27
turned_same : (s : Settings) (start next after : Start) (last later then : ℕ) (turn other : Turn) → turn.head ≡ other.head → turn.body ≡ other.body
    → ¬ (turn.reply ≡ refused_response Unavailable NoKeys) → ¬ (other.reply ≡ refused_response Unavailable NoKeys)
    → IsTurn gives_said s start last turn next later → IsTurn gives_said s start last other after then → SameLeft turn other next after later then
turned_same s start next after last later then turn other head body some more a b =
    let moment : a.moment ≡ b.moment = a.given.0 ∙ ap (λ h. moment_said last (said_in (record turn { head = h }))) head ∙ sym b.given.0 in
    let comes : IsArrival turn.head turn.body a.moment b.arrival =
    subst (λ t. IsArrival turn.head turn.body t b.arrival) (sym moment)
    (subst (λ c. IsArrival turn.head c b.moment b.arrival) (sym body)
    (subst (λ h. IsArrival h other.body b.moment b.arrival) (sym head) b.comes)) in
    by comes moment a.answered b.answered
  where
    by : IsArrival turn.head turn.body a.moment b.arrival → a.moment ≡ b.moment
        → ((v : Verdict) × IsVerdict s a.arrival start.queue start.kept v × (turn.reply ≡ reply_of v) × (next ≡ left_of start v))
        ⊎ ((turn.reply ≡ refused_response Unavailable NoKeys) × (next ≡ start))
        → ((w : Verdict) × IsVerdict s b.arrival start.queue start.kept w × (other.reply ≡ reply_of w) × (after ≡ left_of start w))
        ⊎ ((other.reply ≡ refused_response Unavailable NoKeys) × (after ≡ start))
        → SameLeft turn other next after later then
    by comes moment (inr gone) y = absurd (some gone.0)
    by comes moment (inl x) (inr gone) = absurd (more gone.0)
    by comes moment (inl (v, is, told, leads)) (inl (w, is_w, told_w, leads_w)) =
        let moved : IsVerdict s a.arrival start.queue start.kept w =
        same_verdict s start.queue start.kept w b.arrival a.arrival (comes.method ∙ sym a.comes.method) (comes.path ∙ sym a.comes.path) (comes.client ∙ sym a.comes.client)
        (comes.number ∙ sym a.comes.number) (comes.content ∙ sym a.comes.content) (comes.at ∙ sym a.comes.at) is_w in
        let one : w ≡ v = one_verdict one_ask ask_or_refused one_fault s a.arrival start.queue start.kept w v moved is in
        record {
          replies = told ∙ ap reply_of (sym one) ∙ sym told_w;
          starts = leads ∙ ap (left_of start) (sym one) ∙ sym leads_w;
          clocks = a.given.1 ∙ moment ∙ sym b.given.1;
        }

-- ---- all messages

-- turns with the same head, body and reply are the same
same_turn : (turn other : Turn) → turn.head ≡ other.head → turn.body ≡ other.body → turn.reply ≡ other.reply → turn ≡ other
same_turn turn other head body reply =
    ap (λ h. record turn { head = h }) head ∙ ap (λ b. record turn { head = other.head; body = b }) body
    ∙ ap (λ r. record other { reply = r }) reply

-- the same messages from one start have the same turns, where nothing gave out
one_run : (s : Settings) (last : ℕ) (start end finish : Start) (turns others : List Turn) → map message_of turns ≡ map message_of others → NoneGaveOut turns → NoneGaveOut others
    → AreTurns gives_said s start last turns end → AreTurns gives_said s start last others finish → turns ≡ others
one_run s last start end finish [] [] same none more a b = refl
one_run s last start end finish [] (turn ∷ turns) same none more a b = absurd cc
one_run s last start end finish (turn ∷ turns) [] same none more a b = absurd cc
one_run s last start end finish (turn ∷ turns) (turn₂ ∷ turns₂) same none more (next, later, it, behind) (next₂, later₂, it₂, behind₂) =
    let message : message_of turn ≡ message_of turn₂ = cc in
    let rest : map message_of turns ≡ map message_of turns₂ = cc in
    let head : turn.head ≡ turn₂.head = ap (λ p. p.0) message in
    let body : turn.body ≡ turn₂.body = ap (λ p. p.1) message in
    let left = turned_same s start next next₂ last later later₂ turn turn₂ head body none.0 more.0 it it₂ in
    let on : AreTurns gives_said s next later turns₂ finish =
    subst (λ t. AreTurns gives_said s next t turns₂ finish) (sym left.clocks)
    (subst (λ e. AreTurns gives_said s e later₂ turns₂ finish) (sym left.starts) behind₂) in
    ap (λ t. t ∷ turns) (same_turn turn turn₂ head body left.replies)
    ∙ ap (λ ts. turn₂ ∷ ts) (one_run s later next end finish turns turns₂ rest none.1 more.1 behind on)

-- so two replays of one input do
pub one_replay : OneReplay
one_replay office other bound input turns others stop another settings r q a b none more =
    let one = one_division bound input turns others stop another r q in (
      one_run (settings_in other) 0 empty_start a.0 b.0 turns others one.0 none more
          (subst (λ s. AreTurns gives_said s empty_start 0 turns a.0) settings a.1) b.1,
      one.1,
    )
