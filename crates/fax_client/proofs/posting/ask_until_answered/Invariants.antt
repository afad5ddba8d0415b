use Rattle.std.proofs.Common.{◌≡◌, IfSome, Some}
use Rattle.fax_ask.specs.Ask.{IsAsk}
use Rattle.fax_ask.specs.declared.ask.Ask.TheVariants.{Step}
use Rattle.fax_ask.specs.declared.method.Method.TheVariants.{Post}
use Rattle.fax_client.specs.Course.{Events, Follows, IsAt, Start}
use Rattle.fax_client.specs.Message.{message_of}
use Rattle.fax_client.specs.Posting.{Client, Move, clients}
use Rattle.fax_client.proofs.posting.ask_until_answered.Given as goal

abbrev pub invariant-loop : goal.invariant-loop
invariant-loop g l =
    (l.message.items ≡ message_of l.client l.request)
    × IfSome l.asked (λ ask. IsAsk Post l.request.path l.request.body (Step ask))
    × ((first : Start _ _ Client) (earlier : Events _ Move) (x : Client) → x.entry.unanswered ≡ Some l.request → x.entry.client ≡ l.client → IsAt g.S.Store g.L.Line.carries g.L.Line.pauses clients first earlier l.fn.line x l.journal
    → (events : Events _ Move) × Follows g.S.Store g.L.Line.carries g.L.Line.pauses clients first earlier events l.line x l.journal)
