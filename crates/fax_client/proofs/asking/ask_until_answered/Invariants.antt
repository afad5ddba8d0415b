use Rattle.std.proofs.Common.{◌≡◌, Some}
use Rattle.fax_journal.specs.Journal.{Answers}
use Rattle.fax_worker.specs.Worker.{Worker}
use Rattle.fax_client.specs.Course.{Events, Follows, IsAt, Start}
use Rattle.fax_client.specs.Message.{message_of}
use Rattle.fax_client.specs.Saved.{request_of}
use Rattle.fax_client.specs.Working.{Move, workers}
use Rattle.fax_client.proofs.asking.ask_until_answered.Given as goal

abbrev pub invariant-loop : goal.invariant-loop
invariant-loop g l =
    (l.message.items ≡ message_of l.worker.client (request_of l.pending))
    × ((kept : Answers) (first : Start _ _ Worker) (earlier : Events _ Move) → l.worker.unanswered ≡ Some l.pending → IsAt g.S.Store g.L.Line.carries g.L.Line.pauses (workers kept) first earlier l.fn.line l.worker l.journal
    → (events : Events _ Move) × Follows g.S.Store g.L.Line.carries g.L.Line.pauses (workers kept) first earlier events l.line l.worker l.journal)
