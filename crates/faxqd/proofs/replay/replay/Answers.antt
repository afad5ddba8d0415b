use Rattle.std.proofs.Common.{inl}
use Rattle.faxqd.proofs.replay.replay.Goals as goal

pub returns-in-Ok : goal.returns-in-Ok
returns-in-Ok g c = inl (c.in-Ok.office, c.in-Ok.ensures, c.replay_with.ensures)
