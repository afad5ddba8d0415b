use Rattle.fax_store.proofs.FrameLemmas.{makes_if_by}
use Rattle.fax_store.proofs.work.Work.set_down.Goals as goal

pub returns-clause-makes : goal.returns-clause-makes
returns-clause-makes g c = makes_if_by g.S.Store c.if-self.false c.is_err-self.ensures.value c.write_mark-done.ensures.writes
