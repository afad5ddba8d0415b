use Rattle.fax_store.proofs.FrameLemmas.{makes_by}
use Rattle.fax_store.proofs.work.Work.expire_all.Goals as goal

pub returns : goal.returns
returns g c = makes_by g.S.Store c.if-self.false c.is_err-self.ensures.value c.write_expired-done.ensures
