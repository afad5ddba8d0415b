use Rattle.fax_store.proofs.FrameLemmas.{makes_if_by}
use Rattle.fax_store.proofs.work.Work.put_job.Goals as goal

pub returns : goal.returns
returns g c = makes_if_by g.S.Store c.if-self.false c.is_err-self.ensures.value c.add_job-done.ensures
