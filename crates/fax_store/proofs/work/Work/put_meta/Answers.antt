use Rattle.fax_store.proofs.FrameLemmas.{makes_where_by}
use Rattle.fax_store.proofs.work.Work.put_meta.Goals as goal

pub returns : goal.returns
returns g c = makes_where_by g.S.Store c.if-self.false c.is_err-self.ensures.value c.write_meta-done.ensures
