use Rattle.fax_store.proofs.FrameLemmas.{makes_if_by, writes_if_any, writes_if_steps}
use Rattle.fax_store.proofs.work.Work.close_grant.Goals as goal

pub returns : goal.returns
returns g c =
    let shuts = c.shut_grant-done.ensures in
    makes_if_by g.S.Store c.if-self.false c.is_err-self.ensures.value
    (writes_if_any g.S.Store (writes_if_steps g.S.Store shuts.leaves (λ m k fit. tt) (λ m₀ m k₀ k p. shuts.written m₀ m k₀ k)))
