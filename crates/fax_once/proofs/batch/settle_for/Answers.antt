use Rattle.std.proofs.Common.{inr, rules}
use Rattle.fax_core.specs.Queue.{Queue}
use Rattle.fax_store.proofs.FrameLemmas.{follows_at}
use Rattle.fax_store.specs.Calls.{within}
use Rattle.fax_store.specs.Work.{Works}
use Rattle.fax_once.proofs.KnownLemmas.{settled_or}
use Rattle.fax_once.proofs.batch.settle_for.Goals as goal

pub returns-then-submits : goal.returns-then-submits
returns-then-submits g c = record {
  leaves = follows_at g.S.Store c.args.work.now;
  goes_on = λ on. on;
  settled = λ m₀ tables m k₀ k works knows. (tables, works, knows, inr (c.submits.ensures (search rules)));
}

pub returns : goal.returns
returns g c =
    let settles = c.settle.ensures in
    let work = c.settle.new.work in
    record {
      leaves = settles.leaves;
      goes_on = settles.goes_on;
      settled = λ m₀ tables m k₀ k works knows.
          settled_or (λ (q : Queue). Works (within g.S.Store work) work.failed m₀ k₀ q k) c.settle.result c.args.arrival.now c.args.known tables m settles.knows settles.cause (settles.settled m₀ tables m k₀ k works knows) knows;
    }
