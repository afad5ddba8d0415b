use Rattle.std.proofs.Common.{◌≡◌, true, rules, sym, subst, subst₂}
use Rattle.sqlite.specs.Held.{state}
use Rattle.fax_store.proofs.FrameLemmas.{follows_of, follows_then}
use Rattle.fax_store.proofs.WorkLemmas.{refused_as}
use Rattle.fax_store.specs.Job.{with_expired}
use Rattle.fax_store.specs.Work.{Works}
use Rattle.fax_tables.proofs.ResultLemmas.{on_err}
use Rattle.fax_decide.proofs.WorkLemmas.{refused_any}
use Rattle.fax_decide.specs.Effect.{given_in, written}
use Rattle.fax_core.specs.Ledger.{with_reply, IsKeptStatus, entry}
use Rattle.fax_run.specs.Verdict.{without}
use Rattle.fax_once.proofs.VerdictLemmas.{unkept_still}
use Rattle.fax_once.proofs.accepting.write_accepted.Goals as goal

pub returns-in_err-age-clause-writes : goal.returns-in_err-age-clause-writes
returns-in_err-age-clause-writes g c =
    let fails : c.age.new.work.failed ≡ true = c.in_err-age.ensures.fails in
    record {
      leaves = c.age.ensures.leaves;
      fails = on_err c.from_residual.result fails;
      changes = λ m₀ m k₀ k suits works. refused_any (state g.S.Store c.age.new.work.store.now.conn) c.age.new.work.failed m₀ _ _ k₀ _ _ fails (c.age.ensures.changes m₀ m k₀ k suits.0 works);
      cause = λ m₀ m k₀ k works s fits. refused_as c.from_residual.result c.in_err-age.field-0.0 c.from_residual.ensures.1 (c.in_err-age.ensures.cause m₀ m k₀ k works s tt);
    }

pub returns-in_err-write-clause-writes : goal.returns-in_err-write-clause-writes
returns-in_err-write-clause-writes g c =
    let fails : c.write.new.work.failed ≡ true = c.in_err-write.ensures.fails in
    let given = c.from_residual-in_err-write in
    record {
      leaves = follows_then g.S.Store _ _ _ c.age.ensures.leaves c.write.ensures.leaves;
      fails = on_err given.result fails;
      changes = λ m₀ m k₀ k suits works. refused_any (state g.S.Store c.write.new.work.store.now.conn) c.write.new.work.failed m₀ _ _ k₀ _ _ fails
          (c.write.ensures.changes m₀ _ k₀ _ suits.1 (c.age.ensures.changes m₀ m k₀ k suits.0 works));
      cause = λ m₀ m k₀ k works s fits. refused_as given.result c.in_err-write.field-0.0 given.ensures.1
          (c.in_err-write.ensures.cause m₀ _ k₀ _ (c.age.ensures.changes m₀ m k₀ k fits.0 works) s (fits.1.0, fits.1.1));
    }

pub returns-clause-writes : goal.returns-clause-writes
returns-clause-writes g c = record {
  leaves = follows_then g.S.Store _ _ _ (follows_then g.S.Store _ _ _ c.age.ensures.leaves c.write.ensures.leaves) (follows_of g.S.Store _ _ _ c.keep.ensures.makes.leaves);
  fails = search rules;
  changes = λ m₀ m k₀ k suits works.
      subst₂ (λ status body. Works (state g.S.Store c.keep.new.self.store.now.conn) c.keep.new.self.failed m₀ k₀ (written c.args.decided_at c.args.effect.now (with_expired c.args.decided_at m))
      (with_reply (entry c.args.sender.now.client.now c.args.sender.now.number c.args.said.now status body) (without c.args.sender.now.client.now (given_in c.args.effect.now) k)))
      c.status.ensures c.body.ensures
      (c.keep.ensures.makes.changes m₀ _ k₀ _ (c.write.ensures.changes m₀ _ k₀ _ suits.1 (c.age.ensures.changes m₀ m k₀ k suits.0 works)));
  cause = λ m₀ m k₀ k works s fits.
      c.keep.ensures.makes.cause m₀ _ k₀ _ (c.write.ensures.changes m₀ _ k₀ _ fits.1.0.suits (c.age.ensures.changes m₀ m k₀ k fits.0 works)) s
      (fits.1.1, subst IsKeptStatus (sym c.status.ensures) fits.1.2, unkept_still c.args.sender.now.client.now c.args.sender.now.number c.args.sender.now.client.now (given_in c.args.effect.now) k fits.1.3);
}
