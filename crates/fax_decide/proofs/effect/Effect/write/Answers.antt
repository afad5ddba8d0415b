use Rattle.fax_store.proofs.FrameLemmas.{follows_of, follows_then}
use Rattle.fax_decide.proofs.WorkLemmas.{refused_any}
use Rattle.fax_decide.proofs.effect.Effect.write.Goals as goal

pub returns-in-NewJob-clause-changes : goal.returns-in-NewJob-clause-changes
returns-in-NewJob-clause-changes g c m₀ m k₀ k suits works = rw c.in-NewJob.is (c.put_job.ensures.changes m₀ m k₀ k works)

pub returns-in-NewJob-clause-cause : goal.returns-in-NewJob-clause-cause
returns-in-NewJob-clause-cause g c m₀ m k₀ k works s fits =
    let fit = (rw c.in-NewJob.is at fits).0 in
    c.put_job.ensures.cause m₀ m k₀ k works s fit.free

pub returns-in-Marked-clause-changes : goal.returns-in-Marked-clause-changes
returns-in-Marked-clause-changes g c m₀ m k₀ k suits works = rw (c.in-Marked.is, ← c.as_str.ensures.text) (c.set_down.ensures.makes.changes m₀ m k₀ k works)

pub returns-in_ok-put_change-in-NewGrant-clause-changes : goal.returns-in_ok-put_change-in-NewGrant-clause-changes
returns-in_ok-put_change-in-NewGrant-clause-changes g c m₀ m k₀ k suits works =
    rw c.in-NewGrant.is (c.put_grant.ensures.changes m₀ _ k₀ _ (c.put_change-in-NewGrant.ensures.changes m₀ m k₀ k (rw c.in-NewGrant.is at suits) works))

pub returns-in_err-put_change-in-Reported-clause-changes : goal.returns-in_err-put_change-in-Reported-clause-changes
returns-in_err-put_change-in-Reported-clause-changes g c m₀ m k₀ k suits works =
    refused_any _ _ m₀ _ _ k₀ _ _ c.in_err-put_change-in-Reported.ensures.leaves.fails
    (c.put_change-in-Reported.ensures.changes m₀ m k₀ k (rw c.in-Reported.is at suits).0 works)

pub returns-in_ok-put_change-in-Reported-clause-changes : goal.returns-in_ok-put_change-in-Reported-clause-changes
returns-in_ok-put_change-in-Reported-clause-changes g c m₀ m k₀ k suits works =
    let suited = rw c.in-Reported.is at suits in
    rw c.in-Reported.is (c.put_report.ensures.changes m₀ _ k₀ _ suited.1 (c.put_change-in-Reported.ensures.changes m₀ m k₀ k suited.0 works))

pub returns-in_ok-put_change-in-Closed-clause-changes : goal.returns-in_ok-put_change-in-Closed-clause-changes
returns-in_ok-put_change-in-Closed-clause-changes g c m₀ m k₀ k suits works =
    rw c.in-Closed.is (c.close_grant.ensures.changes m₀ _ k₀ _ (c.put_change-in-Closed.ensures.changes m₀ m k₀ k (rw c.in-Closed.is at suits) works))

pub returns-in_ok-put_change-in-NewGrant-clause-leaves : goal.returns-in_ok-put_change-in-NewGrant-clause-leaves
returns-in_ok-put_change-in-NewGrant-clause-leaves g c = follows_then g.S.Store _ _ _ (follows_of g.S.Store _ _ _ c.put_change-in-NewGrant.ensures.leaves) (follows_of g.S.Store _ _ _ c.put_grant.ensures.leaves)

pub returns-in_ok-put_change-in-Reported-clause-leaves : goal.returns-in_ok-put_change-in-Reported-clause-leaves
returns-in_ok-put_change-in-Reported-clause-leaves g c = follows_then g.S.Store _ _ _ (follows_of g.S.Store _ _ _ c.put_change-in-Reported.ensures.leaves) (follows_of g.S.Store _ _ _ c.put_report.ensures.leaves)

pub returns-in_ok-put_change-in-Closed-clause-leaves : goal.returns-in_ok-put_change-in-Closed-clause-leaves
returns-in_ok-put_change-in-Closed-clause-leaves g c = follows_then g.S.Store _ _ _ (follows_of g.S.Store _ _ _ c.put_change-in-Closed.ensures.leaves) (follows_of g.S.Store _ _ _ c.close_grant.ensures.leaves)

pub returns-in_ok-put_change-in-NewGrant-clause-cause : goal.returns-in_ok-put_change-in-NewGrant-clause-cause
returns-in_ok-put_change-in-NewGrant-clause-cause g c m₀ m k₀ k works s fits =
    let fit = (rw c.in-NewGrant.is at fits).0 in
    c.put_grant.ensures.cause m₀ _ k₀ _ (c.put_change-in-NewGrant.ensures.changes m₀ m k₀ k fit.suits works) s
    (fit.within, record { number = (fit.free.0).number; modem = (fit.free.0).modem; job = (fit.free.0).job }, fit.free.1)

pub returns-in_ok-put_change-in-Closed-clause-cause : goal.returns-in_ok-put_change-in-Closed-clause-cause
returns-in_ok-put_change-in-Closed-clause-cause g c m₀ m k₀ k works s fits =
    let fit = (rw c.in-Closed.is at fits).0 in
    c.close_grant.ensures.cause m₀ _ k₀ _ (c.put_change-in-Closed.ensures.changes m₀ m k₀ k fit.suits works) s tt

pub returns-in-ChangedJob-clause-changes : goal.returns-in-ChangedJob-clause-changes
returns-in-ChangedJob-clause-changes g c m₀ m k₀ k suits works =
    rw c.in-ChangedJob.is (c.put_change.ensures.changes m₀ m k₀ k (rw c.in-ChangedJob.is at suits) works)

pub returns-in_err-put_change-in-NewGrant-clause-changes : goal.returns-in_err-put_change-in-NewGrant-clause-changes
returns-in_err-put_change-in-NewGrant-clause-changes g c m₀ m k₀ k suits works =
    refused_any _ _ m₀ _ _ k₀ _ _ c.in_err-put_change-in-NewGrant.ensures.leaves.fails
    (c.put_change-in-NewGrant.ensures.changes m₀ m k₀ k (rw c.in-NewGrant.is at suits) works)

pub returns-in_err-put_change-in-Closed-clause-changes : goal.returns-in_err-put_change-in-Closed-clause-changes
returns-in_err-put_change-in-Closed-clause-changes g c m₀ m k₀ k suits works =
    refused_any _ _ m₀ _ _ k₀ _ _ c.in_err-put_change-in-Closed.ensures.leaves.fails
    (c.put_change-in-Closed.ensures.changes m₀ m k₀ k (rw c.in-Closed.is at suits) works)

pub returns-in-Purged-clause-changes : goal.returns-in-Purged-clause-changes
returns-in-Purged-clause-changes g c m₀ m k₀ k suits works =
    rw (c.in-Purged.is, ← c.as_slice.ensures.value) (c.purge.ensures.changes m₀ m k₀ k (rw (c.in-Purged.is, ← c.as_slice.ensures.value) at suits) works)

pub returns-in-GivenUp-clause-changes : goal.returns-in-GivenUp-clause-changes
returns-in-GivenUp-clause-changes g c m₀ m k₀ k suits works = rw c.in-GivenUp.is (c.give_up.ensures.changes m₀ m k₀ k works)
