use Rattle.std.proofs.Common.{refl, rules}
use Rattle.fax_tables.proofs.ResultLemmas.{passes_on}
use Rattle.fax_tables.proofs.RowLemmas.{begins, brief_of, fits, killtime_of}
use Rattle.fax_tables.proofs.jobs.fields_in.Goals as goal

pub returns-in_err-number_at-clause-found : goal.returns-in_err-number_at-clause-found
returns-in_err-number_at-clause-found c job behind is lawful formed =
    passes_on _ _ _ c.from_residual.ensures.1 (c.in_err-number_at.ensures.found _ (begins job behind is refl refl) (fits job lawful).number)

pub returns-in_err-dial_at-clause-found : goal.returns-in_err-dial_at-clause-found
returns-in_err-dial_at-clause-found c job behind is lawful formed =
    passes_on _ _ _ c.from_residual-in_err-dial_at.ensures.1 (c.in_err-dial_at.ensures.found _ (begins job behind is refl refl) formed.dial)

pub returns-in_err-name_at-clause-found : goal.returns-in_err-name_at-clause-found
returns-in_err-name_at-clause-found c job behind is lawful formed =
    passes_on _ _ _ c.from_residual-in_err-name_at.ensures.1 (c.in_err-name_at.ensures.found _ (begins job behind is refl refl) formed.modem)

pub returns-in_err-jobtag_at-clause-found : goal.returns-in_err-jobtag_at-clause-found
returns-in_err-jobtag_at-clause-found c job behind is lawful formed =
    passes_on _ _ _ c.from_residual-in_err-jobtag_at.ensures.1 (c.in_err-jobtag_at.ensures.found _ (begins job behind is refl refl) formed.jobtag)

pub returns-in_err-status_at-clause-found : goal.returns-in_err-status_at-clause-found
returns-in_err-status_at-clause-found c job behind is lawful formed =
    passes_on _ _ _ c.from_residual-in_err-status_at.ensures.1 (c.in_err-status_at.ensures.found _ (begins job behind is refl refl) formed.status)

pub returns-in_err-moment_at-clause-found : goal.returns-in_err-moment_at-clause-found
returns-in_err-moment_at-clause-found c job behind is lawful formed =
    passes_on _ _ _ c.from_residual-in_err-moment_at.ensures.1 (c.in_err-moment_at.ensures.found _ (begins job behind is refl refl) formed.tts)

pub returns-in_err-killtime_at-clause-found : goal.returns-in_err-killtime_at-clause-found
returns-in_err-killtime_at-clause-found c job behind is lawful formed =
    passes_on _ _ _ c.from_residual-in_err-killtime_at.ensures.1
    (c.in_err-killtime_at.ensures.found job.killtime (begins job behind is refl refl) formed.killtime (killtime_of job lawful))

pub returns-in_err-priority_at-clause-found : goal.returns-in_err-priority_at-clause-found
returns-in_err-priority_at-clause-found c job behind is lawful formed =
    passes_on _ _ _ c.from_residual-in_err-priority_at.ensures.1 (c.in_err-priority_at.ensures.found _ (begins job behind is refl refl) formed.priority)

pub returns-in_err-small_at-clause-found : goal.returns-in_err-small_at-clause-found
returns-in_err-small_at-clause-found c job behind is lawful formed =
    passes_on _ _ _ c.from_residual-in_err-small_at.ensures.1 (c.in_err-small_at.ensures.found _ (begins job behind is refl refl) (fits job lawful).npages)

pub returns-in_err-small_at-2-clause-found : goal.returns-in_err-small_at-2-clause-found
returns-in_err-small_at-2-clause-found c job behind is lawful formed =
    passes_on _ _ _ c.from_residual-in_err-small_at-2.ensures.1
    (c.in_err-small_at-2.ensures.found _ (begins job behind is refl refl) (fits job lawful).totpages)

pub returns-in_err-small_at-3-clause-found : goal.returns-in_err-small_at-3-clause-found
returns-in_err-small_at-3-clause-found c job behind is lawful formed =
    passes_on _ _ _ c.from_residual-in_err-small_at-3.ensures.1 (c.in_err-small_at-3.ensures.found _ (begins job behind is refl refl) (fits job lawful).ntries)

pub returns-in_err-small_at-4-clause-found : goal.returns-in_err-small_at-4-clause-found
returns-in_err-small_at-4-clause-found c job behind is lawful formed =
    passes_on _ _ _ c.from_residual-in_err-small_at-4.ensures.1
    (c.in_err-small_at-4.ensures.found _ (begins job behind is refl refl) (fits job lawful).tottries)

pub returns-in_err-small_at-5-clause-found : goal.returns-in_err-small_at-5-clause-found
returns-in_err-small_at-5-clause-found c job behind is lawful formed =
    passes_on _ _ _ c.from_residual-in_err-small_at-5.ensures.1
    (c.in_err-small_at-5.ensures.found _ (begins job behind is refl refl) (fits job lawful).maxtries)

pub returns-in_err-small_at-6-clause-found : goal.returns-in_err-small_at-6-clause-found
returns-in_err-small_at-6-clause-found c job behind is lawful formed =
    passes_on _ _ _ c.from_residual-in_err-small_at-6.ensures.1 (c.in_err-small_at-6.ensures.found _ (begins job behind is refl refl) (fits job lawful).ndials)

pub returns-in_err-small_at-7-clause-found : goal.returns-in_err-small_at-7-clause-found
returns-in_err-small_at-7-clause-found c job behind is lawful formed =
    passes_on _ _ _ c.from_residual-in_err-small_at-7.ensures.1
    (c.in_err-small_at-7.ensures.found _ (begins job behind is refl refl) (fits job lawful).totdials)

pub returns-in_err-small_at-8-clause-found : goal.returns-in_err-small_at-8-clause-found
returns-in_err-small_at-8-clause-found c job behind is lawful formed =
    passes_on _ _ _ c.from_residual-in_err-small_at-8.ensures.1
    (c.in_err-small_at-8.ensures.found _ (begins job behind is refl refl) (fits job lawful).maxdials)

pub returns-in_err-phase_at-clause-found : goal.returns-in_err-phase_at-clause-found
returns-in_err-phase_at-clause-found c job behind is lawful formed =
    passes_on _ _ _ c.from_residual-in_err-phase_at.ensures.1 (c.in_err-phase_at.ensures.found job.phase (begins job behind is refl refl))

pub returns-in_err-wish_at-clause-found : goal.returns-in_err-wish_at-clause-found
returns-in_err-wish_at-clause-found c job behind is lawful formed =
    passes_on _ _ _ c.from_residual-in_err-wish_at.ensures.1 (c.in_err-wish_at.ensures.found job.wish (begins job behind is refl refl))

pub returns-in_err-number_at-2-clause-found : goal.returns-in_err-number_at-2-clause-found
returns-in_err-number_at-2-clause-found c job behind is lawful formed =
    passes_on _ _ _ c.from_residual-in_err-number_at-2.ensures.1 (c.in_err-number_at-2.ensures.found _ (begins job behind is refl refl) (fits job lawful).next)

pub returns-clause-found : goal.returns-clause-found
returns-clause-found c job behind is lawful formed =
    let killtime = c.in_ok-killtime_at.ensures.found job.killtime (begins job behind is refl refl) formed.killtime (killtime_of job lawful) in
    let phase = c.in_ok-phase_at.ensures.found job.phase (begins job behind is refl refl) in
    let wish = c.in_ok-wish_at.ensures.found job.wish (begins job behind is refl refl) in
    brief_of c.args.row.now job _ behind is (search rules) killtime phase wish
