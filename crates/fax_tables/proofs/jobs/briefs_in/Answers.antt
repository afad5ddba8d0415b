use Rattle.std.proofs.Common.{◌≡◌, ◌<◌, ◌++◌, List, [], ◌∷◌, length, map, take, true, if◌then◌else◌, sym, ap, ap₂, ◌∙◌, rules}
use Rattle.std.proofs.lemmas.List.{map-append}
use Rattle.std.specs.Result.{is_ok}
use Rattle.fax_core.specs.Job.{Job, fields_of}
use Rattle.fax_job.specs.Pair.{Pair}
use Rattle.fax_job.specs.declared.job.JobFields.{JobFields}
use Rattle.fax_tables.specs.Job.{IsLawfulJob, brief, brief_shown}
use Rattle.fax_tables.proofs.IndexLemmas.{next_shown}
use Rattle.fax_tables.proofs.ResultLemmas.{passes_on}
use Rattle.fax_tables.proofs.RowLemmas.{first_from, one_more_row}
use Rattle.fax_tables.proofs.jobs.briefs_in.Goals as goal

pub returns-in_err-job-clause-found : goal.returns-in_err-job-clause-found
returns-in_err-job-clause-found c jobs is all =
    let within : c.loop-row.row-index < length c.args.rows.now = search rules in
    let it = next_shown (λ (j : Job). brief_shown (fields_of j)) IsLawfulJob c.args.rows.now jobs c.loop-row.row-index c.row-item.result is all within c.row-item.is in
    passes_on c.from_residual.result _ (λ found. found.items ≡ map (λ j. brief (fields_of j)) jobs) c.from_residual.ensures.1
    (c.in_err-job.ensures.found (fields_of it.0) it.2 it.1.limits it.1.formed)

pub loop-row-preserved : goal.loop-row-preserved
loop-row-preserved c =
    let i = c.loop-row.row-index in
    let within : i < length c.args.rows.now = search rules in
    let before = c.loop-row.jobs.items in
    let put : is_ok c.push.result ≡ true = search rules in
    let more = c.push.ensures.items ∙ ap (λ b. if b then before ++ c.in_ok-job.job ∷ [] else before) put in
    record {
      found = λ jobs is all.
          let it = next_shown (λ (j : Job). brief_shown (fields_of j)) IsLawfulJob c.args.rows.now jobs i c.row-item.result is all within c.row-item.is in
          more ∙ ap₂ (λ front j. front ++ j ∷ []) (c.loop-row.invariant.found jobs is all) (c.in_ok-job.ensures.found (fields_of it.0) it.2 it.1.limits it.1.formed)
          ∙ sym (ap (map (λ (j : Job). brief (fields_of j))) it.3 ∙ map-append (λ (j : Job). brief (fields_of j)) (take i jobs) (it.0 ∷ []));
      stands =
          one_more_row 19 brief_shown c.args.rows.now i c.row-item.result before c.in_ok-job.job within c.row-item.is c.loop-row.invariant.stands
          (first_from c.row-item.result (brief_shown c.in_ok-job.job) 0 c.in_ok-job.ensures.stands.0) ∙ sym (ap (map brief_shown) more);
      bare =
          ap (map brief) more ∙ map-append brief before (c.in_ok-job.job ∷ [])
          ∙ ap₂ (λ front (j : JobFields). front ++ j ∷ []) c.loop-row.invariant.bare
          (ap (λ (lines : List Pair). record c.in_ok-job.job { extra = lines }) (sym c.in_ok-job.ensures.stands.1)) ∙ sym more;
    }
