use Rattle.std.proofs.Common.{◌≡◌, List, All, map, take}
use Rattle.fax_core.specs.Job.{Job, fields_of}
use Rattle.fax_tables.specs.Job.{IsLawfulJob, brief, brief_shown}
use Rattle.fax_tables.proofs.jobs.briefs_in.Given as goal

-- the jobs of the rows so far
abbrev pub invariant-loop-row : goal.invariant-loop-row
invariant-loop-row l = record {
  found : (jobs : List Job) → l.rows ≡ map (λ j. brief_shown (fields_of j)) jobs → All IsLawfulJob jobs → l.jobs.items ≡ map (λ j. brief (fields_of j)) (take l.row-index jobs);
  stands : map (take 19) (take l.row-index l.rows) ≡ map brief_shown l.jobs.items;
  bare : map brief l.jobs.items ≡ l.jobs.items;
}
