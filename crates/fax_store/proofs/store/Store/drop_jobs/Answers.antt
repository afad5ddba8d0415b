use Rattle.std.proofs.Common.{◌≡◌, ◌+◌, ◌<◌, ◌≤◌, ◌++◌, ◌∙◌, ℕ, List, [], ◌∷◌, drop, length, slice_index_or, take, sym, ap, subst, rules}
use Rattle.std.proofs.lemmas.List.{take-append-drop, take_all, take_more}
use Rattle.fax_store.proofs.LeaveLemmas.{HasLeft, left_first, left_next, left_all}
use Rattle.fax_store.proofs.FrameLemmas.{runs_then, writes_where_refused}
use Rattle.fax_store.proofs.store.Store.drop_jobs.Goals as goal

pub loop-job-init : goal.loop-job-init
loop-job-init g c = left_first g.S.Store c.args.numbers.now c.args.self.now

pub returns-in_err-drop_job : goal.returns-in_err-drop_job
returns-in_err-drop_job g c =
    writes_where_refused g.S.Store _ c.from_residual.ensures.1 (runs_then g.S.Store c.loop-job.invariant.leaves c.in_err-drop_job.ensures.leaves) c.in_err-drop_job.ensures.cause

pub loop-job-preserved : goal.loop-job-preserved
loop-job-preserved g c =
    let numbers = c.args.numbers.now in
    let i = c.loop-job.job-index in
    let n : ℕ = slice_index_or numbers i 0 in
    let low : i < length numbers = search rules in
    let seen : take (i + 1) numbers ≡ take i numbers ++ n ∷ [] = take_more numbers i 0 low in
    subst (HasLeft g.S.Store numbers c.args.self.now c.drop_job.new.self) (sym seen)
    (left_next g.S.Store numbers (take i numbers) n (drop (i + 1) numbers) (front numbers i n seen) c.loop-job.invariant c.in_ok-drop_job.ensures)
  where
    front : (numbers : List ℕ) (i n : ℕ) → take (i + 1) numbers ≡ take i numbers ++ n ∷ [] → numbers ≡ (take i numbers ++ n ∷ []) ++ drop (i + 1) numbers
    front numbers i n seen = sym (take-append-drop (i + 1) numbers) ∙ ap (λ ns. ns ++ drop (i + 1) numbers) seen

pub returns : goal.returns
returns g c =
    let numbers = c.args.numbers.now in
    let all : length numbers ≤ c.loop-job.job-index = search rules in
    left_all g.S.Store numbers c.args.self.now c.loop-job.self (subst (HasLeft g.S.Store numbers c.args.self.now c.loop-job.self) (take_all c.loop-job.job-index numbers all) c.loop-job.invariant)
