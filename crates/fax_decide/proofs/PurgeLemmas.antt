-- Which jobs leave, by the rows before the queue is aged, and what that leaves.
use Rattle.std.proofs.Common.{◌≡◌, ◌≤◌, ◌∙◌, ◌&&◌, ◌++◌, inl, inr, ℕ, Bool, true, false, cond, List, [], ◌∷◌, length, map, Option, Some, None, ap, ap₂, refl, sym, subst, nat_lt, arith}
use Rattle.std.specs.Global.{Vec}
use Rattle.std.specs.Prelude.{filter, take}
use Rattle.std.proofs.Math.Bool.{and-false}
use Rattle.std.proofs.Math.ListN.{drop_of_length-le}
use Rattle.std.proofs.lemmas.Bool.{and_parts, true≢false}
use Rattle.std.proofs.lemmas.List.{append-nil, length-take}
use Rattle.fax_ask.specs.Answer.{Replied}
use Rattle.fax_ask.specs.Response.{Response, accepted_response}
use Rattle.fax_core.specs.Ageing.{aged, aged_job, expires, is_past}
use Rattle.fax_core.specs.Job.{Job}
use Rattle.fax_core.specs.Machine.{stamped}
use Rattle.fax_core.specs.Purge.{ends_before, is_none_of, leaving, may_leave, most_purged, purged, without_jobs}
use Rattle.fax_core.specs.Queue.{Queue, job_numbered, open_grants, times_numbered}
use Rattle.fax_core.specs.Reply as machine
use Rattle.fax_core.specs.Sound.{Sound}
use Rattle.fax_core.specs.Stamp.{came, ends, new_jobs, stamp}
use Rattle.fax_core.specs.Times.{has_ended}
use Rattle.fax_core.specs.declared.times.Times.{Times}
use Rattle.fax_core.proofs.DecisionLemmas.{aged_number}
use Rattle.fax_core.proofs.KeepLemmas.{job_number, same_job}
use Rattle.fax_core.proofs.LeaveLemmas.{job_before}
use Rattle.fax_core.proofs.PlaceLemmas.{In, in_found}
use Rattle.fax_core.proofs.PurgeLemmas.{named_job}
use Rattle.fax_core.proofs.StampLemmas.{aged_found, aged_missing, ends_none, never_ends}
use Rattle.fax_core.proofs.StepLemmas.{aged_sound}
use Rattle.fax_core.proofs.TimesLemmas.{left_short}
use Rattle.fax_job.specs.declared.refusal.Refusal.TheVariants.{PurgeHigh}
use Rattle.fax_job.specs.declared.job.Phase.{Phase}
use Rattle.fax_job.specs.declared.job.Phase.TheVariants.{Held, Waiting, Granted, Done, Failed}
use Rattle.fax_value.specs.Status.{kill_time_expired}
use Rattle.fax_store.specs.Job.{with_expired}
use Rattle.fax_store.specs.Purge.{HaveNoCalls}
use Rattle.fax_decide.proofs.RecordLemmas.{in_had, open_there}
use Rattle.fax_decide.specs.Decision.{IsTaken}
use Rattle.fax_decide.specs.declared.effect.Effect.TheVariants.{Purged}

-- ---- who leaves

-- what may yet expire isn't over
not_over : (p : Phase) → expires p ≡ true → has_ended p ≡ false
not_over Held e = refl
not_over Waiting e = refl
not_over Granted e = cc
not_over Done e = cc
not_over Failed e = cc

-- a job that fails at t doesn't leave: it isn't over before, and ends no earlier than t
same_leave : (t before : ℕ) (j : Job) (x : Times) (b : Bool) → (expires j.phase && is_past j.killtime t) ≡ b → nat_lt t before ≡ false
    → (has_ended (cond b (record j { phase = Failed; status = kill_time_expired }) j).phase && nat_lt (cond b (record x { ended = t }) x).ended before) ≡ (has_ended j.phase && nat_lt x.ended before)
same_leave t before j x true on past = past ∙ ap (λ (a : Bool). a && nat_lt x.ended before) (sym (not_over j.phase (and_parts _ _ on).0))
same_leave t before j x false on past = refl

module _ (m : Queue) (t before : ℕ) (sound : Sound m) (past : nat_lt t before ≡ false) where
  -- a job may leave the aged queue where it may leave the queue
  leaves_as : (j : Job) → In j m.jobs → may_leave before (aged t m) (aged_job t j) ≡ may_leave before m j
  leaves_as j there = numbered ∙ by (times_numbered j.number m) refl
    where
      numbered : may_leave before (aged t m) (aged_job t j) ≡ (has_ended (aged_job t j).phase && ends_before before (times_numbered j.number (aged t m)))
      numbered = ap (λ (n : ℕ). has_ended (aged_job t j).phase && ends_before before (times_numbered n (aged t m))) (aged_number t j)

      by : (o : Option Times) → times_numbered j.number m ≡ o → (has_ended (aged_job t j).phase && ends_before before (times_numbered j.number (aged t m))) ≡ may_leave before m j
      by None e =
          ap (λ (o : Option Times). has_ended (aged_job t j).phase && ends_before before o) (aged_missing t j.number m e)
          ∙ and-false (has_ended (aged_job t j).phase) ∙ sym (and-false (has_ended j.phase))
          ∙ ap (λ (o : Option Times). has_ended j.phase && ends_before before o) (sym e)
      by (Some x) e =
          ap (λ (o : Option Times). has_ended (aged_job t j).phase && ends_before before o) (aged_found t j.number m j x (in_found job_number 0 m.next_job m.jobs j sound.jobs there) e)
          ∙ same_leave t before j x (expires j.phase && is_past j.killtime t) refl past
          ∙ ap (λ (o : Option Times). has_ended j.phase && ends_before before o) (sym e)

  all_leave : (js : List Job) → ((j : Job) → In j js → In j m.jobs)
      → map job_number (filter (may_leave before (aged t m)) (map (aged_job t) js)) ≡ map job_number (filter (may_leave before m) js)
  all_leave [] there = refl
  all_leave (j ∷ js) there =
      let rest = all_leave js (λ k i. there k (inr i)) in
      ap (λ (b : Bool). map job_number (cond b (aged_job t j ∷ filter (may_leave before (aged t m)) (map (aged_job t) js)) (filter (may_leave before (aged t m)) (map (aged_job t) js)))) (leaves_as j (there j (inl refl)))
      ∙ one (may_leave before m j) rest
    where
      one : (b : Bool) → map job_number (filter (may_leave before (aged t m)) (map (aged_job t) js)) ≡ map job_number (filter (may_leave before m) js)
          → map job_number (cond b (aged_job t j ∷ filter (may_leave before (aged t m)) (map (aged_job t) js)) (filter (may_leave before (aged t m)) (map (aged_job t) js)))
          ≡ map job_number (cond b (j ∷ filter (may_leave before m) js) (filter (may_leave before m) js))
      one true rest = ap₂ ◌∷◌ (aged_number t j) rest
      one false rest = rest

  -- so the same jobs leave
  pub leaving_aged : leaving before (aged t m) ≡ leaving before m
  leaving_aged = ap (take most_purged) (all_leave m.jobs (λ j i. i))

-- no more than a thousand leave
pub leaving_few : (before : ℕ) (m : Queue) → length (leaving before m) ≤ 1000
leaving_few before m = let least = length-take most_purged (map job_number (filter (may_leave before m) m.jobs)) in grind (arith, least)

-- ---- what stays

ends_gone : (o : Option Job) → ends o None ≡ false
ends_gone None = refl
ends_gone (Some j) = refl

-- no job ends where others leave, and none comes
pub stamp_without : (t : ℕ) (m : Queue) (numbers : List ℕ) → Sound m → stamp t m (without_jobs numbers m) ≡ without_jobs numbers m
stamp_without t m numbers sound =
    let left = without_jobs numbers m in
    let none : new_jobs m left ≡ [] = drop_of_length-le left.jobs (left_short (λ (j : Job). is_none_of numbers j.number) m.jobs) in
    ap (λ (xs : List Times). record left { times = xs })
    (ap₂ (λ (xs : List Times) (ks : List Job). xs ++ map (came t) ks) (ends_none t (λ i. ends (job_numbered i m) (job_numbered i left)) left.times never) none
    ∙ append-nil left.times)
  where
    never : (i : ℕ) → ends (job_numbered i m) (job_numbered i (without_jobs numbers m)) ≡ false
    never i = by (job_numbered i (without_jobs numbers m)) refl
      where
        by : (o : Option Job) → job_numbered i (without_jobs numbers m) ≡ o → ends (job_numbered i m) (job_numbered i (without_jobs numbers m)) ≡ false
        by None e = ap (ends (job_numbered i m)) e ∙ ends_gone (job_numbered i m)
        by (Some k) e = ap₂ ends (job_before m numbers sound i k e).0 e ∙ never_ends (Some k)

-- the job of an open grant isn't over, so it doesn't leave
pub none_open : (m : Queue) (before : ℕ) → Sound m → HaveNoCalls (leaving before m) m
none_open m before sound g has = by (is_none_of (leaving before m) g.job) refl
  where
    by : (b : Bool) → is_none_of (leaving before m) g.job ≡ b → is_none_of (leaving before m) g.job ≡ true
    by true e = e
    by false e =
        let leaver = named_job m before g.job sound e in
        let held = sound.held g.number g (open_there m g sound (in_had (open_grants m) g has)) in
        let same : leaver.0 ≡ held.0 = same_job m g.job leaver.0 held.0 leaver.1 held.1 in
        let over : has_ended (held.0).phase ≡ true = subst (λ (j : Job). has_ended j.phase ≡ true) same (and_parts (has_ended (leaver.0).phase) _ leaver.2).0 in
        absurd (true≢false (sym over ∙ ap has_ended (held.2).phase))

-- ---- the purge

-- the jobs that leave, by the rows before the queue is aged, leave the aged queue
pub purge_taken : (m : Queue) (t before : ℕ) (jobs : Vec ℕ) (count : ℕ) (reply : Response) → Sound m → nat_lt t before ≡ false → jobs.items ≡ leaving before m → count ≡ length jobs.items
    → reply ≡ accepted_response (Replied (machine.Purged count)) → IsTaken (purged (aged t m) t before) m t (Purged jobs) reply
purge_taken m t before jobs count reply sound past is counted replied = record {
  suits = subst (λ (numbers : List ℕ). HaveNoCalls numbers (with_expired t m)) (sym is) (none_open m before sound);
  within = tt;
  left = tt;
  given = refl;
  told = machine.Purged count;
  taken =
      ap (λ (b : Bool). stamped t (aged t m) (cond b (machine.Refused PurgeHigh machine.NoKeys) (machine.Taken (without_jobs (leaving before (aged t m)) (aged t m)) (machine.Purged (length (leaving before (aged t m))))))) past
      ∙ ap (λ (numbers : List ℕ). machine.Taken (stamp t (aged t m) (without_jobs numbers (aged t m))) (machine.Purged (length numbers))) (leaving_aged m t before sound past ∙ sym is)
      ∙ ap₂ machine.Taken (stamp_without t (aged t m) jobs.items (aged_sound t m sound)) (ap machine.Purged (sym counted));
  replied = replied;
}
