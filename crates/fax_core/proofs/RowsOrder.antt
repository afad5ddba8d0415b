-- Worked rows: the first case that holds, in states and in what a retry comes to, and what reports count.
use Rattle.std.specs.Prelude.{◌≡◌, refl, ℕ, true, false, List, [], ◌∷◌, ◌++◌, map, codes, Some}
use Rattle.fax_job.specs.declared.job.Call.TheVariants.{Connected, Busy, NoAnswer, NoCarrier, Other}
use Rattle.fax_job.specs.declared.job.Phase.TheVariants.{Held, Waiting, Granted, Done, Failed}
use Rattle.fax_job.specs.declared.job.Wish.TheVariants.{Go, Hold, Kill}
use Rattle.fax_core.specs.Decisions.{new_job, after_call, retried}
use Rattle.fax_core.specs.Job.{Job}
use Rattle.fax_core.specs.State.{state_at}
use Rattle.fax_core.proofs.RowWords.{order, after}
use Rattle.fax_core.proofs.RowsGrants.{outcome_before_page}

abbrev plain : Job
plain = new_job (order (codes "5550111") 2) 1 0

-- ---- states

-- to be sent from 10, to be tried again from 20, and killed from 90
abbrev late : Job
late = record plain { tts = 10; next = 20; killtime = Some 90 }

-- a job that waits: the first state whose reason holds
waiting_states :
    state_at late true 0 1 5
    ∷ state_at late false 1 1 15
    ∷ state_at late false 1 1 20
    ∷ state_at late true 1 1 20
    ∷ state_at late true 0 1 89
    ∷ state_at late true 0 1 90 ∷ []
    ≡ 2 ∷ 3 ∷ 2 ∷ 4 ∷ 5 ∷ 8 ∷ []
waiting_states = refl

-- a job in each other phase before its kill time
other_states :
    map (λ p. state_at (record late { phase = p }) true 0 1 89) (Held ∷ Granted ∷ Done ∷ Failed ∷ [])
    ≡ 1 ∷ 6 ∷ 7 ∷ 8 ∷ []
other_states = refl

-- and from its kill time on
expired_states :
    map (λ p. state_at (record late { phase = p }) true 0 1 90) (Held ∷ Granted ∷ Done ∷ Failed ∷ [])
    ≡ 8 ∷ 6 ∷ 7 ∷ 8 ∷ []
expired_states = refl

-- a kill time of 0 is none
no_kill_time : state_at (record plain { killtime = Some 0 }) true 0 1 5 ≡ 5
no_kill_time = refl

-- ---- retries

-- each has one reason less to fail
abbrev doomed : List Job
doomed =
    record plain { wish = Kill; killtime = Some 50; totdials = 12; tottries = 3; ntries = 3 }
    ∷ record plain { wish = Hold; killtime = Some 50; totdials = 12; tottries = 3; ntries = 3 }
    ∷ record plain { wish = Hold; totdials = 12; tottries = 3; ntries = 3 }
    ∷ record plain { wish = Hold; totdials = 11; tottries = 3; ntries = 3 }
    ∷ record plain { wish = Hold; totdials = 11; tottries = 2; ntries = 3 }
    ∷ record plain { wish = Hold; totdials = 11; tottries = 2; ntries = 2 }
    ∷ record plain { wish = Go; totdials = 11; tottries = 2; ntries = 2 } ∷ []

-- the first reason to fail is the status
retried_statuses : map (λ j. (retried j (codes "busy") 180 50).status) doomed ≡
    codes "Killed" ∷ codes "Kill time expired" ∷ codes "Too many attempts to dial" ∷ codes "Too many attempts to transmit" ∷ codes "Unable to transmit page"
    ∷ codes "busy" ∷ codes "busy" ∷ []
retried_statuses = refl

-- without one, the job is held where it is to be, and waits else
retried_phases : map (λ j. (retried j (codes "busy") 180 50).phase) doomed ≡ Failed ∷ Failed ∷ Failed ∷ Failed ∷ Failed ∷ Held ∷ Waiting ∷ []
retried_phases = refl

-- the wish is to go again
retried_wishes : map (λ j. (retried j (codes "busy") 180 50).wish) doomed ≡ Go ∷ Go ∷ Go ∷ Go ∷ Go ∷ Go ∷ Go ∷ []
retried_wishes = refl

-- a job that goes on sleeps until its next time
retried_nexts : map (λ j. (retried j (codes "busy") 180 50).next) doomed ≡ 0 ∷ 0 ∷ 0 ∷ 0 ∷ 0 ∷ 230 ∷ 230 ∷ []
retried_nexts = refl

-- ---- counters

abbrev counters : Job → List ℕ
counters j = j.ntries ∷ j.tottries ∷ j.ndials ∷ j.totdials ∷ []

-- a connected call begins the dials in a row again, and any other call counts as one
calls_counted : map (λ c. counters (after_call c (record plain { ntries = 1; tottries = 2; ndials = 3; totdials = 5 }))) (Connected ∷ Busy ∷ NoAnswer ∷ NoCarrier ∷ Other ∷ []) ≡
    (2 ∷ 3 ∷ 0 ∷ 6 ∷ []) ∷ (1 ∷ 2 ∷ 4 ∷ 6 ∷ []) ∷ (1 ∷ 2 ∷ 4 ∷ 6 ∷ []) ∷ (1 ∷ 2 ∷ 4 ∷ 6 ∷ []) ∷ (1 ∷ 2 ∷ 4 ∷ 6 ∷ []) ∷ []
calls_counted = refl

-- a confirmed page begins the tries of a page again
pages_counted : map counters (after outcome_before_page).jobs ≡ (0 ∷ 1 ∷ 0 ∷ 1 ∷ []) ∷ []
pages_counted = refl

-- a page that is confirmed is sent and no more left
pages_moved : map (λ j. j.sent) (after outcome_before_page).jobs ++ map (λ j. j.left) (after outcome_before_page).jobs ≡ (1 ∷ 2 ∷ []) ∷ (3 ∷ []) ∷ []
pages_moved = refl
