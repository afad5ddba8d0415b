use Rattle.std.proofs.Common.{Bool, ◌≡◌, ◌∙◌, ◌+◌, ◌<◌, ◌≤◌, ◌||◌, ◌++◌, [], ◌∷◌, List, ap, false, length, rules, subst, sym, take}
use Rattle.std.proofs.lemmas.List.{take_all, take_more}
use Rattle.fax_ask.specs.Response.{Response}
use Rattle.fax_decide.specs.Settings.{settings_of}
use Rattle.fax_store.proofs.FrameLemmas.{follows_at, follows_then}
use Rattle.fax_store.specs.Calls.{within}
use Rattle.fax_run.specs.Run.{Start, end_of}
use Rattle.fax_run.specs.declared.arrival.Arrival.{Arrival}
use Rattle.fax_once.proofs.AnsweringLemmas.{active_serves, no_answer}
use Rattle.fax_once.proofs.BatchLemmas.{goes_within, here_sound, runs_at_first}
use Rattle.fax_once.proofs.CauseLemmas.{gave_out_none}
use Rattle.fax_once.specs.Batch.{MeansEnd, RunsWithin, is_accepted, reply_in}
use Rattle.fax_once.specs.Known.{LeadsTo}
use Rattle.fax_once.proofs.batch.answer_each.Goals as goal

pub loop-arrival-init : goal.loop-arrival-init
loop-arrival-init g c = record {
  leaves = follows_at g.S.Store c.args.work.now;
  on = c.requires.on;
  as_many = search rules;
  opens = λ active clean. active_serves _ _ c.requires.on active clean;
  ran = λ m k sound works serves.
      let s = settings_of c.args.office.now.setup c.args.office.now.controls in
      let start : Start = record { queue = m; kept = k } in
      let work = c.args.work.now in
      subst (λ (rs : List Response). (runs : RunsWithin s start [] rs false) × LeadsTo c.nothing-known.result (within g.S.Store work) work.failed m k (end_of s start runs.heard)) (sym c.requires.none)
      (runs_at_first s start, (m, c.nothing-known.ensures m, works serves));
}

pub loop-arrival-preserved : goal.loop-arrival-preserved
loop-arrival-preserved g c =
    let i = c.loop-arrival.arrival-index in
    let here = c.loop-arrival.invariant in
    let answers = c.in_ok-answered.ensures in
    let new = c.answer_within.new.work in
    let a = c.arrival-item.result in
    let x = c.in_ok-answered.answered in
    let told : c.push.new.self.items ≡ c.loop-arrival.replies.items ++ reply_in x ∷ [] = search rules in
    record {
      leaves = follows_then g.S.Store _ _ _ here.leaves answers.leaves;
      on = answers.goes_on;
      as_many = search rules;
      opens = λ active clean. answers.opens (here.leaves.crash active).0 clean;
      ran = λ m k sound works serves.
          let s = settings_of c.args.office.now.setup c.args.office.now.controls in
          let start : Start = record { queue = m; kept = k } in
          let front = take i c.args.arrivals.now in
          let replies = c.loop-arrival.replies.items in
          let has = c.loop-arrival.has_accepted in
          let (runs, there) = here.ran m k sound works (answers.leaves.served serves) in
          let comes = answers.comes m there.0 _ k _ (here_sound s start front replies has runs sound) (λ _. there.2) there.1 serves in
          let on = goes_within s start front replies has runs a x comes.0 comes.1 comes.2 in
          let Leads = LeadsTo c.answer_within.new.known (within g.S.Store new) new.failed m k in
          let low : i < length c.args.arrivals.now = search rules in
          let seen : take (i + 1) c.args.arrivals.now ≡ front ++ a ∷ [] = take_more c.args.arrivals.now i a low ∙ ap (λ (b : Arrival). front ++ b ∷ []) (sym c.arrival-item.is) in
          let flag : c.is_accepted-has_accepted.result ≡ is_accepted x = c.is_accepted-has_accepted.ensures in
          let Runs = λ (arrivals : List Arrival) (rs : List Response) (b : Bool). (runs : RunsWithin s start arrivals rs (has || b)) × Leads (end_of s start runs.heard) in
          subst (λ (arrivals : List Arrival). Runs arrivals c.push.new.self.items c.is_accepted-has_accepted.result) (sym seen)
          (subst (λ (rs : List Response). Runs (front ++ a ∷ []) rs c.is_accepted-has_accepted.result) (sym told)
          (subst (λ (b : Bool). Runs (front ++ a ∷ []) (replies ++ reply_in x ∷ []) b) (sym flag) (on.0, subst Leads (sym on.1) comes.3)));
    }

pub returns : goal.returns
returns g c =
    let here = c.loop-arrival.invariant in
    let settles = c.in_ok-settle.ensures in
    let on = settles.goes_on here.on in
    record {
      leaves = follows_then g.S.Store _ _ _ here.leaves settles.leaves;
      goes_on = on;
      opens = λ active clean. active_serves _ _ on (settles.leaves.crash (here.leaves.crash active).0).0 clean;
      as_many = search rules;
      ran = λ m k sound works serves.
          let all : length c.args.arrivals.now ≤ c.loop-arrival.arrival-index = search rules in
          let s = settings_of c.args.office.now.setup c.args.office.now.controls in
          let start : Start = record { queue = m; kept = k } in
          let work = c.settle.new.work in
          let (runs, there) = here.ran m k sound works (settles.leaves.served serves) in
          subst (λ (arrivals : List Arrival). (runs : RunsWithin s start arrivals c.loop-arrival.replies.items c.loop-arrival.has_accepted) × MeansEnd s start runs.heard (within g.S.Store work) work.failed)
          (take_all c.loop-arrival.arrival-index c.args.arrivals.now all) (runs, settles.settled m there.0 _ k _ (λ _. there.2) there.1 serves);
    }

pub returns-in_err-settle : goal.returns-in_err-settle
returns-in_err-settle g c =
    let here = c.loop-arrival.invariant in
    let settles = c.in_err-settle.ensures in
    let given = c.from_residual-in_err-settle in
    record {
      leaves = follows_then g.S.Store _ _ _ here.leaves settles.leaves;
      goes_on = search rules;
      opens = search rules;
      as_many = search rules;
      ran = λ m k sound works serves.
          let (runs, there) = here.ran m k sound works (settles.leaves.served serves) in
          gave_out_none given.result c.in_err-settle.field-0.0 given.ensures.1 settles.cause _ (_, _, settles.settled m there.0 _ k _ (λ _. there.2) there.1 serves);
    }

pub returns-in_err-answered : goal.returns-in_err-answered
returns-in_err-answered g c =
    let here = c.loop-arrival.invariant in
    let given = c.from_residual in
    let answers = c.in_err-answered.ensures in
    record {
      leaves = follows_then g.S.Store _ _ _ here.leaves answers.leaves;
      goes_on = search rules;
      opens = search rules;
      as_many = search rules;
      ran = λ m k sound works serves.
          let s = settings_of c.args.office.now.setup c.args.office.now.controls in
          let start : Start = record { queue = m; kept = k } in
          let front = take c.loop-arrival.arrival-index c.args.arrivals.now in
          let (runs, there) = here.ran m k sound works (answers.leaves.served serves) in
          let comes = answers.comes m there.0 _ k _ (here_sound s start front c.loop-arrival.replies.items c.loop-arrival.has_accepted runs sound) (λ _. there.2) there.1 serves in
          no_answer given.result c.in_err-answered.field-0.0 _ given.ensures.1 comes.0 comes.1;
    }

pub returns-in-Err : goal.returns-in-Err
returns-in-Err g c =
    let here = c.loop-arrival.invariant in
    let answers = c.in_ok-answered.ensures in
    record {
      leaves = follows_then g.S.Store _ _ _ here.leaves answers.leaves;
      goes_on = tt;
      opens = tt;
      as_many = tt;
      ran = λ m k sound works serves.
          let s = settings_of c.args.office.now.setup c.args.office.now.controls in
          let start : Start = record { queue = m; kept = k } in
          let front = take c.loop-arrival.arrival-index c.args.arrivals.now in
          let (runs, there) = here.ran m k sound works (answers.leaves.served serves) in
          let comes = answers.comes m there.0 _ k _ (here_sound s start front c.loop-arrival.replies.items c.loop-arrival.has_accepted runs sound) (λ _. there.2) there.1 serves in
          (search rules, (comes.3.0, _, comes.3.2));
    }
