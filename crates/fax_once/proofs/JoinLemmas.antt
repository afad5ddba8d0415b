-- A run that goes on where another one leads.
use Rattle.std.proofs.Common.{◌≡◌, inl, inr, List, [], ◌∷◌, ◌++◌, refl, sym, ap, subst, ◌∙◌, append_assoc}
use Rattle.sqlite.specs.State.{State}
use Rattle.sqlite_trees.specs.Tree.{Trees}
use Rattle.fax_ask.specs.Response.{Response}
use Rattle.fax_core.specs.Settings.{Settings}
use Rattle.fax_store.specs.Store.{MayFind, Means, RowsFound}
use Rattle.fax_run.proofs.FedLemmas.{accepted_more, lawful_reading}
use Rattle.fax_run.proofs.RunLemmas.{runs_thread}
use Rattle.fax_run.specs.Laws.{AreAccepted, left_of}
use Rattle.fax_run.specs.Reading.{Reading}
use Rattle.fax_run.specs.Run.{IsRun, Start, end_of, taken}
use Rattle.fax_run.specs.Sessions.{AreHeard}
use Rattle.fax_run.specs.Verdict.{reply_of, verdict}
use Rattle.fax_run.specs.declared.arrival.Arrival.{Arrival}
use Rattle.fax_once.specs.Ran.{HasRun}
use Rattle.fax_once.specs.Stop.{AtEnd, Before, Besides, IsLeftBehind, IsMadeIn, StopsIn}

module _ (s : Settings) (start : Start) where
  -- ---- what is heard

  module _ (beginning : List Reading) where
    -- what is heard after a beginning leads where it leads from there
    ends_split : (rest : List Reading) → end_of s start (rest ++ beginning) ≡ end_of s (end_of s start beginning) rest
    ends_split [] = refl
    ends_split (r ∷ rest) =
        runs_thread s start (rest ++ beginning) r ∙ ap (λ (e : Start). left_of e (verdict s e.queue e.kept r)) (ends_split rest)
        ∙ sym (runs_thread s (end_of s start beginning) rest r)

    -- what runs from where a beginning leads runs after it
    run_after : (past : List Reading) (arrivals : List Arrival) (replies : List Response) (heard : List Reading) → IsRun s (end_of s start beginning) past arrivals replies heard
        → IsRun s start (past ++ beginning) arrivals replies (heard ++ beginning)
    run_after past [] [] heard is = ap (λ (rs : List Reading). rs ++ beginning) is
    run_after past (a ∷ arrivals) (reply ∷ replies) heard (inl (lost, is)) = inl (lost, run_after past arrivals replies heard is)
    run_after past (a ∷ arrivals) (reply ∷ replies) heard (inr (r, reads, told, is)) =
        inr (r, reads, told ∙ ap (λ (e : Start). reply_of (verdict s e.queue e.kept r)) (sym (ends_split past)), run_after (r ∷ past) arrivals replies heard is)
    run_after past arrivals replies heard is = absurd is

    -- and so is a batch heard
    heard_after : (batch : List Arrival) (past all : List Reading) → AreHeard batch past all → AreHeard batch (past ++ beginning) (all ++ beginning)
    heard_after [] past all is = ap (λ (rs : List Reading). rs ++ beginning) is
    heard_after (a ∷ batch) past all (r, reads, more) = (r, reads, heard_after batch (r ∷ past) all more)

  -- two runs, the one after the other, are one
  runs_joined : (past : List Reading) (arrivals others : List Arrival) (replies answers : List Response) (heard all : List Reading)
      → IsRun s start past arrivals replies heard → IsRun s start heard others answers all → IsRun s start past (arrivals ++ others) (replies ++ answers) all
  runs_joined past [] others [] answers heard all is more = subst (λ (rs : List Reading). IsRun s start rs others answers all) is more
  runs_joined past (a ∷ arrivals) others (reply ∷ replies) answers heard all (inl (lost, is)) more = inl (lost, runs_joined past arrivals others replies answers heard all is more)
  runs_joined past (a ∷ arrivals) others (reply ∷ replies) answers heard all (inr (r, reads, told, is)) more =
      inr (r, reads, told, runs_joined (r ∷ past) arrivals others replies answers heard all is more)
  runs_joined past arrivals others replies answers heard all is more = absurd is

  -- what a run takes is accepted
  run_accepted : (past : List Reading) (arrivals : List Arrival) (replies : List Response) (heard : List Reading) → IsRun s start past arrivals replies heard
      → AreAccepted start (taken s start past) → AreAccepted start (taken s start heard)
  run_accepted past [] [] heard is are = subst (λ (rs : List Reading). AreAccepted start (taken s start rs)) (sym is) are
  run_accepted past (a ∷ arrivals) (reply ∷ replies) heard (inl (lost, is)) are = run_accepted past arrivals replies heard is are
  run_accepted past (a ∷ arrivals) (reply ∷ replies) heard (inr (r, reads, told, is)) are =
      run_accepted (r ∷ past) arrivals replies heard is (accepted_more s start (taken s start past) r (lawful_reading a r reads) are)
  run_accepted past arrivals replies heard is are = absurd is

  -- ---- what is left

  module _ (arrivals : List Arrival) (replies : List Response) (old between : State) (ran : HasRun s start arrivals replies between)
      (others : List Arrival) (answers : List Response) (new : State) (on : HasRun s (end_of s start ran.heard) others answers new) where
    abbrev here : Start
    here = end_of s start ran.heard

    abbrev heard : List Reading
    heard = on.heard ++ ran.heard

    -- the run of both
    joined : HasRun s start (arrivals ++ others) (replies ++ answers) new
    joined =
        let more = run_after ran.heard [] others answers on.heard on.answered in
        record {
          heard = heard;
          answered = runs_joined [] arrivals others replies answers ran.heard heard ran.answered more;
          means = subst (λ (e : Start). Means new e.queue e.kept) (sym (ends_split ran.heard on.heard)) on.means;
          accepted = run_accepted ran.heard others answers heard more ran.accepted;
        }

    -- where the second takes nothing, what a batch of the first made stays what it makes
    made_before : end_of s start heard ≡ here → (found : Trees) → IsMadeIn s start arrivals replies ran.heard found
        → IsMadeIn s start (arrivals ++ others) (replies ++ answers) heard found
    made_before stays found made =
        let it = made.failed in
        record {
          batch = made.batch;
          failed = record {
            before = it.before;
            after = it.after ++ others;
            one = ap (λ (xs : List Arrival). xs ++ others) it.one ∙ append_assoc it.before (made.batch ++ it.after) others
                ∙ ap (λ (xs : List Arrival). it.before ++ xs) (append_assoc made.batch it.after others);
            replied = it.replied;
            failed = it.failed;
            more = it.more ++ answers;
            answers = ap (λ (xs : List Response). xs ++ answers) it.answers ∙ append_assoc it.replied (it.failed ++ it.more) answers
                ∙ ap (λ (xs : List Response). it.replied ++ xs) (append_assoc it.failed it.more answers);
            each = it.each;
            later = on.heard ++ it.later;
            earlier = it.earlier;
            parts = ap (λ (rs : List Reading). on.heard ++ rs) it.parts ∙ sym (append_assoc on.heard it.later it.earlier);
            answered = it.answered;
            still = stays ∙ it.still;
          };
          all = made.all;
          taken = made.taken;
          made = made.made;
        }

    -- and so does what a batch of the second made
    made_after : (found : Trees) → IsMadeIn s here others answers on.heard found → IsMadeIn s start (arrivals ++ others) (replies ++ answers) heard found
    made_after found made =
        let it = made.failed in
        record {
          batch = made.batch;
          failed = record {
            before = arrivals ++ it.before;
            after = it.after;
            one = ap (λ (xs : List Arrival). arrivals ++ xs) it.one ∙ sym (append_assoc arrivals it.before (made.batch ++ it.after));
            replied = replies ++ it.replied;
            failed = it.failed;
            more = it.more;
            answers = ap (λ (xs : List Response). replies ++ xs) it.answers ∙ sym (append_assoc replies it.replied (it.failed ++ it.more));
            each = it.each;
            later = it.later;
            earlier = it.earlier ++ ran.heard;
            parts = ap (λ (rs : List Reading). rs ++ ran.heard) it.parts ∙ append_assoc it.later it.earlier ran.heard;
            answered = runs_joined [] arrivals it.before replies it.replied ran.heard (it.earlier ++ ran.heard) ran.answered
                (run_after ran.heard [] it.before it.replied it.earlier it.answered);
            still = ends_split ran.heard on.heard ∙ it.still ∙ sym (ends_split ran.heard it.earlier);
          };
          all = made.all ++ ran.heard;
          taken = heard_after ran.heard made.batch it.earlier made.all made.taken;
          made = subst (λ (e : Start). RowsFound found e.queue e.kept) (sym (ends_split ran.heard made.all)) made.made;
        }

    -- what a crash leaves behind both
    left_behind : ((found : Trees) → MayFind between found → IsLeftBehind s start arrivals replies ran.heard old found)
        → (found : Trees) → IsLeftBehind s here others answers on.heard between found → IsLeftBehind s start (arrivals ++ others) (replies ++ answers) heard old found
    left_behind before found (AtEnd rows) = AtEnd (subst (λ (e : Start). RowsFound found e.queue e.kept) (sym (ends_split ran.heard on.heard)) rows)
    left_behind before found (Besides made) = Besides (made_after found made)
    left_behind before found (Before may none) = by (before found may)
      where
        stays : end_of s start heard ≡ here
        stays = ends_split ran.heard on.heard ∙ none

        by : IsLeftBehind s start arrivals replies ran.heard old found → IsLeftBehind s start (arrivals ++ others) (replies ++ answers) heard old found
        by (Before may_old nothing) = Before may_old (stays ∙ nothing)
        by (AtEnd rows) = AtEnd (subst (λ (e : Start). RowsFound found e.queue e.kept) (sym stays) rows)
        by (Besides made) = Besides (made_before stays found made)

-- A run that goes on where another one leads, and what a crash leaves behind both.
pub stops_joined : (s : Settings) (start : Start) (arrivals others : List Arrival) (replies answers : List Response) (old between new : State)
    → (first : StopsIn s start arrivals replies old between) → StopsIn s (end_of s start first.0.heard) others answers between new
    → StopsIn s start (arrivals ++ others) (replies ++ answers) old new
unfolding joined
stops_joined s start arrivals others replies answers old between new (ran, before) (on, after) = (
  joined s start arrivals replies old between ran others answers new on,
  λ found may. left_behind s start arrivals replies old between ran others answers new on before found (after found may),
)
