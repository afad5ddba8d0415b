-- What a batch comes to.
use Rattle.std.proofs.Common.{◌≡◌, ◌∙◌, inl, inr, true, false, Bool, ◌||◌, List, [], ◌∷◌, ◌++◌, Ok, Err, Result, refl, sym, ap, subst}
use Rattle.std.specs.Prelude.{IfOk, IsErr, MatchResult, OnOk, Vec}
use Rattle.std.specs.declared.alloc.Global.{Global}
use Rattle.std.specs.List.{AllZip}
use Rattle.sqlite.specs.State.{State}
use Rattle.sqlite_trees.specs.Tree.{Trees}
use Rattle.fax_job.specs.declared.refusal.Refusal.TheVariants.{Unavailable}
use Rattle.fax_ask.specs.Response.{Response, refused_response}
use Rattle.fax_core.specs.Ledger.{Ledger}
use Rattle.fax_core.specs.Queue.{Queue}
use Rattle.fax_core.specs.Reply.{NoKeys}
use Rattle.fax_core.specs.Settings.{Settings}
use Rattle.fax_core.specs.Sound.{Sound}
use Rattle.fax_decide.specs.Fault.{OnlyNoAnswer, OrNoAnswer}
use Rattle.fax_decide.specs.declared.fault.Fault.{Fault}
use Rattle.fax_decide.specs.declared.fault.Fault.TheVariants.{NoAnswer}
use Rattle.fax_store.specs.Store.{CommitsNothing, HasTables, LeavesAlone, MayMake, Means, Serves}
use Rattle.fax_store.specs.Work.{MayCommit, Opens, Withholds}
use Rattle.fax_run.proofs.FedLemmas.{accepted_more, are_taken, heard_more, lawful_reading}
use Rattle.fax_run.proofs.OnceLemmas.{sound_after}
use Rattle.fax_run.proofs.RunLemmas.{runs_thread}
use Rattle.fax_run.specs.Laws.{left_of}
use Rattle.fax_run.specs.Reading.{Reading, IsReading}
use Rattle.fax_run.specs.Run.{IsRun, Start, end_of, taken}
use Rattle.fax_run.specs.Sessions.{AreHeard}
use Rattle.fax_run.specs.Verdict.{Verdict, IsVerdict, reply_of}
use Rattle.fax_run.specs.declared.arrival.Arrival.{Arrival}
use Rattle.fax_once.proofs.AnsweringLemmas.{IsLeft}
use Rattle.fax_once.proofs.HandledLemmas.{open_stops}
use Rattle.fax_once.specs.Acceptance.{IsBy, MeansFor, left_by}
use Rattle.fax_once.specs.Batch.{AreMadeByAll, IsGivenBy, MeansEnd, RunsWithin, all_refused, is_accepted, replies_to, reply_in}
use Rattle.fax_once.specs.Known.{HasBegun, LeadsTo}
use Rattle.fax_once.specs.Looking.{IsTold, SeesIn, Submits}
use Rattle.fax_core.specs.declared.ask.Ask.{Ask as Step}
use Rattle.fax_decide.specs.Read.{IsSubmission}
use Rattle.fax_once.specs.declared.known.Known.{Known}
use Rattle.fax_once.specs.Ran.{HasRun}
use Rattle.fax_once.specs.Stop.{AtEnd, Before, Besides, IsLeftBehind, StopsIn}
use Rattle.fax_once.specs.declared.acceptance.Answered.{Answered}
use Rattle.fax_once.specs.declared.acceptance.Answered.TheVariants.{Unchanged, Accepted}

-- ---- one arrival

-- what is found, or only a missing answer
pub found_or_none : {A : Type 0} (result : Result A Fault) (P : A → Type 0) → IfOk result P → OnlyNoAnswer result → OrNoAnswer result P
found_or_none (Ok x) P found none = found
found_or_none (Err fault) P found none = none

-- an answer behind another opens the store behind both
pub opens_behind : {A E : Type 0} (result : Result A E) (P Q R S : Type 0) → (P → Q) → OnOk result (Q → R → S) → OnOk result (P → R → S)
opens_behind (Ok x) P Q R S first opens = λ p r. opens (first p) r
opens_behind (Err e) P Q R S first opens = tt

-- the tables mean the queue for what is asked for
pub means_for : (a : Arrival) (tables m : Queue) (ask : Step) → SeesIn a tables m → (Submits a → IsSubmission ask) → MeansFor ask tables m
means_for a tables m ask (inl same) submits = inl same
means_for a tables m ask (inr it) submits = inr (submits it)

-- what is told is given
pub told_given : (reply : Response) (s : State) (v : Verdict) → IsTold reply s v → IsGivenBy (Unchanged reply) v
told_given reply s v (inl is) = inl is
told_given reply s v (inr (is, serves)) = inr is

-- so is what is answered to a new request
by_given : (x : Answered) (v : Verdict) → IsBy x v → IsGivenBy x v
by_given (Unchanged reply) v is = inl is
by_given (Accepted reply) v is = is

pub new_given : (result : Result Answered Fault) (s : Settings) (a : Arrival) (known : Known) (store : State) (failed : Bool) (m₀ m : Queue) (k₀ k : Ledger) (v : Verdict) → IsVerdict s a m k v
    → MatchResult result (λ x. IsLeft known store failed m₀ m k₀ k x v) (λ fault. (fault ≡ NoAnswer) × HasBegun store failed m₀ k₀)
    → MatchResult result
    (λ x. (w : Verdict) × IsVerdict s a m k w × IsGivenBy x w × LeadsTo known store failed m₀ k₀ (left_by m k w)) (λ fault. (fault ≡ NoAnswer) × HasBegun store failed m₀ k₀)
new_given (Ok x) s a known store failed m₀ m k₀ k v is (by, sound, there) = (v, is, by_given x v by, there)
new_given (Err fault) s a known store failed m₀ m k₀ k v is none = none

-- the reply is that of the verdict
given_reply : (x : Answered) (v : Verdict) → IsGivenBy x v → reply_in x ≡ reply_of v
given_reply (Unchanged reply) v (inl is) = ap reply_of (sym is)
given_reply (Unchanged reply) v (inr is) = ap reply_of (sym is)
given_reply (Accepted reply) v (after, kept, is) = ap reply_of (sym is)

-- where nothing is accepted, it leads nowhere
pub given_still : (m : Queue) (k : Ledger) (x : Answered) (v : Verdict) → IsGivenBy x v → is_accepted x ≡ false → left_by m k v ≡ record { queue = m; kept = k }
given_still m k (Unchanged reply) v (inl is) none = ap (left_by m k) is
given_still m k (Unchanged reply) v (inr is) none = ap (left_by m k) is
given_still m k (Accepted reply) v given none = absurd cc

-- ---- one after the other

-- a batch and one arrival more are heard
heard_last : (arrivals : List Arrival) (past heard : List Reading) (a : Arrival) (r : Reading) → AreHeard arrivals past heard → IsReading a r → AreHeard (arrivals ++ a ∷ []) past (r ∷ heard)
heard_last [] past heard a r is reads = (r, reads, ap (λ (rs : List Reading). r ∷ rs) is)
heard_last (b ∷ arrivals) past heard a r (q, others, more) reads = (q, others, heard_last arrivals (q ∷ past) heard a r more reads)

neither : (b c : Bool) → (b || c) ≡ false → (b ≡ false) × (c ≡ false)
neither true c is = absurd cc
neither false c is = (refl, is)

-- nothing has run at first
abbrev pub runs_at_first : (s : Settings) (start : Start) → RunsWithin s start [] [] false
runs_at_first s start = record { heard = []; all = refl; answered = refl; accepted = tt; still = λ none. refl }

module _ (s : Settings) (start : Start) (arrivals : List Arrival) (replies : List Response) (b : Bool) (runs : RunsWithin s start arrivals replies b) where
  abbrev here : Start
  here = end_of s start runs.heard

  -- where it leads is sound
  pub here_sound : Sound start.queue → Sound here.queue
  here_sound sound = sound_after start.queue (taken s start runs.heard) sound (are_taken start (taken s start runs.heard) runs.accepted)

  -- a batch goes on by an arrival that is answered by its verdict, and leads where that leads
  pub goes_within : (a : Arrival) (x : Answered) (v : Verdict) → IsVerdict s a here.queue here.kept v → IsGivenBy x v
      → (on : RunsWithin s start (arrivals ++ a ∷ []) (replies ++ reply_in x ∷ []) (b || is_accepted x)) × (end_of s start on.heard ≡ left_by here.queue here.kept v)
  goes_within a x v (r, reads, is) given =
      let leads : end_of s start (r ∷ runs.heard) ≡ left_of here v = runs_thread s start runs.heard r ∙ ap (left_of here) (sym is) in (
        record {
          heard = r ∷ runs.heard;
          all = heard_last arrivals [] runs.heard a r runs.all reads;
          answered = heard_more s start [] arrivals replies runs.heard a (reply_in x) r runs.answered reads (given_reply x v given ∙ ap reply_of is);
          accepted = accepted_more s start (taken s start runs.heard) r (lawful_reading a r reads) runs.accepted;
          still = λ none. let parts = neither b (is_accepted x) none in leads ∙ given_still here.queue here.kept x v given parts.1 ∙ runs.still parts.0;
        },
        leads,
      )

  -- ---- its end

  -- it has run, where the store means where it leads
  abbrev ran_of : (new : State) → Means new here.queue here.kept → HasRun s start arrivals replies new
  ran_of new means = record { heard = runs.heard; answered = runs.answered; means = means; accepted = runs.accepted }

  -- once it is committed, a crash leaves what it means
  pub committed_stops : (first new : State) → Means new here.queue here.kept → Serves new → (Serves new → LeavesAlone new new.committed.trees) → StopsIn s start arrivals replies first new
  committed_stops first new means serves alone = (ran_of new means, λ found may. AtEnd (open_stops new here means alone found may serves.is_open))

  -- where nothing is accepted, a crash leaves what one before could leave
  pub still_stops : (first new : State) → b ≡ false → Means new start.queue start.kept → CommitsNothing first new → StopsIn s start arrivals replies first new
  still_stops first new none means stops = (
    ran_of new (subst (λ (e : Start). Means new e.queue e.kept) (sym (runs.still none)) means),
    λ found may. Before (stops found may) (runs.still none),
  )

  -- a crash after a commit was asked for leaves what one before could leave, or the rows of all of it
  pub asked_to_commit : (s0 s1 old s3 : State) (begun was : Bool) → MeansEnd s start runs.heard old was → Opens s0 s1 begun → (Serves s0 → HasTables s0) → Withholds s1 begun old was → MayCommit old was s3
      → MayMake s0 s3 (AreMadeByAll s start arrivals)
  asked_to_commit s0 s1 old s3 begun was under opens tables writes commits found may =
      let wrote = writes (opens.0 tables) in
      elim (commits wrote.0 found may) [
        | inl before ↦ inl (opens.1 found (wrote.1 found before))
        | inr done ↦ inr (runs.heard, runs.all, (old.now, sym done.2, (under.goes_on done.0).means))
      ]

-- ---- one that couldn't be committed

-- where there are no replies, each arrival is to be answered 503
pub refused_where : {E : Type 0} (arrivals : List Arrival) (result : Result (Vec Response Global) E) → IsErr result → replies_to arrivals result ≡ all_refused arrivals
refused_where arrivals (Ok replies) is = absurd (let no = is in cc)
refused_where arrivals (Err e) is = refl

-- each arrival of it was lost
refused_run : (s : Settings) (start : Start) (arrivals : List Arrival) → IsRun s start [] arrivals (all_refused arrivals) []
refused_run s start [] = refl
refused_run s start (a ∷ arrivals) = inl (refl, refused_run s start arrivals)

each_refused : (arrivals : List Arrival) → AllZip (λ (a : Arrival) (reply : Response). reply ≡ refused_response Unavailable NoKeys) arrivals (all_refused arrivals)
each_refused [] = tt
each_refused (a ∷ arrivals) = (refl, each_refused arrivals)

nothing_more : {X : Type 0} (xs : List X) → xs ≡ xs ++ []
nothing_more [] = refl
nothing_more (x ∷ xs) = ap (λ ys. x ∷ ys) (nothing_more xs)

-- so a crash leaves what one before could leave, or the rows of all of it
pub failed_stops : (s : Settings) (start : Start) (arrivals : List Arrival) (first new : State) → Means new start.queue start.kept → MayMake first new (AreMadeByAll s start arrivals)
    → StopsIn s start arrivals (all_refused arrivals) first new
failed_stops s start arrivals first new means stops = (
  record { heard = []; answered = refused_run s start arrivals; means = means; accepted = tt },
  λ found may. elim (stops found may) [
    | inl before ↦ Before before refl
    | inr (all, heard, made) ↦ Besides (record {
      batch = arrivals;
      failed = record {
        before = [];
        after = [];
        one = nothing_more arrivals;
        replied = [];
        failed = all_refused arrivals;
        more = [];
        answers = nothing_more (all_refused arrivals);
        each = each_refused arrivals;
        later = [];
        earlier = [];
        parts = refl;
        answered = refl;
        still = refl;
      };
      all = all;
      taken = heard;
      made = made;
    })
  ],
)

-- ---- one that was given up

-- a run behind calls that commit nothing is a run from where they began
pub stops_from : (s : Settings) (start : Start) (arrivals : List Arrival) (replies : List Response) (first mid new : State) → CommitsNothing first mid
    → StopsIn s start arrivals replies mid new → StopsIn s start arrivals replies first new
stops_from s start arrivals replies first mid new nothing (ran, stops) = (ran, λ found may. by found (stops found may))
  where
    by : (found : Trees) → IsLeftBehind s start arrivals replies ran.heard mid found → IsLeftBehind s start arrivals replies ran.heard first found
    by found (Before may none) = Before (nothing found may) none
    by found (AtEnd rows) = AtEnd rows
    by found (Besides made) = Besides made
