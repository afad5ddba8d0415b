-- Worked rows of what one list of accepted requests says of all that was answered and left. Of the list the newest comes first.
use Rattle.std.proofs.Common.{◌≡◌, ◌∙◌, inl, inr, refl, sym, ap, ap₂, subst, List, [], ◌∷◌, ◌++◌}
use Rattle.std.specs.Prelude.{◌≢◌, codes, Some}
use Rattle.std.specs.List.{AllByRecursion}
use Rattle.std.proofs.lemmas.Bool.{true≢false}
use Rattle.fax_job.specs.declared.refusal.Refusal.TheVariants.{Unavailable}
use Rattle.fax_ask.specs.Response.{Response, kept_response, refused_response}
use Rattle.fax_core.specs.Queue.{Entry}
use Rattle.fax_core.specs.Reply.{NoKeys, Submitted}
use Rattle.fax_core.specs.Settings.{Settings}
use Rattle.fax_core.proofs.RowWords.{◌at◌, settings}
use Rattle.fax_run.proofs.RowsRuns.{accepted, desk, fax, start}
use Rattle.fax_run.proofs.RowsSessions.{broken}
use Rattle.fax_core.specs.Ledger.{kept_for, IsKeptStatus}
use Rattle.fax_run.specs.Laws.{AreAccepted, GoesWell}
use Rattle.fax_run.specs.Reading.{IsReading, Post, Posts, Reading}
use Rattle.fax_run.specs.Run.{Fed, Start, end_after, reply_to, under}
use Rattle.fax_run.specs.Sessions.{Adds, AreAdded, CameIn, CameInTurn, EachOnce, Failed, HasIts, HasReplyOf, HaveOneList, IsAnsweredBy, IsSession, IsSettled, IsToldBy, Nothing, Session, Unanswered, session_of}
use Rattle.fax_run.specs.Verdict.{Repeated, reply_of, verdict}
use Rattle.fax_run.specs.declared.arrival.Arrival.{Arrival}

-- ---- words

-- the desk's fax, as it was posted, and as it was fed
abbrev its_post : Post
its_post = record { client = desk; number = 1; said = codes "a fax"; request = fax at 1000 }

abbrev its_fed : Fed
its_fed = under settings its_post

-- an empty list has no parts but empty ones
empty : {X : Type 0} (later earlier : List X) → [] ≡ later ++ earlier → earlier ≡ []
empty [] earlier is = sym is
empty (x ∷ later) earlier is = absurd cc

none : {X : Type 0} (later earlier : List X) (it : X) → [] ≡ later ++ it ∷ earlier → ⊥
none [] earlier it is = cc
none (x ∷ later) earlier it is = cc

-- of a list of one that one is all, wherever the list is cut
record IsAlone {X : Type 0} (one it : X) (earlier : List X) : Type 0 where
  it_is : it ≡ one
  earlier_is : earlier ≡ []

alone : {X : Type 0} (one it : X) (later earlier : List X) → one ∷ [] ≡ later ++ it ∷ earlier → IsAlone one it earlier
alone one it [] earlier is = record { it_is = cc; earlier_is = cc }
alone one it (x ∷ later) earlier is = absurd (none later earlier it cc)

-- ---- what was fed

-- of no session nothing is left but where all began
no_session_row : (first last : Start) → HaveOneList first [] last → last ≡ first
no_session_row first last all = all.left ∙ ap (end_after first) all.added

-- what came in a session may be fed by its setup, where the reply to its step was replied to it, or where it was under way at the end
came_row : (a b : Arrival) (reply : Response) → IsReading a (Posts its_post) → let own = accepted (Submitted 1) in
    CameIn start (session_of settings (a ∷ []) (own ∷ []) Nothing) its_fed []
    × CameIn start (session_of settings (b ∷ a ∷ []) (reply ∷ own ∷ []) (Failed (b ∷ []))) its_fed []
    × CameIn start (session_of settings (b ∷ []) (reply ∷ []) (Unanswered (a ∷ []))) its_fed []
    × CameIn start (session_of settings (a ∷ []) (reply ∷ []) (Failed (b ∷ a ∷ []))) its_fed []
came_row a b reply says = (
  record { arrival = a; posts = says; settings = refl; answered = inl (inl (refl, refl)) },
  record { arrival = a; posts = says; settings = refl; answered = inl (inr (inl (refl, refl))) },
  record { arrival = a; posts = says; settings = refl; answered = inr (inl refl) },
  record { arrival = a; posts = says; settings = refl; answered = inr (inr (inl refl)) },
)

-- What was refused there isn't in the list, where nothing was under way: what is in it was answered as its step is where it stands.
answered_own_row : (first : Start) (s : Settings) (a : Arrival) (reply : Response) (f : Fed) (earlier : List Fed)
    → CameIn first (session_of s (a ∷ []) (reply ∷ []) Nothing) f earlier → IsReading a (Posts f.post) × (reply ≡ reply_to (end_after first earlier) f)
answered_own_row first s a reply f earlier came = elim came.answered [
  | inl here ↦ elim here [
    | inl (its, is) ↦ (subst (λ b. IsReading b (Posts f.post)) (sym its) came.posts, is)
    | inr more ↦ absurd more
  ]
  | inr was ↦ absurd was
]

-- a session in which nothing came fed nothing
nothing_fed_row : (s : Settings) (f : Fed) (before : List Fed) → Adds start (session_of s [] [] Nothing) (f ∷ before) before → ⊥
nothing_fed_row s f before ([], is, each) = longer f before is
  where
    longer : (f : Fed) (fs : List Fed) → f ∷ fs ≡ fs → ⊥
    longer f [] is = cc
    longer f (g ∷ fs) is = longer g fs cc
nothing_fed_row s f before (g ∷ own, is, (came, each)) = elim came.answered [ inl here ↦ absurd here | inr was ↦ absurd was ]

-- what was under way as one was broken off is what it fed, by its setup
broken_row : (a : Arrival) (f : Fed) → Adds start (broken a) (f ∷ []) [] → (f.settings ≡ settings) × IsReading a (Posts f.post)
broken_row a f ([], is, each) = absurd cc
broken_row a f (g ∷ own, is, (came, each)) =
    let same : g ≡ f = cc in
    subst (λ (x : Fed). (x.settings ≡ settings) × IsReading a (Posts x.post)) same (
      came.settings,
      elim came.answered [
        | inl here ↦ absurd here
        | inr (inl was) ↦ subst (λ b. IsReading b (Posts g.post)) was came.posts
        | inr (inr none) ↦ absurd none
      ],
    )

-- each of two that came in turn came after those before it
in_turn_row : (x : Session) (f g : Fed) (before : List Fed) → CameInTurn start x (g ∷ f ∷ []) before → CameIn start x g (f ∷ before) × CameIn start x f before
in_turn_row x f g before (came, (first, nothing)) = (came, first)

-- the only session went on from where all began, and left where the list leads
only_session_row : (first : Start) (x : Session) (fed : List Fed) → AreAdded first (x ∷ []) fed → IsSession first x (end_after first fed)
only_session_row first x fed (before, adds, session, nothing) = subst (λ fs. IsSession (end_after first fs) x (end_after first fed)) nothing session

-- nothing is in a list twice
each_once_row : (f : Fed) → ¬ EachOnce (f ∷ its_fed ∷ its_fed ∷ [])
each_once_row f (first, (twice, rest)) = true≢false twice

-- ---- what was answered

-- the reply of the only request is that to its step, for its client and its number
reply_row : (p : Post) (reply : Response) → HasReplyOf start (its_fed ∷ []) p reply → (p.client ≡ desk) × (p.number ≡ 1) × (reply ≡ accepted (Submitted 1))
reply_row p reply has =
    let cut = alone its_fed has.it has.later has.earlier has.one in (
      sym has.client ∙ ap (λ (f : Fed). f.post.client) cut.it_is,
      sym has.number ∙ ap (λ (f : Fed). f.post.number) cut.it_is,
      has.told ∙ ap₂ (λ (fs : List Fed) (f : Fed). reply_to (end_after start fs) f) cut.earlier_is cut.it_is,
    )

-- where nothing was fed, a reply is that of the verdict at first, and 200 or 201 was kept there
told_row : (first : Start) (s : Settings) (a : Arrival) (p : Post) (reply : Response) → ((r : Reading) → IsReading a r → r ≡ Posts p) → IsToldBy first [] s a reply
    → (reply ≡ reply_of (verdict s first.queue first.kept (Posts p)))
    × (IsKeptStatus reply.status → (e : Entry) × (kept_for p.client p.number first.kept.replies ≡ Some e) × (reply ≡ kept_response e.status e.body))
told_row first s a p reply says by =
    let its = says by.reading by.reads in
    let nothing = empty by.later by.earlier by.part in (
      by.told ∙ ap₂ (λ (fs : List Fed) (r : Reading). reply_of (verdict s (end_after first fs).queue (end_after first fs).kept r)) nothing its,
      λ status. elim (subst (HasIts first [] reply) its by.its status) [ inl has ↦ absurd (none has.later has.earlier has.it has.one) | inr was ↦ was ],
    )

-- an arrival that isn't answered 27 is told so
answered_row : (first : Start) (fed : List Fed) (s : Settings) (a : Arrival) (reply : Response) → reply ≢ refused_response Unavailable NoKeys
    → IsAnsweredBy first fed (session_of s (a ∷ []) (reply ∷ []) Nothing) → IsToldBy first fed s a reply
answered_row first fed s a reply heard (inl lost, rest) = absurd (heard lost)
answered_row first fed s a reply heard (inr told, rest) = told

-- who sends the fax again gets its reply, by whatever settings
settled_row : (s : Settings) → IsSettled start (its_fed ∷ []) its_post
    → verdict s (end_after start (its_fed ∷ [])).queue (end_after start (its_fed ∷ [])).kept (Posts its_post) ≡ Repeated (accepted (Submitted 1))
settled_row s (inl free) = absurd (true≢false free)
settled_row s (inr (reply, stands, again)) =
    let cut = alone its_fed stands.it stands.later stands.earlier stands.one in
    again (ap (λ (f : Fed). f.post.said) cut.it_is) refl s ∙ ap Repeated (reply_row its_post reply stands).2

-- all that one list says
all_row : (first last : Start) (sessions : List Session) (all : HaveOneList first sessions last) → AreAdded first sessions all.fed × AreAccepted first all.fed
    × EachOnce all.fed × GoesWell first all.fed × AllByRecursion (IsAnsweredBy first all.fed) sessions × ((p : Post) → IsSettled first all.fed p)
all_row first last sessions all = (all.added, all.accepted, all.once, all.well, all.answered, all.settled)
