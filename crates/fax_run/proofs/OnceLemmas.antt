-- After requests that were taken no page is confirmed twice, none that was confirmed or came in as sent is granted again, and the clock is no earlier.
use Rattle.std.proofs.Common.{◌≡◌, ℕ, zero, suc, ◌+◌, ◌-◌, ◌<◌, ◌≤◌, true, List, [], ◌∷◌, ◌++◌, length, Some, refl, sym, ap, subst, ◌∙◌, arith}
use Rattle.std.specs.List.{range_with_len}
use Rattle.std.proofs.lemmas.List.{length-append}
use Rattle.fax_core.specs.declared.grants.Grant.{Grant}
use Rattle.fax_core.specs.Ageing.{aged}
use Rattle.fax_core.specs.Clock.{decided_at}
use Rattle.fax_core.specs.declared.ask.Ask.TheVariants.{Bring, Next, OnGrant}
use Rattle.fax_core.specs.declared.report.Report.TheVariants.{Page}
use Rattle.fax_core.specs.Job.{HasPages, Job, pages_to}
use Rattle.fax_core.specs.Laws.{ConfirmsPage}
use Rattle.fax_core.specs.Machine.{step}
use Rattle.fax_core.specs.Queue.{Queue, grant_numbered}
use Rattle.fax_core.specs.Reply.{Brought, Given, Handed, Reply, Step, Taken, Refused}
use Rattle.fax_core.specs.Run.{left_by}
use Rattle.fax_core.specs.Sound.{IsJob, Sound}
use Rattle.fax_core.proofs.BroughtLemmas.{came}
use Rattle.fax_core.proofs.ClockLemmas.{step_clock}
use Rattle.fax_core.proofs.KeepLemmas.{same_job}
use Rattle.fax_core.proofs.PageLemmas.{KeepsSent, aged_keeps, confirmed, one_each, same_keeps, sent_before, step_gives, step_keeps, tail_is, through}
use Rattle.fax_core.proofs.StepLemmas.{aged_sound, decided_sound}
use Rattle.fax_run.specs.Laws.{AreTaken, BringsIn, ClockRises, GoesBehind, IsConfirmed, RunsAreSound, RunsSendNoImportedPage, RunsSendOnce}
use Rattle.fax_run.specs.Run.{Fed, queue_after, step_of, takes}

-- ---- parts of what was taken

-- of requests that were taken, the older were taken
pub earlier_taken : (m : Queue) (newer older : List Fed) → AreTaken m (newer ++ older) → AreTaken m older
earlier_taken m [] older are = are
earlier_taken m (f ∷ newer) older are = earlier_taken m newer older are.2

-- the queue is sound after requests that were taken
pub sound_after : (m : Queue) (fed : List Fed) → Sound m → AreTaken m fed → Sound (queue_after m fed)
sound_after m [] h are = h
sound_after m (f ∷ earlier) h (lawful, on, are) = decided_sound f.settings (queue_after m earlier) f.post.request (sound_after m earlier h are) lawful

pub runs_are_sound : RunsAreSound
runs_are_sound m fed h are = (sound_after m fed h are, λ a b g i. one_each (queue_after m fed) a b g i (sound_after m fed h are))

-- the step of a request that was taken
taken_step : (m : Queue) (x : Step) → takes x ≡ true → (r : Reply) × (x ≡ Taken (left_by m x) r)
taken_step m (Taken n r) on = (r, refl)
taken_step m (Refused e k) on = absurd cc

-- ---- pages that were sent stay sent

-- a step that was taken leaves them
one_keeps : (m : Queue) (f : Fed) → Sound m → takes (step_of m f) ≡ true → KeepsSent m (left_by m (step_of m f))
one_keeps m f h on =
    let it = taken_step m (step_of m f) on in
    step_keeps f.settings m (left_by m (step_of m f)) (decided_at m.clock f.post.request.moment) f.post.request.ask it.0 h it.1

-- and so do all behind an earlier part
keeps_sent : (m : Queue) (newer older : List Fed) → Sound m → AreTaken m (newer ++ older) → KeepsSent (queue_after m older) (queue_after m (newer ++ older))
keeps_sent m [] older h are = same_keeps (queue_after m older)
keeps_sent m (f ∷ newer) older h (lawful, on, are) =
    let here = queue_after m (newer ++ older) in
    through (queue_after m older) here (left_by here (step_of here f)) (keeps_sent m newer older h are)
    (one_keeps here f (sound_after m (newer ++ older) h are) on)

-- ---- the place of a page

-- a range begins with its first
head_is : (p : ℕ) (rest : List ℕ) (a n : ℕ) → p ∷ rest ≡ range_with_len a n → p ≡ a
head_is p rest a zero e = cc
head_is p rest a (suc n) e = cc

-- a page that is confirmed is the one after those that were sent
first_left : (m n : Queue) (a p : ℕ) (c : ConfirmsPage m n a p) → Sound m → p ≡ length c.old.sent + 1
first_left m n a p c h =
    let old = h.held a c.grant c.open_grant in
    let pages : HasPages c.old = subst HasPages (same_job m c.grant.job old.0 c.old old.1 c.was_there) old.2.counted.pages in
    let split : c.old.sent ++ p ∷ c.rest ≡ pages_to c.old.totpages = ap (λ (ps : List ℕ). c.old.sent ++ ps) (sym c.left) ∙ pages in
    let place = head_is p c.rest (1 + length c.old.sent) (c.old.totpages - length c.old.sent) (tail_is c.old.sent (p ∷ c.rest) 1 c.old.totpages split) in
    omega (arith, place)

-- ---- past the pages that were sent

-- At a sound queue a request goes past a page where, whenever one looks, as many pages of its job are sent.
module _ (now : Queue) (sound : Sound now) (job page : ℕ) (sent : (u : ℕ) (j : Job) → IsJob (aged u now) job j → page ≤ length j.sent) (f : Fed) where
  -- the moment at which it is decided
  abbrev u : ℕ
  u = decided_at now.clock f.post.request.moment

  -- a grant of the job begins after the page
  granted_after : (modem : List ℕ) (n : Queue) (handed : Handed)
      → f.post.request.ask ≡ Next modem → step_of now f ≡ Taken n (Given handed) → handed.job ≡ job → page < handed.from
  granted_after modem n handed asked given same =
      let next = step_gives f.settings now n u modem handed sound (ap (step f.settings now u) (sym asked) ∙ given) in
      let more = sent u next.job (subst (λ (i : ℕ). IsJob (aged u now) i next.job) same next.was_there) in
      omega (arith, more, next.first)

  -- a report of a page of the job is of one after it
  confirmed_after : (other more : ℕ) (n : Queue) (told : Reply) (i : Grant)
      → f.post.request.ask ≡ OnGrant other (Page more) → step_of now f ≡ Taken n told → grant_numbered other now ≡ Some i → i.job ≡ job → page < more
  confirmed_after other more n told i asked again at same =
      let c = confirmed f.settings now n u other more told (ap (step f.settings now u) (sym asked) ∙ again) in
      let it : c.grant ≡ i = cc (c.open_grant.0, at) in
      let there : IsJob (aged u now) job c.old = subst (λ (x : ℕ). IsJob (aged u now) x c.old) (ap (λ (x : Grant). x.job) it ∙ same) c.was_there in
      let least = sent u c.old there in
      let place = first_left (aged u now) n other more c (aged_sound u now sound) in
      omega (arith, least, place)

  goes_past : GoesBehind now f job page
  goes_past = record { given = granted_after; confirmed = confirmed_after }

-- Of a request that was taken, and of those after it. The pages of a job that were sent after it are sent.
module _ (m : Queue) (between earlier : List Fed) (e : Fed) (h : Sound m) (are : AreTaken m (between ++ e ∷ earlier)) where
  abbrev was : Queue
  was = queue_after m earlier

  abbrev then' : Queue
  then' = queue_after m (e ∷ earlier)

  abbrev now : Queue
  now = queue_after m (between ++ e ∷ earlier)

  -- the moment at which it was decided
  abbrev t : ℕ
  t = decided_at was.clock e.post.request.moment

  -- it was taken after the earlier ones
  its : AreTaken m (e ∷ earlier)
  its = earlier_taken m between (e ∷ earlier) are

  -- the queue before it was sound
  sound_before : Sound was
  sound_before = sound_after m earlier h its.2

  -- the queue now is sound
  sound_now : Sound now
  sound_now = sound_after m (between ++ e ∷ earlier) h are

  -- pages that its job had sent then are sent whenever one looks now
  sent_now : (job : ℕ) (j k : Job) (u : ℕ) → IsJob then' job j → IsJob (aged u now) job k → length j.sent ≤ length k.sent
  sent_now job j k u there here =
      let kept : KeepsSent then' (aged u now) = through then' now (aged u now) (keeps_sent m between (e ∷ earlier) h are) (aged_keeps u now) in
      sent_before (aged u now) job j.sent k (kept.sent job j there) here

  -- after a page that it confirmed as many pages are sent
  sent_since : (grant page : ℕ) (g : Grant) → IsConfirmed was e grant page g → (u : ℕ) (j : Job) → IsJob (aged u now) g.job j → page ≤ length j.sent
  sent_since grant page g (asks, is) u j there =
      let it = taken_step was (step_of was e) its.1 in
      let c = confirmed e.settings was then' t grant page it.0 (ap (step e.settings was t) (sym asks) ∙ it.1) in
      let place = first_left (aged t was) then' grant page c (aged_sound t was sound_before) in
      let long : length c.new.sent ≡ length c.old.sent + 1 = ap length c.sent_now ∙ length-append c.old.sent (page ∷ []) in
      let same : c.grant ≡ g = cc (c.open_grant.0, is) in
      let more = sent_now c.grant.job c.new j u c.there (subst (λ (x : Grant). IsJob (aged u now) x.job j) (sym same) there) in
      omega (arith, place, long, more)

  -- and after an import as many as came in
  brought_since : (job pages : ℕ) → BringsIn was e job pages → (u : ℕ) (j : Job) → IsJob (aged u now) job j → pages ≤ length j.sent
  brought_since job pages brings u j there =
      let taken : step e.settings was t (Bring brings.it) ≡ Taken brings.after (Brought job brings.state) = ap (step e.settings was t) (sym brings.asks) ∙ brings.taken in
      let c = came e.settings was brings.after t brings.it job brings.state sound_before taken in
      let here : IsJob then' job c.job = subst (λ (q : Queue). IsJob q job c.job) (sym (ap (left_by was) brings.taken)) c.there in
      let more = sent_now job c.job j u here there in
      omega (arith, c.npages, brings.npages, more)

pub runs_send_once : RunsSendOnce
runs_send_once m fed h are newer between earlier e f grant page g split reports =
    let its = earlier_taken m newer (f ∷ (between ++ e ∷ earlier)) (subst (AreTaken m) split are) in
    goes_past (queue_after m (between ++ e ∷ earlier)) (sound_now m between earlier e h its.2) g.job page (sent_since m between earlier e h its.2 grant page g reports) f

pub runs_send_no_imported_page : RunsSendNoImportedPage
runs_send_no_imported_page m fed h are newer between earlier e f job pages split brings =
    let its = earlier_taken m newer (f ∷ (between ++ e ∷ earlier)) (subst (AreTaken m) split are) in
    goes_past (queue_after m (between ++ e ∷ earlier)) (sound_now m between earlier e h its.2) job pages (brought_since m between earlier e h its.2 job pages brings) f

-- ---- the clock

-- a request that was taken sets the clock to its moment or later
clock_left : (m : Queue) (f : Fed) → takes (step_of m f) ≡ true → m.clock ≤ (left_by m (step_of m f)).clock
clock_left m f on =
    let it = taken_step m (step_of m f) on in
    let at = step_clock f.settings m (left_by m (step_of m f)) (decided_at m.clock f.post.request.moment) f.post.request.ask it.0 it.1 in
    omega (arith, at)

clock_on : (m : Queue) (later earlier : List Fed) → AreTaken m (later ++ earlier) → (queue_after m earlier).clock ≤ (queue_after m (later ++ earlier)).clock
clock_on m [] earlier are = omega arith
clock_on m (f ∷ later) earlier (lawful, on, are) =
    let before = clock_on m later earlier are in
    let here = clock_left (queue_after m (later ++ earlier)) f on in
    omega (arith, before, here)

pub clock_rises : (m : Queue) (fed : List Fed) → AreTaken m fed → ClockRises m fed
clock_rises m fed are later earlier split =
    subst (λ (fs : List Fed). (queue_after m earlier).clock ≤ (queue_after m fs).clock) (sym split) (clock_on m later earlier (subst (AreTaken m) split are))
