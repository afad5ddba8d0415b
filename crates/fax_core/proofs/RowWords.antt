-- Words of the worked rows: two modems, of which one is fast, no controls and an empty queue, unless a row says otherwise.
use Rattle.std.specs.Prelude.{decimal, ℕ, Bool, true, ◌&&◌, ◌||◌, List, [], ◌∷◌, map, codes, Option, Some, None}
use Rattle.std.specs.Str.{bytes_eq}
use Rattle.fax_job.specs.declared.alter.Alter.{Alter}
use Rattle.fax_job.specs.declared.job.Call.{Call}
use Rattle.fax_job.specs.declared.job.Call.TheVariants.{Connected, Busy, NoAnswer, NoCarrier, Other}
use Rattle.fax_job.specs.declared.order.Order.{Order}
use Rattle.fax_core.specs.declared.report.Ending.{Ending}
use Rattle.fax_core.specs.Ageing.{aged}
use Rattle.fax_core.specs.declared.ask.Ask.{Ask}
use Rattle.fax_core.specs.declared.report.Outcome.{Outcome}
use Rattle.fax_core.specs.Queue.{Queue, empty_queue}
use Rattle.fax_core.specs.Reply.{Handed}
use Rattle.fax_core.specs.Run.{Request, Answer, queue_after, answers}
use Rattle.fax_core.specs.Settings.{Rule, Settings}
use Rattle.fax_core.specs.State.{state}

abbrev pub ttyS0 : List ℕ
ttyS0 = codes "ttyS0"

abbrev pub ttyS1 : List ℕ
ttyS1 = codes "ttyS1"

abbrev pub delay_after : Option Call → ℕ
delay_after None = 300
delay_after (Some Connected) = 60
delay_after (Some Busy) = 180
delay_after (Some NoAnswer) = 300
delay_after (Some NoCarrier) = 300
delay_after (Some Other) = 300

-- one call at a time, at any moment
abbrev pub default_rule : Rule
default_rule = record { calls = 1; pages = None; notice = None; hours = λ t. true }

abbrev pub settings : Settings
settings = record {
  rule = λ dial. default_rule;
  admits = λ value modem. bytes_eq value (codes "any") || bytes_eq value modem || (bytes_eq value (codes "fast") && bytes_eq modem ttyS0);
  modems = ttyS0 ∷ ttyS1 ∷ [];
  delay = delay_after;
  max_jobs = 999999;
  max_grants = 999999999;
  shows = decimal;
}

abbrev pub order : List ℕ → ℕ → Order
order dial pages = record { dial = dial; modem = codes "any"; jobtag = []; tts = None; killtime = None; priority = 127; totpages = pages; maxtries = 3; maxdials = 12; extra = [] }

abbrev pub no_change : Alter
no_change = record { modem = None; jobtag = None; tts = None; killtime = None; priority = None; maxtries = None; maxdials = None }

abbrev pub report : Bool → Ending → ℕ → List ℕ → Outcome
report dialed ending pages reason = record { dialed = dialed; pages = pages; ending = ending; reason = reason }

abbrev pub hand : ℕ → ℕ → List ℕ → ℕ → ℕ → Handed
hand grant job dial first last = record { grant = grant; job = job; dial = dial; from = first; to = last }

-- a request at a moment
infix 90 ◌at◌
abbrev pub ◌at◌ : Ask → ℕ → Request
ask at moment = record { moment = moment; ask = ask }

-- from the empty queue
abbrev pub told : List Request → List Answer
told rs = answers settings empty_queue rs

abbrev pub after : List Request → Queue
after rs = queue_after settings empty_queue rs

-- what is shown of each job at t, its state and its status, where nothing is stored
abbrev pub shown : Queue → ℕ → List ℕ
shown m t = map (state settings (aged t m) t) (aged t m).jobs

abbrev pub statuses : Queue → ℕ → List (List ℕ)
statuses m t = map (λ j. j.status) (aged t m).jobs
