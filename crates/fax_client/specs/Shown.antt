-- What a worker's command prints.
use Rattle.std.specs.Prelude.{ℕ, true, false, List, [], ◌++◌, codes, decimal, Option, Some, None}
use Rattle.fax_job.specs.declared.job.Call.{Call}
use Rattle.fax_worker.specs.Saying.{call_word, path_of}
use Rattle.fax_worker.specs.Worker.{Held, Pending, next_page}
use Rattle.fax_client.specs.declared.shown.Shown.{Shown}
use Rattle.fax_client.specs.declared.shown.Shown.TheVariants as shows

-- how the call went, or that it isn't reported
abbrev pub result_word : Option Call → List ℕ
result_word None = codes "none"
result_word (Some call) = call_word call

-- the grant that is held: the pages are those that aren't reported
abbrev pub held_line : Option Held → List ℕ
held_line None = codes "none\n"
held_line (Some h) =
    codes "grant " ++ (decimal h.grant ++ (codes " job " ++ (decimal h.job ++ (codes " number " ++ (h.dial
    ++ (codes " pages " ++ (decimal (next_page h) ++ (codes "-" ++ (decimal h.last_page
    ++ (codes " call " ++ (result_word h.call ++ codes "\n")))))))))))

-- the request that isn't answered, if there is one
abbrev pub unanswered_line : Option Pending → List ℕ
unanswered_line None = []
unanswered_line (Some p) = codes "unanswered " ++ (path_of p.ask ++ codes "\n")

abbrev pub text_of : Shown → List ℕ
text_of (shows.Goes true) = codes "stop\n"
text_of (shows.Goes false) = codes "go\n"
text_of (shows.Ended job state) = codes "job " ++ (decimal job ++ (codes " state " ++ (decimal state ++ codes "\n")))
text_of (shows.Grant w) = held_line w.held
text_of (shows.Journal w) = held_line w.held ++ unanswered_line w.unanswered
