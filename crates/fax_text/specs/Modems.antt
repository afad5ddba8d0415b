-- The modems, a line each.
use Rattle.std.specs.Prelude.{ℕ, List, [], ◌++◌, codes, Option, Some, None}
use Rattle.std.specs.Fmt.{decimal}
use Rattle.fax_job.specs.declared.job.Call.{Call}
use Rattle.fax_job.specs.declared.job.Call.TheVariants.{Connected, Busy, NoAnswer, NoCarrier, Other}
use Rattle.fax_text.specs.declared.modems.HeldGrant.{HeldGrant}
use Rattle.fax_text.specs.declared.modems.Standing.{Standing}
use Rattle.fax_text.specs.declared.modems.Standing.TheVariants.{Up, Down, Gone}

abbrev pub standing_word : Standing → List ℕ
standing_word Up = codes "up"
standing_word Down = codes "down"
standing_word Gone = codes "gone"

-- the results of calls, by the words of reports
abbrev pub call_word : Option Call → List ℕ
call_word None = codes "none"
call_word (Some Connected) = codes "connected"
call_word (Some Busy) = codes "busy"
call_word (Some NoAnswer) = codes "no-answer"
call_word (Some NoCarrier) = codes "no-carrier"
call_word (Some Other) = codes "other"

-- a word with its value
abbrev pub worded : List ℕ → List ℕ → List ℕ
worded word value = word ++ value

-- an open grant: its number, its job, the number to dial, its first and last page, its call, and how many pages are confirmed
abbrev pub grant_words : ℕ → ℕ → List ℕ → ℕ → ℕ → Option Call → ℕ → List ℕ
grant_words grant job dial first_page last_page call confirmed =
    worded (codes " grant ") (decimal grant) ++ worded (codes " job ") (decimal job) ++ worded (codes " number ") dial
    ++ worded (codes " pages ") (decimal first_page) ++ worded (codes "-") (decimal last_page)
    ++ worded (codes " call ") (call_word call) ++ worded (codes " confirmed ") (decimal confirmed)

-- the same of a record of code
abbrev pub held_words : HeldGrant → List ℕ
held_words h = grant_words h.grant h.job h.dial.now h.first_page h.last_page h.call h.confirmed

abbrev pub held_shown : Option HeldGrant → List ℕ
held_shown None = []
held_shown (Some h) = held_words h

-- a modem, with what it holds
abbrev pub modem_line : List ℕ → Standing → List ℕ → List ℕ
modem_line name standing held = name ++ codes ":" ++ standing_word standing ++ held ++ codes "\n"
