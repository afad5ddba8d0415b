-- The limits of the queue. The code has constants of the same names; a contract cites these, so a constant that differs is refused.
use Rattle.std.specs.Prelude.{ℕ}

-- the greatest number of a job
abbrev pub last_job : ℕ
last_job = 999999

-- the greatest number of a grant
abbrev pub last_grant : ℕ
last_grant = 999999999

-- the most pages of a job
abbrev pub most_pages : ℕ
most_pages = 9999

-- the most tries of a job, the most dials, and the most calls at a time to one number
abbrev pub most_attempts : ℕ
most_attempts = 1000

-- how many tries in a row of one page a job has
abbrev pub tries_of_page : ℕ
tries_of_page = 3

-- the longest delay before a job may be tried again: a day, in seconds
abbrev pub longest_delay : ℕ
longest_delay = 86400

-- the last moment: 2100-01-01T00:00:00Z, in seconds since 1970
abbrev pub last_moment : ℕ
last_moment = 4102444800

-- the latest moment from which a job may be tried again: the longest delay after the last moment
abbrev pub last_next : ℕ
last_next = 4102531200
