-- Worked rows: the heading, lines of jobs, and columns at their edges.
use Rattle.std.specs.Prelude.{◌≡◌, ℕ, List, [], ◌∷◌, codes, length, refl, pos, None}
use Rattle.std.specs.Fmt.{digits}
use Rattle.std.specs.Str.{chars}
use Rattle.fax_hours.specs.declared.zone.Civil.{Civil}
use Rattle.fax_job.specs.declared.job.JobFields.{JobFields}
use Rattle.fax_job.specs.declared.job.Phase.TheVariants.{Waiting, Failed}
use Rattle.fax_job.specs.declared.job.Wish.TheVariants.{Go}
use Rattle.fax_text.specs.Column.{left, right, zeros}
use Rattle.fax_text.specs.Listing.{heading, letter_of, line_of, time_text}

-- the heading of a listing
heading_is : heading ≡ codes "   JID Pri S Number               Tag              Pages     Dials TTS              Status\n"
heading_is = refl

-- has 91 characters
heading_length : length heading ≡ 91
heading_length = refl

abbrev waiting : JobFields
waiting = record {
  job = 1;
  dial = codes "+14155550100";
  modem = codes "any";
  jobtag = codes "Quarterly report";
  tts = 1000;
  killtime = None;
  priority = 127;
  npages = 0;
  totpages = 3;
  ntries = 0;
  tottries = 0;
  maxtries = 3;
  ndials = 0;
  totdials = 0;
  maxdials = 12;
  phase = Waiting;
  wish = Go;
  next = 0;
  status = [];
  extra = [];
}

abbrev sixteen_past : Civil
sixteen_past = record { year = pos 1970; month = 1; day = 1; hour = 0; minute = 16 }

-- a clock that shows the first of January 1970 at 00:16
abbrev at_sixteen_past : ℕ → List ℕ
at_sixteen_past moment = time_text sixteen_past

-- no status: the line ends behind the time
waiting_line : line_of at_sixteen_past (waiting, 5) ≡ codes "     1 127 W +14155550100         Quarterly re       0:3      0:12 1970-01-01 00:16\n"
unfolding digits chars
waiting_line = refl

-- a job that failed has its status behind the time
failed_line : line_of at_sixteen_past (record waiting { phase = Failed; status = codes "Killed" }, 8)
    ≡ codes "     1 127 F +14155550100         Quarterly re       0:3      0:12 1970-01-01 00:16 Killed\n"
unfolding digits chars
failed_line = refl

-- ---- edges

-- a text is filled up on the right
one_below : left 3 (codes "ab") ≡ codes "ab "
one_below = refl

-- one of the width stays
just_so_wide : left 3 (codes "abc") ≡ codes "abc"
just_so_wide = refl

-- and a longer one is cut
one_above : left 3 (codes "abcd") ≡ codes "abc"
one_above = refl

-- a character of two bytes is one, and shows as `?`, as a tab does
not_printed : left 4 (chars (97 ∷ 195 ∷ 169 ∷ 9 ∷ [])) ≡ codes "a?? "
unfolding chars
not_printed = refl

-- a text is filled up on the left
at_the_right : right 3 (codes "ab") ≡ codes " ab"
at_the_right = refl

-- a number is filled up with zeros
two_digits : zeros 2 5 ≡ codes "05"
unfolding digits
two_digits = refl

-- 0 is no state, and shows as `?`
no_state : letter_of 0 ≡ 63
no_state = refl

-- nor is 9
past_the_states : letter_of 9 ≡ 63
past_the_states = refl
