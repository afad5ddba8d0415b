-- Worked rows: which method and path name which request, and which number is a moment.
use Rattle.std.specs.Prelude.{◌≡◌, refl, codes, Some, None}
use Rattle.fax_ask.specs.declared.method.Method.TheVariants.{Get, Post, Another}
use Rattle.fax_ask.specs.declared.request.Action.TheVariants.{Kill, Alter}
use Rattle.fax_ask.specs.declared.request.ReportKind.TheVariants.{Call}
use Rattle.fax_ask.specs.declared.request.Request.TheVariants.{Submit, Import, OnJob, Show, Next, OnGrant, Floor, Purge}
use Rattle.fax_ask.specs.declared.view.View.TheVariants as view
use Rattle.fax_ask.specs.Report.{moment_of}
use Rattle.fax_ask.specs.Request.{request_of}

submit : request_of Post (codes "/jobs") ≡ Some Submit
unfolding request_of
submit = refl

floor : request_of Post (codes "/numbers/floor") ≡ Some Floor
unfolding request_of
floor = refl

no_floor_of_a_client : request_of Post (codes "/numbers/floor/desk") ≡ None
unfolding request_of
no_floor_of_a_client = refl

import : request_of Post (codes "/imports") ≡ Some Import
unfolding request_of
import = refl

purge : request_of Post (codes "/jobs/purge") ≡ Some Purge
unfolding request_of
purge = refl

no_view_of_a_purge : request_of Get (codes "/jobs/purge") ≡ None
unfolding request_of
no_view_of_a_purge = refl

no_purge_of_a_job : request_of Post (codes "/jobs/1/purge") ≡ None
unfolding request_of
no_purge_of_a_job = refl

nothing_of_a_job : request_of Post (codes "/jobs/1") ≡ None
unfolding request_of
nothing_of_a_job = refl

kill : request_of Post (codes "/jobs/9/kill") ≡ Some (OnJob 9 Kill)
unfolding request_of
kill = refl

alter : request_of Post (codes "/jobs/1/alter") ≡ Some (OnJob 1 Alter)
unfolding request_of
alter = refl

show : request_of Get (codes "/jobs/1") ≡ Some (Show (view.Job 1))
unfolding request_of
show = refl

list : request_of Get (codes "/jobs") ≡ Some (Show view.Jobs)
unfolding request_of
list = refl

newest : request_of Get (codes "/jobs/newest") ≡ Some (Show view.Newest)
unfolding request_of
newest = refl

newest_posted : request_of Post (codes "/jobs/newest") ≡ None
unfolding request_of
newest_posted = refl

newest_killed : request_of Post (codes "/jobs/newest/kill") ≡ None
unfolding request_of
newest_killed = refl

times : request_of Get (codes "/jobs/9/times") ≡ Some (Show (view.Times 9))
unfolding request_of
times = refl

times_posted : request_of Post (codes "/jobs/9/times") ≡ None
unfolding request_of
times_posted = refl

times_of_the_newest : request_of Get (codes "/jobs/newest/times") ≡ None
unfolding request_of
times_of_the_newest = refl

below_the_times : request_of Get (codes "/jobs/9/times/") ≡ None
unfolding request_of
below_the_times = refl

another_word_of_a_job : request_of Get (codes "/jobs/9/kill") ≡ None
unfolding request_of
another_word_of_a_job = refl

modems : request_of Get (codes "/modems") ≡ Some (Show view.Modems)
unfolding request_of
modems = refl

modems_posted : request_of Post (codes "/modems") ≡ None
unfolding request_of
modems_posted = refl

one_modem : request_of Get (codes "/modems/ttyS0") ≡ None
unfolding request_of
one_modem = refl

next : request_of Post (codes "/modems/ttyS0/next") ≡ Some (Next (codes "ttyS0"))
unfolding request_of
next = refl

call : request_of Post (codes "/grants/9/call") ≡ Some (OnGrant 9 Call)
unfolding request_of
call = refl

-- ---- what names nothing

another_path : request_of Get (codes "/job") ≡ None
unfolding request_of
another_path = refl

no_list_of_imports : request_of Get (codes "/imports") ≡ None
unfolding request_of
no_list_of_imports = refl

no_import_of_a_number : request_of Post (codes "/imports/1") ≡ None
unfolding request_of
no_import_of_a_number = refl

another_method : request_of Another (codes "/jobs") ≡ None
unfolding request_of
another_method = refl

zero_in_front : request_of Post (codes "/jobs/01/kill") ≡ None
unfolding request_of
zero_in_front = refl

slash_behind : request_of Post (codes "/jobs/1/kill/") ≡ None
unfolding request_of
slash_behind = refl

with_a_query : request_of Post (codes "/jobs?x=1") ≡ None
unfolding request_of
with_a_query = refl

-- ---- the moment of a purge

first_moment : moment_of 0 ≡ Some 0
first_moment = refl

last_moment : moment_of 4102444800 ≡ Some 4102444800
last_moment = refl

past_the_last : moment_of 4102444801 ≡ None
past_the_last = refl
