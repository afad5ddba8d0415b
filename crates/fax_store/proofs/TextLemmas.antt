-- The texts of the statements. What each is known as proves what the calls that run it require.
use Rattle.fax_schema.proofs.ClientTexts.{delete_floor, delete_replies, insert_floor, select_floor, select_hundredth}
use Rattle.fax_schema.proofs.GrantTexts.{delete_calls, delete_hold, insert_calls, insert_grant, insert_hold, shut_grant, update_report}
use Rattle.fax_schema.proofs.GrantTexts.{select_grant, select_hold, select_open}
use Rattle.fax_schema.proofs.ModemTexts.{delete_down, insert_down, select_down}
use Rattle.fax_schema.proofs.PurgeTexts.{delete_grants, delete_job, delete_times, select_ended_at_0, select_leaving, select_leaving_over, select_many_not_over, select_many_over}
use Rattle.fax_schema.proofs.StatementTexts.{expire_jobs, insert_job, insert_reply, update_job, update_meta}
use Rattle.fax_schema.proofs.StatementTexts.{select_behind_number, select_behind_priority, select_behind_time, select_first}
use Rattle.fax_schema.proofs.StatementTexts.{select_brief, select_briefs, select_briefs_from, select_dial, select_expired, select_held, select_holders, select_job, select_lost}
use Rattle.fax_schema.proofs.StatementTexts.{select_meta, select_reply, select_version}
use Rattle.fax_schema.proofs.TimesTexts.{delete_grant, end_times, insert_times, select_phases, select_strays, select_times}
use Rattle.fax_store.proofs.StatementLemmas.{edit_text}

pub ruleset pages = (select_behind_number, select_behind_priority, select_behind_time, select_first)

pub ruleset jobs = (expire_jobs, insert_job, select_brief, select_briefs, select_briefs_from, select_dial, select_expired, select_job, update_job)

pub ruleset grants = (delete_calls, delete_hold, insert_calls, insert_grant, insert_hold, select_grant, select_hold, select_holders, select_open, shut_grant, update_report)

pub ruleset adopted = (select_held, select_lost, select_version)

pub ruleset others = (delete_down, insert_down, select_down, select_meta, update_meta)

pub ruleset clients = (delete_floor, delete_replies, insert_floor, insert_reply, select_floor, select_hundredth, select_reply)

pub ruleset timed = (delete_grant, end_times, insert_times, select_phases, select_strays, select_times)

pub ruleset purged = (delete_grants, delete_job, delete_times, select_ended_at_0, select_leaving, select_leaving_over, select_many_not_over, select_many_over)

pub ruleset texts = (edit_text, purged, timed, pages, jobs, grants, adopted, others, clients)
