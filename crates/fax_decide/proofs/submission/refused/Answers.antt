use Rattle.std.proofs.Common.{◌≡◌, true, IfOk, sym, subst}
use Rattle.fax_ask.specs.Response.{refused_response}
use Rattle.fax_core.specs.Machine.{keys_of_rule}
use Rattle.fax_core.specs.Submission.{rule_of}
use Rattle.fax_decide.specs.declared.decision.Decision.TheVariants.{Refused}
use Rattle.fax_decide.proofs.FaultLemmas.{if_answered, only_no_answer}
use Rattle.fax_decide.proofs.submission.refused.Goals as goal

pub returns-in-Rejected-clause-reply : goal.returns-in-Rejected-clause-reply
returns-in-Rejected-clause-reply c hours =
    subst (λ e. IfOk c.rejected.result (λ d. d ≡ Refused (refused_response e (keys_of_rule e (rule_of c.args.rule.now hours))))) (sym c.in-Rejected.is)
    (if_answered c.rejected.result _ (c.rejected.ensures hours))

pub returns-in-Rejected-clause-cause : goal.returns-in-Rejected-clause-cause
returns-in-Rejected-clause-cause c known = only_no_answer c.rejected.result _ (c.rejected.ensures (λ _. true))
