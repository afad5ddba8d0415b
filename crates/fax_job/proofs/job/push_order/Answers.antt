use Rattle.std.proofs.Common.{append_assoc, refl, arith}
use Rattle.std.specs.Prelude.{codes, unwrap_or}
use Rattle.std.specs.Str.{IsUtf8}
use Rattle.fax_value.proofs.ValueLemmas.{value_of_canonical, value_of_name, value_of_job_tag}
use Rattle.fax_job.proofs.PairLemmas.{pair_of_number, pair_of_value}
use Rattle.fax_job.proofs.job.push_order.Goals as goal

pub returns-clause-pushed : goal.returns-clause-pushed
returns-clause-pushed c = rw (c.in_ok-push_number-4.ensures.pushed, c.in_ok-push_number-3.ensures.pushed, c.in_ok-push_number-2.ensures.pushed, c.in_ok-push-3.ensures.ok, c.in_ok-push-2.ensures.ok, c.in_ok-push.ensures.ok, c.in_ok-push_number.ensures.pushed, c.text.ensures.text, c.as_str.ensures.text, c.as_str-2.ensures.text, c.seconds.ensures.seconds, c.seconds-2.ensures, c.from.ensures) (simp append_assoc)

pub returns-clause-formed : goal.returns-clause-formed
returns-clause-formed c =
    let job = c.args.fields.now in
    let dial_utf8 : IsUtf8 job.dial = rw c.text.ensures.text at c.push.ensures.utf8 in
    let modem_utf8 : IsUtf8 job.modem = rw c.as_str.ensures.text at c.push-2.ensures.utf8 in
    let jobtag_utf8 : IsUtf8 job.jobtag = rw c.as_str-2.ensures.text at c.push-3.ensures.utf8 in (
      pair_of_number (codes "jobid") job.job refl refl refl (omega (arith, c.push_number.ensures.bound)),
      (
        pair_of_value (codes "number") job.dial refl refl refl (value_of_canonical job.dial c.text.ensures.canonical) dial_utf8,
        (
          pair_of_value (codes "modem") job.modem refl refl refl (value_of_name job.modem c.as_str.ensures.formed) modem_utf8,
          (
            pair_of_value (codes "jobtag") job.jobtag refl refl refl (value_of_job_tag job.jobtag c.as_str-2.ensures.formed) jobtag_utf8,
            (
              pair_of_number (codes "tts") job.tts refl refl refl (omega (arith, c.push_number-2.ensures.bound, c.seconds.ensures.seconds)),
              (
                pair_of_number (codes "killtime") (unwrap_or job.killtime 0) refl refl refl (omega (arith, c.push_number-3.ensures.bound, c.seconds-2.ensures)),
                (
                  pair_of_number (codes "priority") job.priority refl refl refl (omega (arith, c.push_number-4.ensures.bound, c.from.ensures)),
                  tt,
                ),
              ),
            ),
          ),
        ),
      ),
    )
