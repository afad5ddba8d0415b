use Rattle.std.proofs.Common.{append_assoc, refl, arith}
use Rattle.std.specs.Prelude.{codes}
use Rattle.fax_job.proofs.PairLemmas.{pair_of_number}
use Rattle.fax_job.proofs.job.push_counters.Goals as goal

pub returns-clause-pushed : goal.returns-clause-pushed
returns-clause-pushed c = rw (c.in_ok-push_number-8.ensures.pushed, c.in_ok-push_number-7.ensures.pushed, c.in_ok-push_number-6.ensures.pushed, c.in_ok-push_number-5.ensures.pushed, c.in_ok-push_number-4.ensures.pushed, c.in_ok-push_number-3.ensures.pushed, c.in_ok-push_number-2.ensures.pushed, c.in_ok-push_number.ensures.pushed, c.from.ensures, c.from-2.ensures, c.from-3.ensures, c.from-4.ensures, c.from-5.ensures, c.from-6.ensures, c.from-7.ensures, c.from-8.ensures) (simp append_assoc)

pub returns-clause-formed : goal.returns-clause-formed
returns-clause-formed c = (
  pair_of_number (codes "npages") c.args.fields.now.npages refl refl refl (omega (arith, c.push_number.ensures.bound, c.from.ensures)),
  (
    pair_of_number (codes "totpages") c.args.fields.now.totpages refl refl refl (omega (arith, c.push_number-2.ensures.bound, c.from-2.ensures)),
    (
      pair_of_number (codes "ntries") c.args.fields.now.ntries refl refl refl (omega (arith, c.push_number-3.ensures.bound, c.from-3.ensures)),
      (
        pair_of_number (codes "tottries") c.args.fields.now.tottries refl refl refl (omega (arith, c.push_number-4.ensures.bound, c.from-4.ensures)),
        (
          pair_of_number (codes "maxtries") c.args.fields.now.maxtries refl refl refl (omega (arith, c.push_number-5.ensures.bound, c.from-5.ensures)),
          (
            pair_of_number (codes "ndials") c.args.fields.now.ndials refl refl refl (omega (arith, c.push_number-6.ensures.bound, c.from-6.ensures)),
            (
              pair_of_number (codes "totdials") c.args.fields.now.totdials refl refl refl (omega (arith, c.push_number-7.ensures.bound, c.from-7.ensures)),
              (
                pair_of_number (codes "maxdials") c.args.fields.now.maxdials refl refl refl (omega (arith, c.push_number-8.ensures.bound, c.from-8.ensures)),
                tt,
              ),
            ),
          ),
        ),
      ),
    ),
  ),
)
