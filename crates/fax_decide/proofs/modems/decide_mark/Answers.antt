use Rattle.std.proofs.Common.{◌≡◌, ℕ, Bool, true, false, List, refl, ap, rules, ◌∙◌}
use Rattle.fax_core.specs.Ageing.{aged}
use Rattle.fax_core.specs.Machine.{with_mark}
use Rattle.fax_core.specs.Queue.{Queue}
use Rattle.fax_core.specs.Stamp.{stamp}
use Rattle.fax_core.proofs.StampLemmas.{stamp_same}
use Rattle.fax_core.specs.Reply.{Marked, Taken}
use Rattle.fax_dest.specs.Setup.{has_modem}
use Rattle.fax_store.specs.Job.{with_expired}
use Rattle.fax_store.specs.Meta.{with_clock}
use Rattle.fax_decide.specs.declared.effect.Effect.TheVariants as effect
use Rattle.fax_decide.proofs.DecisionLemmas.{taken_or}
use Rattle.fax_decide.proofs.modems.decide_mark.Goals as goal

-- marking a modem and ageing give the same in either order, and no job ends by the mark
with_mark_aged : (modem : List ℕ) (down : Bool) (t : ℕ) (m : Queue) → stamp t (aged t m) (with_mark modem down (aged t m)) ≡ with_clock t (with_mark modem down (with_expired t m))
with_mark_aged modem true t m = stamp_same t (aged t m) (with_mark modem true (aged t m)) refl
with_mark_aged modem false t m = stamp_same t (aged t m) (with_mark modem false (aged t m)) refl

pub returns : goal.returns
returns c m t =
    let there : has_modem c.args.office.now.setup c.args.modem ≡ true = search rules in
    taken_or (effect.Marked c.args.modem c.args.down) _ _ c.answered-reply.result _ c.take.ensures c.answered-reply.ensures (λ r told. record {
      suits = _;
      within = tt;
      left = tt;
      given = refl;
      told = Marked c.args.down;
      taken = (rw there) ∙ ap (λ (n : Queue). Taken n (Marked c.args.down)) (with_mark_aged c.args.modem c.args.down t m);
      replied = told;
    })
