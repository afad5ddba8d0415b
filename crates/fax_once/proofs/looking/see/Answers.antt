use Rattle.std.proofs.Common.{◌≡◌, ap, rules, subst, ◌∙◌}
use Rattle.fax_core.specs.Clock.{decided_at}
use Rattle.fax_decide.specs.Fault.{OrNoAnswer}
use Rattle.fax_decide.specs.Settings.{settings_of}
use Rattle.fax_run.specs.View.{view}
use Rattle.fax_store.proofs.FrameLemmas.{looks_of, looks_stop, looks_then, means_on}
use Rattle.fax_decide.proofs.FaultLemmas.{store_gave_out}
use Rattle.fax_once.proofs.looking.see.Goals as goal

pub returns : goal.returns
returns g c =
    let first = looks_of g.S.Store c.in_ok-meta.ensures.leaves in
    record {
      leaves = looks_then g.S.Store first c.show.ensures.leaves;
      opens = search rules;
      seen = λ m k sound means serves.
          let same = c.in_ok-meta.ensures.answers m k means (c.show.ensures.leaves.served serves) in
          subst (λ t. OrNoAnswer c.show.result (λ reply. reply ≡ view (settings_of c.args.office.now.setup c.args.office.now.controls) m t c.args.view))
          (c.later-t.ensures ∙ ap (λ meta. decided_at meta.clock c.args.moment) same) (c.show.ensures.viewed m k sound (means_on g.S.Store first m k means) serves);
    }

pub returns-in_err-meta : goal.returns-in_err-meta
returns-in_err-meta g c = record {
  leaves = looks_stop g.S.Store c.from_residual.result _ c.from_residual.ensures.1 (looks_of g.S.Store c.meta.ensures.leaves);
  opens = search rules;
  seen = λ m k sound means serves. store_gave_out c.from_residual.result c.in_err-meta.field-0.0 _ c.from_residual.ensures.1 (c.in_err-meta.ensures.answers m k means serves);
}
