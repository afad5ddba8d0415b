use Rattle.std.proofs.Common.{inl, inr, ap, rules, ◌∙◌}
use Rattle.fax_core.specs.Clock.{decided_at}
use Rattle.fax_decide.proofs.FaultLemmas.{passed_on, store_gave_out}
use Rattle.fax_store.proofs.FrameLemmas.{looks_as, looks_stop, looks_then, means_on}
use Rattle.fax_once.proofs.KnownLemmas.{means_as}
use Rattle.fax_once.proofs.acceptance.decide_now.Goals as goal

pub returns-in_err-meta : goal.returns-in_err-meta
returns-in_err-meta g c =
    let given = c.from_residual in
    record {
      leaves = looks_stop g.S.Store given.result _ given.ensures.1 c.meta_by.ensures.leaves;
      opens = search rules;
      decided = λ tables m k sound means known serves read. store_gave_out given.result c.in_err-meta.field-0.0 _ given.ensures.1 (c.in_err-meta.ensures.answers tables m k means known.0 serves);
    }

pub returns-in_err-decision : goal.returns-in_err-decision
returns-in_err-decision g c =
    let given = c.from_residual-in_err-decision in
    let first = c.in_ok-meta.ensures.leaves in
    let decide = c.decide.ensures.decides in
    record {
      leaves = looks_stop g.S.Store given.result _ given.ensures.1 (looks_then g.S.Store first decide.leaves);
      opens = search rules;
      decided = λ tables m k sound means known serves read.
          let meta = c.in_ok-meta.ensures.answers tables m k means known.0 (decide.leaves.served serves) in
          passed_on given.result c.in_err-decision.field-0.0 _ given.ensures.1 (elim known.1 [
            | inl same ↦ c.in_err-decision.ensures.decides.cause m k sound (means_on g.S.Store first m k (means_as _ tables m k same means)) serves meta read
            | inr submits ↦ (c.in_err-decision.ensures.submits submits m sound meta).1 read
          ]);
    }

pub returns : goal.returns
returns g c =
    let first = c.in_ok-meta.ensures.leaves in
    let decide = c.in_ok-decision.ensures.decides in
    record {
      leaves = looks_as g.S.Store (looks_then g.S.Store first decide.leaves);
      opens = λ clean serves. decide.opens clean (c.in_ok-meta.ensures.opens (decide.leaves.clean clean) serves);
      decided = λ tables m k sound means known serves read.
          let meta = c.in_ok-meta.ensures.answers tables m k means known.0 (decide.leaves.served serves) in record {
            now = c.later-t.ensures ∙ ap (λ meta. decided_at meta.clock c.args.moment) meta;
            meta = meta;
            decides = elim known.1 [
              | inl same ↦ decide.decided m k sound (means_on g.S.Store first m k (means_as _ tables m k same means)) serves meta
              | inr submits ↦ (c.in_ok-decision.ensures.submits submits m sound meta).0
            ];
          };
    }
