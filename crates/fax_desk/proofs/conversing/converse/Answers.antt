use Rattle.std.proofs.Common.{true≢false, sym, ◌∙◌}
use Rattle.fax_desk.proofs.ServedLemmas.{one_by_one, serves_from}
use Rattle.fax_desk.proofs.conversing.converse.Goals as goal

pub returns-clause-office : goal.returns-clause-office
returns-clause-office g c = (one_by_one g.C.Clock.gives g.S.Store _ _ _ c.serve.ensures.answered).office

pub returns-clause-shut : goal.returns-clause-shut
returns-clause-shut g c = (one_by_one g.C.Clock.gives g.S.Store _ _ _ c.serve.ensures.answered).shut (λ shut. absurd (true≢false (sym shut ∙ c.requires.going)))

pub returns-clause-served : goal.returns-clause-served
returns-clause-served g c = record {
  taken = c.serve.ensures.taken;
  turns = c.serve.ensures.turns;
  rest = c.serve.ensures.rest;
  took = c.serve.ensures.took;
  reads = c.serve.ensures.reads;
  handed = c.serve.ensures.handed;
  within = c.serve.ensures.within;
  ends = c.serve.ensures.ends;
  answered = serves_from g.C.Clock.gives g.S.Store _ c.serve.ensures.turns _ (one_by_one g.C.Clock.gives g.S.Store _ _ _ c.serve.ensures.answered);
}
