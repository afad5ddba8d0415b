use Rattle.std.proofs.Common.{inl, inr, [], refl, sym, ◌∙◌}
use Rattle.fax_client.specs.Course.{Start}
use Rattle.fax_client.specs.Working.{workers}
use Rattle.fax_client.proofs.CourseLemmas.{none_more, stopped}
use Rattle.fax_client.proofs.SavedLemmas.{kept_here}
use Rattle.fax_client.proofs.WorkingLemmas.{asks_something, ends_first, says, says_journal, show_own, shows_answer}
use Rattle.fax_client.proofs.working.work.Goals as goal

pub returns-in_err-worker : goal.returns-in_err-worker
returns-in_err-worker g c entry kept rests = inr (record { stops = c.from_residual.ensures.0; line_is = refl; untouched = c.in_err-worker.ensures entry kept rests })

pub returns-then-is_show : goal.returns-then-is_show
returns-then-is_show g c entry kept rests =
    let l = c.in_ok-worker.ensures entry kept rests in
    inl (record {
      loaded = c.load.new.journal;
      client = c.in_ok-worker.worker;
      loads = l;
      own = inl (show_own c.args.step _ (sym c.is_show.ensures ∙ c.if-is_show.true));
      ends = inl ([], c.in_ok-worker.worker, (none_more [], record { leads = (refl, refl); saved = kept_here _ _ l.kept_is }), says_journal _ c.args.step c.in_ok-worker.worker (sym c.is_show.ensures ∙ c.if-is_show.true));
    })

pub returns-then-not-is_of : goal.returns-then-not-is_of
returns-then-not-is_of g c entry kept rests =
    let l = c.in_ok-worker.ensures entry kept rests in
    inl (record {
      loaded = c.load.new.journal;
      client = c.in_ok-worker.worker;
      loads = l;
      own = inr refl;
      ends = inr (refl, stopped g.S.Store g.L.Line.carries g.L.Line.pauses (workers kept) (record { line = c.args.line.now; journal = c.load.new.journal; client = c.in_ok-worker.worker }) [] _ c.in_ok-worker.worker _ (record { leads = (refl, refl); saved = kept_here _ _ l.kept_is }));
    })

pub returns-in_err-worker-2 : goal.returns-in_err-worker-2
returns-in_err-worker-2 g c entry kept rests =
    let l = c.in_ok-worker.ensures entry kept rests in
    inl (record {
      loaded = c.load.new.journal;
      client = c.in_ok-worker.worker;
      loads = l;
      own = inl (c.is_of.ensures c.if-not-is_of.false);
      ends = inr (c.from_residual-in_err-worker-2.ensures.0, c.in_err-worker-2.ensures kept (record { line = c.args.line.now; journal = c.load.new.journal; client = c.in_ok-worker.worker }) [] (record { leads = (refl, refl); saved = kept_here _ _ l.kept_is }));
    })

pub returns-then-is_begun : goal.returns-then-is_begun
returns-then-is_begun g c entry kept rests =
    let l = c.in_ok-worker.ensures entry kept rests in
    let settled = c.in_ok-worker-2.ensures kept (record { line = c.args.line.now; journal = c.load.new.journal; client = c.in_ok-worker.worker }) [] (record { leads = (refl, refl); saved = kept_here _ _ l.kept_is }) in
    let asked = c.is_begun-is_begun.ensures c.if-is_begun.true in
    inl (record {
      loaded = c.load.new.journal;
      client = c.in_ok-worker.worker;
      loads = l;
      own = inl (c.is_of.ensures c.if-not-is_of.false);
      ends = inl (settled.0, c.in_ok-worker-2.worker, settled.1, says c.args.step settled.0 _ c.shown.result (asks_something c.args.step _ asked.2) (inl (shows_answer c.args.step settled.0 _ c.shown.result c.in_ok-worker.worker.unanswered asked.0 c.in_ok-worker-2.conclusion c.is_next.result asked.1 asked.2 settled.2 settled.3 c.is_next.ensures c.shown.ensures)));
    })

pub returns : goal.returns
returns g c entry kept rests =
    let l = c.in_ok-worker.ensures entry kept rests in
    let first : Start _ _ _ = record { line = c.args.line.now; journal = c.load.new.journal; client = c.in_ok-worker.worker } in
    let settled = c.in_ok-worker-2.ensures kept first [] (record { leads = (refl, refl); saved = kept_here _ _ l.kept_is }) in
    inl (record {
      loaded = c.load.new.journal;
      client = c.in_ok-worker.worker;
      loads = l;
      own = inl (c.is_of.ensures c.if-not-is_of.false);
      ends = ends_first g.S.Store g.L.Line.carries g.L.Line.pauses kept first c.args.step settled.0 _ _ c.do_step.result (c.do_step.ensures kept first settled.0 settled.1.1);
    })
