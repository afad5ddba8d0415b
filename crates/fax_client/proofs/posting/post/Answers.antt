use Rattle.std.proofs.Common.{◌≡◌, Some, inl, inr, [], ap, refl, rules}
use Rattle.fax_journal.specs.Entry.{Entry}
use Rattle.fax_client.specs.Course.{Start}
use Rattle.fax_client.specs.Posting.{Client, clients}
use Rattle.fax_client.proofs.CourseLemmas.{further, looks, stays}
use Rattle.fax_client.proofs.PostingLemmas.{began, not_begun, returns_answer, the_one}
use Rattle.fax_client.proofs.SavedLemmas.{kept_here}
use Rattle.fax_client.proofs.posting.post.Goals as goal

pub returns-in_err-entry : goal.returns-in_err-entry
returns-in_err-entry g c entry kept rests = inr (record { stops = c.from_residual.ensures.0; line_is = refl; untouched = c.in_err-entry.ensures.loads entry kept rests })

pub returns-in_err-entry-2 : goal.returns-in_err-entry-2
returns-in_err-entry-2 g c entry kept rests =
    let l = c.in_ok-entry.ensures.loads entry kept rests in
    let first : Start _ _ Client = record { line = c.args.line.now; journal = c.load.new.journal; client = record { entry = c.in_ok-entry.entry; answers = kept } } in
    inl (record {
      loaded = c.load.new.journal;
      first = c.in_ok-entry.entry;
      own = c.in_ok-entry.ensures.own;
      loads = l;
      ends = inr (c.from_residual-in_err-entry-2.ensures.0, c.in_err-entry-2.ensures kept first [] (record { leads = (refl, refl); saved = kept_here _ _ l.kept_is }));
    })

pub returns-in_err-give_up_if : goal.returns-in_err-give_up_if
returns-in_err-give_up_if g c entry kept rests =
    let l = c.in_ok-entry.ensures.loads entry kept rests in
    let first : Start _ _ Client = record { line = c.args.line.now; journal = c.load.new.journal; client = record { entry = c.in_ok-entry.entry; answers = kept } } in
    let finished = c.in_ok-entry-2.ensures kept first [] (record { leads = (refl, refl); saved = kept_here _ _ l.kept_is }) in
    inl (record {
      loaded = c.load.new.journal;
      first = c.in_ok-entry.entry;
      own = c.in_ok-entry.ensures.own;
      loads = l;
      ends = inr (c.from_residual-in_err-give_up_if.ensures.0, c.in_err-give_up_if.ensures finished.1 first finished.0 finished.2.1);
    })

pub returns-then-is_begun : goal.returns-then-is_begun
returns-then-is_begun g c entry kept rests =
    let l = c.in_ok-entry.ensures.loads entry kept rests in
    let first : Start _ _ Client = record { line = c.args.line.now; journal = c.load.new.journal; client = record { entry = c.in_ok-entry.entry; answers = kept } } in
    let finished = c.in_ok-entry-2.ensures kept first [] (record { leads = (refl, refl); saved = kept_here _ _ l.kept_is }) in
    let asked = c.is_this-is_begun.ensures c.if-is_begun.true in
    let un : c.in_ok-entry.entry.unanswered ≡ Some asked.0 = search (rules, asked.1) in
    let gave = c.in_ok-give_up_if.ensures finished.1 first finished.0 finished.2.1 in
    inl (record {
      loaded = c.load.new.journal;
      first = c.in_ok-entry.entry;
      own = c.in_ok-entry.ensures.own;
      loads = l;
      ends = inl (gave.0, gave.1, further g.S.Store g.L.Line.carries g.L.Line.pauses clients first [] finished.0 gave.0 _ _ _ _ _ _ finished.2 gave.2, inl (returns_answer _ _ _ c.in_ok-entry.entry.unanswered asked.0 finished.0 gave.0 c.in_ok-entry-2.left c.returned.result un asked.2 finished.3 gave.2.0 c.returned.ensures));
    })

pub returns-in_err-answer : goal.returns-in_err-answer
returns-in_err-answer g c entry kept rests =
    let l = c.in_ok-entry.ensures.loads entry kept rests in
    let first : Start _ _ Client = record { line = c.args.line.now; journal = c.load.new.journal; client = record { entry = c.in_ok-entry.entry; answers = kept } } in
    let finished = c.in_ok-entry-2.ensures kept first [] (record { leads = (refl, refl); saved = kept_here _ _ l.kept_is }) in
    inl (record {
      loaded = c.load.new.journal;
      first = c.in_ok-entry.entry;
      own = c.in_ok-entry.ensures.own;
      loads = l;
      ends = inr (c.from_residual-in_err-answer.ensures.0, stays g.S.Store g.L.Line.carries g.L.Line.pauses clients first finished.0 _ (record { entry = c.in_ok-entry-2.entry; answers = finished.1 }) _ _ finished.2.1 (c.in_err-answer.ensures finished.1 c.in_ok-entry-2.entry first.journal finished.2.1.saved));
    })

pub returns-in-Some : goal.returns-in-Some
returns-in-Some g c entry kept rests =
    let l = c.in_ok-entry.ensures.loads entry kept rests in
    let first : Start _ _ Client = record { line = c.args.line.now; journal = c.load.new.journal; client = record { entry = c.in_ok-entry.entry; answers = kept } } in
    let finished = c.in_ok-entry-2.ensures kept first [] (record { leads = (refl, refl); saved = kept_here _ _ l.kept_is }) in
    let look = c.in_ok-answer.ensures finished.1 c.in_ok-entry-2.entry first.journal finished.2.1.saved in
    let here = looks g.S.Store g.L.Line.carries g.L.Line.pauses clients first [] finished.0 _ (record { entry = c.in_ok-entry-2.entry; answers = finished.1 }) _ c.kept_answer.new.journal finished.2 look.0 in
    let kept_is = the_one _ _ _ c.in-Some.is look.1 in
    inl (record {
      loaded = c.load.new.journal;
      first = c.in_ok-entry.entry;
      own = c.in_ok-entry.ensures.own;
      loads = l;
      ends = inl (finished.0, _, here, inr (record { word = kept_is.0; key_is = kept_is.1; answer = c.in-Some.answer; result_is = refl; kept = kept_is.2 }));
    })

pub returns-in_err-entry-3 : goal.returns-in_err-entry-3
returns-in_err-entry-3 g c entry kept rests =
    let l = c.in_ok-entry.ensures.loads entry kept rests in
    let first : Start _ _ Client = record { line = c.args.line.now; journal = c.load.new.journal; client = record { entry = c.in_ok-entry.entry; answers = kept } } in
    let finished = c.in_ok-entry-2.ensures kept first [] (record { leads = (refl, refl); saved = kept_here _ _ l.kept_is }) in
    let look = c.in_ok-answer.ensures finished.1 c.in_ok-entry-2.entry first.journal finished.2.1.saved in
    let here = looks g.S.Store g.L.Line.carries g.L.Line.pauses clients first [] finished.0 _ (record { entry = c.in_ok-entry-2.entry; answers = finished.1 }) _ c.kept_answer.new.journal finished.2 look.0 in
    let b = c.in_err-entry-3.ensures finished.1 first.journal here.1.saved in
    inl (record {
      loaded = c.load.new.journal;
      first = c.in_ok-entry.entry;
      own = c.in_ok-entry.ensures.own;
      loads = l;
      ends = inr (c.from_residual-in_err-entry-3.ensures.0, not_begun g.S.Store g.L.Line.carries g.L.Line.pauses first finished.0 _ c.in_ok-entry-2.entry b.0 finished.1 _ _ here.1 b.1 b.2);
    })

pub returns-in_err-entry-4 : goal.returns-in_err-entry-4
returns-in_err-entry-4 g c entry kept rests =
    let l = c.in_ok-entry.ensures.loads entry kept rests in
    let first : Start _ _ Client = record { line = c.args.line.now; journal = c.load.new.journal; client = record { entry = c.in_ok-entry.entry; answers = kept } } in
    let finished = c.in_ok-entry-2.ensures kept first [] (record { leads = (refl, refl); saved = kept_here _ _ l.kept_is }) in
    let look = c.in_ok-answer.ensures finished.1 c.in_ok-entry-2.entry first.journal finished.2.1.saved in
    let here = looks g.S.Store g.L.Line.carries g.L.Line.pauses clients first [] finished.0 _ (record { entry = c.in_ok-entry-2.entry; answers = finished.1 }) _ c.kept_answer.new.journal finished.2 look.0 in
    let b = c.in_ok-entry-3.ensures finished.1 first.journal here.1.saved in
    let begun = began g.S.Store g.L.Line.carries g.L.Line.pauses first [] finished.0 _ c.in_ok-entry-2.entry _ finished.1 _ _ b.0 here b.1 b.3 in
    inl (record {
      loaded = c.load.new.journal;
      first = c.in_ok-entry.entry;
      own = c.in_ok-entry.ensures.own;
      loads = l;
      ends = inr (c.from_residual-in_err-entry-4.ensures.0, c.in_err-entry-4.ensures finished.1 first _ begun.1);
    })

pub returns-in_err-give_up_if-2 : goal.returns-in_err-give_up_if-2
returns-in_err-give_up_if-2 g c entry kept rests =
    let l = c.in_ok-entry.ensures.loads entry kept rests in
    let first : Start _ _ Client = record { line = c.args.line.now; journal = c.load.new.journal; client = record { entry = c.in_ok-entry.entry; answers = kept } } in
    let finished = c.in_ok-entry-2.ensures kept first [] (record { leads = (refl, refl); saved = kept_here _ _ l.kept_is }) in
    let look = c.in_ok-answer.ensures finished.1 c.in_ok-entry-2.entry first.journal finished.2.1.saved in
    let here = looks g.S.Store g.L.Line.carries g.L.Line.pauses clients first [] finished.0 _ (record { entry = c.in_ok-entry-2.entry; answers = finished.1 }) _ c.kept_answer.new.journal finished.2 look.0 in
    let b = c.in_ok-entry-3.ensures finished.1 first.journal here.1.saved in
    let begun = began g.S.Store g.L.Line.carries g.L.Line.pauses first [] finished.0 _ c.in_ok-entry-2.entry _ finished.1 _ _ b.0 here b.1 b.3 in
    let again = c.in_ok-entry-4.ensures finished.1 first _ begun.1 in
    let all = further g.S.Store g.L.Line.carries g.L.Line.pauses clients first [] _ again.0 _ _ _ _ _ _ begun again.2 in
    inl (record {
      loaded = c.load.new.journal;
      first = c.in_ok-entry.entry;
      own = c.in_ok-entry.ensures.own;
      loads = l;
      ends = inr (c.from_residual-in_err-give_up_if-2.ensures.0, c.in_err-give_up_if-2.ensures again.1 first again.0 all.1);
    })

pub returns : goal.returns
returns g c entry kept rests =
    let l = c.in_ok-entry.ensures.loads entry kept rests in
    let first : Start _ _ Client = record { line = c.args.line.now; journal = c.load.new.journal; client = record { entry = c.in_ok-entry.entry; answers = kept } } in
    let finished = c.in_ok-entry-2.ensures kept first [] (record { leads = (refl, refl); saved = kept_here _ _ l.kept_is }) in
    let look = c.in_ok-answer.ensures finished.1 c.in_ok-entry-2.entry first.journal finished.2.1.saved in
    let here = looks g.S.Store g.L.Line.carries g.L.Line.pauses clients first [] finished.0 _ (record { entry = c.in_ok-entry-2.entry; answers = finished.1 }) _ c.kept_answer.new.journal finished.2 look.0 in
    let b = c.in_ok-entry-3.ensures finished.1 first.journal here.1.saved in
    let begun = began g.S.Store g.L.Line.carries g.L.Line.pauses first [] finished.0 _ c.in_ok-entry-2.entry _ finished.1 _ _ b.0 here b.1 b.3 in
    let again = c.in_ok-entry-4.ensures finished.1 first _ begun.1 in
    let all = further g.S.Store g.L.Line.carries g.L.Line.pauses clients first [] _ again.0 _ _ _ _ _ _ begun again.2 in
    let gave = c.in_ok-give_up_if-2.ensures again.1 first again.0 all.1 in
    inl (record {
      loaded = c.load.new.journal;
      first = c.in_ok-entry.entry;
      own = c.in_ok-entry.ensures.own;
      loads = l;
      ends = inl (gave.0, gave.1, further g.S.Store g.L.Line.carries g.L.Line.pauses clients first [] again.0 gave.0 _ _ _ _ _ _ all gave.2, inl (returns_answer _ _ _ c.in_ok-entry-3.entry.unanswered b.0 again.0 gave.0 c.in_ok-entry-4.answered c.returned-2.result (ap (λ (x : Entry). x.unanswered) b.1.becomes) b.2 again.3 gave.2.0 c.returned-2.ensures));
    })
