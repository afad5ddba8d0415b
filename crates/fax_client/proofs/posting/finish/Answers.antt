use Rattle.std.proofs.Common.{◌≡◌, None, refl, rules, subst, sym, ◌∙◌}
use Rattle.fax_client.specs.Course.{Follows}
use Rattle.fax_client.specs.Posting.{Finishes, clients}
use Rattle.fax_client.proofs.CourseLemmas.{none_more, stopped}
use Rattle.fax_client.proofs.PostingLemmas.{answer_more, finishes, is_kept_under, keeps, not_kept, not_taken, same_let_go, took}
use Rattle.fax_client.proofs.SavedLemmas.{fails}
use Rattle.fax_client.proofs.posting.finish.Goals as goal

pub returns-in_default : goal.returns-in_default
returns-in_default g c kept first before at =
    let none : c.args.entry.unanswered ≡ None = search rules in
    let same = same_let_go c.args.entry _ c.let_go-entry.ensures.entry none in
    (before, kept, subst (λ e. Follows g.S.Store g.L.Line.carries g.L.Line.pauses clients first before before c.args.line.now (record { entry = e; answers = kept }) c.args.journal.now) same (none_more before, at), subst (λ u. Finishes u before None) (sym none) refl)

pub returns-in_err-answered : goal.returns-in_err-answered
returns-in_err-answered g c kept first before at =
    let un = sym c.let_go-entry.ensures.request ∙ c.in-Some.is in
    let own : c.args.entry.client ≡ c.as_str-client.result.now = search rules in
    let asked = c.in_err-answered.ensures first before (record { entry = c.args.entry; answers = kept }) un own at in
    fails _ _ c.from_residual.result c.from_residual.ensures.0 (stopped g.S.Store g.L.Line.carries g.L.Line.pauses clients first asked.0 _ (record { entry = c.args.entry; answers = kept }) _ asked.1.1)

pub returns-in_err-keep : goal.returns-in_err-keep
returns-in_err-keep g c kept first before at =
    let un = sym c.let_go-entry.ensures.request ∙ c.in-Some.is in
    let own : c.args.entry.client ≡ c.as_str-client.result.now = search rules in
    let asked = c.in_ok-answered.ensures first before (record { entry = c.args.entry; answers = kept }) un own at in
    fails _ _ c.from_residual-in_err-keep.result c.from_residual-in_err-keep.ensures.0
    (not_kept g.S.Store g.L.Line.carries g.L.Line.pauses first asked.0 _ (record { entry = c.args.entry; answers = kept }) _ _ c.in-Some.request c.in-Some.request.key _ refl asked.1.1 un asked.2 (c.in_err-keep.ensures kept c.args.entry first.journal asked.1.1.saved))

pub returns-in_err-set : goal.returns-in_err-set
returns-in_err-set g c kept first before at =
    let un = sym c.let_go-entry.ensures.request ∙ c.in-Some.is in
    let own : c.args.entry.client ≡ c.as_str-client.result.now = search rules in
    let asked = c.in_ok-answered.ensures first before (record { entry = c.args.entry; answers = kept }) un own at in
    let k = keeps g.S.Store g.L.Line.carries g.L.Line.pauses first before asked.0 _ (record { entry = c.args.entry; answers = kept }) _ c.keep.new.journal c.in-Some.request c.in-Some.request.key c.in_ok-answered.answered refl asked.1 un asked.2 (c.in_ok-keep.ensures kept c.args.entry first.journal asked.1.1.saved) in
    fails _ _ c.from_residual-in_err-set.result c.from_residual-in_err-set.ensures.0
    (not_taken g.S.Store g.L.Line.carries g.L.Line.pauses first k.0 _ c.args.entry _ _ _ _ c.in-Some.request c.in_ok-answered.answered c.let_go-entry.ensures.entry k.2.1 un (answer_more asked.0 k.0 _ _ _ k.1 asked.2)
    (is_kept_under c.in-Some.request.key c.in_ok-answered.answered kept) (c.in_err-set.ensures _ c.args.entry first.journal k.2.1.saved))

pub returns : goal.returns
returns g c kept first before at =
    let un = sym c.let_go-entry.ensures.request ∙ c.in-Some.is in
    let own : c.args.entry.client ≡ c.as_str-client.result.now = search rules in
    let asked = c.in_ok-answered.ensures first before (record { entry = c.args.entry; answers = kept }) un own at in
    let k = keeps g.S.Store g.L.Line.carries g.L.Line.pauses first before asked.0 _ (record { entry = c.args.entry; answers = kept }) _ c.keep.new.journal c.in-Some.request c.in-Some.request.key c.in_ok-answered.answered refl asked.1 un asked.2 (c.in_ok-keep.ensures kept c.args.entry first.journal asked.1.1.saved) in (
      _,
      _,
      took g.S.Store g.L.Line.carries g.L.Line.pauses first before k.0 _ c.args.entry _ _ _ _ c.in-Some.request c.in_ok-answered.answered c.let_go-entry.ensures.entry k.2 un (answer_more asked.0 k.0 _ _ _ k.1 asked.2)
          (is_kept_under c.in-Some.request.key c.in_ok-answered.answered kept) (c.in_ok-set.ensures _ c.args.entry first.journal k.2.1.saved),
      finishes c.args.entry.unanswered c.in-Some.request k.0 c.in_ok-answered.answered un,
    )
