use Rattle.std.proofs.Common.{◌≡◌, ◌∙◌, ◌<◌, ◌≤◌, ap, sym, arith, rules}
use Rattle.std.specs.Vec.Iter.{into_iter_items}
use Rattle.fax_core.specs.Job.{fields_of}
use Rattle.fax_store.specs.Candidates.{front_of, longest_page}
use Rattle.fax_store.proofs.CandidateLemmas.{all_given, page_empty, page_ends, page_lawful, stands_on, stands_page}
use Rattle.fax_store.proofs.FrameLemmas.{looks_as, looks_of, looks_stop, passes_on}
use Rattle.fax_store.proofs.candidates.Candidates+S.read_on.Goals as goal
use Rattle.fax_store.proofs.candidates.Candidates+S.read_on.Goals.{in-Some+in_ok-prospect_in-in-Some, in-None}

pub returns-in_err-prospect_in-in-Some : goal.returns-in_err-prospect_in-in-Some
returns-in_err-prospect_in-in-Some g c = record {
  same_reference = search rules;
  leaves = looks_stop g.S.Store c.from_residual-in_err-prospect_in-in-Some.result _ c.from_residual-in_err-prospect_in-in-Some.ensures.1 (looks_of g.S.Store c.in_ok-page.ensures.leaves);
  opens = search rules;
  asked = search rules;
  told = search rules;
  next = search rules;
  found = λ m k given means serves stands. let next = c.in_ok-page.ensures.answers m k means serves in
      let it = page_ends _ _ _ next.is (rw c.deref.ensures.value at c.in-Some.ensures.value) in
      let lawful = page_lawful _ m _ _ next.all it.0 it.1 (means (c.page.ensures.leaves.served serves)).lawful.jobs next.waiting it.2 in
      passes_on c.from_residual-in_err-prospect_in-in-Some.result c.in_err-prospect_in-in-Some.field-0.0 _ c.from_residual-in_err-prospect_in-in-Some.ensures.1
      (c.in_err-prospect_in-in-Some.ensures.found (fields_of it.1) it.3 lawful.limits lawful.formed);
}

pub returns : goal.returns
returns g c = record {
  same_reference = search rules;
  leaves = looks_as g.S.Store (looks_of g.S.Store c.in_ok-page.ensures.leaves);
  opens = search rules;
  asked = search rules;
  told = search rules;
  next = search rules;
  found = λ m k given means serves stands. let next = c.in_ok-page.ensures.answers m k means serves in
      let means_now = means (c.page.ensures.leaves.served serves) in
      let more : 0 < c.min-self.result = omega (arith, stands.some, c.saturating_add.ensures, c.min-self.ensures) in
      let bounded : c.min-self.result ≤ longest_page = omega (arith, c.min-self.ensures) in
      let page : into_iter_items c.into_iter.result ≡ c.in_ok-page.page.items = c.into_iter.ensures.rest in (
        rw page (elim c.match-last.branch [
          | in-Some+in_ok-prospect_in-in-Some w ↦
              let it = page_ends _ _ _ next.is (rw c.deref.ensures.value at w.in-Some.ensures.value) in
              let lawful = page_lawful _ m _ _ next.all it.0 it.1 means_now.lawful.jobs next.waiting it.2 in
              let prospect = w.in_ok-prospect_in-in-Some.ensures.found (fields_of it.1) it.3 lawful.limits lawful.formed in
              rw (w.self-is ∙ w.of-self.ensures ∙ ap front_of prospect) (stands_page _ m k means_now _ given _ _ stands _ next it.0 it.1 it.2
              c.min-self.result more bounded)
          | in-None w ↦
              let empty = page_empty _ (rw c.deref.ensures.value at w.in-None.ensures.value) in
              rw (w.self-is ∙ w.next-self.ensures) (stands_on _ m k means_now _ given _ _ stands _ next empty c.min-self.result more bounded)
        ]),
        λ none last. all_given _ m k means_now _ given _ _ stands _ next (sym page ∙ none) (sym c.is_last-is_last.ensures ∙ last),
      );
}
