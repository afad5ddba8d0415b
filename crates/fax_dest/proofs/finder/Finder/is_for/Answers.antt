use Rattle.std.proofs.Common.{ap, is_some, ◌∙◌}
use Rattle.regex.specs.Patterns.{find_str}
use Rattle.fax_dest.specs.Pattern.{is_found}
use Rattle.fax_dest.proofs.FinderLemmas.{search_at, used}
use Rattle.fax_dest.proofs.finder.Finder.is_for.Goals as goal

pub returns-clause-finds : goal.returns-clause-finds
returns-clause-finds c = λ controls is. record {
  rules = is.rules;
  searches = used controls c.args.self.now c.args.place c.index_mut.result.now c.is_match.new.self is c.requires c.index_mut.ensures.value c.is_match.ensures.same;
}

pub returns-clause-found : goal.returns-clause-found
unfolding is_found
returns-clause-found c = λ controls entry is.
    c.is_match.ensures.found
    ∙ ap (λ pattern. is_some (find_str pattern c.args.number.now 0))
    (search_at controls c.args.self.now c.args.place c.index_mut.result.now entry is c.requires c.index_mut.ensures.value)
