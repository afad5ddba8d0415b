use Rattle.std.proofs.Common.{◌≡◌, ◌<◌, ap, get_or, length, rules, subst, sym, ◌∙◌}
use Rattle.fax_dest.specs.Finder.{entry_pattern}
use Rattle.fax_dest.proofs.FinderLemmas.{one_more}
use Rattle.fax_dest.proofs.finder.Finder.reach.Goals as goal

pub returns-in_ok-push-clause-finds : goal.returns-in_ok-push-clause-finds
returns-in_ok-push-clause-finds c = λ controls is.
    let entry = c.index-self-place.result in
    let last : c.args.place ≡ length c.args.self.now.matchers.items = search rules in
    record {
      rules = is.rules;
      searches = one_more controls c.args.self.now c.push.new.self.items c.in_ok-matcher.matcher c.args.place entry is last
          (subst (λ rules. c.args.place < length rules) is.rules c.requires.within)
          (c.index-self-place.is ∙ ap (λ rules. get_or rules c.args.place entry) is.rules)
          (c.in_ok-matcher.ensures ∙ sym (ap entry_pattern c.index-self-place.is)) c.in_ok-push.ensures.items;
    }
