use Rattle.std.proofs.Common.{◌∙◌, sym}
use Rattle.fax_ask.proofs.RoutedLemmas.{no_route, found_route}
use Rattle.fax_ask.proofs.routes.Routes.request.Goals as goal

pub returns-in-Ok : goal.returns-in-Ok
returns-in-Ok c =
    c.on_route.ensures
    ∙ found_route c.args.path.now c.self.inside.router c.utf8.path c.self.invariant c.args.method _ c.in-Ok.found.params.path.now _ c.in-Ok.ensures.path c.in-Ok.ensures.found c.get.ensures

pub returns-in-Err-NotFound : goal.returns-in-Err-NotFound
returns-in-Err-NotFound c =
    sym (no_route c.args.path.now c.self.inside.router c.utf8.path c.self.invariant c.args.method c.in-Err-NotFound.ensures.missing)
