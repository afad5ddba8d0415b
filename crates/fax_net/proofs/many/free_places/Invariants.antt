use Rattle.std.proofs.Common.{◌≡◌, ◌<◌, ℕ, length, get_or}
use Rattle.fax_net.specs.declared.link.Link.{Link}
use Rattle.fax_net.specs.declared.link.Stage.TheVariants.{Free}
use Rattle.fax_net.proofs.many.free_places.Given as goal

abbrev pub invariant-loop : goal.invariant-loop
invariant-loop l = (length l.links.items ≡ l.counter) × ((k : ℕ) (d : Link) → k < length l.links.items → (get_or l.links.items k d).stage ≡ Free)
