-- What each connection gets is its own.
use Rattle.std.proofs.Common.{◌≡◌, ℕ, Bool, true, false, List, [], ◌∷◌, ◌++◌, nat_eq, refl, ap, sym, ◌∙◌, subst, inl, inr, append_assoc, arith}
use Rattle.std.proofs.lemmas.Bool.{eqb-true}
use Rattle.std.specs.Prelude.{IfSome, None, Option, Some, get_or, if◌then◌else◌}
use Rattle.fax_http.specs.Conversation.{Turn, failure_of, spelled_turn}
use Rattle.fax_http.proofs.ServingLemmas.{length_one_more, reads_more, reads_one_more}
use Rattle.fax_net.specs.History.{Act, Answered, At, Came, Dry, Ended, Failed, Fits, Held, Left, Looked, MayJoin, Missed, Refused, Said, Step, Talk, Together, Took, Waits, acted, joined, talk}
use Rattle.fax_net.specs.Laws.{EachItsOwn, IsItsOwn}
use Rattle.fax_net.proofs.ConversingLemmas.{owed_more, owed_refused}

-- an act that fits leaves each its own
acted_own : (act : Act) (t : Talk) → Fits act t → IsItsOwn t → IsItsOwn (acted act t)
acted_own Came t fits own = record { rest = []; reads = refl; going = inl refl; within = omega arith; left = []; owes = refl }
acted_own Missed t fits own = record { rest = own.rest; reads = own.reads; going = own.going; within = own.within; left = own.left; owes = own.owes }
acted_own (Said bytes) t fits own = record {
  rest = own.rest ++ bytes;
  reads = reads_more t.said t.turns own.rest bytes own.reads;
  going = own.going;
  within = own.within;
  left = own.left;
  owes = own.owes;
}
acted_own Dry t fits own = record { rest = own.rest; reads = own.reads; going = own.going; within = own.within; left = own.left; owes = own.owes }
acted_own Ended t fits own = record { rest = own.rest; reads = own.reads; going = own.going; within = own.within; left = own.left; owes = own.owes }
acted_own (Took bytes) t (some, (left, owes)) own = record {
  rest = own.rest;
  reads = own.reads;
  going = own.going;
  within = own.within;
  left = left;
  owes = owes ∙ sym (append_assoc t.took bytes left);
}
acted_own Waits t fits own = record { rest = own.rest; reads = own.reads; going = own.going; within = own.within; left = own.left; owes = own.owes }
acted_own Failed t fits own = record { rest = own.rest; reads = own.reads; going = own.going; within = own.within; left = own.left; owes = own.owes }
acted_own Left t fits own = record { rest = own.rest; reads = own.reads; going = own.going; within = own.within; left = own.left; owes = own.owes }
acted_own Held t fits own = record { rest = own.rest; reads = own.reads; going = own.going; within = own.within; left = own.left; owes = own.owes }
acted_own (Answered turn is_over) t fits own = record {
  rest = fits.next;
  reads = reads_one_more t.said t.turns turn fits.rest fits.next fits.goes_on.reads fits.begins;
  going = inr (t.turns, turn, refl, fits.goes_on.going);
  within = omega (arith, fits.goes_on.below, length_one_more t.turns turn);
  left = spelled_turn turn;
  owes = owed_more t fits.goes_on.unrefused turn is_over ∙ ap (λ v. v ++ spelled_turn turn) fits.paid;
}
acted_own (Refused broken) t fits own = record {
  rest = own.rest;
  reads = own.reads;
  going = own.going;
  within = own.within;
  left = own.left ++ failure_of broken;
  owes =
      owed_refused t fits.goes_on.unrefused broken ∙ ap (λ v. v ++ failure_of broken) own.owes
      ∙ append_assoc t.took own.left (failure_of broken);
}

-- at its place, and at others
step_own : (other place : ℕ) (act : Act) (earlier : List Step) → Fits act (talk other earlier) → IsItsOwn (talk place earlier) → IsItsOwn (talk place (At other act ∷ earlier))
step_own other place act earlier fits own = by (nat_eq other place) refl
  where
    by : (b : Bool) → nat_eq other place ≡ b → IsItsOwn (talk place (At other act ∷ earlier))
    by true e =
        subst (λ (v : Bool). IsItsOwn (if v then acted act (talk place earlier) else talk place earlier)) (sym e)
        (acted_own act (talk place earlier) (subst (λ k. Fits act (talk k earlier)) (eqb-true other place e) fits) own)
    by false e = subst (λ (v : Bool). IsItsOwn (if v then acted act (talk place earlier) else talk place earlier)) (sym e) own

-- where its next message is answered together with others, too
joined_own : (turn : Option Turn) (is_over : Bool) (t : Talk) → IfSome turn (MayJoin t) → IsItsOwn t → IsItsOwn (joined turn is_over t)
joined_own None is_over t may own = own
joined_own (Some turn) is_over t may own = acted_own (Answered turn is_over) t may.next own

-- what each connection gets is its own, at each place of a history that fits
pub each_its_own : EachItsOwn
each_its_own count [] place right = record { rest = []; reads = refl; going = inl refl; within = omega arith; left = []; owes = refl }
each_its_own count (At other act ∷ earlier) place (right, below, fits, has_room) = step_own other place act earlier fits (each_its_own count earlier place right)
each_its_own count (Together turns is_over ∷ earlier) place (right, within, may) =
    joined_own (get_or turns place None) is_over (talk place earlier) (may place) (each_its_own count earlier place right)
each_its_own count (Looked is_busy may_come ∷ earlier) place (right, may, attended) =
    let own = each_its_own count earlier place right in
    record { rest = own.rest; reads = own.reads; going = own.going; within = own.within; left = own.left; owes = own.owes }
