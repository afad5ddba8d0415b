-- What is served of a stream is what its whole input divides into.
use Rattle.std.proofs.Common.{◌≡◌, ℕ, ◌≤◌, Bool, false, List, [], ◌++◌, length, Option, None, Some, inl, inr, refl, ap, subst, sym, ◌∙◌, append_assoc, append-nil, arith, length-append}
use Rattle.std.specs.Io.KnownBytes.{Appends, Consumes}
use Rattle.httparse.specs.Grammar.{print_request}
use Rattle.fax_http.specs.declared.device.Watched.{Watched}
use Rattle.fax_http.specs.declared.message.Broken.{Broken}
use Rattle.fax_http.specs.declared.message.Broken.TheVariants.{BadHttp, TooLarge}
use Rattle.fax_http.specs.declared.serving.End.{End}
use Rattle.fax_http.specs.declared.serving.End.TheVariants.{Closed, Bad, Bound, ReadFailed, WriteFailed, NoMemory}
use Rattle.fax_http.specs.Conversation.{Divides, Fails, Reads, Stop, AtBound, AtEnd, AtFailure, AtLast, StopsBy, Turn}
use Rattle.fax_http.specs.Laws.{ServesWhole, ServesWholeInputs}
use Rattle.fax_http.specs.Message.{IsBad, IsTooLarge}
use Rattle.fax_http.specs.Serving.{Answering, EndsBy, FailsHere, failed_to_read}
use Rattle.fax_http.proofs.ServingLemmas.{reads_more}

-- a message that is too large is so whatever follows
too_large_more : (input more : List ℕ) → IsTooLarge input → IsTooLarge (input ++ more)
too_large_more input more t = record {
  head = t.head;
  rest = t.rest ++ more;
  is_head = t.is_head;
  frames = t.frames;
  bytes = ap (λ i. i ++ more) t.bytes ∙ append_assoc (print_request t.head) t.rest more;
}

-- what fails here fails with all that is left of the input behind it
fails_whole : (rest left : List ℕ) (broken : Broken) → FailsHere rest (Some left) broken → Fails (rest ++ left) broken
fails_whole rest left BadHttp (inl stays) = stays left
fails_whole rest left BadHttp (inr (bad, none)) = subst IsBad (sym (ap (λ l. rest ++ l) none ∙ append-nil rest)) bad
fails_whole rest left TooLarge t = too_large_more rest left t

-- where nothing is spelled at the stop, what was written is all
no_stop : (bytes all : List ℕ) (before after : Option (List ℕ)) → all ≡ bytes → Appends before after bytes → Appends before after (all ++ [])
no_stop bytes all before after e a = subst (λ v. Appends before after v) (sym (append-nil all ∙ e)) a

module _ {R W H : Type 0} (remaining : R → Option (List ℕ)) (contents : W → Option (List ℕ)) (answers : Answering H) (over : H → Bool)
    (bound : ℕ) (input left taken : List ℕ) (reader₂ : Watched R) (writer writer₂ : Watched W) (turns : List Turn) (rest : List ℕ)
    (reads : Reads taken turns rest) (within : length turns ≤ bound) (whole : input ≡ taken ++ left) where
  -- the turns read of what was taken divide the whole input
  divides_by : (stop : Stop) → StopsBy bound turns (rest ++ left) stop → Divides bound input turns stop
  divides_by stop s = record {
    rest = rest ++ left;
    reads = subst (λ i. Reads i turns (rest ++ left)) (sym whole) (reads_more taken turns rest left reads);
    within = within;
    stops = s;
  }

  -- where neither side failed and there was memory, the whole input was served
  whole_by : (end : End) → EndsBy contents writer writer₂ bound turns rest (Some left) false end → failed_to_read end ≡ false → writer₂.failed ≡ false → ¬ (end ≡ NoMemory)
      → ServesWhole bound input (contents writer.device) (contents writer₂.device) turns end
  whole_by Closed (inl (going, below, none, at_end), put) r w m = record {
    stop = AtEnd;
    divides = divides_by AtEnd (going, below, ap (λ v. v ++ left) none ∙ at_end);
    wrote = no_stop _ _ _ _ refl put.appended;
    ends = refl;
  }
  whole_by Closed (inr (inr over), put) r w m = absurd (let no = over.over_is in cc)
  whole_by Closed (inr (inl last), put) r w m = record {
    stop = AtLast;
    divides = divides_by AtLast last;
    wrote = no_stop _ _ _ _ refl put.appended;
    ends = refl;
  }
  whole_by Bound (going, full, put) r w m = record {
    stop = AtBound;
    divides = divides_by AtBound (going, full);
    wrote = no_stop _ _ _ _ refl put.appended;
    ends = refl;
  }
  whole_by Bad (broken, refused, put) r w m = record {
    stop = AtFailure broken;
    divides = divides_by (AtFailure broken)
        (refused.going, refused.below, omega (arith, refused.some, length-append rest left), fails_whole rest left broken refused.fails);
    wrote = put.appended;
    ends = refl;
  }
  whole_by ReadFailed e r w m = absurd cc
  whole_by (WriteFailed sent) (s, inl f) r w m = absurd (let no = sym f.failed.put.failed_is ∙ w in cc)
  whole_by (WriteFailed sent) (s, inr (broken, refused, f)) r w m = absurd (let no = sym f.put.failed_is ∙ w in cc)
  whole_by NoMemory e r w m = absurd (m refl)

-- all that is known of the input was taken, or is left
split_input : (input taken : List ℕ) (after : Option (List ℕ)) → Consumes (Some input) after taken → (left : List ℕ) × (after ≡ Some left) × (input ≡ taken ++ left)
split_input input taken None c = absurd c
split_input input taken (Some left) c = (left, refl, c)

-- each whole input was served, where neither side failed and there was memory
pub serves_whole_inputs : {R W H : Type 0} (remaining : R → Option (List ℕ)) (contents : W → Option (List ℕ)) (answers : Answering H) (over : H → Bool) → ServesWholeInputs remaining contents answers over
serves_whole_inputs remaining contents answers over bound input reader reader₂ writer writer₂ old new served s known r w on m =
    let parts = split_input input s.taken (remaining reader₂.device) (subst (λ k. Consumes k (remaining reader₂.device) s.taken) known s.took.consumed) in
    whole_by remaining contents answers over bound input parts.0 s.taken reader₂ writer writer₂ s.turns s.rest s.reads s.within parts.2 served.end
    (subst (λ b. EndsBy contents writer writer₂ bound s.turns s.rest (Some parts.0) b served.end) on
    (subst (λ u. EndsBy contents writer writer₂ bound s.turns s.rest u (over new) served.end) parts.1 s.ends)) (sym s.took.failed_is ∙ r) w m
