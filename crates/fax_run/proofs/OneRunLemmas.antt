-- Two runs of the same arrivals are one, since each arrival says one thing.
use Rattle.std.proofs.Common.{◌≡◌, ap, ap₂, refl, subst, sym, ◌∙◌, inl, inr, List, [], ◌∷◌}
use Rattle.std.proofs.lemmas.List.Elements.{All-head, All-tail}
use Rattle.fax_ask.specs.Response.{Response}
use Rattle.fax_core.specs.Settings.{Settings}
use Rattle.fax_run.specs.Laws.{AreAvailable, IsAvailable, OneReading, OneRun}
use Rattle.fax_run.specs.Reading.{Reading}
use Rattle.fax_run.specs.Run.{IsRun, Start, reply_at}
use Rattle.fax_run.specs.declared.arrival.Arrival.{Arrival}

module _ (one_reading : OneReading) (s : Settings) (start : Start) where
  -- behind the same past the same arrivals are heard and answered in one way
  one_run_behind : (past : List Reading) (arrivals : List Arrival) (replies others : List Response) (heard also_heard : List Reading)
      → IsRun s start past arrivals replies heard → IsRun s start past arrivals others also_heard → AreAvailable replies → AreAvailable others
      → (replies ≡ others) × (heard ≡ also_heard)
  one_run_behind past [] [] [] heard also_heard run other well also_well = (refl, run ∙ sym other)
  one_run_behind past [] (reply ∷ replies) others heard also_heard run other well also_well = absurd run
  one_run_behind past [] [] (reply ∷ others) heard also_heard run other well also_well = absurd other
  one_run_behind past (a ∷ arrivals) [] others heard also_heard run other well also_well = absurd run
  one_run_behind past (a ∷ arrivals) (reply ∷ replies) [] heard also_heard run other well also_well = absurd other
  one_run_behind past (a ∷ arrivals) (reply ∷ replies) (told ∷ others) heard also_heard (inl (gave_out, run)) other well also_well = absurd (All-head IsAvailable reply replies well gave_out)
  one_run_behind past (a ∷ arrivals) (reply ∷ replies) (told ∷ others) heard also_heard (inr x) (inl (gave_out, other)) well also_well = absurd (All-head IsAvailable told others also_well gave_out)
  one_run_behind past (a ∷ arrivals) (reply ∷ replies) (told ∷ others) heard also_heard (inr (r, is, answered, run)) (inr (q, also_is, also_answered, other)) well also_well =
      let same : r ≡ q = one_reading a r q is also_is in
      let rest = one_run_behind (r ∷ past) arrivals replies others heard also_heard run (subst (λ v. IsRun s start (v ∷ past) arrivals others also_heard) (sym same) other)
      (All-tail IsAvailable reply replies well) (All-tail IsAvailable told others also_well) in
      (ap₂ (λ x xs. x ∷ xs) (answered ∙ ap (reply_at s start past) same ∙ sym also_answered) rest.0, rest.1)

-- two runs of the same arrivals are one
pub one_run : OneReading → OneRun
one_run one_reading s start arrivals replies others heard also_heard = one_run_behind one_reading s start [] arrivals replies others heard also_heard
