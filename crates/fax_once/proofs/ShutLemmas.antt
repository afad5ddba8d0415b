-- A queue whose store is shut says so.
use Rattle.std.proofs.Common.{◌≡◌, ◌⊎◌, inl, inr, Bool, true, false, sym, ap, ◌∙◌, true≢false, refl}
use Rattle.std.specs.Prelude.{All, Result, Ok}
use Rattle.std.proofs.lemmas.List.Elements.{All-nil}
use Rattle.sqlite.specs.State.{State, HasCleanDisk, IsNotRun, store_error}
use Rattle.sqlite.specs.declared.error.Error.{Error}
use Rattle.sqlite_trees.specs.View.{Tells}
use Rattle.sqlite_trees.specs.declared.error.StoreError.{StoreError}
use Rattle.sqlite_trees.specs.declared.error.StoreError.TheVariants.{OutOfMemory, Io, Corrupt, Full, Broken, Unstorable}
use Rattle.fax_job.specs.declared.refusal.Refusal.TheVariants.{Unavailable}
use Rattle.fax_ask.specs.Response.{Response, refused_response}
use Rattle.fax_core.specs.Ledger.{Ledger, IsLawfulEntry, empty_ledger}
use Rattle.fax_core.specs.Queue.{Queue, empty_queue}
use Rattle.fax_core.specs.Reply.{NoKeys}
use Rattle.fax_core.specs.Settings.{Settings}
use Rattle.fax_core.specs.Sound.{Sound}
use Rattle.fax_core.proofs.StepLemmas.{empty_sound}
use Rattle.fax_run.specs.Laws.{NoVerdictIsUnavailable}
use Rattle.fax_run.specs.Verdict.{Verdict, IsVerdict}
use Rattle.fax_run.specs.declared.arrival.Arrival.{Arrival}
use Rattle.fax_store.specs.Shut.{SaysShut as Says, shut_by}
use Rattle.fax_store.specs.Store.{Means}
use Rattle.fax_tables.specs.declared.fault.StoreFault.{StoreFault}
use Rattle.fax_once.specs.Handled.{IsUnknown, Leaves, SaysShut}
use Rattle.fax_once.proofs.HandledLemmas.{leaves_at}

module _ (old new : State) (result : Result Bool StoreFault) (says : Bool) (is : result ≡ Ok true → says ≡ true) where
  -- the queue says so by what the store says of an error, unless that has another cause
  by_cause : (e : Error) → result ≡ shut_by e → (cause : StoreError) → e ≡ store_error cause → Tells new.blamed cause → (says ≡ true) ⊎ IsUnknown new
  by_cause e told Broken named tells = inl (is (told ∙ ap shut_by named))
  by_cause e told OutOfMemory named tells = inr (record { cause = OutOfMemory; other = λ same. absurd cc; blamed = tells })
  by_cause e told Io named tells = inr (record { cause = Io; other = λ same. absurd cc; blamed = tells })
  by_cause e told Corrupt named tells = inr (record { cause = Corrupt; other = λ same. absurd cc; blamed = tells })
  by_cause e told Full named tells = inr (record { cause = Full; other = λ same. absurd cc; blamed = tells })
  by_cause e told Unstorable named tells = inr (record { cause = Unstorable; other = λ same. absurd cc; blamed = tells })

  -- so it says so where its store is shut
  pub says_shut : Says old new result → SaysShut says new
  unfolding IsNotRun
  says_shut (inl (told, same)) shut = absurd (true≢false (sym same.0.is_open ∙ shut))
  says_shut (inr (e, told, inl (why, same))) shut = absurd (true≢false (sym same.0.is_open ∙ shut))
  says_shut (inr (e, told, inr (cause, named, has, undone, tells))) shut = by_cause e told cause named tells

module _ (s : Settings) (a : Arrival) (reply : Response) (old new : State) (none : NoVerdictIsUnavailable) (clean : HasCleanDisk old)
    (answered : (m : Queue) (k : Ledger) → Sound m → Means old m k → (v : Verdict) × IsVerdict s a m k v × Leaves m k reply new v) where
  -- no verdict's reply is 503, whichever sound queue the tables mean
  not_failed : (m : Queue) (k : Ledger) → Sound m → Means old m k → All IsLawfulEntry k.replies → reply ≡ refused_response Unavailable NoKeys → ⊥
  not_failed m k sound means lawful failed =
      let it = answered m k sound means in
      none s a m k it.0 sound lawful it.1 (ap (λ (r : Response). r.status) (sym (leaves_at (record { queue = m; kept = k }) reply new it.0 it.2).0 ∙ failed))

  -- so none is that is answered: of a store that is shut already, the tables mean the empty queue too
  pub never_failed : (m : Queue) (k : Ledger) → Sound m → Means old m k → reply ≡ refused_response Unavailable NoKeys → ⊥
  never_failed m k sound means failed = by old.is_open refl
    where
      by : (b : Bool) → old.is_open ≡ b → ⊥
      by true opened = not_failed m k sound means (means (record { clean = clean; is_open = opened })).means.lawful.replies failed
      by false shut =
          not_failed empty_queue empty_ledger empty_sound (λ serves. absurd (true≢false (sym serves.is_open ∙ shut))) (All-nil IsLawfulEntry) failed
