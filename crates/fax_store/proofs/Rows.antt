-- Worked rows: what calls make of a queue.
use Rattle.std.proofs.Common.{◌≡◌, refl, [], ◌∷◌}
use Rattle.fax_core.specs.Queue.{Queue, empty_queue}
use Rattle.fax_store.specs.Grant.{with_placed, with_closed}
use Rattle.fax_store.specs.Meta.{with_clock}
use Rattle.fax_tables.specs.Grant.{as_hold}
use Rattle.fax_tables.specs.Meta.{meta_of}
use Rattle.fax_tables.proofs.Rows.{grant, closed}

abbrev after_grant : Queue
after_grant = with_placed grant (with_clock 5 empty_queue)

-- a grant that is made is open
granted : after_grant ≡ record { jobs = []; grants = grant ∷ []; times = []; down = []; clock = 5; next_job = 1; next_grant = 1 }
granted = refl

-- a grant that is closed is open no more
shut : with_closed 1 after_grant ≡ record after_grant { grants = closed ∷ [] }
shut = refl

-- closing a number without a grant changes nothing
shut_another : with_closed 2 after_grant ≡ after_grant
shut_another = refl

-- a hold tells the grant and the job
held : as_hold grant ≡ record { grant = 1; job = 7 }
held = refl

-- meta tells the clock and the next numbers
meta_told : meta_of after_grant ≡ record { clock = 5; next_job = 1; next_grant = 1 }
meta_told = refl
