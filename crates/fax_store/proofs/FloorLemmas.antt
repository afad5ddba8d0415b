-- What the texts on floors, and on the replies that a client gives up, leave; and such replies, some at a time.
use Rattle.std.proofs.Common.{◌≡◌, ◌≤◌, ◌<◌, ◌^◌, ◌+◌, ℕ, List, [], ◌∷◌, map, filter, drop, length, inl, inr, nat_lt, false, not, ◌&&◌, Option, MatchOption, refl, sym, ap, ap₂, subst, ◌∙◌, arith, Bool, true, Ok, Err, Result, bytes_eq, IfOk, IsErrAnd, Some, None, nat_le}
use Rattle.std.specs.List.{AllByRecursion}
use Rattle.std.proofs.lemmas.List.Elements.{filter_passes, recursion_from_All}
use Rattle.sqlite_trees.proofs.ListLemmas.{all_of, all_weaker, filter-filter, filter_none}
use Rattle.std.proofs.Math.Bool.{and-true}
use Rattle.std.proofs.lemmas.Bool.{cases_Bool, cond_both}
use Rattle.std.proofs.lemmas.Slice.Eq.{bytes_eq-Decides}
use Rattle.sqlite.specs.Cast.{cast_row}
use Rattle.sqlite.specs.Edit.{with_rowid, next_rowid}
use Rattle.sqlite.specs.Effect.{Database}
use Rattle.sqlite.specs.Order.{Row}
use Rattle.sqlite.specs.Rowids.TheVariants.{Chosen}
use Rattle.sqlite.specs.State.{State}
use Rattle.sqlite.specs.declared.types.Value.TheVariants.{Null, Int, Text}
use Rattle.sqlite.proofs.Callers.{runs_as}
use Rattle.fax_core.specs.Ledger.{Ledger, floors_with, is_through, without_replies, IsLawfulEntry}
use Rattle.fax_core.specs.Queue.{Queue, Entry, open_grants}
use Rattle.fax_value.specs.Name.{IsName}
use Rattle.fax_schema.specs.declared.statements.TheConstants.{DELETE_FLOOR, DELETE_REPLIES, INSERT_FLOOR, SELECT_FLOOR}
use Rattle.fax_layout.specs.ByRowid.{IsByRowid}
use Rattle.fax_schema.specs.Schema as schema
use Rattle.fax_schema.specs.Schema.{our_tables, floors_tree, replies_tree}
use Rattle.fax_layout.proofs.AppendLemmas.{appended}
use Rattle.fax_schema.proofs.ClientTexts.{delete_floor, delete_replies, given_up_tests, insert_floor, select_floor}
use Rattle.fax_layout.proofs.ColumnLemmas.{all_kept, kept_columns}
use Rattle.fax_layout.proofs.CompareLemmas.{at_most, cast_int, cast_null, equal_texts, same_row}
use Rattle.fax_schema.proofs.GrantTexts.{call_terms, call_tests}
use Rattle.fax_layout.proofs.SelectLemmas.{passes}
use Rattle.fax_schema.proofs.UpdateLemmas.{gone_project, deleted}
use Rattle.fax_layout.proofs.WriteLemmas.{KeepsOthers, inserts}
use Rattle.fax_schema.proofs.OursLemmas.{unreferred}
use Rattle.fax_tables.specs.Row.{HasNumber, number, entry_columns, floor_columns}
use Rattle.fax_tables.specs.Tables.{AreCounted, AreLawfulFloors, TablesMean}
use Rattle.fax_tables.proofs.TablesLemmas.{AreColumns, AreFloors, by_rowid_put, calls_of, floors_changed, means_of, parts_of, replies_changed}
use Rattle.fax_store.specs.Store.{FindsRow, HasRun, Serves}
use Rattle.fax_store.proofs.CallLemmas.{beside, counted_found, is_asked, left_without, none_stands, params, read_stands}
use Rattle.std.proofs.lemmas.Bool.Decides.{nat_tests}
use Rattle.sqlite_trees.specs.declared.store.Store.{Ghosts}
use Rattle.fax_store.specs.Calls.{Answers, Finds, Runs, Writes, shown}
use Rattle.fax_store.specs.Floors.{AreHundredLess, FloorStands, IsHundredth, TakesFew, TakesHundred, Thins, through}
use Rattle.fax_store.specs.Work.{IsUnderWay, Steps, Works}
use Rattle.fax_store.specs.declared.store.Store.{Store}
use Rattle.fax_store.proofs.FrameLemmas.{reads_on, runs_err, runs_of, runs_then}
use Rattle.fax_store.proofs.WorkLemmas.{keeps_by}
use Rattle.fax_tables.specs.declared.fault.StoreFault.{StoreFault}
use Rattle.fax_tables.specs.declared.fault.StoreFault.TheVariants.{Unavailable}

-- ---- reading

pub floor_found : (client : List ℕ) (old new : State) (m : Queue) (k : Ledger) → TablesMean old.now m k → (found : Option Row) → FindsRow SELECT_FLOOR.now (params client) old new found
    → MatchOption found (k.floor client ≡ 0) (λ row. row ≡ number (k.floor client) ∷ [])
floor_found client old new m k means = counted_found client floors_tree SELECT_FLOOR.now _ select_floor (λ trees. refl) old new k.floor means.schema
    means.floors

-- whatever the rows say
module _ (client : List ℕ) (old new : State) (db : Database) (ours : db.schema ≡ our_tables) (now : old.now ≡ db) where
  -- the floor that is read of the row that is found stands in a row of the client
  pub floor_stands : (row : Row) (result : Result ℕ StoreFault) → IfOk result (HasNumber row 0) → FindsRow SELECT_FLOOR.now (params client) old new (Some row) → IfOk result (FloorStands db client)
  floor_stands = read_stands client floors_tree SELECT_FLOOR.now _ select_floor (λ trees. refl) old new db ours now (λ n. n)

  -- where none is found the client has none
  pub no_floor_stands : FindsRow SELECT_FLOOR.now (params client) old new None → FloorStands db client 0
  no_floor_stands = none_stands client floors_tree SELECT_FLOOR.now _ select_floor (λ trees. refl) old new db ours now

-- a floor is below one above the greatest number
pub floor_low : (client : List ℕ) (floor : List ℕ → ℕ) → AreLawfulFloors floor → floor client < 10 ^ 18
floor_low client floor lawful =
    let below : 1 ≤ floor client → floor client < 10 ^ 18 = λ some. (lawful client some).1 in
    grind (arith, below)

-- ---- replies that are given up

module _ (client : List ℕ) (floor : ℕ) where
  abbrev pub given_params : Row
  given_params = Text client ∷ number floor ∷ []

  -- the rows that pass are those of the client, with numbers through the floor
  pub is_given : (r : Row) (e : Entry) → drop 1 r ≡ entry_columns e → passes replies_tree given_up_tests gone_project given_params r ≡ is_through client floor e
  is_given [] e is = absurd cc
  is_given (i ∷ columns) e is =
      ap (λ rest. passes replies_tree given_up_tests gone_project given_params (i ∷ rest)) is
      ∙ ap₂ (λ a b. a && b) (equal_texts e.client client) (and-true _ ∙ at_most e.number floor)

  pub replies_dropped : (old new : State) (m : Queue) (k : Ledger) → TablesMean old.now m k → HasRun DELETE_REPLIES.now given_params old new → TablesMean new.now m (without_replies client floor k) × KeepsOthers our_tables replies_tree old new
  replies_dropped old new m k means h =
      let ran = runs_as DELETE_REPLIES.now given_params old new our_tables means.schema _ delete_replies.is delete_replies.plain h.0 h.1 in
      let done = deleted schema.replies.name 8 schema.replies.columns schema.replies.key schema.replies.primary schema.replies.uniques schema.replies.orders schema.replies.checks 4 refl old new means.schema refl means.ordered.replies
      given_up_tests gone_project given_params (λ r. refl) _ h.0 ran in
      let left = λ (e : Entry). not (is_through client floor e) in
      let now : AreColumns entry_columns IsLawfulEntry (new.now.trees replies_tree) (filter left k.replies) = record {
        is = ap (map (drop 1)) done.1 ∙ kept_columns entry_columns (λ r. not (passes replies_tree given_up_tests gone_project given_params r)) left (λ r e is. ap not (is_given r e is)) (old.now.trees replies_tree) k.replies means.replies;
        ordered = done.2;
        lawful = all_kept IsLawfulEntry left k.replies means.lawful.replies;
      } in
      (means_of new.now m (without_replies client floor k) means.held (replies_changed old new m (open_grants m) (calls_of m) k (parts_of old.now m k means) done.0 (filter left k.replies) now), done.0)

-- ---- a floor that is set

-- the floors of others stay lawful, and a client's is where it is set to a lawful one
lawful_with : (client : List ℕ) (floor : ℕ) (of : List ℕ → ℕ)
    → ((other : List ℕ) → bytes_eq other client ≡ false → 1 ≤ of other → IsName other × (of other < 10 ^ 18)) → (1 ≤ floor → IsName client × (floor < 10 ^ 18))
    → AreLawfulFloors (floors_with client floor of)
lawful_with client floor of was its other = cond_both (bytes_eq other client) floor (of other) (λ n. 1 ≤ n → IsName other × (n < 10 ^ 18))
    (λ on some. let it = its some in (rw ((bytes_eq-Decides other client).0 on) it.0, it.1)) (λ off. was other off)

abbrev pub floor_params : List ℕ → ℕ → Row
floor_params client floor = Text client ∷ number floor ∷ []

-- the text that takes a client's floor off sets it to 0, and touches floors alone
pub floor_gone : (client : List ℕ) (old new : State) (m : Queue) (k : Ledger) → TablesMean old.now m k → HasRun DELETE_FLOOR.now (params client) old new
    → TablesMean new.now m (record k { floor = floors_with client 0 k.floor }) × KeepsOthers our_tables floors_tree old new
floor_gone client old new m k means h =
    let rows = old.now.trees floors_tree in
    let cleared = floors_with client 0 k.floor in
    let pass = passes floors_tree call_tests gone_project (params client) in
    let ran = runs_as DELETE_FLOOR.now (params client) old new our_tables means.schema _ delete_floor.is delete_floor.plain h.0 h.1 in
    let done = deleted schema.floors.name 11 schema.floors.columns schema.floors.key schema.floors.primary schema.floors.uniques schema.floors.orders schema.floors.checks 6 refl old new means.schema refl means.ordered.floors
    call_tests gone_project (params client) (λ r. refl) _ h.0 ran in
    let now : AreFloors cleared (new.now.trees floors_tree) = record {
      is = left_without client k.floor pass (is_asked client gone_project) rows (new.now.trees floors_tree) done.1 means.floors;
      ordered = done.2;
      lawful = lawful_with client 0 k.floor (λ other _. means.lawful.floors other) (λ some. absurd (omega (arith, some)));
    } in
    (means_of new.now m (record k { floor = cleared }) means.held (floors_changed old new m (open_grants m) (calls_of m) k (parts_of old.now m k means) done.0 cleared now), done.0)

-- the text that adds one, where the client has none, sets it, and touches floors alone
pub floor_set : (client : List ℕ) (floor : ℕ) (old new : State) (m : Queue) (k : Ledger)
    → TablesMean old.now m (record k { floor = floors_with client 0 k.floor }) → IsName client → 1 ≤ floor → floor < 10 ^ 18
    → HasRun INSERT_FLOOR.now (floor_params client floor) old new → TablesMean new.now m (record k { floor = floors_with client floor k.floor }) × KeepsOthers our_tables floors_tree old new
floor_set client floor old new m k means name some low h =
    let rows = old.now.trees floors_tree in
    let row = Int (next_rowid rows) ∷ floor_columns client floor in
    let cleared = record k { floor = floors_with client 0 k.floor } in
    let set = floors_with client floor k.floor in
    let stored : cast_row schema.floors (Null ∷ floor_columns client floor) ≡ Null ∷ floor_columns client floor = same_row cast_null (same_row refl (same_row (cast_int _) refl)) in
    let ran = runs_as INSERT_FLOOR.now (floor_params client floor) old new our_tables means.schema _ insert_floor.is insert_floor.plain h.0 h.1 in
    let done = inserts our_tables unreferred schema.floors.name 11 schema.floors.columns schema.floors.key schema.floors.primary schema.floors.uniques schema.floors.orders schema.floors.checks 6 refl old new means.schema (floor_params client floor) _ h.0
    call_terms 3 (Null ∷ floor_columns client floor) row refl (ap (with_rowid Chosen rows) stored) ran in
    let by = means.ordered.floors in
    let now : AreFloors set (new.now.trees floors_tree) = record {
      is = subst (AreCounted set) (sym (ap (map (drop 1)) done.rows ∙ appended rows (floor_columns client floor) by.integers by.rise)) (beside client k.floor floor (map (drop 1) rows) some means.floors);
      ordered = subst IsByRowid (sym done.rows) (by_rowid_put row rows refl by);
      lawful = lawful_with client floor k.floor (λ other off. rw off at (means.lawful.floors other)) (λ _. (name, low));
    } in
    (means_of new.now m (record k { floor = set }) means.held (floors_changed old new m (open_grants m) (calls_of m) cleared (parts_of old.now m cleared means) done.keeps set now), done.keeps)

-- ---- what two tests leave, of which one passes whatever the other does

-- who keeps a reply through the higher number keeps it through the lower one
kept_lower : (b : Bool) (n low high : ℕ) → low ≤ high → not (b && nat_le n high) ≡ true → not (b && nat_le n low) ≡ true
kept_lower false n low high under h = refl
kept_lower true n low high under h = grind (arith, nat_tests, under, h)

-- without the replies through a number, none is through a lower one
pub without_lower : (client : List ℕ) (low high : ℕ) (k : Ledger) → low ≤ high → without_replies client high (without_replies client low k) ≡ without_replies client high k
without_lower client low high k under =
    ap (λ (es : List Entry). record k { replies = es })
    (filter-filter (λ e. not (is_through client high e)) (λ e. not (is_through client low e)) (λ e. kept_lower (bytes_eq e.client client) e.number low high under) k.replies)

-- ---- a hundred at a time

-- the entry isn't of this client, or has no number below this one
abbrev NotBelow : List ℕ → ℕ → Entry → Type 0
NotBelow client n e = bytes_eq e.client client ≡ true → n ≤ e.number

-- none of the client's replies has a number below this one
abbrev pub NoneBelow : List ℕ → ℕ → Ledger → Type 0
NoneBelow client n k = AllByRecursion (NotBelow client n) k.replies

-- a number above another isn't through it
pub above : (b : Bool) (n m : ℕ) → m < n → (b && nat_le n m) ≡ false
above false n m over = refl
above true n m over = grind (arith, nat_tests, over)

module _ (client : List ℕ) where
  -- a lower number goes through no entry
  not_through : (low n : ℕ) (e : Entry) → low < n → NotBelow client n e → is_through client low e ≡ false
  not_through low n e under none = elim (cases_Bool (bytes_eq e.client client)) [
    | inl on ↦ above (bytes_eq e.client client) e.number low (omega (arith, none on, under))
    | inr off ↦ rw off refl
  ]

  -- so none is through it
  none_through : (low n : ℕ) (k : Ledger) → low < n → NoneBelow client n k → through client low k ≡ 0
  none_through low n k under none =
      ap length (filter_none (is_through client low) k.replies (all_weaker (NotBelow client n) (λ e. is_through client low e ≡ false) (λ e. not_through low n e under) k.replies none))

  -- and where a hundred are through a number, it is no lower one
  no_lower : (n last : ℕ) (k : Ledger) → NoneBelow client n k → through client last k ≡ 100 → n ≤ last
  no_lower n last k none hundred = elim (cases_Bool (nat_lt last n)) [
    | inl under ↦ (let low : last < n = grind (arith, nat_tests, under) in let gone = none_through last n k low none in absurd (omega (arith, gone, hundred)))
    | inr up ↦ grind (arith, nat_tests, up)
  ]

  -- an entry that isn't through a number is above it
  past : (last n : ℕ) (e : Entry) → n ≤ last → not (is_through client last e) ≡ true → NotBelow client (n + 1) e
  past last n e under kept on =
      let off : not (nat_le e.number last) ≡ true = rw on at kept in
      grind (arith, nat_tests, off, under)

  -- so once a hundred more are gone, none that is left has the next number or a lower one
  pub none_next : (floor n : ℕ) (k left : Ledger) → NoneBelow client n k → AreHundredLess client floor k left → NoneBelow client (n + 1) left
  none_next floor n k left none less =
      let under = no_lower n less.last k none less.hundred in
      let kept = λ (e : Entry). not (is_through client less.last e) in
      rw less.is (all_weaker (λ e. kept e ≡ true) (NotBelow client (n + 1)) (λ e. past less.last n e under) (filter kept k.replies)
      (recursion_from_All (λ e. kept e ≡ true) (filter kept k.replies) (filter_passes kept k.replies)))

-- ---- calls

module _ {S : Type 0} (g : Ghosts S) (client : List ℕ) (floor : ℕ) where
  -- what a statement takes away it takes away where they are few, too
  pub few_of : {old new : Store S} {A : Type 0} {result : Result A StoreFault} → Writes g old new result (λ m. m) (without_replies client floor) → TakesFew g client floor old new result
  few_of writes = record { leaves = writes.leaves; written = λ m₀ m k₀ k few. writes.written m₀ m k₀ k; cause = writes.cause }

  -- a reading that is refused takes none away
  pub hundred_refused : {old new : Store S} {A : Type 0} {fault : StoreFault} (result : Result Bool StoreFault) → IsErrAnd result (λ f. f ≡ fault)
      → Finds g {A = A} old new (Err fault) → fault ≡ Unavailable → TakesHundred g client floor old new result
  hundred_refused (Ok b) told finds why = absurd told
  hundred_refused {old} {new} {A} {fault} (Err e) told finds why = record {
    leaves = runs_err g (Err e) told (runs_of g finds);
    written = λ m₀ m k₀ k works s.
        let after = keeps_by (shown g old) (shown g new) finds.served {A = A} (Err fault) finds.reads m₀ m k₀ k works s in
        (k, (told ∙ why, after.began), tt);
  }

  module _ {old mid : Store S} {x : Option ℕ} (finds : Finds g old mid (Ok x)) (says : Answers g old mid (Ok x) (λ m. IsHundredth client floor)) where
    -- what is read of the tables, which stay
    read : (m₀ m : Queue) (k₀ k : Ledger) → Works (shown g old) false m₀ k₀ m k → Serves (shown g mid) → IsHundredth client floor k x × IsUnderWay (shown g mid) false m₀ k₀ m k
    read = reads_on g {P = λ m k. IsHundredth client floor k x} finds says

    -- nor does one that finds fewer
    pub hundred_none : x ≡ None → TakesHundred g client floor old mid (Ok false)
    hundred_none is = record {
      leaves = let runs = runs_of g finds in record { served = runs.served; clean = runs.clean; holds = runs.holds; crash = runs.crash };
      written = λ m₀ m k₀ k works s. let it = read m₀ m k₀ k works s in
          (k, it.1, (refl, subst (IsHundredth client floor k) is it.0));
    }

    module _ {new : Store S} (last : ℕ) (is : x ≡ Some last) (within : last ≤ floor) where
      -- a hundred go where there are so many
      taken : {A : Type 0} {step : Result A StoreFault} → TakesFew g client last mid new step → (m₀ m : Queue) (k₀ k : Ledger) → Works (shown g old) false m₀ k₀ m k → Serves (shown g new)
          → (through client last k ≡ 100) × Steps (shown g new) step m₀ k₀ m (without_replies client last k)
      taken takes m₀ m k₀ k works s =
          let it = read m₀ m k₀ k works (takes.leaves.served s) in
          let hundred : through client last k ≡ 100 = subst (IsHundredth client floor k) is it.0 in
          (hundred, takes.written m₀ m k₀ k (omega (arith, hundred)) (λ _. it.1) s)

      pub hundred_taken : {A : Type 0} {a : A} → TakesFew g client last mid new (Ok a) → TakesHundred g client floor old new (Ok true)
      hundred_taken takes = record {
        leaves = let runs = runs_then g (runs_of g finds) takes.leaves in record { served = runs.served; clean = runs.clean; holds = runs.holds; crash = runs.crash };
        written = λ m₀ m k₀ k works s. let it = taken takes m₀ m k₀ k works s in
            (without_replies client last k, it.1, record { last = last; within = within; hundred = it.0; is = refl });
      }

      pub hundred_failed : {A : Type 0} {e : StoreFault} (result : Result Bool StoreFault) → IsErrAnd result (λ f. f ≡ e)
          → TakesFew g client last {A = A} mid new (Err e) → TakesHundred g client floor old new result
      hundred_failed (Ok b) told takes = absurd told
      hundred_failed (Err f) told takes = record {
        leaves = runs_err g (Err f) told (runs_then g (runs_of g finds) takes.leaves);
        written = λ m₀ m k₀ k works s. let it = taken takes m₀ m k₀ k works s in
            (without_replies client last k, (told ∙ it.1.0, it.1.1), tt);
      }

  -- Some are gone by now, and none that is left has a number below this one.
  pub record Goes (old new : Store S) (n : ℕ) : Type 0 where
    pub leaves : Runs g old new (Ok (tt {0}))
    pub written : (m₀ m : Queue) (k₀ k : Ledger) → Works (shown g old) false m₀ k₀ m k → Serves (shown g new)
        → (left : Ledger) × (without_replies client floor left ≡ without_replies client floor k) × IsUnderWay (shown g new) false m₀ k₀ m left × NoneBelow client n left

  -- none is at first
  pub goes_first : (s : Store S) → Goes s s 0
  goes_first s = record {
    leaves = record { served = λ serves. serves; clean = λ clean. clean; holds = λ db over serves. over serves; crash = λ active. (active, λ found may. may) };
    written = λ m₀ m k₀ k works serves. (k, refl, works serves, all_of (NotBelow client 0) (λ e on. omega arith) k.replies);
  }

  module _ {old mid new : Store S} {n : ℕ} (goes : Goes old mid n) where
    -- a hundred more
    pub goes_on_by : TakesHundred g client floor mid new (Ok true) → Goes old new (n + 1)
    goes_on_by takes = record {
      leaves = let runs = runs_then g goes.leaves takes.leaves in record { served = runs.served; clean = runs.clean; holds = runs.holds; crash = runs.crash };
      written = λ m₀ m k₀ k works s.
          let one = goes.written m₀ m k₀ k works (takes.leaves.served s) in
          let two = takes.written m₀ m k₀ one.0 (λ _. one.2) s in
          let less = two.2 in
          let same : without_replies client floor two.0 ≡ without_replies client floor one.0 = ap (without_replies client floor) less.is ∙ without_lower client less.last floor one.0 less.within in
          (two.0, same ∙ one.1, two.1, none_next client floor n one.0 two.0 one.3 less);
    }

    -- or fewer than a hundred are left
    pub thins_few : TakesHundred g client floor mid new (Ok false) → Thins g client floor old new (Ok (tt {0}))
    thins_few takes = record {
      leaves = let runs = runs_then g goes.leaves takes.leaves in record { served = runs.served; clean = runs.clean; holds = runs.holds; crash = runs.crash };
      written = λ m₀ m k₀ k works s.
          let one = goes.written m₀ m k₀ k works (takes.leaves.served s) in
          let two = takes.written m₀ m k₀ one.0 (λ _. one.2) s in
          let same : two.0 ≡ one.0 = two.2.0 in
          (two.0, ap (without_replies client floor) same ∙ one.1, two.1, rw same two.2.1);
    }

    -- or a step is refused
    pub thins_failed : {e : StoreFault} (result : Result (Unit {0}) StoreFault) → IsErrAnd result (λ f. f ≡ e) → TakesHundred g client floor mid new (Err e) → Thins g client floor old new result
    thins_failed (Ok b) told takes = absurd told
    thins_failed (Err f) told takes = record {
      leaves = runs_err g (Err f) told (runs_then g goes.leaves takes.leaves);
      written = λ m₀ m k₀ k works s.
          let one = goes.written m₀ m k₀ k works (takes.leaves.served s) in
          let two = takes.written m₀ m k₀ one.0 (λ _. one.2) s in
          (one.0, one.1, (told ∙ two.1.0, two.1.1), tt);
    }

  -- none is left where none has a number through the floor
  pub thins_all : {old new : Store S} (n : ℕ) → floor < n → Goes old new n → Thins g client floor old new (Ok (tt {0}))
  thins_all n above goes = record {
    leaves = goes.leaves;
    written = λ m₀ m k₀ k works s.
        let it = goes.written m₀ m k₀ k works s in
        (it.0, it.1, it.2, (let none = none_through client floor n it.0 above it.3 in omega (arith, none)));
  }
