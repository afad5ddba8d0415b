-- The texts of a step, one after the other, and steps one after the other.
use Rattle.std.proofs.Common.{◌≡◌, ◌≤◌, ◌<◌, ◌-◌, ◌||◌, inl, inr, ℕ, List, [], ◌∷◌, true, not, map, length, take, drop, get_or, IsTrue, Ok, Result, refl, sym, ap, subst, subst₂, ◌∙◌, arith, if◌then◌else◌}
use Rattle.std.specs.List.{list_all}
use Rattle.std.proofs.lemmas.List.{take_all}
use Rattle.sqlite.specs.Command.{Command}
use Rattle.sqlite.specs.Command.TheVariants.{CreateIndex, CreateTable, DropIndex, DropTable}
use Rattle.sqlite.specs.Effect.{IsDatabase}
use Rattle.sqlite.specs.Held.{Held, state}
use Rattle.sqlite.specs.Listing.{understood}
use Rattle.sqlite.specs.State.{State, HasCleanDisk, CommitsBy, Executes, Survives}
use Rattle.sqlite.specs.declared.error.Error.{Error}
use Rattle.sqlite.proofs.Callers.{command_of}
use Rattle.sqlite_catalog.specs.Change.{KeepsRows, next_tree}
use Rattle.sqlite_rules.specs.Lists.{Has}
use Rattle.sqlite_schema.specs.declared.schema.Schema.{Schema}
use Rattle.sqlite_trees.specs.declared.store.Store.{Ghosts}
use Rattle.fax_schema.specs.declared.statements.TheConstants.{CREATE_CALLS}
use Rattle.fax_schema.specs.declared.way.Step.{Step}
use Rattle.fax_schema.specs.declared.way.Way.{Way}
use Rattle.fax_schema.specs.Schema as schema
use Rattle.fax_schema.specs.Schema.{AreOurs, calls_tree, core_list, core_tables, no_tables, our_tables}
use Rattle.fax_schema.specs.Way.{Leads, changes, texts_of}
use Rattle.fax_schema.proofs.CreateTexts.{Passes, Turns, passes}
use Rattle.fax_schema.proofs.GrantTexts.{created_calls, makes_calls}
use Rattle.fax_layout.proofs.RowsLemmas.{all_both, are_in, are_self, at_tree, is_in, kept_rows}
use Rattle.fax_tables.specs.Making.{Alters, Always, IsBefore, IsOn}
use Rattle.fax_tables.specs.Tables.{ComesTo, GoesOn, HasCoreTables, HasNewCalls}
use Rattle.fax_tables.proofs.AlterLemmas.{alters_as, alters_none, alters_some, alters_then, statement}
use Rattle.fax_tables.proofs.CreateLemmas.{added, dropped, lost_index, made_index, renews_core, renews_then}
use Rattle.fax_layout.proofs.StopLemmas.{Ends, any_holds_back}
use Rattle.fax_tables.proofs.WayLemmas.{comes, comes_then, kept_in, kept_twice, only_in, only_there, stays, still_none}

-- ---- one text

-- it leaves these tables, with the rows of those that were there
record IsTurned (to : Schema) (old new : State) : Type 0 where
  schema_is : new.now.schema ≡ to
  sound : IsDatabase new.now
  rows : KeepsRows to.tables (only_in old.now.schema.tables old.now.trees) new.now.trees

turned : (old new : State) (sql : List ℕ) (to : Schema) (n : ℕ) → Turns old.now.schema sql to → Executes sql [] old new (Ok n) → IsTrue old.in_transaction → GoesOn old new × IsTurned to old new
turned old new sql to n (inl adds) ran inside =
    let before = old.now.schema in
    let it = added old new before to sql adds.table n adds.makes adds.is adds.lacks ran inside refl in
    let only = only_in before.tables old.now.trees in
    let fresh : new.now.trees (next_tree before) ≡ only (next_tree before) = it.4 ∙ sym (ap (λ b. if b then old.now.trees (next_tree before) else []) adds.new) in
    let kept = kept_rows before.tables only old.now.trees new.now.trees (only_there before.tables before.tables old.now.trees (are_self before.tables)) it.3 in (
      it.0,
      record {
        schema_is = it.1;
        sound = it.2;
        rows = subst (λ (s : Schema). KeepsRows s.tables only new.now.trees) adds.is (all_both (λ t. new.now.trees t.tree ≡ only t.tree) before.tables (record (adds.table) { tree = next_tree before } ∷ []) kept (fresh, tt));
      },
    )
turned old new sql to n (inr (inl adds)) ran inside =
    let before = old.now.schema.tables in
    let it = made_index old new old.now.schema to sql n adds ran inside refl in
    let kept = kept_rows before (only_in before old.now.trees) old.now.trees new.now.trees (only_there before before old.now.trees (are_self before)) it.3 in
    (it.0, record { schema_is = it.1; sound = it.2; rows = subst (λ ts. KeepsRows ts (only_in before old.now.trees) new.now.trees) adds.tables kept })
turned old new sql to n (inr (inr (inl takes))) ran inside =
    let before = old.now.schema.tables in
    let it = dropped old new old.now.schema to sql n takes ran inside refl in
    (it.0, record { schema_is = it.1; sound = it.2; rows = kept_rows to.tables (only_in before old.now.trees) old.now.trees new.now.trees (only_there before to.tables old.now.trees takes.still) it.3 })
turned old new sql to n (inr (inr (inr loses))) ran inside =
    let before = old.now.schema.tables in
    let it = lost_index old new old.now.schema to sql n loses ran inside refl in
    let there = only_there before to.tables old.now.trees (subst (λ ts. are_in before ts ≡ true) loses.tables (are_self before)) in
    (it.0, record { schema_is = it.1; sound = it.2; rows = kept_rows to.tables (only_in before old.now.trees) old.now.trees new.now.trees there it.3 })

-- by a command that ends no transaction
command_is : (before to : Schema) (sql : List ℕ) → Turns before sql to → (command : Command) × (command_of (understood before sql) ≡ command) × (Ends command → ⊥)
command_is before to sql (inl adds) = (CreateTable, (adds.makes).command, λ e. e)
command_is before to sql (inr (inl adds)) = (CreateIndex adds.at, adds.command, λ e. e)
command_is before to sql (inr (inr (inl takes))) = (DropTable takes.at, takes.command, λ e. e)
command_is before to sql (inr (inr (inr loses))) = (DropIndex loses.at, loses.command, λ e. e)

-- inside a transaction, over tables that this text turns
record IsTurning (sql : List ℕ) (next : Schema → Type 0) (s : State) : Type 0 where
  inside : IsTrue s.in_transaction
  to : Schema
  turns : Turns s.now.schema sql to
  on : next to

-- it has turned them
record HasTurned (next : Schema → Type 0) (old new : State) : Type 0 where
  turned : IsTurned new.now.schema old new
  on : next new.now.schema

module _ {S : Type 0} (g : Ghosts S) where
  text : (a b : Held S) (sql : List ℕ) (next : Schema → Type 0) (r : Result ℕ Error) → Survives (state g a) (state g b) (CommitsBy sql [] (state g a)) → (HasCleanDisk (state g b) → Executes sql [] (state g a) (state g b) r)
      → Alters g (IsTurning sql next) Always (HasTurned next) a b r
  text a b sql next r survives runs =
      statement g a b sql r (IsTurning sql next) (HasTurned next)
      (λ n ran was.
      let it = turned (state g a) (state g b) sql was.to n was.turns ran was.inside in
      let is = it.1.schema_is in
      (it.0, record { turned = subst (λ s. IsTurned s (state g a) (state g b)) (sym is) it.1; on = subst next (sym is) was.on }))
      (any_holds_back (state g a) (state g b) (IsTurning sql next) sql (λ was. let it = command_is (state g a).now.schema was.to sql was.turns in (was.inside, it.0, it.1, it.2)) survives) survives runs

-- ---- the texts of a step

-- The texts before have turned what was there, and those that are left lead on.
pub record IsAlong (texts : List (List ℕ)) (to : Schema) (old new : State) : Type 0 where
  pub passes : Passes old.now.schema.tables new.now.schema texts to
  pub rows : KeepsRows new.now.schema.tables (only_in old.now.schema.tables old.now.trees) new.now.trees

abbrev Fits : State → State → List (List ℕ) → Schema → Schema → Type 0
Fits old mid texts to next = (list_all (λ t. is_in mid.now.schema.tables t.tree || not (is_in old.now.schema.tables t.tree)) next.tables ≡ true) × Passes old.now.schema.tables next texts to

module _ {S : Type 0} (g : Ghosts S) where
  module _ (step : Step) (to : Schema) where
    abbrev pub P : State → Type 0
    P = IsBefore (step ∷ []) to

    -- none of them
    pub along_none : (a : Held S) (texts : List (List ℕ)) → texts ≡ texts_of step → Alters g {A = Unit {0}} {E = Error} P P (IsAlong texts to) a a (Ok tt)
    along_none a texts all = alters_none g a P (IsAlong texts to) tt (λ was.
        let s = (state g a).now.schema in
        let has : Has (changes step) (s, to) = subst (λ b. Has (changes step) (s, b)) (was.leads).2 (was.leads).1 in
        (was.is_open, was.inside, record { passes = subst (λ texts. Passes s.tables s texts to) (sym all) (passes step s to has); rows = only_there s.tables s.tables (state g a).now.trees (are_self s.tables) }))

    -- one more
    pub along : (a b c : Held S) (left : List (List ℕ)) (sql : List ℕ) (texts : List (List ℕ)) (r : Result ℕ Error) → left ≡ sql ∷ texts → Alters g {A = Unit {0}} {E = Error} P P (IsAlong left to) a b (Ok tt)
        → Survives (state g b) (state g c) (CommitsBy sql [] (state g b)) → (HasCleanDisk (state g c) → Executes sql [] (state g b) (state g c) r) → Alters g P P (IsAlong texts to) a c r
    along a b c left sql texts r is before survives runs =
        let next = Fits (state g a) (state g b) texts to in
        alters_then g a b c P (IsTurning sql next) P Always (IsAlong (sql ∷ texts) to) (HasTurned next) (IsAlong texts to) tt r
        (λ it. let on = it.1.passes in record { inside = it.0.mode; to = on.0; turns = on.1; on = (on.2, on.3) }) (λ was. tt)
        (λ one two. record {
          passes = two.on.1;
          rows = kept_twice (state g a).now.schema.tables (state g b).now.schema.tables (state g c).now.schema.tables (state g a).now.trees (state g b).now.trees (state g c).now.trees two.on.0 one.rows (two.turned).rows;
        }) (subst (λ left. Alters g {A = Unit {0}} {E = Error} P P (IsAlong left to) a b (Ok tt)) is before) (text g b c sql next r survives runs)

    -- all of them
    pub along_all : (a b : Held S) (left : List (List ℕ)) → left ≡ [] → Alters g {A = Unit {0}} {E = Error} P P (IsAlong left to) a b (Ok tt) → Alters g {A = Unit {0}} {E = Error} P P (λ old new. ComesTo to old.now new.now) a b (Ok tt)
    along_all a b left is before = alters_as g a b P P P (IsAlong [] to) (λ old new. ComesTo to old.now new.now) (Ok tt) (λ was. was)
        (λ was on it. comes step to (state g a).now (state g b).now (subst (λ x. Has (changes step) ((state g a).now.schema, x)) (was.leads).2 (was.leads).1) it.passes it.rows) (λ was. was)
        (subst (λ left. Alters g {A = Unit {0}} {E = Error} P P (IsAlong left to) a b (Ok tt)) is before)

  -- ---- steps

  -- Those before have been taken, and those that are left lead on.
  pub record IsOnItsWay (steps : List Step) (to : Schema) (old new : State) : Type 0 where
    pub come : ComesTo new.now.schema old.now new.now
    pub leads : Leads steps new.now.schema to

  -- wherever these steps lead
  abbrev pub Takes : List Step → Held S → Held S → Result (Unit {0}) Error → Type 0
  Takes steps a b r = (to : Schema) → Alters g (IsBefore steps to) (IsBefore steps to) (λ old new. ComesTo to old.now new.now) a b r

  -- none of them
  pub way_none : (a : Held S) (steps : List Step) (to : Schema) → Alters g {A = Unit {0}} {E = Error} (IsBefore steps to) (IsBefore steps to) (IsOnItsWay steps to) a a (Ok tt)
  way_none a steps to = alters_none g a (IsBefore steps to) (IsOnItsWay steps to) tt (λ was. (was.is_open, was.inside, record { come = stays (state g a).now; leads = was.leads }))

  -- one more
  pub way_on : (all : List Step) (to : Schema) (a b c : Held S) (left : List Step) (step : Step) (steps : List Step) (r : Result (Unit {0}) Error) → left ≡ step ∷ steps
      → Alters g {A = Unit {0}} {E = Error} (IsBefore all to) (IsBefore all to) (IsOnItsWay left to) a b (Ok tt) → Takes (step ∷ []) b c r → Alters g (IsBefore all to) (IsBefore all to) (IsOnItsWay steps to) a c r
  way_on all to a b c left step steps r is before next =
      alters_then g a b c (IsBefore all to) (IsBefore (step ∷ steps) to) (IsBefore all to) (IsBefore (step ∷ steps) to) (IsOnItsWay (step ∷ steps) to) (IsOnItsWay steps to) (IsOnItsWay steps to) tt r
      (λ it. record { is_open = it.0.is_open; inside = it.0.mode; leads = it.1.leads }) (λ was. was)
      (λ one two. record { come = comes_then (state g c).now.schema (state g a).now (state g b).now (state g c).now one.come two.come; leads = two.leads })
      (subst (λ left. Alters g {A = Unit {0}} {E = Error} (IsBefore all to) (IsBefore all to) (IsOnItsWay left to) a b (Ok tt)) is before)
      (alters_some g b c (IsBefore (step ∷ [])) (IsBefore (step ∷ steps) to) (λ x old new. ComesTo x old.now new.now) (IsOnItsWay steps to) r no_tables
      (λ was. let on = was.leads in (
        on.0,
        record { is_open = was.is_open; inside = was.inside; leads = (on.0, on.1, refl) },
        λ come. record { come = subst (λ x. ComesTo x (state g b).now (state g c).now) (sym come.schema_is) come; leads = subst (λ x. Leads steps x to) (sym come.schema_is) on.2 },
      )) next)

  -- all of them
  pub way_all : (all : List Step) (to : Schema) (a b : Held S) (left : List Step) → left ≡ [] → Alters g {A = Unit {0}} {E = Error} (IsBefore all to) (IsBefore all to) (IsOnItsWay left to) a b (Ok tt)
      → Alters g {A = Unit {0}} {E = Error} (IsBefore all to) (IsBefore all to) (λ old new. ComesTo to old.now new.now) a b (Ok tt)
  way_all all to a b left is before = alters_as g a b (IsBefore all to) (IsBefore all to) (IsBefore all to) (IsOnItsWay [] to) (λ old new. ComesTo to old.now new.now) (Ok tt) (λ was. was)
      (λ was on it. subst (λ x. ComesTo x (state g a).now (state g b).now) it.leads it.come) (λ was. was)
      (subst (λ left. Alters g {A = Unit {0}} {E = Error} (IsBefore all to) (IsBefore all to) (IsOnItsWay left to) a b (Ok tt)) is before)

  -- ---- a way, and `calls`

  -- what is in the way is lost
  pub lost : (way : Way) (a b : Held S) (r : Result (Unit {0}) Error) → Takes (way.loses).now a b r → Alters g (IsOn way) (IsOn way) (IsOnItsWay (way.gains).now core_tables) a b r
  lost way a b r = alters_some g a b (IsBefore (way.loses).now) (IsOn way) (λ x old new. ComesTo x old.now new.now) (IsOnItsWay (way.gains).now core_tables) r no_tables
      (λ was. let on = was.is_way in (
        on.0,
        record { is_open = was.is_open; inside = was.inside; leads = on.1 },
        λ come. record { come = subst (λ x. ComesTo x (state g a).now (state g b).now) (sym come.schema_is) come; leads = subst (λ x. Leads (way.gains).now x core_tables) (sym come.schema_is) on.2 },
      ))

  -- then it gets what it lacks
  pub gained : (way : Way) (a b c : Held S) (r : Result (Unit {0}) Error) → Takes (way.loses).now a b (Ok tt) → Takes (way.gains).now b c r
      → Alters g (IsOn way) (IsOn way) (λ old new. ComesTo core_tables old.now new.now) a c r
  gained way a b c r loses gains =
      alters_then g a b c (IsOn way) (IsBefore (way.gains).now core_tables) (IsOn way) (IsBefore (way.gains).now core_tables) (IsOnItsWay (way.gains).now core_tables) (λ old new. ComesTo core_tables old.now new.now)
      (λ old new. ComesTo core_tables old.now new.now) tt r (λ it. record { is_open = it.0.is_open; inside = it.0.mode; leads = it.1.leads }) (λ was. was)
      (λ one two. comes_then core_tables (state g a).now (state g b).now (state g c).now one.come two) (lost way a b (Ok tt) loses) (gains core_tables)

  -- and `calls`, with no rows
  pub renewed : (way : Way) (a b c d : Held S) (r : Result (Unit {0}) Error) → Takes (way.loses).now a b (Ok tt) → Takes (way.gains).now b c (Ok tt) → Alters g HasCoreTables HasCoreTables (λ old new. HasNewCalls old.now new.now) c d r
      → Alters g (IsOn way) (IsOn way) (λ old new. HasNewCalls old.now new.now) a d r
  renewed way a b c d r loses gains =
      alters_then g a c d (IsOn way) HasCoreTables (IsOn way) HasCoreTables (λ old new. ComesTo core_tables old.now new.now) (λ old new. HasNewCalls old.now new.now) (λ old new. HasNewCalls old.now new.now) tt r
      (λ it. record { inside = it.0.mode; schema_is = it.1.schema_is }) (λ was. was)
      (λ one two. record {
        schema_is = two.schema_is;
        sound = two.sound;
        renews = λ ours. renews_then (state g a).now (state g c).now (state g d).now (one.renews ours) (two.renews (subst AreOurs (sym one.schema_is) (one.ours ours)));
        empty = λ none. two.empty (one.empty none);
        none = two.none;
      }) (gained way a b c (Ok tt) loses gains)

  -- the text of `calls`
  pub calls_made : (a b : Held S) (r : Result ℕ Error) → Survives (state g a) (state g b) (CommitsBy CREATE_CALLS.now [] (state g a)) → (HasCleanDisk (state g b) → Executes CREATE_CALLS.now [] (state g a) (state g b) r)
      → Alters g HasCoreTables HasCoreTables (λ old new. HasNewCalls old.now new.now) a b r
  calls_made a b r survives runs =
      let next = λ (s : Schema). s ≡ our_tables in
      let adds : Turns core_tables CREATE_CALLS.now our_tables = inl (record { table = schema.calls; makes = makes_calls; is = created_calls; lacks = refl; new = refl }) in
      alters_as g a b (IsTurning CREATE_CALLS.now next) HasCoreTables Always (HasTurned next) (λ old new. HasNewCalls old.now new.now) r
      (λ was. record { inside = was.inside; to = our_tables; turns = subst (λ s. Turns s CREATE_CALLS.now our_tables) (sym was.schema_is) adds; on = refl })
      (λ was on it.
      let rows = subst₂ (λ (x y : Schema). KeepsRows y.tables (only_in x.tables (state g a).now.trees) (state g b).now.trees) was.schema_is it.on (it.turned).rows in
      record {
        schema_is = it.on;
        sound = (it.turned).sound;
        renews = λ ours. renews_core (state g a).now (state g b).now core_tables our_tables refl refl refl refl was.schema_is it.on (kept_in core_list core_list our_tables.tables (state g a).now.trees (state g b).now.trees refl refl rows);
        empty = λ none. still_none (state g a).now.schema.tables (state g b).now.schema.tables (state g a).now.trees (state g b).now.trees none (it.turned).rows;
        none = at_tree (λ tree. (state g b).now.trees tree ≡ only_in core_list (state g a).now.trees tree) our_tables.tables calls_tree refl rows;
      }) (λ was. tt) (text g a b CREATE_CALLS.now next r survives runs)

-- ---- the first of some, and the others

pub first_of : {X : Type 0} (xs : List X) (d : X) → 1 ≤ length xs → xs ≡ get_or xs 0 d ∷ take (length xs - 1) (drop 1 xs)
first_of [] d some = absurd (omega arith)
first_of (x ∷ xs) d some = ap (λ rest. x ∷ rest) (sym (take_all (length (x ∷ xs) - 1) xs (omega arith)))

pub first_and_rest : {X Y : Type 0} (f : X → Y) (xs : List X) (d : X) → 1 ≤ length xs → map f xs ≡ f (get_or xs 0 d) ∷ map f (take (length xs - 1) (drop 1 xs))
first_and_rest f xs d some = ap (map f) (first_of xs d some)

pub nothing_left : {X : Type 0} (xs : List X) → length xs < 1 → xs ≡ []
nothing_left [] low = refl
nothing_left (x ∷ xs) low = absurd (omega arith)

pub none_left : {X Y : Type 0} (f : X → Y) (xs : List X) → length xs < 1 → map f xs ≡ []
none_left f xs low = ap (map f) (nothing_left xs low)
