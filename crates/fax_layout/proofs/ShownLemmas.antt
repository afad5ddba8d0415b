-- A text that shows no rows of a write shows none over any schema.
use Rattle.std.proofs.Common.{◌≡◌, ℕ, ◌+◌, ◌==◌, Bool, true, false, List, length, Option, None, Ok, Err, refl, sym, ap, subst, ◌∙◌, if◌then◌else◌, inl, inr}
use Rattle.std.proofs.lemmas.Bool.{cases_Bool}
use Rattle.sqlite_ast.specs.declared.Shown.{Shown}
use Rattle.sqlite_ast.specs.declared.Statement.{Statement}
use Rattle.sqlite_ast.specs.declared.Statement.TheVariants as written
use Rattle.sqlite_schema.specs.declared.command.Command.{Command}
use Rattle.sqlite_schema.specs.declared.command.Returning.{Returning}
use Rattle.sqlite_schema.specs.declared.schema.Schema.{Schema}
use Rattle.sqlite_syntax.specs.declared.statement.Parsed.{Parsed}
use Rattle.sqlite_resolve.specs.declared.compiled.Compiled.{Compiled}
use Rattle.sqlite_resolve.specs.declared.error.CompileError.{CompileError}
use Rattle.sqlite_resolve.specs.Lowering.{Checked, and_then}
use Rattle.sqlite_resolve.specs.Scope.{Name}
use Rattle.sqlite_resolve.specs.Body.{table_at}
use Rattle.sqlite_resolve.specs.Compile.{command, compiled, first, meaning, planned, returning, shows, small, source_of, target, timed}
use Rattle.sqlite_resolve.specs.Given.{returned}
use Rattle.fax_layout.proofs.WriteLemmas.{same_value}
use Rattle.sqlite.specs.Listing.{understood, reads_listing, listing_schema, if_select, is_select}

-- where two steps are done, the first was and then the second
through : {A B : Type 0} (x : Checked A) (f : A → Checked B) (b : B) → and_then x f ≡ Ok b → (a : A) × (x ≡ Ok a) × (f a ≡ Ok b)
through (Ok a) f b h = (a, refl, h)
through (Err e) f b h = absurd cc

not_ok : {A : Type 0} {a : A} {f : CompileError} → ◌≡◌ {A = Checked A} (Err f) (Ok a) → ⊥
not_ok e = cc

-- none is given where each way to one gives none
refuses : {X A : Type 0} (x : Checked X) (f : X → Checked (Option A)) → ((a : X) → f a ≡ Ok None → ⊥) → and_then x f ≡ Ok None → ⊥
refuses (Ok a) f never h = never a h
refuses (Err e) f never h = not_ok h

-- a text that is understood is compiled over some schema
compiled_over : (schema : Schema) (sql : List ℕ) (c : Compiled) → understood schema sql ≡ Ok c → (s : Schema) × (compiled s sql ≡ Ok c)
unfolding understood
compiled_over schema sql c h = by (reads_listing schema sql) h
  where
    selected : (r : Checked Compiled) → if_select r ≡ Ok c → r ≡ Ok c
    selected (Ok d) e = elim (cases_Bool (is_select d.command)) [ inl it ↦ rw it at e | inr other ↦ absurd (not_ok (rw other at e)) ]
    selected (Err f) e = absurd cc

    by : (b : Bool) → (if b then if_select (compiled listing_schema sql) else compiled schema sql) ≡ Ok c → (s : Schema) × (compiled s sql ≡ Ok c)
    by true e = (listing_schema, selected (compiled listing_schema sql) e)
    by false e = (schema, e)

-- what it shows is that of its statement
shown_by : (s : Schema) (sql : List ℕ) (c : Compiled) → compiled s sql ≡ Ok c → (p : Parsed) × (first sql ≡ Ok p) × (base : ℕ) × (returning s base p.statement ≡ Ok c.returning)
unfolding compiled planned meaning
shown_by s sql c h =
    let parsed = through (first sql) _ c h in
    let p = parsed.0 in
    let plan = through (planned s p) _ c parsed.2 in
    let base = small p.names + small (timed s p.formats p.statement) in
    let found = through (meaning s p base) _ plan.0 plan.1 in
    let shows = through (returning s base p.statement) _ found.0 found.1 in
    let rest = through (command s p.formats base p.statement) (λ k. Ok (k, shows.0)) found.0 shows.2 in
    let in_found = ap (λ (x : Command × Option Returning). x.1) (same_value rest.2) in
    let in_plan = ap (λ (x : List Name × (Command × Option Returning)). x.1.1) (same_value found.2) in
    let in_compiled = ap (λ (x : Compiled). x.returning) (same_value plan.2) in
    (p, parsed.1, base, shows.1 ∙ ap Ok (in_found ∙ in_plan ∙ in_compiled))

-- where a statement's columns show none, none were named
none_shown : (s : Schema) (base : ℕ) (name : Name) (shown : List Shown) → shows s base name shown ≡ Ok None → length shown == 0 ≡ true
unfolding shows
none_shown s base name shown h = elim (cases_Bool (length shown == 0)) [
  | inl none ↦ none
  | inr more ↦ absurd (refuses (target s name) _ (λ at. refuses (table_at s at) _ (λ table. refuses (returned s table base shown) _ (λ r. refuses (source_of s (length r.0) r.1) _ (λ source e. absurd cc)))) (rw more at h))
]

-- where none are named, none are shown over any schema
shown_nowhere : (s : Schema) (base : ℕ) (name : Name) (shown : List Shown) (r : Option Returning) → length shown == 0 ≡ true → shows s base name shown ≡ Ok r → r ≡ None
unfolding shows
shown_nowhere s base name shown r none h = sym (same_value (rw none at h))

-- a statement that shows nothing over one schema shows nothing over another
still_none : (s t : Schema) (base other : ℕ) (statement : Statement) (r : Option Returning) → returning s base statement ≡ Ok None → returning t other statement ≡ Ok r → r ≡ None
unfolding returning
still_none s t base other (written.Insert how name columns rows clauses shown) r none h = shown_nowhere t other name shown r (none_shown s base name shown none) h
still_none s t base other (written.Update name sets test shown) r none h = shown_nowhere t other name shown r (none_shown s base name shown none) h
still_none s t base other (written.Delete name test shown) r none h = shown_nowhere t other name shown r (none_shown s base name shown none) h
still_none s t base other _ r none h = sym (same_value h)

-- a text that shows no rows of a write over one schema shows none over another
pub shows_nothing : (s t : Schema) (sql : List ℕ) (c d : Compiled) → understood s sql ≡ Ok c → c.returning ≡ None → understood t sql ≡ Ok d → d.returning ≡ None
shows_nothing s t sql c d at_s none at_t =
    let one = compiled_over s sql c at_s in
    let two = compiled_over t sql d at_t in
    let here = shown_by one.0 sql c one.1 in
    let there = shown_by two.0 sql d two.1 in
    let same : there.0 ≡ here.0 = same_value (sym there.1 ∙ here.1) in
    still_none one.0 two.0 here.2 there.2 here.0.statement d.returning (here.3 ∙ ap Ok none) (subst (λ (p : Parsed). returning two.0 there.2 p.statement ≡ Ok d.returning) same there.3)
