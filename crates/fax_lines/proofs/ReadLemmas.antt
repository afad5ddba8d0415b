-- Reading line by line, as a loop does.
use Rattle.std.proofs.Common.{◌≡◌, ℕ, ◌+◌, Bool, true, false, List, [], ◌∷◌, refl, sym, ◌∙◌}
use Rattle.std.specs.Prelude.{Option, Result, Ok, Err, ⊤}
use Rattle.std.specs.Bool.{MatchBool}
use Rattle.fax_job.specs.declared.lines.LineFault.{LineFault}
use Rattle.fax_job.specs.Pair.{Pair}
use Rattle.fax_lines.specs.Reading.{State, step, ended, read_on}

-- a line that is read lets reading go on behind it
pub goes_on : (rest : List (List ℕ)) (line : List ℕ) (after : List (List ℕ)) (n : ℕ) (seen : List Pair) (begun : Option (List ℕ)) (state : State) (total : Result (List Pair) LineFault) → rest ≡ line ∷ after → step (n + 1) seen begun line ≡ Ok state → read_on rest n seen begun ≡ total → read_on after (n + 1) state.0 state.1 ≡ total
unfolding read_on
goes_on rest line after n seen begun state total cut one so_far =
    let whole : read_on rest n seen begun ≡ read_on after (n + 1) state.0 state.1 = rw (cut, one) refl in
    sym whole ∙ so_far

-- a line with a fault ends reading with it, unless memory ran out
pub fails : (b : Bool) (rest : List (List ℕ)) (line : List ℕ) (after : List (List ℕ)) (n : ℕ) (seen : List Pair) (begun : Option (List ℕ)) (fault : LineFault) (total : Result (List Pair) LineFault) → rest ≡ line ∷ after → MatchBool b ⊤ (step (n + 1) seen begun line ≡ Err fault) → read_on rest n seen begun ≡ total → MatchBool b ⊤ (total ≡ Err fault)
unfolding read_on
fails true rest line after n seen begun fault total cut one so_far = tt
fails false rest line after n seen begun fault total cut one so_far =
    let whole : read_on rest n seen begun ≡ Err fault = rw (cut, one) refl in
    sym so_far ∙ whole

-- where no line is left, reading ends
pub is_done : (rest : List (List ℕ)) (n : ℕ) (seen : List Pair) (begun : Option (List ℕ)) (total : Result (List Pair) LineFault) → rest ≡ [] → read_on rest n seen begun ≡ total → total ≡ ended n seen begun
unfolding read_on
is_done rest n seen begun total cut so_far =
    let whole : read_on rest n seen begun ≡ ended n seen begun = rw cut refl in
    sym so_far ∙ whole
