-- The words of `replay` give the plan with its files.
use Rattle.std.proofs.Common.{◌≡◌, ◌∙◌, List, [], ◌∷◌, codes, Option, Some, None, Result, Ok, Err, refl, sym, ap, subst, inl, inr, arith, slice_index_or}
use Rattle.clap.proofs.OnLiterals.{clap_on_literals}
use Rattle.clap.specs.Faults.{fault_of}
use Rattle.clap.specs.Kinds.{IsAmong, or_else}
use Rattle.clap.specs.Simple.{subcommand_of}
use Rattle.clap.specs.Walk.{Row, Text, finished}
use Rattle.fax_text.proofs.OptionWords.{controls_alone, controls_first, leaf, no_level_fault, setup_alone, setup_first}
use Rattle.fax_text.specs.CommandLine.{AskForReplay, GivesReplay, IsPlainWord}
use Rattle.fax_text.specs.Server.{files_in}
use Rattle.fax_text.specs.Words.{Reads, program}
use Rattle.fax_text.specs.declared.words.Plan.{Plan}
use Rattle.fax_text.specs.declared.words.Plan.TheVariants.{Check, List as ListJobs, Replay, Serve, Sendfax, Import, Settings, Worker, Post}
use Rattle.fax_text.specs.declared.words.WordsFault.{WordsFault}
use Rattle.fax_text.specs.declared.words.WordsFault.TheVariants.{Help, Usage, NoMemory}

-- the words are those of a replay with these files
record IsReplay (words : List Text) (setup controls : Option Text) : Type 0 where
  faults : fault_of program words ≡ []
  rows : List Row
  command : subcommand_of program words ≡ Some (codes "replay", rows)
  files : files_in rows ≡ (setup, controls)

-- `replay` alone is one with no files
without_options : (name : Text) → IsReplay (name ∷ codes "replay" ∷ []) None None
unfolding clap_on_literals
without_options name = record { faults = refl; rows = []; command = refl; files = refl }

-- `replay` with `--setup` is one with that file
with_setup : (name file : Text) → IsPlainWord file → IsReplay (name ∷ codes "replay" ∷ codes "--setup" ∷ file ∷ []) (Some file) None
unfolding clap_on_literals
with_setup name file plain =
    let comes = setup_alone file plain in
    record {
      faults = ap (λ k. or_else k []) (no_level_fault _ _ comes refl);
      rows = _;
      command = ap (λ w. Some (codes "replay", finished leaf.rules w.held)) comes.walks;
      files = refl;
    }

-- `replay` with `--controls` is one with that file
with_controls : (name file : Text) → IsPlainWord file → IsReplay (name ∷ codes "replay" ∷ codes "--controls" ∷ file ∷ []) None (Some file)
unfolding clap_on_literals
with_controls name file plain =
    let comes = controls_alone file plain in
    record {
      faults = ap (λ k. or_else k []) (no_level_fault _ _ comes refl);
      rows = _;
      command = ap (λ w. Some (codes "replay", finished leaf.rules w.held)) comes.walks;
      files = refl;
    }

-- `replay` with both is one with both files
with_setup_first : (name file other : Text) → IsPlainWord file → IsPlainWord other
    → IsReplay (name ∷ codes "replay" ∷ codes "--setup" ∷ file ∷ codes "--controls" ∷ other ∷ []) (Some file) (Some other)
unfolding clap_on_literals
with_setup_first name file other plain plain₂ =
    let comes = setup_first file other plain plain₂ in
    record {
      faults = ap (λ k. or_else k []) (no_level_fault _ _ comes refl);
      rows = _;
      command = ap (λ w. Some (codes "replay", finished leaf.rules w.held)) comes.walks;
      files = refl;
    }

-- the same in the other order
with_controls_first : (name file other : Text) → IsPlainWord file → IsPlainWord other
    → IsReplay (name ∷ codes "replay" ∷ codes "--controls" ∷ file ∷ codes "--setup" ∷ other ∷ []) (Some other) (Some file)
unfolding clap_on_literals
with_controls_first name file other plain plain₂ =
    let comes = controls_first file other plain plain₂ in
    record {
      faults = ap (λ k. or_else k []) (no_level_fault _ _ comes refl);
      rows = _;
      command = ap (λ w. Some (codes "replay", finished leaf.rules w.held)) comes.walks;
      files = refl;
    }

-- words that ask for a replay are one with its files
asked : (name : Text) (setup controls : Option Text) (words : List Text) → AskForReplay setup controls words → IsReplay (name ∷ words) setup controls
asked name None None words (a, b, inl e) = subst (λ w. IsReplay (name ∷ w) None None) (sym e) (without_options name)
asked name None None words (a, b, inr e) = subst (λ w. IsReplay (name ∷ w) None None) (sym e) (without_options name)
asked name (Some file) None words (a, b, inl e) = subst (λ w. IsReplay (name ∷ w) (Some file) None) (sym e) (with_setup name file a)
asked name (Some file) None words (a, b, inr e) = subst (λ w. IsReplay (name ∷ w) (Some file) None) (sym e) (with_setup name file a)
asked name None (Some file) words (a, b, inl e) = subst (λ w. IsReplay (name ∷ w) None (Some file)) (sym e) (with_controls name file b)
asked name None (Some file) words (a, b, inr e) = subst (λ w. IsReplay (name ∷ w) None (Some file)) (sym e) (with_controls name file b)
asked name (Some file) (Some other) words (a, b, inl e) =
    subst (λ w. IsReplay (name ∷ w) (Some file) (Some other)) (sym e) (with_setup_first name file other a b)
asked name (Some file) (Some other) words (a, b, inr e) =
    subst (λ w. IsReplay (name ∷ w) (Some file) (Some other)) (sym e) (with_controls_first name other file b a)

abbrev entered : List Row → Option (Text × List Row)
entered rows = Some (codes "replay", rows)

-- the rows of a command, or none
rows_in : Option (Text × List Row) → List Row
rows_in None = []
rows_in (Some found) = found.1

-- one command has one list of rows
same_rows : (rows other : List Row) → entered rows ≡ entered other → rows ≡ other
unfolding rows_in
same_rows rows other e = ap rows_in e

-- the name of a command, or none
name_in : Option (Text × List Row) → Text
name_in None = []
name_in (Some found) = found.0

-- `replay` isn't `serve`
no_serve : (rows other : List Row) → ¬ (Some (codes "serve", rows) ≡ entered other)
unfolding name_in
no_serve rows other e = let no : codes "serve" ≡ codes "replay" = ap name_in e in cc

-- nor `list`
no_list : (rows other : List Row) → ¬ (Some (codes "list", rows) ≡ entered other)
unfolding name_in
no_list rows other e = let no : codes "list" ≡ codes "replay" = ap name_in e in cc

-- nor `check`
no_check : (rows other : List Row) → ¬ (Some (codes "check", rows) ≡ entered other)
unfolding name_in
no_check rows other e = let no : codes "check" ≡ codes "replay" = ap name_in e in cc

-- nor `sendfax`
no_sendfax : (rows other : List Row) → ¬ (Some (codes "sendfax", rows) ≡ entered other)
unfolding name_in
no_sendfax rows other e = let no : codes "sendfax" ≡ codes "replay" = ap name_in e in cc

-- nor `import`
no_import : (rows other : List Row) → ¬ (Some (codes "import", rows) ≡ entered other)
unfolding name_in
no_import rows other e = let no : slice_index_or (codes "import") 0 0 ≡ slice_index_or (codes "replay") 0 0 = ap (λ found. slice_index_or (name_in found) 0 0) e in absurd (omega (arith, no))

-- nor `settings`
no_settings : (rows other : List Row) → ¬ (Some (codes "settings", rows) ≡ entered other)
unfolding name_in
no_settings rows other e = let no : codes "settings" ≡ codes "replay" = ap name_in e in cc

-- nor `worker`
no_worker : (rows other : List Row) → ¬ (Some (codes "worker", rows) ≡ entered other)
unfolding name_in
no_worker rows other e = let no : slice_index_or (codes "worker") 0 0 ≡ slice_index_or (codes "replay") 0 0 = ap (λ found. slice_index_or (name_in found) 0 0) e in absurd (omega (arith, no))

-- nor `post`
no_post : (rows other : List Row) → ¬ (Some (codes "post", rows) ≡ entered other)
unfolding name_in
no_post rows other e = let no : codes "post" ≡ codes "replay" = ap name_in e in cc

-- words of a replay give its plan
given : (words : List Text) (setup controls : Option Text) (result : Result Plan WordsFault) → IsReplay words setup controls
    → Reads words result → GivesReplay setup controls result
given words setup controls (Ok (Serve plan)) is reads = no_serve reads.0.0 is.rows (sym reads.0.1 ∙ is.command)
given words setup controls (Ok (ListJobs plan)) is reads = no_list reads.0.0 is.rows (sym reads.0.1 ∙ is.command)
given words setup controls (Ok (Check plan)) is reads = no_check reads.0.0 is.rows (sym reads.0.1 ∙ is.command)
given words setup controls (Ok (Sendfax plan)) is reads = no_sendfax reads.0.0 is.rows (sym reads.0.1 ∙ is.command)
given words setup controls (Ok (Import plan)) is reads = no_import reads.0.0 is.rows (sym reads.0.1 ∙ is.command)
given words setup controls (Ok (Settings files)) is reads = no_settings reads.0.0 is.rows (sym reads.0.1 ∙ is.command)
given words setup controls (Ok (Worker plan)) is reads = no_worker reads.0.0 is.rows (sym reads.0.1 ∙ is.command)
given words setup controls (Ok (Post plan)) is reads = no_post reads.0.0 is.rows (sym reads.0.1 ∙ is.command)
given words setup controls (Ok (Replay files)) is reads =
    reads.0.2 ∙ ap files_in (same_rows reads.0.0 is.rows (sym reads.0.1 ∙ is.command)) ∙ is.files
given words setup controls (Err (Help text)) is reads = subst (IsAmong reads.0) is.faults reads.1
given words setup controls (Err (Usage text)) is (inl reads) = subst (IsAmong reads.0) is.faults reads.1
given words setup controls (Err (Usage text)) is (inr none) = none.1.replay is.rows is.command
given words setup controls (Err NoMemory) is reads = tt

-- so do words that ask for one
pub gives_replay : (name : Text) (words : List Text) (result : Result Plan WordsFault) → Reads (name ∷ words) result
    → (setup controls : Option Text) → AskForReplay setup controls words → GivesReplay setup controls result
gives_replay name words result reads setup controls asks = given (name ∷ words) setup controls result (asked name setup controls words asks) reads
