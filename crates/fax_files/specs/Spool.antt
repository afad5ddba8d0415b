-- The imports of an older queue's files.
use Rattle.std.specs.Prelude.{◌≡◌, ◌≤◌, ◌⊎◌, ℕ, List, All, length, Result, Ok, Err, Vec, ⊤}
use Rattle.std.specs.Borrow.{Bor}
use Rattle.std.specs.declared.alloc.Global.{Global}
use Rattle.fax_files.specs.declared.spool.SpoolFault.{SpoolFault}
use Rattle.fax_files.specs.declared.spool.SpoolFault.TheVariants.{Words, Unreadable, TooLarge, NoMemory}
use Rattle.fax_text.specs.Import.{first_number, import_messages}
use Rattle.fax_text.specs.declared.import_words.ImportPlan.{ImportPlan}
use Rattle.fax_text.specs.declared.status.Status.{Status}
use Rattle.fax_text.specs.declared.status.Status.TheVariants.{Fault, Usage}

-- the longest body of a request
abbrev pub longest_body : ℕ
longest_body = 65536

-- The bytes of so many files, none longer than a body may be, and the text of their imports. What a file holds isn't told.
pub record AreImports (client : List ℕ) (first many : ℕ) (text : List ℕ) : Type 0 where
  pub bodies : List (List ℕ)
  pub many_are : length bodies ≡ many
  pub short : All (λ body. length body ≤ longest_body) bodies
  pub spelled : text ≡ import_messages client first bodies

-- a fault of a file names it, unless memory ran out
abbrev pub IsNamed : Bor (List ℕ) → Result (Vec ℕ Global) SpoolFault → Type 0
IsNamed name (Ok bytes) = ⊤
IsNamed name (Err fault) = (fault ≡ Unreadable name) ⊎ (fault ≡ TooLarge name) ⊎ (fault ≡ NoMemory)

-- what comes of a plan: the words come before the files
abbrev pub MakesImports : ImportPlan → Result (Vec ℕ Global) SpoolFault → Type 0
MakesImports plan (Ok text) = (first : ℕ) × (first_number plan ≡ Ok first) × AreImports plan.client.now first (length plan.files.items) text.items
MakesImports plan (Err (Words fault)) = first_number plan ≡ Err fault
MakesImports plan (Err (Unreadable name)) = (first : ℕ) × (first_number plan ≡ Ok first)
MakesImports plan (Err (TooLarge name)) = (first : ℕ) × (first_number plan ≡ Ok first)
MakesImports plan (Err NoMemory) = (first : ℕ) × (first_number plan ≡ Ok first)

-- words at fault are a usage fault
abbrev pub refused : SpoolFault → Status
refused (Words fault) = Usage
refused (Unreadable name) = Fault
refused (TooLarge name) = Fault
refused NoMemory = Fault
