-- Which bytes are a client's name, and what is told of those that aren't.
use Rattle.std.proofs.Common.{◌≡◌, inl, inr, ℕ, ◌<◌, List, [], ◌∷◌, Bool, true, false, sym, ap, subst, ◌∙◌, zero, suc, arith, lit<, Option, Some, None, Err, if◌then◌else◌}
use Rattle.fax_job.specs.declared.refusal.Refusal.{Refusal}
use Rattle.fax_job.specs.declared.refusal.Refusal.TheVariants.{BadClient, BadNumber}
use Rattle.fax_value.specs.Number.{request_number_of}
use Rattle.fax_ask.specs.Detail.{has_detail}
use Rattle.sqlite.specs.Effect.{Database}
use Rattle.fax_core.proofs.DecisionLemmas.{ok_same}
use Rattle.fax_store.specs.Floors.{FloorStands}
use Rattle.fax_store.specs.Kept.{HasReply}
use Rattle.fax_once.specs.Sender.{IsSender}
use Rattle.fax_run.specs.Arrival.{digits_of, number_of}
use Rattle.fax_once.specs.Handled.{IsGivenUp, IsUsed, ReachesTo}
use Rattle.fax_run.specs.declared.arrival.Arrival.{Arrival}
use Rattle.fax_once.specs.declared.sender.Sender.{Sender}
use Rattle.std.specs.Prelude.{IsUtf8, slice_index}
use Rattle.std.specs.List.{list_all}
use Rattle.std.proofs.lemmas.Bool.{and_parts}
use Rattle.std.proofs.lemmas.Bool.Decides.{nat_tests}
use Rattle.std.proofs.lemmas.Str.{IsUtf8-from_ascii}
use Rattle.fax_value.specs.Name.{is_name, is_name_byte}

-- a byte of a name is ASCII
name_byte_ascii : (byte : ℕ) → is_name_byte byte ≡ true → byte < 128
name_byte_ascii byte e = grind (arith, nat_tests)

-- so is each byte in it
name_bytes_ascii : (bytes : List ℕ) → list_all is_name_byte bytes ≡ true → (i : ℕ) → slice_index bytes i < 128
name_bytes_ascii [] e i = lit< tt
name_bytes_ascii (byte ∷ bytes) e zero = name_byte_ascii byte (and_parts _ _ e).0
name_bytes_ascii (byte ∷ bytes) e (suc i) = name_bytes_ascii bytes (and_parts _ _ e).1 i

-- a name is ASCII, and so it is text
pub name_is_text : (bytes : List ℕ) → is_name bytes ≡ true → IsUtf8 bytes
name_is_text bytes e = IsUtf8-from_ascii bytes (name_bytes_ascii bytes (and_parts _ _ e).1)

-- of a client or a number at fault no more is told than the refusal's number and word
pub sender_plain : (a : Arrival) (e : Refusal) → number_of a ≡ Err e → has_detail e ≡ false
sender_plain a e h = by (is_name a.client.now) h
  where
    of_digits : (found : Option ℕ) → digits_of found ≡ Err e → has_detail e ≡ false
    of_digits None x = let same : BadNumber ≡ e = cc in ap has_detail (sym same)
    of_digits (Some number) x = absurd cc

    by : (b : Bool) → (if b then digits_of (request_number_of a.number.now) else Err BadClient) ≡ Err e → has_detail e ≡ false
    by true x = of_digits (request_number_of a.number.now) x
    by false x = let same : BadClient ≡ e = cc in ap has_detail (sym same)

-- what is kept for the arrival's number is kept for its sender's
pub its_reply : (a : Arrival) (sender : Sender) (db : Database) → IsSender a sender → (used : IsUsed a db) → HasReply db sender.client.now sender.number
its_reply a sender db from used =
    subst (λ (n : ℕ). HasReply db sender.client.now n) (ok_same used.number sender.number (sym used.its ∙ from.number))
    (subst (λ (client : List ℕ). HasReply db client used.number) (sym from.client) used.kept)

-- what the rows say of the floor of an arrival's client they say of its sender's
pub its_floor : (a : Arrival) (sender : Sender) (db : Database) → IsSender a sender → (given : IsGivenUp a db) → ReachesTo db sender.client.now sender.number
its_floor a sender db from given =
    subst (λ (n : ℕ). ReachesTo db sender.client.now n) (ok_same given.number sender.number (sym given.under ∙ from.number))
    (subst (λ (client : List ℕ). ReachesTo db client given.number) (sym from.client) given.reaches)

-- a number that the rows say is given up is above no floor that stands in them
pub given_not_above : (db : Database) (client : List ℕ) (n floor : ℕ) → FloorStands db client floor → ReachesTo db client n → floor < n → ⊥
given_not_above db client n floor (inl stands) reaches above = omega (arith, reaches.each floor stands, above)
given_not_above db client n floor (inr (none, is)) reaches above = none reaches.some
