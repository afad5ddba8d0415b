-- What becomes of the connections whose next messages are answered together.
use Rattle.std.proofs.Common.{◌≡◌, ◌∙◌, ◌⊎◌, ℕ, zero, suc, ◌+◌, ◌<◌, ◌≤◌, Bool, true, false, List, [], ◌∷◌, ◌++◌, append-nil, length-append, Option, Some, None, get_or, get_or-set_other, get_or-set_same, length, length-set, set, take, inl, inr, refl, sym, ap, ap₂, subst, arith}
use Rattle.std.specs.Prelude.{IfSome, Vec, map, ⊤}
use Rattle.std.specs.declared.alloc.Global.{Global}
use Rattle.std.specs.List.{AllZip, cons_option, filter_map}
use Rattle.std.proofs.Math.ListN.{get_or-append}
use Rattle.std.proofs.Math.Seq.{get_or-append_seam}
use Rattle.fax_job.specs.declared.refusal.Refusal.TheVariants.{Unavailable}
use Rattle.fax_ask.specs.Response.{Response, refused_response}
use Rattle.fax_core.specs.Reply.{NoKeys}
use Rattle.fax_http.specs.Conversation.{Turn, spelled}
use Rattle.fax_http.specs.Found.{HasAnswered as HasTurned}
use Rattle.fax_http.specs.Cut.{ArePartsOf}
use Rattle.fax_http.specs.Joined.{AreTurnsOf, IsPost}
use Rattle.fax_http.specs.Message.{BeginsWith}
use Rattle.fax_http.specs.Reply.{head_bytes}
use Rattle.fax_http.specs.declared.message.Message.{Message}
use Rattle.fax_http.specs.Serving.{Answering, Replying}
use Rattle.fax_http.specs.declared.cut.Cut.{Cut}
use Rattle.fax_net.specs.History.{MayJoin, asks_for_listing, Step, Talk, Together, joined, talk}
use Rattle.fax_net.specs.Joining.{Asked, FitsIn, Gathers, GathersTo, HasJoined, HasReply, IsCutAt, IsCutOff, IsDuePost, IsGiven, given, replies_in, turn_of, turns_of}
use Rattle.fax_net.specs.Link.{Holds, IsGoing, is_due}
use Rattle.fax_net.specs.Lists.{is_none}
use Rattle.fax_net.specs.Many.{AllHold, GoesReady, HaveMoved, Runs}
use Rattle.fax_net.specs.declared.link.Link.{Link}
use Rattle.fax_net.specs.declared.link.Stage.TheVariants.{Open}
use Rattle.fax_net.proofs.ConversingLemmas.{answered_holds, last_holds, next_is}
use Rattle.fax_net.proofs.LinkLemmas.{due_parts, holds}
use Rattle.fax_net.proofs.ListLemmas.{same_or}

-- ---- lists by place

turn_of_none : (a : Option Asked) → turn_of a None ≡ None
turn_of_none None = refl
turn_of_none (Some a) = refl

-- the turn at a place is what was asked there, with the reply that it was given
turns_at : (asked : List (Option Asked)) (replies : List (Option Response)) (k : ℕ) → get_or (turns_of asked replies) k None ≡ turn_of (get_or asked k None) (get_or replies k None)
turns_at [] replies k = refl
turns_at (a ∷ asked) [] zero = sym (turn_of_none a)
turns_at (a ∷ asked) [] (suc k) = turns_at asked [] k
turns_at (a ∷ asked) (reply ∷ replies) zero = refl
turns_at (a ∷ asked) (reply ∷ replies) (suc k) = turns_at asked replies k

turns_size : (asked : List (Option Asked)) (replies : List (Option Response)) → length (turns_of asked replies) ≡ length asked
turns_size [] replies = refl
turns_size (a ∷ asked) [] = ap suc (turns_size asked [])
turns_size (a ∷ asked) (reply ∷ replies) = ap suc (turns_size asked replies)

beyond : {X : Type 0} (xs : List X) (k : ℕ) (d : X) → length xs ≤ k → get_or xs k d ≡ d
beyond [] k d far = refl
beyond (x ∷ xs) zero d far = absurd (omega (arith, far))
beyond (x ∷ xs) (suc k) d far = beyond xs k d (omega (arith, far))

-- ---- messages, one place after the other

-- what is there of one place more
there_more : (asked : List (Option Asked)) (a : Option Asked) → filter_map (λ (x : Option Asked). x) (asked ++ a ∷ []) ≡ filter_map (λ (x : Option Asked). x) asked ++ cons_option a []
there_more [] None = refl
there_more [] (Some a) = refl
there_more (None ∷ asked) a = there_more asked a
there_more (Some b ∷ asked) a = ap (λ (xs : List Asked). b ∷ xs) (there_more asked a)

-- two lists and one item more of each
zip_more : {A B : Type 0} (R : A → B → Type 0) (xs : List A) (ys : List B) (x : A) (y : B) → AllZip R xs ys → R x y → AllZip R (xs ++ x ∷ []) (ys ++ y ∷ [])
zip_more R [] [] x y all is = (is, tt)
zip_more R [] (b ∷ ys) x y all is = absurd all
zip_more R (a ∷ xs) [] x y all is = absurd all
zip_more R (a ∷ xs) (b ∷ ys) x y (one, all) is = (one, zip_more R xs ys x y all is)

-- an item within a list is there, whatever stands for those that aren't
get_or_default : {X : Type 0} (xs : List X) (k : ℕ) (d e : X) → k < length xs → get_or xs k d ≡ get_or xs k e
get_or_default [] k d e within = absurd (omega (arith, within))
get_or_default (x ∷ xs) zero d e within = refl
get_or_default (x ∷ xs) (suc k) d e within = get_or_default xs k d e (omega (arith, within))

-- an item of a list, or the one behind it
before_or_at : (k n : ℕ) → k < n + 1 → (k < n) ⊎ (k ≡ n)
before_or_at k n below = elim (same_or k n) [ inl is ↦ inr is | inr unlike ↦ inl (omega (arith, below, unlike)) ]

module _ (count : ℕ) (links : List Link) (cuts cuts₂ : List (Option Cut)) (messages : List Message) (it : GathersTo count links cuts messages)
    (same : (k : ℕ) → k < count → get_or cuts₂ k None ≡ get_or cuts k None) where
  -- one place more, by what is there
  each_more : (a : Option Asked) (d : Link) → IsCutAt (get_or links count d) (get_or cuts₂ count None) a
      → (k : ℕ) (e : Link) → get_or links count d ≡ get_or links count e → k < count + 1 → IsCutAt (get_or links k e) (get_or cuts₂ k None) (get_or (it.asked ++ a ∷ []) k None)
  each_more a d is k e here below = elim (before_or_at k count below) [
    | inl before ↦
        subst (λ (x : Option Asked). IsCutAt (get_or links k e) (get_or cuts₂ k None) x) (sym (get_or-append it.asked (a ∷ []) None k (omega (arith, before, it.as_many))))
        (subst (λ (c : Option Cut). IsCutAt (get_or links k e) c (get_or it.asked k None)) (sym (same k before)) (it.each k e before))
    | inr at ↦
        subst (λ (n : ℕ). IsCutAt (get_or links n e) (get_or cuts₂ n None) (get_or (it.asked ++ a ∷ []) n None)) (sym at)
        (subst (λ (x : Option Asked). IsCutAt (get_or links count e) (get_or cuts₂ count None) x)
        (sym (ap (λ n. get_or (it.asked ++ a ∷ []) n None) (sym it.as_many) ∙ get_or-append_seam it.asked a [] None))
        (subst (λ (l : Link). IsCutAt l (get_or cuts₂ count None) a) here is))
  ]

  -- nothing is cut off there
  pub gathers_none : (d : Link) → count < length links → get_or cuts₂ count None ≡ None → GathersTo (count + 1) links cuts₂ messages
  gathers_none d within none = record {
    asked = it.asked ++ None ∷ [];
    as_many = omega (arith, length-append it.asked (None ∷ []), it.as_many);
    each = λ k e below. each_more None d (subst (λ (c : Option Cut). IsCutAt (get_or links count d) c None) (sym none) tt) k e (get_or_default links count d e within) below;
    parts = subst (λ (xs : List Asked). AllZip (λ (message : Message) (a : Asked). ArePartsOf message a.head a.body) messages xs) (sym (there_more it.asked None ∙ append-nil (filter_map (λ (x : Option Asked). x) it.asked))) it.parts;
  }

  -- a message is
  pub gathers_some : (d : Link) (message : Message) (cut : Cut) → count < length links → get_or cuts₂ count None ≡ Some cut → IsDuePost (get_or links count d) message cut
      → GathersTo (count + 1) links cuts₂ (messages ++ message ∷ [])
  gathers_some d message cut within some post = record {
    asked = it.asked ++ Some post.asked ∷ [];
    as_many = omega (arith, length-append it.asked (Some post.asked ∷ []), it.as_many);
    each = λ k e below. each_more (Some post.asked) d (subst (λ (c : Option Cut). IsCutAt (get_or links count d) c (Some post.asked)) (sym some) post.cuts) k e (get_or_default links count d e within) below;
    parts = subst (λ (xs : List Asked). AllZip (λ (m : Message) (a : Asked). ArePartsOf m a.head a.body) (messages ++ message ∷ []) xs) (sym (there_more it.asked (Some post.asked)))
        (zip_more (λ (m : Message) (a : Asked). ArePartsOf m a.head a.body) messages (filter_map (λ (x : Option Asked). x) it.asked) message post.asked it.parts post.parts);
  }

-- ---- as the loop over the places has it

module _ (count : ℕ) (links : List Link) (cuts : List (Option Cut)) (messages : List Message) (it : GathersTo count links cuts messages) (d : Link) (within : count < length links)
    (as_many : length cuts ≡ length links) where
  abbrev still : (cut : Option Cut) (k : ℕ) → k < count → get_or (set cuts count cut) k None ≡ get_or cuts k None
  still cut k below = get_or-set_other cuts count k cut None (λ is. omega (arith, is, below))

  abbrev here : (cut : Option Cut) → get_or (set cuts count cut) count None ≡ cut
  here cut = get_or-set_same cuts count cut None (omega (arith, within, as_many))

  pub gathers_nothing : GathersTo (count + 1) links (set cuts count None) messages
  gathers_nothing = gathers_none count links cuts (set cuts count None) messages it (still None) d within (here None)

  pub gathers_one : (message : Message) (cut : Cut) → IsDuePost (get_or links count d) message cut → GathersTo (count + 1) links (set cuts count (Some cut)) (messages ++ message ∷ [])
  gathers_one message cut post = gathers_some count links cuts (set cuts count (Some cut)) messages it (still (Some cut)) d message cut within (here (Some cut)) post

-- ---- a message that is due

pub due_post : (link : Link) (found : Option (Message × Cut)) → is_due link ≡ true → asks_for_listing link.said ≡ false → IfSome found (λ it. IsPost link.said it.0 it.1)
    → IfSome found (λ it. IsDuePost link it.0 it.1)
due_post link None due small post = tt
due_post link (Some it) due small post = record {
  asked = record { head = post.head; body = it.0.body.now };
  cuts = record { due = due; method = post.method; small = small; begins = post.begins; within = post.within; has_body = post.has_body; ends = post.ends };
  parts = post.parts;
}

-- one that was cut off is there
pub fits_in : (link : Link) (cut : Option Cut) (asked : Option Asked) → IsCutAt link cut asked → FitsIn link cut
fits_in link None asked cuts = tt
fits_in link (Some cut) None cuts = absurd cuts
fits_in link (Some cut) (Some asked) cuts = cuts.within

-- ---- replies, one after the other

-- what is left of the replies once the places in front have theirs
abbrev pub rest_of : List (Option Cut) → List Response → List Response
rest_of [] replies = replies
rest_of (None ∷ cuts) replies = rest_of cuts replies
rest_of (Some cut ∷ cuts) [] = rest_of cuts []
rest_of (Some cut ∷ cuts) (reply ∷ replies) = rest_of cuts replies

-- the next reply, and what is left behind it
abbrev pub next_of : List Response → Response
next_of [] = refused_response Unavailable NoKeys
next_of (reply ∷ replies) = reply

abbrev pub behind_next : List Response → List Response
behind_next [] = []
behind_next (reply ∷ replies) = replies

-- a place gets the next one
pub given_at : (cuts : List (Option Cut)) (replies : List Response) (k : ℕ) (cut : Cut) → get_or cuts k None ≡ Some cut → get_or (given cuts replies) k None ≡ Some (next_of (rest_of (take k cuts) replies))
given_at [] replies k cut is = absurd cc
given_at (None ∷ cuts) replies zero cut is = absurd cc
given_at (Some c ∷ cuts) [] zero cut is = refl
given_at (Some c ∷ cuts) (reply ∷ replies) zero cut is = refl
given_at (None ∷ cuts) replies (suc k) cut is = given_at cuts replies k cut is
given_at (Some c ∷ cuts) [] (suc k) cut is = given_at cuts [] k cut is
given_at (Some c ∷ cuts) (reply ∷ replies) (suc k) cut is = given_at cuts replies k cut is

-- and leaves the others
pub rest_some : (cuts : List (Option Cut)) (replies : List Response) (k : ℕ) (cut : Cut) → get_or cuts k None ≡ Some cut → rest_of (take (suc k) cuts) replies ≡ behind_next (rest_of (take k cuts) replies)
rest_some [] replies k cut is = absurd cc
rest_some (None ∷ cuts) replies zero cut is = absurd cc
rest_some (Some c ∷ cuts) [] zero cut is = refl
rest_some (Some c ∷ cuts) (reply ∷ replies) zero cut is = refl
rest_some (None ∷ cuts) replies (suc k) cut is = rest_some cuts replies k cut is
rest_some (Some c ∷ cuts) [] (suc k) cut is = rest_some cuts [] k cut is
rest_some (Some c ∷ cuts) (reply ∷ replies) (suc k) cut is = rest_some cuts replies k cut is

-- where nothing was cut off, all are left
pub rest_none : (cuts : List (Option Cut)) (replies : List Response) (k : ℕ) → k < length cuts → get_or cuts k None ≡ None → rest_of (take (suc k) cuts) replies ≡ rest_of (take k cuts) replies
rest_none [] replies k below is = absurd (omega (arith, below))
rest_none (None ∷ cuts) replies zero below is = refl
rest_none (Some c ∷ cuts) replies zero below is = absurd cc
rest_none (None ∷ cuts) replies (suc k) below is = rest_none cuts replies k (omega (arith, below)) is
rest_none (Some c ∷ cuts) [] (suc k) below is = rest_none cuts [] k (omega (arith, below)) is
rest_none (Some c ∷ cuts) (reply ∷ replies) (suc k) below is = rest_none cuts replies k (omega (arith, below)) is

pub nothing_left : (replies : List Response) → length replies ≡ 0 → replies ≡ []
nothing_left [] none = refl
nothing_left (reply ∷ replies) none = absurd (omega (arith, none))

pub nothing_cut : (cut : Option Cut) → ((c : Cut) → ¬ (cut ≡ Some c)) → cut ≡ None
nothing_cut None never = refl
nothing_cut (Some cut) never = absurd (never cut refl)

-- The places in front have their replies, and these are left.
pub record GivenTo (links₀ links : List Link) (cuts : List (Option Cut)) (replies rest : List Response) (place : ℕ) : Type 0 where
  pub as_many : length links ≡ length links₀
  pub left : rest ≡ rest_of (take place cuts) replies
  pub done : (k : ℕ) (d : Link) → k < place → k < length links₀ → IsGiven (get_or links₀ k d) (get_or links k d) (get_or cuts k None) (get_or (given cuts replies) k None)
  pub others : (k : ℕ) (d : Link) → place ≤ k → get_or links k d ≡ get_or links₀ k d

module _ (links₀ links : List Link) (cuts : List (Option Cut)) (replies rest : List Response) (place : ℕ) (it : GivenTo links₀ links cuts replies rest place) (within : place < length links₀)
    (sizes : length cuts ≡ length links₀) where
  plus_one : place + 1 ≡ suc place
  plus_one = omega arith

  -- where nothing was cut off, nothing is given
  pub gives_nothing : get_or cuts place None ≡ None → GivenTo links₀ links cuts replies rest (place + 1)
  gives_nothing none = record {
    as_many = it.as_many;
    left = it.left ∙ sym (rest_none cuts replies place (omega (arith, within, sizes)) none) ∙ ap (λ n. rest_of (take n cuts) replies) (sym plus_one);
    done = λ k d below inside. elim (before_or_at k place below) [
      | inl before ↦ it.done k d before inside
      | inr at ↦ subst (λ n. IsGiven (get_or links₀ n d) (get_or links n d) (get_or cuts n None) (get_or (given cuts replies) n None)) (sym at)
          (subst (λ (c : Option Cut). IsGiven (get_or links₀ place d) (get_or links place d) c (get_or (given cuts replies) place None)) (sym none) (it.others place d (omega arith)))
    ];
    others = λ k d after. it.others k d (omega (arith, after));
  }

  -- else the next reply is
  pub gives_next : (e link : Link) (cut : Cut) (reply : Response) (rest₂ : List Response) → get_or cuts place None ≡ Some cut → HasReply (get_or links place e) link cut reply → reply ≡ next_of rest → rest₂ ≡ behind_next rest
      → GivenTo links₀ (set links place link) cuts replies rest₂ (place + 1)
  gives_next e link cut reply rest₂ some has reply_is rest_is = record {
    as_many = omega (arith, it.as_many, length-set {A = Link});
    left = rest_is ∙ ap behind_next it.left ∙ sym (rest_some cuts replies place cut some) ∙ ap (λ n. rest_of (take n cuts) replies) (sym plus_one);
    done = λ k d below inside. elim (before_or_at k place below) [
      | inl before ↦ subst (λ (l : Link). IsGiven (get_or links₀ k d) l (get_or cuts k None) (get_or (given cuts replies) k None))
          (sym (get_or-set_other links place k link d (λ is. omega (arith, is, before)))) (it.done k d before inside)
      | inr at ↦ subst (λ n. IsGiven (get_or links₀ n d) (get_or (set links place link) n d) (get_or cuts n None) (get_or (given cuts replies) n None)) (sym at)
          (subst (λ (l : Link). IsGiven (get_or links₀ place d) l (get_or cuts place None) (get_or (given cuts replies) place None)) (sym (get_or-set_same links place link d (omega (arith, within, it.as_many))))
          (subst (λ (c : Option Cut). IsGiven (get_or links₀ place d) link c (get_or (given cuts replies) place None)) (sym some)
          (subst (λ (r : Option Response). IsGiven (get_or links₀ place d) link (Some cut) r) (sym (given_at cuts replies place cut some ∙ ap (λ rs. Some (next_of rs)) (sym it.left) ∙ ap Some (sym reply_is)))
          (subst (λ (l : Link). HasReply l link cut reply) (get_or_default links place e d (omega (arith, within, it.as_many)) ∙ it.others place d (omega arith)) has))))
    ];
    others = λ k d after. get_or-set_other links place k link d (λ is. omega (arith, is, after)) ∙ it.others k d (omega (arith, after));
  }

-- ---- the messages and their replies as turns

-- a message was cut off there and is known, or none
abbrev AgreeAt : Option Cut → Option Asked → Type 0
AgreeAt None None = ⊤
AgreeAt None (Some asked) = ⊥
AgreeAt (Some cut) None = ⊥
AgreeAt (Some cut) (Some asked) = ⊤

agree_at : (link : Link) (cut : Option Cut) (asked : Option Asked) → IsCutAt link cut asked → AgreeAt cut asked
agree_at link None None cuts = tt
agree_at link None (Some asked) cuts = absurd cuts
agree_at link (Some cut) None cuts = absurd cuts
agree_at link (Some cut) (Some asked) cuts = tt

abbrev Agree : List (Option Cut) → List (Option Asked) → Type 0
Agree cuts asked = (k : ℕ) → k < length asked → AgreeAt (get_or cuts k None) (get_or asked k None)

abbrev the_turns : List (Option Asked) → List (Option Cut) → List Response → List Turn
the_turns asked cuts replies = filter_map (λ (turn : Option Turn). turn) (turns_of asked (given cuts replies))

abbrev AreParts : List Message → List (Option Asked) → Type 0
AreParts messages asked = AllZip (λ (message : Message) (a : Asked). ArePartsOf message a.head a.body) messages (filter_map (λ (a : Option Asked). a) asked)

abbrev HaveTurns : List Message → List Turn → Type 0
HaveTurns messages turns = AllZip (λ (message : Message) (turn : Turn). ArePartsOf message turn.head turn.body) messages turns

with_replies : (asked : List (Option Asked)) (cuts : List (Option Cut)) (messages : List Message) (replies : List Response) → length cuts ≡ length asked → Agree cuts asked → AreParts messages asked
    → length replies ≡ length messages → HaveTurns messages (the_turns asked cuts replies) × (map (λ (turn : Turn). turn.reply) (the_turns asked cuts replies) ≡ replies)
with_replies [] [] [] [] size agree parts as_many = (tt, refl)
with_replies [] [] [] (r ∷ rs) size agree parts as_many = absurd (omega (arith, as_many))
with_replies [] [] (m ∷ ms) replies size agree parts as_many = absurd parts
with_replies [] (c ∷ cuts) messages replies size agree parts as_many = absurd (omega (arith, size))
with_replies (a ∷ asked) [] messages replies size agree parts as_many = absurd (omega (arith, size))
with_replies (None ∷ asked) (None ∷ cuts) messages replies size agree parts as_many =
    with_replies asked cuts messages replies (omega (arith, size)) (λ k below. agree (suc k) (omega (arith, below))) parts as_many
with_replies (None ∷ asked) (Some cut ∷ cuts) messages replies size agree parts as_many = absurd (agree 0 (omega arith))
with_replies (Some a ∷ asked) (None ∷ cuts) messages replies size agree parts as_many = absurd (agree 0 (omega arith))
with_replies (Some a ∷ asked) (Some cut ∷ cuts) [] replies size agree parts as_many = absurd parts
with_replies (Some a ∷ asked) (Some cut ∷ cuts) (m ∷ ms) [] size agree parts as_many = absurd (omega (arith, as_many))
with_replies (Some a ∷ asked) (Some cut ∷ cuts) (m ∷ ms) (r ∷ rs) size agree (one, parts) as_many =
    let rest = with_replies asked cuts ms rs (omega (arith, size)) (λ k below. agree (suc k) (omega (arith, below))) parts (omega (arith, as_many)) in
    ((one, rest.0), ap (λ (replies : List Response). r ∷ replies) rest.1)

without_replies : (asked : List (Option Asked)) (cuts : List (Option Cut)) (messages : List Message) → length cuts ≡ length asked → Agree cuts asked → AreParts messages asked
    → HaveTurns messages (the_turns asked cuts []) × (map (λ (turn : Turn). turn.reply) (the_turns asked cuts []) ≡ map (λ (message : Message). refused_response Unavailable NoKeys) messages)
without_replies [] [] [] size agree parts = (tt, refl)
without_replies [] [] (m ∷ ms) size agree parts = absurd parts
without_replies [] (c ∷ cuts) messages size agree parts = absurd (omega (arith, size))
without_replies (a ∷ asked) [] messages size agree parts = absurd (omega (arith, size))
without_replies (None ∷ asked) (None ∷ cuts) messages size agree parts =
    without_replies asked cuts messages (omega (arith, size)) (λ k below. agree (suc k) (omega (arith, below))) parts
without_replies (None ∷ asked) (Some cut ∷ cuts) messages size agree parts = absurd (agree 0 (omega arith))
without_replies (Some a ∷ asked) (None ∷ cuts) messages size agree parts = absurd (agree 0 (omega arith))
without_replies (Some a ∷ asked) (Some cut ∷ cuts) [] size agree parts = absurd parts
without_replies (Some a ∷ asked) (Some cut ∷ cuts) (m ∷ ms) size agree (one, parts) =
    let rest = without_replies asked cuts ms (omega (arith, size)) (λ k below. agree (suc k) (omega (arith, below))) parts in
    ((one, rest.0), ap (λ (replies : List Response). refused_response Unavailable NoKeys ∷ replies) rest.1)

-- what was gathered, with the replies to it
pub turns_are : (links : List Link) (some : 0 < length links) (cuts : List (Option Cut)) (messages : List Message) (it : Gathers links cuts messages) (result : Option (Vec Response Global)) → length cuts ≡ length links
    → IfSome result (λ replies. length replies.items ≡ length messages) → AreTurnsOf messages result (the_turns it.asked cuts (replies_in result))
turns_are [] some cuts messages it result size as_many = absurd (omega (arith, some))
turns_are (link ∷ links) some cuts messages it None size as_many =
    let w = without_replies it.asked cuts messages (omega (arith, size, it.as_many)) (λ k below. agree_at _ _ _ (it.each k link (omega (arith, below, it.as_many)))) it.parts in
    record { parts = w.0; replies = w.1 }
turns_are (link ∷ links) some cuts messages it (Some replies) size as_many =
    let w = with_replies it.asked cuts messages replies.items (omega (arith, size, it.as_many)) (λ k below. agree_at _ _ _ (it.each k link (omega (arith, below, it.as_many)))) it.parts as_many in
    record { parts = w.0; replies = w.1 }

-- ---- one place

module _ {H : Type 0} (over : H → Bool) (h : H) (t : Talk) (link link₂ : Link) (kept : Holds t link) (fresh : t.replies ≡ 0) where
  -- its turn, whatever comes of it by itself
  abbrev any : Answering H
  any = λ old head body reply new. ⊤

  -- what is known of the place afterwards
  abbrev Stands : Option Turn → Type 0
  Stands turn = Holds (joined turn (over h) t) link₂ × IfSome turn (MayJoin t) × (is_none link₂.pending ≡ true → (joined turn (over h) t).replies ≡ 0)

  -- where nothing was cut off
  still_stands : link₂ ≡ link → Stands None
  still_stands still = (subst (Holds t) (sym still) kept, tt, λ none. fresh)

  module _ (cut : Cut) (asked : Asked) (reply : Response) (cuts : IsCutOff link cut asked) (has : HasReply link link₂ cut reply) where
    abbrev bytes : List ℕ
    bytes = spelled reply cut.form.has_body cut.form.is_last

    abbrev its : Turn
    its = record { head = asked.head; body = asked.body; reply = reply }

    going : IsGoing t link
    going = holds t link Open (due_parts link cuts.due).0 kept

    unended : t.has_ended ≡ false
    unended = going.unended (due_parts link cuts.due).0

    abbrev turned : HasTurned any over h h link.said link₂.said bytes
    turned = record {
      turn = its;
      begins = subst (BeginsWith link.said asked.head asked.body) (sym has.said) cuts.begins;
      step = tt;
      spelled = ap₂ (λ (b e : Bool). spelled reply b e) cuts.has_body cuts.ends;
    }

    some_bytes : is_none bytes ≡ false
    unfolding head_bytes
    some_bytes = refl

    -- where a reply was given
    given_stands : Stands (Some its)
    given_stands = by cut.form.is_last refl
      where
        may : MayJoin t its
        may = record { next = next_is any over h h link link₂ t bytes going unended (due_parts link cuts.due).1 turned fresh; method = cuts.method; small = cuts.small }

        by : (b : Bool) → cut.form.is_last ≡ b → Stands (Some its)
        by true ends =
            let keeps = has.last ends in (
              last_holds any over h h link link₂ t bytes going unended (due_parts link cuts.due).1 turned (inl (sym cuts.ends ∙ ends)) keeps,
              may,
              λ none. absurd (let no = sym some_bytes ∙ (ap is_none (sym keeps.1) ∙ none) in cc),
            )
        by false goes =
            let keeps = has.more goes in (
              answered_holds any over h h link link₂ t bytes going unended (due_parts link cuts.due).1 turned (sym cuts.ends ∙ goes) (due_parts link cuts.due).2 keeps,
              may,
              λ none. absurd (let no = sym some_bytes ∙ (ap is_none (sym keeps.1) ∙ none) in cc),
            )

  -- so it is of each place
  stands : (asked : Option Asked) (cut : Option Cut) (reply : Option Response) → IsCutAt link cut asked → IsGiven link link₂ cut reply → Stands (turn_of asked reply)
  stands None None reply cuts still = still_stands still
  stands None (Some cut) reply cuts is = absurd cuts
  stands (Some asked) None reply cuts is = absurd cuts
  stands (Some asked) (Some cut) None cuts is = absurd is
  stands (Some asked) (Some cut) (Some reply) cuts has = given_stands cut asked reply cuts has

-- ---- all places

module _ {P H : Type 0} (did : P → Step → P → Type 0) (answers : Replying H) (over : H → Bool) (count : ℕ) (start : P) (first : H) (earlier : List Step) (peers : P) (handler handler₂ : H)
    (links links₂ : List Link) (size : length links ≡ 64) (runs : Runs did answers over count start first earlier peers handler) (all : AllHold earlier links)
    (on : over handler ≡ false) (fresh : (k : ℕ) → (talk k earlier).replies ≡ 0) (it : HasJoined answers.together over handler handler₂ links links₂) where
  abbrev turns : List (Option Turn)
  turns = turns_of it.asked (given it.cuts it.replies)

  at_place : (k : ℕ) (d : Link) (below : k < length links) → Stands over handler₂ (talk k earlier) (get_or links k d) (get_or links₂ k d) (all k d below) (fresh k) (get_or turns k None)
  at_place k d below =
      subst (Stands over handler₂ (talk k earlier) (get_or links k d) (get_or links₂ k d) (all k d below) (fresh k)) (sym (turns_at it.asked (given it.cuts it.replies) k))
      (stands over handler₂ (talk k earlier) (get_or links k d) (get_or links₂ k d) (all k d below) (fresh k) (get_or it.asked k None) (get_or it.cuts k None) (get_or (given it.cuts it.replies) k None)
      (it.each k d below) (it.gives.each k d below))

  some_link : Link
  some_link = by links size
    where
      by : (ls : List Link) → length ls ≡ 64 → Link
      by [] none = absurd (omega (arith, none))
      by (l ∷ ls) some = l

  may_join : (k : ℕ) → IfSome (get_or turns k None) (MayJoin (talk k earlier))
  may_join k = elim (below_or k) [
    | inl below ↦ (at_place k some_link below).1
    | inr far ↦ subst (λ (turn : Option Turn). IfSome turn (MayJoin (talk k earlier))) (sym (beyond turns k None (omega (arith, far, turns_size it.asked (given it.cuts it.replies), it.as_many)))) tt
  ]
    where
      less_or : (n m : ℕ) → (n < m) ⊎ (m ≤ n)
      less_or n zero = inr (omega arith)
      less_or zero (suc m) = inl (omega arith)
      less_or (suc n) (suc m) = elim (less_or n m) [ inl less ↦ inl (omega (arith, less)) | inr more ↦ inr (omega (arith, more)) ]

      below_or : (n : ℕ) → (n < length links) ⊎ (length links ≤ n)
      below_or n = less_or n (length links)

  pub goes_joined : (held_back : List Bool) → ((later : List Step) → HaveMoved later held_back) → GoesReady did answers over count peers handler₂ links₂ held_back start first earlier
  goes_joined held_back moved = record {
    later = Together turns (over handler₂) ∷ earlier;
    runs = record {
      happens = runs.happens;
      answered = (handler, runs.answered, on, it.answered, refl);
      right = (runs.right, omega (arith, turns_size it.asked (given it.cuts it.replies), it.as_many, size), may_join);
    };
    holds = λ k d below. (at_place k d (omega (arith, below, it.gives.as_many))).0;
    comings_are = refl;
    looks_are = refl;
    fresh = λ k d below none. (at_place k d (omega (arith, below, it.gives.as_many))).2 none;
    moved = moved (Together turns (over handler₂) ∷ earlier);
  }
