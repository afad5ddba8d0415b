-- An input is divided into messages in one way at most.
use Rattle.std.proofs.Common.{◌≡◌, ◌⊎◌, inl, inr, ℕ, ◌-◌, ◌≤◌, true, false, List, [], ◌∷◌, ◌++◌, length, take, drop, map, Ok, refl, ap, sym, ◌∙◌, subst, arith, length-append}
use Rattle.std.proofs.Math.Seq.{take-append_seam, drop-append_seam}
use Rattle.httparse.specs.Grammar.{RequestHead, print_request}
use Rattle.httparse.proofs.GrammarLemmas.{request_unique, print_request-append}
use Rattle.fax_http.specs.declared.message.Broken.{Broken}
use Rattle.fax_http.specs.declared.message.Broken.TheVariants.{BadHttp, TooLarge}
use Rattle.fax_http.specs.Conversation.{EndWithLast, Fails, GoOn, Reads, Stop, AtBound, AtEnd, AtFailure, AtLast, StopsBy, Turn}
use Rattle.fax_http.specs.Laws.{OneDivision, OneMessage, message_of}
use Rattle.fax_http.specs.Message.{BeginsWith, fields_of, framed, is_last}

-- of bytes that are divided twice at one place the parts are the same
same_parts : (front back other more : List ℕ) → length front ≡ length other → front ++ back ≡ other ++ more
    → (front ≡ other) × (back ≡ more)
same_parts front back other more size e = (
  sym (take-append_seam front back) ∙ ap (λ n. take n (front ++ back)) size ∙ ap (take (length other)) e ∙ take-append_seam other more,
  sym (drop-append_seam front back) ∙ ap (λ n. drop n (front ++ back)) size ∙ ap (drop (length other)) e ∙ drop-append_seam other more,
)

-- one message at most begins an input
pub one_message : OneMessage
one_message input head other body another rest more b c =
    let same = request_unique input head other (body ++ rest) (another ++ more)
    (b.message.is_head.grammar, b.bytes) (c.message.is_head.grammar, c.bytes) in
    let frames : Ok (length body) ≡ Ok (length another) =
    sym b.message.frames ∙ ap (λ h. framed (fields_of h)) same.0 ∙ c.message.frames in
    let size : length body ≡ length another = cc in
    let parts = same_parts body rest another more size same.1 in
    (same.0, parts.0, parts.1)

-- bytes with a blank among them are some
not_none : (front middle back : List ℕ) → ¬ ([] ≡ front ++ (middle ++ 32 ∷ back))
not_none front middle back e =
    let size : 0 ≡ length (front ++ (middle ++ 32 ∷ back)) = ap length e in
    omega (arith, length-append front (middle ++ 32 ∷ back), length-append middle (32 ∷ back))

-- a head has a blank in it
pub some_head : (head : RequestHead) (rest : List ℕ) → ¬ ([] ≡ print_request head ++ rest)
some_head head rest e = not_none _ _ _ (e ∙ print_request-append head rest)

-- where a message begins, nothing fails
begins_or_fails : (input : List ℕ) (head : RequestHead) (body rest : List ℕ) (broken : Broken) → BeginsWith input head body rest → ¬ (Fails input broken)
begins_or_fails input head body rest BadHttp b f = f.none head body rest b
begins_or_fails input head body rest TooLarge b f =
    let same = request_unique input head f.head (body ++ rest) f.rest (b.message.is_head.grammar, b.bytes) (f.is_head.grammar, f.bytes) in
    let both = sym b.message.frames ∙ ap (λ h. framed (fields_of h)) same.0 ∙ f.frames in
    cc

-- an input fails in one way
one_failure : (input : List ℕ) (broken other : Broken) → Fails input broken → Fails input other → broken ≡ other
one_failure input BadHttp BadHttp f g = refl
one_failure input BadHttp TooLarge f g = absurd (f.not_too_large g)
one_failure input TooLarge BadHttp f g = absurd (g.not_too_large f)
one_failure input TooLarge TooLarge f g = refl

-- no turns don't end with the last
none_end : ¬ (EndWithLast [])
none_end e = let size : 0 ≡ length (e.earlier ++ e.last ∷ []) = ap length e.parts in omega (arith, length-append e.earlier (e.last ∷ []))

-- either the first turn is the last, or the others go on
ends_next : (turn : Turn) (turns earlier : List Turn) (last : Turn) → turn ∷ turns ≡ earlier ++ last ∷ [] → GoOn earlier → is_last last.head ≡ true
    → ((is_last turn.head ≡ true) × (turns ≡ [])) ⊎ ((is_last turn.head ≡ false) × EndWithLast turns)
ends_next turn turns [] last e g l =
    let first : turn ≡ last = cc in
    let none : turns ≡ [] = cc in
    inl (ap (λ t. is_last t.head) first ∙ l, none)
ends_next turn turns (t ∷ ts) last e g l =
    let first : turn ≡ t = cc in
    let others : turns ≡ ts ++ last ∷ [] = cc in
    inr (ap (λ x. is_last x.head) first ∙ g.0, record { earlier = ts; last = last; parts = others; going = g.1; is_last = l })

-- serving stops at the first turn, where it is the last, or as the others do
stops_next : (bound : ℕ) (turn : Turn) (turns : List Turn) (rest : List ℕ) (stop : Stop) → StopsBy bound (turn ∷ turns) rest stop
    → ((is_last turn.head ≡ true) × (turns ≡ []) × (stop ≡ AtLast)) ⊎ ((is_last turn.head ≡ false) × StopsBy (bound - 1) turns rest stop)
stops_next bound turn turns rest AtBound s = inr (s.0.0, (s.0.1, omega (arith, s.1)))
stops_next bound turn turns rest AtLast s = elim (ends_next turn turns s.earlier s.last s.parts s.going s.is_last) [
  | inl here ↦ inl (here.0, here.1, refl)
  | inr later ↦ inr later
]
stops_next bound turn turns rest AtEnd s = inr (s.0.0, (s.0.1, omega (arith, s.1), s.2))
stops_next bound turn turns rest (AtFailure broken) s = inr (s.0.0, (s.0.1, omega (arith, s.1), s.2, s.3))

-- nothing is read on
none_stop : (bound : ℕ) (input : List ℕ) (stop another : Stop) → StopsBy bound [] input stop → StopsBy bound [] input another → stop ≡ another
none_stop bound input AtLast another s t = absurd (none_end s)
none_stop bound input stop AtLast s t = absurd (none_end t)
none_stop bound input AtBound AtBound s t = refl
none_stop bound input AtBound AtEnd s t = absurd (omega (arith, s.1, t.1))
none_stop bound input AtBound (AtFailure broken) s t = absurd (omega (arith, s.1, t.1))
none_stop bound input AtEnd AtBound s t = absurd (omega (arith, s.1, t.1))
none_stop bound input AtEnd AtEnd s t = refl
none_stop bound input AtEnd (AtFailure broken) s t = absurd (let e = ap length s.2 in omega (arith, e, t.2))
none_stop bound input (AtFailure broken) AtBound s t = absurd (omega (arith, s.1, t.1))
none_stop bound input (AtFailure broken) AtEnd s t = absurd (let e = ap length t.2 in omega (arith, e, s.2))
none_stop bound input (AtFailure broken) (AtFailure other) s t = ap AtFailure (one_failure input broken other s.3 t.3)

-- where it stops, no message within the bound begins the input
stopped : (bound : ℕ) (input : List ℕ) (stop : Stop) (turn : Turn) (turns : List Turn) (next : List ℕ) → StopsBy bound [] input stop
    → BeginsWith input turn.head turn.body next → length (turn ∷ turns) ≤ bound → ⊥
stopped bound input AtBound turn turns next s b within = omega (arith, s.1, within)
stopped bound input AtLast turn turns next s b within = none_end s
stopped bound input AtEnd turn turns next s b within = some_head turn.head (turn.body ++ next) (sym s.2 ∙ b.bytes)
stopped bound input (AtFailure broken) turn turns next s b within = begins_or_fails input turn.head turn.body next broken b s.3

-- an input is divided into one list of messages, and stops in one way
one_way : (bound : ℕ) (input : List ℕ) (turns others : List Turn) (rest more : List ℕ) (stop another : Stop) → length turns ≤ bound → length others ≤ bound
    → Reads input turns rest → StopsBy bound turns rest stop → Reads input others more → StopsBy bound others more another
    → (map message_of turns ≡ map message_of others) × (stop ≡ another)
one_way bound input [] [] rest more stop another w v r s q t =
    (refl, none_stop bound input stop another (subst (λ i. StopsBy bound [] i stop) (sym r) s) (subst (λ i. StopsBy bound [] i another) (sym q) t))
one_way bound input [] (other ∷ others) rest more stop another w v r s q t =
    absurd (stopped bound input stop other others q.0 (subst (λ i. StopsBy bound [] i stop) (sym r) s) q.1 v)
one_way bound input (turn ∷ turns) [] rest more stop another w v r s q t =
    absurd (stopped bound input another turn turns r.0 (subst (λ i. StopsBy bound [] i another) (sym q) t) r.1 w)
one_way bound input (turn ∷ turns) (other ∷ others) rest more stop another w v r s q t =
    let all = behind (λ s₁ t₁ q₁. one_way (bound - 1) r.0 turns others rest more stop another (omega (arith, w)) (omega (arith, v)) r.2 s₁ q₁ t₁) in (
      ap (λ h. (h, turn.body) ∷ map message_of turns) same.0
          ∙ ap (λ b. (other.head, b) ∷ map message_of turns) same.1
          ∙ ap (λ ms. message_of other ∷ ms) all.0,
      all.1,
    )
  where
    same : (turn.head ≡ other.head) × (turn.body ≡ other.body) × (r.0 ≡ q.0)
    same = one_message input turn.head other.head turn.body other.body r.0 q.0 r.1 q.1

    same_last : is_last turn.head ≡ is_last other.head
    same_last = ap is_last same.0

    Same : Type 0
    Same = (map message_of turns ≡ map message_of others) × (stop ≡ another)

    behind : (StopsBy (bound - 1) turns rest stop → StopsBy (bound - 1) others more another → Reads r.0 others more → Same) → Same
    behind again = elim (stops_next bound turn turns rest stop s) [
      | inl here ↦ elim (stops_next bound other others more another t) [
        | inl there ↦ (ap (map message_of) here.1 ∙ sym (ap (map message_of) there.1), here.2 ∙ sym there.2)
        | inr on ↦ absurd (let no = sym here.0 ∙ same_last ∙ on.0 in cc)
      ]
      | inr on ↦ elim (stops_next bound other others more another t) [
        | inl there ↦ absurd (let no = sym on.0 ∙ same_last ∙ there.0 in cc)
        | inr further ↦ again on.1 further.1 (subst (λ i. Reads i others more) (sym same.2) q.2)
      ]
    ]

-- the same of the whole input
pub one_division : OneDivision
one_division bound input turns others stop another d e =
    one_way bound input turns others d.rest e.rest stop another d.within e.within d.reads d.stops e.reads e.stops
