-- What a collection's routes say: a name between slashes, a parameter, and a word behind it.
use Rattle.std.proofs.Common.{◌≡◌, ℕ, List, [], ◌∷◌, ◌++◌, length, Option, Some, None, Bool, true, false, cond, ltb, codes, refl, sym, ap, ap₂, ◌∙◌, subst, IsUtf8}
use Rattle.std.specs.Str.{bytes_eq}
use lib.Utf8.{encode}
use Rattle.matchit.specs.Params.{AllText, named, walk}
use Rattle.matchit.specs.Router.{RouteOf}
use Rattle.matchit.specs.Rows.{RowsOf, param_token}
use Rattle.matchit.specs.Seek.{first, has_slash, or_else, step}
use Rattle.fax_ask.specs.declared.method.Method.{Method}
use Rattle.fax_ask.specs.declared.request.Request.{Request}
use Rattle.fax_ask.specs.declared.routes.Route.{Route}
use Rattle.fax_ask.specs.Path.{parts}
use Rattle.fax_ask.specs.Routes.{route_request}
use Rattle.fax_ask.proofs.CutLemmas.{parts_left, both_texts, cut, first_is_low, same_bytes}
use Rattle.fax_ask.proofs.PathLemmas.{filled}
use Rattle.fax_ask.proofs.WalkLemmas.{IsPlain, branch, ends_of, is_word, joined, led_by, no_param, param_on, seek_empty, word, word_parts}

-- what a router keeps of a route
abbrev pub Entry : Type 0
Entry = RouteOf Route

-- what is asked for on a path, by the route that the path has
abbrev pub Says : (Method → Option Request) → List ℕ → Option Entry → Type 0
Says names path None = (method : Method) → names method ≡ None
Says names path (Some route) =
    AllText (walk route.pattern route.text path route.names 0 0)
    × ((method : Method) → names method ≡ route_request method route.value (named (codes "id") (walk route.pattern route.text path route.names 0 0)))

-- what is said of requests is said of the same requests
pub says_as : (f g : Method → Option Request) (path : List ℕ) (o : Option Entry) → ((method : Method) → f method ≡ g method) → Says g path o → Says f path o
says_as f g path None e s = λ method. e method ∙ s method
says_as f g path (Some route) e s = (s.0, λ method. e method ∙ s.1 method)

-- and of the same route
pub says_by : (names : Method → Option Request) (path : List ℕ) (o p : Option Entry) → o ≡ p → Says names path p → Says names path o
says_by names path o p e s = subst (Says names path) (sym e) s

-- ---- rows

-- rows that are words
abbrev pub leaves : List (List ℕ × Entry) → RowsOf Entry
leaves [] = []
leaves (leaf ∷ more) = led_by leaf.0 (led_by (47 ∷ []) [] ++ ends_of (Some leaf.1)) ++ leaves more

-- rows behind the name of a collection and a slash
abbrev pub below : Option Entry → List (List ℕ × Entry) → RowsOf Entry
below end ws = led_by (param_token ∷ []) (led_by (47 ∷ []) (leaves ws) ++ ends_of end)

-- ---- words

-- the words differ in their first bytes
abbrev pub AreApart : List (List ℕ × Entry) → Type 0
AreApart [] = Unit {0}
AreApart (([], route) ∷ more) = ⊥
AreApart ((x ∷ w, route) ∷ more) = (is_word (x ∷ w) ≡ true) × (step x (leaves more) ≡ []) × IsPlain (leaves more) × AreApart more

-- the route whose word a text is
abbrev pub chosen : List ℕ → List (List ℕ × Entry) → Option Entry
chosen text [] = None
chosen text (leaf ∷ more) = or_else (cond (bytes_eq text leaf.0) (Some leaf.1) None) (chosen text more)

-- what is found of a text is the route of the word that it is
leaf_found : (ws : List (List ℕ × Entry)) (text : List ℕ) → AreApart ws → has_slash text ≡ false → first (leaves ws) text ≡ chosen text ws
leaf_found [] text apart f = seek_empty 0 text
leaf_found (([], route) ∷ more) text apart f = absurd apart
leaf_found ((x ∷ w, route) ∷ more) text apart f =
    branch x w (led_by (47 ∷ []) [] ++ ends_of (Some route)) (leaves more) text (word_parts x w apart.0).0 apart.1 apart.2
    ∙ ap₂ or_else (word (x ∷ w) text [] (Some route) None apart.0 f) (leaf_found more text apart.3 f)

-- a word with a slash behind it has no route
leaf_missed : (ws : List (List ℕ × Entry)) (text rest : List ℕ) → AreApart ws → has_slash text ≡ false → first (leaves ws) (text ++ 47 ∷ rest) ≡ None
leaf_missed [] text rest apart f = seek_empty 0 (text ++ 47 ∷ rest)
leaf_missed (([], route) ∷ more) text rest apart f = absurd apart
leaf_missed ((x ∷ w, route) ∷ more) text rest apart f =
    branch x w (led_by (47 ∷ []) [] ++ ends_of (Some route)) (leaves more) (text ++ 47 ∷ rest) (word_parts x w apart.0).0 apart.1 apart.2
    ∙ ap₂ or_else (word (x ∷ w) text [] (Some route) (Some rest) apart.0 f ∙ by (bytes_eq text (x ∷ w)) (seek_empty 0 rest)) (leaf_missed more text rest apart.3 f)
  where
    by : (v : Bool) → first {K = Entry} [] rest ≡ None → cond v (first {K = Entry} [] rest) None ≡ None
    by true e = e
    by false e = refl

abbrev pub AllSay : (List ℕ → Method → Option Request) → (List ℕ → List ℕ) → List (List ℕ × Entry) → Type 0
AllSay names path_of [] = Unit {0}
AllSay names path_of (leaf ∷ more) = Says (names leaf.0) (path_of leaf.0) (Some leaf.1) × AllSay names path_of more

abbrev pub NoneIs : List ℕ → List (List ℕ × Entry) → Type 0
NoneIs text [] = Unit {0}
NoneIs text (leaf ∷ more) = (bytes_eq text leaf.0 ≡ false) × NoneIs text more

-- what is found of a word says which request it names
leaf_says : (names : List ℕ → Method → Option Request) (path_of : List ℕ → List ℕ) (ws : List (List ℕ × Entry)) (text : List ℕ)
    → AllSay names path_of ws → (NoneIs text ws → (method : Method) → names text method ≡ None) → Says (names text) (path_of text) (chosen text ws)
leaf_says names path_of [] text all none = none tt
leaf_says names path_of (leaf ∷ more) text all none =
    by (bytes_eq text leaf.0) refl (λ e. leaf_says names path_of more text all.1 (λ rest. none (e, rest)))
  where
    by : (v : Bool) → bytes_eq text leaf.0 ≡ v → (bytes_eq text leaf.0 ≡ false → Says (names text) (path_of text) (chosen text more))
        → Says (names text) (path_of text) (or_else (cond v (Some leaf.1) None) (chosen text more))
    by true e later = subst (λ (t : List ℕ). Says (names t) (path_of t) (Some leaf.1)) (sym (same_bytes text leaf.0 e)) all.0
    by false e later = later e

-- ---- behind a collection's name and a slash

-- the name of the parameter is UTF-8
id_is_text : IsUtf8 (codes "id")
unfolding encode
id_is_text = (codes "id", (refl, refl))

-- a route whose parameter takes a text says what it asks for with that
pub taken_says : (names : Method → Option Request) (path : List ℕ) (route : Entry) (id : List ℕ) → walk route.pattern route.text path route.names 0 0 ≡ (codes "id", id) ∷ []
    → IsUtf8 id → ((method : Method) → names method ≡ route_request method route.value (Some id)) → Says names path (Some route)
taken_says names path route id e u same =
    (subst AllText (sym e) (id_is_text, u, tt), λ method. same method ∙ ap (λ (pairs : List (List ℕ × List ℕ)). route_request method route.value (named (codes "id") pairs)) (sym e))

-- what a collection's name is followed by: `w` is the name between slashes, `ws` are the words behind the parameter
pub record IsCollection (w : List ℕ) (names : Method → List (List ℕ) → Option Request) (end : Option Entry) (ws : List (List ℕ × Entry)) : Type 0 where
  pub apart : AreApart ws
  pub some : ltb 0 (length (leaves ws)) ≡ true
  pub no_id : (rest : List (List ℕ)) (method : Method) → names method ([] ∷ rest) ≡ None
  pub last : (id : List ℕ) → IsUtf8 id → Says (λ method. names method (id ∷ [])) (w ++ id) end
  pub words : (id : List ℕ) → IsUtf8 id → has_slash id ≡ false → AllSay (λ text method. names method (id ∷ text ∷ [])) (λ text. w ++ (id ++ 47 ∷ text)) ws
  pub others : (id text : List ℕ) → NoneIs text ws → (method : Method) → names method (id ∷ text ∷ []) ≡ None
  pub longer : (id text more : List ℕ) (rest : List (List ℕ)) (method : Method) → names method (id ∷ text ∷ more ∷ rest) ≡ None

module _ (w : List ℕ) (names : Method → List (List ℕ) → Option Request) (end : Option Entry) (ws : List (List ℕ × Entry)) (is : IsCollection w names end ws) where
  -- what follows the text between slashes says which request is named
  behind_id : (id text : List ℕ) (more : Option (List ℕ)) → has_slash id ≡ false → IsUtf8 id → has_slash text ≡ false
      → Says (λ method. names method (id ∷ text ∷ parts_left more)) (w ++ (id ++ 47 ∷ joined text more)) (first (leaves ws) (joined text more))
  behind_id id text None f u g =
      says_by (λ method. names method (id ∷ text ∷ [])) (w ++ (id ++ 47 ∷ text)) (first (leaves ws) text) (chosen text ws) (leaf_found ws text is.apart g)
      (leaf_says (λ t method. names method (id ∷ t ∷ [])) (λ t. w ++ (id ++ 47 ∷ t)) ws text (is.words id u f) (is.others id text))
  behind_id id text (Some rest) f u g =
      says_by (λ method. names method (id ∷ text ∷ parts rest)) (w ++ (id ++ 47 ∷ (text ++ 47 ∷ rest))) (first (leaves ws) (text ++ 47 ∷ rest)) None (leaf_missed ws text rest is.apart g)
      (λ method. let more = filled rest in ap (λ (texts : List (List ℕ)). names method (id ∷ text ∷ texts)) more.2 ∙ is.longer id text more.0 more.1 method)

  -- so does what follows the collection's name
  at_id : (id : List ℕ) (more : Option (List ℕ)) → has_slash id ≡ false → IsUtf8 id
      → Says (λ method. names method (id ∷ parts_left more)) (w ++ joined id more) (first (below end ws) (joined id more))
  at_id [] more f u =
      says_by (λ method. names method ([] ∷ parts_left more)) (w ++ joined [] more) (first (below end ws) (joined [] more)) None
      (no_param (led_by (47 ∷ []) (leaves ws) ++ ends_of end) more) (is.no_id (parts_left more))
  at_id (b ∷ id) None f u =
      says_by (λ method. names method ((b ∷ id) ∷ [])) (w ++ (b ∷ id)) (first (below end ws) (b ∷ id)) end
      (param_on b id (leaves ws) end None is.some (first_is_low b id u) f) (is.last (b ∷ id) u)
  at_id (b ∷ id) (Some rest) f u =
      says_by (λ method. names method ((b ∷ id) ∷ parts rest)) (w ++ ((b ∷ id) ++ 47 ∷ rest)) (first (below end ws) ((b ∷ id) ++ 47 ∷ rest)) (first (leaves ws) rest)
      (param_on b id (leaves ws) end (Some rest) is.some (first_is_low b id u) f)
      (let c = cut rest in
      says_as (λ method. names method ((b ∷ id) ∷ parts rest)) (λ method. names method ((b ∷ id) ∷ c.text ∷ parts_left c.more)) (w ++ ((b ∷ id) ++ 47 ∷ rest)) (first (leaves ws) rest)
      (λ method. ap (λ (texts : List (List ℕ)). names method ((b ∷ id) ∷ texts)) c.texts)
      (subst (λ (p : List ℕ). Says (λ method. names method ((b ∷ id) ∷ c.text ∷ parts_left c.more)) (w ++ ((b ∷ id) ++ 47 ∷ p)) (first (leaves ws) p)) (sym c.whole)
      (behind_id (b ∷ id) c.text c.more f u c.free)))

  -- so does the rest of a path behind the collection's name
  pub in_collection : (path : List ℕ) → IsUtf8 path → Says (λ method. names method (parts path)) (w ++ path) (first (below end ws) path)
  in_collection path u =
      let c = cut path in
      let t = both_texts c.text c.more (subst IsUtf8 c.whole u) in
      says_as (λ method. names method (parts path)) (λ method. names method (c.text ∷ parts_left c.more)) (w ++ path) (first (below end ws) path)
      (λ method. ap (names method) c.texts)
      (subst (λ (p : List ℕ). Says (λ method. names method (c.text ∷ parts_left c.more)) (w ++ p) (first (below end ws) p)) (sym c.whole) (at_id c.text c.more c.free t.0))
