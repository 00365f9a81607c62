-- How large a value is that a text spells: at most by one larger than the text is long.
use Rattle.std.proofs.Common.{◌≡◌, ℕ, suc, ◌+◌, ◌<◌, ◌≤◌, List, [], ◌∷◌, length, Option, Some, None, option_map, option_and_then, Ordering, Less, Equal, Greater, refl, subst, arith}
use Rattle.std.specs.Prelude.{All}
use Rattle.std.specs.Ordering.{match_ordering}
use Rattle.std.proofs.lemmas.List.Elements.{All-cons, All-nil}
use Rattle.json.specs.Token.{Token}
use Rattle.json.specs.Lex.{tokens}
use Rattle.json.specs.Json as json
use Rattle.serde_json.specs.Data.{Data, null, boolean, number, string, array, object, Items, no_items, item, Members, no_members, member, put}
use Rattle.serde_json.specs.Find.{get_member, get, as_array}
use Rattle.serde_json.specs.Read.{number_of, of_json, of_items, of_members, max_depth, read}
use Rattle.page_manifest.specs.Walk.{list_of}
use Rattle.page_manifest.proofs.Tokens.{length-tokens}
use Rattle.page_manifest.proofs.JsonSize as json_size
use Rattle.page_manifest.proofs.JsonSize.{size-value}

-- the values in it, itself among them
abbrev mutual
  pub size : Data → ℕ
  size null = 1
  size (boolean b) = 1
  size (number n) = 1
  size (string s) = 1
  size (array ds) = suc (items_size ds)
  size (object ms) = suc (members_size ms)

  pub items_size : Items → ℕ
  items_size no_items = 0
  items_size (item d ds) = size d + items_size ds

  pub members_size : Members → ℕ
  members_size no_members = 0
  members_size (member k d ms) = size d + members_size ms

abbrev pub AtMost : {A : Type 0} → (A → ℕ) → ℕ → Option A → Type 0
AtMost f n None = Unit {0}
AtMost f n (Some a) = f a ≤ n

AtMost-map : {A B : Type 0} (f : A → ℕ) (g : B → ℕ) (m n : ℕ) (h : A → B) → ((a : A) → f a ≤ m → g (h a) ≤ n) → (o : Option A) → AtMost f m o → AtMost g n (option_map h o)
AtMost-map f g m n h k None x = tt
AtMost-map f g m n h k (Some a) x = k a x

AtMost-and_then : {A B : Type 0} (f : A → ℕ) (g : B → ℕ) (m n : ℕ) (h : A → Option B) → ((a : A) → f a ≤ m → AtMost g n (h a)) → (o : Option A) → AtMost f m o → AtMost g n (option_and_then h o)
AtMost-and_then f g m n h k None x = tt
AtMost-and_then f g m n h k (Some a) x = k a x

AtMost-more : {A : Type 0} (f : A → ℕ) (m n : ℕ) → m ≤ n → (o : Option A) → AtMost f m o → AtMost f n o
AtMost-more f m n le None x = tt
AtMost-more f m n le (Some a) x = omega arith

flat : {A : Type 0} (o : Option A) → AtMost (λ _. 0) 0 o
flat None = tt
flat (Some a) = omega arith

members_size-match_ordering : (o : Ordering) (a b c : Members) (n : ℕ) → members_size a ≤ n → members_size b ≤ n → members_size c ≤ n → members_size (match_ordering o a b c) ≤ n
members_size-match_ordering Less a b c n p q r = p
members_size-match_ordering Equal a b c n p q r = q
members_size-match_ordering Greater a b c n p q r = r

members_size-put : (k : List ℕ) (d : Data) (ms : Members) → members_size (put k d ms) ≤ size d + members_size ms
members_size-put k d no_members = omega arith
members_size-put k d (member l e ms) =
    members_size-match_ordering _ (member k d (member l e ms)) (member l d ms) (member l e (put k d ms)) _ (omega arith) (omega arith) (omega (arith, members_size-put k d ms))

mutual
  size-of_json : (j : json.Json) → AtMost size (json_size.size j) (of_json j)
  size-of_json json.null = omega arith
  size-of_json (json.boolean b) = omega arith
  size-of_json (json.number s) = AtMost-map (λ _. 0) size 0 1 number (λ a x. omega arith) (number_of s) (flat _)
  size-of_json (json.string s) = omega arith
  size-of_json (json.array js) = AtMost-map items_size size (json_size.items_size js) _ array (λ a x. omega arith) _ (size-of_items js)
  size-of_json (json.object ms) = AtMost-map members_size size (json_size.members_size ms) _ object (λ a x. omega arith) _ (size-of_members ms no_members _ (omega arith))

  size-of_items : (js : json.Items) → AtMost items_size (json_size.items_size js) (of_items js)
  size-of_items json.no_items = omega arith
  size-of_items (json.item j js) =
      AtMost-and_then size items_size (json_size.size j) _ _ (λ d x. AtMost-map items_size items_size (json_size.items_size js) _ (item d) (λ ds y. omega arith) _ (size-of_items js)) _ (size-of_json j)

  size-of_members : (ms : json.Members) (found : Members) (n : ℕ) → json_size.members_size ms + members_size found ≤ n → AtMost members_size n (of_members ms found)
  size-of_members json.no_members found n h = omega arith
  size-of_members (json.member name j ms) found n h =
      AtMost-and_then size members_size (json_size.size j) n _ (λ d x. size-of_members ms (put name d found) n (omega (arith, members_size-put name d found))) _ (size-of_json j)

last_within : (o : Option (json.Json × List Token)) (n : ℕ) → ((j : json.Json) (r : List Token) → o ≡ Some (j, r) → json_size.size j ≤ n) → AtMost json_size.size n (option_and_then (λ p. json.if_last p.0 p.1) o)
last_within None n h = tt
last_within (Some (j, [])) n h = h j [] refl
last_within (Some (j, t ∷ r)) n h = tt

pub size-read : (text : List ℕ) (d : Data) → read text ≡ Some d → size d ≤ length text + 1
size-read text d e =
    let n = length text + 1 in
    let r = json.value max_depth (tokens text) in
    subst (AtMost size n) e (AtMost-and_then json_size.size size n n of_json (λ j x. AtMost-more size (json_size.size j) n x (of_json j) (size-of_json j)) (option_and_then (λ p. json.if_last p.0 p.1) r)
    (last_within r n (λ j left f. omega (arith, size-value max_depth (tokens text) left j f, length-tokens text))))

-- ---- what is found in a value

member_within : (o : Ordering) (d : Data) (found : Option Data) (n : ℕ) → AtMost size n found → size d ≤ n → AtMost size n (match_ordering o found (Some d) found)
member_within Less d found n p q = p
member_within Equal d found n p q = q
member_within Greater d found n p q = p

size-get_member : (k : List ℕ) (ms : Members) (n : ℕ) → members_size ms ≤ n → AtMost size n (get_member k ms)
size-get_member k no_members n h = tt
size-get_member k (member l e ms) n h = member_within _ e (get_member k ms) n (size-get_member k ms n (omega arith)) (omega arith)

pub size-get : (k : List ℕ) (d : Data) (n : ℕ) → size d ≤ n → AtMost size n (get k d)
size-get k null n h = tt
size-get k (boolean b) n h = tt
size-get k (number m) n h = tt
size-get k (string s) n h = tt
size-get k (array ds) n h = tt
size-get k (object ms) n h = size-get_member k ms n (omega arith)

pub size-as_array : (d : Data) (n : ℕ) → size d ≤ n → AtMost (λ ds. items_size ds + 1) n (as_array d)
size-as_array null n h = tt
size-as_array (boolean b) n h = tt
size-as_array (number m) n h = tt
size-as_array (string s) n h = tt
size-as_array (array ds) n h = omega arith
size-as_array (object ms) n h = tt

pub size-positive : (d : Data) → 0 < size d
size-positive null = omega arith
size-positive (boolean b) = omega arith
size-positive (number n) = omega arith
size-positive (string s) = omega arith
size-positive (array ds) = omega arith
size-positive (object ms) = omega arith

pub length-list_of : (ds : Items) → length (list_of ds) ≤ items_size ds
length-list_of no_items = omega arith
length-list_of (item d ds) = omega (arith, size-positive d, length-list_of ds)

pub size-list_of : (ds : Items) (n : ℕ) → items_size ds ≤ n → All (λ d. size d ≤ n) (list_of ds)
size-list_of no_items n h = All-nil (λ d. size d ≤ n)
size-list_of (item d ds) n h = All-cons (λ d. size d ≤ n) d (list_of ds) (omega arith) (size-list_of ds n (omega arith))
