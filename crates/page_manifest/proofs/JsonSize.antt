-- How large a JSON value is: no larger than the tokens that were read for it are many.
use Rattle.std.proofs.Common.{◌≡◌, ℕ, zero, suc, ◌+◌, ◌≤◌, List, [], ◌∷◌, length, Option, Some, None, option_and_then, refl, subst, arith}
use Rattle.json.specs.Token.{Token}
use Rattle.json.specs.Json.{Json, null, boolean, number, string, array, object, Items, no_items, item, Members, no_members, member, Parse, parse_map, after_end_array, read_key, items_step, members_step, items, members, value_with, value}
use Rattle.json.proofs.Grammar.{after_end_array-shorter, read_key-shorter}

-- the values in it, itself among them
abbrev mutual
  pub size : Json → ℕ
  size null = 1
  size (boolean b) = 1
  size (number s) = 1
  size (string s) = 1
  size (array js) = suc (items_size js)
  size (object ms) = suc (members_size ms)

  pub items_size : Items → ℕ
  items_size no_items = 0
  items_size (item j js) = size j + items_size js

  pub members_size : Members → ℕ
  members_size no_members = 0
  members_size (member k j ms) = size j + members_size ms

-- what was read, and what is left, are no more than n
abbrev Fits : {A : Type 0} → (A → ℕ) → ℕ → Option (A × List Token) → Type 0
Fits f n None = Unit {0}
Fits f n (Some p) = f p.0 + length p.1 ≤ n

abbrev EachFits : {A : Type 0} → (A → ℕ) → Parse A → Type 0
EachFits f p = (ts : List Token) → Fits f (length ts) (p ts)

mapped : {A B : Type 0} (f : A → ℕ) (g : B → ℕ) (m n : ℕ) (h : A → B) → ((a : A) (l : ℕ) → f a + l ≤ m → g (h a) + l ≤ n) → (o : Option (A × List Token)) → Fits f m o → Fits g n (parse_map h o)
mapped f g m n h k None x = tt
mapped f g m n h k (Some p) x = k p.0 (length p.1) x

wider : {A : Type 0} (f : A → ℕ) (m n : ℕ) → m ≤ n → (o : Option (A × List Token)) → Fits f m o → Fits f n o
wider f m n le None x = tt
wider f m n le (Some p) x = omega arith

and_more : {B : Type 0} (g : B → ℕ) (n : ℕ) (h : Json → B → B) → ((j : Json) (b : B) → g (h j b) ≡ size j + g b) → (more : Parse B) → EachFits g more
    → (o : Option (Json × List Token)) → Fits size n o → Fits g n (option_and_then (λ q. parse_map (h q.0) (more q.1)) o)
and_more g n h is more fits None x = tt
and_more g n h is more fits (Some q) x = mapped g g (length q.1) n (h q.0) (λ b l y. omega (arith, is q.0 b)) _ (fits q.1)

module _ (p : Parse Json) (fits : EachFits size p) where
  item_turn : (more : Parse Items) → EachFits items_size more → (ts : List Token) (o : Option (List Token)) → after_end_array ts ≡ o → Fits items_size (length ts) (items_step p more ts o)
  item_turn more again ts (Some r) e = omega (arith, after_end_array-shorter ts r e)
  item_turn more again ts None e = and_more items_size (length ts) item (λ j b. refl) more again (p ts) (fits ts)

  EachFits-items : (n : ℕ) → EachFits items_size (items p n)
  unfolding items
  EachFits-items zero ts = tt
  EachFits-items (suc n) ts = item_turn (items p n) (EachFits-items n) ts (after_end_array ts) refl

  member_turn : (more : Parse Members) → EachFits members_size more → (ts : List Token) (o : Option (Option (List ℕ) × List Token)) → read_key ts ≡ o → Fits members_size (length ts) (option_and_then (λ q. members_step p more q.0 q.1) o)
  member_turn more again ts None e = tt
  member_turn more again ts (Some (None, s)) e = omega (arith, read_key-shorter ts None s e)
  member_turn more again ts (Some (Some k, s)) e =
      wider members_size (length s) (length ts) (omega (arith, read_key-shorter ts (Some k) s e)) _ (and_more members_size (length s) (member k) (λ j b. refl) more again (p s) (fits s))

  EachFits-members : (n : ℕ) → EachFits members_size (members p n)
  unfolding members
  EachFits-members zero ts = tt
  EachFits-members (suc n) ts = member_turn (members p n) (EachFits-members n) ts (read_key ts) refl

one_level : (a : Parse Items) (o : Parse Members) → EachFits items_size a → EachFits members_size o → EachFits size (value_with a o)
one_level a o p q [] = tt
one_level a o p q (Token.begin_object ∷ ts) = mapped members_size size (length ts) _ object (λ ms l x. omega arith) (o ts) (q ts)
one_level a o p q (Token.end_object ∷ ts) = tt
one_level a o p q (Token.begin_array ∷ ts) = mapped items_size size (length ts) _ array (λ js l x. omega arith) (a ts) (p ts)
one_level a o p q (Token.end_array ∷ ts) = tt
one_level a o p q (Token.key s ∷ ts) = tt
one_level a o p q (Token.string s ∷ ts) = omega arith
one_level a o p q (Token.number s ∷ ts) = omega arith
one_level a o p q (Token.boolean b ∷ ts) = omega arith
one_level a o p q (Token.null ∷ ts) = omega arith
one_level a o p q (Token.bad ∷ ts) = tt

EachFits-value : (depth : ℕ) → EachFits size (value depth)
unfolding value
EachFits-value zero = one_level (λ ts. None) (λ ts. None) (λ ts. tt) (λ ts. tt)
EachFits-value (suc depth) =
    one_level (λ ts. items (value depth) (length ts) ts) (λ ts. members (value depth) (length ts) ts)
    (λ ts. EachFits-items (value depth) (EachFits-value depth) (length ts) ts) (λ ts. EachFits-members (value depth) (EachFits-value depth) (length ts) ts)

pub size-value : (depth : ℕ) (ts r : List Token) (j : Json) → value depth ts ≡ Some (j, r) → size j + length r ≤ length ts
size-value depth ts r j e = subst (Fits size (length ts)) e (EachFits-value depth ts)
