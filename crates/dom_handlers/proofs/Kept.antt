-- The places that are kept for a node stay those of its handlers where another handler is registered, and what stands at them is what listens.
use Rattle.std.proofs.Common.{◌≡◌, ◌≢◌, ℕ, zero, suc, ◌+◌, ◌<◌, ◌≤◌, true, false, List, [], ◌∷◌, ◌++◌, append_assoc, length, length-append, drop, map, get_or, set, Option, Some, cond, refl, sym, ap, ◌∙◌, arith}
use Rattle.std.specs.Prelude.{nat_eq, slice_get}
use Rattle.std.specs.Option.{option_to_list}
use Rattle.std.proofs.Math.Dec.{eqb}
use Rattle.std.proofs.lemmas.Bool.{eqb-true, eq-eqb}
use Rattle.std.proofs.lemmas.List.{map-set, get_or-map, map-append, length-map, get_or-set_same, get_or-set_other, get_or_past, drop_more}
use Rattle.es3_objects.specs.declared.value.Value.{Value}
use Rattle.dom_handlers.specs.declared.kinds.EventKind.{EventKind}
use Rattle.dom_handlers.specs.declared.kinds.Handler.{Handler}
use Rattle.dom_handlers.specs.Handlers.{same_kind, listening, of_kind}
use Rattle.dom_handlers.specs.Kept.{found, places_from, places_of, AreKept}

-- what stands behind others

behind : (before : List Handler) (x : Handler) (xs : List Handler) (at : ℕ) → length before ≡ at → slice_get (before ++ x ∷ xs) at ≡ Some x
behind [] x xs zero is = refl
behind [] x xs (suc at) is = absurd (omega (arith, is))
behind (y ∷ before) x xs zero is = absurd (omega (arith, is))
behind (y ∷ before) x xs (suc at) is = behind before x xs at (omega (arith, is))

found_behind : (before xs : List Handler) (n at : ℕ) → length before ≡ at → found (before ++ xs) (places_from at n xs) ≡ listening n xs
found_behind before [] n at is = refl
found_behind before (x ∷ xs) n at is =
    let l = before ++ x ∷ xs in
    let ps = places_from (suc at) n xs in
    let more : length (before ++ x ∷ []) ≡ suc at = omega (arith, is, length-append before (x ∷ [])) in
    let rest : found l ps ≡ listening n xs = ap (λ hs. found hs ps) (sym (append_assoc before (x ∷ []) xs)) ∙ found_behind (before ++ x ∷ []) xs n (suc at) more in
    elim (nat_eq x.node n) as (λ b. found l (cond b (at ∷ ps) ps) ≡ cond b (x ∷ listening n xs) (listening n xs)) [
      | true ↦ ap (λ o. option_to_list o ++ found l ps) (behind before x xs at is) ∙ ap (λ hs. x ∷ hs) rest
      | false ↦ rest
    ]

-- what stands at the places of a node's handlers are its handlers
pub found_are : (hs : List Handler) (n : ℕ) → found hs (places_from 0 n hs) ≡ listening n hs
found_are hs n = found_behind [] hs n 0 refl

-- one more handler

own_more : (at n to : ℕ) (hs : List Handler) (x : Handler) → x.node ≡ n → at + length hs ≡ to → places_from at n (hs ++ x ∷ []) ≡ places_from at n hs ++ to ∷ []
own_more at n to [] x own is =
    let same : nat_eq x.node n ≡ true = eq-eqb x.node n own in
    let here : at ≡ to = omega (arith, is) in
    ap (λ b. cond b (at ∷ []) []) same ∙ ap (λ i. i ∷ []) here
own_more at n to (h ∷ hs) x own is =
    let rest = own_more (suc at) n to hs x own (omega (arith, is)) in
    elim (nat_eq h.node n) as (λ b. cond b (at ∷ places_from (suc at) n (hs ++ x ∷ [])) (places_from (suc at) n (hs ++ x ∷ [])) ≡ cond b (at ∷ places_from (suc at) n hs) (places_from (suc at) n hs) ++ to ∷ []) [
      | true ↦ ap (λ ps. at ∷ ps) rest
      | false ↦ rest
    ]

other_more : (at n : ℕ) (hs : List Handler) (x : Handler) → nat_eq x.node n ≡ false → places_from at n (hs ++ x ∷ []) ≡ places_from at n hs
other_more at n [] x other = ap (λ b. cond b (at ∷ []) []) other
other_more at n (h ∷ hs) x other =
    let rest = other_more (suc at) n hs x other in
    elim (nat_eq h.node n) as (λ b. cond b (at ∷ places_from (suc at) n (hs ++ x ∷ [])) (places_from (suc at) n (hs ++ x ∷ [])) ≡ cond b (at ∷ places_from (suc at) n hs) (places_from (suc at) n hs)) [
      | true ↦ ap (λ ps. at ∷ ps) rest
      | false ↦ rest
    ]

none_behind : (pss : List (List ℕ)) (n : ℕ) → get_or (pss ++ [] ∷ []) n [] ≡ get_or pss n []
none_behind [] zero = refl
none_behind [] (suc n) = refl
none_behind (ps ∷ pss) zero = refl
none_behind (ps ∷ pss) (suc n) = none_behind pss n

module _ {A : Type 0} (items : A → List ℕ) where
  -- a new list without places
  pub none_more : (pss : List A) (q : A) (n : ℕ) → items q ≡ [] → places_of items (pss ++ q ∷ []) n ≡ places_of items pss n
  none_more pss q n none =
      ap (λ l. get_or l n []) (map-append items pss (q ∷ [])) ∙ ap (λ ps. get_or (map items pss ++ ps ∷ []) n []) none ∙ none_behind (map items pss) n

  -- a list that has the places that it had
  pub kept_unpushed : (pss : List A) (hs : List Handler) (k : ℕ) (q left : A) → AreKept items pss hs → k < length pss → q ≡ get_or pss k q → items left ≡ items q → AreKept items (set pss k left) hs
  kept_unpushed pss hs k q left kept there is same n =
      let long : k < length (map items pss) = omega (arith, there, length-map pss items) in
      let at : items left ≡ get_or (map items pss) k [] = same ∙ ap items is ∙ sym (get_or-map items pss k q [] there) in
      let cases = elim (eqb n k) as (λ b. eqb n k ≡ b → get_or (set (map items pss) k (items left)) n [] ≡ get_or (map items pss) n []) [
        | true ↦ λ yes.
            let e : n ≡ k = eqb-true n k yes in
            ap (λ i. get_or (set (map items pss) k (items left)) i []) e ∙ get_or-set_same (map items pss) k (items left) [] long ∙ at ∙ ap (λ i. get_or (map items pss) i []) (sym e)
        | false ↦ λ other. get_or-set_other (map items pss) k n (items left) [] (λ e. let yes : eqb n k ≡ true = eq-eqb n k e in cc (yes, other))
      ] in
      ap (λ l. get_or l n []) (map-set items pss k left) ∙ cases refl ∙ kept n

  -- a list that has one place more
  pub kept_registered : (pss : List A) (hs : List Handler) (k to : ℕ) (x : Handler) (q after : A) → AreKept items pss hs → k < length pss → q ≡ get_or pss k q → items after ≡ items q ++ to ∷ [] → x.node ≡ k → to ≡ length hs
      → AreKept items (set pss k after) (hs ++ x ∷ [])
  kept_registered pss hs k to x q after kept there is more own last n =
      let long : k < length (map items pss) = omega (arith, there, length-map pss items) in
      let at : items q ≡ get_or (map items pss) k [] = ap items is ∙ sym (get_or-map items pss k q [] there) in
      let cases = elim (eqb n k) as (λ b. eqb n k ≡ b → get_or (set (map items pss) k (items after)) n [] ≡ places_from 0 n (hs ++ x ∷ [])) [
        | true ↦ λ yes.
            let e : n ≡ k = eqb-true n k yes in
            ap (λ i. get_or (set (map items pss) k (items after)) i []) e ∙ get_or-set_same (map items pss) k (items after) [] long ∙ more ∙ ap (λ ps. ps ++ to ∷ []) (at ∙ kept k)
            ∙ sym (own_more 0 k to hs x own (omega (arith, last))) ∙ ap (λ i. places_from 0 i (hs ++ x ∷ [])) (sym e)
        | false ↦ λ other.
            let ne : n ≢ k = λ e. (let yes : eqb n k ≡ true = eq-eqb n k e in cc (yes, other)) in
            let apart = elim (nat_eq x.node n) as (λ b. nat_eq x.node n ≡ b → b ≡ false) [
              | true ↦ λ same. absurd (ne (sym (eqb-true x.node n same) ∙ own))
              | false ↦ λ no. refl
            ] in
            get_or-set_other (map items pss) k n (items after) [] ne ∙ kept n ∙ sym (other_more 0 n hs x (apart refl))
      ] in
      ap (λ l. get_or l n []) (map-set items pss k after) ∙ cases refl

  -- what stands at the places that are kept for a node
  pub found_kept : (pss : List A) (hs : List Handler) (n : ℕ) (q : A) → AreKept items pss hs → n < length pss → q ≡ get_or pss n q → found hs (items q) ≡ listening n hs
  found_kept pss hs n q kept there is = ap (found hs) (ap items is ∙ sym (get_or-map items pss n q [] there) ∙ kept n) ∙ found_are hs n

  pub none_kept : (pss : List A) (hs : List Handler) (n : ℕ) → AreKept items pss hs → length pss ≤ n → listening n hs ≡ []
  none_kept pss hs n kept past =
      let long : length (map items pss) ≤ n = omega (arith, past, length-map pss items) in
      sym (found_are hs n) ∙ ap (found hs) (sym (kept n) ∙ get_or_past (map items pss) n [] long)

-- the functions of what stands at some places, one place after another

kind-append : (k : EventKind) (xs ys : List Handler) → of_kind k (xs ++ ys) ≡ of_kind k xs ++ of_kind k ys
kind-append k [] ys = refl
kind-append k (x ∷ xs) ys =
    elim (same_kind k x.kind) as (λ b. cond b (x.function ∷ of_kind k (xs ++ ys)) (of_kind k (xs ++ ys)) ≡ cond b (x.function ∷ of_kind k xs) (of_kind k xs) ++ of_kind k ys) [
      | true ↦ ap (λ fs. x.function ∷ fs) (kind-append k xs ys)
      | false ↦ kind-append k xs ys
    ]

pub next_found : (k : EventKind) (hs : List Handler) (ps : List ℕ) (i d : ℕ) (o : Option Handler) (out after whole : List Value) → i < length ps → o ≡ slice_get hs (get_or ps i d) → after ≡ out ++ of_kind k (option_to_list o)
    → out ++ of_kind k (found hs (drop i ps)) ≡ whole → after ++ of_kind k (found hs (drop (i + 1) ps)) ≡ whole
next_found k hs ps i d o out after whole less at more is =
    let rest = found hs (drop (i + 1) ps) in
    ap (λ l. l ++ of_kind k rest) more
    ∙ append_assoc out (of_kind k (option_to_list o)) (of_kind k rest)
    ∙ ap (λ l. out ++ l) (sym (kind-append k (option_to_list o) rest))
    ∙ ap (λ p. out ++ of_kind k (option_to_list p ++ rest)) at
    ∙ ap (λ qs. out ++ of_kind k (found hs qs)) (sym (drop_more ps i d less))
    ∙ is
