-- The table that the walk makes has all spots of a document, in order, where none stands twice.
use Rattle.std.proofs.Common.{◌≡◌, ℕ, ◌+◌, Bool, true, false, List, [], ◌∷◌, ◌++◌, length, map, cond, Option, Some, None, Ok, Err, refl, sym, ap, ◌∙◌, append_assoc, append-nil, arith}
use Rattle.std.specs.Prelude.{min, is_some, codes, if◌then◌else◌}
use Rattle.std.specs.Map.{lookup, keys_of}
use Rattle.std.proofs.lemmas.List.{map-append}
use Rattle.std.proofs.lemmas.Map.Made.{is_some-lookup}
use Rattle.html_grammar.specs.Trees.{Sort, one, many, Tree, text_node, element, none, more}
use Rattle.caja_units.specs.Units.{same_units}
use Rattle.es3_tokens.specs.Tokens.{is_one_of}
use Rattle.doc_nodes.specs.Rows.{value_at}
use Rattle.doc_tree.specs.Cleaned.{attrs_from}
use Rattle.page_manifest.specs.Faults.{Found, chain, twice}
use Rattle.page_manifest.specs.Bound.{repeated, once_each, unless}
use Rattle.page_roots.specs.Roots.{Roots}
use Rattle.page_binding.specs.Spots.{Spot, spots, spot_and, spots_in, ids_of}
use Rattle.page_binding.specs.Table.{Table, with_id, entered, walked, number_or_count}
use Rattle.page_binding.specs.declared.table.Held.{Held}
use Rattle.page_binding.proofs.Least.{least}

abbrev pub told : Roots → Spot → List ℕ × Held
told roots s = (s.id, record { least = least roots s.around; is_input = same_units s.tag (codes "input") })

abbrev pub all_told : Roots → List Spot → Table
all_told roots ss = map (told roots) ss

abbrev pub or_else : {A : Type 0} → Option A → Option A → Option A
or_else None q = q
or_else (Some p) q = Some p

-- names, and then others
pub repeated-append : (before : List (List ℕ)) (i : ℕ) (xs ys : List (List ℕ)) → repeated before i (xs ++ ys) ≡ or_else (repeated before i xs) (repeated (before ++ xs) (i + length xs) ys)
repeated-append before i [] ys =
    let same : i ≡ i + 0 = omega arith in
    ap (λ l. repeated l i ys) (sym (append-nil before)) ∙ ap (λ n. repeated (before ++ []) n ys) same
repeated-append before i (x ∷ xs) ys =
    let same : i + 1 + length xs ≡ i + length (x ∷ xs) = omega arith in
    elim (is_one_of x before) as (λ b. (if b then Some i else repeated (before ++ x ∷ []) (i + 1) (xs ++ ys)) ≡ or_else (if b then Some i else repeated (before ++ x ∷ []) (i + 1) xs) (repeated (before ++ (x ∷ xs)) (i + length (x ∷ xs)) ys)) [
      | true ↦ refl
      | false ↦
          repeated-append (before ++ x ∷ []) (i + 1) xs ys
          ∙ ap (λ l. or_else (repeated (before ++ x ∷ []) (i + 1) xs) (repeated l (i + 1 + length xs) ys)) (append_assoc before (x ∷ []) xs)
          ∙ ap (λ n. or_else (repeated (before ++ x ∷ []) (i + 1) xs) (repeated (before ++ (x ∷ xs)) n ys)) same
    ]

pub keys-told : (roots : Roots) (ss : List Spot) → keys_of (all_told roots ss) ≡ ids_of ss
keys-told roots [] = refl
keys-told roots (s ∷ ss) = ap (λ l. s.id ∷ l) (keys-told roots ss)

keys-append : (t u : Table) → keys_of (t ++ u) ≡ keys_of t ++ keys_of u
keys-append t u = map-append (λ e. e.0) t u

module _ (roots : Roots) where
  -- the table with these spots, unless one stands twice
  abbrev aim : Table → ℕ → List Spot → Found Table
  aim t i ss = unless (repeated (keys_of t) i (ids_of ss)) (λ _. (twice, 0)) (t ++ all_told roots ss)

  one_more : (id tag : List ℕ) (path : List (List ℕ)) (rest : List Spot) (t : Table) (i : ℕ) (next : Table → Found Table)
      → ((u : Table) → next u ≡ aim u (i + 1) rest)
      → chain (with_id id tag (least roots path) t) next ≡ aim t i (record { id = id; tag = tag; around = path } ∷ rest)
  one_more id tag path rest t i next ih =
      let s : Spot = record { id = id; tag = tag; around = path } in
      let u : Table = t ++ told roots s ∷ [] in
      ap (λ b. chain (if b then Err (twice, 0) else Ok u) next) (is_some-lookup (same_units id) t)
      ∙ elim (is_one_of id (keys_of t)) as (λ b. chain (if b then Err (twice, 0) else Ok u) next ≡ unless (if b then Some i else repeated (keys_of t ++ id ∷ []) (i + 1) (ids_of rest)) (λ _. (twice, 0)) (t ++ (told roots s ∷ all_told roots rest))) [
        | true ↦ refl
        | false ↦
            ih u
            ∙ ap (λ l. unless (repeated l (i + 1) (ids_of rest)) (λ _. (twice, 0)) (u ++ all_told roots rest)) (keys-append t (told roots s ∷ []))
            ∙ ap (unless (repeated (keys_of t ++ id ∷ []) (i + 1) (ids_of rest)) (λ _. (twice, 0))) (append_assoc t (told roots s ∷ []) (all_told roots rest))
      ]

  then_next : (x : Found Table) (n : ℕ) (next : ℕ → Table → Found Table) → chain {A = ℕ × Table} (chain {A = Table} {B = ℕ × Table} x (λ u. Ok (n, u))) (λ r. next r.0 r.1) ≡ chain x (next n)
  then_next (Ok u) n next = refl
  then_next (Err f) n next = refl

  element_is : (tag : List ℕ) (v : Option (List ℕ)) (path : List (List ℕ)) (ts : Tree many) (t : Table) (i : ℕ)
      → ((path : List (List ℕ)) (u : Table) (j : ℕ) → walked roots many ts (least roots path) u ≡ aim u j (spots many ts path))
      → chain (entered roots tag v (least roots path) t) (λ r. walked roots many ts r.0 r.1) ≡ aim t i (spot_and tag v path (spots many ts))
  element_is tag None path ts t i ih = ih path t i
  element_is tag (Some id) path ts t i ih =
      then_next (with_id id tag (least roots path) t) (min (number_or_count roots id) (least roots path)) (walked roots many ts)
      ∙ one_more id tag path (spots many ts (id ∷ path)) t i (walked roots many ts (least roots (id ∷ path))) (λ u. ih (id ∷ path) u (i + 1))

  one_then : (o q : Option ℕ) (u w : Table) (next : Table → Found Table) → next u ≡ unless q (λ _. (twice, 0)) w → chain (unless o (λ _. (twice, 0)) u) next ≡ unless (or_else o q) (λ _. (twice, 0)) w
  one_then None q u w next h = h
  one_then (Some k) q u w next h = refl

  joined : (xs ys : List Spot) (t : Table) (i : ℕ) (next : Table → Found Table) → ((u : Table) (j : ℕ) → next u ≡ aim u j ys) → chain (aim t i xs) next ≡ aim t i (xs ++ ys)
  joined xs ys t i next ih =
      let u : Table = t ++ all_told roots xs in
      let n : ℕ = i + length (ids_of xs) in
      let names : keys_of u ≡ keys_of t ++ ids_of xs = keys-append t (all_told roots xs) ∙ ap (λ l. keys_of t ++ l) (keys-told roots xs) in
      let whole : u ++ all_told roots ys ≡ t ++ all_told roots (xs ++ ys) = append_assoc t (all_told roots xs) (all_told roots ys) ∙ ap (λ l. t ++ l) (sym (map-append (told roots) xs ys)) in
      let behind : next u ≡ unless (repeated (keys_of t ++ ids_of xs) n (ids_of ys)) (λ _. (twice, 0)) (t ++ all_told roots (xs ++ ys)) =
      ih u n
      ∙ ap (λ l. unless (repeated l n (ids_of ys)) (λ _. (twice, 0)) (u ++ all_told roots ys)) names
      ∙ ap (unless (repeated (keys_of t ++ ids_of xs) n (ids_of ys)) (λ _. (twice, 0))) whole in
      one_then (repeated (keys_of t) i (ids_of xs)) (repeated (keys_of t ++ ids_of xs) n (ids_of ys)) u (t ++ all_told roots (xs ++ ys)) next behind
      ∙ ap (λ o. unless o (λ _. (twice, 0)) (t ++ all_told roots (xs ++ ys))) (sym (repeated-append (keys_of t) i (ids_of xs) (ids_of ys)))
      ∙ ap (λ l. unless (repeated (keys_of t) i l) (λ _. (twice, 0)) (t ++ all_told roots (xs ++ ys))) (sym (map-append (λ s. s.id) xs ys))

  walked_is : (s : Sort) (x : Tree s) (path : List (List ℕ)) (t : Table) (i : ℕ) → walked roots s x (least roots path) t ≡ aim t i (spots s x path)
  walked_is _ (text_node us) path t i = ap Ok (sym (append-nil t))
  walked_is _ (element tag xs ts) path t i = element_is tag (value_at (codes "id") (attrs_from xs)) path ts t i (walked_is many ts)
  walked_is _ none path t i = ap Ok (sym (append-nil t))
  walked_is _ (more x ts) path t i =
      ap (λ f. chain f (walked roots many ts (least roots path))) (walked_is one x path t i)
      ∙ joined (spots one x path) (spots many ts path) t i (walked roots many ts (least roots path)) (walked_is many ts path)

  pub walk_is : (ts : Tree many) → walked roots many ts (length roots) [] ≡ unless (once_each (ids_of (spots_in ts))) (λ _. (twice, 0)) (all_told roots (spots_in ts))
  walk_is ts = walked_is many ts [] [] 0
