-- Where no id stands twice, none stands around itself, and each spot is found by its id.
use Rattle.std.proofs.Common.{◌≡◌, ℕ, ◌+◌, Bool, true, false, ◌||◌, List, [], ◌∷◌, ◌++◌, length, map, cond, Option, Some, None, refl, sym, ap, ◌∙◌, subst}
use Rattle.std.specs.Prelude.{All, codes, if◌then◌else◌}
use Rattle.std.proofs.lemmas.Bool.{true≢false, false_from_ne_true, or_cases, or_left, or_right}
use Rattle.std.proofs.lemmas.List.{map-append}
use Rattle.std.proofs.lemmas.List.Elements.{All-nil, All-cons, All-head, All-tail, All-append}
use Rattle.html_grammar.specs.Trees.{Sort, one, many, Tree, text_node, element, none, more}
use Rattle.caja_units.specs.Units.{same_units}
use Rattle.caja_units.proofs.Texts.{same_units-equal}
use Rattle.es3_tokens.specs.Tokens.{is_one_of}
use Rattle.doc_nodes.specs.Rows.{value_at}
use Rattle.doc_tree.specs.Cleaned.{attrs_from}
use Rattle.page_manifest.specs.Bound.{repeated, once_each}
use Rattle.page_binding.specs.Spots.{Spot, spots, spot_and, spots_in, ids_of, spot_of, around, around_it}
use Rattle.page_binding.proofs.Names.{either_way, itself, one_of-push, one_of-left}
use Rattle.page_binding.proofs.Walked.{repeated-append, or_else}

-- a name that is new, and the names behind it
pub record Passes (before : List (List ℕ)) (i : ℕ) (n : List ℕ) (names : List (List ℕ)) : Type 0 where
  pub new : is_one_of n before ≡ false
  pub rest : repeated (before ++ n ∷ []) (i + 1) names ≡ None

pub passes : (before : List (List ℕ)) (i : ℕ) (n : List ℕ) (names : List (List ℕ)) → repeated before i (n ∷ names) ≡ None → Passes before i n names
passes before i n names e = at (is_one_of n before) refl e
  where
    at : (b : Bool) → is_one_of n before ≡ b → (if b then Some i else repeated (before ++ n ∷ []) (i + 1) names) ≡ None → Passes before i n names
    at true h f = absurd cc
    at false h f = record { new = h; rest = f }

neither : (o q : Option ℕ) → or_else o q ≡ None → (o ≡ None) × (q ≡ None)
neither None q e = (refl, e)
neither (Some k) q e = absurd cc

-- all of the one are among the other
abbrev Among : List (List ℕ) → List (List ℕ) → Type 0
Among xs ys = (y : List ℕ) → is_one_of y xs ≡ true → is_one_of y ys ≡ true

abbrev pub IsApart : Spot → Type 0
IsApart s = is_one_of s.id s.around ≡ false

element_apart : (tag : List ℕ) (v : Option (List ℕ)) (path before : List (List ℕ)) (i : ℕ) (content : List (List ℕ) → List Spot)
    → ((path before : List (List ℕ)) (i : ℕ) → Among path before → repeated before i (ids_of (content path)) ≡ None → All IsApart (content path))
    → Among path before → repeated before i (ids_of (spot_and tag v path content)) ≡ None → All IsApart (spot_and tag v path content)
element_apart tag None path before i content ih among once = ih path before i among once
element_apart tag (Some id) path before i content ih among once =
    let p = passes before i id (ids_of (content (id ∷ path))) once in
    let next : Among (id ∷ path) (before ++ id ∷ []) =
    λ y m. one_of-push y id before
    ∙ either_way (or_cases (same_units y id) (is_one_of y path) m) (λ same. or_right (is_one_of y before) (same_units y id) same) (λ there. or_left (is_one_of y before) (same_units y id) (among y there)) in
    let s : Spot = record { id = id; tag = tag; around = path } in
    All-cons IsApart s (content (id ∷ path)) (false_from_ne_true (is_one_of id path) (λ there. true≢false (sym (among id there) ∙ p.new)))
    (ih (id ∷ path) (before ++ id ∷ []) (i + 1) next p.rest)

apart_in : (s : Sort) (x : Tree s) (path before : List (List ℕ)) (i : ℕ) → Among path before → repeated before i (ids_of (spots s x path)) ≡ None → All IsApart (spots s x path)
apart_in _ (text_node us) path before i among once = All-nil IsApart
apart_in _ (element tag xs ts) path before i among once = element_apart tag (value_at (codes "id") (attrs_from xs)) path before i (spots many ts) (apart_in many ts) among once
apart_in _ none path before i among once = All-nil IsApart
apart_in _ (more x ts) path before i among once =
    let front = ids_of (spots one x path) in
    let both = neither (repeated before i front) (repeated (before ++ front) (i + length front) (ids_of (spots many ts path)))
    (sym (repeated-append before i front (ids_of (spots many ts path))) ∙ sym (ap (repeated before i) (map-append (λ s. s.id) (spots one x path) (spots many ts path))) ∙ once) in
    All-append IsApart (spots one x path) (spots many ts path) (apart_in one x path before i among both.0)
    (apart_in many ts path (before ++ front) (i + length front) (λ y m. one_of-left y before front (among y m)) both.1)

own_at : (x : List ℕ) (ss : List Spot) → All IsApart ss → is_one_of x (around ss x) ≡ false
own_at x [] h = refl
own_at x (s ∷ ss) h = by (same_units x s.id) refl (own_at x ss (All-tail IsApart s ss h))
  where
    by : (b : Bool) → same_units x s.id ≡ b → is_one_of x (around ss x) ≡ false → is_one_of x (around_it (cond b (Some s) (spot_of ss x))) ≡ false
    by true same rest = subst (λ y. is_one_of y s.around ≡ false) (sym (same_units-equal x s.id same)) (All-head IsApart s ss h)
    by false other rest = rest

-- each spot of a document in which no id stands twice
pub spots_apart : (ts : Tree many) → once_each (ids_of (spots_in ts)) ≡ None → All IsApart (spots_in ts)
spots_apart ts once = apart_in many ts [] [] 0 (λ y m. m) once

-- no id stands around its own element
pub not_around_itself : (ts : Tree many) → once_each (ids_of (spots_in ts)) ≡ None → (x : List ℕ) → is_one_of x (around (spots_in ts) x) ≡ false
not_around_itself ts once x = own_at x (spots_in ts) (spots_apart ts once)

-- ---- each is found by its id

abbrev IsNew : List (List ℕ) → Spot → Type 0
IsNew before s = is_one_of s.id before ≡ false

older : (x n : List ℕ) (before : List (List ℕ)) → is_one_of x (before ++ n ∷ []) ≡ false → (is_one_of x before ≡ false) × (same_units x n ≡ false)
older x n before h =
    let parts : (is_one_of x before || same_units x n) ≡ false = sym (one_of-push x n before) ∙ h in
    (false_from_ne_true (is_one_of x before) (λ e. true≢false (sym (or_left (is_one_of x before) (same_units x n) e) ∙ parts)), false_from_ne_true (same_units x n) (λ e. true≢false (sym (or_right (is_one_of x before) (same_units x n) e) ∙ parts)))

pub mapped : {P Q : Spot → Type 0} → ((s : Spot) → P s → Q s) → (ss : List Spot) → All P ss → All Q ss
mapped {P} {Q} f [] h = All-nil Q
mapped {P} {Q} f (s ∷ ss) h = All-cons Q s ss (f s (All-head P s ss h)) (mapped f ss (All-tail P s ss h))

pub both : {P Q R : Spot → Type 0} → ((s : Spot) → P s → Q s → R s) → (ss : List Spot) → All P ss → All Q ss → All R ss
both {P} {Q} {R} f [] p q = All-nil R
both {P} {Q} {R} f (s ∷ ss) p q = All-cons R s ss (f s (All-head P s ss p) (All-head Q s ss q)) (both {P = P} {Q = Q} {R = R} f ss (All-tail P s ss p) (All-tail Q s ss q))

pub all_new : (before : List (List ℕ)) (i : ℕ) (ss : List Spot) → repeated before i (ids_of ss) ≡ None → All (IsNew before) ss
all_new before i [] once = All-nil (IsNew before)
all_new before i (s ∷ ss) once =
    let p = passes before i s.id (ids_of ss) once in
    All-cons (IsNew before) s ss p.new (mapped {P = IsNew (before ++ s.id ∷ [])} {Q = IsNew before} (λ x h. (older x.id s.id before h).0) ss (all_new (before ++ s.id ∷ []) (i + 1) ss p.rest))

abbrev pub IsFound : List Spot → Spot → Type 0
IsFound ss s = spot_of ss s.id ≡ Some s

pub all_found : (before : List (List ℕ)) (i : ℕ) (ss : List Spot) → repeated before i (ids_of ss) ≡ None → All (IsFound ss) ss
all_found before i [] once = All-nil (IsFound [])
all_found before i (s ∷ ss) once =
    let p = passes before i s.id (ids_of ss) once in
    All-cons (IsFound (s ∷ ss)) s ss (ap (λ b. cond b (Some s) (spot_of ss s.id)) (itself s.id))
    (both {P = IsNew (before ++ s.id ∷ [])} {Q = IsFound ss} {R = IsFound (s ∷ ss)} (λ x new found. ap (λ b. cond b (Some s) (spot_of ss x.id)) (older x.id s.id before new).1 ∙ found) ss
    (all_new (before ++ s.id ∷ []) (i + 1) ss p.rest) (all_found (before ++ s.id ∷ []) (i + 1) ss p.rest))
