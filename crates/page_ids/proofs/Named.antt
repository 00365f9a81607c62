-- Where no id stands twice, one node at most has it; and one that is granted is that of the first node of its root.
use Rattle.std.proofs.Common.{◌≡◌, ℕ, zero, suc, ◌+◌, ◌≤◌, Bool, true, false, List, [], ◌∷◌, ◌++◌, Option, Some, None, refl, sym, ap, ◌∙◌, arith}
use Rattle.std.specs.Prelude.{slice_get}
use Rattle.std.proofs.lemmas.Bool.{true≢false, false_from_ne_true, eqb-true, eq-eqb, or_right}
use Rattle.caja_units.specs.Units.{same_units}
use Rattle.caja_units.proofs.Texts.{same_units-from_equal}
use Rattle.html_grammar.specs.Trees.{many, Tree}
use Rattle.es3_tokens.specs.Tokens.{is_one_of}
use Rattle.doc_nodes.specs.Changes.{granted, is_node, or_around}
use Rattle.page_manifest.specs.Bound.{repeated, once_each}
use Rattle.page_binding.specs.Spots.{spots_in, ids_of}
use Rattle.page_binding.proofs.Names.{one_of-push, one_of-left}
use Rattle.page_binding.proofs.Once.{passes}
use Rattle.page_ids.proofs.Marks.{Mark, an_element, mark_id, within, with_own, marks, id_at, names, names_are, known_before, near, one_id, nearest}
use Rattle.page_ids.proofs.Marked.{put, places}

-- names behind an id, where there is one
record Behind (before : List (List ℕ)) (ns : List (List ℕ)) : Type 0 where
  pub passed : List (List ℕ)
  pub from : ℕ
  pub once : repeated passed from ns ≡ None
  pub more : (id : List ℕ) → is_one_of id passed ≡ false → is_one_of id before ≡ false

not_left : (id : List ℕ) (before ys : List (List ℕ)) → is_one_of id (before ++ ys) ≡ false → is_one_of id before ≡ false
not_left id before ys h = false_from_ne_true (is_one_of id before) (λ e. true≢false (sym (one_of-left id before ys e) ∙ h))

behind : (before : List (List ℕ)) (i : ℕ) (v : Option (List ℕ)) (ns : List (List ℕ)) → repeated before i (with_own v ns) ≡ None → Behind before ns
behind before i None ns once = record { passed = before; from = i; once = once; more = λ id h. h }
behind before i (Some x) ns once = let p = passes before i x ns once in record { passed = before ++ x ∷ []; from = i + 1; once = p.rest; more = λ id h. not_left id before (x ∷ []) h }

-- none of them stands before
own_new : (before : List (List ℕ)) (i : ℕ) (v : Option (List ℕ)) (ns : List (List ℕ)) (id : List ℕ) → v ≡ Some id → repeated before i (with_own v ns) ≡ None → is_one_of id before ≡ false
own_new before i None ns id e once = cc
own_new before i (Some x) ns id e once = let same : x ≡ id = cc in ap (λ y. is_one_of y before) (sym same) ∙ (passes before i x ns once).new

all_new : (before : List (List ℕ)) (i : ℕ) (ms : List Mark) (n : ℕ) (id : List ℕ) → repeated before i (names ms) ≡ None → id_at (slice_get ms n) ≡ Some id → is_one_of id before ≡ false
all_new before i [] n id once e = cc
all_new before i (m ∷ ms) zero id once e = own_new before i (mark_id m) (names ms) id e once
all_new before i (m ∷ ms) (suc n) id once e = let b = behind before i (mark_id m) (names ms) once in b.more id (all_new b.passed b.from ms n id b.once e)

-- the first one isn't there again
not_again : (before : List (List ℕ)) (i : ℕ) (v : Option (List ℕ)) (ms : List Mark) (n : ℕ) (id : List ℕ) → repeated before i (with_own v (names ms)) ≡ None → v ≡ Some id → id_at (slice_get ms n) ≡ Some id → ⊥
not_again before i None ms n id once e f = cc
not_again before i (Some x) ms n id once e f =
    let same : x ≡ id = cc in
    let new = all_new (before ++ x ∷ []) (i + 1) ms n id (passes before i x (names ms) once).rest f in
    let there : is_one_of id (before ++ x ∷ []) ≡ true = one_of-push id x before ∙ or_right (is_one_of id before) (same_units id x) (same_units-from_equal id x (sym same)) in
    true≢false (sym there ∙ new)

one_of_all : (before : List (List ℕ)) (i : ℕ) (ms : List Mark) (n k : ℕ) (id : List ℕ) → repeated before i (names ms) ≡ None → id_at (slice_get ms n) ≡ Some id → id_at (slice_get ms k) ≡ Some id → n ≡ k
one_of_all before i [] n k id once e f = cc
one_of_all before i (m ∷ ms) zero zero id once e f = refl
one_of_all before i (m ∷ ms) zero (suc k) id once e f = absurd (not_again before i (mark_id m) ms k id once e f)
one_of_all before i (m ∷ ms) (suc n) zero id once e f = absurd (not_again before i (mark_id m) ms n id once f e)
one_of_all before i (m ∷ ms) (suc n) (suc k) id once e f = let b = behind before i (mark_id m) (names ms) once in ap suc (one_of_all b.passed b.from ms n k id b.once e f)

pub one_has_it : (ts : Tree many) → once_each (ids_of (spots_in ts)) ≡ None → (n k : ℕ) (id : List ℕ) → id_at (slice_get (marks many ts []) n) ≡ Some id → id_at (slice_get (marks many ts []) k) ≡ Some id → n ≡ k
one_has_it ts once n k id e f = one_of_all [] 0 (marks many ts []) n k id (ap (repeated [] 0) (sym (names_are ts)) ∙ once) e f

-- ---- the first node of a root

is_at : (r : ℕ) (o : Option ℕ) → is_node r o ≡ true → o ≡ Some r
is_at r None h = absurd (true≢false (sym h))
is_at r (Some q) h = ap Some (eqb-true q r h)

module _ (roots : List (List ℕ)) where
  -- the first place of a root, from i on, isn't behind n
  record Head (r i : ℕ) (ms : List Mark) (n : ℕ) : Type 0 where
    pub place : ℕ
    pub mark : Mark
    pub first : slice_get (places roots r i ms) 0 ≡ Some (i + place)
    pub at : slice_get ms place ≡ Some mark
    pub stands : near roots (within mark) ≡ Some r
    pub least : place ≤ n

  here : (r i : ℕ) (x : Mark) (ms : List Mark) (n : ℕ) → near roots (within x) ≡ Some r → Head r i (x ∷ ms) n
  here r i x ms n e =
      let yes : is_node r (near roots (within x)) ≡ true = ap (is_node r) e ∙ eq-eqb r r refl in
      let same : i ≡ i + 0 = omega arith in
      record { place = 0; mark = x; first = ap (λ b. slice_get (put b i (places roots r (suc i) ms)) 0) yes ∙ ap Some same; at = refl; stands = e; least = omega arith }

  further : (r i : ℕ) (x : Mark) (ms : List Mark) (n : ℕ) (b : Bool) → is_node r (near roots (within x)) ≡ b → Head r (suc i) ms n → Head r i (x ∷ ms) (suc n)
  further r i x ms n true e h = here r i x ms (suc n) (is_at r (near roots (within x)) e)
  further r i x ms n false e h =
      let le = h.least in
      let same : suc i + h.place ≡ i + suc h.place = omega arith in
      record { place = suc h.place; mark = h.mark; first = ap (λ b. slice_get (put b i (places roots r (suc i) ms)) 0) e ∙ h.first ∙ ap Some same; at = h.at; stands = h.stands; least = omega (arith, le) }

  head : (r i : ℕ) (ms : List Mark) (n : ℕ) (m : Mark) → slice_get ms n ≡ Some m → near roots (within m) ≡ Some r → Head r i ms n
  head r i [] n m e f = absurd cc
  head r i (x ∷ ms) zero m e f = let is : x ≡ m = cc in here r i x ms 0 (ap (λ y. near roots (within y)) is ∙ f)
  head r i (x ∷ ms) (suc n) m e f = further r i x ms n (is_node r (near roots (within x))) refl (head r (suc i) ms n m e f)

  -- a granted id is that of the first
  pub granted_first : (ts : Tree many) → once_each (ids_of (spots_in ts)) ≡ None → (n : ℕ) (tag id : List ℕ) (path : List (List ℕ)) (r : ℕ) → slice_get (marks many ts []) n ≡ Some (an_element tag (Some id) path) → granted roots (Some id) ≡ Some r
      → slice_get (places roots r 0 (marks many ts [])) 0 ≡ Some n
  granted_first ts once n tag id path r e is =
      let ms = marks many ts [] in
      let h = head r 0 ms n (an_element tag (Some id) path) e (ap (or_around (near roots path)) is) in
      let near_it = nearest roots (within h.mark) r h.stands in
      let same : near_it.id ≡ id = one_id roots near_it.id id r near_it.is is in
      let b = known_before ts h.place h.mark near_it.id h.at near_it.among in
      let met : b.place ≡ n = one_has_it ts once b.place n id (b.has ∙ ap Some same) (ap id_at e) in
      let place : 0 + h.place ≡ n = omega (arith, h.least, b.least, met) in
      h.first ∙ ap Some place
