-- The elements and texts of cleaned HTML, in document order, with the ids around each; the spots of ids are among them.
use Rattle.std.proofs.Common.{◌≡◌, ℕ, zero, suc, ◌+◌, ◌<◌, ◌≤◌, Bool, true, false, ◌||◌, List, [], ◌∷◌, ◌++◌, length, get_or, cond, Option, Some, None, refl, sym, ap, ◌∙◌, arith, inl, inr}
use Rattle.std.specs.Prelude.{◌⊎◌, is_some, slice_get, codes}
use Rattle.std.specs.List.{list_any}
use Rattle.std.proofs.lemmas.Bool.{true≢false, or_cases, or_left, or_right}
use Rattle.std.proofs.lemmas.Iterator.Adapters.{position_from-zero}
use Rattle.std.proofs.lemmas.List.Quantifiers.{position-Some}
use Rattle.caja_units.specs.Units.{same_units}
use Rattle.caja_units.proofs.Texts.{same_units-equal}
use Rattle.html_grammar.specs.Trees.{Sort, one, many, Tree, text_node, element, none, more}
use Rattle.es3_tokens.specs.Tokens.{is_one_of}
use Rattle.doc_nodes.specs.Rows.{value_at}
use Rattle.doc_nodes.specs.Changes.{granted, or_around}
use Rattle.doc_tree.specs.Cleaned.{attrs_from}
use Rattle.page_binding.specs.Spots.{Spot, spots, spot_and, spots_in, ids_of, spot_of}
use Rattle.page_binding.proofs.Names.{any_same, same_both, either_way, itself}
use Rattle.page_binding.proofs.Least.{some_from}

-- a text, within elements with these ids, the nearest first; an element, with its tag and its id, within others
pub data Mark : Type 0 where
  a_text : List (List ℕ) → Mark
  an_element : List ℕ → Option (List ℕ) → List (List ℕ) → Mark

-- an id before others, where there is one
abbrev pub with_own : Option (List ℕ) → List (List ℕ) → List (List ℕ)
with_own None path = path
with_own (Some id) path = id ∷ path

abbrev pub mark_id : Mark → Option (List ℕ)
mark_id (a_text path) = None
mark_id (an_element tag v path) = v

abbrev pub mark_tag : Mark → Option (List ℕ)
mark_tag (a_text path) = None
mark_tag (an_element tag v path) = Some tag

-- its own id, and those around it
abbrev pub within : Mark → List (List ℕ)
within (a_text path) = path
within (an_element tag v path) = with_own v path

abbrev pub marks : (s : Sort) → Tree s → List (List ℕ) → List Mark
marks _ (text_node us) path = a_text path ∷ []
marks _ (element tag xs ts) path = let v = value_at (codes "id") (attrs_from xs) in an_element tag v path ∷ marks many ts (with_own v path)
marks _ none path = []
marks _ (more x ts) path = marks one x path ++ marks many ts path

abbrev pub id_at : Option Mark → Option (List ℕ)
id_at None = None
id_at (Some m) = mark_id m

abbrev pub tag_at : Option Mark → Option (List ℕ)
tag_at None = None
tag_at (Some m) = mark_tag m

-- ---- ids

abbrev pub names : List Mark → List (List ℕ)
names [] = []
names (m ∷ ms) = with_own (mark_id m) (names ms)

own_append : (v : Option (List ℕ)) (a b : List (List ℕ)) → with_own v (a ++ b) ≡ with_own v a ++ b
own_append None a b = refl
own_append (Some id) a b = refl

-- ---- spots

-- the spot of an element, where it has an id, before others
abbrev spot_or : List ℕ → Option (List ℕ) → List (List ℕ) → List Spot → List Spot
spot_or tag None path ss = ss
spot_or tag (Some id) path ss = record { id = id; tag = tag; around = path } ∷ ss

abbrev pub spots_among : List Mark → List Spot
spots_among [] = []
spots_among (a_text path ∷ ms) = spots_among ms
spots_among (an_element tag v path ∷ ms) = spot_or tag v path (spots_among ms)

spot_or-append : (tag : List ℕ) (v : Option (List ℕ)) (path : List (List ℕ)) (a b : List Spot) → spot_or tag v path (a ++ b) ≡ spot_or tag v path a ++ b
spot_or-append tag None path a b = refl
spot_or-append tag (Some id) path a b = refl

spots_append : (a b : List Mark) → spots_among (a ++ b) ≡ spots_among a ++ spots_among b
spots_append [] b = refl
spots_append (a_text path ∷ a) b = spots_append a b
spots_append (an_element tag v path ∷ a) b = ap (spot_or tag v path) (spots_append a b) ∙ spot_or-append tag v path (spots_among a) (spots_among b)

element_spots : (tag : List ℕ) (v : Option (List ℕ)) (path : List (List ℕ)) (content : List (List ℕ) → List Spot) (ms : List (List ℕ) → List Mark) → ((path : List (List ℕ)) → content path ≡ spots_among (ms path))
    → spot_and tag v path content ≡ spot_or tag v path (spots_among (ms (with_own v path)))
element_spots tag None path content ms same = same path
element_spots tag (Some id) path content ms same = ap (λ l. record { id = id; tag = tag; around = path } ∷ l) (same (id ∷ path))

spots_are : (s : Sort) (x : Tree s) (path : List (List ℕ)) → spots s x path ≡ spots_among (marks s x path)
spots_are _ (text_node us) path = refl
spots_are _ (element tag xs ts) path = element_spots tag (value_at (codes "id") (attrs_from xs)) path (spots many ts) (marks many ts) (spots_are many ts)
spots_are _ none path = refl
spots_are _ (more x ts) path =
    ap (λ l. l ++ spots many ts path) (spots_are one x path) ∙ ap (λ l. spots_among (marks one x path) ++ l) (spots_are many ts path)
    ∙ sym (spots_append (marks one x path) (marks many ts path))

spot_ids : (tag : List ℕ) (v : Option (List ℕ)) (path : List (List ℕ)) (ss : List Spot) → ids_of (spot_or tag v path ss) ≡ with_own v (ids_of ss)
spot_ids tag None path ss = refl
spot_ids tag (Some id) path ss = refl

names_among : (ms : List Mark) → ids_of (spots_among ms) ≡ names ms
names_among [] = refl
names_among (a_text path ∷ ms) = names_among ms
names_among (an_element tag v path ∷ ms) = spot_ids tag v path (spots_among ms) ∙ ap (with_own v) (names_among ms)

-- the ids of a document are those of its elements, in order
pub names_are : (ts : Tree many) → ids_of (spots_in ts) ≡ names (marks many ts [])
names_are ts = ap ids_of (spots_are many ts []) ∙ names_among (marks many ts [])

-- a spot that is found by an id is that of an element
pub record HasSpot (ms : List Mark) (id : List ℕ) (s : Spot) : Type 0 where
  pub place : ℕ
  pub mark : slice_get ms place ≡ Some (an_element s.tag (Some id) s.around)

one_further : (m : Mark) (ms : List Mark) (id : List ℕ) (s : Spot) → HasSpot ms id s → HasSpot (m ∷ ms) id s
one_further m ms id s h = record { place = suc h.place; mark = h.mark }

spot_mark : (ms : List Mark) (id : List ℕ) (s : Spot) → spot_of (spots_among ms) id ≡ Some s → HasSpot ms id s
spot_mark [] id s e = absurd cc
spot_mark (a_text path ∷ ms) id s e = one_further (a_text path) ms id s (spot_mark ms id s e)
spot_mark (an_element tag None path ∷ ms) id s e = one_further (an_element tag None path) ms id s (spot_mark ms id s e)
spot_mark (an_element tag (Some x) path ∷ ms) id s e = at (same_units id x) refl e (spot_mark ms id s)
  where
    it : Spot
    it = record { id = x; tag = tag; around = path }

    at : (b : Bool) → same_units id x ≡ b → cond b (Some it) (spot_of (spots_among ms) id) ≡ Some s → (spot_of (spots_among ms) id ≡ Some s → HasSpot ms id s) → HasSpot (an_element tag (Some x) path ∷ ms) id s
    at true same f rest =
        let is : it ≡ s = cc in
        let its_id : x ≡ id = sym (same_units-equal id x same) in
        record { place = 0; mark = ap (λ y. Some (an_element tag (Some y) path)) its_id ∙ ap (λ (y : Spot). Some (an_element y.tag (Some id) y.around)) is }
    at false other f rest = one_further (an_element tag (Some x) path) ms id s (rest f)

pub spot_is_mark : (ts : Tree many) (id : List ℕ) (s : Spot) → spot_of (spots_in ts) id ≡ Some s → HasSpot (marks many ts []) id s
spot_is_mark ts id s e = spot_mark (marks many ts []) id s (ap (λ ss. spot_of ss id) (sym (spots_are many ts [])) ∙ e)

-- ---- an id within which something stands is that of an element before it, or of itself

front_get : (xs ys : List Mark) (n : ℕ) (id : List ℕ) → id_at (slice_get xs n) ≡ Some id → id_at (slice_get (xs ++ ys) n) ≡ Some id
front_get [] ys n id e = cc
front_get (x ∷ xs) ys zero id e = e
front_get (x ∷ xs) ys (suc n) id e = front_get xs ys n id e

back_get : (xs ys : List Mark) (n : ℕ) → slice_get (xs ++ ys) (length xs + n) ≡ slice_get ys n
back_get [] ys n = let same : 0 + n ≡ n = omega arith in ap (slice_get ys) same
back_get (x ∷ xs) ys n = let same : length (x ∷ xs) + n ≡ suc (length xs + n) = omega arith in ap (slice_get (x ∷ (xs ++ ys))) same ∙ back_get xs ys n

either_get : (xs ys : List Mark) (n : ℕ) (m : Mark) → slice_get (xs ++ ys) n ≡ Some m → (slice_get xs n ≡ Some m) ⊎ ((k : ℕ) × (n ≡ length xs + k) × (slice_get ys k ≡ Some m))
either_get [] ys n m e = inr (n, omega arith, e)
either_get (x ∷ xs) ys zero m e = inl e
either_get (x ∷ xs) ys (suc n) m e = either_way (either_get xs ys n m e) (λ front. inl front) (λ back. let is = back.1 in inr (back.0, omega (arith, is), back.2))

-- it is one around all, or one of them up to this place has it
pub record Before (ms : List Mark) (n : ℕ) (id : List ℕ) : Type 0 where
  pub place : ℕ
  pub least : place ≤ n
  pub has : id_at (slice_get ms place) ≡ Some id

abbrev IsKnown : List Mark → List (List ℕ) → ℕ → List ℕ → Type 0
IsKnown ms path n id = (is_one_of id path ≡ true) ⊎ Before ms n id

own_known : (tag : List ℕ) (v : Option (List ℕ)) (path : List (List ℕ)) (ms : List Mark) (n : ℕ) (id : List ℕ) → is_one_of id (with_own v path) ≡ true → IsKnown (an_element tag v path ∷ ms) path n id
own_known tag None path ms n id h = inl h
own_known tag (Some x) path ms n id h =
    either_way (or_cases (same_units id x) (is_one_of id path) h) (λ same. inr (record { place = 0; least = omega arith; has = ap Some (sym (same_units-equal id x same)) })) (λ there. inl there)

known : (s : Sort) (x : Tree s) (path : List (List ℕ)) (n : ℕ) (m : Mark) (id : List ℕ) → slice_get (marks s x path) n ≡ Some m → is_one_of id (within m) ≡ true → IsKnown (marks s x path) path n id
known _ (text_node us) path zero m id e h = let is : a_text path ≡ m = cc in inl (ap (λ y. is_one_of id (within y)) is ∙ h)
known _ (text_node us) path (suc n) m id e h = absurd cc
known _ (element tag xs ts) path zero m id e h =
    let v = value_at (codes "id") (attrs_from xs) in
    let is : an_element tag v path ≡ m = cc in
    own_known tag v path (marks many ts (with_own v path)) 0 id (ap (λ y. is_one_of id (within y)) is ∙ h)
known _ (element tag xs ts) path (suc n) m id e h =
    let v = value_at (codes "id") (attrs_from xs) in
    let rest = marks many ts (with_own v path) in
    either_way (known many ts (with_own v path) n m id e h) (λ around. own_known tag v path rest (suc n) id around)
    (λ (b : Before rest n id). let le = b.least in inr (record { place = suc b.place; least = omega (arith, le); has = b.has }))
known _ none path n m id e h = absurd cc
known _ (more x ts) path n m id e h =
    let xs = marks one x path in
    let ys = marks many ts path in
    either_way (either_get xs ys n m e)
    (λ front. either_way (known one x path n m id front h) (λ around. inl around) (λ (b : Before xs n id). inr (record { place = b.place; least = b.least; has = front_get xs ys b.place id b.has })))
    (λ back. let is = back.1 in
    either_way (known many ts path back.0 m id back.2 h) (λ around. inl around)
    (λ (b : Before ys back.0 id). let le = b.least in inr (record { place = length xs + b.place; least = omega (arith, le, is); has = ap id_at (back_get xs ys b.place) ∙ b.has })))

pub known_before : (ts : Tree many) (n : ℕ) (m : Mark) (id : List ℕ) → slice_get (marks many ts []) n ≡ Some m → is_one_of id (within m) ≡ true → Before (marks many ts []) n id
known_before ts n m id e h = either_way (known many ts [] n m id e h) (λ nothing. absurd (true≢false (sym nothing))) (λ b. b)

-- ---- the root in which something stands, by the ids around it

module _ (roots : List (List ℕ)) where
  abbrev pub near : List (List ℕ) → Option ℕ
  near [] = None
  near (id ∷ path) = or_around (near path) (granted roots (Some id))

  abbrev pub root_at_mark : Option Mark → Option ℕ
  root_at_mark None = None
  root_at_mark (Some m) = near (within m)

  pub near_own : (v : Option (List ℕ)) (path : List (List ℕ)) → or_around (near path) (granted roots v) ≡ near (with_own v path)
  near_own None path = refl
  near_own (Some id) path = refl

  -- a granted id
  pub is_granted : (id : List ℕ) → is_some (granted roots (Some id)) ≡ is_one_of id roots
  is_granted id =
      ap is_some (position_from-zero (λ g. same_units g id) roots) ∙ some_from (λ g. same_units g id) 0 roots
      ∙ any_same (λ g. same_units g id) (same_units id) (λ g. same_both g id) roots

  pub granted_less : (id : List ℕ) (r : ℕ) → granted roots (Some id) ≡ Some r → r < length roots
  granted_less id r e = (position-Some (λ g. same_units g id) roots r [] e).0

  -- no two ids are those of one root
  pub one_id : (a b : List ℕ) (r : ℕ) → granted roots (Some a) ≡ Some r → granted roots (Some b) ≡ Some r → a ≡ b
  one_id a b r e f =
      let x = (position-Some (λ g. same_units g a) roots r [] e).1 in
      let y = (position-Some (λ g. same_units g b) roots r [] f).1 in
      sym (same_units-equal (get_or roots r []) a x) ∙ same_units-equal (get_or roots r []) b y

  -- the root around is that of an id around
  pub record Nearest (path : List (List ℕ)) (r : ℕ) : Type 0 where
    pub id : List ℕ
    pub among : is_one_of id path ≡ true
    pub is : granted roots (Some id) ≡ Some r

  pub nearest : (path : List (List ℕ)) (r : ℕ) → near path ≡ Some r → Nearest path r
  nearest [] r e = absurd cc
  nearest (b ∷ path) r e = at (granted roots (Some b)) refl e (nearest path r)
    where
      at : (o : Option ℕ) → granted roots (Some b) ≡ o → or_around (near path) o ≡ Some r → (near path ≡ Some r → Nearest path r) → Nearest (b ∷ path) r
      at None h f rest = let n = rest f in record { id = n.id; among = or_right (same_units n.id b) (is_one_of n.id path) n.among; is = n.is }
      at (Some q) h f rest = record { id = b; among = or_left (same_units b b) (is_one_of b path) (itself b); is = h ∙ f }

  pub near_less : (path : List (List ℕ)) (r : ℕ) → near path ≡ Some r → r < length roots
  near_less path r e = let n = nearest path r e in granted_less n.id r n.is

  around_some : (a o : Option ℕ) → is_some (or_around a o) ≡ (is_some o || is_some a)
  around_some a None = refl
  around_some a (Some r) = refl

  -- there is one where a granted id is around
  pub near_some : (path : List (List ℕ)) → is_some (near path) ≡ list_any (λ b. is_one_of b roots) path
  near_some [] = refl
  near_some (b ∷ path) = around_some (near path) (granted roots (Some b)) ∙ ap (λ x. x || is_some (near path)) (is_granted b) ∙ ap (λ x. is_one_of b roots || x) (near_some path)
