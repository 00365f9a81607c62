-- A queue for each module: one is changed, and all others stay.
use Rattle.std.proofs.Common.{◌≡◌, ℕ, ◌+◌, ◌<◌, ◌≤◌, true, false, List, [], ◌∷◌, ◌++◌, length, map, get_or, drop, set, refl, sym, ap, ◌∙◌, arith}
use Rattle.std.specs.Prelude.{nat_eq, nat_lt}
use Rattle.std.proofs.lemmas.Bool.Decides.{nat_tests}
use Rattle.std.proofs.lemmas.List.{map-set, get_or-map, map-append, length-map, get_or-set_same, get_or-set_other, get_or_past, set-get_or, length-set}
use Rattle.es3_objects.specs.declared.value.Value.{Value}
use Rattle.dom_facets.specs.Places.{padded}
use Rattle.page_natives.specs.Natives.{Kept, queue_of, added, rest_of}
use Rattle.dom_facets.proofs.Padded.{padded_more, padded_same}

module _ {A : Type 0} (items : A → List Value) (qs : List A) where
  -- an empty queue more, where there are fewer
  pub one_more : (n : ℕ) (q : A) → length qs < n → items q ≡ [] → padded [] n (map items (qs ++ q ∷ [])) ≡ padded [] n (map items qs)
  one_more n q fewer none =
      let long = length-map qs items in
      ap (padded [] n) (map-append items qs (q ∷ []) ∙ ap (λ l. map items qs ++ l ∷ []) none)
      ∙ padded_more [] n (map items qs) (omega (arith, long))

  module _ (m : ℕ) (there : m < length qs) (q : A) (is : q ≡ get_or qs m q) where
    edited : (after : A) (g : List Value → List Value) → items after ≡ g (items q) → map items (set qs m after) ≡ set (map items qs) m (g (queue_of m (map items qs)))
    edited after g e = map-set items qs m after ∙ ap (set (map items qs) m) (e ∙ ap g (ap items is ∙ sym (get_or-map items qs m q [] there)))

    -- the first has gone
    pub taken : (after : A) → items after ≡ drop 1 (items q) → map items (set qs m after) ≡ rest_of m (map items qs)
    taken after e = edited after (drop 1) e

    -- one more waits, behind queues that were made
    pub waits : (after : A) (f : Value) (before : List (List Value)) → map items qs ≡ padded [] (m + 1) before → items after ≡ items q ++ f ∷ [] → map items (set qs m after) ≡ added m f before
    waits after f before made e =
        edited after (λ l. l ++ f ∷ []) e
        ∙ ap (λ l. set l m (queue_of m l ++ f ∷ [])) made
        ∙ ap (λ l. set (padded [] (m + 1) before) m (l ++ f ∷ [])) (padded_same [] (m + 1) m before)

-- the queue of a module, where the first has gone that waited there
pub rest_own : (m : ℕ) (qs : List (List Value)) → queue_of m (rest_of m qs) ≡ drop 1 (queue_of m qs)
rest_own m qs = elim (nat_lt m (length qs)) as (λ b. nat_lt m (length qs) ≡ b → queue_of m (rest_of m qs) ≡ drop 1 (queue_of m qs)) [
  | true ↦ λ e. get_or-set_same qs m (drop 1 (queue_of m qs)) [] (grind (arith, nat_tests))
  | false ↦ λ e. past (grind (arith, nat_tests))
] refl
  where
    past : length qs ≤ m → queue_of m (rest_of m qs) ≡ drop 1 (queue_of m qs)
    past none =
        let long = length-set qs m (drop 1 (queue_of m qs)) in
        get_or_past (rest_of m qs) m [] (omega (arith, long, none)) ∙ ap (drop 1) (sym (get_or_past qs m [] none))

-- the queue of another module
pub rest_other : (j m : ℕ) (qs : List (List Value)) → nat_eq j m ≡ false → queue_of j (rest_of m qs) ≡ queue_of j qs
rest_other j m qs apart = get_or-set_other qs m j (drop 1 (queue_of m qs)) [] (grind (arith, nat_tests))

-- where none waits nothing is taken
pub all_stay : (m : ℕ) (qs : List (List Value)) → queue_of m qs ≡ [] → rest_of m qs ≡ qs
all_stay m qs none = ap (λ l. set qs m (drop 1 l)) none ∙ ap (set qs m) (sym none) ∙ set-get_or qs m []

-- what is kept beside the functions that wait stays
abbrev pub with_waiting_now : Kept → List (List Value) → Kept
with_waiting_now z qs = record z { waiting = qs }
