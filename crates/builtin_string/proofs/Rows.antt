-- What the rows of the methods of texts come to.
use Rattle.std.proofs.Common.{◌≡◌, ℕ, suc, List, [], ◌∷◌, ◌++◌, map, length, drop, Option, Some, None, Ok, refl, ap, ◌∙◌}
use Rattle.std.specs.Prelude.{ℤ, pos}
use Rattle.es3_objects.specs.declared.value.Value.{Value}
use Rattle.es3_objects.specs.declared.value.Value.TheVariants as v
use Rattle.es3_heap.specs.Objects.{Objects}
use Rattle.es3_convert.specs.Conversions.{and_then, text_of}
use Rattle.rows.specs.Rows as r
use Rattle.rows.specs.Arguments as rows
use Rattle.rows.specs.Arguments.{clamped, place}
use Rattle.rows.specs.Arrays.{part}
use Rattle.rows.specs.Texts.{unit_at, code_end, first_place, last_place, or_minus_one, between, split_by, texts, joined}
use Rattle.heap_rows.specs.Doing.{value_in, does}
use Rattle.heap_rows.specs.Opening.{place_of, empty_page}
use Rattle.row_outcomes.specs.Comes.{row_done}
use Rattle.row_outcomes.specs.Arguments.{argument, number_argument, told, at_text, text_method, after}
use Rattle.row_outcomes.specs.Lists.{texts_of}
use Rattle.row_outcomes.specs.Arrays.{new_array}
use Rattle.row_outcomes.proofs.Arguments.{argument_held, Leaves, text_leaves, Yields, told_after, as_text_yields, unless_yields, number_or_yields, on_text_does, on_text_is}
use Rattle.row_outcomes.proofs.Lists.{after-then, as_texts_does}
use Rattle.row_outcomes.proofs.Arrays.{new_array_leaves}
use Rattle.builtin_string.specs.Strings.{char_at, code_of, char_code_at, place_value, index_of, last_index_of, slice_text, substring, split, split_done, concat_text}

pub char_at-is : (by : ℕ) (this : Value) (args : List Value) (h : Objects) → row_done r.char_at by this args h ≡ text_method this by h (λ us. char_at us args h)
char_at-is by this args h =
    on_text_is by this args h (λ us. rows.number_or (pos 0) (rows.argument 0 (suc (length args))) (λ i. r.ends (r.answers (r.text (unit_at i us))))) (λ us. char_at us args h)
    (λ us. number_or_yields by this args h (pos 0) 0 (λ i. r.ends (r.answers (r.text (unit_at i us)))) (λ i. Ok (v.Text (unit_at i us))) (λ i more. refl))

code_told : (by : ℕ) (vs : List Value) (h : Objects) (us : List ℕ) → (does place_of by (r.ends (code_end us)) vs h empty_page []).done ≡ told (code_of us) h
code_told by vs h [] = refl
code_told by vs h (u ∷ us) = refl

pub char_code_at-is : (by : ℕ) (this : Value) (args : List Value) (h : Objects) → row_done r.char_code_at by this args h ≡ text_method this by h (λ us. char_code_at us args h)
char_code_at-is by this args h =
    on_text_is by this args h (λ us. rows.number_or (pos 0) (rows.argument 0 (suc (length args))) (λ i. r.ends (code_end (unit_at i us)))) (λ us. char_code_at us args h)
    (λ us. number_or_yields by this args h (pos 0) 0 (λ i. r.ends (code_end (unit_at i us))) (λ i. code_of (unit_at i us)) (λ i more. code_told by (this ∷ (args ++ more)) h (unit_at i us)))

-- a text by two numbers of the arguments
by_ends : (by : ℕ) (this : Value) (args : List Value) (h : Objects) (us : List ℕ) (units : ℤ → ℤ → List ℕ)
    → Yields by this args h (rows.number_or (pos 0) (rows.argument 0 (suc (length args))) (λ a. rows.number_or (pos (length us)) (rows.argument 1 (suc (length args))) (λ b. r.ends (r.answers (r.text (units a b))))))
    (told (and_then (number_argument (pos 0) (argument 0 args) h) (λ a. and_then (number_argument (pos (length us)) (argument 1 args) h) (λ b. Ok (v.Text (units a b))))) h)
by_ends by this args h us units =
    number_or_yields by this args h (pos 0) 0 (λ a. rows.number_or (pos (length us)) (rows.argument 1 (suc (length args))) (λ b. r.ends (r.answers (r.text (units a b))))) (λ a. and_then (number_argument (pos (length us)) (argument 1 args) h) (λ b. Ok (v.Text (units a b))))
    (λ a. number_or_yields by this args h (pos (length us)) 1 (λ b. r.ends (r.answers (r.text (units a b)))) (λ b. Ok (v.Text (units a b))) (λ b more. refl))

pub slice_text-is : (by : ℕ) (this : Value) (args : List Value) (h : Objects) → row_done r.slice_text by this args h ≡ text_method this by h (λ us. slice_text us args h)
slice_text-is by this args h =
    on_text_is by this args h (λ us. rows.number_or (pos 0) (rows.argument 0 (suc (length args))) (λ a. rows.number_or (pos (length us)) (rows.argument 1 (suc (length args))) (λ b. r.ends (r.answers (r.text (part (place (length us) a) (place (length us) b) us)))))) (λ us. slice_text us args h)
    (λ us. by_ends by this args h us (λ a b. part (place (length us) a) (place (length us) b) us))

pub substring-is : (by : ℕ) (this : Value) (args : List Value) (h : Objects) → row_done r.substring by this args h ≡ text_method this by h (λ us. substring us args h)
substring-is by this args h =
    on_text_is by this args h (λ us. rows.number_or (pos 0) (rows.argument 0 (suc (length args))) (λ a. rows.number_or (pos (length us)) (rows.argument 1 (suc (length args))) (λ b. r.ends (r.answers (r.text (between (clamped (length us) a) (clamped (length us) b) us)))))) (λ us. substring us args h)
    (λ us. by_ends by this args h us (λ a b. between (clamped (length us) a) (clamped (length us) b) us))

-- a place of a text
place_told : (by : ℕ) (vs : List Value) (h : Objects) (o : Option ℕ) → (does place_of by (r.ends (r.answers (or_minus_one o))) vs h empty_page []).done ≡ told (Ok (place_value o)) h
place_told by vs h None = refl
place_told by vs h (Some i) = refl

pub index_of-is : (by : ℕ) (this : Value) (args : List Value) (h : Objects) → row_done r.index_of by this args h ≡ text_method this by h (λ us. index_of us args h)
index_of-is by this args h =
    let place = λ (us t : List ℕ) (i : ℤ). first_place t (clamped (length us) i) (drop (clamped (length us) i) us) in
    on_text_is by this args h (λ us. r.as_text (rows.argument 0 (suc (length args))) (λ t. rows.number_or (pos 0) (rows.argument 1 (suc (length args))) (λ i. r.ends (r.answers (or_minus_one (place us t i)))))) (λ us. index_of us args h)
    (λ us. as_text_yields by this args h 0 (λ t. rows.number_or (pos 0) (rows.argument 1 (suc (length args))) (λ i. r.ends (r.answers (or_minus_one (place us t i))))) (λ t. and_then (number_argument (pos 0) (argument 1 args) h) (λ i. Ok (place_value (place us t i))))
    (λ t. number_or_yields by this args h (pos 0) 1 (λ i. r.ends (r.answers (or_minus_one (place us t i)))) (λ i. Ok (place_value (place us t i))) (λ i more. place_told by (this ∷ (args ++ more)) h (place us t i))))

pub last_index_of-is : (by : ℕ) (this : Value) (args : List Value) (h : Objects) → row_done r.last_index_of by this args h ≡ text_method this by h (λ us. last_index_of us args h)
last_index_of-is by this args h =
    on_text_is by this args h (λ us. r.as_text (rows.argument 0 (suc (length args))) (λ t. r.ends (r.answers (or_minus_one (last_place t 0 us))))) (λ us. last_index_of us args h)
    (λ us. as_text_yields by this args h 0 (λ t. r.ends (r.answers (or_minus_one (last_place t 0 us)))) (λ t. Ok (place_value (last_place t 0 us))) (λ t more. place_told by (this ∷ (args ++ more)) h (last_place t 0 us)))

-- an array of texts
texts_in : (vs : List Value) (uss : List (List ℕ)) → map (value_in place_of vs) (map r.text uss) ≡ map v.Text uss
texts_in vs [] = refl
texts_in vs (us ∷ uss) = ap (λ xs. v.Text us ∷ xs) (texts_in vs uss)

texts_leave : (by : ℕ) (vs : List Value) (h : Objects) (uss : List (List ℕ)) → Leaves by vs h (r.ends (texts uss)) (new_array by h (map v.Text uss))
texts_leave by vs h uss = new_array_leaves by vs h (map r.text uss) (map v.Text uss) (λ more. texts_in (vs ++ more) uss)

split_at_some : (us : List ℕ) (x : Value) (h : Objects) → (x ≡ v.Undefined → ⊥) → split us x h ≡ and_then (text_of h x) (λ s. Ok (map v.Text (split_by s us)))
split_at_some us v.Undefined h some = absurd (some refl)
split_at_some us x h some = refl

pub split-is : (by : ℕ) (this : Value) (args : List Value) (h : Objects) → row_done r.split by this args h ≡ at_text this by h (λ us. split_done by us args h)
split-is by this args h =
    on_text_does by this args h (λ us. r.looks (rows.argument 0 (suc (length args))) (rows.unless_undefined (r.ends (texts (us ∷ []))) (r.as_text (rows.argument 0 (suc (length args))) (λ s. r.ends (texts (split_by s us)))))) (λ us. split_done by us args h)
    (λ us. unless_yields by this args h 0 (r.ends (texts (us ∷ []))) (r.as_text (rows.argument 0 (suc (length args))) (λ s. r.ends (texts (split_by s us)))) (new_array by h (v.Text us ∷ [])) (after (text_of h (argument 0 args)) h (λ s. new_array by h (map v.Text (split_by s us)))) (split_done by us args h)
    (texts_leave by (this ∷ args) h (us ∷ []))
    (text_leaves by (this ∷ args) h (rows.argument 0 (suc (length args))) (argument 0 args) (λ s. r.ends (texts (split_by s us))) (λ s. new_array by h (map v.Text (split_by s us))) (argument_held place_of 0 this args) (λ s. texts_leave by (this ∷ args) h (split_by s us)))
    (λ none. rw none refl)
    (λ some. rw (split_at_some us (argument 0 args) h some) (after-then (text_of h (argument 0 args)) (λ s. Ok (map v.Text (split_by s us))) h (new_array by h))))

pub concat_text-is : (by : ℕ) (this : Value) (args : List Value) (h : Objects) → row_done r.concat_text by this args h ≡ text_method this by h (λ us. concat_text us args h)
concat_text-is by this args h =
    on_text_is by this args h (λ us. rows.as_texts (rows.arguments (suc (length args))) (λ uss. r.ends (r.answers (r.text (us ++ joined uss))))) (λ us. concat_text us args h)
    (λ us more. as_texts_does by this args h (λ uss. r.ends (r.answers (r.text (us ++ joined uss)))) (λ uss. told (Ok (v.Text (us ++ joined uss))) h) (λ uss more. refl) more ∙ told_after (texts_of h args) h (λ uss. Ok (v.Text (us ++ joined uss))))
