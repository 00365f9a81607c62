-- Bytes and the value that they spell, and the entries and the keys of a value.
use Rattle.std.proofs.Common.{◌≡◌, ℕ, ◌+◌, ◌<◌, length, drop, get_or, BTreeMap, ◌&&◌, Bool, true, false, List, [], ◌∷◌, map, Some, None, true≢false, Ok, Err, String, Global, string_bytes, refl, sym, ap, ◌∙◌}
use Rattle.std.specs.Prelude.{if◌then◌else◌, ◌||◌, is_some}
use Rattle.std.specs.List.{list_all, list_any}
use Rattle.std.specs.BTreeMap.{keys}
use Rattle.std.proofs.lemmas.List.{at_drop_more}
use Rattle.caja_units.specs.Units.{same_units}
use Rattle.caja_units.specs.Utf8.{decoded, units_of_chars}
use Rattle.std.specs.Str.{chars}
use Rattle.std.specs.Str.Lossy.{utf8_valid_len}
use Rattle.std.specs.Result.{result_ok, is_ok}
use Rattle.std.specs.Option.{unwrap_or}
use Rattle.std.specs.Str.{is_utf8, IsUtf8}
use Rattle.std.proofs.lemmas.Str.{is_utf8-from_IsUtf8, IsUtf8-from_is_utf8}
use Rattle.serde_json.specs.Data.{Data, Members}
use Rattle.serde_json.specs.Read.{read}
use Rattle.serde_json.specs.Find.{as_array, as_object}
use Rattle.serde_json.specs.View.{view, items_of, items_view, members_view}
use Rattle.serde_json.specs.declared.value.Value.{Value}
use Rattle.page_manifest.specs.Walk.{Fields, list_of, items_or, entries, keys_of, keys as keys_in, has_only, object}
use Rattle.es3_tokens.specs.Tokens.{is_one_of}
use Rattle.page_manifest.specs.Read.{json, read_or_fault}

pub is_json : (bytes : List ℕ) (d : Data) → IsUtf8 bytes → read bytes ≡ Some d → json bytes ≡ Ok d
is_json bytes d u e = ap (λ b. if b then read_or_fault (read bytes) else Err (1, 0)) (is_utf8-from_IsUtf8 bytes u) ∙ ap read_or_fault e

no_json_at : (bytes : List ℕ) (b : Bool) → (b ≡ true → read bytes ≡ None) → (if b then read_or_fault (read bytes) else Err (1, 0)) ≡ Err (1, 0)
no_json_at bytes true h = ap read_or_fault (h refl)
no_json_at bytes false h = refl

pub no_json : (bytes : List ℕ) → (IsUtf8 bytes → read bytes ≡ None) → json bytes ≡ Err (1, 0)
no_json bytes h = no_json_at bytes (is_utf8 bytes) (λ u. h (IsUtf8-from_is_utf8 bytes u))

list_of-items : (ds : List Data) → list_of (items_of ds) ≡ ds
list_of-items [] = refl
list_of-items (d ∷ ds) = ap (λ l. d ∷ l) (list_of-items ds)

pub entries_of : (i : ℕ) (d : Data) (xs ys : List Value) → Some (items_view xs) ≡ as_array d → ys ≡ xs → entries i d ≡ Ok (map view ys)
entries_of i d xs ys e same = ap (items_or i) (sym e) ∙ ap Ok (list_of-items (map view xs)) ∙ ap (λ l. Ok (map view l)) (sym same)

pub keys_of-view : (es : List (String Global × Value)) → keys_of (members_view es) ≡ map (λ k. string_bytes k) (map (λ e. e.0) es)
keys_of-view [] = refl
keys_of-view (e ∷ es) = ap (λ l. string_bytes e.0 ∷ l) (keys_of-view es)

pub keys_left : (p : List ℕ → Bool) (m : BTreeMap (String Global) Value) (l : List (String Global)) → l ≡ keys m → list_all p (map (λ k. string_bytes k) l) ≡ list_all p (keys_of (members_view m.entries))
keys_left p m l e = ap (λ l. list_all p (map (λ k. string_bytes k) l)) e ∙ ap (list_all p) (sym (keys_of-view m.entries))

list_all-same : (p q : List ℕ → Bool) → ((k : List ℕ) → p k ≡ q k) → (ks : List (List ℕ)) → list_all p ks ≡ list_all q ks
list_all-same p q e [] = refl
list_all-same p q e (k ∷ ks) = ap (λ b. b && list_all p ks) (e k) ∙ ap (λ b. q k && b) (list_all-same p q e ks)

one_of : {A : Type 0} (h : A → List ℕ) (k : List ℕ) (fs : List A) → list_any (λ f. same_units k (h f)) fs ≡ is_one_of k (map h fs)
one_of h k [] = refl
one_of h k (f ∷ fs) = ap (λ b. same_units k (h f) || b) (one_of h k fs)

pub only : {A : Type 0} (h : A → List ℕ) (form : List A) (d : Data) (ms : Members) → Some ms ≡ as_object d → list_all (λ k. list_any (λ f. same_units k (h f)) form) (keys_of ms) ≡ has_only d (map h form)
only h form d ms is = list_all-same _ _ (λ k. one_of h k form) (keys_of ms) ∙ ap (λ o. list_all (λ k. is_one_of k (map h form)) (keys_in o)) is

pub is_object : (forms : List Fields) (i : ℕ) (d : Data) (ms : Members) → Some ms ≡ as_object d → (t : Bool) → list_any (has_only d) forms ≡ t → object forms i d ≡ (if t then Ok d else Err (4, i))
is_object forms i d ms is t e =
    ap (λ o. if is_some o then (if list_any (has_only d) forms then Ok d else Err (4, i)) else Err (3, i)) (sym is)
    ∙ ap (λ b. if b then Ok d else Err (4, i)) e

pub first_form : {F : Type 0} (P : Fields → Bool) (g : F → Fields) (fs : List F) (i : ℕ) (d : F) (t : Bool) → i < length fs → P (g (get_or fs i d)) ≡ t → list_any P (map g (drop i fs)) ≡ (t || list_any P (map g (drop (i + 1) fs)))
first_form P g fs i d t h e = at_drop_more (λ l. list_any P (map g l)) fs i d h ∙ ap (λ b. b || list_any P (map g (drop (i + 1) fs))) e

units_at : (b : Bool) (us vs : List ℕ) (k : ℕ) → (if b then Ok us else Err k) ≡ Ok vs → vs ≡ us
units_at true us vs k e = sym (ap (λ r. unwrap_or (result_ok r) us) e)
units_at false us vs k e = absurd (true≢false (sym (ap is_ok e)))

pub units_are : (bytes : List ℕ) (us : List ℕ) → decoded bytes ≡ Ok us → us ≡ units_of_chars (chars bytes)
unfolding decoded
units_are bytes us e = units_at (is_utf8 bytes) (units_of_chars (chars bytes)) us (utf8_valid_len bytes) e
