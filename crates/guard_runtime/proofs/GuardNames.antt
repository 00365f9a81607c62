-- The rows of guards name common built-in functions alone: methods of values.
use Rattle.std.proofs.Common.{◌≡◌, ℕ, zero, suc, ◌+◌, ◌-◌, Bool, true, false, List, [], ◌∷◌, Option, Some, None, All, cond, refl}
use Rattle.std.specs.Prelude.{slice_get, is_some, nat_lt, pos, codes, length}
use Rattle.std.proofs.lemmas.List.Elements.{All-nil, All-cons, All-head, All-tail, All-weaker}
use Rattle.caja_units.specs.Units.{same_units, is_hidden}
use Rattle.caja_units.specs.Index.{array_index}
use Rattle.rows.specs.Rows as r
use Rattle.rows.specs.Rows.{Native, Handle, Sight, Ending, Row, Touch, held}
use Rattle.rows.specs.Names.{method, text_methods, array_methods, function_methods, node_methods}
use Rattle.rows.specs.Public.{is_length, value_at, item_at, item_or_new, of_value, property, or_undefined, pub_get, Change, refused, of_key, of_item, pub_set, pub_delete, pub_has, pub_keys}
use Rattle.rows.specs.Arguments.{value, values_from}
use Rattle.rows.specs.Guards as rows
use Rattle.rows.specs.Guards.{on_object, read_end, write_end, delete_end, has_end, list_end, call_end, simple_end, new_row, instance_row}
use Rattle.heap_rows.specs.Natives.{is_common}
use Rattle.live_rows.specs.Named.{HandleNames, HandlesName, IsHeld, IsSeen, EndNames, RowNames}

abbrev AllCommon : List (List ℕ × Native) → Type 0
AllCommon [] = Unit {0}
AllCommon ((k, f) ∷ rest) = (is_common f ≡ true) × AllCommon rest

abbrev IsPairHeld : List ℕ × Handle → Type 0
IsPairHeld p = IsHeld p.1

module _ (P : Native → Type 0) (common : (f : Native) → is_common f ≡ true → P f) where
  abbrev OptionNames : Option Handle → Type 0
  OptionNames None = Unit {0}
  OptionNames (Some x) = HandleNames P x

  option_if : (b : Bool) (x y : Option Handle) → OptionNames x → OptionNames y → OptionNames (cond b x y)
  option_if true x y p q = p
  option_if false x y p q = q

  end_if : (b : Bool) (x y : Ending) → EndNames P x → EndNames P y → EndNames P (cond b x y)
  end_if true x y p q = p
  end_if false x y p q = q

  -- values that are held

  held_names : (x : Handle) → IsHeld x → HandleNames P x
  held_names (r.held n) is = tt
  held_names x is = absurd is

  all_held_names : (xs : List Handle) → All IsHeld xs → HandlesName P xs
  all_held_names xs hold = All-weaker IsHeld (HandleNames P) held_names xs hold

  value_names : (i n : ℕ) → HandleNames P (value i n)
  value_names i n = elim (nat_lt i n) as (λ b. HandleNames P (cond b (held i) r.undefined)) [
    | true ↦ tt
    | false ↦ tt
  ]

  values_names : (i n : ℕ) → HandlesName P (values_from i n)
  values_names i zero = All-nil (HandleNames P)
  values_names i (suc n) = All-cons (HandleNames P) (held i) (values_from (i + 1) n) tt (values_names (i + 1) n)

  -- a property

  value_at_names : (k : List ℕ) (ps : List (List ℕ × Handle)) → All IsPairHeld ps → OptionNames (value_at k ps)
  value_at_names k [] hold = tt
  value_at_names k ((j, x) ∷ ps) hold = option_if (same_units k j) (Some x) (value_at k ps) (held_names x (All-head IsPairHeld (j, x) ps hold)) (value_at_names k ps (All-tail IsPairHeld (j, x) ps hold))

  at_place : (xs : List Handle) (i : ℕ) → All IsHeld xs → OptionNames (slice_get xs i)
  at_place [] i hold = tt
  at_place (x ∷ xs) zero hold = held_names x (All-head IsHeld x xs hold)
  at_place (x ∷ xs) (suc i) hold = at_place xs i (All-tail IsHeld x xs hold)

  item_names : (i : Option ℕ) (xs : List Handle) → All IsHeld xs → OptionNames (item_at i xs)
  item_names None xs hold = tt
  item_names (Some i) xs hold = at_place xs i hold

  native_if : (b : Bool) (o : Handle) (x y : Option Native) → OptionNames (of_value o x) → OptionNames (of_value o y) → OptionNames (of_value o (cond b x y))
  native_if true o x y p q = p
  native_if false o x y p q = q

  method_names : (o : Handle) (table : List (List ℕ × Native)) (k : List ℕ) → AllCommon table → OptionNames (of_value o (method table k))
  method_names o [] k are = tt
  method_names o ((name, f) ∷ rest) k are = native_if (same_units k name) o (Some f) (method rest k) (common f are.0) (method_names o rest k are.1)

  property_names : (o : Handle) (s : Sight) (k : List ℕ) → IsSeen s → OptionNames (property o s k)
  property_names o (r.a_text us) k seen =
      option_if (is_length k) (Some (r.number (pos (length us)))) (of_value o (method text_methods k)) tt (method_names o text_methods k (refl, (refl, (refl, (refl, (refl, (refl, (refl, (refl, tt)))))))))
  property_names o (r.a_record frozen ps) k seen = value_at_names k ps seen
  property_names o (r.an_array frozen xs) k seen =
      let item = item_at (array_index k) xs in
      let other = of_value o (method array_methods k) in
      option_if (is_length k) (Some (r.number (pos (length xs)))) (cond (is_some item) item other) tt
      (option_if (is_some item) item other (item_names (array_index k) xs seen) (method_names o array_methods k (refl, (refl, (refl, (refl, (refl, (refl, (refl, (refl, tt))))))))))
  property_names o (r.a_function sort) k seen = method_names o function_methods k (refl, (refl, tt))
  property_names o (r.an_error name message) k seen =
      let other = cond (same_units k (codes "message")) (Some (r.text message)) None in
      option_if (same_units k (codes "name")) (Some (r.text name)) other tt (option_if (same_units k (codes "message")) (Some (r.text message)) None tt tt)
  property_names o r.a_node k seen = method_names o node_methods k (refl, (refl, (refl, (refl, (refl, (refl, (refl, (refl, (refl, (refl, (refl, (refl, (refl, tt)))))))))))))
  property_names o s k seen = tt

  or_undefined_names : (x : Option Handle) → OptionNames x → HandleNames P (or_undefined x)
  or_undefined_names None names = tt
  or_undefined_names (Some x) names = names

  handle_if : (b : Bool) (x : Handle) → HandleNames P x → HandleNames P (cond b r.undefined x)
  handle_if true x names = tt
  handle_if false x names = names

  get_names : (o : Handle) (s : Sight) (k : List ℕ) → IsSeen s → HandleNames P (pub_get o s k)
  get_names o s k seen = handle_if (is_hidden k) (or_undefined (property o s k)) (or_undefined_names (property o s k) (property_names o s k seen))

  -- at a key

  on_object_names : (t : Touch) (o k : Handle) (go : Sight → List ℕ → Row) (s : Sight) → ((us : List ℕ) → RowNames P (go s us)) → RowNames P (on_object t o k go s)
  on_object_names t o k go r.nothing names = tt
  on_object_names t o k go r.a_null names = tt
  on_object_names t o k go s names = names

  read_names : (s : Sight) (o : Handle) (k : List ℕ) → IsSeen s → EndNames P (read_end s o k)
  read_names (r.a_record frozen ps) o k seen =
      let names = get_names o (r.a_record frozen ps) k seen in
      end_if (is_some (value_at k ps)) (r.reads_key o k (pub_get o (r.a_record frozen ps) k)) (r.answers (pub_get o (r.a_record frozen ps) k)) names names
  read_names s o k seen = get_names o s k seen

  pub read_pub_names : RowNames P (rows.read_pub 2)
  read_pub_names = (tt, λ s seen. on_object_names r.to_get (held 0) (held 1) (λ s us. r.ends (read_end s (held 0) us)) s (λ us. read_names s (held 0) us seen))

  item_or_new_names : (xs : List Handle) (i : ℕ) (x : Handle) → HandlesName P xs → HandleNames P x → HandlesName P (item_or_new xs i x)
  item_or_new_names [] i x names new = All-cons (HandleNames P) x [] new (All-nil (HandleNames P))
  item_or_new_names (y ∷ ys) zero x names new = All-cons (HandleNames P) x ys new (All-tail (HandleNames P) y ys names)
  item_or_new_names (y ∷ ys) (suc i) x names new = All-cons (HandleNames P) y (item_or_new ys i x) (All-head (HandleNames P) y ys names) (item_or_new_names ys i x (All-tail (HandleNames P) y ys names) new)

  write_names : (c : Change) (s : Sight) (k : List ℕ) → IsSeen s → EndNames P (write_end c s (held 0) k (held 2))
  write_names (refused message) s k seen = tt
  write_names of_key s k seen = tt
  write_names (of_item i) (r.an_array frozen xs) k seen = (item_or_new_names xs i (held 2) (all_held_names xs seen) tt, tt)
  write_names (of_item i) s k seen = tt

  pub set_pub_names : RowNames P (rows.set_pub 3)
  set_pub_names = (tt, λ s seen. on_object_names r.to_set (held 0) (held 1) (λ s us. r.ends (write_end (pub_set s us) s (held 0) us (held 2))) s (λ us. write_names (pub_set s us) s us seen))

  delete_names : (c : Change) (k : List ℕ) → EndNames P (delete_end c (held 0) k)
  delete_names (refused message) k = tt
  delete_names of_key k = tt
  delete_names (of_item i) k = tt

  pub delete_pub_names : RowNames P (rows.delete_pub 2)
  delete_pub_names = (tt, λ s seen. on_object_names r.to_delete (held 0) (held 1) (λ s us. r.ends (delete_end (pub_delete s us) (held 0) us)) s (λ us. delete_names (pub_delete s us) us))

  has_names : (found : Option Bool) → EndNames P (has_end found)
  has_names None = tt
  has_names (Some b) = tt

  pub in_pub_names : RowNames P rows.in_pub
  in_pub_names = λ us. (tt, λ s seen. has_names (pub_has s us))

  list_names : (found : Option (List (List ℕ))) → EndNames P (list_end found)
  list_names None = tt
  list_names (Some ks) = tt

  pub keys_pub_names : RowNames P rows.keys_pub
  keys_pub_names = (tt, λ s seen. list_names (pub_keys s))

  -- functions

  call_names : (f o : Handle) (args : List Handle) (s : Sight) → HandleNames P f → HandleNames P o → HandlesName P args → EndNames P (call_end f o args s)
  call_names f o args (r.a_function sort) function receiver all = (function, receiver, all)
  call_names f o args s function receiver all = tt

  pub call_pub_names : (n : ℕ) → RowNames P (rows.call_pub n)
  call_pub_names n =
      let o = value 0 n in (
        value_names 0 n,
        λ s seen. on_object_names r.to_get o (value 1 n) (λ s us. r.looks (pub_get o s us) (λ f. r.ends (call_end (pub_get o s us) o (values_from 2 (n - 2)) f))) s (λ us.
            let f = get_names o s us seen in
            (f, λ q there. call_names (pub_get o s us) o (values_from 2 (n - 2)) q f (value_names 0 n) (values_names 2 (n - 2)))),
      )

  simple_names : (s : Sight) → EndNames P (simple_end (held 0) s)
  simple_names (r.a_function (r.exophoric wanted)) = tt
  simple_names (r.a_function sort) = tt
  simple_names s = tt

  pub as_simple_func_names : RowNames P rows.as_simple_func
  as_simple_func_names = (tt, λ s seen. simple_names s)

  new_names : (args : List Handle) (s : Sight) → HandlesName P args → RowNames P (new_row args s)
  new_names args (r.a_function (r.constructor maker)) all = (tt, tt, all)
  new_names args (r.a_function sort) all = tt
  new_names args s all = tt

  pub construct_names : (n : ℕ) → RowNames P (rows.construct n)
  construct_names n = (tt, λ s seen. new_names (values_from 1 (n - 1)) s (values_names 1 (n - 1)))

  instance_names : (s : Sight) → RowNames P (instance_row s)
  instance_names (r.a_function sort) = (tt, λ s seen. tt)
  instance_names s = tt

  pub instance_of_names : RowNames P rows.instance_of
  instance_of_names = (tt, λ s seen. instance_names s)

  pub key_names : RowNames P rows.key
  key_names = λ us. tt

  pub args_names : (n : ℕ) → RowNames P (rows.args n)
  args_names n = values_names 0 n
