-- The rows of guards, of operators and of built-ins are among objects.
use Rattle.std.proofs.Common.{◌≡◌, ℕ, zero, suc, ◌+◌, ◌-◌, Bool, true, false, List, [], ◌∷◌, ◌++◌, length, Option, Some, None, cond, refl, sym, subst}
use Rattle.std.specs.Prelude.{ℤ, pos, slice_get, codes, map, is_some, nat_eq, nat_lt, not, ◌||◌, ◌&&◌, take, drop, reverse, int_lt}
use Rattle.std.proofs.lemmas.List.{reverse-append}
use Rattle.caja_units.specs.Units.{same_units, is_hidden}
use Rattle.caja_units.specs.Index.{array_index}
use Rattle.es3_tree.specs.declared.BinOp.{BinOp}
use Rattle.es3_tree.specs.declared.BinOp.TheVariants as bin
use Rattle.es3_tree.specs.declared.UnOp.{UnOp}
use Rattle.es3_tree.specs.declared.UnOp.TheVariants as un
use Rattle.rows.specs.Rows as r
use Rattle.rows.specs.Rows.{Handle, Native, Sight, Ending, Row}
use Rattle.rows.specs.Names.{method, text_methods, array_methods, function_methods, node_methods}
use Rattle.rows.specs.Public as pub_
use Rattle.rows.specs.Arguments as args
use Rattle.rows.specs.Guards as guards
use Rattle.rows.specs.Events as events
use Rattle.rows.specs.Operators as operators
use Rattle.rows.specs.Core as core
use Rattle.rows.specs.Arrays as arrays
use Rattle.rows.specs.Texts as texts
use Rattle.rows.specs.Document.{Node, attribute, Change, sets_text, appends, removes, text_node, element}
use Rattle.rows.specs.Nodes as nodes
use Rattle.rows.specs.Nodes.{Rules}
use Rattle.rows.specs.Table.{row_of}
use Rattle.heap_rows.specs.Natives.{is_common}
use Rattle.row_simulation.specs.Among.{IsHandleAmong, AreHandlesAmong, ArePairsAmong, IsSightAmong, IsEndAmong, AreIdsAmong, AreAnswersAmong, IsAmongObjects, AreTablesAmong}

-- choices

handle_if : (b : Bool) (x y : Handle) → IsHandleAmong x → IsHandleAmong y → IsHandleAmong (cond b x y)
handle_if true x y p q = p
handle_if false x y p q = q

row_if : (b : Bool) (x y : Row) → IsAmongObjects x → IsAmongObjects y → IsAmongObjects (cond b x y)
row_if true x y p q = p
row_if false x y p q = q

end_if : (b : Bool) (x y : Ending) → IsEndAmong x → IsEndAmong y → IsEndAmong (cond b x y)
end_if true x y p q = p
end_if false x y p q = q

abbrev IsOptionAmong : Option Handle → Type 0
IsOptionAmong None = Unit {0}
IsOptionAmong (Some x) = IsHandleAmong x

option_if : (b : Bool) (x y : Option Handle) → IsOptionAmong x → IsOptionAmong y → IsOptionAmong (cond b x y)
option_if true x y p q = p
option_if false x y p q = q

-- lists of handles

appended : (xs ys : List Handle) → AreHandlesAmong xs → AreHandlesAmong ys → AreHandlesAmong (xs ++ ys)
appended [] ys p q = q
appended (x ∷ xs) ys p q = (p.0, appended xs ys p.1 q)

taken : (n : ℕ) (xs : List Handle) → AreHandlesAmong xs → AreHandlesAmong (take n xs)
taken zero xs p = tt
taken (suc n) [] p = tt
taken (suc n) (x ∷ xs) p = (p.0, taken n xs p.1)

dropped : (n : ℕ) (xs : List Handle) → AreHandlesAmong xs → AreHandlesAmong (drop n xs)
dropped zero xs p = p
dropped (suc n) [] p = tt
dropped (suc n) (x ∷ xs) p = dropped n xs p.1

reversed : (xs : List Handle) → AreHandlesAmong xs → AreHandlesAmong (reverse xs)
reversed [] p = tt
reversed (x ∷ xs) p = subst AreHandlesAmong (sym (reverse-append (x ∷ []) xs)) (appended (reverse xs) (x ∷ []) (reversed xs p.1) (p.0, tt))

texts_among : (uss : List (List ℕ)) → AreHandlesAmong (map r.text uss)
texts_among [] = tt
texts_among (us ∷ uss) = (tt, texts_among uss)

at_place : (xs : List Handle) (i : ℕ) → AreHandlesAmong xs → IsOptionAmong (slice_get xs i)
at_place [] i p = tt
at_place (x ∷ xs) zero p = p.0
at_place (x ∷ xs) (suc i) p = at_place xs i p.1

item_among : (o : Option ℕ) (xs : List Handle) → AreHandlesAmong xs → IsOptionAmong (pub_.item_at o xs)
item_among None xs p = tt
item_among (Some i) xs p = at_place xs i p

item_or_new_among : (xs : List Handle) (i : ℕ) (v : Handle) → AreHandlesAmong xs → IsHandleAmong v → AreHandlesAmong (pub_.item_or_new xs i v)
item_or_new_among [] i v p q = (q, tt)
item_or_new_among (x ∷ xs) zero v p q = (q, p.1)
item_or_new_among (x ∷ xs) (suc i) v p q = (p.0, item_or_new_among xs i v p.1 q)

-- the values that a row gets

value_among : (i n : ℕ) → IsHandleAmong (args.value i n)
value_among i n = handle_if (nat_lt i n) (r.held i) r.undefined tt tt

argument_among : (i n : ℕ) → IsHandleAmong (args.argument i n)
argument_among i n = handle_if (nat_lt (i + 1) n) (r.held (i + 1)) r.undefined tt tt

values_among : (i n : ℕ) → AreHandlesAmong (args.values_from i n)
values_among i zero = tt
values_among i (suc n) = (tt, values_among (i + 1) n)

arguments_among : (n : ℕ) → AreHandlesAmong (args.arguments n)
arguments_among n = values_among 1 (n - 1)

-- what is seen of a value

value_at_among : (k : List ℕ) (ps : List (List ℕ × Handle)) → ArePairsAmong ps → IsOptionAmong (pub_.value_at k ps)
value_at_among k [] p = tt
value_at_among k ((j, x) ∷ ps) p = option_if (same_units k j) (Some x) (pub_.value_at k ps) p.0 (value_at_among k ps p.1)

abbrev AllCommon : List (List ℕ × Native) → Type 0
AllCommon [] = Unit {0}
AllCommon ((k, f) ∷ rest) = (is_common f ≡ true) × AllCommon rest

native_if : (b : Bool) (o : Handle) (x y : Option Native) → IsOptionAmong (pub_.of_value o x) → IsOptionAmong (pub_.of_value o y) → IsOptionAmong (pub_.of_value o (cond b x y))
native_if true o x y p q = p
native_if false o x y p q = q

method_among : (o : Handle) (l : List (List ℕ × Native)) (k : List ℕ) → IsHandleAmong o → AllCommon l → IsOptionAmong (pub_.of_value o (method l k))
method_among o [] k p c = tt
method_among o ((name, f) ∷ rest) k p c = native_if (same_units k name) o (Some f) (method rest k) (p, c.0) (method_among o rest k p c.1)

property_among : (o : Handle) (s : Sight) (k : List ℕ) → IsHandleAmong o → IsSightAmong s → IsOptionAmong (pub_.property o s k)
property_among o (r.a_text us) k p q = option_if (pub_.is_length k) (Some (r.number (pos (length us)))) (pub_.of_value o (method text_methods k)) tt (method_among o text_methods k p (refl, (refl, (refl, (refl, (refl, (refl, (refl, (refl, tt)))))))))
property_among o (r.a_record frozen ps) k p q = value_at_among k ps q
property_among o (r.an_array frozen xs) k p q =
    option_if (pub_.is_length k) (Some (r.number (pos (length xs)))) (cond (is_some (pub_.item_at (array_index k) xs)) (pub_.item_at (array_index k) xs) (pub_.of_value o (method array_methods k))) tt
    (option_if (is_some (pub_.item_at (array_index k) xs)) (pub_.item_at (array_index k) xs) (pub_.of_value o (method array_methods k)) (item_among (array_index k) xs q) (method_among o array_methods k p (refl, (refl, (refl, (refl, (refl, (refl, (refl, (refl, tt))))))))))
property_among o (r.a_function sort) k p q = method_among o function_methods k p (refl, (refl, tt))
property_among o (r.an_error name message) k p q = option_if (same_units k (codes "name")) (Some (r.text name)) (cond (same_units k (codes "message")) (Some (r.text message)) None) tt (option_if (same_units k (codes "message")) (Some (r.text message)) None tt tt)
property_among o r.a_node k p q = method_among o node_methods k p (refl, (refl, (refl, (refl, (refl, (refl, (refl, (refl, (refl, (refl, (refl, (refl, (refl, tt)))))))))))))
property_among o s k p q = tt

or_undefined_among : (x : Option Handle) → IsOptionAmong x → IsHandleAmong (pub_.or_undefined x)
or_undefined_among None p = tt
or_undefined_among (Some x) p = p

get_among : (o : Handle) (s : Sight) (k : List ℕ) → IsHandleAmong o → IsSightAmong s → IsHandleAmong (pub_.pub_get o s k)
get_among o s k p q = handle_if (is_hidden k) r.undefined (pub_.or_undefined (pub_.property o s k)) tt (or_undefined_among (pub_.property o s k) (property_among o s k p q))

-- the guards

at_key_among : (t : r.Touch) (o k : Handle) (go : Sight → List ℕ → Row) → IsHandleAmong o → IsHandleAmong k → ((s : Sight) → IsSightAmong s → (us : List ℕ) → IsAmongObjects (go s us)) → IsAmongObjects (guards.at_key t o k go)
at_key_among t o k go p q next = (p, λ s seen. on_it s seen)
  where
    on_it : (s : Sight) → IsSightAmong s → IsAmongObjects (guards.on_object t o k go s)
    on_it r.nothing seen = tt
    on_it r.a_null seen = tt
    on_it (r.a_truth b) seen = (q, λ us. (p, next (r.a_truth b) seen us))
    on_it (r.a_number n) seen = (q, λ us. (p, next (r.a_number n) seen us))
    on_it (r.a_text vs) seen = (q, λ us. (p, next (r.a_text vs) seen us))
    on_it (r.a_record frozen ps) seen = (q, λ us. (p, next (r.a_record frozen ps) seen us))
    on_it (r.an_array frozen xs) seen = (q, λ us. (p, next (r.an_array frozen xs) seen us))
    on_it (r.a_function sort) seen = (q, λ us. (p, next (r.a_function sort) seen us))
    on_it (r.an_error name message) seen = (q, λ us. (p, next (r.an_error name message) seen us))
    on_it r.a_node seen = (q, λ us. (p, next r.a_node seen us))
    on_it (r.a_stranger callable) seen = (q, λ us. (p, next (r.a_stranger callable) seen us))

read_end_among : (s : Sight) (o : Handle) (k : List ℕ) → IsHandleAmong o → IsSightAmong s → IsEndAmong (guards.read_end s o k)
read_end_among (r.a_record frozen ps) o k p q = end_if (is_some (pub_.value_at k ps)) (r.reads_key o k (pub_.pub_get o (r.a_record frozen ps) k)) (r.answers (pub_.pub_get o (r.a_record frozen ps) k)) (p, get_among o (r.a_record frozen ps) k p q) (get_among o (r.a_record frozen ps) k p q)
read_end_among r.nothing o k p q = get_among o r.nothing k p q
read_end_among r.a_null o k p q = get_among o r.a_null k p q
read_end_among (r.a_truth b) o k p q = get_among o (r.a_truth b) k p q
read_end_among (r.a_number n) o k p q = get_among o (r.a_number n) k p q
read_end_among (r.a_text us) o k p q = get_among o (r.a_text us) k p q
read_end_among (r.an_array frozen xs) o k p q = get_among o (r.an_array frozen xs) k p q
read_end_among (r.a_function sort) o k p q = get_among o (r.a_function sort) k p q
read_end_among (r.an_error name message) o k p q = get_among o (r.an_error name message) k p q
read_end_among r.a_node o k p q = get_among o r.a_node k p q
read_end_among (r.a_stranger callable) o k p q = get_among o (r.a_stranger callable) k p q

write_end_among : (c : pub_.Change) (s : Sight) (o : Handle) (k : List ℕ) (v : Handle) → IsHandleAmong o → IsHandleAmong v → IsSightAmong s → IsEndAmong (guards.write_end c s o k v)
write_end_among (pub_.refused message) s o k v p q seen = tt
write_end_among pub_.of_key s o k v p q seen = (p, q)
write_end_among (pub_.of_item i) (r.an_array frozen xs) o k v p q seen = (p, item_or_new_among xs i v seen q, q)
write_end_among (pub_.of_item i) s o k v p q seen = q

delete_end_among : (c : pub_.Change) (o : Handle) (k : List ℕ) → IsHandleAmong o → IsEndAmong (guards.delete_end c o k)
delete_end_among (pub_.refused message) o k p = tt
delete_end_among c o k p = p

call_end_among : (f o : Handle) (l : List Handle) (s : Sight) → IsHandleAmong f → IsHandleAmong o → AreHandlesAmong l → IsEndAmong (guards.call_end f o l s)
call_end_among f o l (r.a_function sort) p q a = (p, q, a)
call_end_among f o l s p q a = tt

read_pub : (n : ℕ) → IsAmongObjects (guards.read_pub n)
read_pub n = at_key_among r.to_get _ _ (λ s k. r.ends (guards.read_end s (args.value 0 n) k)) (value_among 0 n) (value_among 1 n) (λ s seen k. read_end_among s (args.value 0 n) k (value_among 0 n) seen)

set_pub : (n : ℕ) → IsAmongObjects (guards.set_pub n)
set_pub n = at_key_among r.to_set _ _ (λ s k. r.ends (guards.write_end (pub_.pub_set s k) s (args.value 0 n) k (args.value 2 n))) (value_among 0 n) (value_among 1 n) (λ s seen k. write_end_among (pub_.pub_set s k) s (args.value 0 n) k (args.value 2 n) (value_among 0 n) (value_among 2 n) seen)

delete_pub : (n : ℕ) → IsAmongObjects (guards.delete_pub n)
delete_pub n = at_key_among r.to_delete _ _ (λ s k. r.ends (guards.delete_end (pub_.pub_delete s k) (args.value 0 n) k)) (value_among 0 n) (value_among 1 n) (λ s seen k. delete_end_among (pub_.pub_delete s k) (args.value 0 n) k (value_among 0 n))

call_pub : (n : ℕ) → IsAmongObjects (guards.call_pub n)
call_pub n = at_key_among r.to_get _ _ (λ s k. r.looks (pub_.pub_get (args.value 0 n) s k) (λ f. r.ends (guards.call_end (pub_.pub_get (args.value 0 n) s k) (args.value 0 n) (args.values_from 2 (n - 2)) f))) (value_among 0 n) (value_among 1 n) (λ s seen k. (get_among (args.value 0 n) s k (value_among 0 n) seen, λ f shown. call_end_among (pub_.pub_get (args.value 0 n) s k) (args.value 0 n) (args.values_from 2 (n - 2)) f (get_among (args.value 0 n) s k (value_among 0 n) seen) (value_among 0 n) (values_among 2 (n - 2))))

has_end_among : (o : Option Bool) → IsEndAmong (guards.has_end o)
has_end_among None = tt
has_end_among (Some b) = tt

in_pub : IsAmongObjects guards.in_pub
in_pub = (tt, λ k. (tt, λ s seen. (tt, has_end_among (pub_.pub_has s k))))

list_end_among : (o : Option (List (List ℕ))) → IsEndAmong (guards.list_end o)
list_end_among None = tt
list_end_among (Some ks) = tt

keys_pub : IsAmongObjects guards.keys_pub
keys_pub = (tt, λ s seen. (tt, list_end_among (pub_.pub_keys s)))

simple_end_among : (f : Handle) (s : Sight) → IsHandleAmong f → IsEndAmong (guards.simple_end f s)
simple_end_among f (r.a_function (r.exophoric w)) p = tt
simple_end_among f (r.a_function sort) p = p
simple_end_among f s p = tt

as_simple_func : IsAmongObjects guards.as_simple_func
as_simple_func = (tt, λ s seen. simple_end_among (r.held 0) s tt)

plain_call : (n : ℕ) → IsAmongObjects (guards.plain_call n)
plain_call n = (tt, tt, values_among 1 (n - 1))

new_row_among : (l : List Handle) (s : Sight) → AreHandlesAmong l → IsAmongObjects (guards.new_row l s)
new_row_among l (r.a_function (r.constructor maker)) p = (tt, (tt, tt, p))
new_row_among l (r.a_function sort) p = (tt, tt)
new_row_among l s p = tt

construct : (n : ℕ) → IsAmongObjects (guards.construct n)
construct n = (tt, λ s seen. new_row_among (args.values_from 1 (n - 1)) s (values_among 1 (n - 1)))

instance_row_among : (s : Sight) → IsAmongObjects (guards.instance_row s)
instance_row_among (r.a_function sort) = (tt, λ s seen. tt)
instance_row_among s = tt

instance_of : IsAmongObjects guards.instance_of
instance_of = (tt, λ s seen. instance_row_among s)

key : IsAmongObjects guards.key
key = (tt, λ us. tt)

arguments_array : (n : ℕ) → IsAmongObjects (guards.args n)
arguments_array n = values_among 0 n

initialize_array : (n : ℕ) → IsAmongObjects (guards.initialize_array n)
initialize_array n = values_among 0 n

-- a key of a value that a page calls

found_end_among : (f : Handle) (l : List Handle) (s : Sight) → IsHandleAmong f → AreHandlesAmong l → IsEndAmong (events.found_end f l s)
found_end_among f l (r.a_function sort) p a = (p, tt, a)
found_end_among f l s p a = tt

key_row_among : (k : List ℕ) (n : ℕ) (s : Sight) → IsSightAmong s → IsAmongObjects (events.key_row k n s)
key_row_among k n r.nothing seen = tt
key_row_among k n r.a_null seen = tt
key_row_among k n s seen = let p = get_among (r.held 0) s k tt seen in (p, λ f there. found_end_among (pub_.pub_get (r.held 0) s k) (args.arguments n) f p (arguments_among n))

call_key : (k : List ℕ) (n : ℕ) → IsAmongObjects (events.call_key k n)
call_key k n = (tt, λ s seen. key_row_among k n s seen)

-- operators

number_end_among : (o : Option ℤ) → IsEndAmong (guards.number_end o)
number_end_among None = tt
number_end_among (Some n) = tt

sum_among : (b : Bool) → IsAmongObjects (guards.sum_row b)
sum_among true = (tt, λ a. (tt, λ b. tt))
sum_among false = (tt, λ a. (tt, λ b. number_end_among (Rattle.caja_num.specs.Numbers.sum a b)))

on_numbers_among : (f : ℤ → ℤ → Option ℤ) → IsAmongObjects (operators.on_numbers f)
on_numbers_among f = (tt, λ a. (tt, λ b. number_end_among (f a b)))

abbrev AllGo : (Bool → Row) → Type 0
AllGo go = (b : Bool) → IsAmongObjects (go b)

primitive_among : (x : Handle) (go : Handle → Sight → Row) → IsHandleAmong x → ((y : Handle) (s : Sight) → IsHandleAmong y → IsAmongObjects (go y s)) → IsAmongObjects (operators.as_primitive x go)
primitive_among x go p q = (p, λ s seen. row_if (operators.is_object s) (r.as_text x (λ us. go (r.text us) (r.a_text us))) (go x s) (p, λ us. q (r.text us) (r.a_text us) tt) (q x s p))

less_among : (x : Handle) (s : Sight) (y : Handle) (t : Sight) (go : Bool → Row) → IsHandleAmong x → IsHandleAmong y → AllGo go → IsAmongObjects (operators.less_primitives x s y t go)
less_among x (r.a_text us) y (r.a_text vs) go p q all = all _
less_among x s y t go p q all = (p, λ a. (q, λ b. all (int_lt a b)))

is_less_among : (x y : Handle) (go : Bool → Row) → IsHandleAmong x → IsHandleAmong y → AllGo go → IsAmongObjects (operators.is_less x y go)
is_less_among x y go p q all = primitive_among x (λ a s. operators.as_primitive y (λ b t. operators.less_primitives a s b t go)) p (λ a s pa. primitive_among y (λ b t. operators.less_primitives a s b t go) q (λ b t pb. less_among a s b t go pa pb all))

counted_among : (x : Handle) (s : Sight) (go : Handle → Sight → Row) → IsHandleAmong x → ((y : Handle) (t : Sight) → IsHandleAmong y → IsAmongObjects (go y t)) → IsAmongObjects (operators.counted x s go)
counted_among x (r.a_truth b) go p q = row_if b (go (r.number (pos 1)) (r.a_number (pos 1))) (go (r.number (pos 0)) (r.a_number (pos 0))) (q _ _ tt) (q _ _ tt)
counted_among x r.nothing go p q = q x r.nothing p
counted_among x r.a_null go p q = q x r.a_null p
counted_among x (r.a_number n) go p q = q x (r.a_number n) p
counted_among x (r.a_text us) go p q = q x (r.a_text us) p
counted_among x (r.a_record frozen ps) go p q = q x (r.a_record frozen ps) p
counted_among x (r.an_array frozen xs) go p q = q x (r.an_array frozen xs) p
counted_among x (r.a_function sort) go p q = q x (r.a_function sort) p
counted_among x (r.an_error name message) go p q = q x (r.an_error name message) p
counted_among x r.a_node go p q = q x r.a_node p
counted_among x (r.a_stranger callable) go p q = q x (r.a_stranger callable) p

equal_among : (x : Handle) (s : Sight) (y : Handle) (t : Sight) (go : Bool → Row) → IsHandleAmong x → IsHandleAmong y → AllGo go → IsAmongObjects (operators.equal_primitives x s y t go)
equal_among x (r.a_number a) y (r.a_text us) go p q all = (q, λ b. all _)
equal_among x (r.a_text us) y (r.a_number b) go p q all = (p, λ a. all _)
equal_among x s y t go p q all = (p, q, all)

equal_seen_among : (x : Handle) (s : Sight) (y : Handle) (t : Sight) (go : Bool → Row) → IsHandleAmong x → IsHandleAmong y → AllGo go → IsAmongObjects (operators.equal_seen x s y t go)
equal_seen_among x s y t go p q all =
    row_if (operators.is_nothing s || operators.is_nothing t) _ _ (all (operators.is_nothing s && operators.is_nothing t))
    (row_if (operators.is_object s && operators.is_object t) _ _ (p, q, all)
    (row_if (operators.is_object s) _ _ (p, λ us. equal_among (r.text us) (r.a_text us) y t go tt q all)
    (row_if (operators.is_object t) _ _ (q, λ us. equal_among x s (r.text us) (r.a_text us) go p tt all) (equal_among x s y t go p q all))))

is_equal_among : (x y : Handle) (go : Bool → Row) → IsHandleAmong x → IsHandleAmong y → AllGo go → IsAmongObjects (operators.is_equal x y go)
is_equal_among x y go p q all = (
  p,
  λ s seen. counted_among x s (λ a u. r.looks y (λ t. operators.counted y t (λ b v. operators.equal_seen a u b v go))) p (λ a u pa.
      (q, λ t shown. counted_among y t (λ b v. operators.equal_seen a u b v go) q (λ b v pb. equal_seen_among a u b v go pa pb all))),
)

binary_among : (op : BinOp) → IsAmongObjects (operators.binary_row op)
binary_among bin.Add = (tt, λ a seen. (tt, λ b shown. sum_among (guards.is_textual a || guards.is_textual b)))
binary_among bin.Less = is_less_among _ _ operators.tells tt tt (λ b. tt)
binary_among bin.Greater = is_less_among _ _ operators.tells tt tt (λ b. tt)
binary_among bin.LessEq = is_less_among _ _ operators.tells_not tt tt (λ b. tt)
binary_among bin.GreaterEq = is_less_among _ _ operators.tells_not tt tt (λ b. tt)
binary_among bin.InstanceOf = instance_of
binary_among bin.InObject = in_pub
binary_among bin.Equal = is_equal_among _ _ operators.tells tt tt (λ b. tt)
binary_among bin.NotEqual = is_equal_among _ _ operators.tells_not tt tt (λ b. tt)
binary_among bin.Same = (tt, tt, λ b. tt)
binary_among bin.NotSame = (tt, tt, λ b. tt)
binary_among bin.Mul = on_numbers_among _
binary_among bin.Div = on_numbers_among _
binary_among bin.Rem = on_numbers_among _
binary_among bin.Sub = on_numbers_among _
binary_among bin.Shl = (tt, λ a. (tt, λ b. tt))
binary_among bin.Shr = (tt, λ a. (tt, λ b. tt))
binary_among bin.Ushr = (tt, λ a. (tt, λ b. tt))
binary_among bin.BitAnd = (tt, λ a. (tt, λ b. tt))
binary_among bin.BitXor = (tt, λ a. (tt, λ b. tt))
binary_among bin.BitOr = (tt, λ a. (tt, λ b. tt))

unary_among : (op : UnOp) → IsAmongObjects (operators.unary_row op)
unary_among un.Delete = tt
unary_among un.Void = tt
unary_among un.Typeof = (tt, λ s seen. tt)
unary_among un.Plus = (tt, λ n. tt)
unary_among un.Minus = (tt, λ n. tt)
unary_among un.BitNot = (tt, λ n. tt)
unary_among un.Not = (tt, λ s seen. tt)

next_number : (up : Bool) → IsAmongObjects (operators.next_number up)
next_number true = (tt, λ a. number_end_among _)
next_number false = (tt, λ a. number_end_among _)

-- arguments of built-ins

as_texts_among : (xs : List Handle) (go : List (List ℕ) → Row) → AreHandlesAmong xs → ((l : List (List ℕ)) → IsAmongObjects (go l)) → IsAmongObjects (args.as_texts xs go)
as_texts_among [] go p q = q []
as_texts_among (x ∷ xs) go p q = (p.0, λ us. as_texts_among xs (λ rest. go (us ∷ rest)) p.1 (λ rest. q (us ∷ rest)))

as_numbers_among : (xs : List Handle) (go : List ℤ → Row) → AreHandlesAmong xs → ((l : List ℤ) → IsAmongObjects (go l)) → IsAmongObjects (args.as_numbers xs go)
as_numbers_among [] go p q = q []
as_numbers_among (x ∷ xs) go p q = (p.0, λ n. as_numbers_among xs (λ rest. go (n ∷ rest)) p.1 (λ rest. q (n ∷ rest)))

unless_among : (default go : Row) (s : Sight) → IsAmongObjects default → IsAmongObjects go → IsAmongObjects (args.unless_undefined default go s)
unless_among default go r.nothing p q = p
unless_among default go s p q = q

number_or_among : (default : ℤ) (x : Handle) (go : ℤ → Row) → IsHandleAmong x → ((n : ℤ) → IsAmongObjects (go n)) → IsAmongObjects (args.number_or default x go)
number_or_among default x go p q = (p, λ s seen. unless_among (go default) (r.as_number x go) s (q default) (p, q))

text_or_among : (default : List ℕ) (x : Handle) (go : List ℕ → Row) → IsHandleAmong x → ((us : List ℕ) → IsAmongObjects (go us)) → IsAmongObjects (args.text_or default x go)
text_or_among default x go p q = (p, λ s seen. unless_among (go default) (r.as_text x go) s (q default) (p, q))

on_array_among : (go : List Handle → Row) → ((xs : List Handle) → AreHandlesAmong xs → IsAmongObjects (go xs)) → IsAmongObjects (args.on_array go)
on_array_among go q = (tt, λ s seen. on_it s seen)
  where
    on_it : (s : Sight) → IsSightAmong s → IsAmongObjects (args.array_seen go s)
    on_it (r.an_array frozen xs) seen = q xs seen
    on_it s seen = tt

on_open_among : (go : List Handle → Ending) → ((xs : List Handle) → AreHandlesAmong xs → IsEndAmong (go xs)) → IsAmongObjects (args.on_open_array go)
on_open_among go q = (tt, λ s seen. on_it s seen)
  where
    on_it : (s : Sight) → IsSightAmong s → IsEndAmong (args.open_seen go s)
    on_it (r.an_array frozen xs) seen = end_if frozen (r.throws (codes "not writable")) (go xs) tt (q xs seen)
    on_it s seen = tt

on_text_among : (go : List ℕ → Row) → ((us : List ℕ) → IsAmongObjects (go us)) → IsAmongObjects (args.on_text go)
on_text_among go q = (tt, λ s seen. on_it s)
  where
    on_it : (s : Sight) → IsAmongObjects (args.text_seen go s)
    on_it (r.a_text us) = q us
    on_it s = tt

-- nodes, with those around them

when_among : (b : Bool) (message : List ℕ) (next : Row) → IsAmongObjects next → IsAmongObjects (nodes.when b message next)
when_among b message next p = row_if b (nodes.refused message) next tt p

changes_or_not : (b : Bool) (message : List ℕ) (c : Change) (x : Handle) → IsHandleAmong x → IsAmongObjects (nodes.when b message (r.settles (r.changes_node (r.held 0) c x)))
changes_or_not true message c x p = tt
changes_or_not false message c x p = (tt, p)

append_among : (other refused cycle : Bool) (k : ℕ) (x : Handle) → IsHandleAmong x → IsAmongObjects (nodes.when other (codes "other root") (nodes.when refused (codes "not allowed") (nodes.when cycle (codes "cycle") (r.settles (r.changes_node (r.held 0) (appends k) x)))))
append_among true refused cycle k x p = tt
append_among false true cycle k x p = tt
append_among false false cycle k x p = changes_or_not cycle (codes "cycle") (appends k) x p

adds_among : (o : Node) → o.parent ≡ None → o.children ≡ [] → IsAmongObjects (r.settles (r.adds_node (r.held 0) o))
adds_among o up empty = (tt, up, empty)

first_or_null_among : (xs : List Handle) → AreHandlesAmong xs → IsHandleAmong (nodes.first_or_null xs)
first_or_null_among [] p = tt
first_or_null_among (x ∷ xs) p = p.0

text_or_null_among : (o : Option (List ℕ)) → IsHandleAmong (nodes.text_or_null o)
text_or_null_among None = tt
text_or_null_among (Some us) = tt

of_id_among : (t : List ℕ) (xs : List (Option (List ℕ) × Handle)) → AreIdsAmong xs → IsHandleAmong (nodes.of_id t xs)
of_id_among t [] p = tt
of_id_among t ((id, x) ∷ rest) p = handle_if (nodes.has_id t id) x (nodes.of_id t rest) p.0 (of_id_among t rest p.1)

set_cleaned_among : (k : List ℕ) (o : Option (List ℕ)) → IsAmongObjects (nodes.set_cleaned k o)
set_cleaned_among k None = tt
set_cleaned_among k (Some us) = (tt, tt)

listen_among : (known : Bool) (k : List ℕ) (f : Handle) (s : Sight) → IsHandleAmong f → IsAmongObjects (nodes.listen_row known k f s)
listen_among true k f (r.a_function r.closure) p = (tt, p)
listen_among known k f s p = tt

-- built-ins

freeze_end_among : (x : Handle) (s : Sight) → IsHandleAmong x → IsEndAmong (core.freeze_end x s)
freeze_end_among x (r.a_record frozen ps) p = p
freeze_end_among x (r.an_array frozen xs) p = p
freeze_end_among x s p = p

copy_end_among : (closed : Bool) (x : Handle) (s : Sight) → IsHandleAmong x → IsSightAmong s → IsEndAmong (core.copy_end closed x s)
copy_end_among closed x (r.a_record frozen ps) p q = p
copy_end_among closed x (r.an_array frozen xs) p q = q
copy_end_among closed x s p q = tt

keys_end_among : (o : Option (List (List ℕ))) → IsEndAmong (core.keys_end o)
keys_end_among None = tt
keys_end_among (Some ks) = texts_among ks

best_end_among : (better : ℤ → ℤ → Bool) (l : List ℤ) → IsEndAmong (core.best_end better l)
best_end_among better [] = tt
best_end_among better (n ∷ l) = tt

best_among : (better : ℤ → ℤ → Bool) (n : ℕ) → IsAmongObjects (core.best better n)
best_among better n = as_numbers_among (args.arguments n) (λ l. r.ends (core.best_end better l)) (arguments_among n) (λ l. best_end_among better l)

call_it_among : (x : Handle) (l : List Handle) (s : Sight) → IsHandleAmong x → AreHandlesAmong l → IsEndAmong (core.call_it x l s)
call_it_among x l s p q = end_if (core.is_callable s) (r.calls true (r.held 0) x l) (r.throws (codes "bad receiver")) (tt, p, q) tt

apply_list_among : (x : Handle) (s : Sight) → IsHandleAmong x → IsSightAmong s → IsEndAmong (core.apply_list x s)
apply_list_among x r.nothing p q = (tt, p, tt)
apply_list_among x r.a_null p q = (tt, p, tt)
apply_list_among x (r.an_array frozen xs) p q = (tt, p, q)
apply_list_among x s p q = tt

apply_to_among : (x l : Handle) (s : Sight) → IsHandleAmong x → IsHandleAmong l → IsAmongObjects (core.apply_to x l s)
apply_to_among x l s p q = row_if (core.is_callable s) (r.looks l (λ seen. r.ends (core.apply_list x seen))) (r.ends (r.throws (codes "bad receiver"))) (q, λ t shown. apply_list_among x t p shown) tt

later_among : (x : Handle) (s : Sight) → IsHandleAmong x → IsAmongObjects (core.later_row x s)
later_among x (r.a_function r.closure) p = (tt, p)
later_among x s p = tt

unless_revoked_among : (go : Row) (s : Sight) → IsAmongObjects go → IsAmongObjects (core.unless_revoked go s)
unless_revoked_among go (r.a_function (r.forwarder true)) p = tt
unless_revoked_among go s p = p

items_among : (x : Handle) (s : Sight) → IsHandleAmong x → IsSightAmong s → AreHandlesAmong (arrays.items_or_it x s)
items_among x (r.an_array frozen ys) p q = q
items_among x s p q = (p, tt)

gathered_among : (xs : List Handle) (go : List Handle → Row) → AreHandlesAmong xs → ((ys : List Handle) → AreHandlesAmong ys → IsAmongObjects (go ys)) → IsAmongObjects (arrays.gathered xs go)
gathered_among [] go p q = q [] tt
gathered_among (x ∷ xs) go p q = (p.0, λ s seen. gathered_among xs (λ ys. go (arrays.items_or_it x s ++ ys)) p.1 (λ ys a. q (arrays.items_or_it x s ++ ys) (appended (arrays.items_or_it x s) ys (items_among x s p.0 seen) a)))

part_among : (a b : ℕ) (xs : List Handle) → AreHandlesAmong xs → AreHandlesAmong (arrays.part a b xs)
part_among a b xs p = taken (b - a) (drop a xs) (dropped a xs p)

first_among : (xs : List Handle) → AreHandlesAmong xs → IsEndAmong (arrays.without_first xs)
first_among [] p = tt
first_among (x ∷ xs) p = (tt, p.1, p.0)

last_among : (before xs : List Handle) → AreHandlesAmong before → AreHandlesAmong xs → IsEndAmong (arrays.without_last before xs)
last_among before [] q p = tt
last_among before (x ∷ []) q p = (tt, q, p.0)
last_among before (x ∷ y ∷ xs) q p = last_among (before ++ x ∷ []) (y ∷ xs) (appended before (x ∷ []) q (p.0, tt)) p.1

code_end_among : (us : List ℕ) → IsEndAmong (texts.code_end us)
code_end_among [] = tt
code_end_among (u ∷ us) = tt

place_among : (o : Option ℕ) → IsHandleAmong (texts.or_minus_one o)
place_among None = tt
place_among (Some i) = tt

-- a service gets values that are no objects

plain_among : (s : Sight) → IsOptionAmong (core.plain_seen s)
plain_among r.a_null = tt
plain_among (r.a_truth b) = tt
plain_among (r.a_number n) = tt
plain_among (r.a_text us) = tt
plain_among s = tt

or_bad_among : (x : Option Handle) (go : Handle → Row) → IsOptionAmong x → ((y : Handle) → IsHandleAmong y → IsAmongObjects (go y)) → IsAmongObjects (core.or_bad x go)
or_bad_among None go p q = tt
or_bad_among (Some x) go p q = q x p

as_plain_among : (xs : List Handle) (go : List Handle → Row) → AreHandlesAmong xs → ((ys : List Handle) → AreHandlesAmong ys → IsAmongObjects (go ys)) → IsAmongObjects (core.as_plain xs go)
as_plain_among [] go p q = q [] tt
as_plain_among (x ∷ xs) go p q = (p.0, λ s seen. or_bad_among (core.plain_seen s) (λ y. core.as_plain xs (λ ys. go (y ∷ ys))) (plain_among s) (λ y a. as_plain_among xs (λ ys. go (y ∷ ys)) p.1 (λ ys b. q (y ∷ ys) (a, b))))

built_in : (rules : Rules) → AreAnswersAmong rules → (f : Native) (n : ℕ) → IsAmongObjects (row_of rules f n)
built_in rules e r.freeze n = (argument_among 0 n, λ s seen. freeze_end_among (args.argument 0 n) s (argument_among 0 n))
built_in rules e r.is_frozen n = (argument_among 0 n, λ s seen. tt)
built_in rules e r.copy n = (argument_among 0 n, λ s seen. copy_end_among false (args.argument 0 n) s (argument_among 0 n) seen)
built_in rules e r.snapshot n = (argument_among 0 n, λ s seen. copy_end_among true (args.argument 0 n) s (argument_among 0 n) seen)
built_in rules e r.is_array n = (argument_among 0 n, λ s seen. tt)
built_in rules e r.is_record n = (argument_among 0 n, λ s seen. tt)
built_in rules e r.keys n = (argument_among 0 n, λ s seen. keys_end_among (pub_.pub_keys s))
built_in rules e r.abs n = (argument_among 0 n, λ i. tt)
built_in rules e r.floor n = (argument_among 0 n, λ i. tt)
built_in rules e r.ceil n = (argument_among 0 n, λ i. tt)
built_in rules e r.round n = (argument_among 0 n, λ i. tt)
built_in rules e r.max n = best_among (λ a b. int_lt b a) n
built_in rules e r.min n = best_among int_lt n
built_in rules e r.number_from n = row_if (Rattle.std.specs.Prelude.nat_eq n 1) (r.ends (r.answers (r.number (pos 0)))) (core.its_number (args.argument 0 n)) tt (argument_among 0 n, λ i. tt)
built_in rules e r.text_from n = row_if (Rattle.std.specs.Prelude.nat_eq n 1) (r.ends (r.answers (r.text []))) (r.as_text (args.argument 0 n) (λ us. r.ends (r.answers (r.text us)))) tt (argument_among 0 n, λ us. tt)
built_in rules e r.truth_from n = (argument_among 0 n, λ s seen. tt)
built_in rules e (r.makes maker) n = text_or_among [] (args.argument 0 n) (λ us. r.ends (r.makes_error maker us)) (argument_among 0 n) (λ us. tt)
built_in rules e r.call n = (tt, λ s seen. call_it_among (args.argument 0 n) (args.values_from 2 (n - 2)) s (argument_among 0 n) (values_among 2 (n - 2)))
built_in rules e r.apply n = (tt, λ s seen. apply_to_among (args.argument 0 n) (args.argument 1 n) s (argument_among 0 n) (argument_among 1 n))
built_in rules e r.char_at n = on_text_among _ (λ us. number_or_among (pos 0) (args.argument 0 n) (λ i. r.ends (r.answers (r.text (texts.unit_at i us)))) (argument_among 0 n) (λ i. tt))
built_in rules e r.char_code_at n = on_text_among _ (λ us. number_or_among (pos 0) (args.argument 0 n) (λ i. r.ends (texts.code_end (texts.unit_at i us))) (argument_among 0 n) (λ i. code_end_among (texts.unit_at i us)))
built_in rules e r.index_of n = on_text_among (λ us. r.as_text (args.argument 0 n) (λ t. args.number_or (pos 0) (args.argument 1 n) (λ i. r.ends (r.answers (texts.or_minus_one (texts.first_place t (args.clamped (length us) i) (drop (args.clamped (length us) i) us))))))) (λ us.
    (argument_among 0 n, λ t. number_or_among (pos 0) (args.argument 1 n) (λ i. r.ends (r.answers (texts.or_minus_one (texts.first_place t (args.clamped (length us) i) (drop (args.clamped (length us) i) us))))) (argument_among 1 n) (λ i. place_among _)))
built_in rules e r.last_index_of n = on_text_among (λ us. r.as_text (args.argument 0 n) (λ t. r.ends (r.answers (texts.or_minus_one (texts.last_place t 0 us))))) (λ us. (argument_among 0 n, λ t. place_among (texts.last_place t 0 us)))
built_in rules e r.slice_text n = on_text_among _ (λ us. number_or_among (pos 0) (args.argument 0 n) (λ a. args.number_or (pos (length us)) (args.argument 1 n) (λ b. r.ends (r.answers (r.text (arrays.part (args.place (length us) a) (args.place (length us) b) us))))) (argument_among 0 n) (λ a.
    number_or_among (pos (length us)) (args.argument 1 n) (λ b. r.ends (r.answers (r.text (arrays.part (args.place (length us) a) (args.place (length us) b) us)))) (argument_among 1 n) (λ b. tt)))
built_in rules e r.substring n = on_text_among _ (λ us. number_or_among (pos 0) (args.argument 0 n) (λ a. args.number_or (pos (length us)) (args.argument 1 n) (λ b. r.ends (r.answers (r.text (texts.between (args.clamped (length us) a) (args.clamped (length us) b) us))))) (argument_among 0 n) (λ a.
    number_or_among (pos (length us)) (args.argument 1 n) (λ b. r.ends (r.answers (r.text (texts.between (args.clamped (length us) a) (args.clamped (length us) b) us)))) (argument_among 1 n) (λ b. tt)))
built_in rules e r.split n = on_text_among (λ us. r.looks (args.argument 0 n) (args.unless_undefined (r.ends (texts.texts (us ∷ []))) (r.as_text (args.argument 0 n) (λ s. r.ends (texts.texts (texts.split_by s us)))))) (λ us.
    (argument_among 0 n, λ s seen. unless_among (r.ends (texts.texts (us ∷ []))) (r.as_text (args.argument 0 n) (λ s. r.ends (texts.texts (texts.split_by s us)))) s (texts_among (us ∷ [])) (argument_among 0 n, λ t. texts_among (texts.split_by t us))))
built_in rules e r.concat_text n = on_text_among (λ us. args.as_texts (args.arguments n) (λ uss. r.ends (r.answers (r.text (us ++ texts.joined uss))))) (λ us. as_texts_among (args.arguments n) (λ uss. r.ends (r.answers (r.text (us ++ texts.joined uss)))) (arguments_among n) (λ uss. tt))
built_in rules e r.concat n = on_array_among (λ xs. arrays.gathered (args.arguments n) (λ ys. r.ends (r.makes_array false (xs ++ ys)))) (λ xs p. gathered_among (args.arguments n) (λ ys. r.ends (r.makes_array false (xs ++ ys))) (arguments_among n) (λ ys q. appended xs ys p q))
built_in rules e r.join n = on_array_among (λ xs. args.text_or (codes ",") (args.argument 0 n) (λ s. r.as_joined (r.held 0) s (λ us. r.ends (r.answers (r.text us))))) (λ xs p. text_or_among (codes ",") (args.argument 0 n) (λ s. r.as_joined (r.held 0) s (λ us. r.ends (r.answers (r.text us)))) (argument_among 0 n) (λ s. (tt, λ us. tt)))
built_in rules e r.slice n = on_array_among (λ xs. args.number_or (pos 0) (args.argument 0 n) (λ a. args.number_or (pos (length xs)) (args.argument 1 n) (λ b. r.ends (r.makes_array false (arrays.part (args.place (length xs) a) (args.place (length xs) b) xs))))) (λ xs p.
    number_or_among (pos 0) (args.argument 0 n) (λ a. args.number_or (pos (length xs)) (args.argument 1 n) (λ b. r.ends (r.makes_array false (arrays.part (args.place (length xs) a) (args.place (length xs) b) xs)))) (argument_among 0 n) (λ a.
    number_or_among (pos (length xs)) (args.argument 1 n) (λ b. r.ends (r.makes_array false (arrays.part (args.place (length xs) a) (args.place (length xs) b) xs))) (argument_among 1 n) (λ b. part_among (args.place (length xs) a) (args.place (length xs) b) xs p)))
built_in rules e r.push n = on_open_among (λ xs. r.sets_items (r.held 0) (xs ++ args.arguments n) (r.number (pos (length (xs ++ args.arguments n))))) (λ xs p. (tt, appended xs (args.arguments n) p (arguments_among n), tt))
built_in rules e r.unshift n = on_open_among (λ xs. r.sets_items (r.held 0) (args.arguments n ++ xs) (r.number (pos (length (args.arguments n ++ xs))))) (λ xs p. (tt, appended (args.arguments n) xs (arguments_among n) p, tt))
built_in rules e r.pop n = on_open_among (arrays.without_last []) (λ xs p. last_among [] xs tt p)
built_in rules e r.shift n = on_open_among arrays.without_first (λ xs p. first_among xs p)
built_in rules e r.turn n = on_open_among (λ xs. r.sets_items (r.held 0) (reverse xs) (r.held 0)) (λ xs p. (tt, reversed xs p, tt))
built_in rules e r.say n = (argument_among 0 n, λ us. tt)
built_in rules e r.later n = (argument_among 0 n, λ s seen. later_among (args.argument 0 n) s (argument_among 0 n))
built_in rules e (r.service k) n = as_plain_among (args.arguments n) (λ xs. r.ends (r.answers (rules.services k xs))) (arguments_among n) (e k)
built_in rules e r.get n = tt
built_in rules e r.set n = (tt, argument_among 0 n)
built_in rules e r.forward_get n = (tt, λ s seen. unless_revoked_among core.get s tt)
built_in rules e r.forward_set n = (tt, λ s seen. unless_revoked_among (core.set (args.argument 0 n)) s (tt, argument_among 0 n))
built_in rules e r.get_tag_name n = (tt, λ b s. tt, tt)
built_in rules e r.get_parent_node n = (tt, λ b s. first_or_null_among b.parent s.parent, tt)
built_in rules e r.get_child_nodes n = (tt, λ b s. s.children, tt)
built_in rules e r.get_element_by_id n = (tt, λ b s. (argument_among 0 n, λ t. of_id_among t b.below s.below), tt)
built_in rules e r.get_attribute n = (tt, λ b s. (argument_among 0 n, λ k. text_or_null_among (attribute k b.attributes)), tt)
built_in rules e r.set_attribute n = (tt, λ b s. (argument_among 0 n, λ k. (argument_among 1 n, λ v. when_among (nodes.is_text b || same_units k (codes "id")) (codes "not allowed") (nodes.set_cleaned k (rules.cleaned b.tag k v)) (set_cleaned_among k (rules.cleaned b.tag k v)))), tt)
built_in rules e r.get_text n = (tt, λ b s. tt, tt)
built_in rules e r.set_text n = (tt, λ b s. (argument_among 0 n, λ us. changes_or_not (rules.no_content b.tag) (codes "not allowed") (sets_text us) r.undefined tt), tt)
built_in rules e r.create_element n = (tt, λ b s. (argument_among 0 n, λ t. when_among (not (rules.listed t)) (codes "not allowed") (r.settles (r.adds_node (r.held 0) (element t))) (adds_among (element t) refl refl)), tt)
built_in rules e r.create_text_node n = (tt, λ b s. (argument_among 0 n, λ us. adds_among (text_node us) refl refl), tt)
built_in rules e r.append_child n = (tt, λ b s. (argument_among 0 n, λ c t. (tt, argument_among 0 n, λ same. append_among (not same) (nat_eq c.number 0 || nodes.is_text b || rules.no_content b.tag) (nodes.is_in c.number b.above) c.number (args.argument 0 n) (argument_among 0 n)), tt), tt)
built_in rules e r.remove_child n = (tt, λ b s. (argument_among 0 n, λ c t. (tt, argument_among 0 n, λ same. changes_or_not (not (same && nodes.is_in c.number b.numbers)) (codes "bad argument") (removes c.number) (args.argument 0 n) (argument_among 0 n)), tt), tt)
built_in rules e r.on n = (tt, λ b s. (argument_among 0 n, λ k. (argument_among 1 n, λ t seen. listen_among (nodes.is_event k) k (args.argument 1 n) t (argument_among 1 n))), tt)

pub tables : AreTablesAmong
tables = record {
  built_ins = built_in;
  binary = binary_among;
  unary = unary_among;
  next_number = next_number;
  to_number = unary_among un.Plus;
  read_pub = read_pub;
  set_pub = set_pub;
  delete_pub = delete_pub;
  in_pub = in_pub;
  keys_pub = keys_pub;
  call_pub = call_pub;
  as_simple_func = as_simple_func;
  plain_call = plain_call;
  construct = construct;
  key = key;
  args = arguments_array;
  initialize_array = initialize_array;
  call_key = call_key;
}
