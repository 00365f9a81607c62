-- The rows of the built-in functions: all end by themselves, but those of `call` and `apply`, which end in a call of what they have looked at. Those of nodes stand in a
-- file of their own.
use Rattle.std.proofs.Common.{◌≡◌, ℕ, zero, suc, ◌+◌, ◌-◌, ◌≤◌, Bool, true, false, List, [], ◌∷◌, ◌++◌, length, Option, Some, None, cond, ◌⊎◌, inl, inr, refl, ap, arith}
use Rattle.std.specs.Prelude.{ℤ, pos, codes, nat_eq, int_lt, drop, reverse}
use Rattle.rows.specs.Rows as r
use Rattle.rows.specs.Rows.{Handle, Sight, Ending, Row, Native}
use Rattle.rows.specs.Public.{pub_keys}
use Rattle.rows.specs.Arguments as args
use Rattle.rows.specs.Core as core
use Rattle.rows.specs.Texts as texts
use Rattle.rows.specs.Arrays as arrays
use Rattle.rows.specs.Nodes.{Rules, no_rules}
use Rattle.rows.specs.Table.{row_of}
use Rattle.heap_rows.specs.Natives.{is_common}
use Rattle.tamed_dom.specs.declared.methods.NodeMethod.{NodeMethod}
use Rattle.tamed_dom.specs.declared.methods.NodeMethod.TheVariants as m
use Rattle.node_rows.specs.Promises.{of_method}
use Rattle.page_natives.specs.OwnFunctions.{is_of_node}
use Rattle.cajita_simulation.proofs.Rows.{EndsPlainly, NoTouches}
use Rattle.cajita_simulation.proofs.Calling.Calls.{Looked, CallsSeen, EndsCalling, IsCalling}

-- rows that end by themselves and touch nothing
abbrev pub IsSilent : Row → Type 0
IsSilent (r.ends e) = EndsPlainly e
IsSilent (r.settles e) = ⊥
IsSilent (r.as_text x go) = (us : List ℕ) → IsSilent (go us)
IsSilent (r.as_number x go) = (n : ℤ) → IsSilent (go n)
IsSilent (r.as_joined x sep go) = (us : List ℕ) → IsSilent (go us)
IsSilent (r.as_same x y go) = (b : Bool) → IsSilent (go b)
IsSilent (r.looks x go) = (s : Sight) → IsSilent (go s)
IsSilent (r.as_same_root x v go) = ⊥
IsSilent (r.branches x go other) = ⊥
IsSilent (r.touches t x k next) = ⊥

silent_touches : (q : Row) → IsSilent q → NoTouches q
silent_touches (r.ends e) p = tt
silent_touches (r.settles e) p = tt
silent_touches (r.as_text x go) p = λ us. silent_touches (go us) (p us)
silent_touches (r.as_number x go) p = λ n. silent_touches (go n) (p n)
silent_touches (r.as_joined x sep go) p = λ us. silent_touches (go us) (p us)
silent_touches (r.as_same x y go) p = λ c. silent_touches (go c) (p c)
silent_touches (r.looks x go) p = λ s. silent_touches (go s) (p s)
silent_touches (r.as_same_root x v go) p = absurd p
silent_touches (r.branches x go other) p = absurd p
silent_touches (r.touches t x k next) p = absurd p

-- what is done with a value is done in each way that it may be seen

row_if : (c : Bool) (x y : Row) → IsSilent x → IsSilent y → IsSilent (cond c x y)
row_if true x y p q = p
row_if false x y p q = q

end_if : (c : Bool) (x y : Ending) → EndsPlainly x → EndsPlainly y → EndsPlainly (cond c x y)
end_if true x y p q = p
end_if false x y p q = q

text_plain : (go : List ℕ → Row) → ((us : List ℕ) → IsSilent (go us)) → IsSilent (args.on_text go)
text_plain go f = by_sight
  where
    by_sight : (s : Sight) → IsSilent (args.text_seen go s)
    by_sight (r.a_text us) = f us
    by_sight s = tt

array_plain : (go : List Handle → Row) → ((xs : List Handle) → IsSilent (go xs)) → IsSilent (args.on_array go)
array_plain go f = by_sight
  where
    by_sight : (s : Sight) → IsSilent (args.array_seen go s)
    by_sight (r.an_array frozen xs) = f xs
    by_sight s = tt

open_plain : (go : List Handle → Ending) → ((xs : List Handle) → EndsPlainly (go xs)) → IsSilent (args.on_open_array go)
open_plain go f = by_sight
  where
    by_sight : (s : Sight) → EndsPlainly (args.open_seen go s)
    by_sight (r.an_array frozen xs) = end_if frozen (r.throws (codes "not writable")) (go xs) tt (f xs)
    by_sight s = tt

unless_plain : (default go : Row) (s : Sight) → IsSilent default → IsSilent go → IsSilent (args.unless_undefined default go s)
unless_plain default go r.nothing p q = p
unless_plain default go s p q = q

number_plain : (default : ℤ) (x : Handle) (go : ℤ → Row) → ((n : ℤ) → IsSilent (go n)) → IsSilent (args.number_or default x go)
number_plain default x go f = λ s. unless_plain (go default) (r.as_number x go) s (f default) f

text_or_plain : (default : List ℕ) (x : Handle) (go : List ℕ → Row) → ((us : List ℕ) → IsSilent (go us)) → IsSilent (args.text_or default x go)
text_or_plain default x go f = λ s. unless_plain (go default) (r.as_text x go) s (f default) f

texts_plain : (xs : List Handle) (go : List (List ℕ) → Row) → ((uss : List (List ℕ)) → IsSilent (go uss)) → IsSilent (args.as_texts xs go)
texts_plain [] go f = f []
texts_plain (x ∷ xs) go f = λ us. texts_plain xs (λ rest. go (us ∷ rest)) (λ rest. f (us ∷ rest))

numbers_plain : (xs : List Handle) (go : List ℤ → Row) → ((ns : List ℤ) → IsSilent (go ns)) → IsSilent (args.as_numbers xs go)
numbers_plain [] go f = f []
numbers_plain (x ∷ xs) go f = λ n. numbers_plain xs (λ rest. go (n ∷ rest)) (λ rest. f (n ∷ rest))

gathered_plain : (xs : List Handle) (go : List Handle → Row) → ((ys : List Handle) → IsSilent (go ys)) → IsSilent (arrays.gathered xs go)
gathered_plain [] go f = f []
gathered_plain (x ∷ xs) go f = λ s. gathered_plain xs (λ ys. go (arrays.items_or_it x s ++ ys)) (λ ys. f (arrays.items_or_it x s ++ ys))

-- ends

freeze_plain : (x : Handle) (s : Sight) → EndsPlainly (core.freeze_end x s)
freeze_plain x (r.a_record frozen ps) = tt
freeze_plain x (r.an_array frozen xs) = tt
freeze_plain x s = tt

copy_plain : (closed : Bool) (x : Handle) (s : Sight) → EndsPlainly (core.copy_end closed x s)
copy_plain closed x (r.a_record frozen ps) = tt
copy_plain closed x (r.an_array frozen xs) = tt
copy_plain closed x s = tt

keys_plain : (o : Option (List (List ℕ))) → EndsPlainly (core.keys_end o)
keys_plain None = tt
keys_plain (Some ks) = tt

best_plain : (better : ℤ → ℤ → Bool) (ns : List ℤ) → EndsPlainly (core.best_end better ns)
best_plain better [] = tt
best_plain better (n ∷ ns) = tt

most_plain : (better : ℤ → ℤ → Bool) (n : ℕ) → IsSilent (core.best better n)
most_plain better n = numbers_plain (args.arguments n) (λ ns. r.ends (core.best_end better ns)) (λ ns. best_plain better ns)

code_plain : (us : List ℕ) → EndsPlainly (texts.code_end us)
code_plain [] = tt
code_plain (u ∷ us) = tt

first_plain : (xs : List Handle) → EndsPlainly (arrays.without_first xs)
first_plain [] = tt
first_plain (x ∷ xs) = tt

last_plain : (before xs : List Handle) → EndsPlainly (arrays.without_last before xs)
last_plain before [] = tt
last_plain before (x ∷ []) = tt
last_plain before (x ∷ y ∷ xs) = last_plain (before ++ x ∷ []) (y ∷ xs)

-- the functions whose rows end by themselves

abbrev pub EndsItself : Native → Type 0
EndsItself r.call = ⊥
EndsItself r.apply = ⊥
EndsItself (r.service k) = ⊥
EndsItself r.say = ⊥
EndsItself r.later = ⊥
EndsItself r.get = ⊥
EndsItself r.set = ⊥
EndsItself r.forward_get = ⊥
EndsItself r.forward_set = ⊥
EndsItself r.get_tag_name = ⊥
EndsItself r.get_parent_node = ⊥
EndsItself r.get_child_nodes = ⊥
EndsItself r.get_element_by_id = ⊥
EndsItself r.get_attribute = ⊥
EndsItself r.set_attribute = ⊥
EndsItself r.get_text = ⊥
EndsItself r.set_text = ⊥
EndsItself r.create_element = ⊥
EndsItself r.create_text_node = ⊥
EndsItself r.append_child = ⊥
EndsItself r.remove_child = ⊥
EndsItself r.on = ⊥
EndsItself f = Unit {0}

pub built_in_plain : (rules : Rules) (f : Native) → EndsItself f → (n : ℕ) → IsSilent (row_of rules f n)
built_in_plain rules r.freeze p n = λ s. freeze_plain (args.argument 0 n) s
built_in_plain rules r.is_frozen p n = λ s. tt
built_in_plain rules r.copy p n = λ s. copy_plain false (args.argument 0 n) s
built_in_plain rules r.snapshot p n = λ s. copy_plain true (args.argument 0 n) s
built_in_plain rules r.is_array p n = λ s. tt
built_in_plain rules r.is_record p n = λ s. tt
built_in_plain rules r.keys p n = λ s. keys_plain (pub_keys s)
built_in_plain rules r.abs p n = λ i. tt
built_in_plain rules r.floor p n = λ i. tt
built_in_plain rules r.ceil p n = λ i. tt
built_in_plain rules r.round p n = λ i. tt
built_in_plain rules r.max p n = most_plain (λ a b. int_lt b a) n
built_in_plain rules r.min p n = most_plain int_lt n
built_in_plain rules r.number_from p n = row_if (nat_eq n 1) (r.ends (r.answers (r.number (pos 0)))) (core.its_number (args.argument 0 n)) tt (λ i. tt)
built_in_plain rules r.text_from p n = row_if (nat_eq n 1) (r.ends (r.answers (r.text []))) (r.as_text (args.argument 0 n) (λ us. r.ends (r.answers (r.text us)))) tt (λ us. tt)
built_in_plain rules r.truth_from p n = λ s. tt
built_in_plain rules (r.makes maker) p n = text_or_plain [] (args.argument 0 n) (λ us. r.ends (r.makes_error maker us)) (λ us. tt)
built_in_plain rules r.char_at p n = text_plain _ (λ us. number_plain (pos 0) (args.argument 0 n) (λ i. r.ends (r.answers (r.text (texts.unit_at i us)))) (λ i. tt))
built_in_plain rules r.char_code_at p n = text_plain _ (λ us. number_plain (pos 0) (args.argument 0 n) (λ i. r.ends (texts.code_end (texts.unit_at i us))) (λ i. code_plain (texts.unit_at i us)))
built_in_plain rules r.index_of p n = text_plain (λ us. r.as_text (args.argument 0 n) (λ t. args.number_or (pos 0) (args.argument 1 n) (λ i. r.ends (r.answers (texts.or_minus_one (texts.first_place t (args.clamped (length us) i) (drop (args.clamped (length us) i) us))))))) (λ us t.
    number_plain (pos 0) (args.argument 1 n) (λ i. r.ends (r.answers (texts.or_minus_one (texts.first_place t (args.clamped (length us) i) (drop (args.clamped (length us) i) us))))) (λ i. tt))
built_in_plain rules r.last_index_of p n = text_plain (λ us. r.as_text (args.argument 0 n) (λ t. r.ends (r.answers (texts.or_minus_one (texts.last_place t 0 us))))) (λ us t. tt)
built_in_plain rules r.slice_text p n = text_plain _ (λ us. number_plain (pos 0) (args.argument 0 n) (λ a. args.number_or (pos (length us)) (args.argument 1 n) (λ b. r.ends (r.answers (r.text (arrays.part (args.place (length us) a) (args.place (length us) b) us))))) (λ a.
    number_plain (pos (length us)) (args.argument 1 n) (λ b. r.ends (r.answers (r.text (arrays.part (args.place (length us) a) (args.place (length us) b) us)))) (λ b. tt)))
built_in_plain rules r.substring p n = text_plain _ (λ us. number_plain (pos 0) (args.argument 0 n) (λ a. args.number_or (pos (length us)) (args.argument 1 n) (λ b. r.ends (r.answers (r.text (texts.between (args.clamped (length us) a) (args.clamped (length us) b) us))))) (λ a.
    number_plain (pos (length us)) (args.argument 1 n) (λ b. r.ends (r.answers (r.text (texts.between (args.clamped (length us) a) (args.clamped (length us) b) us)))) (λ b. tt)))
built_in_plain rules r.split p n = text_plain (λ us. r.looks (args.argument 0 n) (args.unless_undefined (r.ends (texts.texts (us ∷ []))) (r.as_text (args.argument 0 n) (λ s. r.ends (texts.texts (texts.split_by s us)))))) (λ us s.
    unless_plain (r.ends (texts.texts (us ∷ []))) (r.as_text (args.argument 0 n) (λ t. r.ends (texts.texts (texts.split_by t us)))) s tt (λ t. tt))
built_in_plain rules r.concat_text p n = text_plain (λ us. args.as_texts (args.arguments n) (λ uss. r.ends (r.answers (r.text (us ++ texts.joined uss))))) (λ us. texts_plain (args.arguments n) (λ uss. r.ends (r.answers (r.text (us ++ texts.joined uss)))) (λ uss. tt))
built_in_plain rules r.concat p n = array_plain (λ xs. arrays.gathered (args.arguments n) (λ ys. r.ends (r.makes_array false (xs ++ ys)))) (λ xs. gathered_plain (args.arguments n) (λ ys. r.ends (r.makes_array false (xs ++ ys))) (λ ys. tt))
built_in_plain rules r.join p n = array_plain (λ xs. args.text_or (codes ",") (args.argument 0 n) (λ s. r.as_joined (r.held 0) s (λ us. r.ends (r.answers (r.text us))))) (λ xs. text_or_plain (codes ",") (args.argument 0 n) (λ s. r.as_joined (r.held 0) s (λ us. r.ends (r.answers (r.text us)))) (λ s us. tt))
built_in_plain rules r.slice p n = array_plain (λ xs. args.number_or (pos 0) (args.argument 0 n) (λ a. args.number_or (pos (length xs)) (args.argument 1 n) (λ b. r.ends (r.makes_array false (arrays.part (args.place (length xs) a) (args.place (length xs) b) xs))))) (λ xs.
    number_plain (pos 0) (args.argument 0 n) (λ a. args.number_or (pos (length xs)) (args.argument 1 n) (λ b. r.ends (r.makes_array false (arrays.part (args.place (length xs) a) (args.place (length xs) b) xs)))) (λ a.
    number_plain (pos (length xs)) (args.argument 1 n) (λ b. r.ends (r.makes_array false (arrays.part (args.place (length xs) a) (args.place (length xs) b) xs))) (λ b. tt)))
built_in_plain rules r.push p n = open_plain (λ xs. r.sets_items (r.held 0) (xs ++ args.arguments n) (r.number (pos (length (xs ++ args.arguments n))))) (λ xs. tt)
built_in_plain rules r.unshift p n = open_plain (λ xs. r.sets_items (r.held 0) (args.arguments n ++ xs) (r.number (pos (length (args.arguments n ++ xs))))) (λ xs. tt)
built_in_plain rules r.pop p n = open_plain (arrays.without_last []) (λ xs. last_plain [] xs)
built_in_plain rules r.shift p n = open_plain arrays.without_first first_plain
built_in_plain rules r.turn p n = open_plain (λ xs. r.sets_items (r.held 0) (reverse xs) (r.held 0)) (λ xs. tt)
built_in_plain rules _ p n = absurd p

-- `call` and `apply`

values_long : (i n : ℕ) → length (args.values_from i n) ≡ n
values_long i zero = refl
values_long i (suc n) = ap suc (values_long (i + 1) n)

-- fewer values than there are
pub fewer : (n : ℕ) → length (args.values_from 2 (n - 2)) ≤ n - 1
fewer n = let l = values_long 2 (n - 2) in omega (arith, l)

call_seen : (b : ℕ) (x : Handle) (xs : List Handle) (s : Sight) → length xs ≤ b → EndsCalling b ((r.held 0, s) ∷ []) (core.call_it x xs s)
call_seen b x xs (r.a_function sort) few = (inl (refl, tt), inl few)
call_seen b x xs (r.a_stranger true) few = (inl (refl, tt), inl few)
call_seen b x xs (r.a_stranger false) few = tt
call_seen b x xs s few = tt

pub call_calling : (n : ℕ) → IsCalling (n - 1) [] (core.call n)
call_calling n = λ s. call_seen (n - 1) (args.argument 0 n) (args.values_from 2 (n - 2)) s (fewer n)

list_seen : (b : ℕ) (x l : Handle) (t s : Sight) → CallsSeen ((r.held 0, s) ∷ []) (r.held 0) → EndsCalling b ((l, t) ∷ (r.held 0, s) ∷ []) (core.apply_list x t)
list_seen b x l r.nothing s p = (inr p, inl (omega arith))
list_seen b x l r.a_null s p = (inr p, inl (omega arith))
list_seen b x l (r.an_array frozen xs) s p = (inr p, inr (inl refl))
list_seen b x l t s p = tt

apply_seen : (b : ℕ) (x l : Handle) (s : Sight) → IsCalling b ((r.held 0, s) ∷ []) (core.apply_to x l s)
apply_seen b x l (r.a_function sort) = λ t. list_seen b x l t (r.a_function sort) (inl (refl, tt))
apply_seen b x l (r.a_stranger true) = λ t. list_seen b x l t (r.a_stranger true) (inl (refl, tt))
apply_seen b x l (r.a_stranger false) = tt
apply_seen b x l s = tt

pub apply_calling : (n : ℕ) → IsCalling (n - 1) [] (core.apply n)
apply_calling n = apply_seen (n - 1) (args.argument 0 n) (args.argument 1 n)

-- neither touches anything

call_silent : (n : ℕ) → NoTouches (core.call n)
call_silent n = λ s. tt

apply_to_silent : (x l : Handle) (s : Sight) → NoTouches (core.apply_to x l s)
apply_to_silent x l (r.a_function sort) = λ t. tt
apply_to_silent x l (r.a_stranger true) = λ t. tt
apply_to_silent x l (r.a_stranger false) = tt
apply_to_silent x l s = tt

apply_silent : (n : ℕ) → NoTouches (core.apply n)
apply_silent n = apply_to_silent (args.argument 0 n) (args.argument 1 n)

-- a row that ends by itself ends in no other call than one of what was looked at

ends_calling : (b : ℕ) (e : Ending) (o : Looked) → EndsPlainly e → EndsCalling b o e
ends_calling b (r.calls recorded f t xs) o p = absurd p
ends_calling b (r.answers x) o p = p
ends_calling b (r.throws message) o p = p
ends_calling b (r.faults f) o p = p
ends_calling b (r.lists ks) o p = absurd p
ends_calling b (r.makes_array frozen xs) o p = p
ends_calling b (r.copies_record frozen x) o p = p
ends_calling b (r.makes_error maker message) o p = p
ends_calling b (r.reads_key u k x) o p = p
ends_calling b (r.writes_key u k x) o p = p
ends_calling b (r.drops_key u k) o p = p
ends_calling b (r.sets_items u xs x) o p = p
ends_calling b (r.freezes u) o p = p

plain_calling : (b : ℕ) (q : Row) (o : Looked) → IsSilent q → IsCalling b o q
plain_calling b (r.ends e) o p = ends_calling b e o p
plain_calling b (r.settles e) o p = absurd p
plain_calling b (r.as_text x go) o p = λ us. plain_calling b (go us) o (p us)
plain_calling b (r.as_number x go) o p = λ n. plain_calling b (go n) o (p n)
plain_calling b (r.as_joined x sep go) o p = λ us. plain_calling b (go us) o (p us)
plain_calling b (r.as_same x y go) o p = λ c. plain_calling b (go c) o (p c)
plain_calling b (r.looks x go) o p = λ s. plain_calling b (go s) ((x, s) ∷ o) (p s)
plain_calling b (r.as_same_root x v go) o p = absurd p
plain_calling b (r.branches x go other) o p = absurd p
plain_calling b (r.touches t x k next) o p = absurd p

-- a built-in function's row ends by itself or in such a call, whatever rules a page has, and touches nothing; or it is that of a method of nodes

pub record IsOrdinary (f : Native) : Type 0 where
  pub calling : (n : ℕ) → IsCalling (n - 1) [] (row_of no_rules f n)
  pub silent : (n : ℕ) → NoTouches (row_of no_rules f n)
  pub any : (rules : Rules) (n : ℕ) → row_of rules f n ≡ row_of no_rules f n
  pub other : is_of_node f ≡ false

not_common : false ≡ true → ⊥
not_common e = cc

pub built_in_row : (f : Native) → is_common f ≡ true → IsOrdinary f ⊎ ((method : NodeMethod) × (of_method method ≡ f))
built_in_row r.call common = inl (record { calling = call_calling; silent = call_silent; any = λ rules n. refl; other = refl })
built_in_row r.apply common = inl (record { calling = apply_calling; silent = apply_silent; any = λ rules n. refl; other = refl })
built_in_row r.get_tag_name common = inr (m.GetTagName, refl)
built_in_row r.get_parent_node common = inr (m.GetParentNode, refl)
built_in_row r.get_child_nodes common = inr (m.GetChildNodes, refl)
built_in_row r.get_element_by_id common = inr (m.GetElementById, refl)
built_in_row r.get_attribute common = inr (m.GetAttribute, refl)
built_in_row r.set_attribute common = inr (m.SetAttribute, refl)
built_in_row r.get_text common = inr (m.GetText, refl)
built_in_row r.set_text common = inr (m.SetText, refl)
built_in_row r.create_element common = inr (m.CreateElement, refl)
built_in_row r.create_text_node common = inr (m.CreateTextNode, refl)
built_in_row r.append_child common = inr (m.AppendChild, refl)
built_in_row r.remove_child common = inr (m.RemoveChild, refl)
built_in_row r.on common = inr (m.On, refl)
built_in_row (r.service k) common = absurd (not_common common)
built_in_row r.say common = absurd (not_common common)
built_in_row r.later common = absurd (not_common common)
built_in_row r.get common = absurd (not_common common)
built_in_row r.set common = absurd (not_common common)
built_in_row r.forward_get common = absurd (not_common common)
built_in_row r.forward_set common = absurd (not_common common)
built_in_row f common = inl (record { calling = λ n. plain_calling (n - 1) (row_of no_rules f n) [] (built_in_plain no_rules f tt n); silent = λ n. silent_touches (row_of no_rules f n) (built_in_plain no_rules f tt n); any = λ rules n. refl; other = refl })
