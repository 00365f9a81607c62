-- Built-in functions that want no receiver: what their rows come to doesn't go by the value in its place.
use Rattle.std.proofs.Common.{◌≡◌, ℕ, zero, suc, ◌+◌, ◌-◌, Bool, true, false, List, [], ◌∷◌, ◌++◌, length, Option, Some, None, Result, Ok, Err, cond, refl, sym, ap, ◌∙◌, arith}
use Rattle.std.specs.Prelude.{ℤ, pos, nat_lt, nat_eq, int_lt, map}
use Rattle.plans.specs.Plans.{Fault}
use Rattle.es3_objects.specs.declared.value.Class.{Class}
use Rattle.es3_objects.specs.declared.value.Class.TheVariants as class
use Rattle.es3_objects.specs.declared.value.FuncKind.TheVariants as kind
use Rattle.es3_objects.specs.declared.value.Value.{Value}
use Rattle.es3_objects.specs.declared.value.Value.TheVariants as v
use Rattle.es3_heap.specs.Objects.{Callable, Objects}
use Rattle.es3_heap.specs.Objects as heap
use Rattle.es3_heap.specs.Making.{array_object}
use Rattle.es3_convert.specs.Conversions.{text_of}
use Rattle.es3_convert.specs.Numbers.{number_of}
use Rattle.rows.specs.Rows as r
use Rattle.rows.specs.Rows.{Handle, Sight, Ending, Row, Native, handles, keyed_handles}
use Rattle.rows.specs.Arguments as args
use Rattle.rows.specs.Core as core
use Rattle.rows.specs.Public.{pub_keys}
use Rattle.rows.specs.Names.{sort_of, is_exophoric}
use Rattle.rows.specs.Nodes.{Rules}
use Rattle.rows.specs.Table.{row_of}
use Rattle.es3_language.specs.Natives.{value_reply}
use Rattle.heap_rows.specs.Marks.{freeze}
use Rattle.heap_rows.specs.Natives.{is_common}
use Rattle.heap_rows.specs.Doing as es3

-- handles of values behind the first

abbrev IsBehind : Handle → Type 0
IsBehind (r.held zero) = ⊥
IsBehind (r.held (suc n)) = Unit {0}
IsBehind (r.method_of x f) = IsBehind x
IsBehind x = Unit {0}

abbrev AreBehind : List Handle → Type 0
AreBehind [] = Unit {0}
AreBehind (x ∷ xs) = IsBehind x × AreBehind xs

abbrev PairsBehind : List (List ℕ × Handle) → Type 0
PairsBehind [] = Unit {0}
PairsBehind ((k, x) ∷ ps) = IsBehind x × PairsBehind ps

abbrev SightBehind : Sight → Type 0
SightBehind (r.a_record frozen ps) = PairsBehind ps
SightBehind (r.an_array frozen xs) = AreBehind xs
SightBehind s = Unit {0}

abbrev EndBehind : Ending → Type 0
EndBehind (r.answers x) = IsBehind x
EndBehind (r.throws message) = Unit {0}
EndBehind (r.faults f) = Unit {0}
EndBehind (r.makes_array frozen xs) = AreBehind xs
EndBehind (r.copies_record frozen x) = IsBehind x
EndBehind (r.makes_error maker message) = Unit {0}
EndBehind (r.freezes x) = IsBehind x
EndBehind e = ⊥

-- rows that use such handles alone
abbrev pub RowBehind : Row → Type 0
RowBehind (r.ends e) = EndBehind e
RowBehind (r.as_text x go) = IsBehind x × ((us : List ℕ) → RowBehind (go us))
RowBehind (r.as_number x go) = IsBehind x × ((n : ℤ) → RowBehind (go n))
RowBehind (r.looks x go) = IsBehind x × ((s : Sight) → SightBehind s → RowBehind (go s))
RowBehind q = ⊥

-- what is seen of a value has handles of values behind those that are there

handles_behind : {A : Type 0} (n : ℕ) (xs : List A) → AreBehind (handles (suc n) xs)
handles_behind n [] = tt
handles_behind n (x ∷ xs) = let e : suc n + 1 ≡ suc (n + 1) = omega arith in (tt, rw e (handles_behind (n + 1) xs))

keyed_behind : {A : Type 0} (n : ℕ) (ps : List (List ℕ × A)) → PairsBehind (keyed_handles (suc n) ps)
keyed_behind n [] = tt
keyed_behind n ((k, x) ∷ ps) = let e : suc n + 1 ≡ suc (n + 1) = omega arith in (tt, rw e (keyed_behind (n + 1) ps))

sort_behind : (simple : Bool) (c : Option Callable) → SightBehind (es3.sort_seen simple c)
sort_behind simple None = tt
sort_behind simple (Some f) = elim f.kind as (λ k. SightBehind (es3.sort_seen simple (Some (record { kind = k; maker = f.maker })))) [
  | kind.Code n ↦ elim simple as (λ b. SightBehind (es3.sort_seen b (Some (record { kind = kind.Code n; maker = f.maker })))) [
    | true ↦ tt
    | false ↦ tt
  ]
  | kind.Simple n ↦ tt
  | kind.Constructor n ↦ tt
  | kind.Exophoric n w ↦ tt
]

object_behind : (n : ℕ) (h : Objects) (o : ℕ) (c : Class) → SightBehind (es3.see_object (suc n) h o c).sight
object_behind n h o class.Object = keyed_behind n _
object_behind n h o class.Array = handles_behind n _
object_behind n h o class.Function = sort_behind _ _
object_behind n h o class.Error = tt
object_behind n h o class.Node = tt

seen_behind : (n : ℕ) (h : Objects) (x : Value) → SightBehind (es3.see h (suc n) x).sight
seen_behind n h v.Undefined = tt
seen_behind n h v.Null = tt
seen_behind n h (v.Bool b) = tt
seen_behind n h (v.Num i) = tt
seen_behind n h (v.Text us) = tt
seen_behind n h (v.Obj o) = object_behind n h o (heap.class_of (heap.object_at h o))

-- the first value may be another one

module _ (fs : Native → ℕ) (by : ℕ) (a b : Value) where
  value_same : (x : Handle) (vs : List Value) → IsBehind x → es3.value_in fs (a ∷ vs) x ≡ es3.value_in fs (b ∷ vs) x
  value_same r.undefined vs p = refl
  value_same r.null vs p = refl
  value_same (r.truth t) vs p = refl
  value_same (r.number n) vs p = refl
  value_same (r.text us) vs p = refl
  value_same (r.method_of x f) vs p = ap (λ u. es3.method_in fs u f) (value_same x vs p)
  value_same (r.held zero) vs p = absurd p
  value_same (r.held (suc n)) vs p = refl

  values_same : (xs : List Handle) (vs : List Value) → AreBehind xs → map (es3.value_in fs (a ∷ vs)) xs ≡ map (es3.value_in fs (b ∷ vs)) xs
  values_same [] vs p = refl
  values_same (x ∷ xs) vs p = ap (λ u. u ∷ map (es3.value_in fs (a ∷ vs)) xs) (value_same x vs p.0) ∙ ap (λ l. es3.value_in fs (b ∷ vs) x ∷ l) (values_same xs vs p.1)

  end_same : (e : Ending) → EndBehind e → (vs : List Value) (h : Objects) (y : List es3.Told) → es3.finish fs by e (a ∷ vs) h y ≡ es3.finish fs by e (b ∷ vs) h y
  end_same (r.answers x) p vs h y = ap (λ u. es3.gives u h y) (value_same x vs p)
  end_same (r.throws message) p vs h y = refl
  end_same (r.faults f) p vs h y = refl
  end_same (r.makes_array frozen xs) p vs h y = ap (λ l. cond (nat_lt (length xs) r.most_items) (es3.makes value_reply by (es3.frozen_if frozen (array_object l)) h y) (es3.too_long h y)) (values_same xs vs p)
  end_same (r.copies_record frozen x) p vs h y = ap (λ u. es3.makes value_reply by (es3.frozen_if frozen (es3.record_object (es3.copied (es3.pairs_of h u)))) h y) (value_same x vs p)
  end_same (r.makes_error maker message) p vs h y = refl
  end_same (r.freezes x) p vs h y = ap (λ u. es3.gives u (es3.on_object u h (λ i. es3.of_either (heap.class_of (heap.object_at h i)) (freeze h i) h)) y) (value_same x vs p)
  end_same _ p vs h y = absurd p

  result_same : {A : Type 0} (o : Result A Fault) (h : Objects) (g : es3.Page) (y : List es3.Told) (go go' : A → es3.Came) → ((x : A) → go x ≡ go' x) → es3.with_result o h g y go ≡ es3.with_result o h g y go'
  result_same (Ok x) h g y go go' f = f x
  result_same (Err e) h g y go go' f = refl

  pub first_free : (q : Row) → RowBehind q → (vs : List Value) (h : Objects) (g : es3.Page) (y : List es3.Told) → es3.does fs by q (a ∷ vs) h g y ≡ es3.does fs by q (b ∷ vs) h g y
  first_free (r.ends e) p vs h g y = ap (λ d. let c : es3.Came = record { done = d; page = g } in c) (end_same e p vs h y)
  first_free (r.as_text x go) p vs h g y =
      ap (λ u. es3.with_result (text_of h u) h g y (λ us. es3.does fs by (go us) (a ∷ vs) h g y)) (value_same x vs p.0)
      ∙ result_same (text_of h (es3.value_in fs (b ∷ vs) x)) h g y _ _ (λ us. first_free (go us) (p.1 us) vs h g y)
  first_free (r.as_number x go) p vs h g y =
      ap (λ u. es3.with_result (number_of h u) h g y (λ n. es3.does fs by (go n) (a ∷ vs) h g y)) (value_same x vs p.0)
      ∙ result_same (number_of h (es3.value_in fs (b ∷ vs) x)) h g y _ _ (λ n. first_free (go n) (p.1 n) vs h g y)
  first_free (r.looks x go) p vs h g y =
      ap (λ u. es3.does fs by (go (es3.see h (length (a ∷ vs)) u).sight) ((a ∷ vs) ++ (es3.see h (length (a ∷ vs)) u).values) h g y) (value_same x vs p.0)
      ∙ (let seen = es3.see h (length (b ∷ vs)) (es3.value_in fs (b ∷ vs) x) in first_free (go seen.sight) (p.1 seen.sight (seen_behind (length vs) h (es3.value_in fs (b ∷ vs) x))) (vs ++ seen.values) h g y)
  first_free _ p vs h g y = absurd p

-- the rows of those functions

handle_if : (c : Bool) (x : Handle) → IsBehind x → IsBehind (cond c x r.undefined)
handle_if true x p = p
handle_if false x p = tt

argument_behind : (n : ℕ) → IsBehind (args.argument 0 n)
argument_behind n = handle_if (nat_lt 1 n) (r.held 1) tt

values_behind : (i n : ℕ) → AreBehind (args.values_from (suc i) n)
values_behind i zero = tt
values_behind i (suc n) = let e : suc i + 1 ≡ suc (i + 1) = omega arith in (tt, rw e (values_behind (i + 1) n))

row_if : (c : Bool) (x y : Row) → RowBehind x → RowBehind y → RowBehind (cond c x y)
row_if true x y p q = p
row_if false x y p q = q

texts_behind : (uss : List (List ℕ)) → AreBehind (map r.text uss)
texts_behind [] = tt
texts_behind (us ∷ uss) = (tt, texts_behind uss)

freeze_behind : (x : Handle) (s : Sight) → IsBehind x → EndBehind (core.freeze_end x s)
freeze_behind x (r.a_record frozen ps) p = p
freeze_behind x (r.an_array frozen xs) p = p
freeze_behind x s p = p

copy_behind : (closed : Bool) (x : Handle) (s : Sight) → IsBehind x → SightBehind s → EndBehind (core.copy_end closed x s)
copy_behind closed x (r.a_record frozen ps) p q = p
copy_behind closed x (r.an_array frozen xs) p q = q
copy_behind closed x s p q = tt

keys_behind : (o : Option (List (List ℕ))) → EndBehind (core.keys_end o)
keys_behind None = tt
keys_behind (Some ks) = texts_behind ks

numbers_behind : (xs : List Handle) (go : List ℤ → Row) → AreBehind xs → ((ns : List ℤ) → RowBehind (go ns)) → RowBehind (args.as_numbers xs go)
numbers_behind [] go p f = f []
numbers_behind (x ∷ xs) go p f = (p.0, λ n. numbers_behind xs (λ rest. go (n ∷ rest)) p.1 (λ rest. f (n ∷ rest)))

best_behind : (better : ℤ → ℤ → Bool) (ns : List ℤ) → EndBehind (core.best_end better ns)
best_behind better [] = tt
best_behind better (n ∷ ns) = tt

most_behind : (better : ℤ → ℤ → Bool) (n : ℕ) → RowBehind (core.best better n)
most_behind better n = numbers_behind (args.arguments n) (λ ns. r.ends (core.best_end better ns)) (values_behind 0 (n - 1)) (λ ns. best_behind better ns)

error_behind : (maker : r.Maker) (m : Handle) → IsBehind m → RowBehind (core.new_error maker m)
error_behind maker m p = (p, λ s q. by_sight s)
  where
    by_sight : (s : Sight) → RowBehind (args.unless_undefined (r.ends (r.makes_error maker [])) (r.as_text m (λ us. r.ends (r.makes_error maker us))) s)
    by_sight r.nothing = tt
    by_sight s = (p, λ us. tt)

not_common : false ≡ true → ⊥
not_common e = cc

-- a built-in function that wants no receiver
pub no_receiver : (rules : Rules) (f : Native) → is_common f ≡ true → is_exophoric (sort_of f) ≡ false → (n : ℕ) → RowBehind (row_of rules f n)
no_receiver rules r.freeze c e n = (argument_behind n, λ s q. freeze_behind (args.argument 0 n) s (argument_behind n))
no_receiver rules r.is_frozen c e n = (argument_behind n, λ s q. tt)
no_receiver rules r.copy c e n = (argument_behind n, λ s q. copy_behind false (args.argument 0 n) s (argument_behind n) q)
no_receiver rules r.snapshot c e n = (argument_behind n, λ s q. copy_behind true (args.argument 0 n) s (argument_behind n) q)
no_receiver rules r.is_array c e n = (argument_behind n, λ s q. tt)
no_receiver rules r.is_record c e n = (argument_behind n, λ s q. tt)
no_receiver rules r.keys c e n = (argument_behind n, λ s q. keys_behind (pub_keys s))
no_receiver rules r.abs c e n = (argument_behind n, λ i. tt)
no_receiver rules r.floor c e n = (argument_behind n, λ i. tt)
no_receiver rules r.ceil c e n = (argument_behind n, λ i. tt)
no_receiver rules r.round c e n = (argument_behind n, λ i. tt)
no_receiver rules r.max c e n = most_behind (λ a b. int_lt b a) n
no_receiver rules r.min c e n = most_behind int_lt n
no_receiver rules r.number_from c e n = row_if (nat_eq n 1) (r.ends (r.answers (r.number (pos 0)))) (core.its_number (args.argument 0 n)) tt (argument_behind n, λ i. tt)
no_receiver rules r.text_from c e n = row_if (nat_eq n 1) (r.ends (r.answers (r.text []))) (r.as_text (args.argument 0 n) (λ us. r.ends (r.answers (r.text us)))) tt (argument_behind n, λ us. tt)
no_receiver rules r.truth_from c e n = (argument_behind n, λ s q. tt)
no_receiver rules (r.makes maker) c e n = error_behind maker (args.argument 0 n) (argument_behind n)
no_receiver rules (r.service k) c e n = absurd (not_common c)
no_receiver rules r.say c e n = absurd (not_common c)
no_receiver rules r.later c e n = absurd (not_common c)
no_receiver rules r.get c e n = absurd (not_common c)
no_receiver rules r.set c e n = absurd (not_common c)
no_receiver rules r.forward_get c e n = absurd (not_common c)
no_receiver rules r.forward_set c e n = absurd (not_common c)
no_receiver rules f c e n = absurd (not_common (sym e))
