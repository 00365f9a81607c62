-- How the built-in functions of a page and the two records of them are made, by tables: of the kinds of functions, and for each record of names and places.
use Rattle.std.specs.Prelude.{ℕ, List, [], ◌∷◌, Some, length, map}
use Rattle.es3_objects.specs.declared.value.Value.TheVariants.{Obj}
use Rattle.es3_objects.specs.declared.value.Class.TheVariants as class
use Rattle.es3_objects.specs.declared.value.FuncKind.{FuncKind}
use Rattle.es3_objects.specs.declared.value.FuncKind.TheVariants as kind
use Rattle.es3_objects.specs.declared.value.Tag.{Tag}
use Rattle.es3_objects.specs.declared.value.Tag.TheVariants as tag
use Rattle.es3_heap.specs.Objects.{Objects, plain_attrs}
use Rattle.es3_heap.specs.Properties.{define}
use Rattle.es3_heap.specs.Making.{made, made_function, tagged}
use Rattle.heap_rows.specs.Marks.{marked, frozen_mark}
use Rattle.module_loader.specs.declared.built_ins.TheConstants.{CAJITA_FUNCTIONS, MATH_FUNCTIONS, FUNCTIONS}

-- the number of what a call runs
abbrev pub number_in : FuncKind → ℕ
number_in (kind.Code n) = n
number_in (kind.Simple n) = n
number_in (kind.Constructor n) = n
number_in (kind.Exophoric n wanted) = n

-- a built-in function, which bears its number
abbrev pub with_function : FuncKind → Objects → Objects
with_function k h = tagged (made_function k 0 h) (length h.list) (tag.Built (number_in k))

abbrev pub with_functions : List FuncKind → Objects → Objects
with_functions [] h = h
with_functions (k ∷ ks) h = with_functions ks (with_function k h)

-- a record's functions, each by its name and its place
abbrev pub with_entries : List (List ℕ × ℕ) → ℕ → Objects → Objects
with_entries [] o h = h
with_entries ((k, at) ∷ rest) o h = with_entries rest o (define h o k (Obj at) plain_attrs)

-- a frozen record of functions, which has a name
abbrev pub with_frozen : List (List ℕ × ℕ) → Tag → Objects → Objects
with_frozen entries t h =
    let o = length h.list in
    tagged (marked (with_entries entries o (made class.Object (Some 0) h)) o frozen_mark) o t

unfoldable pub with_built_ins : Objects → Objects
with_built_ins h = with_functions FUNCTIONS (with_frozen (map (λ f. (f.0.now, f.1)) MATH_FUNCTIONS) (tag.Built 1) (with_frozen (map (λ f. (f.0.now, f.1)) CAJITA_FUNCTIONS) (tag.Built 0) h))
