-- What a change of the store leaves of the objects that stand for nodes, and of functions of texts.
use Rattle.std.specs.Prelude.{◌≡◌, ℕ, Bool, true, false, List, Option, Some}
use Rattle.es3_objects.specs.declared.value.Value.{Value}
use Rattle.es3_objects.specs.declared.value.Value.TheVariants as v
use Rattle.es3_objects.specs.declared.value.Attrs.{Attrs}
use Rattle.es3_objects.specs.declared.value.Class.{Class}
use Rattle.es3_objects.specs.declared.value.Class.TheVariants as class
use Rattle.es3_objects.specs.declared.value.FuncKind.{FuncKind}
use Rattle.es3_objects.specs.declared.value.FuncKind.TheVariants as kind
use Rattle.es3_objects.specs.declared.value.Tag.{Tag}
use Rattle.es3_objects.specs.declared.value.Tag.TheVariants as tag
use Rattle.es3_objects.specs.declared.value.Proto.{Proto}
use Rattle.es3_objects.specs.Reading.{kind_of}
use Rattle.es3_heap.specs.Objects.{Object, Objects, object_at, tag_of, class_of, callable_of, with_object}
use Rattle.es3_heap.specs.Properties.{put, define, delete}
use Rattle.es3_heap.specs.Items.{set_items, append_items, without_last}
use Rattle.es3_heap.specs.Making.{made, made_function, array_object, error_object, named}

abbrev pub tag_at : Objects → ℕ → Tag
tag_at h o = tag_of (object_at h o)

abbrev pub class_at : Objects → ℕ → Class
class_at h o = class_of (object_at h o)

-- whether a call runs the code of a text
abbrev pub is_code : Option FuncKind → Bool
is_code (Some (kind.Code n)) = true
is_code k = false

abbrev pub runs_code : Option Object → Bool
runs_code x = is_code (kind_of (callable_of x))

-- a value is a function of a text
abbrev pub IsOfText : Objects → Value → Type 0
IsOfText h (v.Obj o) = runs_code (object_at h o) ≡ true
IsOfText h x = ⊥

-- an object, or none, before and after: one of class Node is one, with its name, and was one; a function of a text still is
pub record Alike (before after : Option Object) : Type 0 where
  pub name : (r k : ℕ) → tag_of before ≡ tag.Facet r k → tag_of after ≡ tag.Facet r k
  pub no_name : (r k : ℕ) → tag_of after ≡ tag.Facet r k → tag_of before ≡ tag.Facet r k
  pub node : class_of before ≡ class.Node → class_of after ≡ class.Node
  pub no_node : class_of after ≡ class.Node → class_of before ≡ class.Node
  pub code : runs_code before ≡ true → runs_code after ≡ true

abbrev pub Keeps : Objects → Objects → Type 0
Keeps h g = (o : ℕ) → Alike (object_at h o) (object_at g o)

-- each call of the store keeps this that makes no object of class Node and gives none the name of a node
pub record StoreKeeps : Type 0 where
  pub put : (h : Objects) (o : ℕ) (k : List ℕ) (x : Value) → Keeps h (put h o k x)
  pub define : (h : Objects) (o : ℕ) (k : List ℕ) (x : Value) (a : Attrs) → Keeps h (define h o k x a)
  pub delete : (h : Objects) (o : ℕ) (k : List ℕ) → Keeps h (delete h o k)
  pub set_items : (h : Objects) (o : ℕ) (xs : List Value) → Keeps h (set_items h o xs)
  pub append_items : (h : Objects) (o : ℕ) (xs : List Value) → Keeps h (append_items h o xs)
  pub without_last : (h : Objects) (o : ℕ) → Keeps h (without_last h o)
  pub made : (h : Objects) (c : Class) (p : Option ℕ) → (c ≡ class.Node → ⊥) → Keeps h (made c p h)
  pub made_function : (h : Objects) (k : FuncKind) (m : ℕ) → Keeps h (made_function k m h)
  pub made_array : (h : Objects) (xs : List Value) → Keeps h (with_object h (array_object xs))
  pub made_error : (h : Objects) (p : Proto) (name message : List ℕ) → Keeps h (with_object h (error_object p name message))
  pub named : (h : Objects) (o m : ℕ) → Keeps h (named h o m)
