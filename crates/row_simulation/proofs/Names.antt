-- Names, and the tags by which objects bear them.
use Rattle.std.proofs.Common.{◌≡◌, ℕ, zero, suc, List, [], ◌∷◌, Option, Some, None, cond, refl, sym, ap, ◌∙◌}
use Rattle.std.specs.Prelude.{nat_lt}
use Rattle.std.proofs.lemmas.Option.{none-some}
use Rattle.es3_objects.specs.declared.value.Tag.{Tag}
use Rattle.es3_objects.specs.declared.value.Tag.TheVariants as tag
use Rattle.es3_heap.specs.Objects as heap
use Rattle.es3_heap.specs.Objects.{Objects}
use Rattle.rows.specs.Rows as r
use Rattle.rows.specs.Names.{Tools, of_cajita, of_math, code_of}
use Rattle.cajita_meaning.specs.World.{Name, made_name, cell_name, own_name, built_name, tools_name, facet_name, forward_name, Object, name_code}
use Rattle.heap_rows.specs.Natives.{tag_of_code, tag_of_native}
use Rattle.row_simulation.specs.Correspond.{tag_of_name, IsNamed}

-- names that are among objects
abbrev pub IsAmong : Name → Type 0
IsAmong (forward_name m p c i) = ⊥
IsAmong n = Unit {0}

pub among : (objects : ℕ → List Object) (h : Objects) (n : Name) (o : heap.Object) → IsNamed objects h n o → IsAmong n
among objects h (forward_name m p c i) o is = absurd is
among objects h n o is = tt

-- the code of a name, from its tag

unfoldable pub code_of_tag : Tag → List ℕ
code_of_tag (tag.Made m n) = 0 ∷ m ∷ n ∷ []
code_of_tag (tag.Cell c i) = 1 ∷ c ∷ i ∷ []
code_of_tag (tag.Own m i) = 2 ∷ m ∷ i ∷ []
code_of_tag (tag.Built n) = cond (nat_lt n 2) (4 ∷ n ∷ []) (3 ∷ n ∷ [])
code_of_tag (tag.Service k) = 3 ∷ 58 ∷ k ∷ []
code_of_tag (tag.Facet root k) = 5 ∷ root ∷ k ∷ []
code_of_tag t = []

pub native_back : (f : r.Native) → code_of_tag (tag_of_native f) ≡ 3 ∷ code_of f
unfolding code_of_tag
native_back (r.makes r.error) = refl
native_back (r.service k) = refl
native_back f = refl

pub code_back : (n : Name) → IsAmong n → code_of_tag (tag_of_name n) ≡ name_code n
unfolding code_of_tag
code_back (built_name f) is = native_back f
code_back (tools_name of_cajita) is = refl
code_back (tools_name of_math) is = refl
code_back (forward_name m p c i) is = absurd is
code_back (cell_name c zero) is = refl
code_back n is = refl

-- and the tag from the code

tag_of : List ℕ → Tag
tag_of (zero ∷ m ∷ n ∷ []) = tag.Made m n
tag_of (suc zero ∷ c ∷ i ∷ []) = tag.Cell c i
tag_of (suc (suc zero) ∷ m ∷ i ∷ []) = tag.Own m i
tag_of (suc (suc (suc zero)) ∷ rest) = tag_of_code rest
tag_of (suc (suc (suc (suc zero))) ∷ n ∷ []) = tag.Built n
tag_of (suc (suc (suc (suc (suc zero)))) ∷ root ∷ k ∷ []) = tag.Facet root k
tag_of c = tag.None

tag_forth : (n : Name) → IsAmong n → tag_of (name_code n) ≡ tag_of_name n
unfolding tag_of
tag_forth (tools_name of_cajita) is = refl
tag_forth (tools_name of_math) is = refl
tag_forth (forward_name m p c i) is = absurd is
tag_forth (cell_name c zero) is = refl
tag_forth n is = refl

pub same_tag : (n k : Name) → IsAmong n → IsAmong k → name_code n ≡ name_code k → tag_of_name n ≡ tag_of_name k
same_tag n k a b e = sym (tag_forth n a) ∙ ap tag_of e ∙ tag_forth k b

pub same_code : (n k : Name) → IsAmong n → IsAmong k → tag_of_name n ≡ tag_of_name k → name_code n ≡ name_code k
same_code n k a b e = sym (code_back n a) ∙ ap code_of_tag e ∙ code_back k b

-- no name is none

pub native_there : (f : r.Native) → tag.None ≡ tag_of_native f → ⊥
unfolding code_of_tag
native_there f e = let x : [] ≡ 3 ∷ code_of f = ap code_of_tag e ∙ native_back f in cc

pub name_there : (n : Name) → tag.None ≡ tag_of_name n → ⊥
name_there (built_name f) e = native_there f e
name_there (tools_name of_cajita) e = cc
name_there (tools_name of_math) e = cc
name_there n e = cc

-- names of objects that may change, and those of nodes, are known by their tags

name_of_number : ℕ → Option Name
name_of_number zero = Some (tools_name of_cajita)
name_of_number (suc zero) = Some (tools_name of_math)
name_of_number n = None

pub name_at : Tag → Option Name
name_at (tag.Made m n) = Some (made_name m n)
name_at (tag.Cell c i) = Some (cell_name c i)
name_at (tag.Own m i) = Some (own_name m i)
name_at (tag.Facet root k) = Some (facet_name root k)
name_at (tag.Built n) = name_of_number n
name_at t = None

native_unknown : (f : r.Native) → name_at (tag_of_native f) ≡ None
unfolding name_at name_of_number
native_unknown (r.makes r.error) = refl
native_unknown (r.service k) = refl
native_unknown f = refl

some_name : (a b : Name) → (let q : Option Name = Some a in q) ≡ Some b → a ≡ b
some_name a b e = cc

name_back : (k n : Name) → name_at (tag_of_name k) ≡ Some n → k ≡ n
unfolding name_at name_of_number
name_back (built_name f) n e = absurd (none-some n (sym (native_unknown f) ∙ e))
name_back (tools_name of_cajita) n e = some_name _ n e
name_back (tools_name of_math) n e = some_name _ n e
name_back (forward_name m p c i) n e = absurd (none-some n e)
name_back k n e = some_name k n e

-- the other name of an object is the same one
pub known_name : (n k : Name) → name_at (tag_of_name n) ≡ Some n → tag_of_name k ≡ tag_of_name n → k ≡ n
known_name n k known e = name_back k n (ap name_at e ∙ known)

pub made_known : (m i : ℕ) → name_at (tag_of_name (made_name m i)) ≡ Some (made_name m i)
unfolding name_at
made_known m i = refl

pub own_known : (m i : ℕ) → name_at (tag_of_name (own_name m i)) ≡ Some (own_name m i)
unfolding name_at
own_known m i = refl

pub cell_known : (c i : ℕ) → name_at (tag_of_name (cell_name c i)) ≡ Some (cell_name c i)
unfolding name_at
cell_known c i = refl

pub tools_known : (t : Tools) → name_at (tag_of_name (tools_name t)) ≡ Some (tools_name t)
unfolding name_at name_of_number
tools_known of_cajita = refl
tools_known of_math = refl

pub facet_known : (root k : ℕ) → name_at (tag_of_name (facet_name root k)) ≡ Some (facet_name root k)
unfolding name_at
facet_known root k = refl
