-- What the tables make is what modules and cells begin with.
use Rattle.std.proofs.Common.{◌≡◌, ℕ, ◌+◌, true, List, [], ◌∷◌, ◌++◌, length, Some, None, refl, sym, ap, ◌∙◌, subst, append_assoc, append-nil}
use Rattle.std.specs.Prelude.{codes}
use Rattle.std.proofs.lemmas.List.{length-append}
use Rattle.es3_objects.specs.declared.value.Value.{Value}
use Rattle.es3_objects.specs.declared.value.Value.TheVariants.{Obj, Bool}
use Rattle.es3_objects.specs.declared.value.Class.TheVariants as class
use Rattle.es3_objects.specs.declared.value.FuncKind.TheVariants.{Simple}
use Rattle.es3_objects.specs.declared.value.Tag.{Tag}
use Rattle.es3_objects.specs.declared.value.Tag.TheVariants as tag
use Rattle.es3_heap.specs.Objects.{Property, Object, Objects, with_object, plain_attrs, hidden_attrs}
use Rattle.es3_heap.specs.Properties.{define}
use Rattle.es3_heap.specs.Making.{made, made_function, tagged}
use Rattle.heap_rows.specs.Marks.{marked, frozen_mark}
use Rattle.heap_rows.specs.Opening.{named_function, cell_function, with_cell, fixed_values}
use Rattle.heap_rows.proofs.Made.{define_last, tagged_last}
use Rattle.freeze_marks.specs.Records.{with_pairs, AreNew}
use Rattle.freeze_marks.proofs.Fresh.{new_record-is}
use Rattle.module_loader.specs.BuiltIns.{with_frozen}
use Rattle.module_loader.specs.Turns.{say_place, with_imports_of}

-- a function gets its name
pub own_function_is : (number : ℕ) (t : Tag) (h : Objects) → tagged (made_function (Simple number) 0 h) (length h.list) t ≡ with_object h (named_function (Simple number) t)
own_function_is number t h = tagged_last h.counts h.list class.Function (Some 1) (Some (record { kind = Simple number; maker = 0 })) [] t

-- the record of a cell

abbrev pub cell_entries : ℕ → ℕ → List (List ℕ × ℕ)
cell_entries get set = (codes "get", get) ∷ (codes "set", set) ∷ []

abbrev one_entry : ℕ → List Property
one_entry get = record { key = codes "get"; value = Obj get; attrs = plain_attrs } ∷ []

abbrev two_entries : ℕ → ℕ → List Property
two_entries get set = record { key = codes "get"; value = Obj get; attrs = plain_attrs } ∷ record { key = codes "set"; value = Obj set; attrs = plain_attrs } ∷ []

record_is : (get set : ℕ) (t : Tag) (h : Objects) → with_frozen (cell_entries get set) t h
    ≡ with_object h (record { class = class.Object; proto = Some 0; callable = None; tag = t; props = two_entries get set ++ record { key = frozen_mark; value = Bool true; attrs = hidden_attrs } ∷ [] })
record_is get set t h =
    let o = length h.list in
    ap (λ g. tagged (marked (define g o (codes "set") (Obj set) plain_attrs) o frozen_mark) o t) (define_last h.counts h.list [] (codes "get") (Obj get) plain_attrs)
    ∙ ap (λ g. tagged (marked g o frozen_mark) o t) (define_last h.counts h.list (one_entry get) (codes "set") (Obj set) plain_attrs)
    ∙ ap (λ g. tagged g o t) (define_last h.counts h.list (two_entries get set) frozen_mark (Bool true) hidden_attrs)
    ∙ tagged_last h.counts h.list class.Object (Some 0) None (two_entries get set ++ record { key = frozen_mark; value = Bool true; attrs = hidden_attrs } ∷ []) t

one_more : (h : Objects) (o : Object) → length (with_object h o).list ≡ length h.list + 1
one_more h o = length-append h.list (o ∷ [])

abbrev cell_object : ℕ → ℕ → ℕ → Object
cell_object cell get set = record { class = class.Object; proto = Some 0; callable = None; tag = tag.Cell cell 0; props = two_entries get set ++ record { key = frozen_mark; value = Bool true; attrs = hidden_attrs } ∷ [] }

abbrev functions_of : ℕ → Objects → Objects
functions_of cell h = with_object (with_object h (cell_function cell 1)) (cell_function cell 2)

-- a cell, step by step
pub cell_is : (cell get set : ℕ) (h a b : Objects) → get ≡ length h.list → a ≡ with_object h (cell_function cell 1) → set ≡ length a.list → b ≡ with_object a (cell_function cell 2)
    → with_frozen (cell_entries get set) (tag.Cell cell 0) b ≡ with_cell cell h
cell_is cell get set h a b first one second two =
    record_is get set (tag.Cell cell 0) b
    ∙ ap (λ g. with_object g (cell_object cell get set)) (two ∙ ap (λ g. with_object g (cell_function cell 2)) one)
    ∙ ap (λ n. with_object (functions_of cell h) (cell_object cell get n)) (second ∙ ap (λ g. length g.list) one ∙ one_more h (cell_function cell 1))
    ∙ ap (λ n. with_object (functions_of cell h) (cell_object cell n (length h.list + 1))) first

-- what a module may import

fixed_new : (say : ℕ) → AreNew [] (fixed_values say)
fixed_new say = (refl, (refl, (refl, (refl, (refl, (refl, (refl, (refl, (refl, (refl, (refl, tt)))))))))))

both_new : (before ps qs : List (List ℕ × Value)) → AreNew before ps → AreNew (before ++ ps) qs → AreNew before (ps ++ qs)
both_new before [] qs ps_new qs_new = subst (λ l. AreNew l qs) (append-nil before) qs_new
both_new before (p ∷ ps) qs ps_new qs_new = (ps_new.0, both_new (before ++ p ∷ []) ps qs ps_new.1 (subst (λ l. AreNew l qs) (sym (append_assoc before (p ∷ []) ps)) qs_new))

pub imports_are : (m : ℕ) (granted values : List (List ℕ × Value)) (h : Objects) → AreNew (fixed_values (say_place m)) granted → values ≡ fixed_values (say_place m) ++ granted
    → with_pairs values (length h.list) (made class.Object (Some 0) h) ≡ with_imports_of m granted h
imports_are m granted values h new is =
    ap (λ l. with_pairs l (length h.list) (made class.Object (Some 0) h)) is
    ∙ new_record-is (fixed_values (say_place m) ++ granted) h (both_new [] (fixed_values (say_place m)) granted (fixed_new (say_place m)) new)
