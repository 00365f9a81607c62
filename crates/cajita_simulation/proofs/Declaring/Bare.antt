-- Functions that entry has made, while they have no names: they stand for nothing, and await their names.
use Rattle.std.proofs.Common.{ℕ, suc, List, [], ◌∷◌, ◌++◌, length, sym, subst}
use Rattle.es3_heap.specs.Objects.{Objects, with_object}
use Rattle.es3_language.specs.Store.{Store, Code, with_code, new_function}
use Rattle.cajita_tree.specs.Tree as c
use Rattle.cajita_meaning.specs.World.{Object}
use Rattle.heap_rows.specs.Opening.{first, place_of}
use Rattle.row_simulation.specs.Correspond as rows
use Rattle.row_simulation.proofs.Row as row_laws
use Rattle.row_simulation.proofs.Added.{objects_with}
use Rattle.cajita_simulation.proofs.Heaps.Lists.{slice_get-push}
use Rattle.cajita_simulation.proofs.Heaps.Functions.{function_object, prototype_object, function_new}
use Rattle.cajita_simulation.proofs.Relation.{ObjectsAre}
use Rattle.cajita_simulation.proofs.Entering.{function_is_new, prototype_is_new, two_keep, two_no_node}
use Rattle.cajita_simulation.proofs.Declaring.Stores.{declared_code, all_codes, bare_heap, bare_store, length-made, first_there}
use Rattle.cajita_simulation.proofs.Declaring.Relation.{codes_kept}
use Rattle.cajita_simulation.proofs.Declaring.Awaiting.{AllAwait}

pub objects_bare : (fs : c.Tree c.funcs) (chain : List ℕ) (by : ℕ) (codes : List Code) (h : Objects) {objects : ℕ → List Object} {m : ℕ} → ObjectsAre first place_of objects h m → ObjectsAre first place_of objects (bare_heap fs chain by codes h) m
objects_bare c.no_funcs chain by codes h old = old
objects_bare (c.more_funcs f fs) chain by codes h {objects = objects} {m = m} old =
    let n = length (declared_code f chain).params in
    let a = function_object (length codes) n by (suc (length h.list)) in
    let b = prototype_object (length h.list) in
    objects_bare fs chain by (codes ++ declared_code f chain ∷ []) (new_function (length codes) n by h)
    (subst (λ g. ObjectsAre first place_of objects g m) (sym (function_new (length codes) n by h)) (objects_with objects (with_object h a) b (objects_with objects h a old (function_is_new (length codes) n by (suc (length h.list)))) (prototype_is_new (length h.list))))

pub keeps_bare : (fs : c.Tree c.funcs) (chain : List ℕ) (by : ℕ) (codes : List Code) (h : Objects) → rows.Keeps h (bare_heap fs chain by codes h)
keeps_bare c.no_funcs chain by codes h = row_laws.keeps_refl
keeps_bare (c.more_funcs f fs) chain by codes h =
    let n = length (declared_code f chain).params in
    let a = function_object (length codes) n by (suc (length h.list)) in
    let b = prototype_object (length h.list) in
    row_laws.keeps_trans (subst (λ g. rows.Keeps h g) (sym (function_new (length codes) n by h)) (two_keep h a b (function_is_new (length codes) n by (suc (length h.list))) (prototype_is_new (length h.list))))
    (keeps_bare fs chain by (codes ++ declared_code f chain ∷ []) (new_function (length codes) n by h))

pub no_node_bare : (fs : c.Tree c.funcs) (chain : List ℕ) (by : ℕ) (codes : List Code) (h : Objects) → rows.NoNewNode h (bare_heap fs chain by codes h)
no_node_bare c.no_funcs chain by codes h = row_laws.no_node_refl
no_node_bare (c.more_funcs f fs) chain by codes h =
    let n = length (declared_code f chain).params in
    let a = function_object (length codes) n by (suc (length h.list)) in
    let b = prototype_object (length h.list) in
    row_laws.no_node_trans (subst (λ g. rows.NoNewNode h g) (sym (function_new (length codes) n by h)) (two_no_node h a b (function_is_new (length codes) n by (suc (length h.list))) (prototype_is_new (length h.list))))
    (no_node_bare fs chain by (codes ++ declared_code f chain ∷ []) (new_function (length codes) n by h))

pub await_bare : (fs : c.Tree c.funcs) (chain : List ℕ) (by : ℕ) (s : Store) → AllAwait fs chain by (length s.heap.list) (all_codes fs chain s.codes) (bare_store fs chain by s).heap
await_bare c.no_funcs chain by s = tt
await_bare (c.more_funcs f fs) chain by s =
    let s1 = with_code (declared_code f chain) by s in (
      record {
        number = length s.codes;
        there = first_there f fs chain by s;
        code = codes_kept fs chain (s.codes ++ declared_code f chain ∷ []) (length s.codes) (declared_code f chain) (slice_get-push s.codes (declared_code f chain));
      },
      subst (λ l. AllAwait fs chain by l (all_codes fs chain s1.codes) (bare_store fs chain by s1).heap) (length-made (length s.codes) (length (declared_code f chain).params) by s.heap) (await_bare fs chain by s1),
    )
