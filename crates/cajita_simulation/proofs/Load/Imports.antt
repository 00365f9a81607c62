-- The statements that read what a module imports, each in turn: `var N=___.readImport(IMPORTS___,"N");`.
use Rattle.std.proofs.Common.{◌≡◌, ℕ, suc, ◌+◌, ◌*◌, true, false, List, [], ◌∷◌, ◌++◌, length, Option, Some, None, refl, sym, ap, ◌∙◌, subst, arith}
use Rattle.std.specs.Prelude.{codes, map, slice_get, slice_set, is_some}
use Rattle.std.proofs.Math.Seq.{set-append_seam}
use Rattle.plans.specs.Plans.{bind}
use Rattle.matching.specs.Sides.{Match}
use Rattle.matching.proofs.Rules.{right_enter}
use Rattle.es3_tree.specs.Tree as t
use Rattle.es3_objects.specs.declared.value.Value.TheVariants as es
use Rattle.es3_heap.specs.Objects.{Objects}
use Rattle.es3_heap.specs.Properties.{own, value_of}
use Rattle.es3_convert.specs.Conversions.{text_within, text_of}
use Rattle.es3_language.specs.Store as store
use Rattle.es3_language.specs.Store.{Store, name_value, with_name, with_heap, with_slot, renamed}
use Rattle.es3_language.specs.Arguments.{is_fixed}
use Rattle.es3_language.specs.References.{slot, resolve, reference, member, write}
use Rattle.es3_language.specs.Meaning as Target
use Rattle.rows.specs.Nodes.{Rules}
use Rattle.cajita_rewrite.specs.Rewrite.{runtime_name, imports_name, pair, import_stmts}
use Rattle.cajita_meaning.specs.Direct.{Item}
use Rattle.heap_rows.specs.Opening.{runtime_id}
use Rattle.page_natives.specs.Natives.{Kept, page_table}
use Rattle.cajita_simulation.specs.Guest.{is_among, GuestName}
use Rattle.cajita_simulation.proofs.Doing as Source
use Rattle.cajita_simulation.proofs.Heaps.Lists.{slice_get-push}
use Rattle.cajita_simulation.proofs.Heaps.Names.{name_value-with_name-other}
use Rattle.cajita_simulation.proofs.Heaps.Opened.{IsOpened}
use Rattle.cajita_simulation.proofs.Heaps.Guards.{read_import-guard, guard_call}
use Rattle.cajita_simulation.proofs.Heaps.Silent.{read_import-silent}
use Rattle.cajita_simulation.proofs.Relation.{Turn, EsValue, SharedAre}
use Rattle.cajita_simulation.proofs.Shared.{unshared}
use Rattle.cajita_simulation.proofs.Laws.{Cont', sides}
use Rattle.cajita_simulation.proofs.Slots.{slot_plan}
use Rattle.cajita_simulation.proofs.Entering.{names_new}
use Rattle.cajita_simulation.proofs.Forms.Var.{name_written}
use Rattle.cajita_simulation.proofs.Load.Bound.{imported}

-- a name of the last scope is written there
scope_written : (owner : store.Owner) (names : store.Names) (s : Store) (x : List ℕ) (v : EsValue) → with_slot (length s.scopes) x v (store.with_scope owner names s) ≡ store.with_scope owner (with_name x v names) s
scope_written owner names s x v =
    let scope : store.Scope = record { owner = owner; names = names } in
    let at : slice_get (s.scopes ++ scope ∷ []) (length s.scopes) ≡ Some scope = slice_get-push s.scopes scope in
    ap (λ o. let q : Store = record s { scopes = slice_set (s.scopes ++ scope ∷ []) (length s.scopes) (renamed o (with_name x v (store.scope_at o))) } in q) at
    ∙ ap (λ l. let q : Store = record s { scopes = l } in q) (set-append_seam s.scopes scope [] (record { owner = owner; names = with_name x v names }))

-- what is there where imports are read: the store, the module's function's scope behind its others, and the two names of its parameters
pub record Reads (object : ℕ) (owner : store.Owner) (names : store.Names) (s : Store) : Type 0 where
  pub is : IsOpened s.heap
  pub free : is_fixed (Some (record { owner = owner; names = names })) ≡ false
  pub before : Objects
  pub shared : SharedAre before (length s.scopes) s.shared
  pub runtime : name_value runtime_name names ≡ Some (es.Obj runtime_id)
  pub imports : name_value imports_name names ≡ Some (es.Obj object)

-- an own property is read, whose key is a text
read_is : (h : Objects) (x : List ℕ) → text_of h (es.Text x) ≡ Rattle.std.specs.Prelude.Ok x
unfolding text_within
read_is h x = refl

read_plan : (object by calls this : ℕ) (x : List ℕ) (chain : List ℕ) (s : Store) (y : Kept) → let env : Target.Env = record { chain = chain; calls = calls; by = by; this = this } in Target.task_plan page_table (Target.native_call 65 (es.Obj runtime_id) (es.Obj object ∷ es.Text x ∷ []) env) s y ≡ Target.give (value_of (own s.heap object x)) s
unfolding text_within
read_plan object by calls this x chain s y = refl

module _ (rules : Rules) (turn : Turn) (object by calls this : ℕ) (owner : store.Owner) (s : Store) where
  abbrev env : Target.Env
  env = record { chain = length s.scopes ∷ []; calls = calls; by = by; this = this }

  -- a name of the last scope is found there
  found : (names : store.Names) (x : List ℕ) (v : EsValue) → name_value x names ≡ Some v → resolve env.chain (store.with_scope owner names s) x ≡ slot (length s.scopes) x
  found names x v there = rw (names_new owner names s, there) refl

  parameter_plan : (names : store.Names) (x : List ℕ) (v : EsValue) → Target.is_arguments x ≡ false → name_value x names ≡ Some v → Target.name_value_plan x env (store.with_scope owner names s) ≡ Target.give v (store.with_scope owner names s)
  parameter_plan names x v own there = slot_plan x env (store.with_scope owner names s) (length s.scopes) v own (found names x v there) (ap (name_value x) (names_new owner names s) ∙ there)

  read_one : {d : ℕ} (names : store.Names) (x : List ℕ) (u : EsValue) (rest : t.Tree t.stmts) {p : Source.Plan} {z : List Item} {n : ℕ} {y : Kept} {m : ℕ} (end' : Cont') (next' : Cont') → Reads object owner names s → GuestName x → name_value x names ≡ Some u
      → Match (sides rules turn) d p z n (bind (Target.list true rest None env (store.with_scope owner (with_name x (value_of (own s.heap object x)) names) s) end') next') y (suc (suc (suc (suc (suc (suc (suc m)))))))
      → Match (sides rules turn) d p z n (bind (Target.list true (import_stmts (x ∷ []) rest) None env (store.with_scope owner names s) end') next') y m
  read_one {d = d} names x u rest {p = p} {z = z} {n = n} {y = y} {m = m} end' next' r guest there f =
      let S = store.with_scope owner names s in
      let v = value_of (own s.heap object x) in
      let args = pair (t.name imports_name) (t.text x) in
      let after : Cont' = λ e s1. bind (Target.list_rest true rest None env end' e s1) next' in
      let wrote : Cont' = λ e s1. bind (Target.on_value_of (λ q s2. Target.var_items t.no_items env (write (reference env.chain S x) q s2)) e s1) after in
      right_enter (right_enter (right_enter (right_enter
      (subst (λ o. Match (sides rules turn) d p z n (bind o (λ e s1. bind (Target.on_value_of (Target.dot_target (codes "readImport")) e s1) (λ e1 s2. bind (Target.on_target_of (Target.after_callee args env) e1 s2) wrote))) y (suc (suc (suc (suc m))))) (sym (parameter_plan names runtime_name (es.Obj runtime_id) refl r.runtime))
      (right_enter
      (subst (λ o. Match (sides rules turn) d p z n (bind o (λ e s1. bind (Target.on_value_of (Target.after_argument (Target.called (member (es.Obj runtime_id) (codes "readImport"))) [] (t.more_exprs (t.text x) t.no_exprs) env) e s1) wrote)) y (suc (suc (suc (suc (suc m)))))) (sym (parameter_plan names imports_name (es.Obj object) refl r.imports))
      (right_enter
      (subst (λ o. Match (sides rules turn) d p z n (bind o wrote) y (suc (suc (suc (suc (suc (suc m))))))) (sym (guard_call (codes "readImport") 65 read_import-guard (es.Obj object ∷ es.Text x ∷ []) env S r.is))
      (right_enter
      (subst (λ o. Match (sides rules turn) d p z n (bind (Target.task_plan page_table (Target.native_call 65 (es.Obj runtime_id) (es.Obj object ∷ es.Text x ∷ []) env) S y) wrote) o (suc (suc (suc (suc (suc (suc (suc m)))))))) (sym (read_import-silent by (es.Obj runtime_id) (es.Obj object ∷ es.Text x ∷ []) S.heap y))
      (subst (λ o. Match (sides rules turn) d p z n (bind o wrote) y (suc (suc (suc (suc (suc (suc (suc m)))))))) (sym (read_plan object by calls this x env.chain S y))
      (subst (λ o. Match (sides rules turn) d p z n (bind (Target.list true rest None env o end') next') y (suc (suc (suc (suc (suc (suc (suc m)))))))) (sym (name_written env.chain S S x (length s.scopes) v guest (found names x u there) (ap is_fixed (slice_get-push s.scopes (record { owner = owner; names = names })) ∙ r.free) ∙ ap (λ (h : Objects). let q : Store = with_heap S h in with_slot (length s.scopes) x v q) (unshared s.shared r.before (length s.scopes) (length s.scopes) x v s.heap (omega arith) r.shared) ∙ scope_written owner names s x v))
      f))))))))))))

  -- the statements one after another
  pub read_all : {d : ℕ} (xs : List (List ℕ)) (names : store.Names) (rest : t.Tree t.stmts) {p : Source.Plan} {z : List Item} {n : ℕ} {y : Kept} {m : ℕ} (end' : Cont') (next' : Cont') → Reads object owner names s → ((x : List ℕ) → is_among xs x ≡ true → GuestName x) → ((x : List ℕ) → is_among xs x ≡ true → is_some (name_value x names) ≡ true)
      → ((m' : ℕ) → m' ≡ m + 7 * length xs → Match (sides rules turn) d p z n (bind (Target.list true rest None env (store.with_scope owner (imported xs (map (λ k. value_of (own s.heap object k)) xs) names) s) end') next') y m')
      → Match (sides rules turn) d p z n (bind (Target.list true (import_stmts xs rest) None env (store.with_scope owner names s) end') next') y m
  read_all [] names rest end' next' r guests bound f = f _ (omega arith)
  read_all (x ∷ xs) names rest {m = m} end' next' r guests bound f =
      let v = value_of (own s.heap object x) in
      let first : is_among (x ∷ xs) x ≡ true = ap (λ b. Rattle.std.specs.Prelude.◌||◌ b (is_among xs x)) (Rattle.es3_objects.proofs.Keys.same_key-refl x) in
      let guest = guests x first in
      let u = there (name_value x names) refl (bound x first) in
      read_one names x u.0 (import_stmts xs rest) end' next' r guest u.1
      (read_all xs (with_name x v names) rest end' next' (record {
        is = r.is;
        free = r.free;
        before = r.before;
        shared = r.shared;
        runtime = name_value-with_name-other x runtime_name v names (hidden_apart runtime_name x refl guest.open_name) ∙ r.runtime;
        imports = name_value-with_name-other x imports_name v names (hidden_apart imports_name x refl guest.open_name) ∙ r.imports;
      }) (λ y is. guests y (more y is)) (λ y is. Rattle.cajita_simulation.proofs.Load.Bound.bound_still y x v names (bound y (more y is)))
      (λ m' at. f m' (omega (arith, at))))
    where
      there : (o : Option EsValue) → name_value x names ≡ o → is_some o ≡ true → (e : EsValue) × (name_value x names ≡ Some e)
      there None is b = absurd cc
      there (Some e) is b = (e, is)

      more : (y : List ℕ) → is_among xs y ≡ true → is_among (x ∷ xs) y ≡ true
      more y is = elim (same_units' y x) as (λ b. Rattle.std.specs.Prelude.◌||◌ b (is_among xs y) ≡ true) [
        | true ↦ refl
        | false ↦ is
      ]
        where
          same_units' : List ℕ → List ℕ → Rattle.std.specs.Prelude.Bool
          same_units' a b = Rattle.caja_units.specs.Units.same_units a b

      hidden_apart : (y z : List ℕ) → Rattle.caja_units.specs.Units.is_hidden y ≡ true → Rattle.caja_units.specs.Units.is_hidden z ≡ false → Rattle.caja_units.specs.Units.same_units y z ≡ false
      hidden_apart y z hidden shown =
          let cases = elim (Rattle.caja_units.specs.Units.same_units y z) as (λ b. Rattle.caja_units.specs.Units.same_units y z ≡ b → b ≡ false) [
            | true ↦ λ is. cc (sym hidden ∙ ap Rattle.caja_units.specs.Units.is_hidden (Rattle.std.specs.Cmp.Lexicographic.same_text y z (sym is)) ∙ shown)
            | false ↦ λ is. refl
          ] in cases refl
