-- Where the load of a module begins in a page: the object of what it may import is there.
use Rattle.std.proofs.Common.{◌≡◌, ℕ, ◌+◌, ◌*◌, ◌<◌, true, false, List, [], ◌∷◌, ◌++◌, length, None, refl, sym, ap, ◌∙◌, subst, arith}
use Rattle.std.specs.Prelude.{map}
use Rattle.std.proofs.lemmas.List.{length-append, length-set, get_or-set_same}
use Rattle.caja_units.specs.Units.{is_hidden}
use Rattle.es3_heap.specs.Objects.{Objects, with_object}
use Rattle.es3_heap.specs.Properties.{find, own, value_of}
use Rattle.es3_language.specs.Store.{Store}
use Rattle.doc_nodes.specs.Rows.{Doc}
use Rattle.rows.specs.Nodes.{Rules}
use Rattle.cajita_meaning.specs.World.{Pairs, World, value_at}
use Rattle.cajita_meaning.specs.Doing.{or_nothing}
use Rattle.cajita_meaning.specs.Imports.{fixed_imports, imports_among}
use Rattle.cajita_meaning.specs.Direct.{Item}
use Rattle.heap_rows.specs.Doing.{copied, record_object}
use Rattle.heap_rows.specs.Marks.{read_mark, set_mark}
use Rattle.heap_rows.specs.Opening.{first, fixed_values}
use Rattle.page_natives.specs.Natives.{Kept, imports_of, page_of}
use Rattle.module_loader.specs.Turns.{say_place}
use Rattle.row_simulation.specs.Correspond.{PairsAre, Keeps}
use Rattle.row_simulation.proofs.Relation.{val_keep}
use Rattle.row_simulation.proofs.Changes.{IsNew, get-push}
use Rattle.row_simulation.proofs.Added.{awaiting_keeps, awaiting_no_node, objects_with}
use Rattle.row_simulation.proofs.Row.{pages_keep}
use Rattle.row_simulation.proofs.Keys.{apart_too, hidden_read, hidden_set}
use Rattle.row_simulation.proofs.Begun.{proto_few}
use Rattle.row_simulation.proofs.Imported.{pair_found, FixedThere, fixed_there_keep, fixed_are}
use Rattle.cajita_simulation.specs.Places.{PagePlaces, GrantsAre, load_kept, LoadBegins}
use Rattle.cajita_simulation.specs.Related.{BetweenTurns}
use Rattle.cajita_simulation.proofs.Relation.{EsValue, Vals, Tags, closed_refl}
use Rattle.cajita_simulation.proofs.Changes.{Changes, related_settled}

abbrev Granted : Type 0
Granted = List (List ℕ × EsValue)

-- no granted name is a mark, nor is a fixed one

abbrev AreOpen : Granted → Type 0
AreOpen [] = Unit {0}
AreOpen ((k, e) ∷ l) = (is_hidden k ≡ false) × AreOpen l

grants_open : (h : Objects) (ps : Pairs) (qs : Granted) → GrantsAre h ps qs → AreOpen qs
grants_open h [] [] are = tt
grants_open h ((x, v) ∷ ps) ((k, e) ∷ qs) are = (ap is_hidden (sym are.0) ∙ are.1, grants_open h ps qs are.3)
grants_open h _ _ are = absurd are

fixed_open : (say : ℕ) (qs : Granted) → AreOpen qs → AreOpen (fixed_values say ++ qs)
fixed_open say qs open_too = (refl, (refl, (refl, (refl, (refl, (refl, (refl, (refl, (refl, (refl, (refl, open_too)))))))))))

no_mark : (l : Granted) (m : List ℕ) → is_hidden m ≡ true → AreOpen l → find m (copied l) ≡ None
no_mark [] m hidden are = refl
no_mark ((k, e) ∷ l) m hidden are = rw (apart_too k m are.0 hidden) (no_mark l m hidden are.1)

imports_new : (l : Granted) → AreOpen l → IsNew first (record_object (copied l))
imports_new l are = record {
  bare = refl;
  above = λ p e. proto_few 0 p (omega arith) e;
  reads = λ k. no_mark l (read_mark k) (hidden_read k) are;
  sets = λ k. no_mark l (set_mark k) (hidden_set k) are;
}

-- each has its value, behind the fixed names

grants_pairs : {a b : Objects} → Keeps a b → (ps : Pairs) (qs : Granted) → GrantsAre a ps qs → PairsAre b ps qs
grants_pairs k [] [] are = tt
grants_pairs k ((x, v) ∷ ps) ((j, e) ∷ qs) are = (are.0, val_keep k v e are.2, grants_pairs k ps qs are.3)
grants_pairs k _ _ are = absurd are

pairs_append : (h : Objects) (ps qs : Pairs) (a b : Granted) → PairsAre h ps a → PairsAre h qs b → PairsAre h (ps ++ qs) (a ++ b)
pairs_append h [] qs [] b p q = q
pairs_append h ((x, v) ∷ ps) qs ((k, e) ∷ a) b p q = (p.0, p.1, pairs_append h ps qs a b p.2 q)
pairs_append h _ qs _ b p q = absurd p

all_found : (h : Objects) (o : ℕ) (ps : Pairs) → ((k : List ℕ) → Rattle.row_simulation.specs.Correspond.Val h (or_nothing (value_at k ps)) (value_of (own h o k))) → (names : List (List ℕ)) → Vals h (imports_among ps names) (map (λ k. value_of (own h o k)) names)
all_found h o ps f [] = tt
all_found h o ps f (k ∷ names) = (f k, all_found h o ps f names)

pub load_begins : (rules : Rules) (modules cells : ℕ) (doc : Doc) (m : ℕ) → m < modules → m < 64 → (names : List (List ℕ)) (ps : Pairs) (qs : Granted) (d : ℕ) (w : World) (z : List Item) (n : ℕ) (g : Tags) (s : Store) (y : Kept) (i : ℕ) → PagePlaces modules cells doc s.heap → GrantsAre s.heap ps qs → BetweenTurns rules d w z n g s y i → LoadBegins rules m names ps qs d w z n g s y i
load_begins rules modules cells doc m among below names ps qs d w z n g s y i places are r =
    let l = fixed_values (say_place m) ++ qs in
    let x = record_object (copied l) in
    let h = with_object s.heap x in
    let o = length s.heap.list in
    let y' = load_kept m s y in
    let keeps : Keeps s.heap h = awaiting_keeps s.heap x refl in
    let new = imports_new l (fixed_open (say_place m) qs (grants_open s.heap ps qs are)) in
    let changes : Changes (page_of y') w s w h (i + 64 * d) = record {
      objects = objects_with w.objects s.heap x r.objects new;
      pages = pages_keep w w _ keeps (awaiting_no_node s.heap x refl) (refl, refl, refl, refl) r.pages;
      keeps = keeps;
      scopes = refl;
      older = λ a k f chain e. e;
      closed = closed_refl;
      waiters = λ f. f;
    } in
    let fixed : FixedThere s.heap m (say_place m) = record { natives = r.objects.natives; tools = places.tools; says = places.says m among; delays = places.delays m among } in
    let pairs : PairsAre h (fixed_imports m ++ ps) l = pairs_append h (fixed_imports m) ps (fixed_values (say_place m)) qs (fixed_are (fixed_there_keep keeps fixed)) (grants_pairs keeps ps qs are) in
    let found : (k : List ℕ) → Rattle.row_simulation.specs.Correspond.Val h (or_nothing (value_at k (fixed_imports m ++ ps))) (value_of (own h o k)) = λ k. rw (get-push s.heap.list x) (pair_found h (fixed_imports m ++ ps) l pairs k) in
    let at : imports_of m y' ≡ o = let many = r.kept.imports in get_or-set_same y.imports m o y.runtime (omega (arith, many, below)) in
    record {
      between = related_settled changes (record { runtime = r.kept.runtime; imports = length-set y.imports m o ∙ r.kept.imports; whole = r.kept.whole; ruled = r.kept.ruled }) r.items (omega arith) r.steps r;
      lasts = λ a j t. keeps.named a j t;
      imports = record {
        there = let long = length-append s.heap.list (x ∷ []) in omega (arith, at, long);
        values = subst (λ u. Vals h (imports_among (fixed_imports m ++ ps) names) (map (λ k. value_of (own h u k)) names)) (sym at) (all_found h o (fixed_imports m ++ ps) found names);
      };
    }
