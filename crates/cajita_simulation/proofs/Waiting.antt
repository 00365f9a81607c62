-- The first function that waits in a module is taken away on both sides.
use Rattle.std.proofs.Common.{◌≡◌, ℕ, true, false, List, [], ◌∷◌, cond, refl, sym, ap, ◌∙◌, subst, arith}
use Rattle.std.specs.Prelude.{nat_eq, drop}
use Rattle.std.proofs.lemmas.Bool.Decides.{nat_tests}
use Rattle.es3_heap.specs.Objects.{Objects}
use Rattle.es3_language.specs.Store.{Store}
use Rattle.rows.specs.Nodes.{Rules}
use Rattle.cajita_meaning.specs.World.{Value, World}
use Rattle.cajita_meaning.specs.Direct.{Item}
use Rattle.page_natives.specs.Natives.{Kept, page_of, queue_of, rest_of}
use Rattle.page_natives.proofs.Queues.{rest_own, rest_other}
use Rattle.cajita_simulation.specs.Turns.{TickBegins}
use Rattle.cajita_simulation.proofs.Relation.{AreClosures, EsValue, Val, Vals, Tags}
use Rattle.cajita_simulation.proofs.Changes.{knows_still}
use Rattle.cajita_simulation.specs.Related.{BetweenTurns}

-- what waits in the interpreter, where the first has gone
behind : (m : ℕ) (qs : List (List EsValue)) (e : EsValue) (es : List EsValue) → queue_of m qs ≡ e ∷ es → queue_of m (rest_of m qs) ≡ es
behind m qs e es p = rest_own m qs ∙ ap (drop 1) p

-- the first of values that correspond
first_of : (h : Objects) (f : Value) (fs : List Value) (q : List EsValue) → Vals h (f ∷ fs) q → (e : EsValue) × (es : List EsValue) × (q ≡ e ∷ es) × Val h f e × Vals h fs es
first_of h f fs [] is = absurd is
first_of h f fs (e ∷ es) is = (e, es, refl, is.0, is.1)

pub tick_begins : (rules : Rules) (m : ℕ) (f : Value) (fs : List Value) (d : ℕ) (w : World) (z : List Item) (n : ℕ) (g : Tags) (s : Store) (y : Kept) (i : ℕ) → w.queues m ≡ f ∷ fs → BetweenTurns rules d w z n g s y i → TickBegins rules m f fs d w z n g s y i
tick_begins rules m f fs d w z n g s y i waits r =
    let first = first_of s.heap f fs (queue_of m y.waiting) (subst (λ l. Vals s.heap l (queue_of m y.waiting)) waits (r.pages.queues m)) in
    let closures : AreClosures w.objects (f ∷ fs) = subst (AreClosures w.objects) waits (r.waiters m) in
    record {
      first' = first.0;
      behind' = first.1;
      waits' = first.2;
      closure = closures.0;
      alike = first.3;
      between = record {
        steps = r.steps;
        items = r.items;
        objects = r.objects;
        pages = record {
          cells = r.pages.cells;
          queues = λ j. let cases = elim (nat_eq j m) as (λ b. nat_eq j m ≡ b → Vals s.heap (cond b fs (w.queues j)) (queue_of j (rest_of m y.waiting))) [
            | true ↦ λ is.
                let same : j ≡ m = grind (arith, nat_tests) in
                subst (λ k. Vals s.heap fs (queue_of k (rest_of m y.waiting))) (sym same) (subst (Vals s.heap fs) (sym (behind m y.waiting first.0 first.1 first.2)) first.4)
            | false ↦ λ is. subst (Vals s.heap (w.queues j)) (sym (rest_other j m y.waiting is)) (r.pages.queues j)
          ] in cases refl;
          nodes = r.pages.nodes;
          within = r.pages.within;
          facets = r.pages.facets;
          as_many = r.pages.as_many;
          known = r.pages.known;
          handlers = r.pages.handlers;
        };
        closures = r.closures;
        waiters = λ j. elim (nat_eq j m) as (λ b. AreClosures w.objects (cond b fs (w.queues j))) [
          | true ↦ closures.1
          | false ↦ r.waiters j
        ];
        scopes = r.scopes;
        globals = r.globals;
        kept = knows_still refl refl refl refl r.kept;
      };
    }

none_of : (h : Objects) (q : List EsValue) → Vals h [] q → q ≡ []
none_of h [] is = refl
none_of h (e ∷ es) is = absurd is

pub none_waits : (rules : Rules) (m d : ℕ) (w : World) (z : List Item) (n : ℕ) (g : Tags) (s : Store) (y : Kept) (i : ℕ) → w.queues m ≡ [] → BetweenTurns rules d w z n g s y i → (page_of y).queues m ≡ []
none_waits rules m d w z n g s y i waits r = none_of s.heap (queue_of m y.waiting) (subst (λ l. Vals s.heap l (queue_of m y.waiting)) waits (r.pages.queues m))
