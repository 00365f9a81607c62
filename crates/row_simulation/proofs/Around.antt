-- A node and those around it are the same on both sides.
use Rattle.std.proofs.Common.{◌≡◌, ℕ, ◌+◌, ◌<◌, List, [], ◌∷◌, length, Option, Some, None, refl, sym, subst}
use Rattle.es3_heap.specs.Objects.{Objects}
use Rattle.rows.specs.Names.{of_cajita, of_math, code_of}
use Rattle.rows.specs.Branches.{parents, branch, with_ids, around}
use Rattle.rows.specs.Document.{Node, node_at, below}
use Rattle.cajita_meaning.specs.World.{Name, built_name, tools_name, facet_name, Value, object, World}
use Rattle.cajita_meaning.specs.Doing as direct
use Rattle.heap_rows.specs.Natives.{tag_of_code}
use Rattle.heap_rows.specs.Doing as es3
use Rattle.row_simulation.specs.Among.{AreIdsAmong, IsBranchAmong}
use Rattle.row_simulation.specs.RowLaw.{AreBelow, PagesAre}
use Rattle.row_simulation.proofs.Relation.{EsValue, tag_of_name, Named, Val, Vals}
use Rattle.row_simulation.proofs.Sights.{handles_among}
use Rattle.row_simulation.proofs.Row.{by_value}
use Rattle.row_simulation.proofs.Within.{less_is, around_below}

pub record AroundAlike (h : Objects) (a : direct.Around) (b : es3.Around) : Type 0 where
  pub branch : a.branch ≡ b.branch
  pub among : IsBranchAmong a.branch
  pub values : Vals h a.values b.values

abbrev pub AroundIs : Objects → Option direct.Around → Option es3.Around → Type 0
AroundIs h None None = Unit {0}
AroundIs h (Some a) (Some b) = AroundAlike h a b
AroundIs h _ _ = ⊥

-- what is seen is among objects

ids_among : (ns : List Node) (n : ℕ) (ks : List ℕ) → AreIdsAmong (with_ids ns n ks)
ids_among ns n [] = tt
ids_among ns n (k ∷ ks) = (tt, ids_among ns (n + 1) ks)

branch_among : (n k : ℕ) (ns : List Node) → IsBranchAmong (branch n k ns)
branch_among n k ns =
    let c = n + length (parents ns k) in
    record { parent = handles_among n (parents ns k); children = handles_among c (node_at ns k).children; below = ids_among ns (c + length (node_at ns k).children) (below ns k) }

-- each node has an object of its name

facets_are : (h : Objects) (root n : ℕ) (os : List ℕ) → ((k : ℕ) → k < n → Val h (object (facet_name root k)) (es3.facet_at os k)) → (ks : List ℕ) → AreBelow n ks → Vals h (direct.facets root ks) (es3.facets_at os ks)
facets_are h root n os each [] a = tt
facets_are h root n os each (k ∷ ks) a = (each k a.0, facets_are h root n os each ks a.1)

pub around_alike : {h : Objects} (w : World) (g : es3.Page) → PagesAre h w g → (n : ℕ) (v : Value) (e : EsValue) → Val h v e → AroundIs h (direct.around w n v) (es3.around h g n e)
around_alike {h = h} w g p n = by_value h (λ v e. AroundIs h (direct.around w n v) (es3.around h g n e)) tt tt (λ a. tt) (λ a. tt) (λ a. tt) (λ k i q. rw q (by_name k i q))
  where
    by_code : (c : List ℕ) → AroundIs h None (es3.around_node n (tag_of_code c) g)
    by_code [] = tt
    by_code (a ∷ []) = tt
    by_code (a ∷ b ∷ []) = tt
    by_code (a ∷ b ∷ d ∷ c) = tt

    by_name : (k : Name) (i : ℕ) → Named h k i → AroundIs h (direct.around w n (object k)) (es3.around_node n (tag_of_name k) g)
    by_name (facet_name root k) i q =
        let lt = p.known root k i q in
        subst (λ ns. AroundIs h (direct.around_node n root k ns) (es3.around_node n (tag_of_name (facet_name root k)) g)) (sym (p.nodes root)) (rw (less_is k (length (g.nodes root)) lt) (record {
          branch = refl;
          among = branch_among n k (g.nodes root);
          values = facets_are h root (length (g.nodes root)) (g.facets root) (λ j lt. p.facets root j lt) (around (g.nodes root) k) (around_below (g.nodes root) k (p.within root) lt);
        }))
    by_name (built_name f) i q = by_code (code_of f)
    by_name (tools_name of_cajita) i q = tt
    by_name (tools_name of_math) i q = tt
    by_name k i q = tt
