-- Which values stand for nodes: rows and methods take the same for one.
use Rattle.std.proofs.Common.{◌≡◌, ℕ, ◌<◌, ◌≤◌, true, false, Option, Some, None, length, cond, refl, sym, ap, ◌∙◌, arith}
use Rattle.std.specs.Prelude.{nat_lt}
use Rattle.std.proofs.lemmas.Bool.Decides.{nat_tests}
use Rattle.std.proofs.lemmas.List.{length-map}
use Rattle.es3_objects.specs.declared.value.Value.{Value}
use Rattle.es3_objects.specs.declared.value.Value.TheVariants as v
use Rattle.es3_objects.specs.declared.value.Tag.{Tag}
use Rattle.es3_objects.specs.declared.value.Tag.TheVariants as tag
use Rattle.es3_heap.specs.Objects.{Objects}
use Rattle.doc_nodes.specs.Rows.{Doc, nodes_of}
use Rattle.doc_laws.specs.Owned.{Owned}
use Rattle.rows.specs.Branches.{branch, around as nodes_around}
use Rattle.heap_rows.specs.Doing.{Page, Around, named, around_node, around, facets_at}
use Rattle.doc_views.specs.Seen.{node_seen, nodes_seen, Stands}
use Rattle.dom_facets.specs.Facets.{node_in_tag, node_of}
use Rattle.dom_facets.proofs.Made.{no_more}

node_named : (h : Objects) (d : Doc) (x : Value) → node_of h d x ≡ node_in_tag d (named h x)
node_named h d v.Undefined = refl
node_named h d v.Null = refl
node_named h d (v.Bool b) = refl
node_named h d (v.Num i) = refl
node_named h d (v.Text us) = refl
node_named h d (v.Obj o) = refl

-- a value stands for a node of a root
pub record IsNode (h : Objects) (d : Doc) (x : Value) (n : ℕ) : Type 0 where
  pub root : ℕ
  pub number : ℕ
  pub name : named h x ≡ tag.Facet root number
  pub stands : Stands d n root number

pub node_is : (h : Objects) (d : Doc) (x : Value) (n : ℕ) → Owned d → ◌≡◌ {A = Option ℕ} (node_of h d x) (Some n) → IsNode h d x n
node_is h d x n own is = at (named h x) refl (sym (node_named h d x) ∙ is)
  where
    at : (t : Tag) → named h x ≡ t → ◌≡◌ {A = Option ℕ} (node_in_tag d t) (Some n) → IsNode h d x n
    at (tag.Facet r k) name there = record { root = r; number = k; name = name; stands = own.back n r k there }
    at t name there = cc

-- it is seen with those around it
pub around_there : (h : Objects) (g : Page) (i : ℕ) (x : Value) (r k : ℕ) → named h x ≡ tag.Facet r k → k < length (g.nodes r)
    → ◌≡◌ {A = Option Around} (around h g i x) (Some (record { branch = branch i k (g.nodes r); values = facets_at (g.facets r) (nodes_around (g.nodes r) k) }))
around_there h g i x r k name less =
    let test : nat_lt k (length (g.nodes r)) ≡ true = grind (arith, nat_tests, less) in
    ap (λ t. around_node i t g) name
    ∙ ap (λ b. cond b (Some (record { branch = branch i k (g.nodes r); values = facets_at (g.facets r) (nodes_around (g.nodes r) k) })) None) test

-- another value isn't
pub around_none : (h : Objects) (g : Page) (d : Doc) (i : ℕ) (x : Value) → g.nodes ≡ nodes_seen d → ◌≡◌ {A = Option ℕ} (node_of h d x) None → ◌≡◌ {A = Option Around} (around h g i x) None
around_none h g d i x seen is = at (named h x) (sym (node_named h d x) ∙ is)
  where
    at : (t : Tag) → ◌≡◌ {A = Option ℕ} (node_in_tag d t) None → ◌≡◌ {A = Option Around} (around_node i t g) None
    at (tag.Facet r k) none =
        let few : length (nodes_of d.roots r) ≤ k = no_more (nodes_of d.roots r) k (sym none) in
        let long : length (g.nodes r) ≡ length (nodes_of d.roots r) = ap (λ ns. length (ns r)) seen ∙ length-map (nodes_of d.roots r) (node_seen d) in
        let test : nat_lt k (length (g.nodes r)) ≡ false = grind (arith, nat_tests, few, long) in
        ap (λ b. cond b (Some (record { branch = branch i k (g.nodes r); values = facets_at (g.facets r) (nodes_around (g.nodes r) k) })) None) test
    at t none = refl
