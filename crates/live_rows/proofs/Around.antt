-- A node is seen with live values around it, where the page's facets are live.
use Rattle.std.proofs.Common.{ℕ, zero, suc, ◌+◌, ◌<◌, true, false, List, [], ◌∷◌, All, Option, Some, None, length, cond}
use Rattle.std.specs.Prelude.{nat_lt}
use Rattle.std.proofs.lemmas.List.Elements.{All-nil, All-cons, All-head, All-tail}
use Rattle.es3_objects.specs.declared.value.Value.{Value}
use Rattle.es3_objects.specs.declared.value.Tag.{Tag}
use Rattle.es3_objects.specs.declared.value.Tag.TheVariants as tag
use Rattle.es3_heap.specs.Objects.{Objects}
use Rattle.es3_live.specs.Live.{IsLive}
use Rattle.rows.specs.Rows.{Handle}
use Rattle.rows.specs.Branches.{parents, branch, with_ids, around as nodes_around}
use Rattle.rows.specs.Document.{Node, node_at, below}
use Rattle.heap_rows.specs.Doing.{Page, Around, facet_at, facets_at, named, around_node, around}
use Rattle.live_rows.specs.Named.{IsHeld, IsSeenBranch}
use Rattle.live_rows.specs.Live.{LivePage}
use Rattle.live_rows.proofs.Seeing.{handles_held}

pub record AroundLive (n : ℕ) (b : Around) : Type 0 where
  pub branch : IsSeenBranch b.branch
  pub values : All (IsLive n) b.values

abbrev pub IsAroundLive : ℕ → Option Around → Type 0
IsAroundLive n None = Unit {0}
IsAroundLive n (Some b) = AroundLive n b

abbrev IsIdHeld : Option (List ℕ) × Handle → Type 0
IsIdHeld p = IsHeld p.1

ids_held : (ns : List Node) (n : ℕ) (ks : List ℕ) → All IsIdHeld (with_ids ns n ks)
ids_held ns n [] = All-nil IsIdHeld
ids_held ns n (k ∷ ks) = All-cons IsIdHeld _ (with_ids ns (n + 1) ks) tt (ids_held ns (n + 1) ks)

branch_seen : (n k : ℕ) (ns : List Node) → IsSeenBranch (branch n k ns)
branch_seen n k ns =
    let c = n + length (parents ns k) in
    record { parent = handles_held n (parents ns k); children = handles_held c (node_at ns k).children; below = ids_held ns (c + length (node_at ns k).children) (below ns k) }

facet_live : (n : ℕ) (os : List ℕ) (k : ℕ) → All (λ (o : ℕ). o < n) os → IsLive n (facet_at os k)
facet_live n [] k live = tt
facet_live n (o ∷ os) zero live = All-head (λ (o : ℕ). o < n) o os live
facet_live n (o ∷ os) (suc k) live = facet_live n os k (All-tail (λ (o : ℕ). o < n) o os live)

facets_live : (n : ℕ) (os ks : List ℕ) → All (λ (o : ℕ). o < n) os → All (IsLive n) (facets_at os ks)
facets_live n os [] live = All-nil (IsLive n)
facets_live n os (k ∷ ks) live = All-cons (IsLive n) (facet_at os k) (facets_at os ks) (facet_live n os k live) (facets_live n os ks live)

node_live : (m n : ℕ) (t : Tag) (g : Page) → LivePage n g → IsAroundLive n (around_node m t g)
node_live m n (tag.Facet root k) g live = elim (nat_lt k (length (g.nodes root))) as (λ b. IsAroundLive n (cond b (Some (record { branch = branch m k (g.nodes root); values = facets_at (g.facets root) (nodes_around (g.nodes root) k) })) None)) [
  | true ↦ record { branch = branch_seen m k (g.nodes root); values = facets_live n (g.facets root) (nodes_around (g.nodes root) k) (live.facets root) }
  | false ↦ tt
]
node_live m n t g live = tt

pub around_live : (h : Objects) (g : Page) (m : ℕ) (x : Value) → LivePage (length h.list) g → IsAroundLive (length h.list) (around h g m x)
around_live h g m x live = node_live m (length h.list) (named h x) g live
