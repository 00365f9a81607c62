-- A change of a node makes one node of its root more at most.
use Rattle.std.proofs.Common.{◌≡◌, ℕ, suc, ◌≤◌, Bool, true, false, List, [], ◌∷◌, ◌++◌, Option, Some, None, length, cond, refl, ap, ◌∙◌, arith}
use Rattle.std.specs.Prelude.{slice_set, nat_lt}
use Rattle.std.proofs.lemmas.List.{length-append, length-set}
use Rattle.rows.specs.Document.{Node, Change, sets_attribute, sets_text, appends, removes, node_at, is_text, without, with_children, with_parent, with_text, with_attribute, detached, all_detached, attached, text_node, changed}
use Rattle.doc_views.proofs.Removed.{out_of_parent}

set_twice : (ns : List Node) (p k : ℕ) (x y : Node) → length (slice_set (slice_set ns p x) k y) ≡ length ns
set_twice ns p k x y = length-set (slice_set ns p x) k y ∙ length-set ns p x

detached_long : (k : ℕ) (ns : List Node) → length (detached k ns) ≡ length ns
detached_long k ns = at (node_at ns k).parent refl
  where
    at : (o : Option ℕ) → (node_at ns k).parent ≡ o → length (detached k ns) ≡ length ns
    at None h = rw h refl
    at (Some p) h =
        let x = with_children (without k (node_at ns p).children) (node_at ns p) in
        ap (λ (l : List Node). length l) (out_of_parent k p ns h) ∙ set_twice ns p k x (with_parent None (node_at (slice_set ns p x) k))

all_detached_long : (ks : List ℕ) (ns : List Node) → length (all_detached ks ns) ≡ length ns
all_detached_long [] ns = refl
all_detached_long (k ∷ ks) ns = all_detached_long ks (detached k ns) ∙ detached_long k ns

attached_long : (p k : ℕ) (ns : List Node) → length (attached p k ns) ≡ length ns
attached_long p k ns =
    let x = with_children ((node_at ns p).children ++ k ∷ []) (node_at ns p) in
    set_twice ns p k x (with_parent (Some p) (node_at (slice_set ns p x) k))

either : (b : Bool) (xs ys : List Node) (n : ℕ) → length xs ≤ n → length ys ≤ n → length (cond b xs ys) ≤ n
either true xs ys n one two = one
either false xs ys n one two = two

as_long : (xs ns : List Node) → length xs ≡ length ns → length xs ≤ suc (length ns)
as_long xs ns same = omega (arith, same)

pub few_changed : (c : Change) (k : ℕ) (ns : List Node) → length (changed c k ns) ≤ suc (length ns)
few_changed (sets_attribute m v) k ns =
    let o = node_at ns k in
    let x : Node = record { tag = o.tag; text = o.text; attributes = with_attribute m v o.attributes; parent = o.parent; children = o.children } in
    either (nat_lt k (length ns)) (slice_set ns k x) ns (suc (length ns)) (as_long (slice_set ns k x) ns (length-set ns k x)) (as_long ns ns refl)
few_changed (sets_text us) k ns =
    let o = node_at ns k in
    let more = all_detached o.children ns ++ text_node us ∷ [] in
    let whole = cond (is_text o) (slice_set ns k (with_text us o)) (attached k (length ns) more) in
    let a = attached_long k (length ns) more in
    let b = length-append (all_detached o.children ns) (text_node us ∷ []) in
    let c = all_detached_long o.children ns in
    either (nat_lt k (length ns)) whole ns (suc (length ns))
    (either (is_text o) (slice_set ns k (with_text us o)) (attached k (length ns) more) (suc (length ns)) (as_long (slice_set ns k (with_text us o)) ns (length-set ns k (with_text us o))) (omega (arith, a, b, c)))
    (as_long ns ns refl)
few_changed (appends c) k ns =
    let moved = attached k c (detached c ns) in
    either (nat_lt k (length ns)) (cond (nat_lt c (length ns)) moved ns) ns (suc (length ns))
    (either (nat_lt c (length ns)) moved ns (suc (length ns)) (as_long moved ns (attached_long k c (detached c ns) ∙ detached_long c ns)) (as_long ns ns refl))
    (as_long ns ns refl)
few_changed (removes c) k ns = either (nat_lt k (length ns)) (detached c ns) ns (suc (length ns)) (as_long (detached c ns) ns (detached_long c ns)) (as_long ns ns refl)
