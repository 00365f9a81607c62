-- Nodes that are still to be visited.
use Rattle.std.proofs.Common.{◌≡◌, ℕ, zero, suc, ◌<◌, List, [], ◌∷◌, ◌++◌, append_assoc, length, refl, sym, ap, ◌∙◌, arith}
use Rattle.doc_nodes.specs.Rows.{Doc, row_at, children_in}
use Rattle.node_deeds.specs.declared.walking.Pending.{Pending}
use Rattle.node_deeds.specs.Walk.{walk, visits, all_visits}

none_behind : (xs : List ℕ) → xs ++ [] ≡ xs
none_behind [] = refl
none_behind (x ∷ xs) = ap (λ ys. x ∷ ys) (none_behind xs)

pub all_visits-push : (d : Doc) (ps : List Pending) (p : Pending) → all_visits d (ps ++ p ∷ []) ≡ visits d p ++ all_visits d ps
unfolding all_visits
all_visits-push d [] p = sym (none_behind (visits d p))
all_visits-push d (q ∷ ps) p = ap (λ xs. xs ++ visits d q) (all_visits-push d ps p) ∙ append_assoc (visits d p) (all_visits d ps) (visits d q)

walk-push : (k : ℕ) (d : Doc) (ns : List ℕ) (n : ℕ) → walk (suc k) d (ns ++ n ∷ []) ≡ walk (suc k) d ns ++ (n ∷ walk k d (children_in (row_at d n)))
unfolding walk
walk-push k d [] n = none_behind (n ∷ walk k d (children_in (row_at d n)))
walk-push k d (m ∷ ns) n =
    let first = m ∷ walk k d (children_in (row_at d m)) in
    ap (λ xs. first ++ xs) (walk-push k d ns n) ∙ sym (append_assoc first (walk (suc k) d ns) (n ∷ walk k d (children_in (row_at d n))))

pub walk-none : (k : ℕ) (d : Doc) → walk k d [] ≡ []
unfolding walk
walk-none zero d = refl
walk-none (suc k) d = refl

pub walk-zero : (k : ℕ) (d : Doc) (ns : List ℕ) → k ≡ 0 → walk k d ns ≡ []
unfolding walk
walk-zero k d ns none = rw none refl

-- the last of the children is next to be put before those that are still to be visited
pub child-moved : (k m : ℕ) (d : Doc) (ns ms : List ℕ) (n : ℕ) (ps qs : List Pending) → k ≡ suc m → ns ≡ ms ++ n ∷ [] → qs ≡ ps ++ record { node = n; levels = m } ∷ [] → walk k d ms ++ all_visits d qs ≡ walk k d ns ++ all_visits d ps
child-moved k m d ns ms n ps qs more last push =
    rw (more, last, push) (ap (λ xs. walk (suc m) d ms ++ xs) (all_visits-push d ps (record { node = n; levels = m })) ∙ sym (append_assoc (walk (suc m) d ms) (visits d (record { node = n; levels = m })) (all_visits d ps)) ∙ ap (λ xs. xs ++ all_visits d ps) (sym (walk-push m d ms n)))

pub walk-all : (k m : ℕ) (d : Doc) (n : ℕ) → k ≡ suc m → n ∷ walk m d (children_in (row_at d n)) ≡ walk k d (n ∷ [])
unfolding walk
walk-all k m d n more = rw more (sym (none_behind (n ∷ walk m d (children_in (row_at d n)))))

-- a node is visited first, then what is below it, then all others
pub only-visit : (d : Doc) (n k : ℕ) (out : List ℕ) (ps qs : List Pending) → out ≡ [] → ps ≡ [] → qs ≡ ps ++ record { node = n; levels = k } ∷ [] → out ++ all_visits d qs ≡ n ∷ walk k d (children_in (row_at d n))
unfolding all_visits
only-visit d n k out ps qs o p q = rw (o, q, p) refl

pub visited : (d : Doc) (n k : ℕ) (out next whole : List ℕ) (ps rest qs : List Pending) → ps ≡ rest ++ record { node = n; levels = k } ∷ [] → next ≡ out ++ n ∷ [] → all_visits d qs ≡ walk k d (children_in (row_at d n)) ++ all_visits d rest → out ++ all_visits d ps ≡ whole → next ++ all_visits d qs ≡ whole
visited d n k out next whole ps rest qs last push below all =
    let p : Pending = record { node = n; levels = k } in
    rw (push, below) (append_assoc out (n ∷ []) (walk k d (children_in (row_at d n)) ++ all_visits d rest) ∙ ap (λ ys. out ++ ys) (sym (all_visits-push d rest p)) ∙ ap (λ xs. out ++ all_visits d xs) (sym last) ∙ all)

pub fewer-visits : (d : Doc) (n k : ℕ) (ps rest qs : List Pending) → ps ≡ rest ++ record { node = n; levels = k } ∷ [] → all_visits d qs ≡ walk k d (children_in (row_at d n)) ++ all_visits d rest → length (all_visits d qs) < length (all_visits d ps)
fewer-visits d n k ps rest qs last below =
    let p : Pending = record { node = n; levels = k } in
    let one : length (visits d p ++ all_visits d rest) ≡ suc (length (walk k d (children_in (row_at d n)) ++ all_visits d rest)) = refl in
    let before : length (all_visits d ps) ≡ suc (length (walk k d (children_in (row_at d n)) ++ all_visits d rest)) = ap (λ xs. length (all_visits d xs)) last ∙ ap length (all_visits-push d rest p) ∙ one in
    let after : length (all_visits d qs) ≡ length (walk k d (children_in (row_at d n)) ++ all_visits d rest) = ap length below in
    omega (arith, before, after)

pub all-visited : (d : Doc) (ps : List Pending) (out whole : List ℕ) → length ps ≡ 0 → out ++ all_visits d ps ≡ whole → out ≡ whole
unfolding all_visits
all-visited d [] out whole h is = sym (none_behind out) ∙ is
all-visited d (p ∷ ps) out whole h is = absurd (omega arith)

pub no-child : (k : ℕ) (d : Doc) (ns : List ℕ) (behind whole : List ℕ) → length ns ≡ 0 → walk k d ns ++ behind ≡ whole → behind ≡ whole
no-child k d [] behind whole h is = sym (ap (λ xs. xs ++ behind) (walk-none k d)) ∙ is
no-child k d (n ∷ ns) behind whole h is = absurd (omega arith)
