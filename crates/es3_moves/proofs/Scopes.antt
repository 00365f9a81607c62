-- Other names in one of the scopes.
use Rattle.std.proofs.Common.{◌≡◌, ℕ, zero, suc, ◌<◌, List, [], ◌∷◌, length, get_or, set, ap, ◌∙◌, arith}
use Rattle.std.specs.Prelude.{map, slice_get, slice_set}
use Rattle.es3_language.specs.Store as s
use Rattle.es3_language.specs.Store.{Names, scope_at, renamed}
use Rattle.es3_moves.specs.Texts.{plain_owner, plain_scope}
use Rattle.es3_moves.specs.declared.texts.Scope.{Scope}

pub put-renamed : (xs : List Scope) (c : ℕ) (x y : Scope) (go : Names → Names) → c < length xs → x ≡ get_or xs c x → y.owner ≡ x.owner → y.names ≡ go x.names → map plain_scope (set xs c y) ≡ slice_set (map plain_scope xs) c (renamed (slice_get (map plain_scope xs) c) (go (scope_at (slice_get (map plain_scope xs) c))))
put-renamed [] c x y go h e owner names = absurd (omega arith)
put-renamed (z ∷ zs) zero x y go h e owner names =
    let same : x ≡ z = e in
    let kept : y.owner ≡ z.owner = owner ∙ ap (λ k. k.owner) same in
    let new : y.names ≡ go z.names = names ∙ ap (λ k. go k.names) same in
    ap (λ o. let p : s.Scope = record { owner = plain_owner o; names = y.names } in p ∷ map plain_scope zs) kept
    ∙ ap (λ n. let p : s.Scope = record { owner = plain_owner z.owner; names = n } in p ∷ map plain_scope zs) new
put-renamed (z ∷ zs) (suc c) x y go h e owner names = ap (λ l. plain_scope z ∷ l) (put-renamed zs c x y go (omega arith) e owner names)
