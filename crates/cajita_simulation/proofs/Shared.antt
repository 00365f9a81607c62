-- Objects that share their values with parameters: what a write of a name does to them, and that they stay such objects.
use Rattle.std.proofs.Common.{◌≡◌, ℕ, zero, suc, ◌≤◌, ◌<◌, true, false, List, [], ◌∷◌, length, Some, cond, refl, sym, ap, ◌∙◌, arith}
use Rattle.std.specs.Prelude.{slice_get, is_some, nat_eq}
use Rattle.std.proofs.lemmas.Option.{slice_get_within}
use Rattle.std.proofs.lemmas.Bool.Decides.{nat_tests}
use Rattle.caja_units.specs.Units.{same_units}
use Rattle.es3_heap.specs.Objects as heap
use Rattle.es3_heap.specs.Objects.{Objects}
use Rattle.es3_heap.specs.Properties.{own, put}
use Rattle.es3_language.specs.Store as store
use Rattle.es3_language.specs.Arguments.{put_item, put_items, put_shared}
use Rattle.heap_rows.specs.Opening.{first}
use Rattle.row_simulation.specs.Correspond.{EsValue, IsPlain, Keeps}
use Rattle.row_simulation.proofs.Quiet.{Quiet, quiet_refl, quiet_trans, quiet_put, plain_after}
use Rattle.cajita_simulation.specs.Scopes.{SharedAre}

at_within : {X : Type 0} (xs : List X) (i : ℕ) → i < length xs → (x : X) × (slice_get xs i ≡ Some x)
at_within [] i lt = absurd (omega (arith, lt))
at_within (x ∷ xs) zero lt = (x, refl)
at_within (x ∷ xs) (suc i) lt = at_within xs i (omega (arith, lt))

-- they stay such objects

pub plain_keep : {a b : Objects} {i : ℕ} → Keeps a b → IsPlain first a i → IsPlain first b i
plain_keep {a = a} {b = b} {i = i} k p =
    let lt = slice_get_within a.list i p.object p.there in
    let long = k.long in
    let there = at_within b.list i (omega (arith, lt, long)) in
    let same = k.plain i lt (ap heap.tag_of p.there ∙ p.tag) (ap heap.class_of p.there ∙ p.class) in
    record { object = there.0; there = there.1; tag = sym (ap heap.tag_of there.1) ∙ same.0; class = sym (ap heap.class_of there.1) ∙ same.1; large = p.large }

pub shared_keep : {a b : Objects} {n m : ℕ} → Keeps a b → n ≤ m → (l : List store.Shared) → SharedAre a n l → SharedAre b m l
shared_keep k le [] p = tt
shared_keep k le (g ∷ l) p = (plain_keep k p.0, omega (arith, le, p.1), shared_keep k le l p.2)

pub shared_more : (h : Objects) {n m : ℕ} → n ≤ m → (l : List store.Shared) → SharedAre h n l → SharedAre h m l
shared_more h le [] p = tt
shared_more h le (g ∷ l) p = (p.0, omega (arith, le, p.1), shared_more h le l p.2)

-- a name is written

quiet_items : (o : ℕ) (items : List (List ℕ × List ℕ)) (x : List ℕ) (v : EsValue) (h : Objects) → IsPlain first h o → Quiet first h (put_items o items x v h)
quiet_items o [] x v h p = quiet_refl
quiet_items o ((k, y) ∷ rest) x v h p =
    let item : Quiet first h (put_item o k v h) =
    let cases = elim (is_some (own h o k)) as (λ b. is_some (own h o k) ≡ b → Quiet first h (cond b (put h o k v) h)) [
      | false ↦ λ none. quiet_refl
      | true ↦ λ there. quiet_put h o k v p there
    ] in cases refl in
    let one : Quiet first h (cond (same_units x y) (put_item o k v h) h) = elim (same_units x y) as (λ b. Quiet first h (cond b (put_item o k v h) h)) [
      | false ↦ quiet_refl
      | true ↦ item
    ] in
    quiet_trans one (quiet_items o rest x v (cond (same_units x y) (put_item o k v h) h) (plain_after o one p))

pub quiet_shared : (l : List store.Shared) (n c : ℕ) (x : List ℕ) (v : EsValue) (h : Objects) → SharedAre h n l → Quiet first h (put_shared l c x v h)
quiet_shared [] n c x v h p = quiet_refl
quiet_shared (g ∷ l) n c x v h p = elim (nat_eq g.scope c) as (λ b. Quiet first h (cond b (put_items g.object g.items x v h) (put_shared l c x v h))) [
  | true ↦ quiet_items g.object g.items x v h p.0
  | false ↦ quiet_shared l n c x v h p.2
]

-- no object shares a value with a name of a newer scope
pub unshared : (l : List store.Shared) (a : Objects) (n c : ℕ) (x : List ℕ) (v : EsValue) (h : Objects) → n ≤ c → SharedAre a n l → put_shared l c x v h ≡ h
unshared [] a n c x v h le p = refl
unshared (g ∷ l) a n c x v h le p =
    let other : nat_eq g.scope c ≡ false = let lt = p.1 in grind (arith, nat_tests, lt, le) in
    ap (λ b. cond b (put_items g.object g.items x v h) (put_shared l c x v h)) other ∙ unshared l a n c x v h le p.2
