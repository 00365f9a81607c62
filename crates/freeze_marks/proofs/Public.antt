-- What modules see of an object, by its keys.
use Rattle.std.proofs.Common.{◌≡◌, ℕ, Bool, true, false, ◌||◌, List, [], ◌∷◌, ◌++◌, Some, cond, refl, sym, ap, ◌∙◌, subst, append_assoc, append-nil}
use Rattle.std.specs.Prelude.{not, map}
use Rattle.std.specs.List.{filter}
use Rattle.std.specs.Cmp.Lexicographic.{same_text}
use Rattle.caja_units.specs.Units.{same_units, is_hidden}
use Rattle.es3_objects.specs.declared.value.Value.{Value}
use Rattle.es3_heap.specs.Objects.{Property}
use Rattle.es3_heap.specs.Properties.{find, value_of}
use Rattle.es3_objects.proofs.Keys.{same_key-refl}
use Rattle.heap_rows.specs.Doing.{guests}
use Rattle.freeze_marks.specs.Records.{has_key, AreNew}

-- the keys that are not hidden
pub guest_keys : (ps : List Property) → map (λ p. p.0) (guests ps) ≡ filter (λ k. not (is_hidden k)) (map (λ p. p.key) ps)
guest_keys [] = refl
guest_keys (p ∷ ps) =
    let ks = filter (λ k. not (is_hidden k)) (map (λ p. p.key) ps) in
    elim (is_hidden p.key) as (λ b. map (λ p. p.0) (cond b (guests ps) ((p.key, p.value) ∷ guests ps)) ≡ cond (not b) (p.key ∷ ks) ks) [
      | true ↦ guest_keys ps
      | false ↦ ap (λ l. p.key ∷ l) (guest_keys ps)
    ]

abbrev Pair : Type 0
Pair = List ℕ × Value

-- no key of some is one among others
pub new_last : (before ps : List Pair) (q : Pair) → AreNew before ps → has_key q.0 (before ++ ps) ≡ false → AreNew before (ps ++ q ∷ [])
new_last before [] q are new = (subst (λ l. has_key q.0 l ≡ false) (append-nil before) new, tt)
new_last before (p ∷ ps) q are new = (are.0, new_last (before ++ p ∷ []) ps q are.1 (subst (λ l. has_key q.0 l ≡ false) (sym (append_assoc before (p ∷ []) ps)) new))

-- the properties so far, and those that are left, of which the keys are known
pub record Gathered (props : List Property) (pairs : List Pair) (rest : List (List ℕ)) : Type 0 where
  pub before : List Property
  pub after : List Property
  pub split : props ≡ before ++ after
  pub left : map (λ p. p.key) after ≡ rest
  pub seen : pairs ≡ guests before
  pub once : AreNew [] pairs

pub nothing_yet : (props : List Property) → Gathered props [] (map (λ p. p.key) props)
nothing_yet props = record { before = []; after = props; split = refl; left = refl; seen = refl; once = tt }

guests-append : (xs ys : List Property) → guests (xs ++ ys) ≡ guests xs ++ guests ys
guests-append [] ys = refl
guests-append (p ∷ xs) ys =
    elim (is_hidden p.key) as (λ b. cond b (guests (xs ++ ys)) ((p.key, p.value) ∷ guests (xs ++ ys)) ≡ cond b (guests xs) ((p.key, p.value) ∷ guests xs) ++ guests ys) [
      | true ↦ guests-append xs ys
      | false ↦ ap (λ l. (p.key, p.value) ∷ l) (guests-append xs ys)
    ]

-- a hidden key is passed over
hidden_after : (props : List Property) (pairs : List Pair) (k : List ℕ) (rest : List (List ℕ)) (before after : List Property) → props ≡ before ++ after → map (λ p. p.key) after ≡ k ∷ rest → pairs ≡ guests before → AreNew [] pairs → is_hidden k ≡ true
    → Gathered props pairs rest
hidden_after props pairs k rest before [] split keys are once hidden = absurd (cc keys)
hidden_after props pairs k rest before (p ∷ after) split keys are once hidden =
    let key : p.key ≡ k = cc keys in
    record {
      before = before ++ p ∷ [];
      after = after;
      split = split ∙ sym (append_assoc before (p ∷ []) after);
      left = cc keys;
      seen = are ∙ (sym (append-nil (guests before)) ∙ sym (guests-append before (p ∷ []) ∙ rw (key, hidden) refl));
      once = once;
    }

pub hidden_next : (props : List Property) (pairs : List Pair) (k : List ℕ) (rest : List (List ℕ)) → Gathered props pairs (k ∷ rest) → is_hidden k ≡ true → Gathered props pairs rest
hidden_next props pairs k rest g hidden = hidden_after props pairs k rest g.before g.after g.split g.left g.seen g.once hidden

-- another key is that of the first property that has it
hidden_other : (k j : List ℕ) → is_hidden k ≡ false → is_hidden j ≡ true → same_units k j ≡ false
hidden_other k j seen hidden =
    let cases = elim (same_units k j) as (λ b. same_units k j ≡ b → b ≡ false) [
      | true ↦ λ e. cc (sym seen ∙ ap is_hidden (same_text k j (sym e)) ∙ hidden)
      | false ↦ λ e. refl
    ] in cases refl

neither : (a b : Bool) → (a || b) ≡ false → (a ≡ false) × (b ≡ false)
neither true b is = cc
neither false b is = (refl, is)

find_first : (k : List ℕ) (before : List Property) (p : Property) (after : List Property) → is_hidden k ≡ false → has_key k (guests before) ≡ false → p.key ≡ k → find k (before ++ p ∷ after) ≡ Some p
find_first k [] p after seen new key = rw (key, same_key-refl k) refl
find_first k (q ∷ before) p after seen new key =
    let cases = elim (is_hidden q.key) as (λ b. is_hidden q.key ≡ b → has_key k (cond b (guests before) ((q.key, q.value) ∷ guests before)) ≡ false → find k (q ∷ (before ++ p ∷ after)) ≡ Some p) [
      | true ↦ λ hidden none. rw (hidden_other k q.key seen hidden) (find_first k before p after seen none key)
      | false ↦ λ apart none.
          let both = neither (same_units k q.key) (has_key k (guests before)) none in
          rw both.0 (find_first k before p after seen both.1 key)
    ] in cases refl new

public_after : (props : List Property) (pairs more : List Pair) (k : List ℕ) (rest : List (List ℕ)) (before after : List Property) → props ≡ before ++ after → map (λ p. p.key) after ≡ k ∷ rest → pairs ≡ guests before → AreNew [] pairs → is_hidden k ≡ false
    → has_key k pairs ≡ false
    → more ≡ pairs ++ (k, value_of (find k props)) ∷ []
    → Gathered props more rest
public_after props pairs more k rest before [] split keys are once seen new is = absurd (cc keys)
public_after props pairs more k rest before (p ∷ after) split keys are once seen new is =
    let key : p.key ≡ k = cc keys in
    let found : find k props ≡ Some p = ap (find k) split ∙ find_first k before p after seen (subst (λ l. has_key k l ≡ false) are new) key in
    let last : guests (p ∷ []) ≡ (k, value_of (find k props)) ∷ [] = rw (key, seen, found) refl in
    record {
      before = before ++ p ∷ [];
      after = after;
      split = split ∙ sym (append_assoc before (p ∷ []) after);
      left = cc keys;
      seen = is ∙ ap (λ l. l ++ (k, value_of (find k props)) ∷ []) are ∙ sym (guests-append before (p ∷ []) ∙ ap (λ l. guests before ++ l) last);
      once = subst (AreNew []) (sym is) (new_last [] pairs (k, value_of (find k props)) once new);
    }

pub public_next : (props : List Property) (pairs more : List Pair) (k : List ℕ) (rest : List (List ℕ)) → Gathered props pairs (k ∷ rest) → is_hidden k ≡ false → has_key k pairs ≡ false → more ≡ pairs ++ (k, value_of (find k props)) ∷ []
    → Gathered props more rest
public_next props pairs more k rest g seen new is = public_after props pairs more k rest g.before g.after g.split g.left g.seen g.once seen new is

-- at the end
all_gathered : (props : List Property) (pairs : List Pair) (before after : List Property) → props ≡ before ++ after → map (λ p. p.key) after ≡ [] → pairs ≡ guests before → pairs ≡ guests props
all_gathered props pairs before [] split keys are = are ∙ sym (ap guests (split ∙ append-nil before))
all_gathered props pairs before (p ∷ after) split keys are = absurd (cc keys)

pub gathered : (props : List Property) (pairs : List Pair) → Gathered props pairs [] → pairs ≡ guests props
gathered props pairs g = all_gathered props pairs g.before g.after g.split g.left g.seen
