-- A read in line does what its guard does.
use Rattle.std.proofs.Common.{◌≡◌, ℕ, zero, suc, ◌+◌, Bool, true, false, List, [], ◌∷◌, ◌++◌, length, Option, Some, None, Result, Ok, cond, refl, sym, ap, ◌∙◌, subst, arith}
use Rattle.std.specs.Prelude.{slice_get, map, is_some}
use Rattle.std.proofs.lemmas.Option.{none-some}
use Rattle.plans.specs.Plans.{Fault}
use Rattle.caja_units.specs.Units.{same_units, is_hidden}
use Rattle.es3_objects.specs.declared.value.Value.TheVariants as es
use Rattle.es3_heap.specs.Objects as heap
use Rattle.es3_heap.specs.Objects.{Objects}
use Rattle.es3_heap.specs.Properties.{find, own, get}
use Rattle.es3_language.specs.Natives.{value_reply}
use Rattle.rows.specs.Rows as r
use Rattle.rows.specs.Rows.{Native, keyed_handles}
use Rattle.rows.specs.Guards.{read_pub, on_object, read_end}
use Rattle.row_simulation.specs.Inline.{InlineRead}
use Rattle.rows.specs.Public as shared
use Rattle.cajita_meaning.specs.World.{Name, Value, object, text, Pairs, World, value_at}
use Rattle.cajita_meaning.specs.Doing as direct
use Rattle.cajita_meaning.specs.Doing.{text_within}
use Rattle.heap_rows.specs.Doing as es3
use Rattle.heap_rows.specs.Doing.{Told}
use Rattle.row_simulation.proofs.Relation.{Named, Val}
use Rattle.row_simulation.proofs.Row.{touch_is, shown, shown-append, DoneIs, keeps_refl, objects_step}
use Rattle.row_simulation.proofs.Ends.{quiet, shown_got}
use Rattle.row_simulation.proofs.Marked.{read_at}

-- the value of a key, by its handle: the pairs' values stand behind n others
keyed : (k : List ℕ) (ps : Pairs) (v : Value) (n : ℕ) (before : List Value) → length before ≡ n → value_at k ps ≡ Some v → (j : ℕ) × (shared.value_at k (keyed_handles n ps) ≡ Some (r.held j)) × (slice_get (before ++ map (λ p. p.1) ps) j ≡ Some v)
keyed k [] v n before len e = cc
keyed k ((i, u) ∷ ps) v n before len e =
    elim (same_units k i) as (λ b. cond b (Some u) (value_at k ps) ≡ Some v → (j : ℕ) × (cond b (Some (r.held n)) (shared.value_at k (keyed_handles (n + 1) ps)) ≡ Some (r.held j)) × (slice_get (before ++ u ∷ map (λ p. p.1) ps) j ≡ Some v)) [
      | true ↦ λ e. (n, refl, at before n len ∙ e)
      | false ↦ λ e. let x = keyed k ps v (n + 1) (before ++ u ∷ []) (longer before n len) e in (x.0, x.1, subst (λ l. slice_get l x.0 ≡ Some v) (Rattle.std.proofs.Common.append_assoc before (u ∷ []) (map (λ p. p.1) ps)) x.2)
    ] e
  where
    at : (before : List Value) (n : ℕ) → length before ≡ n → slice_get (before ++ u ∷ map (λ p. p.1) ps) n ≡ Some u
    at [] n len = ap (slice_get (u ∷ map (λ p. p.1) ps)) (sym len)
    at (x ∷ xs) zero len = absurd (omega (arith, len))
    at (x ∷ xs) (suc n) len = at xs n (omega (arith, len))

    longer : (before : List Value) (n : ℕ) → length before ≡ n → length (before ++ u ∷ []) ≡ n + 1
    longer before n len = Rattle.std.proofs.lemmas.List.length-append before (u ∷ []) ∙ omega (arith, len)

pub text_is : (w : World) (k : List ℕ) → direct.text_of w (text k) ≡ Ok k
unfolding text_within
text_is w k = refl

-- what the guard's row comes to in the world, at a key that a record has
read_done : (by : ℕ) (w : World) (n : Name) (frozen : Bool) (ps : Pairs) (k : List ℕ) (v : Value) (z : List direct.Item) → is_hidden k ≡ false → ((j : ℕ) → direct.see_object w j n ≡ direct.see_record frozen j ps) → value_at k ps ≡ Some v
    → (q : List direct.Item) × (shown q ≡ []) × (direct.does by (read_pub 2) (direct.given (object n ∷ text k ∷ [])) w z ≡ record { outcome = direct.gives v; world = w; items = (z ++ direct.touched by r.to_get n (k ∷ []) ∷ []) ++ q })
read_done by w n frozen ps k v z guest known there =
    let x = keyed k ps v 2 (object n ∷ text k ∷ []) refl there in
    let s = direct.and_seen (direct.given (object n ∷ text k ∷ [])) (n ∷ []) (map (λ p. p.1) ps) in
    let f = λ (q : direct.Seen). direct.does by (on_object r.to_get (r.held 0) (r.held 1) (λ s k. r.ends (read_end s (r.held 0) k)) q.sight) (direct.and_seen (direct.given (object n ∷ text k ∷ [])) (n ∷ []) q.values) w z in
    let z' = z ++ direct.touched by r.to_get n (k ∷ []) ∷ [] in
    let g = λ (t : Result (List ℕ) Fault). direct.with_result t w z (λ us. direct.finish by (read_end (r.a_record frozen (keyed_handles 2 ps)) (r.held 0) us) s w (z ++ direct.touched by r.to_get n (us ∷ []) ∷ [])) in
    let e = λ (o : Option r.Handle). direct.finish by (cond (is_some o) (r.reads_key (r.held 0) k (cond (is_hidden k) r.undefined (shared.or_undefined o))) (r.answers (cond (is_hidden k) r.undefined (shared.or_undefined o)))) s w z' in
    let b = λ (b : Bool). direct.finish by (r.reads_key (r.held 0) k (cond b r.undefined (r.held x.0))) s w z' in
    let c = λ (o : Option Value). let d : direct.Done = record { outcome = direct.gives (direct.or_nothing o); world = w; items = z' ++ direct.got_one by s (r.held x.0) } in d in
    (direct.got_one by s (r.held x.0), shown_got by s (r.held x.0), ap f (known 2) ∙ ap g (text_is w k) ∙ ap e x.1 ∙ ap b guest ∙ ap c x.2)

some_objects : (h : Objects) (i : ℕ) (k : List ℕ) (p : heap.Property) → own h i k ≡ Some p → (n : ℕ) × (length h.list ≡ suc n)
some_objects h i k p e = in_list h.list refl
  where
    in_list : (l : List heap.Object) → h.list ≡ l → (n : ℕ) × (length h.list ≡ suc n)
    in_list [] at = let none : own h i k ≡ None = ap (λ q. find k (heap.props_of (slice_get q i))) at in absurd (none-some p (sym none ∙ e))
    in_list (x ∷ l) at = (length l, ap length at)

got_own : (h : Objects) (i : ℕ) (k : List ℕ) (p : heap.Property) → own h i k ≡ Some p → get h i k ≡ p.value
got_own h i k p e = let n = some_objects h i k p e in rw (n.1, e) refl

-- an object that is touched, on both sides
pub touched_too : (h : Objects) (by : ℕ) (t : r.Touch) (n : Name) (i : ℕ) (k : List ℕ) (z : List direct.Item) (y : List Told) → Named h n i → shown z ≡ y → shown (z ++ direct.touched by t n (k ∷ []) ∷ []) ≡ y ++ es3.touched_value by t (es.Obj i) h (k ∷ [])
touched_too h by t n i k z y named is = shown-append z _ ∙ rw is (ap (λ l. y ++ l) (touch_is h by t [] (k ∷ []) (object n) (es.Obj i) named))

-- `x.k` in the place of `readPub(x, k)`, where x has the mark of the key
pub inline_read : (first : Objects) (places : Native → ℕ) (by : ℕ) → InlineRead first places by
inline_read first places by w h z y m o is n i k p named guest found =
    let x = read_at w o n i k p named guest found in
    let d = read_done by w n x.at.frozen x.at.pairs k x.value z guest x.at.seen x.has in
    subst (λ c. DoneIs first places h m c (record { reply = value_reply (get h i k); heap = h; items = y ++ es3.touched_value by r.to_get (es.Obj i) h (k ∷ []) })) (sym d.2) (record {
      reply = subst (λ e. Val h x.value e) (sym (got_own h i k x.property x.stored)) x.same;
      objects = objects_step o;
      items = quiet (z ++ direct.touched by r.to_get n (k ∷ []) ∷ []) d.0 _ (touched_too h by r.to_get n i k z y named is) d.1;
      keeps = keeps_refl;
    })
