-- A write in line does what its guard does.
use Rattle.std.proofs.Common.{◌≡◌, ℕ, Bool, true, false, List, [], ◌∷◌, ◌++◌, length, Option, Some, None, Result, cond, refl, sym, ap, ◌∙◌, subst}
use Rattle.std.specs.Prelude.{slice_get, codes, is_some, map}
use Rattle.std.specs.Cmp.Lexicographic.{same_text}
use Rattle.std.proofs.lemmas.Option.{none-some}
use Rattle.plans.specs.Plans.{Fault}
use Rattle.caja_units.specs.Units.{same_units, is_hidden}
use Rattle.es3_objects.specs.declared.value.Value.TheVariants as es
use Rattle.es3_heap.specs.Objects as heap
use Rattle.es3_heap.specs.Objects.{Property, Objects}
use Rattle.es3_heap.specs.Properties.{find, lookup, put}
use Rattle.es3_language.specs.Natives.{value_reply}
use Rattle.rows.specs.Rows as r
use Rattle.rows.specs.Rows.{Native, keyed_handles}
use Rattle.rows.specs.Guards.{set_pub, on_object, write_end}
use Rattle.rows.specs.Public as shared
use Rattle.rows.specs.Public.{is_bad}
use Rattle.cajita_meaning.specs.World.{Name, made_name, Value, text, object, Pairs, Object, a_record, World, value_at, with_value, with_made}
use Rattle.cajita_meaning.specs.Doing as direct
use Rattle.heap_rows.specs.Marks.{set_mark}
use Rattle.heap_rows.specs.Doing as es3
use Rattle.heap_rows.specs.Doing.{guests}
use Rattle.row_simulation.specs.RowLaw.{IsFirst}
use Rattle.row_simulation.specs.Inline.{InlineWrite}
use Rattle.row_simulation.proofs.Keys.{not_true}
use Rattle.row_simulation.proofs.Relation.{EsValue, Named, Val, PairsAre, IsRecord, ObjectsAre, val_keep}
use Rattle.row_simulation.proofs.Row.{shown, DoneIs, objects_step}
use Rattle.row_simulation.proofs.Props.{swapped, props_written}
use Rattle.row_simulation.proofs.Ends.{quiet, shown_got}
use Rattle.row_simulation.proofs.Writes.{Changed, revised_record, put_at}
use Rattle.row_simulation.proofs.Marked.{mark_own, value_guests, RecordAt, IsOpen, record_at}
use Rattle.row_simulation.proofs.InlineRead.{text_is, touched_too}

-- a record has no key of a conversion
no_key : (h : Objects) (k : List ℕ) (ps : Pairs) (props : List Property) → PairsAre h ps (guests props) → is_hidden k ≡ false → find k props ≡ None → is_some (value_at k ps) ≡ true → ⊥
no_key h k ps props pairs guest none has = let v = value_guests h k ps props guest pairs has in none-some v.1 (sym none ∙ v.3)

other_key : (k name : List ℕ) → (k ≡ name → ⊥) → same_units name k ≡ false
other_key k name ne = not_true _ (λ s. ne (sym (same_text name k (sym s))))

good_key : (k : List ℕ) → is_hidden k ≡ false → same_units k (codes "toString") ≡ false → same_units k (codes "valueOf") ≡ false → is_bad k ≡ false
good_key k guest a b = rw (guest, a, b) refl

-- what the guard's row comes to in the world, at a key that may be written
write_done : (by : ℕ) (w : World) (a b : ℕ) (ps : Pairs) (k : List ℕ) (v : Value) (z : List direct.Item) → is_bad k ≡ false → slice_get (w.objects a) b ≡ Some (a_record false ps)
    → (q : List direct.Item) × (shown q ≡ []) × (direct.does by (set_pub 3) (direct.given (object (made_name a b) ∷ text k ∷ v ∷ [])) w z ≡ record { outcome = direct.gives v; world = with_made a b (a_record false (with_value k v ps)) w; items = (z ++ direct.touched by r.to_set (made_name a b) (k ∷ []) ∷ []) ++ q })
write_done by w a b ps k v z good known =
    let n = made_name a b in
    let held = direct.given (object n ∷ text k ∷ v ∷ []) in
    let s = direct.and_seen held (n ∷ []) (map (λ p. p.1) ps) in
    let seen = r.a_record false (keyed_handles 3 ps) in
    let z' = z ++ direct.touched by r.to_set n (k ∷ []) ∷ [] in
    let f = λ (q : direct.Seen). direct.does by (on_object r.to_set (r.held 0) (r.held 1) (λ s k. r.ends (write_end (shared.pub_set s k) s (r.held 0) k (r.held 2))) q.sight) (direct.and_seen held (n ∷ []) q.values) w z in
    let g = λ (t : Result (List ℕ) Fault). direct.with_result t w z (λ us. direct.finish by (write_end (shared.pub_set seen us) seen (r.held 0) us (r.held 2)) s w (z ++ direct.touched by r.to_set n (us ∷ []) ∷ [])) in
    let c = λ (bad : Bool). direct.finish by (write_end (shared.unless bad (codes "bad key") shared.of_key) seen (r.held 0) k (r.held 2)) s w z' in
    let d = λ (o : Option Object). direct.answered by (r.held 2) s (direct.changed_object (direct.with_key k v) a b o w) z' in
    let e = λ (bad : Bool). direct.answered by (r.held 2) s (with_made a b (cond bad (a_record false ps) (a_record false (with_value k v ps))) w) z' in
    (direct.got_one by s (r.held 2), shown_got by s (r.held 2), ap f (ap (direct.see_made 3) known) ∙ ap g (text_is w k) ∙ ap c good ∙ ap d known ∙ ap e good)

-- an object on which the mark for writing a key is found is a record that has the key and isn't frozen
record HasKey (w : World) (h : Objects) (n : Name) (i : ℕ) (k : List ℕ) : Type 0 where
  at : RecordAt w h n i
  made_one : IsOpen w n at.pairs
  not_frozen : at.frozen ≡ false
  no_text : same_units (codes "toString") k ≡ false
  no_value : same_units (codes "valueOf") k ≡ false

has_key : {first : Objects} {places : Native → ℕ} {m : ℕ} {h : Objects} (w : World) → ObjectsAre first places w.objects h m → (n : Name) (i : ℕ) (k : List ℕ) (p : Property) → Named h n i → is_hidden k ≡ false → lookup h i (set_mark k) ≡ Some p → HasKey w h n i k
has_key {h = h} w a n i k p named guest found =
    let mine = mark_own a (set_mark k) (λ j q e. a.sets j k q e) (length h.list) i p found in
    let x = record_at w a n i named (a.sets i k p mine).class in
    let q = x.is.props.sets k p (sym (ap (λ o. find (set_mark k) (heap.props_of o)) x.there) ∙ mine) in
    record {
      at = x;
      made_one = x.open_one q.2;
      not_frozen = q.2;
      no_text = other_key k (codes "toString") (λ e. no_key h k x.pairs x.stored.props x.is.props.pairs guest (ap (λ j. find j x.stored.props) e ∙ x.is.props.no_text) q.1);
      no_value = other_key k (codes "valueOf") (λ e. no_key h k x.pairs x.stored.props x.is.props.pairs guest (ap (λ j. find j x.stored.props) e ∙ x.is.props.no_value) q.1);
    }

-- what is written is what the guard writes
written : {first : Objects} {places : Native → ℕ} {m : ℕ} {h : Objects} (w : World) → IsFirst first → ObjectsAre first places w.objects h m → (n : Name) (i : ℕ) (k : List ℕ) (v : Value) (e : EsValue) → Named h n i → is_hidden k ≡ false → Val h v e → (x : HasKey w h n i k) → Changed first places m h (with_made x.made_one.maker x.made_one.number (a_record false (with_value k v x.at.pairs)) w).objects (put h i k e)
written {first = first} {places = places} {m = m} {h = h} w f o n i k v e named guest same x =
    let c = x.at.stored in
    let is : IsRecord h false x.at.pairs c = subst (λ b. IsRecord h b x.at.pairs c) x.not_frozen x.at.is in
    let name = subst (λ q. Named h q i) x.made_one.name named in
    subst (λ g. Changed first places m h (with_made x.made_one.maker x.made_one.number (a_record false (with_value k v x.at.pairs)) w).objects g) (sym (put_at f o i c k e x.at.there is.class is.proto (λ q r. is.props.plain k q guest r)))
    (revised_record w o x.made_one.maker x.made_one.number i c false false x.at.pairs (with_value k v x.at.pairs) _ name x.at.there x.made_one.known is (props_written k v e guest x.no_text x.no_value same is.props))

-- `x.k = v` in the place of `setPub(x, k, v)`, where x has the mark for writing the key
pub inline_write : (first : Objects) (places : Native → ℕ) (by : ℕ) → IsFirst first → InlineWrite first places by
inline_write first places by f w h z y m o is n i k v e p named same guest found =
    let x = has_key w o n i k p named guest found in
    let c = written w f o n i k v e named guest same x in
    let a = made_name x.made_one.maker x.made_one.number in
    let d = write_done by w x.made_one.maker x.made_one.number x.at.pairs k v z (good_key k guest (swapped (codes "toString") k x.no_text) (swapped (codes "valueOf") k x.no_value)) x.made_one.known in
    let b : es3.Done = record { reply = value_reply e; heap = put h i k e; items = y ++ es3.touched_value by r.to_set (es.Obj i) h (k ∷ []) } in
    subst (λ q. DoneIs first places h m (direct.does by (set_pub 3) (direct.given (object q ∷ text k ∷ v ∷ [])) w z) b) (sym x.made_one.name)
    (subst (λ q. DoneIs first places h m q b) (sym d.2) (record {
      reply = val_keep c.keeps v e same;
      objects = objects_step c.left;
      items = quiet (z ++ direct.touched by r.to_set a (k ∷ []) ∷ []) d.0 _ (touched_too h by r.to_set a i k z y (subst (λ q. Named h q i) x.made_one.name named) is) d.1;
      keeps = c.keeps;
    }))
