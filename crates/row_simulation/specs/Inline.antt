-- What a printed text may do in the place of a guard, where it finds a mark.
use Rattle.std.specs.Prelude.{◌≡◌, ℕ, false, List, [], ◌∷◌, ◌++◌, Some}
use Rattle.caja_units.specs.Units.{is_hidden}
use Rattle.es3_objects.specs.declared.value.Value.TheVariants.{Obj}
use Rattle.es3_heap.specs.Objects.{Objects, Property}
use Rattle.es3_heap.specs.Properties.{lookup, get, put}
use Rattle.es3_language.specs.Natives.{value_reply}
use Rattle.rows.specs.Rows.{Native, to_get, to_set}
use Rattle.rows.specs.Guards.{read_pub, set_pub}
use Rattle.cajita_meaning.specs.World.{Name, Value, object, text, World}
use Rattle.cajita_meaning.specs.Doing as direct
use Rattle.heap_rows.specs.Marks.{read_mark, set_mark}
use Rattle.heap_rows.specs.Doing.{Told, touched_value}
use Rattle.row_simulation.specs.Correspond.{EsValue, Named, Val, ObjectsAre}
use Rattle.row_simulation.specs.RowLaw.{shown, DoneIs}

-- `x.k` in the place of `readPub(x, k)`, where a lookup at x finds the mark for reading k
abbrev pub InlineRead : Objects → (Native → ℕ) → ℕ → Type 0
InlineRead first places by =
    (w : World) (h : Objects) (z : List direct.Item) (y : List Told) (m : ℕ) → ObjectsAre first places w.objects h m → shown z ≡ y
    → (n : Name) (i : ℕ) (k : List ℕ) (mark : Property) → Named h n i → is_hidden k ≡ false → lookup h i (read_mark k) ≡ Some mark
    → DoneIs first places h m (direct.does by (read_pub 2) (direct.given (object n ∷ text k ∷ [])) w z)
    (record { reply = value_reply (get h i k); heap = h; items = y ++ touched_value by to_get (Obj i) h (k ∷ []) })

-- `x.k = v` in the place of `setPub(x, k, v)`, where a lookup at x finds the mark for writing k
abbrev pub InlineWrite : Objects → (Native → ℕ) → ℕ → Type 0
InlineWrite first places by =
    (w : World) (h : Objects) (z : List direct.Item) (y : List Told) (m : ℕ) → ObjectsAre first places w.objects h m → shown z ≡ y
    → (n : Name) (i : ℕ) (k : List ℕ) (v : Value) (e : EsValue) (mark : Property) → Named h n i → Val h v e → is_hidden k ≡ false → lookup h i (set_mark k) ≡ Some mark
    → DoneIs first places h m (direct.does by (set_pub 3) (direct.given (object n ∷ text k ∷ v ∷ [])) w z)
    (record { reply = value_reply e; heap = put h i k e; items = y ++ touched_value by to_set (Obj i) h (k ∷ []) })
