-- Values that correspond are shown alike, and so are the ends of two turns that came to an end together.
use Rattle.std.proofs.Common.{◌≡◌, ℕ, zero, suc, Bool, true, false, List, Option, Some, None, refl, sym, ap, ◌∙◌}
use Rattle.std.specs.Prelude.{codes}
use Rattle.page_deeds.specs.Shown as show
use Rattle.page_deeds.specs.Shown.{renamed, end_renamed, by_return, by_throw}
use Rattle.es3_objects.specs.declared.value.Value.TheVariants as es
use Rattle.es3_objects.specs.declared.value.Class.{Class}
use Rattle.es3_objects.specs.declared.value.Class.TheVariants as class
use Rattle.es3_heap.specs.Objects as heap
use Rattle.es3_heap.specs.Objects.{Property, Objects}
use Rattle.es3_heap.specs.Properties.{find, own, value_of}
use Rattle.es3_language.specs.Meaning as Target
use Rattle.es3_machine.specs.Machine.{completed}
use Rattle.rows.specs.Rows.{Maker}
use Rattle.rows.specs.Guards.{maker_name}
use Rattle.heap_rows.specs.Opening.{first, place_of}
use Rattle.cajita_meaning.specs.World as World
use Rattle.cajita_meaning.specs.World.{Name, made_name, cell_name, own_name, built_name, tools_name, facet_name, forward_name, Value, Object, a_record, an_array, an_error, a_closure, World as State}
use Rattle.cajita_meaning.specs.Direct as Source
use Rattle.cajita_page.specs.Shown.{made_shown, object_shown, shown_in, end_in}
use Rattle.page_log.specs.Shown.{text_units, shown_object, shown_value}
use Rattle.row_simulation.specs.Correspond.{EsValue, Val, Named, Is, IsNamed, IsError, value_is, Stands, ObjectsAre, tag_of_name}
use Rattle.row_simulation.proofs.Relation.{facet_class}
use Rattle.page_runner.specs.Page.{end_of_turn}
use Rattle.cajita_simulation.specs.Sides.{GivenIs}

-- an error's name and its message

held : (q : Option Property) (us : List ℕ) → value_is q (es.Text us) → text_units (value_of q) ≡ us
held None us p = absurd p
held (Some q) us p = ap text_units p

text_held : (h : Objects) (i : ℕ) (k us : List ℕ) (o : heap.Object) → heap.object_at h i ≡ Some o → value_is (find k o.props) (es.Text us) → text_units (value_of (own h i k)) ≡ us
text_held h i k us o there p = ap (λ x. text_units (value_of (find k (heap.props_of x)))) there ∙ held (find k o.props) us p

-- objects, by their class

of_class : (h : Objects) (i : ℕ) (k : Class) (n : Name) → heap.class_of (heap.object_at h i) ≡ k → Named h n i → shown_value h (es.Obj i) ≡ shown_object k h i (tag_of_name n)
of_class h i k n is named = ap (λ x. shown_object x h i (heap.tag_of (heap.object_at h i))) is ∙ ap (shown_object k h i) named

error_alike : (h : Objects) (i : ℕ) (n : Name) (maker : Maker) (message : List ℕ) (o : heap.Object) → heap.object_at h i ≡ Some o → IsError maker message o
    → shown_object class.Error h i (tag_of_name n) ≡ show.error (tag_of_name n) (maker_name maker) message
error_alike h i n maker message o there is =
    ap (λ l. show.error (tag_of_name n) l (text_units (value_of (own h i (codes "message"))))) (text_held h i (codes "name") (maker_name maker) o there is.has_name)
    ∙ ap (λ l. show.error (tag_of_name n) (maker_name maker) l) (text_held h i (codes "message") message o there is.has_message)

made_alike : (h : Objects) (n : Name) (i : ℕ) (x : Object) (o : heap.Object) → Named h n i → heap.object_at h i ≡ Some o → Is h x o → shown_value h (es.Obj i) ≡ renamed tag_of_name (made_shown n (Some x))
made_alike h n i (a_record frozen ps) o named there is = of_class h i class.Object n (ap heap.class_of there ∙ is.class) named
made_alike h n i (an_array frozen vs) o named there is = of_class h i class.Array n (ap heap.class_of there ∙ is.class) named
made_alike h n i (a_closure f chain) o named there is = of_class h i class.Function n (ap heap.class_of there ∙ is.class) named
made_alike h n i (an_error maker message) o named there is = of_class h i class.Error n (ap heap.class_of there ∙ is.class) named ∙ error_alike h i n maker message o there is

named_alike : (w : State) (h : Objects) (n : Name) (i : ℕ) (o : heap.Object) → Named h n i → heap.object_at h i ≡ Some o → IsNamed w.objects h n o → shown_value h (es.Obj i) ≡ renamed tag_of_name (object_shown w n)
named_alike w h (made_name m n) i o named there is = made_alike h (made_name m n) i is.object o named there is.is ∙ ap (λ x. renamed tag_of_name (made_shown (made_name m n) x)) (sym is.known)
named_alike w h (cell_name k zero) i o named there is = of_class h i class.Object (cell_name k zero) (ap heap.class_of there ∙ is.class) named
named_alike w h (cell_name k (suc j)) i o named there is = of_class h i class.Function (cell_name k (suc j)) (ap heap.class_of there ∙ is.1.is.class) named
named_alike w h (own_name m j) i o named there is = of_class h i class.Function (own_name m j) (ap heap.class_of there ∙ is.1.is.class) named
named_alike w h (built_name f) i o named there is = of_class h i class.Function (built_name f) (ap heap.class_of there ∙ is.1.is.class) named
named_alike w h (tools_name t) i o named there is = of_class h i class.Object (tools_name t) (ap heap.class_of there ∙ is.class) named
named_alike w h (facet_name root k) i o named there is = of_class h i class.Node (facet_name root k) (ap heap.class_of there ∙ facet_class root k o is) named
named_alike w h (forward_name m p k j) i o named there is = absurd is

standing_alike : (w : State) (h : Objects) (n : Name) (i : ℕ) → Named h n i → Stands w.objects h n i → shown_value h (es.Obj i) ≡ renamed tag_of_name (object_shown w n)
standing_alike w h n i named s = named_alike w h n i s.stored named s.there s.is

-- values, and the ends of turns

module _ (w : State) (h : Objects) (m : ℕ) (are : ObjectsAre first place_of w.objects h m) where
  pub value_alike : (v : Value) (e : EsValue) → Val h v e → shown_value h e ≡ renamed tag_of_name (shown_in w v)
  value_alike World.undefined es.Undefined p = refl
  value_alike World.null es.Null p = refl
  value_alike (World.truth a) (es.Bool b) p = ap show.truth (sym p)
  value_alike (World.number a) (es.Num b) p = ap show.number (sym p)
  value_alike (World.text a) (es.Text b) p = ap show.text (sym p)
  value_alike (World.object n) (es.Obj i) p = standing_alike w h n i p (are.each n i p)
  value_alike _ _ p = absurd p

  -- how a turn ended: a load gave its value as a program does, a call as a function does
  pub given_alike : (load : Bool) (v : Value) (e : Target.Completion) → GivenIs load h v e → end_of_turn h (completed e) ≡ end_renamed tag_of_name (end_in w (Source.gave v))
  given_alike true v (Target.normal (Some e)) p = ap by_return (value_alike v e p)
  given_alike false v (Target.gave e) p = ap by_return (value_alike v e p)
  given_alike load v e p = absurd p

  pub thrown_alike : (v : Value) (e : EsValue) → Val h v e → end_of_turn h (completed (Target.threw e)) ≡ end_renamed tag_of_name (end_in w (Source.threw v))
  thrown_alike v e p = ap by_throw (value_alike v e p)
