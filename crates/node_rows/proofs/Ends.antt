-- What is told of a deed, as a value, is how a row ends that comes to the same.
use Rattle.std.proofs.Common.{◌≡◌, ℕ, suc, ◌≤◌, true, false, List, [], ◌∷◌, ◌++◌, Option, Some, None, length, cond, refl, sym, ap, ◌∙◌, subst, arith}
use Rattle.std.specs.Prelude.{nat_lt, option_map}
use Rattle.std.proofs.lemmas.Bool.Decides.{nat_tests}
use Rattle.std.proofs.lemmas.List.{length-map, length-append}
use Rattle.std.proofs.lemmas.Option.{slice_get-map}
use Rattle.es3_objects.specs.declared.value.Value.{Value}
use Rattle.es3_objects.specs.declared.value.Value.TheVariants as v
use Rattle.es3_heap.specs.Objects.{Objects}
use Rattle.es3_heap.specs.Making.{array_object}
use Rattle.es3_language.specs.Natives.{Turn, value_reply, stop_reply}
use Rattle.plans.specs.Plans.{Fault}
use Rattle.row_outcomes.specs.Comes.{throws}
use Rattle.row_outcomes.specs.Arrays.{new_array}
use Rattle.doc_nodes.specs.Rows.{Doc, nodes_of}
use Rattle.node_deeds.specs.declared.told.Change as deeds
use Rattle.node_deeds.specs.declared.deeds.Asked.{Asked}
use Rattle.node_deeds.specs.Told.{Told, told_null, told_text, told_node, told_nodes, told_error, Deed}
use Rattle.deed_laws.specs.Deeds.{IsOfRoot}
use Rattle.rows.specs.Rows.{most_items}
use Rattle.rows.specs.Document.{Node, Change, sets_attribute, sets_text, appends, removes, changed}
use Rattle.heap_rows.specs.Doing.{Page, Kept, makes, too_long, gives, changed_node, renoded, or_nothing, facet_at, facets_at}
use Rattle.heap_rows.specs.Doing as rows
use Rattle.doc_views.specs.Seen.{node_seen, nodes_seen, Stands, AllStand}
use Rattle.doc_views.specs.Clear.{IsClear}
use Rattle.doc_views.specs.Came.{Came, came_null, came_text, came_node, came_nodes, came_refused, came_changed, came_added, answer_of, line_of, IsQuiet, IsCame}
use Rattle.dom_facets.specs.Facets as facets
use Rattle.tamed_dom.specs.Lent.{Lent, Held, Facet, told, with_facets, facet, grown}
use Rattle.tamed_dom.specs.Ends as lent
use Rattle.tamed_dom.specs.Ends.{stops, threw}
use Rattle.tamed_dom.specs.Methods.{shown, shown_all, told_turn, deed_turn}
use Rattle.node_rows.specs.View.{place_or, facet_seen, facets_seen, page_seen, AreSame}
use Rattle.node_rows.specs.Whole.{IsWhole}
use Rattle.node_rows.specs.Promises.{line_told, lines_told, DoesItsRow}
use Rattle.node_rows.proofs.Changed.{few_changed}
use Rattle.node_rows.proofs.Pages.{left, IsKept, grown_even, kept, new_is}

-- what a change answers: x is the first argument
abbrev pub answered : Change → Value → Value
answered (sets_attribute name w) x = v.Undefined
answered (sets_text us) x = v.Undefined
answered (appends j) x = x
answered (removes j) x = x

-- how the row ends, at the node k of the root r
abbrev pub end_of : Value → ℕ → ℕ → ℕ → Objects → Page → Came → rows.Came
end_of x by r k h g came_null = record { done = gives v.Null h []; page = g }
end_of x by r k h g (came_text us) = record { done = gives (v.Text us) h []; page = g }
end_of x by r k h g (came_node j) = record { done = gives (facet_at (g.facets r) j) h []; page = g }
end_of x by r k h g (came_nodes js) = record { done = new_array by h (facets_at (g.facets r) js); page = g }
end_of x by r k h g (came_refused us) = record { done = throws us by h; page = g }
end_of x by r k h g (came_changed c) = let e = renoded r (changed c k (g.nodes r)) h g in record { done = gives (answered c x) e.heap (changed_node r k c ∷ []); page = e.page }
end_of x by r k h g (came_added o) = let e = renoded r (g.nodes r ++ o ∷ []) h g in record { done = gives (v.Obj (length h.list)) e.heap []; page = e.page }

-- nothing is changed
pub same_page : (cells : ℕ → Value) (queues : ℕ → List Value) (z : Lent) → AreSame (page_seen cells queues z) (page_seen cells queues (told z))
same_page cells queues z = record { cells = λ i. refl; queues = λ m. refl; nodes = λ s. refl; facets = λ s. refl; handlers = λ s. refl }

pub told_whole : (z : Lent) → IsWhole z → IsWhole (told z)
told_whole z w = record { doc = w.doc; clear = w.clear; objects = w.objects; handlers = w.handlers }

-- the object of a node
facet_is : (n o : ℕ) (h : Objects) (z : Lent) → ◌≡◌ {A = Option ℕ} (facets.facet_at z.facets n) (Some o) → facet n h z ≡ record { object = o; heap = h; lent = z }
facet_is n o h z at = ap (λ x. let f = facets.facet_or_new x n z.doc h z.facets in record { object = f.object; heap = f.heap; lent = with_facets f.facets z }) at

facet_in_row : (z : Lent) (m r j o : ℕ) → IsWhole z → Stands z.doc m r j → ◌≡◌ {A = Option ℕ} (facets.facet_at z.facets m) (Some o) → facet_at (facets_seen z.doc z.facets r) j ≡ v.Obj o
facet_in_row z m r j o w is at =
    ap (λ q. or_nothing (option_map v.Obj q)) (slice_get-map (facet_seen z.facets) (nodes_of z.doc.roots r) j ∙ ap (option_map (facet_seen z.facets)) (w.doc.owned.to m r j is))
    ∙ ap (λ q. v.Obj (place_or q)) at

facets_are : (ms js : List ℕ) (r : ℕ) (h : Objects) (z : Lent) → IsWhole z → AllStand z.doc r ms js → facets.facets ms z.doc h z.facets ≡ record { values = facets_at (facets_seen z.doc z.facets r) js; heap = h; facets = z.facets }
unfolding facets.facets
facets_are [] [] r h z w all = refl
facets_are [] (j ∷ js) r h z w all = absurd all
facets_are (m ∷ ms) [] r h z w all = absurd all
facets_are (m ∷ ms) (j ∷ js) r h z w all =
    let a = w.objects m r j all.0 in
    let rest = facets_are ms js r h z w all.1 in
    ap (λ x. let f = facets.facet_or_new x m z.doc h z.facets in let more = facets.facets ms z.doc f.heap f.facets in record { values = v.Obj f.object ∷ more.values; heap = more.heap; facets = more.facets }) a.1
    ∙ ap (λ (more : facets.Facets). record { values = v.Obj a.0 ∷ more.values; heap = more.heap; facets = more.facets }) rest
    ∙ ap (λ y. record { values = y ∷ facets_at (facets_seen z.doc z.facets r) js; heap = h; facets = z.facets }) (sym (facet_in_row z m r j a.0 w all.0 a.1))

line_same : (r k : ℕ) (c : Change) → line_told (line_of r k c) ≡ changed_node r k c
line_same r k (sets_attribute name v) = refl
line_same r k (sets_text us) = refl
line_same r k (appends j) = refl
line_same r k (removes j) = refl

told_before : (z : Lent) (u : Told) (x : Value) (by : ℕ) (h : Objects) (d : Doc) (c : Option deeds.Change) → Turn Lent
told_before z u x by h d c = let g = grown (length z.doc.rows) h (left d c z) in told_turn u x by g.heap g.lent

quiet_turn : (e : Deed) (t : Told) (x : Value) (by : ℕ) (h : Objects) (z : Lent) → e.told ≡ t → IsQuiet z.doc e → deed_turn e x by h (told z) ≡ told_turn t x by h (told z)
unfolding told_before
quiet_turn e t x by h z is quiet =
    let at = length z.doc.rows in
    let same : nat_lt at at ≡ false = grind (arith, nat_tests) in
    ap (λ d. told_before z e.told x by h d e.change) quiet.0
    ∙ ap (λ c. told_before z e.told x by h z.doc c) quiet.1
    ∙ ap (λ u. told_before z u x by h z.doc None) is
    ∙ ap (λ (g : Held). told_turn t x by g.heap g.lent) (grown_even at h (told z) same)

module _ (cells : ℕ → Value) (queues : ℕ → List Value) (r k : ℕ) (x : Value) (by : ℕ) (h : Objects) (z : Lent) (w : IsWhole z) where
  quiet_end : (e : Deed) (t : Told) (c : rows.Came) → e.told ≡ t → IsQuiet z.doc e → DoesItsRow cells queues (told_turn t x by h (told z)) c → DoesItsRow cells queues (deed_turn e x by h (told z)) c
  quiet_end e t c is quiet does = subst (λ u. DoesItsRow cells queues u c) (sym (quiet_turn e t x by h z is quiet)) does

  -- a value is answered
  quiet_gives : (y : Value) → DoesItsRow cells queues (lent.gives y h (told z)) (record { done = gives y h []; page = page_seen cells queues z })
  quiet_gives y = record { reply = refl; heap = refl; items = refl; page = same_page cells queues z; whole = told_whole z w }

  -- an error is thrown
  pub throws_too : (us : List ℕ) → DoesItsRow cells queues (threw us by h (told z)) (record { done = throws us by h; page = page_seen cells queues z })
  throws_too us = record { reply = refl; heap = refl; items = refl; page = same_page cells queues z; whole = told_whole z w }

  -- the run stops
  pub stops_too : (e : Fault) → DoesItsRow cells queues (stops e h (told z)) (record { done = record { reply = stop_reply e; heap = h; items = [] }; page = page_seen cells queues z })
  stops_too e = record { reply = refl; heap = refl; items = refl; page = same_page cells queues z; whole = told_whole z w }

  shows : (m j : ℕ) → Stands z.doc m r j → DoesItsRow cells queues (shown (facet m h (told z))) (record { done = gives (facet_at (facets_seen z.doc z.facets r) j) h []; page = page_seen cells queues z })
  shows m j is =
      let a = w.objects m r j is in
      subst (λ (f : Facet). DoesItsRow cells queues (shown f) (record { done = gives (facet_at (facets_seen z.doc z.facets r) j) h []; page = page_seen cells queues z })) (sym (facet_is m a.0 h (told z) a.1))
      (subst (λ y. DoesItsRow cells queues (lent.gives (v.Obj a.0) h (told z)) (record { done = gives y h []; page = page_seen cells queues z })) (sym (facet_in_row z m r j a.0 w is a.1)) (quiet_gives (v.Obj a.0)))

  array_items : (ys : List Value) → (new_array by h ys).items ≡ []
  array_items ys = elim (nat_lt (length ys) most_items) as (λ b. (cond b (makes value_reply by (array_object ys) h []) (too_long h [])).items ≡ []) [ true ↦ refl | false ↦ refl ]

  shows_all : (ms js : List ℕ) → AllStand z.doc r ms js → DoesItsRow cells queues (shown_all by (facets.facets ms z.doc h z.facets) (told z)) (record { done = new_array by h (facets_at (facets_seen z.doc z.facets r) js); page = page_seen cells queues z })
  shows_all ms js all =
      let ys = facets_at (facets_seen z.doc z.facets r) js in
      subst (λ (f : facets.Facets). DoesItsRow cells queues (shown_all by f (told z)) (record { done = new_array by h ys; page = page_seen cells queues z })) (sym (facets_are ms js r h z w all))
      (record { reply = refl; heap = refl; items = array_items ys; page = same_page cells queues z; whole = told_whole z w })

  -- a change is answered as its row answers it
  change_answered : (c : Change) (g : Held) (e : Kept) (l : Option deeds.Change) → l ≡ Some (line_of r k c) → IsKept cells queues l e g
      → DoesItsRow cells queues (told_turn (answer_of c) x by g.heap g.lent) (record { done = gives (answered c x) e.heap (changed_node r k c ∷ []); page = e.page })
  change_answered c g e l is so = at c (sym (ap lines_told (so.change ∙ is) ∙ ap (λ t. t ∷ []) (line_same r k c)))
    where
      at : (o : Change) → changed_node r k c ∷ [] ≡ lines_told g.lent.change → DoesItsRow cells queues (told_turn (answer_of o) x by g.heap g.lent) (record { done = gives (answered o x) e.heap (changed_node r k c ∷ []); page = e.page })
      at (sets_attribute name v) items = record { reply = refl; heap = so.heap; items = items; page = so.page; whole = so.whole }
      at (sets_text us) items = record { reply = refl; heap = so.heap; items = items; page = so.page; whole = so.whole }
      at (appends j) items = record { reply = refl; heap = so.heap; items = items; page = so.page; whole = so.whole }
      at (removes j) items = record { reply = refl; heap = so.heap; items = items; page = so.page; whole = so.whole }

  -- a new node is shown
  new_shown : (g : Held) (e : Kept) (l : Option deeds.Change) (n : ℕ) → l ≡ None → IsKept cells queues l e g → ◌≡◌ {A = Option ℕ} (facets.facet_at g.lent.facets n) (Some (length h.list))
      → DoesItsRow cells queues (shown (facet n g.heap g.lent)) (record { done = gives (v.Obj (length h.list)) e.heap []; page = e.page })
  new_shown g e l n is so at =
      subst (λ (f : Facet). DoesItsRow cells queues (shown f) (record { done = gives (v.Obj (length h.list)) e.heap []; page = e.page })) (sym (facet_is n (length h.list) g.heap g.lent at))
      (record { reply = refl; heap = so.heap; items = sym (ap lines_told (so.change ∙ is)); page = so.page; whole = so.whole })

  -- how many nodes the root has
  many : (d : Doc) → length (nodes_seen d r) ≡ length (nodes_of d.roots r)
  many d = length-map (nodes_of d.roots r) (node_seen d)

  pub ends_so : (q : Asked) (e : Deed) (c : Came) → IsOfRoot r q z.doc e → IsClear e.doc → IsCame r k z.doc e c → DoesItsRow cells queues (deed_turn e x by h (told z)) (end_of x by r k h (page_seen cells queues z) c)
  ends_so q e came_null of clear comes = quiet_end e told_null (end_of x by r k h (page_seen cells queues z) came_null) comes.0 comes.1 (quiet_gives v.Null)
  ends_so q e (came_text us) of clear comes = quiet_end e (told_text us) (end_of x by r k h (page_seen cells queues z) (came_text us)) comes.0 comes.1 (quiet_gives (v.Text us))
  ends_so q e (came_node j) of clear comes = quiet_end e (told_node comes.0) (end_of x by r k h (page_seen cells queues z) (came_node j)) comes.1 comes.3 (shows comes.0 j comes.2)
  ends_so q e (came_nodes js) of clear comes = quiet_end e (told_nodes comes.0) (end_of x by r k h (page_seen cells queues z) (came_nodes js)) comes.1 comes.3 (shows_all comes.0 js comes.2)
  ends_so q e (came_refused us) of clear comes =
      quiet_end e (told_error comes.0) (end_of x by r k h (page_seen cells queues z) (came_refused us)) comes.1 comes.3
      (subst (λ y. DoesItsRow cells queues (threw y by h (told z)) (record { done = throws us by h; page = page_seen cells queues z })) (sym comes.2) (throws_too us))
  ends_so q e (came_changed c) of clear comes =
      let ns = changed c k (nodes_seen z.doc r) in
      let few = few_changed c k (nodes_seen z.doc r) in
      let as_many = ap (λ (l : List Node). length l) comes.2 in
      let fits : length (nodes_of e.doc.roots r) ≤ suc (length (nodes_of z.doc.roots r)) = omega (arith, many e.doc, many z.doc, as_many, few) in
      let left_so = kept cells queues r e.doc e.change h z w of.reached clear of.grows of.within fits in
      let g = grown (length z.doc.rows) h (left e.doc e.change z) in
      subst (λ t. DoesItsRow cells queues (told_turn t x by g.heap g.lent) (end_of x by r k h (page_seen cells queues z) (came_changed c))) (sym comes.0)
      (subst (λ (l : List Node). DoesItsRow cells queues (told_turn (answer_of c) x by g.heap g.lent) (let m = renoded r l h (page_seen cells queues z) in record { done = gives (answered c x) m.heap (changed_node r k c ∷ []); page = m.page })) comes.2
      (change_answered c g (renoded r (nodes_seen e.doc r) h (page_seen cells queues z)) e.change comes.1 left_so))
  ends_so q e (came_added o) of clear comes =
      let ns = nodes_seen z.doc r ++ o ∷ [] in
      let longer = length-append (nodes_seen z.doc r) (o ∷ []) in
      let as_many = ap (λ (l : List Node). length l) comes.3 in
      let one : length (nodes_of e.doc.roots r) ≡ suc (length (nodes_of z.doc.roots r)) = omega (arith, many e.doc, many z.doc, as_many, longer) in
      let left_so = kept cells queues r e.doc e.change h z w of.reached clear of.grows of.within (omega (arith, one)) in
      let at = new_is cells queues r e.doc e.change h z w of.reached clear of.grows of.within one in
      let g = grown (length z.doc.rows) h (left e.doc e.change z) in
      subst (λ t. DoesItsRow cells queues (told_turn t x by g.heap g.lent) (end_of x by r k h (page_seen cells queues z) (came_added o))) (sym comes.0)
      (subst (λ (l : List Node). DoesItsRow cells queues (shown (facet (length z.doc.rows) g.heap g.lent)) (let m = renoded r l h (page_seen cells queues z) in record { done = gives (v.Obj (length h.list)) m.heap []; page = m.page })) comes.3
      (new_shown g (renoded r (nodes_seen e.doc r) h (page_seen cells queues z)) e.change (length z.doc.rows) comes.1 left_so at))
