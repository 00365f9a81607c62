-- Each method of a node does its row.
use Rattle.std.proofs.Common.{◌≡◌, ℕ, suc, ◌<◌, Bool, true, List, [], ◌∷◌, ◌++◌, Option, Some, None, Result, Ok, Err, length, cond, refl, sym, ap, ◌∙◌, subst}
use Rattle.std.specs.Prelude.{nat_eq, codes}
use Rattle.std.specs.Option.{option_map}
use Rattle.plans.specs.Plans.{Fault}
use Rattle.es3_objects.specs.declared.value.Value.{Value}
use Rattle.es3_objects.specs.declared.value.Tag.TheVariants as tag
use Rattle.es3_heap.specs.Objects.{Objects}
use Rattle.es3_convert.specs.Conversions.{and_then, text_of}
use Rattle.html_kept.specs.Table.{Answers}
use Rattle.doc_nodes.specs.Rows.{owner_of}
use Rattle.doc_nodes.specs.Changes.{root_in}
use Rattle.node_deeds.specs.declared.deeds.Asked.{Asked}
use Rattle.node_deeds.specs.declared.deeds.Asked.TheVariants as asked
use Rattle.node_deeds.specs.Deeds.{deed}
use Rattle.deed_laws.specs.Deeds.{children_given, AreThere}
use Rattle.deed_laws.proofs.Deeds.{deed_is_of_root}
use Rattle.rows.specs.Rows.{Branch, Row, held, as_text, as_same_root}
use Rattle.rows.specs.Arguments as rows
use Rattle.rows.specs.Branches.{branch, around as nodes_around}
use Rattle.rows.specs.Nodes.{Rules, refused, on_node, node_argument}
use Rattle.rows.specs.Table.{row_of}
use Rattle.heap_rows.specs.Doing.{Page, Came, Around, named, around, with_result, facets_at, does}
use Rattle.heap_rows.specs.Opening.{place_of}
use Rattle.row_outcomes.specs.Arguments.{argument}
use Rattle.doc_views.specs.Seen.{nodes_seen, Stands}
use Rattle.doc_views.specs.Came.{IsRuled, in_root, given, came, came_at}
use Rattle.doc_views.specs.Rowed.{last}
use Rattle.doc_views.proofs.Views.{there_in, number_within}
use Rattle.doc_views.proofs.Came.{deed_is_seen}
use Rattle.doc_views.proofs.Rowed.{rows_come}
use Rattle.dom_facets.specs.Facets.{node_of}
use Rattle.tamed_dom.specs.declared.methods.NodeMethod.{NodeMethod}
use Rattle.tamed_dom.specs.declared.methods.NodeMethod.TheVariants as m
use Rattle.tamed_dom.specs.Lent.{Lent, told}
use Rattle.tamed_dom.specs.Methods.{deed_turn, with_text, asked_turn, method_turn, received, node_turn}
use Rattle.node_rows.specs.View.{facets_seen, page_seen}
use Rattle.node_rows.specs.Whole.{IsWhole}
use Rattle.node_rows.specs.Promises.{of_method, DoesItsRow}
use Rattle.node_rows.proofs.Ends.{end_of, ends_so, throws_too, stops_too}
use Rattle.node_rows.proofs.Received.{node_is, around_none}
use Rattle.node_rows.proofs.Rows.{as_text_row, no_receiver, at_node}
use Rattle.node_rows.proofs.Ended.{ends_alone, ends_with_child}
use Rattle.node_rows.proofs.Children.{no_child, child_row, same_row}
use Rattle.node_rows.proofs.Listening.{on_does}

module _ (a : Answers) (rules : Rules) (by : ℕ) (this : Value) (args : List Value) (h : Objects) (z : Lent) (cells : ℕ → Value) (queues : ℕ → List Value) (ruled : IsRuled a rules) (w : IsWhole z)
    (n r k : ℕ) (name : named h this ≡ tag.Facet r k) (stands : Stands z.doc n r k) (there : k < length (nodes_seen z.doc r)) where
  -- what is asked of the node
  asked_does : (q : Asked) (c : Came) → AreThere z.doc (children_given q) → c ≡ end_of (argument 0 args) by r k h (page_seen cells queues z) (came_at rules r k z.doc q) → DoesItsRow cells queues (deed_turn (deed a q n z.doc) (argument 0 args) by h (told z)) c
  asked_does q c given same =
      let e = deed a q n z.doc in
      let s = deed_is_seen a rules q n r k z.doc ruled w.doc w.clear stands given in
      let of = deed_is_of_root a q n r z.doc w.doc (ap root_in stands) given in
      subst (DoesItsRow cells queues (deed_turn e (argument 0 args) by h (told z))) (sym same) (ends_so cells queues r k (argument 0 args) by h z w q e (came_at rules r k z.doc q) of s.clear s.comes)

  -- what is left of its row, where no child is given
  last_does : (q : Asked) → AreThere z.doc (children_given q) → came_at rules r k z.doc q ≡ came rules (nodes_seen z.doc r) k (Some k) q
      → DoesItsRow cells queues (deed_turn (deed a q n z.doc) (argument 0 args) by h (told z))
      (does place_of by (last rules (suc (length args)) q true (branch (suc (length args)) k (nodes_seen z.doc r)) (branch (suc (length args)) k (nodes_seen z.doc r))) (this ∷ (args ++ facets_at (facets_seen z.doc z.facets r) (nodes_around (nodes_seen z.doc r) k))) h (page_seen cells queues z) [])
  last_does q given same =
      let g = page_seen cells queues z in
      let i = suc (length args) in
      let b = branch i k (nodes_seen z.doc r) in
      let seen = facets_at (facets_seen z.doc z.facets r) (nodes_around (nodes_seen z.doc r) k) in
      asked_does q (does place_of by (last rules i q true b b) (this ∷ (args ++ seen)) h g []) given
      (ends_alone by this args h g r k name (came rules (nodes_seen z.doc r) k (Some k) q) (last rules i q true b b) (rows_come rules i i (nodes_seen z.doc r) k q true b)
      ∙ ap (end_of (argument 0 args) by r k h g) (sym same))

  -- nothing is taken of the arguments
  of_none : (q : Asked) → AreThere z.doc (children_given q) → came_at rules r k z.doc q ≡ came rules (nodes_seen z.doc r) k (Some k) q
      → DoesItsRow cells queues (deed_turn (deed a q n z.doc) (argument 0 args) by h (told z)) (does place_of by (on_node (λ b. last rules (suc (length args)) q true b b)) (this ∷ args) h (page_seen cells queues z) [])
  of_none q given same =
      subst (DoesItsRow cells queues (deed_turn (deed a q n z.doc) (argument 0 args) by h (told z))) (sym (at_node by this args h (page_seen cells queues z) r k name there (λ b. last rules (suc (length args)) q true b b))) (last_does q given same)

  -- a text is converted first
  text_first : (t : Result (List ℕ) Fault) (given : List ℕ → Result (Option Asked) Fault) (c : List ℕ → Came) → ((us : List ℕ) → DoesItsRow cells queues (asked_turn a (given us) n (argument 0 args) by h (told z)) (c us))
      → DoesItsRow cells queues (asked_turn a (and_then t given) n (argument 0 args) by h (told z)) (with_result t h (page_seen cells queues z) [] c)
  text_first (Ok us) given c each = each us
  text_first (Err e) given c each = stops_too cells queues r k this by h z w e

  -- one text
  of_text : (f : List ℕ → Asked) → ((us : List ℕ) → AreThere z.doc (children_given (f us))) → ((us : List ℕ) → came_at rules r k z.doc (f us) ≡ came rules (nodes_seen z.doc r) k (Some k) (f us))
      → DoesItsRow cells queues (asked_turn a (with_text f (text_of h (argument 0 args))) n (argument 0 args) by h (told z))
      (does place_of by (on_node (λ b. as_text (rows.argument 0 (suc (length args))) (λ us. last rules (suc (length args)) (f us) true b b))) (this ∷ args) h (page_seen cells queues z) [])
  of_text f given same =
      let g = page_seen cells queues z in
      let i = suc (length args) in
      let x = argument 0 args in
      let b = branch i k (nodes_seen z.doc r) in
      let seen = facets_at (facets_seen z.doc z.facets r) (nodes_around (nodes_seen z.doc r) k) in
      subst (DoesItsRow cells queues (asked_turn a (with_text f (text_of h x)) n x by h (told z)))
      (sym (at_node by this args h g r k name there (λ b. as_text (rows.argument 0 i) (λ us. last rules i (f us) true b b)) ∙ as_text_row by this args h g 0 seen (λ us. last rules i (f us) true b b)))
      (text_first (text_of h x) (λ us. Ok (Some (f us))) (λ us. does place_of by (last rules i (f us) true b b) (this ∷ (args ++ seen)) h g []) (λ us. last_does (f us) (given us) (same us)))

  -- two, from the left
  of_texts : DoesItsRow cells queues (method_turn a m.SetAttribute n args by h (told z)) (does place_of by (row_of rules (of_method m.SetAttribute) (suc (length args))) (this ∷ args) h (page_seen cells queues z) [])
  of_texts =
      let g = page_seen cells queues z in
      let i = suc (length args) in
      let x = argument 0 args in
      let b = branch i k (nodes_seen z.doc r) in
      let seen = facets_at (facets_seen z.doc z.facets r) (nodes_around (nodes_seen z.doc r) k) in
      let second = λ (us : List ℕ). as_text (rows.argument 1 i) (λ v. last rules i (asked.SetAttribute us v) true b b) in
      subst (DoesItsRow cells queues (method_turn a m.SetAttribute n args by h (told z)))
      (sym (at_node by this args h g r k name there (λ b. as_text (rows.argument 0 i) (λ us. as_text (rows.argument 1 i) (λ v. last rules i (asked.SetAttribute us v) true b b))) ∙ as_text_row by this args h g 0 seen second))
      (text_first (text_of h x) (λ us. with_text (asked.SetAttribute us) (text_of h (argument 1 args))) (λ us. does place_of by (second us) (this ∷ (args ++ seen)) h g []) (λ us.
      subst (DoesItsRow cells queues (asked_turn a (with_text (asked.SetAttribute us) (text_of h (argument 1 args))) n x by h (told z))) (sym (as_text_row by this args h g 1 seen (λ v. last rules i (asked.SetAttribute us v) true b b)))
      (text_first (text_of h (argument 1 args)) (λ v. Ok (Some (asked.SetAttribute us v))) (λ v. does place_of by (last rules i (asked.SetAttribute us v) true b b) (this ∷ (args ++ seen)) h g []) (λ v. last_does (asked.SetAttribute us v) tt refl))))

  -- a child
  of_child : (f : ℕ → Asked) (go : Bool → Branch → Branch → Row) (o : Option ℕ) → node_of h z.doc (argument 0 args) ≡ o → ((c : ℕ) → children_given (f c) ≡ c ∷ []) → ((c : ℕ) → given r z.doc (f c) ≡ in_root r (owner_of z.doc c))
      → ((c : ℕ) (same : Bool) (x b : Branch) → go same x b ≡ last rules (suc (length args)) (f c) same x b)
      → DoesItsRow cells queues (asked_turn a (Ok (option_map f o)) n (argument 0 args) by h (told z))
      (does place_of by (on_node (λ b. node_argument (rows.argument 0 (suc (length args))) (λ x. as_same_root (held 0) (rows.argument 0 (suc (length args))) (λ same. go same x b)))) (this ∷ args) h (page_seen cells queues z) [])
  of_child f go None is child number so =
      let g = page_seen cells queues z in
      let i = suc (length args) in
      let seen = facets_at (facets_seen z.doc z.facets r) (nodes_around (nodes_seen z.doc r) k) in
      let take = λ (b x : Branch). as_same_root (held 0) (rows.argument 0 i) (λ same. go same x b) in
      subst (DoesItsRow cells queues (asked_turn a (Ok (option_map f None)) n (argument 0 args) by h (told z)))
      (sym (at_node by this args h g r k name there (λ b. node_argument (rows.argument 0 i) (take b)) ∙ no_child by this args h g seen (take (branch i k (nodes_seen z.doc r))) (λ j. around_none h g z.doc j (argument 0 args) refl is)))
      (throws_too cells queues r k this by h z w (codes "bad argument"))
  of_child f go (Some c) is child number so =
      let g = page_seen cells queues z in
      let i = suc (length args) in
      let ns = nodes_seen z.doc r in
      let p = node_is h z.doc (argument 0 args) c w.doc.owned is in
      let child_there = number_within z.doc c p.root p.number w.doc.owned p.stands in
      let b = branch i k ns in
      let seen = facets_at (facets_seen z.doc z.facets r) (nodes_around ns k) in
      let x = branch (length (this ∷ (args ++ seen))) p.number (nodes_seen z.doc p.root) in
      let more = facets_at (facets_seen z.doc z.facets p.root) (nodes_around (nodes_seen z.doc p.root) p.number) in
      let same = nat_eq p.root r in
      let take = λ (b x : Branch). as_same_root (held 0) (rows.argument 0 i) (λ same. go same x b) in
      let row : does place_of by (on_node (λ b. node_argument (rows.argument 0 i) (take b))) (this ∷ args) h g [] ≡ does place_of by (go same x b) ((this ∷ (args ++ seen)) ++ more) h g [] =
      at_node by this args h g r k name there (λ b. node_argument (rows.argument 0 i) (take b))
      ∙ child_row by this args h g p.root p.number p.name child_there seen (take b)
      ∙ same_row by this args h g p.root p.number p.name child_there r k name there seen more (λ same. go same x b) in
      let end : does place_of by (go same x b) ((this ∷ (args ++ seen)) ++ more) h g [] ≡ end_of (argument 0 args) by r k h g (came rules ns k (cond same (Some p.number) None) (f c)) =
      ap (λ (l : Row). does place_of by l ((this ∷ (args ++ seen)) ++ more) h g []) (so c same x b)
      ∙ ends_with_child by this args h g r k name more (came rules ns k (cond same (Some p.number) None) (f c)) (last rules i (f c) same x b) (rows_come rules i i ns k (f c) same x) in
      let of_number : cond same (Some p.number) None ≡ given r z.doc (f c) = sym (number c ∙ ap (in_root r) p.stands) in
      asked_does (f c) (does place_of by (on_node (λ b. node_argument (rows.argument 0 i) (take b))) (this ∷ args) h g [])
      (subst (AreThere z.doc) (sym (child c)) (there_in z.doc c p.root p.number w.doc.owned p.stands, tt))
      (row ∙ end ∙ ap (λ o. end_of (argument 0 args) by r k h g (came rules ns k o (f c))) of_number)

  pub method_does : (method : NodeMethod) → DoesItsRow cells queues (method_turn a method n args by h (told z)) (does place_of by (row_of rules (of_method method) (suc (length args))) (this ∷ args) h (page_seen cells queues z) [])
  method_does m.GetTagName = of_none asked.TagName tt refl
  method_does m.GetParentNode = of_none asked.ParentNode tt refl
  method_does m.GetChildNodes = of_none asked.ChildNodes tt refl
  method_does m.GetElementById = of_text asked.ElementById (λ us. tt) (λ us. refl)
  method_does m.GetAttribute = of_text asked.Attribute (λ us. tt) (λ us. refl)
  method_does m.SetAttribute = of_texts
  method_does m.GetText = of_none asked.Text tt refl
  method_does m.SetText = of_text asked.SetText (λ us. tt) (λ us. refl)
  method_does m.CreateElement = of_text asked.CreateElement (λ us. tt) (λ us. refl)
  method_does m.CreateTextNode = of_text asked.CreateTextNode (λ us. tt) (λ us. refl)
  method_does m.AppendChild = of_child asked.AppendChild (λ same x b. last rules (suc (length args)) (asked.AppendChild 0) same x b) (node_of h z.doc (argument 0 args)) refl (λ c. refl) (λ c. refl) (λ c same x b. refl)
  method_does m.RemoveChild = of_child asked.RemoveChild (λ same x b. last rules (suc (length args)) (asked.RemoveChild 0) same x b) (node_of h z.doc (argument 0 args)) refl (λ c. refl) (λ c. refl) (λ c same x b. refl)
  method_does m.On = on_does cells queues by this h z w n r k name stands args there

-- each row begins with its receiver
begins_with_node : (rules : Rules) (method : NodeMethod) (i : ℕ) → (go : Branch → Row) × (row_of rules (of_method method) i ≡ on_node go)
begins_with_node rules m.GetTagName i = (_, refl)
begins_with_node rules m.GetParentNode i = (_, refl)
begins_with_node rules m.GetChildNodes i = (_, refl)
begins_with_node rules m.GetElementById i = (_, refl)
begins_with_node rules m.GetAttribute i = (_, refl)
begins_with_node rules m.SetAttribute i = (_, refl)
begins_with_node rules m.GetText i = (_, refl)
begins_with_node rules m.SetText i = (_, refl)
begins_with_node rules m.CreateElement i = (_, refl)
begins_with_node rules m.CreateTextNode i = (_, refl)
begins_with_node rules m.AppendChild i = (_, refl)
begins_with_node rules m.RemoveChild i = (_, refl)
begins_with_node rules m.On i = (_, refl)

another_does : (rules : Rules) (method : NodeMethod) (by : ℕ) (this : Value) (args : List Value) (h : Objects) (g : Page) → ◌≡◌ {A = Option Around} (around h g (suc (length args)) this) None
    → does place_of by (row_of rules (of_method method) (suc (length args))) (this ∷ args) h g [] ≡ does place_of by (refused (codes "bad receiver")) (this ∷ args) h g []
another_does rules method by this args h g none =
    let row = begins_with_node rules method (suc (length args)) in
    ap (λ (x : Row). does place_of by x (this ∷ args) h g []) row.1 ∙ no_receiver by this args h g row.0 none

pub node_methods_do_their_rows : (a : Answers) (rules : Rules) (method : NodeMethod) (by : ℕ) (this : Value) (args : List Value) (h : Objects) (z : Lent) (cells : ℕ → Value) (queues : ℕ → List Value) → IsRuled a rules → IsWhole z
    → DoesItsRow cells queues (node_turn a method by this args h z) (does place_of by (row_of rules (of_method method) (suc (length args))) (this ∷ args) h (page_seen cells queues z) [])
node_methods_do_their_rows a rules method by this args h z cells queues ruled w = at (node_of h z.doc this) refl
  where
    at : (o : Option ℕ) → node_of h z.doc this ≡ o → DoesItsRow cells queues (received a method o args by h (told z)) (does place_of by (row_of rules (of_method method) (suc (length args))) (this ∷ args) h (page_seen cells queues z) [])
    at None is =
        subst (DoesItsRow cells queues (received a method None args by h (told z))) (sym (another_does rules method by this args h (page_seen cells queues z) (around_none h (page_seen cells queues z) z.doc (suc (length args)) this refl is)))
        (throws_too cells queues 0 0 this by h z w (codes "bad receiver"))
    at (Some n) is =
        let p = node_is h z.doc this n w.doc.owned is in
        method_does a rules by this args h z cells queues ruled w n p.root p.number p.name p.stands (number_within z.doc n p.root p.number w.doc.owned p.stands) method
