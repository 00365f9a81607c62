-- What an event does to a page: a text that is put into an element, and what is called.
use Rattle.std.proofs.Common.{◌≡◌, ℕ, ◌<◌, Bool, true, false, ◌&&◌, List, [], ◌∷◌, ◌++◌, Option, Some, None, Result, Ok, Err, length, cond, refl, sym, ap, ◌∙◌, subst, arith}
use Rattle.std.specs.Prelude.{codes}
use Rattle.std.proofs.Math.Dec.{eqb}
use Rattle.std.proofs.lemmas.Bool.{eqb-true, eq-eqb}
use Rattle.caja_units.specs.Units.{same_units}
use Rattle.es3_objects.specs.declared.value.Value.{Value}
use Rattle.doc_nodes.specs.declared.node.DocError.{DocError}
use Rattle.doc_nodes.specs.declared.node.DocError.TheVariants.{NoNode}
use Rattle.doc_nodes.specs.Rows.{Row, Doc, has, row_at, owner_of, nodes_of, tag_in}
use Rattle.doc_nodes.specs.Changes.{edited, marked, with_value, set_attr, root_in}
use Rattle.doc_laws.proofs.Changed.{set_attr_keeps}
use Rattle.doc_laws.proofs.Edits.{same-edited, edited-length}
use Rattle.doc_laws.proofs.Lists.{apart, not_same}
use Rattle.doc_laws.proofs.Within.{set_attr-within}
use Rattle.rows.specs.Document.{sets_attribute, changed}
use Rattle.heap_rows.specs.Doing as rows
use Rattle.doc_views.specs.Seen.{nodes_seen, Stands}
use Rattle.doc_views.specs.Clear.{IsClear}
use Rattle.doc_views.proofs.Views.{there_in, one_node}
use Rattle.doc_views.proofs.Marked.{set_attr_is_seen}
use Rattle.doc_views.proofs.Clear.{set_attr_keeps_clear}
use Rattle.dom_handlers.specs.declared.kinds.EventKind.{EventKind}
use Rattle.dom_handlers.specs.declared.kinds.EventKind.TheVariants.{Click, Input}
use Rattle.dom_handlers.specs.declared.kinds.Handler.{Handler}
use Rattle.dom_handlers.specs.Handlers.{same_kind, listening, of_kind, functions_of}
use Rattle.tamed_dom.specs.Lent.{Lent}
use Rattle.node_rows.specs.View.{kind_name, seen_at, handlers_seen, page_seen, AreSame, listeners}
use Rattle.node_rows.specs.Whole.{IsWhole}
use Rattle.node_rows.specs.Promises.{with_document, with_nodes}
use Rattle.node_rows.proofs.Growth.{Even}
use Rattle.node_rows.proofs.Pages.{even_whole, even_same}

-- an attribute makes no node

set_is_edited : (d e : Doc) (n : ℕ) (name us : List ℕ) → n < length d.rows → set_attr n name us d ≡ Ok e → e ≡ edited d n (λ x. marked (with_value name us x.attrs) x)
set_is_edited d e n name us less is = at (has d n) is
  where
    at : (b : Bool) → ◌≡◌ {A = Result Doc DocError} (cond b (Ok (edited d n (λ x. marked (with_value name us x.attrs) x))) (Err NoNode)) (Ok e) → e ≡ edited d n (λ x. marked (with_value name us x.attrs) x)
    at true h = cc
    at false h = cc

edited_even : (d : Doc) (n : ℕ) (f : Row → Row) → Even d (edited d n f)
edited_even d n f = let same = edited-length d n f in record { rows = omega (arith, same); numbers = λ s. ap (λ roots. nodes_of roots s) (same-edited d n f).1 }

pub input_is_seen : (z : Lent) (e : Doc) (n root k : ℕ) (tag us : List ℕ) (cells : ℕ → Value) (queues : ℕ → List Value) → IsWhole z → Stands z.doc n root k → ◌≡◌ {A = Option (List ℕ)} (tag_in (row_at z.doc n)) (Some tag)
    → set_attr n (codes "value") us z.doc ≡ Ok e
    → AreSame (with_nodes root (changed (sets_attribute (codes "value") us) k (nodes_seen z.doc root)) (page_seen cells queues z)) (page_seen cells queues (with_document e z)) × IsWhole (with_document e z)
input_is_seen z e n root k tag us cells queues w is element set =
    let name = codes "value" in
    let f : Row → Row = λ x. marked (with_value name us x.attrs) x in
    let as_edited = set_is_edited z.doc e n name us (there_in z.doc n root k w.doc.owned is) set in
    let kept = set_attr_keeps n name us z.doc e w.doc set in
    let clear : IsClear e = set_attr_keeps_clear z.doc e n tag name us w.clear element set in
    let even : Even z.doc e = subst (Even z.doc) (sym as_edited) (edited_even z.doc n f) in
    let within = set_attr-within n root name us z.doc e w.doc (ap root_in is) set in (
      subst (λ ns. AreSame (with_nodes root ns (page_seen cells queues z)) (page_seen cells queues (with_document e z))) (set_attr_is_seen z.doc e n root k tag name us w.doc is element set)
          (even_same cells queues root e z.change z w kept.0 clear kept.1 within even),
      even_whole cells queues root e z.change z w kept.0 clear kept.1 within even,
    )

-- what is called

same_kinds : (a b : EventKind) → same_units (kind_name a) (kind_name b) ≡ same_kind b a
same_kinds Click Click = refl
same_kinds Click Input = refl
same_kinds Input Click = refl
same_kinds Input Input = refl

-- a handler of another node, and of the node itself
module _ (r k : ℕ) (what : EventKind) (x : Handler) (rest : List rows.Handler) where
  not_heard : (o : Option (ℕ × ℕ)) → (◌≡◌ {A = Option (ℕ × ℕ)} o (Some (r, k)) → ⊥) → listeners k (kind_name what) (seen_at r o x ++ rest) ≡ listeners k (kind_name what) rest
  not_heard None other = refl
  not_heard (Some p) other =
      let one : rows.Handler = record { on = p.1; what = kind_name x.kind; does = x.function } in
      let cases = elim (eqb p.0 r) as (λ b. eqb p.0 r ≡ b → listeners k (kind_name what) (cond b (one ∷ []) [] ++ rest) ≡ listeners k (kind_name what) rest) [
        | true ↦ λ yes.
            let same : p.0 ≡ r = eqb-true p.0 r yes in
            let no : eqb p.1 k ≡ false = not_same p.1 k (λ e. other (ap (λ y. Some (y, p.1)) same ∙ ap (λ y. Some (r, y)) e)) in
            ap (λ b. cond (b && same_units (kind_name x.kind) (kind_name what)) (x.function ∷ listeners k (kind_name what) rest) (listeners k (kind_name what) rest)) no
        | false ↦ λ no. refl
      ] in cases refl

  heard : (o : Option (ℕ × ℕ)) → ◌≡◌ {A = Option (ℕ × ℕ)} o (Some (r, k))
      → listeners k (kind_name what) (seen_at r o x ++ rest) ≡ cond (same_kind what x.kind) (x.function ∷ listeners k (kind_name what) rest) (listeners k (kind_name what) rest)
  heard o is =
      let one : rows.Handler = record { on = k; what = kind_name x.kind; does = x.function } in
      ap (λ q. listeners k (kind_name what) (seen_at r q x ++ rest)) is
      ∙ ap (λ b. listeners k (kind_name what) (cond b (one ∷ []) [] ++ rest)) (eq-eqb r r refl)
      ∙ ap (λ b. cond (b && same_units (kind_name x.kind) (kind_name what)) (x.function ∷ listeners k (kind_name what) rest) (listeners k (kind_name what) rest)) (eq-eqb k k refl)
      ∙ ap (λ b. cond b (x.function ∷ listeners k (kind_name what) rest) (listeners k (kind_name what) rest)) (same_kinds x.kind what)

all_heard : (d : Doc) (what : EventKind) (n r k : ℕ) (hs : List Handler) → ((m : ℕ) → Stands d m r k → m ≡ n) → Stands d n r k → of_kind what (listening n hs) ≡ listeners k (kind_name what) (handlers_seen d hs r)
all_heard d what n r k [] once is = refl
all_heard d what n r k (x ∷ hs) once is =
    let rest = handlers_seen d hs r in
    let cases = elim (eqb x.node n) as (λ b. eqb x.node n ≡ b → of_kind what (cond b (x ∷ listening n hs) (listening n hs)) ≡ listeners k (kind_name what) (seen_at r (owner_of d x.node) x ++ rest)) [
      | true ↦ λ yes.
          ap (λ l. cond (same_kind what x.kind) (x.function ∷ l) l) (all_heard d what n r k hs once is)
          ∙ sym (heard r k what x rest (owner_of d x.node) (ap (owner_of d) (eqb-true x.node n yes) ∙ is))
      | false ↦ λ no.
          all_heard d what n r k hs once is
          ∙ sym (not_heard r k what x rest (owner_of d x.node) (λ own. apart x.node n no (once x.node own)))
    ] in cases refl

pub listeners_are_seen : (z : Lent) (kind : EventKind) (n root k : ℕ) → IsWhole z → Stands z.doc n root k → functions_of kind n z.handlers ≡ listeners k (kind_name kind) (handlers_seen z.doc z.handlers root)
listeners_are_seen z kind n root k w is = all_heard z.doc kind n root k z.handlers (λ m own. one_node z.doc m n root k w.doc.owned own is) is
