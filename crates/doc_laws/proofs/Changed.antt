-- Each change keeps what holds of every document that is reached.
use Rattle.std.proofs.Common.{◌≡◌, ℕ, ◌<◌, Bool, true, false, not, ◌&&◌, List, [], ◌∷◌, Option, Some, None, Result, Ok, Err, length, cond, zero, suc, refl, sym, ◌∙◌, ap, subst, arith, inl}
use Rattle.std.proofs.lemmas.Bool.{eqb-true}
use Rattle.std.proofs.lemmas.Bool.Decides.{nat_tests}
use Rattle.std.proofs.lemmas.Option.{slice_get_within}
use Rattle.doc_nodes.specs.declared.node.Parent.{Parent}
use Rattle.doc_nodes.specs.declared.node.Parent.TheVariants.{Detached, Document, Node}
use Rattle.doc_nodes.specs.declared.node.NewNode.{NewNode}
use Rattle.doc_nodes.specs.declared.node.NewNode.TheVariants.{Element, Text}
use Rattle.doc_nodes.specs.declared.node.DocError.{DocError}
use Rattle.doc_nodes.specs.declared.node.DocError.TheVariants.{NoNode, Cycle, OtherRoot}
use Rattle.doc_nodes.specs.Rows.{Row, Doc, row_at, has, parent_in, children_in, node_in, owner_of, same_root, is_at_or_above}
use Rattle.doc_nodes.specs.Changes.{append, append_refused, unless, moved, remove, taken, is_node, is_child, set_attr, with_value, marked, holding, over, edited, set_text, with_text, filled, root_in, next_owner, create, freed}
use Rattle.doc_laws.specs.Owned.{IsRoot, Fits, Grows}
use Rattle.doc_laws.specs.Reached.{Reached, Keeps}
use Rattle.doc_laws.proofs.Edits.{same-then, same-edited, same-moved, same-taken, same-freed, edited-same, taken-here, taken-other, freed-in, freed-out}
use Rattle.doc_laws.specs.Forest.{times}
use Rattle.doc_laws.proofs.Lists.{apart}
use Rattle.std.proofs.Math.Dec.{eqb}
use Rattle.doc_laws.proofs.Forests.{moved-forest, edited-fewer, edited-forest, taken-fewer, taken-forest, created-forest, freed-fewer, with_text_in, swapped, refreshed, refreshed-forest}
use Rattle.doc_laws.proofs.Ownership.{node_keeps, owned-same, grows-same, grows-then, grows-new, root-is, same_root-sym, next-same, StillTop, roots-fewer, roots-moved, roots-new}

abbrev Good : Doc → Doc → Type 0
Good d e = Reached e × Grows d e

-- what append has tested
tested : (a b s i : Bool) → cond (not (a && b)) (Some NoNode) (cond (not s) (Some OtherRoot) (cond i (Some Cycle) None)) ≡ None → (a ≡ true) × (b ≡ true) × (s ≡ true) × (i ≡ false)
tested true true true true h = cc
tested true true true false h = (refl, refl, refl, refl)
tested true true false i h = cc
tested true false s i h = cc
tested false b s i h = cc

pub append-tested : (d : Doc) (p c : ℕ) → append_refused d p c ≡ None → (p < length d.rows) × (c < length d.rows) × (same_root (owner_of d p) (owner_of d c) ≡ true) × (is_at_or_above d c p ≡ false)
append-tested d p c h =
    let t = tested (has d p) (has d c) (same_root (owner_of d p) (owner_of d c)) (is_at_or_above d c p) h in
    (grind (arith, nat_tests, t.0), grind (arith, nat_tests, t.1), t.2, t.3)

moved-good : (d : Doc) (p c : ℕ) → Reached d → append_refused d p c ≡ None → Good d (moved p c d)
moved-good d p c r h =
    let t = append-tested d p c h in (
      record {
        forest = moved-forest d p c r.forest t.0 t.1 t.3;
        owned = owned-same d (moved p c d) (same-moved p c d) r.owned;
        roots = roots-moved d p c t.1 (same_root-sym (owner_of d p) (owner_of d c) t.2) r.roots;
      },
      grows-same d (moved p c d) (same-moved p c d),
    )

pub allowed : (o : Option DocError) (m e : Doc) → unless o m ≡ Ok e → (o ≡ None) × (m ≡ e)
allowed None m e h = (refl, cc)
allowed (Some x) m e h = cc

pub append_keeps : (p c : ℕ) → Keeps (append p c)
append_keeps p c d e r h = let a = allowed (append_refused d p c) (moved p c d) e h in subst (Good d) a.1 (moved-good d p c r a.0)

-- a change that was tested
pub passed : (b : Bool) (m e : Doc) (x : DocError) → ◌≡◌ {A = Result Doc DocError} (cond b (Ok m) (Err x)) (Ok e) → (b ≡ true) × (m ≡ e)
passed true m e x h = (refl, cc)
passed false m e x h = cc

pub third : (a b c : Bool) → (a && b && c) ≡ true → c ≡ true
third true true c h = h
third true false c h = cc
third false b c h = cc

pub child-at : (x : Parent) (p : ℕ) → is_node p (node_in x) ≡ true → x ≡ Node p
child-at Detached p h = cc
child-at Document p h = cc
child-at (Node q) p h = ap (λ y. Node y) (eqb-true q p h)

-- what is detached stands elsewhere than under the document itself
nowhere : (x : Parent) → x ≡ Detached → x ≡ Document → ⊥
nowhere x a b = cc

taken-top : (d : Doc) (p c : ℕ) → StillTop d (taken p c d)
taken-top d p c n h =
    let cases = elim (eqb n c) as (λ b. eqb n c ≡ b → parent_in (row_at d n) ≡ Document) [
      | true ↦ λ yes. absurd (nowhere (parent_in (row_at (taken p c d) n)) (ap (λ m. parent_in (row_at (taken p c d) m)) (eqb-true n c yes) ∙ taken-here p c d) h)
      | false ↦ λ other. sym (taken-other p c n d (apart n c other)) ∙ h
    ] in cases refl

edited-top : (d : Doc) (n : ℕ) (g : Row → Row) → ((r : Row) → (g r).parent ≡ r.parent) → StillTop d (edited d n g)
edited-top d n g parents m h = sym (edited-same parent_in d n m g parents) ∙ h

freed-top : (ns : List ℕ) (d : Doc) → StillTop d (freed ns d)
freed-top ns d m h = at (times m ns) refl
  where
    at : (k : ℕ) → times m ns ≡ k → parent_in (row_at d m) ≡ Document
    at zero is = sym (freed-out ns m d is) ∙ h
    at (suc k) is = absurd (nowhere (parent_in (row_at (freed ns d) m)) (freed-in ns m d (omega (arith, is))) h)

taken-good : (d : Doc) (p c : ℕ) → Reached d → is_child d p c ≡ true → Good d (taken p c d)
taken-good d p c r h = (
  record {
    forest = taken-forest d p c r.forest (child-at (parent_in (row_at d c)) p h);
    owned = owned-same d (taken p c d) (same-taken p c d) r.owned;
    roots = roots-fewer d (taken p c d) (same-taken p c d) (taken-fewer p c d) (taken-top d p c) r.roots;
  },
  grows-same d (taken p c d) (same-taken p c d),
)

pub remove_keeps : (p c : ℕ) → Keeps (remove p c)
remove_keeps p c d e r h =
    let a = passed (has d p && has d c && is_child d p c) (taken p c d) e NoNode h in
    subst (Good d) a.1 (taken-good d p c r (third (has d p) (has d c) (is_child d p c) a.0))

edited-good : (d : Doc) (n : ℕ) (g : Row → Row) → ((r : Row) → (g r).parent ≡ r.parent) → ((r : Row) → (g r).children ≡ r.children) → Reached d → Good d (edited d n g)
edited-good d n g parents children r = (
  record {
    forest = edited-forest d n g parents children r.forest;
    owned = owned-same d (edited d n g) (same-edited d n g) r.owned;
    roots = roots-fewer d (edited d n g) (same-edited d n g) (edited-fewer d n g parents) (edited-top d n g parents) r.roots;
  },
  grows-same d (edited d n g) (same-edited d n g),
)

pub set_attr_keeps : (n : ℕ) (name v : List ℕ) → Keeps (set_attr n name v)
set_attr_keeps n name v d e r h =
    let g : Row → Row = λ r. marked (with_value name v r.attrs) r in
    let a = passed (has d n) (edited d n g) e NoNode h in
    subst (Good d) a.1 (edited-good d n g (λ r. refl) (λ r. refl) r)

-- the new text under n belongs to n's root
fits : (d : Doc) (n q : ℕ) → ◌≡◌ {A = Option ℕ} (Some n) (Some q) → Fits (next_owner d.roots (root_in (owner_of d n))) (owner_of d q)
fits d n q h = let it : n ≡ q = cc in subst (λ x. Fits (next_owner d.roots (root_in (owner_of d n))) (owner_of d x)) it (inl (next-same d.roots (owner_of d n)))

no_top : (n : ℕ) → Node n ≡ Document → ⊥
no_top n h = cc

refreshed-good : (d : Doc) (n : ℕ) (us : List ℕ) → Reached d → n < length d.rows → Good d (refreshed n (root_in (owner_of d n)) us d)
refreshed-good d n us r w =
    let root = root_in (owner_of d n) in
    let e = with_text_in n root us d in
    let g = swapped n root us d in
    let f = refreshed n root us d in
    let ns = children_in (row_at e n) in
    let first = same-edited e n (over (length d.rows ∷ [])) in
    let second = same-freed ns g in
    let both = same-then e g f first second in
    let new = roots-new (Node n) root (Text us) [] d r.forest.ways r.owned.many w (λ q h. fits d n q h) (λ h. absurd (no_top n h)) r.roots in (
      record {
        forest = refreshed-forest n root us d r.forest w;
        owned = owned-same e f both (node_keeps (Node n) root (Text us) [] d r.owned (root-is d n r.owned));
        roots = roots-fewer g f second (freed-fewer ns g) (freed-top ns g) (roots-fewer e g first (edited-fewer e n (over (length d.rows ∷ [])) (λ r. refl)) (edited-top e n (over (length d.rows ∷ [])) (λ r. refl)) new);
      },
      grows-then d e f (grows-new (Node n) root (Text us) [] d r.owned.many) (grows-same e f both),
    )

filled-good : (d : Doc) (n : ℕ) (us : List ℕ) (c : NewNode) → Reached d → n < length d.rows → Good d (filled n us c d)
filled-good d n us (Element tag) r w = refreshed-good d n us r w
filled-good d n us (Text old) r w = edited-good d n (holding (Text us)) (λ r. refl) (λ r. refl) r

pub set_text_keeps : (n : ℕ) (us : List ℕ) → Keeps (set_text n us)
set_text_keeps n us d e r h = at (row_at d n) refl h
  where
    at : (o : Option Row) → row_at d n ≡ o → with_text n us o d ≡ Ok e → Good d e
    at None is h = cc
    at (Some x) is h = let same : filled n us x.content d ≡ e = cc in subst (Good d) same (filled-good d n us x.content r (slice_get_within d.rows n x is))

pub create_keeps : (root : ℕ) (c : NewNode) (d : Doc) → Reached d → IsRoot d (Some root) → Good d (create root c d)
create_keeps root c d r w = (
  record {
    forest = created-forest (Some root) c [] d r.forest;
    owned = node_keeps Detached (Some root) c [] d r.owned w;
    roots = roots-new Detached (Some root) c [] d r.forest.ways r.owned.many tt (λ q h. cc) (λ h. absurd (nowhere Detached refl h)) r.roots;
  },
  grows-new Detached (Some root) c [] d r.owned.many,
)
