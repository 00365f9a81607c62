-- The document of cleaned HTML is written as the HTML is: its nodes stand for the trees, and are written like them.
use Rattle.std.proofs.Common.{◌≡◌, ◌≢◌, ℕ, zero, suc, max, ◌+◌, ◌<◌, ◌≤◌, Bool, true, false, List, [], ◌∷◌, ◌++◌, append_assoc, Option, Some, None, length, cond, refl, sym, ap, ◌∙◌, subst, arith}
use Rattle.std.proofs.lemmas.Option.{slice_get_within}
use Rattle.std.proofs.lemmas.Bool.{eq-eqb}
use Rattle.html_grammar.specs.Tables.{is_in, void}
use Rattle.html_grammar.specs.Tags as t
use Rattle.html_grammar.specs.Trees.{Sort, one, many, Tree, text_node, element, none, more}
use Rattle.html_tree.specs.declared.Attr.{Attr}
use Rattle.html_tree.specs.Views.{attrs_of}
use Rattle.html_kept.specs.Printed as html
use Rattle.doc_nodes.specs.declared.node.Parent.{Parent}
use Rattle.doc_nodes.specs.declared.node.Parent.TheVariants.{Detached, Document, Node}
use Rattle.doc_nodes.specs.declared.node.NewNode.{NewNode}
use Rattle.doc_nodes.specs.declared.node.NewNode.TheVariants.{Element, Text}
use Rattle.doc_nodes.specs.Rows.{Row, Doc, row_at, children_in}
use Rattle.doc_nodes.specs.Changes.{empty, over, with_node, listed, joined, root_at}
use Rattle.doc_tree.specs.Cleaned.{attrs_from, add, from_clean}
use Rattle.doc_tree.specs.Printing.{opening, ending, shown, shown_in, printed, print}
use Rattle.doc_laws.specs.Forest.{list_at, is_list_of}
use Rattle.doc_laws.proofs.Edits.{edited-here, edited-other, fresh, new-here, new-other, new-length, with_last, list-listed, list-new, same-listed}

record OneText (lo : ℕ) (d : Doc) (us : List ℕ) (ns : List ℕ) : Type 0 where
  pub node : ℕ
  pub is : ns ≡ node ∷ []
  pub low : lo ≤ node
  pub row : Row
  pub at : ◌≡◌ {A = Option Row} (row_at d node) (Some row)
  pub content : row.content ≡ Text us

record OneElement (lo : ℕ) (d : Doc) (tag : List ℕ) (xs : List t.Attr) (Kids : List ℕ → Type 0) (ns : List ℕ) : Type 0 where
  pub node : ℕ
  pub is : ns ≡ node ∷ []
  pub low : lo ≤ node
  pub row : Row
  pub at : ◌≡◌ {A = Option Row} (row_at d node) (Some row)
  pub content : row.content ≡ Element tag
  pub attrs : attrs_of row.attrs ≡ xs
  pub kids : Kids row.children

record Split (A B : List ℕ → Type 0) (ns : List ℕ) : Type 0 where
  pub first : List ℕ
  pub rest : List ℕ
  pub is : ns ≡ first ++ rest
  pub left : A first
  pub right : B rest

-- nodes stand for trees; all of them, and what stands under them, are of the number lo or past it
abbrev Shows : ℕ → Doc → (s : Sort) → Tree s → List ℕ → Type 0
Shows lo d _ (text_node us) ns = OneText lo d us ns
Shows lo d _ (element tag xs ts) ns = OneElement lo d tag xs (Shows lo d many ts) ns
Shows lo d _ none ns = ns ≡ []
Shows lo d _ (more t ts) ns = Split (Shows lo d one t) (Shows lo d many ts) ns

-- a change that leaves these rows
shows-kept : (lo low : ℕ) (d e : Doc) (s : Sort) (t : Tree s) (ns : List ℕ) → low ≤ lo → ((m : ℕ) (r : Row) → lo ≤ m → row_at d m ≡ Some r → row_at e m ≡ Some r) → Shows lo d s t ns → Shows low e s t ns
shows-kept lo low d e _ (text_node us) ns less keeps h = record { node = h.node; is = h.is; low = omega (arith, less, h.low); row = h.row; at = keeps h.node h.row h.low h.at; content = h.content }
shows-kept lo low d e _ (element tag xs ts) ns less keeps h = record {
  node = h.node;
  is = h.is;
  low = omega (arith, less, h.low);
  row = h.row;
  at = keeps h.node h.row h.low h.at;
  content = h.content;
  attrs = h.attrs;
  kids = shows-kept lo low d e many ts h.row.children less keeps h.kids;
}
shows-kept lo low d e _ none ns less keeps h = h
shows-kept lo low d e _ (more t ts) ns less keeps h = record {
  first = h.first;
  rest = h.rest;
  is = h.is;
  left = shows-kept lo low d e one t h.first less keeps h.left;
  right = shows-kept lo low d e many ts h.rest less keeps h.right;
}

-- how many nodes stand one in another at most
height : (s : Sort) → Tree s → ℕ
height _ (text_node us) = 1
height _ (element tag xs ts) = 1 + height many ts
height _ none = 0
height _ (more t ts) = max (height one t) (height many ts)

-- a place under which nodes may be put
abbrev Open : Doc → Parent → Type 0
Open d Detached = ⊥
Open d Document = Unit {0}
Open d (Node q) = q < length d.rows

-- what has become of a document where trees were put under p
record Added (d e : Doc) (p : Parent) (s : Sort) (t : Tree s) : Type 0 where
  pub nodes : List ℕ
  pub shows : Shows (length d.rows) e s t nodes
  pub list : list_at e p ≡ list_at d p ++ nodes
  pub top : (q : ℕ) → p ≡ Node q → e.top ≡ d.top
  pub own : (q : ℕ) (r : Row) → p ≡ Node q → row_at d q ≡ Some r → row_at e q ≡ Some (over (r.children ++ nodes) r)
  pub rest : (m : ℕ) → m < length d.rows → p ≢ Node m → row_at e m ≡ row_at d m
  pub longer : length d.rows + height s t ≤ length e.rows

-- a node that joins
join-row : (p : Parent) (root : Option ℕ) (c : NewNode) (attrs : List Attr) (d : Doc) → Open d p → row_at (joined p root c attrs d) (length d.rows) ≡ Some (fresh p c attrs)
join-row Detached root c attrs d w = absurd w
join-row Document root c attrs d w = new-here Document root c attrs d
join-row (Node q) root c attrs d w =
    edited-other (with_node (Node q) root c attrs d) q (length d.rows) (λ r. over (r.children ++ length d.rows ∷ []) r) (λ e. omega (arith, w, e)) ∙ new-here (Node q) root c attrs d

join-own : (p : Parent) (root : Option ℕ) (c : NewNode) (attrs : List Attr) (d : Doc) (q : ℕ) (r : Row) → Open d p → p ≡ Node q → row_at d q ≡ Some r → row_at (joined p root c attrs d) q ≡ Some (over (r.children ++ length d.rows ∷ []) r)
join-own Detached root c attrs d q r w is h = cc
join-own Document root c attrs d q r w is h = cc
join-own (Node x) root c attrs d q r w is h =
    let same : x ≡ q = cc in
    let less : q < length d.rows = slice_get_within d.rows q r h in
    let e = with_node (Node x) root c attrs d in
    let was : row_at e q ≡ Some r = new-other (Node x) root c attrs d q (λ z. omega (arith, less, z)) ∙ h in
    subst (λ z. row_at (listed (Node z) (length d.rows) e) q ≡ Some (over (r.children ++ length d.rows ∷ []) r)) (sym same) (edited-here e q (λ r. over (r.children ++ length d.rows ∷ []) r) r was)

join-rest : (p : Parent) (root : Option ℕ) (c : NewNode) (attrs : List Attr) (d : Doc) (m : ℕ) → m < length d.rows → p ≢ Node m → row_at (joined p root c attrs d) m ≡ row_at d m
join-rest Detached root c attrs d m less ne = new-other Detached root c attrs d m (λ e. omega (arith, less, e))
join-rest Document root c attrs d m less ne = new-other Document root c attrs d m (λ e. omega (arith, less, e))
join-rest (Node q) root c attrs d m less ne =
    edited-other (with_node (Node q) root c attrs d) q m (λ r. over (r.children ++ length d.rows ∷ []) r) (λ e. ne (ap (λ x. Node x) (sym e))) ∙ new-other (Node q) root c attrs d m (λ e. omega (arith, less, e))

join-top : (p : Parent) (root : Option ℕ) (c : NewNode) (attrs : List Attr) (d : Doc) (q : ℕ) → p ≡ Node q → Open d p → (joined p root c attrs d).top ≡ d.top
join-top Detached root c attrs d q is w = cc
join-top Document root c attrs d q is w = cc
join-top (Node x) root c attrs d q is w = list-listed (Node x) (length d.rows) (with_node (Node x) root c attrs d) Document (omega (arith, w, new-length (Node x) root c attrs d))

join-list : (p : Parent) (root : Option ℕ) (c : NewNode) (attrs : List Attr) (d : Doc) → Open d p → list_at (joined p root c attrs d) p ≡ list_at d p ++ length d.rows ∷ []
join-list Detached root c attrs d w = absurd w
join-list Document root c attrs d w = refl
join-list (Node q) root c attrs d w =
    let e = with_node (Node q) root c attrs d in
    let self : is_list_of (Node q) (Node q) ≡ true = eq-eqb q q refl in
    list-listed (Node q) (length d.rows) e (Node q) (omega (arith, w, new-length (Node q) root c attrs d)) ∙ ap (λ b. with_last b (length d.rows) (list_at e (Node q))) self ∙ ap (λ xs. xs ++ length d.rows ∷ []) (list-new (Node q) root c attrs d (Node q))

join-length : (p : Parent) (root : Option ℕ) (c : NewNode) (attrs : List Attr) (d : Doc) → length (joined p root c attrs d).rows ≡ suc (length d.rows)
join-length p root c attrs d = (same-listed p (length d.rows) (with_node p root c attrs d)).2 ∙ new-length p root c attrs d

-- attributes that were taken over
attrs-back : (xs : List t.Attr) → attrs_of (attrs_from xs) ≡ xs
attrs-back [] = refl
attrs-back (x ∷ xs) = ap (λ ys. x ∷ ys) (attrs-back xs)

none-behind : (xs : List ℕ) → xs ++ [] ≡ xs
none-behind [] = refl
none-behind (x ∷ xs) = ap (λ ys. x ∷ ys) (none-behind xs)

node-other : (n q : ℕ) → n ≢ q → Node n ≢ Node q
node-other n q ne e = ne (ap number e)
  where
    number : Parent → ℕ
    number Detached = 0
    number Document = 0
    number (Node x) = x

-- what stands elsewhere, where trees were put under the new node n
list-under : (p : Parent) (d j e : Doc) (n : ℕ) → Open d p → n ≡ length d.rows → length j.rows ≡ suc n → e.top ≡ j.top → ((m : ℕ) → m < length j.rows → Node n ≢ Node m → row_at e m ≡ row_at j m) → list_at e p ≡ list_at j p
list-under Detached d j e n w at grown top rest = refl
list-under Document d j e n w at grown top rest = top
list-under (Node q) d j e n w at grown top rest = ap children_in (rest q (omega (arith, w, at, grown)) (node-other n q (λ z. omega (arith, w, at, z))))

open-later : (d e : Doc) (p : Parent) → length d.rows ≤ length e.rows → Open d p → Open e p
open-later d e Detached grown w = w
open-later d e Document grown w = tt
open-later d e (Node q) grown w = omega (arith, grown, w)

open-before : (d : Doc) (p : Parent) (m : ℕ) → Open d p → length d.rows ≤ m → p ≢ Node m
open-before d Detached m w less e = absurd w
open-before d Document m w less e = cc
open-before d (Node q) m w less e = let same : q ≡ m = cc in omega (arith, w, less, same)

add-added : (ids : List (List ℕ)) (s : Sort) (t : Tree s) (p : Parent) (around : Option ℕ) (d : Doc) → Open d p → Added d (add ids s t p around d) p s t
unfolding height
add-added ids _ (text_node us) p around d w = record {
  nodes = length d.rows ∷ [];
  shows = record { node = length d.rows; is = refl; low = omega arith; row = fresh p (Text us) []; at = join-row p around (Text us) [] d w; content = refl };
  list = join-list p around (Text us) [] d w;
  top = λ q is. join-top p around (Text us) [] d q is w;
  own = λ q r is h. join-own p around (Text us) [] d q r w is h;
  rest = λ m less ne. join-rest p around (Text us) [] d m less ne;
  longer = omega (arith, join-length p around (Text us) [] d);
}
add-added ids _ (element tag xs ts) p around d w =
    let n = length d.rows in
    let attrs = attrs_from xs in
    let root = root_at ids around attrs in
    let j = joined p root (Element tag) attrs d in
    let e = add ids many ts (Node n) root j in
    let grown = join-length p root (Element tag) attrs d in
    let new : Row = fresh p (Element tag) attrs in
    let k = add-added ids many ts (Node n) root j (omega (arith, grown)) in
    record {
      nodes = n ∷ [];
      shows = record {
        node = n;
        is = refl;
        low = omega arith;
        row = over k.nodes new;
        at = k.own n new refl (join-row p root (Element tag) attrs d w);
        content = refl;
        attrs = attrs-back xs;
        kids = shows-kept (length j.rows) n e e many ts k.nodes (omega (arith, grown)) (λ m r low h. h) k.shows;
      };
      list = list-under p d j e n w refl grown (k.top n refl) (λ m less ne. k.rest m less ne) ∙ join-list p root (Element tag) attrs d w;
      top = λ q is. k.top n refl ∙ join-top p root (Element tag) attrs d q is w;
      own = λ q r is h. let less : q < n = slice_get_within d.rows q r h in k.rest q (omega (arith, less, grown)) (node-other n q (λ z. omega (arith, less, z))) ∙ join-own p root (Element tag) attrs d q r w is h;
      rest = λ m less ne. k.rest m (omega (arith, less, grown)) (node-other n m (λ z. omega (arith, less, z))) ∙ join-rest p root (Element tag) attrs d m less ne;
      longer = omega (arith, grown, k.longer);
    }
add-added ids _ none p around d w = record {
  nodes = [];
  shows = refl;
  list = sym (none-behind (list_at d p));
  top = λ q is. refl;
  own = λ q r is h. h ∙ ap (λ xs. Some (over xs r)) (sym (none-behind r.children));
  rest = λ m less ne. refl;
  longer = omega arith;
}
add-added ids _ (more t ts) p around d w =
    let e = add ids one t p around d in
    let f = add ids many ts p around e in
    let a = add-added ids one t p around d w in
    let b = add-added ids many ts p around e (open-later d e p (omega (arith, a.longer)) w) in
    record {
      nodes = a.nodes ++ b.nodes;
      shows = record {
        first = a.nodes;
        rest = b.nodes;
        is = refl;
        left = shows-kept (length d.rows) (length d.rows) e f one t a.nodes (omega arith) (λ m r low h. b.rest m (slice_get_within e.rows m r h) (open-before d p m w low) ∙ h) a.shows;
        right = shows-kept (length e.rows) (length d.rows) f f many ts b.nodes (omega (arith, a.longer)) (λ m r low h. h) b.shows;
      };
      list = b.list ∙ ap (λ xs. xs ++ b.nodes) a.list ∙ append_assoc (list_at d p) a.nodes b.nodes;
      top = λ q is. b.top q is ∙ a.top q is;
      own = λ q r is h. b.own q (over (r.children ++ a.nodes) r) is (a.own q r is h) ∙ ap (λ xs. Some (over xs r)) (append_assoc r.children a.nodes b.nodes);
      rest = λ m less ne. b.rest m (omega (arith, less, a.longer)) ne ∙ a.rest m less ne;
      longer = omega (arith, a.longer, b.longer);
    }

-- nodes are written as the trees that they stand for
printed-none : (k : ℕ) (d : Doc) → printed k d [] ≡ []
unfolding printed
printed-none zero d = refl
printed-none (suc k) d = refl

printed-append : (k : ℕ) (d : Doc) (ms ns : List ℕ) → printed k d (ms ++ ns) ≡ printed k d ms ++ printed k d ns
unfolding printed
printed-append zero d ms ns = refl
printed-append (suc k) d [] ns = refl
printed-append (suc k) d (m ∷ ms) ns =
    let node = opening (row_at d m) ++ (printed k d (shown d m) ++ ending (row_at d m)) in
    ap (λ xs. node ++ xs) (printed-append (suc k) d ms ns) ∙ sym (append_assoc node (printed (suc k) d ms) (printed (suc k) d ns))

printed-only : (k : ℕ) (d : Doc) (n : ℕ) → printed (suc k) d (n ∷ []) ≡ opening (row_at d n) ++ (printed k d (shown d n) ++ ending (row_at d n))
unfolding printed
printed-only k d n = none-behind (opening (row_at d n) ++ (printed k d (shown d n) ++ ending (row_at d n)))

abbrev Whole : ℕ → Doc → Option Row → List ℕ
Whole k d o = opening o ++ (printed k d (shown_in o) ++ ending o)

text-row : (k : ℕ) (d : Doc) (us : List ℕ) (r : Row) → r.content ≡ Text us → Whole k d (Some r) ≡ html.printed_text us
text-row k d us r h = rw (h, printed-none k d) (none-behind (html.printed_text us))

element-row : (k : ℕ) (d : Doc) (tag : List ℕ) (xs : List t.Attr) (ts : Tree many) (r : Row) → r.content ≡ Element tag → attrs_of r.attrs ≡ xs → printed k d r.children ≡ html.printed many ts → Whole k d (Some r) ≡ html.printed one (element tag xs ts)
element-row k d tag xs ts r h a kids = rw (h, a) (at (is_in void tag))
  where
    at : (b : Bool) → html.start_tag tag xs ++ (printed k d (cond b [] r.children) ++ cond b [] (html.end_tag tag)) ≡ html.start_tag tag xs ++ cond b [] (html.printed many ts ++ html.end_tag tag)
    at true = rw (printed-none k d) refl
    at false = rw kids refl

shows-printed : (k lo : ℕ) (d : Doc) (s : Sort) (t : Tree s) (ns : List ℕ) → height s t ≤ k → Shows lo d s t ns → printed k d ns ≡ html.printed s t
unfolding height
shows-printed zero lo d _ (text_node us) ns deep h = absurd (omega arith)
shows-printed (suc k) lo d _ (text_node us) ns deep h = ap (printed (suc k) d) h.is ∙ printed-only k d h.node ∙ ap (Whole k d) h.at ∙ text-row k d us h.row h.content
shows-printed zero lo d _ (element tag xs ts) ns deep h = absurd (omega arith)
shows-printed (suc k) lo d _ (element tag xs ts) ns deep h =
    ap (printed (suc k) d) h.is ∙ printed-only k d h.node ∙ ap (Whole k d) h.at ∙ element-row k d tag xs ts h.row h.content h.attrs (shows-printed k lo d many ts h.row.children (omega arith) h.kids)
shows-printed k lo d _ none ns deep h = ap (printed k d) h ∙ printed-none k d
shows-printed k lo d _ (more t ts) ns deep h =
    ap (printed k d) h.is ∙ printed-append k d h.first h.rest ∙ ap (λ xs. xs ++ printed k d h.rest) (shows-printed k lo d one t h.first (omega arith) h.left) ∙ ap (λ xs. html.printed one t ++ xs) (shows-printed k lo d many ts h.rest (omega arith) h.right)

pub clean-written : (ids : List (List ℕ)) (ts : Tree many) → print (from_clean ids ts) ≡ html.printed many ts
clean-written ids ts =
    let a = add-added ids many ts Document None (empty (length ids)) tt in
    let d = from_clean ids ts in
    ap (printed (length d.rows) d) a.list ∙ shows-printed (length d.rows) 0 d many ts a.nodes (omega (arith, a.longer)) a.shows
