-- Each touch that a page tells is one of the direct run, and lies in reach.
use Rattle.std.proofs.Common.{◌≡◌, ℕ, ◌≤◌, true, List, [], ◌∷◌, ◌++◌, ap, ◌∙◌}
use Rattle.std.proofs.lemmas.List.{append_assoc}
use Rattle.plans.specs.Plans.{kept_of}
use Rattle.es3_objects.specs.declared.value.Tag.{Tag}
use Rattle.html_grammar.specs.Trees.{many, Tree}
use Rattle.doc_views.specs.Seen.{nodes_seen}
use Rattle.rows.specs.Rows.{Touch}
use Rattle.heap_rows.specs.Doing as told
use Rattle.heap_rows.specs.Doing.{Told, heard}
use Rattle.cajita_tree.specs.Tree as c
use Rattle.cajita_meaning.specs.World.{Name}
use Rattle.cajita_meaning.specs.Direct.{Item, made, got, touched, passed, granted, said, was_revoked, changed_node, ended}
use Rattle.cajita_page.proofs.Reaches.{pages_reach, page_items_lie}
use Rattle.row_simulation.specs.Correspond.{tag_of_name}
use Rattle.row_simulation.specs.RowLaw.{shown}
use Rattle.page_manifest.specs.Page.{Page}
use Rattle.cajita_simulation.specs.Alike.{IsPrefix, most_page_steps}
use Rattle.page_simulation.specs.Correct.{told_of}
use Rattle.page_documents.specs.Documents.{page_doc}
use Rattle.page_meaning.specs.PageRuns.{page_rules, deeds_in, programs_run, sources_run}
use Rattle.page_meaning.specs.Means.{programs_of}
use Rattle.page_meaning.specs.Reach.{IsTouchInReach, Reaches}

module _ (m : ℕ) (op : Touch) (g : Tag) (key : List (List ℕ)) where
  -- where a touch is told that the items of a run show
  record IsThere (z : List Item) : Type 0 where
    pub before : List Item
    pub behind : List Item
    pub name : Name
    pub named : tag_of_name name ≡ g
    pub there : z ≡ before ++ touched m op name key ∷ behind

  later : (i : Item) (z : List Item) → IsThere z → IsThere (i ∷ z)
  later i z h = record { before = i ∷ h.before; behind = h.behind; name = h.name; named = h.named; there = ap (λ l. i ∷ l) h.there }

  tail_is : (x y : Told) (a b : List Told) → x ∷ a ≡ y ∷ b → a ≡ b
  tail_is x y a b e = cc

  -- the first of them is a touch
  here : (by : ℕ) (t : Touch) (n : Name) (k : List (List ℕ)) (z : List Item) (rest : List Told) → told.touched by t (tag_of_name n) k ∷ heard true (shown z) ≡ told.touched m op g key ∷ rest → IsThere (touched by t n k ∷ z)
  here by t n k z rest e =
      let first : told.touched by t (tag_of_name n) k ≡ told.touched m op g key = cc in
      let same_by : by ≡ m = cc in
      let same_op : t ≡ op = cc in
      let same_key : k ≡ key = cc in
      record {
        before = [];
        behind = z;
        name = n;
        named = cc;
        there = ap (λ b. touched b t n k ∷ z) same_by ∙ ap (λ o. touched m o n k ∷ z) same_op ∙ ap (λ l. touched m op n l ∷ z) same_key;
      }

  find : (z : List Item) (a rest : List Told) → heard true (shown z) ≡ a ++ told.touched m op g key ∷ rest → IsThere z
  find [] [] rest e = absurd cc
  find [] (x ∷ a) rest e = absurd cc
  find (touched by t n k ∷ z) [] rest e = here by t n k z rest e
  find (touched by t n k ∷ z) (x ∷ a) rest e = later (touched by t n k) z (find z a rest (tail_is (told.touched by t (tag_of_name n) k) x _ _ e))
  find (said by us ∷ z) [] rest e = absurd cc
  find (said by us ∷ z) (x ∷ a) rest e = later (said by us) z (find z a rest (tail_is (told.said by us) x _ _ e))
  find (ended l v ∷ z) [] rest e = absurd cc
  find (ended l v ∷ z) (x ∷ a) rest e = later (ended l v) z (find z a rest (tail_is _ x _ _ e))
  find (made by n ∷ z) a rest e = later (made by n) z (find z a rest e)
  find (got by h n ∷ z) a rest e = later (got by h n) z (find z a rest e)
  find (passed by k n ∷ z) a rest e = later (passed by k n) z (find z a rest e)
  find (granted by n ∷ z) a rest e = later (granted by n) z (find z a rest e)
  find (was_revoked by p ∷ z) a rest e = later (was_revoked by p) z (find z a rest e)
  find (changed_node r k n ∷ z) [] rest e = absurd cc
  find (changed_node r k n ∷ z) (x ∷ a) rest e = later (changed_node r k n) z (find z a rest (tail_is (told.changed_node r k n) x _ _ e))

module _ (p : Page) (ts : Tree many) (ms : List (c.Tree c.program)) (cut : (s : ℕ) → s ≤ most_page_steps → (k : ℕ) × ((n : ℕ) → k ≤ n → IsPrefix (kept_of (programs_run p ts (programs_of ms) true s)).told (told_of true (kept_of (sources_run p ts ms n))))) where
  in_reach : (n m : ℕ) (op : Touch) (g : Tag) (key : List (List ℕ)) → IsThere m op g key (kept_of (sources_run p ts ms n)) → IsTouchInReach (kept_of (sources_run p ts ms n)) m op g key
  in_reach n m op g key h = record { before = h.before; behind = h.behind; name = h.name; named = h.named; there = h.there; had = page_items_lie (page_rules p) (nodes_seen (page_doc p ts)) (deeds_in (page_doc p ts) p ms) n h.before (touched m op h.name key) h.behind h.there }

  pub reaches : Reaches p ts ms
  reaches = record {
    sources = λ n. pages_reach (page_rules p) (nodes_seen (page_doc p ts)) (deeds_in (page_doc p ts) p ms) n;
    touches = λ s le a b m op g key is.
        let h = cut s le in (
          h.0,
          λ n more.
              let f : IsPrefix (kept_of (programs_run p ts (programs_of ms) true s)).told (told_of true (kept_of (sources_run p ts ms n))) = h.1 n more in
              in_reach n m op g key (find m op g key (kept_of (sources_run p ts ms n)) a (b ++ f.rest) (f.is ∙ ap (λ l. l ++ f.rest) is ∙ append_assoc a (told.touched m op g key ∷ b) f.rest)),
        );
  }
