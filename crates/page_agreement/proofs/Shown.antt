-- The lines of a group: they are those of its items, and the names of cells and roots that two pages have in common make them the same.
use Rattle.std.proofs.Common.{◌≡◌, ℕ, Bool, true, false, cond, List, [], ◌∷◌, ◌++◌, refl, sym, ap, ◌∙◌, subst}
use Rattle.std.specs.Prelude.{get_or, codes, if◌then◌else◌}
use Rattle.caja_units.specs.Index.{number_units}
use Rattle.caja_units.specs.Literal.{literal}
use Rattle.caja_units.specs.Utf8.{utf8_of}
use Rattle.page_deeds.specs.Deeds.{Owner, of_module, of_root, Label, of_load, of_call, of_tick, of_click, of_input, labelled}
use Rattle.page_deeds.specs.Shown as show
use Rattle.page_deeds.specs.Shown.{Shown, renamed, Ended, by_return, by_throw, by_nothing, end_renamed}
use Rattle.acts.specs.Laws.{All}
use Rattle.rows.specs.Rows.{Touch}
use Rattle.rows.specs.Document.{Change}
use Rattle.rows.specs.Names.{Tools, of_cajita, of_math, code_of}
use Rattle.heap_rows.specs.Natives.{tag_of_code, tag_of_tools}
use Rattle.heap_rows.specs.Doing as told
use Rattle.heap_rows.specs.Doing.{Told, heard}
use Rattle.cajita_meaning.specs.World.{Name, made_name, cell_name, own_name, built_name, tools_name, facet_name, forward_name}
use Rattle.cajita_meaning.specs.Direct.{Item, made, got, touched, passed, granted, said, was_revoked, changed_node, ended}
use Rattle.cajita_laws.specs.Parts.{Group, owns, items_of}
use Rattle.row_simulation.specs.Correspond.{tag_of_name}
use Rattle.row_simulation.specs.RowLaw.{shown}
use Rattle.page_log.specs.Log.{Names, name_in, own_ends, cell_ends, object_name, sort_text, shown_text, label_text, end_text, touch_text, key_text, change_text, line_end, line, log}
use Rattle.cell_numbers.specs.Renumbering.{Renumbering, name_anew, label_anew, item_anew, items_anew}
use Rattle.cell_numbers.specs.Cells.{cells_of, cells_shown, cells_ended, cells_told, cells_in, roots_of, roots_shown, roots_ended, roots_labelled, roots_told, roots_in}
use Rattle.page_manifest.specs.Page.{Page}
use Rattle.page_agreement.specs.Lines.{is_among, is_of, has_root, told_of}

-- the group's lines are those of its items

module _ (p : Page) (g : List ℕ) (cells : ℕ → Bool) where
  abbrev its_group : Group
  its_group = record { modules = is_among g; cells = cells; roots = has_root p g }

  -- an item that has a line, and what is told behind it
  one_line : (b touching : Bool) (i : Item) (t : Told) (z : List Item) (ts us : List Told) → ((y : List Item) → heard touching (shown (i ∷ y)) ≡ t ∷ heard touching (shown y)) → ts ≡ heard touching (shown z)
      → cond b (t ∷ ts) ts ≡ heard touching (shown (if b then i ∷ z else z))
  one_line true touching i t z ts us shows e = ap (λ l. t ∷ l) e ∙ sym (shows z)
  one_line false touching i t z ts us shows e = e

  -- an item that has none
  no_line : (b touching : Bool) (i : Item) (z : List Item) (ts : List Told) → ((y : List Item) → heard touching (shown (i ∷ y)) ≡ heard touching (shown y)) → ts ≡ heard touching (shown z) → ts ≡ heard touching (shown (if b then i ∷ z else z))
  no_line true touching i z ts shows e = e ∙ sym (shows z)
  no_line false touching i z ts shows e = e

  its_own : (o : Owner) → is_of p g o ≡ owns its_group o
  its_own (of_module m) = refl
  its_own (of_root r) = refl

  pub its_lines : (touching : Bool) (z : List Item) → told_of p g (heard touching (shown z)) ≡ heard touching (shown (items_of true its_group z))
  its_lines touching [] = refl
  its_lines true (touched m t o k ∷ z) = one_line (is_among g m) true (touched m t o k) (told.touched m t (tag_of_name o) k) (items_of true its_group z) (told_of p g (heard true (shown z))) [] (λ y. refl) (its_lines true z)
  its_lines false (touched m t o k ∷ z) = no_line (is_among g m) false (touched m t o k) (items_of true its_group z) (told_of p g (heard false (shown z))) (λ y. refl) (its_lines false z)
  its_lines touching (said m us ∷ z) = one_line (is_among g m) touching (said m us) (told.said m us) (items_of true its_group z) (told_of p g (heard touching (shown z))) [] (λ y. refl) (its_lines touching z)
  its_lines touching (ended l e ∷ z) =
      let t : Told = told.ended l (end_renamed tag_of_name e) in
      let ts = told_of p g (heard touching (shown z)) in
      let is = items_of true its_group z in
      subst (λ b. cond (is_of p g (labelled l)) (t ∷ ts) ts ≡ heard touching (shown (if b then ended l e ∷ is else is))) (its_own (labelled l)) (one_line (is_of p g (labelled l)) touching (ended l e) t is ts [] (λ y. refl) (its_lines touching z))
  its_lines touching (made m o ∷ z) = no_line (is_among g m) touching (made m o) (items_of true its_group z) (told_of p g (heard touching (shown z))) (λ y. refl) (its_lines touching z)
  its_lines touching (got m h o ∷ z) = no_line (is_among g m) touching (got m h o) (items_of true its_group z) (told_of p g (heard touching (shown z))) (λ y. refl) (its_lines touching z)
  its_lines touching (passed a b o ∷ z) = no_line (is_among g a) touching (passed a b o) (items_of true its_group z) (told_of p g (heard touching (shown z))) (λ y. refl) (its_lines touching z)
  its_lines touching (granted m o ∷ z) = no_line (is_among g m) touching (granted m o) (items_of true its_group z) (told_of p g (heard touching (shown z))) (λ y. refl) (its_lines touching z)
  its_lines touching (was_revoked m x ∷ z) = no_line (is_among g m) touching (was_revoked m x) (items_of true its_group z) (told_of p g (heard touching (shown z))) (λ y. refl) (its_lines touching z)
  its_lines touching (changed_node r k c ∷ z) = one_line (has_root p g r) touching (changed_node r k c) (told.changed_node r k c) (items_of true its_group z) (told_of p g (heard touching (shown z))) [] (λ y. refl) (its_lines touching z)

-- what holds of all holds of the last ones
all_behind : (P : ℕ → Type 0) (xs ys : List ℕ) → All P (xs ++ ys) → All P ys
all_behind P [] ys h = h
all_behind P (x ∷ xs) ys h = all_behind P xs ys h.1

all_before : (P : ℕ → Type 0) (xs ys : List ℕ) → All P (xs ++ ys) → All P xs
all_before P [] ys h = tt
all_before P (x ∷ xs) ys h = (h.0, all_before P xs ys h.1)

-- under the names of two pages, with the cells and roots of the second one numbered anew: of the cells that are told of, each has the same name in both, and so has each root

pub record Known (names others : List (List ℕ)) (own : ℕ → Bool) (anew : ℕ → ℕ) : Type 0 where
  pub same : (c : ℕ) → own (anew c) ≡ true → name_in names (anew c) ≡ name_in others c

module _ (a b : Names) (modules : a.modules ≡ b.modules) (f : Renumbering) (mine own : ℕ → Bool) (known_roots : Known a.roots b.roots mine f.roots.anew) (known_cells : Known a.cells b.cells own f.cells.anew) where
  abbrev AllOwn : List ℕ → Type 0
  AllOwn cs = All (λ c. own c ≡ true) cs

  abbrev AllMine : List ℕ → Type 0
  AllMine rs = All (λ r. mine r ≡ true) rs

  maker : (m : ℕ) → name_in a.modules m ≡ name_in b.modules m
  maker m = ap (λ names. name_in names m) modules

  -- the names of built-ins are everybody's
  code_shown : (code : List ℕ) → object_name a (tag_of_code code) ≡ object_name b (tag_of_code code)
  code_shown [] = refl
  code_shown (n ∷ []) = refl
  code_shown (n ∷ k ∷ []) = refl
  code_shown (n ∷ k ∷ l ∷ rest) = refl

  tools_shown : (t : Tools) → object_name a (tag_of_tools t) ≡ object_name b (tag_of_tools t)
  tools_shown of_cajita = refl
  tools_shown of_math = refl

  object_shown : (o : Name) → AllOwn (cells_of (name_anew f o)) → AllMine (roots_of (name_anew f o)) → object_name a (tag_of_name (name_anew f o)) ≡ object_name b (tag_of_name o)
  object_shown (made_name m n) h k = ap (λ name. name ++ codes "#" ++ number_units n) (maker m)
  object_shown (cell_name c i) h k = ap (λ name. codes "cell:" ++ name ++ get_or cell_ends i (codes "?")) (known_cells.same c h.0)
  object_shown (own_name m i) h k = ap (λ name. name ++ get_or own_ends i (codes "?")) (maker m)
  object_shown (built_name n) h k = code_shown (code_of n)
  object_shown (tools_name t) h k = tools_shown t
  object_shown (facet_name r n) h k = ap (λ name. codes "node:" ++ name ++ codes "/" ++ number_units n) (known_roots.same r k.0)
  object_shown (forward_name m p c i) h k = refl

  value_shown : (v : Shown Name) → AllOwn (cells_shown (renamed (name_anew f) v)) → AllMine (roots_shown (renamed (name_anew f) v)) → shown_text a (renamed tag_of_name (renamed (name_anew f) v)) ≡ shown_text b (renamed tag_of_name v)
  value_shown show.undefined h k = refl
  value_shown show.null h k = refl
  value_shown (show.truth t) h k = refl
  value_shown (show.number n) h k = refl
  value_shown (show.text us) h k = refl
  value_shown (show.thing s o) h k = ap (λ name. sort_text s ++ name) (object_shown o h k)
  value_shown (show.error o name message) h k = ap (λ n. codes "error " ++ n ++ codes " " ++ utf8_of name ++ codes " " ++ literal message) (object_shown o h k)

  end_shown : (e : Ended Name) → AllOwn (cells_ended (end_renamed (name_anew f) e)) → AllMine (roots_ended (end_renamed (name_anew f) e)) → end_text a (end_renamed tag_of_name (end_renamed (name_anew f) e)) ≡ end_text b (end_renamed tag_of_name e)
  end_shown (by_return v) h k = ap (λ t. codes " return " ++ t) (value_shown v h k)
  end_shown (by_throw v) h k = ap (λ t. codes " throw " ++ t) (value_shown v h k)
  end_shown by_nothing h k = refl

  label_shown : (l : Label) → label_text a (label_anew f l) ≡ label_text b l
  label_shown (of_load m) = ap (λ name. codes "load " ++ name) (maker m)
  label_shown (of_call k m key) = ap (λ name. codes "event " ++ number_units k ++ codes " call " ++ name ++ codes " " ++ literal key) (maker m)
  label_shown (of_tick k m) = ap (λ name. codes "event " ++ number_units k ++ codes " tick " ++ name) (maker m)
  label_shown (of_click k id root) = refl
  label_shown (of_input k id root) = refl

  -- lines

  touched_line : (m : ℕ) (t : Touch) (o : Name) (k : List (List ℕ)) → AllOwn (cells_of (name_anew f o)) → AllMine (roots_of (name_anew f o)) → line a (told.touched m t (tag_of_name (name_anew f o)) k) ≡ line b (told.touched m t (tag_of_name o) k)
  touched_line m t o k h j =
      ap (λ name. codes "touch " ++ name ++ touch_text t ++ object_name a (tag_of_name (name_anew f o)) ++ key_text k ++ line_end) (maker m)
      ∙ ap (λ name. codes "touch " ++ name_in b.modules m ++ touch_text t ++ name ++ key_text k ++ line_end) (object_shown o h j)

  said_line : (m : ℕ) (us : List ℕ) → line a (told.said m us) ≡ line b (told.said m us)
  said_line m us = ap (λ name. codes "say " ++ name ++ codes " " ++ literal us ++ line_end) (maker m)

  node_line : (r k : ℕ) (c : Change) → AllMine (f.roots.anew r ∷ []) → line a (told.changed_node (f.roots.anew r) k c) ≡ line b (told.changed_node r k c)
  node_line r k c h = ap (λ name. codes "dom " ++ name ++ change_text k c ++ line_end) (known_roots.same r h.0)

  ended_line : (l : Label) (e : Ended Name) → AllOwn (cells_ended (end_renamed (name_anew f) e)) → AllMine (roots_ended (end_renamed (name_anew f) e))
      → line a (told.ended (label_anew f l) (end_renamed tag_of_name (end_renamed (name_anew f) e))) ≡ line b (told.ended l (end_renamed tag_of_name e))
  ended_line l e h k =
      ap (λ t. t ++ end_text a (end_renamed tag_of_name (end_renamed (name_anew f) e)) ++ line_end) (label_shown l)
      ∙ ap (λ t. label_text b l ++ t ++ line_end) (end_shown e h k)

  -- what speaks of no others' cells and roots

  pub record SpeaksOf (z : List Item) : Type 0 where
    pub cells : AllOwn (cells_in (items_anew f z))
    pub roots : AllMine (roots_in (items_anew f z))

  behind : (i : Item) (z : List Item) → SpeaksOf (i ∷ z) → SpeaksOf z
  behind i z h = record {
    cells = all_behind (λ c. own c ≡ true) (cells_told (item_anew f i)) (cells_in (items_anew f z)) h.cells;
    roots = all_behind (λ r. mine r ≡ true) (roots_told (item_anew f i)) (roots_in (items_anew f z)) h.roots;
  }

  first_cells : (i : Item) (z : List Item) → SpeaksOf (i ∷ z) → AllOwn (cells_told (item_anew f i))
  first_cells i z h = all_before (λ c. own c ≡ true) (cells_told (item_anew f i)) (cells_in (items_anew f z)) h.cells

  first_roots : (i : Item) (z : List Item) → SpeaksOf (i ∷ z) → AllMine (roots_told (item_anew f i))
  first_roots i z h = all_before (λ r. mine r ≡ true) (roots_told (item_anew f i)) (roots_in (items_anew f z)) h.roots

  -- logs

  and_then : (touching : Bool) (t u : Told) (z : List Item) → line a t ≡ line b u → log a (heard touching (shown (items_anew f z))) ≡ log b (heard touching (shown z)) → line a t ++ log a (heard touching (shown (items_anew f z))) ≡ line b u ++ log b (heard touching (shown z))
  and_then touching t u z e rest = ap (λ l. l ++ log a (heard touching (shown (items_anew f z)))) e ∙ ap (λ l. line b u ++ l) rest

  pub same_log : (touching : Bool) (z : List Item) → SpeaksOf z → log a (heard touching (shown (items_anew f z))) ≡ log b (heard touching (shown z))
  same_log touching [] h = refl
  same_log true (touched m t o k ∷ z) h =
      let i : Item = touched m t o k in
      and_then true (told.touched m t (tag_of_name (name_anew f o)) k) (told.touched m t (tag_of_name o) k) z (touched_line m t o k (first_cells i z h) (first_roots i z h)) (same_log true z (behind i z h))
  same_log false (touched m t o k ∷ z) h = same_log false z (behind (touched m t o k) z h)
  same_log touching (said m us ∷ z) h = and_then touching (told.said m us) (told.said m us) z (said_line m us) (same_log touching z (behind (said m us) z h))
  same_log touching (ended l e ∷ z) h =
      let i : Item = ended l e in
      and_then touching (told.ended (label_anew f l) (end_renamed tag_of_name (end_renamed (name_anew f) e))) (told.ended l (end_renamed tag_of_name e)) z
      (ended_line l e (first_cells i z h) (all_behind (λ r. mine r ≡ true) (roots_labelled (label_anew f l)) (roots_ended (end_renamed (name_anew f) e)) (first_roots i z h))) (same_log touching z (behind i z h))
  same_log touching (made m o ∷ z) h = same_log touching z (behind (made m o) z h)
  same_log touching (got m o p ∷ z) h = same_log touching z (behind (got m o p) z h)
  same_log touching (passed x y o ∷ z) h = same_log touching z (behind (passed x y o) z h)
  same_log touching (granted m o ∷ z) h = same_log touching z (behind (granted m o) z h)
  same_log touching (was_revoked m p ∷ z) h = same_log touching z (behind (was_revoked m p) z h)
  same_log touching (changed_node r k c ∷ z) h =
      let i : Item = changed_node r k c in
      and_then touching (told.changed_node (f.roots.anew r) k c) (told.changed_node r k c) z (node_line r k c (first_roots i z h)) (same_log touching z (behind i z h))
