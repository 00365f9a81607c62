-- What the loops keep: the links that are left, each end under its label; the groups of the first modules.
use Rattle.std.proofs.Common.{◌≡◌, ℕ, ◌+◌, ◌<◌, ◌≤◌, Bool, true, false, cond, not, List, [], ◌∷◌, ◌++◌, map, filter, take, get_or, append_assoc, map-id, append-nil, sym, ap, ap₂, ◌∙◌, add-one, arith}
use Rattle.std.specs.List.{list_any}
use Rattle.std.proofs.lemmas.List.{map_push}
use Rattle.std.proofs.lemmas.List.FromFn.{get_or-map-range_with_len, take-map-range_with_len}
use Rattle.reach_report.specs.declared.Node.{Node}
use Rattle.reach_report.specs.declared.Node.TheVariants.{Module}
use Rattle.reach_report.specs.Links.{Links, same_node, joined, representative}
use Rattle.reach_report.specs.Groups.{below, is_with, firsts}
use Rattle.reach_report.proofs.Lists.{map_twice, map_pushed, any_map, filter_below_suc, filter_below_agree}

abbrev pub relabelled_link : Node → Node → Node × Node → Node × Node
relabelled_link a b l = (joined a b l.0, joined a b l.1)

abbrev pub ends_of : Links → Node × Node → Node × Node
ends_of ls l = (representative ls l.0, representative ls l.1)

-- the links in front are ahead, each with the representatives of its ends by the others
pub record IsHalfway (ls : Links) (n : ℕ) (ahead : Links) (labels : List Node) : Type 0 where
  pub front : Links
  pub behind : Links
  pub whole : ls ≡ front ++ behind
  pub ahead_is : ahead ≡ map (ends_of behind) front
  pub labels_are : labels ≡ map (λ m. representative behind (Module m)) (below n)

pub halfway_begins : (ls : Links) (n : ℕ) (ahead : Links) (labels : List Node) → ahead ≡ ls → labels ≡ map Module (below n) → IsHalfway ls n ahead labels
halfway_begins ls n ahead labels a b = record { front = ls; behind = []; whole = sym (append-nil ls); ahead_is = a ∙ sym (map-id ls); labels_are = b }

pub halfway_steps : (ls : Links) (n : ℕ) (ahead left next : Links) (labels labels' : List Node) (a b : Node) → IsHalfway ls n ahead labels → ahead ≡ left ++ (a, b) ∷ [] → labels' ≡ map (joined a b) labels → next ≡ map (relabelled_link a b) left → IsHalfway ls n next labels'
halfway_steps ls n ahead left next labels labels' a b h popped l s =
    let r = map_pushed (ends_of h.behind) h.front left (a, b) (sym h.ahead_is ∙ popped) in
    ending r.0 r.1 (h.whole ∙ ap (λ xs. xs ++ h.behind) r.2 ∙ append_assoc r.0 (r.1 ∷ []) h.behind) (s ∙ ap (map (relabelled_link a b)) (sym r.3) ∙ map_twice (ends_of h.behind) (relabelled_link a b) r.0)
    (l ∙ ap (map (joined a b)) h.labels_are ∙ map_twice (λ m. representative h.behind (Module m)) (joined a b) (below n)) (ap (λ p. p.0) (sym r.4)) (ap (λ p. p.1) (sym r.4))
  where
    ending : (front : Links) (x : Node × Node) → ls ≡ front ++ x ∷ h.behind → next ≡ map (λ e. relabelled_link a b (ends_of h.behind e)) front → labels' ≡ map (λ m. joined a b (representative h.behind (Module m))) (below n) → a ≡ representative h.behind x.0 → b ≡ representative h.behind x.1 → IsHalfway ls n next labels'
    ending front (c, d) w s l ea eb = record {
      front = front;
      behind = (c, d) ∷ h.behind;
      whole = w;
      ahead_is = s ∙ ap₂ (λ u v. map (λ e. relabelled_link u v (ends_of h.behind e)) front) ea eb;
      labels_are = l ∙ ap₂ (λ u v. map (λ m. joined u v (representative h.behind (Module m))) (below n)) ea eb;
    }

module _ (ls : Links) (n : ℕ) (labels : List Node) (are : labels ≡ map (λ m. representative ls (Module m)) (below n)) where
  label_at : (m : ℕ) (d : Node) → m < n → get_or labels m d ≡ representative ls (Module m)
  label_at m d l = ap (λ xs. get_or xs m d) are ∙ get_or-map-range_with_len (λ m. representative ls (Module m)) 0 n m m d l (zero_add m)
    where
      zero_add : (m : ℕ) → 0 + m ≡ m
      zero_add m = omega arith

  -- an earlier one has the label
  earlier : (m : ℕ) (label : Node) → m < n → label ≡ get_or labels m label → list_any (λ x. same_node x label) (take m labels) ≡ list_any (is_with ls m) (below m)
  earlier m label l read =
      ap₂ (λ x xs. list_any (λ y. same_node y x) xs) (read ∙ label_at m label l) (ap (take m) are ∙ take-map-range_with_len (λ k. representative ls (Module k)) 0 n m (le_of m n l))
      ∙ any_map (λ y. same_node y (representative ls (Module m))) (λ k. representative ls (Module k)) (below m)
    where
      le_of : (m n : ℕ) → m < n → m ≤ n
      le_of m n l = omega arith

  -- where the label of m stands
  members : (m : ℕ) (label : Node) → m < n → label ≡ get_or labels m label → filter (λ k. same_node (get_or labels k label) label) (below n) ≡ filter (is_with ls m) (below n)
  members m label l read = filter_below_agree (λ k. same_node (get_or labels k label) label) (is_with ls m) n (λ k lk. ap₂ same_node (label_at k label lk) (read ∙ label_at m label l))

  -- the groups of the first modules, and one more
  pub groups_grow : (m : ℕ) (label : Node) (b : Bool) (found : List (List ℕ)) (group : List ℕ) → m < n → label ≡ get_or labels m label → b ≡ list_any (λ x. same_node x label) (take m labels) → b ≡ false
      → group ≡ filter (λ k. same_node (get_or labels k label) label) (below n) → found ≡ map (λ f. filter (is_with ls f) (below n)) (firsts ls m)
      → found ++ group ∷ [] ≡ map (λ f. filter (is_with ls f) (below n)) (firsts ls (m + 1))
  groups_grow m label b found group l read e none g are_groups =
      ap₂ (λ xs x. xs ++ x ∷ []) are_groups (g ∙ members m label l read) ∙ sym (map_push (λ f. filter (is_with ls f) (below n)) (firsts ls m) m)
      ∙ ap (map (λ f. filter (is_with ls f) (below n))) (ap (λ c. firsts ls m ++ cond (not c) (m ∷ []) []) (sym none ∙ e ∙ earlier m label l read) ∙ sym (filter_below_suc (λ k. not (list_any (is_with ls k) (below k))) m) ∙ ap (firsts ls) (sym (add-one m)))

  pub groups_stay : (m : ℕ) (label : Node) (b : Bool) (found : List (List ℕ)) → m < n → label ≡ get_or labels m label → b ≡ list_any (λ x. same_node x label) (take m labels) → b ≡ true
      → found ≡ map (λ f. filter (is_with ls f) (below n)) (firsts ls m) → found ≡ map (λ f. filter (is_with ls f) (below n)) (firsts ls (m + 1))
  groups_stay m label b found l read e one are_groups =
      are_groups
      ∙ ap (map (λ f. filter (is_with ls f) (below n))) (sym (append-nil (firsts ls m)) ∙ ap (λ c. firsts ls m ++ cond (not c) (m ∷ []) []) (sym one ∙ e ∙ earlier m label l read) ∙ sym (filter_below_suc (λ k. not (list_any (is_with ls k) (below k))) m) ∙ ap (firsts ls) (sym (add-one m)))

-- the places of a label, of one place more
module _ (labels : List Node) (label : Node) (n : ℕ) (places places' : List ℕ) (b : Bool) (are : places ≡ filter (λ k. same_node (get_or labels k label) label) (below n)) (e : b ≡ same_node (get_or labels n label) label) where
  pub places_grow : b ≡ true → places' ≡ places ++ n ∷ [] → places' ≡ filter (λ k. same_node (get_or labels k label) label) (below (n + 1))
  places_grow is s =
      s ∙ ap₂ (λ xs c. xs ++ cond c (n ∷ []) []) are (sym is ∙ e) ∙ sym (filter_below_suc (λ k. same_node (get_or labels k label) label) n) ∙ ap (λ j. filter (λ k. same_node (get_or labels k label) label) (below j)) (sym (add-one n))

  pub places_stay : b ≡ false → places' ≡ places → places' ≡ filter (λ k. same_node (get_or labels k label) label) (below (n + 1))
  places_stay is s =
      s ∙ sym (append-nil places) ∙ ap₂ (λ xs c. xs ++ cond c (n ∷ []) []) are (sym is ∙ e) ∙ sym (filter_below_suc (λ k. same_node (get_or labels k label) label) n) ∙ ap (λ j. filter (λ k. same_node (get_or labels k label) label) (below j)) (sym (add-one n))
