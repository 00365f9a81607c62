-- A group of a page, and what its modules are granted: nothing of it is granted to others, and nothing of others to it.
use Rattle.std.proofs.Common.{◌≡◌, ◌⊎◌, inl, inr, ℕ, zero, suc, ◌+◌, ◌<◌, Bool, true, false, List, [], ◌∷◌, ◌++◌, Option, Some, None, All, Contains, refl, sym, ap, ◌∙◌, subst, arith, ⊎_elim, length}
use Rattle.std.specs.Prelude.{slice_get, option_map, nat_eq, ◌||◌, Any}
use Rattle.std.specs.List.{list_any}
use Rattle.std.proofs.lemmas.Bool.{false≢true, eqb-true, eq-eqb, false_from_ne_true}
use Rattle.std.proofs.lemmas.List.{get_or_default}
use Rattle.std.proofs.lemmas.List.Elements.{All-contains, All-head, All-tail}
use Rattle.std.proofs.lemmas.List.Folds.{list_any_at, Any-from_list_any}
use Rattle.std.proofs.lemmas.Option.{slice_get-map, slice_get_within}
use Rattle.std.proofs.lemmas.Map.Views.{Contains-from_any}
use Rattle.acts.specs.Laws as acts
use Rattle.page_deeds.specs.Deeds.{Grant, a_cell, a_result, a_plain, a_root, Grants}
use Rattle.cajita_laws.specs.Parts.{Group}
use Rattle.page_isolation.specs.Agree.{IsGrantOf}
use Rattle.page_manifest.specs.Page.{Granted, the_cell, the_result, the_plain, the_root, Grants as Manifested, Module, Page}
use Rattle.page_manifest.specs.Valid.{IsGranted, IsValid}
use Rattle.page_manifest.specs.Deeds.{given, all_given}
use Rattle.page_roots.specs.Roots.{roots_of, granted_roots, number_in}
use Rattle.reach_report.specs.declared.Node.{Node}
use Rattle.reach_report.specs.declared.Node.TheVariants as node
use Rattle.reach_report.specs.Links.{Links, grant_links, links_from, page_links, IsLink, Linked, linked, back, onward}
use Rattle.reach_report.specs.Groups.{groups, StandTogether}
use Rattle.reach_report.specs.Pages.{grants_of, page_groups}
use Rattle.reach_report.proofs.Laws.{the_partition_is_listed, each_stands_in_one, modules_alone}
use Rattle.page_agreement.specs.Agree.{IsAt, IsGrantedIn, IsRootOf}
use Rattle.page_agreement.specs.Lines.{is_among, given_in, given_at, is_root, has_granted, has_root}
use Rattle.page_agreement.proofs.Roots.{root_named}

-- among numbers

pub among_true : (g : List ℕ) (m : ℕ) → Contains g m → is_among g m ≡ true
among_true g m c = list_any_at (nat_eq m) g c.0 m c.1 (eq-eqb m _ (sym c.2))

pub among_from : (g : List ℕ) (m : ℕ) → is_among g m ≡ true → Contains g m
among_from g m e = Contains-from_any {eq = nat_eq} (λ x y h. eqb-true x y h) m g e

pub among_false : (g : List ℕ) (m : ℕ) → (Contains g m → ⊥) → is_among g m ≡ false
among_false g m h = false_from_ne_true (is_among g m) (λ e. h (among_from g m e))

-- what holds of each that is granted

pub all_granted : (P : Grant → Type 0) (gs : Grants) → ((t : Grant) → IsGrantedIn t gs → P t) → acts.All (λ q. P q.1) gs
all_granted P [] h = tt
all_granted P ((x, t) ∷ gs) h = (h t (inl refl), all_granted P gs (λ u is. h u (inr is)))

pub granted_all : (P : Granted → Type 0) (gs : Manifested) → All (λ q. P q.1) gs → (t : Granted) → IsGrantedIn t gs → P t
granted_all P [] h t is = absurd is
granted_all P ((x, u) ∷ gs) h t is = ⊎_elim (λ e. subst P e (All-head (λ q. P q.1) (x, u) gs h)) (λ k. granted_all P gs (All-tail (λ q. P q.1) (x, u) gs h) t k) is

-- what is granted by numbers is granted by the manifest
given_from : (root_of : List ℕ → ℕ) (gs : Manifested) (P : Grant → Type 0) → ((t : Granted) → IsGrantedIn t gs → P (given root_of t)) → (u : Grant) → IsGrantedIn u (all_given root_of gs) → P u
given_from root_of [] P h u is = absurd is
given_from root_of ((x, t) ∷ gs) P h u is = ⊎_elim (λ e. subst P e (h t (inl refl))) (λ k. given_from root_of gs P (λ s there. h s (inr there)) u k) is

pub root_given : (root_of : List ℕ → ℕ) (id : List ℕ) (gs : Manifested) → IsGrantedIn (the_root id) gs → IsGrantedIn (a_root (root_of id)) (all_given root_of gs)
root_given root_of id [] is = absurd is
root_given root_of id ((x, t) ∷ gs) is = ⊎_elim (λ e. inl (ap (given root_of) e)) (λ k. inr (root_given root_of id gs k)) is

-- the id of a root that is granted
pub record HasId (root_of : List ℕ → ℕ) (gs : Manifested) (r : ℕ) : Type 0 where
  pub id : List ℕ
  pub granted : IsGrantedIn (the_root id) gs
  pub number : root_of id ≡ r

id_here : (root_of : List ℕ → ℕ) (gs : Manifested) (x : List ℕ) (t : Granted) (r : ℕ) → given root_of t ≡ a_root r → HasId root_of ((x, t) ∷ gs) r
id_here root_of gs x (the_root id) r e = record { id = id; granted = inl refl; number = (let same : root_of id ≡ r = cc in same) }
id_here root_of gs x (the_cell c) r e = absurd cc
id_here root_of gs x (the_result m) r e = absurd cc
id_here root_of gs x (the_plain v) r e = absurd cc

pub id_from : (root_of : List ℕ → ℕ) (gs : Manifested) (r : ℕ) → IsGrantedIn (a_root r) (all_given root_of gs) → HasId root_of gs r
id_from root_of [] r is = absurd is
id_from root_of ((x, t) ∷ gs) r is = ⊎_elim (λ e. id_here root_of gs x t r e) (λ k. let h = id_from root_of gs r k in record { id = h.id; granted = inr h.granted; number = h.number }) is

-- links

cell_link : (i c : ℕ) (gs : Grants) → IsGrantedIn (a_cell c) gs → IsLink (node.Module i) (node.Cell c) (grant_links i gs)
cell_link i c [] is = absurd is
cell_link i c ((x, a_cell k) ∷ gs) is = ⊎_elim (λ e. inl (refl, let same : c ≡ k = cc in ap node.Cell same)) (λ h. inr (cell_link i c gs h)) is
cell_link i c ((x, a_result k) ∷ gs) is = ⊎_elim (λ e. absurd (cc)) (λ h. inr (cell_link i c gs h)) is
cell_link i c ((x, a_plain v) ∷ gs) is = ⊎_elim (λ e. absurd (cc)) (λ h. cell_link i c gs h) is
cell_link i c ((x, a_root r) ∷ gs) is = ⊎_elim (λ e. absurd (cc)) (λ h. inr (cell_link i c gs h)) is

result_link : (i n : ℕ) (gs : Grants) → IsGrantedIn (a_result n) gs → IsLink (node.Module i) (node.Module n) (grant_links i gs)
result_link i n [] is = absurd is
result_link i n ((x, a_cell k) ∷ gs) is = ⊎_elim (λ e. absurd (cc)) (λ h. inr (result_link i n gs h)) is
result_link i n ((x, a_result k) ∷ gs) is = ⊎_elim (λ e. inl (refl, let same : n ≡ k = cc in ap node.Module same)) (λ h. inr (result_link i n gs h)) is
result_link i n ((x, a_plain v) ∷ gs) is = ⊎_elim (λ e. absurd (cc)) (λ h. result_link i n gs h) is
result_link i n ((x, a_root r) ∷ gs) is = ⊎_elim (λ e. absurd (cc)) (λ h. inr (result_link i n gs h)) is

root_link : (i r : ℕ) (gs : Grants) → IsGrantedIn (a_root r) gs → IsLink (node.Module i) (node.Root r) (grant_links i gs)
root_link i r [] is = absurd is
root_link i r ((x, a_cell k) ∷ gs) is = ⊎_elim (λ e. absurd (cc)) (λ h. inr (root_link i r gs h)) is
root_link i r ((x, a_result k) ∷ gs) is = ⊎_elim (λ e. absurd (cc)) (λ h. inr (root_link i r gs h)) is
root_link i r ((x, a_plain v) ∷ gs) is = ⊎_elim (λ e. absurd (cc)) (λ h. root_link i r gs h) is
root_link i r ((x, a_root k) ∷ gs) is = ⊎_elim (λ e. inl (refl, let same : r ≡ k = cc in ap node.Root same)) (λ h. inr (root_link i r gs h)) is

link_left : (a b : Node) (ls ks : Links) → IsLink a b ls → IsLink a b (ls ++ ks)
link_left a b [] ks h = absurd h
link_left a b (l ∷ ls) ks h = ⊎_elim (λ e. inl e) (λ k. inr (link_left a b ls ks k)) h

link_right : (a b : Node) (ls ks : Links) → IsLink a b ks → IsLink a b (ls ++ ks)
link_right a b [] ks h = h
link_right a b (l ∷ ls) ks h = inr (link_right a b ls ks h)

link_at : (i j : ℕ) (gss : List Grants) (gs : Grants) (a b : Node) → slice_get gss j ≡ Some gs → IsLink a b (grant_links (i + j) gs) → IsLink a b (links_from i gss)
link_at i j [] gs a b is h = absurd (cc)
link_at i zero (hs ∷ gss) gs a b is h =
    let same : gs ≡ hs = cc in
    link_left a b (grant_links i hs) (links_from (suc i) gss) (subst (λ n. IsLink a b (grant_links n hs)) (omega arith) (subst (λ k. IsLink a b (grant_links (i + 0) k)) same h))
link_at i (suc j) (hs ∷ gss) gs a b is h = link_right a b (grant_links i hs) (links_from (suc i) gss) (link_at (suc i) j gss gs a b is (subst (λ n. IsLink a b (grant_links n gs)) (omega arith) h))

-- the group of cajita_laws: its modules, and the cells and roots that are granted to one of them

abbrev pub is_cell : ℕ → Grant → Bool
is_cell c (a_cell k) = nat_eq c k
is_cell c (a_result m) = false
is_cell c (a_plain v) = false
is_cell c (a_root r) = false

abbrev pub the_group : Page → List ℕ → Group
the_group p g = record { modules = is_among g; cells = λ c. has_granted (is_cell c) p g; roots = has_root p g }

-- a test that tells what it is a test of
pub record Tells (is_it : Grant → Bool) (t : Grant) : Type 0 where
  pub itself : is_it t ≡ true
  pub alone : (u : Grant) → is_it u ≡ true → u ≡ t

pub cell_tells : (c : ℕ) → Tells (is_cell c) (a_cell c)
cell_tells c = record { itself = eq-eqb c c refl; alone = alone }
  where
    alone : (u : Grant) → is_cell c u ≡ true → u ≡ a_cell c
    alone (a_cell k) e = ap a_cell (sym (eqb-true c k e))
    alone (a_result m) e = absurd (false≢true e)
    alone (a_plain v) e = absurd (false≢true e)
    alone (a_root r) e = absurd (false≢true e)

pub root_tells : (r : ℕ) → Tells (is_root r) (a_root r)
root_tells r = record { itself = eq-eqb r r refl; alone = alone }
  where
    alone : (u : Grant) → is_root r u ≡ true → u ≡ a_root r
    alone (a_cell k) e = absurd (false≢true e)
    alone (a_result m) e = absurd (false≢true e)
    alone (a_plain v) e = absurd (false≢true e)
    alone (a_root k) e = ap a_root (sym (eqb-true r k e))

or_right : (a b : Bool) → b ≡ true → (a || b) ≡ true
or_right true b e = refl
or_right false b e = e

module _ (is_it : Grant → Bool) (t : Grant) (tells : Tells is_it t) where
  grants_true : (gs : Grants) → IsGrantedIn t gs → list_any (λ x. is_it x.1) gs ≡ true
  grants_true [] is = absurd is
  grants_true ((x, u) ∷ gs) is = ⊎_elim (λ e. ap (λ b. b || list_any (λ x. is_it x.1) gs) (ap is_it e ∙ tells.itself)) (λ h. or_right (is_it u) (list_any (λ x. is_it x.1) gs) (grants_true gs h)) is

  grants_from : (gs : Grants) → list_any (λ x. is_it x.1) gs ≡ true → IsGrantedIn t gs
  grants_from [] e = absurd (false≢true e)
  grants_from ((x, u) ∷ gs) e = at (grants_from gs) (is_it u) refl e
    where
      at : (list_any (λ x. is_it x.1) gs ≡ true → IsGrantedIn t gs) → (b : Bool) → is_it u ≡ b → (b || list_any (λ x. is_it x.1) gs) ≡ true → (u ≡ t) ⊎ IsGrantedIn t gs
      at rest true h f = inl (tells.alone u h)
      at rest false h f = inr (rest f)

-- it is granted to one of the group's modules
pub record OfMember (p : Page) (g : List ℕ) (t : Grant) : Type 0 where
  pub by : ℕ
  pub member : Contains g by
  pub its_module : Module
  pub there : IsAt p by its_module
  pub granted : IsGrantedIn t (given_in p its_module)

pub member_from : (p : Page) (g : List ℕ) (is_it : Grant → Bool) (t : Grant) → Tells is_it t → has_granted is_it p g ≡ true → OfMember p g t
member_from p g is_it t tells e =
    let h : Any (λ i. list_any (λ x. is_it x.1) (given_at p (slice_get p.modules i)) ≡ true) g = Any-from_list_any (λ i. list_any (λ x. is_it x.1) (given_at p (slice_get p.modules i))) g e in
    at h.1 (h.0, h.2, h.3) (slice_get p.modules h.1) refl h.4
  where
    at : (i : ℕ) → Contains g i → (o : Option Module) → slice_get p.modules i ≡ o → list_any (λ x. is_it x.1) (given_at p o) ≡ true → OfMember p g t
    at i is None there f = absurd (false≢true f)
    at i is (Some m) there f = record { by = i; member = is; its_module = m; there = there; granted = grants_from is_it t tells (given_in p m) f }

pub member_true : (p : Page) (g : List ℕ) (is_it : Grant → Bool) (t : Grant) → Tells is_it t → (i : ℕ) (m : Module) → Contains g i → IsAt p i m → IsGrantedIn t (given_in p m) → has_granted is_it p g ≡ true
member_true p g is_it t tells i m is there granted =
    let test : ℕ → Bool = λ j. list_any (λ x. is_it x.1) (given_at p (slice_get p.modules j)) in
    list_any_at test g is.0 i is.1 (ap test is.2 ∙ ap (λ o. list_any (λ x. is_it x.1) (given_at p o)) there ∙ grants_true is_it t tells (given_in p m) granted)

-- the root with an id
pub root_true : (p : Page) (g : List ℕ) (id : List ℕ) → IsRootOf p g id → has_root p g (number_in (roots_of p) id) ≡ true
root_true p g id h = let r = number_in (roots_of p) id in member_true p g (is_root r) (a_root r) (root_tells r) h.by h.its_module h.member h.at (root_given (number_in (roots_of p)) id h.its_module.grants h.granted)

-- the id of a root of the group
pub record RootOf (p : Page) (g : List ℕ) (r : ℕ) : Type 0 where
  pub id : List ℕ
  pub is : IsRootOf p g id
  pub number : number_in (roots_of p) id ≡ r

pub root_from : (p : Page) (g : List ℕ) (r : ℕ) → has_root p g r ≡ true → RootOf p g r
root_from p g r e =
    let m = member_from p g (is_root r) (a_root r) (root_tells r) e in
    let h = id_from (number_in (roots_of p)) m.its_module.grants r m.granted in
    record { id = h.id; is = record { by = m.by; member = m.member; its_module = m.its_module; at = m.there; granted = h.granted }; number = h.number }

pub root_below : (p : Page) (g : List ℕ) (r : ℕ) → has_root p g r ≡ true → r < length (granted_roots p)
root_below p g r e = let h = root_from p g r e in subst (λ n. n < length (granted_roots p)) h.number (slice_get_within (granted_roots p) (number_in (roots_of p) h.id) h.id (root_named p h.is.by h.is.its_module h.id h.is.at h.is.granted))

-- who is of a group of the page

module _ (p : Page) (g : List ℕ) (is : Contains (page_groups p) g) where
  abbrev the_links : Links
  the_links = page_links (grants_of p)

  pub member_below : (i : ℕ) → Contains g i → i < length p.modules
  member_below i c = All-contains (λ m. m < length p.modules) g i (All-contains (All (λ m. m < length p.modules)) (page_groups p) g (modules_alone the_links (length p.modules)) is) c

  -- who is together with one of the group is of it
  pub together_in : (i j : ℕ) → Contains g i → j < length p.modules → Linked the_links (node.Module i) (node.Module j) → Contains g j
  together_in i j c lj l =
      let n = length p.modules in
      let li : i < n = member_below i c in
      let s : StandTogether (groups the_links n) i j = (the_partition_is_listed the_links i j n li lj).1 l in
      let one = each_stands_in_one the_links i n li in
      let at_is : Rattle.std.specs.Prelude.slice_index_or (page_groups p) is.0 [] ≡ g = get_or_default (page_groups p) is.0 [] g is.1 ∙ is.2 in
      let at_s : Rattle.std.specs.Prelude.slice_index_or (page_groups p) s.0 [] ≡ s.1 = get_or_default (page_groups p) s.0 [] s.1 s.2 ∙ s.3 in
      let first : is.0 ≡ one.0 = one.2 is.0 (subst (λ x. Contains x i) (sym at_is) c) in
      let second : s.0 ≡ one.0 = one.2 s.0 (subst (λ x. Contains x i) (sym at_s) s.4.0) in
      let same : s.1 ≡ g = sym at_s ∙ ap (λ k. Rattle.std.specs.Prelude.slice_index_or (page_groups p) k []) (second ∙ sym first) ∙ at_is in
      subst (λ x. Contains x j) same s.4.1

  its_grants : (i : ℕ) (m : Module) → IsAt p i m → slice_get (grants_of p) i ≡ Some (given_in p m)
  its_grants i m there = slice_get-map (λ (n : Module). all_given (number_in (roots_of p)) n.grants) p.modules i ∙ ap (option_map (λ (n : Module). all_given (number_in (roots_of p)) n.grants)) there

  to_link : (i : ℕ) (m : Module) (a b : Node) → IsAt p i m → IsLink a b (grant_links i (given_in p m)) → Linked the_links a b
  to_link i m a b there h = linked a b (link_at 0 i (grants_of p) (given_in p m) a b (its_grants i m there) (subst (λ n. IsLink a b (grant_links n (given_in p m))) (omega arith) h))

  -- two modules that are linked with one thing are both of the group, or neither is
  both_in : (i j : ℕ) (a : Node) (m n : Module) → Contains g i → IsAt p i m → IsLink (node.Module i) a (grant_links i (given_in p m)) → IsAt p j n → IsLink (node.Module j) a (grant_links j (given_in p n)) → Contains g j
  both_in i j a m n member there has there' has' =
      together_in i j member (slice_get_within p.modules j n there') (onward (node.Module i) a (node.Module j) (to_link i m (node.Module i) a there has) (back (node.Module j) a (to_link j n (node.Module j) a there' has')))

  pub one_cell : (i j c : ℕ) (m n : Module) → Contains g i → IsAt p i m → IsGrantedIn (a_cell c) (given_in p m) → IsAt p j n → IsGrantedIn (a_cell c) (given_in p n) → Contains g j
  one_cell i j c m n member there has there' has' = both_in i j (node.Cell c) m n member there (cell_link i c (given_in p m) has) there' (cell_link j c (given_in p n) has')

  pub one_root : (i j r : ℕ) (m n : Module) → Contains g i → IsAt p i m → IsGrantedIn (a_root r) (given_in p m) → IsAt p j n → IsGrantedIn (a_root r) (given_in p n) → Contains g j
  one_root i j r m n member there has there' has' = both_in i j (node.Root r) m n member there (root_link i r (given_in p m) has) there' (root_link j r (given_in p n) has')

  -- the result of one of the group is granted to no other
  pub other_results : (j n : ℕ) (m : Module) → (Contains g j → ⊥) → IsAt p j m → IsGrantedIn (a_result n) (given_in p m) → is_among g n ≡ false
  other_results j n m other there h =
      among_false g n
      (λ member. other (together_in n j member (slice_get_within p.modules j m there) (back (node.Module j) (node.Module n) (to_link j m (node.Module j) (node.Module n) there (result_link j n (given_in p m) h)))))

  -- a root of the group is granted to no other
  pub other_roots : (j r : ℕ) (m : Module) → (Contains g j → ⊥) → IsAt p j m → IsGrantedIn (a_root r) (given_in p m) → has_root p g r ≡ false
  other_roots j r m other there h =
      false_from_ne_true (has_root p g r) (λ e. let k = member_from p g (is_root r) (a_root r) (root_tells r) e in other (one_root k.by j r k.its_module m k.member k.there k.granted there h))

  -- what is granted to others is not the group's
  pub other_grants : (j : ℕ) (m : Module) → (Contains g j → ⊥) → IsAt p j m → (t : Grant) → IsGrantedIn t (given_in p m) → IsGrantOf false (the_group p g) t
  other_grants j m other there (a_cell c) h =
      false_from_ne_true ((the_group p g).cells c) (λ e. let k = member_from p g (is_cell c) (a_cell c) (cell_tells c) e in other (one_cell k.by j c k.its_module m k.member k.there k.granted there h))
  other_grants j m other there (a_result n) h = other_results j n m other there h
  other_grants j m other there (a_plain v) h = tt
  other_grants j m other there (a_root r) h = other_roots j r m other there h

-- of a page without faults

-- the cell is there, or the module is loaded before module i
abbrev IsThere : ℕ → ℕ → Grant → Type 0
IsThere cells i (a_cell c) = c < cells
IsThere cells i (a_result n) = n < i
IsThere cells i (a_plain v) = Unit {0}
IsThere cells i (a_root r) = Unit {0}

is_there : (root_of : List ℕ → ℕ) (cells i : ℕ) (t : Granted) → IsGranted cells i t → IsThere cells i (given root_of t)
is_there root_of cells i (the_cell c) h = h
is_there root_of cells i (the_result n) h = h
is_there root_of cells i (the_plain v) h = tt
is_there root_of cells i (the_root id) h = tt

module _ (p : Page) (valid : IsValid p) (g : List ℕ) (is : Contains (page_groups p) g) where
  its_granted : (i : ℕ) (m : Module) → IsAt p i m → (t : Grant) → IsGrantedIn t (given_in p m) → IsThere (length p.cells) i t
  its_granted i m there t h =
      given_from (number_in (roots_of p)) m.grants (IsThere (length p.cells) i) (λ u k. is_there (number_in (roots_of p)) (length p.cells) i u (granted_all (IsGranted (length p.cells) i) m.grants (valid.modules i m there).granted u k)) t h

  -- a result that is granted is of a module that is there
  earlier_below : (i n : ℕ) (m : Module) → IsAt p i m → IsGrantedIn (a_result n) (given_in p m) → n < length p.modules
  earlier_below i n m there h =
      let before : n < i = its_granted i m there (a_result n) h in
      let within : i < length p.modules = slice_get_within p.modules i m there in
      omega arith

  -- the cells of the group are among the page's
  pub cell_below : (c : ℕ) → (the_group p g).cells c ≡ true → c < length p.cells
  cell_below c e = let h = member_from p g (is_cell c) (a_cell c) (cell_tells c) e in its_granted h.by h.its_module h.there (a_cell c) h.granted

  -- what is granted to one of the group is the group's
  pub own_grants : (i : ℕ) (m : Module) → Contains g i → IsAt p i m → (t : Grant) → IsGrantedIn t (given_in p m) → IsGrantOf true (the_group p g) t
  own_grants i m member there (a_cell c) h = member_true p g (is_cell c) (a_cell c) (cell_tells c) i m member there h
  own_grants i m member there (a_result n) h =
      among_true g n (together_in p g is i n member (earlier_below i n m there h) (to_link p g is i m (node.Module i) (node.Module n) there (result_link i n (given_in p m) h)))
  own_grants i m member there (a_plain v) h = tt
  own_grants i m member there (a_root r) h = member_true p g (is_root r) (a_root r) (root_tells r) i m member there h
