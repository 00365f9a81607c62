-- The deeds of two pages that agree on a group go in pairs that agree on it, once the cells and roots of the second page have the numbers of the first one's.
use Rattle.std.proofs.Common.{◌≡◌, ◌⊎◌, inl, inr, ℕ, zero, suc, ◌+◌, ◌<◌, Bool, true, false, List, [], ◌∷◌, ◌++◌, Some, Contains, refl, sym, ap, ◌∙◌, subst, arith, ⊎_elim, length}
use Rattle.std.specs.Prelude.{slice_get}
use Rattle.std.proofs.lemmas.Bool.{false≢true, false_from_ne_true}
use Rattle.html_grammar.specs.Trees.{many, Tree}
use Rattle.acts.specs.Laws as acts
use Rattle.page_deeds.specs.Deeds.{Plain, Grant, a_cell, a_result, a_plain, a_root, Grants, to_load, to_call, to_tick, to_click, to_input}
use Rattle.cajita_tree.specs.Tree as c
use Rattle.cajita_laws.specs.Parts.{Group}
use Rattle.cajita_page.specs.DirectPage.{Deed}
use Rattle.page_isolation.specs.Agree.{IsGrantOf, DeedsAgree, Agrees}
use Rattle.cell_numbers.specs.Renumbering.{Renumbering, grant_anew, grants_anew, deed_anew, deeds_anew}
use Rattle.cell_numbers.specs.Names.{IsNamed, Listed, BothJoin, SameGrant, SameGrants}
use Rattle.cell_numbers.proofs.Names.{deeds_join}
use Rattle.event_script.specs.Events.{Asked, a_call, a_click, an_input, a_tick}
use Rattle.page_manifest.specs.Page.{Granted, the_cell, the_result, the_plain, the_root, Grants as Manifested, Module, Page}
use Rattle.page_manifest.specs.Valid.{IsValid}
use Rattle.page_manifest.specs.Deeds.{given, all_given, loads, events, deeds}
use Rattle.page_roots.specs.Roots.{roots_of, granted_roots, number_in}
use Rattle.page_agreement.specs.Agree.{IsAt, SameGranted, AllSameGranted, IsGrantedIn, IsRootOf, ModulesAgree, AgreeOn}
use Rattle.page_agreement.specs.Lines.{is_among, given_in, has_root}
use Rattle.page_agreement.proofs.Roots.{root_named}
use Rattle.page_agreement.proofs.Groups.{among_true, among_from, all_granted, root_given, the_group, root_true, is_cell, cell_tells, member_from, root_from, member_below, one_cell, one_root, own_grants, other_grants, other_results}

abbrev pub Program : Type 0
Program = c.Tree c.program

-- the names of its cells, and the ids of its roots
abbrev pub listed : Page → Listed
listed p = record { cells = p.cells; roots = granted_roots p }

-- what is granted, with the cells and roots numbered anew

pub all_anew : (P : Grant → Type 0) (f : Renumbering) (gs : Grants) → ((t : Grant) → IsGrantedIn t gs → P (grant_anew f t)) → acts.All (λ q. P q.1) (grants_anew f gs)
all_anew P f [] h = tt
all_anew P f ((x, t) ∷ gs) h = (h t (inl refl), all_anew P f gs (λ u is. h u (inr is)))

pub fixed_grants : (f : Renumbering) (gs : Grants) → ((t : Grant) → IsGrantedIn t gs → grant_anew f t ≡ t) → grants_anew f gs ≡ gs
fixed_grants f [] h = refl
fixed_grants f ((x, t) ∷ gs) h = ap (λ (u : Grant). (x, u) ∷ grants_anew f gs) (h t (inl refl)) ∙ ap (λ (l : Grants). (x, t) ∷ l) (fixed_grants f gs (λ u is. h u (inr is)))

-- the other way round

granted_back : (p q : Page) (t u : Granted) → SameGranted p q t u → SameGranted q p u t
granted_back p q (the_cell d) (the_cell e) s = (s.0, s.2, s.1)
granted_back p q (the_cell d) (the_result m) s = absurd cc
granted_back p q (the_cell d) (the_plain v) s = absurd cc
granted_back p q (the_cell d) (the_root id) s = absurd cc
granted_back p q (the_result m) u s = subst (λ k. SameGranted q p k (the_result m)) s refl
granted_back p q (the_plain v) u s = subst (λ k. SameGranted q p k (the_plain v)) s refl
granted_back p q (the_root id) u s = subst (λ k. SameGranted q p k (the_root id)) s refl

pub all_back : (p q : Page) (gs hs : Manifested) → AllSameGranted p q gs hs → AllSameGranted q p hs gs
all_back p q [] [] s = tt
all_back p q ((x, t) ∷ gs) ((y, u) ∷ hs) s = (sym s.0, granted_back p q t u s.1, all_back p q gs hs s.2)
all_back p q gs hs s = absurd s

-- the same by numbers, which are those of the names

abbrev NamedIn : Page → Manifested → Type 0
NamedIn p gs = (id : List ℕ) → IsGrantedIn (the_root id) gs → IsNamed (granted_roots p) (number_in (roots_of p) id) id

same_grant : (p q : Page) (t u : Granted) → ((id : List ℕ) → t ≡ the_root id → IsNamed (granted_roots p) (number_in (roots_of p) id) id) → ((id : List ℕ) → u ≡ the_root id → IsNamed (granted_roots q) (number_in (roots_of q) id) id) → SameGranted p q t u
    → SameGrant (listed p) (listed q) (given (number_in (roots_of p)) t) (given (number_in (roots_of q)) u)
same_grant p q (the_cell d) (the_cell e) n o s = s
same_grant p q (the_cell d) (the_result m) n o s = absurd cc
same_grant p q (the_cell d) (the_plain v) n o s = absurd cc
same_grant p q (the_cell d) (the_root id) n o s = absurd cc
same_grant p q (the_result m) u n o s = subst (λ k. SameGrant (listed p) (listed q) (a_result m) (given (number_in (roots_of q)) k)) s refl
same_grant p q (the_plain v) u n o s = subst (λ k. SameGrant (listed p) (listed q) (a_plain v) (given (number_in (roots_of q)) k)) s refl
same_grant p q (the_root id) u n o s =
    subst (λ k. SameGrant (listed p) (listed q) (a_root (number_in (roots_of p) id)) (given (number_in (roots_of q)) k)) s (id, n id refl, o id (sym s))

same_grants : (p q : Page) (gs hs : Manifested) → NamedIn p gs → NamedIn q hs → AllSameGranted p q gs hs → SameGrants (listed p) (listed q) (all_given (number_in (roots_of p)) gs) (all_given (number_in (roots_of q)) hs)
same_grants p q [] [] n o s = tt
same_grants p q ((x, t) ∷ gs) ((y, u) ∷ hs) n o s =
    (s.0, same_grant p q t u (λ id e. n id (inl e)) (λ id e. o id (inl e)) s.1, same_grants p q gs hs (λ id is. n id (inr is)) (λ id is. o id (inr is)) s.2)
same_grants p q [] (h ∷ hs) n o s = absurd s
same_grants p q (g ∷ gs) [] n o s = absurd s

pub modules_same : (p q : Page) (i : ℕ) (m n : Module) → IsAt p i m → IsAt q i n → AllSameGranted p q m.grants n.grants → SameGrants (listed p) (listed q) (given_in p m) (given_in q n)
modules_same p q i m n at at' s = same_grants p q m.grants n.grants (λ id is. root_named p i m id at is) (λ id is. root_named q i n id at' is) s

-- a granted cell has its like, of the same name
pub record HasLike (a b : Listed) (d : ℕ) (hs : Grants) : Type 0 where
  pub like : ℕ
  pub granted : IsGrantedIn (a_cell like) hs
  pub name : List ℕ
  pub here : IsNamed a.cells d name
  pub there : IsNamed b.cells like name

like_here : (a b : Listed) (d : ℕ) (x : List ℕ) (t u : Grant) (hs : Grants) → t ≡ a_cell d → SameGrant a b t u → HasLike a b d ((x, u) ∷ hs)
like_here a b d x (a_cell k) (a_cell e) hs is s = let same : k ≡ d = cc in record { like = e; granted = inl refl; name = s.0; here = subst (λ i. IsNamed a.cells i s.0) same s.1; there = s.2 }
like_here a b d x (a_cell k) (a_result m) hs is s = absurd cc
like_here a b d x (a_cell k) (a_plain v) hs is s = absurd cc
like_here a b d x (a_cell k) (a_root r) hs is s = absurd cc
like_here a b d x (a_result m) u hs is s = absurd cc
like_here a b d x (a_plain v) u hs is s = absurd cc
like_here a b d x (a_root r) u hs is s = absurd cc

pub like_of : (a b : Listed) (d : ℕ) (gs hs : Grants) → SameGrants a b gs hs → IsGrantedIn (a_cell d) gs → HasLike a b d hs
like_of a b d [] hs s is = absurd is
like_of a b d ((x, t) ∷ gs) [] s is = absurd s
like_of a b d ((x, t) ∷ gs) ((y, u) ∷ hs) s is =
    ⊎_elim (λ e. like_here a b d y t u hs e s.1) (λ k. let l = like_of a b d gs hs s.2 k in record { like = l.like; granted = inr l.granted; name = l.name; here = l.here; there = l.there }) is

-- a granted root is granted there

root_here : (p q : Page) (id : List ℕ) (t u : Granted) → t ≡ the_root id → SameGranted p q t u → u ≡ the_root id
root_here p q id (the_root k) u e s = sym s ∙ e
root_here p q id (the_cell c) u e s = absurd cc
root_here p q id (the_result m) u e s = absurd cc
root_here p q id (the_plain v) u e s = absurd cc

pub root_there : (p q : Page) (id : List ℕ) (gs hs : Manifested) → AllSameGranted p q gs hs → IsGrantedIn (the_root id) gs → IsGrantedIn (the_root id) hs
root_there p q id [] hs s is = absurd is
root_there p q id ((x, t) ∷ gs) [] s is = absurd s
root_there p q id ((x, t) ∷ gs) ((y, u) ∷ hs) s is = ⊎_elim (λ e. inl (root_here p q id t u e s.1)) (λ k. inr (root_there p q id gs hs s.2 k)) is

-- events grant nothing

call_agrees : (g : Group) (k m : ℕ) (key : List ℕ) (args : List Plain) → DeedsAgree g (to_call k m key args) (to_call k m key args)
call_agrees g k m key args = at (g.modules m) refl
  where
    at : (b : Bool) → g.modules m ≡ b → DeedsAgree g (to_call k m key args) (to_call k m key args)
    at true e = inl (record { by = e; grants = tt }, refl)
    at false e = inr (record { by = e; grants = tt }, record { by = e; grants = tt })

tick_agrees : (g : Group) (k m : ℕ) → DeedsAgree g (to_tick k m) (to_tick k m)
tick_agrees g k m = at (g.modules m) refl
  where
    at : (b : Bool) → g.modules m ≡ b → DeedsAgree g (to_tick k m) (to_tick k m)
    at true e = inl (record { by = e; grants = tt }, refl)
    at false e = inr (record { by = e; grants = tt }, record { by = e; grants = tt })

-- two nodes, each by its root and its number there: the same node of a root of the group, or both of others' roots
pub record IsOne (g : Group) (f : Renumbering) (t u : ℕ × ℕ) : Type 0 where
  pub own : g.roots t.0 ≡ true
  pub root : t.0 ≡ f.roots.anew u.0
  pub number : t.1 ≡ u.1

pub record AreOthers (g : Group) (f : Renumbering) (t u : ℕ × ℕ) : Type 0 where
  pub here : g.roots t.0 ≡ false
  pub there : g.roots (f.roots.anew u.0) ≡ false

abbrev pub NodesAgree : Group → Renumbering → ℕ × ℕ → ℕ × ℕ → Type 0
NodesAgree g f t u = IsOne g f t u ⊎ AreOthers g f t u

click_agrees : (g : Group) (f : Renumbering) (k : ℕ) (id : List ℕ) (t u : ℕ × ℕ) → NodesAgree g f t u → DeedsAgree g (to_click k id t.0 t.1) (to_click k id (f.roots.anew u.0) u.1)
click_agrees g f k id t u h =
    ⊎_elim (λ o. inl (record { by = o.own; grants = tt }, ap (λ r. to_click k id r t.1) o.root ∙ ap (to_click k id (f.roots.anew u.0)) o.number)) (λ a. inr (record { by = a.here; grants = tt }, record { by = a.there; grants = tt })) h

input_agrees : (g : Group) (f : Renumbering) (k : ℕ) (id us : List ℕ) (t u : ℕ × ℕ) → NodesAgree g f t u → DeedsAgree g (to_input k id t.0 t.1 us) (to_input k id (f.roots.anew u.0) u.1 us)
input_agrees g f k id us t u h =
    ⊎_elim (λ o. inl (record { by = o.own; grants = tt }, ap (λ r. to_input k id r t.1 us) o.root ∙ ap (λ j. to_input k id (f.roots.anew u.0) j us) o.number)) (λ a. inr (record { by = a.here; grants = tt }, record { by = a.there; grants = tt })) h

-- the nodes that ids name, in two pages
abbrev pub Named : Type 0
Named = List ℕ → ℕ × ℕ

-- of each event on a node
abbrev pub TargetsAgree : Group → Renumbering → Named → Named → List Asked → Type 0
TargetsAgree g f at at' [] = Unit {0}
TargetsAgree g f at at' (a_call m key args ∷ es) = TargetsAgree g f at at' es
TargetsAgree g f at at' (a_click id ∷ es) = NodesAgree g f (at id) (at' id) × TargetsAgree g f at at' es
TargetsAgree g f at at' (an_input id us ∷ es) = NodesAgree g f (at id) (at' id) × TargetsAgree g f at at' es
TargetsAgree g f at at' (a_tick m ∷ es) = TargetsAgree g f at at' es

events_agree : (g : Group) (f : Renumbering) (at at' : Named) (k : ℕ) (es : List Asked) → TargetsAgree g f at at' es → Agrees g (events at k es) (deeds_anew f (events at' k es))
events_agree g f at at' k [] h = tt
events_agree g f at at' k (a_call m key args ∷ es) h = (call_agrees g k m key args, events_agree g f at at' (k + 1) es h)
events_agree g f at at' k (a_click id ∷ es) h = (click_agrees g f k id (at id) (at' id) h.0, events_agree g f at at' (k + 1) es h.1)
events_agree g f at at' k (an_input id us ∷ es) h = (input_agrees g f k id us (at id) (at' id) h.0, events_agree g f at at' (k + 1) es h.1)
events_agree g f at at' k (a_tick m ∷ es) h = (tick_agrees g k m, events_agree g f at at' (k + 1) es h)

-- loads, one by one

abbrev pub InStep : List Module → List Module → List Program → List Program → Type 0
InStep [] [] [] [] = Unit {0}
InStep (m ∷ ms) (n ∷ ns) (s ∷ ss) (r ∷ rs) = InStep ms ns ss rs
InStep ms ns ss rs = ⊥

-- what is owed of each, where ids have these numbers
abbrev pub EachAgrees : Group → Renumbering → (List ℕ → ℕ) → (List ℕ → ℕ) → ℕ → List Module → List Module → List Program → List Program → Type 0
EachAgrees g f number number' i ms ns ss rs =
    (j : ℕ) (m n : Module) (s r : Program) → slice_get ms j ≡ Some m → slice_get ns j ≡ Some n → slice_get ss j ≡ Some s → slice_get rs j ≡ Some r
    → DeedsAgree g (to_load (i + j) s (all_given number m.grants)) (to_load (i + j) r (grants_anew f (all_given number' n.grants)))

loads_agree : (g : Group) (f : Renumbering) (number number' : List ℕ → ℕ) (i : ℕ) (ms ns : List Module) (ss rs : List Program) (ds es : List Deed) → InStep ms ns ss rs → EachAgrees g f number number' i ms ns ss rs → Agrees g ds (deeds_anew f es)
    → Agrees g (loads number i ms ss ++ ds) (deeds_anew f (loads number' i ns rs ++ es))
loads_agree g f number number' i [] [] [] [] ds es step each h = h
loads_agree g f number number' i (m ∷ ms) (n ∷ ns) (s ∷ ss) (r ∷ rs) ds es step each h = (
  subst (λ k. DeedsAgree g (to_load k s (all_given number m.grants)) (to_load k r (grants_anew f (all_given number' n.grants)))) (omega arith) (each 0 m n s r refl refl refl refl),
  loads_agree g f number number' (i + 1) ms ns ss rs ds es step
      (λ j k l t u a b d e. subst (λ x. DeedsAgree g (to_load x t (all_given number k.grants)) (to_load x u (grants_anew f (all_given number' l.grants)))) (omega arith) (each (suc j) k l t u a b d e)) h,
)
loads_agree g f number number' i ms ns ss rs ds es step each h = absurd step

-- the deeds of a page, where ids name these nodes
abbrev pub page_deeds : Page → Named → List Program → List Deed
page_deeds p at ss = deeds (number_in (roots_of p)) at p ss

pub deeds_agree : (g : Group) (f : Renumbering) (p q : Page) (at at' : Named) (ss rs : List Program) → p.events ≡ q.events → TargetsAgree g f at at' p.events → InStep p.modules q.modules ss rs → EachAgrees g f (number_in (roots_of p)) (number_in (roots_of q)) 0 p.modules q.modules ss rs
    → Agrees g (page_deeds p at ss) (deeds_anew f (page_deeds q at' rs))
deeds_agree g f p q at at' ss rs events_are targets step each =
    loads_agree g f (number_in (roots_of p)) (number_in (roots_of q)) 0 p.modules q.modules ss rs (events at 0 p.events) (events at' 0 q.events) step each
    (subst (λ es. Agrees g (events at 0 p.events) (deeds_anew f (events at' 0 es))) events_are (events_agree g f at at' 0 p.events targets))

pub there_is : (ms : List Module) (i : ℕ) → i < length ms → (m : Module) × (slice_get ms i ≡ Some m)
there_is [] i l = absurd (omega arith)
there_is (m ∷ ms) zero l = (m, refl)
there_is (m ∷ ms) (suc i) l = there_is ms i (omega arith)

-- two pages that agree on a group

module _ (p : Page) (ts : Tree many) (q : Page) (us : Tree many) (g : List ℕ) (agree : AgreeOn p ts q us g) where
  -- a root of the group is one in the other page
  pub root_over : (id : List ℕ) → IsRootOf p g id → IsRootOf q g id
  root_over id h =
      let n = there_is q.modules h.by (member_below q g agree.there h.by h.member) in
      record { by = h.by; member = h.member; its_module = n.0; at = n.1; granted = root_there p q id h.its_module.grants n.0.grants (agree.modules h.by h.its_module n.0 h.member h.at n.1).grants h.granted }

pub agrees_back : (p : Page) (ts : Tree many) (q : Page) (us : Tree many) (g : List ℕ) → AgreeOn p ts q us g → AgreeOn q us p ts g
agrees_back p ts q us g a = record {
  rule = sym a.rule;
  base = sym a.base;
  events = sym a.events;
  names = sym a.names;
  here = a.there;
  there = a.here;
  modules = modules;
  nodes = λ id h. sym (a.nodes id (over id h));
}
  where
    modules : (i : ℕ) (m n : Module) → Contains g i → IsAt q i m → IsAt p i n → ModulesAgree q p m n
    modules i m n member at at' = let b = a.modules i n m member at' at in record { language = sym b.language; source = sym b.source; grants = all_back p q n.grants m.grants b.grants }

    over : (id : List ℕ) → IsRootOf q g id → IsRootOf p g id
    over id h =
        let n = there_is p.modules h.by (member_below p g a.here h.by h.member) in
        record { by = h.by; member = h.member; its_module = n.0; at = n.1; granted = root_there q p id h.its_module.grants n.0.grants (modules h.by h.its_module n.0 h.member h.at n.1).grants h.granted }

module _ (p : Page) (ts : Tree many) (q : Page) (us : Tree many) (g : List ℕ) (agree : AgreeOn p ts q us g) (f : Renumbering) (joins : BothJoin (listed q) (listed p) f) where
  -- a root of the group has its like in the other page
  pub record LikeRoot (r : ℕ) : Type 0 where
    pub id : List ℕ
    pub here : IsRootOf p g id
    pub there : IsRootOf q g id
    pub number : number_in (roots_of p) id ≡ r
    pub anew : f.roots.anew (number_in (roots_of q) id) ≡ r
    pub back : f.roots.back r ≡ number_in (roots_of q) id

  joined : (id : List ℕ) → IsRootOf p g id → IsRootOf q g id → f.roots.anew (number_in (roots_of q) id) ≡ number_in (roots_of p) id
  joined id h k = joins.roots (number_in (roots_of q) id) (number_in (roots_of p) id) id (root_named q k.by k.its_module id k.at k.granted) (root_named p h.by h.its_module id h.at h.granted)

  pub like_root : (r : ℕ) → has_root p g r ≡ true → LikeRoot r
  like_root r e =
      let h = root_from p g r e in
      let k = root_over p ts q us g agree h.id h.is in
      let anew = joined h.id h.is k ∙ h.number in
      record { id = h.id; here = h.is; there = k; number = h.number; anew = anew; back = ap f.roots.back (sym anew) ∙ f.roots.back_anew (number_in (roots_of q) h.id) }

  -- and a root of the group there has its like here
  pub root_anew : (s : ℕ) → has_root q g s ≡ true → has_root p g (f.roots.anew s) ≡ true
  root_anew s e =
      let h = root_from q g s e in
      let k = root_over q us p ts g (agrees_back p ts q us g agree) h.id h.is in
      subst (λ r. has_root p g r ≡ true) (sym (joined h.id k h.is) ∙ ap f.roots.anew h.number) (root_true p g h.id k)

  -- a cell of the group has its like in the other page, granted to the same module
  pub record LikeOfMember (d : ℕ) : Type 0 where
    pub by : ℕ
    pub member : Contains g by
    pub its_module : Module
    pub at : IsAt q by its_module
    pub its_like : HasLike (listed p) (listed q) d (given_in q its_module)
    pub anew : f.cells.anew its_like.like ≡ d

  pub like_in : (d : ℕ) → (the_group p g).cells d ≡ true → LikeOfMember d
  like_in d e =
      let k = member_from p g (is_cell d) (a_cell d) (cell_tells d) e in
      let n = there_is q.modules k.by (member_below q g agree.there k.by k.member) in
      let l = like_of (listed p) (listed q) d (given_in p k.its_module) (given_in q n.0) (modules_same p q k.by k.its_module n.0 k.there n.1 (agree.modules k.by k.its_module n.0 k.member k.there n.1).grants) k.granted in
      record { by = k.by; member = k.member; its_module = n.0; at = n.1; its_like = l; anew = joins.cells l.like d l.name l.there l.here }

  -- what is granted to others in the other page is not the group's
  others_anew : (j : ℕ) (n : Module) → (Contains g j → ⊥) → IsAt q j n → (t : Grant) → IsGrantedIn t (given_in q n) → IsGrantOf false (the_group p g) (grant_anew f t)
  others_anew j n other there (a_cell d) h = false_from_ne_true ((the_group p g).cells (f.cells.anew d)) (λ e. shared (like_in (f.cells.anew d) e))
    where
      shared : LikeOfMember (f.cells.anew d) → ⊥
      shared k =
          let same : k.its_like.like ≡ d = sym (f.cells.back_anew k.its_like.like) ∙ ap f.cells.back k.anew ∙ f.cells.back_anew d in
          other (one_cell q g agree.there k.by j d k.its_module n k.member k.at (subst (λ e. IsGrantedIn (a_cell e) (given_in q k.its_module)) same k.its_like.granted) there h)
  others_anew j n other there (a_result k) h = other_results q g agree.there j k n other there h
  others_anew j n other there (a_plain v) h = tt
  others_anew j n other there (a_root r) h = false_from_ne_true (has_root p g (f.roots.anew r)) (λ e. shared (like_root (f.roots.anew r) e))
    where
      shared : LikeRoot (f.roots.anew r) → ⊥
      shared k =
          let same : number_in (roots_of q) k.id ≡ r = sym k.back ∙ f.roots.back_anew r in
          let b = k.there in
          other (one_root q g agree.there b.by j r b.its_module n b.member b.at (subst (λ e. IsGrantedIn (a_root e) (given_in q b.its_module)) same (root_given (number_in (roots_of q)) k.id b.its_module.grants b.granted)) there h)

  module _ (valid : IsValid p) (ss rs : List Program) (same : (i : ℕ) (s r : Program) → Contains g i → slice_get ss i ≡ Some s → slice_get rs i ≡ Some r → s ≡ r) where
    load_agrees : (j : ℕ) (m n : Module) (s r : Program) → IsAt p j m → IsAt q j n → slice_get ss j ≡ Some s → slice_get rs j ≡ Some r → DeedsAgree (the_group p g) (to_load j s (given_in p m)) (to_load j r (grants_anew f (given_in q n)))
    load_agrees j m n s r at at' is is' = by_test (is_among g j) refl
      where
        by_test : (b : Bool) → is_among g j ≡ b → DeedsAgree (the_group p g) (to_load j s (given_in p m)) (to_load j r (grants_anew f (given_in q n)))
        by_test true e =
            let member = among_from g j e in
            let alike = modules_same q p j n m at' at (all_back p q m.grants n.grants (agree.modules j m n member at at').grants) in
            let joined : deed_anew f (to_load j r (given_in q n)) ≡ to_load j r (given_in p m) = deeds_join (listed q) (listed p) f joins (to_load j r (given_in q n)) (to_load j r (given_in p m)) (refl, refl, alike) in
            inl (record { by = e; grants = all_granted (IsGrantOf true (the_group p g)) (given_in p m) (own_grants p valid g agree.here j m member at) }, ap (λ (x : Program). to_load j x (given_in p m)) (same j s r member is is') ∙ sym joined)
        by_test false e =
            let other : Contains g j → ⊥ = λ member. false≢true (sym e ∙ among_true g j member) in
            inr (
              record { by = e; grants = all_granted (IsGrantOf false (the_group p g)) (given_in p m) (other_grants p g agree.here j m other at) },
              record { by = e; grants = all_anew (IsGrantOf false (the_group p g)) f (given_in q n) (others_anew j n other at') },
            )

    pub pages_agree : (at at' : Named) → TargetsAgree (the_group p g) f at at' p.events → InStep p.modules q.modules ss rs → Agrees (the_group p g) (page_deeds p at ss) (deeds_anew f (page_deeds q at' rs))
    pages_agree at at' targets step =
        deeds_agree (the_group p g) f p q at at' ss rs agree.events targets step
        (λ j m n s r is is' e e'. subst (λ k. DeedsAgree (the_group p g) (to_load k s (given_in p m)) (to_load k r (grants_anew f (given_in q n)))) (omega arith) (load_agrees j m n s r is is' e e'))
