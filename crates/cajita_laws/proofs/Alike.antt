-- Two worlds that have the same part for a group, which is closed: what is told and changed by the group on both sides leaves them so.
use Rattle.std.proofs.Common.{◌≡◌, ℕ, Bool, true, false, List, [], ◌∷◌, ◌++◌, refl, sym, ap, ◌∙◌, subst}
use Rattle.std.specs.Prelude.{nat_eq, if◌then◌else◌, slice_set}
use Rattle.std.proofs.lemmas.Bool.{eqb-true}
use Rattle.std.proofs.lemmas.List.{append-nil, append_assoc}
use Rattle.acts.specs.Laws.{All, Twins}
use Rattle.acts.proofs.Keeps.{all_append}
use Rattle.cajita_meaning.specs.World as W
use Rattle.cajita_meaning.specs.World.{Value, Pairs, Object, Handler, World}
use Rattle.rows.specs.Document.{Node}
use Rattle.rows.specs.Nodes.{Rules}
use Rattle.cajita_meaning.specs.Direct.{Item, forms}
use Rattle.cajita_laws.specs.Parts.{Group, Own, OwnPairs, OwnObject, tells, side, items_of, Alike}
use Rattle.cajita_laws.proofs.Scopes.{picked, last_has, set_has}
use Rattle.cajita_laws.proofs.Invariant.{noted}

-- the modules of a group, its values, and worlds that are alike for it
abbrev pub twins : (rules : Rules) → Group → World → List Item → Twins (forms rules) noted
twins rules g u x = record { Runs = λ m. g.modules m ≡ true; Own = Own g; Alike = Alike g u x }

-- one item more is one more of its side
pub items_add : (b : Bool) (g : Group) (z : List Item) (i : Item) → items_of b g (z ++ i ∷ []) ≡ items_of b g z ++ (if side b (tells g i) then i ∷ [] else [])
items_add b g [] i = elim (side b (tells g i)) as (λ s. (if s then i ∷ [] else []) ≡ (if s then i ∷ [] else [])) [ true ↦ refl | false ↦ refl ]
items_add b g (j ∷ z) i = elim (side b (tells g j)) as (λ s. (if s then j ∷ items_of b g (z ++ i ∷ []) else items_of b g (z ++ i ∷ [])) ≡ (if s then j ∷ items_of b g z else items_of b g z) ++ (if side b (tells g i) then i ∷ [] else [])) [
  | true ↦ ap (λ l. j ∷ l) (items_add b g z i)
  | false ↦ items_add b g z i
]

-- a module of the group is none of the others'
not_others : (g : Group) (m n : ℕ) (b : Bool) → nat_eq n m ≡ b → g.modules m ≡ true → g.modules n ≡ false → b ≡ false
not_others g m n false is p q = refl
not_others g m n true is p q = absurd (Rattle.std.proofs.lemmas.Bool.true≢false (sym p ∙ ap g.modules (sym (eqb-true n m is)) ∙ q))

pub others_one : {V : Type 0} (g : Group) (m n : ℕ) (l p : V) → g.modules m ≡ true → g.modules n ≡ false → l ≡ (if nat_eq n m then p else l)
others_one g m n l p run own = sym (ap (λ b. if b then p else l) (not_others g m n (nat_eq n m) refl run own))

module _ (g : Group) (u : World) (x : List Item) where
  -- an item of the group
  pub told : {w : World} {z : List Item} {v : World} {y : List Item} (i : Item) → tells g i ≡ true → Alike g u x w z v y → Alike g u x w (noted i z) v (noted i y)
  told {z = z} {y = y} i own a = record {
    same = record { objects = a.same.objects; scopes = a.same.scopes; cells = a.same.cells; queues = a.same.queues; revoked = a.same.revoked; nodes = a.same.nodes; handlers = a.same.handlers; items = items_add true g z i ∙ ap (λ l. l ++ (if side true (tells g i) then i ∷ [] else [])) a.same.items ∙ sym (items_add true g y i) };
    closed = a.closed;
    others = record { objects = a.others.objects; scopes = a.others.scopes; cells = a.others.cells; queues = a.others.queues; revoked = a.others.revoked; nodes = a.others.nodes; handlers = a.others.handlers; items = a.others.items ∙ sym (items_add false g z i ∙ ap (λ b. items_of false g z ++ (if side false b then i ∷ [] else [])) own ∙ simp Rattle.std.proofs.lemmas.List.append-nil) };
  }

  -- one module's list is another one
  others_list : {V : Type 0} (m n : ℕ) (l xs ys : List V) → g.modules m ≡ true → g.modules n ≡ false → l ≡ ys → l ≡ (if nat_eq n m then xs else ys)
  others_list m n l xs ys run own e = e ∙ sym (ap (λ b. if b then xs else ys) (not_others g m n (nat_eq n m) refl run own))

  -- one cell is another one
  others_cell : (k c : ℕ) (b : Bool) (l p q : Value) → nat_eq c k ≡ b → g.cells k ≡ true → g.cells c ≡ false → l ≡ q → l ≡ (if b then p else q)
  others_cell k c false l p q is run own e = e
  others_cell k c true l p q is run own e = absurd (Rattle.std.proofs.lemmas.Bool.true≢false (sym run ∙ ap g.cells (sym (eqb-true c k is)) ∙ own))

  -- each change of what is the group's, on both sides, leaves worlds alike
  pub with_object_alike : {w : World} {z : List Item} {v : World} {y : List Item} (o : Object) (m : ℕ) → OwnObject g o → g.modules m ≡ true → Alike g u x w z v y → Alike g u x (W.with_object m o w) z (W.with_object m o v) y
  with_object_alike {w = w} o m own run a = record {
    same = record { objects = λ n h. ap (λ l. if nat_eq n m then l ++ o ∷ [] else l) (a.same.objects n h); scopes = a.same.scopes; cells = a.same.cells; queues = a.same.queues; revoked = a.same.revoked; nodes = a.same.nodes; handlers = a.same.handlers; items = a.same.items };
    closed = record { objects = λ n h. picked (All (OwnObject g)) (nat_eq n m) (w.objects n ++ o ∷ []) (w.objects n) (all_append (OwnObject g) (w.objects n) (o ∷ []) (a.closed.objects n h) (own, tt)) (a.closed.objects n h); scopes = a.closed.scopes; cells = a.closed.cells; queues = a.closed.queues; handlers = a.closed.handlers };
    others = record { objects = λ n h. others_list m n (u.objects n) (w.objects n ++ o ∷ []) (w.objects n) run h (a.others.objects n h); scopes = a.others.scopes; cells = a.others.cells; queues = a.others.queues; revoked = a.others.revoked; nodes = a.others.nodes; handlers = a.others.handlers; items = a.others.items };
  }

  pub with_scope_alike : {w : World} {z : List Item} {v : World} {y : List Item} (names : Pairs) (m : ℕ) → OwnPairs g names → g.modules m ≡ true → Alike g u x w z v y → Alike g u x (W.with_scope m names w) z (W.with_scope m names v) y
  with_scope_alike {w = w} names m own run a = record {
    same = record { objects = a.same.objects; scopes = λ n h. ap (λ l. if nat_eq n m then l ++ names ∷ [] else l) (a.same.scopes n h); cells = a.same.cells; queues = a.same.queues; revoked = a.same.revoked; nodes = a.same.nodes; handlers = a.same.handlers; items = a.same.items };
    closed = record { objects = a.closed.objects; scopes = λ n h. last_has (Own g) m n names w.scopes own (a.closed.scopes n h); cells = a.closed.cells; queues = a.closed.queues; handlers = a.closed.handlers };
    others = record { objects = a.others.objects; scopes = λ n h. others_list m n (u.scopes n) (w.scopes n ++ names ∷ []) (w.scopes n) run h (a.others.scopes n h); cells = a.others.cells; queues = a.others.queues; revoked = a.others.revoked; nodes = a.others.nodes; handlers = a.others.handlers; items = a.others.items };
  }

  pub with_scopes_alike : {w : World} {z : List Item} {v : World} {y : List Item} (f : List Pairs → List Pairs) (m : ℕ) → (All (OwnPairs g) (w.scopes m) → All (OwnPairs g) (f (w.scopes m))) → g.modules m ≡ true → Alike g u x w z v y → Alike g u x (W.with_scopes m (f (w.scopes m)) w) z (W.with_scopes m (f (v.scopes m)) v) y
  with_scopes_alike {w = w} {v = v} f m own run a = record {
    same = record {
      objects = a.same.objects;
      scopes = λ n h. elim (nat_eq n m) as (λ b. (if b then f (w.scopes m) else w.scopes n) ≡ (if b then f (v.scopes m) else v.scopes n)) [ true ↦ ap f (a.same.scopes m run) | false ↦ a.same.scopes n h ];
      cells = a.same.cells;
      queues = a.same.queues;
      revoked = a.same.revoked;
      nodes = a.same.nodes;
      handlers = a.same.handlers;
      items = a.same.items;
    };
    closed = record { objects = a.closed.objects; scopes = λ n h. picked (All (OwnPairs g)) (nat_eq n m) (f (w.scopes m)) (w.scopes n) (own (a.closed.scopes m run)) (a.closed.scopes n h); cells = a.closed.cells; queues = a.closed.queues; handlers = a.closed.handlers };
    others = record { objects = a.others.objects; scopes = λ n h. others_list m n (u.scopes n) (f (w.scopes m)) (w.scopes n) run h (a.others.scopes n h); cells = a.others.cells; queues = a.others.queues; revoked = a.others.revoked; nodes = a.others.nodes; handlers = a.others.handlers; items = a.others.items };
  }

  pub with_cell_alike : {w : World} {z : List Item} {v : World} {y : List Item} (k : ℕ) (p : Value) → g.cells k ≡ true → Own g p → Alike g u x w z v y → Alike g u x (W.with_cell k p w) z (W.with_cell k p v) y
  with_cell_alike {w = w} k p run own a = record {
    same = record { objects = a.same.objects; scopes = a.same.scopes; cells = λ c h. ap (λ q. if nat_eq c k then p else q) (a.same.cells c h); queues = a.same.queues; revoked = a.same.revoked; nodes = a.same.nodes; handlers = a.same.handlers; items = a.same.items };
    closed = record { objects = a.closed.objects; scopes = a.closed.scopes; cells = λ c h. picked (Own g) (nat_eq c k) p (w.cells c) own (a.closed.cells c h); queues = a.closed.queues; handlers = a.closed.handlers };
    others = record { objects = a.others.objects; scopes = a.others.scopes; cells = λ c h. others_cell k c (nat_eq c k) (u.cells c) p (w.cells c) refl run h (a.others.cells c h); queues = a.others.queues; revoked = a.others.revoked; nodes = a.others.nodes; handlers = a.others.handlers; items = a.others.items };
  }

  pub with_queue_alike : {w : World} {z : List Item} {v : World} {y : List Item} (f : List Value → List Value) (m : ℕ) → (All (Own g) (w.queues m) → All (Own g) (f (w.queues m))) → g.modules m ≡ true → Alike g u x w z v y → Alike g u x (W.with_queue m (f (w.queues m)) w) z (W.with_queue m (f (v.queues m)) v) y
  with_queue_alike {w = w} {v = v} f m own run a = record {
    same = record {
      objects = a.same.objects;
      scopes = a.same.scopes;
      cells = a.same.cells;
      queues = λ n h. elim (nat_eq n m) as (λ b. (if b then f (w.queues m) else w.queues n) ≡ (if b then f (v.queues m) else v.queues n)) [ true ↦ ap f (a.same.queues m run) | false ↦ a.same.queues n h ];
      revoked = a.same.revoked;
      nodes = a.same.nodes;
      handlers = a.same.handlers;
      items = a.same.items;
    };
    closed = record { objects = a.closed.objects; scopes = a.closed.scopes; cells = a.closed.cells; queues = λ n h. picked (All (Own g)) (nat_eq n m) (f (w.queues m)) (w.queues n) (own (a.closed.queues m run)) (a.closed.queues n h); handlers = a.closed.handlers };
    others = record { objects = a.others.objects; scopes = a.others.scopes; cells = a.others.cells; queues = λ n h. others_list m n (u.queues n) (f (w.queues m)) (w.queues n) run h (a.others.queues n h); revoked = a.others.revoked; nodes = a.others.nodes; handlers = a.others.handlers; items = a.others.items };
  }

  pub with_revoked_alike : {w : World} {z : List Item} {v : World} {y : List Item} (m p : ℕ) → g.modules m ≡ true → Alike g u x w z v y → Alike g u x (W.with_revoked m p w) z (W.with_revoked m p v) y
  with_revoked_alike {w = w} m p run a = record {
    same = record { objects = a.same.objects; scopes = a.same.scopes; cells = a.same.cells; queues = a.same.queues; revoked = λ n h. ap (λ l. if nat_eq n m then l ++ p ∷ [] else l) (a.same.revoked n h); nodes = a.same.nodes; handlers = a.same.handlers; items = a.same.items };
    closed = record { objects = a.closed.objects; scopes = a.closed.scopes; cells = a.closed.cells; queues = a.closed.queues; handlers = a.closed.handlers };
    others = record { objects = a.others.objects; scopes = a.others.scopes; cells = a.others.cells; queues = a.others.queues; revoked = λ n h. others_list m n (u.revoked n) (w.revoked n ++ p ∷ []) (w.revoked n) run h (a.others.revoked n h); nodes = a.others.nodes; handlers = a.others.handlers; items = a.others.items };
  }

  pub with_made_alike : {w : World} {z : List Item} {v : World} {y : List Item} (o : Object) (m n : ℕ) → OwnObject g o → g.modules m ≡ true → Alike g u x w z v y → Alike g u x (W.with_made m n o w) z (W.with_made m n o v) y
  with_made_alike {w = w} {v = v} o m n own run a = record {
    same = record {
      objects = λ j h. elim (nat_eq j m) as (λ b. (if b then slice_set (w.objects m) n o else w.objects j) ≡ (if b then slice_set (v.objects m) n o else v.objects j)) [ true ↦ ap (λ l. slice_set l n o) (a.same.objects m run) | false ↦ a.same.objects j h ];
      scopes = a.same.scopes;
      cells = a.same.cells;
      queues = a.same.queues;
      revoked = a.same.revoked;
      nodes = a.same.nodes;
      handlers = a.same.handlers;
      items = a.same.items;
    };
    closed = record { objects = λ j h. picked (All (OwnObject g)) (nat_eq j m) (slice_set (w.objects m) n o) (w.objects j) (set_has (OwnObject g) (w.objects m) n o (a.closed.objects m run) own) (a.closed.objects j h); scopes = a.closed.scopes; cells = a.closed.cells; queues = a.closed.queues; handlers = a.closed.handlers };
    others = record { objects = λ j h. others_list m j (u.objects j) (slice_set (w.objects m) n o) (w.objects j) run h (a.others.objects j h); scopes = a.others.scopes; cells = a.others.cells; queues = a.others.queues; revoked = a.others.revoked; nodes = a.others.nodes; handlers = a.others.handlers; items = a.others.items };
  }

  -- a list by root is another one

  not_others_root : (r q : ℕ) (b : Bool) → nat_eq q r ≡ b → g.roots r ≡ true → g.roots q ≡ false → b ≡ false
  not_others_root r q false is p e = refl
  not_others_root r q true is p e = absurd (Rattle.std.proofs.lemmas.Bool.true≢false (sym p ∙ ap g.roots (sym (eqb-true q r is)) ∙ e))

  others_root : {V : Type 0} (r q : ℕ) (l xs ys : List V) → g.roots r ≡ true → g.roots q ≡ false → l ≡ ys → l ≡ (if nat_eq q r then xs else ys)
  others_root r q l xs ys own other e = e ∙ sym (ap (λ b. if b then xs else ys) (not_others_root r q (nat_eq q r) refl own other))

  pub with_nodes_alike : {w : World} {z : List Item} {v : World} {y : List Item} (f : List Node → List Node) (r : ℕ) → g.roots r ≡ true → Alike g u x w z v y → Alike g u x (W.with_nodes r (f (w.nodes r)) w) z (W.with_nodes r (f (v.nodes r)) v) y
  with_nodes_alike {w = w} {v = v} f r own a = record {
    same = record {
      objects = a.same.objects;
      scopes = a.same.scopes;
      cells = a.same.cells;
      queues = a.same.queues;
      revoked = a.same.revoked;
      nodes = λ q h. elim (nat_eq q r) as (λ b. (if b then f (w.nodes r) else w.nodes q) ≡ (if b then f (v.nodes r) else v.nodes q)) [ true ↦ ap f (a.same.nodes r own) | false ↦ a.same.nodes q h ];
      handlers = a.same.handlers;
      items = a.same.items;
    };
    closed = record { objects = a.closed.objects; scopes = a.closed.scopes; cells = a.closed.cells; queues = a.closed.queues; handlers = a.closed.handlers };
    others = record { objects = a.others.objects; scopes = a.others.scopes; cells = a.others.cells; queues = a.others.queues; revoked = a.others.revoked; nodes = λ q h. others_root r q (u.nodes q) (f (w.nodes r)) (w.nodes q) own h (a.others.nodes q h); handlers = a.others.handlers; items = a.others.items };
  }

  pub with_handler_alike : {w : World} {z : List Item} {v : World} {y : List Item} (c : Handler) (r : ℕ) → Own g c.does → g.roots r ≡ true → Alike g u x w z v y → Alike g u x (W.with_handlers r (w.handlers r ++ c ∷ []) w) z (W.with_handlers r (v.handlers r ++ c ∷ []) v) y
  with_handler_alike {w = w} {v = v} c r mine own a = record {
    same = record {
      objects = a.same.objects;
      scopes = a.same.scopes;
      cells = a.same.cells;
      queues = a.same.queues;
      revoked = a.same.revoked;
      nodes = a.same.nodes;
      handlers = λ q h. elim (nat_eq q r) as (λ b. (if b then w.handlers r ++ c ∷ [] else w.handlers q) ≡ (if b then v.handlers r ++ c ∷ [] else v.handlers q)) [ true ↦ ap (λ l. l ++ c ∷ []) (a.same.handlers r own) | false ↦ a.same.handlers q h ];
      items = a.same.items;
    };
    closed = record { objects = a.closed.objects; scopes = a.closed.scopes; cells = a.closed.cells; queues = a.closed.queues; handlers = λ q h. picked (All (λ d. Own g d.does)) (nat_eq q r) (w.handlers r ++ c ∷ []) (w.handlers q) (all_append (λ d. Own g d.does) (w.handlers r) (c ∷ []) (a.closed.handlers r own) (mine, tt)) (a.closed.handlers q h) };
    others = record { objects = a.others.objects; scopes = a.others.scopes; cells = a.others.cells; queues = a.others.queues; revoked = a.others.revoked; nodes = a.others.nodes; handlers = λ q h. others_root r q (u.handlers q) (w.handlers r ++ c ∷ []) (w.handlers q) own h (a.others.handlers q h); items = a.others.items };
  }

  -- items of the group

  abbrev pub Mine : List Item → Type 0
  Mine is = All (λ i. tells g i ≡ true) is

  pub told_all : (is : List Item) {w : World} {z : List Item} {v : World} {y : List Item} → Mine is → Alike g u x w z v y → Alike g u x w (z ++ is) v (y ++ is)
  told_all [] {w = w} {z = z} {v = v} {y = y} h a = subst (λ q. Alike g u x w q v (y ++ [])) (sym (append-nil z)) (subst (λ q. Alike g u x w z v q) (sym (append-nil y)) a)
  told_all (i ∷ is) {w = w} {z = z} {v = v} {y = y} h a =
      subst (λ q. Alike g u x w q v (y ++ i ∷ is)) (append_assoc z (i ∷ []) is) (subst (λ q. Alike g u x w (noted i z ++ is) v q) (append_assoc y (i ∷ []) is) (told_all is h.1 (told i h.0 a)))

  -- behind what was told already
  pub told_behind : (t : List Item) (w : World) (z : List Item) (v : World) (y : List Item) (is : List Item) → Mine is → Alike g u x w (z ++ t) v (y ++ t) → Alike g u x w (z ++ (t ++ is)) v (y ++ (t ++ is))
  told_behind t w z v y is h a =
      subst (λ q. Alike g u x w q v (y ++ (t ++ is))) (append_assoc z t is) (subst (λ q. Alike g u x w ((z ++ t) ++ is) v q) (append_assoc y t is) (told_all is h a))
