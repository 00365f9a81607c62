-- What is told and changed so that the invariant still holds.
use Rattle.std.proofs.Common.{◌≡◌, ℕ, suc, Bool, true, false, List, [], ◌∷◌, ◌++◌, refl, sym, ap, ◌∙◌, subst, arith}
use Rattle.std.specs.Prelude.{nat_eq, if◌then◌else◌, length}
use Rattle.std.proofs.lemmas.List.{append_assoc}
use Rattle.acts.specs.Laws.{All, Keeping}
use Rattle.acts.proofs.Keeps.{all_append, all_map}
use Rattle.rows.specs.Nodes.{Rules}
use Rattle.cajita_meaning.specs.World as W
use Rattle.cajita_meaning.specs.World.{made_name, Value, object, Pairs, Object, World}
use Rattle.cajita_meaning.specs.Direct.{Item, made, forms}
use Rattle.cajita_laws.specs.Reach.{IsIn, Had, have, Lies, Known, Waits, IsMore, counted, all_counted, Numbers, Counted, Invariant}
use Rattle.cajita_laws.proofs.Had.{gain_new, reached_add, no_more, more_behind, more_onward, known_more, in_noted, numbered_add, counted_add}

abbrev pub noted : Item → List Item → List Item
noted i z = z ++ i ∷ []

-- an item that makes nothing
abbrev pub MakesNone : Item → Type 0
MakesNone (made m o) = ⊥
MakesNone i = Unit {0}

-- what makes nothing counts nothing
none_made : (i : Item) (counts : ℕ → ℕ) → MakesNone i → (counted i counts ≡ counts) × Numbers counts i
none_made (made m o) counts h = absurd h
none_made i counts h = (refl, tt)

-- names are counted still, where nothing is made, and where an object is made
names_noted : (objects : ℕ → List Object) (z : List Item) (i : Item) → MakesNone i → Counted objects z → Counted objects (z ++ i ∷ [])
names_noted objects z i h n = record {
  numbered = numbered_add (λ m. 0) z i n.numbered (none_made i (all_counted (λ m. 0) z) h).1;
  counts = λ m. ap (λ c. c m) (counted_add (λ m. 0) z i ∙ (none_made i (all_counted (λ m. 0) z) h).0) ∙ n.counts m;
}

names_made : (objects : ℕ → List Object) (z : List Item) (m : ℕ) (o : Object) → Counted objects z → Counted (W.with_last m o objects) (z ++ made m (made_name m (length (objects m))) ∷ [])
names_made objects z m o n = record {
  numbered = numbered_add (λ m. 0) z (made m (made_name m (length (objects m)))) n.numbered (ap (made_name m) (sym (n.counts m)));
  counts = λ k. ap (λ c. c k) (counted_add (λ m. 0) z (made m (made_name m (length (objects m))))) ∙ grown k (nat_eq k m);
}
  where
    grown : (k : ℕ) (b : Bool) → (if b then suc (all_counted (λ m. 0) z k) else all_counted (λ m. 0) z k) ≡ length (if b then objects k ++ o ∷ [] else objects k)
    grown k true = let e = n.counts k in let l = Rattle.std.proofs.lemmas.List.length-append (objects k) (o ∷ []) in omega (arith, e, l)
    grown k false = n.counts k

-- the invariant as what every answer keeps: the module has its values
abbrev pub reach : (rules : Rules) → Had → Keeping (forms rules) noted
reach rules had = record {
  Later = IsMore;
  same = no_more;
  more = more_onward;
  noted = λ i z. more_behind z (i ∷ []);
  Runs = λ m. Unit {0};
  Has = λ z m v. Known had z m v;
  still = λ a b m v l h. known_more had a b m v l h;
  Holds = λ w z. Invariant had w z;
}

module _ (had : Had) where
  -- what a module has it keeps, and so do its variables
  scopes_more : (w : World) {a b : List Item} → IsMore a b → ((m : ℕ) → All (λ ps. All (λ p. Known had a m p.1) ps) (w.scopes m)) → (m : ℕ) → All (λ ps. All (λ p. Known had b m p.1) ps) (w.scopes m)
  scopes_more w {a = a} {b = b} l h m = all_map (λ ps. All (λ p. Known had a m p.1) ps) (λ ps. All (λ p. Known had b m p.1) ps) (λ ps g. all_map (λ p. Known had a m p.1) (λ p. Known had b m p.1) (λ p q. known_more had a b m p.1 l q) ps g) (w.scopes m) (h m)

  -- what waits still may
  waits_more : (a b : List Item) (m : ℕ) (v : Value) → IsMore a b → Waits had a m v → Waits had b m v
  waits_more a b m (object (made_name k n)) l h = tt
  waits_more a b m v l h = known_more had a b m v l h

  queues_more : (w : World) {a b : List Item} → IsMore a b → ((m : ℕ) → All (Waits had a m) (w.queues m)) → (m : ℕ) → All (Waits had b m) (w.queues m)
  queues_more w {a = a} {b = b} l h m = all_map (Waits had a m) (Waits had b m) (λ v q. waits_more a b m v l q) (w.queues m) (h m)

  -- an item that makes nothing and lies in what was had is told
  pub item_told : {w : World} {z : List Item} (i : Item) → MakesNone i → Invariant had w z → Lies (have had z) i → Invariant had w (noted i z)
  item_told {w = w} {z = z} i h v l = record { names = names_noted w.objects z i h v.names; reached = reached_add had z i v.reached l; scopes = scopes_more w (more_behind z (i ∷ [])) v.scopes; queues = queues_more w (more_behind z (i ∷ [])) v.queues }

  -- a module makes an object with its next name; it then has it
  pub object_made : {w : World} {z : List Item} (o : Object) (m : ℕ) → Invariant had w z → Invariant had (W.with_object m o w) (noted (made m (W.next_name m w)) z)
  object_made {w = w} {z = z} o m v = let n = W.next_name m w in record { names = names_made w.objects z m o v.names; reached = reached_add had z (made m n) v.reached tt; scopes = scopes_more w (more_behind z (made m n ∷ [])) v.scopes; queues = queues_more w (more_behind z (made m n ∷ [])) v.queues }

  -- what a module made it has
  pub made_known : (w : World) (z : List Item) (m : ℕ) → IsIn (W.next_name m w) (have had (noted (made m (W.next_name m w)) z) m)
  made_known w z m = let n = W.next_name m w in in_noted had z (made m n) m n (gain_new m n (have had z))

  -- another list of scopes for a module
  pub scopes_changed : {w : World} {z : List Item} (m : ℕ) (ss : List Pairs) → Invariant had w z → All (λ ps. All (λ p. Known had z m p.1) ps) ss → Invariant had (W.with_scopes m ss w) z
  scopes_changed {w = w} {z = z} m ss i h = record { names = i.names; reached = i.reached; scopes = λ n. listed n (nat_eq n m) refl; queues = i.queues }
    where
      listed : (n : ℕ) (b : Bool) → nat_eq n m ≡ b → All (λ ps. All (λ p. Known had z n p.1) ps) (if b then ss else w.scopes n)
      listed n true is = subst (λ q. All (λ ps. All (λ p. Known had z q p.1) ps) ss) (sym (Rattle.std.proofs.lemmas.Bool.eqb-true n m is)) h
      listed n false is = i.scopes n

  -- one scope more
  pub scope_added : {w : World} {z : List Item} (m : ℕ) (names : Pairs) → Invariant had w z → All (λ p. Known had z m p.1) names → Invariant had (W.with_scope m names w) z
  scope_added {w = w} {z = z} m names i h = record { names = i.names; reached = i.reached; scopes = λ n. listed n (nat_eq n m) refl; queues = i.queues }
    where
      listed : (n : ℕ) (b : Bool) → nat_eq n m ≡ b → All (λ ps. All (λ p. Known had z n p.1) ps) (if b then w.scopes n ++ names ∷ [] else w.scopes n)
      listed n true is = all_append (λ ps. All (λ p. Known had z n p.1) ps) (w.scopes n) (names ∷ []) (i.scopes n) (subst (λ q. All (λ p. Known had z q p.1) names) (sym (Rattle.std.proofs.lemmas.Bool.eqb-true n m is)) h, tt)
      listed n false is = i.scopes n

  -- another queue for a module
  pub queue_changed : {w : World} {z : List Item} (m : ℕ) (vs : List Value) → Invariant had w z → All (Waits had z m) vs → Invariant had (W.with_queue m vs w) z
  queue_changed {w = w} {z = z} m vs i h = record { names = i.names; reached = i.reached; scopes = i.scopes; queues = λ n. listed n (nat_eq n m) refl }
    where
      listed : (n : ℕ) (b : Bool) → nat_eq n m ≡ b → All (Waits had z n) (if b then vs else w.queues n)
      listed n true is = subst (λ q. All (Waits had z q) vs) (sym (Rattle.std.proofs.lemmas.Bool.eqb-true n m is)) h
      listed n false is = i.queues n

  -- what changes neither objects nor variables nor queues keeps it: cells, what was revoked, nodes and handlers
  pub elsewhere_changed : {w v : World} {z : List Item} → w.objects ≡ v.objects → w.scopes ≡ v.scopes → w.queues ≡ v.queues → Invariant had w z → Invariant had v z
  elsewhere_changed {z = z} o s q i = record {
    names = subst (λ os. Counted os z) o i.names;
    reached = i.reached;
    scopes = subst (λ ss. (m : ℕ) → All (λ ps. All (λ p. Known had z m p.1) ps) (ss m)) s i.scopes;
    queues = subst (λ qs. (m : ℕ) → All (Waits had z m) (qs m)) q i.queues;
  }
