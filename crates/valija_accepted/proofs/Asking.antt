-- Calls of the prelude's functions, and temporaries: they break no rule where their parts break none.
use Rattle.std.proofs.Common.{◌≡◌, ℕ, Bool, true, false, List, [], refl, ap}
use Rattle.std.specs.Prelude.{codes}
use Rattle.es3_tree.specs.Tree as t
use Rattle.es3_tree.specs.Placed as p
use Rattle.es3_tree.specs.Placed.{Placed, Word}
use Rattle.es3_tree.specs.declared.BinOp.{BinOp}
use Rattle.es3_tree.specs.declared.BinOp.TheVariants.{Add, InObject, InstanceOf}
use Rattle.es3_labels.specs.Around.{Around}
use Rattle.es3_labels.specs.Misplaced.{misplaced}
use Rattle.caja_units.specs.Units.{is_hidden}
use Rattle.cajita_names.specs.Scope.{Scope, is_unbound, is_settled}
use Rattle.cajita_rules.specs.Faults.{faults_in}
use Rattle.valija_forms.specs.Forms.{prelude_name, temporary, kept, keeps, number, list1, list2, list3, ask, outer, set_outer, get, set, call_member, call_value, construct, as_key, as_number, one_by}
use Rattle.valija_parts.specs.Lower.{lowered_binary}
use Rattle.valija_accepted.proofs.Lists.{two}
use Rattle.valija_accepted.proofs.Words.{open_word, used_clean, written_clean, lacks_none, temporary_open}
use Rattle.valija_accepted.proofs.Scopes.{Home, Holds}
use Rattle.valija_accepted.proofs.Parts.{IsClean}

kept_used : {r : Scope} {i : ℕ} → Holds r i → faults_in r t.expr (kept i) ≡ []
unfolding faults_in
kept_used {r = r} {i = i} h = used_clean r (temporary i) (temporary_open i) refl (lacks_none r (temporary i) refl (ap is_unbound h.free))

module _ {r : Scope} {a : Around} where
  pub text_clean : (us : List ℕ) → IsClean r a t.expr (p.text us)
  unfolding faults_in misplaced
  text_clean us = record { rules = refl; jumps = refl }

  pub number_clean : (n : ℕ) → IsClean r a t.expr (number n)
  unfolding faults_in misplaced
  number_clean n = record { rules = refl; jumps = refl }

  pub list1_clean : {x : Placed t.expr} → IsClean r a t.expr x → IsClean r a t.exprs (list1 x)
  unfolding faults_in misplaced
  list1_clean h = record { rules = two h.rules refl; jumps = two h.jumps refl }

  pub list2_clean : {x y : Placed t.expr} → IsClean r a t.expr x → IsClean r a t.expr y → IsClean r a t.exprs (list2 x y)
  unfolding faults_in misplaced
  list2_clean h k = record { rules = two h.rules (two k.rules refl); jumps = two h.jumps (two k.jumps refl) }

  pub list3_clean : {x y z : Placed t.expr} → IsClean r a t.expr x → IsClean r a t.expr y → IsClean r a t.expr z → IsClean r a t.exprs (list3 x y z)
  unfolding faults_in misplaced
  list3_clean h k l = record { rules = two h.rules (two k.rules (two l.rules refl)); jumps = two h.jumps (two k.jumps (two l.jumps refl)) }

  pub ask_clean : {es : Placed t.exprs} (f : List ℕ) → Home r → is_hidden f ≡ false → IsClean r a t.exprs es → IsClean r a t.expr (ask f es)
  unfolding faults_in misplaced
  ask_clean f home shown h = record { rules = two (two (used_clean r prelude_name refl refl home.there) (open_word f shown)) h.rules; jumps = h.jumps }

  pub array_clean : {es : Placed t.exprs} → IsClean r a t.exprs es → IsClean r a t.expr (p.array es)
  unfolding faults_in misplaced
  array_clean h = record { rules = h.rules; jumps = h.jumps }

  pub outer_clean : (x : Word) → Home r → IsClean r a t.expr (outer x)
  outer_clean x home = ask_clean (codes "ro") home refl (list1_clean (text_clean x.text))

  pub set_outer_clean : {v : Placed t.expr} (x : Word) → Home r → IsClean r a t.expr v → IsClean r a t.expr (set_outer x v)
  set_outer_clean x home h = ask_clean (codes "so") home refl (list2_clean (text_clean x.text) h)

  pub get_clean : {e k : Placed t.expr} → Home r → IsClean r a t.expr e → IsClean r a t.expr k → IsClean r a t.expr (get e k)
  get_clean home h i = ask_clean (codes "r") home refl (list2_clean h i)

  pub set_clean : {e k v : Placed t.expr} → Home r → IsClean r a t.expr e → IsClean r a t.expr k → IsClean r a t.expr v → IsClean r a t.expr (set e k v)
  set_clean home h i j = ask_clean (codes "s") home refl (list3_clean h i j)

  pub delete_clean : {e k : Placed t.expr} → Home r → IsClean r a t.expr e → IsClean r a t.expr k → IsClean r a t.expr (ask (codes "d") (list2 e k))
  delete_clean home h i = ask_clean (codes "d") home refl (list2_clean h i)

  pub call_member_clean : {e k : Placed t.expr} {es : Placed t.exprs} → Home r → IsClean r a t.expr e → IsClean r a t.expr k → IsClean r a t.exprs es → IsClean r a t.expr (call_member e k es)
  call_member_clean home h i j = ask_clean (codes "cm") home refl (list3_clean h i (array_clean j))

  pub call_value_clean : {e : Placed t.expr} {es : Placed t.exprs} → Home r → IsClean r a t.expr e → IsClean r a t.exprs es → IsClean r a t.expr (call_value e es)
  call_value_clean home h i = ask_clean (codes "cf") home refl (list2_clean h (array_clean i))

  pub construct_clean : {e : Placed t.expr} {es : Placed t.exprs} → Home r → IsClean r a t.expr e → IsClean r a t.exprs es → IsClean r a t.expr (construct e es)
  construct_clean home h i = ask_clean (codes "n") home refl (list2_clean h (array_clean i))

  -- operators
  pub binary_clean : {x y : Placed t.expr} (op : BinOp) → IsClean r a t.expr x → IsClean r a t.expr y → IsClean r a t.expr (p.binary op x y)
  unfolding faults_in misplaced
  binary_clean op h k = record { rules = two h.rules k.rules; jumps = two h.jumps k.jumps }

  pub comma_clean : {x y : Placed t.expr} → IsClean r a t.expr x → IsClean r a t.expr y → IsClean r a t.expr (p.comma x y)
  unfolding faults_in misplaced
  comma_clean h k = record { rules = two h.rules k.rules; jumps = two h.jumps k.jumps }

  pub lowered_binary_clean : {x y : Placed t.expr} (op : BinOp) → Home r → IsClean r a t.expr x → IsClean r a t.expr y → IsClean r a t.expr (lowered_binary op x y)
  lowered_binary_clean InObject home h k = ask_clean (codes "h") home refl (list2_clean h k)
  lowered_binary_clean InstanceOf home h k = ask_clean (codes "io") home refl (list2_clean h k)
  lowered_binary_clean op home h k = binary_clean op h k

  pub key_clean : {k : Placed t.expr} → IsClean r a t.expr k → IsClean r a t.expr (as_key k)
  key_clean h = binary_clean Add (text_clean []) h

  pub as_number_clean : {e : Placed t.expr} → IsClean r a t.expr e → IsClean r a t.expr (as_number e)
  unfolding faults_in misplaced
  as_number_clean h = record { rules = h.rules; jumps = h.jumps }

  pub one_by_clean : {e : Placed t.expr} (up : Bool) → IsClean r a t.expr e → IsClean r a t.expr (one_by up e)
  one_by_clean up h = binary_clean _ h (number_clean 1)

  -- temporaries
  pub kept_clean : {i : ℕ} → Holds r i → IsClean r a t.expr (kept i)
  unfolding faults_in misplaced
  kept_clean h = record { rules = kept_used h; jumps = refl }

  pub keeps_clean : {i : ℕ} {e : Placed t.expr} → Holds r i → IsClean r a t.expr e → IsClean r a t.expr (keeps i e)
  unfolding faults_in misplaced
  keeps_clean {i = i} h k = record { rules = two (two (kept_used h) (written_clean r (temporary i) refl (ap is_settled h.free))) k.rules; jumps = k.jumps }

  pub kept_step_clean : {i : ℕ} → Holds r i → IsClean r a t.expr (p.step true false (kept i))
  unfolding faults_in misplaced
  kept_step_clean {i = i} h = record { rules = two (kept_used h) (written_clean r (temporary i) refl (ap is_settled h.free)); jumps = refl }
