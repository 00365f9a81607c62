-- Names: one that is known stays, of any other the prelude keeps the value.
use Rattle.std.proofs.Common.{◌≡◌, ℕ, ◌+◌, ◌≤◌, Bool, true, false, [], ◌++◌, cond, None, Some, refl, sym, ap, ◌∙◌, arith}
use Rattle.std.specs.Prelude.{◌&&◌, not, codes}
use Rattle.es3_tree.specs.Tree as t
use Rattle.es3_tree.specs.Placed as p
use Rattle.es3_tree.specs.Placed.{Placed, Word}
use Rattle.es3_tree.specs.declared.UnOp.TheVariants.{Void, Typeof}
use Rattle.es3_tree.specs.declared.BinOp.{BinOp}
use Rattle.es3_labels.specs.Around.{Around}
use Rattle.es3_labels.specs.Misplaced.{misplaced}
use Rattle.cajita_names.specs.Scope.{Scope, bound, is_unbound, is_within, is_arguments, is_imported, lacks}
use Rattle.cajita_rules.specs.Faults as cajita
use Rattle.cajita_rules.specs.Faults.{faults_in}
use Rattle.valija_rules.specs.Faults as valija
use Rattle.valija_forms.specs.Forms.{word, name, number, list1, text_of, ask, outer, set_outer, receiver_name, stepped_outer, stepped_outer_behind}
use Rattle.valija_parts.specs.Names.{is_known, receiver, own_arguments, read_name, write_name, type_of_name, op_of_name, stepped_name, name_takes}
use Rattle.valija_accepted.proofs.Lists.{not_true, not_false, pick_front, two, no_front, no_back, none_there}
use Rattle.valija_accepted.proofs.Words.{Usable, usable, used_clean, written_clean, lacks_none}
use Rattle.valija_accepted.proofs.Scopes.{Fits, known_there, written_there}
use Rattle.valija_accepted.proofs.Parts.{IsClean}
use Rattle.valija_accepted.proofs.Asking.{text_clean, list1_clean, ask_clean, outer_clean, set_outer_clean, binary_clean}
use Rattle.valija_accepted.proofs.Members.{stepped_outer_clean, stepped_outer_behind_clean}

known_is : (s : Scope) (x : Word) → is_known s x ≡ true → is_unbound (bound s x.text) ≡ false
known_is s x e = not_true (is_unbound (bound s x.text)) e

module _ {s r : Scope} {total : ℕ} (fits : Fits s r total) (a : Around) where
  -- a known name, used and written to
  known_used : (x : Word) → Usable x.text → is_arguments x.text ≡ false → is_known s x ≡ true → cajita.used r (word x.text) ≡ []
  known_used x u bare known = used_clean r x.text u.open_name u.no_eval (lacks_none r x.text bare (known_there (bound s x.text) (bound r x.text) (fits.outer.names x.text) (known_is s x known)))

  known_written : (x : Word) → is_arguments x.text ≡ false → is_imported (bound s x.text) ≡ false → is_known s x ≡ true → cajita.written r (word x.text) ≡ []
  known_written x bare own known = written_clean r x.text bare (written_there (bound s x.text) (bound r x.text) (fits.outer.names x.text) (known_is s x known) own)

  known_clean : (x : Word) → Usable x.text → is_arguments x.text ≡ false → is_known s x ≡ true → IsClean r a t.expr (name x.text)
  unfolding faults_in misplaced
  known_clean x u bare known = record { rules = known_used x u bare known; jumps = refl }

  -- `arguments`, in a function
  arguments_clean : (x : Word) → Usable x.text → is_arguments x.text ≡ true → valija.outside s x ≡ [] → IsClean r a t.expr (own_arguments x)
  unfolding faults_in misplaced
  arguments_clean x u args inside =
      let within : is_within s ≡ true = not_false (is_within s) (ap (λ b. b && not (is_within s)) (sym args) ∙ none_there 11 x _ inside) in
      let there : lacks r x.text ≡ false = pick_front (is_arguments x.text) (not (is_within r)) (is_unbound (bound r x.text)) args ∙ ap not (fits.within ∙ within) in
      let name_there = used_clean r x.text u.open_name u.no_eval there in
      record { rules = two (two name_there refl) refl; jumps = refl }

  pub read_name_clean : (x : Word) → valija.used s x ≡ [] → IsClean r a t.expr (read_name s x)
  read_name_clean x clean = by (is_arguments x.text) refl (is_known s x) refl
    where
      u : Usable x.text
      u = usable x (no_front (valija.named x) (valija.outside s x) clean)

      by : (b : Bool) → is_arguments x.text ≡ b → (c : Bool) → is_known s x ≡ c → IsClean r a t.expr (cond b (own_arguments x) (cond c (name x.text) (outer x)))
      by true args c e = arguments_clean x u args (no_back (valija.named x) (valija.outside s x) clean)
      by false bare true e = known_clean x u bare e
      by false bare false e = outer_clean x fits.outer.home

  pub type_of_name_clean : (x : Word) → valija.used s x ≡ [] → IsClean r a t.expr (type_of_name s x)
  unfolding faults_in misplaced
  type_of_name_clean x clean = by (is_arguments x.text) refl (is_known s x) refl
    where
      u : Usable x.text
      u = usable x (no_front (valija.named x) (valija.outside s x) clean)

      typed : {e : Placed t.expr} → IsClean r a t.expr e → IsClean r a t.expr (p.unary Typeof e 0)
      typed h = record { rules = h.rules; jumps = h.jumps }

      by : (b : Bool) → is_arguments x.text ≡ b → (c : Bool) → is_known s x ≡ c → IsClean r a t.expr (cond b (p.unary Typeof (own_arguments x) 0) (cond c (p.unary Typeof (name x.text) 0) (ask (codes "to") (list1 (text_of x)))))
      by true args c e = typed (arguments_clean x u args (no_back (valija.named x) (valija.outside s x) clean))
      by false bare true e = typed (known_clean x u bare e)
      by false bare false e = ask_clean (codes "to") fits.outer.home refl (list1_clean (text_clean x.text))

  -- a name that is written to
  pub write_name_clean : {v : Placed t.expr} (x : Word) → Usable x.text → is_arguments x.text ≡ false → is_imported (bound s x.text) ≡ false → IsClean r a t.expr v → IsClean r a t.expr (write_name s x v)
  unfolding faults_in misplaced
  write_name_clean {v = v} x u bare own h = by (is_known s x) refl
    where
      by : (c : Bool) → is_known s x ≡ c → IsClean r a t.expr (cond c (p.assign None (name x.text) v) (set_outer x v))
      by true e = record { rules = two (two (known_used x u bare e) (known_written x bare own e)) h.rules; jumps = h.jumps }
      by false e = set_outer_clean x fits.outer.home h

  pub op_of_name_clean : {v : Placed t.expr} (op : BinOp) (x : Word) → Usable x.text → is_arguments x.text ≡ false → is_imported (bound s x.text) ≡ false → IsClean r a t.expr v → IsClean r a t.expr (op_of_name s op x v)
  unfolding faults_in misplaced
  op_of_name_clean {v = v} op x u bare own h = by (is_known s x) refl
    where
      by : (c : Bool) → is_known s x ≡ c → IsClean r a t.expr (cond c (p.assign (Some op) (name x.text) v) (set_outer x (p.binary op (outer x) v)))
      by true e = record { rules = two (two (known_used x u bare e) (known_written x bare own e)) h.rules; jumps = h.jumps }
      by false e = set_outer_clean x fits.outer.home (binary_clean op (outer_clean x fits.outer.home) h)

  pub stepped_name_clean : (up before : Bool) (i : ℕ) (x : Word) → Usable x.text → is_arguments x.text ≡ false → is_imported (bound s x.text) ≡ false → i + name_takes s before x ≤ total → IsClean r a t.expr (stepped_name s up before i x)
  unfolding faults_in misplaced
  stepped_name_clean up before i x u bare own few = by (is_known s x) refl before few
    where
      by : (c : Bool) → is_known s x ≡ c → (d : Bool) → i + cond c 0 (cond d 0 1) ≤ total → IsClean r a t.expr (cond c (p.step up d (name x.text)) (cond d (stepped_outer up x) (stepped_outer_behind up i x)))
      by true e d few = record { rules = two (known_used x u bare e) (known_written x bare own e); jumps = refl }
      by false e true few = stepped_outer_clean up x fits.outer.home
      by false e false few = stepped_outer_behind_clean up x fits.outer.home (fits.temporaries i (omega arith))

  -- what `this` is
  pub receiver_clean : IsClean r a t.expr (receiver s)
  unfolding faults_in misplaced
  receiver_clean = by (is_within s) refl
    where
      by : (b : Bool) → is_within s ≡ b → IsClean r a t.expr (cond b (name receiver_name) (p.unary Void (number 0) 0))
      by true e = record { rules = used_clean r receiver_name refl refl (fits.receiver e); jumps = refl }
      by false e = record { rules = refl; jumps = refl }

-- what no fault says of a name that is used and written to
pub record Target (s : Scope) (x : Word) : Type 0 where
  pub usable : Usable x.text
  pub no_arguments : is_arguments x.text ≡ false
  pub no_import : is_imported (bound s x.text) ≡ false

pub target_of : (s : Scope) (x : Word) → valija.used s x ++ valija.written s x ≡ [] → Target s x
target_of s x e =
    let bare = none_there 11 x (is_arguments x.text) (no_back (valija.import_target s x) (valija.changed_arguments x) written) in
    record {
      usable = usable x (no_front (valija.named x) (valija.outside s x) (no_front (valija.used s x) (valija.written s x) e));
      no_arguments = bare;
      no_import = ap (λ b. not b && is_imported (bound s x.text)) (sym bare) ∙ none_there 12 x _ (no_front (valija.import_target s x) (valija.changed_arguments x) written);
    }
  where
    written : valija.written s x ≡ []
    written = no_back (valija.used s x) (valija.written s x) e
