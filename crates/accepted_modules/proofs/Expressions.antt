-- Each form of an expression of an accepted module is a guest's where its parts are.
use Rattle.std.proofs.Common.{◌≡◌, ℕ, ◌+◌, ◌≤◌, Bool, true, false, List, [], ◌∷◌, ◌++◌, Option, Some, None, cond, refl, arith}
use Rattle.std.specs.Prelude.{ℤ, not}
use Rattle.es3_tree.specs.Tree as t
use Rattle.es3_tree.specs.Placed as p
use Rattle.es3_tree.specs.Placed.{Placed, Word}
use Rattle.es3_tree.specs.declared.UnOp.{UnOp}
use Rattle.es3_tree.specs.declared.UnOp.TheVariants as un
use Rattle.es3_tree.specs.declared.BinOp.{BinOp}
use Rattle.es3_labels.specs.Around.{Around}
use Rattle.es3_labels.specs.Misplaced.{misplaced}
use Rattle.cajita_tree.specs.Tree as c
use Rattle.cajita_tree.specs.Parts.{called, target_of}
use Rattle.cajita_names.specs.Scope.{is_arguments, is_within, lacks}
use Rattle.cajita_rules.specs.Faults.{hidden, an_eval, reserved, repeated, used, written, deleted, target, no_target, faults_in}
use Rattle.cajita_forms.specs.Options.{one, both, from}
use Rattle.cajita_forms.specs.Forms.{name_or_arguments, unary_of}
use Rattle.cajita_forms.specs.Arguments.{names_arguments}
use Rattle.source_sizes.specs.Sizes.{inner_temps}
use Rattle.scope_rules.specs.Free.{free}
use Rattle.scope_rules.specs.Resolve.{resolved}
use Rattle.cajita_simulation.specs.Guest.{Names, Assigns}
use Rattle.accepted_modules.proofs.Declared.{no_front, no_back, none_there, guest_key, guest_used, all_both}
use Rattle.accepted_modules.proofs.Places.{Place, import_fixed}
use Rattle.accepted_modules.proofs.Parts.{About, about, beside, before_faults, behind_faults, fewer, IsGuest, Fine, Accepts, Holds, lacking, held, clear_front, clear_back, clear_behind, more_behind, more_front, no_part, one_form, pair_form, three_form, Part, Means}

-- ---- names, operators, members

module _ {imports : List (List ℕ)} {outer : Names} (P : Place imports outer) (a : Around) where
  name_part : (x : Word) → Holds P (about P.around a t.expr (p.name x)) c.expr (Some (name_or_arguments x.text))
  unfolding faults_in free names_arguments
  name_part x =
      let cases = elim (is_arguments x.text) as (λ b. is_arguments x.text ≡ b → Holds P (about P.around a t.expr (p.name x)) c.expr (Some (cond b c.args (c.name x.text)))) [
        | true ↦ λ is. held c.args (λ few clear. record { guest = clear.copied is (within_lacks is (none_there _ _ (no_back (hidden x ++ an_eval x) _ clear.clean))); fixed = import_fixed P x })
        | false ↦ λ bare. held (c.name x.text) (λ few clear. record {
          guest = (P.known x bare (none_there _ _ (no_back (hidden x ++ an_eval x) _ clear.clean)) clear.granted, guest_used x bare (no_front (hidden x) _ (no_front (hidden x ++ an_eval x) _ clear.clean)));
          fixed = import_fixed P x;
        })
      ] in cases refl
    where
      within_lacks : is_arguments x.text ≡ true → lacks P.around x.text ≡ false → is_within P.around ≡ true
      within_lacks is e = by (is_within P.around) (rw is at e)
        where
          by : (w : Bool) → not w ≡ false → w ≡ true
          by true e = refl
          by false e = absurd cc

  -- what is written to: a name, a member, nothing else
  name_target : (x : Word) → Holds P (before_faults (written P.around x) (about P.around a t.expr (p.name x))) c.target (target_of (name_or_arguments x.text))
  unfolding faults_in free names_arguments
  name_target x =
      let cases = elim (is_arguments x.text) as (λ b. is_arguments x.text ≡ b → Holds P (before_faults (written P.around x) (about P.around a t.expr (p.name x))) c.target (target_of (cond b c.args (c.name x.text)))) [
        | true ↦ λ is. lacking
        | false ↦ λ bare. held (c.variable x.text) (λ few clear.
            let as_used = no_front (used P.around x) (written P.around x) clear.clean in
            let lacked = none_there _ _ (no_back (hidden x ++ an_eval x) _ as_used) in
            record {
              guest = (P.known x bare lacked clear.granted, P.writable x bare lacked (none_there _ _ (no_front _ _ (no_back (used P.around x) (written P.around x) clear.clean))), guest_used x bare (no_front (hidden x) _ (no_front (hidden x ++ an_eval x) _ as_used)));
              fixed = import_fixed P x;
            })
      ] in cases refl

  member_target : {A : About} (k : c.Tree c.expr → c.Tree c.expr) (m : c.Tree c.expr → c.Tree c.target) → ((y : c.Tree c.expr) → target_of (k y) ≡ Some (m y)) → ((y : c.Tree c.expr) → inner_temps c.expr (k y) ≤ inner_temps c.target (m y)) → ((y : c.Tree c.expr) → IsGuest P c.expr (k y) → IsGuest P c.target (m y))
      → (o : Option (c.Tree c.expr)) → Holds P A c.expr (one k o) → Holds P A c.target (from target_of (one k o))
  member_target k m is less guest None h = lacking
  member_target {A = A} k m is less guest (Some y) (held _ f) = rw (is y) (held (m y) (λ few clear. let h = f (fewer _ _ (less y) few) clear in record { guest = guest y h.guest; fixed = h.fixed }))

  index_target : {A : About} (o r : Option (c.Tree c.expr)) → Holds P A c.expr (both (λ x y. c.read x (c.computed y)) o r) → Holds P A c.target (from target_of (both (λ x y. c.read x (c.computed y)) o r))
  unfolding inner_temps
  index_target None r h = lacking
  index_target (Some x) None h = lacking
  index_target (Some x) (Some y) (held _ f) = held (c.member x (c.computed y)) (λ few clear. let h = f few clear in record { guest = h.guest; fixed = h.fixed })

  no_place : (A : About) (o : Option (c.Tree c.target)) → Holds P (before_faults (no_target ∷ []) A) c.target o
  no_place A None = lacking
  no_place A (Some y) = held y (λ few clear. absurd (full (no_back A.faults (no_target ∷ []) clear.clean)))
    where
      full : no_target ∷ [] ≡ [] → ⊥
      full e = absurd cc

  pub target_part : (x : Placed t.expr) → Part P a t.expr x → Holds P (before_faults (target P.around x) (about P.around a t.expr x)) c.target (from target_of (resolved t.expr x))
  unfolding resolved faults_in free names_arguments misplaced inner_temps
  target_part (p.name x) h = name_target x
  target_part (p.dot x k) h = more_behind P [] (member_target (λ y. c.read y (c.fixed k.text)) (λ y. c.member y (c.fixed k.text)) (λ y. refl) (λ y. omega arith) (λ y g. g) (resolved t.expr x) h)
  target_part (p.index x y) h = more_behind P [] (index_target (resolved t.expr x) (resolved t.expr y) h)
  target_part x h = no_place (about P.around a t.expr x) (from target_of (resolved t.expr x))

  -- an operator before its operand: what is deleted is a member
  operator_part : {A : About} (op : UnOp) (y : c.Tree c.expr) → Accepts P A c.expr y → Holds P A c.expr (unary_of op y)
  unfolding inner_temps
  operator_part un.Delete (c.read x k) f = held (c.delete x k) (λ few clear. let h = f few clear in record { guest = h.guest; fixed = h.fixed })
  operator_part un.Delete y f = lacking
  operator_part op y f = held (c.unary op y) (λ few clear. let h = f few clear in record { guest = (tt, h.guest); fixed = h.fixed })

  operated : {A : About} {o : Option (c.Tree c.expr)} (op : UnOp) → Holds P A c.expr o → Holds P A c.expr (from (unary_of op) o)
  operated op lacking = lacking
  operated op (held y f) = operator_part op y f

  assign_guest : (op : Option BinOp) (x : c.Tree c.target) (y : c.Tree c.expr) → Assigns op → IsGuest P c.target x → IsGuest P c.expr y → IsGuest P c.expr (c.assign op x y)
  assign_guest None (c.variable x) y is g h = (is, g, h)
  assign_guest None (c.member x k) y is g h = (g.0, g.1, h)
  assign_guest (Some op) (c.variable x) y is g h = (is, g, h)
  assign_guest (Some op) (c.member x k) y is g h = (is, g.0, g.1, h)

  step_guest : (up before : Bool) (x : c.Tree c.target) → IsGuest P c.target x → IsGuest P c.expr (c.step up before x)
  step_guest up before (c.variable x) g = g
  step_guest up before (c.member x k) g = g

  -- 11.2.3: a call of a member is a call of a method
  called_less : (x : c.Tree c.expr) (xs : c.Tree c.exprs) → inner_temps c.expr x + inner_temps c.exprs xs ≤ inner_temps c.expr (called x xs)
  unfolding inner_temps
  called_less (c.read x k) xs = omega arith
  called_less x xs = omega arith

  called_guest : (x : c.Tree c.expr) (xs : c.Tree c.exprs) → IsGuest P c.expr x → IsGuest P c.exprs xs → IsGuest P c.expr (called x xs)
  called_guest (c.read x k) xs g h = (g.0, g.1, h)
  called_guest x xs g h = (g, h)

  field_part : {A B : About} {o : Option (c.Tree c.expr)} {r : Option (c.Tree c.fields)} (k : Word) → Holds P A c.expr o → Holds P B c.fields r → Holds P (beside (behind_faults (hidden k ++ reserved k) A) B) c.fields (both (c.more_fields k.text) o r)
  unfolding inner_temps
  field_part k lacking b = lacking
  field_part k (held x f) lacking = lacking
  field_part {A = A} {B = B} k (held x f) (held y b) = held (c.more_fields k.text x y) (λ few clear.
      let front = clear_front P (behind_faults (hidden k ++ reserved k) A) B clear in
      let g : Fine P A.imported c.expr x = f (fewer _ (inner_temps c.expr x + inner_temps c.fields y) (omega arith) few) (clear_behind P (hidden k ++ reserved k) A front) in
      let h : Fine P B.imported c.fields y = b (fewer _ (inner_temps c.expr x + inner_temps c.fields y) (omega arith) few) (clear_back P (behind_faults (hidden k ++ reserved k) A) B clear) in
      record { guest = (guest_key k (no_front (hidden k ++ reserved k) A.faults front.clean), g.guest, h.guest); fixed = all_both A.imported B.imported outer g.fixed h.fixed })

-- ---- each form

module _ (imports : List (List ℕ)) (outer : Names) where
  abbrev M : (s : t.Sort) → Placed s → Type 0
  M s x = Means imports outer s x

  pub this_form : (at : ℕ) → M t.expr (p.this at)
  unfolding resolved
  this_form at h P a = lacking

  pub null_form : M t.expr p.null
  unfolding resolved free
  null_form h P a = no_part P c.null refl tt

  pub bool_form : (v : Bool) → M t.expr (p.bool v)
  unfolding resolved free
  bool_form v h P a = no_part P (c.bool v) refl tt

  pub num_form : (n : ℤ) → M t.expr (p.num n)
  unfolding resolved free
  num_form n h P a = no_part P (c.num n) refl tt

  pub text_form : (us : List ℕ) → M t.expr (p.text us)
  unfolding resolved free
  text_form us h P a = no_part P (c.text us) refl tt

  pub name_form : (x : Word) → M t.expr (p.name x)
  unfolding resolved
  name_form x h P a = name_part P a x

  pub array_form : (xs : Placed t.exprs) → M t.exprs xs → M t.expr (p.array xs)
  unfolding resolved faults_in free names_arguments misplaced inner_temps
  array_form xs f h P a = one_form P c.array (λ y. omega arith) (λ y g. g) (f h P a)

  pub object_form : (fs : Placed t.fields) → M t.fields fs → M t.expr (p.object fs)
  unfolding resolved faults_in free names_arguments misplaced inner_temps
  object_form fs f h P a = more_behind P (repeated [] fs) (one_form P c.record_of (λ y. omega arith) (λ y g. g) (f h P a))

  pub dot_form : (x : Placed t.expr) (k : Word) → M t.expr x → M t.expr (p.dot x k)
  unfolding resolved faults_in free names_arguments misplaced inner_temps
  dot_form x k f h P a = more_behind P (hidden k) (one_form P (λ y. c.read y (c.fixed k.text)) (λ y. omega arith) (λ y g. (g, tt)) (f h P a))

  pub index_form : (x y : Placed t.expr) → M t.expr x → M t.expr y → M t.expr (p.index x y)
  unfolding resolved faults_in free names_arguments misplaced inner_temps
  index_form x y f g h P a = pair_form P (λ u v. c.read u (c.computed v)) (λ u v. omega arith) (λ u v i j. (i, j)) (f h.0 P a) (g h.1 P a)

  pub call_form : (x : Placed t.expr) (xs : Placed t.exprs) → M t.expr x → M t.exprs xs → M t.expr (p.call x xs)
  unfolding resolved faults_in free names_arguments misplaced
  call_form x xs f g h P a = pair_form P called (called_less P a) (called_guest P a) (f h.0 P a) (g h.1 P a)

  pub new_form : (x : Placed t.expr) (xs : Placed t.exprs) → M t.expr x → M t.exprs xs → M t.expr (p.new x xs)
  unfolding resolved faults_in free names_arguments misplaced inner_temps
  new_form x xs f g h P a = pair_form P c.new (λ u v. omega arith) (λ u v i j. (i, j)) (f h.0 P a) (g h.1 P a)

  pub unary_form : (op : UnOp) (x : Placed t.expr) (at : ℕ) → M t.expr x → M t.expr (p.unary op x at)
  unfolding resolved faults_in free names_arguments misplaced
  unary_form op x at f h P a = more_front P (deleted op at x) (operated P a op (f h P a))

  pub step_form : (up before : Bool) (x : Placed t.expr) → M t.expr x → M t.expr (p.step up before x)
  unfolding resolved faults_in free names_arguments misplaced inner_temps
  step_form up before x f h P a = one_form P (c.step up before) (λ y. omega arith) (step_guest P a up before) (target_part P a x (f h P a))

  pub binary_form : (op : BinOp) (x y : Placed t.expr) → M t.expr x → M t.expr y → M t.expr (p.binary op x y)
  unfolding resolved faults_in free names_arguments misplaced inner_temps
  binary_form op x y f g h P a = pair_form P (c.binary op) (λ u v. omega arith) (λ u v i j. (i, j)) (f h.0 P a) (g h.1 P a)

  pub and_form : (x y : Placed t.expr) → M t.expr x → M t.expr y → M t.expr (p.and x y)
  unfolding resolved faults_in free names_arguments misplaced inner_temps
  and_form x y f g h P a = pair_form P c.and (λ u v. omega arith) (λ u v i j. (i, j)) (f h.0 P a) (g h.1 P a)

  pub or_form : (x y : Placed t.expr) → M t.expr x → M t.expr y → M t.expr (p.or x y)
  unfolding resolved faults_in free names_arguments misplaced inner_temps
  or_form x y f g h P a = pair_form P c.or (λ u v. omega arith) (λ u v i j. (i, j)) (f h.0 P a) (g h.1 P a)

  pub choice_form : (x y z : Placed t.expr) → M t.expr x → M t.expr y → M t.expr z → M t.expr (p.choice x y z)
  unfolding resolved faults_in free names_arguments misplaced inner_temps
  choice_form x y z f g k h P a = three_form P c.choice (λ u v w. omega arith) (λ u v w i j l. (i, j, l)) (f h.0 P a) (g h.1 P a) (k h.2 P a)

  pub assign_form : (op : Option BinOp) (x y : Placed t.expr) → M t.expr x → M t.expr y → M t.expr (p.assign op x y)
  unfolding resolved faults_in free names_arguments misplaced inner_temps
  assign_form op x y f g h P a = pair_form P (c.assign op) (λ u v. omega arith) (λ u v i j. assign_guest P a op u v h.0 i j) (target_part P a x (f h.1 P a)) (g h.2 P a)

  pub comma_form : (x y : Placed t.expr) → M t.expr x → M t.expr y → M t.expr (p.comma x y)
  unfolding resolved faults_in free names_arguments misplaced inner_temps
  comma_form x y f g h P a = pair_form P c.comma (λ u v. omega arith) (λ u v i j. (i, j)) (f h.0 P a) (g h.1 P a)

  pub no_exprs_form : M t.exprs p.no_exprs
  unfolding resolved free
  no_exprs_form h P a = no_part P c.no_exprs refl tt

  pub more_exprs_form : (x : Placed t.expr) (xs : Placed t.exprs) → M t.expr x → M t.exprs xs → M t.exprs (p.more_exprs x xs)
  unfolding resolved faults_in free names_arguments misplaced inner_temps
  more_exprs_form x xs f g h P a = pair_form P c.more_exprs (λ u v. omega arith) (λ u v i j. (i, j)) (f h.0 P a) (g h.1 P a)

  pub no_fields_form : M t.fields p.no_fields
  unfolding resolved free
  no_fields_form h P a = no_part P c.no_fields refl tt

  pub more_fields_form : (k : Word) (x : Placed t.expr) (fs : Placed t.fields) → M t.expr x → M t.fields fs → M t.fields (p.more_fields k x fs)
  unfolding resolved faults_in free names_arguments misplaced
  more_fields_form k x fs f g h P a = field_part P a k (f h.0 P a) (g h.1 P a)

  pub no_expr_form : M t.maybe_expr p.no_expr
  unfolding resolved free
  no_expr_form h P a = no_part P c.no_expr refl tt

  pub some_expr_form : (x : Placed t.expr) → M t.expr x → M t.maybe_expr (p.some_expr x)
  unfolding resolved faults_in free names_arguments misplaced inner_temps
  some_expr_form x f h P a = one_form P c.some_expr (λ y. omega arith) (λ y g. g) (f h P a)
