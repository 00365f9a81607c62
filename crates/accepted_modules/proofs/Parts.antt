-- An accepted part is a guest's: of which parts that is told, and what follows for a form from its parts.
use Rattle.std.proofs.Common.{◌≡◌, ℕ, ◌+◌, ◌<◌, ◌≤◌, Bool, true, false, List, [], ◌++◌, Option, Some, None, refl, sym, ◌∙◌, subst, arith}
use Rattle.std.specs.Prelude.{◌||◌}
use Rattle.std.proofs.lemmas.List.Folds.{list_any-append}
use Rattle.caja_units.specs.Units.{same_units}
use Rattle.es3_tree.specs.Tree as t
use Rattle.es3_tree.specs.Placed.{Placed}
use Rattle.es3_labels.specs.Around.{Around}
use Rattle.es3_labels.specs.Misplaced.{Misplaced, misplaced}
use Rattle.cajita_tree.specs.Tree as c
use Rattle.cajita_names.specs.Declarations.{Declaration, declarations}
use Rattle.cajita_names.specs.Scope.{Scope, declares}
use Rattle.cajita_names.specs.Scope as scope
use Rattle.cajita_rules.specs.Faults.{Fault, faults_in}
use Rattle.cajita_forms.specs.Options.{one, both, three, four}
use Rattle.cajita_forms.specs.Arguments.{names_arguments}
use Rattle.cajita_rewrite.specs.Rewrite.{arguments_copy}
use Rattle.source_sizes.specs.Sizes.{inner_temps}
use Rattle.scope_rules.specs.Free.{free}
use Rattle.scope_rules.specs.Resolve.{of_sort, resolved, declared_functions}
use Rattle.cajita_simulation.specs.Guest.{is_among, Names, Guest}
use Rattle.accepted_modules.proofs.Declared.{left_there, right_there, no_front, no_back, AllIn, all_front, all_back, all_both, never}
use Rattle.accepted_modules.proofs.Places.{Place}
use Rattle.accepted_modules.proofs.Formed.{Formed, FormedBody}

-- what the rules and the resolution say of a part: what it declares and imports, whether it names `arguments`, its faults, and its misplaced jumps
pub record About : Type 0 where
  pub declared : List Declaration
  pub imported : List (List ℕ)
  pub named : Bool
  pub faults : List Fault
  pub jumps : List Misplaced

-- an expression declares nothing around it
abbrev pub declared_in : (s : t.Sort) → Placed s → List Declaration
declared_in t.stmt x = declarations t.stmt x
declared_in t.stmts x = declarations t.stmts x
declared_in t.items x = declarations t.items x
declared_in t.maybe_stmt x = declarations t.maybe_stmt x
declared_in t.maybe_block x = declarations t.maybe_block x
declared_in t.first x = declarations t.first x
declared_in t.loop_target x = declarations t.loop_target x
declared_in t.cases x = declarations t.cases x
declared_in t.handler x = declarations t.handler x
declared_in s x = []

abbrev pub about : Scope → Around → (s : t.Sort) → Placed s → About
about s a sort x = record { declared = declared_in sort x; imported = free s sort x; named = names_arguments sort x; faults = faults_in s sort x; jumps = misplaced a sort x }

abbrev pub nothing : About
nothing = record { declared = []; imported = []; named = false; faults = []; jumps = [] }

-- two parts, one behind the other
abbrev pub beside : About → About → About
beside A B = record { declared = A.declared ++ B.declared; imported = A.imported ++ B.imported; named = A.named || B.named; faults = A.faults ++ B.faults; jumps = A.jumps ++ B.jumps }

-- faults and misplaced jumps more
abbrev pub behind_faults : List Fault → About → About
behind_faults fs A = record { declared = A.declared; imported = A.imported; named = A.named; faults = fs ++ A.faults; jumps = A.jumps }

abbrev pub before_faults : List Fault → About → About
before_faults fs A = record { declared = A.declared; imported = A.imported; named = A.named; faults = A.faults ++ fs; jumps = A.jumps }

abbrev pub behind_jumps : List Misplaced → About → About
behind_jumps ms A = record { declared = A.declared; imported = A.imported; named = A.named; faults = A.faults; jumps = ms ++ A.jumps }

-- with other declarations
abbrev pub declaring : List Declaration → About → About
declaring ds A = record { declared = ds; imported = A.imported; named = A.named; faults = A.faults; jumps = A.jumps }

-- few temporaries: each has a name of its own
abbrev pub Few : ℕ → Type 0
Few n = n < 18446744073709551616

pub fewer : (n m : ℕ) → n ≤ m → Few m → Few n
fewer n m h few = omega arith

module _ {imports : List (List ℕ)} {outer : Names} (P : Place imports outer) where
  -- a guest's part, over the names around it
  abbrev pub IsGuest : (s : c.Sort) → c.Tree s → Type 0
  IsGuest s y = Guest P.vars P.free s y

  -- what it declares may be read and written to, what it imports is imported, `arguments` is there, no rule is broken, and no jump is misplaced
  pub record Clear (A : About) : Type 0 where
    pub usable : (k : List ℕ) → declares A.declared k ≡ true → (P.vars k ≡ true) × (P.free k ≡ true)
    pub granted : AllIn A.imported (is_among imports)
    pub copied : A.named ≡ true → scope.is_within P.around ≡ true → P.vars arguments_copy ≡ true
    pub clean : A.faults ≡ []
    pub placed : A.jumps ≡ []

  -- it is a guest's, and what it imports is from outside
  pub record Fine (is : List (List ℕ)) (s : c.Sort) (y : c.Tree s) : Type 0 where
    pub guest : IsGuest s y
    pub fixed : AllIn is outer

  abbrev pub Accepts : About → (s : c.Sort) → c.Tree s → Type 0
  Accepts A s y = Few (inner_temps s y) → Clear A → Fine A.imported s y

  -- no part is there, or one that is accepted
  pub data Holds (A : About) (s : c.Sort) : Option (c.Tree s) → Type 0 where
    lacking : Holds A s None
    held : (y : c.Tree s) → Accepts A s y → Holds A s (Some y)

  pub there : {A : About} {s : c.Sort} {y : c.Tree s} → Holds A s (Some y) → Accepts A s y
  there (held y a) = a

  -- ---- what is clear

  pub clear_front : (A B : About) → Clear (beside A B) → Clear A
  clear_front A B h = record {
    usable = λ k e. h.usable k (list_any-append (λ (x : Declaration). same_units k x.word.text) A.declared B.declared ∙ left_there _ _ e);
    granted = all_front A.imported B.imported (is_among imports) h.granted;
    copied = λ e. h.copied (left_there _ _ e);
    clean = no_front A.faults B.faults h.clean;
    placed = no_front A.jumps B.jumps h.placed;
  }

  pub clear_back : (A B : About) → Clear (beside A B) → Clear B
  clear_back A B h = record {
    usable = λ k e. h.usable k (list_any-append (λ (x : Declaration). same_units k x.word.text) A.declared B.declared ∙ right_there _ _ e);
    granted = all_back A.imported B.imported (is_among imports) h.granted;
    copied = λ e. h.copied (right_there A.named _ e);
    clean = no_back A.faults B.faults h.clean;
    placed = no_back A.jumps B.jumps h.placed;
  }

  pub clear_behind : (fs : List Fault) (A : About) → Clear (behind_faults fs A) → Clear A
  clear_behind fs A h = record { usable = h.usable; granted = h.granted; copied = h.copied; clean = no_back fs A.faults h.clean; placed = h.placed }

  pub clear_before : (fs : List Fault) (A : About) → Clear (before_faults fs A) → Clear A
  clear_before fs A h = record { usable = h.usable; granted = h.granted; copied = h.copied; clean = no_front A.faults fs h.clean; placed = h.placed }

  clear_jumps : (ms : List Misplaced) (A : About) → Clear (behind_jumps ms A) → Clear A
  clear_jumps ms A h = record { usable = h.usable; granted = h.granted; copied = h.copied; clean = h.clean; placed = no_back ms A.jumps h.placed }

  clear_declaring : (ds : List Declaration) (A : About) → ((k : List ℕ) → declares A.declared k ≡ true → declares ds k ≡ true) → Clear (declaring ds A) → Clear A
  clear_declaring ds A more h = record { usable = λ k e. h.usable k (more k e); granted = h.granted; copied = h.copied; clean = h.clean; placed = h.placed }

  -- ---- the same part, of which more is asked

  pub fine_of : {A : About} {s : c.Sort} {o : Option (c.Tree s)} (B : About) → (Clear B → Clear A) → (A.imported ≡ B.imported) → Holds A s o → Holds B s o
  fine_of B f e lacking = lacking
  fine_of {s = s} B f e (held y a) = held y (λ few clear. subst (λ is. Fine is s y) e (a few (f clear)))

  pub more_behind : {A : About} {s : c.Sort} {o : Option (c.Tree s)} (fs : List Fault) → Holds A s o → Holds (before_faults fs A) s o
  more_behind {A = A} fs h = fine_of (before_faults fs A) (clear_before fs A) refl h

  pub more_front : {A : About} {s : c.Sort} {o : Option (c.Tree s)} (fs : List Fault) → Holds A s o → Holds (behind_faults fs A) s o
  more_front {A = A} fs h = fine_of (behind_faults fs A) (clear_behind fs A) refl h

  pub more_jumps : {A : About} {s : c.Sort} {o : Option (c.Tree s)} (ms : List Misplaced) → Holds A s o → Holds (behind_jumps ms A) s o
  more_jumps {A = A} ms h = fine_of (behind_jumps ms A) (clear_jumps ms A) refl h

  -- what declares no more
  pub same_declared : {A : About} {s : c.Sort} {o : Option (c.Tree s)} (ds : List Declaration) → A.declared ≡ ds → Holds A s o → Holds (declaring ds A) s o
  same_declared {A = A} ds e h = fine_of (declaring ds A) (clear_declaring ds A (λ k there. subst (λ l. declares l k ≡ true) e there)) refl h

  -- ---- forms by their parts

  pub no_part : {s : c.Sort} {A : About} (y : c.Tree s) → A.imported ≡ [] → IsGuest s y → Holds A s (Some y)
  no_part {s = s} y e g = held y (λ few clear. subst (λ is. Fine is s y) (sym e) (record { guest = g; fixed = λ k h. never h }))

  pub one_form : {s v : c.Sort} {A : About} {o : Option (c.Tree s)} (f : c.Tree s → c.Tree v) → ((y : c.Tree s) → inner_temps s y ≤ inner_temps v (f y)) → ((y : c.Tree s) → IsGuest s y → IsGuest v (f y)) → Holds A s o → Holds A v (one f o)
  one_form f less guest lacking = lacking
  one_form f less guest (held y a) = held (f y) (λ few clear. let h = a (fewer _ _ (less y) few) clear in record { guest = guest y h.guest; fixed = h.fixed })

  pub pair_form : {s u v : c.Sort} {A B : About} {o : Option (c.Tree s)} {r : Option (c.Tree u)} (f : c.Tree s → c.Tree u → c.Tree v) → ((x : c.Tree s) (y : c.Tree u) → inner_temps s x + inner_temps u y ≤ inner_temps v (f x y))
      → ((x : c.Tree s) (y : c.Tree u) → IsGuest s x → IsGuest u y → IsGuest v (f x y)) → Holds A s o → Holds B u r → Holds (beside A B) v (both f o r)
  pair_form f less guest lacking b = lacking
  pair_form f less guest (held x a) lacking = lacking
  pair_form {s = s} {u = u} {A = A} {B = B} f less guest (held x a) (held y b) = held (f x y) (λ few clear.
      let all : Few (inner_temps s x + inner_temps u y) = fewer _ _ (less x y) few in
      let g : Fine A.imported s x = a (fewer _ (inner_temps s x + inner_temps u y) (omega arith) all) (clear_front A B clear) in
      let h : Fine B.imported u y = b (fewer _ (inner_temps s x + inner_temps u y) (omega arith) all) (clear_back A B clear) in
      record { guest = guest x y g.guest h.guest; fixed = all_both A.imported B.imported outer g.fixed h.fixed })

  pub three_form : {s u q v : c.Sort} {A B D : About} {o : Option (c.Tree s)} {r : Option (c.Tree u)} {l : Option (c.Tree q)} (f : c.Tree s → c.Tree u → c.Tree q → c.Tree v)
      → ((x : c.Tree s) (y : c.Tree u) (z : c.Tree q) → inner_temps s x + (inner_temps u y + inner_temps q z) ≤ inner_temps v (f x y z))
      → ((x : c.Tree s) (y : c.Tree u) (z : c.Tree q) → IsGuest s x → IsGuest u y → IsGuest q z → IsGuest v (f x y z)) → Holds A s o → Holds B u r → Holds D q l → Holds (beside (beside A B) D) v (three f o r l)
  three_form f less guest lacking b d = lacking
  three_form f less guest (held x a) lacking d = lacking
  three_form f less guest (held x a) (held y b) lacking = lacking
  three_form {s = s} {u = u} {q = q} {A = A} {B = B} {D = D} f less guest (held x a) (held y b) (held z d) = held (f x y z) (λ few clear.
      let all : Few (inner_temps s x + (inner_temps u y + inner_temps q z)) = fewer _ _ (less x y z) few in
      let two = clear_front (beside A B) D clear in
      let g : Fine A.imported s x = a (fewer _ (inner_temps s x + (inner_temps u y + inner_temps q z)) (omega arith) all) (clear_front A B two) in
      let h : Fine B.imported u y = b (fewer _ (inner_temps s x + (inner_temps u y + inner_temps q z)) (omega arith) all) (clear_back A B two) in
      let k : Fine D.imported q z = d (fewer _ (inner_temps s x + (inner_temps u y + inner_temps q z)) (omega arith) all) (clear_back (beside A B) D clear) in
      record { guest = guest x y z g.guest h.guest k.guest; fixed = all_both (A.imported ++ B.imported) D.imported outer (all_both A.imported B.imported outer g.fixed h.fixed) k.fixed })

  pub four_form : {s u q w v : c.Sort} {A B D E : About} {o : Option (c.Tree s)} {r : Option (c.Tree u)} {l : Option (c.Tree q)} {m : Option (c.Tree w)} (f : c.Tree s → c.Tree u → c.Tree q → c.Tree w → c.Tree v)
      → ((x : c.Tree s) (y : c.Tree u) (z : c.Tree q) (i : c.Tree w) → inner_temps s x + (inner_temps u y + (inner_temps q z + inner_temps w i)) ≤ inner_temps v (f x y z i))
      → ((x : c.Tree s) (y : c.Tree u) (z : c.Tree q) (i : c.Tree w) → IsGuest s x → IsGuest u y → IsGuest q z → IsGuest w i → IsGuest v (f x y z i))
      → Holds A s o → Holds B u r → Holds D q l → Holds E w m → Holds (beside (beside (beside A B) D) E) v (four f o r l m)
  four_form f less guest lacking b d e = lacking
  four_form f less guest (held x a) lacking d e = lacking
  four_form f less guest (held x a) (held y b) lacking e = lacking
  four_form f less guest (held x a) (held y b) (held z d) lacking = lacking
  four_form {s = s} {u = u} {q = q} {w = w} {A = A} {B = B} {D = D} {E = E} f less guest (held x a) (held y b) (held z d) (held i e) = held (f x y z i) (λ few clear.
      let all : Few (inner_temps s x + (inner_temps u y + (inner_temps q z + inner_temps w i))) = fewer _ _ (less x y z i) few in
      let three = clear_front (beside (beside A B) D) E clear in
      let two = clear_front (beside A B) D three in
      let g : Fine A.imported s x = a (fewer _ (inner_temps s x + (inner_temps u y + (inner_temps q z + inner_temps w i))) (omega arith) all) (clear_front A B two) in
      let h : Fine B.imported u y = b (fewer _ (inner_temps s x + (inner_temps u y + (inner_temps q z + inner_temps w i))) (omega arith) all) (clear_back A B two) in
      let k : Fine D.imported q z = d (fewer _ (inner_temps s x + (inner_temps u y + (inner_temps q z + inner_temps w i))) (omega arith) all) (clear_back (beside A B) D three) in
      let l : Fine E.imported w i = e (fewer _ (inner_temps s x + (inner_temps u y + (inner_temps q z + inner_temps w i))) (omega arith) all) (clear_back (beside (beside A B) D) E clear) in
      record { guest = guest x y z i g.guest h.guest k.guest l.guest; fixed = all_both ((A.imported ++ B.imported) ++ D.imported) E.imported outer (all_both (A.imported ++ B.imported) D.imported outer (all_both A.imported B.imported outer g.fixed h.fixed) k.fixed) l.fixed })

  -- what is to be shown of a part
  abbrev pub Part : Around → (s : t.Sort) → Placed s → Type 0
  Part a s x = Holds (about P.around a s x) (of_sort s) (resolved s x)

  -- ---- a body

  pub record FineBody (is : List (List ℕ)) (fs : c.Tree c.funcs) (list : c.Tree c.stmts) : Type 0 where
    pub functions : IsGuest c.funcs fs
    pub statements : IsGuest c.stmts list
    pub fixed : AllIn is outer

  -- its functions and its statements
  pub data HoldsBody (A : About) : Option (c.Tree c.funcs) → Option (c.Tree c.stmts) → Type 0 where
    no_functions : (r : Option (c.Tree c.stmts)) → HoldsBody A None r
    no_statements : (o : Option (c.Tree c.funcs)) → HoldsBody A o None
    both_held : (fs : c.Tree c.funcs) (list : c.Tree c.stmts) → (Few (inner_temps c.funcs fs + inner_temps c.stmts list) → Clear A → FineBody A.imported fs list) → HoldsBody A (Some fs) (Some list)

  pub body_there : {A : About} {fs : c.Tree c.funcs} {list : c.Tree c.stmts} → HoldsBody A (Some fs) (Some list) → Few (inner_temps c.funcs fs + inner_temps c.stmts list) → Clear A → FineBody A.imported fs list
  body_there (both_held fs list a) = a

  -- a statement in front; a function that is declared in front
  pub body_more : {A B : About} {o : Option (c.Tree c.stmt)} {q : Option (c.Tree c.funcs)} {r : Option (c.Tree c.stmts)} → Holds A c.stmt o → HoldsBody B q r → HoldsBody (beside A B) q (both c.more_stmts o r)
  unfolding inner_temps
  body_more {q = q} lacking b = no_statements q
  body_more {r = r} (held x a) (no_functions _) = no_functions (both c.more_stmts (Some x) r)
  body_more (held x a) (no_statements q) = no_statements q
  body_more {A = A} {B = B} (held x a) (both_held fs list b) = both_held fs (c.more_stmts x list) (λ few clear.
      let g : Fine A.imported c.stmt x = a (fewer _ (inner_temps c.funcs fs + (inner_temps c.stmt x + inner_temps c.stmts list)) (omega arith) few) (clear_front A B clear) in
      let h : FineBody B.imported fs list = b (fewer _ (inner_temps c.funcs fs + (inner_temps c.stmt x + inner_temps c.stmts list)) (omega arith) few) (clear_back A B clear) in
      record { functions = h.functions; statements = (g.guest, h.statements); fixed = all_both A.imported B.imported outer g.fixed h.fixed })

  pub body_declares : {A B : About} {o : Option (c.Tree c.func)} {q : Option (c.Tree c.funcs)} {r : Option (c.Tree c.stmts)} → Holds A c.func o → HoldsBody B q r → HoldsBody (beside A B) (both c.more_funcs o q) r
  unfolding inner_temps
  body_declares {r = r} lacking b = no_functions r
  body_declares {r = r} (held x a) (no_functions _) = no_functions r
  body_declares {q = q} (held x a) (no_statements _) = no_statements (both c.more_funcs (Some x) q)
  body_declares {A = A} {B = B} (held x a) (both_held fs list b) = both_held (c.more_funcs x fs) list (λ few clear.
      let g : Fine A.imported c.func x = a (fewer _ ((inner_temps c.func x + inner_temps c.funcs fs) + inner_temps c.stmts list) (omega arith) few) (clear_front A B clear) in
      let h : FineBody B.imported fs list = b (fewer _ ((inner_temps c.func x + inner_temps c.funcs fs) + inner_temps c.stmts list) (omega arith) few) (clear_back A B clear) in
      record { functions = (g.guest, h.functions); statements = h.statements; fixed = all_both A.imported B.imported outer g.fixed h.fixed })

-- what is to be shown of each part of a source, wherever it stands
module _ (imports : List (List ℕ)) (outer : Names) where
  pub record Lines (xs : Placed t.stmts) : Type 0 where
    pub in_block : Formed t.stmts xs → (P : Place imports outer) (a : Around) → Part P a t.stmts xs
    pub in_body : FormedBody xs → (P : Place imports outer) (a : Around) → HoldsBody P (about P.around a t.stmts xs) (declared_functions xs) (resolved t.stmts xs)

  abbrev pub Means : (s : t.Sort) → Placed s → Type 0
  Means t.stmts x = Lines x
  Means t.expr x = Formed t.expr x → (P : Place imports outer) (a : Around) → Part P a t.expr x
  Means t.exprs x = Formed t.exprs x → (P : Place imports outer) (a : Around) → Part P a t.exprs x
  Means t.fields x = Formed t.fields x → (P : Place imports outer) (a : Around) → Part P a t.fields x
  Means t.maybe_expr x = Formed t.maybe_expr x → (P : Place imports outer) (a : Around) → Part P a t.maybe_expr x
  Means t.stmt x = Formed t.stmt x → (P : Place imports outer) (a : Around) → Part P a t.stmt x
  Means t.items x = Formed t.items x → (P : Place imports outer) (a : Around) → Part P a t.items x
  Means t.maybe_stmt x = Formed t.maybe_stmt x → (P : Place imports outer) (a : Around) → Part P a t.maybe_stmt x
  Means t.maybe_block x = Formed t.maybe_block x → (P : Place imports outer) (a : Around) → Part P a t.maybe_block x
  Means t.first x = Formed t.first x → (P : Place imports outer) (a : Around) → Part P a t.first x
  Means t.loop_target x = Formed t.loop_target x → (P : Place imports outer) (a : Around) → Part P a t.loop_target x
  Means t.cases x = Formed t.cases x → (P : Place imports outer) (a : Around) → Part P a t.cases x
  Means t.handler x = Formed t.handler x → (P : Place imports outer) (a : Around) → Part P a t.handler x
  Means t.func x = Formed t.func x → (P : Place imports outer) (a : Around) → Part P a t.func x
  Means t.program x = Unit {0}
