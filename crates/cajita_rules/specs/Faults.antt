-- The rules that a program breaks, in order.
use Rattle.std.specs.Prelude.{ℕ, ◌&&◌, ◌||◌, Bool, List, [], ◌∷◌, ◌++◌, map, Option, Some, None, nat_eq, nat_lt, codes, if◌then◌else◌}
use Rattle.std.specs.List.{list_any}
use Rattle.caja_units.specs.Units.{same_units, is_hidden}
use Rattle.es3_tree.specs.Tree as t
use Rattle.es3_tree.specs.Placed as p
use Rattle.es3_tree.specs.Placed.{Placed, Word}
use Rattle.es3_tree.specs.declared.UnOp.{UnOp}
use Rattle.es3_tree.specs.declared.UnOp.TheVariants.{Delete}
use Rattle.es3_labels.specs.Around.{in_program}
use Rattle.es3_labels.specs.Misplaced.{Misplaced, misplaced}
use Rattle.cajita_names.specs.Rules.{fixed_names, is_among}
use Rattle.cajita_names.specs.Declarations.{Declaration, declarations, body_declarations}
use Rattle.cajita_names.specs.Scope.{Scope, in_module, in_function, in_catch, in_named, is_function, is_parameter, is_arguments, is_eval, lacks, keeps, has_own}

-- the number of a broken rule, the byte of the source where it is broken, and the text of the name, label or key there
pub record Fault : Type 0 where
  pub rule : ℕ
  pub at : ℕ
  pub text : List ℕ

-- a word that breaks a rule, or not
abbrev pub word_fault : ℕ → Word → Bool → List Fault
word_fault rule x broken = if broken then record { rule = rule; at = x.at; text = x.text } ∷ [] else []

-- a form that breaks a rule, at the byte where it begins
abbrev pub form_fault : ℕ → ℕ → List Fault
form_fault rule at = record { rule = rule; at = at; text = [] } ∷ []

-- what no tokens spell: something else than a name or a member is written to
abbrev pub no_target : Fault
no_target = record { rule = 0; at = 0; text = [] }

-- rule 1: a name, a label or a key ends in two underscores; rule 3: a name is `eval`; rule 13: `arguments` is declared or written to
abbrev pub hidden : Word → List Fault
hidden x = word_fault 1 x (is_hidden x.text)

abbrev pub an_eval : Word → List Fault
an_eval x = word_fault 3 x (is_eval x.text)

abbrev pub changed_arguments : Word → List Fault
changed_arguments x = word_fault 13 x (is_arguments x.text)

-- rule 10: a name is neither declared around it, nor granted, nor fixed; rule 7: an import, a declared function or the own name of a function
-- expression is written to
abbrev pub undeclared : Scope → Word → List Fault
undeclared s x = word_fault 10 x (lacks s x.text)

abbrev pub fixed_target : Scope → Word → List Fault
fixed_target s x = word_fault 7 x (keeps s x.text)

-- a name that is used; what a name that is written to breaks besides; a name that is declared
abbrev pub used : Scope → Word → List Fault
used s x = (hidden x ++ an_eval x) ++ undeclared s x

abbrev pub written : Scope → Word → List Fault
written s x = fixed_target s x ++ changed_arguments x

abbrev pub declared : Word → List Fault
declared x = (hidden x ++ an_eval x) ++ changed_arguments x

abbrev pub all_declared : List Word → List Fault
all_declared [] = []
all_declared (x ∷ xs) = declared x ++ all_declared xs

-- what a target breaks besides
abbrev pub target : Scope → Placed t.expr → List Fault
target s (p.name x) = written s x
target s (p.dot e k) = []
target s (p.index e f) = []
target s e = no_target ∷ []

-- rule 12: what is deleted is no member
abbrev pub deleted : UnOp → ℕ → Placed t.expr → List Fault
deleted Delete at (p.dot e k) = []
deleted Delete at (p.index e f) = []
deleted Delete at e = form_fault 12 at
deleted op at e = []

-- rule 8: a key is `toString` or `valueOf`; rule 9: a key stands before in the same literal
abbrev pub reserved : Word → List Fault
reserved k = word_fault 8 k (is_among (codes "toString" ∷ codes "valueOf" ∷ []) k.text)

abbrev pub repeated : List (List ℕ) → Placed t.fields → List Fault
repeated before p.no_fields = []
repeated before (p.more_fields k e rest) = word_fault 9 k (is_among before k.text) ++ repeated (before ++ k.text ∷ []) rest

-- rule 5: a declaration repeats an earlier one of the same body: both are parameters, or one is a function
abbrev pub clashes : Declaration → Declaration → Bool
clashes d e = same_units d.word.text e.word.text && ((is_function d.role || is_function e.role) || (is_parameter d.role && is_parameter e.role))

abbrev pub redeclared : List Declaration → List Declaration → List Fault
redeclared before [] = []
redeclared before (d ∷ ds) = word_fault 5 d.word (list_any (clashes d) before) ++ redeclared (before ++ d ∷ []) ds

-- rule 6: the body around a `catch` declares its name, or a `catch` around it in that body has it
abbrev pub masking : Scope → Word → List Fault
masking s x = word_fault 6 x (has_own s x.text)

-- the name of a function, if it has one, and what it is itself called within
abbrev pub name_faults : Placed t.func → List Fault
name_faults (p.fun None ps body at) = []
name_faults (p.fun (Some x) ps body at) = declared x

abbrev pub within_its_name : Placed t.func → Scope → Scope
within_its_name (p.fun None ps body at) s = s
within_its_name (p.fun (Some x) ps body at) s = in_named x.text s

-- the label of a jump
abbrev pub jump_label : Option Word → List Fault
jump_label None = []
jump_label (Some l) = hidden l

-- the faults of a part, in which these names are declared around it. Rule 2: a `with`; rule 4: `this`
unfoldable pub faults_in : Scope → (s : t.Sort) → Placed s → List Fault
faults_in s _ (p.this at) = form_fault 4 at
faults_in s _ p.null = []
faults_in s _ (p.bool b) = []
faults_in s _ (p.num n) = []
faults_in s _ (p.text u) = []
faults_in s _ (p.name x) = used s x
faults_in s _ (p.array es) = faults_in s _ es
faults_in s _ (p.object fs) = faults_in s _ fs ++ repeated [] fs
faults_in s _ (p.function f) = name_faults f ++ faults_in (within_its_name f s) _ f
faults_in s _ (p.dot e k) = faults_in s _ e ++ hidden k
faults_in s _ (p.index e f) = faults_in s _ e ++ faults_in s _ f
faults_in s _ (p.call e es) = faults_in s _ e ++ faults_in s _ es
faults_in s _ (p.new e es) = faults_in s _ e ++ faults_in s _ es
faults_in s _ (p.unary op e at) = deleted op at e ++ faults_in s _ e
faults_in s _ (p.step up before e) = faults_in s _ e ++ target s e
faults_in s _ (p.binary op e f) = faults_in s _ e ++ faults_in s _ f
faults_in s _ (p.and e f) = faults_in s _ e ++ faults_in s _ f
faults_in s _ (p.or e f) = faults_in s _ e ++ faults_in s _ f
faults_in s _ (p.choice e f g) = (faults_in s _ e ++ faults_in s _ f) ++ faults_in s _ g
faults_in s _ (p.assign op e f) = (faults_in s _ e ++ target s e) ++ faults_in s _ f
faults_in s _ (p.comma e f) = faults_in s _ e ++ faults_in s _ f
faults_in s _ p.no_exprs = []
faults_in s _ (p.more_exprs e es) = faults_in s _ e ++ faults_in s _ es
faults_in s _ p.no_fields = []
faults_in s _ (p.more_fields k e rest) = ((hidden k ++ reserved k) ++ faults_in s _ e) ++ faults_in s _ rest
faults_in s _ p.no_expr = []
faults_in s _ (p.some_expr e) = faults_in s _ e
faults_in s _ (p.block ss) = faults_in s _ ss
faults_in s _ (p.var is) = faults_in s _ is
faults_in s _ p.empty = []
faults_in s _ (p.expression e) = faults_in s _ e
faults_in s _ (p.branch e x m) = (faults_in s _ e ++ faults_in s _ x) ++ faults_in s _ m
faults_in s _ (p.while_loop e x) = faults_in s _ e ++ faults_in s _ x
faults_in s _ (p.do_loop x e) = faults_in s _ x ++ faults_in s _ e
faults_in s _ (p.for_loop i e f x) = ((faults_in s _ i ++ faults_in s _ e) ++ faults_in s _ f) ++ faults_in s _ x
faults_in s _ (p.for_in i e x) = (faults_in s _ i ++ faults_in s _ e) ++ faults_in s _ x
faults_in s _ (p.continue l at) = jump_label l
faults_in s _ (p.break l at) = jump_label l
faults_in s _ (p.return m at) = faults_in s _ m
faults_in s _ (p.with_object e x at) = (form_fault 2 at ++ faults_in s _ e) ++ faults_in s _ x
faults_in s _ (p.switch e cs) = faults_in s _ e ++ faults_in s _ cs
faults_in s _ (p.label l x) = hidden l ++ faults_in s _ x
faults_in s _ (p.throw e) = faults_in s _ e
faults_in s _ (p.try ss h m) = (faults_in s _ ss ++ faults_in s _ h) ++ faults_in s _ m
faults_in s _ (p.declare f) = name_faults f ++ faults_in s _ f
faults_in s _ p.no_stmts = []
faults_in s _ (p.more_stmts x ss) = faults_in s _ x ++ faults_in s _ ss
faults_in s _ p.no_items = []
faults_in s _ (p.more_items x m is) = (declared x ++ faults_in s _ m) ++ faults_in s _ is
faults_in s _ p.no_stmt = []
faults_in s _ (p.some_stmt x) = faults_in s _ x
faults_in s _ p.no_block = []
faults_in s _ (p.some_block ss) = faults_in s _ ss
faults_in s _ p.no_first = []
faults_in s _ (p.first_var is) = faults_in s _ is
faults_in s _ (p.first_expr e) = faults_in s _ e
faults_in s _ (p.loop_var x) = declared x
faults_in s _ (p.loop_expr e) = faults_in s _ e ++ target s e
faults_in s _ p.no_cases = []
faults_in s _ (p.more_cases m ss cs) = (faults_in s _ m ++ faults_in s _ ss) ++ faults_in s _ cs
faults_in s _ p.no_handler = []
faults_in s _ (p.some_handler x ss) = (declared x ++ masking s x) ++ faults_in (in_catch x.text s) _ ss
faults_in s _ (p.fun name ps body at) = (all_declared ps ++ redeclared [] (body_declarations ps body)) ++ faults_in (in_function (body_declarations ps body) s) _ body
faults_in s _ (p.script ss) = faults_in s _ ss

-- rule 11: a jump has no target, or a label stands within a statement of the same label
abbrev pub bad_label : Misplaced → Fault
bad_label m = record { rule = 11; at = m.at; text = m.text }

-- the body of a module, where these names are granted
abbrev pub module_scope : List (List ℕ) → Placed t.stmts → Scope
module_scope grants body = in_module (declarations t.stmts body) (grants ++ fixed_names)

abbrev pub all_faults : List (List ℕ) → Placed t.stmts → List Fault
all_faults grants body = (redeclared [] (declarations t.stmts body) ++ faults_in (module_scope grants body) t.stmts body) ++ map bad_label (misplaced in_program t.stmts body)

-- earlier in the source, or at the same byte by a smaller number
abbrev pub is_before : Fault → Fault → Bool
is_before f g = nat_lt f.at g.at || (nat_eq f.at g.at && nat_lt f.rule g.rule)

-- in order of place and then of number; of two that are alike in both, the one that was met first comes first
abbrev pub inserted : Fault → List Fault → List Fault
inserted f [] = f ∷ []
inserted f (g ∷ gs) = if is_before g f then g ∷ inserted f gs else f ∷ g ∷ gs

abbrev pub ordered : List Fault → List Fault
ordered [] = []
ordered (f ∷ fs) = inserted f (ordered fs)

-- the faults of a program, where these names are granted
abbrev pub faults : List (List ℕ) → Placed t.stmts → List Fault
faults grants body = ordered (all_faults grants body)

-- the one that counts
abbrev pub first : List Fault → Option Fault
first [] = None
first (f ∷ fs) = Some f
