-- The rules that a program of Valija breaks, in order. A fault, its place and its order are those of Cajita's rules (crates/cajita_rules), and so is what
-- underscores, `eval`, reserved and repeated keys are; the numbers of the rules are Valija's own.
use Rattle.std.specs.Prelude.{ℕ, ◌&&◌, not, Bool, List, [], ◌∷◌, ◌++◌, map, None, Some}
use Rattle.std.specs.List.{list_any}
use Rattle.caja_units.specs.Units.{same_units}
use Rattle.es3_tree.specs.Tree as t
use Rattle.es3_tree.specs.Placed as p
use Rattle.es3_tree.specs.Placed.{Placed, Word}
use Rattle.es3_tree.specs.declared.UnOp.{UnOp}
use Rattle.es3_tree.specs.declared.UnOp.TheVariants.{Delete}
use Rattle.es3_labels.specs.Around.{in_program}
use Rattle.es3_labels.specs.Misplaced.{Misplaced, misplaced}
use Rattle.cajita_names.specs.Declarations.{Declaration, body_declarations}
use Rattle.cajita_names.specs.Scope.{Scope, in_function, in_catch, is_parameter, is_arguments, is_within, imports, has_own}
use Rattle.cajita_rules.specs.Faults.{Fault, word_fault, form_fault, no_target, hidden, an_eval, reserved, repeated, jump_label, within_its_name, module_scope, ordered}
use Rattle.valija_rules.specs.Words.{is_taken}

-- rule 5: a name is one that lowered programs have of their own; rule 11: `arguments` is declared or written to, or stands outside functions
abbrev pub taken : Word → List Fault
taken x = word_fault 5 x (is_taken x.text)

abbrev pub changed_arguments : Word → List Fault
changed_arguments x = word_fault 11 x (is_arguments x.text)

abbrev pub outside : Scope → Word → List Fault
outside s x = word_fault 11 x (is_arguments x.text && not (is_within s))

-- rule 12: an import is written to
abbrev pub import_target : Scope → Word → List Fault
import_target s x = word_fault 12 x (imports s x.text)

-- a name that is used; what a name that is written to breaks besides; a name that is declared
abbrev pub named : Word → List Fault
named x = (hidden x ++ an_eval x) ++ taken x

abbrev pub used : Scope → Word → List Fault
used s x = named x ++ outside s x

abbrev pub written : Scope → Word → List Fault
written s x = import_target s x ++ changed_arguments x

abbrev pub declared : Word → List Fault
declared x = named x ++ changed_arguments x

abbrev pub all_declared : List Word → List Fault
all_declared [] = []
all_declared (x ∷ xs) = declared x ++ all_declared xs

-- what a target breaks besides
abbrev pub target : Scope → Placed t.expr → List Fault
target s (p.name x) = written s x
target s (p.dot e k) = []
target s (p.index e f) = []
target s e = no_target ∷ []

-- rule 10: what is deleted is no member
abbrev pub deleted : UnOp → ℕ → Placed t.expr → List Fault
deleted Delete at (p.dot e k) = []
deleted Delete at (p.index e f) = []
deleted Delete at e = form_fault 10 at
deleted op at e = []

-- rule 6: two parameters of a function are alike
abbrev pub clashes : Declaration → Declaration → Bool
clashes d e = same_units d.word.text e.word.text && (is_parameter d.role && is_parameter e.role)

abbrev pub redeclared : List Declaration → List Declaration → List Fault
redeclared before [] = []
redeclared before (d ∷ ds) = word_fault 6 d.word (list_any (clashes d) before) ++ redeclared (before ++ d ∷ []) ds

-- rule 7: the body around a `catch` declares its name, or a `catch` around it in that body has it
abbrev pub masking : Scope → Word → List Fault
masking s x = word_fault 7 x (has_own s x.text)

-- the name of a function, if it has one
abbrev pub name_faults : Placed t.func → List Fault
name_faults (p.fun None ps body at) = []
name_faults (p.fun (Some x) ps body at) = declared x

-- the faults of a part, in which these names are declared around it. Rule 2: a `with`
unfoldable pub faults_in : Scope → (s : t.Sort) → Placed s → List Fault
faults_in s _ (p.this at) = []
faults_in s _ p.null = []
faults_in s _ (p.bool b) = []
faults_in s _ (p.num n) = []
faults_in s _ (p.text u) = []
faults_in s _ (p.name x) = used s x
faults_in s _ (p.array es) = faults_in s _ es
faults_in s _ (p.object fs) = faults_in s _ fs ++ repeated [] fs
faults_in s _ (p.function f) = name_faults f ++ faults_in (within_its_name f s) _ f
faults_in s _ (p.dot e k) = faults_in s _ e ++ hidden k
faults_in s _ (p.index e f) = faults_in s _ e ++ faults_in s _ f
faults_in s _ (p.call e es) = faults_in s _ e ++ faults_in s _ es
faults_in s _ (p.new e es) = faults_in s _ e ++ faults_in s _ es
faults_in s _ (p.unary op e at) = deleted op at e ++ faults_in s _ e
faults_in s _ (p.step up before e) = faults_in s _ e ++ target s e
faults_in s _ (p.binary op e f) = faults_in s _ e ++ faults_in s _ f
faults_in s _ (p.and e f) = faults_in s _ e ++ faults_in s _ f
faults_in s _ (p.or e f) = faults_in s _ e ++ faults_in s _ f
faults_in s _ (p.choice e f g) = (faults_in s _ e ++ faults_in s _ f) ++ faults_in s _ g
faults_in s _ (p.assign op e f) = (faults_in s _ e ++ target s e) ++ faults_in s _ f
faults_in s _ (p.comma e f) = faults_in s _ e ++ faults_in s _ f
faults_in s _ p.no_exprs = []
faults_in s _ (p.more_exprs e es) = faults_in s _ e ++ faults_in s _ es
faults_in s _ p.no_fields = []
faults_in s _ (p.more_fields k e rest) = ((hidden k ++ reserved k) ++ faults_in s _ e) ++ faults_in s _ rest
faults_in s _ p.no_expr = []
faults_in s _ (p.some_expr e) = faults_in s _ e
faults_in s _ (p.block ss) = faults_in s _ ss
faults_in s _ (p.var is) = faults_in s _ is
faults_in s _ p.empty = []
faults_in s _ (p.expression e) = faults_in s _ e
faults_in s _ (p.branch e x m) = (faults_in s _ e ++ faults_in s _ x) ++ faults_in s _ m
faults_in s _ (p.while_loop e x) = faults_in s _ e ++ faults_in s _ x
faults_in s _ (p.do_loop x e) = faults_in s _ x ++ faults_in s _ e
faults_in s _ (p.for_loop i e f x) = ((faults_in s _ i ++ faults_in s _ e) ++ faults_in s _ f) ++ faults_in s _ x
faults_in s _ (p.for_in i e x) = (faults_in s _ i ++ faults_in s _ e) ++ faults_in s _ x
faults_in s _ (p.continue l at) = jump_label l
faults_in s _ (p.break l at) = jump_label l
faults_in s _ (p.return m at) = faults_in s _ m
faults_in s _ (p.with_object e x at) = (form_fault 2 at ++ faults_in s _ e) ++ faults_in s _ x
faults_in s _ (p.switch e cs) = faults_in s _ e ++ faults_in s _ cs
faults_in s _ (p.label l x) = hidden l ++ faults_in s _ x
faults_in s _ (p.throw e) = faults_in s _ e
faults_in s _ (p.try ss h m) = (faults_in s _ ss ++ faults_in s _ h) ++ faults_in s _ m
faults_in s _ (p.declare f) = name_faults f ++ faults_in s _ f
faults_in s _ p.no_stmts = []
faults_in s _ (p.more_stmts x ss) = faults_in s _ x ++ faults_in s _ ss
faults_in s _ p.no_items = []
faults_in s _ (p.more_items x m is) = (declared x ++ faults_in s _ m) ++ faults_in s _ is
faults_in s _ p.no_stmt = []
faults_in s _ (p.some_stmt x) = faults_in s _ x
faults_in s _ p.no_block = []
faults_in s _ (p.some_block ss) = faults_in s _ ss
faults_in s _ p.no_first = []
faults_in s _ (p.first_var is) = faults_in s _ is
faults_in s _ (p.first_expr e) = faults_in s _ e
faults_in s _ (p.loop_var x) = declared x
faults_in s _ (p.loop_expr e) = faults_in s _ e ++ target s e
faults_in s _ p.no_cases = []
faults_in s _ (p.more_cases m ss cs) = (faults_in s _ m ++ faults_in s _ ss) ++ faults_in s _ cs
faults_in s _ p.no_handler = []
faults_in s _ (p.some_handler x ss) = (declared x ++ masking s x) ++ faults_in (in_catch x.text s) _ ss
faults_in s _ (p.fun name ps body at) = (all_declared ps ++ redeclared [] (body_declarations ps body)) ++ faults_in (in_function (body_declarations ps body) s) _ body
faults_in s _ (p.script ss) = faults_in s _ ss

-- rule 4: a jump has no target, or a label stands within a statement of the same label
abbrev pub bad_label : Misplaced → Fault
bad_label m = record { rule = 4; at = m.at; text = m.text }

-- the body of a module, where these names are granted
abbrev pub all_faults : List (List ℕ) → Placed t.stmts → List Fault
all_faults grants body = faults_in (module_scope grants body) t.stmts body ++ map bad_label (misplaced in_program t.stmts body)

abbrev pub faults : List (List ℕ) → Placed t.stmts → List Fault
faults grants body = ordered (all_faults grants body)
