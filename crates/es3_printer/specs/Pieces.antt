-- What is still to be printed: pieces, each of which has tokens.
use Rattle.std.specs.Prelude.{◌+◌, true, false, List, [], ◌∷◌, ◌++◌}
use Rattle.es3_tree.specs.Tree as t
use Rattle.es3_tree.specs.Token as k
use Rattle.es3_tree.specs.View.{expr, stmt, func, first, loop_target, names, of_exprs, of_fields, of_items, of_stmts, of_cases, of_maybe_expr, of_handler, of_maybe_block}
use Rattle.es3_lexer.specs.Tables.{punct_number, word_number}
use Rattle.es3_printed.specs.Tokens.{bare, wrapped, listed, initialiser}
use Rattle.es3_printer.specs.declared.piece.Piece.{Piece}
use Rattle.es3_printer.specs.declared.piece.Piece.TheVariants as p

abbrev pub tokens_of : Piece → List k.Token
tokens_of (p.Punct s) = k.punct (punct_number s) ∷ []
tokens_of (p.Word w) = k.word (word_number w) ∷ []
tokens_of (p.Name n) = k.name n.now.text ∷ []
tokens_of (p.Key n) = k.text n.now.text ∷ []
tokens_of (p.Text us) = k.text us.now ∷ []
tokens_of (p.Number n) = k.num n.now ∷ []
tokens_of (p.Part e w b) = wrapped w (bare t.expr b (expr e.now))
tokens_of (p.Exprs es b) = bare t.exprs b (of_exprs es.now)
tokens_of (p.Fields fs b) = bare t.fields b (of_fields fs.now)
tokens_of (p.Items is b) = bare t.items b (of_items is.now)
tokens_of (p.Initialiser m b) = initialiser b (of_maybe_expr m.now) (bare t.maybe_expr b (of_maybe_expr m.now))
tokens_of (p.Maybe m) = bare t.maybe_expr false (of_maybe_expr m.now)
tokens_of (p.Names ns) = listed (names ns.now)
tokens_of (p.Function f) = bare t.func false (func f.now)
tokens_of (p.Statement s) = bare t.stmt false (stmt s.now)
tokens_of (p.Statements ss) = bare t.stmts false (of_stmts ss.now)
tokens_of (p.First f) = bare t.first true (first f.now)
tokens_of (p.Target l) = bare t.loop_target false (loop_target l.now)
tokens_of (p.Cases cs) = bare t.cases false (of_cases cs.now)
tokens_of (p.Handler h) = bare t.handler false (of_handler h.now)
tokens_of (p.Finally l) = bare t.maybe_block false (of_maybe_block l.now)

-- the tokens of pieces, the first one first
abbrev pub all_tokens : List Piece → List k.Token
all_tokens [] = []
all_tokens (p ∷ ps) = tokens_of p ++ all_tokens ps

-- the tokens of a stack, whose last piece comes first
abbrev pub pending : List Piece → List k.Token
pending [] = []
pending (p ∷ ps) = pending ps ++ tokens_of p
