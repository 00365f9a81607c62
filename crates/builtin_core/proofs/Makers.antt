-- What the rows of the constructors of errors come to.
use Rattle.std.proofs.Common.{◌≡◌, ℕ, suc, List, [], ◌∷◌, length, refl}
use Rattle.es3_objects.specs.declared.value.Value.{Value}
use Rattle.es3_heap.specs.Objects.{Objects}
use Rattle.es3_heap.specs.Making.{error_object}
use Rattle.es3_language.specs.Natives.{value_reply}
use Rattle.rows.specs.Rows as r
use Rattle.rows.specs.Rows.{Maker}
use Rattle.rows.specs.Arguments as rows
use Rattle.rows.specs.Guards.{maker_name}
use Rattle.heap_rows.specs.Doing.{proto_of, makes}
use Rattle.heap_rows.specs.Opening.{place_of}
use Rattle.row_outcomes.specs.Comes.{row_done}
use Rattle.row_outcomes.specs.Arguments.{argument, text_argument}
use Rattle.row_outcomes.proofs.Arguments.{argument_held, text_or_leaves}
use Rattle.builtin_core.specs.Errors.{gives_error}
use Rattle.builtin_core.proofs.Numbers.{done_by}

pub new_error-is : (maker : Maker) (by : ℕ) (this : Value) (args : List Value) (h : Objects)
    → row_done (r.makes maker) by this args h ≡ gives_error (proto_of maker) (maker_name maker) (text_argument [] (argument 0 args) h) by h
new_error-is maker by this args h =
    done_by (r.makes maker) by this args h (gives_error (proto_of maker) (maker_name maker) (text_argument [] (argument 0 args) h) by h)
    (text_or_leaves by (this ∷ args) h [] (rows.argument 0 (suc (length args))) (argument 0 args) (λ us. r.ends (r.makes_error maker us)) (λ us. makes value_reply by (error_object (proto_of maker) (maker_name maker) us) h [])
    (argument_held place_of 0 this args) (λ us more. refl))
