use Rattle.std.proofs.Common.{◌≡◌, ◌∙◌, sym, string_bytes, map, refl, true, true≢false}
use Rattle.clap.specs.Words.{app_of, fault_of, kind_of}
use Rattle.clap.specs.declared.error.kind.ErrorKind.TheVariants.{OutOfMemory}
use Rattle.clap.proofs.WalkLemmas.{list_any-map}
use Rattle.command_words.specs.Matched.{is_dashes}
use Rattle.command_words.proofs.Agrees.{fault_of_kind, free_is_simple, refuses_dashes, refuses_fault, refuses_nothing}
use Rattle.command_words.proofs.reading.matched.Goals as goal

pub returns-then-have_dashes : goal.returns-then-have_dashes
returns-then-have_dashes c = λ simple. refuses_dashes (app_of c.args.command) (map string_bytes c.args.words.now) (sym (list_any-map is_dashes string_bytes c.args.words.now) ∙ sym c.have_dashes.ensures ∙ c.if-have_dashes.true)

pub returns-in-Ok : goal.returns-in-Ok
returns-in-Ok c = λ simple. (refuses_nothing (app_of c.args.command) (map string_bytes c.args.words.now) (sym (list_any-map is_dashes string_bytes c.args.words.now) ∙ sym c.have_dashes.ensures ∙ c.if-have_dashes.false) (c.in-Ok.ensures.kinds simple), (c.in-Ok.ensures.matches (free_is_simple (app_of c.args.command) simple)).0)

pub returns : goal.returns
returns c = λ simple.
    let other : kind_of c.in-Err.error ≡ OutOfMemory → ⊥ =
    λ h. let equal : c.eq.result ≡ true = rw (c.eq.ensures, c.kind.ensures, h) refl in absurd (true≢false (sym equal ∙ c.if-eq.false)) in
    refuses_fault (app_of c.args.command) (map string_bytes c.args.words.now) (fault_of_kind (fault_of (app_of c.args.command) (map string_bytes c.args.words.now)) c.in-Err.error (c.in-Err.ensures.kinds simple) other)
