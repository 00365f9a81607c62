-- A source is refused just where the definitions of its tokens and of its grammar say so.
use Rattle.std.proofs.Common.{◌≡◌, ℕ, List, length, refl, ap, subst, ◌∙◌}
use Rattle.std.specs.Prelude.{Ok, Err}
use Rattle.es3_tokens.specs.Tokens as tokens
use Rattle.es3_tokens.specs.Cut as cut
use Rattle.es3_grammar.specs.Spots.{spots}
use Rattle.es3_grammar.specs.Answers.{Answer, read, syntax, deep, answer}
use Rattle.es3_stmt.specs.Told as told
use Rattle.es3_stmt.specs.Told.{Becomes}
use Rattle.es3_stmt.proofs.Telling.{becomes_answer, answer_is_so}
use Rattle.page_cajole.specs.Source.{uncut, unread, lex_number, source_of, of_cut, of_tokens}
use Rattle.page_cajole.specs.Refused.{IsUncut, uncut_at, IsUnread, refused_at, breaks_off, deep_at}
use Rattle.page_cajole.specs.declared.source.Limits.{Limits}

-- ---- the stage `lex`

pub uncut_where : (l : Limits) (source : List ℕ) (number at : ℕ) → IsUncut l source number at → source_of l source ≡ uncut number at
uncut_where l source _ _ (uncut_at r at is) = ap (of_cut l.deepest (length source)) is

not_uncut : (a : Answer) (number at : ℕ) → of_tokens a ≡ uncut number at → ⊥
not_uncut (read p) number at e = cc
not_uncut (syntax i) number at e = cc
not_uncut deep number at e = cc

uncut_so : (l : Limits) (source : List ℕ) (number at : ℕ) (a : cut.Answer) → cut.cut l.longest source ≡ a → of_cut l.deepest (length source) a ≡ uncut number at → IsUncut l source number at
uncut_so l source number at (Err (r, i)) is e =
    let of_number : lex_number r ≡ number = cc in
    let of_place : i ≡ at = cc in
    subst (λ n. IsUncut l source n at) of_number (subst (IsUncut l source (lex_number r)) of_place (uncut_at r i is))
uncut_so l source number at (Ok ts) is e = absurd (not_uncut (answer l.deepest (length source) ts) number at e)

pub uncut_there : (l : Limits) (source : List ℕ) (number at : ℕ) → source_of l source ≡ uncut number at → IsUncut l source number at
uncut_there l source number at e = uncut_so l source number at (cut.cut l.longest source) refl e

-- ---- the stage `read`

-- the answer to its tokens
answered : (l : Limits) (source : List ℕ) (ts : List tokens.Placed) (a : Answer) → cut.cut l.longest source ≡ Ok ts → Becomes l.deepest (length source) (spots ts) a → source_of l source ≡ of_tokens a
answered l source ts a is h = ap (of_cut l.deepest (length source)) is ∙ ap of_tokens (answer_is_so l.deepest (length source) ts a h)

pub unread_where : (l : Limits) (source : List ℕ) (number at : ℕ) → IsUnread l source number at → source_of l source ≡ unread number at
unread_where l source _ _ (refused_at ts c k is h) = answered l source ts (syntax c.1) is (told.refused_at c k h)
unread_where l source _ _ (breaks_off ts is b none) = answered l source ts (syntax (length source)) is (told.breaks_off b none)
unread_where l source _ _ (deep_at ts c k is h) = answered l source ts deep is (told.deep_at c k h)

same_refusal : (l : Limits) (source : List ℕ) (n i number at : ℕ) → unread n i ≡ unread number at → IsUnread l source n i → IsUnread l source number at
same_refusal l source n i number at e h =
    let of_number : n ≡ number = cc in
    let of_place : i ≡ at = cc in
    subst (λ m. IsUnread l source m at) of_number (subst (IsUnread l source n) of_place h)

unread_so : (l : Limits) (source : List ℕ) (ts : List tokens.Placed) (number at : ℕ) → cut.cut l.longest source ≡ Ok ts → (a : Answer) → Becomes l.deepest (length source) (spots ts) a → of_tokens a ≡ unread number at → IsUnread l source number at
unread_so l source ts number at is _ (told.spelled p w) e = absurd cc
unread_so l source ts number at is _ (told.refused_at c k h) e = same_refusal l source 1 c.1 number at e (refused_at ts c k is h)
unread_so l source ts number at is _ (told.breaks_off b none) e = same_refusal l source 1 (length source) number at e (breaks_off ts is b none)
unread_so l source ts number at is _ (told.deep_at c k h) e = same_refusal l source 2 0 number at e (deep_at ts c k is h)

unread_cut : (l : Limits) (source : List ℕ) (number at : ℕ) (a : cut.Answer) → cut.cut l.longest source ≡ a → of_cut l.deepest (length source) a ≡ unread number at → IsUnread l source number at
unread_cut l source number at (Err r) is e = absurd cc
unread_cut l source number at (Ok ts) is e = unread_so l source ts number at is (answer l.deepest (length source) ts) (becomes_answer l.deepest (length source) ts) e

pub unread_there : (l : Limits) (source : List ℕ) (number at : ℕ) → source_of l source ≡ unread number at → IsUnread l source number at
unread_there l source number at e = unread_cut l source number at (cut.cut l.longest source) refl e
