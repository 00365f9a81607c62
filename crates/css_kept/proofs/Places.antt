-- What holds at places, and stays so behind white space and comments.
use Rattle.std.proofs.Common.{List}
use Rattle.css_grammar.specs.Sheets.{Text, Rule, Body}
use Rattle.css_grammar.specs.Tokens.{Tail, none, closed, a_word, a_whole, a_fraction, a_hash, a_slash}
use Rattle.css_grammar.specs.Grammar.{Where, wanted, within, behind, Place, selecting, block, named, values, spaced, parted}
use Rattle.css_kept.specs.OfTable.{Each}

-- of selectors: R of those of the rules before it, S of those of its rule that have ended, T of the one that goes on
abbrev pub Selected : (Rule → Type 0) → (Text → Type 0) → (Where → Text → Type 0) → Place → Type 0
Selected R S T (selecting w rs ss t) = Each R rs × Each S ss × T w t
Selected R S T (block h b) = Each R b.rules × Each S b.selectors
Selected R S T (named b n) = Each R b.rules × Each S b.selectors
Selected R S T (values j b n vs) = Each R b.rules × Each S b.selectors

pub white_kept : (K : Place → Type 0) → ((rs : List Rule) (ss : List Text) (t : Text) → K (selecting within rs ss t) → K (selecting behind rs ss t))
    → ((j : Tail) (b : Body) (n : Text) (vs : List Text) → K (values j b n vs) → K (values closed b n vs)) → (p : Place) → K p → K (spaced p)
white_kept K f g (selecting wanted rs ss t) k = k
white_kept K f g (selecting within rs ss t) k = f rs ss t k
white_kept K f g (selecting behind rs ss t) k = k
white_kept K f g (block h b) k = k
white_kept K f g (named b n) k = k
white_kept K f g (values none b n vs) k = k
white_kept K f g (values closed b n vs) k = k
white_kept K f g (values a_word b n vs) k = g a_word b n vs k
white_kept K f g (values a_whole b n vs) k = g a_whole b n vs k
white_kept K f g (values a_fraction b n vs) k = g a_fraction b n vs k
white_kept K f g (values a_hash b n vs) k = g a_hash b n vs k
white_kept K f g (values a_slash b n vs) k = g a_slash b n vs k

pub comment_kept : (K : Place → Type 0) → ((j : Tail) (b : Body) (n : Text) (vs : List Text) → K (values j b n vs) → K (values closed b n vs)) → (p : Place) → K p → K (parted p)
comment_kept K g (selecting w rs ss t) k = k
comment_kept K g (block h b) k = k
comment_kept K g (named b n) k = k
comment_kept K g (values none b n vs) k = k
comment_kept K g (values closed b n vs) k = k
comment_kept K g (values a_word b n vs) k = g a_word b n vs k
comment_kept K g (values a_whole b n vs) k = g a_whole b n vs k
comment_kept K g (values a_fraction b n vs) k = g a_fraction b n vs k
comment_kept K g (values a_hash b n vs) k = g a_hash b n vs k
comment_kept K g (values a_slash b n vs) k = g a_slash b n vs k
