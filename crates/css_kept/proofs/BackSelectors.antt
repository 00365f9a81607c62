-- A selector that was read is read again as it is printed, behind a scope and a space.
use Rattle.std.proofs.Common.{◌≡◌, ◌⊎◌, inl, inr, ℕ, true, false, List, [], ◌∷◌, ◌++◌, refl, sym, ap, subst, ◌∙◌, append_assoc, append-nil}
use Rattle.css_grammar.specs.Characters.{class, space, combinator_sign}
use Rattle.css_grammar.specs.Sheets.{Text, Rule, lowered, with_declaration}
use Rattle.css_grammar.specs.Grammar as g
use Rattle.css_grammar.specs.Grammar.{Where, wanted, within, behind, Place, selecting, block, named, values, may_tag, has_compound, joined, Leads, Spells}
use Rattle.css_kept.specs.OfTable.{Each}
use Rattle.css_kept.proofs.Lists.{each_more}
use Rattle.css_kept.proofs.Lowered.{lowered_word, lowered_twice}
use Rattle.css_kept.proofs.Places as at

-- a space at the end isn't printed
abbrev pub printed_at : Where → Where
printed_at behind = within
printed_at w = w

-- what leads to the place with this text, behind what leads to a place behind a scope and white space
abbrev pub Rereads : Where → Text → Type 0
Rereads w t = (qs : List Rule) (ts : List Text) (x scope : Text) → Leads (selecting behind qs ts scope) x → Leads (selecting (printed_at w) qs ts (joined behind scope ++ t)) (x ++ t)

-- nothing is printed yet, or what is
abbrev pub Again : Where → Text → Type 0
Again w t = ((w ≡ wanted) × (t ≡ [])) ⊎ Rereads w t

-- a whole selector
abbrev pub Readable : Text → Type 0
Readable t = Rereads within t

abbrev pub RuleReadable : Rule → Type 0
RuleReadable r = Each Readable r.selectors

pub blank : class 32 ≡ space false
unfolding class
blank = refl

-- ---- where a compound goes on

-- a place that leads on as the printed text does
pub record On (w : Where) (t : Text) (qs : List Rule) (ts : List Text) (x scope : Text) : Type 0 where
  pub at : Where
  pub before : Text
  pub text : Text
  pub leads : Leads (selecting at qs ts before) text
  pub tags : may_tag w ≡ true → may_tag at ≡ true
  pub same : joined at before ≡ joined behind scope ++ joined w t
  pub spelled : text ≡ x ++ joined w t

on : (w : Where) (t : Text) (qs : List Rule) (ts : List Text) (x scope : Text) → Again w t → Leads (selecting behind qs ts scope) x → On w t qs ts x scope
on w t qs ts x scope (inl e) d =
    subst (λ v. On v t qs ts x scope) (sym e.0) (subst (λ (z : Text). On wanted z qs ts x scope) (sym e.1) (record { at = behind; before = scope; text = x; leads = d; tags = λ h. refl; same = sym (append-nil (joined behind scope)); spelled = sym (append-nil x) }))
on wanted t qs ts x scope (inr f) d = record { at = wanted; before = joined behind scope ++ t; text = x ++ t; leads = f qs ts x scope d; tags = λ h. refl; same = refl; spelled = refl }
on within t qs ts x scope (inr f) d = record { at = within; before = joined behind scope ++ t; text = x ++ t; leads = f qs ts x scope d; tags = λ h. h; same = refl; spelled = refl }
on behind t qs ts x scope (inr f) d = record {
  at = behind;
  before = joined behind scope ++ t;
  text = (x ++ t) ++ 32 ∷ [];
  leads = g.white (selecting within qs ts (joined behind scope ++ t)) (x ++ t) 32 false (f qs ts x scope d) blank;
  tags = λ h. refl;
  same = append_assoc (joined behind scope) t (32 ∷ []);
  spelled = append_assoc x t (32 ∷ []);
}

-- what leads on, in whatever place, from a text to that with z behind it
abbrev pub Goes : Where → Text → Type 0
Goes w z = (v : Where) (qs : List Rule) (ts : List Text) (s y : Text) → (may_tag w ≡ true → may_tag v ≡ true) → Leads (selecting v qs ts s) y → Leads (selecting within qs ts (joined v s ++ z)) (y ++ z)

compound : (w : Where) (t z : Text) → Again w t → Goes w z → Rereads within (joined w t ++ z)
compound w t z a go qs ts x scope d =
    let o = on w t qs ts x scope a d in
    let e : joined o.at o.before ++ z ≡ joined behind scope ++ (joined w t ++ z) = ap (λ (y : Text). y ++ z) o.same ∙ append_assoc (joined behind scope) (joined w t) z in
    let f : o.text ++ z ≡ x ++ (joined w t ++ z) = ap (λ (y : Text). y ++ z) o.spelled ∙ append_assoc x (joined w t) z in
    subst (λ (y : Text). Leads (selecting within qs ts (joined behind scope ++ (joined w t ++ z))) y) f (subst (λ (y : Text). Leads (selecting within qs ts y) (o.text ++ z)) e (go o.at qs ts o.before o.text o.tags o.leads))

-- a whole compound, whatever white space stood behind it
not_within : within ≡ wanted → ⊥
not_within e = cc

not_behind : behind ≡ wanted → ⊥
not_behind e = cc

whole : (w : Where) (t : Text) → has_compound w ≡ true → Again w t → Rereads within t
whole wanted t h a = absurd cc
whole within t h (inl e) = absurd (not_within e.0)
whole within t h (inr f) = f
whole behind t h (inl e) = absurd (not_behind e.0)
whole behind t h (inr f) = f

sign_again : (t : Text) (c : ℕ) → Rereads within t → class c ≡ combinator_sign → Rereads wanted (t ++ c ∷ [])
sign_again t c f e qs ts x scope d =
    subst (λ (y : Text). Leads (selecting wanted qs ts (joined behind scope ++ (t ++ c ∷ []))) y) (append_assoc x t (c ∷ []))
    (subst (λ (y : Text). Leads (selecting wanted qs ts y) ((x ++ t) ++ c ∷ [])) (append_assoc (joined behind scope) t (c ∷ [])) (g.combinator within qs ts (joined behind scope ++ t) (x ++ t) c (f qs ts x scope d) refl e))

behind_too : (t : Text) → Again within t → Again behind t
behind_too t (inl e) = absurd (not_within e.0)
behind_too t (inr f) = inr f

abbrev pub Known : Place → Type 0
Known p = at.Selected RuleReadable Readable Again p

known : (p : Place) (u : Text) → Leads p u → Known p
known _ _ g.begins = (tt, tt, inl (refl, refl))
known _ _ (g.white p u c h d e) = at.white_kept Known (λ rs ss t k. (k.0, k.1, behind_too t k.2)) (λ j b n vs k. k) p (known p u d)
known _ _ (g.comment p u i c d e f) = at.comment_kept Known (λ j b n vs k. k) p (known p u d)
known _ _ (g.tag w rs ss t u v d m e) = let k = known (selecting w rs ss t) u d in (
  k.0,
  k.1,
  inr (compound w t (lowered v) k.2
      (λ x qs ts s y h l. subst (λ (z : Text). Leads (selecting within qs ts (joined x s ++ z)) (y ++ lowered v)) (lowered_twice v) (g.tag x qs ts s y (lowered v) l (h m) (lowered_word v e)))),
)
known _ _ (g.all w rs ss t u c d m e) = let k = known (selecting w rs ss t) u d in (k.0, k.1, inr (compound w t (c ∷ []) k.2 (λ x qs ts s y h l. g.all x qs ts s y c l (h m) e)))
known _ _ (g.part w rs ss t u v c d m e) = let k = known (selecting w rs ss t) u d in (k.0, k.1, inr (compound w t (c ∷ v) k.2 (λ x qs ts s y h l. g.part x qs ts s y v c l m e)))
known _ _ (g.state w rs ss t u v c d m e) = let k = known (selecting w rs ss t) u d in (
  k.0,
  k.1,
  inr (compound w t (c ∷ lowered v) k.2
      (λ x qs ts s y h l. subst (λ (z : Text). Leads (selecting within qs ts (joined x s ++ c ∷ z)) (y ++ c ∷ lowered v)) (lowered_twice v) (g.state x qs ts s y (lowered v) c l m (lowered_word v e)))),
)
known _ _ (g.asked w rs ss t u v i c a b d e m f n q) = let k = known (selecting w rs ss t) u d in (
  k.0,
  k.1,
  inr (compound w t (c ∷ (lowered v ++ a ∷ (i ++ b ∷ []))) k.2
      (λ x qs ts s y h l. subst (λ (z : Text). Leads (selecting within qs ts (joined x s ++ c ∷ (z ++ a ∷ (i ++ b ∷ [])))) (y ++ c ∷ (lowered v ++ a ∷ (i ++ b ∷ [])))) (lowered_twice v) (g.asked x qs ts s y (lowered v) i c a b l e (lowered_word v m) f n q))),
)
known _ _ (g.element w rs ss t u v c j d e f m) = let k = known (selecting w rs ss t) u d in (
  k.0,
  k.1,
  inr (compound w t (c ∷ j ∷ lowered v) k.2
      (λ x qs ts s y h l. subst (λ (z : Text). Leads (selecting within qs ts (joined x s ++ c ∷ j ∷ z)) (y ++ c ∷ j ∷ lowered v)) (lowered_twice v) (g.element x qs ts s y (lowered v) c j l e f (lowered_word v m)))),
)
known _ _ (g.attribute w rs ss t u i a b d e f m) = let k = known (selecting w rs ss t) u d in (k.0, k.1, inr (compound w t (a ∷ (i ++ b ∷ [])) k.2 (λ x qs ts s y h l. g.attribute x qs ts s y i a b l e f m)))
known _ _ (g.combinator w rs ss t u c d m e) = let k = known (selecting w rs ss t) u d in (k.0, k.1, inr (sign_again t c (whole w t m k.2) e))
known _ _ (g.next w rs ss t u c d m e) = let k = known (selecting w rs ss t) u d in (k.0, each_more Readable ss t k.1 (whole w t m k.2), inl (refl, refl))
known _ _ (g.opens w rs ss t u c d m e) = let k = known (selecting w rs ss t) u d in (k.0, each_more Readable ss t k.1 (whole w t m k.2))
known _ _ (g.name h b u v d e) = known (block h b) u d
known _ _ (g.colons b n u c d e) = known (named b n) u d
known _ _ (g.value t j b n u v w vs d e f) = known (values t b n vs) u d
known _ _ (g.ends t b n u vs c d m e) = known (values t b n vs) u d
known _ _ (g.absent b u c d e) = known (block true b) u d
known _ _ (g.closes h b u c d e) = let k = known (block h b) u d in (each_more RuleReadable b.rules (record { selectors = b.selectors; declarations = b.declarations }) k.0 k.1, tt, inl (refl, refl))
known _ _ (g.ends_closes t b n u vs c d m e) = let k = known (values t b n vs) u d in
    let q = with_declaration b n vs in (each_more RuleReadable b.rules (record { selectors = q.selectors; declarations = q.declarations }) k.0 k.1, tt, inl (refl, refl))

pub readable : (rs : List Rule) (u : Text) → Spells rs u → Each RuleReadable rs
readable rs u d = (known (selecting wanted rs [] []) u d).0
