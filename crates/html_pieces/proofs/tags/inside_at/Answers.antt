use Rattle.std.proofs.Common.{ℕ, ◌≡◌, ◌+◌, ◌≤◌, ◌<◌, ◌++◌, ◌∷◌, [], List, length, drop, map, sym, ap, subst, ◌∙◌, arith}
use Rattle.std.proofs.lemmas.List.{length-drop}
use Rattle.html_grammar.specs.Fits.{PartFits}
use Rattle.html_grammar.specs.Tags.{Attr, Part, Kind, before, inside, or_later, part}
use Rattle.html_grammar.proofs.Insides.{loop_start, loop_close, loop_gap, loop_attr, loop_wrong, loop_unclosed, loop_end}
use Rattle.html_pieces.specs.Views.{names_of, fault_of, kind_of, part_of}
use Rattle.html_tree.specs.Views.{attr_of}
use Rattle.html_grammar.specs.Tables.{is_in}
use Rattle.std.proofs.Common.{None, nat_eq}
use Rattle.std.specs.Cmp.Lexicographic.{pointwise}
use Rattle.std.specs.List.{list_any}
use Rattle.html_tree.specs.declared.Attr.{Attr as OwnAttr}
use Rattle.html_pieces.proofs.SeenNames.{no_names}
use Rattle.html_pieces.specs.Names.{Tracks}
use Rattle.html_tokens.proofs.Fronts.{rest_is}
use Rattle.html_pieces.proofs.tags.inside_at.Goals as goal

at_part : (t : Kind) (w r : List ℕ) (x y : Part) → x ≡ part t w → w ≡ r → x ≡ y → part t r ≡ y
at_part t w r x y e f g = sym (e ∙ ap (part t) f) ∙ g

fits_at : (m : ℕ) (x y : Part) → x ≡ y → PartFits m x → PartFits m y
fits_at m x y e f = subst (λ p. PartFits m p) e f

fitted : (s w : List ℕ) (i n : ℕ) → w ≡ drop i s → i < length s → n ≤ length w → i + n ≤ length s
fitted s w i n e lt h = omega (arith, ap length e, length-drop i s)

-- before the first part
nothing_read : (t : Kind) (xs : List OwnAttr) (b : ℕ) (s : List ℕ) → xs ≡ [] → before (map attr_of xs) None (inside t (names_of xs) 0 (b + 0) s) ≡ inside t [] 0 b s
nothing_read t xs b s e =
    let z : b + 0 ≡ b = omega arith in
    ap (λ (ys : List OwnAttr). before (map attr_of ys) None (inside t (names_of ys) 0 (b + 0) s)) e ∙ loop_start (inside t [] 0 (b + 0) s) ∙ ap (λ k. inside t [] 0 k s) z

pub loop-i-init : goal.loop-i-init
loop-i-init c = record {
  rest = nothing_read (kind_of c.args.kind) c.new-attrs.result.items c.args.before c.args.s.now c.new-attrs.ensures.items;
  tracks = λ v. no_names c.new-attrs.result.items _ v.items c.new-attrs.ensures.items (ap (λ ks. list_any (λ k. pointwise nat_eq v.items k.items) ks) c.new-others.ensures.empty);
  within = omega arith;
}

pub returns-in-Close : goal.returns-in-Close
returns-in-Close c =
    let rest = rest_is c.loop-i.i c.args.s.now in
    let at = at_part (kind_of c.args.kind) _ _ _ _ c.in_ok-n.ensures.is rest (ap part_of c.in-Close.is) in
    loop_close (kind_of c.args.kind) (names_of c.loop-i.attrs.items) (map attr_of c.loop-i.attrs.items) (fault_of c.loop-i.fault) (c.args.before + c.loop-i.i) c.loop-i.i c.in-Close.n c.args.s.now _ c.loop-i-test.true at c.loop-i.invariant.rest

pub loop-i-preserved-in-Gap : goal.loop-i-preserved-in-Gap
loop-i-preserved-in-Gap c =
    let rest = rest_is c.loop-i.i c.args.s.now in
    let at = at_part (kind_of c.args.kind) _ _ _ _ c.in_ok-n.ensures.is rest (ap part_of c.in-Gap.is) in
    let e : c.args.before + (c.loop-i.i + 1) ≡ c.args.before + c.loop-i.i + 1 = omega arith in
    record {
      rest = ap (λ k. before (map attr_of c.loop-i.attrs.items) (fault_of c.loop-i.fault) (inside (kind_of c.args.kind) (names_of c.loop-i.attrs.items) 0 k (drop (c.loop-i.i + 1) c.args.s.now))) e
          ∙ loop_gap (kind_of c.args.kind) (names_of c.loop-i.attrs.items) (map attr_of c.loop-i.attrs.items) (fault_of c.loop-i.fault) (c.args.before + c.loop-i.i) c.loop-i.i c.args.s.now _ c.loop-i-test.true at c.loop-i.invariant.rest;
      tracks = c.loop-i.invariant.tracks;
      within = omega arith;
    }

pub loop-i-preserved-in-Attr : goal.loop-i-preserved-in-Attr
loop-i-preserved-in-Attr c =
    let rest = rest_is c.loop-i.i c.args.s.now in
    let at = at_part (kind_of c.args.kind) _ _ _ _ c.in_ok-n.ensures.is rest (ap part_of c.in-Attr.is) in
    let f = fits_at _ _ _ (ap part_of c.in-Attr.is) c.in_ok-n.ensures.fits in
    let le : c.in-Attr.n ≤ length (drop c.loop-i.i c.args.s.now) = omega (arith, f.1, ap length rest) in
    let e : c.args.before + (c.loop-i.i + c.in-Attr.n) ≡ c.args.before + c.loop-i.i + c.in-Attr.n = omega arith in
    record {
      rest = ap (λ k. before (map attr_of c.push.new.attrs.items) (fault_of c.or_later-fault.result) (inside (kind_of c.args.kind) (names_of c.push.new.attrs.items) 0 k (drop (c.loop-i.i + c.in-Attr.n) c.args.s.now))) e
          ∙ ap (λ (l : List Attr). before l (fault_of c.or_later-fault.result) (inside (kind_of c.args.kind) (names_of c.push.new.attrs.items) 0 (c.args.before + c.loop-i.i + c.in-Attr.n) (drop (c.loop-i.i + c.in-Attr.n) c.args.s.now))) c.in_ok-push-in-Attr.ensures.0
          ∙ ap (λ (l : List (List ℕ)). before (map attr_of c.loop-i.attrs.items ++ attr_of c.in-Attr.attr ∷ []) (fault_of c.or_later-fault.result) (inside (kind_of c.args.kind) l 0 (c.args.before + c.loop-i.i + c.in-Attr.n) (drop (c.loop-i.i + c.in-Attr.n) c.args.s.now))) c.in_ok-push-in-Attr.ensures.1
          ∙ ap (λ x. before (map attr_of c.loop-i.attrs.items ++ attr_of c.in-Attr.attr ∷ []) x (inside (kind_of c.args.kind) (names_of c.loop-i.attrs.items ++ c.in-Attr.attr.name ∷ []) 0 (c.args.before + c.loop-i.i + c.in-Attr.n) (drop (c.loop-i.i + c.in-Attr.n) c.args.s.now)))
          (c.or_later-fault.ensures ∙ ap (or_later (fault_of c.loop-i.fault)) (c.attr_fault.ensures (names_of c.loop-i.attrs.items) (attr_of c.in-Attr.attr) (c.in_ok-again-in-Attr.ensures.told ∙ ap (λ (l : List _). is_in (names_of l) c.in-Attr.attr.name) c.deref.ensures.value)))
          ∙ loop_attr (kind_of c.args.kind) (names_of c.loop-i.attrs.items) (map attr_of c.loop-i.attrs.items) (fault_of c.loop-i.fault) (c.args.before + c.loop-i.i) c.loop-i.i c.in-Attr.n c.args.s.now (attr_of c.in-Attr.attr) c.in-Attr.unknown _ c.loop-i-test.true at f.0 le c.loop-i.invariant.rest;
      tracks = subst (λ (ns : List (List ℕ)). Tracks c.is_again.new.others (drop 16 ns)) (ap (λ (l : List _). names_of l ++ c.in-Attr.attr.name ∷ []) c.deref.ensures.value ∙ sym c.in_ok-push-in-Attr.ensures.1) c.in_ok-again-in-Attr.ensures.tracks;
      within = fitted c.args.s.now _ c.loop-i.i c.in-Attr.n rest c.loop-i-test.true f.1;
    }

pub loop-i-preserved : goal.loop-i-preserved
loop-i-preserved c =
    let rest = rest_is c.loop-i.i c.args.s.now in
    let at = at_part (kind_of c.args.kind) _ _ _ _ c.in_ok-n.ensures.is rest (ap part_of c.in-Wrong.is) in
    let e : c.args.before + (c.loop-i.i + 1) ≡ c.args.before + c.loop-i.i + 1 = omega arith in
    record {
      rest = ap (λ k. before (map attr_of c.loop-i.attrs.items) (fault_of c.or_later-fault-in-Wrong.result) (inside (kind_of c.args.kind) (names_of c.loop-i.attrs.items) 0 k (drop (c.loop-i.i + 1) c.args.s.now))) e
          ∙ ap (λ x. before (map attr_of c.loop-i.attrs.items) x (inside (kind_of c.args.kind) (names_of c.loop-i.attrs.items) 0 (c.args.before + c.loop-i.i + 1) (drop (c.loop-i.i + 1) c.args.s.now)))
          (c.or_later-fault-in-Wrong.ensures ∙ ap (or_later (fault_of c.loop-i.fault)) c.wrong_at.ensures)
          ∙ loop_wrong (kind_of c.args.kind) (names_of c.loop-i.attrs.items) (map attr_of c.loop-i.attrs.items) (fault_of c.loop-i.fault) (c.args.before + c.loop-i.i) c.loop-i.i c.args.s.now _ c.loop-i-test.true at c.loop-i.invariant.rest;
      tracks = c.loop-i.invariant.tracks;
      within = omega arith;
    }

pub returns-in-Unclosed : goal.returns-in-Unclosed
returns-in-Unclosed c =
    let rest = rest_is c.loop-i.i c.args.s.now in
    let at = at_part (kind_of c.args.kind) _ _ _ _ c.in_ok-n.ensures.is rest (ap part_of c.in-Unclosed.is) in
    loop_unclosed (kind_of c.args.kind) (names_of c.loop-i.attrs.items) (map attr_of c.loop-i.attrs.items) (fault_of c.loop-i.fault) (c.args.before + c.loop-i.i) c.loop-i.i c.args.s.now _ c.loop-i-test.true at c.loop-i.invariant.rest

pub returns : goal.returns
returns c = loop_end (kind_of c.args.kind) (names_of c.loop-i.attrs.items) (map attr_of c.loop-i.attrs.items) (fault_of c.loop-i.fault) (c.args.before + c.loop-i.i) c.loop-i.i c.args.s.now _ (omega arith) c.loop-i.invariant.rest
