-- That the sums are kept has one proof.
use Rattle.std.specs.Prelude.{◌≡◌, ℕ, Bool, List, [], ◌∷◌}
use Rattle.std.specs.Coded.{Coded-set, coded_ℕ, coded_bool, ×_prop, Unit-prop}
use Rattle.es3_grammar.specs.Sums as m
use Rattle.es3_grammar.specs.Sums.{capped, IsCapped}
use Rattle.es3_grammar.specs.Frames.{Stack}
use Rattle.es3_frames.specs.FrameViews.{frame_of}
use Rattle.es3_frames.specs.declared.sums.Sums.{Sums}
use Rattle.es3_frames.specs.declared.stack.Entry.{Entry}
use Rattle.es3_frames.specs.Kept.{IsSums, Kept}

number_prop : (a b : ℕ) → IsProp (a ≡ b)
number_prop = Coded-set coded_ℕ

truth_prop : (a b : Bool) → IsProp (a ≡ b)
truth_prop = Coded-set coded_bool

IsCapped-prop : (r : m.Rise) (f l : ℕ) → IsProp (IsCapped r f l)
IsCapped-prop r f l x y = λ i. record {
  floor_is = number_prop f (capped r.floor) x.floor_is y.floor_is i;
  layers_is = number_prop l (capped r.layers) x.layers_is y.layers_is i;
}

IsSums-prop : (k : m.Sums) (s : Sums) → IsProp (IsSums k s)
IsSums-prop k s x y = λ i. record {
  target_is = IsCapped-prop k.target s.target.floor s.target.layers x.target_is y.target_is i;
  other_is = IsCapped-prop k.other s.other.floor s.other.layers x.other_is y.other_is i;
  behind_is = IsCapped-prop k.behind s.behind.floor s.behind.layers x.behind_is y.behind_is i;
  part_opens_is = truth_prop s.part_opens k.part_opens x.part_opens_is y.part_opens_is i;
  behind_opens_is = truth_prop s.behind_opens k.behind_opens x.behind_opens_is y.behind_opens_is i;
  stepped_is = truth_prop s.stepped k.stepped x.stepped_is y.stepped_is i;
  no_in_is = truth_prop s.no_in k.no_in x.no_in_is y.no_in_is i;
}

pub Kept-prop : (es : List Entry) (k : Stack) → IsProp (Kept es k)
Kept-prop [] k = Unit-prop
Kept-prop (e ∷ es) k = ×_prop (IsSums-prop (m.sums (frame_of e.frame ∷ k)) e.sums) (Kept-prop es (frame_of e.frame ∷ k))
