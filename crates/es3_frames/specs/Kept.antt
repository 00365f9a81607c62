-- The sums that are kept with each frame, as numbers of 32 bits.
use Rattle.std.specs.Prelude.{◌≡◌, List, [], ◌∷◌, Option, Some, None}
use Rattle.std.specs.Borrow.{Bor}
use Rattle.es3_grammar.specs.Sums as m
use Rattle.es3_grammar.specs.Sums.{IsCapped}
use Rattle.es3_grammar.specs.Frames.{Stack}
use Rattle.es3_frames.specs.FrameViews.{frame_of}
use Rattle.es3_frames.specs.declared.frames.Frame.{Frame}
use Rattle.es3_frames.specs.declared.sums.Rise.{Rise}
use Rattle.es3_frames.specs.declared.sums.Sums.{Sums}
use Rattle.es3_frames.specs.declared.stack.Entry.{Entry}

abbrev pub IsRise : m.Rise → Rise → Type 0
IsRise r x = IsCapped r x.floor x.layers

pub record IsSums (k : m.Sums) (s : Sums) : Type 0 where
  pub target_is : IsRise k.target s.target
  pub other_is : IsRise k.other s.other
  pub behind_is : IsRise k.behind s.behind
  pub part_opens_is : s.part_opens ≡ k.part_opens
  pub behind_opens_is : s.behind_opens ≡ k.behind_opens
  pub stepped_is : s.stepped ≡ k.stepped
  pub no_in_is : s.no_in ≡ k.no_in

-- entries from the outermost on, within what is open already
abbrev pub over : List Entry → Stack → Stack
over [] k = k
over (e ∷ es) k = over es (frame_of e.frame ∷ k)

-- with each frame the sums of what is open up to it
abbrev pub Kept : List Entry → Stack → Type 0
Kept [] k = Unit {0}
Kept (e ∷ es) k = IsSums (m.sums (frame_of e.frame ∷ k)) e.sums × Kept es (frame_of e.frame ∷ k)

-- the innermost frame, if anything is open
abbrev pub Innermost : Option (Bor Frame) → Stack → Type 0
Innermost None k = k ≡ []
Innermost (Some x) k = (outside : Stack) × (k ≡ frame_of x.now ∷ outside)
