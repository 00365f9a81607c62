-- What is read at a place has no more characters than there are.
use Rattle.std.specs.Prelude.{ℕ, ◌+◌, ◌<◌, ◌≤◌, Option, Some, None}
use Rattle.html_grammar.specs.References.{Reference, stands_for, unknown, absent}
use Rattle.html_grammar.specs.Runs.{Run, units, unknown_at}
use Rattle.html_grammar.specs.Tags.{Fault, Part, close, gap, attr, wrong, unclosed, Inside, closed, endless}
use Rattle.html_grammar.specs.Point.{Step, text, skip, start, end, refuse}

abbrev pub ReferenceFits : ℕ → Reference → Type 0
ReferenceFits m (stands_for c n) = n ≤ m
ReferenceFits m unknown = Unit {0}
ReferenceFits m absent = Unit {0}

abbrev pub RunFits : ℕ → Run → Type 0
RunFits m (units us n) = n ≤ m
RunFits m (unknown_at k n) = (k ≤ n) × (n ≤ m)

abbrev pub PlaceFits : ℕ → Option ℕ → Type 0
PlaceFits m None = Unit {0}
PlaceFits m (Some k) = k ≤ m

abbrev pub PartFits : ℕ → Part → Type 0
PartFits m (close n) = (0 < n) × (n ≤ m)
PartFits m gap = 0 < m
PartFits m (attr x u n) = (0 < n) × (n ≤ m) × PlaceFits n u
PartFits m wrong = 0 < m
PartFits m unclosed = Unit {0}

abbrev pub FaultFits : ℕ → Option Fault → Type 0
FaultFits m None = Unit {0}
FaultFits m (Some f) = f.1 ≤ m

-- from the ith character of a tag on, of which there are m
abbrev pub InsideFits : ℕ → ℕ → Inside → Type 0
InsideFits i m (closed xs f n) = (i < n) × (n ≤ i + m) × FaultFits (i + m) f
InsideFits i m endless = Unit {0}

-- a piece has some characters, and no more than there are
abbrev pub StepFits : ℕ → Step → Type 0
StepFits m (text us n) = (0 < n) × (n ≤ m)
StepFits m (skip n) = (0 < n) × (n ≤ m)
StepFits m (start n xs f k) = (0 < k) × (k ≤ m) × FaultFits m f
StepFits m (end n f k) = (0 < k) × (k ≤ m) × FaultFits m f
StepFits m (refuse r k) = k ≤ m
