-- The words of the aggregators and the offsets of passes, against what has arrived.
--     brought start s pass kind below      what the pass brings one level above `below`
--     TotalsAreSums      the word of each aggregator is the sum of what has arrived there
--     PassesStandAtOffsets      a pass that waits for its reply stands among the arrivals, at its offset
--     OffsetsAreApart      no two arrivals of an aggregator have the same offset
use Rattle.std.specs.Prelude.{◌≡◌, ℕ, zero, suc, Some}
use Rattle.fn_model.specs.declared.Kind.{Kind}
use Rattle.fn_model.specs.Arrivals.{Arrival, Own, Batch, ArrivesAt, total}
use Rattle.fn_rows.specs.Machine.{offset}
use Rattle.fn_core.specs.Tree.{aggregator}
use Rattle.fn_core.specs.State.{Start, State, stage, lo_of, hi_of}
use Rattle.fn_core.specs.Laws.{Always}

-- what a pass brings to a level: its call, or the batch that it has closed one level below
abbrev pub brought : Start → State → ℕ → Kind → ℕ → Arrival
brought start s pass kind zero = Own (s.callers pass).last
brought start s pass kind (suc below) = Batch (aggregator start.shape pass (suc below)) (lo_of (stage start s kind (suc below) pass)) (hi_of (stage start s kind (suc below) pass))

-- the word of each aggregator is the sum of what has arrived there
abbrev pub TotalsAreSums : Type 0
TotalsAreSums = Always (λ start s. (kind : Kind) (level index : ℕ) → (s.rows kind level index).total ≡ total (s.arrivals kind level index))

-- a pass that has arrived and has no reply yet: what it has brought stands among the arrivals, at the pass's offset
abbrev pub PassesStandAtOffsets : Type 0
PassesStandAtOffsets = Always (λ start s. (pass : ℕ) (kind : Kind) (below at : ℕ) → offset (stage start s kind (suc below) pass) ≡ Some at
    → ArrivesAt (s.arrivals kind (suc below) (aggregator start.shape pass (suc below))) at (brought start s pass kind below))

-- two arrivals of an aggregator at one offset are one
abbrev pub OffsetsAreApart : Type 0
OffsetsAreApart = Always (λ start s. (kind : Kind) (below index at : ℕ) (one other : Arrival) (first : ArrivesAt (s.arrivals kind (suc below) index) at one) (second : ArrivesAt (s.arrivals kind (suc below) index) at other)
    → (first.earlier ≡ second.earlier) × (one ≡ other))
