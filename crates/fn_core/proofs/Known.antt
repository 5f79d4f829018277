-- What is known of a pass's call at an aggregator, and that it stays known when further arrivals and calls come.
use Rattle.std.proofs.Common.{◌≡◌, ℕ, zero, suc, ◌≤◌, List, [], ◌∷◌, ◌++◌, refl, sym, subst, arith}
use Rattle.std.proofs.lemmas.List.{append-nil}
use Rattle.fn_model.specs.declared.Call.{Call}
use Rattle.fn_model.specs.declared.Kind.{Kind}
use Rattle.fn_model.specs.Arrivals.{Arrival, Own, Batch, Table, total, calls_of, expand, IsBoundary, ArrivesAt, IsSound, IsWellFormed, Grows}
use Rattle.fn_model.specs.Histories.{StandsIn}
use Rattle.fn_model.specs.Integer.{after}
use Rattle.fn_model.proofs.Expansion.{boundary_within}
use Rattle.fn_model.proofs.Histories.{stands_grown, stands_later}
use Rattle.fn_model.proofs.Orderly.{arrives_grows, boundary_in_grown, sound_grows}
use Rattle.fn_rows.specs.declared.Stage.{Stage}
use Rattle.fn_rows.specs.declared.Stage.TheVariants.{Out, Saw, Told, Waiting, Lead, Late, Shut, Based, Headed, FilledLo, FilledBase, Filled, Pointed, At, Over, Hit, Got}
use Rattle.fn_rows.specs.Trace as trace

-- what a pass brings to a level: its call, or the batch that it closed one level below
abbrev pub Brings : Call → ℕ → ℕ → Stage → Arrival → Type 0
Brings last child zero lower arrival = arrival ≡ Own last
Brings last child (suc below) lower arrival = (lo hi : ℕ) × (lower ≡ Shut lo hi) × (arrival ≡ Batch child lo hi)

-- the batch stands in the history, and meets the base
abbrev pub Meets : ℕ → ℕ → Table → List Call → ℕ → ℕ → ℕ → ℕ → ℕ → Type 0
Meets cap opening table past level index lo hi base = StandsIn cap opening past (expand table level index lo hi) base

-- what the pass brings stands among the arrivals at its offset
abbrev pub Rides : List Arrival → (Arrival → Type 0) → ℕ → Type 0
Rides arrivals Brought at = (arrival : Arrival) × Brought arrival × ArrivesAt arrivals at arrival

-- .. and the end of its batch is a boundary
abbrev pub Ends : List Arrival → (Arrival → Type 0) → ℕ → ℕ → Type 0
Ends arrivals Brought at hi = Rides arrivals Brought at × IsBoundary arrivals hi

-- what the pass brings stands in the history, and meets what it has got
abbrev pub Replied : ℕ → ℕ → Kind → Table → List Call → ℕ → (Arrival → Type 0) → ℕ → Type 0
Replied cap opening kind table past below Brought b = (arrival : Arrival) × Brought arrival × IsSound kind table below arrival × StandsIn cap opening past (calls_of (expand table below) arrival) b

-- what is known of a pass at an aggregator one level above `below`
abbrev pub Knows : ℕ → ℕ → Kind → Table → List Call → ℕ → ℕ → (Arrival → Type 0) → Stage → Type 0
Knows cap opening kind table past below index Brought Out = Unit {0}
Knows cap opening kind table past below index Brought (Saw seen) = Unit {0}
Knows cap opening kind table past below index Brought (Told seen) = Unit {0}
Knows cap opening kind table past below index Brought (Waiting at) = Rides (table (suc below) index) Brought at
Knows cap opening kind table past below index Brought (Lead at) = Rides (table (suc below) index) Brought at
Knows cap opening kind table past below index Brought (Late at) = Rides (table (suc below) index) Brought at
Knows cap opening kind table past below index Brought (Shut at hi) = Ends (table (suc below) index) Brought at hi
Knows cap opening kind table past below index Brought (Based at hi b) = Ends (table (suc below) index) Brought at hi × Meets cap opening table past (suc below) index at hi b
Knows cap opening kind table past below index Brought (Headed at hi b h) = Ends (table (suc below) index) Brought at hi × Meets cap opening table past (suc below) index at hi b
Knows cap opening kind table past below index Brought (FilledLo at hi b h r) = Ends (table (suc below) index) Brought at hi × Meets cap opening table past (suc below) index at hi b
Knows cap opening kind table past below index Brought (FilledBase at hi b h r) = Ends (table (suc below) index) Brought at hi × Meets cap opening table past (suc below) index at hi b
Knows cap opening kind table past below index Brought (Filled at hi b r) = Ends (table (suc below) index) Brought at hi × Meets cap opening table past (suc below) index at hi b
Knows cap opening kind table past below index Brought (Pointed at hi b r) = Ends (table (suc below) index) Brought at hi × Meets cap opening table past (suc below) index at hi b
Knows cap opening kind table past below index Brought (At at r) = Rides (table (suc below) index) Brought at
Knows cap opening kind table past below index Brought (Over at r) = Rides (table (suc below) index) Brought at
Knows cap opening kind table past below index Brought (Hit at r lo) = Rides (table (suc below) index) Brought at
Knows cap opening kind table past below index Brought (Got b ahead) = Replied cap opening kind table past below Brought (after cap b kind ahead)

-- a batch that stands in a row stands in the history
abbrev pub IsKnownBatch : ℕ → ℕ → Table → List Call → ℕ → ℕ → trace.Batch → Type 0
IsKnownBatch cap opening table past level index b = IsBoundary (table level index) b.lo × (b.hi ≤ total (table level index)) × Meets cap opening table past level index b.lo b.hi b.base

module _ (cap opening : ℕ) (kind : Kind) (old new : Table) (past more : List Call) (formed : IsWellFormed kind old) (grows : Grows old new) where
  pub total_grows : (level index : ℕ) → total (old level index) ≤ total (new level index)
  total_grows level index = boundary_within (new level index) (total (old level index)) (boundary_in_grown old new level index (total (old level index)) grows (record { first = old level index; rest = []; parts = sym (append-nil (old level index)); at = refl }))

  arrival_grows : (below : ℕ) (arrival : Arrival) (b : ℕ) → IsSound kind old below arrival → StandsIn cap opening past (calls_of (expand old below) arrival) b → StandsIn cap opening (past ++ more) (calls_of (expand new below) arrival) b
  arrival_grows below (Own call) b sound stands = stands_later cap opening past (call ∷ []) b more stands
  arrival_grows below (Batch child lo hi) b sound stands = stands_grown cap opening past more kind old new below child lo hi b formed grows (boundary_within (old below child) hi sound.3) stands

  pub batch_grows : (level index : ℕ) (b : trace.Batch) → IsKnownBatch cap opening old past level index b → IsKnownBatch cap opening new (past ++ more) level index b
  batch_grows level index b known = (boundary_in_grown old new level index b.lo grows known.0, omega (arith, known.1, total_grows level index), stands_grown cap opening past more kind old new level index b.lo b.hi b.base formed grows known.1 known.2)

  module _ (below index : ℕ) (Brought Carried : Arrival → Type 0) (still : (a : Arrival) → Brought a → Carried a) where
    rides : (at : ℕ) → Rides (old (suc below) index) Brought at → Rides (new (suc below) index) Carried at
    rides at h = (h.0, still h.0 h.1, subst (λ (zs : List Arrival). ArrivesAt zs at h.0) (sym (grows.behind (suc below) index)) (arrives_grows (old (suc below) index) (grows.further (suc below) index) at h.0 h.2))

    ends : (at hi : ℕ) → Ends (old (suc below) index) Brought at hi → Ends (new (suc below) index) Carried at hi
    ends at hi h = (rides at h.0, boundary_in_grown old new (suc below) index hi grows h.1)

    based : (at hi b : ℕ) → Ends (old (suc below) index) Brought at hi × Meets cap opening old past (suc below) index at hi b → Ends (new (suc below) index) Carried at hi × Meets cap opening new (past ++ more) (suc below) index at hi b
    based at hi b h = (ends at hi h.0, stands_grown cap opening past more kind old new (suc below) index at hi b formed grows (boundary_within (old (suc below) index) hi h.0.1) h.1)

    -- what is known stays known
    pub knows_grows : (g : Stage) → Knows cap opening kind old past below index Brought g → Knows cap opening kind new (past ++ more) below index Carried g
    knows_grows Out h = tt
    knows_grows (Saw seen) h = tt
    knows_grows (Told seen) h = tt
    knows_grows (Waiting at) h = rides at h
    knows_grows (Lead at) h = rides at h
    knows_grows (Late at) h = rides at h
    knows_grows (Shut at hi) h = ends at hi h
    knows_grows (Based at hi b) h = based at hi b h
    knows_grows (Headed at hi b w) h = based at hi b h
    knows_grows (FilledLo at hi b w r) h = based at hi b h
    knows_grows (FilledBase at hi b w r) h = based at hi b h
    knows_grows (Filled at hi b r) h = based at hi b h
    knows_grows (Pointed at hi b r) h = based at hi b h
    knows_grows (At at r) h = rides at h
    knows_grows (Over at r) h = rides at h
    knows_grows (Hit at r lo) h = rides at h
    knows_grows (Got b ahead) h = (h.0, still h.0 h.1, sound_grows kind old new grows below h.0 h.2, arrival_grows below h.0 (after cap b kind ahead) h.2 h.3)
