-- The batches of an aggregator that have gone up, against the published ones.
--     batches_from child arrivals      the batches of one aggregator among the arrivals
--     gone_up start s kind level index      the batches of the aggregator that have gone up, in order
--     in_order index batches      batches of the aggregator that stand with the newest first, in order and as they arrive
--     PublishedHaveGoneUp      what has gone up are the published batches, and at most one more
use Rattle.std.specs.Prelude.{◌≡◌, ◌⊎◌, ℕ, suc, List, [], ◌∷◌, ◌++◌, cond, ◌==◌}
use Rattle.fn_model.specs.declared.Kind.{Kind}
use Rattle.fn_model.specs.Arrivals.{Arrival, Own, Batch}
use Rattle.fn_model.specs.Order.{batches_of}
use Rattle.fn_rows.specs.Trace as trace
use Rattle.fn_core.specs.Tree.{parent, aggregator}
use Rattle.fn_core.specs.State.{Start, State}
use Rattle.fn_core.specs.Batches.{Gone}
use Rattle.fn_core.specs.Laws.{Always}

-- the batches of one aggregator among the arrivals
abbrev pub batches_from : ℕ → List Arrival → List Arrival
batches_from child [] = []
batches_from child (Own call ∷ rest) = batches_from child rest
batches_from child (Batch index lo hi ∷ rest) = cond (index == child) (Batch child lo hi ∷ batches_from child rest) (batches_from child rest)

-- the batches of the aggregator that have gone up, in order: at the top among the main steps, elsewhere among the arrivals one level above
abbrev pub gone_up : Start → State → Kind → ℕ → ℕ → List Arrival
gone_up start s kind level index = batches_from index (cond (level == start.shape.levels) (batches_of kind s.steps) (s.arrivals kind (suc level) (parent level index)))

-- batches that stand with the newest first, in order and as they arrive
abbrev pub in_order : ℕ → List trace.Batch → List Arrival
in_order index [] = []
in_order index (b ∷ older) = in_order index older ++ Batch index b.lo b.hi ∷ []

-- what has gone up are the published batches, and at most one more: that of a pass that leads, which begins at `done`
abbrev pub PublishedHaveGoneUp : Type 0
PublishedHaveGoneUp = Always (λ start s. (kind : Kind) (below index : ℕ) →
    let here = s.rows kind (suc below) index in
    let up = gone_up start s kind (suc below) index in
    (up ≡ in_order index here.published)
    ⊎ ((pass hi : ℕ) × (aggregator start.shape pass (suc below) ≡ index) × Gone start s pass kind (suc below) hi × (up ≡ in_order index here.published ++ Batch index here.done hi ∷ [])))
