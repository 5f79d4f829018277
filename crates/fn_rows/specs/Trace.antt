-- What a run leaves besides its state: the batches that it made, and the walks of late members. No step reads it.
use Rattle.std.specs.Prelude.{ℕ, ◌-◌, List, [], ◌∷◌}
use Rattle.fn_rows.specs.Machine.{Stage, Late, Filled, Pointed, Over, State, Step, Head, Point, Publish, Peek, put, start, after}

-- the arrivals from lo up to hi, the base that they got, their row, and the word that names the row of the batch before
pub record Batch : Type 0 where
  pub lo : ℕ
  pub hi : ℕ
  pub base : ℕ
  pub row : ℕ
  pub prev : ℕ

pub record Books : Type 0 where
  -- the batches that `last` has named, the newest first
  pub linked : List Batch
  -- the batches that `done` has passed, the newest first
  pub published : List Batch
  -- the rows that a late member has had in hand, the newest first
  pub walk : ℕ → List ℕ

-- a state, and what its run left
pub record Traced : Type 0 where
  pub state : State
  pub open state use *
  pub books : Books
  pub open books use *

-- nothing has happened
abbrev pub nothing : Traced
nothing = record { state = start; books = record { linked = []; published = []; walk = λ m. [] } }

-- the batch of a member that leads
abbrev pub batch : State → ℕ → ℕ → ℕ → ℕ → Batch
batch s at hi b r = record { lo = at; hi = hi; base = b; row = r; prev = s.prev r }

abbrev pub head_noted : State → Books → ℕ → Stage → Books
head_noted s books m (Late at) = record books { walk = put books.walk m ((s.last - 1) ∷ []) }
head_noted s books m _ = books

abbrev pub point_noted : State → Books → Stage → Books
point_noted s books (Filled at hi b r) = record books { linked = batch s at hi b r ∷ books.linked }
point_noted s books _ = books

abbrev pub publish_noted : State → Books → Stage → Books
publish_noted s books (Pointed at hi b r) = record books { published = batch s at hi b r ∷ books.published }
publish_noted s books _ = books

abbrev pub peek_noted : State → Books → ℕ → Stage → Books
peek_noted s books m (Over at r) = record books { walk = put books.walk m ((s.prev r - 1) ∷ books.walk m) }
peek_noted s books m _ = books

-- what a step adds
abbrev pub noted : State → Books → Step → Books
noted s books (Head m) = head_noted s books m (s.stage m)
noted s books (Point m) = point_noted s books (s.stage m)
noted s books (Publish m) = publish_noted s books (s.stage m)
noted s books (Peek m) = peek_noted s books m (s.stage m)
noted s books _ = books

-- after a step
abbrev pub traced : Traced → Step → Traced
traced t step = record { state = after t.state step; books = noted t.state t.books step }

-- after some steps
abbrev pub run : List Step → Traced → Traced
run [] t = t
run (step ∷ steps) t = run steps (traced t step)
