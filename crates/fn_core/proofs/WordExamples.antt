-- The words of a funnel of one pass in the course of one addition.
use Rattle.std.proofs.Common.{◌≡◌, ℕ, List, [], ◌∷◌, refl, lit≤}
use Rattle.fn_model.specs.declared.Kind.TheVariants as kinds
use Rattle.fn_rows.specs.declared.Field.TheVariants as fields
use Rattle.fn_layout.specs.declared.shape.Shape.{Shape}
use Rattle.fn_layout.specs.Tree.{member, pass_of}
use Rattle.fn_core.specs.declared.Event.{Event}
use Rattle.fn_core.specs.declared.Start.{Start}
use Rattle.fn_core.specs.declared.Move.{Move}
use Rattle.fn_core.specs.declared.Move.TheVariants.{See, Announce, Arrive, Look, Close, Apply, Head, Fill, Point, Publish, Leave}
use Rattle.fn_core.specs.State.{opened}
use Rattle.fn_core.specs.Machine.{run}
use Rattle.fn_core.specs.Words.{words_of, list_of}

abbrev one : Shape
one = record {
  passes = 1;
  leaves = 1;
  levels = 1;
  rows = 1;
  passes_in_range = (lit≤ tt, lit≤ tt);
  leaves_in_range = (lit≤ tt, lit≤ tt, lit≤ tt);
  levels_in_range = (lit≤ tt, lit≤ tt);
  rows_in_range = (lit≤ tt, lit≤ tt);
}

abbrev ten : Start
ten = record { shape = one; opening = 10; cap = 9223372036854775807; allowances = 5 ∷ [] }

abbrev by : Move → Event
by step = record { pass = 0; step = step }

abbrev words_after : List Event → List ℕ
words_after log = words_of ten (run ten log (opened ten))

opening_words : words_after [] ≡ 10 ∷ 0 ∷ 0 ∷ 0 ∷ 0 ∷ 0 ∷ 0 ∷ 0 ∷ 0 ∷ 0 ∷ 0 ∷ 0 ∷ 0 ∷ 0 ∷ 0 ∷ []
unfolding list_of member pass_of
opening_words = refl

-- the pass has announced, and its amount has arrived
arrived_words : words_after (by (See kinds.Add 1) ∷ by (Announce kinds.Add 1) ∷ by (Arrive kinds.Add 1 5) ∷ []) ≡ 10 ∷ 5 ∷ 0 ∷ 0 ∷ 0 ∷ 0 ∷ 0 ∷ 1 ∷ 0 ∷ 0 ∷ 0 ∷ 0 ∷ 0 ∷ 0 ∷ 0 ∷ []
unfolding list_of member pass_of
arrived_words = refl

-- the batch is published in the pass's row, and the call has ended
published_words : words_after (by (See kinds.Add 1) ∷ by (Announce kinds.Add 1) ∷ by (Arrive kinds.Add 1 5) ∷ by (Look kinds.Add 1) ∷ by (Close kinds.Add 1) ∷ by (Apply 5) ∷ by (Head kinds.Add 1)
    ∷ by (Fill 0 fields.Lo) ∷ by (Fill 0 fields.Base) ∷ by (Fill 0 fields.Prev) ∷ by (Point kinds.Add 1 0) ∷ by (Publish kinds.Add 1) ∷ by (Leave kinds.Add 1) ∷ [])
    ≡ 15 ∷ 5 ∷ 1 ∷ 5 ∷ 0 ∷ 0 ∷ 0 ∷ 0 ∷ 0 ∷ 0 ∷ 10 ∷ 0 ∷ 0 ∷ 0 ∷ 0 ∷ []
unfolding list_of member pass_of
published_words = refl
