-- Where a pass stands at its aggregators, by numbers.
--     spot_of shape pass kind level      at the one of a kind and level
--     spots_of shape pass      at all of them
use Rattle.std.specs.Prelude.{ℕ, List, [], ◌∷◌, min}
use Rattle.fn_model.specs.declared.Kind.{Kind}
use Rattle.fn_model.specs.declared.Kind.TheVariants.{Add, Sub}
use Rattle.fn_rows.specs.declared.Field.TheVariants.{Lo}
use Rattle.fn_layout.specs.declared.shape.Shape.{Shape}
use Rattle.fn_layout.specs.Tree.{aggregator, members}
use Rattle.fn_layout.specs.Words.{Value, Last, Done, Announcement, number, row_number, row_word_number}
use Rattle.fn_table.specs.declared.spots.Spot.{Spot}
use Rattle.fn_table.specs.declared.spots.Spots.{Spots}

-- at the one of this kind and level
abbrev pub spot_of : Shape → ℕ → Kind → ℕ → Spot
spot_of shape pass kind level =
    let index = aggregator shape pass level in
    record {
      value = number shape (Value kind level index);
      last = number shape (Last kind level index);
      done = number shape (Done kind level index);
      announcement = number shape (Announcement pass kind level);
      first_announcement = number shape (Announcement 0 kind level);
      index = index;
      members = members shape level index;
      row = row_number shape pass kind level 0;
      end = row_number shape 0 kind level 0;
    }

-- at the three levels that a funnel may have; above its top they are the top's once more
abbrev pub level_spots : Shape → ℕ → Kind → List Spot
level_spots shape pass kind = spot_of shape pass kind 1 ∷ spot_of shape pass kind (min shape.levels 2) ∷ spot_of shape pass kind shape.levels ∷ []

-- at all of them
abbrev pub spots_of : Shape → ℕ → Spots
spots_of shape pass = record { adding = level_spots shape pass Add; subtracting = level_spots shape pass Sub; rows = row_word_number shape 0 Lo }
