-- Room for the passes and the seats of a bucket.
use Rattle.std.specs.Prelude.{◌≡◌, []}
use Rattle.std.specs.Vec.{vec_capacity}
use Rattle.std.specs.declared.vec.Vec.{Vec}

-- nothing is in the list yet, which has room for as many as a bucket may have
abbrev pub HasRoom : {X A : Type 0} → Vec X A → Type 0
HasRoom list = (list.items ≡ []) × (vec_capacity list ≡ 64)
