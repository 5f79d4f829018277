-- What holds of four of a kind holds of each.
use Rattle.std.proofs.Common.{◌≡◌}
use Rattle.tq_queue.specs.declared.fours.Four.{Four}
use Rattle.tq_queue.specs.Fours.{Which, Tail, Head, Free, Items, pick, AllFour}

pub each_of : (P : Which → Type 0) → AllFour P → (w : Which) → P w
each_of P all Tail = all.0
each_of P all Head = all.1
each_of P all Free = all.2
each_of P all Items = all.3

pub all_of : (P : Which → Type 0) → ((w : Which) → P w) → AllFour P
all_of P each = (each Tail, each Head, each Free, each Items)

-- four are the same where each is
pub same_four : {X : Type 0} (f g : Four X) → AllFour (λ w. pick w f ≡ pick w g) → f ≡ g
same_four f g same = λ j. record { tail = same.0 j; head = same.1 j; free = same.2 j; items = same.3 j }
