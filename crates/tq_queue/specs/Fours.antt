-- Four of a kind, one for each integer of a queue.
--     Which, pick which four      an integer, and what stands for it
--     AllFour facts      each of four facts
--     map_four f four      what is made of each
use Rattle.tq_queue.specs.declared.fours.Four.{Four}

-- the four integers of a queue
pub data Which : Type 0 where
  Tail : Which
  Head : Which
  Free : Which
  Items : Which

-- what stands for one of them
abbrev pub pick : {X : Type 0} → Which → Four X → X
pick Tail four = four.tail
pick Head four = four.head
pick Free four = four.free
pick Items four = four.items

-- the facts of all four, in order
abbrev pub AllFour : (Which → Type 0) → Type 0
AllFour P = P Tail × P Head × P Free × P Items

-- what is made of each
abbrev pub map_four : {X Y : Type 0} → (X → Y) → Four X → Four Y
map_four f four = record { tail = f four.tail; head = f four.head; free = f four.free; items = f four.items }
