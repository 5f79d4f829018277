-- What a put and a take tell.
--     Calls pass kind reply after      the pass made one call of 1 on a funnel, which met the reply
--     HasMissed seat expected founds after      a seat's exchanges found other words, so often
--     HasPut pass ticket item after, HasTaken pass ticket item after      the pass put an item, and took one
--     FoundFull pass after, FoundEmpty pass after      the pass found no room, and no item
use Rattle.std.specs.Prelude.{◌≡◌, ℕ, ◌+◌, ◌*◌, ◌<◌, List, [], ◌∷◌}
use Rattle.fn_model.specs.declared.Kind.{Kind}
use Rattle.fn_model.specs.declared.Kind.TheVariants.{Add, Sub}
use Rattle.fn_table.specs.Seen.{PassView}
use Rattle.fn_funnel.specs.declared.waiting.Added.{Added}
use Rattle.fn_funnel.specs.Waiting.{Waited}
use Rattle.tq_cells.specs.declared.entry.Entry.TheVariants.{Hold, Put}
use Rattle.tq_cells.specs.Seen.{SeatView, Missed, EnteredBoth, Removed}
use Rattle.tq_queue.specs.Seen.{CallerView, with_free, with_items}

-- the pass made exactly one call of this kind more, with amount 1, which met the reply
abbrev pub Calls : PassView → Kind → ℕ → PassView → Type 0
Calls p kind reply q = (added : Added) × Waited p kind 1 added q × (added.before ≡ reply)

module _ {T : Type 0} where
  -- the seat's exchanges found these words in place of the expected one, the last of them first; this is all that the seat did
  abbrev pub HasMissed : SeatView T → ℕ → List ℕ → SeatView T → Type 0
  HasMissed p expected [] q = q ≡ p
  HasMissed p expected (found ∷ earlier) q = (r : SeatView T) × HasMissed p expected earlier r × Missed r expected found q

  -- the seat put the item under the ticket, once its turn had come
  pub record Placed (p : SeatView T) (ticket : ℕ) (item : T) (q : SeatView T) : Type 0 where
    pub founds : List ℕ
    pub until : SeatView T
    pub missed : HasMissed p (4 * ticket) founds until
    pub put : EnteredBoth until (Hold ticket) (Put ticket item) q

  -- the seat took the item of the ticket, once its turn had come
  pub record Taken (p : SeatView T) (ticket : ℕ) (item : T) (q : SeatView T) : Type 0 where
    pub founds : List ℕ
    pub until : SeatView T
    pub missed : HasMissed p (4 * ticket + 2) founds until
    pub removed : Removed until ticket item q

  -- The pass put the item under the ticket. Its three calls: there was room, the ticket came, and one more item is there
  pub record HasPut (p : CallerView T) (ticket : ℕ) (item : T) (q : CallerView T) : Type 0 where
    pub room : ℕ
    pub some : 0 < room
    pub free : Calls p.passes.free Sub room q.passes.free
    pub tail : Calls p.passes.tail Add ticket q.passes.tail
    pub before : ℕ
    pub items : Calls p.passes.items Add before q.passes.items
    pub head : q.passes.head ≡ p.passes.head
    pub seat : Placed p.seat ticket item q.seat

  -- The pass took the item of the ticket. Its three calls: there was an item, the ticket came, and there is more room
  pub record HasTaken (p : CallerView T) (ticket : ℕ) (item : T) (q : CallerView T) : Type 0 where
    pub there : ℕ
    pub some : 0 < there
    pub items : Calls p.passes.items Sub there q.passes.items
    pub head : Calls p.passes.head Add ticket q.passes.head
    pub before : ℕ
    pub free : Calls p.passes.free Add before q.passes.free
    pub tail : q.passes.tail ≡ p.passes.tail
    pub seat : Taken p.seat ticket item q.seat

  -- the pass made one call, by which there was no room
  pub record FoundFull (p q : CallerView T) : Type 0 where
    pub free : Calls p.passes.free Sub 0 q.passes.free
    pub rest : q ≡ with_free p q.passes.free

  -- the pass made one call, by which there was no item
  pub record FoundEmpty (p q : CallerView T) : Type 0 where
    pub items : Calls p.passes.items Sub 0 q.passes.items
    pub rest : q ≡ with_items p q.passes.items
