-- What a thread has done with its pass of a queue.
--     HasGiven queue old item new      it has put the item, and nothing else
--     HasGot queue old item new      it has taken the item, and nothing else
use Rattle.std.specs.Prelude.{◌≡◌, ℕ}
use Rattle.fn_table.specs.Seen.{PassView}
use Rattle.tq_queue.specs.Seen.{QueueView, CallerView, IsOf, with_free, with_items}
use Rattle.tq_queue.specs.Claims.{MadePut, MadeTake}

module _ {T : Type 0} where
  -- the pass has put the item; before, it may have found no room, which changes its pass of `free` alone
  pub record HasGiven (queue : QueueView) (p : CallerView T) (item : T) (q : CallerView T) : Type 0 where
    pub together : IsOf queue q
    pub named : q.seat.number ≡ p.seat.number
    pub free : PassView
    pub ticket : ℕ
    pub put : MadePut (with_free p free) ticket item q

  -- the pass has taken the item; before, it may have found none, which changes its pass of `items` alone
  pub record HasGot (queue : QueueView) (p : CallerView T) (item : T) (q : CallerView T) : Type 0 where
    pub together : IsOf queue q
    pub named : q.seat.number ≡ p.seat.number
    pub items : PassView
    pub ticket : ℕ
    pub taken : MadeTake (with_items p items) ticket item q
