-- The cells are a machine of the running rule, and their legal logs are logs that the table may run.
use Rattle.std.proofs.Common.{◌≡◌, ℕ, ◌<◌, ◌/◌, List, [], ◌∷◌, ◌++◌, map, slice_set, mod-lt, refl, sym, ap, ◌∙◌, subst, append_assoc, append-nil}
use Rattle.running.specs.Machine.{Machine, Laws, IsLegal, IsLegalFrom, own_of, state_of}
use Rattle.running.specs.Running.{upto}
use Rattle.running.proofs.Logs.{state-append, legal_begins, guard_at}
use Rattle.running.proofs.Numbers.{set_word, word_at}
use Rattle.tq_cells.specs.declared.entry.Start.{Start}
use Rattle.tq_cells.specs.declared.entry.Entry.{Entry}
use Rattle.tq_cells.specs.declared.entry.Entry.TheVariants.{Hold, Put, Take, Free, Miss}
use Rattle.tq_cells.specs.declared.entry.Event.{Event}
use Rattle.tq_cells.specs.Machine.{State, first, after, cell, turned, put, cells, exact}
use Rattle.tq_cells.specs.Laws.{ExactLogsAreLegal}
use Rattle.tq_cells.proofs.Puts.{put_there, put_else}

-- what holds of the empty log, and goes on with each allowed event, holds of every legal log
module _ {B E S O : Type 0} (m : Machine B E S O) (start : B) (P : List E → Type 0)
    (step : (log : List E) (event : E) → IsLegal m start log → m.Guard start (own_of m start log (m.by event)) event → P log → P (log ++ event ∷ [])) where
  from : (xs ys : List E) → P xs → IsLegal m start (xs ++ ys) → P (xs ++ ys)
  from xs [] holds legal = subst P (sym (append-nil xs)) holds
  from xs (y ∷ ys) holds legal =
      let order : (xs ++ y ∷ []) ++ ys ≡ xs ++ y ∷ ys = append_assoc xs (y ∷ []) ys in
      subst P order (from (xs ++ y ∷ []) ys (step xs y (legal_begins m start xs (y ∷ ys) legal) (guard_at m start xs y ys legal) holds) (subst (IsLegal m start) (sym order) legal))

  pub logs_keep : P [] → (log : List E) → IsLegal m start log → P log
  logs_keep holds log legal = from [] log holds legal

module _ {T : Type 0} where
  -- an entry's cell is one of the cells
  pub cell_below : (start : Start) (entry : Entry T) → 0 < start.capacity → cell start entry < start.capacity
  cell_below start (Hold t) some = mod-lt t some
  cell_below start (Put t x) some = mod-lt t some
  cell_below start (Take t) some = mod-lt t some
  cell_below start (Free t) some = mod-lt t some
  cell_below start (Miss expected found) some = mod-lt (expected / 4) some

  -- the words after an entry
  words_after : (start : Start) (s : State T) (event : Event T) → 0 < start.capacity
      → map (after start s event).turns (upto start.capacity) ≡ slice_set (map s.turns (upto start.capacity)) (cell start event.entry) (turned start event.entry (s.turns (cell start event.entry)))
  words_after start s event some =
      let c = cell start event.entry in
      let n = turned start event.entry (s.turns c) in
      set_word start.capacity c s.turns (put s.turns c n) (cell_below start event.entry some) (λ i apart. put_else s.turns c n i apart)
      ∙ ap (slice_set (map s.turns (upto start.capacity)) c) (put_there s.turns c n c refl)

  pub laws : Laws (cells T)
  laws = record {
    others = λ start log event pass legal guard apart. put_else (state_of (cells T) start log).holds event.seat _ pass apart;
    one_word = λ start log event legal guard.
        (let s = state_of (cells T) start log in
        let c = cell start event.entry in
        ap (λ (x : State T). map x.turns (upto start.capacity)) (state-append (cells T) start log (event ∷ []))
        ∙ words_after start s event guard.0
        ∙ ap (λ (n : ℕ). slice_set (map s.turns (upto start.capacity)) c (turned start event.entry n)) (sym (word_at start.capacity c s.turns (cell_below start event.entry guard.0))));
  }

  legal_from : (start : Start) (s : State T) (log : List (Event T)) → IsLegalFrom (exact T) start s log → IsLegalFrom (cells T) start s log
  legal_from start s [] legal = tt
  legal_from start s (event ∷ log) legal = (legal.0.0, legal_from start (after start s event) log legal.1)

  pub exact_logs_are_legal : ExactLogsAreLegal T
  exact_logs_are_legal start log legal = legal_from start first log legal
