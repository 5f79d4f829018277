-- One seat gathers passes.
use Rattle.std.proofs.Common.{◌≡◌, ℕ, ◌<◌, List, [], ◌∷◌, ◌++◌, length, map, refl, sym, ap, ◌∙◌, subst, arith}
use Rattle.atomic_table.specs.Table.{Me, Enters}
use Rattle.atomic_table.specs.Seated.{TableId}
use Rattle.atomic_table.specs.declared.shared.Seat.{Seat}
use Rattle.running.specs.Running.{part, log_of, knows, joined, Running}
use Rattle.running.proofs.Keeps.{enters}
use Rattle.fn_core.specs.declared.Start.{Start}
use Rattle.fn_table.specs.Funnel.{funnel}
use Rattle.fn_table.specs.Seen.{PassView}
use Rattle.fn_table.specs.Seats.{Known, shown, HasOne, IsGathering, part_of}
use Rattle.fn_table.proofs.Opens.{map-last}

-- a new seat that sees the whole log
pub sits : (key : Start) (slots word : ℕ) → Enters {S = Unit {0}} (Running funnel key) slots word (λ n w. w ≡ knows key [] (log_of w.parts))
sits key slots word = enters funnel key slots word (λ n w. w ≡ knows key [] (log_of w.parts)) (λ n log. refl)

-- it has a part
pub gathering_has : (z : TableId) (b : Start) (ps : List PassView) (s : Seat (Unit {0}) Known) → IsGathering z b ps s → 0 < length s.me.0.parts
gathering_has z b ps s g = subst (λ qs. 0 < length qs) (sym g.parts) (omega arith)

-- and with one pass more
pub gathers : (z z' : TableId) (b : Start) (ps : List PassView) (s s' : Seat (Unit {0}) Known) (p : PassView) (n : ℕ) (v : Known) → IsGathering z b ps s → shown z' n v ≡ p → HasOne n v
    → s'.table_id ≡ s.table_id → s'.me ≡ (joined s.me.0 v, s.me.1) → IsGathering z b (ps ++ p ∷ []) s'
gathers z z' b ps s s' p n v g is one same met =
    let parts : s'.me.0.parts ≡ (part [] (log_of s.me.0.parts) ∷ map part_of ps) ++ part_of p ∷ [] =
    ap (λ (m : Me (Unit {0}) Known). m.0.parts) met ∙ (λ i. g.parts i ++ (one.parts ∙ ap (λ q. part_of q ∷ []) is) i) in
    let log : log_of s'.me.0.parts ≡ log_of s.me.0.parts = ap log_of parts in
    record {
      table = same ∙ g.table;
      opened = ap (λ (m : Me (Unit {0}) Known). m.0.start) met ∙ g.opened;
      parts = parts ∙ (λ i. part [] (sym log i) ∷ sym (map-last part_of ps p) i);
      empty = ap (λ (m : Me (Unit {0}) Known). m.1) met ∙ g.empty;
    }
