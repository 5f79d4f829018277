-- What a call by a step or two of its own tells, in the words of the integer and its history.
use Rattle.std.proofs.Common.{◌≡◌, ℕ, List, [], ◌∷◌, ◌++◌, sym, ◌∙◌, ap, subst}
use mathlib.Core.List.{IsPrefix}
use Rattle.running.proofs.Logs.{prefix_more}
use Rattle.fn_model.specs.declared.Kind.{Kind}
use Rattle.fn_core.specs.declared.Event.{Event}
use Rattle.fn_core.specs.declared.Move.{Move}
use Rattle.fn_core.specs.declared.Move.TheVariants.{Load, Exchange, Glance}
use Rattle.fn_core.specs.declared.Purpose.TheVariants as purpose
use Rattle.fn_core.specs.Calls.{calls_in}
use Rattle.fn_core.proofs.Public.{histories_go_on}
use Rattle.fn_table.specs.Seen.{PassView, NoteView, Stepped, Met, event}
use Rattle.fn_table.specs.Later.{IsLater}
use Rattle.fn_table.specs.Called.{HasCalled, HasMadeNone}
use Rattle.fn_table.specs.Claims.{Rests, Made, MadeNone, past}
use Rattle.fn_table.proofs.Later.{later_by, later_on}
use Rattle.fn_table.proofs.Claims.{made_since, made_none}
use Rattle.fn_direct.specs.Tries.{Tried}

-- two steps
pub later_tried : (p : PassView) (kind : Kind) (amount loaded found : ℕ) (q : PassView) → Tried p kind amount loaded found q → IsLater p q
later_tried p kind amount loaded found q t = later_on p t.between q (later_by p (Load purpose.Try) loaded t.between t.load) (later_by t.between (Exchange kind amount) found q t.exchange)

-- a call by one step
pub made_at_once : (p : PassView) (step : Move) (n : ℕ) (q : PassView) (kind : Kind) (amount : ℕ) → Rests p → Stepped p step n q → HasCalled p kind amount n q → Made p kind amount n q
made_at_once p step n q kind amount rests stepped called = made_since p kind amount n q rests (later_by p step n q stepped) called

-- .. and by two, of which the exchange won
pub made_by_two : (p : PassView) (kind : Kind) (amount reply : ℕ) (q : PassView) → Rests p → Tried p kind amount reply reply q → HasCalled p kind amount reply q → Made p kind amount reply q
made_by_two p kind amount reply q rests tried called = made_since p kind amount reply q rests (later_tried p kind amount reply reply q tried) called

-- a step that makes no call
pub none_at_once : (p : PassView) (step : Move) (n : ℕ) (q : PassView) → Stepped p step n q → HasMadeNone p q → MadeNone p q
none_at_once p step n q stepped none = made_none p q (later_by p step n q stepped) none

-- .. and two, of which the exchange lost
pub none_by_two : (p : PassView) (kind : Kind) (amount loaded found : ℕ) (q : PassView) → Tried p kind amount loaded found q → HasMadeNone p q → MadeNone p q
none_by_two p kind amount loaded found q tried none = made_none p q (later_tried p kind amount loaded found q tried) none

-- a pass that has met a note has seen what the note has
pub knows_note : (p : PassView) (n : NoteView) (q : PassView) → n.seen.start ≡ p.seen.start → Met p n q → IsPrefix (calls_in n.seen) (past q)
knows_note p n q same met =
    let stepped = met.stepped.1 in
    let glance : Event = event p.number Glance in
    let now : q.seen.log ≡ stepped.before ++ glance ∷ [] = ap (λ (v : PassView). v.seen.log) stepped.now in
    let begins : IsPrefix n.seen.log q.seen.log = subst (λ (log : List Event). IsPrefix n.seen.log log) (sym now) (prefix_more n.seen.log stepped.before (glance ∷ []) met.note) in
    let start : q.seen.start ≡ n.seen.start = ap (λ (v : PassView). v.seen.start) stepped.now ∙ sym same in
    histories_go_on n.seen q.seen stepped.legal start begins
