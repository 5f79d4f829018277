-- A call stands in the history behind those that were answered before it was made.
use Rattle.std.proofs.Common.{◌≡◌, ℕ, ◌-◌, ◌<◌, ◌≤◌, List, [], ◌∷◌, ◌++◌, Option, Some, length, drop, get_or, refl, sym, ◌∙◌, ap, subst, arith}
use Rattle.std.specs.List.{All}
use Rattle.std.proofs.lemmas.List.{length-append}
use Rattle.std.proofs.lemmas.List.Elements.{All-cons, All-nil}
use Rattle.std.proofs.Math.Seq.{drop-append_seam}
use Rattle.fn_model.specs.declared.Call.{Call}
use Rattle.fn_model.specs.declared.Kind.TheVariants.{Add, Sub, Read}
use Rattle.fn_model.specs.Calls.{count, own, place}
use Rattle.fn_model.proofs.Calls.{place_beyond, reply_stays}
use Rattle.fn_core.specs.declared.Start.{Start}
use Rattle.script_text.specs.declared.scripts.Order.{Order}
use Rattle.script_text.specs.declared.scripts.Order.TheVariants as order
use Rattle.script_text.specs.declared.scripts.ScriptLine.{ScriptLine}
use Rattle.script_run.specs.declared.lines.LineAnswer.{LineAnswer}
use Rattle.script_run.specs.declared.lines.LineAnswer.TheVariants.{Waits, NoRow, Going, Reply, NotYet, Lost, Met}
use Rattle.script_run.specs.Answered.{IsMet, StandsBefore, answered_by, asked, made_by}

-- the call has a place in the history
abbrev pub IsPlaced : List Call → Call → Type 0
IsPlaced past call = (i : ℕ) × (place call.pass call.number past ≡ Some i) × (i < length past)

-- the call isn't in the history
abbrev pub IsNew : List Call → Call → Type 0
IsNew past call = count call.pass call.number past ≡ 0

-- a place stays while the history grows
pub placed-later : (past more : List Call) (call : Call) → IsPlaced past call → IsPlaced (past ++ more) call
placed-later past more call placed =
    let stays = reply_stays 0 0 call.pass call.number past more placed.0 placed.1 in
    (placed.0, stays.0, (let size = length-append past more in let within = placed.2 in omega arith))

-- what has a place already stands before what is new
same-place : (i j : ℕ) → (let at : ℕ → Option ℕ = λ n. Some n in at i ≡ at j) → i ≡ j
same-place i j e = cc e

pub placed-before : (past more : List Call) (first second : Call) → IsPlaced past first → IsNew past second → StandsBefore (past ++ more) first second
placed-before past more first second placed new i j at behind =
    let stays = reply_stays 0 0 first.pass first.number past more placed.0 placed.1 in
    let same : placed.0 ≡ i = same-place placed.0 i (sym stays.0 ∙ at) in
    let beyond : length past ≤ j = place_beyond second.pass second.number past more j new behind in
    let within = placed.2 in
    omega (arith, same, beyond, within)

pub all-placed : (past more : List Call) (calls : List Call) → All (IsPlaced past) calls → All (IsPlaced (past ++ more)) calls
all-placed past more calls all = λ k d within. placed-later past more (get_or calls k d) (all k d within)

pub all-before : (past more : List Call) (earlier calls : List Call) → All (IsPlaced past) earlier → All (IsNew past) calls → All (λ call. All (λ other. StandsBefore (past ++ more) other call) earlier) calls
all-before past more earlier calls placed new = λ k d within i e inside. placed-before past more (get_or earlier i e) (get_or calls k d) (placed i e inside) (new k d within)

-- the call that is answered has a place
last-is : (mine earlier : List Call) (call : Call) → mine ≡ earlier ++ call ∷ [] → drop (length mine - 1) mine ≡ call ∷ []
last-is mine earlier call is =
    let size : length mine ≡ length (earlier ++ call ∷ []) = ap (λ (x : List Call). length x) is in
    let more = length-append earlier (call ∷ []) in
    let at : length mine - 1 ≡ length earlier = omega (arith, size, more) in
    ap (λ (n : ℕ). drop n mine) at ∙ ap (drop (length earlier)) is ∙ drop-append_seam earlier (call ∷ [])

pub answered-placed : (start : Start) (past mine : List Call) (told : LineAnswer) → IsMet start.cap start.opening past mine told → All (IsPlaced past) (answered_by mine told)
answered-placed start past mine (Reply n) met =
    let call : Call = met.1 in
    let placed : IsPlaced past call = (met.3.0, met.3.1, met.3.2) in
    subst (All (IsPlaced past)) (sym (last-is mine met.0 call met.2)) (All-cons (IsPlaced past) call [] placed (All-nil (IsPlaced past)))
answered-placed start past mine Waits met = All-nil (IsPlaced past)
answered-placed start past mine (NoRow blocked) met = All-nil (IsPlaced past)
answered-placed start past mine Going met = All-nil (IsPlaced past)
answered-placed start past mine (NotYet why) met = All-nil (IsPlaced past)
answered-placed start past mine (Lost loaded found) met = All-nil (IsPlaced past)
answered-placed start past mine Met met = All-nil (IsPlaced past)

-- what holds of the next call of a pass holds of each that a line makes
module _ (P : Call → Type 0) (pass number : ℕ) (next : (call : Call) → call.pass ≡ pass → call.number ≡ number → P call) where
  one : (call : Call) → call.pass ≡ pass → call.number ≡ number → All P (call ∷ [])
  one call is at = All-cons P call [] (next call is at) (All-nil P)

  pub asked-all : (o : Order) → All P (asked pass number o)
  asked-all (order.Add n) = one (record { pass = pass; number = number; kind = Add; amount = n }) refl refl
  asked-all (order.Sub n) = one (record { pass = pass; number = number; kind = Sub; amount = n }) refl refl
  asked-all (order.Direct n) = one (record { pass = pass; number = number; kind = Add; amount = n }) refl refl
  asked-all (order.SubDirect n) = one (record { pass = pass; number = number; kind = Sub; amount = n }) refl refl
  asked-all order.Read = one (record { pass = pass; number = number; kind = Read; amount = 0 }) refl refl
  asked-all order.Step = All-nil P
  asked-all order.Poll = All-nil P
  asked-all (order.Meet q) = All-nil P

pub made-all : (P : Call → Type 0) (calls : List Call) (line : ScriptLine) (told : LineAnswer) → ((call : Call) → call.pass ≡ line.pass → call.number ≡ length (own line.pass calls) → P call) → All P (made_by calls line told)
made-all P calls line Waits next = asked-all P line.pass (length (own line.pass calls)) next line.order
made-all P calls line (NoRow blocked) next = All-nil P
made-all P calls line Going next = asked-all P line.pass (length (own line.pass calls)) next line.order
made-all P calls line (Reply n) next = asked-all P line.pass (length (own line.pass calls)) next line.order
made-all P calls line (NotYet why) next = asked-all P line.pass (length (own line.pass calls)) next line.order
made-all P calls line (Lost loaded found) next = All-nil P
made-all P calls line Met next = asked-all P line.pass (length (own line.pass calls)) next line.order
