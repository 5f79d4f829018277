-- What lines of takes come to, by the history of the tokens and the log of the ticks.
--     lines_of worker lines, answers_of worker lines answers      a worker's lines, and the answers to them
--     take_calls burst rate worker n ticks amount, taking worker n ticks amount      the calls of a take, and the last of them
--     calls_from burst rate worker n lines answers      the calls of a worker's lines
--     AreMet burst rate worker n history lines answers      what each answer tells of the tokens
--     claims_of desk from log      how many ticks each entry of a desk claims
--     IsServed, IsThrottled      the answers to a worker's lines, and to all
--     IsBookOf workers burst book      the bucket opened full, at the moment 0
--     TellsThrottle, TellsText      the text of lines, and of what bytes say
use Rattle.std.specs.Prelude.{◌≡◌, ⊤, ℕ, zero, suc, ◌+◌, ◌-◌, ◌/◌, ◌<◌, ◌==◌, min, max, List, [], ◌∷◌, ◌++◌, length, map, filter, All, codes, decimal, if◌then◌else◌}
use Rattle.std.specs.List.{zip}
use Rattle.fn_model.specs.declared.Call.{Call}
use Rattle.fn_model.specs.declared.Kind.{Kind}
use Rattle.fn_model.specs.declared.Kind.TheVariants.{Add, Sub}
use Rattle.fn_model.specs.Calls.{own}
use Rattle.fn_model.specs.Integer.{value, Meets}
use Rattle.fn_core.specs.Calls.{IsLegal}
use Rattle.fn_layout.specs.Workers.{IsShapeFor}
use Rattle.tick_table.specs.declared.entry.Entry.{Entry}
use Rattle.tick_table.specs.Claims.{reach}
use Rattle.tick_table.specs.Seen.{entries_of, entry}
use Rattle.text_lines.specs.Text.{lines}
use Rattle.quota_bucket.specs.declared.desks.Taken.{Taken}
use Rattle.quota_bucket.specs.Closed.{BucketLog}
use Rattle.quota_bucket.specs.Refill.{refill}
use Rattle.throttle_run.specs.declared.lines.ThrottleLine.{ThrottleLine}
use Rattle.throttle_run.specs.Grammar.{SpellsTakes}

-- the lines of a worker, in order
abbrev pub lines_of : ℕ → List ThrottleLine → List ThrottleLine
lines_of worker lines = filter (λ line. line.worker == worker) lines

-- of the answers to lines, those to a worker's lines, in order
abbrev pub answers_of : ℕ → List ThrottleLine → List Taken → List Taken
answers_of worker lines answers = map (λ a. a.1) (filter (λ a. a.0.worker == worker) (zip lines answers))

-- a worker's call of this number
abbrev pub call_of : ℕ → ℕ → Kind → ℕ → Call
call_of worker n kind amount = record { pass = worker; number = n; kind = kind; amount = amount }

-- the subtraction of a take: the worker's next call, or the one behind it where the take refills some ticks first
abbrev pub taking : ℕ → ℕ → ℕ → ℕ → Call
taking worker n zero amount = call_of worker n Sub amount
taking worker n (suc ticks) amount = call_of worker (suc n) Sub amount

-- the calls of a take: an addition of the rate for each tick that it refills, at most the burst, where there are some; and then the subtraction
abbrev pub take_calls : ℕ → ℕ → ℕ → ℕ → ℕ → ℕ → List Call
take_calls burst rate worker n zero amount = taking worker n zero amount ∷ []
take_calls burst rate worker n (suc ticks) amount = call_of worker n Add (refill burst rate (suc ticks)) ∷ taking worker n (suc ticks) amount ∷ []

-- the calls of a worker's lines, one take behind the other, numbered from n on
abbrev pub calls_from : ℕ → ℕ → ℕ → ℕ → List ThrottleLine → List Taken → List Call
calls_from burst rate worker n (line ∷ lines) (told ∷ answers) =
    let first = take_calls burst rate worker n told.refilled line.amount in
    first ++ calls_from burst rate worker (n + length first) lines answers
calls_from burst rate worker n _ _ = []

-- each answer tells the integer just before its line's subtraction, and how much of the amount was there
abbrev pub AreMet : ℕ → ℕ → ℕ → ℕ → List Call → List ThrottleLine → List Taken → Type 0
AreMet burst rate worker n calls (line ∷ lines) (told ∷ answers) =
    Meets burst burst calls (taking worker n told.refilled line.amount) told.before
    × (told.moved ≡ min line.amount told.before)
    × AreMet burst rate worker (n + length (take_calls burst rate worker n told.refilled line.amount)) calls lines answers
AreMet burst rate worker n calls [] [] = ⊤
AreMet burst rate worker n calls _ _ = ⊥

-- how many ticks each entry of a desk claims, in order: those above the reach of all entries before it, up to its own
abbrev pub claims_of : ℕ → ℕ → List Entry → List ℕ
claims_of desk from [] = []
claims_of desk from (e ∷ log) = (if e.desk == desk then (e.tick - from) ∷ [] else []) ++ claims_of desk (max from e.tick) log

-- What the history of the tokens and the log of the ticks have of a worker, whose lines have these answers
pub record IsServed (burst rate period worker : ℕ) (lines : List ThrottleLine) (answers : List Taken) (tokens : List Call) (ticks : List Entry) : Type 0 where
  -- its entries are those of its lines, in order, each with the tick of its moment; and each line refills the ticks that its entry claims
  pub entries : entries_of worker ticks ≡ map (λ line. entry worker (line.now / period)) lines
  pub refilled : map (λ told. told.refilled) answers ≡ claims_of worker 0 ticks
  -- its calls are those of the takes of its lines, in order
  pub calls : own worker tokens ≡ calls_from burst rate worker 0 lines answers
  pub met : AreMet burst rate worker 0 tokens lines answers

-- Lines and their answers: each worker was served its lines, in order, and there is no call and no entry but theirs
pub record IsThrottled (workers burst rate period : ℕ) (lines : List ThrottleLine) (answers : List Taken) (tokens : List Call) (ticks : List Entry) : Type 0 where
  pub one_each : length answers ≡ length lines
  pub served : (worker : ℕ) → worker < workers → IsServed burst rate period worker (lines_of worker lines) (answers_of worker lines answers) tokens ticks
  pub callers : All (λ (call : Call). call.pass < workers) tokens
  pub enterers : All (λ (e : Entry). e.desk < workers) ticks

-- The book's bucket opened full at the moment 0, with a desk for each worker, and each of its events was allowed
pub record IsBookOf (workers burst : ℕ) (book : BucketLog) : Type 0 where
  pub legal : IsLegal book.tokens
  pub shape : IsShapeFor workers book.tokens.start.shape
  pub opening : book.tokens.start.opening ≡ burst
  pub cap : book.tokens.start.cap ≡ burst
  pub ticks : book.ticks.start ≡ record { tick = 0; desks = workers }

-- a number behind a space
abbrev pub number_text : ℕ → List ℕ
number_text n = codes " " ++ decimal n

-- the text of a line: its number, the tokens that its take met, how many of them it took, and how many ticks it refilled
abbrev pub line_text : ThrottleLine → Taken → List ℕ
line_text line told = decimal line.at ++ number_text told.before ++ number_text told.moved ++ number_text told.refilled ++ codes "\n"

-- the lines' text, in order
abbrev pub lines_text : List ThrottleLine → List Taken → List ℕ
lines_text (line ∷ lines) (told ∷ answers) = line_text line told ++ lines_text lines answers
lines_text _ _ = []

-- the last line: the last tick that was claimed, and the tokens that are left
abbrev pub last_text : ℕ → ℕ → List ℕ
last_text tick tokens = codes "tick " ++ decimal tick ++ codes " value " ++ decimal tokens ++ codes "\n"

-- The text tells of these lines with their answers by the tokens' history and the ticks' log, and then of the last tick and of the tokens that are left
pub record TellsThrottle (workers burst rate period : ℕ) (lines : List ThrottleLine) (bytes : List ℕ) (tokens : List Call) (ticks : List Entry) : Type 0 where
  pub answers : List Taken
  pub throttled : IsThrottled workers burst rate period lines answers tokens ticks
  pub text : bytes ≡ lines_text lines answers ++ last_text (reach 0 ticks) (value burst burst tokens)

-- The text tells of the takes that the lines of the bytes say
pub record TellsText (workers burst rate period : ℕ) (bytes text : List ℕ) (tokens : List Call) (ticks : List Entry) : Type 0 where
  pub takes : List ThrottleLine
  pub spelled : SpellsTakes workers burst (lines bytes) takes
  pub told : TellsThrottle workers burst rate period takes text tokens ticks
