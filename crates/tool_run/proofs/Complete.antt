-- A run whose input is accepted.
use Rattle.std.proofs.Common.{◌≡◌, ◌⊎◌, ◌<◌, ◌≤◌, ℕ, zero, suc, List, [], ◌∷◌, Option, None, Some, Ok, length, refl, sym, ◌∙◌, ap, subst, arith, inl, inr, append-nil, length-append}
use Rattle.std.specs.Io.KnownBytes.{Consumes, IsAtEnd}
use Rattle.std.specs.List.{All}
use Rattle.std.proofs.lemmas.List.Elements.{All-head, All-tail}
use Rattle.running.specs.Running.{numbers_from, upto}
use Rattle.script_text.specs.Script.{content, script_of}
use Rattle.script_text.specs.declared.scripts.Script.{Script}
use Rattle.script_text.specs.declared.scripts.ScriptLine.{ScriptLine}
use Rattle.text_lines.specs.Text.{lines}
use Rattle.trace_text.specs.Records.{records_of}
use Rattle.trace_text.proofs.Heard.{grammar-read}
use Rattle.trace_text.proofs.Known.{first-refused}
use Rattle.throttle_run.proofs.ReadingSpelled.{takes-read}
use Rattle.throttle_run.proofs.ReadingFaults.{first-told}
use Rattle.fn_rounds.specs.Script.{IsChangeOrder, other_order}
use Rattle.tool_words.specs.declared.commands.Command.{Command}
use Rattle.tool_words.specs.declared.commands.Command.TheVariants.{Play, Trial, Replay, Drill, Relay, Rounds, Tally, Throttle}
use Rattle.tool_run.specs.Accounts.{HandsBack, IsAccounted, StopsWith}
use Rattle.tool_run.specs.Outcome.{Accepts, Ends, HasInput, Input, IsAccepted, IsCalm, IsComplete, IsRefused, Output, Reads, Refuses, RefusesScript, status_of}
use Rattle.script_run.specs.Trial.{IsHalted}
use Rattle.tool_run.specs.declared.ending.Ending.{Ending}
use Rattle.tool_run.specs.declared.ending.Ending.TheVariants.{Done, Words, Refused, ReadFailed, WriteFailed, WriteStuck, NoMemory}
use Rattle.tool_run.specs.declared.ending.Refusal.{Refusal}
use Rattle.tool_run.specs.declared.ending.Refusal.TheVariants.{TooLong, ByScript, ByPlay, ByTrace, TooManyLines, ByOrder, ByThrottle}
use Rattle.tool_run.specs.declared.ending.TheConstants.{INPUT_LIMIT}
use Rattle.script_run.specs.declared.play.PlayFault.{PlayFault}
use Rattle.tool_run.specs.declared.runs.Outcome.{Outcome}
use Rattle.script_run.specs.declared.trial.Caller.{Caller}
use Rattle.tool_run.proofs.SameText.{same-text}

-- a source that tells its bytes has given no more than them, and all of them once it is at its end
given-few : (bytes given : List ℕ) (now : Option (List ℕ)) → Consumes (Some bytes) now given → length given ≤ length bytes
given-few bytes given None gives = absurd gives
given-few bytes given (Some rest) gives = (let count = ap length gives in let all = length-append given rest in omega arith)

given-all : (bytes given : List ℕ) (now : Option (List ℕ)) → Consumes (Some bytes) now given → IsAtEnd now → bytes ≡ given
given-all bytes given None gives end = absurd gives
given-all bytes given (Some rest) gives end = gives ∙ rw end (append-nil given)

-- a refused command was given too many bytes, or bytes that it refuses
abbrev Way : Command → Input → Refusal → Type 0
Way command input why =
    ((given : List ℕ) × Consumes input.left input.left_then given × (INPUT_LIMIT < length given) × HasInput command) ⊎ ((given : List ℕ) × Reads command input given × Refuses command given why)

way-of : (command : Command) (input : Input) (why : Refusal) → IsRefused command input why → Way command input why
way-of command input TooLong refused = inl (refused.1, refused.2, refused.3, refused.0)
way-of command input (ByScript fault) refused = inr refused
way-of command input (ByPlay fault) refused = inr refused
way-of command input (ByTrace fault) refused = inr refused
way-of command input (TooManyLines at) refused = inr refused
way-of command input (ByOrder at) refused = inr refused
way-of command input (ByThrottle fault) refused = inr refused

-- .. but not too many where all are few
not-many : (input : Input) (bytes given : List ℕ) → input.left ≡ Some bytes → length bytes ≤ INPUT_LIMIT → Consumes input.left input.left_then given → INPUT_LIMIT < length given → ⊥
not-many input bytes given told short gives long =
    let few : length given ≤ length bytes = given-few bytes given input.left_then (rw told at gives) in
    absurd (omega arith)

told-all : (input : Input) (bytes given : List ℕ) → input.left ≡ Some bytes → Consumes input.left input.left_then given → IsAtEnd input.left_then → bytes ≡ given
told-all input bytes given told gives end = given-all bytes given input.left_then (rw told at gives) end

-- a script can be read and still not be done; that is refuted by what is handed back
abbrev IsOther : Refusal → Type 0
IsOther (ByPlay fault) = ⊥
IsOther _ = Unit {0}

script-accepts : (bytes : List ℕ) (script : Script) (why : Refusal) → script_of bytes ≡ Ok (content script) → IsOther why → RefusesScript bytes why → ⊥
script-accepts bytes script TooLong read other refuses = refuses
script-accepts bytes script (ByScript fault) read other refuses = cc (sym read ∙ refuses)
script-accepts bytes script (ByPlay fault) read other refuses = absurd other
script-accepts bytes script (ByTrace fault) read other refuses = refuses
script-accepts bytes script (TooManyLines at) read other refuses = refuses
script-accepts bytes script (ByOrder at) read other refuses = refuses
script-accepts bytes script (ByThrottle fault) read other refuses = refuses

-- so many numbers
length-numbers_from : (first count : ℕ) → length (numbers_from first count) ≡ count
length-numbers_from first zero = refl
length-numbers_from first (suc count) = ap suc (length-numbers_from (suc first) count)

-- a table has callers
has-callers : (script : Script) (fault : PlayFault) (callers : List Caller) → IsHalted script fault callers → callers ≡ [] → ⊥
has-callers script fault callers halted none =
    let numbers : [] ≡ upto script.shape.passes = (rw none at halted.numbers) in
    let some_pass = script.shape.passes_in_range.0 in
    let count : 0 ≡ script.shape.passes = ap length numbers ∙ length-numbers_from 0 script.shape.passes in
    absurd (omega arith)

-- a script that plays to an end, or whose run hands no callers back, could be done
stopped : (command : Command) (bytes given : List ℕ) (fault : PlayFault) (callers : List Caller) → IsAccepted command given → Refuses command bytes (ByPlay fault) → HandsBack command given fault callers → callers ≡ [] → ⊥
stopped Play bytes given fault callers accepted refuses hands none =
    let same : content accepted.0 ≡ content hands.0 = cc (sym accepted.2 ∙ hands.1) in
    cc (sym accepted.3 ∙ same-text accepted.0 hands.0 same ∙ hands.2)
stopped Trial bytes given fault callers accepted refuses hands none = has-callers hands.0 fault callers hands.2 none
stopped (Replay workers) bytes given fault callers accepted refuses hands none = refuses
stopped (Drill seed rows workers) bytes given fault callers accepted refuses hands none = refuses
stopped (Relay workers capacity) bytes given fault callers accepted refuses hands none = refuses
stopped Rounds bytes given fault callers accepted refuses hands none = refuses
stopped (Tally workers grain) bytes given fault callers accepted refuses hands none = refuses
stopped (Throttle workers burst rate period) bytes given fault callers accepted refuses hands none = refuses

replay-accepts : (workers : ℕ) (bytes : List ℕ) (why : Refusal) → IsAccepted (Replay workers) bytes → Refuses (Replay workers) bytes why → ⊥
replay-accepts workers bytes TooLong accepted refuses = refuses
replay-accepts workers bytes (ByScript fault) accepted refuses = refuses
replay-accepts workers bytes (ByPlay fault) accepted refuses = refuses
replay-accepts workers bytes (ByTrace fault) accepted refuses = cc (sym (grammar-read workers (records_of bytes) accepted.0 accepted.1) ∙ first-refused workers (records_of bytes) fault refuses)
replay-accepts workers bytes (TooManyLines at) accepted refuses = refuses
replay-accepts workers bytes (ByOrder at) accepted refuses = refuses
replay-accepts workers bytes (ByThrottle fault) accepted refuses = refuses

relay-accepts : (workers capacity : ℕ) (bytes : List ℕ) (why : Refusal) → IsAccepted (Relay workers capacity) bytes → Refuses (Relay workers capacity) bytes why → ⊥
relay-accepts workers capacity bytes TooLong accepted refuses = refuses
relay-accepts workers capacity bytes (ByScript fault) accepted refuses = refuses
relay-accepts workers capacity bytes (ByPlay fault) accepted refuses = refuses
relay-accepts workers capacity bytes (ByTrace fault) accepted refuses = refuses
relay-accepts workers capacity bytes (TooManyLines at) accepted refuses = (let many = refuses.0 in absurd (omega arith))
relay-accepts workers capacity bytes (ByOrder at) accepted refuses = refuses
relay-accepts workers capacity bytes (ByThrottle fault) accepted refuses = refuses

-- a script of additions and subtractions has no line with another order
no_other : (lines : List ScriptLine) → All (λ line. IsChangeOrder line.order) lines → other_order lines ≡ None
no_other [] changes = refl
no_other (line ∷ lines) changes = rw (All-head (λ l. IsChangeOrder l.order) line lines changes) (no_other lines (All-tail (λ l. IsChangeOrder l.order) line lines changes))

rounds-accepts : (bytes : List ℕ) (why : Refusal) → IsAccepted Rounds bytes → Refuses Rounds bytes why → ⊥
rounds-accepts bytes TooLong accepted refuses = refuses
rounds-accepts bytes (ByScript fault) accepted refuses = cc (sym accepted.1 ∙ refuses)
rounds-accepts bytes (ByPlay fault) accepted refuses = refuses
rounds-accepts bytes (ByTrace fault) accepted refuses = refuses
rounds-accepts bytes (TooManyLines at) accepted refuses = refuses
rounds-accepts bytes (ByOrder at) accepted refuses =
    let same : content accepted.0 ≡ content refuses.0 = cc (sym accepted.1 ∙ refuses.1) in
    let lines : accepted.0.lines ≡ refuses.0.lines = ap (λ c. c.lines) same in
    cc (sym refuses.2 ∙ ap other_order (sym lines) ∙ no_other accepted.0.lines accepted.2)
rounds-accepts bytes (ByThrottle fault) accepted refuses = refuses

throttle-accepts : (workers burst rate period : ℕ) (bytes : List ℕ) (why : Refusal) → IsAccepted (Throttle workers burst rate period) bytes → Refuses (Throttle workers burst rate period) bytes why → ⊥
throttle-accepts workers burst rate period bytes TooLong accepted refuses = refuses
throttle-accepts workers burst rate period bytes (ByScript fault) accepted refuses = refuses
throttle-accepts workers burst rate period bytes (ByPlay fault) accepted refuses = refuses
throttle-accepts workers burst rate period bytes (ByTrace fault) accepted refuses = refuses
throttle-accepts workers burst rate period bytes (TooManyLines at) accepted refuses = refuses
throttle-accepts workers burst rate period bytes (ByOrder at) accepted refuses = refuses
throttle-accepts workers burst rate period bytes (ByThrottle fault) accepted refuses = cc (sym (takes-read workers burst (lines bytes) accepted.0 accepted.1) ∙ first-told workers burst (lines bytes) fault refuses)

-- a command that accepts its input isn't refused for another reason
not-refused : (command : Command) (input : Input) (why : Refusal) → Accepts command input.left → IsOther why → Way command input why → ⊥
not-refused Play input why accepts other (inl long) = not-many input accepts.0 long.0 accepts.1 accepts.2 long.1 long.2
not-refused Play input why accepts other (inr read) =
    let accepted : IsAccepted Play read.0 = (rw (told-all input accepts.0 read.0 accepts.1 read.1.0 read.1.1) at accepts.3) in
    script-accepts read.0 accepted.0 why accepted.2 other read.2
not-refused Trial input why accepts other (inl long) = not-many input accepts.0 long.0 accepts.1 accepts.2 long.1 long.2
not-refused Trial input why accepts other (inr read) =
    let accepted : IsAccepted Trial read.0 = (rw (told-all input accepts.0 read.0 accepts.1 read.1.0 read.1.1) at accepts.3) in
    script-accepts read.0 accepted.0 why accepted.1 other read.2
not-refused (Replay workers) input why accepts other (inl long) = not-many input accepts.0 long.0 accepts.1 accepts.2 long.1 long.2
not-refused (Replay workers) input why accepts other (inr read) =
    replay-accepts workers read.0 why (rw (told-all input accepts.0 read.0 accepts.1 read.1.0 read.1.1) at accepts.3) read.2
not-refused (Relay workers capacity) input why accepts other (inl long) = not-many input accepts.0 long.0 accepts.1 accepts.2 long.1 long.2
not-refused (Relay workers capacity) input why accepts other (inr read) =
    relay-accepts workers capacity read.0 why (rw (told-all input accepts.0 read.0 accepts.1 read.1.0 read.1.1) at accepts.3) read.2
not-refused Rounds input why accepts other (inl long) = not-many input accepts.0 long.0 accepts.1 accepts.2 long.1 long.2
not-refused Rounds input why accepts other (inr read) =
    rounds-accepts read.0 why (rw (told-all input accepts.0 read.0 accepts.1 read.1.0 read.1.1) at accepts.3) read.2
not-refused (Throttle workers burst rate period) input why accepts other (inl long) = not-many input accepts.0 long.0 accepts.1 accepts.2 long.1 long.2
not-refused (Throttle workers burst rate period) input why accepts other (inr read) =
    throttle-accepts workers burst rate period read.0 why (rw (told-all input accepts.0 read.0 accepts.1 read.1.0 read.1.1) at accepts.3) read.2
not-refused (Drill seed rows workers) input why accepts other (inl long) = long.3
not-refused (Drill seed rows workers) input why accepts other (inr read) = read.2
not-refused (Tally workers grain) input why accepts other (inl long) = not-many input accepts.0 long.0 accepts.1 accepts.2 long.1 long.2
not-refused (Tally workers grain) input why accepts other (inr read) = read.2

some-same : (a b : Command) (asked : Option Command) → asked ≡ Some a → asked ≡ Some b → a ≡ b
some-same a b asked first second = cc (sym first ∙ second)

-- .. nor because its script can't be done
not-stopped : (command : Command) (input : Input) (fault : PlayFault) (callers : List Caller) (bytes : List ℕ) → Accepts command input.left → Refuses command bytes (ByPlay fault)
    → (given : List ℕ) → Reads command input given → HandsBack command given fault callers → callers ≡ [] → ⊥
not-stopped Play input fault callers bytes accepts refuses given reads hands none =
    stopped Play bytes given fault callers (rw (told-all input accepts.0 given accepts.1 reads.0 reads.1) at accepts.3) refuses hands none
not-stopped Trial input fault callers bytes accepts refuses given reads hands none =
    stopped Trial bytes given fault callers (rw (told-all input accepts.0 given accepts.1 reads.0 reads.1) at accepts.3) refuses hands none
not-stopped (Replay workers) input fault callers bytes accepts refuses given reads hands none = refuses
not-stopped (Drill seed rows workers) input fault callers bytes accepts refuses given reads hands none = refuses
not-stopped (Relay workers capacity) input fault callers bytes accepts refuses given reads hands none = refuses
not-stopped Rounds input fault callers bytes accepts refuses given reads hands none = refuses
not-stopped (Tally workers grain) input fault callers bytes accepts refuses given reads hands none = refuses
not-stopped (Throttle workers burst rate period) input fault callers bytes accepts refuses given reads hands none = refuses

refused-not : (asked : Option Command) (input : Input) (why : Refusal) (callers : List Caller) (command : Command) → asked ≡ Some command → Accepts command input.left → IsRefused command input why
    → StopsWith asked input (Refused why) callers → callers ≡ [] → ⊥
refused-not asked input TooLong callers command is accepts refused hands none = not-refused command input TooLong accepts tt (way-of command input TooLong refused)
refused-not asked input (ByScript fault) callers command is accepts refused hands none = not-refused command input (ByScript fault) accepts tt (way-of command input (ByScript fault) refused)
refused-not asked input (ByPlay fault) callers command is accepts refused hands none =
    let same = some-same hands.0 command asked hands.2 is in
    let P : Command → Type 0 = λ c. Reads c input hands.1 × HandsBack c hands.1 fault callers in
    let here = subst P same (hands.3, hands.4) in
    not-stopped command input fault callers refused.0 accepts refused.2 hands.1 here.0 here.1 none
refused-not asked input (ByTrace fault) callers command is accepts refused hands none = not-refused command input (ByTrace fault) accepts tt (way-of command input (ByTrace fault) refused)
refused-not asked input (TooManyLines at) callers command is accepts refused hands none = not-refused command input (TooManyLines at) accepts tt (way-of command input (TooManyLines at) refused)
refused-not asked input (ByOrder at) callers command is accepts refused hands none = not-refused command input (ByOrder at) accepts tt (way-of command input (ByOrder at) refused)
refused-not asked input (ByThrottle fault) callers command is accepts refused hands none = not-refused command input (ByThrottle fault) accepts tt (way-of command input (ByThrottle fault) refused)

-- such a run is done, but for want of memory
ends-done : (asked : Option Command) (input : Input) (output : Output) (outcome : Outcome) (ending : Ending) (command : Command) → Ends asked input output outcome.answers.items ending → IsAccounted asked input output outcome ending
    → asked ≡ Some command → Accepts command input.left → IsCalm input output → outcome.halted.items ≡ [] → (status_of ending ≡ 0) ⊎ (status_of ending ≡ 6)
ends-done asked input output outcome Done command ends account is accepts calm none = inl refl
ends-done asked input output outcome Words command ends account is accepts calm none = absurd (cc (sym is ∙ ends.0.0))
ends-done asked input output outcome (Refused why) command ends account is accepts calm none =
    let stops = ends.0 in
    let same = some-same stops.0 command asked stops.1 is in
    let P : Command → Type 0 = λ c. IsRefused c input why in
    absurd (refused-not asked input why outcome.halted.items command is accepts (subst P same stops.2) account.0 none)
ends-done asked input output outcome ReadFailed command ends account is accepts calm none = absurd (calm.0 ends.0.4)
ends-done asked input output outcome WriteFailed command ends account is accepts calm none = absurd (calm.1 ends.6.1)
ends-done asked input output outcome WriteStuck command ends account is accepts calm none = absurd (calm.2 ends.6.1)
ends-done asked input output outcome NoMemory command ends account is accepts calm none = inr refl

pub ends-complete : (asked : Option Command) (input : Input) (output : Output) (outcome : Outcome) (ending : Ending) → Ends asked input output outcome.answers.items ending → IsAccounted asked input output outcome ending
    → status_of ending ≡ outcome.status → IsComplete asked input output outcome
ends-complete asked input output outcome ending ends account status command is accepts calm none =
    rw (← status) (ends-done asked input output outcome ending command ends account is accepts calm none)
