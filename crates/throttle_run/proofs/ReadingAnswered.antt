-- What is said of a text that was read, and of one that was refused.
use Rattle.std.proofs.Common.{◌≡◌, ℕ, ◌^◌, ◌<◌, List, Ok}
use Rattle.text_lines.specs.Text.{lines}
use Rattle.throttle_run.proofs.ReadingFaults.{first-found}
use Rattle.throttle_run.proofs.ReadingSpelled.{takes-sound, takes-spelled}
use Rattle.throttle_run.specs.Faults.{IsRefusedFor}
use Rattle.throttle_run.specs.Grammar.{SpellsTakes}
use Rattle.throttle_run.specs.Lines.{AreSound, Fails, throttle_of}
use Rattle.throttle_run.specs.declared.faults.ThrottleFault.{ThrottleFault}
use Rattle.throttle_run.specs.declared.faults.ThrottleFault.TheVariants as fault
use Rattle.throttle_run.specs.declared.lines.ThrottleLine.{ThrottleLine}

-- a text that was read
pub record IsRead (workers burst : ℕ) (bytes : List ℕ) (items : List ThrottleLine) : Type 0 where
  pub exact : throttle_of workers burst bytes ≡ Ok items
  pub spelled : SpellsTakes workers burst (lines bytes) items
  pub sound : AreSound workers burst items

pub is-read : (workers burst : ℕ) (bytes : List ℕ) (items : List ThrottleLine) → burst < 2 ^ 63 → throttle_of workers burst bytes ≡ Ok items → IsRead workers burst bytes items
is-read workers burst bytes items small is =
    let spelled = takes-spelled workers burst (lines bytes) items small is in
    record { exact = is; spelled = spelled; sound = takes-sound workers burst (lines bytes) items spelled }

-- a text that was refused
pub record IsRefused (workers burst : ℕ) (bytes : List ℕ) (found : ThrottleFault) : Type 0 where
  pub fails : Fails found (throttle_of workers burst bytes)
  pub first : IsRefusedFor workers burst (lines bytes) found

refused-first : (workers burst : ℕ) (bytes : List ℕ) (found : ThrottleFault) → burst < 2 ^ 63 → Fails found (throttle_of workers burst bytes) → IsRefusedFor workers burst (lines bytes) found
refused-first workers burst bytes fault.NoMemory small fails = tt
refused-first workers burst bytes (fault.Fields at) small fails = first-found workers burst (lines bytes) (fault.Fields at) small fails
refused-first workers burst bytes (fault.Worker at) small fails = first-found workers burst (lines bytes) (fault.Worker at) small fails
refused-first workers burst bytes (fault.Amount at) small fails = first-found workers burst (lines bytes) (fault.Amount at) small fails
refused-first workers burst bytes (fault.TooMany at) small fails = first-found workers burst (lines bytes) (fault.TooMany at) small fails
refused-first workers burst bytes (fault.Total at) small fails = first-found workers burst (lines bytes) (fault.Total at) small fails

pub is-refused : (workers burst : ℕ) (bytes : List ℕ) (found : ThrottleFault) → burst < 2 ^ 63 → Fails found (throttle_of workers burst bytes) → IsRefused workers burst bytes found
is-refused workers burst bytes found small fails = record { fails = fails; first = refused-first workers burst bytes found small fails }
