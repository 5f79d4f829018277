-- The lines of a text that isn't empty.
use Rattle.std.proofs.Common.{◌≡◌, ℕ, ◌+◌, ◌<◌, List, [], ◌∷◌, length, refl, sym, ap, ◌∙◌, arith}
use Rattle.std.specs.Prelude.{◌==◌, count_by}
use Rattle.std.specs.List.{slice_split}
use Rattle.std.specs.Io.BufRead.{strip_last}
use Rattle.std.proofs.lemmas.List.Splits.{length-slice_split}
use Rattle.relay_run.specs.Lines.{lines_of}

pub lines_some : (bytes : List ℕ) → 0 < length bytes → lines_of bytes ≡ slice_split (λ b. b == 10) (strip_last 10 bytes)
lines_some [] some_byte = absurd (omega (arith, some_byte))
lines_some (byte ∷ bytes) some_byte = refl

-- there is one more than there are newlines
pub lines_count : (bytes text : List ℕ) → 0 < length bytes → text ≡ strip_last 10 bytes → length (lines_of bytes) ≡ count_by (λ b. b == 10) text + 1
lines_count bytes text some_byte is = ap length (lines_some bytes some_byte) ∙ ap (λ (t : List ℕ). length (slice_split (λ b. b == 10) t)) (sym is) ∙ length-slice_split (λ (b : ℕ). b == 10) text
