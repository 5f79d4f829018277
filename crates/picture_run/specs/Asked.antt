-- The picture that words ask for.
--     asked words      `line TRACE WORKERS` asks for a line for each tenant, `svg TRACE WORKERS TENANT` for the drawing of one
--     trace_path words      the path of the trace, which is the second word
--     workers_of picture, InRange picture      its number of workers, which is from 1 to 64
use Rattle.std.specs.Prelude.{ℕ, ◌≤◌, ◌&&◌, nat_le, if◌then◌else◌, List, [], ◌∷◌, codes, Option, None, String, string_bytes}
use Rattle.std.specs.Option.{option_map}
use Rattle.std.specs.Str.{bytes_eq}
use Rattle.std.specs.declared.alloc.Global.{Global}
use Rattle.text_lines.specs.Text.{kept, number}
use Rattle.picture_run.specs.declared.words.Picture.{Picture}
use Rattle.picture_run.specs.declared.words.Picture.TheVariants.{Lines, Drawing}

-- the number of workers that a word is
abbrev pub workers_in : List ℕ → Option ℕ
workers_in word = kept (λ n. nat_le 1 n && nat_le n 64) (number word)

-- the lines of all tenants, where the first of these words asks for them
unfoldable pub lines_by : List ℕ → List ℕ → Option Picture
lines_by verb workers = if bytes_eq verb (codes "line") then option_map Lines (workers_in workers) else None

-- the drawing of a tenant, where the first of these words asks for it
unfoldable pub drawing_by : List ℕ → List ℕ → List ℕ → Option Picture
drawing_by verb workers tenant = if bytes_eq verb (codes "svg") then option_map (λ n. Drawing n tenant) (workers_in workers) else None

-- the picture that words ask for, if they do
unfoldable pub asked : List (String Global) → Option Picture
asked (verb ∷ trace ∷ workers ∷ []) = lines_by (string_bytes verb) (string_bytes workers)
asked (verb ∷ trace ∷ workers ∷ tenant ∷ []) = drawing_by (string_bytes verb) (string_bytes workers) (string_bytes tenant)
asked _ = None

-- the path of the trace, which is the second word
abbrev pub trace_path : List (String Global) → List ℕ
trace_path (verb ∷ path ∷ more) = string_bytes path
trace_path _ = []

-- the number of workers of a picture
abbrev pub workers_of : Picture → ℕ
workers_of (Lines workers) = workers
workers_of (Drawing workers tenant) = workers

-- it is from 1 to 64
abbrev pub InRange : Picture → Type 0
InRange picture = (1 ≤ workers_of picture) × (workers_of picture ≤ 64)
