-- A function changed at one place.
use Rattle.std.proofs.Common.{◌≡◌, ◌≢◌, inl, inr, ℕ, sym, ap, subst}
use Rattle.std.specs.Prelude.{if◌then◌else◌}
use Rattle.std.proofs.lemmas.Bool.{cases_eq, eq-eqb, ne_eqb}
use Rattle.fn_rows.specs.Machine.{put}

pub put_here : {A : Type 0} (f : ℕ → A) (place : ℕ) (value : A) (i : ℕ) → i ≡ place → put f place value i ≡ value
put_here f place value i is = ap (λ t. if t then value else f i) (eq-eqb i place is)

pub put_there : {A : Type 0} (f : ℕ → A) (place : ℕ) (value : A) (i : ℕ) → i ≢ place → put f place value i ≡ f i
put_there f place value i other = ap (λ t. if t then value else f i) (ne_eqb i place other)

-- what holds of the new value there, and of the old ones elsewhere, holds of the changed function
pub put_case : {A : Type 0} (P : A → Type 0) (f : ℕ → A) (place : ℕ) (value : A) (i : ℕ) → (i ≡ place → P value) → (i ≢ place → P (f i)) → P (put f place value i)
put_case P f place value i here there = elim (cases_eq i place) [
  | inl is ↦ subst P (sym (put_here f place value i is)) (here is)
  | inr other ↦ subst P (sym (put_there f place value i other)) (there other)
]
