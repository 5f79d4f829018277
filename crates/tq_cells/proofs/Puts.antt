-- What a function is that was changed at one number.
use Rattle.std.proofs.Common.{◌≡◌, ◌≢◌, ℕ, refl, sym, subst, eq-eqb, ne_eqb}
use mathlib.Core.Logic.{dite}
use native.Mathlib.Decide.{ℕ_discrete}
use Rattle.tq_cells.specs.Machine.{put}

module _ {A : Type 0} (f : ℕ → A) (k : ℕ) (v : A) where
  pub put_there : (i : ℕ) → i ≡ k → put f k v i ≡ v
  put_there i is = let e = eq-eqb i k is in rw e refl

  pub put_else : (i : ℕ) → i ≢ k → put f k v i ≡ f i
  put_else i apart = let e = ne_eqb i k apart in rw e refl

  pub put_case : (P : A → Type 0) (i : ℕ) → (i ≡ k → P v) → (i ≢ k → P (f i)) → P (put f k v i)
  put_case P i here there = dite (ℕ_discrete i k) (λ is. subst P (sym (put_there i is)) (here is)) (λ apart. subst P (sym (put_else i apart)) (there apart))
