-- Steps that went well, tests that came out true or false, and numbers that were read.
use Rattle.std.proofs.Common.{rules, tests, ◌≡◌, ℕ, ◌<◌, ◌≤◌, Bool, true, false, List, Option, Some, None, Result, Ok, Err, refl}
use Rattle.std.specs.Prelude.{◌&&◌, nat_lt, nat_le, if◌then◌else◌}
use Rattle.text_lines.specs.Steps.{◌>>=◌, required}
use Rattle.text_lines.specs.Text.{number, is_number, value}
use Rattle.text_lines.specs.declared.pieces.TheConstants.{MOST_NUMBER}

-- the parts of a reading that went well went well
pub bind_ok : {A B E : Type 0} (r : Result A E) (f : A → Result B E) (y : B) → (r >>= f) ≡ Ok y → (x : A) × (r ≡ Ok x) × (f x ≡ Ok y)
bind_ok (Ok x) f y h = (x, refl, h)
bind_ok (Err e) f y h = cc

pub guard_ok : {A E : Type 0} (b : Bool) (x y : A) (e : E) → (if b then Ok x else Err e) ≡ Ok y → (b ≡ true) × (x ≡ y)
guard_ok true x y e h = (refl, cc)
guard_ok false x y e h = cc

pub guard_err : {A E : Type 0} (b : Bool) (x y : A) (e : E) → (if b then Err e else Ok x) ≡ Ok y → (b ≡ false) × (x ≡ y)
guard_err false x y e h = (refl, cc)
guard_err true x y e h = cc

pub chosen : {A : Type 0} (b : Bool) (x y : A) → (if b then Some x else None) ≡ Some y → (b ≡ true) × (x ≡ y)
chosen true x y h = (refl, cc)
chosen false x y h = cc

pub required_ok : {A E : Type 0} (e : E) (o : Option A) (x : A) → required e o ≡ Ok x → o ≡ Some x
required_ok e None x h = cc
required_ok e (Some y) x h = cc

-- a test of two numbers that came out true or false
pub lt-true : (m n : ℕ) → nat_lt m n ≡ true → m < n
lt-true m n h = search (rules, tests)

pub le-true : (m n : ℕ) → nat_le m n ≡ true → m ≤ n
le-true m n h = search (rules, tests)

pub lt-false : (m n : ℕ) → nat_lt m n ≡ false → n ≤ m
lt-false m n h = search (rules, tests)

-- both of two that hold together
pub both_hold : (x y : Bool) → (x && y) ≡ true → (x ≡ true) × (y ≡ true)
both_hold true true h = (refl, refl)
both_hold true false h = cc
both_hold false y h = cc

-- a number that was read is in range
pub number-bound : (word : List ℕ) (n : ℕ) → number word ≡ Some n → n ≤ MOST_NUMBER
unfolding number
number-bound word n h =
    let was = chosen (is_number word) (value word) n h in
    rw (← was.1) (le-true (value word) MOST_NUMBER (both_hold _ (nat_le (value word) MOST_NUMBER) was.0).1)
