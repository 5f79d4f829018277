-- What a member's finds let it fill.
use Rattle.std.proofs.Common.{◌≡◌, ◌≢◌, ◌↔◌, inl, inr, ℕ, ◌*◌, ◌+◌, ◌<◌, get_or, sym, ◌∙◌, ap, subst, arith}
use Rattle.std.specs.Prelude.{Option, Some, None, Bool, true, false, IsTrue}
use Rattle.std.proofs.lemmas.Bool.{cases_eq}
use Rattle.fn_rows.specs.Machine.{Lets, IsFree}
use Rattle.fn_rows.specs.Found.{found_in}
use Rattle.fn_rows.specs.Aggregator.{Aggregator, IsReached, state_of, HasLet, AllLet}
use Rattle.fn_rows.proofs.Found.{in_members, place_below}
use Rattle.fn_rows.proofs.Fields.{read_at}

-- what was read is what the member found
pub found_read : (old a : Aggregator) → old ≡ a → IsReached old → (m q : ℕ) → m < a.members → q < a.members → (x : Option ℕ) → x ≡ get_or old.found (m * old.members + q) x → (state_of a).found m q ≡ x
found_read old a is reached m q m_in q_in x read =
    let members : a.members ≡ old.members = ap (λ (y : Aggregator). y.members) (sym is) in
    let m_old : m < old.members = omega (arith, m_in, members) in
    let q_old : q < old.members = omega (arith, q_in, members) in
    ap (λ (y : Aggregator). found_in y.members y.found m q) (sym is) ∙ in_members old.members old.found m q q_old
    ∙ read_at None old.found (m * old.members + q) (old.members * old.members) x reached.sized.found (place_below old.members m q m_old q_old) read

abbrev or_zero : Option ℕ → ℕ
or_zero None = 0
or_zero (Some word) = word

abbrev is_some : Option ℕ → Bool
is_some None = false
is_some (Some word) = true

module _ (a : Aggregator) (m q end : ℕ) where
  pub let_by : (word : ℕ) (test : Bool) → (state_of a).found m q ≡ Some word → (IsTrue test ↔ Lets word end) → IsTrue test ↔ HasLet a m q end
  let_by word test found tests = (λ holds. (word, found, tests.0 holds), λ has. tests.1 (subst (λ w. Lets w end) (ap or_zero (sym has.1 ∙ found)) has.2))

  pub not_let : (state_of a).found m q ≡ None → HasLet a m q end → ⊥
  not_let found has = let same : true ≡ false = ap is_some (sym has.1 ∙ found) in absurd (cc (same))

-- the member may fill the row where it was never filled, or all others let it
pub free_by : (a : Aggregator) (m r end : ℕ) (test : Bool) → end ≡ (state_of a).end r → end ≢ 0 → (IsTrue test ↔ AllLet a m end) → IsTrue test ↔ IsFree a.members (state_of a) m r
free_by a m r end test same some_end tests = (λ holds. inr (subst (AllLet a m) same (tests.0 holds)), back)
  where
    back : IsFree a.members (state_of a) m r → IsTrue test
    back (inl none) = absurd (some_end (same ∙ none))
    back (inr all) = tests.1 (subst (AllLet a m) (sym same) all)

-- one other member more
pub let_more : (a : Aggregator) (m end other : ℕ) → ((q : ℕ) → q < other → q ≢ m → HasLet a m q end) → (other ≢ m → HasLet a m other end) → (q : ℕ) → q < other + 1 → q ≢ m → HasLet a m q end
let_more a m end other before this q lt apart = elim (cases_eq q other) [
  | inl same ↦ subst (λ i. HasLet a m i end) (sym same) (this (λ e. apart (same ∙ e)))
  | inr not ↦ before q (omega (arith, lt, not)) apart
]
