-- A cap, an exchange that loses, and a row that is filled again, on one level.
use Rattle.std.proofs.Common.{◌≡◌, ◌≢◌, inl, inr, ℕ, zero, suc, ◌<◌, ◌≤◌, List, [], ◌∷◌, refl, subst, arith, lit≤}
use Rattle.std.specs.Prelude.{Some}
use Rattle.fn_model.specs.declared.Kind.TheVariants as kinds
use Rattle.fn_model.specs.Arrivals.{expand}
use Rattle.fn_rows.specs.declared.Stage.TheVariants.{Got}
use Rattle.fn_rows.specs.declared.Field.TheVariants.{Lo, Base, Prev}
use Rattle.fn_rows.specs.Machine.{Lets}
use Rattle.fn_rows.specs.Trace.{Traced}
use Rattle.fn_layout.specs.declared.shape.Shape.{Shape}
use Rattle.fn_core.specs.declared.Purpose.TheVariants as purpose
use Rattle.fn_core.specs.declared.Move.{Move}
use Rattle.fn_core.specs.declared.Move.TheVariants.{Scan, See, Announce, Arrive, Look, Close, Head, Fill, Point, Publish, Leave, Load, Exchange}
use Rattle.fn_core.specs.declared.Event.{Event}
use Rattle.fn_layout.specs.Tree.{member, members}
use Rattle.fn_core.specs.State.{Start, opened, history_in, stage}
use Rattle.fn_core.specs.Machine.{HasFreeRow, Legal, run, IsStart}

abbrev by : ℕ → Move → Event
by pass step = record { pass = pass; step = step }

abbrev shape : Shape
shape = record {
  passes = 2;
  leaves = 1;
  levels = 1;
  rows = 1;
  passes_in_range = (lit≤ tt, lit≤ tt);
  leaves_in_range = (lit≤ tt, lit≤ tt, lit≤ tt);
  levels_in_range = (lit≤ tt, lit≤ tt);
  rows_in_range = (lit≤ tt, lit≤ tt);
}

abbrev start : Start
start = record { shape = shape; opening = 5; cap = 10; allowances = 20 ∷ 20 ∷ [] }

start_opens : IsStart start
start_opens = record { shape = record { passes = omega arith; leaves = omega arith; levels = omega arith; rows = omega arith }; opening = omega arith; cap = omega arith; one_each = refl; sum = omega arith }

-- pass 1 subtracts while pass 0 decides
abbrev subtracted : List Event
subtracted = by 0 (See kinds.Add 1) ∷ by 0 (Announce kinds.Add 1) ∷ by 0 (Arrive kinds.Add 1 4) ∷ by 0 (Look kinds.Add 1) ∷ by 0 (Close kinds.Add 1) ∷ by 0 (Load purpose.Try) ∷ by 1 (Load purpose.Try) ∷ by 1 (Exchange kinds.Sub 2) ∷ []

subtracted_main : (run start subtracted (opened start)).main ≡ 3
unfolding member
subtracted_main = refl

-- so pass 0 loses, and tries again
abbrev replied : List Event
replied = by 0 (See kinds.Add 1) ∷ by 0 (Announce kinds.Add 1) ∷ by 0 (Arrive kinds.Add 1 4) ∷ by 0 (Look kinds.Add 1) ∷ by 0 (Close kinds.Add 1) ∷ by 0 (Load purpose.Try) ∷ by 1 (Load purpose.Try) ∷ by 1 (Exchange kinds.Sub 2) ∷ by 0 (Exchange kinds.Add 4) ∷ by 0 (Load purpose.Try) ∷ by 0 (Exchange kinds.Add 4) ∷ by 0 (Head kinds.Add 1) ∷ by 0 (Fill 0 Lo) ∷ by 0 (Fill 0 Base) ∷ by 0 (Fill 0 Prev) ∷ by 0 (Point kinds.Add 1 0) ∷ by 0 (Publish kinds.Add 1) ∷ []

first_reply : stage start (run start replied (opened start)) kinds.Add 1 0 ≡ Got 3 0
unfolding member
first_reply = refl

first_value : (run start replied (opened start)).main ≡ 7
unfolding member
first_value = refl

-- then it scans, and fills its only row again
abbrev scanned : List Event
scanned = by 0 (See kinds.Add 1) ∷ by 0 (Announce kinds.Add 1) ∷ by 0 (Arrive kinds.Add 1 4) ∷ by 0 (Look kinds.Add 1) ∷ by 0 (Close kinds.Add 1) ∷ by 0 (Load purpose.Try) ∷ by 1 (Load purpose.Try) ∷ by 1 (Exchange kinds.Sub 2) ∷ by 0 (Exchange kinds.Add 4) ∷ by 0 (Load purpose.Try) ∷ by 0 (Exchange kinds.Add 4) ∷ by 0 (Head kinds.Add 1) ∷ by 0 (Fill 0 Lo) ∷ by 0 (Fill 0 Base) ∷ by 0 (Fill 0 Prev) ∷ by 0 (Point kinds.Add 1 0) ∷ by 0 (Publish kinds.Add 1) ∷ by 0 (Leave kinds.Add 1) ∷ by 0 (Scan kinds.Add 1 1) ∷ []

abbrev decided : List Event
decided = by 0 (See kinds.Add 1) ∷ by 0 (Announce kinds.Add 1) ∷ by 0 (Arrive kinds.Add 1 4) ∷ by 0 (Look kinds.Add 1) ∷ by 0 (Close kinds.Add 1) ∷ by 0 (Load purpose.Try) ∷ by 1 (Load purpose.Try) ∷ by 1 (Exchange kinds.Sub 2) ∷ by 0 (Exchange kinds.Add 4) ∷ by 0 (Load purpose.Try) ∷ by 0 (Exchange kinds.Add 4) ∷ by 0 (Head kinds.Add 1) ∷ by 0 (Fill 0 Lo) ∷ by 0 (Fill 0 Base) ∷ by 0 (Fill 0 Prev) ∷ by 0 (Point kinds.Add 1 0) ∷ by 0 (Publish kinds.Add 1) ∷ by 0 (Leave kinds.Add 1) ∷ by 0 (Scan kinds.Add 1 1) ∷ by 0 (See kinds.Add 1) ∷ by 0 (Announce kinds.Add 1) ∷ by 0 (Arrive kinds.Add 1 9) ∷ by 0 (Look kinds.Add 1) ∷ by 0 (Close kinds.Add 1) ∷ by 0 (Load purpose.Try) ∷ by 0 (Exchange kinds.Add 9) ∷ []

abbrev log : List Event
log = by 0 (See kinds.Add 1) ∷ by 0 (Announce kinds.Add 1) ∷ by 0 (Arrive kinds.Add 1 4) ∷ by 0 (Look kinds.Add 1) ∷ by 0 (Close kinds.Add 1) ∷ by 0 (Load purpose.Try) ∷ by 1 (Load purpose.Try) ∷ by 1 (Exchange kinds.Sub 2) ∷ by 0 (Exchange kinds.Add 4) ∷ by 0 (Load purpose.Try) ∷ by 0 (Exchange kinds.Add 4) ∷ by 0 (Head kinds.Add 1) ∷ by 0 (Fill 0 Lo) ∷ by 0 (Fill 0 Base) ∷ by 0 (Fill 0 Prev) ∷ by 0 (Point kinds.Add 1 0) ∷ by 0 (Publish kinds.Add 1) ∷ by 0 (Leave kinds.Add 1) ∷ by 0 (Scan kinds.Add 1 1) ∷ by 0 (See kinds.Add 1) ∷ by 0 (Announce kinds.Add 1) ∷ by 0 (Arrive kinds.Add 1 9) ∷ by 0 (Look kinds.Add 1) ∷ by 0 (Close kinds.Add 1) ∷ by 0 (Load purpose.Try) ∷ by 0 (Exchange kinds.Add 9) ∷ by 0 (Head kinds.Add 1) ∷ by 0 (Fill 0 Lo) ∷ by 0 (Fill 0 Base) ∷ by 0 (Fill 0 Prev) ∷ by 0 (Point kinds.Add 1 0) ∷ by 0 (Publish kinds.Add 1) ∷ by 1 (Load purpose.Read) ∷ []

second_reply : stage start (run start log (opened start)) kinds.Add 1 0 ≡ Got 7 0
unfolding member
second_reply = refl

-- the cap stops the second addition
second_value : (run start log (opened start)).main ≡ 10
unfolding member
second_value = refl

-- its row names itself as the row of the batch before
row_again : ((run start log (opened start)).rows kinds.Add 1 0).prev 0 ≡ 1
unfolding member
row_again = refl

free_first : (level : ℕ) → 1 ≤ level → level ≤ 1 → HasFreeRow start (opened start) kinds.Add level 0
unfolding member members
free_first zero low high = absurd (omega arith)
free_first (suc zero) low high = (0, refl, inl refl)
free_first (suc (suc level)) low high = absurd (omega arith)

-- the only other pass has announced nothing
other_found : (t : Traced) → t.found 0 1 ≡ Some 0 → (q : ℕ) → q < 2 → q ≢ 0 → (word : ℕ) × (t.found 0 q ≡ Some word) × Lets word (t.end 0)
other_found t none q lt other = let one : 1 ≡ q = omega (arith, lt, other) in subst (λ (i : ℕ). (word : ℕ) × (t.found 0 i ≡ Some word) × Lets word (t.end 0)) one (0, none, inl refl)

free_again : (level : ℕ) → 1 ≤ level → level ≤ 1 → HasFreeRow start (run start scanned (opened start)) kinds.Add level 0
unfolding member members
free_again zero low high = absurd (omega arith)
free_again (suc zero) low high = (0, refl, inr (λ q lt ne. other_found ((run start scanned (opened start)).rows kinds.Add 1 0) refl q lt ne))
free_again (suc (suc level)) low high = absurd (omega arith)

only_other : (q : ℕ) → q < 2 → q ≢ 0 → (word : ℕ) × (((run start decided (opened start)).rows kinds.Add 1 0).found 0 q ≡ Some word) × Lets word (((run start decided (opened start)).rows kinds.Add 1 0).end 0)
unfolding member
only_other q lt ne = other_found ((run start decided (opened start)).rows kinds.Add 1 0) refl q lt ne

log_legal : Legal start log (opened start)
unfolding member members
log_legal = (
  (omega arith, (refl, inl refl, free_first)),
  (
    (omega arith, (refl, (0, refl))),
    (
      (omega arith, ((refl, (0, refl, omega arith)), (omega arith, omega arith))),
      (
        (omega arith, (refl, (0, refl))),
        (
          (omega arith, (refl, (0, refl))),
          (
            (omega arith, inr (kinds.Add, 1, refl, (refl, (0, 4, refl)), (λ same. omega arith))),
            (
              (omega arith, inl refl),
              (
                (omega arith, inl (5, refl, inr refl, (omega arith, omega arith))),
                (
                  (omega arith, inr (1, 5, refl, refl)),
                  (
                    (omega arith, inr (kinds.Add, 1, refl, (refl, (0, 4, refl)), (λ same. omega arith))),
                    (
                      (omega arith, inr (1, 3, refl, refl)),
                      (
                        (omega arith, (refl, inl (0, 4, 3, refl))),
                        (
                          (omega arith, (kinds.Add, 1, 0, (refl, (0, 4, 3, 0, refl, refl, inl refl, refl)), (omega arith, refl))),
                          (
                            (omega arith, (kinds.Add, 1, 0, (refl, (0, 4, 3, 0, refl, refl)), (omega arith, refl))),
                            (
                              (omega arith, (kinds.Add, 1, 0, (refl, (0, 4, 3, 0, refl, refl)), (omega arith, refl))),
                              (
                                (omega arith, ((refl, (0, 4, 3, 0, refl)), 0, (omega arith, refl), refl)),
                                (
                                  (omega arith, (refl, (0, 4, 3, 0, refl))),
                                  (
                                    (omega arith, (refl, (3, 0, refl))),
                                    (
                                      (omega arith, (refl, inl refl, omega arith, omega arith, omega arith, (λ same. absurd (omega (arith, same))), refl)),
                                      (
                                        (omega arith, (refl, inl refl, free_again)),
                                        (
                                          (omega arith, (refl, (4, refl))),
                                          (
                                            (omega arith, ((refl, (4, refl, omega arith)), (omega arith, omega arith))),
                                            (
                                              (omega arith, (refl, (4, refl))),
                                              (
                                                (omega arith, (refl, (4, refl))),
                                                (
                                                  (omega arith, inr (kinds.Add, 1, refl, (refl, (4, 13, refl)), (λ same. omega arith))),
                                                  (
                                                    (omega arith, inr (1, 7, refl, refl)),
                                                    (
                                                      (omega arith, (refl, inl (4, 13, 7, refl))),
                                                      (
                                                        (omega arith, (kinds.Add, 1, 0, (refl, (4, 13, 7, 1, refl, refl, inr only_other, refl)), (omega arith, refl))),
                                                        (
                                                          (omega arith, (kinds.Add, 1, 0, (refl, (4, 13, 7, 1, refl, refl)), (omega arith, refl))),
                                                          (
                                                            (omega arith, (kinds.Add, 1, 0, (refl, (4, 13, 7, 1, refl, refl)), (omega arith, refl))),
                                                            (
                                                              (omega arith, ((refl, (4, 13, 7, 0, refl)), 0, (omega arith, refl), refl)),
                                                              (
                                                                (omega arith, (refl, (4, 13, 7, 0, refl))),
                                                                (
                                                                  (omega arith, refl),
                                                                  tt,
                                                                ),
                                                              ),
                                                            ),
                                                          ),
                                                        ),
                                                      ),
                                                    ),
                                                  ),
                                                ),
                                              ),
                                            ),
                                          ),
                                        ),
                                      ),
                                    ),
                                  ),
                                ),
                              ),
                            ),
                          ),
                        ),
                      ),
                    ),
                  ),
                ),
              ),
            ),
          ),
        ),
      ),
    ),
  ),
)

-- the history: the direct subtraction, both additions, and a read
history_after : history_in start (run start log (opened start)) ≡ record { pass = 1; number = 0; kind = kinds.Sub; amount = 2 } ∷ record { pass = 0; number = 0; kind = kinds.Add; amount = 4 } ∷ record { pass = 0; number = 1; kind = kinds.Add; amount = 9 } ∷ record { pass = 1; number = 1; kind = kinds.Read; amount = 0 } ∷ []
unfolding member expand
history_after = refl
