-- Two additions whose leaf batches go up in one step, on two levels: the log is legal, and the replies are those that it should give.
use Rattle.std.proofs.Common.{◌≡◌, inl, inr, ℕ, zero, suc, ◌≤◌, List, [], ◌∷◌, refl, arith, lit≤}
use Rattle.fn_model.specs.declared.Kind.TheVariants as kinds
use Rattle.fn_model.specs.Arrivals.{expand}
use Rattle.fn_rows.specs.declared.Stage.TheVariants.{Got}
use Rattle.fn_rows.specs.declared.Field.TheVariants.{Lo, Base, Prev}
use Rattle.fn_layout.specs.declared.shape.Shape.{Shape}
use Rattle.fn_core.specs.declared.Move.{Move}
use Rattle.fn_core.specs.declared.Move.TheVariants.{See, Announce, Arrive, Look, Close, Apply, Head, Fill, Point, Publish, Peek, Leave}
use Rattle.fn_core.specs.declared.Event.{Event}
use Rattle.fn_layout.specs.Tree.{member, members}
use Rattle.fn_core.specs.State.{Start, opened, history_in, stage}
use Rattle.fn_core.specs.Machine.{HasFreeRow, Legal, run, no_cap}

abbrev by : ℕ → Move → Event
by pass step = record { pass = pass; step = step }

abbrev shape : Shape
shape = record {
  passes = 2;
  leaves = 2;
  levels = 2;
  rows = 1;
  passes_in_range = (lit≤ tt, lit≤ tt);
  leaves_in_range = (lit≤ tt, lit≤ tt, lit≤ tt);
  levels_in_range = (lit≤ tt, lit≤ tt);
  rows_in_range = (lit≤ tt, lit≤ tt);
}

abbrev start : Start
start = record { shape = shape; opening = 10; cap = no_cap; allowances = 5 ∷ 7 ∷ [] }

-- pass 0 goes up first and applies both batches
abbrev first_part : List Event
first_part = by 0 (See kinds.Add 1) ∷ by 0 (Announce kinds.Add 1) ∷ by 0 (Arrive kinds.Add 1 5) ∷ by 0 (Look kinds.Add 1) ∷ by 0 (Close kinds.Add 1) ∷ by 0 (See kinds.Add 2) ∷ by 0 (Announce kinds.Add 2) ∷ by 0 (Arrive kinds.Add 2 5) ∷ by 1 (See kinds.Add 1) ∷ by 1 (Announce kinds.Add 1) ∷ by 1 (Arrive kinds.Add 1 7) ∷ by 1 (Look kinds.Add 1) ∷ by 1 (Close kinds.Add 1) ∷ by 1 (See kinds.Add 2) ∷ by 1 (Announce kinds.Add 2) ∷ by 1 (Arrive kinds.Add 2 7) ∷ by 0 (Look kinds.Add 2) ∷ by 0 (Close kinds.Add 2) ∷ by 0 (Apply 12) ∷ by 0 (Head kinds.Add 2) ∷ by 0 (Fill 1 Lo) ∷ by 0 (Fill 1 Base) ∷ by 0 (Fill 1 Prev) ∷ by 0 (Point kinds.Add 2 1) ∷ by 0 (Publish kinds.Add 2) ∷ by 0 (Leave kinds.Add 2) ∷ by 0 (Head kinds.Add 1) ∷ by 0 (Fill 0 Lo) ∷ by 0 (Fill 0 Base) ∷ by 0 (Fill 0 Prev) ∷ by 0 (Point kinds.Add 1 0) ∷ by 0 (Publish kinds.Add 1) ∷ []

abbrev log : List Event
log = by 0 (See kinds.Add 1) ∷ by 0 (Announce kinds.Add 1) ∷ by 0 (Arrive kinds.Add 1 5) ∷ by 0 (Look kinds.Add 1) ∷ by 0 (Close kinds.Add 1) ∷ by 0 (See kinds.Add 2) ∷ by 0 (Announce kinds.Add 2) ∷ by 0 (Arrive kinds.Add 2 5) ∷ by 1 (See kinds.Add 1) ∷ by 1 (Announce kinds.Add 1) ∷ by 1 (Arrive kinds.Add 1 7) ∷ by 1 (Look kinds.Add 1) ∷ by 1 (Close kinds.Add 1) ∷ by 1 (See kinds.Add 2) ∷ by 1 (Announce kinds.Add 2) ∷ by 1 (Arrive kinds.Add 2 7) ∷ by 0 (Look kinds.Add 2) ∷ by 0 (Close kinds.Add 2) ∷ by 0 (Apply 12) ∷ by 0 (Head kinds.Add 2) ∷ by 0 (Fill 1 Lo) ∷ by 0 (Fill 1 Base) ∷ by 0 (Fill 1 Prev) ∷ by 0 (Point kinds.Add 2 1) ∷ by 0 (Publish kinds.Add 2) ∷ by 0 (Leave kinds.Add 2) ∷ by 0 (Head kinds.Add 1) ∷ by 0 (Fill 0 Lo) ∷ by 0 (Fill 0 Base) ∷ by 0 (Fill 0 Prev) ∷ by 0 (Point kinds.Add 1 0) ∷ by 0 (Publish kinds.Add 1) ∷ by 0 (Leave kinds.Add 1) ∷ by 1 (Look kinds.Add 2) ∷ by 1 (Head kinds.Add 2) ∷ by 1 (Peek 1 Lo) ∷ by 1 (Peek 1 Base) ∷ by 1 (Leave kinds.Add 2) ∷ by 1 (Head kinds.Add 1) ∷ by 1 (Fill 4 Lo) ∷ by 1 (Fill 4 Base) ∷ by 1 (Fill 4 Prev) ∷ by 1 (Point kinds.Add 1 4) ∷ by 1 (Publish kinds.Add 1) ∷ []

first_replied : stage start (run start first_part (opened start)) kinds.Add 1 0 ≡ Got 10 0
unfolding member
first_replied = refl

second_replied : stage start (run start log (opened start)) kinds.Add 1 1 ≡ Got 15 0
unfolding member
second_replied = refl

main_after : (run start log (opened start)).main ≡ 22
unfolding member
main_after = refl

free_0 : (level : ℕ) → 1 ≤ level → level ≤ 2 → HasFreeRow start (opened start) kinds.Add level 0
unfolding member members
free_0 zero low high = absurd (omega arith)
free_0 (suc zero) low high = (0, refl, inl refl)
free_0 (suc (suc zero)) low high = (0, refl, inl refl)
free_0 (suc (suc (suc level))) low high = absurd (omega arith)

abbrev before_1 : List Event
before_1 = by 0 (See kinds.Add 1) ∷ by 0 (Announce kinds.Add 1) ∷ by 0 (Arrive kinds.Add 1 5) ∷ by 0 (Look kinds.Add 1) ∷ by 0 (Close kinds.Add 1) ∷ by 0 (See kinds.Add 2) ∷ by 0 (Announce kinds.Add 2) ∷ by 0 (Arrive kinds.Add 2 5) ∷ []

free_1 : (level : ℕ) → 1 ≤ level → level ≤ 2 → HasFreeRow start (run start before_1 (opened start)) kinds.Add level 1
unfolding member members
free_1 zero low high = absurd (omega arith)
free_1 (suc zero) low high = (0, refl, inl refl)
free_1 (suc (suc zero)) low high = (1, refl, inl refl)
free_1 (suc (suc (suc level))) low high = absurd (omega arith)

log_legal : Legal start log (opened start)
unfolding member members
log_legal = (
  (omega arith, (refl, inl refl, free_0)),
  (
    (omega arith, (refl, (0, refl))),
    (
      (omega arith, ((refl, (0, refl, omega arith)), (omega arith, omega arith))),
      (
        (omega arith, (refl, (0, refl))),
        (
          (omega arith, (refl, (0, refl))),
          (
            (omega arith, (refl, (0, 5, refl), omega arith)),
            (
              (omega arith, (refl, (0, refl))),
              (
                (omega arith, ((refl, (0, refl, omega arith)), refl)),
                (
                  (omega arith, (refl, inl refl, free_1)),
                  (
                    (omega arith, (refl, (0, refl))),
                    (
                      (omega arith, ((refl, (0, refl, omega arith)), (omega arith, omega arith))),
                      (
                        (omega arith, (refl, (0, refl))),
                        (
                          (omega arith, (refl, (0, refl))),
                          (
                            (omega arith, (refl, (0, 7, refl), omega arith)),
                            (
                              (omega arith, (refl, (0, refl))),
                              (
                                (omega arith, ((refl, (0, refl, omega arith)), refl)),
                                (
                                  (omega arith, (refl, (0, refl))),
                                  (
                                    (omega arith, (refl, (0, refl))),
                                    (
                                      (omega arith, (2, refl, (refl, (0, 12, refl)), refl, refl)),
                                      (
                                        (omega arith, (refl, inl (0, 12, 10, refl))),
                                        (
                                          (omega arith, (kinds.Add, 2, 0, (refl, (0, 12, 10, 0, refl, refl, inl refl, refl)), (omega arith, refl))),
                                          (
                                            (omega arith, (kinds.Add, 2, 0, (refl, (0, 12, 10, 0, refl, refl)), (omega arith, refl))),
                                            (
                                              (omega arith, (kinds.Add, 2, 0, (refl, (0, 12, 10, 0, refl, refl)), (omega arith, refl))),
                                              (
                                                (omega arith, ((refl, (0, 12, 10, 0, refl)), 0, (omega arith, refl), refl)),
                                                (
                                                  (omega arith, (refl, (0, 12, 10, 0, refl))),
                                                  (
                                                    (omega arith, (refl, (10, 0, refl))),
                                                    (
                                                      (omega arith, (refl, inl (0, 5, 10, refl))),
                                                      (
                                                        (omega arith, (kinds.Add, 1, 0, (refl, (0, 5, 10, 0, refl, refl, inl refl, refl)), (omega arith, refl))),
                                                        (
                                                          (omega arith, (kinds.Add, 1, 0, (refl, (0, 5, 10, 0, refl, refl)), (omega arith, refl))),
                                                          (
                                                            (omega arith, (kinds.Add, 1, 0, (refl, (0, 5, 10, 0, refl, refl)), (omega arith, refl))),
                                                            (
                                                              (omega arith, ((refl, (0, 5, 10, 0, refl)), 0, (omega arith, refl), refl)),
                                                              (
                                                                (omega arith, (refl, (0, 5, 10, 0, refl))),
                                                                (
                                                                  (omega arith, (refl, (10, 0, refl))),
                                                                  (
                                                                    (omega arith, (refl, (5, refl))),
                                                                    (
                                                                      (omega arith, (refl, inr (5, refl))),
                                                                      (
                                                                        (omega arith, (kinds.Add, 2, (refl, inl (5, 0, refl)), (0, 0, refl, (omega arith, refl), refl))),
                                                                        (
                                                                          (omega arith, (kinds.Add, 2, (refl, inr (inr (5, 0, 0, refl))), (0, 0, refl, (omega arith, refl), refl))),
                                                                          (
                                                                            (omega arith, (refl, (10, 5, refl))),
                                                                            (
                                                                              (omega arith, (refl, inl (0, 7, 15, refl))),
                                                                              (
                                                                                (omega arith, (kinds.Add, 1, 0, (refl, (0, 7, 15, 0, refl, refl, inl refl, refl)), (omega arith, refl))),
                                                                                (
                                                                                  (omega arith, (kinds.Add, 1, 0, (refl, (0, 7, 15, 0, refl, refl)), (omega arith, refl))),
                                                                                  (
                                                                                    (omega arith, (kinds.Add, 1, 0, (refl, (0, 7, 15, 0, refl, refl)), (omega arith, refl))),
                                                                                    (
                                                                                      (omega arith, ((refl, (0, 7, 15, 0, refl)), 0, (omega arith, refl), refl)),
                                                                                      (
                                                                                        (omega arith, (refl, (0, 7, 15, 0, refl))),
                                                                                        tt,
                                                                                      ),
                                                                                    ),
                                                                                  ),
                                                                                ),
                                                                              ),
                                                                            ),
                                                                          ),
                                                                        ),
                                                                      ),
                                                                    ),
                                                                  ),
                                                                ),
                                                              ),
                                                            ),
                                                          ),
                                                        ),
                                                      ),
                                                    ),
                                                  ),
                                                ),
                                              ),
                                            ),
                                          ),
                                        ),
                                      ),
                                    ),
                                  ),
                                ),
                              ),
                            ),
                          ),
                        ),
                      ),
                    ),
                  ),
                ),
              ),
            ),
          ),
        ),
      ),
    ),
  ),
)

-- both calls stand in the history, in the order of their arrivals
history_after : history_in start (run start log (opened start)) ≡ record { pass = 0; number = 0; kind = kinds.Add; amount = 5 } ∷ record { pass = 1; number = 0; kind = kinds.Add; amount = 7 } ∷ []
unfolding member expand
history_after = refl
