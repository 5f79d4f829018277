-- A few runs, which show that the steps are allowed and do what they are meant to do.
use Rattle.std.proofs.Common.{ap, ◌≡◌, ◌≢◌, inl, inr, ℕ, ◌<◌, List, [], ◌∷◌, ◌++◌, refl, subst, arith}
use Rattle.std.specs.Prelude.{Some}
use Rattle.fn_rows.specs.Machine.{At, Got, Lo, Base, Prev, Step, Scan, See, Announce, Arrive, Look, Close, Hand_base, Head, Fill, Point, Publish, Peek, Leave, start, Lets, AllAllowed}
use Rattle.fn_rows.specs.Law.{IsIn}
use Rattle.fn_rows.specs.Trace.{Batch, Traced, nothing, run}

-- the member arrives with this weight
abbrev arrives : ℕ → ℕ → List Step
arrives m weight = See m ∷ Announce m ∷ Arrive m weight ∷ []

-- the member that leads closes its batch, gets its base and points to it in this row
abbrev points : ℕ → ℕ → ℕ → ℕ → ℕ → List Step
points m r lo base prev = Look m ∷ Close m ∷ Hand_base m base ∷ Head m ∷ Fill m r Lo lo ∷ Fill m r Base base ∷ Fill m r Prev prev ∷ Point m ∷ []

-- members 0 and 1 arrive and 0 closes their batch in row 0; 2 arrives, leads the next batch, and has pointed to it in row 2
abbrev two_batches : List Step
two_batches = arrives 0 5 ++ arrives 1 7 ++ points 0 0 0 100 0 ++ Publish 0 ∷ arrives 2 3 ++ points 2 2 12 200 1

two_batches_linked : (run two_batches nothing).linked ≡ record { lo = 12; hi = 15; base = 200; row = 2; prev = 1 } ∷ record { lo = 0; hi = 12; base = 100; row = 0; prev = 0 } ∷ []
two_batches_linked = refl

two_batches_published : (run two_batches nothing).published ≡ record { lo = 0; hi = 12; base = 100; row = 0; prev = 0 } ∷ []
two_batches_published = refl

-- the late member 1 reads `last` now, and has the row of a batch in hand that isn't published
late_in_between : (run (two_batches ++ Look 1 ∷ Head 1 ∷ []) nothing).stage 1 ≡ At 5 2
late_in_between = refl

-- no published batch stands in that row
late_in_between_unpublished : (b : Batch) → IsIn b (run (two_batches ++ Look 1 ∷ Head 1 ∷ []) nothing).published → b.row ≡ 2 → ⊥
late_in_between_unpublished b (inl first) row = let same : b.row ≡ 0 = ap (λ (x : Batch). x.row) first in omega (arith, same, row)
late_in_between_unpublished b (inr none) row = none

-- it goes over to the batch before, and finds its base
late_then : (run (two_batches ++ Look 1 ∷ Head 1 ∷ Peek 1 ∷ Peek 1 ∷ Peek 1 ∷ Peek 1 ∷ []) nothing).stage 1 ≡ Got 100 5
late_then = refl

-- and each of these steps is allowed
late_allowed : AllAllowed 3 1 (two_batches ++ Look 1 ∷ Head 1 ∷ Peek 1 ∷ Peek 1 ∷ Peek 1 ∷ Peek 1 ∷ []) start
late_allowed = ((omega arith, refl), ((omega arith, (0, refl)), ((omega arith, (0, refl, omega arith)), ((omega arith, refl), ((omega arith, (0, refl)), ((omega arith, (0, refl, omega arith)), ((omega arith, (0, refl)), ((omega arith, (0, refl)), ((omega arith, (0, 12, refl)), ((omega arith, inl (0, 12, 100, refl)), ((omega arith, (0, 12, 100, 0, refl, refl, inl refl, refl)), ((omega arith, (0, 12, 100, 0, refl, refl)), ((omega arith, (0, 12, 100, 0, refl, refl)), ((omega arith, (0, 12, 100, 0, refl)), ((omega arith, (0, 12, 100, 0, refl)), ((omega arith, refl), ((omega arith, (12, refl)), ((omega arith, (12, refl, omega arith)), ((omega arith, (12, refl)), ((omega arith, (12, refl)), ((omega arith, (12, 15, refl)), ((omega arith, inl (12, 15, 200, refl)), ((omega arith, (12, 15, 200, 1, refl, refl, inl refl, refl)), ((omega arith, (12, 15, 200, 1, refl, refl)), ((omega arith, (12, 15, 200, 1, refl, refl)), ((omega arith, (12, 15, 200, 2, refl)), ((omega arith, (5, refl)), ((omega arith, inr (5, refl)), ((omega arith, inl (5, 2, refl)), ((omega arith, inr (inl (5, 2, refl))), ((omega arith, inl (5, 0, refl)), ((omega arith, inr (inr (5, 0, 0, refl))), tt))))))))))))))))))))))))))))))))

-- member 0 fills its only row again, after a scan of the only other member, who has announced nothing
abbrev reuse : List Step
reuse = arrives 0 5 ++ points 0 0 0 100 0 ++ Publish 0 ∷ Leave 0 ∷ Scan 0 1 ∷ arrives 0 4 ++ points 0 0 5 200 1 ++ Publish 0 ∷ []

-- its row names itself as the row of the batch before
reuse_prev : (run reuse nothing).prev 0 ≡ 1
reuse_prev = refl

reuse_published : (run reuse nothing).published ≡ record { lo = 5; hi = 9; base = 200; row = 0; prev = 1 } ∷ record { lo = 0; hi = 5; base = 100; row = 0; prev = 0 } ∷ []
reuse_published = refl

abbrev scanned : Traced
scanned = run (arrives 0 5 ++ points 0 0 0 100 0 ++ Publish 0 ∷ Leave 0 ∷ Scan 0 1 ∷ arrives 0 4 ++ Look 0 ∷ Close 0 ∷ Hand_base 0 200 ∷ Head 0 ∷ []) nothing

only_other : (q : ℕ) → q < 2 → q ≢ 0 → (word : ℕ) × (scanned.found 0 q ≡ Some word) × Lets word (scanned.end 0)
only_other q lt other = let one : 1 ≡ q = omega (arith, lt, other) in subst (λ i. (word : ℕ) × (scanned.found 0 i ≡ Some word) × Lets word (scanned.end 0)) one (0, refl, inl refl)

reuse_allowed : AllAllowed 2 1 reuse start
reuse_allowed = ((omega arith, refl), ((omega arith, (0, refl)), ((omega arith, (0, refl, omega arith)), ((omega arith, (0, refl)), ((omega arith, (0, refl)), ((omega arith, (0, 5, refl)), ((omega arith, inl (0, 5, 100, refl)), ((omega arith, (0, 5, 100, 0, refl, refl, inl refl, refl)), ((omega arith, (0, 5, 100, 0, refl, refl)), ((omega arith, (0, 5, 100, 0, refl, refl)), ((omega arith, (0, 5, 100, 0, refl)), ((omega arith, (0, 5, 100, 0, refl)), ((omega arith, (100, 0, refl)), ((omega arith, (omega arith, λ same. absurd (omega (arith, same)), refl)), ((omega arith, refl), ((omega arith, (5, refl)), ((omega arith, (5, refl, omega arith)), ((omega arith, (5, refl)), ((omega arith, (5, refl)), ((omega arith, (5, 9, refl)), ((omega arith, inl (5, 9, 200, refl)), ((omega arith, (5, 9, 200, 1, refl, refl, inr only_other, refl)), ((omega arith, (5, 9, 200, 1, refl, refl)), ((omega arith, (5, 9, 200, 1, refl, refl)), ((omega arith, (5, 9, 200, 0, refl)), ((omega arith, (5, 9, 200, 0, refl)), tt))))))))))))))))))))))))))

abbrev blocking : Traced
blocking = run (arrives 0 5 ++ arrives 1 7 ++ points 0 0 0 100 0 ++ Publish 0 ∷ Leave 0 ∷ Scan 0 1 ∷ []) nothing

-- a member that has arrived and not looked blocks the row of its batch
blocks : (word : ℕ) → blocking.found 0 1 ≡ Some word → Lets word (blocking.end 0) → ⊥
blocks word found (inl none) = let is : 1 ≡ word = cc (found) in omega (arith, none, is)
blocks word found (inr above) = let is : 1 ≡ word = cc (found) in omega (arith, above, is)
