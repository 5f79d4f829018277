-- The records that were read, and those that are left.
use Rattle.std.proofs.Common.{◌≡◌, ◌⊎◌, ◌+◌, ◌<◌, ℕ, zero, suc, Bool, true, false, List, [], ◌∷◌, ◌++◌, length, Option, Some, None, arith, refl, ap, inl, inr, add-one}
use Rattle.std.specs.Prelude.{if◌then◌else◌}
use Rattle.csv.specs.Machine.{Read, next_record, ends_at_end, is_end, step, fields_after, field_after}
use Rattle.csv.specs.Reading.{default_config, records_from, records_next}
use Rattle.trace_text.specs.Left.{records_in}
use Rattle.csv.specs.declared.parser.Config.{Config}
use Rattle.csv.specs.declared.parser.State.{State}
use Rattle.csv.specs.declared.parser.State.TheVariants as st

-- so many turns read all records of a text
Suffices : ℕ → State → List ℕ → Type 0
Suffices n s xs = (length xs < n) ⊎ ((xs ≡ []) × (s ≡ st.StartRecord))

at_end : (b : Bool) (row : List (List ℕ)) (p : Read) → (if b then Some (row, st.StartRecord, []) else None) ≡ Some p
    → (p.2 ≡ []) × (p.1 ≡ st.StartRecord)
at_end true row p e = (cc, cc)
at_end false row p e = cc

at_byte : (b : Bool) (row : List (List ℕ)) (s2 : State) (c : ℕ) (rest : List ℕ) (more : Option Read) (p : Read)
    → (more ≡ Some p → (length p.2 < length rest) ⊎ ((p.2 ≡ []) × (p.1 ≡ st.StartRecord)))
    → (if b then Some (row, s2, rest) else more) ≡ Some p
    → (length p.2 < length (c ∷ rest)) ⊎ ((p.2 ≡ []) × (p.1 ≡ st.StartRecord))
at_byte true row s2 c rest more p later e = let same : p.2 ≡ rest = cc in inl (rw same (omega arith))
at_byte false row s2 c rest more p later e =
    elim (later e) [ inl less ↦ inl (omega arith) | inr last ↦ inr last ]

-- a record takes a byte, or is the last
next-shorter : (cfg : Config) (s : State) (fields : List (List ℕ)) (field xs : List ℕ) (p : Read) → next_record cfg s fields field xs ≡ Some p
    → (length p.2 < length xs) ⊎ ((p.2 ≡ []) × (p.1 ≡ st.StartRecord))
unfolding next_record
next-shorter cfg s fields field [] p e = inr (at_end (ends_at_end s) (fields ++ (field ∷ [])) p e)
next-shorter cfg s fields field (c ∷ rest) p e =
    at_byte (is_end (step cfg s c).1) (fields_after (step cfg s c).1 fields field) (step cfg s c).0 c rest
    (next_record cfg (step cfg s c).0 (fields_after (step cfg s c).1 fields field) (field_after (step cfg s c).1 c field) rest) p
    (next-shorter cfg (step cfg s c).0 (fields_after (step cfg s c).1 fields field) (field_after (step cfg s c).1 c field) rest p)
    e

-- at the start of a text of no bytes there is no record
none_at_start : (cfg : Config) (s : State) (xs : List ℕ) → xs ≡ [] → s ≡ st.StartRecord → next_record cfg s [] [] xs ≡ None
unfolding next_record
none_at_start cfg s xs x e = rw (x, e) refl

-- where so many turns suffice, one fewer do after a record
Suffices-next : (cfg : Config) (n : ℕ) (s : State) (xs : List ℕ) (p : Read) → Suffices (suc n) s xs → next_record cfg s [] [] xs ≡ Some p
    → Suffices n p.1 p.2
unfolding Suffices
Suffices-next cfg n s xs p (inl enough) e =
    elim (next-shorter cfg s [] [] xs p e) [ inl less ↦ inl (omega arith) | inr last ↦ inr last ]
Suffices-next cfg n s xs p (inr empty) e =
    let none = none_at_start cfg s xs empty.0 empty.1 in cc

each_next : (o : Option Read) (f g : State → List ℕ → List (List (List ℕ))) → ((r : Read) → o ≡ Some r → f r.1 r.2 ≡ g r.1 r.2)
    → records_next f o ≡ records_next g o
each_next None f g same = refl
each_next (Some r) f g same = ap (λ rest. r.0 ∷ rest) (same r refl)

-- any two numbers of turns that suffice give the same records
same_records : (cfg : Config) (n m : ℕ) (s : State) (xs : List ℕ) → Suffices n s xs → Suffices m s xs
    → records_from cfg n s xs ≡ records_from cfg m s xs
unfolding records_from Suffices
same_records cfg zero zero s xs p q = refl
same_records cfg zero (suc m) s xs (inl p) q = absurd (omega arith)
same_records cfg zero (suc m) s xs (inr p) q = rw (none_at_start cfg s xs p.0 p.1) refl
same_records cfg (suc n) zero s xs p (inl q) = absurd (omega arith)
same_records cfg (suc n) zero s xs p (inr q) = rw (none_at_start cfg s xs q.0 q.1) refl
same_records cfg (suc n) (suc m) s xs p q =
    each_next (next_record cfg s [] [] xs) (records_from cfg n) (records_from cfg m)
    (λ r e. same_records cfg n m r.1 r.2 (Suffices-next cfg n s xs r p e) (Suffices-next cfg m s xs r q e))

-- a record that was read stood before those that are left
pub records_in-some : (s : State) (text : List ℕ) (r : Read) → next_record default_config s [] [] text ≡ Some r
    → records_in s (Some text) ≡ r.0 ∷ records_in r.1 (Some r.2)
unfolding records_from Suffices
records_in-some s text r e =
    let enough = Suffices-next default_config (length text) s text r (inl (omega arith)) e in
    let same = same_records default_config (length text) (length r.2 + 1) r.1 r.2 enough (inl (omega arith)) in
    rw (add-one (length text), e, same) refl

-- where no record was read, none is left
pub records_in-none : (s : State) (text : List ℕ) → next_record default_config s [] [] text ≡ None → records_in s (Some text) ≡ []
unfolding records_from
records_in-none s text e = rw (add-one (length text), e) refl
