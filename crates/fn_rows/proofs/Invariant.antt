-- What each step keeps.
use Rattle.std.proofs.Common.{◌≡◌, ◌⊎◌, inl, inr, ℕ, suc, ◌/◌, ◌<◌, ◌≤◌, List, [], ◌∷◌, refl, ap, arith}
use Rattle.std.specs.Prelude.{⊤, Some, true, false}
use Rattle.std.proofs.lemmas.Bool.{true≢false, false≢true}
use Rattle.fn_rows.specs.Machine.{Stage, Saw, Told, Lead, Late, Shut, Based, Headed, FilledLo, FilledBase, Filled, Pointed, At, Over, Hit, offset, Lets}
use Rattle.fn_rows.specs.Trace.{Batch, Traced, nothing, batch}
use Rattle.fn_rows.specs.Law.{end_of, link_of, IsChained, IsIn, Stands, HasArrived, leads, has_reply, IsAwaited}

-- what a member knows that isn't leading
abbrev pub Calm : ℕ → ℕ → List Batch → Stage → Type 0
Calm done announced linked (Saw seen) = seen ≤ done
Calm done announced linked (Told seen) = (seen ≤ done) × (announced ≡ suc seen)
Calm done announced linked (Late at) = at < done
Calm done announced linked (At at r) = (b : Batch) × IsIn b linked × (b.row ≡ r) × (at < b.hi) × (at < done)
Calm done announced linked (Over at r) = (b : Batch) × IsIn b linked × (b.row ≡ r) × (at < b.hi) × (at < b.lo) × (at < done)
Calm done announced linked (Hit at r lo) = (b : Batch) × IsIn b linked × (b.row ≡ r) × (at < b.hi) × (b.lo ≤ at) × (lo ≡ b.lo) × (at < done)
Calm done announced linked _ = ⊤

-- the member leads with the batch from its offset up to hi
abbrev pub HasClosed : Traced → ℕ → ℕ → ℕ → Type 0
HasClosed s total at hi = (at ≡ s.done) × (at < hi) × (hi ≤ total)

-- what a leading member knows
abbrev pub Leading : Traced → ℕ → (ℕ → Type 0) → Stage → Type 0
Leading s total mine (Lead at) = at ≡ s.done
Leading s total mine (Shut at hi) = HasClosed s total at hi
Leading s total mine (Based at hi b) = HasClosed s total at hi
Leading s total mine (Headed at hi b h) = HasClosed s total at hi × (h ≡ s.last)
Leading s total mine (FilledLo at hi b h r) = HasClosed s total at hi × (h ≡ s.last) × mine r × (s.lo r ≡ at)
Leading s total mine (FilledBase at hi b h r) = HasClosed s total at hi × (h ≡ s.last) × mine r × (s.lo r ≡ at) × (s.base r ≡ b)
Leading s total mine (Filled at hi b r) = HasClosed s total at hi × mine r × (s.lo r ≡ at) × (s.base r ≡ b) × (s.prev r ≡ s.last)
Leading s total mine (Pointed at hi b r) = HasClosed s total at hi × mine r × (s.linked ≡ batch s.state at hi b r ∷ s.published)
Leading s total mine _ = ⊤

-- the member doesn't need the row: it isn't without a reply at an offset below the row's end
abbrev pub IsUnneededBy : Traced → ℕ → ℕ → Type 0
IsUnneededBy s q r = (at : ℕ) → HasArrived s.state q at → s.end r ≤ at

-- no member needs the row
abbrev pub IsUnneeded : Traced → ℕ → Type 0
IsUnneeded s r = (q : ℕ) → IsUnneededBy s q r

-- the row is the member's and nobody needs it
abbrev pub IsOurs : ℕ → Traced → ℕ → ℕ → Type 0
IsOurs rows s m r = (r / rows ≡ m) × IsUnneeded s r

-- the member is in range, its offset was given out, and it announced a number not above it
abbrev pub IsKnown : ℕ → Traced → ℕ → ℕ → Type 0
IsKnown members s m at = (m < members) × (at < s.total) × ((seen : ℕ) × (s.announced m ≡ suc seen) × (seen ≤ at))

-- what a scan that lets the row be filled says
abbrev pub Clears : ℕ → Traced → ℕ → Type 0
Clears rows s m = (q word r : ℕ) → r / rows ≡ m → s.found m q ≡ Some word → Lets word (s.end r) → IsUnneededBy s q r

pub record Inv (members rows : ℕ) (s : Traced) : Type 0 where
  pub chained : IsChained s.linked
  pub last_is : s.last ≡ link_of s.linked
  pub done_is : s.done ≡ end_of s.published
  pub linked_is : (s.linked ≡ s.published) ⊎ IsAwaited s
  pub done_total : s.done ≤ s.total
  pub known : (m at : ℕ) → HasArrived s.state m at → IsKnown members s m at
  pub apart : (m q at : ℕ) → HasArrived s.state m at → HasArrived s.state q at → m ≡ q
  pub calm : (m : ℕ) → Calm s.done (s.announced m) s.linked (s.stage m)
  pub leading : (m : ℕ) → Leading s s.total (IsOurs rows s m) (s.stage m)
  pub standing : (m at : ℕ) (b : Batch) → HasArrived s.state m at → IsIn b s.linked → at < b.hi → Stands s.state b
  pub ends : (b : Batch) → IsIn b s.published → b.hi ≤ s.end b.row
  pub ended : (r : ℕ) → (s.end r ≡ 0) ⊎ ((b : Batch) × IsIn b s.published × (b.row ≡ r) × (b.hi ≡ s.end r))
  pub clear : (m : ℕ) → has_reply (s.stage m) ≡ false → Clears rows s m

pub inv_start : (members rows : ℕ) → Inv members rows nothing
inv_start members rows = record {
  chained = tt;
  last_is = refl;
  done_is = refl;
  linked_is = inl refl;
  done_total = omega arith;
  known = λ m at h. absurd (cc);
  apart = λ m q at h k. absurd (cc);
  calm = λ m. tt;
  leading = λ m. tt;
  standing = λ m at b h i lt. absurd i;
  ends = λ b i. absurd i;
  ended = λ r. inl refl;
  clear = λ m not q word r own f lets. absurd (cc);
}

pub in_below : (l : List Batch) (b : Batch) → IsChained l → IsIn b l → b.hi ≤ end_of l
in_below [] b ch i = absurd i
in_below (x ∷ xs) b ch (inl e) = omega (arith, ap (λ (y : Batch). y.hi) e)
in_below (x ∷ xs) b ch (inr i) = let below : b.hi ≤ end_of xs = in_below xs b ch.3 i in omega (arith, ch.0, ch.1)

-- a batch isn't empty
pub in_order : (l : List Batch) (b : Batch) → IsChained l → IsIn b l → b.lo < b.hi
in_order [] b ch i = absurd i
in_order (x ∷ xs) b ch (inl e) = omega (arith, ap (λ (y : Batch). y.hi) e, ap (λ (y : Batch). y.lo) e, ch.1)
in_order (x ∷ xs) b ch (inr i) = in_order xs b ch.3 i

-- a leading member's offset is `done`
pub led : (s : Traced) (total : ℕ) (mine : ℕ → Type 0) (g : Stage) → leads g ≡ true → Leading s total mine g → offset g ≡ Some s.done
led s total mine (Lead at) is l = ap Some l
led s total mine (Shut at hi) is l = ap Some l.0
led s total mine (Based at hi b) is l = ap Some l.0
led s total mine (Headed at hi b h) is l = ap Some l.0.0
led s total mine (FilledLo at hi b h r) is l = ap Some l.0.0
led s total mine (FilledBase at hi b h r) is l = ap Some l.0.0
led s total mine (Filled at hi b r) is l = ap Some l.0.0
led s total mine (Pointed at hi b r) is l = ap Some l.0.0
led s total mine _ is l = absurd (false≢true is)

pub not_leading : (s : Traced) (total : ℕ) (mine : ℕ → Type 0) (g : Stage) → leads g ≡ false → Leading s total mine g
not_leading s total mine (Lead at) is = absurd (true≢false is)
not_leading s total mine (Shut at hi) is = absurd (true≢false is)
not_leading s total mine (Based at hi b) is = absurd (true≢false is)
not_leading s total mine (Headed at hi b h) is = absurd (true≢false is)
not_leading s total mine (FilledLo at hi b h r) is = absurd (true≢false is)
not_leading s total mine (FilledBase at hi b h r) is = absurd (true≢false is)
not_leading s total mine (Filled at hi b r) is = absurd (true≢false is)
not_leading s total mine (Pointed at hi b r) is = absurd (true≢false is)
not_leading s total mine _ is = tt

-- more arrivals, and rows that are needed no more than before
pub leading_more : (s : Traced) (total total' : ℕ) (mine mine' : ℕ → Type 0) (g : Stage) → total ≤ total' → ((r : ℕ) → mine r → mine' r) → Leading s total mine g → Leading s total' mine' g
leading_more s total total' mine mine' (Lead at) le f l = l
leading_more s total total' mine mine' (Shut at hi) le f l = (l.0, l.1, omega (arith, l.2))
leading_more s total total' mine mine' (Based at hi b) le f l = (l.0, l.1, omega (arith, l.2))
leading_more s total total' mine mine' (Headed at hi b h) le f l = ((l.0.0, l.0.1, omega (arith, l.0.2)), l.1)
leading_more s total total' mine mine' (FilledLo at hi b h r) le f l = ((l.0.0, l.0.1, omega (arith, l.0.2)), l.1, f r l.2, l.3)
leading_more s total total' mine mine' (FilledBase at hi b h r) le f l = ((l.0.0, l.0.1, omega (arith, l.0.2)), l.1, f r l.2, l.3, l.4)
leading_more s total total' mine mine' (Filled at hi b r) le f l = ((l.0.0, l.0.1, omega (arith, l.0.2)), f r l.1, l.2, l.3, l.4)
leading_more s total total' mine mine' (Pointed at hi b r) le f l = ((l.0.0, l.0.1, omega (arith, l.0.2)), f r l.1, l.2)
leading_more s total total' mine mine' _ le f l = tt

-- a later `done`, and more batches
pub calm_more : (done done' announced : ℕ) (linked linked' : List Batch) (g : Stage) → done ≤ done' → ((b : Batch) → IsIn b linked → IsIn b linked') → Calm done announced linked g → Calm done' announced linked' g
calm_more done done' announced linked linked' (Saw seen) le f l = omega (arith, l)
calm_more done done' announced linked linked' (Told seen) le f l = (omega (arith, l.0), l.1)
calm_more done done' announced linked linked' (Late at) le f l = omega (arith, l)
calm_more done done' announced linked linked' (At at r) le f l = (l.0, f l.0 l.1, l.2, l.3, omega (arith, l.4))
calm_more done done' announced linked linked' (Over at r) le f l = (l.0, f l.0 l.1, l.2, l.3, l.4, omega (arith, l.5))
calm_more done done' announced linked linked' (Hit at r lo) le f l = (l.0, f l.0 l.1, l.2, l.3, l.4, l.5, omega (arith, l.6))
calm_more done done' announced linked linked' _ le f l = tt
