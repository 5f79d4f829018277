-- What is said of a trace stays in order, and was within the limits before its last records.
use Rattle.std.proofs.Common.{◌≡◌, ◌≢◌, ℕ, ◌+◌, List, [], ◌∷◌, ◌++◌, length, refl, sym, arith, subst, length-append}
use Rattle.std.proofs.Math.ListN.{get_or-append}
use Rattle.std.proofs.lemmas.List.Quantifiers.{all_pairs_push}
use Rattle.trace_text.proofs.LastSegment.{StaysBelow-uncut, StaysBelow-unrow}
use Rattle.trace_text.proofs.Named.{AreApart}
use Rattle.trace_text.proofs.Segments.{CutsRise-cut, CutsRise-more}
use Rattle.trace_text.specs.SoundTrace.{CutsRise}
use Rattle.trace_text.specs.Trace.{Content}
use Rattle.trace_text.specs.TraceGrammar.{Adds, IsWithin, SayAll}
use Rattle.trace_text.specs.declared.fields.Action.{Action}
use Rattle.trace_text.specs.declared.fields.Action.TheVariants.{Open, Settle, Call}
use Rattle.trace_text.specs.declared.fields.Format.{Format}
use Rattle.trace_text.specs.declared.traces.Cut.{Cut}
use Rattle.trace_text.specs.declared.traces.Row.{Row}
use Rattle.trace_text.specs.declared.traces.Tenant.{Tenant}

-- the cuts of a trace rise
abbrev pub Rises : Content → Type 0
Rises trace = CutsRise 0 (length trace.rows) trace.cuts

-- cuts still rise after an action
rises-row : (rows : List Row) (row : Row) (cuts : List Cut) → CutsRise 0 (length rows) cuts → CutsRise 0 (length (rows ++ row ∷ [])) cuts
rises-row rows row cuts rises = rw (length-append rows (row ∷ [])) (CutsRise-more 0 (length rows) cuts rises)

pub adds-rises : (at worker : ℕ) (action : Action) (name : List ℕ) (amount cap : ℕ) (before after : Content) → Adds at worker action name amount cap before after → Rises before → Rises after
adds-rises at worker Open name amount cap before after adds rises = subst Rises (sym adds.1) rises
adds-rises at worker Settle name amount cap before after adds rises = subst Rises (sym adds) (CutsRise-cut 0 (length before.rows) before.cuts (record { at = at; rows = length before.rows }) rises refl)
adds-rises at worker (Call op) name amount cap before after adds rises =
    subst Rises (sym adds.2) (rises-row before.rows (record { at = at; worker = worker; op = op; tenant = adds.0; amount = amount }) before.cuts rises)

-- names are still different after an action
abbrev IsApart : Content → Type 0
IsApart trace = AreApart trace.tenants

pub adds-apart : (at worker : ℕ) (action : Action) (name : List ℕ) (amount cap : ℕ) (before after : Content) → Adds at worker action name amount cap before after
    → AreApart before.tenants → AreApart after.tenants
adds-apart at worker Open name amount cap before after adds apart =
    subst IsApart (sym adds.1) (all_pairs_push (λ (a b : Tenant). a.name ≢ b.name) before.tenants (record { name = name; opening = amount; cap = cap }) apart adds.0)
adds-apart at worker Settle name amount cap before after adds apart = subst IsApart (sym adds) apart
adds-apart at worker (Call op) name amount cap before after adds apart = subst IsApart (sym adds.2) apart

-- what is within the limits was so before an action
within-unopened : (before : Content) (tenant : Tenant) → IsWithin (record { tenants = before.tenants ++ tenant ∷ []; rows = before.rows; cuts = before.cuts }) → IsWithin before
within-unopened before tenant w =
    let count = length-append before.tenants (tenant ∷ []) in
    let few = w.tenants in
    record {
      tenants = omega arith;
      cuts = w.cuts;
      sums = λ i d less. (rw (get_or-append before.tenants (tenant ∷ []) d i less) at (w.sums i d (omega arith)));
    }

within-uncut : (before : Content) (last : Cut) → last.rows ≡ length before.rows → Rises before
    → IsWithin (record { tenants = before.tenants; rows = before.rows; cuts = before.cuts ++ last ∷ [] }) → IsWithin before
within-uncut before last is rises w =
    let count = length-append before.cuts (last ∷ []) in
    let few = w.cuts in
    let all : length before.rows ≡ 0 + length before.rows = omega arith in
    record {
      tenants = w.tenants;
      cuts = omega arith;
      sums = λ i d less. StaysBelow-uncut i _ _ 0 before.rows before.cuts last (rw (← all) rises) (omega arith) (w.sums i d less);
    }

within-unrow : (before : Content) (row : Row) → Rises before
    → IsWithin (record { tenants = before.tenants; rows = before.rows ++ row ∷ []; cuts = before.cuts }) → IsWithin before
within-unrow before row rises w =
    let all : length before.rows ≡ 0 + length before.rows = omega arith in
    record { tenants = w.tenants; cuts = w.cuts; sums = λ i d less. StaysBelow-unrow i _ _ 0 before.rows row before.cuts (rw (← all) rises) (w.sums i d less) }

adds-within : (at worker : ℕ) (action : Action) (name : List ℕ) (amount cap : ℕ) (before after : Content) → Adds at worker action name amount cap before after → Rises before
    → IsWithin after → IsWithin before
adds-within at worker Open name amount cap before after adds rises w = within-unopened before (record { name = name; opening = amount; cap = cap }) (subst IsWithin adds.1 w)
adds-within at worker Settle name amount cap before after adds rises w = within-uncut before (record { at = at; rows = length before.rows }) refl rises (subst IsWithin adds w)
adds-within at worker (Call op) name amount cap before after adds rises w =
    within-unrow before (record { at = at; worker = worker; op = op; tenant = adds.0; amount = amount }) rises (subst IsWithin adds.2 w)

-- what is within the limits was so before all these records
pub said-within : (format : Format) (workers at : ℕ) (rows : List (List (List ℕ))) (before after : Content) → SayAll format workers at rows before after → Rises before
    → IsWithin after → IsWithin before
said-within format workers at [] before after said rises w = subst IsWithin (sym said) w
said-within format workers at (row ∷ rest) before after said rises w =
    let says = said.1 in
    adds-within at says.worker says.action _ says.amount says.cap before said.0 says.adds rises
    (said-within format workers (at + 1) rest said.0 after said.2 (adds-rises at says.worker says.action _ says.amount says.cap before said.0 says.adds rises) w)
