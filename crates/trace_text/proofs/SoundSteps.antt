-- What is known stays sound, whatever records come.
use Rattle.std.proofs.Common.{◌≡◌, ◌≢◌, ℕ, ◌+◌, ◌<◌, ◌≤◌, true, false, List, [], ◌∷◌, ◌++◌, length, map, set, get_or, Ok, inl, inr, refl, sym, arith}
use Rattle.std.specs.Prelude.{◌==◌}
use Rattle.std.specs.List.{All}
use Rattle.std.proofs.Common.{subst, length-append}
use Rattle.std.proofs.lemmas.Bool.{cases_eq, cases_lt, eq-eqb, ne_eqb}
use Rattle.std.proofs.Math.ListN.{get_or-append}
use Rattle.std.proofs.Math.Seq.{get_or-append_seam}
use Rattle.std.proofs.lemmas.List.{get_or-map, get_or-set_other, get_or-set_same, length-map, length-set}
use Rattle.std.proofs.lemmas.List.Elements.{All-map, All-push, All-set}
use Rattle.trace_text.proofs.Segments.{CutsRise-cut, CutsRise-more, StaysBelow-cut, StaysBelow-fresh, StaysBelow-row, cost, cost-own, ended-cut, ended-fresh, ended-row, gain, gain-own, reached, spent_in}
use Rattle.trace_text.proofs.Moves.{Move, opens, settles, calls, record_after-ok}
use Rattle.trace_text.specs.Accounts.{AreHeld, IsHeld}
use Rattle.trace_text.specs.SoundTrace.{CutsRise, IsSoundRow, IsSoundTrace, IsWithinCap, StaysBelow, additions, amounts}
use Rattle.trace_text.specs.Trace.{State, account_after, account_at, account_of, account_settled, added, content_of, no_account, record_after, start}
use Rattle.trace_text.specs.declared.fields.Format.{Format}
use Rattle.text_lines.specs.declared.pieces.TheConstants.{MOST_NUMBER}
use Rattle.trace_text.specs.declared.tenants.Account.{Account}
use Rattle.trace_text.specs.declared.tenants.TheConstants.{MOST_TENANTS}
use Rattle.trace_text.specs.declared.tracing.TheConstants.{MOST_CUTS, MOST_RECORDS}
use Rattle.trace_text.specs.declared.traces.Cut.{Cut}
use Rattle.trace_text.specs.declared.traces.Op.{Op}
use Rattle.trace_text.specs.declared.traces.Op.TheVariants.{Add, Take, Direct, Read}
use Rattle.trace_text.specs.declared.traces.Row.{Row}

-- an account has the numbers that the rows give, and they stay below 2^63
pub record Agrees (place : ℕ) (account : Account) (rows : List Row) (cuts : List Cut) : Type 0 where
  pub within : IsWithinCap account.tenant
  pub reach : account.reach ≡ reached place account.tenant.cap account.tenant.opening rows cuts
  pub used : account.used ≡ spent_in place account.tenant.cap account.tenant.opening rows cuts
  pub below : StaysBelow place account.tenant.cap account.tenant.opening 0 rows cuts

-- what is known is sound
pub record IsSoundState (workers : ℕ) (state : State) : Type 0 where
  pub few : length state.accounts ≤ MOST_TENANTS
  pub held : All IsHeld state.accounts
  pub rows : All (IsSoundRow workers (length state.accounts)) state.rows
  pub cuts_few : length state.cuts ≤ MOST_CUTS
  pub cuts : CutsRise 0 (length state.rows) state.cuts
  pub agree : (i : ℕ) (d : Account) → i < length state.accounts → Agrees i (get_or state.accounts i d) state.rows state.cuts

pub sound-start : (workers : ℕ) → IsSoundState workers start
sound-start workers = record { few = omega arith; held = λ k d less. absurd (omega arith); rows = λ k d less. absurd (omega arith); cuts_few = omega arith; cuts = omega arith; agree = λ i d less. absurd (omega arith) }

-- a tenant that is opened
IsHeld-opened : (name : List ℕ) (opening cap : ℕ) → opening ≤ cap → cap ≤ MOST_NUMBER → IsHeld (account_of name opening cap)
IsHeld-opened name opening cap least most = record { among = omega arith; below = omega arith }

Agrees-opened : (place : ℕ) (name : List ℕ) (opening cap : ℕ) (rows : List Row) (cuts : List Cut) → opening ≤ cap → cap ≤ MOST_NUMBER
    → All (λ row. row.tenant < place) rows → Agrees place (account_of name opening cap) rows cuts
Agrees-opened place name opening cap rows cuts least most none =
    record {
      within = record { opening = least; cap = omega arith };
      reach = sym (ended-fresh (gain place) place cap opening 0 rows cuts (gain-own place) none least);
      used = sym (ended-fresh (cost place) place cap opening 0 rows cuts (cost-own place) none least);
      below = StaysBelow-fresh place cap opening 0 rows cuts none least (omega arith);
    }

IsSoundRow-wider : (workers tenants more : ℕ) (row : Row) → tenants ≤ more → IsSoundRow workers tenants row → IsSoundRow workers more row
IsSoundRow-wider workers tenants more row le s = record { worker = s.worker; tenant = (let below = s.tenant in omega arith); amount = s.amount }

agree-push : (accounts : List Account) (new : Account) (rows : List Row) (cuts : List Cut)
    → ((i : ℕ) (d : Account) → i < length accounts → Agrees i (get_or accounts i d) rows cuts) → Agrees (length accounts) new rows cuts
    → (i : ℕ) (d : Account) → i < length (accounts ++ new ∷ []) → Agrees i (get_or (accounts ++ new ∷ []) i d) rows cuts
agree-push accounts new rows cuts old last i d less =
    elim (cases_lt i (length accounts)) [
      | inl below ↦ rw (get_or-append accounts (new ∷ []) d i below) (old i d below)
      | inr above ↦
          let count = length-append accounts (new ∷ []) in
          let same : length accounts ≡ i = omega arith in
          subst (λ (n : ℕ). Agrees n (get_or (accounts ++ new ∷ []) n d) rows cuts) same (rw (get_or-append_seam accounts new [] d) last)
    ]

sound-opened : (workers : ℕ) (state : State) (name : List ℕ) (opening cap : ℕ) → IsSoundState workers state → length state.accounts < MOST_TENANTS → opening ≤ cap → cap ≤ MOST_NUMBER
    → IsSoundState workers (record { accounts = state.accounts ++ account_of name opening cap ∷ []; rows = state.rows; cuts = state.cuts })
sound-opened workers state name opening cap s room least most =
    let count : length (state.accounts ++ account_of name opening cap ∷ []) ≡ length state.accounts + 1 = length-append state.accounts (account_of name opening cap ∷ []) in
    record {
      few = omega arith;
      held = All-push IsHeld state.accounts (account_of name opening cap) s.held (IsHeld-opened name opening cap least most);
      rows = λ k d less. IsSoundRow-wider workers (length state.accounts) _ (get_or state.rows k d) (omega arith) (s.rows k d less);
      cuts_few = s.cuts_few;
      cuts = s.cuts;
      agree = agree-push state.accounts (account_of name opening cap) state.rows state.cuts s.agree
          (Agrees-opened (length state.accounts) name opening cap state.rows state.cuts least most (λ k d less. (s.rows k d less).tenant));
    }

-- a segment that ends
IsHeld-settled : (account : Account) → IsHeld account → IsHeld (account_settled account)
IsHeld-settled account h = let among = h.among in let below = h.below in record { among = omega arith; below = omega arith }

Agrees-settled : (place : ℕ) (account : Account) (rows : List Row) (cuts : List Cut) (last : Cut) → CutsRise 0 (length rows) cuts → last.rows ≡ length rows
    → IsHeld account → Agrees place account rows cuts → Agrees place (account_settled account) rows (cuts ++ last ∷ [])
Agrees-settled place account rows cuts last rise is held a =
    let among = held.among in
    let below = held.below in
    let all : length rows ≡ 0 + length rows = omega arith in
    let rises : CutsRise 0 (0 + length rows) cuts = rw (← all) rise in
    let ends : last.rows ≡ 0 + length rows = omega arith in
    let reach = a.reach in
    record {
      within = a.within;
      reach = rw (ended-cut (additions place) place account.tenant.cap account.tenant.opening 0 rows cuts last refl rises ends, ← reach) refl;
      used = rw (ended-cut (amounts place) place account.tenant.cap account.tenant.opening 0 rows cuts last refl rises ends, ← reach) refl;
      below = StaysBelow-cut place account.tenant.cap account.tenant.opening 0 rows cuts last rises ends a.below (rw (← reach) (omega arith));
    }

sound-settled : (workers at : ℕ) (state : State) → IsSoundState workers state → length state.cuts < MOST_CUTS
    → IsSoundState workers (record { accounts = map account_settled state.accounts; rows = state.rows; cuts = state.cuts ++ record { at = at; rows = length state.rows } ∷ [] })
sound-settled workers at state s room =
    let count : length (map account_settled state.accounts) ≡ length state.accounts = length-map state.accounts account_settled in
    let cuts_count : length (state.cuts ++ record { at = at; rows = length state.rows } ∷ []) ≡ length state.cuts + 1 = length-append state.cuts (record { at = at; rows = length state.rows } ∷ []) in
    record {
      few = (let few = s.few in omega arith);
      held = All-map IsHeld account_settled state.accounts (λ k d less. IsHeld-settled (get_or state.accounts k d) (s.held k d less));
      rows = rw count s.rows;
      cuts_few = omega arith;
      cuts = CutsRise-cut 0 (length state.rows) state.cuts (record { at = at; rows = length state.rows }) s.cuts refl;
      agree = λ i d less.
          (let there : i < length state.accounts = omega arith in
          rw (get_or-map account_settled state.accounts i d d there)
          (Agrees-settled i (get_or state.accounts i d) state.rows state.cuts (record { at = at; rows = length state.rows }) s.cuts refl (s.held i d there) (s.agree i d there)));
    }

-- a worker that calls
added-le : (op : Op) (amount : ℕ) → added op amount ≤ amount
added-le Add amount = omega arith
added-le Take amount = omega arith
added-le Direct amount = omega arith
added-le Read amount = omega arith

IsHeld-after : (op : Op) (amount : ℕ) (account : Account) → account.used + amount ≤ MOST_NUMBER → IsHeld account → IsHeld (account_after op amount account)
IsHeld-after op amount account small h = let among = h.among in let le = added-le op amount in record { among = omega arith; below = small }

-- an account after a row, whatever its tenant
Agrees-row : (place : ℕ) (account after : Account) (rows : List Row) (row : Row) (cuts : List Cut) → CutsRise 0 (length rows) cuts → after.tenant ≡ account.tenant
    → after.reach ≡ account.reach + gain place row → after.used ≡ account.used + cost place row → after.used ≤ MOST_NUMBER
    → Agrees place account rows cuts → Agrees place after (rows ++ row ∷ []) cuts
Agrees-row place account after rows row cuts rise same reach_is used_is small a =
    let all : length rows ≡ 0 + length rows = omega arith in
    let rises : CutsRise 0 (0 + length rows) cuts = rw (← all) rise in
    let reach = a.reach in
    let used = a.used in
    let more = ended-row (cost place) place account.tenant.cap account.tenant.opening 0 rows row cuts rises in
    let wide = ended-row (gain place) place account.tenant.cap account.tenant.opening 0 rows row cuts rises in
    record {
      within = rw same a.within;
      reach = rw (same, reach_is, reach, wide) refl;
      used = rw (same, used_is, used, more) refl;
      below = rw same (StaysBelow-row place account.tenant.cap account.tenant.opening 0 rows row cuts rises a.below (omega arith));
    }

-- the account of the row's tenant, and of another
Agrees-after : (account : Account) (rows : List Row) (row : Row) (cuts : List Cut) → CutsRise 0 (length rows) cuts → account.used + row.amount ≤ MOST_NUMBER
    → Agrees row.tenant account rows cuts → Agrees row.tenant (account_after row.op row.amount account) (rows ++ row ∷ []) cuts
Agrees-after account rows row cuts rise small a =
    let own : (row.tenant == row.tenant) ≡ true = eq-eqb row.tenant row.tenant refl in
    Agrees-row row.tenant account (account_after row.op row.amount account) rows row cuts rise refl (rw own refl) (rw own refl) small a

Agrees-other : (place : ℕ) (account : Account) (rows : List Row) (row : Row) (cuts : List Cut) → CutsRise 0 (length rows) cuts → place ≢ row.tenant → IsHeld account
    → Agrees place account rows cuts → Agrees place account (rows ++ row ∷ []) cuts
Agrees-other place account rows row cuts rise other held a =
    let not_own : (row.tenant == place) ≡ false = ne_eqb row.tenant place (λ same. other (sym same)) in
    Agrees-row place account account rows row cuts rise refl (rw not_own (omega arith)) (rw not_own (omega arith)) held.below a

sound-called : (workers : ℕ) (state : State) (row : Row) → IsSoundState workers state → IsSoundRow workers (length state.accounts) row
    → (account_at state.accounts row.tenant).used + row.amount ≤ MOST_NUMBER
    → IsSoundState workers (record { accounts = set state.accounts row.tenant (account_after row.op row.amount (account_at state.accounts row.tenant)); rows = state.rows ++ row ∷ []; cuts = state.cuts })
sound-called workers state row s sound small =
    let count : length (set state.accounts row.tenant (account_after row.op row.amount (account_at state.accounts row.tenant))) ≡ length state.accounts = length-set state.accounts row.tenant _ in
    let rows_count : length (state.rows ++ row ∷ []) ≡ length state.rows + 1 = length-append state.rows (row ∷ []) in
    let there = sound.tenant in
    record {
      few = (let few = s.few in omega arith);
      held = All-set IsHeld state.accounts row.tenant _ (IsHeld-after row.op row.amount (account_at state.accounts row.tenant) small (s.held row.tenant no_account there)) s.held;
      rows = rw count (All-push (IsSoundRow workers (length state.accounts)) state.rows row s.rows sound);
      cuts_few = s.cuts_few;
      cuts = rw rows_count (CutsRise-more 0 (length state.rows) state.cuts s.cuts);
      agree = λ i d less.
          (let within : i < length state.accounts = omega arith in
          elim (cases_eq i row.tenant) [
            | inl same ↦ rw (same, get_or-set_same state.accounts row.tenant (account_after row.op row.amount (account_at state.accounts row.tenant)) d there)
                (Agrees-after (account_at state.accounts row.tenant) state.rows row state.cuts s.cuts small (s.agree row.tenant no_account there))
            | inr other ↦ rw (get_or-set_other state.accounts row.tenant i (account_after row.op row.amount (account_at state.accounts row.tenant)) d other)
                (Agrees-other i (get_or state.accounts i d) state.rows row state.cuts s.cuts other (s.held i d within) (s.agree i d within))
          ]);
    }

-- a step keeps it
sound-move : (workers at : ℕ) (state next : State) → IsSoundState workers state → Move workers at state next → IsSoundState workers next
sound-move workers at state next s (opens o) = rw o.is (sound-opened workers state o.name o.opening o.cap s o.room o.least o.most)
sound-move workers at state next s (settles e) = rw e.is (sound-settled workers at state s e.room)
sound-move workers at state next s (calls c) =
    rw c.is (sound-called workers state (record { at = at; worker = c.worker; op = c.op; tenant = c.place; amount = c.amount }) s
    (record { worker = c.worker_is; tenant = c.place_is; amount = c.amount_is }) c.below)

pub sound-step : (format : Format) (workers at : ℕ) (row : List (List ℕ)) (state next : State) → IsSoundState workers state
    → record_after format workers at row state ≡ Ok next → (at ≤ MOST_RECORDS) × IsSoundState workers next
sound-step format workers at row state next sound h =
    let done = record_after-ok format workers at row state next h in (done.0, sound-move workers at state next sound done.1)

-- the trace is sound
pub sound-trace : (workers : ℕ) (state : State) → IsSoundState workers state → IsSoundTrace workers (content_of state)
sound-trace workers state s =
    let count : length (map (λ (account : Account). account.tenant) state.accounts) ≡ length state.accounts = length-map state.accounts (λ (account : Account). account.tenant) in
    record {
      few = (let few = s.few in omega arith);
      tenants = All-map IsWithinCap (λ (account : Account). account.tenant) state.accounts (λ k d less. (s.agree k d less).within);
      rows = rw count s.rows;
      cuts_few = (let few = s.cuts_few in omega arith);
      cuts = s.cuts;
      below = λ i d less.
          (let there : i < length state.accounts = omega arith in
          rw (get_or-map (λ (account : Account). account.tenant) state.accounts i no_account d there) (s.agree i no_account there).below);
    }

pub AreHeld-sound : (workers : ℕ) (state : State) → IsSoundState workers state → AreHeld state.accounts
AreHeld-sound workers state sound = record { few = sound.few; each = sound.held }
