-- Each tenant of a trace has a name, so that the drawing of one is well-formed.
use Rattle.std.proofs.Common.{◌≡◌, ℕ, true, List, [], ◌∷◌, length, Some, get_or, sym, ap, ◌∙◌, subst}
use Rattle.std.specs.List.{All, list_all}
use Rattle.std.specs.Str.{bytes_eq}
use Rattle.std.specs.Prelude.{◌&&◌, ◌+◌, nat_lt, nat_le}
use Rattle.std.proofs.lemmas.Bool.{and_parts}
use Rattle.std.proofs.lemmas.List.Elements.{All-nil, All-push}
use Rattle.std.proofs.lemmas.List.Quantifiers.{position-Some}
use Rattle.std.proofs.lemmas.Slice.Eq.{bytes_eq-Decides}
use Rattle.picture_svg.proofs.Well.{svg_is_well}
use Rattle.picture_xml.specs.Xml.{IsElement}
use Rattle.quota_pool.specs.declared.moved.Moved.{Moved}
use Rattle.trace_text.specs.Fields.{field, is_name, is_name_byte, is_tenant}
use Rattle.trace_text.specs.Trace.{Content}
use Rattle.trace_text.specs.TraceGrammar.{Adds, SayAll, IsTrace, nothing}
use Rattle.trace_text.specs.declared.fields.Action.{Action}
use Rattle.trace_text.specs.declared.fields.Action.TheVariants.{Open, Settle, Call}
use Rattle.trace_text.specs.declared.fields.Format.{Format}
use Rattle.trace_text.specs.declared.traces.Tenant.{Tenant}
use Rattle.picture_report.specs.Told.{heading_at, marks_at}
use Rattle.replay_report.specs.Report.{answered}
use Rattle.picture_run.specs.Outcome.{IsWell}
use Rattle.picture_run.specs.Texts.{Shows, number_of}
use Rattle.picture_run.specs.declared.words.Picture.{Picture}
use Rattle.picture_run.specs.declared.words.Picture.TheVariants.{Lines, Drawing}

-- each tenant has a name
abbrev HasName : Tenant → Type 0
HasName tenant = is_name tenant.name ≡ true

abbrev HaveNames : Content → Type 0
HaveNames t = All HasName t.tenants

-- what a record adds has one
added_name : (at worker : ℕ) (action : Action) (name : List ℕ) (amount cap : ℕ) (before after : Content) → is_tenant action name ≡ true → Adds at worker action name amount cap before after → HaveNames before → HaveNames after
unfolding is_tenant
added_name at worker Open name amount cap before after is adds named = subst HaveNames (sym adds.1) (All-push HasName before.tenants (record { name = name; opening = amount; cap = cap }) named is)
added_name at worker Settle name amount cap before after is adds named = subst HaveNames (sym adds) named
added_name at worker (Call op) name amount cap before after is adds named = subst HaveNames (sym adds.2) named

-- .. and so what all records add
all_named : (format : Format) (workers at : ℕ) (rows : List (List (List ℕ))) (before after : Content) → SayAll format workers at rows before after → HaveNames before → HaveNames after
all_named format workers at [] before after same named = subst HaveNames same named
all_named format workers at (row ∷ rest) before after (next, says, more) named =
    all_named format workers (at + 1) rest next after more (added_name at says.worker says.action (field row 2) says.amount says.cap before next says.tenant_is says.adds named)

names : (workers : ℕ) (records : List (List (List ℕ))) (t : Content) → IsTrace workers records t → HaveNames t
names workers records t is = all_named is.format workers 1 is.rest nothing t is.said (All-nil HasName)

-- the name that a tenant is found by is its name
found_name : (name : List ℕ) (t : Content) (number : ℕ) → HaveNames t → number_of name t.tenants ≡ Some number → list_all is_name_byte name ≡ true
found_name name t number named found =
    let none : Tenant = record { name = []; opening = 0; cap = 0 } in
    let at = position-Some (λ (tenant : Tenant). bytes_eq tenant.name name) t.tenants number none found in
    let same : (get_or t.tenants number none).name ≡ name = (bytes_eq-Decides (get_or t.tenants number none).name name).0 at.1 in
    let whole : is_name name ≡ true = ap is_name (sym same) ∙ named number none at.0 in
    (and_parts (nat_lt 0 (length name) && nat_le (length name) 32) (list_all is_name_byte name) whole).1

-- what is shown of a trace is well-formed, where it is a drawing
pub shown_well : (picture : Picture) (workers : ℕ) (records : List (List (List ℕ))) (t : Content) (answers : List Moved) (finals text : List ℕ) → IsTrace workers records t → Shows picture t answers finals text → IsWell picture text
shown_well (Lines n) workers records t answers finals text is shows = tt
shown_well (Drawing n name) workers records t answers finals text is (number, found, same) =
    subst IsElement (sym same) (svg_is_well name (heading_at t answers finals number) n (marks_at number (answered t answers)) (found_name name t number (names workers records t is) found))
