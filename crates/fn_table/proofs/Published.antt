-- What a pass keeps of its rows when it points to one and publishes its end.
use Rattle.std.proofs.Common.{◌≡◌, ◌≢◌, inl, inr, false, ℕ, ◌+◌, ◌-◌, ◌*◌, ◌%◌, ◌<◌, List, length, slice_index, slice_set, refl, sym, ap, ◌∙◌, subst, arith, get_or-set_same}
use Rattle.std.specs.Prelude.{replicate, get_or}
use Rattle.std.proofs.lemmas.Bool.{cases_eq, cases_order}
use Rattle.std.proofs.lemmas.Bool.Decides.{nat_tests}
use Rattle.std.proofs.lemmas.Nat.{mod_below}
use Rattle.std.proofs.lemmas.List.{get_or-set_other, length-set, get_or-replicate, length-replicate}
use Rattle.std.proofs.Math.Nat.{mod-eq_of_lt}
use Rattle.fn_model.specs.declared.Kind.{Kind}
use Rattle.fn_model.specs.declared.Kind.TheVariants.{Read}
use Rattle.fn_rows.specs.declared.Stage.{Stage}
use Rattle.fn_rows.specs.declared.Stage.TheVariants.{Filled, Pointed}
use Rattle.fn_layout.specs.declared.shape.Shape.{Shape}
use Rattle.fn_layout.specs.Tree.{IsLevel, member}
use Rattle.fn_layout.specs.Words.{IsSlot, row_number}
use Rattle.fn_layout.proofs.Numbers.{row_number_below, all_rows_le}
use Rattle.fn_layout.proofs.Rows.{row_apart, row_inside, row_follows}
use Rattle.fn_table.specs.declared.spots.Spot.{Spot}
use Rattle.fn_core.specs.declared.Start.{Start}
use Rattle.fn_core.specs.declared.Move.TheVariants.{Point, Publish}
use Rattle.fn_core.specs.declared.Position.{Position}
use Rattle.fn_core.specs.State.{State, opened}
use Rattle.fn_core.specs.Words.{Own, end_by, own}
use Rattle.fn_core.specs.After.{put_level, pointed_stage, published_stage, published_ends}
use Rattle.fn_core.specs.Positions.{IsClimbing, Fits}
use Rattle.fn_core.specs.Calls.{IsLegal}
use Rattle.fn_core.proofs.Public.{kind_cases, positions_fit, same_kind-refl}
use Rattle.fn_table.specs.declared.tally.Tally.{Tally}
use Rattle.fn_table.specs.Seen.{TableView, PassView, May, Stepped, own_of, fresh}
use Rattle.fn_table.specs.Spots.{spot_of}
use Rattle.fn_table.specs.Kept.{KeepsOwn, Keeps}
use Rattle.fn_table.proofs.Spares.{level_case, same_kind_is}
use Rattle.fn_table.proofs.Keeping.{keeps_after}
use Rattle.fn_table.proofs.Glances.{glances_run}
use Rattle.fn_core.specs.Machine.{MayPoint}

-- a call that stands elsewhere than at a Pointed stage has none
none_points : (levels : ℕ) (stages : Kind → ℕ → Stage) (kind : Kind) (level a c d r : ℕ) → IsClimbing levels stages kind level → stages kind level ≡ Filled a c d r → (k : Kind) (j at hi b row : ℕ) → stages k j ≡ Pointed at hi b row → ⊥
none_points levels stages kind level a c d r f here k j at hi b row h = grind (arith, kind_cases k kind, cases_order j level, f.bottom, f.closed j, f.above j, f.other k j)

pub keeps_point : (p q : PassView) (kind : Kind) (level row n place : ℕ) (t : Tally) → place ≡ row % p.seen.start.shape.rows → IsLegal p.seen → May p (Point kind level row) → Keeps p t → Stepped p (Point kind level row) n q → Keeps q (record t { pointed = place })
keeps_point p q kind level row n place t is legal may k s =
    let o : Own = own_of p in
    let start : Start = p.seen.start in
    let rows : ℕ = start.shape.rows in
    let (at, hi, b, r, stage) = may.1.0.1 in
    let fits : IsClimbing start.shape.levels o.stages kind level = subst (λ (x : Position). Fits start.shape.levels o.stages x) may.1.0.0 (positions_fit start p.seen.log legal.0 legal.1 p.number) in
    let local : member start.shape level p.number * rows + row % rows ≡ r = subst (λ (g : Stage). MayPoint (member start.shape level p.number * rows + row % rows) g) stage may.1.3 in
    subst (λ (x : ℕ). Keeps q (record t { pointed = x })) (sym is) (keeps_after p q (Point kind level row) n (record t { pointed = row % rows }) s (record {
      left = k.left;
      calling = k.calling;
      pointed = λ k' j at' hi' b' row'.
          level_case (λ (g : Stage). g ≡ Pointed at' hi' b' row' → row' ≡ member start.shape j p.number * rows + row % rows) o.stages kind level (pointed_stage (o.stages kind level)) k' j
          (λ same l h. (let there : Pointed at hi b r ≡ Pointed at' hi' b' row' = ap pointed_stage (sym stage) ∙ h in let named : r ≡ row' = cc in sym named ∙ sym local ∙ (λ i. member start.shape (sym l i) p.number * rows + row % rows)))
          (λ h. absurd (none_points start.shape.levels o.stages kind level at hi b r fits stage k' j at' hi' b' row' h));
      inside = mod_below row rows (omega (arith, start.shape.rows_in_range));
      rows = k.rows;
      ends = λ k' l' r' slot inside. k.ends k' l' r' slot inside ∙ level_case (λ (f : ℕ → ℕ). o.ends k' l' r' ≡ f r') o.ends kind level (o.ends kind level) k' l' (λ e l. (λ i. o.ends (e i) (l i) r')) refl;
    }))

-- the end of the row that is published
published_here : (f : Kind → ℕ → ℕ → ℕ) (kind k : Kind) (level l r rows m at hi b row : ℕ) (g : Stage) → g ≡ Pointed at hi b row → k ≡ kind → l ≡ level → m * rows + r % rows ≡ row → hi ≡ put_level f kind level (published_ends rows m g (f kind level)) k l r
published_here f kind k level l r rows m at hi b row g is same here named = grind (arith, nat_tests, same_kind-refl)

-- .. and of each other
published_there : (f : Kind → ℕ → ℕ → ℕ) (kind k : Kind) (level l r rows m at hi b row : ℕ) (g : Stage) → g ≡ Pointed at hi b row → (k ≡ kind → l ≡ level → m * rows + r % rows ≢ row) → f k l r ≡ put_level f kind level (published_ends rows m g (f kind level)) k l r
published_there f kind k level l r rows m at hi b row g is apart = grind (arith, nat_tests, same_kind_is)

pub keeps_publish : (p q : PassView) (kind : Kind) (level end n : ℕ) (t u : Tally) → IsSlot p.seen.start.shape 0 kind level → May p (Publish kind level) → end ≡ end_by ((own_of p).stages kind level) → Keeps p t → Stepped p (Publish kind level) n q
    → u.left ≡ t.left → u.calling ≡ t.calling → u.pointed ≡ t.pointed → u.ends.items ≡ slice_set t.ends.items (row_number p.seen.start.shape 0 kind level t.pointed) end → Keeps q u
keeps_publish p q kind level end n t u slot may is k s left calling same ends =
    let o : Own = own_of p in
    let shape : Shape = p.seen.start.shape in
    let m : ℕ = member shape level p.number in
    let place : ℕ = row_number shape 0 kind level t.pointed in
    let (at, hi, b, r, stage) = may.1.1 in
    let row : r ≡ m * shape.rows + t.pointed = k.pointed kind level at hi b r stage in
    let inside : place < length t.ends.items = subst (λ (x : ℕ). place < x) (sym k.rows) (row_inside shape slot k.inside) in
    keeps_after p q (Publish kind level) n u s (record {
      left = left ∙ k.left;
      calling = calling ∙ k.calling;
      pointed = λ k' j at' hi' b' row'.
          level_case (λ (g : Stage). g ≡ Pointed at' hi' b' row' → row' ≡ member shape j p.number * shape.rows + u.pointed) o.stages kind level (published_stage (o.stages kind level)) k' j
          (λ e l h. (let there = ap published_stage (sym stage) ∙ h in cc))
          (λ h. k.pointed k' j at' hi' b' row' h ∙ ap (λ (x : ℕ). member shape j p.number * shape.rows + x) (sym same));
      inside = subst (λ (x : ℕ). x < shape.rows) (sym same) k.inside;
      rows = ap length ends ∙ length-set t.ends.items place end ∙ k.rows;
      ends = λ k' l' r' slot' inside'.
          (let small : r' % shape.rows ≡ r' = mod-eq_of_lt inside' in
          ap (λ (xs : List ℕ). slice_index xs (row_number shape 0 k' l' r')) ends ∙ elim (cases_eq (row_number shape 0 k' l' r') place) [
            | inl e ↦ (let who = row_apart shape slot slot' k.inside inside' e in
                ap (slice_index (slice_set t.ends.items place end)) e ∙ get_or-set_same t.ends.items place end 0 inside ∙ is ∙ ap end_by stage
                ∙ published_here o.ends kind k' level l' r' shape.rows m at hi b r (o.stages kind level) stage who.0 who.1 (omega (arith, small, who.2, row)))
            | inr ne ↦ get_or-set_other t.ends.items place (row_number shape 0 k' l' r') end 0 ne ∙ k.ends k' l' r' slot' inside'
                ∙ published_there o.ends kind k' level l' r' shape.rows m at hi b r (o.stages kind level) stage (λ e l x. (let named : r' ≡ t.pointed = omega (arith, small, x, row) in ne (λ i. row_number shape 0 (e i) (l i) (named i))))
          ]);
    })

-- what a pass keeps that has taken no step
pub keeps_fresh : (t : TableView) (n : ℕ) (u : Tally) → u.left ≡ get_or t.start.allowances n 0 → u.calling ≡ false → u.pointed ≡ 0 → u.ends.items ≡ replicate (2 * t.start.shape.levels * t.start.shape.rows) 0 → Keeps (fresh t n) u
keeps_fresh t n u left calling pointed ends =
    let start : Start = t.start in
    let same : own start (opened start) n ≡ own_of (fresh t n) = ap (λ (s : State). own start s n) (sym (glances_run start (opened start) (start.shape.passes - 1))) in
    subst (λ (o : Own). KeepsOwn start n o u) same (record {
      left = left;
      calling = calling;
      pointed = λ kind level at hi b row h. cc;
      inside = subst (λ (x : ℕ). x < start.shape.rows) (sym pointed) (omega (arith, start.shape.rows_in_range));
      rows = ap length ends ∙ length-replicate (2 * start.shape.levels * start.shape.rows) 0;
      ends = λ kind level row slot inside.
          ap (λ (xs : List ℕ). slice_index xs (row_number start.shape 0 kind level row)) ends ∙ get_or-replicate (2 * start.shape.levels * start.shape.rows) (row_number start.shape 0 kind level row) 0 0 (row_inside start.shape slot inside);
    })

-- .. of the numbers that its table opens with
pub keeps_at_open : (p : PassView) (t : TableView) (n : ℕ) (shape : Shape) (allowances : List ℕ) (u : Tally) → p ≡ fresh t n → shape ≡ t.start.shape → allowances ≡ t.start.allowances
    → (u.left ≡ get_or allowances n 0) × (u.calling ≡ false) × (u.pointed ≡ 0) → u.ends.items ≡ replicate (2 * shape.levels * shape.rows) 0 → Keeps p u
keeps_at_open p t n shape allowances u is same all fields ends =
    subst (λ (x : PassView). Keeps x u) (sym is)
    (keeps_fresh t n u (fields.0 ∙ ap (λ (xs : List ℕ). get_or xs n 0) all) fields.1 fields.2 (ends ∙ ap (λ (s : Shape). replicate (2 * s.levels * s.rows) 0) same))

-- where the pass keeps the end of a row
pub end_there : (start : Start) (pass : ℕ) (o : Own) (t : Tally) {kind : Kind} {level row : ℕ} {spot : Spot} → KeepsOwn start pass o t → kind ≢ Read → IsLevel start.shape level → row < start.shape.rows → spot ≡ spot_of start.shape pass kind level
    → (spot.end + row ≡ row_number start.shape 0 kind level row) × (spot.end + row < 3072) × (spot.end + row < length t.ends.items) × IsSlot start.shape 0 kind level
end_there start pass o t {kind} {level} {row} {spot} k funnelled is few at =
    let first : IsSlot start.shape 0 kind level = (omega (arith, start.shape.passes_in_range), funnelled, is) in
    let there : spot.end + row ≡ row_number start.shape 0 kind level row = row_follows start.shape 0 kind level row (ap (λ (x : Spot). x.end) at) in
    (there, omega (arith, there, row_number_below start.shape 0 kind level row first few, all_rows_le start.shape), omega (arith, there, row_inside start.shape first few, k.rows), first)
