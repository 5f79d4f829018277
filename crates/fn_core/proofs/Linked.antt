-- The words that name rows are read back, since each row that is linked is a member's.
use Rattle.std.proofs.Common.{◌≡◌, inl, inr, ℕ, zero, suc, ◌+◌, ◌*◌, ◌/◌, ◌%◌, ◌<◌, List, [], ◌∷◌, refl, sym, ap, subst, ◌∙◌, arith}
use Rattle.std.proofs.lemmas.Nat.{div-mul-add, mod-mul-add, mod_below, div-add-mod'}
use Rattle.fn_model.specs.declared.Kind.{Kind}
use Rattle.fn_rows.specs.Trace.{Batch, Traced, nothing}
use Rattle.fn_rows.specs.Trace as trace
use Rattle.fn_rows.specs.Law.{IsIn, IsChained, link_of}
use Rattle.fn_rows.proofs.Invariant.{inv_start}
use Rattle.fn_rows.proofs.Walks.{Walks, walks_start, walks_reach}
use Rattle.fn_layout.specs.declared.shape.Shape.{Shape}
use Rattle.fn_layout.specs.Kinds.{IsFunnelled}
use Rattle.fn_layout.specs.Tree.{width, members, pass_of, IsLevel}
use Rattle.fn_layout.specs.Words.{slot_number, row_number}
use Rattle.fn_layout.proofs.Members.{numbers_are_members}
use Rattle.fn_layout.proofs.Read.{ReadsSlot, reads_slot}
use Rattle.fn_core.specs.declared.Event.{Event}
use Rattle.fn_core.specs.declared.Start.{Start}
use Rattle.fn_core.specs.State.{State, opened}
use Rattle.fn_core.specs.Machine.{IsStart, Legal, run, local_row}
use Rattle.fn_core.specs.Words.{link, row_there, NamesMine}
use Rattle.fn_core.specs.After.{row_read}
use Rattle.fn_core.proofs.Laws.{holds}

module _ (shape : Shape) (kind : Kind) (level index : ℕ) (f : IsFunnelled kind) (l : IsLevel shape level) (w : index < width shape level) where
  row_read-there : (r : ℕ) → r / shape.rows < members shape level index → row_read shape (suc (row_there shape kind level index r)) ≡ suc r
  row_read-there r range =
      let m = numbers_are_members shape level index (r / shape.rows) w range in
      let p : ℕ = pass_of shape level index (r / shape.rows) in
      let slot : ℕ = slot_number shape p kind level in
      let within : r % shape.rows < shape.rows = mod_below r shape.rows (omega arith) in
      let row : ℕ = row_number shape p kind level (r % shape.rows) in
      let whole : row / shape.rows ≡ slot = div-mul-add slot shape.rows (r % shape.rows) within in
      let rest : row % shape.rows ≡ r % shape.rows = mod-mul-add slot shape.rows (r % shape.rows) within in
      let read : ReadsSlot shape p kind level slot = reads_slot shape p kind level f l in
      ap (λ (x : ℕ). suc (local_row shape (suc (x % shape.levels)) (x / shape.levels / 2) row)) whole
      ∙ ap (λ (x : ℕ). suc (local_row shape x (slot / shape.levels / 2) row)) read.of_level
      ∙ ap (λ (x : ℕ). suc (local_row shape level x row)) read.of_pass
      ∙ ap (λ (x : ℕ). suc (x * shape.rows + row % shape.rows)) m.2
      ∙ ap (λ (x : ℕ). suc (r / shape.rows * shape.rows + x)) rest ∙ ap suc (div-add-mod' r shape.rows)

  pub row_read-link : (word : ℕ) → NamesMine shape level index word → row_read shape (link shape kind level index word) ≡ word
  row_read-link zero h = refl
  row_read-link (suc r) (inl none) = absurd (cc)
  row_read-link (suc r) (inr (q, e, range)) = row_read-there r (let same : q ≡ r = omega (arith, e) in subst (λ (x : ℕ). x / shape.rows < members shape level index) same range)

module _ (shape : Shape) (level index : ℕ) where
  pub link_mine : (linked : List Batch) → ((b : Batch) → IsIn b linked → b.row / shape.rows < members shape level index) → NamesMine shape level index (link_of linked)
  link_mine [] owned = inl refl
  link_mine (b ∷ bs) owned = inr (b.row, refl, owned b (inl refl))

  pub prev_mine : (linked : List Batch) → ((b : Batch) → IsIn b linked → b.row / shape.rows < members shape level index) → IsChained linked → (b : Batch) → IsIn b linked → NamesMine shape level index b.prev
  prev_mine [] owned chained b h = absurd h
  prev_mine (c ∷ cs) owned chained b (inl e) = subst (NamesMine shape level index) (sym (ap (λ (x : Batch). x.prev) e ∙ chained.2)) (link_mine cs (λ d i. owned d (inr i)))
  prev_mine (c ∷ cs) owned chained b (inr i) = prev_mine cs (λ d j. owned d (inr j)) chained.3 b i

-- each row that is linked is a member's
pub linked_owned : (start : Start) (log : List Event) → IsStart start → Legal start log (opened start) → (kind : Kind) (level index : ℕ) (b : Batch)
    → IsIn b ((run start log (opened start)).rows kind level index).linked → b.row / start.shape.rows < members start.shape level index
linked_owned start log ok legal kind level index b h =
    let s : State = run start log (opened start) in
    let both = holds start log ok legal in
    let n : ℕ = members start.shape level index in
    let rows : ℕ = start.shape.rows in
    let reached = both.0.good.reached kind level index in
    let walks : Walks n rows (trace.run reached.0 nothing).linked (trace.run reached.0 nothing).walk (trace.run reached.0 nothing).stage = walks_reach n rows reached.0 nothing (inv_start n rows) (walks_start n rows) reached.1 in
    walks.owned b (subst (λ (x : Traced). IsIn b x.linked) (sym reached.2) h)
