-- The steps by which a call that has the base of its batch fills a row and publishes it: what each needs, and what they leave together.
use Rattle.std.proofs.Common.{◌≡◌, ℕ, ◌+◌, ◌-◌, ◌*◌, None, refl, sym, ap, ◌∙◌}
use Rattle.std.specs.Prelude.{slice_index_or}
use Rattle.std.proofs.lemmas.Nat.{mod-mul-add}
use Rattle.fn_rows.specs.declared.Field.TheVariants.{Lo, Base, Prev}
use Rattle.fn_rows.specs.declared.Stage.{Stage}
use Rattle.fn_rows.specs.declared.Stage.TheVariants.{Based, Headed, FilledLo, FilledBase, Filled, Pointed, Got}
use Rattle.fn_layout.specs.declared.shape.Shape.{Shape}
use Rattle.fn_layout.specs.Tree.{aggregator, member}
use Rattle.fn_layout.specs.Words.{row_number}
use Rattle.fn_layout.proofs.Tree.{aggregator_below}
use Rattle.fn_core.specs.declared.Move.{Move}
use Rattle.fn_core.specs.declared.Move.TheVariants.{Head, Fill, Point, Publish}
use Rattle.fn_core.specs.declared.answer.CoreStep.TheVariants as told
use Rattle.fn_core.specs.Machine.{place}
use Rattle.fn_core.specs.Words.{link, fill_word, end_by}
use Rattle.fn_core.specs.After.{row_read}
use Rattle.fn_core.specs.Order.{own_row}
use Rattle.fn_core.specs.Calls.{state_in}
use Rattle.fn_core.proofs.Public.{row_read-link, last_mine}
use Rattle.fn_table.specs.Seen.{PassView, May, Stepped, own_of, with_log}
use Rattle.fn_table.specs.declared.spots.Spot.{Spot}
use Rattle.fn_table.specs.Spots.{spot_of}
use Rattle.fn_layout.proofs.Rows.{row_follows}
use Rattle.fn_climb.specs.declared.course.Course.{Course}
use Rattle.fn_climb.specs.Course.{at_stage, chosen_at, Holds, pending_of}
use Rattle.fn_climb.specs.Steps.{Advanced}
use Rattle.fn_climb.specs.Turns.{Ran}
use Rattle.fn_climb.proofs.Underway.{placed, may_at_stage, stage_now}
use Rattle.fn_climb.proofs.Onward.{legal_before}
use Rattle.fn_climb.proofs.Moves.{may_choose, fill_stores, may_fill_first, headed_lead, filled_first, filled_base, filled_prev, pointed, published}
use Rattle.fn_climb.proofs.Goes.{moved}
use Rattle.fn_climb.proofs.Runs.{ran_one, ran_more}

-- what a pass's table and number tell stays as it takes a step
still : {A : Type 0} (f : Shape → ℕ → A) {p q : PassView} {step : Move} {n : ℕ} → Stepped p step n q → f q.seen.start.shape q.number ≡ f p.seen.start.shape p.number
still f t = ap (λ (v : PassView). f v.seen.start.shape v.number) t.now

module _ {p : PassView} {c : Course} (h : Holds p c) (free : c.word ≡ None) where
  abbrev at_g : Stage → Course
  at_g g = at_stage c g

  abbrev shape : Shape
  shape = p.seen.start.shape

  abbrev index : ℕ
  index = aggregator shape p.number c.level

  abbrev chosen : ℕ
  chosen = slice_index_or c.rows (c.level - 1) 0

  -- the word that was found in `last` is the one that names its row
  module _ {n1 : ℕ} {q1 : PassView} (t1 : Stepped p (Head c.kind c.level) n1 q1) where
    abbrev last : ℕ
    last = row_read shape n1

    linked_again : link shape c.kind c.level index last ≡ n1
    linked_again =
        let l = legal_before h t1 in
        let word : ℕ = (place p.seen.start (state_in (with_log p t1.before)) c.kind c.level p.number).last in
        let pl = placed h in
        ap (λ (x : ℕ). link shape c.kind c.level index (row_read shape x)) t1.answer
        ∙ ap (link shape c.kind c.level index) (row_read-link shape c.kind c.level index pl.0 pl.1 (aggregator_below shape p.number c.level) word (last_mine p.seen.start t1.before l.0 l.1 p.number c.kind c.level))
        ∙ sym t1.answer

    -- .. and the row is the chosen one behind the first of the pass's rows there
    module _ {at hi base : ℕ} (is : c.stage ≡ Based at hi base) {spot : Spot} (there : spot ≡ spot_of shape p.number c.kind c.level) where
      abbrev row : ℕ
      row = spot.row + chosen

      abbrev local : ℕ
      local = chosen_at q1 c c.level

      -- by its number at the aggregator
      abbrev by_local : Shape → ℕ → ℕ
      by_local s k = own_row s k c.kind c.level local

      row1 : row ≡ by_local q1.seen.start.shape q1.number
      row1 =
          row_follows shape p.number c.kind c.level chosen (ap (λ (x : Spot). x.row) there)
          ∙ ap (row_number shape p.number c.kind c.level) (sym (mod-mul-add (member shape c.level p.number) shape.rows chosen (may_choose h free is refl).0))
          ∙ sym (still (λ s k. own_row s k c.kind c.level (member s c.level k * s.rows + chosen)) t1)

      first : Advanced (pending_of p c) told.Going q1 (at_g (Headed at hi base last))
      first = moved h free (headed_lead h free is t1)

      pub may_lo : May q1 (Fill row Lo)
      may_lo = may_fill_first first.1.0 refl refl row1

      pub stores_lo : at ≡ fill_word q1.seen.start (own_of q1) q1.number Lo (own_of q1).caller.position
      stores_lo = sym (fill_stores first.1.0 refl Lo refl)

      module _ {n2 : ℕ} {q2 : PassView} (t2 : Stepped q1 (Fill row Lo) n2 q2) where
        row2 : row ≡ by_local q2.seen.start.shape q2.number
        row2 = row1 ∙ sym (still by_local t2)

        second : Advanced (pending_of q1 c) told.Going q2 (at_g (FilledLo at hi base last local))
        second = moved first.1.0 refl (filled_first first.1.0 refl refl row1 t2)

        pub may_base : May q2 (Fill row Base)
        may_base = rw row2 (may_at_stage second.1.0 refl refl)

        pub stores_base : base ≡ fill_word q2.seen.start (own_of q2) q2.number Base (own_of q2).caller.position
        stores_base = sym (fill_stores second.1.0 refl Base refl)

        module _ {n3 : ℕ} {q3 : PassView} (t3 : Stepped q2 (Fill row Base) n3 q3) where
          row3 : row ≡ by_local q3.seen.start.shape q3.number
          row3 = row2 ∙ sym (still by_local t3)

          third : Advanced (pending_of q2 c) told.Going q3 (at_g (FilledBase at hi base last local))
          third = moved second.1.0 refl (filled_base second.1.0 refl refl (rw row2 at t3))

          pub may_prev : May q3 (Fill row Prev)
          may_prev = rw row3 (may_at_stage third.1.0 refl refl)

          pub stores_prev : n1 ≡ fill_word q3.seen.start (own_of q3) q3.number Prev (own_of q3).caller.position
          stores_prev =
              let linked = λ (s : Shape) (k : ℕ). link s c.kind c.level (aggregator s k c.level) last in
              sym (fill_stores third.1.0 refl Prev refl ∙ still linked t3 ∙ still linked t2 ∙ still linked t1 ∙ linked_again)

          module _ {n4 : ℕ} {q4 : PassView} (t4 : Stepped q3 (Fill row Prev) n4 q4) where
            row4 : row ≡ by_local q4.seen.start.shape q4.number
            row4 = row3 ∙ sym (still by_local t4)

            fourth : Advanced (pending_of q3 c) told.Going q4 (at_g (Filled at hi base local))
            fourth = moved third.1.0 refl (filled_prev third.1.0 refl refl (rw row3 at t4))

            pub may_point : May q4 (Point c.kind c.level row)
            may_point = rw row4 (may_at_stage fourth.1.0 refl refl)

            module _ {n5 : ℕ} {q5 : PassView} (t5 : Stepped q4 (Point c.kind c.level row) n5 q5) where
              fifth : Advanced (pending_of q4 c) told.Going q5 (at_g (Pointed at hi base local))
              fifth = moved fourth.1.0 refl (pointed fourth.1.0 refl refl (rw row4 at t5))

              pub may_publish : May q5 (Publish c.kind c.level)
              may_publish = may_at_stage fifth.1.0 refl refl

              pub ends_there : hi ≡ end_by ((own_of q5).stages c.kind c.level)
              ends_there = sym (ap end_by (stage_now fifth.1.0 refl refl))

              module _ {n6 : ℕ} {q6 : PassView} (t6 : Stepped q5 (Publish c.kind c.level) n6 q6) where
                sixth : Advanced (pending_of q5 c) told.Going q6 (at_g (Got base 0))
                sixth = moved fifth.1.0 refl (published fifth.1.0 refl refl t6)

                pub batch_ran : Ran (pending_of p c) told.Going q6 (at_g (Got base 0))
                batch_ran =
                    ran_more (ran_one told.Going first) (ran_more (ran_one told.Going second) (ran_more (ran_one told.Going third) (ran_more (ran_one told.Going fourth) (ran_more (ran_one told.Going fifth) (ran_one told.Going sixth)))))
