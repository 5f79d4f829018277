use Rattle.std.proofs.Common.{◌≡◌, true, refl, sym, ap, subst, ◌∙◌}
use Rattle.std.specs.Prelude.{slice_get, slice_set, List}
use Rattle.fn_table.specs.Seen.{NoteView, Met}
use Rattle.script_run.specs.declared.trial.Caller.{Caller}
use Rattle.script_run.specs.declared.trial.Caller.TheVariants.{Idle}
use Rattle.script_run.specs.Slots.{AllStand, is_resting_slot}
use Rattle.script_run.specs.Trial.{is_idle}
use Rattle.script_run.proofs.Advance.{noted-stands, rests-set}
use Rattle.script_run.proofs.Replaced.{rests-same}
use Rattle.script_run.proofs.on_table.meet_other.Goals as goal

pub take_in-requires-clause-stand : goal.take_in-requires-clause-stand
take_in-requires-clause-stand c =
    let n = c.in_ok-note.ensures.noted in
    subst (AllStand c.args.table.now) (sym n.now) (noted-stands c.args.table.now _ c.args.other n.giver n.noted c.requires.stand n.giver_is n.stored.0 n.stored.1).0

pub take_in-requires-clause-note : goal.take_in-requires-clause-note
take_in-requires-clause-note c =
    let n = c.in_ok-note.ensures.noted in
    let of_table = (noted-stands c.args.table.now _ c.args.other n.giver n.noted c.requires.stand n.giver_is n.stored.0 n.stored.1).1 in
    (ap (λ (x : NoteView). x.table) n.note_is ∙ of_table.0, ap (λ (x : NoteView). x.seen.start) n.note_is ∙ of_table.1)

pub returns-in_err-take_in : goal.returns-in_err-take_in
returns-in_err-take_in c =
    let n = c.in_ok-note.ensures.noted in
    let was : is_idle (slice_get _ c.args.number) ≡ true = rests-same c.args.callers.now c.requires.full c.args.number ∙ c.in_ok-want_idle.ensures.idle in
    let now = rests-set _ c.args.other c.args.number n.noted was in
    let here : is_resting_slot (slice_get c.take_note.new.callers c.args.number) ≡ true = sym (rests-same c.take_note.new.callers n.full c.args.number) ∙ ap (λ (x : List Caller). is_idle (slice_get x c.args.number)) n.now ∙ now in
    absurd (let e = sym here ∙ c.in_err-take_in.ensures.busy.0 in cc e)

pub returns : goal.returns
returns c =
    let n = c.in_ok-note.ensures.noted in
    let t = c.in_ok-take_in.ensures.taken in (
      t.full,
      (
        refl,
        record {
          giver = n.giver;
          giver_is = n.giver_is;
          noted = n.noted;
          note = n.stored;
          taker = t.taker;
          taker_is = ap (λ (x : List Caller). slice_get x c.args.number) (sym n.now) ∙ t.taker_is;
          after = t.after;
          met = (subst (λ (x : NoteView). Met t.taker x t.after) n.note_is t.met.0, t.met.1);
          now = t.now ∙ ap (λ (x : List Caller). slice_set x c.args.number (Idle t.after)) n.now;
        },
      ),
    )
