-- A peek is one read.
use Rattle.std.proofs.Common.{◌≡◌, ℕ, ◌≤◌, Option, Some, refl, sym, ap, ◌∙◌, subst}
use Rattle.fn_model.specs.declared.Kind.TheVariants.{Read}
use Rattle.fn_core.specs.declared.Start.{Start}
use Rattle.fn_core.specs.declared.Move.TheVariants.{Load}
use Rattle.fn_core.specs.declared.Purpose.TheVariants as purpose
use Rattle.fn_core.specs.Calls.{IsLegal}
use Rattle.fn_table.specs.Seen.{PassView, Stepped}
use Rattle.fn_table.specs.Later.{IsLater}
use Rattle.fn_table.proofs.Later.{later_by}
use Rattle.fn_table.specs.Called.{call_of, HasCalled}
use Rattle.fn_table.specs.Claims.{Rests, Made}
use Rattle.fn_table.proofs.Claims.{within_cap}
use Rattle.fn_table.proofs.Claims.{made_by}
use Rattle.tick_table.specs.Seen.{SeatView}
use Rattle.quota_bucket.specs.Seen.{BucketView, DeskView, Belongs}
use Rattle.quota_bucket.specs.Taking.{Peeks}
use Rattle.quota_bucket.proofs.Taking.{desk}

-- a read is made in the words of the history
read_made : (p q : PassView) (tokens : ℕ) → IsLegal p.seen → Rests p → Stepped p (Load purpose.Read) tokens q → HasCalled p Read 0 tokens q → Made p Read 0 tokens q
read_made p q tokens legal rests step called =
    let later : IsLater p q = later_by p (Load purpose.Read) tokens q step in
    made_by p Read 0 tokens q legal rests later called (subst (λ (s : Start). tokens ≤ s.cap) later.start (within_cap q.seen (call_of p Read 0) tokens step.legal called.met))

-- .. also where the desk is given by its fields
pub peeks_of : (b : BucketView) (p : DeskView) (place : Option PassView) (seat : SeatView) (pass q : PassView) (tokens : ℕ)
    → desk seat place ≡ p → place ≡ Some pass → Belongs b p → IsLegal pass.seen → Stepped pass (Load purpose.Read) tokens q → HasCalled pass Read 0 tokens q
    → Peeks b p tokens (record { pass = q; seat = seat })
peeks_of b p place seat pass q tokens view there belongs legal step called =
    let here : desk seat (Some pass) ≡ p = sym (ap (desk seat) there) ∙ view in
    let mine : Belongs b (desk seat (Some pass)) = subst (Belongs b) (sym here) belongs in
    let made = read_made pass q tokens legal mine.rests step called in
    subst (λ (d : DeskView). Peeks b d tokens (record { pass = q; seat = seat })) here (record {
      made = made;
      seat = refl;
      together = record { pass = (made.same.0 ∙ mine.pass.0, made.same.2 ∙ mine.pass.1); seat = mine.seat; number = made.same.1 ∙ mine.number; rests = made.rests };
    })
