-- A call between its polls.
use Rattle.std.proofs.Common.{◌≡◌, ◌<◌, ℕ, refl, sym, ◌∙◌, subst}
use Rattle.fn_model.specs.declared.Kind.{Kind}
use Rattle.fn_core.specs.declared.answer.Blocked.{Blocked}
use Rattle.fn_core.specs.declared.answer.CoreStep.{CoreStep}
use Rattle.fn_core.specs.declared.answer.CoreStep.TheVariants.{Ready}
use Rattle.fn_core.specs.Calls.{IsLegal, IsIdle}
use Rattle.fn_table.specs.Seen.{PassView}
use Rattle.fn_climb.specs.Next.{PendingView}
use Rattle.fn_climb.specs.Begin.{BeginAnswers}
use Rattle.fn_climb.specs.Turns.{Polled}
use Rattle.fn_climb.specs.declared.beginning.Begun.TheVariants.{Waiting, NoRow}
use Rattle.fn_table.proofs.Later.{later_on}
use Rattle.fn_table.specs.Claims.{Rests, Made, MadeNone}
use Rattle.fn_callers.specs.Standing.{HasCome}
use Rattle.fn_climb.proofs.Funnelled.{funnelled}
use Rattle.fn_table.proofs.Claims.{made_none}
use Rattle.fn_callers.proofs.Once.{none_since, made_once}

-- a call that has just begun
come_begun : (p : PassView) (kind : Kind) (amount : ℕ) (b : PendingView) → IsLegal p.seen → Rests p → BeginAnswers p kind amount (Waiting b) → HasCome p kind amount b.pass
come_begun p kind amount b legal rests begins = record { legal = legal; rests = rests; begun = b.pass; begins = begins.3; later = begins.1.later; same = record { made = refl; last = refl; left = refl } }

pub has_come : (p : PassView) (kind : Kind) (amount : ℕ) (b : PendingView) → IsLegal p.seen → Rests p → BeginAnswers p kind amount (Waiting b) → (given : PassView) → given ≡ p → HasCome given kind amount b.pass
has_come p kind amount b legal rests begins given is = subst (λ (v : PassView). HasCome v kind amount b.pass) (sym is) (come_begun p kind amount b legal rests begins)

-- a call that finds no row is none
pub refused_none : (p : PassView) (kind : Kind) (amount : ℕ) (r : PassView) (at : Blocked) → p.number < p.seen.start.shape.passes → IsIdle p.seen p.number → BeginAnswers p kind amount (NoRow r at) → MadeNone p r
refused_none p kind amount r at inside idle begins = made_none p r begins.1.later (none_since p r inside idle begins.1.later begins.3)

module _ (p : PassView) (kind : Kind) (amount : ℕ) (now : PendingView) (c : HasCome p kind amount now.pass) where
  -- one more poll
  pub come_more : (told : CoreStep) (q : PassView) → Polled now told q → HasCome p kind amount q
  come_more told q polled = record {
    legal = c.legal;
    rests = c.rests;
    begun = c.begun;
    begins = c.begins;
    later = later_on p now.pass q c.later polled.later;
    same = record { made = polled.same.made ∙ c.same.made; last = polled.same.last ∙ c.same.last; left = polled.same.left ∙ c.same.left };
  }

  -- the poll that ends it
  pub come_done : (reply : ℕ) (q : PassView) → Polled now (Ready reply) q → Made p kind amount reply q
  come_done reply q polled = made_once p kind amount reply q c.legal c.rests (later_on p now.pass q c.later polled.later) (funnelled p c.begun now q kind amount reply c.legal c.rests c.later c.begins c.same polled)
