-- A call between its polls.
use Rattle.std.proofs.Common.{◌≡◌, ℕ, ◌≤◌, ◌<◌, List, [], ◌∷◌, ◌++◌, Option, Some, None, IsSomeAnd, refl, sym, ◌∙◌, subst}
use Rattle.fn_model.specs.declared.Kind.{Kind}
use Rattle.fn_core.specs.declared.Start.{Start}
use Rattle.fn_core.specs.declared.answer.Blocked.{Blocked}
use Rattle.fn_core.specs.declared.answer.Why.{Why}
use Rattle.fn_core.specs.declared.answer.CoreStep.TheVariants.{Ready}
use Rattle.fn_core.specs.Calls.{IsLegal, IsIdle}
use Rattle.fn_table.specs.Seen.{TableView, PassView, IsOf}
use Rattle.fn_climb.specs.Next.{PendingView}
use Rattle.fn_climb.specs.Begin.{BeginAnswers}
use Rattle.fn_table.specs.Later.{IsLater}
use Rattle.fn_climb.specs.Turns.{Polled, PolledInVain}
use Rattle.fn_climb.specs.declared.beginning.Begun.TheVariants.{Waiting, NoRow}
use Rattle.fn_table.proofs.Later.{later_on, of_later}
use Rattle.fn_table.specs.Called.{call_of}
use Rattle.fn_table.specs.Claims.{Made, MadeNone}
use Rattle.fn_table.proofs.Claims.{made_by, made_none}
use Rattle.fn_funnel.proofs.Polls.{polls_more, polls_keep}
use Rattle.fn_table.proofs.Claims.{within_cap}
use Rattle.fn_climb.proofs.Funnelled.{funnelled, batched}
use Rattle.fn_funnel.proofs.Straight.{none_since}
use Rattle.fn_future.specs.Calls.{IsMade, IsFor, HasStarted, Turned, TurnedFrom}
use Rattle.fn_future.specs.Views.{CallView}
use Rattle.fn_future.specs.Standing.{last_of, IsUnderway, Stands}

pub last_more : (whys : List Why) (why : Why) → Some why ≡ last_of (whys ++ why ∷ [])
last_more [] why = refl
last_more (first ∷ []) why = refl
last_more (first ∷ next ∷ whys) why = last_more (next ∷ whys) why

-- a call that has just begun
pub underway_begun : (p : PassView) (kind : Kind) (amount : ℕ) (b : PendingView) → IsLegal p.seen → IsIdle p.seen p.number → BeginAnswers p kind amount (Waiting b) → IsUnderway p kind amount b None
underway_begun p kind amount b legal idle begins = record { legal = legal; idle = idle; begun = b; begins = begins; whys = []; in_vain = refl; last = refl }

pub started : (t : TableView) (p : PassView) (kind : Kind) (amount : ℕ) (b : PendingView) → IsOf t p → IsLegal p.seen → IsIdle p.seen p.number → BeginAnswers p kind amount (Waiting b) → (given : PassView) (k : Kind) (n : ℕ) → given ≡ p → k ≡ kind → n ≡ amount → IsOf t given × IsUnderway given k n b None
started t p kind amount b together legal idle begins given k n given_is kind_is amount_is =
    subst (λ (v : PassView). IsOf t v × IsUnderway v k n b None) (sym given_is)
    (together, subst (λ (v : Kind). IsUnderway p v n b None) (sym kind_is) (subst (λ (v : ℕ). IsUnderway p kind v b None) (sym amount_is) (underway_begun p kind amount b legal idle begins)))

-- the future of a call that has begun makes that call
pub is_for : (t : TableView) (p : PassView) (kind : Kind) (amount : ℕ) (c : CallView) → HasStarted t p kind amount c → IsFor p kind amount c
is_for t p kind amount c (b, begins, is) = subst (λ (v : CallView). IsFor p kind amount v) (sym is) (record { given_is = refl; kind_is = refl; amount_is = refl; waits = refl; why = refl })

-- a call that finds no row is none
pub refused_none : (p : PassView) (kind : Kind) (amount : ℕ) (r : PassView) (at : Blocked) → p.number < p.seen.start.shape.passes → IsIdle p.seen p.number → BeginAnswers p kind amount (NoRow r at) → MadeNone p r
refused_none p kind amount r at inside idle begins = made_none p r begins.1.later (none_since p r inside idle begins.1.later begins.3)

-- a call that has no reply yet
pub stands_now : (t : TableView) (p : PassView) (kind : Kind) (amount : ℕ) (pending : Option PendingView) (why : Option Why) (now : PendingView) → pending ≡ Some now → Stands t p kind amount pending why → IsOf t p × IsUnderway p kind amount now why
stands_now t p kind amount pending why now is stands = subst (λ (o : Option PendingView). Stands t p kind amount o why) is stands

pub turned_waits : (old : CallView) (now next : PendingView) (why : Why) → old.pending ≡ Some now → PolledInVain now why next → Turned old None (record old { pending = Some next; why = Some why })
turned_waits old now next why is polled =
    subst (λ (o : Option PendingView). IsSomeAnd o (λ (n : PendingView). TurnedFrom old n None (record old { pending = Some next; why = Some why }))) (sym is) (why, next, polled, refl)

module _ (p : PassView) (kind : Kind) (amount : ℕ) (now : PendingView) (last : Option Why) (u : IsUnderway p kind amount now last) where
  -- it has seen more since its beginning
  pub underway_later : IsLater p now.pass
  underway_later =
      let first = u.begins.1.later in
      let polls = polls_keep u.begun u.whys now first.legal u.in_vain in
      later_on p u.begun.pass now.pass first polls.0

  pub underway_of : (t : TableView) → IsOf t p → IsOf t now.pass
  underway_of t together = of_later t p now.pass underway_later together

  -- one more poll in vain
  pub underway_more : (why : Why) (q : PendingView) → PolledInVain now why q → IsUnderway p kind amount q (Some why)
  underway_more why q polled = record {
    legal = u.legal;
    idle = u.idle;
    begun = u.begun;
    begins = u.begins;
    whys = u.whys ++ why ∷ [];
    in_vain = polls_more u.begun u.whys now why q u.in_vain polled;
    last = last_more u.whys why;
  }

  -- the poll that ends it
  pub underway_done : (reply : ℕ) (q : PassView) → Polled now (Ready reply) q → IsMade p kind amount q reply
  underway_done reply q polled =
      let first = u.begins.1.later in
      let polls = polls_keep u.begun u.whys now first.legal u.in_vain in
      let until = later_on p u.begun.pass now.pass first polls.0 in
      let later = later_on p now.pass q until polled.later in
      let called = funnelled p u.begun.pass now q kind amount reply u.legal u.idle until u.begins.3 polls.1 polled in
      record {
        later = later;
        called = called;
        within = subst (λ (s : Start). reply ≤ s.cap) later.start (within_cap q.seen (call_of p kind amount) reply later.legal called.met);
        entered = batched p u.begun.pass q kind amount reply u.begins.3 (later_on u.begun.pass now.pass q polls.0 polled.later) called.met;
        made = polled.same.made ∙ polls.1.made ∙ u.begins.3.made;
      }

-- .. in the words of the history
pub claimed : (p : PassView) (kind : Kind) (amount reply : ℕ) (q : PassView) → IsLegal p.seen → IsIdle p.seen p.number → IsMade p kind amount q reply → Made p kind amount reply q
claimed p kind amount reply q legal idle made = made_by p kind amount reply q legal idle made.later made.called made.within
