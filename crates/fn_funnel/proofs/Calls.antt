-- A call that waits, by the way that it went.
use Rattle.std.proofs.Common.{◌≡◌, ℕ, ◌≤◌, ◌<◌, subst}
use mathlib.Core.List.{IsPrefix}
use Rattle.fn_model.specs.declared.Call.{Call}
use Rattle.fn_model.specs.declared.Kind.{Kind}
use Rattle.fn_core.specs.declared.Start.{Start}
use Rattle.fn_core.specs.declared.answer.Blocked.{Blocked}
use Rattle.fn_core.specs.Calls.{CoreLog, IsLegal, IsIdle}
use Rattle.fn_core.proofs.Public.{entries_stay}
use Rattle.fn_core.specs.Entries.{IsAlone}
use Rattle.fn_table.specs.Seen.{PassView}
use Rattle.fn_climb.specs.Next.{PendingView}
use Rattle.fn_climb.specs.Begin.{BeginAnswers}
use Rattle.fn_table.specs.Later.{IsLater}
use Rattle.fn_climb.specs.declared.beginning.Begun.TheVariants.{Waiting, NoRow}
use Rattle.fn_table.proofs.Later.{later_on}
use Rattle.fn_table.specs.Called.{call_of, HasCalled}
use Rattle.fn_direct.proofs.Joined.{called_since}
use Rattle.fn_funnel.specs.declared.waiting.Way.{Way}
use Rattle.fn_funnel.specs.declared.waiting.Way.TheVariants.{Funnel, Direct}
use Rattle.fn_funnel.specs.Waiting.{Waited, HasEntered, IsAnswered, IsStraight, is_one_step}
use Rattle.fn_funnel.proofs.Polls.{polls_keep}
use Rattle.fn_table.proofs.Claims.{within}
use Rattle.fn_climb.proofs.Funnelled.{funnelled, batched}
use Rattle.fn_funnel.proofs.Straight.{later_straight, none_since, same_call}

module _ (p : PassView) (kind : Kind) (amount reply : ℕ) (q : PassView) (legal : IsLegal p.seen) (idle : IsIdle p.seen p.number) where
  pub waited_through : (b : PendingView) → BeginAnswers p kind amount (Waiting b) → IsAnswered b reply q → Waited p kind amount (record { before = reply; way = Funnel }) q
  waited_through b begins answered =
      let first = begins.1.later in
      let polls = polls_keep b answered.whys answered.until first.legal answered.in_vain in
      let until = later_on p b.pass answered.until.pass first polls.0 in
      let later = later_on p answered.until.pass q until answered.polled.later in
      let called = funnelled p b.pass answered.until q kind amount reply legal idle until begins.3 polls.1 answered.polled in
      record {
        later = later;
        called = called;
        within = within p kind amount reply q later called;
        way = record { begun = b; begins = begins; answered = answered };
        entered = batched p b.pass q kind amount reply begins.3 (later_on b.pass answered.until.pass q polls.0 answered.polled.later) called.met;
      }

  pub waited_straight : p.number < p.seen.start.shape.passes → (r : PassView) (at : Blocked) → BeginAnswers p kind amount (NoRow r at) → IsStraight (is_one_step kind r.seen.start.cap) r kind amount reply q → HasCalled r kind amount reply q → IsAlone q.seen (call_of r kind amount) → Waited p kind amount (record { before = reply; way = Direct at }) q
  waited_straight inside r at begins straight made alone =
      let first = begins.1.later in
      let later = later_on p r q first (later_straight (is_one_step kind r.seen.start.cap) r kind amount reply q first.legal straight) in
      let none = none_since p r inside idle first begins.3 in
      let called = called_since p r q kind amount reply first.number first.start first.legal first.begins none made in
      record {
        later = later;
        called = called;
        within = within p kind amount reply q later called;
        way = record { refused = r; begins = begins; straight = subst (λ (s : Start). IsStraight (is_one_step kind s.cap) r kind amount reply q) first.start straight };
        entered = subst (λ (call : Call). IsAlone q.seen call) (same_call p r kind amount first.number none.made) alone;
      }

-- a call that has entered in its way stands so in each legal log that goes on, as in the book
pub entered_stays : (way : Way) (old new : CoreLog) → IsLegal new → new.start ≡ old.start → IsPrefix old.log new.log → (call : Call) → HasEntered way old call → HasEntered way new call
entered_stays Funnel old new legal same begins call = (entries_stay old new legal same begins call).1
entered_stays (Direct at) old new legal same begins call = (entries_stay old new legal same begins call).0
