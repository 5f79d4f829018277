use Rattle.std.proofs.Common.{◌∙◌, sym, subst, Some, None, ℕ}
use Rattle.futures.specs.declared.task.Poll.{Poll}
use Rattle.fn_table.specs.Seen.{PassView}
use Rattle.fn_future.specs.Views.{CallView}
use Rattle.fn_future.specs.Calls.{Gives, Turned}
use Rattle.fn_future.specs.Polls.{PolledOnce}
use Rattle.fn_future.proofs.Between.{stands_now, turned_waits, underway_more, underway_done, underway_of, claimed}
use Rattle.fn_future.proofs.underway.UnderwayFuture.poll.Goals as goal

pub poll-requires : goal.poll-requires
poll-requires c =
    let i = c.self.inside in
    let u = stands_now i.table.now i.given.value i.kind.value i.amount.value i.pending i.why c.in-Some.pending (sym c.take.ensures.value ∙ c.in-Some.is) c.self.invariant in
    record { together = underway_of i.given.value i.kind.value i.amount.value c.in-Some.pending i.why u.1 i.table.now u.0 }

pub invariant_of-self-in-NotYet : goal.invariant_of-self-in-NotYet
invariant_of-self-in-NotYet c =
    let i = c.self.inside in
    let u = stands_now i.table.now i.given.value i.kind.value i.amount.value i.pending i.why c.in-Some.pending (sym c.take.ensures.value ∙ c.in-Some.is) c.self.invariant in
    (u.0, underway_more i.given.value i.kind.value i.amount.value c.in-Some.pending i.why u.1 c.in-NotYet.why c.in-NotYet.pending c.in-NotYet.ensures)

pub returns-in-Ready-clause-value : goal.returns-in-Ready-clause-value
returns-in-Ready-clause-value c =
    let i = c.self.inside in
    let u = stands_now i.table.now i.given.value i.kind.value i.amount.value i.pending i.why c.in-Some.pending (sym c.take.ensures.value ∙ c.in-Some.is) c.self.invariant in
    let way = underway_done i.given.value i.kind.value i.amount.value c.in-Some.pending i.why u.1 c.in-Ready.reply c.in-Ready.pass c.in-Ready.ensures in
    subst (λ (v : CallView). Gives v.kind v (c.in-Ready.pass, c.in-Ready.reply)) c.self.view_is (claimed i.given.value i.kind.value i.amount.value c.in-Ready.reply c.in-Ready.pass u.1.legal u.1.idle way, way)

pub returns-in-NotYet-clause-polled : goal.returns-in-NotYet-clause-polled
returns-in-NotYet-clause-polled c =
    let i = c.self.inside in
    let old : CallView = record { table = i.table.now; given = i.given.value; kind = i.kind.value; amount = i.amount.value; pending = i.pending; why = i.why } in
    let new : CallView = record old { pending = Some c.in-NotYet.pending; why = Some c.in-NotYet.why } in
    subst (λ (told : Poll (PassView × ℕ)). PolledOnce c.args.self.now told new) (sym c.yield_now.ensures.pending)
    (subst (λ (v : CallView). Turned v None new) c.self.view_is (turned_waits old c.in-Some.pending c.in-NotYet.pending c.in-NotYet.why (sym c.take.ensures.value ∙ c.in-Some.is) c.in-NotYet.ensures))
