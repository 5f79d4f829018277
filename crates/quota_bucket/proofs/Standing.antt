-- What a call has met, it meets in each history that goes on.
use Rattle.std.proofs.Common.{ℕ, List, subst, ◌∙◌, arith}
use Rattle.std.proofs.lemmas.List.{length-append, get_or_append_left}
use mathlib.Core.List.{IsPrefix}
use Rattle.fn_model.specs.declared.Call.{Call}
use Rattle.fn_model.specs.Integer.{Meets}
use Rattle.fn_model.proofs.Calls.{reply_stays}
use Rattle.fn_table.specs.Claims.{past}
use Rattle.quota_bucket.specs.Seen.{burst}
use Rattle.quota_bucket.specs.Taking.{taking}
use Rattle.quota_bucket.specs.Closed.{TakesStand}

meets_later : (cap opening : ℕ) (history whole : List Call) (call : Call) (reply : ℕ) → IsPrefix history whole → Meets cap opening history call reply → Meets cap opening whole call reply
meets_later cap opening history whole call reply begins (at, place, inside, here, met) =
    let stays = reply_stays cap opening call.pass call.number history begins.0 at place in
    let longer = length-append history begins.0 in
    subst (λ (calls : List Call). Meets cap opening calls call reply) begins.1
    (at, stays.0, (omega arith), get_or_append_left history begins.0 call at inside ∙ here, stays.1 ∙ met)

pub takes_stand : TakesStand
takes_stand b p q now amount told takes whole begins = meets_later (burst b) b.funnel.start.opening (past q.pass) whole (taking p.pass told.refilled amount) told.before begins takes.met
