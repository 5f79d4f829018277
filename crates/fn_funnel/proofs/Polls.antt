-- Polls in vain.
use Rattle.std.proofs.Common.{◌≡◌, List, [], ◌∷◌, ◌++◌, refl, sym, ◌∙◌, subst}
use Rattle.fn_core.specs.declared.answer.Why.{Why}
use Rattle.fn_core.specs.Calls.{IsLegal}
use Rattle.fn_table.specs.Later.{IsLater}
use Rattle.fn_table.proofs.Later.{later_none, later_on}
use Rattle.fn_climb.specs.Next.{PendingView}
use Rattle.fn_climb.specs.Steps.{HasSameCall}
use Rattle.fn_climb.specs.Turns.{PolledInVain}
use Rattle.fn_funnel.specs.Waiting.{PollsInVain}

-- one more poll in vain
pub polls_more : (p : PendingView) (whys : List Why) (m : PendingView) (why : Why) (q : PendingView) → PollsInVain p whys m → PolledInVain m why q → PollsInVain p (whys ++ why ∷ []) q
polls_more p [] m why q is polled = (q, subst (λ (v : PendingView). PolledInVain v why q) is polled, refl)
polls_more p (first ∷ whys) m why q polls polled = (polls.0, polls.1, polls_more polls.0 whys m why q polls.2 polled)

-- polls in vain leave the call as it is
pub polls_keep : (p : PendingView) (whys : List Why) (q : PendingView) → IsLegal p.seen → PollsInVain p whys q → IsLater p.pass q.pass × HasSameCall p.pass q.pass
polls_keep p [] q legal is = subst (λ (v : PendingView). IsLater p.pass v.pass × HasSameCall p.pass v.pass) (sym is) (later_none p.pass legal, record { made = refl; last = refl; left = refl })
polls_keep p (why ∷ whys) q legal polls =
    let first = polls.1.0 in
    let rest = polls_keep polls.0 whys q first.later.legal polls.2 in (
      later_on p.pass polls.0.pass q.pass first.later rest.0,
      record { made = rest.1.made ∙ first.same.made; last = rest.1.last ∙ first.same.last; left = rest.1.left ∙ first.same.left },
    )
