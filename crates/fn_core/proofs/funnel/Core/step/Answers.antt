use Rattle.std.proofs.Common.{◌≡◌, sym, ◌∙◌, ap, subst}
use Rattle.fn_rows.specs.declared.Stage.{Stage}
use Rattle.fn_core.specs.declared.Move.{Move}
use Rattle.fn_core.specs.Machine.{Allowed}
use Rattle.fn_core.specs.Fields.{answer_of}
use Rattle.fn_core.specs.Order.{next_move}
use Rattle.fn_core.specs.Calls.{CoreLog, IsLegal, state_in, left_of, LeavesOthers, with_move, stage_for, told_by, step_answer, Follows}
use Rattle.fn_core.proofs.Filling.{calls_always_go_on}
use Rattle.fn_core.proofs.Follows.{follows, few_left}
use Rattle.fn_core.proofs.Left.{step_left, step_others}
use Rattle.fn_core.proofs.funnel.Core.step.Goals as goal

pub stage_at-stage-requires-clause-legal : goal.stage_at-stage-requires-clause-legal
stage_at-stage-requires-clause-legal c = subst IsLegal c.self.view_is (c.self.invariant.start_ok, c.self.invariant.legal)

pub stage_at-stage-requires-clause-allowed : goal.stage_at-stage-requires-clause-allowed
stage_at-stage-requires-clause-allowed c =
    let core = c.args.self.now in
    let legal = subst IsLegal c.self.view_is (c.self.invariant.start_ok, c.self.invariant.legal) in
    let is = subst (λ (v : CoreLog). c.next_move-step.result ≡ next_move v.start (state_in v) c.args.pass) c.self.view_is (c.next_move-step.ensures c.self.inside.log c.self.invariant) in
    subst (λ (step : Move). Allowed core.start (state_in core) (record { pass = c.args.pass; step = step })) (sym is) (calls_always_go_on core.start core.log legal.0 legal.1 c.args.pass c.requires.in_range c.requires.underway)

pub apply-requires : goal.apply-requires
apply-requires c =
    let core = c.args.self.now in
    let legal = subst IsLegal c.self.view_is (c.self.invariant.start_ok, c.self.invariant.legal) in
    let is = subst (λ (v : CoreLog). c.next_move-step.result ≡ next_move v.start (state_in v) c.args.pass) c.self.view_is (c.next_move-step.ensures c.self.inside.log c.self.invariant) in
    subst (λ (step : Move). Allowed core.start (state_in core) (record { pass = c.args.pass; step = step })) (sym is) (calls_always_go_on core.start core.log legal.0 legal.1 c.args.pass c.requires.in_range c.requires.underway)

pub returns-clause-follows : goal.returns-clause-follows
returns-clause-follows c =
    let core = c.args.self.now in
    let legal = subst IsLegal c.self.view_is (c.self.invariant.start_ok, c.self.invariant.legal) in
    let pass = c.args.pass in
    let step = c.next_move-step.result in
    let is = subst (λ (v : CoreLog). step ≡ next_move v.start (state_in v) pass) c.self.view_is (c.next_move-step.ensures c.self.inside.log c.self.invariant) in
    let taken : c.apply.new.self ≡ with_move core pass (next_move core.start (state_in core) pass) = c.in_ok-answer.ensures.taken ∙ ap (with_move core pass) is in
    let told : c.told_by.result ≡ step_answer core.start (state_in core) pass =
    c.told_by.ensures
    ∙ ap (λ (v : CoreLog). told_by v.start.cap step c.stage_at-stage.result c.in_ok-answer.answer) c.self.view_is
    ∙ ap (λ (g : Stage). told_by core.start.cap step g c.in_ok-answer.answer) c.stage_at-stage.ensures
    ∙ ap (told_by core.start.cap step (stage_for core.start (state_in core) pass step)) c.in_ok-answer.ensures.answer
    ∙ ap (λ (x : Move). told_by core.start.cap x (stage_for core.start (state_in core) pass x) (answer_of core.start (state_in core) pass x)) is in
    subst (λ (new : CoreLog). Follows core new pass c.told_by.result) (sym taken)
    (subst (Follows core (with_move core pass (next_move core.start (state_in core) pass)) pass) (sym told) (follows core.start core.log legal.0 legal.1 pass c.requires.in_range c.requires.underway))

pub returns-clause-few : goal.returns-clause-few
returns-clause-few c =
    let core = c.args.self.now in
    let legal = subst IsLegal c.self.view_is (c.self.invariant.start_ok, c.self.invariant.legal) in
    few_left core.start core.log legal.0 legal.1 c.args.pass c.requires.in_range c.requires.underway

pub returns-clause-spends : goal.returns-clause-spends
returns-clause-spends c =
    let core = c.args.self.now in
    let legal = subst IsLegal c.self.view_is (c.self.invariant.start_ok, c.self.invariant.legal) in
    let pass = c.args.pass in
    let is = subst (λ (v : CoreLog). c.next_move-step.result ≡ next_move v.start (state_in v) pass) c.self.view_is (c.next_move-step.ensures c.self.inside.log c.self.invariant) in
    subst (λ (new : CoreLog). left_of new pass ≡ left_of core pass) (sym (c.in_ok-answer.ensures.taken ∙ ap (with_move core pass) is)) (step_left core legal pass c.requires.in_range c.requires.underway)

pub returns-clause-others : goal.returns-clause-others
returns-clause-others c =
    let core = c.args.self.now in
    let legal = subst IsLegal c.self.view_is (c.self.invariant.start_ok, c.self.invariant.legal) in
    let pass = c.args.pass in
    let is = subst (λ (v : CoreLog). c.next_move-step.result ≡ next_move v.start (state_in v) pass) c.self.view_is (c.next_move-step.ensures c.self.inside.log c.self.invariant) in
    subst (λ (new : CoreLog). LeavesOthers core new pass) (sym (c.in_ok-answer.ensures.taken ∙ ap (with_move core pass) is)) (step_others core legal pass c.requires.in_range c.requires.underway)
