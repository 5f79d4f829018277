-- What the book of a closed table has of each pass's calls, along the lines of a script.
use Rattle.std.proofs.Common.{◌≡◌, inl, inr, ℕ, suc, ◌<◌, List, [], ◌∷◌, ◌++◌, length, refl, sym, ◌∙◌, ap, subst}
use Rattle.std.proofs.lemmas.List.{append-nil}
use Rattle.fn_model.specs.declared.Call.{Call}
use Rattle.fn_model.specs.declared.Kind.{Kind}
use Rattle.fn_model.specs.declared.Kind.TheVariants.{Add, Sub, Read}
use Rattle.fn_model.specs.Calls.{own}
use Rattle.fn_core.specs.declared.Start.{Start}
use Rattle.fn_core.specs.declared.answer.CoreStep.{CoreStep}
use Rattle.fn_core.specs.declared.answer.CoreStep.TheVariants.{Going, Ready, NotYet}
use Rattle.fn_core.specs.State.{Caller as Standing}
use Rattle.fn_core.specs.Calls.{CoreLog, Follows, HasCall, IsIdle, IsLegal, calls_in}
use Rattle.fn_core.proofs.Public.{resting_passes_have_no_call}
use Rattle.fn_table.specs.Seen.{PassView, own_of}
use Rattle.fn_climb.specs.Next.{PendingView}
use Rattle.fn_climb.specs.Begin.{HasBegun}
use Rattle.fn_climb.specs.Steps.{HasSameCall, Went}
use Rattle.fn_table.specs.Later.{IsLater}
use Rattle.fn_climb.specs.Turns.{GoesOn, Polled}
use Rattle.fn_core.specs.declared.Move.{Move}
use Rattle.fn_table.proofs.Later.{later_by}
use Rattle.fn_table.specs.Called.{HasCalled, HasMadeNone, call_of}
use Rattle.script_text.specs.declared.scripts.Order.{Order}
use Rattle.script_text.specs.declared.scripts.Order.TheVariants as order
use Rattle.script_text.specs.declared.scripts.ScriptLine.{ScriptLine}
use Rattle.script_run.specs.declared.lines.LineAnswer.{LineAnswer}
use Rattle.script_run.specs.declared.lines.LineAnswer.TheVariants as answer
use Rattle.script_run.specs.declared.trial.Caller.{Caller}
use Rattle.script_run.specs.declared.trial.Caller.TheVariants.{Idle, Pending}
use Rattle.script_run.specs.Play.{told_answer}
use Rattle.script_run.specs.Answered.{IsMet, asked, made_by}
use Rattle.script_run.specs.Slots.{IsRight}
use Rattle.script_run.specs.Trial.{Began, CallDone, OrderDone, StepDone, Subtracted, left_with, seen_of}
use Rattle.script_run.proofs.Advance.{tried-later}
use Rattle.script_run.proofs.OneLine.{none-made}
use Rattle.script_run.proofs.Tracks.{Tracks, after, caller_in, grown, next-number, own-more, rests-has-all, tracks-begun, tracks-here, tracks-kept}

-- what is known of a pass by what it has seen, after lines that have made these calls
pub record Knows (calls : List Call) (k : ℕ) (p : PassView) : Type 0 where
  pub named : p.number ≡ k
  pub inside : k < p.seen.start.shape.passes
  pub legal : IsLegal p.seen
  pub tracks : Tracks p.seen calls k

-- what a pass has seen goes on from what it had seen
pub grown-is : (p q : PassView) (later : IsLater p q) → q.seen ≡ grown p.seen later.begins.0
grown-is p q later = λ i. record { start = later.start i; log = sym later.begins.1 i }

inside-later : (p q : PassView) (k : ℕ) → IsLater p q → k < p.seen.start.shape.passes → k < q.seen.start.shape.passes
inside-later p q k later inside = subst (λ (s : Start). k < s.shape.passes) (sym later.start) inside

knows-by : (calls now : List Call) (k : ℕ) (p q : PassView) → Knows calls k p → IsLater p q → Tracks q.seen now k → Knows now k q
knows-by calls now k p q was later tracks = record {
  named = later.number ∙ was.named;
  inside = inside-later p q k later was.inside;
  legal = later.legal;
  tracks = tracks;
}

-- the pass goes by its number
module _ (calls : List Call) (p : PassView) (was : Knows calls p.number p) where
  -- a pass that has made none more
  pub made-none : (q : PassView) → IsLater p q → IsIdle p.seen p.number → HasMadeNone p q → Knows calls p.number q
  made-none q later idle none =
      knows-by calls calls p.number p q was later
      (tracks-here q.seen calls p.number (resting_passes_have_no_call q.seen later.legal p.number (inside-later p q p.number later was.inside) none.idle) none.idle
      (none.calls ∙ rests-has-all p.seen calls p.number was.legal was.tracks idle))

  -- .. and one that has made a call by itself
  made-one : (q : PassView) (kind : Kind) (n reply : ℕ) → IsLater p q → IsIdle p.seen p.number → HasCalled p kind n reply q
      → (let call : Call = record { pass = p.number; number = length (own p.number calls); kind = kind; amount = n } in
      Knows (calls ++ call ∷ []) p.number q × IsMet q.seen.start.cap q.seen.start.opening (calls_in q.seen) (own p.number (calls ++ call ∷ [])) (answer.Reply reply))
  made-one q kind n reply later idle called =
      let call : Call = record { pass = p.number; number = length (own p.number calls); kind = kind; amount = n } in
      let call_is : call_of p kind n ≡ call = ap (λ (m : ℕ). record { pass = p.number; number = m; kind = kind; amount = n }) (next-number p.seen calls p.number was.legal was.tracks) in
      let mine : own p.number (calls ++ call ∷ []) ≡ own p.number calls ++ call ∷ [] = own-more calls call p.number refl in
      let joined : own p.number (calls_in q.seen) ≡ own p.number (calls ++ call ∷ []) =
      called.joined ∙ ap (λ (x : List Call). x ++ call_of p kind n ∷ []) (rests-has-all p.seen calls p.number was.legal was.tracks idle) ∙ ap (λ (c : Call). own p.number calls ++ c ∷ []) call_is ∙ sym mine in (
        knows-by calls (calls ++ call ∷ []) p.number p q was later
            (tracks-here q.seen (calls ++ call ∷ []) p.number (resting_passes_have_no_call q.seen later.legal p.number (inside-later p q p.number later was.inside) called.idle) called.idle joined),
        (own p.number calls, call_of p kind n, mine ∙ ap (λ (c : Call). own p.number calls ++ c ∷ []) (sym call_is), called.met),
      )

  -- a call that has begun
  begun-one : (q : PassView) (kind : Kind) (n : ℕ) → IsLater p q → IsIdle p.seen p.number → HasBegun p kind n q
      → (let call : Call = record { pass = p.number; number = length (own p.number calls); kind = kind; amount = n } in Knows (calls ++ call ∷ []) p.number q)
  begun-one q kind n later idle begun =
      let call : Call = record { pass = p.number; number = length (own p.number calls); kind = kind; amount = n } in
      let same : grown p.seen later.begins.0 ≡ q.seen = sym (grown-is p q later) in
      let here : HasCall q.seen p.number = subst (HasCall q.seen) later.number begun.waits.call in
      let last_is : (caller_in q.seen p.number).last ≡ call =
      ap (λ (m : ℕ). (caller_in q.seen m).last) (sym later.number) ∙ begun.last ∙ ap (λ (m : ℕ). record { pass = p.number; number = m; kind = kind; amount = n }) (next-number p.seen calls p.number was.legal was.tracks) in
      let made : (caller_in q.seen p.number).made ≡ suc (caller_in p.seen p.number).made = ap (λ (m : ℕ). (caller_in q.seen m).made) (sym later.number) ∙ begun.made in
      let joined : own p.number (calls ++ call ∷ []) ≡ own p.number (calls_in p.seen) ++ (caller_in q.seen p.number).last ∷ [] =
      own-more calls call p.number refl ∙ ap (λ (x : List Call). x ++ call ∷ []) (sym (rests-has-all p.seen calls p.number was.legal was.tracks idle)) ∙ ap (λ (c : Call). own p.number (calls_in p.seen) ++ c ∷ []) (sym last_is) in
      knows-by calls (calls ++ call ∷ []) p.number p q was later
      (subst (λ (x : CoreLog). Tracks x (calls ++ call ∷ []) p.number) same
      (tracks-begun p.seen later.begins.0 (calls ++ call ∷ []) p.number was.inside (resting_passes_have_no_call p.seen was.legal p.number was.inside idle) (subst (λ (x : CoreLog). HasCall x p.number) (sym same) here)
      (ap (λ (x : CoreLog). (caller_in x p.number).made) same ∙ made) (joined ∙ ap (λ (x : CoreLog). own p.number (calls_in p.seen) ++ (caller_in x p.number).last ∷ []) (sym same))))

  -- no call, though others have come between
  kept : (q : PassView) → IsLater p q → ((caller_in q.seen p.number).made ≡ (caller_in p.seen p.number).made) × ((caller_in q.seen p.number).last ≡ (caller_in p.seen p.number).last)
      → (IsIdle p.seen p.number → IsIdle q.seen p.number) → (HasCall p.seen p.number → HasCall q.seen p.number) → Knows calls p.number q
  kept q later same idle call =
      let is : grown p.seen later.begins.0 ≡ q.seen = sym (grown-is p q later) in
      knows-by calls calls p.number p q was later
      (subst (λ (x : CoreLog). Tracks x calls p.number) is
      (tracks-kept p.seen later.begins.0 calls calls p.number was.tracks
      (ap (λ (x : CoreLog). (caller_in x p.number).made) is ∙ same.0, ap (λ (x : CoreLog). (caller_in x p.number).last) is ∙ same.1)
      (λ i. subst (λ (x : CoreLog). IsIdle x p.number) (sym is) (idle i)) (λ u. subst (λ (x : CoreLog). HasCall x p.number) (sym is) (call u)) refl))

  refused-one : (q : PassView) → IsLater p q → IsIdle p.seen p.number → ((own_of q).caller ≡ (own_of p).caller) → IsIdle q.seen q.number → Knows calls p.number q
  refused-one q later idle caller rests =
      let same : caller_in q.seen p.number ≡ caller_in p.seen p.number = ap (λ (m : ℕ). caller_in q.seen m) (sym later.number) ∙ caller in
      kept q later (ap (λ (c : Standing). c.made) same, ap (λ (c : Standing). c.last) same) (λ i. ap (λ (c : Standing). c.position) same ∙ idle) (λ u. absurd (resting_passes_have_no_call p.seen was.legal p.number was.inside idle u))

  -- steps of a call
  told-one : (step : CoreStep) (q : PassView) → IsLater p q → HasCall p.seen p.number → Follows p.seen q.seen p.number step → HasSameCall p q
      → Knows calls p.number q × IsMet q.seen.start.cap q.seen.start.opening (calls_in q.seen) (own p.number calls) (told_answer step)
  told-one Going q later u follows same = (
    kept q later (ap (λ (m : ℕ). (caller_in q.seen m).made) (sym later.number) ∙ same.made, ap (λ (m : ℕ). (caller_in q.seen m).last) (sym later.number) ∙ same.last)
        (λ idle. absurd (resting_passes_have_no_call p.seen was.legal p.number was.inside idle u)) (λ before. follows.0),
    tt,
  )
  told-one (NotYet why) q later u follows same = (
    kept q later (ap (λ (m : ℕ). (caller_in q.seen m).made) (sym later.number) ∙ same.made, ap (λ (m : ℕ). (caller_in q.seen m).last) (sym later.number) ∙ same.last)
        (λ idle. absurd (resting_passes_have_no_call p.seen was.legal p.number was.inside idle u)) (λ before. follows),
    tt,
  )
  told-one (Ready n) q later u f same = elim was.tracks.now [
    | inl all ↦ absurd (resting_passes_have_no_call p.seen was.legal p.number was.inside all.0 u)
    | inr one ↦
        let t = was.tracks in
        let past : CoreLog = after p.seen t.earlier in
        let made : (caller_in q.seen p.number).made ≡ (caller_in p.seen p.number).made = ap (λ (m : ℕ). (caller_in q.seen m).made) (sym later.number) ∙ same.made in
        let last : (caller_in q.seen p.number).last ≡ (caller_in p.seen p.number).last = ap (λ (m : ℕ). (caller_in q.seen m).last) (sym later.number) ∙ same.last in
        let joined = f.2 t.earlier t.later t.split t.quiet (made ∙ one.2) in
        let mine : own p.number calls ≡ own p.number (calls_in past) ++ (caller_in q.seen p.number).last ∷ [] = one.3 ∙ ap (λ (c : Call). own p.number (calls_in past) ++ c ∷ []) (sym last) in (
          knows-by calls calls p.number p q was later (tracks-here q.seen calls p.number (resting_passes_have_no_call q.seen later.legal p.number (inside-later p q p.number later was.inside) f.0) f.0 (joined ∙ sym mine)),
          (own p.number (calls_in past), (caller_in q.seen p.number).last, mine, f.1),
        )
  ]

-- what an order makes known: the calls of its pass, and that a reply is met
abbrev pub Told : List Call → ScriptLine → LineAnswer → Caller → Type 0
Told calls line told now =
    let made = calls ++ made_by calls line told in
    Knows made line.pass (seen_of now) × IsMet (seen_of now).seen.start.cap (seen_of now).seen.start.opening (calls_in (seen_of now).seen) (own line.pass made) told

module _ (calls : List Call) (at : ℕ) (p : PassView) (was : Knows calls p.number p) where
  abbrev here : Order → ScriptLine
  here o = record { at = at; pass = p.number; order = o }

  none-told : (o : Order) (told : LineAnswer) (q : PassView) (c : Caller) → seen_of c ≡ q → calls ++ made_by calls (here o) told ≡ calls → Knows calls p.number q → IsMet q.seen.start.cap q.seen.start.opening (calls_in q.seen) (own p.number calls) told → Told calls (here o) told c
  none-told o told q c is none knows met =
      subst (λ (x : PassView). Knows (calls ++ made_by calls (here o) told) p.number x × IsMet x.seen.start.cap x.seen.start.opening (calls_in x.seen) (own p.number (calls ++ made_by calls (here o) told)) told) (sym is)
      (subst (λ (x : List Call). Knows x p.number q × IsMet q.seen.start.cap q.seen.start.opening (calls_in q.seen) (own p.number x) told) (sym none) (knows, met))

  began-told : (o : Order) (kind : Kind) (n : ℕ) → asked p.number (length (own p.number calls)) o ≡ record { pass = p.number; number = length (own p.number calls); kind = kind; amount = n } ∷ []
      → IsIdle p.seen p.number → (told : LineAnswer) (c : Caller) → Began p kind n told c → Told calls (here o) told c
  began-told o kind n is idle answer.Waits (Pending q) b =
      (subst (λ (x : List Call). Knows (calls ++ x) p.number q.pass) (sym is) (begun-one calls p was q.pass kind n b.1.later idle b.3), tt)
  began-told o kind n is idle (answer.NoRow blocked) (Idle q) b = none-told o (answer.NoRow blocked) q (Idle q) refl (append-nil calls) (refused-one calls p was q b.1.later idle b.3 b.4) tt
  began-told o kind n is idle answer.Waits (Idle q) b = absurd b
  began-told o kind n is idle (answer.NoRow blocked) (Pending q) b = absurd b
  began-told o kind n is idle answer.Going c b = absurd b
  began-told o kind n is idle (answer.Reply m) c b = absurd b
  began-told o kind n is idle (answer.NotYet why) c b = absurd b
  began-told o kind n is idle (answer.Lost l f) c b = absurd b
  began-told o kind n is idle answer.Met c b = absurd b

  subtracted-told : (n : ℕ) → IsIdle p.seen p.number → (told : LineAnswer) (q : PassView) → Subtracted p n told q → Told calls (here (order.SubDirect n)) told (Idle q)
  subtracted-told n idle (answer.Reply m) q s = made-one calls p was q Sub n m (tried-later p Sub n m m q s.0) idle s.1
  subtracted-told n idle (answer.Lost l f) q s = none-told (order.SubDirect n) (answer.Lost l f) q (Idle q) refl (append-nil calls) (made-none calls p was q (tried-later p Sub n l f q s.0) idle s.2) tt
  subtracted-told n idle answer.Waits q s = absurd s
  subtracted-told n idle (answer.NoRow blocked) q s = absurd s
  subtracted-told n idle answer.Going q s = absurd s
  subtracted-told n idle (answer.NotYet why) q s = absurd s
  subtracted-told n idle answer.Met q s = absurd s

  call-told : IsIdle p.seen p.number → (o : Order) (told : LineAnswer) (c : Caller) → CallDone p o told c → Told calls (here o) told c
  call-told idle (order.Add n) told c d = began-told (order.Add n) Add n refl idle told c d
  call-told idle (order.Sub n) told c d = began-told (order.Sub n) Sub n refl idle told c d
  call-told idle order.Read told c d =
      subst (λ (x : LineAnswer). Told calls (here order.Read) x c) (sym d.4) (subst (Told calls (here order.Read) (answer.Reply d.0)) (sym d.5) (made-one calls p was d.1 Read 0 d.0 (later_by p _ d.0 d.1 d.2) idle d.3))
  call-told idle (order.Direct n) told c d =
      subst (λ (x : LineAnswer). Told calls (here (order.Direct n)) x c) (sym d.4) (subst (Told calls (here (order.Direct n)) (answer.Reply d.0)) (sym d.5) (made-one calls p was d.1 Add n d.0 (later_by p _ d.0 d.1 d.2) idle d.3))
  call-told idle (order.SubDirect n) told c d = subst (Told calls (here (order.SubDirect n)) told) (sym d.2) (subtracted-told n idle told d.0 d.1)
  call-told idle order.Step told c d = absurd d
  call-told idle order.Poll told c d = absurd d
  call-told idle (order.Meet q) told c d = absurd d

-- steps of a call, which keeps its rows
module _ (calls : List Call) (at : ℕ) (underway : PendingView) (was : Knows calls underway.number underway.pass) where
  abbrev p : PassView
  p = underway.pass

  abbrev its : Order → ScriptLine
  its o = record { at = at; pass = p.number; order = o }

  with-seen : (step : CoreStep) (q : PassView) → seen_of (left_with underway step q) ≡ q
  with-seen Going q = refl
  with-seen (Ready n) q = refl
  with-seen (NotYet why) q = refl

  steps-told : (o : Order) → asked p.number (length (own p.number calls)) o ≡ [] → (step : CoreStep) (q : PassView) (told : LineAnswer) (c : Caller) → told ≡ told_answer step → c ≡ left_with underway step q
      → Knows calls p.number q × IsMet q.seen.start.cap q.seen.start.opening (calls_in q.seen) (own p.number calls) (told_answer step) → Told calls (its o) told c
  steps-told o none step q told c is_told is_left all =
      subst (λ (x : LineAnswer). Told calls (its o) x c) (sym is_told)
      (none-told calls at p was o (told_answer step) q c (ap seen_of is_left ∙ with-seen step q) (none-made calls (its o) (told_answer step) none) all.0 all.1)

  -- a poll begins with a step of a call that is underway
  first-call : (underway : PendingView) (steps : List Move) (until q : PassView) (step : CoreStep) → GoesOn underway steps until → Went (record underway { pass = until }) step q → HasCall underway.seen underway.number
  first-call underway [] until q step goes went = subst (λ (x : PassView). HasCall x.seen x.number) goes went.call
  first-call underway (move ∷ steps) until q step goes went = goes.1.call

  polled-call : (step : CoreStep) (q : PassView) → Polled underway step q → HasCall p.seen p.number
  polled-call step q d = first-call underway d.steps d.until q step d.goes d.last

  step-told : (o : Order) (told : LineAnswer) (c : Caller) → StepDone underway o told c → Told calls (its o) told c
  step-told order.Step told c d = steps-told order.Step refl d.0 d.1 told c d.3 d.4 (told-one calls p was d.0 d.1 d.2.later d.2.call d.2.follows d.2.same)
  step-told order.Poll told c d = steps-told order.Poll refl d.0 d.1 told c d.3 d.4 (told-one calls p was d.0 d.1 d.2.later (polled-call d.0 d.1 d.2) d.2.follows d.2.same)
  step-told (order.Add n) told c d = absurd d
  step-told (order.Sub n) told c d = absurd d
  step-told (order.Direct n) told c d = absurd d
  step-told (order.SubDirect n) told c d = absurd d
  step-told order.Read told c d = absurd d
  step-told (order.Meet q) told c d = absurd d

pub order-told : (calls : List Call) (at : ℕ) (was : Caller) (o : Order) (told : LineAnswer) (now : Caller) → Knows calls (seen_of was).number (seen_of was) → IsRight was → OrderDone was o told now → Told calls (record { at = at; pass = (seen_of was).number; order = o }) told now
order-told calls at (Idle p) o told now knows right d = call-told calls at p knows right o told now d
order-told calls at (Pending p) o told now knows right d = step-told calls at p knows o told now d
