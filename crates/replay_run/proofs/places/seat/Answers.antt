use Rattle.std.proofs.Common.{◌≡◌, ◌++◌, ◌∷◌, [], List, sym, ap, ◌∙◌, append_assoc}
use Rattle.std.proofs.lemmas.List.{map-append}
use Rattle.std.proofs.lemmas.List.Elements.{All-push, All-same}
use Rattle.quota_pool.specs.Views.{DeskView}
use Rattle.replay_run.specs.declared.places.Place.{Place}
use Rattle.replay_run.specs.Work.{desks_at}
use Rattle.replay_run.proofs.places.seat.Goals as goal

pub loop-desk-preserved : goal.loop-desk-preserved
loop-desk-preserved c =
    let s = c.in-Some.ensures.steps in
    let place : Place = record { desk = c.in-Some.desk; jobs = record { numbers = c.new-numbers.result; answers = c.new-answers.result } } in
    let now : c.push.new.self.items ≡ c.loop-desk.places.items ++ place ∷ [] = c.in-Ok.ensures.items in
    let rest : List DeskView = c.next.new.self.rest.items in
    let Empty : Place → Type 0 = λ p. (p.jobs.numbers.items ≡ []) × (p.jobs.answers.items ≡ []) in
    record {
      desks = ap (λ (places : List Place). desks_at places ++ rest) now ∙ ap (λ (ds : List DeskView). ds ++ rest) (map-append (λ (p : Place). p.desk) c.loop-desk.places.items (place ∷ []))
          ∙ append_assoc (desks_at c.loop-desk.places.items) (c.in-Some.desk ∷ []) rest ∙ ap (λ (ds : List DeskView). desks_at c.loop-desk.places.items ++ ds) (sym s.0) ∙ c.loop-desk.invariant.desks;
      empty = All-same Empty c.push.new.self.items (c.loop-desk.places.items ++ place ∷ []) now (All-push Empty c.loop-desk.places.items place c.loop-desk.invariant.empty (c.new-numbers.ensures.items, c.new-answers.ensures.items));
    }
