use Rattle.std.proofs.Common.{◌≡◌, ◌∙◌, ◌∷◌, ℕ, List, All, length, map, get_or, sym, ap, subst, arith}
use Rattle.running.specs.Running.{upto}
use Rattle.quota_pool.specs.Views.{PoolView, DeskView, Belongs}
use Rattle.quota_pool.specs.Claims.{TellsBooks}
use Rattle.quota_pool.proofs.Books.{tells_books, are_closed}
use Rattle.quota_pool.proofs.Closes.{count, first_room, first_each, others_each, places, books_place, books_none, tables_ready, pool_closed}
use Rattle.quota_pool.proofs.pool.QuotaPool.close.Goals as goal

pub hand_all-rooms-requires-clause-first : goal.hand_all-rooms-requires-clause-first
hand_all-rooms-requires-clause-first c =
    let self : PoolView = record { workers = c.self.inside.workers; tables = c.self.inside.funnels.items } in
    let desks = c.args.desks.items in
    let together : All (Belongs self) desks = subst (λ (p : PoolView). All (Belongs p) desks) (sym c.self.view_is) c.requires.together in
    let numbers : map (λ (d : DeskView). d.worker) desks ≡ upto self.workers = c.requires.all ∙ ap (λ (p : PoolView). upto p.workers) (sym c.self.view_is) in
    let first : DeskView = record { worker = c.passes.inside.worker; passes = c.passes.inside.passes.items } in
    let is : first ≡ get_or desks 0 first = subst (λ (x : DeskView). x ≡ get_or desks 0 x) (sym c.passes.view_is) c.remove.ensures.value in
    first_each self desks first c.remove.new.self.items c.self.invariant.0 c.self.invariant.1 together numbers is c.remove.ensures.items c.passes.inside.closing c.in-Some.closing c.passes.invariant c.in-Some.is

pub hand_all-rooms-requires-clause-others : goal.hand_all-rooms-requires-clause-others
hand_all-rooms-requires-clause-others c =
    let self : PoolView = record { workers = c.self.inside.workers; tables = c.self.inside.funnels.items } in
    let desks = c.args.desks.items in
    let together : All (Belongs self) desks = subst (λ (p : PoolView). All (Belongs p) desks) (sym c.self.view_is) c.requires.together in
    let numbers : map (λ (d : DeskView). d.worker) desks ≡ upto self.workers = c.requires.all ∙ ap (λ (p : PoolView). upto p.workers) (sym c.self.view_is) in
    let first : DeskView = record { worker = c.passes.inside.worker; passes = c.passes.inside.passes.items } in
    let is : first ≡ get_or desks 0 first = subst (λ (x : DeskView). x ≡ get_or desks 0 x) (sym c.passes.view_is) c.remove.ensures.value in
    others_each self desks first c.remove.new.self.items c.self.invariant.0 c.self.invariant.1 together numbers is c.remove.ensures.items c.passes.inside.closing c.in-Some.closing c.passes.invariant c.in-Some.is

pub hand_all-rooms-requires-clause-place : goal.hand_all-rooms-requires-clause-place
hand_all-rooms-requires-clause-place c =
    let self : PoolView = record { workers = c.self.inside.workers; tables = c.self.inside.funnels.items } in
    let desks = c.args.desks.items in
    let together : All (Belongs self) desks = subst (λ (p : PoolView). All (Belongs p) desks) (sym c.self.view_is) c.requires.together in
    let numbers : map (λ (d : DeskView). d.worker) desks ≡ upto self.workers = c.requires.all ∙ ap (λ (p : PoolView). upto p.workers) (sym c.self.view_is) in
    let first : DeskView = record { worker = c.passes.inside.worker; passes = c.passes.inside.passes.items } in
    let is : first ≡ get_or desks 0 first = subst (λ (x : DeskView). x ≡ get_or desks 0 x) (sym c.passes.view_is) c.remove.ensures.value in
    places self desks first c.remove.new.self.items c.self.invariant.0 c.self.invariant.1 together numbers is c.remove.ensures.items c.passes.inside.closing c.in-Some.closing c.passes.invariant c.in-Some.is

pub close_all-requires-clause-none : goal.close_all-requires-clause-none
close_all-requires-clause-none c =
    let self : PoolView = record { workers = c.self.inside.workers; tables = c.self.inside.funnels.items } in
    let desks = c.args.desks.items in
    let together : All (Belongs self) desks = subst (λ (p : PoolView). All (Belongs p) desks) (sym c.self.view_is) c.requires.together in
    let numbers : map (λ (d : DeskView). d.worker) desks ≡ upto self.workers = c.requires.all ∙ ap (λ (p : PoolView). upto p.workers) (sym c.self.view_is) in
    let first : DeskView = record { worker = c.passes.inside.worker; passes = c.passes.inside.passes.items } in
    let is : first ≡ get_or desks 0 first = subst (λ (x : DeskView). x ≡ get_or desks 0 x) (sym c.passes.view_is) c.remove.ensures.value in
    books_none self desks first c.remove.new.self.items c.self.invariant.0 c.self.invariant.1 together numbers is c.remove.ensures.items c.passes.inside.closing c.in-Some.closing c.passes.invariant c.in-Some.is

pub close_all-requires-clause-place : goal.close_all-requires-clause-place
close_all-requires-clause-place c =
    let self : PoolView = record { workers = c.self.inside.workers; tables = c.self.inside.funnels.items } in
    let desks = c.args.desks.items in
    let together : All (Belongs self) desks = subst (λ (p : PoolView). All (Belongs p) desks) (sym c.self.view_is) c.requires.together in
    let numbers : map (λ (d : DeskView). d.worker) desks ≡ upto self.workers = c.requires.all ∙ ap (λ (p : PoolView). upto p.workers) (sym c.self.view_is) in
    let first : DeskView = record { worker = c.passes.inside.worker; passes = c.passes.inside.passes.items } in
    let is : first ≡ get_or desks 0 first = subst (λ (x : DeskView). x ≡ get_or desks 0 x) (sym c.passes.view_is) c.remove.ensures.value in
    books_place self desks first c.remove.new.self.items c.self.invariant.0 c.self.invariant.1 together numbers is c.remove.ensures.items c.passes.inside.closing c.in-Some.closing c.passes.invariant c.in-Some.is

pub close_all-requires-clause-ready : goal.close_all-requires-clause-ready
close_all-requires-clause-ready c =
    let self : PoolView = record { workers = c.self.inside.workers; tables = c.self.inside.funnels.items } in
    let desks = c.args.desks.items in
    let together : All (Belongs self) desks = subst (λ (p : PoolView). All (Belongs p) desks) (sym c.self.view_is) c.requires.together in
    let numbers : map (λ (d : DeskView). d.worker) desks ≡ upto self.workers = c.requires.all ∙ ap (λ (p : PoolView). upto p.workers) (sym c.self.view_is) in
    let first : DeskView = record { worker = c.passes.inside.worker; passes = c.passes.inside.passes.items } in
    let is : first ≡ get_or desks 0 first = subst (λ (x : DeskView). x ≡ get_or desks 0 x) (sym c.passes.view_is) c.remove.ensures.value in
    tables_ready self desks first c.remove.new.self.items c.self.invariant.0 c.self.invariant.1 together numbers is c.remove.ensures.items c.passes.inside.closing c.in-Some.closing c.passes.invariant c.in-Some.is _ c.hand_all-rooms.ensures

pub returns-clause-told : goal.returns-clause-told
returns-clause-told c =
    let self : PoolView = record { workers = c.self.inside.workers; tables = c.self.inside.funnels.items } in
    let desks = c.args.desks.items in
    let together : All (Belongs self) desks = subst (λ (p : PoolView). All (Belongs p) desks) (sym c.self.view_is) c.requires.together in
    let numbers : map (λ (d : DeskView). d.worker) desks ≡ upto self.workers = c.requires.all ∙ ap (λ (p : PoolView). upto p.workers) (sym c.self.view_is) in
    let first : DeskView = record { worker = c.passes.inside.worker; passes = c.passes.inside.passes.items } in
    let is : first ≡ get_or desks 0 first = subst (λ (x : DeskView). x ≡ get_or desks 0 x) (sym c.passes.view_is) c.remove.ensures.value in
    subst (λ (p : PoolView). TellsBooks p desks c.close_all.result.items) c.self.view_is (tells_books self desks together c.self.invariant.1 numbers c.close_all.result.items (pool_closed self desks first c.remove.new.self.items c.self.invariant.0 c.self.invariant.1 together numbers is c.remove.ensures.items c.passes.inside.closing c.in-Some.closing c.passes.invariant c.in-Some.is _ c.hand_all-rooms.ensures c.close_all.result.items c.close_all.ensures))

pub returns-clause-closed : goal.returns-clause-closed
returns-clause-closed c =
    let self : PoolView = record { workers = c.self.inside.workers; tables = c.self.inside.funnels.items } in
    let desks = c.args.desks.items in
    let together : All (Belongs self) desks = subst (λ (p : PoolView). All (Belongs p) desks) (sym c.self.view_is) c.requires.together in
    let numbers : map (λ (d : DeskView). d.worker) desks ≡ upto self.workers = c.requires.all ∙ ap (λ (p : PoolView). upto p.workers) (sym c.self.view_is) in
    let first : DeskView = record { worker = c.passes.inside.worker; passes = c.passes.inside.passes.items } in
    let is : first ≡ get_or desks 0 first = subst (λ (x : DeskView). x ≡ get_or desks 0 x) (sym c.passes.view_is) c.remove.ensures.value in
    are_closed self desks together c.self.invariant.1 numbers c.close_all.result.items (pool_closed self desks first c.remove.new.self.items c.self.invariant.0 c.self.invariant.1 together numbers is c.remove.ensures.items c.passes.inside.closing c.in-Some.closing c.passes.invariant c.in-Some.is _ c.hand_all-rooms.ensures c.close_all.result.items c.close_all.ensures)
