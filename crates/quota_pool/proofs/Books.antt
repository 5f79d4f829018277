-- What a closed pool's books tell: the calls of its desks, and no other.
use Rattle.std.proofs.Common.{◌≡◌, ◌<◌, ◌≤◌, All, ℕ, zero, suc, List, [], ◌∷◌, ◌++◌, map, length, slice_get, Option, Some, refl, sym, ap, ◌∙◌, subst, arith}
use Rattle.std.proofs.lemmas.Option.{none-some, same_Some, slice_get_within, get_or_from_slice_get}
use Rattle.std.specs.Option.{option_to_list}
use mathlib.Core.List.{IsPrefix}
use Rattle.running.specs.Running.{upto}
use Rattle.running.proofs.Logs.{prefix_more}
use Rattle.fn_model.specs.declared.Call.{Call}
use Rattle.fn_model.specs.Calls.{own}
use Rattle.fn_core.specs.declared.Event.{Event}
use Rattle.fn_core.specs.declared.Move.TheVariants.{Glance}
use Rattle.fn_core.specs.declared.Start.{Start}
use Rattle.fn_core.specs.Calls.{CoreLog, calls_in, IsLegal}
use Rattle.fn_core.proofs.Public.{histories_go_on}
use Rattle.fn_table.specs.Seen.{TableView, PassView, IsClosed, event}
use Rattle.fn_table.proofs.Books.{none_outside}
use Rattle.quota_pool.specs.Claims.{HasCallsOf, TellsBook, TellsBooks}
use Rattle.quota_pool.specs.Closed.{passes_at, ClosesWith, AreClosed}
use Rattle.quota_pool.specs.Views.{PoolView, DeskView, Belongs}
use Rattle.quota_pool.proofs.Closes.{found_at, count_of_desks, its_pass, EachCloses}

-- the passes of desks at a tenant, by desk
passes_found : (tenant : ℕ) (ds : List DeskView) → ((k : ℕ) (d : DeskView) → slice_get ds k ≡ Some d → (q : PassView) × (slice_get d.passes tenant ≡ Some q))
    → (k : ℕ) (d : DeskView) (q : PassView) → slice_get ds k ≡ Some d → slice_get d.passes tenant ≡ Some q → slice_get (passes_at tenant ds) k ≡ Some q
passes_found tenant [] all k d q none at = absurd (none-some d none)
passes_found tenant (first ∷ ds) all zero d q is at =
    let same : slice_get first.passes tenant ≡ Some q = ap (λ (x : DeskView). slice_get x.passes tenant) (same_Some first d is) ∙ at in
    ap (λ (o : Option PassView). slice_get (option_to_list o ++ passes_at tenant ds) 0) same
passes_found tenant (first ∷ ds) all (suc k) d q is at =
    let has = all 0 first refl in
    ap (λ (o : Option PassView). slice_get (option_to_list o ++ passes_at tenant ds) (suc k)) has.1 ∙ passes_found tenant ds (λ j e at_j. all (suc j) e at_j) k d q is at

module _ (pool : PoolView) (ds : List DeskView) (together : All (Belongs pool) ds) where
  belongs_at : (k : ℕ) (d : DeskView) → slice_get ds k ≡ Some d → Belongs pool d
  belongs_at k d at = subst (Belongs pool) (get_or_from_slice_get ds k d d at) (together k d (slice_get_within ds k d at))

  module _ (t : ℕ) (table : TableView) (here : slice_get pool.tables t ≡ Some table) (k : ℕ) (d : DeskView) (p : PassView) (at : slice_get ds k ≡ Some d) (its : slice_get d.passes t ≡ Some p) where
    -- a desk's pass stands in its place among those with which the table is closed
    pass_there : slice_get (passes_at t ds) k ≡ Some p
    pass_there = passes_found t ds (λ j e at_j. let found = its_pass pool t table here e (belongs_at j e at_j) in (found.0, found.1)) k d p at its

    -- so the book's log begins with what it has seen
    pub seen_in_book : (book : CoreLog) → IsClosed (passes_at t ds) book → IsPrefix p.seen.log book.log
    seen_in_book book closed = subst (λ (log : List Event). IsPrefix p.seen.log log) (sym closed.last) (prefix_more p.seen.log closed.before (event 0 Glance ∷ []) (closed.each k p pass_there).begins)

    -- and the book has its calls
    has_calls : (book : CoreLog) → ClosesWith table (passes_at t ds) book → HasCallsOf p book
    has_calls book closes =
        let start : book.start ≡ p.seen.start = closes.begins ∙ sym ((belongs_at k d at).each t table p here its).0.1 in
        record { begins = histories_go_on p.seen book closes.closed.legal start (seen_in_book book closes.closed); calls = closes.calls k p pass_there }

  module _ (counts : All (λ (table : TableView). table.start.shape.passes ≡ pool.workers) pool.tables) (numbers : map (λ (d : DeskView). d.worker) ds ≡ upto pool.workers) (books : List CoreLog) (closes : EachCloses pool ds books) where
    tells_book : (t : ℕ) (table : TableView) (book : CoreLog) → slice_get pool.tables t ≡ Some table → slice_get books t ≡ Some book → TellsBook t table ds book
    tells_book t table book here there =
        let its = closes.each t table book here there in
        let passes : table.start.shape.passes ≡ pool.workers = subst (λ (x : TableView). x.start.shape.passes ≡ pool.workers) (get_or_from_slice_get pool.tables t table table here) (counts t table (slice_get_within pool.tables t table here)) in
        let all : book.start.shape.passes ≡ length ds = ap (λ (s : Start). s.shape.passes) its.begins ∙ passes ∙ sym (count_of_desks ds pool.workers numbers) in
        record {
          start = its.begins;
          each = λ k d p at at_pass. has_calls t table here k d p at at_pass book its;
          no_other = λ number above. none_outside book its.closed.legal number (omega (arith, all, above));
        }

    -- what is claimed of the books
    pub tells_books : TellsBooks pool ds books
    tells_books = record { tenants = closes.tenants; each = tells_book }

    -- and how they came to be
    pub are_closed : AreClosed ds books
    are_closed t book there =
        let table = found_at pool.tables t (omega (arith, closes.tenants, slice_get_within books t book there)) in
        (closes.each t table.0 book table.1 there).closed
