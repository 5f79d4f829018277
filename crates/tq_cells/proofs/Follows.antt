-- A step of a seat keeps the running rule, and its log is the one before, with the step's event at its end.
use Rattle.std.proofs.Common.{◌≡◌, ℕ, ◌<◌, List, [], ◌∷◌, ◌++◌, set, refl, sym, ◌∙◌, subst, inl, arith}
use mathlib.Core.Option as maybe
use mathlib.Core.Option.{some}
use lib.ListN.{get_elem?}
use Rattle.atomic_table.specs.Table.{State}
use Rattle.running.specs.declared.Part.{Part}
use Rattle.running.specs.declared.View.{View}
use Rattle.running.specs.Machine.{Machine, Laws, own_of, found}
use Rattle.running.specs.Running.{times, numbers_of, Each, knows, kept, Fits, Knows, Running}
use Rattle.running.proofs.Logs.{prefix_refl, prefix_more, events_else, legal_more}
use Rattle.running.proofs.Views.{times-append, set_there, kept_set, kept_at, kept_alone, each_set}

module _ {B E S O : Type 0} (m : Machine B E S O) where
  -- a part fits a log that goes on with an event of a pass which it doesn't keep
  part_fits_more : (log : List E) (event : E) (p : Part E) → Fits m log p → times (m.by event) p.numbers ≡ 0 → Fits m (log ++ event ∷ []) p
  part_fits_more log event p fits none = record {
    begins = prefix_more p.log log (event ∷ []) fits.begins;
    own = λ n mine. events_else m n log event (λ is. absurd (let z : times n p.numbers ≡ 0 = subst (λ i. times i p.numbers ≡ 0) is none in omega arith)) ∙ fits.own n mine;
  }

  parts_fit_more : (log : List E) (event : E) (ps : List (Part E)) → Each (Fits m log) ps → times (m.by event) (numbers_of ps) ≡ 0 → Each (Fits m (log ++ event ∷ [])) ps
  parts_fit_more log event [] fits none = tt
  parts_fit_more log event (p ∷ ps) fits none =
      (part_fits_more log event p fits.0 (omega (arith, times-append (m.by event) p.numbers (numbers_of ps))), parts_fit_more log event ps fits.1 (omega (arith, times-append (m.by event) p.numbers (numbers_of ps))))

  -- a seat that has seen the whole log knows it
  pub knows_whole : (key : B) (numbers : List ℕ) (log : List E) → Knows m key log (knows key numbers log)
  knows_whole key numbers log = record { parts = (record { begins = prefix_refl log; own = λ n mine. refl }, tt); start = λ _. refl }

  -- the step of a seat, and the log after it
  pub follows : {T : Type 0} (laws : Laws m) (key : B) (s : State T (View B E)) (rule : Running m key s) (id : ℕ) (v : View B E) (event : E) (homes : List (maybe.Option T)) (n : ℕ)
      → get_elem? s.views id ≡ some v → 0 < times (m.by event) (numbers_of v.parts) → m.Guard key (own_of m key rule.log (m.by event)) event
      → n ≡ m.change key (own_of m key rule.log (m.by event)) event (found m key rule.log event)
      → (after : Running m key (record { words = set s.words (m.place key event) n; homes = homes; views = set s.views id (knows key (numbers_of v.parts) (rule.log ++ event ∷ [])) })) × (after.log ≡ rule.log ++ event ∷ [])
  follows laws key s rule id v event homes n at mine may is =
      let log = rule.log ++ event ∷ [] in
      let w = knows key (numbers_of v.parts) log in (
        record {
          log = log;
          legal = legal_more m key rule.log event rule.legal may;
          words = (λ i. set (rule.words i) (m.place key event) (is i)) ∙ sym (laws.one_word key rule.log event rule.legal may);
          seen = (id, w, set_there s.views id v w at, inl refl);
          knows = each_set (Knows m key log) s.views id w
              (λ j u apart there. let k = rule.knows j u there in record { parts = parts_fit_more rule.log event u.parts k.parts (kept_alone (m.by event) s.views id j v u (rule.once (m.by event)) at there apart mine); start = k.start })
              (knows_whole key (numbers_of v.parts) log);
          once = λ k. let h = rule.once k in omega (arith, kept_set k s.views id v w at, times-append k (numbers_of v.parts) []);
          silent = λ k none.
              (let unkept : kept k s.views ≡ 0 = omega (arith, kept_set k s.views id v w at, times-append k (numbers_of v.parts) []) in
              events_else m k rule.log event (λ is'. absurd (let theirs : 0 < times k (numbers_of v.parts) = subst (λ (i : ℕ). 0 < times i (numbers_of v.parts)) is' mine in omega (arith, kept_at k s.views id v at))) ∙ rule.silent k unkept);
        },
        refl,
      )
