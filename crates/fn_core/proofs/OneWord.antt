-- Each event changes the words in its one word alone, as its operation does.
use Rattle.std.proofs.Common.{◌≡◌, ◌≢◌, ℕ, refl, sym, ap, ◌∙◌, slice_index, slice_set}
use Rattle.std.proofs.lemmas.List.{set-get_or}
use Rattle.fn_model.specs.declared.Kind.{Kind}
use Rattle.fn_rows.specs.Machine as rows
use Rattle.fn_rows.specs.Machine.{Step}
use Rattle.fn_rows.specs.Trace.{Traced, traced}
use Rattle.fn_layout.specs.Tree.{aggregator, member}
use Rattle.fn_layout.specs.Words.{Name, Main, IsNamed, number}
use Rattle.fn_core.specs.State.{Start, State, local}
use Rattle.fn_core.specs.Words.{words_of}
use Rattle.fn_core.proofs.Put.{put_at_here}
use Rattle.fn_core.proofs.Homes.{Local, Home, Root, At, local_word, told, word_at, home, word-home, words_change, words_same, place_case}
use Rattle.fn_core.proofs.Local.{SameWords, Writes}

module _ (start : Start) where
  -- where no word changes, the number found stays
  pub quiet : (s t : State) (k : ℕ) → words_of start t ≡ words_of start s → words_of start t ≡ slice_set (words_of start s) k (slice_index (words_of start s) k)
  quiet s t k e = e ∙ sym (set-get_or (words_of start s) k 0)

  module _ (s : State) (kind : Kind) (level pass : ℕ) (step : ℕ → Step) where
    -- a step of an aggregator that changes no word
    pub local_quiet : SameWords (s.rows kind level (aggregator start.shape pass level)).state (rows.after (s.rows kind level (aggregator start.shape pass level)).state (step (member start.shape level pass)))
        → (place : Home) → word_at start (local start s kind level pass step) place ≡ word_at start s place
    local_quiet same place =
        let index : ℕ = aggregator start.shape pass level in
        place_case start s (local start s kind level pass step) kind level index (traced (s.rows kind level index) (step (member start.shape level pass))) refl (λ k j i. refl) place (λ l e. same l)

    -- .. leaves the number that it found
    pub local_unmoved : (k : ℕ) → SameWords (s.rows kind level (aggregator start.shape pass level)).state (rows.after (s.rows kind level (aggregator start.shape pass level)).state (step (member start.shape level pass)))
        → words_of start (local start s kind level pass step) ≡ slice_set (words_of start s) k (slice_index (words_of start s) k)
    local_unmoved k same = quiet s (local start s kind level pass step) k (words_same start s (local start s kind level pass step) (local_quiet same))

    -- a step of an aggregator that writes one word
    pub local_event : (local_name : Local) (name : Name) (n : ℕ) → IsNamed start.shape name → home start.shape name ≡ At kind level (aggregator start.shape pass level) local_name
        → Writes local_name (s.rows kind level (aggregator start.shape pass level)).state (rows.after (s.rows kind level (aggregator start.shape pass level)).state (step (member start.shape level pass))) n
        → words_of start (local start s kind level pass step) ≡ slice_set (words_of start s) (number start.shape name) (told start.shape kind level (aggregator start.shape pass level) local_name n)
    local_event local_name name n named at writes =
        let index : ℕ = aggregator start.shape pass level in
        let t : State = local start s kind level pass step in
        let next : Traced = traced (s.rows kind level index) (step (member start.shape level pass)) in
        words_change start s t name named
        (λ other ne. place_case start s t kind level index next refl (λ k j i. refl) other (λ l e. writes.same l (λ is. ne (e ∙ ap (At kind level index) is ∙ sym at))))
        ∙ ap (slice_set (words_of start s) (number start.shape name))
        (word-home start t name ∙ ap (word_at start t) at
        ∙ ap (λ (x : Traced). told start.shape kind level index local_name (local_word local_name x.state)) (put_at_here s.rows kind level index next)
        ∙ ap (told start.shape kind level index local_name) writes.word)

  -- a step of the main word alone
  pub main_event : (s t : State) → ((place : Home) → place ≢ Root → word_at start t place ≡ word_at start s place) → words_of start t ≡ slice_set (words_of start s) 0 t.main
  main_event s t same = words_change start s t Main tt same
