-- Where each word stands: the main word, or a word of one aggregator.
use Rattle.std.proofs.Common.{◌≡◌, ◌≢◌, inl, inr, cond, Bool, ℕ, ◌+◌, ◌*◌, ◌/◌, ◌%◌, ◌<◌, refl, sym, ap, ◌∙◌, slice_index, slice_set}
use Rattle.std.proofs.lemmas.Nat.{div-mul-add, mod-mul-add}
use Rattle.fn_model.specs.declared.Kind.{Kind}
use Rattle.fn_rows.specs.declared.Field.{Field}
use Rattle.fn_rows.specs.declared.Field.TheVariants.{Lo, Base, Prev}
use Rattle.fn_rows.specs.Machine as rows
use Rattle.fn_rows.specs.Trace.{Traced}
use Rattle.fn_layout.specs.declared.shape.Shape.{Shape}
use Rattle.fn_layout.specs.Tree.{aggregator, member, pass_of}
use Rattle.fn_layout.specs.Words.{Name, Main, Value, Last, Done, Announcement, RowWord, IsNamed, number, read, words}
use Rattle.fn_layout.proofs.Read.{names_are_read, numbers_are_named}
use Rattle.fn_layout.proofs.Members.{members_are_numbered}
use Rattle.fn_core.specs.State.{Start, State, put_at}
use Rattle.fn_core.specs.Words.{link, told_field, word, words_of}
use Rattle.fn_core.proofs.Lists.{get-list_of, list_of-same, list_of-set}
use Rattle.fn_core.proofs.Put.{same_place, put_at_there}

-- a word of an aggregator, whose members and rows have numbers of its own
pub data Local : Type 0 where
  Total : Local
  Newest : Local
  Finished : Local
  Announced : (member : ℕ) → Local
  RowAt : (row : ℕ) (field : Field) → Local

pub data Home : Type 0 where
  Root : Home
  At : (kind : Kind) (level index : ℕ) (local : Local) → Home

abbrev pub field_at : Field → rows.State → ℕ → ℕ
field_at Lo t row = t.lo row
field_at Base t row = t.base row
field_at Prev t row = t.prev row

abbrev pub local_word : Local → rows.State → ℕ
local_word Total t = t.total
local_word Newest t = t.last
local_word Finished t = t.done
local_word (Announced m) t = t.announced m
local_word (RowAt row field) t = field_at field t row

-- what the table has for a word of an aggregator: the words that name rows name them by their numbers in the layout
abbrev pub told : Shape → Kind → ℕ → ℕ → Local → ℕ → ℕ
told shape kind level index Total n = n
told shape kind level index Newest n = link shape kind level index n
told shape kind level index Finished n = n
told shape kind level index (Announced m) n = n
told shape kind level index (RowAt row field) n = told_field shape kind level index field n

abbrev pub word_at : Start → State → Home → ℕ
word_at start s Root = s.main
word_at start s (At kind level index local) = told start.shape kind level index local (local_word local (s.rows kind level index).state)

abbrev pub home : Shape → Name → Home
home shape Main = Root
home shape (Value kind level index) = At kind level index Total
home shape (Last kind level index) = At kind level index Newest
home shape (Done kind level index) = At kind level index Finished
home shape (Announcement pass kind level) = At kind level (aggregator shape pass level) (Announced (member shape level pass))
home shape (RowWord pass kind level row field) = At kind level (aggregator shape pass level) (RowAt (member shape level pass * shape.rows + row) field)

pub word-home : (start : Start) (s : State) (name : Name) → word start s name ≡ word_at start s (home start.shape name)
word-home start s Main = refl
word-home start s (Value kind level index) = refl
word-home start s (Last kind level index) = refl
word-home start s (Done kind level index) = refl
word-home start s (Announcement pass kind level) = refl
word-home start s (RowWord pass kind level row Lo) = refl
word-home start s (RowWord pass kind level row Base) = refl
word-home start s (RowWord pass kind level row Prev) = refl

-- the name of a word by where it stands
name_there : Shape → Kind → ℕ → ℕ → Local → Name
name_there shape kind level index Total = Value kind level index
name_there shape kind level index Newest = Last kind level index
name_there shape kind level index Finished = Done kind level index
name_there shape kind level index (Announced m) = Announcement (pass_of shape level index m) kind level
name_there shape kind level index (RowAt row field) = RowWord (pass_of shape level index (row / shape.rows)) kind level (row % shape.rows) field

name_at : Shape → Home → Name
name_at shape Root = Main
name_at shape (At kind level index local) = name_there shape kind level index local

name_at-home : (shape : Shape) (name : Name) → IsNamed shape name → name_at shape (home shape name) ≡ name
unfolding name_at name_there
name_at-home shape Main h = refl
name_at-home shape (Value kind level index) h = refl
name_at-home shape (Last kind level index) h = refl
name_at-home shape (Done kind level index) h = refl
name_at-home shape (Announcement pass kind level) h = ap (λ (p : ℕ). Announcement p kind level) (members_are_numbered shape pass level h.0).1
name_at-home shape (RowWord pass kind level row field) h =
    let m : ℕ = member shape level pass in
    let whole : (m * shape.rows + row) / shape.rows ≡ m = div-mul-add m shape.rows row h.1 in
    let rest : (m * shape.rows + row) % shape.rows ≡ row = mod-mul-add m shape.rows row h.1 in
    ap (λ (p : ℕ). RowWord (pass_of shape level (aggregator shape pass level) p) kind level ((m * shape.rows + row) % shape.rows) field) whole
    ∙ ap (λ (p : ℕ). RowWord p kind level ((m * shape.rows + row) % shape.rows) field) (members_are_numbered shape pass level h.0.0).1
    ∙ ap (λ (r : ℕ). RowWord pass kind level r field) rest

-- words with different names stand at different places
pub home_injective : (shape : Shape) (a b : Name) → IsNamed shape a → IsNamed shape b → home shape a ≡ home shape b → a ≡ b
home_injective shape a b h k e = sym (name_at-home shape a h) ∙ ap (name_at shape) e ∙ name_at-home shape b k

module _ (start : Start) where
  -- A change of one word: all the words change at its number alone
  pub words_change : (s t : State) (name : Name) → IsNamed start.shape name → ((other : Home) → other ≢ home start.shape name → word_at start t other ≡ word_at start s other)
      → words_of start t ≡ slice_set (words_of start s) (number start.shape name) (word start t name)
  words_change s t name h same =
      let shape = start.shape in
      let k : ℕ = number shape name in
      let there = names_are_read shape name h in
      let others : (i : ℕ) → i < words shape → i ≢ k → word start t (read shape i) ≡ word start s (read shape i) = λ i l ne.
      (let named = numbers_are_named shape i l in
      word-home start t (read shape i)
      ∙ same (home shape (read shape i)) (λ e. ne (sym named.1 ∙ ap (number shape) (home_injective shape (read shape i) name named.0 h e)))
      ∙ sym (word-home start s (read shape i))) in
      list_of-set (λ i. word start s (read shape i)) (λ i. word start t (read shape i)) (words shape) k there.1 others
      ∙ ap (λ (x : Name). slice_set (words_of start s) k (word start t x)) there.0

  -- where no word changes, none of the list does
  pub words_same : (s t : State) → ((place : Home) → word_at start t place ≡ word_at start s place) → words_of start t ≡ words_of start s
  words_same s t same =
      list_of-same (λ i. word start s (read start.shape i)) (λ i. word start t (read start.shape i)) (words start.shape)
      (λ i l. word-home start t (read start.shape i) ∙ same (home start.shape (read start.shape i)) ∙ sym (word-home start s (read start.shape i)))

  -- the word at the number of a name
  pub word_found : (s : State) (name : Name) → IsNamed start.shape name → slice_index (words_of start s) (number start.shape name) ≡ word start s name
  word_found s name h =
      let there = names_are_read start.shape name h in
      get-list_of (λ i. word start s (read start.shape i)) (words start.shape) (number start.shape name) there.1 ∙ ap (word start s) there.0

  -- A step of one aggregator leaves the words of all other places
  pub place_case : (s t : State) (kind : Kind) (level index : ℕ) (next : Traced) → t.main ≡ s.main → ((k : Kind) (j i : ℕ) → t.rows k j i ≡ put_at s.rows kind level index next k j i)
      → (other : Home) → ((l : Local) → other ≡ At kind level index l → local_word l next.state ≡ local_word l (s.rows kind level index).state) → word_at start t other ≡ word_at start s other
  place_case s t kind level index next main rows Root same = main
  place_case s t kind level index next main rows (At k j i l) same =
      ap (λ (x : Traced). told start.shape k j i l (local_word l x.state)) (rows k j i)
      ∙ elim (same_place k kind j level i index) as (λ z. told start.shape k j i l (local_word l (put_at s.rows kind level index next k j i).state) ≡ told start.shape k j i l (local_word l (s.rows k j i).state)) [
        | inl is ↦ (let old : s.rows k j i ≡ s.rows kind level index = ap (λ (x : Kind). s.rows x j i) is.0 ∙ ap (λ (x : ℕ). s.rows kind x i) is.1 ∙ ap (λ (x : ℕ). s.rows kind level x) is.2 in
            ap (λ (x : Bool). told start.shape k j i l (local_word l (cond x next (s.rows k j i)).state)) is.3
            ∙ ap (told start.shape k j i l) (same l (cc (is.0, is.1, is.2)))
            ∙ ap (λ (x : Traced). told start.shape k j i l (local_word l x.state)) (sym old))
        | inr not ↦ ap (λ (x : Traced). told start.shape k j i l (local_word l x.state)) (put_at_there s.rows kind level index next k j i not)
      ]
