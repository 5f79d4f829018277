-- The grammar of scripts: which bytes say what, apart from how they are read and from any fault.
use Rattle.std.specs.Prelude.{◌≡◌, ℕ, ◌+◌, ◌^◌, ◌<◌, ◌≤◌, ◌⊎◌, List, [], ◌∷◌, ◌++◌, length, Some, None, codes}
use Rattle.std.specs.List.{AllByRecursion}
use Rattle.fn_layout.specs.Shape.{first_fault}
use Rattle.script_text.specs.Script.{Content, Header}
use Rattle.script_text.specs.Sound.{total_amount}
use Rattle.text_lines.specs.Text.{lines, number, words}
use Rattle.script_text.specs.declared.scripts.Order.{Order}
use Rattle.script_text.specs.declared.scripts.Order.TheVariants.{Add, Sub, Direct, SubDirect, Read, Step, Poll, Meet}
use Rattle.script_text.specs.declared.scripts.ScriptLine.{ScriptLine}

-- a verb and an amount of at least 1
abbrev pub SpellsAmount : List ℕ → ℕ → List (List ℕ) → Type 0
SpellsAmount verb n all = (word : List ℕ) × (all ≡ verb ∷ word ∷ []) × (number word ≡ Some n) × (1 ≤ n)

-- the words of an order
abbrev pub SpellsOrder : ℕ → Order → List (List ℕ) → Type 0
SpellsOrder passes (Add n) all = SpellsAmount (codes "add") n all
SpellsOrder passes (Sub n) all = SpellsAmount (codes "sub") n all
SpellsOrder passes (Direct n) all = SpellsAmount (codes "direct") n all
SpellsOrder passes (SubDirect n) all = SpellsAmount (codes "subdirect") n all
SpellsOrder passes Read all = all ≡ codes "read" ∷ []
SpellsOrder passes Step all = all ≡ codes "step" ∷ []
SpellsOrder passes Poll all = all ≡ codes "poll" ∷ []
SpellsOrder passes (Meet q) all = (word : List ℕ) × (all ≡ codes "meet" ∷ word ∷ []) × (number word ≡ Some q) × (q < passes)

-- the words of a line: a pass and an order
abbrev pub SpellsLine : ℕ → ScriptLine → List (List ℕ) → Type 0
SpellsLine passes line all = (pass : List ℕ) × (more : List (List ℕ)) × (all ≡ pass ∷ more) × (number pass ≡ Some line.pass) × (line.pass < passes) × SpellsOrder passes line.order more

-- lines from this number on: each has no words, or says the next of the orders
abbrev pub SpellsLines : ℕ → ℕ → List ScriptLine → List (List ℕ) → Type 0
SpellsLines passes at items [] = items ≡ []
SpellsLines passes at items (line ∷ rest) =
    ((words line ≡ []) × SpellsLines passes (at + 1) items rest)
    ⊎ ((item : ScriptLine) × (more : List ScriptLine) × (items ≡ item ∷ more) × (item.at ≡ at) × SpellsLine passes item (words line) × SpellsLines passes (at + 1) more rest)

-- the words of the first line: `funnel` and five numbers, of which four make a shape
pub record SpellsHeader (header : Header) (all : List (List ℕ)) : Type 0 where
  pub passes : List ℕ
  pub leaves : List ℕ
  pub levels : List ℕ
  pub rows : List ℕ
  pub opening : List ℕ
  pub spelled : all ≡ codes "funnel" ∷ passes ∷ leaves ∷ levels ∷ rows ∷ opening ∷ []
  pub passes_is : number passes ≡ Some header.passes
  pub leaves_is : number leaves ≡ Some header.leaves
  pub levels_is : number levels ≡ Some header.levels
  pub rows_is : number rows ≡ Some header.rows
  pub opening_is : number opening ≡ Some header.opening
  pub shape : first_fault header.passes header.leaves header.levels header.rows ≡ None

-- a script: lines without words, the first line, and the lines after it, within both limits
pub record IsScript (bytes : List ℕ) (script : Content) : Type 0 where
  pub front : List (List ℕ)
  pub first : List ℕ
  pub rest : List (List ℕ)
  pub whole : lines bytes ≡ front ++ first ∷ rest
  pub blank : AllByRecursion (λ line. words line ≡ []) front
  pub header : SpellsHeader script.header (words first)
  pub orders : SpellsLines script.header.passes (length front + 2) script.lines rest
  pub limit : length (lines bytes) ≤ 65536
  pub total : script.header.opening + total_amount script.lines < 2 ^ 63
