-- The statements of a body, by a grammar over the kinds of their records.
use Rattle.std.specs.Prelude.{◌≡◌, ℕ, Bool, true, ◌||◌, List, [], ◌∷◌, ◌++◌, ◌==◌}
use Rattle.std.specs.List.{flat_map, AllByRecursion}
use Rattle.ir.specs.Number.{within}
use Rattle.rules.specs.Module.{Record, Item}
use Rattle.draft.specs.State.{state}

-- a statement that opens no bracket
abbrev pub is_simple : ℕ → Bool
is_simple k = k == 128 || within 133 150 k

mutual
  -- a block is statements, one after the other
  pub data Block : List ℕ → Type 0 where
    nothing : Block []
    simple : (k : ℕ) (rest : List ℕ) → is_simple k ≡ true → Block rest → Block (k ∷ rest)
    -- Block: a block, End
    nested : (inner rest : List ℕ) → Block inner → Block rest → Block (129 ∷ (inner ++ (151 ∷ rest)))
    -- If: a block, End, a block, End
    if : (accept reject rest : List ℕ) → Block accept → Block reject → Block rest → Block (130 ∷ (accept ++ (151 ∷ (reject ++ (151 ∷ rest)))))
    -- Switch: cases, EndSwitch
    switch : (cases rest : List ℕ) → Cases cases → Block rest → Block (131 ∷ (cases ++ (154 ∷ rest)))
    -- Loop: a block, End, a block, EndLoop
    loop : (body continuing rest : List ℕ) → Block body → Block continuing → Block rest → Block (132 ∷ (body ++ (151 ∷ (continuing ++ (152 ∷ rest)))))

  -- SwitchCase: a block, End
  pub data Cases : List ℕ → Type 0 where
    none : Cases []
    case : (body rest : List ℕ) → Block body → Cases rest → Cases (153 ∷ (body ++ (151 ∷ rest)))

-- the kind of a record, which is its first byte
abbrev pub kind_byte : Record → List ℕ
kind_byte [] = []
kind_byte (k ∷ body) = k ∷ []

abbrev pub kinds : List Item → List ℕ
kinds items = flat_map (λ i. kind_byte i.bytes) items

-- the statements of every body that has ended are a block
pub record Grammatical (m : List Record) : Type 0 where
  pub functions : AllByRecursion (λ b. Block (kinds b.statements)) (state m).built.functions
  pub entries : AllByRecursion (λ b. Block (kinds b.statements)) (state m).built.entries
