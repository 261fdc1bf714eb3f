-- The kinds of record that the rules name, by their numbers.
use Rattle.std.specs.Prelude.{ℕ, Bool, false, ◌||◌, [], ◌∷◌, ◌==◌}
use Rattle.rules.specs.Module.{Record, Item}

-- expressions
abbrev pub Constant : ℕ
Constant = 65

abbrev pub Override : ℕ
Override = 66

abbrev pub ZeroValue : ℕ
ZeroValue = 67

abbrev pub Compose : ℕ
Compose = 68

abbrev pub CallResult : ℕ
CallResult = 87

-- statements
abbrev pub Emit : ℕ
Emit = 128

abbrev pub ImageAtomic : ℕ
ImageAtomic = 142

abbrev pub Call : ℕ
Call = 144

-- the record is of the kind with that number
abbrev pub starts_with : ℕ → Record → Bool
starts_with k [] = false
starts_with k (byte ∷ body) = byte == k

abbrev pub is : ℕ → Item → Bool
is k i = starts_with k i.bytes

-- the expressions whose ty is a type that they make a value of
abbrev pub makes_value : Item → Bool
makes_value i = is ZeroValue i || is Compose i
