-- Which values of a walk are shown.
use Rattle.std.specs.Prelude.{◌≡◌, ℕ, Bool, List}
use Rattle.module_text.specs.declared.walk_text.Values.{Values}
use Rattle.module_text.specs.declared.walk_text.Values.TheVariants.{Depths, Steady}

-- these, as depths
abbrev pub ShowsDepths : List ℕ → Values → Type 0
ShowsDepths values (Depths shown) = shown.now ≡ values
ShowsDepths values (Steady shown) = ⊥

-- these, as which items are steady
abbrev pub ShowsSteady : List Bool → Values → Type 0
ShowsSteady values (Depths shown) = ⊥
ShowsSteady values (Steady shown) = shown.now ≡ values
