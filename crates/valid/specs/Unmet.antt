-- The global expressions that are not tested yet.
use Rattle.std.specs.Prelude.{◌≡◌, drop}
use Rattle.rules.specs.Module.{Module}
use Rattle.items.specs.Item.{items_left}
use Rattle.valid.specs.declared.unmet.Unmet.{Unmet}

-- those of the module from one number on
abbrev pub Waits : Module → Unmet → Type 0
Waits m u = items_left u.left ≡ drop u.first m.expressions
