-- The module that is checked.
use Rattle.rules.specs.Module.{Module}
use Rattle.arena.specs.Viewing.{viewed}
use Rattle.items.specs.Whole.{module_of}
use Rattle.valid.specs.declared.module.Module.{Module as Viewed_module}

abbrev pub shown_module : Viewed_module → Module
shown_module m = module_of (viewed m.view)
