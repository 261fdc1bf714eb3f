-- What holds of the module of every list of kept records.
use Rattle.std.specs.Prelude.{List}
use Rattle.rules.specs.Module.{Record}
use Rattle.laws.specs.Decoded.{Decoded}
use Rattle.laws.specs.Grammar.{Grammatical}

pub record Lawful (m : List Record) : Type 0 where
  -- every kept record stands in the module once, and each table is in order of arrival
  pub decoded : Decoded m
  -- the statements of every body that has ended are a block
  pub grammatical : Grammatical m
