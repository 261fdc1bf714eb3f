-- What the reading of a list that mixes depth and steadiness means.
use Rattle.std.specs.Prelude.{ℕ, List}
use Rattle.walk.specs.Steps.{Steps}
use Rattle.walk.specs.Readings.{depth, steady}
use Rattle.history.specs.declared.mixed.Mixed.{Mixed}
use Rattle.history.specs.declared.mixed.Mixed.TheVariants as which
use Rattle.history.specs.declared.mixed.Measure.{Measure}
use Rattle.history.specs.declared.mixed.Measure.TheVariants as measure

-- the start of the one or of the other
abbrev pub mixed_start : Mixed → List ℕ → Measure
mixed_start which.Depth bytes = measure.Depth (depth.start bytes)
mixed_start which.Steady bytes = measure.Steady (steady.start bytes)

-- a value of the other reading changes nothing: the values of one walk are all of one reading
abbrev pub mixed_take : Measure → Measure → Measure
mixed_take (measure.Depth w) (measure.Depth v) = measure.Depth (depth.take w v)
mixed_take (measure.Depth w) (measure.Steady v) = measure.Depth w
mixed_take (measure.Steady w) (measure.Depth v) = measure.Steady w
mixed_take (measure.Steady w) (measure.Steady v) = measure.Steady (steady.take w v)

-- the finish of what was started
abbrev pub mixed_finish : Measure → Measure
mixed_finish (measure.Depth w) = measure.Depth (depth.finish w)
mixed_finish (measure.Steady w) = measure.Steady (steady.finish w)

-- the steps of the one or of the other
abbrev pub mixed : Mixed → Steps Measure Measure
mixed r = record { start = mixed_start r; take = mixed_take; finish = mixed_finish }
