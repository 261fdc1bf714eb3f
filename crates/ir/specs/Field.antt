-- What a field is made of, what it may hold, and which handle it then is.
use Rattle.std.specs.Prelude.{ℕ, ◌+◌, ◌*◌, Bool, true, cond, not, List, [], ◌∷◌, length, Some, None, Option, ◌==◌}
use Rattle.ir.specs.declared.handle.Table.TheVariants.{Types, Overrides, GlobalVariables, Expressions}
use Rattle.ir.specs.declared.fields.Word.{Word}
use Rattle.ir.specs.declared.fields.Word.TheVariants.{Mark, Number, NonZero, Handle, Optional, Unused}
use Rattle.ir.specs.declared.fields.Cases.{Cases}
use Rattle.ir.specs.declared.fields.Cases.TheVariants as cases
use Rattle.ir.specs.declared.fields.Field.{Field}
use Rattle.ir.specs.declared.fields.Field.TheVariants.{Word as one, Case}
use Rattle.ir.specs.declared.handle.Handle.{Handle as AnyHandle}
use Rattle.ir.specs.Handle.{named}

-- FF FF FF FF
abbrev pub absent : ℕ
absent = 4294967295

-- whether a word may hold a number
abbrev pub fits : Word → ℕ → Bool
fits Mark n = true
fits Number n = true
fits NonZero n = not (n == 0)
fits (Handle t) n = not (n == absent)
fits (Optional t) n = true
fits Unused n = n == absent

-- the handle that a word is when it holds a number: FF FF FF FF is none
abbrev pub handle_in : Word → ℕ → Option AnyHandle
handle_in Mark n = None
handle_in Number n = None
handle_in NonZero n = None
handle_in (Handle t) n = cond (n == absent) None (Some (named t n))
handle_in (Optional t) n = cond (n == absent) None (Some (named t n))
handle_in Unused n = None

-- an expression handle, and one that may be absent
abbrev value : Word
value = Handle Expressions

abbrev value? : Word
value? = Optional Expressions

-- a row for each case, in order of declaration: its own words, and then the unused ones, up to the widest case
abbrev pub cases_of : Cases → List (List Word)
cases_of cases.Bool =
    []  -- false
    ∷ []  -- true
    ∷ []
cases_of cases.ArraySize =
    (NonZero ∷ [])  -- Constant
    ∷ (Handle Overrides ∷ [])  -- Pending
    ∷ (Unused ∷ [])  -- Dynamic
    ∷ []
cases_of cases.SampleLevel =
    (Unused ∷ Unused ∷ [])  -- Auto
    ∷ (Unused ∷ Unused ∷ [])  -- Zero
    ∷ (value ∷ Unused ∷ [])  -- Exact
    ∷ (value ∷ Unused ∷ [])  -- Bias
    ∷ (value ∷ value ∷ [])  -- Gradient
    ∷ []
cases_of cases.ImageQuery =
    (value? ∷ [])  -- Size
    ∷ (Unused ∷ [])  -- NumLevels
    ∷ (Unused ∷ [])  -- NumLayers
    ∷ (Unused ∷ [])  -- NumSamples
    ∷ []
cases_of cases.AtomicFunction =
    (Unused ∷ [])  -- Add
    ∷ (Unused ∷ [])  -- Subtract
    ∷ (Unused ∷ [])  -- And
    ∷ (Unused ∷ [])  -- ExclusiveOr
    ∷ (Unused ∷ [])  -- InclusiveOr
    ∷ (Unused ∷ [])  -- Min
    ∷ (Unused ∷ [])  -- Max
    ∷ (value? ∷ [])  -- Exchange
    ∷ []
cases_of cases.GatherMode =
    (Unused ∷ [])  -- BroadcastFirst
    ∷ (value ∷ [])  -- Broadcast
    ∷ (value ∷ [])  -- Shuffle
    ∷ (value ∷ [])  -- ShuffleDown
    ∷ (value ∷ [])  -- ShuffleUp
    ∷ (value ∷ [])  -- ShuffleXor
    ∷ (value ∷ [])  -- QuadBroadcast
    ∷ (Mark ∷ [])  -- QuadSwap
    ∷ []
cases_of cases.RayQueryFunction =
    (value ∷ value ∷ [])  -- Initialize
    ∷ (value ∷ Unused ∷ [])  -- Proceed
    ∷ (value ∷ Unused ∷ [])  -- GenerateIntersection
    ∷ (Unused ∷ Unused ∷ [])  -- ConfirmIntersection
    ∷ (Unused ∷ Unused ∷ [])  -- Terminate
    ∷ []
cases_of cases.RayPipelineFunction =
    (value ∷ value ∷ value ∷ [])  -- TraceRay
    ∷ []
cases_of cases.MeshInfo =
    (Unused ∷ Unused ∷ Unused ∷ Unused ∷ Unused ∷ Unused ∷ Unused ∷ Unused ∷ [])
    ∷ (Mark ∷ Number ∷ value? ∷ Number ∷ value? ∷ Handle Types ∷ Handle Types ∷ Handle GlobalVariables ∷ [])
    ∷ []

abbrev first_length : List (List Word) → ℕ
first_length [] = 0
first_length (row ∷ rows) = length row

-- how many words follow the case byte: every row above has as many
abbrev pub words_of : Cases → ℕ
words_of c = first_length (cases_of c)

-- how many bytes a field takes
abbrev pub width_of : Field → ℕ
width_of (one w) = 4
width_of (Case c) = 1 + 4 * words_of c
