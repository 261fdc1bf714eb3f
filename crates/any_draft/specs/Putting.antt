-- What a draft with its memory answers to a record.
use Rattle.std.specs.Prelude.{◌≡◌, ℕ, List, Option, Result, Ok, Err}
use Rattle.std.specs.declared.alloc.AllocError.{AllocError}
use Rattle.draft.specs.declared.refusal.Refusal.{Refusal}
use Rattle.ir.specs.declared.handle.Handle.{Handle}

-- the answer, and the kept records after it
abbrev pub Put : Type 0
Put = Result (Option Handle) Refusal × List (List ℕ)

-- a put answers as defined and then keeps what is defined, or there is no memory and it keeps what it kept
abbrev pub PutOrFails : Put → Result (Result (Option Handle) Refusal) AllocError → List (List ℕ) → List (List ℕ) → Type 0
PutOrFails defined (Ok outcome) before after = (outcome ≡ defined.0) × (after ≡ defined.1)
PutOrFails defined (Err e) before after = after ≡ before
