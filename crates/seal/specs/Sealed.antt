-- What a sealed draft is, and what the answers of sealing say.
use Rattle.std.specs.Prelude.{◌≡◌, ℕ, List, None}
use Rattle.rules.specs.Module.{Record, Module}
use Rattle.draft.specs.State.{state}
use Rattle.arena.specs.declared.Draft.{Draft}
use Rattle.arena.specs.declared.slot.Slot.{Slot}
use Rattle.arena.specs.Memory.{Stands, records}
use Rattle.sealing.specs.Seal.{seal_of}
use Rattle.sealing.specs.Promised.{TablesEarlier, ExactlyWhenAllHold}
use Rattle.sealing.specs.Faults.{NoOtherFaults}
use Rattle.promises.specs.Promises.{Promises}
use Rattle.seal.specs.declared.sealed.Sealed.{Sealed}

-- its counts, bytes and slots are these, and as the draft's last call left them; sealing accepts the records that they
-- hold, in each of the five node tables every operand is earlier, every handle is inside, and there is a row
pub record IsSealed (s : Sealed) (d : Draft) (bytes : List ℕ) (slots : List Slot) : Type 0 where
  pub draft_is : s.draft.now ≡ d
  pub bytes_are : s.bytes.now ≡ bytes
  pub slots_are : s.slots.now ≡ slots
  pub stands : Stands d bytes slots
  pub accepted : seal_of (state (records d bytes slots)) ≡ None
  pub earlier : TablesEarlier (state (records d bytes slots)).built
  pub promises : Promises (records d bytes slots)

-- it is sealed, with the counts, bytes and slots that it has
abbrev pub IsSealedDraft : Sealed → Type 0
IsSealedDraft s = IsSealed s s.draft.now s.bytes.now s.slots.now

-- the kept records of its draft
abbrev pub sealed_records : Sealed → List Record
sealed_records s = records s.draft.now s.bytes.now s.slots.now

-- of the answers for a module: none is a fault exactly when every test passes, and there are no other faults than those
-- that are listed
pub record Laws (m : Module) : Type 0 where
  pub exact : ExactlyWhenAllHold m
  pub faults : NoOtherFaults m
