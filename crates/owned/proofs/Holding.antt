-- Memory added behind what an owned draft holds.
use Rattle.std.proofs.Common.{◌≡◌, ℕ, List, ◌++◌, take, ap, ◌∙◌}
use lib.Seq.{take-append-le}
use Rattle.rules.specs.Module.{Record}
use Rattle.draft.specs.declared.counts.Counts.{Counts}
use Rattle.arena.specs.declared.slot.Slot.{Slot}
use Rattle.arena.specs.Memory.{Holds}
use Rattle.arena.proofs.Placing.{used_within, kept_within}

module _ {c : Counts} {bytes : List ℕ} {slots : List Slot} {m : List Record} (h : Holds c bytes slots m) where
  -- bytes that are added behind are free
  pub more_bytes : (more : List ℕ) {bytes' : List ℕ} → bytes' ≡ bytes ++ more → Holds c bytes' slots m
  more_bytes more e = record {
    counts_are = h.counts_are;
    bytes_are = ap (take c.used) e ∙ take-append-le c.used bytes more (used_within h) ∙ h.bytes_are;
    slots_are = h.slots_are;
    accepted = h.accepted;
  }

  -- slots that are added behind are free
  pub more_slots : (more : List Slot) {slots' : List Slot} → slots' ≡ slots ++ more → Holds c bytes slots' m
  more_slots more e = record {
    counts_are = h.counts_are;
    bytes_are = h.bytes_are;
    slots_are = ap (take c.kept) e ∙ take-append-le c.kept slots more (kept_within h) ∙ h.slots_are;
    accepted = h.accepted;
  }
