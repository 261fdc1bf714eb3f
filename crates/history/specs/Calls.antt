-- Lists of calls.
use Rattle.std.specs.Prelude.{◌≡◌, ℕ, suc, min, Bool, true, false, List, [], ◌∷◌, ◌++◌, length, take, drop, Some, None, Option, Ok, Err, Result}
use Rattle.std.specs.List.{slice_get}
use Rattle.node.specs.Nodes.{Node}
use Rattle.rules.specs.declared.faults.Rejection.{Rejection}
use Rattle.rules.specs.Module.{Record}
use Rattle.draft.specs.State.{state}
use Rattle.arena.specs.declared.Draft.{Draft}
use Rattle.arena.specs.declared.slot.Slot.{Slot}
use Rattle.arena.specs.Memory.{Stands, records}
use Rattle.arena.specs.Put.{put_def}
use Rattle.runs.specs.Runs.{put_kept, run, StillNamed, OneNumber}
use Rattle.valid.specs.Check.{verdict_of}
use Rattle.sealing.specs.Seal.{seal_of}
use Rattle.promises.specs.Promises.{Promises}
use Rattle.walk.specs.Steps.{Steps}
use Rattle.walk.specs.Leaves.{tallied, Leaves}
use Rattle.history.specs.declared.calls.Call.{Call}
use Rattle.history.specs.declared.calls.Call.TheVariants as call
use Rattle.history.specs.declared.calls.Walk.{Walk}
use Rattle.history.specs.declared.calls.Outcome.{Outcome}
use Rattle.history.specs.declared.calls.Outcome.TheVariants as outcome
use Rattle.history.specs.Walks.{is_drafts, walked_nodes}

-- passed, or refused for this reason
abbrev pub unless : Option Rejection → Result Unit Rejection
unless None = Ok tt
unless (Some e) = Err e

-- what a check answers on a draft that has kept these: the verdict of their module
abbrev pub checked : List Record → Outcome
checked m = outcome.Checked (unless (verdict_of (state m)))

-- and what a seal does
abbrev pub sealed : List Record → Outcome
sealed m = outcome.Sealed (unless (seal_of (state m)))

-- calls whose walks are by a reading of kind R, and of tables of kind T where they are the caller's
module _ {R T : Type 0} where
  -- the records that calls put: no other call puts any
  abbrev pub puts_of : List (Call R T) → List Record
  puts_of [] = []
  puts_of (call.Put r ∷ cs) = r.now ∷ puts_of cs
  puts_of (call.Check ∷ cs) = puts_of cs
  puts_of (call.Seal ∷ cs) = puts_of cs
  puts_of (call.Walk w ∷ cs) = puts_of cs

  -- the records that are kept after a call: only a put changes them
  abbrev pub kept_by : ℕ → ℕ → List Record → Call R T → List Record
  kept_by room places m (call.Put r) = put_kept room places m r.now
  kept_by room places m call.Check = m
  kept_by room places m call.Seal = m
  kept_by room places m (call.Walk w) = m

  -- the nodes of such a table are these, and so many values are lent
  module _ (own : T → List Node) (room places count : ℕ) where
    -- what a call answers on a draft that has kept these
    abbrev pub outcome_of : List Record → Call R T → Outcome
    outcome_of m (call.Put r) = outcome.Put (put_def room places m r.now).0
    outcome_of m call.Check = checked m
    outcome_of m call.Seal = sealed m
    outcome_of m (call.Walk w) = outcome.Walked (tallied (walked_nodes own count (state m) w))

    -- what calls answer, one after the other
    abbrev pub outcomes : List Record → List (Call R T) → List (Option Outcome)
    outcomes m [] = []
    outcomes m (c ∷ cs) = Some (outcome_of m c) ∷ outcomes (kept_by room places m c) cs

  -- what a call makes of the values on a draft that has kept these: only a walk changes them
  abbrev pub LeftBy : {W V : Type 0} → (T → List Node) → (R → Steps W V) → ℕ → List Record → Call R T → List V → List V → Type 0
  LeftBy own steps count m (call.Put r) before after = after ≡ before
  LeftBy own steps count m call.Check before after = after ≡ before
  LeftBy own steps count m call.Seal before after = after ≡ before
  LeftBy own steps count m (call.Walk w) before after = Leaves (steps w.reading.now) (walked_nodes own count (state m) w) before after

  -- wherever a check stands in a list of calls: what was answered there is the verdict of the module that was kept there
  abbrev pub EachVerdict : ℕ → ℕ → List (Call R T) → List (Option Outcome) → Type 0
  EachVerdict room places calls answers =
      (earlier later : List (Call R T)) → calls ≡ earlier ++ (call.Check ∷ later)
      → slice_get answers (length earlier) ≡ Some (Some (checked (run room places [] (puts_of earlier))))

  -- and wherever a seal stands, whether the module that was kept there keeps the rules of sealing, or why it does not
  abbrev pub EachSeal : ℕ → ℕ → List (Call R T) → List (Option Outcome) → Type 0
  EachSeal room places calls answers =
      (earlier later : List (Call R T)) → calls ≡ earlier ++ (call.Seal ∷ later)
      → slice_get answers (length earlier) ≡ Some (Some (sealed (run room places [] (puts_of earlier))))

  -- whether a call seals the draft: a seal does, and so does a walk of one of the draft's tables
  abbrev pub seals_draft : Call R T → Bool
  seals_draft (call.Put r) = false
  seals_draft call.Check = false
  seals_draft call.Seal = true
  seals_draft (call.Walk w) = is_drafts w.table

  -- wherever the draft is sealed and sealing accepts, what sealing promises holds of the records that were kept there: every
  -- handle is inside, and every expression that an Emit covers, and there is a row
  abbrev pub EachPromise : ℕ → ℕ → List (Call R T) → Type 0
  EachPromise room places calls =
      (earlier later : List (Call R T)) (c : Call R T) → calls ≡ earlier ++ (c ∷ later) → seals_draft c ≡ true
      → seal_of (state (run room places [] (puts_of earlier))) ≡ None
      → Promises (run room places [] (puts_of earlier))

  -- there are values that each call leaves, from those before the first on to those after the last. Wherever a walk
  -- stands, it answered the tallies of the nodes of its table as they were there, and left the values of these nodes, which
  -- no others are; or it answered why it walked nothing, and left the values as they were. Every other call leaves them
  pub record EachWalk {W V : Type 0} (own : T → List Node) (steps : R → Steps W V) (room places : ℕ) (calls : List (Call R T)) (answers : List (Option Outcome)) (before after : List V) : Type 0 where
    -- the values after so many calls
    pub left : ℕ → List V
    pub begins : left 0 ≡ before
    pub ends : left (length calls) ≡ after
    pub answered : (earlier later : List (Call R T)) (w : Walk R T) → calls ≡ earlier ++ (call.Walk w ∷ later)
        → slice_get answers (length earlier) ≡ Some (Some (outcome.Walked (tallied (walked_nodes own (length before) (state (run room places [] (puts_of earlier))) w))))
    pub leaves : (earlier later : List (Call R T)) (c : Call R T) → calls ≡ earlier ++ (c ∷ later)
        → LeftBy own steps (length before) (run room places [] (puts_of earlier)) c (left (length earlier)) (left (suc (length earlier)))

  -- how many calls are made: no more than there are places for their answers
  abbrev pub made : List (Call R T) → List (Option Outcome) → ℕ
  made calls answers = min (length calls) (length answers)

  -- those calls
  abbrev pub made_of : List (Call R T) → List (Option Outcome) → List (Call R T)
  made_of calls answers = take (made calls answers) calls

  -- the records that they put
  abbrev pub put_by : List (Call R T) → List (Option Outcome) → List Record
  put_by calls answers = puts_of (made_of calls answers)

-- what is lent to a list of calls, and changed: places for the answers, the draft's memory, and the values
pub record Lent (V : Type 0) : Type 0 where
  pub answers : List (Option Outcome)
  pub bytes : List ℕ
  pub slots : List Slot
  pub values : List V

-- a list of calls, made one after the other on a new draft
pub record Replayed {R T W V : Type 0} (own : T → List Node) (steps : R → Steps W V) (calls : List (Call R T)) (before : Lent V) (d : Draft) (after : Lent V) : Type 0 where
  pub stands : Stands d after.bytes after.slots
  -- each answer is the defined one, and places beyond the calls are as they were
  pub answered : after.answers ≡ outcomes own (length before.bytes) (length before.slots) (length before.values) [] (made_of calls before.answers) ++ drop (made calls before.answers) before.answers
  -- and so are the records that are kept
  pub keeps : records d after.bytes after.slots ≡ run (length before.bytes) (length before.slots) [] (put_by calls before.answers)
  -- every number that put answered still names an item equal to the one put, in the same table
  pub named : StillNamed (length before.bytes) (length before.slots) (put_by calls before.answers) (state (records d after.bytes after.slots))
  -- two types got one number exactly when they are equal
  pub types : OneNumber (length before.bytes) (length before.slots) (put_by calls before.answers)
  -- every check answered the verdict of the module that was kept there
  pub verdicts : EachVerdict (length before.bytes) (length before.slots) (made_of calls before.answers) after.answers
  -- and every seal what sealing answers for it
  pub seals : EachSeal (length before.bytes) (length before.slots) (made_of calls before.answers) after.answers
  -- and wherever sealing accepted, every handle is inside, and every expression that an Emit covers, and there is a row
  pub promises : EachPromise (length before.bytes) (length before.slots) (made_of calls before.answers)
  -- every walk ended, with the only values that keep the rule of its reading, or was refused and changed none
  pub walks : EachWalk own steps (length before.bytes) (length before.slots) (made_of calls before.answers) after.answers before.values after.values
