-- There are no more handles than bytes.
use Rattle.std.proofs.Common.{◌≡◌, ℕ, ◌+◌, ◌≤◌, Bool, true, false, cond, List, [], ◌∷◌, ◌++◌, map, filter, length, take, drop, Some, None, Option, sym, ap, ◌∙◌, inl, inr, arith, length-append, take-append-drop}
use Rattle.std.proofs.lemmas.Grind.{flat_map-append}
use Rattle.std.specs.List.{flat_map}
use Rattle.std.proofs.lemmas.Bool.{cases_eq, eq-eqb, ne_eqb}
use Rattle.ir.specs.declared.handle.Table.{Table}
use Rattle.ir.specs.declared.handle.Handle.{Handle}
use Rattle.ir.specs.Handle.{index_of}
use Rattle.ir.specs.declared.kinds.Kind.{Kind}
use Rattle.ir.specs.Layout.{layout, size_of}
use Rattle.ir.specs.Number.{kind_of}
use Rattle.records.specs.Record.{body_of}
use Rattle.records.specs.Handles.{parts_handles, handles_of}
use Rattle.records.proofs.Few.{fields_few}
use Rattle.rules.specs.Module.{Record, Item}
use Rattle.rules.specs.Kinds.{is}
use Rattle.rules.specs.Items.{is_of, numbers}
use Rattle.draft.specs.State.{State, step, item_of}
use Rattle.draft.specs.Admitted.{image}
use Rattle.items.specs.declared.section.Section.{Section}
use Rattle.items.specs.Sections.{selects}
use Rattle.items.specs.Between.{gained}
use Rattle.items.proofs.Between.{one_more}
use Rattle.tables.specs.Tables.{records_of}

pub numbers_few : (t : Table) (hs : List Handle) → length (numbers t hs) ≤ length hs
numbers_few t [] = omega arith
numbers_few t (h ∷ hs) = one_more (is_of t h) (index_of h) (numbers t hs) (length hs) (numbers_few t hs)

body_few : (o : Option Kind) (body : List ℕ) → length (parts_handles (body_of o body)) ≤ length body
body_few None body = omega arith
body_few (Some k) body =
    elim (cases_eq (length body) (size_of (layout k))) [
      | inl same ↦ rw (eq-eqb (length body) (size_of (layout k)) same) (omega (arith, fields_few (layout k) body, same))
      | inr other ↦ rw (ne_eqb (length body) (size_of (layout k)) other) (omega arith)
    ]

pub record_few : (bytes : Record) → length (handles_of bytes) ≤ length bytes
record_few [] = omega arith
record_few (byte ∷ body) = omega (arith, body_few (kind_of byte) body)

pub records_few : (rs : List Record) → length (flat_map handles_of rs) ≤ length (flat_map (λ r. r) rs)
records_few [] = omega arith
records_few (r ∷ rs) = omega (arith, record_few r, records_few rs, length-append (handles_of r) (flat_map handles_of rs), length-append r (flat_map (λ r. r) rs))

kept_one : (b : Bool) (i : Item) (items : List Item) (n : ℕ) → length (image (map (λ j. j.bytes) items)) ≤ n → length (image (map (λ j. j.bytes) (cond b (i ∷ items) items))) ≤ length i.bytes + n
kept_one true i items n l = omega (arith, length-append i.bytes (image (map (λ j. j.bytes) items)))
kept_one false i items n l = omega arith

pub gained_within : (k : ℕ) (sec : Section) (s : State) (rs : List Record) → length (image (records_of k (gained sec s rs))) ≤ length (image rs)
gained_within k sec s [] = omega arith
gained_within k sec s (r ∷ rs) =
    let later = gained_within k sec (step s r) rs in
    let all = length-append r (image rs) in
    elim (selects sec s r) as (λ b. length (image (records_of k (cond b (item_of s r ∷ gained sec (step s r) rs) (gained sec (step s r) rs)))) ≤ length (image (r ∷ rs))) [
      | true ↦
          let i = item_of s r in
          let one = kept_one (is k i) i (filter (is k) (gained sec (step s r) rs)) (length (image rs)) later in
          omega arith
      | false ↦ omega arith
    ]

-- the records in front and those behind them
pub parts_few : (n : ℕ) (m : List Record) → length (image (take n m)) + length (image (drop n m)) ≡ length (image m)
parts_few n m =
    sym (length-append (image (take n m)) (image (drop n m)))
    ∙ ap length (sym (flat_map-append (λ (r : Record). r) (take n m) (drop n m)))
    ∙ ap (λ l. length (image l)) (take-append-drop n m)

-- the numbers that the handles of two lists of such records name
pub both_few : (t : Table) (hs : List Handle) (xs ys : List Record) (n : ℕ) → hs ≡ [] → length (image xs) ≤ n → length (image ys) ≤ n → length (numbers t (hs ++ flat_map handles_of (xs ++ ys))) ≤ n + n
both_few t hs xs ys n none l k =
    omega (arith, numbers_few t (hs ++ flat_map handles_of (xs ++ ys)), length-append hs (flat_map handles_of (xs ++ ys)), ap length none, records_few (xs ++ ys), ap length (flat_map-append (λ (r : Record). r) xs ys), length-append (image xs) (image ys))
