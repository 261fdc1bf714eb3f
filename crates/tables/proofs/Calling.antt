-- The functions call no more functions in all than twice the bytes of the kept records.
use Rattle.std.proofs.Common.{◌≡◌, ℕ, suc, ◌+◌, ◌≤◌, Bool, true, false, not, cond, List, [], ◌∷◌, length, take, drop, Some, None, sum_by, Option, sym, refl, ap, ◌∙◌, subst, arith, length-append}
use Rattle.std.specs.List.{prefix_len}
use Rattle.std.proofs.lemmas.List.{drop-take, take_all}
use Rattle.std.proofs.lemmas.List.Sums.{sum_by-cons}
use Rattle.ir.specs.declared.handle.Table.TheVariants as table
use Rattle.ir.specs.declared.kinds.Kind.{Kind}
use Rattle.rules.specs.Module.{Record, Item}
use Rattle.draft.specs.declared.state.BodyKind.{BodyKind}
use Rattle.draft.specs.declared.state.BodyKind.TheVariants as body_kind
use Rattle.draft.specs.declared.state.SlotTable.TheVariants as slots
use Rattle.draft.specs.State.{State, start, stepped, state, item_of}
use Rattle.draft.specs.Admitted.{image, Accepted}
use Rattle.laws.proofs.KindBytes.{starts_so}
use Rattle.items.specs.declared.section.Section.{Section}
use Rattle.items.specs.declared.section.Section.TheVariants.{Numbered}
use Rattle.items.specs.Between.{gained, items_between}
use Rattle.items.specs.Whole.{items_of, ends, body_of}
use Rattle.items.proofs.ByKind.{Moves, moves_at, finishes, is_function}
use Rattle.tables.specs.Tables.{records_of, callees}
use Rattle.tables.proofs.Few.{gained_within, parts_few, both_few}
use Rattle.tables.proofs.Going.{behind}
use Rattle.tables.proofs.Made.{made, met}

-- how many of these records stand before one that ends a body
abbrev inside : List Record → ℕ
inside rs = prefix_len (λ r. not (ends r)) rs

-- those that are not in the open body
abbrev ahead : Option BodyKind → List Record → List Record
ahead None rs = rs
ahead (Some x) rs = drop (inside rs) rs

abbrev twice : List Record → ℕ
twice rs = length (image rs) + length (image rs)

ahead_within : (o : Option BodyKind) (rs : List Record) → twice (ahead o rs) ≤ twice rs
ahead_within None rs = omega arith
ahead_within (Some x) rs = omega (arith, parts_few (inside rs) rs)

-- a record that ends no body, and one that does
ahead_next : (o : Option BodyKind) (r : Record) (rs : List Record) → ends r ≡ false → twice (ahead o rs) ≤ twice (ahead o (r ∷ rs))
ahead_next None r rs e = omega (arith, length-append r (image rs))
ahead_next (Some x) r rs e =
    let n : inside (r ∷ rs) ≡ suc (inside rs) = ap (λ b. cond (not b) (1 + inside rs) 0) e ∙ omega arith in
    omega (arith, ap (λ k. twice (drop k (r ∷ rs))) n)

ahead_end : (x : BodyKind) (r : Record) (rs : List Record) → ends r ≡ true → twice rs ≤ twice (ahead (Some x) (r ∷ rs))
ahead_end x r rs e =
    let n : inside (r ∷ rs) ≡ 0 = ap (λ b. cond (not b) (1 + inside rs) 0) e in
    omega (arith, ap (λ k. twice (drop k (r ∷ rs))) n, length-append r (image rs))

module _ (m : List Record) where
  -- how many functions the body that an item opens calls
  abbrev pub calls : Item → ℕ
  calls i = length (callees (body_of m i))

  part : (k : ℕ) (sec : Section) (x n : ℕ) → length (image (records_of k (items_between sec m x (x + n)))) ≤ length (image (take n (drop x m)))
  unfolding items_between
  part k sec x n = omega (arith, gained_within k sec (state (take x m)) (drop x (take (x + n) m)), ap (λ l. length (image l)) (drop-take x n m))

  -- a body calls no more than twice its bytes
  calls_few : (i : Item) (rs : List Record) → drop (suc i.place) m ≡ rs → calls i ≤ twice (take (inside rs) rs)
  calls_few i rs e =
      let x = suc i.place in
      let n = inside (drop x m) in
      let few = both_few table.Functions [] (records_of 87 (body_of m i).expressions) (records_of 144 (body_of m i).statements) (length (image (take n (drop x m)))) refl (part 87 _ x n) (part 144 _ x n) in
      omega (arith, few, ap (λ l. twice (take (inside l) l)) e)

  pub calls_within : (i : Item) → calls i ≤ twice m
  calls_within i =
      let rs = drop (suc i.place) m in
      omega (arith, calls_few i rs refl, parts_few (inside rs) rs, parts_few (suc i.place) m)

  module _ (s : State) (r : Record) (rs : List Record) (k : Kind) (e : ends r ≡ finishes k) (after : drop (suc s.kept) m ≡ rs) (rest : List Item) where
    abbrev Counted : Option BodyKind → Type 0
    Counted o = sum_by calls rest ≤ twice (ahead o rs)

    abbrev next : Bool → ℕ
    next b = sum_by calls (cond b (item_of s r ∷ rest) rest)

    called : (x : BodyKind) → Counted (Some x) → next (is_function x) ≤ twice (r ∷ rs)
    called body_kind.Function l = omega (arith, sum_by-cons calls (item_of s r) rest, calls_few (item_of s r) rs after, parts_few (inside rs) rs, length-append r (image rs))
    called body_kind.EntryPoint l = omega (arith, ahead_within (Some body_kind.EntryPoint) rs, length-append r (image rs))

    by_move : Moves k (item_of s r) s.opened s.built s.body → Counted (stepped k r s).opened → next (made slots.Functions s k) ≤ twice (ahead s.opened (r ∷ rs))
    by_move (Moves.stays f on stay opens) l =
        omega (arith, ap next opens.0, ap (λ o. twice (ahead o rs)) on, ahead_next s.opened r rs (e ∙ f))
    by_move (Moves.begins x none on stay opens b) l =
        omega (arith, ap next opens.0, called x (subst Counted on l), ap (λ o. twice (ahead o (r ∷ rs))) none)
    by_move (Moves.ends x f opened on functions entries opens) l =
        omega (arith, ap next opens.0, ap (λ o. twice (ahead o rs)) on, ap (λ o. twice (ahead o (r ∷ rs))) opened, ahead_end x r rs (e ∙ f))

  -- functions stand behind one another
  gained_calls : (s : State) (rs : List Record) → Accepted s rs → drop s.kept m ≡ rs → sum_by calls (gained (Numbered slots.Functions) s rs) ≤ twice (ahead s.opened rs)
  gained_calls s [] a at = omega arith
  gained_calls s (r ∷ rs) a at =
      let x = met slots.Functions s r rs a in
      let on : s.kept + 1 ≡ suc s.kept = omega arith in
      let after = sym (behind m rs s.kept r at) in
      let rest = gained (Numbered slots.Functions) (stepped x.kind r s) rs in
      let later = gained_calls (stepped x.kind r s) rs x.rest after in
      let move = moves_at s.built s.body (item_of s r) x.kind s.opened x.admits.on_its_side in
      omega (arith, ap (sum_by calls) x.items, by_move s r rs x.kind (ap ends (starts_so x.kind r x.admits.kind_is).1) (ap (λ n. drop n m) (sym on) ∙ after) rest move later)

  pub all_calls : Accepted start m → sum_by calls (items_of (Numbered slots.Functions) m) ≤ twice m
  unfolding items_between state
  all_calls a = omega (arith, gained_calls start m a refl, ap (λ l. sum_by calls (gained (Numbered slots.Functions) start l)) (take_all (length m) m (omega arith)))
