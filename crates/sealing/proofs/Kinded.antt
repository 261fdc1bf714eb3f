-- Of which kinds the items of a draft's special types, predeclared types and entry points are.
use Rattle.std.proofs.Common.{◌≡◌, ℕ, Bool, true, false, cond, nat_le, List, [], ◌∷◌, map, length, take, drop, Some, None, Ok, Err, Option, Result, sym, refl, ap, ◌∙◌, subst, arith}
use Rattle.std.specs.List.{AllByRecursion}
use Rattle.std.specs.Option.{option_to_list}
use Rattle.std.proofs.lemmas.Bool.{and_parts, leb-true, eq-eqb}
use Rattle.rules.proofs.Passing.{all_left}
use Rattle.ir.specs.declared.kinds.Kind.{Kind}
use Rattle.ir.specs.declared.kinds.Kind.TheVariants as kind
use Rattle.ir.specs.declared.kinds.TypeInner.TheVariants as type
use Rattle.ir.specs.declared.kinds.Statement.TheVariants as statement
use Rattle.records.specs.declared.judge.Flaw.{Flaw}
use Rattle.records.specs.Record.{judged}
use Rattle.rules.specs.Module.{Record, Item, Body, Module}
use Rattle.rules.specs.Kinds.{starts_with, is}
use Rattle.draft.specs.declared.state.BodyKind.{BodyKind}
use Rattle.draft.specs.declared.state.BodyKind.TheVariants as body_kind
use Rattle.draft.specs.declared.state.SlotTable.TheVariants as table
use Rattle.draft.specs.Manner.{manner_of}
use Rattle.draft.specs.State.{State, start, step, state, item_of, table_in, entries_now}
use Rattle.draft.specs.Admitted.{Accepted}
use Rattle.arena.specs.Memory.{table_judged}
use Rattle.arena.specs.Viewing.{same_table}
use Rattle.laws.proofs.KindBytes.{starts_so}
use Rattle.items.specs.declared.section.Section.{Section}
use Rattle.items.specs.declared.section.Section.TheVariants.{Numbered, Kinds}
use Rattle.items.specs.Sections.{of_kinds, selects}
use Rattle.items.specs.Between.{gained, items_between}
use Rattle.items.specs.Whole.{last_of, items_of}
use Rattle.items.proofs.Whole.{table_is, special_told, predeclared_told}
use Rattle.sealing.proofs.Faults.{Kinded}

-- what holds of a list holds with one more before it, of which it holds too
pub one_more_if : {X : Type 0} (P : X → Type 0) (b : Bool) (x : X) (xs : List X) → (b ≡ true → P x) → AllByRecursion P xs → AllByRecursion P (cond b (x ∷ xs) xs)
one_more_if P true x xs p h = (p refl, h)
one_more_if P false x xs p h = h

-- what holds of every record that makes an item of a section holds of the items
module _ (sec : Section) (P : Record → Type 0) (of : (s : State) (r : Record) → selects sec s r ≡ true → P r) where
  abbrev Has : List Item → Type 0
  Has items = AllByRecursion (λ i. P i.bytes) items

  gained_has : (s : State) (rs : List Record) → Has (gained sec s rs)
  gained_has s [] = tt
  gained_has s (r ∷ rs) = one_more_if (λ i. P i.bytes) (selects sec s r) (item_of s r) (gained sec (step s r) rs) (of s r) (gained_has (step s r) rs)

  items_have : (m : List Record) → Has (items_of sec m)
  unfolding items_between
  items_have m = gained_has (state []) (drop 0 (take (length m) m))

-- what holds of all items holds of the last
pub last_has : (P : Item → Type 0) (items : List Item) → AllByRecursion P items → AllByRecursion P (option_to_list (last_of items))
last_has P [] h = tt
last_has P (i ∷ []) h = h
last_has P (i ∷ j ∷ items) h = last_has P (j ∷ items) h.1

-- a range of one kind
one_kind : (k : ℕ) (r : Record) → of_kinds k k r ≡ true → starts_with k r ≡ true
one_kind k [] e = absurd cc
one_kind k (byte ∷ body) e =
    let p = and_parts (nat_le k byte) (nat_le byte k) e in
    let a = leb-true k byte p.0 in
    let b = leb-true byte k p.1 in
    eq-eqb byte k (omega arith)

-- the record that opens an entry point
entry_table : (o : Option BodyKind) (k : Kind) → same_table table.EntryPoints (table_in o (manner_of k).table) ≡ true → k ≡ kind.EntryPoint
entry_table o kind.EntryPoint e = refl
entry_table o (kind.Type type.Scalar) e = absurd cc
entry_table None (kind.Expression x) e = absurd cc
entry_table (Some b) (kind.Expression x) e = absurd cc
entry_table o (kind.Statement statement.Emit) e = absurd cc
entry_table o k e = absurd cc

entry_kind : (s : State) (r : Record) (j : Result Kind Flaw) → judged r ≡ j → same_table table.EntryPoints (table_judged s j) ≡ true → starts_with 12 r ≡ true
entry_kind s r (Err e) is t = absurd cc
entry_kind s r (Ok k) is t =
    let opens = is ∙ ap (λ l. Ok l) (entry_table s.opened k t) in
    ap (starts_with 12) (starts_so kind.EntryPoint r opens).1

openers_have : (P : Item → Type 0) (bodies : List Body) → AllByRecursion P (map (λ b. b.opener) bodies) → AllByRecursion (λ b. P b.opener) bodies
openers_have P [] h = tt
openers_have P (b ∷ bodies) h = (h.0, openers_have P bodies h.1)

-- those that have ended are among all
ended_have : (P : Body → Type 0) (o : Option BodyKind) (m : Module) (b : Body) → AllByRecursion P (entries_now o m b) → AllByRecursion P m.entries
ended_have P None m b h = h
ended_have P (Some body_kind.Function) m b h = h
ended_have P (Some body_kind.EntryPoint) m b h = all_left P m.entries (b ∷ []) h

pub kinded : (m : List Record) → Accepted start m → Kinded (state m).built
kinded m a =
    let s = state m in
    let Opens : Item → Type 0 = λ i. is 12 i ≡ true in
    let openers = subst (AllByRecursion Opens) (table_is table.EntryPoints refl m a) (items_have (Numbered table.EntryPoints) (λ r. starts_with 12 r ≡ true) (λ u r e. entry_kind u r (judged r) refl e) m) in
    record {
      special =
          subst (λ o. AllByRecursion (λ i. is 6 i ≡ true) (option_to_list o)) (sym (special_told m a))
          (last_has (λ i. is 6 i ≡ true) (items_of (Kinds 6 6) m) (items_have (Kinds 6 6) (λ r. starts_with 6 r ≡ true) (λ u r e. one_kind 6 r e) m));
      predeclared =
          subst (AllByRecursion (λ i. is 7 i ≡ true)) (sym (predeclared_told m a))
          (items_have (Kinds 7 7) (λ r. starts_with 7 r ≡ true) (λ u r e. one_kind 7 r e) m);
      entries = ended_have (λ b. is 12 b.opener ≡ true) s.opened s.built s.body (openers_have Opens (entries_now s.opened s.built s.body) openers);
    }
