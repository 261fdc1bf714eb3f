-- What a record does to the module and to the open body, by its kind.
use Rattle.std.proofs.Common.{◌≡◌, Bool, true, false, not, eqb, List, [], ◌∷◌, ◌++◌, Some, None, Option, sym, refl, ap}
use Rattle.ir.specs.declared.kinds.Kind.{Kind}
use Rattle.ir.specs.declared.kinds.Kind.TheVariants as kind
use Rattle.ir.specs.declared.kinds.TypeInner.TheVariants as type
use Rattle.ir.specs.declared.kinds.Expression.TheVariants as expression
use Rattle.ir.specs.declared.kinds.Statement.TheVariants as statement
use Rattle.ir.specs.Number.{number_of}
use Rattle.rules.specs.Module.{Item, Body, Module, opened_by, closed}
use Rattle.draft.specs.declared.state.BodyKind.{BodyKind}
use Rattle.draft.specs.declared.state.BodyKind.TheVariants as body_kind
use Rattle.draft.specs.declared.state.SlotTable.TheVariants as table
use Rattle.draft.specs.Manner.{manner_of}
use Rattle.draft.specs.State.{on_side, open_after, functions_now, entries_now, module_after, body_after}
use Rattle.arena.proofs.Homes.{grown}
use Rattle.items.specs.declared.section.Section.{Section}
use Rattle.items.specs.declared.section.Section.TheVariants.{Numbered, Kinds}
use Rattle.items.specs.Whole.{last_of}
use Rattle.items.proofs.Places.{wanted}

-- the last with one more
abbrev pub later : Bool → Option Item → Item → Option Item
later true o i = Some i
later false o i = o

last_push : (xs : List Item) (i : Item) → last_of (xs ++ i ∷ []) ≡ Some i
last_push [] i = refl
last_push (x ∷ []) i = refl
last_push (x ∷ y ∷ xs) i = last_push (y ∷ xs) i

pub last_grown : (b : Bool) (xs : List Item) (i : Item) → last_of (grown b xs i) ≡ later b (last_of xs) i
last_grown true xs i = last_push xs i
last_grown false xs i = refl

-- the lists of an open body, by their sections
abbrev pub body_with : Item → (Section → List Item) → Body
body_with i list = record {
  opener = i;
  arguments = list (Kinds 13 13);
  result = last_of (list (Kinds 14 14));
  locals = list (Numbered table.LocalVariables);
  named = list (Kinds 30 30);
  expressions = list (Numbered table.LocalExpressions);
  statements = list (Kinds 128 154);
  ending = None;
}

-- a record ends a body
abbrev pub finishes : Kind → Bool
finishes k = eqb (number_of k) 31

module _ (i j : Item) (list : Section → List Item) (x : BodyKind) where
  -- in an open body each list gets one more, if its section has the record
  pub inner_at : (k : Kind) → on_side (Some x) (manner_of k).side ≡ true → finishes k ≡ false → body_after k (Some x) i (body_with j list) ≡ body_with j (λ sec. grown (wanted sec (Some x) k) (list sec) i)
  inner_at kind.FunctionResult h e = ap (λ o. record (body_with j list) { result = o }) (sym (last_push (list (Kinds 14 14)) i))
  inner_at (kind.Type type.Scalar) h e = refl
  inner_at (kind.Expression expression.Literal) h e = refl
  inner_at (kind.Statement statement.Emit) h e = refl
  inner_at kind.Function h e = absurd cc
  inner_at kind.EntryPoint h e = absurd cc
  inner_at kind.EndFunction h e = absurd cc
  inner_at k h e = refl

-- the lists of the module that no table numbers
abbrev pub Unnumbered : Type 0
Unnumbered = Option Item × List Item × Option Item

abbrev pub unnumbered_of : Module → Unnumbered
unnumbered_of m = (m.special, m.predeclared, m.leaf)

-- a function, and no entry point
abbrev pub is_function : BodyKind → Bool
is_function body_kind.Function = true
is_function body_kind.EntryPoint = false

module _ (k : Kind) (i : Item) (o : Option BodyKind) (m : Module) (b : Body) where
  -- the bodies that have ended stay
  abbrev pub Stay : Type 0
  Stay = ((module_after k o b i m).functions ≡ m.functions) × ((module_after k o b i m).entries ≡ m.entries)

  -- whether the record opens a function or an entry point
  abbrev pub Opens : Bool → Bool → Type 0
  Opens function entry = (wanted (Numbered table.Functions) o k ≡ function) × (wanted (Numbered table.EntryPoints) o k ≡ entry)

  -- what a record does to the open body and to those that have ended
  pub data Moves : Type 0 where
    stays : finishes k ≡ false → open_after (manner_of k).motion o ≡ o → Stay → Opens false false → Moves
    begins : (x : BodyKind) → o ≡ None → open_after (manner_of k).motion o ≡ Some x → Stay → Opens (is_function x) (not (is_function x)) → body_after k o i b ≡ opened_by i → Moves
    ends : (x : BodyKind) → finishes k ≡ true → o ≡ Some x → open_after (manner_of k).motion o ≡ None → (module_after k o b i m).functions ≡ functions_now o m (closed b i) → (module_after k o b i m).entries ≡ entries_now o m (closed b i) → Opens false false → Moves

module _ (m : Module) (b : Body) (i : Item) where
  pub unnumbered_at : (k : Kind) (o : Option BodyKind) → unnumbered_of (module_after k o b i m) ≡ (later (wanted (Kinds 6 6) o k) m.special i, grown (wanted (Kinds 7 7) o k) m.predeclared i, later (wanted (Kinds 9 9) o k) m.leaf i)
  unnumbered_at (kind.Type type.Scalar) o = refl
  unnumbered_at (kind.Expression expression.Literal) None = refl
  unnumbered_at (kind.Expression e) None = refl
  unnumbered_at (kind.Expression e) (Some x) = refl
  unnumbered_at (kind.Statement statement.Emit) o = refl
  unnumbered_at kind.EndFunction (Some body_kind.Function) = refl
  unnumbered_at k o = refl

  pub moves_at : (k : Kind) (o : Option BodyKind) → on_side o (manner_of k).side ≡ true → Moves k i o m b
  moves_at kind.Function None h = Moves.begins body_kind.Function refl refl (refl, refl) (refl, refl) refl
  moves_at kind.Function (Some x) h = absurd cc
  moves_at kind.EntryPoint None h = Moves.begins body_kind.EntryPoint refl refl (refl, refl) (refl, refl) refl
  moves_at kind.EntryPoint (Some x) h = absurd cc
  moves_at kind.EndFunction None h = absurd cc
  moves_at kind.EndFunction (Some body_kind.Function) h = Moves.ends body_kind.Function refl refl refl refl refl (refl, refl)
  moves_at kind.EndFunction (Some body_kind.EntryPoint) h = Moves.ends body_kind.EntryPoint refl refl refl refl refl (refl, refl)
  moves_at (kind.Type type.Scalar) o h = Moves.stays refl refl (refl, refl) (refl, refl)
  moves_at (kind.Expression expression.Literal) None h = Moves.stays refl refl (refl, refl) (refl, refl)
  moves_at (kind.Expression e) None h = Moves.stays refl refl (refl, refl) (refl, refl)
  moves_at (kind.Expression e) (Some x) h = Moves.stays refl refl (refl, refl) (refl, refl)
  moves_at (kind.Statement statement.Emit) o h = Moves.stays refl refl (refl, refl) (refl, refl)
  moves_at k o h = Moves.stays refl refl (refl, refl) (refl, refl)
