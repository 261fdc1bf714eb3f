-- Of which kinds the items of an accepted draft's module are, and what they took.
use Rattle.std.proofs.Common.{◌≡◌, ℕ, suc, ◌≤◌, Bool, true, ◌||◌, List, [], ◌∷◌, ◌++◌, map, length, take, drop, Some, None, Ok, fold, Option, sym, refl, ap, ◌∙◌, subst, inl, inr, arith, take-append-drop}
use Rattle.std.specs.List.{AllByRecursion}
use Rattle.std.specs.Option.{option_to_list, option_eq}
use Rattle.std.proofs.ByRecursion.{All-push}
use Rattle.std.proofs.lemmas.Bool.{cases_lt, eq-eqb}
use Rattle.std.proofs.lemmas.List.{take-take}
use Rattle.ir.specs.declared.handle.Table.{Table}
use Rattle.ir.specs.declared.kinds.Kind.{Kind}
use Rattle.ir.specs.declared.kinds.Kind.TheVariants as kind
use Rattle.ir.specs.declared.kinds.TypeInner.{TypeInner}
use Rattle.ir.specs.declared.kinds.TypeInner.TheVariants as type
use Rattle.ir.specs.declared.kinds.Expression.{Expression}
use Rattle.ir.specs.declared.kinds.Expression.TheVariants as expression
use Rattle.ir.specs.declared.kinds.Statement.TheVariants as statement
use Rattle.ir.specs.Layout.{layout}
use Rattle.ir.specs.Number.{number_of}
use Rattle.ir.proofs.Numbering.{number_kind}
use Rattle.records.specs.Handles.{handles_of}
use Rattle.records.specs.Record.{judged}
use Rattle.rules.specs.Module.{Record, Item, Body, Module}
use Rattle.rules.specs.Kinds.{starts_with}
use Rattle.draft.specs.declared.state.BodyKind.{BodyKind}
use Rattle.draft.specs.declared.state.Pieces.{Pieces}
use Rattle.draft.specs.declared.state.Pieces.TheVariants as pieces
use Rattle.draft.specs.declared.state.SlotTable.TheVariants as table
use Rattle.draft.specs.declared.manner.Manner.{Manner}
use Rattle.draft.specs.Manner.{manner_of}
use Rattle.draft.specs.State.{State, start, step, stepped, state, item_of, waiting_after, meets, same_pieces}
use Rattle.draft.specs.Admitted.{Accepted}
use Rattle.draft.proofs.Stepping.{Admits, admitted_kind, step_is, throughout}
use Rattle.laws.proofs.KindBytes.{starts_so}
use Rattle.items.specs.declared.section.Section.{Section}
use Rattle.items.specs.declared.section.Section.TheVariants.{Numbered, Kinds}
use Rattle.items.specs.Sections.{selects}
use Rattle.items.specs.Between.{gained, items_between}
use Rattle.items.specs.Whole.{items_of, ending_from, body_of, module_of}
use Rattle.items.proofs.Between.{none_between, front}
use Rattle.items.proofs.Places.{wanted, wanted_is}
use Rattle.tables.proofs.Weighing.{accepted_back}
use Rattle.sealing.proofs.FieldTables.{Allowed, fields_allowed, record_allowed}
use Rattle.sealing.proofs.Kinded.{one_more_if, last_has}

pub starts_is : (r : Record) (k : Kind) → judged r ≡ Ok k → starts_with (number_of k) r ≡ true
starts_is r k e = ap (starts_with (number_of k)) (starts_so k r e).1 ∙ eq-eqb (number_of k) (number_of k) refl

-- the handles of a record of a kind are of tables that are allowed, if its layout says so
pub allowed_of : (allowed : Table → Bool) (r : Record) (k : Kind) → judged r ≡ Ok k → fields_allowed allowed (layout k) ≡ true → AllByRecursion (Allowed allowed) (handles_of r)
allowed_of allowed r k e f = record_allowed allowed (number_of k) k (number_kind k) r (starts_is r k e) f

abbrev pub piece_kind : Pieces → Kind
piece_kind pieces.Members = kind.Member
piece_kind pieces.Operands = kind.Operand

-- records of this sort, or none
abbrev pub PiecesAre : Option Pieces → List Record → Type 0
PiecesAre None ws = ws ≡ []
PiecesAre (Some p) ws = AllByRecursion (λ r. judged r ≡ Ok (piece_kind p)) ws

-- an item of a kind: it took what its kind takes
pub record Made (k : Kind) (i : Item) : Type 0 where
  pub kind_is : judged i.bytes ≡ Ok k
  pub taken : PiecesAre (manner_of k).takes i.taken

-- what waits is of the sort that waits
abbrev Reached : State → Type 0
Reached s = PiecesAre s.waits s.waiting

more_pieces : (p : Pieces) (ws : List Record) (r : Record) → judged r ≡ Ok (piece_kind p) → ws ≡ [] → PiecesAre (Some p) (ws ++ r ∷ [])
more_pieces p ws r e n = subst (λ l. PiecesAre (Some p) (l ++ r ∷ [])) (sym n) (e, tt)

next_waits : (k : Kind) (w : Option Pieces) (ws : List Record) (r : Record) → meets w (manner_of k) ≡ true → judged r ≡ Ok k → PiecesAre w ws → PiecesAre (manner_of k).joins (waiting_after (manner_of k).joins ws r)
next_waits kind.Member None ws r h e x = more_pieces pieces.Members ws r e x
next_waits kind.Member (Some pieces.Members) ws r h e x = All-push (λ y. judged y ≡ Ok kind.Member) ws r x e
next_waits kind.Member (Some pieces.Operands) ws r h e x = absurd cc
next_waits kind.Operand None ws r h e x = more_pieces pieces.Operands ws r e x
next_waits kind.Operand (Some pieces.Operands) ws r h e x = All-push (λ y. judged y ≡ Ok kind.Operand) ws r x e
next_waits kind.Operand (Some pieces.Members) ws r h e x = absurd cc
next_waits k w ws r h e x = refl

reached_next : (m : List Record) (s : State) (r : Record) (k : Kind) → Admits s r k → Reached s → Reached (stepped k r s)
reached_next m s r k a x = next_waits k s.waits s.waiting r a.allowed a.kind_is x

pub reached : (m : List Record) → Accepted start m → Reached (state m)
reached m a = throughout (λ l s. Reached s) reached_next m a refl

-- a record that joins none takes what waits, if that is what it takes, and else nothing waits
none_taken : (t : Option Pieces) → PiecesAre t []
none_taken None = refl
none_taken (Some p) = tt

same_sort : (p : Pieces) (t : Option Pieces) (ws : List Record) → option_eq same_pieces (Some p) t ≡ true → PiecesAre (Some p) ws → PiecesAre t ws
same_sort p None ws e x = absurd cc
same_sort pieces.Members (Some pieces.Members) ws e x = x
same_sort pieces.Members (Some pieces.Operands) ws e x = absurd cc
same_sort pieces.Operands (Some pieces.Members) ws e x = absurd cc
same_sort pieces.Operands (Some pieces.Operands) ws e x = x

taken_so : (n : Manner) (w : Option Pieces) (ws : List Record) → meets w n ≡ true → n.joins ≡ None → PiecesAre w ws → PiecesAre n.takes ws
taken_so n None ws h j x = subst (PiecesAre n.takes) (sym x) (none_taken n.takes)
taken_so n (Some p) ws h j x = same_sort p n.takes ws (sym (ap (λ o. option_eq same_pieces (Some p) o || option_eq same_pieces (Some p) n.takes) j) ∙ h) x

pub made : (s : State) (r : Record) (k : Kind) → Admits s r k → Reached s → (manner_of k).joins ≡ None → Made k (item_of s r)
made s r k a x j = record { kind_is = a.kind_is; taken = taken_so (manner_of k) s.waits s.waiting a.allowed j x }

accepted_between : (m : List Record) (from to : ℕ) → from ≤ to → Accepted start m → Accepted (state (take from m)) (drop from (take to m))
unfolding state
accepted_between m from to l a =
    let whole = subst (Accepted start) (sym (take-append-drop from (take to m))) (front m to a) in
    subst (λ x. Accepted (fold step start x) (drop from (take to m))) (take-take from to m l) (accepted_back start (take from (take to m)) (drop from (take to m)) whole)

-- what holds of every item that a record of a section makes
module _ (sec : Section) (P : Item → Type 0) (alone : (o : Option BodyKind) (k : Kind) → wanted sec o k ≡ true → (manner_of k).joins ≡ None) (of : (o : Option BodyKind) (k : Kind) (i : Item) → wanted sec o k ≡ true → Made k i → P i) where
  gained_are : (s : State) (rs : List Record) → Reached s → Accepted s rs → AllByRecursion P (gained sec s rs)
  gained_are s [] x a = tt
  gained_are s (r ∷ rs) x a =
      let p = admitted_kind s r a.0 in
      let is = wanted_is sec s r p.0 p.1.kind_is in
      one_more_if P (selects sec s r) (item_of s r) (gained sec (step s r) rs)
      (λ e. let w = sym is ∙ e in of s.opened p.0 (item_of s r) w (made s r p.0 p.1 x (alone s.opened p.0 w)))
      (gained_are (step s r) rs (subst Reached (sym (step_is s r p.0 p.1.kind_is)) (reached_next [] s r p.0 p.1 x)) a.1)

  items_are : (m : List Record) (from to : ℕ) → from ≤ to → Accepted start m → AllByRecursion P (items_between sec m from to)
  unfolding items_between
  items_are m from to l a = gained_are (state (take from m)) (drop from (take to m)) (reached (take from m) (front m from a)) (accepted_between m from to l a)

  pub between_are : (m : List Record) → Accepted start m → (from to : ℕ) → AllByRecursion P (items_between sec m from to)
  between_are m a from to =
      elim (cases_lt to from) [
        | inl b ↦ subst (AllByRecursion P) (sym (none_between sec m from to (omega arith))) tt
        | inr b ↦ items_are m from to b a
      ]

-- a section whose records are all of one kind
module _ (sec : Section) (k : Kind) (only : (o : Option BodyKind) (j : Kind) → wanted sec o j ≡ true → j ≡ k) (joins : (manner_of k).joins ≡ None) (m : List Record) (a : Accepted start m) where
  pub kind_between : (from to : ℕ) → AllByRecursion (Made k) (items_between sec m from to)
  kind_between =
      between_are sec (Made k) (λ o j w. ap (λ z. (manner_of z).joins) (only o j w) ∙ joins) (λ o j i w h. subst (λ z. Made z i) (only o j w) h) m a

only_override : (o : Option BodyKind) (k : Kind) → wanted (Numbered table.Overrides) o k ≡ true → k ≡ kind.Override
only_override o kind.Override e = refl
only_override o (kind.Type type.Scalar) e = absurd cc
only_override None (kind.Expression x) e = absurd cc
only_override (Some b) (kind.Expression x) e = absurd cc
only_override o (kind.Statement statement.Emit) e = absurd cc
only_override o k e = absurd cc

only_constant : (o : Option BodyKind) (k : Kind) → wanted (Numbered table.Constants) o k ≡ true → k ≡ kind.Constant
only_constant o kind.Constant e = refl
only_constant None (kind.Expression x) e = absurd cc
only_constant (Some b) (kind.Expression x) e = absurd cc
only_constant o k e = absurd cc

only_global : (o : Option BodyKind) (k : Kind) → wanted (Numbered table.GlobalVariables) o k ≡ true → k ≡ kind.GlobalVariable
only_global o kind.GlobalVariable e = refl
only_global None (kind.Expression x) e = absurd cc
only_global (Some b) (kind.Expression x) e = absurd cc
only_global o k e = absurd cc

only_filter : (o : Option BodyKind) (k : Kind) → wanted (Numbered table.Filters) o k ≡ true → k ≡ kind.Filter
only_filter o kind.Filter e = refl
only_filter None (kind.Expression x) e = absurd cc
only_filter (Some b) (kind.Expression x) e = absurd cc
only_filter o k e = absurd cc

only_function : (o : Option BodyKind) (k : Kind) → wanted (Numbered table.Functions) o k ≡ true → k ≡ kind.Function
only_function o kind.Function e = refl
only_function None (kind.Expression x) e = absurd cc
only_function (Some b) (kind.Expression x) e = absurd cc
only_function o k e = absurd cc

only_entry : (o : Option BodyKind) (k : Kind) → wanted (Numbered table.EntryPoints) o k ≡ true → k ≡ kind.EntryPoint
only_entry o kind.EntryPoint e = refl
only_entry None (kind.Expression x) e = absurd cc
only_entry (Some b) (kind.Expression x) e = absurd cc
only_entry o k e = absurd cc

only_local : (o : Option BodyKind) (k : Kind) → wanted (Numbered table.LocalVariables) o k ≡ true → k ≡ kind.LocalVariable
only_local o kind.LocalVariable e = refl
only_local None (kind.Expression x) e = absurd cc
only_local (Some b) (kind.Expression x) e = absurd cc
only_local o k e = absurd cc

only_type : (o : Option BodyKind) (k : Kind) → wanted (Numbered table.Types) o k ≡ true → (t : TypeInner) × (k ≡ kind.Type t)
only_type o (kind.Type t) e = (t, refl)
only_type None (kind.Expression x) e = absurd cc
only_type (Some b) (kind.Expression x) e = absurd cc
only_type o k e = absurd cc

pub only_expression : (o : Option BodyKind) (k : Kind) → wanted (Numbered table.Expressions) o k ≡ true → (x : Expression) × (k ≡ kind.Expression x)
only_expression o (kind.Expression x) e = (x, refl)
only_expression o k e = absurd cc

only_inner : (o : Option BodyKind) (k : Kind) → wanted (Numbered table.LocalExpressions) o k ≡ true → (x : Expression) × (k ≡ kind.Expression x)
only_inner o (kind.Expression x) e = (x, refl)
only_inner o k e = absurd cc

-- the sections of one number
only_special : (o : Option BodyKind) (k : Kind) → wanted (Kinds 6 6) o k ≡ true → k ≡ kind.SpecialTypes
only_special o kind.SpecialTypes e = refl
only_special o (kind.Type type.Scalar) e = absurd cc
only_special o (kind.Expression expression.Literal) e = absurd cc
only_special o (kind.Statement statement.Emit) e = absurd cc
only_special o k e = absurd cc

only_predeclared : (o : Option BodyKind) (k : Kind) → wanted (Kinds 7 7) o k ≡ true → k ≡ kind.Predeclared
only_predeclared o kind.Predeclared e = refl
only_predeclared o (kind.Type type.Scalar) e = absurd cc
only_predeclared o (kind.Expression expression.Literal) e = absurd cc
only_predeclared o (kind.Statement statement.Emit) e = absurd cc
only_predeclared o k e = absurd cc

only_leaf : (o : Option BodyKind) (k : Kind) → wanted (Kinds 9 9) o k ≡ true → k ≡ kind.Leaf
only_leaf o kind.Leaf e = refl
only_leaf o (kind.Type type.Scalar) e = absurd cc
only_leaf o (kind.Expression expression.Literal) e = absurd cc
only_leaf o (kind.Statement statement.Emit) e = absurd cc
only_leaf o k e = absurd cc

only_argument : (o : Option BodyKind) (k : Kind) → wanted (Kinds 13 13) o k ≡ true → k ≡ kind.FunctionArgument
only_argument o kind.FunctionArgument e = refl
only_argument o (kind.Type type.Scalar) e = absurd cc
only_argument o (kind.Expression expression.Literal) e = absurd cc
only_argument o (kind.Statement statement.Emit) e = absurd cc
only_argument o k e = absurd cc

only_result : (o : Option BodyKind) (k : Kind) → wanted (Kinds 14 14) o k ≡ true → k ≡ kind.FunctionResult
only_result o kind.FunctionResult e = refl
only_result o (kind.Type type.Scalar) e = absurd cc
only_result o (kind.Expression expression.Literal) e = absurd cc
only_result o (kind.Statement statement.Emit) e = absurd cc
only_result o k e = absurd cc

only_named : (o : Option BodyKind) (k : Kind) → wanted (Kinds 30 30) o k ≡ true → k ≡ kind.Named
only_named o kind.Named e = refl
only_named o (kind.Type type.Scalar) e = absurd cc
only_named o (kind.Expression expression.Literal) e = absurd cc
only_named o (kind.Statement statement.Emit) e = absurd cc
only_named o k e = absurd cc

-- a statement, or a record that closes a block
abbrev pub in_block : Kind → Bool
in_block k = wanted (Kinds 128 154) None k

block_alone : (o : Option BodyKind) (k : Kind) → wanted (Kinds 128 154) o k ≡ true → (manner_of k).joins ≡ None
block_alone o kind.Member e = absurd cc
block_alone o kind.Operand e = absurd cc
block_alone o k e = refl

-- an item of one of these kinds
abbrev pub AType : Item → Type 0
AType i = (t : TypeInner) × Made (kind.Type t) i

abbrev pub AnExpression : Item → Type 0
AnExpression i = (x : Expression) × Made (kind.Expression x) i

abbrev pub AStatement : Item → Type 0
AStatement i = (k : Kind) × (in_block k ≡ true) × Made k i

pub record BodyMade (k : Kind) (b : Body) : Type 0 where
  pub opener : Made k b.opener
  pub arguments : AllByRecursion (Made kind.FunctionArgument) b.arguments
  pub result : AllByRecursion (Made kind.FunctionResult) (option_to_list b.result)
  pub locals : AllByRecursion (Made kind.LocalVariable) b.locals
  pub named : AllByRecursion (Made kind.Named) b.named
  pub expressions : AllByRecursion AnExpression b.expressions
  pub statements : AllByRecursion AStatement b.statements

pub record ModuleMade (m : Module) : Type 0 where
  pub types : AllByRecursion AType m.types
  pub overrides : AllByRecursion (Made kind.Override) m.overrides
  pub constants : AllByRecursion (Made kind.Constant) m.constants
  pub globals : AllByRecursion (Made kind.GlobalVariable) m.globals
  pub special : AllByRecursion (Made kind.SpecialTypes) (option_to_list m.special)
  pub predeclared : AllByRecursion (Made kind.Predeclared) m.predeclared
  pub filters : AllByRecursion (Made kind.Filter) m.filters
  pub leaf : AllByRecursion (Made kind.Leaf) (option_to_list m.leaf)
  pub expressions : AllByRecursion AnExpression m.expressions
  pub functions : AllByRecursion (BodyMade kind.Function) m.functions
  pub entries : AllByRecursion (BodyMade kind.EntryPoint) m.entries

module _ (m : List Record) (a : Accepted start m) where
  types_are : (from to : ℕ) → AllByRecursion AType (items_between (Numbered table.Types) m from to)
  types_are =
      between_are (Numbered table.Types) AType (λ o k w. ap (λ z. (manner_of z).joins) (only_type o k w).1)
      (λ o k i w h. let t = only_type o k w in (t.0, subst (λ z. Made z i) t.1 h)) m a

  expressions_are : (from to : ℕ) → AllByRecursion AnExpression (items_between (Numbered table.Expressions) m from to)
  expressions_are =
      between_are (Numbered table.Expressions) AnExpression (λ o k w. ap (λ z. (manner_of z).joins) (only_expression o k w).1)
      (λ o k i w h. let t = only_expression o k w in (t.0, subst (λ z. Made z i) t.1 h)) m a

  inner_are : (from to : ℕ) → AllByRecursion AnExpression (items_between (Numbered table.LocalExpressions) m from to)
  inner_are =
      between_are (Numbered table.LocalExpressions) AnExpression (λ o k w. ap (λ z. (manner_of z).joins) (only_inner o k w).1)
      (λ o k i w h. let t = only_inner o k w in (t.0, subst (λ z. Made z i) t.1 h)) m a

  statements_are : (from to : ℕ) → AllByRecursion AStatement (items_between (Kinds 128 154) m from to)
  statements_are = between_are (Kinds 128 154) AStatement block_alone (λ o k i w h. (k, w, h)) m a

  body_made : (k : Kind) (i : Item) → Made k i → BodyMade k (body_of m i)
  body_made k i h =
      let from = suc i.place in
      let to = ending_from m (suc i.place) in
      record {
        opener = h;
        arguments = kind_between (Kinds 13 13) kind.FunctionArgument only_argument refl m a from to;
        result = last_has (Made kind.FunctionResult) (items_between (Kinds 14 14) m from to) (kind_between (Kinds 14 14) kind.FunctionResult only_result refl m a from to);
        locals = kind_between (Numbered table.LocalVariables) kind.LocalVariable only_local refl m a from to;
        named = kind_between (Kinds 30 30) kind.Named only_named refl m a from to;
        expressions = inner_are from to;
        statements = statements_are from to;
      }

  bodies_made : (k : Kind) (is : List Item) → AllByRecursion (Made k) is → AllByRecursion (BodyMade k) (map (body_of m) is)
  bodies_made k [] h = tt
  bodies_made k (i ∷ is) h = (body_made k i h.0, bodies_made k is h.1)

  pub module_made : ModuleMade (module_of m)
  module_made =
      let to = length m in
      record {
        types = types_are 0 to;
        overrides = kind_between (Numbered table.Overrides) kind.Override only_override refl m a 0 to;
        constants = kind_between (Numbered table.Constants) kind.Constant only_constant refl m a 0 to;
        globals = kind_between (Numbered table.GlobalVariables) kind.GlobalVariable only_global refl m a 0 to;
        special = last_has (Made kind.SpecialTypes) (items_of (Kinds 6 6) m) (kind_between (Kinds 6 6) kind.SpecialTypes only_special refl m a 0 to);
        predeclared = kind_between (Kinds 7 7) kind.Predeclared only_predeclared refl m a 0 to;
        filters = kind_between (Numbered table.Filters) kind.Filter only_filter refl m a 0 to;
        leaf = last_has (Made kind.Leaf) (items_of (Kinds 9 9) m) (kind_between (Kinds 9 9) kind.Leaf only_leaf refl m a 0 to);
        expressions = expressions_are 0 to;
        functions = bodies_made kind.Function (items_of (Numbered table.Functions) m) (kind_between (Numbered table.Functions) kind.Function only_function refl m a 0 to);
        entries = bodies_made kind.EntryPoint (items_of (Numbered table.EntryPoints) m) (kind_between (Numbered table.EntryPoints) kind.EntryPoint only_entry refl m a 0 to);
      }
