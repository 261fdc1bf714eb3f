-- One record more adds one item to its table, of the module or of a body, and leaves the others as they are.
use Rattle.std.proofs.Common.{◌≡◌, ℕ, zero, suc, ◌+◌, Bool, true, false, ◌&&◌, ◌||◌, eqb, List, [], ◌∷◌, ◌++◌, map, length, Some, sym, refl, ap, ◌∙◌, subst, arith, None, Option}
use lib.Dec.{eqb-zero-suc, eqb-suc-zero, eqb-suc-suc}
use Rattle.std.specs.List.{slice_get}
use Rattle.std.proofs.lemmas.List.{map_push, length-map, length_push}
use Rattle.std.proofs.lemmas.Bool.{and_parts, and_left, and_right, or_parts, eqb-true}
use Rattle.ir.specs.declared.handle.Table.{Table}
use Rattle.ir.specs.declared.handle.Table.TheVariants as handles
use Rattle.ir.specs.declared.kinds.Kind.{Kind}
use Rattle.ir.specs.declared.kinds.Kind.TheVariants as kind
use Rattle.rules.specs.Module.{Record, Item, Body, Module, opened_by, closed}
use Rattle.draft.specs.declared.state.BodyKind.{BodyKind}
use Rattle.draft.specs.declared.state.BodyKind.TheVariants as body_kind
use Rattle.draft.specs.declared.state.SlotTable.{SlotTable}
use Rattle.draft.specs.declared.state.SlotTable.TheVariants as table
use Rattle.draft.specs.Manner.{manner_of}
use Rattle.draft.specs.State.{State, stepped, item_of, on_side, open_after, functions_now, entries_now, module_after, body_after, function_open, entry_open, number_of_next, table_in, table_of}
use Rattle.draft.proofs.Stepping.{Admits, outside_only}
use Rattle.draft.proofs.Tallying.{statement_stays}
use Rattle.arena.specs.declared.view.Home.{Home}
use Rattle.arena.specs.declared.view.Home.TheVariants as home
use Rattle.arena.proofs.Tables.{same_is}
use Rattle.arena.specs.Viewing.{module_items, body_items, items_in, same_table, module_table, body_table, slot_table, among, opens, other, entered, enters}

abbrev pub grown : Bool → List Item → Item → List Item
grown true xs i = xs ++ i ∷ []
grown false xs i = xs

unchanged : (z : Bool) (xs : List Item) (i : Item) → z ≡ false → xs ≡ grown z xs i
unchanged z xs i e = sym (ap (λ y. grown y xs i) e)

-- a table of a body
abbrev pub local : SlotTable → Bool
local t = same_table table.LocalVariables t || same_table table.LocalExpressions t

not_among : (t : Table) (u : SlotTable) → local u ≡ false → among (body_table t) u ≡ false
not_among handles.LocalVariables u e = (or_parts _ _ e).0
not_among handles.Expressions u e = (or_parts _ _ e).1
not_among t u e = refl

-- what a record of this table does to the open body
record Grows (u : SlotTable) (i : Item) (b b' : Body) : Type 0 where
  opener : b'.opener ≡ b.opener
  locals : b'.locals ≡ grown (same_table table.LocalVariables u) b.locals i
  expressions : b'.expressions ≡ grown (same_table table.LocalExpressions u) b.expressions i

grows_items : (t : Table) (u : SlotTable) (i : Item) (b b' : Body) → Grows u i b b' → body_items t (Some b') ≡ grown (among (body_table t) u) (body_items t (Some b)) i
grows_items handles.LocalVariables u i b b' g = g.locals
grows_items handles.Expressions u i b b' g = g.expressions
grows_items t u i b b' g = refl

-- what it does to the bodies
data Goes (u : SlotTable) (i : Item) (o : Option BodyKind) (m : Module) (b : Body) (o' : Option BodyKind) (m' : Module) (b' : Body) : Type 0 where
  stays : opens u ≡ None → o' ≡ o → m'.functions ≡ m.functions → m'.entries ≡ m.entries → Grows u i b b' → (o ≡ None → local u ≡ false) → Goes u i o m b o' m' b'
  begins : local u ≡ false → o ≡ None → o' ≡ opens u → m'.functions ≡ m.functions → m'.entries ≡ m.entries → b' ≡ opened_by i → Goes u i o m b o' m' b'
  ends : local u ≡ false → opens u ≡ None → o' ≡ None → (c : Body) → Grows u i b c → m'.functions ≡ functions_now o m c → m'.entries ≡ entries_now o m c → Goes u i o m b o' m' b'

-- the tables of a module that have items and not bodies
abbrev Tables : Type 0
Tables = List Item × List Item × List Item × List Item × List Item × List Item

abbrev tables_of : Module → Tables
tables_of m = (m.types, m.overrides, m.constants, m.globals, m.filters, m.expressions)

abbrev tables_grown : SlotTable → Item → Tables → Tables
tables_grown u i p = (grown (same_table table.Types u) p.0 i, grown (same_table table.Overrides u) p.1 i, grown (same_table table.Constants u) p.2 i, grown (same_table table.GlobalVariables u) p.3 i, grown (same_table table.Filters u) p.4 i, grown (same_table table.Expressions u) p.5 i)

module _ (m : Module) (b : Body) (i : Item) where
  goes_at : (k : Kind) (o : Option BodyKind) → on_side o (manner_of k).side ≡ true → Goes (table_in o (manner_of k).table) i o m b (open_after (manner_of k).motion o) (module_after k o b i m) (body_after k o i b)
  goes_at kind.Function o h = begins refl (outside_only o h) refl refl refl refl
  goes_at kind.EntryPoint o h = begins refl (outside_only o h) refl refl refl refl
  goes_at kind.LocalVariable None h = absurd cc
  goes_at kind.LocalVariable (Some x) h = stays refl refl refl refl (record { opener = refl; locals = refl; expressions = refl }) (λ e. absurd cc)
  goes_at kind.EndFunction None h = absurd cc
  goes_at kind.EndFunction (Some body_kind.Function) h = ends refl refl refl (closed b i) (record { opener = refl; locals = refl; expressions = refl }) refl refl
  goes_at kind.EndFunction (Some body_kind.EntryPoint) h = ends refl refl refl (closed b i) (record { opener = refl; locals = refl; expressions = refl }) refl refl
  goes_at (kind.Expression x) (Some y) h = stays refl refl refl refl (record { opener = refl; locals = refl; expressions = refl }) (λ e. absurd cc)
  goes_at (kind.Statement x) o h = stays refl (statement_stays x o) refl refl (record { opener = refl; locals = refl; expressions = refl }) (λ e. refl)
  goes_at k o h = stays refl refl refl refl (record { opener = refl; locals = refl; expressions = refl }) (λ e. refl)

  tables_at : (k : Kind) (o : Option BodyKind) → tables_of (module_after k o b i m) ≡ tables_grown (table_in o (manner_of k).table) i (tables_of m)
  tables_at kind.EndFunction (Some body_kind.Function) = refl
  tables_at (kind.Expression x) (Some body_kind.Function) = refl
  tables_at k o = refl

-- the bodies of one kind, with the open one as the last if it is of that kind
abbrev now_in : Option BodyKind → List Body → Body → List Body
now_in None xs b = xs
now_in (Some body_kind.Function) xs b = xs ++ b ∷ []
now_in (Some body_kind.EntryPoint) xs b = xs

functions_are : (o : Option BodyKind) (m : Module) (b : Body) → functions_now o m b ≡ now_in o m.functions b
functions_are None m b = refl
functions_are (Some body_kind.Function) m b = refl
functions_are (Some body_kind.EntryPoint) m b = refl

entries_are : (o : Option BodyKind) (m : Module) (b : Body) → entries_now o m b ≡ now_in (other o) m.entries b
entries_are None m b = refl
entries_are (Some body_kind.Function) m b = refl
entries_are (Some body_kind.EntryPoint) m b = refl

other_twice : (o : Option BodyKind) → other (other o) ≡ o
other_twice None = refl
other_twice (Some body_kind.Function) = refl
other_twice (Some body_kind.EntryPoint) = refl

-- what a record does to the bodies of one kind
data Turns (u : SlotTable) (i : Item) (opened o : Option BodyKind) (xs : List Body) (b : Body) (o' : Option BodyKind) (xs' : List Body) (b' : Body) : Type 0 where
  stays : opened ≡ None → o' ≡ o → xs' ≡ xs → Grows u i b b' → (o ≡ None → local u ≡ false) → Turns u i opened o xs b o' xs' b'
  begins : local u ≡ false → o ≡ None → o' ≡ opened → xs' ≡ xs → b' ≡ opened_by i → Turns u i opened o xs b o' xs' b'
  ends : local u ≡ false → opened ≡ None → o' ≡ None → (c : Body) → Grows u i b c → xs' ≡ now_in o xs c → Turns u i opened o xs b o' xs' b'

module _ (u : SlotTable) (i : Item) (o : Option BodyKind) (m : Module) (b : Body) (o' : Option BodyKind) (m' : Module) (b' : Body) where
  function_turns : Goes u i o m b o' m' b' → Turns u i (opens u) o m.functions b o' m'.functions b'
  function_turns (Goes.stays e p f g gr out) = Turns.stays e p f gr out
  function_turns (Goes.begins l n p f g q) = Turns.begins l n p f q
  function_turns (Goes.ends l e p c gr f g) = Turns.ends l e p c gr (f ∙ functions_are o m c)

  entry_turns : Goes u i o m b o' m' b' → Turns u i (other (opens u)) (other o) m.entries b (other o') m'.entries b'
  entry_turns (Goes.stays e p f g gr out) = Turns.stays (ap other e) (ap other p) g gr (λ n. out (sym (other_twice o) ∙ ap other n))
  entry_turns (Goes.begins l n p f g q) = Turns.begins l (ap other n) (ap other p) g q
  entry_turns (Goes.ends l e p c gr f g) = Turns.ends l (ap other e) (ap other p) c gr (g ∙ entries_are o m c)

pub nth_last : {X : Type 0} (xs : List X) (x : X) → slice_get (xs ++ x ∷ []) (length xs) ≡ Some x
nth_last [] x = refl
nth_last (y ∷ xs) x = nth_last xs x

-- the flag of a scan for the body with the number n, among the bodies of one kind
abbrev Flag : ℕ → Option BodyKind → List Body → Bool → Type 0
Flag n None xs f = Unit {0}
Flag n (Some body_kind.Function) xs f = f ≡ eqb (length xs) n
Flag n (Some body_kind.EntryPoint) xs f = f ≡ false

module _ (t : Table) (u : SlotTable) (i : Item) where
  abbrev hit : Bool
  hit = among (body_table t) u

  last_grows : (xs : List Body) (b b' : Body) (n : ℕ) → Grows u i b b' → body_items t (slice_get (xs ++ b' ∷ []) n) ≡ grown (eqb (length xs) n && hit) (body_items t (slice_get (xs ++ b ∷ []) n)) i
  last_grows [] b b' zero g = grows_items t u i b b' g
  last_grows [] b b' (suc n) g = unchanged _ [] i (and_left _ _ (eqb-zero-suc n))
  last_grows (x ∷ xs) b b' zero g = unchanged _ _ i (and_left _ _ (eqb-suc-zero (length xs)))
  last_grows (x ∷ xs) b b' (suc n) g = last_grows xs b b' n g ∙ ap (λ y. grown (y && hit) (body_items t (slice_get (xs ++ b ∷ []) n)) i) (sym (eqb-suc-suc (length xs) n))

  stay_items : (n : ℕ) (o : Option BodyKind) (xs : List Body) (b b' : Body) (f : Bool) → Flag n o xs f → Grows u i b b' → (o ≡ None → local u ≡ false) → body_items t (slice_get (now_in o xs b') n) ≡ grown (f && hit) (body_items t (slice_get (now_in o xs b) n)) i
  stay_items n None xs b b' f flag g out = unchanged _ _ i (and_right f hit (not_among t u (out refl)))
  stay_items n (Some body_kind.Function) xs b b' f flag g out = last_grows xs b b' n g ∙ ap (λ y. grown (y && hit) (body_items t (slice_get (xs ++ b ∷ []) n)) i) (sym flag)
  stay_items n (Some body_kind.EntryPoint) xs b b' f flag g out = unchanged _ _ i (and_left f hit flag)

empty_items : (t : Table) (i : Item) → body_items t (Some (opened_by i)) ≡ []
empty_items handles.LocalVariables i = refl
empty_items t i = refl

opened_empty : (t : Table) (i : Item) (xs : List Body) (n : ℕ) → body_items t (slice_get (xs ++ opened_by i ∷ []) n) ≡ body_items t (slice_get xs n)
opened_empty t i [] zero = empty_items t i
opened_empty t i [] (suc n) = refl
opened_empty t i (x ∷ xs) zero = refl
opened_empty t i (x ∷ xs) (suc n) = opened_empty t i xs n

begin_items : (t : Table) (i : Item) (n : ℕ) (opened : Option BodyKind) (xs : List Body) → body_items t (slice_get (now_in opened xs (opened_by i)) n) ≡ body_items t (slice_get xs n)
begin_items t i n None xs = refl
begin_items t i n (Some body_kind.Function) xs = opened_empty t i xs n
begin_items t i n (Some body_kind.EntryPoint) xs = refl

begin_flag : (n k : ℕ) (f : Bool) (opened : Option BodyKind) (xs : List Body) → (opened ≡ Some body_kind.Function → k ≡ length xs) → Flag n opened xs (entered n f k opened)
begin_flag n k f None xs h = tt
begin_flag n k f (Some body_kind.Function) xs h = ap (λ y. eqb y n) (h refl)
begin_flag n k f (Some body_kind.EntryPoint) xs h = refl

module _ (t : Table) (u : SlotTable) (i : Item) (n k : ℕ) (opened o : Option BodyKind) (xs : List Body) (b : Body) (o' : Option BodyKind) (xs' : List Body) (b' : Body) (f : Bool) (flag : Flag n o xs f) where
  body_step : Turns u i opened o xs b o' xs' b' → body_items t (slice_get (now_in o' xs' b') n) ≡ grown (entered n f k opened && among (body_table t) u) (body_items t (slice_get (now_in o xs b) n)) i
  body_step (Turns.stays e p q g out) =
      ap (λ y. body_items t (slice_get (now_in y xs' b') n)) p
      ∙ ap (λ y. body_items t (slice_get (now_in o y b') n)) q
      ∙ stay_items t u i n o xs b b' f flag g out
      ∙ ap (λ y. grown (entered n f k y && among (body_table t) u) (body_items t (slice_get (now_in o xs b) n)) i) (sym e)
  body_step (Turns.begins l z p q r) =
      ap (λ y. body_items t (slice_get (now_in y xs' b') n)) p
      ∙ ap (λ y. body_items t (slice_get (now_in opened y b') n)) q
      ∙ ap (λ y. body_items t (slice_get (now_in opened xs y) n)) r
      ∙ begin_items t i n opened xs
      ∙ ap (λ y. body_items t (slice_get (now_in y xs b) n)) (sym z)
      ∙ unchanged _ _ i (and_right (entered n f k opened) _ (not_among t u l))
  body_step (Turns.ends l e p c g q) =
      ap (λ y. body_items t (slice_get (now_in y xs' b') n)) p
      ∙ ap (λ y. body_items t (slice_get y n)) q
      ∙ stay_items t u i n o xs b c f flag g (λ z. l)
      ∙ ap (λ y. grown (entered n f k y && among (body_table t) u) (body_items t (slice_get (now_in o xs b) n)) i) (sym e)

  flag_step : Turns u i opened o xs b o' xs' b' → (opened ≡ Some body_kind.Function → k ≡ length xs + function_open o) → Flag n o' xs' (entered n f k opened)
  flag_step (Turns.stays e p q g out) h = subst (λ y. Flag n o' xs' (entered n f k y)) (sym e) (subst (λ y. Flag n y xs' f) (sym p) (subst (λ y. Flag n o y f) (sym q) flag))
  flag_step (Turns.begins l z p q r) h =
      let here : opened ≡ Some body_kind.Function → k ≡ length xs = λ e. let a = h e in let w : function_open o ≡ 0 = ap function_open z in omega arith in
      subst (λ y. Flag n y xs' (entered n f k opened)) (sym p) (subst (λ y. Flag n opened y (entered n f k opened)) (sym q) (begin_flag n k f opened xs here))
  flag_step (Turns.ends l e p c g q) h = subst (λ y. Flag n y xs' (entered n f k opened)) (sym p) tt

  stay_number : (a : Option BodyKind) → Flag n a xs f → (a ≡ None → local u ≡ false) → (among (body_table t) u ≡ true → k ≡ length (body_items t (Some b))) → f ≡ true → among (body_table t) u ≡ true → k ≡ length (body_items t (slice_get (now_in a xs b) n))
  stay_number None fl out num e w = let v = not_among t u (out refl) in absurd cc
  stay_number (Some body_kind.Function) fl out num e w = num w ∙ ap (λ y. length (body_items t y)) (sym (nth_last xs b)) ∙ ap (λ y. length (body_items t (slice_get (xs ++ b ∷ []) y))) (eqb-true (length xs) n (sym fl ∙ e))
  stay_number (Some body_kind.EntryPoint) fl out num e w = absurd cc

  number_step : Turns u i opened o xs b o' xs' b' → (among (body_table t) u ≡ true → k ≡ length (body_items t (Some b))) → (entered n f k opened && among (body_table t) u) ≡ true → k ≡ length (body_items t (slice_get (now_in o xs b) n))
  number_step (Turns.stays e p q g out) num w = let both = and_parts (entered n f k opened) _ w in stay_number o flag out num (sym (ap (entered n f k) e) ∙ both.0) both.1
  number_step (Turns.begins l z p q r) num w = let v = not_among t u l in let v2 = (and_parts (entered n f k opened) _ w).1 in absurd cc
  number_step (Turns.ends l e p c g q) num w = let v = not_among t u l in let v2 = (and_parts (entered n f k opened) _ w).1 in absurd cc

abbrev openers : List Body → List Item
openers bs = map (λ b. b.opener) bs

-- whether a body of one kind opens
abbrev mine : Option BodyKind → Bool
mine None = false
mine (Some body_kind.Function) = true
mine (Some body_kind.EntryPoint) = false

openers_stay : (o : Option BodyKind) (xs : List Body) (b c : Body) → c.opener ≡ b.opener → openers (now_in o xs c) ≡ openers (now_in o xs b)
openers_stay None xs b c e = refl
openers_stay (Some body_kind.Function) xs b c e = map_push (λ x. x.opener) xs c ∙ ap (λ i. openers xs ++ i ∷ []) e ∙ sym (map_push (λ x. x.opener) xs b)
openers_stay (Some body_kind.EntryPoint) xs b c e = refl

openers_begin : (opened : Option BodyKind) (xs : List Body) (i : Item) → openers (now_in opened xs (opened_by i)) ≡ grown (mine opened) (openers xs) i
openers_begin None xs i = refl
openers_begin (Some body_kind.Function) xs i = map_push (λ x. x.opener) xs (opened_by i)
openers_begin (Some body_kind.EntryPoint) xs i = refl

openers_step : (u : SlotTable) (i : Item) (opened o : Option BodyKind) (xs : List Body) (b : Body) (o' : Option BodyKind) (xs' : List Body) (b' : Body) → Turns u i opened o xs b o' xs' b' → openers (now_in o' xs' b') ≡ grown (mine opened) (openers (now_in o xs b)) i
openers_step u i opened o xs b o' xs' b' (Turns.stays e p q g out) = ap (λ y. openers (now_in y xs' b')) p ∙ ap (λ y. openers (now_in o y b')) q ∙ openers_stay o xs b b' g.opener ∙ unchanged _ _ i (ap mine e)
openers_step u i opened o xs b o' xs' b' (Turns.begins l z p q r) = ap (λ y. openers (now_in y xs' b')) p ∙ ap (λ y. openers (now_in opened y b')) q ∙ ap (λ y. openers (now_in opened xs y)) r ∙ openers_begin opened xs i ∙ ap (λ y. grown (mine opened) (openers (now_in y xs b)) i) (sym z)
openers_step u i opened o xs b o' xs' b' (Turns.ends l e p c g q) = ap (λ y. openers (now_in y xs' b')) p ∙ ap openers q ∙ openers_stay o xs b c g.opener ∙ unchanged _ _ i (ap mine e)

openers_count : (o : Option BodyKind) (xs : List Body) (b : Body) → length xs + function_open o ≡ length (openers (now_in o xs b))
openers_count None xs b = let e = length-map xs (λ (x : Body). x.opener) in omega arith
openers_count (Some body_kind.Function) xs b = let e = length-map (xs ++ b ∷ []) (λ (x : Body). x.opener) in let l = length_push xs b in omega arith
openers_count (Some body_kind.EntryPoint) xs b = let e = length-map xs (λ (x : Body). x.opener) in omega arith

entry_counts : (o : Option BodyKind) → entry_open o ≡ function_open (other o)
entry_counts None = refl
entry_counts (Some body_kind.Function) = refl
entry_counts (Some body_kind.EntryPoint) = refl

function_mine : (u : SlotTable) → mine (opens u) ≡ same_table table.Functions u
function_mine table.Functions = refl
function_mine u = refl

entry_mine : (u : SlotTable) → mine (other (opens u)) ≡ same_table table.EntryPoints u
entry_mine table.EntryPoints = refl
entry_mine u = refl

-- the flag of a scan after the records of a state
abbrev pub FlagOf : Home → State → Bool → Type 0
FlagOf home.Module s f = Unit {0}
FlagOf (home.Function n) s f = Flag n s.opened s.built.functions f
FlagOf (home.EntryPoint n) s f = Flag n (other s.opened) s.built.entries f

flag_now : (n : ℕ) (o : Option BodyKind) (xs : List Body) → (f : Bool) × Flag n o xs f
flag_now n None xs = (false, tt)
flag_now n (Some body_kind.Function) xs = (eqb (length xs) n, refl)
flag_now n (Some body_kind.EntryPoint) xs = (false, refl)

-- there is one in every state
pub flag_in : (h : Home) (s : State) → (f : Bool) × FlagOf h s f
flag_in home.Module s = (true, tt)
flag_in (home.Function n) s = flag_now n s.opened s.built.functions
flag_in (home.EntryPoint n) s = flag_now n (other s.opened) s.built.entries

-- outside of bodies a record is in no table of a body
outside : (u : SlotTable) (i : Item) (o : Option BodyKind) (m : Module) (b : Body) (o' : Option BodyKind) (m' : Module) (b' : Body) → Goes u i o m b o' m' b' → o ≡ None → local u ≡ false
outside u i o m b o' m' b' (Goes.stays e p q r g out) n = out n
outside u i o m b o' m' b' (Goes.begins l z p q r e) n = l
outside u i o m b o' m' b' (Goes.ends l e p c g q r) n = l

-- what one more record does to the items of a table
pub record Step (h : Home) (t : Table) (s s' : State) (u : SlotTable) (i : Item) (f : Bool) : Type 0 where
  pub items : items_in h t s' ≡ grown (enters h f u (number_of_next u s) && among (slot_table h t) u) (items_in h t s) i
  -- a record that is an item gets as number how many items the table has
  pub number : (enters h f u (number_of_next u s) && among (slot_table h t) u) ≡ true → number_of_next u s ≡ length (items_in h t s)
  pub flag : FlagOf h s' (enters h f u (number_of_next u s))

module _ (s : State) (r : Record) (k : Kind) (a : Admits s r k) where
  abbrev u : SlotTable
  u = table_of s k

  abbrev i : Item
  i = item_of s r

  abbrev s' : State
  s' = stepped k r s

  goes : Goes u i s.opened s.built s.body s'.opened s'.built s'.body
  goes = goes_at s.built s.body i k s.opened a.on_its_side

  pub outside_table : s.opened ≡ None → local u ≡ false
  outside_table = outside u i s.opened s.built s.body s'.opened s'.built s'.body goes

  functions_turn : Turns u i (opens u) s.opened s.built.functions s.body s'.opened s'.built.functions s'.body
  functions_turn = function_turns u i s.opened s.built s.body s'.opened s'.built s'.body goes

  entries_turn : Turns u i (other (opens u)) (other s.opened) s.built.entries s.body (other s'.opened) s'.built.entries s'.body
  entries_turn = entry_turns u i s.opened s.built s.body s'.opened s'.built s'.body goes

  tables : tables_of s'.built ≡ tables_grown u i (tables_of s.built)
  tables = tables_at s.built s.body i k s.opened

  module_step : (t : Table) → module_items t s' ≡ grown (among (module_table t) u) (module_items t s) i
  module_step handles.Types = ap (λ p. p.0) tables
  module_step handles.Constants = ap (λ p. p.2) tables
  module_step handles.Overrides = ap (λ p. p.1) tables
  module_step handles.GlobalVariables = ap (λ p. p.3) tables
  module_step handles.LocalVariables = refl
  module_step handles.Expressions = ap (λ p. p.5) tables
  module_step handles.Functions =
      ap openers (functions_are s'.opened s'.built s'.body)
      ∙ openers_step u i (opens u) s.opened s.built.functions s.body s'.opened s'.built.functions s'.body functions_turn
      ∙ ap (λ y. grown y (openers (now_in s.opened s.built.functions s.body)) i) (function_mine u)
      ∙ ap (λ y. grown (same_table table.Functions u) (openers y) i) (sym (functions_are s.opened s.built s.body))
  module_step handles.Filters = ap (λ p. p.4) tables
  module_step handles.EntryPoints =
      ap openers (entries_are s'.opened s'.built s'.body)
      ∙ openers_step u i (other (opens u)) (other s.opened) s.built.entries s.body (other s'.opened) s'.built.entries s'.body entries_turn
      ∙ ap (λ y. grown y (openers (now_in (other s.opened) s.built.entries s.body)) i) (entry_mine u)
      ∙ ap (λ y. grown (same_table table.EntryPoints u) (openers y) i) (sym (entries_are s.opened s.built s.body))

  numbered : (w : SlotTable) → same_table w u ≡ true → number_of_next u s ≡ number_of_next w s
  numbered w e = ap (λ y. number_of_next y s) (sym (same_is w u e))

  functions_number : number_of_next table.Functions s ≡ length (openers (functions_now s.opened s.built s.body))
  functions_number = openers_count s.opened s.built.functions s.body ∙ ap (λ y. length (openers y)) (sym (functions_are s.opened s.built s.body))

  entries_number : number_of_next table.EntryPoints s ≡ length (openers (entries_now s.opened s.built s.body))
  entries_number = ap (λ y. length s.built.entries + y) (entry_counts s.opened) ∙ openers_count (other s.opened) s.built.entries s.body ∙ ap (λ y. length (openers y)) (sym (entries_are s.opened s.built s.body))

  module_number : (t : Table) → among (module_table t) u ≡ true → number_of_next u s ≡ length (module_items t s)
  module_number handles.Types e = numbered table.Types e
  module_number handles.Constants e = numbered table.Constants e
  module_number handles.Overrides e = numbered table.Overrides e
  module_number handles.GlobalVariables e = numbered table.GlobalVariables e
  module_number handles.LocalVariables e = absurd cc
  module_number handles.Expressions e = numbered table.Expressions e
  module_number handles.Functions e = numbered table.Functions e ∙ functions_number
  module_number handles.Filters e = numbered table.Filters e
  module_number handles.EntryPoints e = numbered table.EntryPoints e ∙ entries_number

  body_number : (t : Table) → among (body_table t) u ≡ true → number_of_next u s ≡ length (body_items t (Some s.body))
  body_number handles.LocalVariables e = numbered table.LocalVariables e
  body_number handles.Expressions e = numbered table.LocalExpressions e
  body_number t e = absurd cc

  function_number : opens u ≡ Some body_kind.Function → number_of_next u s ≡ length s.built.functions + function_open s.opened
  function_number e = numbered table.Functions (sym (function_mine u) ∙ ap mine e)

  entry_number : other (opens u) ≡ Some body_kind.Function → number_of_next u s ≡ length s.built.entries + function_open (other s.opened)
  entry_number e = numbered table.EntryPoints (sym (entry_mine u) ∙ ap mine e) ∙ ap (λ y. length s.built.entries + y) (entry_counts s.opened)

  pub home_step : (h : Home) (t : Table) (f : Bool) → FlagOf h s f → Step h t s s' u i f
  home_step home.Module t f flag = record { items = module_step t; number = module_number t; flag = tt }
  home_step (home.Function n) t f flag = record {
    items = ap (λ y. body_items t (slice_get y n)) (functions_are s'.opened s'.built s'.body) ∙ body_step t u i n (number_of_next u s) (opens u) s.opened s.built.functions s.body s'.opened s'.built.functions s'.body f flag functions_turn ∙ ap (λ y. grown (entered n f (number_of_next u s) (opens u) && among (body_table t) u) (body_items t (slice_get y n)) i) (sym (functions_are s.opened s.built s.body));
    number = λ w. number_step t u i n (number_of_next u s) (opens u) s.opened s.built.functions s.body s'.opened s'.built.functions s'.body f flag functions_turn (body_number t) w ∙ ap (λ y. length (body_items t (slice_get y n))) (sym (functions_are s.opened s.built s.body));
    flag = flag_step t u i n (number_of_next u s) (opens u) s.opened s.built.functions s.body s'.opened s'.built.functions s'.body f flag functions_turn function_number;
  }
  home_step (home.EntryPoint n) t f flag = record {
    items = ap (λ y. body_items t (slice_get y n)) (entries_are s'.opened s'.built s'.body) ∙ body_step t u i n (number_of_next u s) (other (opens u)) (other s.opened) s.built.entries s.body (other s'.opened) s'.built.entries s'.body f flag entries_turn ∙ ap (λ y. grown (entered n f (number_of_next u s) (other (opens u)) && among (body_table t) u) (body_items t (slice_get y n)) i) (sym (entries_are s.opened s.built s.body));
    number = λ w. number_step t u i n (number_of_next u s) (other (opens u)) (other s.opened) s.built.entries s.body (other s'.opened) s'.built.entries s'.body f flag entries_turn (body_number t) w ∙ ap (λ y. length (body_items t (slice_get y n))) (sym (entries_are s.opened s.built s.body));
    flag = flag_step t u i n (number_of_next u s) (other (opens u)) (other s.opened) s.built.entries s.body (other s'.opened) s'.built.entries s'.body f flag entries_turn entry_number;
  }
