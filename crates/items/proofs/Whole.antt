-- The module that the fold builds is the module by the places of its items.
use Rattle.std.proofs.Common.{◌≡◌, ℕ, zero, suc, ◌+◌, ◌-◌, ◌<◌, ◌≤◌, Bool, true, false, not, List, [], ◌∷◌, ◌++◌, map, length, get_or, take, drop, Some, None, Ok, Option, sym, refl, ap, ◌∙◌, subst, inl, inr, arith, length-drop, get_or-drop, take_all}
use mathlib.Core.Path.{fun_ext}
use Rattle.std.specs.List.{slice_get}
use Rattle.std.specs.Option.{option_map}
use Rattle.std.proofs.lemmas.List.{map_push}
use Rattle.std.proofs.lemmas.List.Sums.{prefix_len_is}
use Rattle.std.proofs.lemmas.Bool.{cases_eq}
use Rattle.std.proofs.lemmas.Option.{get_or_from_slice_get}
use Rattle.ir.specs.declared.handle.Table.{Table}
use Rattle.ir.specs.declared.handle.Table.TheVariants as handles
use Rattle.ir.specs.declared.kinds.Kind.{Kind}
use Rattle.records.specs.Record.{judged}
use Rattle.rules.specs.Module.{Record, Item, Body, Module, closed}
use Rattle.draft.specs.declared.state.BodyKind.{BodyKind}
use Rattle.draft.specs.declared.state.BodyKind.TheVariants as body_kind
use Rattle.draft.specs.declared.state.SlotTable.{SlotTable}
use Rattle.draft.specs.declared.state.SlotTable.TheVariants as table
use Rattle.draft.specs.Manner.{manner_of}
use Rattle.draft.specs.State.{State, start, stepped, state, item_of, items, table_of, on_side, functions_now, entries_now, body_after}
use Rattle.draft.specs.Admitted.{Accepted}
use Rattle.draft.proofs.Stepping.{Admits}
use Rattle.arena.specs.declared.view.Home.TheVariants as home
use Rattle.arena.specs.Viewing.{module_items, module_table, among}
use Rattle.arena.proofs.Homes.{grown, home_step}
use Rattle.laws.proofs.KindBytes.{starts_so}
use Rattle.items.specs.declared.section.Section.{Section}
use Rattle.items.specs.declared.section.Section.TheVariants.{Numbered, Kinds}
use Rattle.items.specs.Between.{item_at, items_between}
use Rattle.items.specs.Whole.{last_of, items_of, ends, ending_from, body_until, body_of, module_of}
use Rattle.items.proofs.Between.{none_between, kept_at, item_is}
use Rattle.items.proofs.Places.{wanted, Next, next_at, more}
use Rattle.items.proofs.ByKind.{last_grown, later, body_with, finishes, inner_at, unnumbered_at, is_function, Moves, moves_at}

-- what a state holds of a section's items, told of all of them, if each record keeps it so
module _ {X : Type 0} (held : State → X) (told : List Item → X) (sec : Section)
    (each : (s : State) (r : Record) (k : Kind) (xs : List Item) → Admits s r k → held s ≡ told xs → held (stepped k r s) ≡ told (grown (wanted sec s.opened k) xs (item_of s r)))
    (none : held start ≡ told []) (m : List Record) (a : Accepted start m) where
  so_far : (p : ℕ) → p ≤ length m → held (state (take p m)) ≡ told (items_between sec m 0 p)
  unfolding state
  so_far zero l = none ∙ ap told (sym (none_between sec m 0 0 (omega arith)))
  so_far (suc p) l =
      let n = next_at m a p (omega arith) in
      let s = state (take p m) in
      let on : p + 1 ≡ suc p = omega arith in
      subst (λ q. held (state (take q m)) ≡ told (items_between sec m 0 q)) on
      (ap held n.after
      ∙ each s n.bytes n.kind (items_between sec m 0 p) n.admits (so_far p (omega arith))
      ∙ ap told (sym (more m a p (omega arith) n sec 0 (omega arith))))

  pub told_so : held (state m) ≡ told (items_of sec m)
  told_so = sym (ap (λ l. held (state l)) (take_all (length m) m (omega arith))) ∙ so_far (length m) (omega arith)

-- a table of the module
table_told : (t : Table) (w : SlotTable) → module_table t ≡ Some w → module_items t start ≡ [] → (m : List Record) → Accepted start m → items_of (Numbered w) m ≡ module_items t (state m)
table_told t w e none m a =
    sym (told_so (module_items t) (λ xs. xs) (Numbered w)
    (λ s r k xs ad f. (home_step s r k ad home.Module t false tt).items ∙ ap (λ o. grown (among o (table_of s k)) (module_items t s) (item_of s r)) e ∙ ap (λ l. grown (wanted (Numbered w) s.opened k) l (item_of s r)) f)
    none m a)

-- the tables of a module, and not those of a body
abbrev pub of_module : SlotTable → Bool
of_module table.Unnumbered = false
of_module table.Taken = false
of_module table.LocalVariables = false
of_module table.LocalExpressions = false
of_module t = true

-- the items by their places are those of the state; of a function and an entry point, open or not, the record that opened it
pub table_is : (t : SlotTable) → of_module t ≡ true → (m : List Record) → Accepted start m → items_of (Numbered t) m ≡ items t (state m)
table_is table.Types h = table_told handles.Types table.Types refl refl
table_is table.Overrides h = table_told handles.Overrides table.Overrides refl refl
table_is table.Constants h = table_told handles.Constants table.Constants refl refl
table_is table.GlobalVariables h = table_told handles.GlobalVariables table.GlobalVariables refl refl
table_is table.Filters h = table_told handles.Filters table.Filters refl refl
table_is table.Expressions h = table_told handles.Expressions table.Expressions refl refl
table_is table.Functions h = table_told handles.Functions table.Functions refl refl
table_is table.EntryPoints h = table_told handles.EntryPoints table.EntryPoints refl refl
table_is t h = absurd cc

-- of the lists that no table numbers
pub special_told : (m : List Record) → Accepted start m → (state m).built.special ≡ last_of (items_of (Kinds 6 6) m)
special_told = told_so (λ s. s.built.special) last_of (Kinds 6 6) (λ s r k xs ad e. ap (λ u. u.0) (unnumbered_at s.built s.body (item_of s r) k s.opened) ∙ ap (λ o. later (wanted (Kinds 6 6) s.opened k) o (item_of s r)) e ∙ sym (last_grown (wanted (Kinds 6 6) s.opened k) xs (item_of s r))) refl

pub predeclared_told : (m : List Record) → Accepted start m → (state m).built.predeclared ≡ items_of (Kinds 7 7) m
predeclared_told = told_so (λ s. s.built.predeclared) (λ xs. xs) (Kinds 7 7) (λ s r k xs ad e. ap (λ u. u.1) (unnumbered_at s.built s.body (item_of s r) k s.opened) ∙ ap (λ l. grown (wanted (Kinds 7 7) s.opened k) l (item_of s r)) e) refl

leaf_told : (m : List Record) → Accepted start m → (state m).built.leaf ≡ last_of (items_of (Kinds 9 9) m)
leaf_told = told_so (λ s. s.built.leaf) last_of (Kinds 9 9) (λ s r k xs ad e. ap (λ u. u.2) (unnumbered_at s.built s.body (item_of s r) k s.opened) ∙ ap (λ o. later (wanted (Kinds 9 9) s.opened k) o (item_of s r)) e ∙ sym (last_grown (wanted (Kinds 9 9) s.opened k) xs (item_of s r))) refl

-- the bodies of one kind, where those that have ended stay
functions_same : (o : Option BodyKind) (m m' : Module) (b : Body) → m'.functions ≡ m.functions → functions_now o m' b ≡ functions_now o m b
functions_same None m m' b e = e
functions_same (Some body_kind.Function) m m' b e = ap (λ l. l ++ b ∷ []) e
functions_same (Some body_kind.EntryPoint) m m' b e = e

entries_same : (o : Option BodyKind) (m m' : Module) (b : Body) → m'.entries ≡ m.entries → entries_now o m' b ≡ entries_now o m b
entries_same None m m' b e = e
entries_same (Some body_kind.Function) m m' b e = e
entries_same (Some body_kind.EntryPoint) m m' b e = ap (λ l. l ++ b ∷ []) e

-- and where one begins
module _ (f : Item → Body) (m : Module) (xs : List Item) (i : Item) where
  functions_begun : (x : BodyKind) → m.functions ≡ map f xs → functions_now (Some x) m (f i) ≡ map f (grown (is_function x) xs i)
  functions_begun body_kind.Function e = ap (λ l. l ++ f i ∷ []) e ∙ sym (map_push f xs i)
  functions_begun body_kind.EntryPoint e = e

  entries_begun : (x : BodyKind) → m.entries ≡ map f xs → entries_now (Some x) m (f i) ≡ map f (grown (not (is_function x)) xs i)
  entries_begun body_kind.Function e = e
  entries_begun body_kind.EntryPoint e = ap (λ l. l ++ f i ∷ []) e ∙ sym (map_push f xs i)

-- the record of a kind that ends a body, and no other, ends one
pub ends_is : (r : Record) (k : Kind) → judged r ≡ Ok k → ends r ≡ finishes k
ends_is r k e = ap ends (starts_so k r e).1

-- what stands in the open body before a place
record Inside (m : List Record) (p : ℕ) (s : State) (i : Item) : Type 0 where
  before : i.place < p
  body : s.body ≡ body_with i (λ sec. items_between sec m (suc i.place) p)
  runs : (q : ℕ) → i.place < q → q < p → ends (get_or m q []) ≡ false

-- the bodies before a place, the open one as if it had ended
record Bodies (m : List Record) (p : ℕ) (s : State) : Type 0 where
  opener : Item
  functions : functions_now s.opened s.built (body_of m opener) ≡ map (body_of m) (items_between (Numbered table.Functions) m 0 p)
  entries : entries_now s.opened s.built (body_of m opener) ≡ map (body_of m) (items_between (Numbered table.EntryPoints) m 0 p)
  inside : (x : BodyKind) → s.opened ≡ Some x → Inside m p s opener

-- the place of the first record that ends a body
ending_is : (m : List Record) (from p : ℕ) → from ≤ p → p < length m → ((q : ℕ) → from ≤ q → q < p → ends (get_or m q []) ≡ false) → ends (get_or m p []) ≡ true → ending_from m from ≡ p
ending_is m from p l h runs stops =
    let test : Record → Bool = λ r. not (ends r) in
    let rest = length-drop from m in
    let e = prefix_len_is test (drop from m) (p - from) [] (omega arith)
    (λ k b. ap test (get_or-drop from m k []) ∙ ap not (runs (from + k) (omega arith) (omega arith)))
    (λ b. let at : from + (p - from) ≡ p = omega arith in ap test (get_or-drop from m (p - from) []) ∙ ap (λ q. test (get_or m q [])) at ∙ ap not stops) in
    ap (λ n. from + n) e ∙ omega arith

module _ (m : List Record) (a : Accepted start m) (p : ℕ) (h : p < length m) (n : Next m p) (w : Bodies m p (state (take p m))) where
  abbrev s : State
  s = state (take p m)

  abbrev s' : State
  s' = stepped n.kind n.bytes s

  abbrev i : Item
  i = item_of s n.bytes

  here : get_or m p [] ≡ n.bytes
  here = get_or_from_slice_get m p n.bytes [] n.has

  ends_here : ends (get_or m p []) ≡ finishes n.kind
  ends_here = ap ends here ∙ ends_is n.bytes n.kind n.admits.kind_is

  -- the items of a table that the record adds
  gains : (t : SlotTable) (b : Bool) → wanted (Numbered t) s.opened n.kind ≡ b → map (body_of m) (items_between (Numbered t) m 0 (p + 1)) ≡ map (body_of m) (grown b (items_between (Numbered t) m 0 p) i)
  gains t b e = ap (map (body_of m)) (more m a p h n (Numbered t) 0 (omega arith) ∙ ap (λ c. grown c (items_between (Numbered t) m 0 p) i) e)

  inside_next : finishes n.kind ≡ false → s'.opened ≡ s.opened → (x : BodyKind) → s.opened ≡ Some x → Inside m (p + 1) s' w.opener
  inside_next f o x e =
      let v = w.inside x e in
      let j = w.opener in
      let b = v.before in
      let list : Section → List Item = λ sec. items_between sec m (suc j.place) p in
      record {
        before = omega arith;
        body =
            ap (λ y. body_after n.kind y i s.body) e
            ∙ ap (body_after n.kind (Some x) i) v.body
            ∙ inner_at i j list x n.kind (subst (λ y. on_side y (manner_of n.kind).side ≡ true) e n.admits.on_its_side) f
            ∙ ap (body_with j) (fun_ext (λ sec. sym (more m a p h n sec (suc j.place) (omega arith) ∙ ap (λ y. grown (wanted sec y n.kind) (list sec) i) e)));
        runs = λ q l u.
            elim (cases_eq q p) [
              | inl is ↦ ap (λ y. ends (get_or m y [])) is ∙ ends_here ∙ f
              | inr other ↦ v.runs q l (omega arith)
            ];
      }

  closed_is : finishes n.kind ≡ true → (x : BodyKind) → s.opened ≡ Some x → closed s.body i ≡ body_of m w.opener
  closed_is f x e =
      let v = w.inside x e in
      let b = v.before in
      let ending : option_map (item_at m p) (slice_get m p) ≡ Some i = ap (option_map (item_at m p)) n.has ∙ ap Some (sym (item_is (Numbered table.Types) m a p (p + 1) n.bytes n.has (omega arith) (omega arith))) in
      let place : ending_from m (suc w.opener.place) ≡ p = ending_is m (suc w.opener.place) p (omega arith) h (λ q l u. v.runs q (omega arith) u) (ends_here ∙ f) in
      ap (λ y. closed y i) v.body
      ∙ ap (λ y. record (body_with w.opener (λ sec. items_between sec m (suc w.opener.place) p)) { ending = y }) (sym ending)
      ∙ ap (body_until m w.opener) (sym place)

  bodies_next : Moves n.kind i s.opened s.built s.body → Bodies m (p + 1) s'
  bodies_next (Moves.stays f o stay opens) = record {
    opener = w.opener;
    functions = ap (λ y. functions_now y s'.built (body_of m w.opener)) o ∙ functions_same s.opened s.built s'.built (body_of m w.opener) stay.0 ∙ w.functions ∙ sym (gains table.Functions false opens.0);
    entries = ap (λ y. entries_now y s'.built (body_of m w.opener)) o ∙ entries_same s.opened s.built s'.built (body_of m w.opener) stay.1 ∙ w.entries ∙ sym (gains table.EntryPoints false opens.1);
    inside = λ x e. inside_next f o x (sym o ∙ e);
  }
  bodies_next (Moves.begins x none o stay opens b) =
      let place : i.place ≡ p = kept_at m p a (omega arith) in
      record {
        opener = i;
        functions = ap (λ y. functions_now y s'.built (body_of m i)) o ∙ functions_begun (body_of m) s'.built (items_between (Numbered table.Functions) m 0 p) i x (stay.0 ∙ sym (ap (λ y. functions_now y s.built (body_of m w.opener)) none) ∙ w.functions) ∙ sym (gains table.Functions (is_function x) opens.0);
        entries = ap (λ y. entries_now y s'.built (body_of m i)) o ∙ entries_begun (body_of m) s'.built (items_between (Numbered table.EntryPoints) m 0 p) i x (stay.1 ∙ sym (ap (λ y. entries_now y s.built (body_of m w.opener)) none) ∙ w.entries) ∙ sym (gains table.EntryPoints (not (is_function x)) opens.1);
        inside = λ y e. record {
          before = omega arith;
          body = b ∙ ap (body_with i) (fun_ext (λ sec. sym (none_between sec m (suc i.place) (p + 1) (omega arith))));
          runs = λ q l u. absurd (omega arith);
        };
      }
  bodies_next (Moves.ends x f e o functions entries opens) =
      let whole = closed_is f x e in
      record {
        opener = w.opener;
        functions = ap (λ y. functions_now y s'.built (body_of m w.opener)) o ∙ functions ∙ ap (functions_now s.opened s.built) whole ∙ w.functions ∙ sym (gains table.Functions false opens.0);
        entries = ap (λ y. entries_now y s'.built (body_of m w.opener)) o ∙ entries ∙ ap (entries_now s.opened s.built) whole ∙ w.entries ∙ sym (gains table.EntryPoints false opens.1);
        inside = λ y u. let no : ◌≡◌ {A = Option BodyKind} None (Some y) = sym o ∙ u in absurd cc;
      }

module _ (m : List Record) (a : Accepted start m) where
  bodies_at : (p : ℕ) → p ≤ length m → Bodies m p (state (take p m))
  unfolding state
  bodies_at zero l = record {
    opener = record { place = 0; bytes = []; taken = [] };
    functions = sym (ap (map (body_of m)) (none_between (Numbered table.Functions) m 0 0 (omega arith)));
    entries = sym (ap (map (body_of m)) (none_between (Numbered table.EntryPoints) m 0 0 (omega arith)));
    inside = λ x e. absurd cc;
  }
  bodies_at (suc p) l =
      let n = next_at m a p (omega arith) in
      let w = bodies_at p (omega arith) in
      let s = state (take p m) in
      let on : p + 1 ≡ suc p = omega arith in
      let next = bodies_next m a p (omega arith) n w (moves_at s.built s.body (item_of s n.bytes) n.kind s.opened n.admits.on_its_side) in
      subst (λ q. Bodies m q (state (take q m))) on (subst (Bodies m (p + 1)) (sym n.after) next)

  bodies_so : Bodies m (length m) (state m)
  bodies_so = subst (λ l. Bodies m (length m) (state l)) (take_all (length m) m (omega arith)) (bodies_at (length m) (omega arith))

  -- where no body is open, the module so far is that of the places
  pub module_is : (state m).opened ≡ None → (state m).built ≡ module_of m
  module_is none =
      let w = bodies_so in
      let types = sym (table_is table.Types refl m a) in
      let overrides = sym (table_is table.Overrides refl m a) in
      let constants = sym (table_is table.Constants refl m a) in
      let globals = sym (table_is table.GlobalVariables refl m a) in
      let special = special_told m a in
      let predeclared = predeclared_told m a in
      let filters = sym (table_is table.Filters refl m a) in
      let leaf = leaf_told m a in
      let expressions = sym (table_is table.Expressions refl m a) in
      let functions = sym (ap (λ y. functions_now y (state m).built (body_of m w.opener)) none) ∙ w.functions in
      let entries = sym (ap (λ y. entries_now y (state m).built (body_of m w.opener)) none) ∙ w.entries in
      λ j. record {
        types = types j;
        overrides = overrides j;
        constants = constants j;
        globals = globals j;
        special = special j;
        predeclared = predeclared j;
        filters = filters j;
        leaf = leaf j;
        expressions = expressions j;
        functions = functions j;
        entries = entries j;
      }
