-- Every handle of a kept record is inside, in the body in which the record stands.
use Rattle.std.proofs.Common.{◌≡◌, ℕ, suc, ◌-◌, ◌<◌, ◌≤◌, ◌⊎◌, true, List, [], ◌∷◌, ◌++◌, length, take, slice_get, flat_map, Some, None, Ok, Option, sym, refl, ap, ◌∙◌, subst, inl, inr, arith}
use Rattle.std.specs.List.{AllByRecursion, enumerate_from}
use Rattle.std.specs.Option.{option_to_list, option_map, is_none}
use Rattle.std.proofs.ByRecursion.{All-append, All-weaker}
use Rattle.std.proofs.lemmas.Bool.{cases_lt}
use Rattle.std.proofs.lemmas.List.{take_all}
use Rattle.std.proofs.lemmas.Option.{same_Some, get_or_from_slice_get}
use Rattle.ir.specs.declared.kinds.Kind.{Kind}
use Rattle.ir.specs.declared.kinds.Kind.TheVariants as kind
use Rattle.ir.specs.declared.kinds.Expression.{Expression}
use Rattle.records.specs.Handles.{handles_of}
use Rattle.records.specs.Record.{judged}
use Rattle.rules.specs.declared.sizes.Sizes.{Sizes}
use Rattle.rules.specs.Module.{Record, Item, Body, Module}
use Rattle.rules.specs.Sizes.{sizes, sizes_in}
use Rattle.draft.specs.declared.state.BodyKind.{BodyKind}
use Rattle.draft.specs.declared.state.Pieces.{Pieces}
use Rattle.draft.specs.declared.state.SlotTable.TheVariants as table
use Rattle.draft.specs.declared.manner.Side.TheVariants as side
use Rattle.draft.specs.Manner.{manner_of}
use Rattle.draft.specs.State.{State, start, state, functions_now, entries_now}
use Rattle.draft.specs.Admitted.{Accepted}
use Rattle.laws.specs.Decoded.{Entry, entries_of, entries_of_any, items_entries, body_entries, bodies, Replaced}
use Rattle.items.specs.declared.section.Section.{Section}
use Rattle.items.specs.declared.section.Section.TheVariants.{Numbered, Kinds}
use Rattle.items.specs.Sections.{selects}
use Rattle.items.specs.Between.{item_at, items_between}
use Rattle.items.specs.Whole.{items_of, ends, ending_from, body_of, module_of}
use Rattle.items.proofs.Between.{front}
use Rattle.items.proofs.Places.{wanted, wanted_is, next_at}
use Rattle.items.proofs.Whole.{module_is}
use Rattle.row.specs.Row.{Has}
use Rattle.row.proofs.Places.{In, in_from_has, has_from_in, in_left, in_either}
use Rattle.sealing.specs.Seal.{seal_of}
use Rattle.sealing.proofs.Kinded.{last_has}
use Rattle.promises.specs.Inside.{IsInside, ItemInside, ItemsInside, BodyInside, ModuleInside}
use Rattle.promises.specs.Kept.{StandsIn, RecordInside, SealedKept}
use Rattle.promises.proofs.Handles.{handles_are}
use Rattle.promises.proofs.Made.{PiecesAre, Made, reached, made, AType, AnExpression, ModuleMade, module_made}
use Rattle.promises.proofs.Passed.{sealed_draft}
use Rattle.promises.proofs.Inside.{module_inside}
use Rattle.promises.proofs.Among.{in_all, from_flat}
use Rattle.promises.proofs.Opened.{ends_kind, ends_there, Placed, does, opener_is, open_in, placed_between, since, few_taken, selected_between}
use Rattle.promises.proofs.Standing.{stands, all_in_item, place_in_item}
use Rattle.promises.proofs.Bodies.{placed_all, closed_before, BodyAt, from_up_to, stands_open, bodies_are}

module _ (m : List Record) (a : Accepted start m) where
  abbrev before : ℕ → State
  before p = state (take p m)

  -- an item that stands outside of all bodies
  abbrev Outer : Item → Type 0
  Outer i = Placed m i × ((before i.place).opened ≡ None)

  -- a record that stands in the module: what its handles name, and where it stands
  pub record Found (M : Module) (e : Entry) : Type 0 where
    pub inside : RecordInside M e.0 e.1
    pub place : ((before e.0).opened ≡ None) ⊎ ((b : Body) × Has (M.functions ++ M.entries) b × StandsIn b e.0)

  -- the items of a kind that stands outside only
  outer_items : (k : Kind) → (manner_of k).side ≡ side.Outside → (items : List Item) → AllByRecursion (Placed m) items → AllByRecursion (Made k) items → AllByRecursion Outer items
  outer_items k s [] w h = tt
  outer_items k s (i ∷ items) w h = ((w.0, closed_before m a k i s w.0 h.0), outer_items k s items w.1 h.1)

  outer_types : (items : List Item) → AllByRecursion (Placed m) items → AllByRecursion AType items → AllByRecursion Outer items
  outer_types [] w h = tt
  outer_types (i ∷ items) w h = ((w.0, closed_before m a (kind.Type h.0.0) i refl w.0 h.0.1), outer_types items w.1 h.1)

  -- a global expression comes where no body is open
  global_only : (o : Option BodyKind) (y : Expression) → wanted (Numbered table.Expressions) o (kind.Expression y) ≡ true → o ≡ None
  global_only None y e = refl
  global_only (Some x) y e = absurd cc

  outer_expressions : (items : List Item) → AllByRecursion (Placed m) items → AllByRecursion AnExpression items → AllByRecursion (λ i. selects (Numbered table.Expressions) (before i.place) i.bytes ≡ true) items → AllByRecursion Outer items
  outer_expressions [] w h s = tt
  outer_expressions (i ∷ items) w ((y, h), hs) s = (
    (w.0, global_only (before i.place).opened y (sym (wanted_is (Numbered table.Expressions) (before i.place) i.bytes (kind.Expression y) h.kind_is) ∙ s.0)),
    outer_expressions items w.1 hs s.1,
  )

  module _ (closed : (state m).opened ≡ None) (M : Module) (at : AllByRecursion (BodyAt m a) (M.functions ++ M.entries)) where
    abbrev all_bodies : List Body
    all_bodies = M.functions ++ M.entries

    -- every body ends
    ended : (b : Body) (t : BodyAt m a b) → ending_from m (suc t.item.place) < length m
    ended b t =
        let to = ending_from m (suc t.item.place) in
        elim (cases_lt to (length m)) [
          | inl l ↦ l
          | inr l ↦
              let o = open_in m a t.kind_of_body t.item (length m) t.opens t.placed.0 l (omega arith) in
              let e : ◌≡◌ {A = Option BodyKind} None (Some t.kind_of_body) = sym closed ∙ ap (λ x. (state x).opened) (sym (take_all (length m) m (omega arith))) ∙ o.opened in
              absurd cc
        ]

    -- what an item outside of all bodies holds
    outer_entry : (items : List Item) → ItemsInside (sizes M) items → AllByRecursion Outer items → (e : Entry) → In (items_entries items) e → Found M e
    outer_entry items inside outer e h =
        let i = from_flat entries_of items e h in
        let w = in_all Outer items i.0 outer i.1 in
        let place = place_in_item i.0 e (few_taken m a i.0 w.0) i.2 in
        let q = since m a i.0 e.0 w.0 place.1 place.0 in
        record {
          inside = record {
            within = λ b has s.
                let t = in_all (BodyAt m a) all_bodies b at (in_from_has all_bodies b has) in
                let o = stands_open m a b t e.0 s in
                let no : ◌≡◌ {A = Option BodyKind} None (Some t.kind_of_body) = sym w.1 ∙ sym q.0 ∙ o.opened in
                absurd cc;
            outside = λ none. all_in_item (IsInside (sizes M)) i.0 e i.2 (in_all (ItemInside (sizes M)) items i.0 inside i.1);
          };
          place = inl (q.0 ∙ w.1);
        }

    -- an item that stands in a body
    abbrev Inner : Item → Item → Type 0
    Inner j i = (j.place < i.place) × (i.place ≤ ending_from m (suc j.place)) × Placed m i

    module _ (b : Body) (has : In all_bodies b) (t : BodyAt m a b) where
      abbrev j : Item
      j = t.item

      inner_entry : (items : List Item) → ItemsInside (sizes_in (sizes M) b) items → AllByRecursion (Inner j) items → (e : Entry) → In (items_entries items) e → Found M e
      inner_entry items inside inner e h =
          let i = from_flat entries_of items e h in
          let w = in_all (Inner j) items i.0 inner i.1 in
          let to = ending_from m (suc j.place) in
          let place = place_in_item i.0 e (few_taken m a i.0 w.2) i.2 in
          let low = place.0 in
          let high = place.1 in
          let first = w.0 in
          let last = w.1 in
          let ends = ended b t in
          let o = open_in m a t.kind_of_body j i.0.place t.opens w.0 w.1 (omega arith) in
          let q = since m a i.0 e.0 w.2 high low in
          let behind : j.place < e.0 = elim (cases_lt j.place e.0) [
            | inl l ↦ l
            | inr l ↦
                let z = since m a i.0 j.place w.2 (omega arith) (omega arith) in
                let no : ◌≡◌ {A = Option BodyKind} None (Some t.kind_of_body) = sym t.before_it ∙ z.0 ∙ o.opened in
                absurd cc
          ] in
          let stands_there : StandsIn b e.0 = subst (λ y. StandsIn y e.0) (sym t.is) (behind, from_up_to m a to e.0 (slice_get m to) refl ends (omega arith)) in
          let handles_inside = all_in_item (IsInside (sizes_in (sizes M) b)) i.0 e i.2 (in_all (ItemInside (sizes_in (sizes M) b)) items i.0 inside i.1) in
          record {
            inside = record {
              within = λ c has_c s.
                  let u = in_all (BodyAt m a) all_bodies c at (in_from_has all_bodies c has_c) in
                  let v = stands_open m a c u e.0 s in
                  let same : j ≡ u.item = sym o.opener ∙ sym q.1 ∙ v.opener in
                  let bodies_same : b ≡ c = t.is ∙ ap (body_of m) same ∙ sym u.is in
                  subst (λ y. AllByRecursion (IsInside (sizes_in (sizes M) y)) (handles_of e.1)) bodies_same handles_inside;
              outside = λ none. absurd (none b (has_from_in all_bodies b has) stands_there);
            };
            place = inr (b, has_from_in all_bodies b has, stands_there);
          }

    any_items : (o : Option Item) (e : Entry) → In (entries_of_any o) e → In (items_entries (option_to_list o)) e
    any_items None e h = h
    any_items (Some i) e h = in_left (entries_of i) [] e h

    -- what stands in a body, its first and its last record included
    module _ (j : Item) (has : In all_bodies (body_of m j)) (t : (BodyAt m a) (body_of m j)) (same_item : t.item ≡ j) (inside : BodyInside (sizes M) (body_of m j)) where
      abbrev to : ℕ
      to = ending_from m (suc j.place)

      abbrev b : Body
      b = body_of m j

      abbrev in_body : Sizes
      in_body = sizes_in (sizes M) b

      to_within : to < length m
      to_within = subst (λ i. ending_from m (suc i.place) < length m) same_item (ended b t)

      inner_items : (sec : Section) → AllByRecursion (Inner t.item) (items_between sec m (suc j.place) to)
      inner_items sec =
          let l = to_within in
          All-weaker (λ i. (suc j.place ≤ i.place) × (i.place < to) × Placed m i) (Inner t.item)
          (λ i h. subst (λ k. Inner k i) (sym same_item) (let x = h.0 in omega arith, let y = h.1 in omega arith, h.2))
          (items_between sec m (suc j.place) to) (placed_between m a sec (suc j.place) to (omega arith))

      inner_of : (items : List Item) → ItemsInside in_body items → AllByRecursion (Inner t.item) items → (e : Entry) → In (items_entries items) e → Found M e
      inner_of = inner_entry b has t

      module _ (r : Record) (at_end : slice_get m to ≡ Some r) where
        abbrev last : Item
        last = item_at m to r

        last_placed : Placed m last
        last_placed = (to_within, at_end, refl)

        last_kind : judged r ≡ Ok kind.EndFunction
        last_kind =
            let n = next_at m a to to_within in
            let same : n.bytes ≡ r = same_Some n.bytes r (sym n.has ∙ at_end) in
            let e = ends_there m (suc j.place) to refl to_within in
            ends_kind r n.kind (ap judged (sym same) ∙ n.admits.kind_is) (ap ends (sym (get_or_from_slice_get m to r [] at_end)) ∙ e)

        last_inside : ItemInside in_body last
        last_inside =
            let d = does m a last kind.EndFunction last_placed last_kind in
            let w = made (before to) r kind.EndFunction d.0 (reached (take to m) (front m to a)) refl in
            let none : last.taken ≡ [] = ap (λ i. i.taken) (sym (opener_is m a last last_placed)) ∙ w.taken in
            All-append (IsInside in_body) (handles_of r) (flat_map handles_of last.taken)
            (subst (AllByRecursion (IsInside in_body)) (sym (handles_are r kind.EndFunction last_kind)) tt)
            (subst (λ ts. AllByRecursion (IsInside in_body) (flat_map handles_of ts)) (sym none) tt)

      ending_entry : (o : Option Record) → slice_get m to ≡ o → (e : Entry) → In (entries_of_any (option_map (item_at m to) o)) e → Found M e
      ending_entry None q e h = absurd h
      ending_entry (Some r) q e h =
          let later : j.place < to = omega arith in
          inner_of (last r q ∷ []) (last_inside r q, tt) (subst (λ k. Inner k (last r q)) (sym same_item) (later, omega arith, last_placed r q), tt) e (in_left (entries_of (last r q)) [] e h)

      body_entry : Outer j → (e : Entry) → In (body_entries b) e → Found M e
      body_entry outer e h =
          elim (in_either (entries_of b.opener) _ e h) [
            | inl g ↦ outer_entry (j ∷ []) (inside.opener, tt) (outer, tt) e (in_left (entries_of j) [] e g)
            | inr h ↦
                elim (in_either (items_entries b.arguments) _ e h) [
                  | inl g ↦ inner_of b.arguments inside.arguments (inner_items (Kinds 13 13)) e g
                  | inr h ↦
                      elim (in_either (entries_of_any b.result) _ e h) [
                        | inl g ↦ inner_of (option_to_list b.result) inside.result (last_has (Inner t.item) (items_between (Kinds 14 14) m (suc j.place) to) (inner_items (Kinds 14 14))) e (any_items b.result e g)
                        | inr h ↦
                            elim (in_either (items_entries b.locals) _ e h) [
                              | inl g ↦ inner_of b.locals inside.locals (inner_items (Numbered table.LocalVariables)) e g
                              | inr h ↦
                                  elim (in_either (items_entries b.named) _ e h) [
                                    | inl g ↦ inner_of b.named inside.named (inner_items (Kinds 30 30)) e g
                                    | inr h ↦
                                        elim (in_either (items_entries b.expressions) _ e h) [
                                          | inl g ↦ inner_of b.expressions inside.expressions (inner_items (Numbered table.LocalExpressions)) e g
                                          | inr h ↦
                                              elim (in_either (items_entries b.statements) (entries_of_any b.ending) e h) [
                                                | inl g ↦ inner_of b.statements inside.statements (inner_items (Kinds 128 154)) e g
                                                | inr h ↦ ending_entry (slice_get m to) refl e h
                                              ]
                                        ]
                                  ]
                            ]
                      ]
                ]
          ]

    -- of any body
    any_body : (b : Body) → In all_bodies b → BodyInside (sizes M) b → (e : Entry) → In (body_entries b) e → Found M e
    any_body b has inside e h =
        let t = in_all (BodyAt m a) all_bodies b at has in
        let moved : (BodyAt m a) (body_of m t.item) = record { item = t.item; is = refl; placed = t.placed; kind_of_body = t.kind_of_body; opens = t.opens; before_it = t.before_it } in
        body_entry t.item (subst (In all_bodies) t.is has) moved refl (subst (BodyInside (sizes M)) t.is inside) (t.placed, t.before_it) e (subst (λ y. In (body_entries y) e) t.is h)

  -- what stands in the module that the places make
  module _ (closed : (state m).opened ≡ None) (inside : ModuleInside (module_of m)) where
    abbrev M : Module
    M = module_of m

    w : ModuleMade M
    w = module_made m a

    outer_of : (items : List Item) → ItemsInside (sizes M) items → AllByRecursion Outer items → (e : Entry) → In (items_entries items) e → Found M e
    outer_of = outer_entry closed M (bodies_are m a)

    abbrev in_module : Module → List Body → List Entry → List Entry
    in_module x bs ws =
        items_entries x.types ++ (items_entries x.overrides ++ (items_entries x.constants
        ++ (items_entries x.globals ++ (entries_of_any x.special ++ (items_entries x.predeclared
        ++ (items_entries x.filters ++ (entries_of_any x.leaf ++ (items_entries x.expressions
        ++ (flat_map body_entries bs ++ ws)))))))))

    module_entry : (e : Entry) → In (in_module M (M.functions ++ M.entries) []) e → Found M e
    module_entry e h =
        elim (in_either (items_entries M.types) _ e h) [
          | inl g ↦ outer_of M.types inside.types (outer_types M.types (placed_all m a (Numbered table.Types)) w.types) e g
          | inr h ↦
              elim (in_either (items_entries M.overrides) _ e h) [
                | inl g ↦ outer_of M.overrides inside.overrides (outer_items kind.Override refl M.overrides (placed_all m a (Numbered table.Overrides)) w.overrides) e g
                | inr h ↦
                    elim (in_either (items_entries M.constants) _ e h) [
                      | inl g ↦ outer_of M.constants inside.constants (outer_items kind.Constant refl M.constants (placed_all m a (Numbered table.Constants)) w.constants) e g
                      | inr h ↦
                          elim (in_either (items_entries M.globals) _ e h) [
                            | inl g ↦ outer_of M.globals inside.globals (outer_items kind.GlobalVariable refl M.globals (placed_all m a (Numbered table.GlobalVariables)) w.globals) e g
                            | inr h ↦
                                elim (in_either (entries_of_any M.special) _ e h) [
                                  | inl g ↦ outer_of (option_to_list M.special) inside.special (outer_items kind.SpecialTypes refl (option_to_list M.special) (last_has (Placed m) (items_of (Kinds 6 6) m) (placed_all m a (Kinds 6 6))) w.special) e (any_items closed M (bodies_are m a) M.special e g)
                                  | inr h ↦
                                      elim (in_either (items_entries M.predeclared) _ e h) [
                                        | inl g ↦ outer_of M.predeclared inside.predeclared (outer_items kind.Predeclared refl M.predeclared (placed_all m a (Kinds 7 7)) w.predeclared) e g
                                        | inr h ↦
                                            elim (in_either (items_entries M.filters) _ e h) [
                                              | inl g ↦ outer_of M.filters inside.filters (outer_items kind.Filter refl M.filters (placed_all m a (Numbered table.Filters)) w.filters) e g
                                              | inr h ↦
                                                  elim (in_either (entries_of_any M.leaf) _ e h) [
                                                    | inl g ↦ outer_of (option_to_list M.leaf) inside.leaf (outer_items kind.Leaf refl (option_to_list M.leaf) (last_has (Placed m) (items_of (Kinds 9 9) m) (placed_all m a (Kinds 9 9))) w.leaf) e (any_items closed M (bodies_are m a) M.leaf e g)
                                                    | inr h ↦
                                                        elim (in_either (items_entries M.expressions) _ e h) [
                                                          | inl g ↦ outer_of M.expressions inside.expressions (outer_expressions M.expressions (placed_all m a (Numbered table.Expressions)) w.expressions (selected_between m a (Numbered table.Expressions) (length m) 0 (length m) (omega arith) (omega arith))) e g
                                                          | inr h ↦
                                                              elim (in_either (flat_map body_entries (M.functions ++ M.entries)) [] e h) [
                                                                | inl g ↦
                                                                    let b = from_flat body_entries (M.functions ++ M.entries) e g in
                                                                    let both = All-append (BodyInside (sizes M)) M.functions M.entries inside.functions inside.entries in
                                                                    any_body closed M (bodies_are m a) b.0 b.1 (in_all (BodyInside (sizes M)) (M.functions ++ M.entries) b.0 both b.1) e b.2
                                                                | inr g ↦ absurd g
                                                              ]
                                                        ]
                                                  ]
                                            ]
                                      ]
                                ]
                          ]
                    ]
              ]
        ]

-- nothing waits, and no body is open
none_waiting : (s : State) → is_none s.waits ≡ true → PiecesAre s.waits s.waiting → s.waiting ≡ []
none_waiting s e p = go s.waits e p
  where
    go : (o : Option Pieces) → is_none o ≡ true → PiecesAre o s.waiting → s.waiting ≡ []
    go None e p = p
    go (Some x) e p = absurd cc

no_entries : (n : ℕ) (ws : List Record) → ws ≡ [] → enumerate_from (n - length ws) ws ≡ []
no_entries n ws e = ap (λ l. enumerate_from (n - length l) l) e

-- a kept record stands in the module, or a later one replaced it
pub found : (m : List Record) (a : Accepted start m) → seal_of (state m) ≡ None → (p : ℕ) (r : Record) → slice_get m p ≡ Some r → Found m a (module_of m) (p, r) ⊎ Replaced (state m) (p, r)
found m a e p r h =
    let d = sealed_draft m a e in
    let s = state m in
    let is = module_is m a d.closed in
    let inside = subst ModuleInside is (module_inside s.built d.made d.passed) in
    elim (stands m a p r h) [
      | inl g ↦
          let ws = no_entries s.kept s.waiting (none_waiting s d.idle (reached m a)) in
          let bs : bodies s ≡ s.built.functions ++ s.built.entries = ap (λ o. functions_now o s.built s.body ++ entries_now o s.built s.body) d.closed in
          let all = in_module m a d.closed inside in
          let g1 = subst (λ y. In (all s.built (bodies s) y) (p, r)) ws g in
          let g2 = subst (λ y. In (all s.built y []) (p, r)) bs g1 in
          let g3 = subst (λ y. In (all y (y.functions ++ y.entries) []) (p, r)) is g2 in
          inl (module_entry m a d.closed inside (p, r) g3)
      | inr g ↦ inr g
    ]

pub sealed_kept : SealedKept
sealed_kept m a e p r h =
    let d = sealed_draft m a e in
    elim (found m a e p r h) [
      | inl f ↦ inr (subst (λ y. RecordInside y p r) (sym (module_is m a d.closed)) f.inside)
      | inr g ↦ inl g
    ]
