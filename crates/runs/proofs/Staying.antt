-- The law over lists of puts, from three cases of put and from what one record more does.
use Rattle.std.proofs.Common.{◌≡◌, ℕ, ◌+◌, ◌-◌, List, [], ◌∷◌, ◌++◌, length, take, is_ok, Some, None, Ok, Err, Option, Result, sym, refl, ap, ◌∙◌, subst, ⊎_elim, arith}
use Rattle.std.specs.List.{slice_get}
use Rattle.std.proofs.lemmas.Bool.{cond-true, cond-false, cases_Bool}
use Rattle.ir.specs.declared.handle.Handle.{Handle}
use Rattle.ir.specs.declared.handle.Handle.TheVariants as handle
use Rattle.ir.specs.declared.handle.Table.{Table}
use Rattle.ir.specs.declared.handle.Table.TheVariants as handles
use Rattle.ir.specs.declared.kinds.Kind.{Kind}
use Rattle.ir.specs.Handle.{TypeHandle, numbered, index_of, table_of as handle_table}
use Rattle.rules.specs.Module.{Record}
use Rattle.draft.specs.declared.refusal.Refusal.{Refusal}
use Rattle.draft.specs.declared.refusal.Refusal.TheVariants.{Full}
use Rattle.draft.specs.declared.state.BodyKind.{BodyKind}
use Rattle.draft.specs.declared.state.BodyKind.TheVariants as body_kind
use Rattle.draft.specs.declared.state.SlotTable.{SlotTable}
use Rattle.draft.specs.declared.state.SlotTable.TheVariants as table
use Rattle.draft.specs.Manner.{manner_of}
use Rattle.draft.specs.State.{State, start, stepped, state, item_of, number_of_next, table_in, table_of}
use Rattle.draft.specs.Admitted.{admitted, Accepted}
use Rattle.draft.proofs.Stepping.{admits, step_is, state_push, accepted_more, accepted_front}
use Rattle.draft.proofs.Fronts.{fronted_so, front_is, bare}
use Rattle.arena.specs.declared.view.Home.{Home}
use Rattle.arena.specs.declared.view.Home.TheVariants as home
use Rattle.arena.specs.Answer.{Answer, answered, answer_number}
use Rattle.arena.specs.Put.{known_from, known, fits, added, put_def}
use Rattle.arena.specs.Viewing.{items_in}
use Rattle.arena.proofs.Tables.{is_or_other}
use Rattle.arena.proofs.Putting.{put_refused, put_type, put_new, put_other}
use Rattle.arena.proofs.Blocks.{equal_parts, equal_from}
use Rattle.runs.specs.Homes.{home_in, home_of}
use Rattle.runs.specs.Runs.{put_kept, run, Numbered, Names, NumbersStay}
use Rattle.runs.proofs.Keeping.{Keeps, keeps_same}
use Rattle.runs.proofs.Growing.{step_keeps, answer_table, home_has}
use Rattle.runs.proofs.Knowing.{known_stays, known_next, known_names, known_like}

-- the number of a handle is the one that was answered
answered_index : (t : SlotTable) (n : ℕ) (h : Handle) → answered t n ≡ Some h → n ≡ index_of h
answered_index table.Unnumbered n h e = absurd cc
answered_index table.Taken n h e = absurd cc
answered_index t n h e = ap answer_number e

-- only of the types is a type's handle
answered_type : (o : Option BodyKind) (t : SlotTable) (n : ℕ) (h : TypeHandle) → answered (table_in o t) n ≡ Some (handle.Type h) → t ≡ table.Types
answered_type o table.Types n h e = refl
answered_type (Some body_kind.Function) table.Expressions n h e = absurd cc
answered_type o t n h e = absurd cc

-- what waits is in no table
bare_items : (s : State) (front : List Record) (h : Home) (t : Table) → items_in h t (bare s front) ≡ items_in h t s
bare_items s front home.Module handles.Types = refl
bare_items s front h t = refl

-- these records are accepted too, and every table keeps its items
record RunOn (m m' : List Record) : Type 0 where
  accepted : Accepted start m'
  keeps : (h : Home) (t : Table) → Keeps (items_in h t (state m)) (items_in h t (state m'))

same_on : (m m' : List Record) → Accepted start m → m' ≡ m → RunOn m m'
same_on m m' a e = record { accepted = subst (Accepted start) (sym e) a; keeps = λ h t. rw e (keeps_same (items_in h t (state m))) }

front_on : (m m' : List Record) → Accepted start m → m' ≡ take (length m - length (state m).waiting) m → RunOn m m'
front_on m m' a e =
    let f = fronted_so m a in
    let is : m' ≡ f.front = e ∙ front_is m (state m) f in
    let now : bare (state m) f.front ≡ state m' = sym (ap state is ∙ f.before) in
    record {
      accepted = subst (Accepted start) (sym is) (accepted_front start f.front (state m).waiting (subst (Accepted start) (sym f.parts) a));
      keeps = λ h t. subst (Keeps (items_in h t (state m))) (sym (bare_items (state m) f.front h t) ∙ ap (items_in h t) now) (keeps_same (items_in h t (state m)));
    }

state_more : (m m' : List Record) (r : Record) (k : Kind) → admitted (state m) r ≡ Ok k → m' ≡ m ++ r ∷ [] → state m' ≡ stepped k r (state m)
state_more m m' r k ad e = ap state e ∙ state_push m r ∙ step_is (state m) r k (admits (state m) r k ad).kind_is

more_on : (m m' : List Record) (r : Record) (k : Kind) → Accepted start m → admitted (state m) r ≡ Ok k → m' ≡ m ++ r ∷ [] → RunOn m m'
more_on m m' r k a ad e = record {
  accepted = subst (Accepted start) (sym e) (accepted_more m r a (ap is_ok ad));
  keeps = λ h t. subst (λ s. Keeps (items_in h t (state m)) (items_in h t s)) (sym (state_more m m' r k ad e)) (step_keeps (state m) r k (admits (state m) r k ad) h t);
}

names_later : (h : Home) (t : Table) (m m' : List Record) (n : ℕ) (r : Record) (ws : List Record) → RunOn m m' → Names h t (state m) n r ws → Names h t (state m') n r ws
names_later h t m m' n r ws on x = record { item = x.item; has = on.keeps h t n x.item x.has; bytes_are = x.bytes_are; taken_are = x.taken_are }

-- an equal type has the bytes, and took the same
known_named : (s : State) (r : Record) (n : ℕ) → known s r ≡ Some n → Names home.Module handles.Types s n r s.waiting
known_named s r n kn =
    let q = known_names 0 s.built.types (item_of s r) n kn in
    let place : q.0 ≡ n = let f : n ≡ 0 + q.0 = q.2 in omega arith in
    let parts = equal_parts q.1 (item_of s r) q.4 in
    record { item = q.1; has = ap (slice_get s.built.types) (sym place) ∙ q.3; bytes_are = parts.0; taken_are = parts.1 }

module _ (room places : ℕ) where
  -- put of a record that is admitted finds no room, knows an equal type, or keeps the record
  data PutCase (m : List Record) (r : Record) (k : Kind) : Type 0 where
    refuses : put_def room places m r ≡ (Err Full, m) → PutCase m r k
    knows : (n : ℕ) → (manner_of k).table ≡ table.Types → known (state m) r ≡ Some n → put_def room places m r ≡ (Ok (answered table.Types n), take (length m - length (state m).waiting) m) → PutCase m r k
    keeps : ((manner_of k).table ≡ table.Types → known (state m) r ≡ None) → put_def room places m r ≡ (Ok (answered (table_of (state m) k) (number_of_next (table_of (state m) k) (state m))), m ++ r ∷ []) → PutCase m r k

  module _ (m : List Record) (r : Record) (k : Kind) (ad : admitted (state m) r ≡ Ok k) where
    added_case : ((manner_of k).table ≡ table.Types → known (state m) r ≡ None) → put_def room places m r ≡ added room places m r (table_of (state m) k) → PutCase m r k
    added_case new e =
        ⊎_elim
        (λ free. keeps new (e ∙ cond-true _ _ _ free))
        (λ full. refuses (e ∙ cond-false _ _ _ full))
        (cases_Bool (fits room places (state m) r (table_of (state m) k)))

    typed_case : (manner_of k).table ≡ table.Types → (o : Option ℕ) → known (state m) r ≡ o → PutCase m r k
    typed_case typed (Some n) e = knows n typed e (put_type room places m r k ad typed (Some n) e)
    typed_case typed None e = added_case (λ _. e) (put_new room places m r k ad typed e)

    put_case : PutCase m r k
    put_case = ⊎_elim (λ typed. typed_case typed (known (state m) r) refl) (λ other. added_case (λ typed. absurd (other typed)) (put_other room places m r k ad other)) (is_or_other table.Types (manner_of k).table)

    case_on : Accepted start m → PutCase m r k → RunOn m (put_kept room places m r)
    case_on a (refuses is) = same_on m (put_kept room places m r) a (ap (λ p. p.1) is)
    case_on a (knows n typed kn is) = front_on m (put_kept room places m r) a (ap (λ p. p.1) is)
    case_on a (keeps new is) = more_on m (put_kept room places m r) r k a ad (ap (λ p. p.1) is)

  put_on : (m : List Record) (r : Record) → Accepted start m → RunOn m (put_kept room places m r)
  put_on m r a = go (admitted (state m) r) refl
    where
      go : (f : Result Kind Refusal) → admitted (state m) r ≡ f → RunOn m (put_kept room places m r)
      go (Err e) is = same_on m (put_kept room places m r) a (ap (λ p. p.1) (put_refused room places m r e is))
      go (Ok k) is = case_on m r k is a (put_case m r k is)

  run_on : (m rs : List Record) → Accepted start m → RunOn m (run room places m rs)
  run_on m [] a = same_on m m a refl
  run_on m (r ∷ rs) a =
      let p = put_on m r a in
      let q = run_on (put_kept room places m r) rs p.accepted in
      record { accepted = q.accepted; keeps = λ h t n x e. q.keeps h t n x (p.keeps h t n x e) }

  -- a put that answered an item
  module _ (m : List Record) (r : Record) (k : Kind) (h : Handle) (a : Accepted start m) (x : Numbered room places m r k h) where
    abbrev next : List Record
    next = put_kept room places m r

    abbrev there : Home
    there = home_of (state m) k

    answer_is : (b : Answer) (m' : List Record) → put_def room places m r ≡ (Ok b, m') → b ≡ Some h
    answer_is b m' is = let same : Ok b ≡ Ok (Some h) = sym (ap (λ p. p.0) is) ∙ x.answers in cc

    not_full : {P : Type 0} → put_def room places m r ≡ (Err Full, m) → P
    not_full is = let bad : Err Full ≡ Ok (Some h) = sym (ap (λ p. p.0) is) ∙ x.answers in absurd cc

    case_now : PutCase m r k
    case_now = put_case m r k x.admits

    -- right after put, the number names what was put
    names_case : PutCase m r k → Names there (handle_table h) (state next) (index_of h) r (state m).waiting
    names_case (refuses is) = not_full is
    names_case (knows n typed kn is) =
        let number : n ≡ index_of h = answered_index table.Types n h (answer_is _ _ is) in
        let here : home.Module ≡ there = sym (ap (λ t. home_in (state m) (table_in (state m).opened t)) typed) in
        let first = names_later home.Module handles.Types m next n r (state m).waiting (put_on m r a) (known_named (state m) r n kn) in
        subst (λ o. Names o (handle_table h) (state next) (index_of h) r (state m).waiting) here (subst (λ t. Names home.Module t (state next) (index_of h) r (state m).waiting) (ap answer_table (answer_is _ _ is)) (subst (λ p. Names home.Module handles.Types (state next) p r (state m).waiting) number first))
    names_case (keeps new is) =
        let e = answer_is _ _ is in
        let number : number_of_next (table_of (state m) k) (state m) ≡ index_of h = answered_index _ _ h e in
        record {
          item = item_of (state m) r;
          has = ap (slice_get (items_in there (handle_table h) (state next))) (sym number) ∙ ap (λ s. slice_get (items_in there (handle_table h) s) (number_of_next (table_of (state m) k) (state m))) (state_more m next r k x.admits (ap (λ p. p.1) is)) ∙ home_has (state m) r k (admits (state m) r k x.admits) h e;
          bytes_are = refl;
          taken_are = refl;
        }

    stays_so : (later : List Record) → Names there (handle_table h) (state (run room places next later)) (index_of h) r (state m).waiting
    stays_so later = names_later there (handle_table h) next (run room places next later) (index_of h) r (state m).waiting (run_on next later (put_on m r a).accepted) (names_case case_now)

  -- a put that answered a type
  module _ (m : List Record) (r : Record) (k : Kind) (n : TypeHandle) (a : Accepted start m) (x : Numbered room places m r k (handle.Type n)) where
    typed_so : (manner_of k).table ≡ table.Types
    typed_so = go (case_now m r k (handle.Type n) a x)
      where
        go : PutCase m r k → (manner_of k).table ≡ table.Types
        go (refuses is) = not_full m r k (handle.Type n) a x is
        go (knows o typed kn is) = typed
        go (keeps new is) = answered_type (state m).opened (manner_of k).table _ n (answer_is m r k (handle.Type n) a x _ _ is)

    names_type : (later : List Record) → Names home.Module handles.Types (state (run room places (put_kept room places m r) later)) n.index r (state m).waiting
    names_type later = subst (λ t. Names (home_in (state m) (table_in (state m).opened t)) handles.Types (state (run room places (put_kept room places m r) later)) n.index r (state m).waiting) typed_so (stays_so m r k (handle.Type n) a x later)

    -- right after put, the type is known by that number
    known_after : PutCase m r k → known_from 0 (state (put_kept room places m r)).built.types (item_of (state m) r) ≡ Some n.index
    known_after (refuses is) = not_full m r k (handle.Type n) a x is
    known_after (knows o typed kn is) =
        let number : o ≡ n.index = answered_index table.Types o (handle.Type n) (answer_is m r k (handle.Type n) a x _ _ is) in
        known_stays 0 (state m).built.types (state (put_kept room places m r)).built.types (item_of (state m) r) n.index ((put_on m r a).keeps home.Module handles.Types) (kn ∙ ap Some number)
    known_after (keeps new is) =
        let number : length (state m).built.types ≡ n.index = ap (λ t. number_of_next (table_in (state m).opened t) (state m)) (sym typed_so) ∙ answered_index _ _ (handle.Type n) (answer_is m r k (handle.Type n) a x _ _ is) in
        let it = names_type [] in
        let here : slice_get (state (put_kept room places m r)).built.types (length (state m).built.types) ≡ Some it.item = ap (slice_get (state (put_kept room places m r)).built.types) number ∙ it.has in
        known_next 0 (state m).built.types (state (put_kept room places m r)).built.types it.item (item_of (state m) r) ((put_on m r a).keeps home.Module handles.Types) here (equal_from it.item (item_of (state m) r) it.bytes_are it.taken_are) (new typed_so)
        ∙ (let z : 0 + length (state m).built.types ≡ n.index = omega arith in ap Some z)

    -- a type that is known gets its number
    answers_known : (o : ℕ) → known (state m) r ≡ Some o → PutCase m r k → o ≡ n.index
    answers_known o kn (refuses is) = not_full m r k (handle.Type n) a x is
    answers_known o kn (knows p typed kn' is) =
        let same : Some o ≡ Some p = sym kn ∙ kn' in
        let number : p ≡ n.index = answered_index table.Types p (handle.Type n) (answer_is m r k (handle.Type n) a x _ _ is) in
        cc
    answers_known o kn (keeps new is) = let bad : Some o ≡ None = sym kn ∙ new typed_so in absurd cc

  -- two puts that answered a type each, the one before the other
  module _ (m : List Record) (r : Record) (k : Kind) (n : TypeHandle) (between : List Record) (q : Record) (l : Kind) (o : TypeHandle) (a : Accepted start m) (x : Numbered room places m r k (handle.Type n)) (y : Numbered room places (run room places (put_kept room places m r) between) q l (handle.Type o)) where
    abbrev kept : List Record
    kept = put_kept room places m r

    abbrev then : List Record
    then = run room places kept between

    then_on : RunOn kept then
    then_on = run_on kept between (put_on m r a).accepted

    same_number : n ≡ o → (r ≡ q) × ((state m).waiting ≡ (state then).waiting)
    same_number e =
        let first = names_later home.Module handles.Types then (put_kept room places then q) n.index r (state m).waiting (put_on then q then_on.accepted) (names_type m r k n a x between) in
        let second = names_type then q l o then_on.accepted y [] in
        let both : Some first.item ≡ Some second.item = sym first.has ∙ ap (λ t. slice_get (state (put_kept room places then q)).built.types t.index) e ∙ second.has in
        let same : first.item ≡ second.item = cc in
        (sym first.bytes_are ∙ ap (λ i. i.bytes) same ∙ second.bytes_are, sym first.taken_are ∙ ap (λ i. i.taken) same ∙ second.taken_are)

    same_type : (r ≡ q) × ((state m).waiting ≡ (state then).waiting) → n ≡ o
    same_type e =
        let kn : known_from 0 (state then).built.types (item_of (state m) r) ≡ Some n.index = known_stays 0 (state kept).built.types (state then).built.types (item_of (state m) r) n.index (then_on.keeps home.Module handles.Types) (known_after m r k n a x (case_now m r k (handle.Type n) a x)) in
        let same : n.index ≡ o.index = answers_known then q l o then_on.accepted y n.index (known_like 0 (state then).built.types (item_of (state then) q) (item_of (state m) r) (sym e.0) (sym e.1) ∙ kn) (case_now then q l (handle.Type o) then_on.accepted y) in
        ap numbered same

  pub run_accepted : (rs : List Record) → Accepted start (run room places [] rs)
  run_accepted rs = (run_on [] rs tt).accepted

pub numbers_stay : (room places : ℕ) → NumbersStay room places
numbers_stay room places = record {
  stays = λ earlier r k h later x. stays_so room places (run room places [] earlier) r k h (run_accepted room places earlier) x later;
  one_number = λ earlier r k n between q l o x y. let m = run room places [] earlier in let a = run_accepted room places earlier in (same_number room places m r k n between q l o a x y, same_type room places m r k n between q l o a x y);
}
