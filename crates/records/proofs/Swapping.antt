-- The second field before the first.
use Rattle.std.proofs.Common.{◌≡◌, ℕ, Bool, true, false, List, [], ◌∷◌, ◌++◌, drop, Ok, Err, Result, refl, append_assoc, sym, ap, ◌∙◌}
use Rattle.std.specs.List.Sorted.{IsPermutation}
use Rattle.std.proofs.lemmas.List.Sorted.{IsPermutation-refl, IsPermutation-append_comm, IsPermutation-append_left}
use Rattle.ir.specs.declared.fields.Field.{Field}
use Rattle.ir.specs.Field.{width_of}
use Rattle.ir.specs.declared.kinds.Kind.{Kind}
use Rattle.ir.specs.Layout.{layout}
use Rattle.ir.specs.Number.{second_first}
use Rattle.records.specs.declared.judge.Flaw.{Flaw}
use Rattle.records.specs.Record.{parts_of}
use Rattle.records.specs.Gathered.{handles_at, handles_in, tested_in}
use Rattle.records.proofs.Fields.{fields_swapped, parts_are}
use Rattle.records.specs.Left.{placed_parts, fields_of}
use Rattle.records.specs.Handles.{field_handles, fields_handles, fields_tested, parts_handles, handles_of, parts_tested, tested_of}

-- fewer than two fields
pub tested_none : (ps : List (Field × List ℕ)) → ps ≡ [] → handles_in ps ≡ tested_in ps
tested_none [] e = refl
tested_none (p ∷ ps) e = absurd cc

pub tested_one : (ps qs : List (Field × List ℕ)) {p : Field × List ℕ} → ps ≡ p ∷ qs → qs ≡ [] → handles_in ps ≡ tested_in ps
tested_one ps qs {p} e none = rw (e, none) refl

-- the handles of the second field, of the first and of the others
pub tested_more : (ps qs rs : List (Field × List ℕ)) {p q : Field × List ℕ} → ps ≡ p ∷ qs → qs ≡ q ∷ rs → handles_at q ++ (handles_at p ++ handles_in rs) ≡ tested_in ps
tested_more ps qs rs {p} {q} e f = rw (e, f) refl

-- the same elements, one list moved behind another
behind : {X : Type 0} (xs ys zs : List X) → IsPermutation (xs ++ (ys ++ zs)) (ys ++ (xs ++ zs))
behind xs ys zs =
    let moved : IsPermutation ((xs ++ ys) ++ zs) ((ys ++ xs) ++ zs) = IsPermutation-append_left zs (xs ++ ys) (ys ++ xs) (IsPermutation-append_comm xs ys) in
    rw (append_assoc xs ys zs, append_assoc ys xs zs) at moved

fields_same : (b : Bool) (fs : List Field) (bytes : List ℕ) → IsPermutation (fields_handles fs bytes) (fields_tested b fs bytes)
fields_same false fs bytes = IsPermutation-refl (fields_handles fs bytes)
fields_same true [] bytes = IsPermutation-refl (fields_handles [] bytes)
fields_same true (f ∷ []) bytes = IsPermutation-refl (fields_handles (f ∷ []) bytes)
fields_same true (f ∷ g ∷ fs) bytes = behind (field_handles f bytes) (field_handles g (drop (width_of f) bytes)) _

parts_same : (r : Result (Kind × List ℕ) Flaw) → IsPermutation (parts_handles r) (parts_tested r)
parts_same (Ok p) = fields_same (second_first p.0) (layout p.0) p.1
parts_same (Err e) = IsPermutation-refl []

-- the two orders have the same handles
pub same_handles : (bytes : List ℕ) → IsPermutation (handles_of bytes) (tested_of bytes)
same_handles bytes = parts_same (parts_of bytes)

pub tested_are : (bytes : List ℕ) (k : Kind) {ps : List (Field × List ℕ)} → fields_of bytes ≡ Ok (k, ps) → true ≡ second_first k → tested_in ps ≡ tested_of bytes
tested_are bytes k {ps} is swaps =
    let p = parts_are (parts_of bytes) is in
    ap tested_in p.2 ∙ fields_swapped (layout k) p.0 ∙ ap (λ b. fields_tested b (layout k) p.0) swaps ∙ sym (ap parts_tested p.1)

-- of a record whose fields are not swapped, and of what is no record

pub tested_plain : (bytes : List ℕ) (k : Kind) {ps : List (Field × List ℕ)} → fields_of bytes ≡ Ok (k, ps) → false ≡ second_first k → handles_of bytes ≡ tested_of bytes
tested_plain bytes k is swaps =
    let p = parts_are (parts_of bytes) is in
    ap parts_handles p.1 ∙ ap (λ b. fields_tested b (layout k) p.0) swaps ∙ sym (ap parts_tested p.1)

untested : (r : Result (Kind × List ℕ) Flaw) (e : Flaw) → placed_parts r ≡ Err e → parts_handles r ≡ parts_tested r
untested (Ok p) e same = absurd cc
untested (Err f) e same = refl

pub tested_none_of : (bytes : List ℕ) (e : Flaw) → fields_of bytes ≡ Err e → handles_of bytes ≡ tested_of bytes
tested_none_of bytes e same = untested (parts_of bytes) e same
