-- The flags of a table are the answers of steady.
use Rattle.std.proofs.Common.{◌≡◌, ℕ, Bool, true, false, ◌&&◌, ◌==◌, List, [], ◌∷◌, map, length, take, Ok, Err, Result, refl, sym, ap, ◌∙◌, subst}
use Rattle.std.specs.Option.{option_map}
use Rattle.std.proofs.lemmas.List.{length-map}
use Rattle.std.proofs.lemmas.Option.{slice_get-map}
use Rattle.items.proofs.Numbered.{mapped_at}
use Rattle.node.specs.Nodes.{Node}
use Rattle.walk.specs.Rule.{Takes, Keeps}
use Rattle.walk.specs.Readings.{is_steady, steady}
use Rattle.image_walks.specs.declared.refusal.ImageWalkRefusal.{ImageWalkRefusal}
use Rattle.walk.specs.Leaves.{Leaves, FirstAre}
use Rattle.image_walks.specs.Flags.{flag, flags, FirstFlag, LeavesFlags}

-- whether a number says yes
abbrev pub says : ℕ → Bool
says n = n == 1

says_flag : (b : Bool) → says (flag b) ≡ b
says_flag true = refl
says_flag false = refl

-- a flag is 1 or 0
says_flags : (bs : List Bool) → map says (map flag bs) ≡ bs
says_flags [] = refl
says_flags (b ∷ bs) = ap (λ x. x ∷ map says (map flag bs)) (says_flag b) ∙ ap (λ xs. b ∷ xs) (says_flags bs)

takes_says : (values : List ℕ) (w : Bool) (ks : List ℕ) (x : Bool) → Takes flags values w ks x → Takes steady (map says values) w ks x
takes_says values w [] x t = t
takes_says values w (k ∷ ks) x t = (says t.0, slice_get-map says values k ∙ ap (option_map says) t.1, takes_says values (w && says t.0) ks x t.2)

takes_flag : (answers : List Bool) (w : Bool) (ks : List ℕ) (x : Bool) → Takes steady answers w ks x → Takes flags (map flag answers) w ks x
takes_flag answers w [] x t = t
takes_flag answers w (k ∷ ks) x t =
    (flag t.0, slice_get-map flag answers k ∙ ap (option_map flag) t.1, subst (λ b. Takes flags (map flag answers) (w && b) ks x) (sym (says_flag t.0)) (takes_flag answers (w && t.0) ks x t.2))

module _ (nodes : List Node) where
  keeps_says : (values : List ℕ) → Keeps flags nodes values → Keeps steady nodes (map says values)
  keeps_says values kept = record {
    one_each = length-map values says ∙ kept.one_each;
    each = λ i n v is value.
        let u = mapped_at says values i v value in
        let m = kept.each i n u.0 is u.1 in
        (m.0, takes_says values (is_steady n.bytes) n.operands m.0 m.1, sym (says_flag m.0) ∙ ap says m.2 ∙ u.2);
  }

  keeps_flag : (answers : List Bool) → Keeps steady nodes answers → Keeps flags nodes (map flag answers)
  keeps_flag answers kept = record {
    one_each = length-map answers flag ∙ kept.one_each;
    each = λ i n v is value.
        let u = mapped_at flag answers i v value in
        let m = kept.each i n u.0 is u.1 in
        (m.0, takes_flag answers (is_steady n.bytes) n.operands m.0 m.1, ap flag m.2 ∙ u.2);
  }

  first_flag : (before after : List ℕ) → FirstAre flags nodes before after → FirstFlag nodes before after
  first_flag before after first =
      let values = take (length nodes) after in
      let kept = keeps_says values first.theirs.keeps in
      record {
        answers = map says values;
        theirs = record { keeps = kept; no_others = λ others keeps. sym (says_flags others) ∙ ap (map says) (first.theirs.no_others (map flag others) (keeps_flag others keeps)) };
        shown = sym (first.theirs.no_others (map flag (map says values)) (keeps_flag (map says values) kept));
        beyond = first.beyond;
      }

pub leaves_flags : (walked : Result (List Node) ImageWalkRefusal) (before after : List ℕ) → Leaves flags walked before after → LeavesFlags walked before after
leaves_flags (Ok nodes) before after left = first_flag nodes before after left
leaves_flags (Err e) before after left = left
