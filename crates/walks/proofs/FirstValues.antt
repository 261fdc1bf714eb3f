-- What a walk into more places than there are items leaves.
use Rattle.std.proofs.Common.{◌≡◌, ◌≤◌, List, length, take, Some, None, Option, Ok, Err, refl, sym, ap, ◌∙◌, subst, arith}
use Rattle.node.specs.Nodes.{Node}
use Rattle.walk.specs.declared.walk.Tally.{Tally}
use Rattle.walk.specs.declared.walk.WalkRefusal.{WalkRefusal}
use Rattle.walk.specs.declared.walk.WalkRefusal.TheVariants.{NoSuchBody}
use Rattle.walk.specs.Steps.{Steps}
use Rattle.walk.specs.Rule.{TheValues}
use Rattle.sealed_walk.specs.Walking.{WalkedAs}
use Rattle.walks.specs.Walks.{IsWalkOf}

module _ {W V : Type 0} (s : Steps W V) (before after : List V) where
  -- the first values, as many as there are items
  pub first_values : (o : Option (List Node)) (t : Tally) (values : List V) → WalkedAs s o before after (Ok t) → values ≡ take t.items after → IsWalkOf s o values t
  first_values None t values w is = absurd (let e = w.0 in cc)
  first_values (Some nodes) t values w is =
      let same : take (length nodes) after ≡ values = ap (λ n. take n after) (sym w.items) ∙ sym is in
      (nodes, refl, record { values_are = subst (TheValues s nodes) same w.values; items = w.items; takes = w.takes })

  -- where the places suffice, only a body that is not there is refused
  pub no_body : (o : Option (List Node)) (e : WalkRefusal) → ((nodes : List Node) → o ≡ Some nodes → length nodes ≤ length before) → WalkedAs s o before after (Err e) → (e ≡ NoSuchBody) × (o ≡ None)
  no_body None e enough w = (let same = w.0 in cc, refl)
  no_body (Some nodes) e enough w = let few = w.few in let all = enough nodes refl in absurd (omega arith)
