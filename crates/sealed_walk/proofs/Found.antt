-- The tables of a sealed draft, and the bodies that its items open.
use Rattle.std.proofs.Common.{◌≡◌, ℕ, map, List, length, Some, None, Option, IfSome, Result, sym, ap, ◌∙◌, subst}
use Rattle.std.specs.List.{AllByRecursion, slice_get}
use Rattle.std.specs.Option.{option_map}
use Rattle.std.proofs.lemmas.Option.{slice_get-map}
use Rattle.draft.specs.State.{state}
use Rattle.draft.specs.declared.state.SlotTable.{SlotTable}
use Rattle.rules.specs.Module.{Record, Item, Body, Module}
use Rattle.items.specs.declared.section.Section.TheVariants.{Numbered}
use Rattle.items.specs.declared.body.Body.{Body as Shown}
use Rattle.items.specs.Between.{items_between}
use Rattle.items.specs.Item.{shown_body}
use Rattle.items.specs.Whole.{items_of, body_of, module_of}
use Rattle.node.specs.Nodes.{Node}
use Rattle.tables.specs.Tables.{inner_nodes}
use Rattle.walk.specs.declared.walk.Tally.{Tally}
use Rattle.walk.specs.declared.walk.WalkRefusal.{WalkRefusal}
use Rattle.walk.specs.Steps.{Steps}
use Rattle.walk.specs.Rule.{OperandsEarlier}
use Rattle.walk.specs.Walked.{Walked}
use Rattle.walk.proofs.Places.{all_at}
use Rattle.seal.specs.declared.sealed.Sealed.{Sealed}
use Rattle.seal.specs.Sealed.{IsSealedDraft, sealed_records}
use Rattle.seal.proofs.Sealing.{built_is}
use Rattle.sealed_walk.specs.declared.walking.DraftTable.{DraftTable}
use Rattle.sealed_walk.specs.Walking.{nodes_of, WalkedAs}

-- what is seen of a sealed draft is its module
pub shows : (s : Sealed) → IsSealedDraft s → (m : List Record) → m ≡ sealed_records s → module_of m ≡ (state (sealed_records s)).built
shows s is m same = ap module_of same ∙ built_is (sealed_records s) is.stands.accepted is.accepted

-- the body that the item with a number opens, where items are looked for among those of all kept records
pub opened_is : (m : List Record) (t : SlotTable) (n kept : ℕ) (left : List Item) → left ≡ items_between (Numbered t) m 0 kept → kept ≡ length m → (o : Option Item) → slice_get left n ≡ o
    → option_map (body_of m) o ≡ slice_get (map (body_of m) (items_of (Numbered t) m)) n
opened_is m t n kept left is all o e =
    let ahead : left ≡ items_of (Numbered t) m = is ∙ ap (items_between (Numbered t) m 0) all in
    sym (slice_get-map (body_of m) (items_of (Numbered t) m) n ∙ ap (option_map (body_of m)) (ap (λ items. slice_get items n) (sym ahead) ∙ e))

-- in a body that is found among some, operands are earlier where they are in all of these
pub found_earlier : (o : Option Shown) (bodies : List Body) (n : ℕ) → option_map shown_body o ≡ slice_get bodies n → AllByRecursion (λ b. OperandsEarlier (inner_nodes b)) bodies → IfSome o (λ b. OperandsEarlier (inner_nodes (shown_body b)))
found_earlier None bodies n e all = tt
found_earlier (Some b) bodies n e all = all_at (λ b. OperandsEarlier (inner_nodes b)) bodies n (shown_body b) all (sym e)

pub found_nodes : (o : Option Shown) (p : Option Body) → option_map shown_body o ≡ p → option_map (λ b. inner_nodes (shown_body b)) o ≡ option_map inner_nodes p
found_nodes None p e = ap (option_map inner_nodes) e
found_nodes (Some b) p e = ap (option_map inner_nodes) e

module _ {W V : Type 0} (s : Steps W V) (built : Module) (table : DraftTable) (before after : List V) (r : Result Tally WalkRefusal) where
  -- the table of these nodes was walked
  pub walked_table : (t : DraftTable) (nodes there : List Node) → table ≡ t → nodes ≡ there → nodes_of t built ≡ Some there → Walked s nodes before after r → WalkedAs s (nodes_of table built) before after r
  walked_table t nodes there is same wanted w = subst (λ o. WalkedAs s o before after r) (sym (ap (λ t. nodes_of t built) is ∙ wanted)) (subst (λ ns. Walked s ns before after r) same w)

  -- or what was found of one
  pub walked_found : (t : DraftTable) (found : Option (List Node)) → table ≡ t → found ≡ nodes_of t built → WalkedAs s found before after r → WalkedAs s (nodes_of table built) before after r
  walked_found t found is same w = subst (λ o. WalkedAs s o before after r) (same ∙ sym (ap (λ t. nodes_of t built) is)) w
