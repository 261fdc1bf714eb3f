-- Going through all items that are left.
use Rattle.std.proofs.Common.{◌≡◌, ℕ, ◌^◌, ◌<◌, List, [], ◌∷◌, map, length, Some, None, Option, refl, ap, ◌∙◌, arith}
use Rattle.std.specs.List.{last_or}
use Rattle.std.specs.Option.{option_map}
use Rattle.std.specs.Iterator.{YieldsFirstBy, Drains, DrainsIf}
use Rattle.std.proofs.lemmas.Iterator.{items_from_drains}
use Rattle.std.proofs.lemmas.Iterator.Consumers.{count_from_yields_List, YieldsList-from_first}
use Rattle.arena.specs.Viewing.{viewed}
use Rattle.items.specs.declared.item.Item.{Item as Shown}
use Rattle.items.specs.declared.items.Items.{Items}
use Rattle.items.specs.Item.{shown, items_left}
use Rattle.items.specs.Whole.{last_of}
use Rattle.items.proofs.Between.{few_between}

-- there are fewer than 2 ^ 64
pub left_few : (s : Items) → length (items_left s) < 2 ^ 64
left_few s = let fits = s.fits in omega (arith, few_between s.section (viewed s.view) s.place s.end)

-- what `count` gives
pub left_counted : (s : Items) (n : ℕ) → (xs : List Shown) × Drains (YieldsFirstBy shown items_left) s xs × (n ≡ length xs) → n ≡ length (items_left s)
left_counted s n h = count_from_yields_List s n h (YieldsList-from_first shown items_left _ refl)

last_shown : (i : Shown) (xs : List Shown) → option_map shown (last_or (Some i) xs) ≡ last_of (shown i ∷ map shown xs)
last_shown i [] = refl
last_shown i (j ∷ xs) = last_shown j xs

last_mapped : (xs : List Shown) → option_map shown (last_or None xs) ≡ last_of (map shown xs)
last_mapped [] = refl
last_mapped (i ∷ xs) = last_shown i xs

-- what `last` gives
pub left_last : (s : Items) (r : Option Shown) → (xs : List Shown) × Drains (YieldsFirstBy shown items_left) s xs × (r ≡ last_or None xs) → option_map shown r ≡ last_of (items_left s)
left_last s r h =
    let drains : DrainsIf (YieldsFirstBy shown items_left) (Unit {0}) s h.0 = (h.1.1.0, h.1.1.1, λ _. (h.1.0, h.1.1.2)) in
    ap (option_map shown) h.2
    ∙ last_mapped h.0
    ∙ ap last_of (items_from_drains h.0 drains (YieldsList-from_first shown items_left _ refl))
