-- The items that an iterator gives, and those that it has left.
use Rattle.std.specs.Prelude.{List}
use Rattle.records.specs.Image.{split}
use Rattle.rules.specs.Module.{Item, Body}
use Rattle.arena.specs.Viewing.{viewed}
use Rattle.items.specs.Between.{items_between}
use Rattle.items.specs.declared.item.Item.{Item as Shown}
use Rattle.items.specs.declared.items.Items.{Items}
use Rattle.items.specs.declared.body.Body.{Body as Shown_body}
use Rattle.items.specs.Whole.{body_until}

-- the item that is shown: what it took is cut into records
abbrev pub shown : Shown → Item
shown i = record { place = i.place; bytes = i.«record».bytes.now; taken = split i.taken.rest.now }

-- what is left to be given
abbrev pub items_left : Items → List Item
items_left s = items_between s.section (viewed s.view) s.place s.end

-- the body that is shown
abbrev pub shown_body : Shown_body → Body
shown_body b = body_until (viewed b.view) (shown b.opener) b.end
