use Rattle.std.proofs.Common.{◌≡◌, [], ◌∷◌, sym, ◌∙◌, append-nil, arith}
use Rattle.records.specs.Handles.{field_of}
use Rattle.records.specs.Gathered.{handles_left}
use Rattle.rules.specs.Items.{fields}
use Rattle.items.specs.Item.{shown}
use Rattle.body.proofs.Gathered.{inside_first}
use Rattle.body.proofs.function.check_entry.Goals as goal
use Rattle.body.proofs.function.check_entry.Goals.{After-field_handles-mesh}

-- the mesh's handles are those of one field
mesh : (c : After-field_handles-mesh) → handles_left c.field_handles-mesh.result ≡ fields (8 ∷ []) (shown c.args.opener)
mesh c = c.field_handles-mesh.ensures ∙ sym (append-nil (field_of c.args.opener.«record».bytes.now 8))

pub returns-in_err-check_table : goal.returns-in_err-check_table
returns-in_err-check_table c = let m = mesh (goal.at.returns-in_err-check_table c).After-field_handles-mesh in grind (arith, inside_first)

pub returns-in_err-check_table-2 : goal.returns-in_err-check_table-2
returns-in_err-check_table-2 c = let m = mesh (goal.at.returns-in_err-check_table-2 c).After-field_handles-mesh in grind (arith, inside_first)

pub returns : goal.returns
returns c = let m = mesh (goal.at.returns c).After-field_handles-mesh in grind (arith, inside_first)
