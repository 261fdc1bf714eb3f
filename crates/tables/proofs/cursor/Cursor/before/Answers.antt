use Rattle.std.proofs.Common.{◌≡◌, ◌+◌, ◌-◌, drop, ap, ◌∙◌, arith}
use Rattle.std.proofs.lemmas.List.{drop-drop}
use Rattle.tables.specs.Entering.{nodes_left, node_entered}
use Rattle.tables.specs.Cursor.{cursor_nodes}
use Rattle.tables.proofs.Going.{behind}
use Rattle.tables.proofs.cursor.Cursor.before.Goals as goal

pub returns-in-Some : goal.returns-in-Some
returns-in-Some c =
    let s = c.args.self in
    let e = c.in-Some.entered in
    let k = c.args.number - e.number - 1 in
    let on : (e.number + 1) + k ≡ c.args.number = omega arith in
    ap (drop k) (behind (cursor_nodes s) (nodes_left s.source e.later) e.number (node_entered e) (rw c.in-Some.is at s.there))
    ∙ drop-drop k (e.number + 1) (cursor_nodes s)
    ∙ ap (λ n. drop n (cursor_nodes s)) on
