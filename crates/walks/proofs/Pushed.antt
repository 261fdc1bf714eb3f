-- One body more.
use Rattle.std.proofs.Common.{List, [], ◌∷◌, ◌++◌}
use Rattle.rules.specs.Module.{Body}
use Rattle.tables.specs.Tables.{inner_nodes}
use Rattle.walks.specs.declared.table_walk.BothWalks.{BothWalks}
use Rattle.walks.specs.Both.{AreBoth, EachWalked}

-- the walks of one body more
pub one_walked : (bodies : List Body) (walks : List BothWalks) (b : Body) (w : BothWalks) → EachWalked bodies walks → AreBoth (inner_nodes b) w → EachWalked (bodies ++ b ∷ []) (walks ++ w ∷ [])
one_walked [] [] b w all one = (one, tt)
one_walked (x ∷ bodies) (v ∷ walks) b w all one = (all.0, one_walked bodies walks b w all.1 one)
one_walked [] (v ∷ walks) b w all one = absurd all
one_walked (x ∷ bodies) [] b w all one = absurd all
