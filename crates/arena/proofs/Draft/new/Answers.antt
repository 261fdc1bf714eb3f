use Rattle.std.proofs.Common.{◌≡◌, [], sym, subst}
use Rattle.arena.specs.Memory.{Standing, read_off}
use Rattle.arena.proofs.Placing.{holds_none, stands_now, records_are}
use Rattle.arena.proofs.Draft.new.Goals as goal

pub returns : goal.returns
returns c = record {
  stands = λ bytes slots. subst (λ d. Standing d bytes slots) (sym c.new.ensures) (stands_now (holds_none bytes slots));
  empty = λ bytes slots. subst (λ d. read_off d bytes slots ≡ []) (sym c.new.ensures) (records_are (holds_none bytes slots));
}
