use Rattle.owned.proofs.owned.OwnedDraft.parts.Goals as goal

pub returns : goal.returns
returns c =
    let b = c.as_slice.ensures.value in
    let s = c.as_slice-2.ensures.value in
    record { stands = simp (b, s) c.args.self.now.stands; keeps = simp (b, s) }
