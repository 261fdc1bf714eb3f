-- The global expressions up to an init, number by number.
use Rattle.std.proofs.Common.{◌≡◌, ℕ, suc, ◌+◌, ◌<◌, ◌≤◌, List, [], ◌∷◌, get_or, length, take, drop, ap, ◌∙◌, arith, length-drop}
use Rattle.std.proofs.lemmas.List.{drop_more, drop_all, get_or-take, length-take}
use Rattle.rules.specs.Module.{Item, Module}
use Rattle.rules.specs.Once.{unmet}

module _ (m : Module) (met e : ℕ) where
  -- none past the init
  pub unmet_none : e < met → unmet m met e ≡ []
  unmet_none l = let n = length-take (suc e) m.expressions in drop_all met (take (suc e) m.expressions) (omega arith)

  -- the next one, and those behind it
  module _ (l : met ≤ e) (within : e < length m.expressions) where
    -- there is one
    pub some_left : drop met m.expressions ≡ [] → ⊥
    some_left none = let n = ap length none in let d = length-drop met m.expressions in omega arith

    pub unmet_more : (i : Item) (rest : List Item) → drop met m.expressions ≡ i ∷ rest → (unmet m met e ≡ i ∷ unmet m (met + 1) e) × (rest ≡ drop (met + 1) m.expressions)
    unmet_more i rest is =
        let n = length-take (suc e) m.expressions in
        let whole : drop met m.expressions ≡ get_or m.expressions met i ∷ drop (met + 1) m.expressions = drop_more m.expressions met i (omega arith) in
        let part : unmet m met e ≡ get_or (take (suc e) m.expressions) met i ∷ unmet m (met + 1) e = drop_more (take (suc e) m.expressions) met i (omega arith) in
        let same : get_or (take (suc e) m.expressions) met i ≡ get_or m.expressions met i = get_or-take (suc e) m.expressions met i (omega arith) in
        let here : get_or m.expressions met i ≡ i = cc in
        let behind : rest ≡ drop (met + 1) m.expressions = cc in
        (part ∙ ap (λ x. x ∷ unmet m (met + 1) e) (same ∙ here), behind)
