-- The tables of slots by their numbers.
use Rattle.std.proofs.Common.{◌≡◌, ℕ, true, false, cond, eqb, ◌⊎◌, sym, refl, ap, ◌∙◌, inl, inr, ⊎_elim}
use Rattle.std.proofs.lemmas.Bool.{cases_Bool, eq-eqb, eqb-true, false≢true}
use Rattle.draft.specs.declared.state.SlotTable.{SlotTable}
use Rattle.draft.specs.declared.state.SlotTable.TheVariants as table
use Rattle.arena.specs.Viewing.{rank, same_table}

unrank : ℕ → SlotTable
unrank n = cond (eqb n 0) table.Unnumbered (cond (eqb n 1) table.Taken (cond (eqb n 2) table.Types (cond (eqb n 3) table.Overrides (cond (eqb n 4) table.Constants (cond (eqb n 5) table.GlobalVariables (cond (eqb n 6) table.Filters (cond (eqb n 7) table.Expressions (cond (eqb n 8) table.Functions (cond (eqb n 9) table.EntryPoints (cond (eqb n 10) table.LocalVariables (table.LocalExpressions)))))))))))

unrank_rank : (t : SlotTable) → unrank (rank t) ≡ t
unfolding unrank
unrank_rank table.Unnumbered = refl
unrank_rank t = refl

-- the test of two tables decides whether they are the same
pub same_is : (t u : SlotTable) → same_table t u ≡ true → t ≡ u
same_is t u e = sym (unrank_rank t) ∙ ap unrank (eqb-true (rank t) (rank u) e) ∙ unrank_rank u

pub not_same : (t u : SlotTable) → (u ≡ t → ⊥) → same_table t u ≡ false
not_same t u n = ⊎_elim (λ e. absurd (n (sym (same_is t u e)))) (λ e. e) (cases_Bool (same_table t u))

pub is_or_other : (t u : SlotTable) → (u ≡ t) ⊎ (u ≡ t → ⊥)
is_or_other t u = ⊎_elim (λ e. inl (sym (same_is t u e))) (λ e. inr (λ is. false≢true (sym e ∙ ap (same_table t) is ∙ eq-eqb (rank t) (rank t) refl))) (cases_Bool (same_table t u))
