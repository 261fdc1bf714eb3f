-- The defined answer means what the law says.
use Rattle.std.proofs.Common.{◌≡◌, ℕ, List, [], ◌∷◌, is_ok, Some, None, Option, Ok, Err, Result, ◌⊎◌, inl, inr, refl, ap, sym, ◌∙◌, subst}
use Rattle.std.specs.Option.{option_map}
use Rattle.records.specs.Image.{split}
use Rattle.rules.specs.declared.faults.Rejection.{Rejection}
use Rattle.rules.specs.Module.{Record}
use Rattle.draft.specs.declared.refusal.Refusal.{Refusal}
use Rattle.draft.specs.State.{state}
use Rattle.arena.specs.Answer.{Answer}
use Rattle.arena.specs.Put.{put_def}
use Rattle.runs.specs.Runs.{put_kept, run}
use Rattle.images.specs.declared.question.Question.{Question}
use Rattle.images.specs.declared.refusal.ImageRefusal.TheVariants.{Module}
use Rattle.images.specs.declared.verdict.Verdict.{Verdict}
use Rattle.images.specs.Putting.{unless_refused, put_all}
use Rattle.images.specs.Answer.{asked, refusal_after, refusal_in, verdict_in}
use Rattle.images.specs.Law.{AllAccepted, StopsAt, Means, Answers}

module _ (room places : ℕ) where
  -- either all are accepted, or one is refused after those before it
  Found : List Record → List Record → Type 0
  Found m rs =
      (AllAccepted room places m rs × (put_all room places m rs ≡ (Ok tt, run room places m rs)))
      ⊎ ((e : Refusal) × (StopsAt room places m rs e × ((put_all room places m rs).0 ≡ Err e)))

  puts_one : (m : List Record) (r : Record) (rs : List Record) (o : Result Answer Refusal) → (put_def room places m r).0 ≡ o → put_all room places m (r ∷ rs) ≡ unless_refused o (put_kept room places m r) (put_all room places (put_kept room places m r) rs)
  puts_one m r rs o is = ap (λ (x : Result Answer Refusal). unless_refused x (put_kept room places m r) (put_all room places (put_kept room places m r) rs)) is

  found_more : (m : List Record) (r : Record) (rs : List Record) (o : Result Answer Refusal) → (put_def room places m r).0 ≡ o → Found (put_kept room places m r) rs → Found m (r ∷ rs)
  unfolding Found
  found_more m r rs (Err e) is later =
      inr (e, (record { before = []; refused = r; behind = rs; parts = refl; accepted = tt; refuses = is }, ap (λ (p : Result Unit Refusal × List Record). p.0) (puts_one m r rs (Err e) is)))
  found_more m r rs (Ok a) is (inl (accepted, e)) = inl ((ap is_ok is, accepted), puts_one m r rs (Ok a) is ∙ e)
  found_more m r rs (Ok a) is (inr (e, (s, refused))) =
      inr (e, (record { before = r ∷ s.before; refused = s.refused; behind = s.behind; parts = ap (λ l. r ∷ l) s.parts; accepted = (ap is_ok is, s.accepted); refuses = s.refuses }, ap (λ (p : Result Unit Refusal × List Record). p.0) (puts_one m r rs (Ok a) is) ∙ refused))

  found : (m rs : List Record) → Found m rs
  unfolding Found
  found m [] = inl (tt, refl)
  found m (r ∷ rs) = found_more m r rs (put_def room places m r).0 refl (found (put_kept room places m r) rs)

  module _ (q : Question) where
    answered : (image : List ℕ) (v : Option Rejection) → asked q (state (run room places [] (split image))) ≡ v → AllAccepted room places [] (split image) → Means q room places image (option_map Module v)
    answered image None is accepted = record { accepted = accepted; answer = is }
    answered image (Some e) is accepted = record { accepted = accepted; answer = is }

    means_found : (image : List ℕ) → Found [] (split image) → Means q room places image (refusal_in q room places image)
    unfolding Found
    means_found image (inl (accepted, e)) =
        subst (Means q room places image) (sym (ap (λ (p : Result Unit Refusal × List Record). refusal_after q p.0 p.1) e)) (answered image (asked q (state (run room places [] (split image)))) refl accepted)
    means_found image (inr (e, (s, refused))) =
        subst (Means q room places image) (sym (ap (λ (x : Result Unit Refusal). refusal_after q x (put_all room places [] (split image)).1) refused)) s

    means : (image : List ℕ) → Means q room places image (refusal_in q room places image)
    means image = means_found image (found [] (split image))

    pub answers : (image : List ℕ) (v : Verdict) → v ≡ verdict_in q room places image → Answers q room places image v
    answers image v is = record { why = refusal_in q room places image; means = means image; told = is }
