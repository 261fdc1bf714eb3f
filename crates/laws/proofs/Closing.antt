-- What may stand behind the records so far, so that all of it is a block: open brackets are closed, the innermost first.
use Rattle.std.proofs.Common.{◌≡◌, ℕ, ◌+◌, true, List, [], ◌∷◌, ◌++◌, is_some, sym, refl, ap, ◌∙◌, subst, append_assoc}
use Rattle.ir.specs.declared.kinds.Statement.{Statement}
use Rattle.ir.specs.declared.kinds.Statement.TheVariants as statement
use Rattle.ir.specs.Number.{statement_case}
use Rattle.draft.specs.declared.state.Bracket.{Bracket}
use Rattle.draft.specs.declared.state.Bracket.TheVariants as bracket
use Rattle.draft.specs.declared.manner.Motion.TheVariants as motion
use Rattle.draft.specs.Manner.{turn_of, statement_motion}
use Rattle.draft.specs.State.{innermost, turned}
use Rattle.laws.specs.Grammar.{is_simple, Block, Cases}
use Rattle.laws.specs.Grammar.Block.{nothing, simple, nested, if, switch, loop}
use Rattle.laws.specs.Grammar.Cases.{none, case}

-- a block or cases, the ending, and what comes then
pub record Ends (Inner : List ℕ → Type 0) (ending : ℕ) (Then : List ℕ → Type 0) (tail : List ℕ) : Type 0 where
  pub inner : List ℕ
  pub rest : List ℕ
  pub is : tail ≡ inner ++ (ending ∷ rest)
  pub block : Inner inner
  pub then : Then rest

-- the tail ends each open bracket
abbrev pub Closing : List Bracket → List ℕ → Type 0
Closing [] tail = Block tail
Closing (bracket.Block ∷ bs) tail = Ends Block 151 (Closing bs) tail
Closing (bracket.Accept ∷ bs) tail = Ends Block 151 (Ends Block 151 (Closing bs)) tail
Closing (bracket.Reject ∷ bs) tail = Ends Block 151 (Closing bs) tail
Closing (bracket.Switch ∷ bs) tail = Ends Cases 154 (Closing bs) tail
Closing (bracket.Case ∷ bs) tail = Ends Block 151 (Closing bs) tail
Closing (bracket.Body ∷ bs) tail = Ends Block 151 (Ends Block 152 (Closing bs)) tail
Closing (bracket.Continuing ∷ bs) tail = Ends Block 152 (Closing bs) tail

-- nothing before the ending
ends_here : (Inner : List ℕ → Type 0) → Inner [] → (ending : ℕ) (Then : List ℕ → Type 0) (tail : List ℕ) → Then tail → Ends Inner ending Then (ending ∷ tail)
ends_here Inner b ending Then tail t = record { inner = []; rest = tail; is = refl; block = b; then = t }

-- a statement may go before what closes the brackets, unless directly in a Switch
module _ (st : List ℕ) (grows : (rest : List ℕ) → Block rest → Block (st ++ rest)) where
  ends_grown : (ending : ℕ) (Then : List ℕ → Type 0) (tail : List ℕ) → Ends Block ending Then tail → Ends Block ending Then (st ++ tail)
  ends_grown ending Then tail c = record {
    inner = st ++ c.inner;
    rest = c.rest;
    is = ap (λ l. st ++ l) c.is ∙ sym (append_assoc st c.inner (ending ∷ c.rest));
    block = grows c.inner c.block;
    then = c.then;
  }

  grown : (bs : List Bracket) (tail : List ℕ) → is_some (turn_of (innermost bs) motion.Statement) ≡ true → Closing bs tail → Closing bs (st ++ tail)
  grown [] tail h c = grows tail c
  grown (bracket.Block ∷ bs) tail h c = ends_grown 151 (Closing bs) tail c
  grown (bracket.Accept ∷ bs) tail h c = ends_grown 151 (Ends Block 151 (Closing bs)) tail c
  grown (bracket.Reject ∷ bs) tail h c = ends_grown 151 (Closing bs) tail c
  grown (bracket.Switch ∷ bs) tail h c = absurd cc
  grown (bracket.Case ∷ bs) tail h c = ends_grown 151 (Closing bs) tail c
  grown (bracket.Body ∷ bs) tail h c = ends_grown 151 (Ends Block 152 (Closing bs)) tail c
  grown (bracket.Continuing ∷ bs) tail h c = ends_grown 152 (Closing bs) tail c

-- a bracket is pushed wherever a statement may stand
pushed : (bs : List Bracket) (b : Bracket) → is_some (turn_of (innermost bs) (motion.Enter b)) ≡ true → (is_some (turn_of (innermost bs) motion.Statement) ≡ true) × (turned (turn_of (innermost bs) (motion.Enter b)) bs ≡ b ∷ bs)
pushed [] b h = (refl, refl)
pushed (bracket.Switch ∷ bs) b h = absurd cc
pushed (a ∷ bs) b h = (refl, refl)

-- and a simple one leaves the brackets as they are
kept : (bs : List Bracket) → is_some (turn_of (innermost bs) motion.Statement) ≡ true → turned (turn_of (innermost bs) motion.Statement) bs ≡ bs
kept [] h = refl
kept (bracket.Block ∷ bs) h = refl
kept (b ∷ bs) h = refl

-- a statement with its endings, and then the rest
one_part : (a : List ℕ) (n : ℕ) (x : List ℕ) → (a ++ (n ∷ [])) ++ x ≡ a ++ (n ∷ x)
one_part a n x = append_assoc a (n ∷ []) x

two_parts : (a : List ℕ) (m : ℕ) (b : List ℕ) (n : ℕ) (x : List ℕ) → (a ++ (m ∷ (b ++ (n ∷ [])))) ++ x ≡ a ++ (m ∷ (b ++ (n ∷ x)))
two_parts a m b n x = simp append_assoc

-- a statement that opens no bracket
simple_turn : (k : ℕ) → is_simple k ≡ true → (bs : List Bracket) (tail : List ℕ) → is_some (turn_of (innermost bs) motion.Statement) ≡ true → Closing (turned (turn_of (innermost bs) motion.Statement) bs) tail → Closing bs (k ∷ tail)
simple_turn k e bs tail h c =
    grown (k ∷ []) (λ rest b. simple k rest e b) bs tail h (subst (λ l. Closing l tail) (kept bs h) c)

-- a whole statement, of which the record is the opener
module _ (bs : List Bracket) (tail : List ℕ) where
  one_turn : (Inner : List ℕ → Type 0) (k n : ℕ) (b : Bracket) → ((xs rest : List ℕ) → Inner xs → Block rest → Block (k ∷ (xs ++ (n ∷ rest)))) → (Closing (b ∷ bs) tail → Ends Inner n (Closing bs) tail) → is_some (turn_of (innermost bs) (motion.Enter b)) ≡ true → Closing (turned (turn_of (innermost bs) (motion.Enter b)) bs) tail → Closing bs (k ∷ tail)
  one_turn Inner k n b make ends h x =
      let p = pushed bs b h in
      let c : Ends Inner n (Closing bs) tail = ends (subst (λ l. Closing l tail) p.1 x) in
      subst (λ l. Closing bs (k ∷ l)) (one_part c.inner n c.rest ∙ sym c.is)
      (grown (k ∷ (c.inner ++ (n ∷ [])))
      (λ rest b. subst (λ l. Block (k ∷ l)) (sym (one_part c.inner n rest)) (make c.inner rest c.block b))
      bs c.rest p.0 c.then)

  two_turn : (k n : ℕ) (b : Bracket) → ((xs ys rest : List ℕ) → Block xs → Block ys → Block rest → Block (k ∷ (xs ++ (151 ∷ (ys ++ (n ∷ rest)))))) → (Closing (b ∷ bs) tail → Ends Block 151 (Ends Block n (Closing bs)) tail) → is_some (turn_of (innermost bs) (motion.Enter b)) ≡ true → Closing (turned (turn_of (innermost bs) (motion.Enter b)) bs) tail → Closing bs (k ∷ tail)
  two_turn k n b make ends h x =
      let p = pushed bs b h in
      let c : Ends Block 151 (Ends Block n (Closing bs)) tail = ends (subst (λ l. Closing l tail) p.1 x) in
      let d : Ends Block n (Closing bs) c.rest = c.then in
      subst (λ l. Closing bs (k ∷ l)) (two_parts c.inner 151 d.inner n d.rest ∙ ap (λ l. c.inner ++ (151 ∷ l)) (sym d.is) ∙ sym c.is)
      (grown (k ∷ (c.inner ++ (151 ∷ (d.inner ++ (n ∷ [])))))
      (λ rest b. subst (λ l. Block (k ∷ l)) (sym (two_parts c.inner 151 d.inner n rest)) (make c.inner d.inner rest c.block d.block b))
      bs d.rest p.0 d.then)

-- each statement, before what closes the brackets after it
pub statement_turn : (c : Statement) (bs : List Bracket) (tail : List ℕ) → is_some (turn_of (innermost bs) (statement_motion c)) ≡ true → Closing (turned (turn_of (innermost bs) (statement_motion c)) bs) tail → Closing bs ((128 + statement_case c) ∷ tail)
statement_turn statement.Emit = simple_turn 128 refl
statement_turn statement.Block = λ bs tail. one_turn bs tail Block 129 151 bracket.Block nested (λ c. c)
statement_turn statement.If = λ bs tail. two_turn bs tail 130 151 bracket.Accept if (λ c. c)
statement_turn statement.Switch = λ bs tail. one_turn bs tail Cases 131 154 bracket.Switch switch (λ c. c)
statement_turn statement.Loop = λ bs tail. two_turn bs tail 132 152 bracket.Body loop (λ c. c)
statement_turn statement.Break = simple_turn 133 refl
statement_turn statement.Continue = simple_turn 134 refl
statement_turn statement.Return = simple_turn 135 refl
statement_turn statement.Kill = simple_turn 136 refl
statement_turn statement.ControlBarrier = simple_turn 137 refl
statement_turn statement.MemoryBarrier = simple_turn 138 refl
statement_turn statement.Store = simple_turn 139 refl
statement_turn statement.ImageStore = simple_turn 140 refl
statement_turn statement.Atomic = simple_turn 141 refl
statement_turn statement.ImageAtomic = simple_turn 142 refl
statement_turn statement.WorkGroupUniformLoad = simple_turn 143 refl
statement_turn statement.Call = simple_turn 144 refl
statement_turn statement.RayQuery = simple_turn 145 refl
statement_turn statement.RayPipelineFunction = simple_turn 146 refl
statement_turn statement.SubgroupBallot = simple_turn 147 refl
statement_turn statement.SubgroupGather = simple_turn 148 refl
statement_turn statement.SubgroupCollectiveOperation = simple_turn 149 refl
statement_turn statement.CooperativeStore = simple_turn 150 refl

-- the end of a block
pub end_turn : (bs : List Bracket) (tail : List ℕ) → is_some (turn_of (innermost bs) motion.End) ≡ true → Closing (turned (turn_of (innermost bs) motion.End) bs) tail → Closing bs (151 ∷ tail)
end_turn (bracket.Block ∷ bs) tail h c = ends_here Block nothing 151 (Closing bs) tail c
end_turn (bracket.Accept ∷ bs) tail h c = ends_here Block nothing 151 (Ends Block 151 (Closing bs)) tail c
end_turn (bracket.Reject ∷ bs) tail h c = ends_here Block nothing 151 (Closing bs) tail c
end_turn (bracket.Case ∷ bs) tail h c = ends_here Block nothing 151 (Closing bs) tail c
end_turn (bracket.Body ∷ bs) tail h c = ends_here Block nothing 151 (Ends Block 152 (Closing bs)) tail c
end_turn bs tail h c = absurd cc

-- the end of a loop's second half
pub loop_end_turn : (bs : List Bracket) (tail : List ℕ) → is_some (turn_of (innermost bs) motion.EndLoop) ≡ true → Closing (turned (turn_of (innermost bs) motion.EndLoop) bs) tail → Closing bs (152 ∷ tail)
loop_end_turn (bracket.Continuing ∷ bs) tail h c = ends_here Block nothing 152 (Closing bs) tail c
loop_end_turn bs tail h c = absurd cc

-- the end of the cases
pub switch_end_turn : (bs : List Bracket) (tail : List ℕ) → is_some (turn_of (innermost bs) motion.EndSwitch) ≡ true → Closing (turned (turn_of (innermost bs) motion.EndSwitch) bs) tail → Closing bs (154 ∷ tail)
switch_end_turn (bracket.Switch ∷ bs) tail h c = ends_here Cases none 154 (Closing bs) tail c
switch_end_turn bs tail h c = absurd cc

-- one case more
case_more : (Then : List ℕ → Type 0) (tail : List ℕ) → Ends Block 151 (Ends Cases 154 Then) tail → Ends Cases 154 Then (153 ∷ tail)
case_more Then tail c =
    let d : Ends Cases 154 Then c.rest = c.then in
    record {
      inner = 153 ∷ (c.inner ++ (151 ∷ d.inner));
      rest = d.rest;
      is = ap (λ l. 153 ∷ l) (c.is ∙ ap (λ l. c.inner ++ (151 ∷ l)) d.is ∙ sym (append_assoc c.inner (151 ∷ d.inner) (154 ∷ d.rest)));
      block = case c.inner d.inner c.block d.block;
      then = d.then;
    }

-- a case, directly in a Switch
pub case_turn : (bs : List Bracket) (tail : List ℕ) → is_some (turn_of (innermost bs) motion.Case) ≡ true → Closing (turned (turn_of (innermost bs) motion.Case) bs) tail → Closing bs (153 ∷ tail)
case_turn (bracket.Switch ∷ bs) tail h c = case_more (Closing bs) tail c
case_turn bs tail h c = absurd cc
