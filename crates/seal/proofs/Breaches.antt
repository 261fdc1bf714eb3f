-- Tests of sealing fail where the same tests of the check would: only the rule that is reported differs.
use Rattle.std.proofs.Common.{◌≡◌, ℕ, Bool, true, false, cond, List, [], ◌∷◌, map, Some, None, Option, refl, ap, ◌∙◌}
use Rattle.std.specs.List.{flat_map}
use Rattle.std.specs.Option.{option_map, option_or}
use Rattle.ir.specs.declared.handle.Table.{Table}
use Rattle.ir.specs.declared.handle.Handle.{Handle}
use Rattle.records.specs.Handles.{handles_of}
use Rattle.rules.specs.declared.faults.Rule.TheVariants as rule
use Rattle.rules.specs.declared.faults.Fault.{Fault}
use Rattle.rules.specs.declared.sizes.Sizes.{Sizes}
use Rattle.rules.specs.Module.{Item}
use Rattle.rules.specs.Fault.{first, inside, earlier, all_inside, own_inside}
use Rattle.rules.proofs.Firsts.{first_append}
use Rattle.seal.specs.Breach.{outside, later}

cond_mapped : (f : Fault → Fault) (b : Bool) (x : Fault) (o : Option Fault) → cond b (option_map f o) (Some (f x)) ≡ option_map f (cond b o (Some x))
cond_mapped f true x o = refl
cond_mapped f false x o = refl

or_mapped : (f : Fault → Fault) (o p : Option Fault) → option_or (option_map f o) (option_map f p) ≡ option_map f (option_or o p)
or_mapped f (Some x) p = refl
or_mapped f None p = refl

module _ (sizes : Sizes) where
  pub outside_first : (place : ℕ) (hs : List Handle) → first (all_inside rule.SealedInside sizes place hs) ≡ option_map outside (first (all_inside rule.Inside sizes place hs))
  outside_first place [] = refl
  outside_first place (h ∷ hs) =
      let t = inside rule.Inside sizes place h in
      ap (λ o. cond t.passes o (Some (outside t.fault))) (outside_first place hs) ∙ cond_mapped outside t.passes t.fault (first (all_inside rule.Inside sizes place hs))

  pub own_first : (items : List Item) → first (flat_map (own_inside rule.SealedInside sizes) items) ≡ option_map outside (first (flat_map (own_inside rule.Inside sizes) items))
  own_first [] = refl
  own_first (i ∷ items) =
      rw (first_append (own_inside rule.SealedInside sizes i) (flat_map (own_inside rule.SealedInside sizes) items), own_first items, outside_first i.place (handles_of i.bytes), first_append (own_inside rule.Inside sizes i) (flat_map (own_inside rule.Inside sizes) items))
      (or_mapped outside (first (own_inside rule.Inside sizes i)) (first (flat_map (own_inside rule.Inside sizes) items)))

module _ (t : Table) (n place : ℕ) where
  pub later_first : (xs : List ℕ) → first (map (earlier rule.SealedEarlier t n place) xs) ≡ option_map later (first (map (earlier rule.Earlier t n place) xs))
  later_first [] = refl
  later_first (x ∷ xs) =
      let e = earlier rule.Earlier t n place x in
      ap (λ o. cond e.passes o (Some (later e.fault))) (later_first xs) ∙ cond_mapped later e.passes e.fault (first (map (earlier rule.Earlier t n place) xs))
