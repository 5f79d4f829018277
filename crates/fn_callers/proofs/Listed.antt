-- A list that grows by one caller for each pass.
use Rattle.std.proofs.Common.{◌≡◌, suc, List, [], ◌∷◌, ◌++◌, map, All, sym, ◌∙◌, ap, subst, arith, append_assoc}

-- what holds of all of a list holds of all but its first
pub all_tail : {A : Type 0} (P : A → Type 0) (xs ys : List A) (x : A) → All P xs → xs ≡ x ∷ ys → All P ys
all_tail P xs ys x h is = let k : All P (x ∷ ys) = subst (All P) is h in λ i d l. k (suc i) d (omega arith)

module _ {A B : Type 0} (f : A → B) (whole : List A) where
  -- one more of them
  pub one_more : (done more : List B) (rest others : List A) (x : A) (y : B) → done ++ map f rest ≡ map f whole → rest ≡ x ∷ others → y ≡ f x → more ≡ done ++ y ∷ [] → more ++ map f others ≡ map f whole
  one_more done more rest others x y so_far is made grew =
      ap (λ (l : List B). l ++ map f others) grew
      ∙ append_assoc done (y ∷ []) (map f others)
      ∙ ap (λ (z : B). done ++ z ∷ map f others) made
      ∙ ap (λ (l : List A). done ++ map f l) (sym is)
      ∙ so_far
