-- Going through items in turn, up to the first of which a test holds, where what each item tells is found out only when it is reached.
use Rattle.std.proofs.Common.{◌≡◌, ℕ, ◌+◌, ◌<◌, Bool, true, false, List, [], ◌∷◌, ◌++◌, Option, Some, None, cond, refl, sym, ap, ◌∙◌, subst, arith, append_assoc, map}
use Rattle.std.specs.Prelude.{if◌then◌else◌}
use Rattle.std.specs.List.{find, flat_map}
use Rattle.std.proofs.lemmas.List.{append-nil}
use Rattle.fn_rows.specs.Machine.{put}
use Rattle.fn_rows.proofs.Public.{put_here, put_there}
use Rattle.fn_core.specs.Begin.{up_to}

pub flat_map-one : {A B : Type 0} (f : A → B) (xs : List A) → flat_map (λ x. f x ∷ []) xs ≡ map f xs
flat_map-one f [] = refl
flat_map-one f (x ∷ xs) = ap (λ ys. f x ∷ ys) (flat_map-one f xs)

module _ {W T : Type 0} (out : W → ℕ → List T) (test : W → ℕ → Bool) where
  -- what all items yield, where each tells so
  abbrev pub yields : (ℕ → W) → List ℕ → List T
  yields w xs = flat_map (λ x. out (w x) x) (up_to (λ x. test (w x) x) xs)

  abbrev pub finds_first : (ℕ → W) → List ℕ → Option ℕ
  finds_first w xs = find (λ x. test (w x) x) xs

  abbrev AgreesBelow : ℕ → (ℕ → W) → (ℕ → W) → Type 0
  AgreesBelow i w' w = (x : ℕ) → x < i → w' x ≡ w x

  -- the items below i have yielded these, and whatever the rest tells, it is still ahead
  pub record Along (i : ℕ) (rest all : List ℕ) (ts : List T) : Type 0 where
    pub w : ℕ → W
    pub goes : (w' : ℕ → W) → AgreesBelow i w' w → (yields w' all ≡ ts ++ yields w' rest) × (finds_first w' all ≡ finds_first w' rest)

  pub along_start : (w : ℕ → W) (i : ℕ) (all : List ℕ) → Along i all all []
  along_start w i all = record { w = w; goes = λ w' agrees. (refl, refl) }

  pub put_agrees : (i : ℕ) (w w' : ℕ → W) (v : W) → AgreesBelow (i + 1) w' (put w i v) → AgreesBelow i w' w × (w' i ≡ v)
  put_agrees i w w' v agrees = (
    (λ x less. agrees x (omega arith) ∙ put_there w i v x (λ same. omega (arith, same, less))),
    agrees i (omega arith) ∙ put_here w i v i refl,
  )

  -- an item that is no item is left out
  pub along_skip : (i : ℕ) (rest left all : List ℕ) (ts : List T) → Along i rest all ts → rest ≡ left → Along (i + 1) left all ts
  along_skip i rest left all ts a same =
      subst (λ (xs : List ℕ). Along (i + 1) xs all ts) same (record { w = a.w; goes = λ w' agrees. a.goes w' (λ x less. agrees x (omega arith)) })

  module _ (i : ℕ) (rest left all : List ℕ) (ts : List T) (a : Along i rest all ts) (is : rest ≡ i ∷ left) (v : W) where
    pub here : (w' : ℕ → W) → w' i ≡ v → (b : Bool) → test v i ≡ b → yields w' rest ≡ out v i ++ flat_map (λ x. out (w' x) x) (if b then [] else up_to (λ x. test (w' x) x) left)
    here w' says b holds =
        ap (yields w') is ∙ ap (λ (t : Bool). out (w' i) i ++ flat_map (λ x. out (w' x) x) (if t then [] else up_to (λ x. test (w' x) x) left)) (ap (λ (u : W). test u i) says ∙ holds)
        ∙ ap (λ (u : W). out u i ++ flat_map (λ x. out (w' x) x) (if b then [] else up_to (λ x. test (w' x) x) left)) says

    pub first_here : (w' : ℕ → W) → w' i ≡ v → (b : Bool) → test v i ≡ b → finds_first w' rest ≡ cond b (Some i) (finds_first w' left)
    first_here w' says b holds = ap (finds_first w') is ∙ ap (λ (t : Bool). cond t (Some i) (finds_first w' left)) (ap (λ (u : W). test u i) says ∙ holds)

    -- the test doesn't hold of the item at hand
    abbrev pub along_past : test v i ≡ false → Along (i + 1) left all (ts ++ out v i)
    along_past not_yet = record {
      w = put a.w i v;
      goes = λ w' agrees.
          let both = put_agrees i a.w w' v agrees in
          let on = a.goes w' both.0 in (
            on.0 ∙ ap (λ (xs : List T). ts ++ xs) (here w' both.1 false not_yet) ∙ sym (append_assoc ts (out v i) (yields w' left)),
            on.1 ∙ first_here w' both.1 false not_yet,
          );
    }

    -- it holds of the item at hand, where all ends
    pub along_stop : test v i ≡ true → (w : ℕ → W) × (w i ≡ v) × (yields w all ≡ ts ++ out v i) × (finds_first w all ≡ Some i)
    along_stop holds =
        let w : ℕ → W = put a.w i v in
        let both = put_agrees i a.w w v (λ x less. refl) in
        let on = a.goes w both.0 in (
          w,
          both.1,
          on.0 ∙ ap (λ (xs : List T). ts ++ xs) (here w both.1 true holds ∙ append-nil (out v i)),
          on.1 ∙ first_here w both.1 true holds,
        )

  -- no item is left
  pub along_through : (i : ℕ) (rest all : List ℕ) (ts : List T) (a : Along i rest all ts) → rest ≡ [] → (yields a.w all ≡ ts) × (finds_first a.w all ≡ None)
  along_through i rest all ts a is =
      let on = a.goes a.w (λ x less. refl) in
      (on.0 ∙ ap (λ (xs : List ℕ). ts ++ yields a.w xs) is ∙ append-nil ts, on.1 ∙ ap (finds_first a.w) is)
