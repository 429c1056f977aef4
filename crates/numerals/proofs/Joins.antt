-- Texts in a row, one more at the end.
use Rattle.std.proofs.Common.{◌≡◌, ℕ, ◌+◌, ◌<◌, List, [], ◌∷◌, ◌++◌, map, length, get_or, take, sym, refl, ap, ◌∙◌, append_assoc, append-nil}
use mathlib.Core.List.{map-append}
use Rattle.std.specs.List.{concat}
use Rattle.std.proofs.lemmas.List.{take_more}

joined_append : (xs ys : List (List ℕ)) → concat (xs ++ ys) ≡ concat xs ++ concat ys
joined_append [] ys = refl
joined_append (x ∷ xs) ys = ap (λ (l : List ℕ). x ++ l) (joined_append xs ys) ∙ sym (append_assoc x (concat xs) (concat ys))

pub joined_more : {X : Type 0} (f : X → List ℕ) (xs : List X) (i : ℕ) (d : X) → i < length xs → concat (map f (take (i + 1) xs)) ≡ concat (map f (take i xs)) ++ f (get_or xs i d)
joined_more f xs i d h =
    ap (λ l. concat (map f l)) (take_more xs i d h)
    ∙ ap concat (map-append f (take i xs) (get_or xs i d ∷ []))
    ∙ joined_append (map f (take i xs)) (f (get_or xs i d) ∷ [])
    ∙ ap (λ (l : List ℕ). concat (map f (take i xs)) ++ l) (append-nil (f (get_or xs i d)))
