-- What `map` of an array gives, where each call gives f of its element.
use Rattle.std.proofs.Common.{◌≡◌, ℕ, List, map, length, sym, ◌∙◌, arith}
use Rattle.std.specs.Fn.{Called}
use Rattle.std.specs.Array.{IsMapOf}
use denote.Param.Members.{Mut}
use Rattle.std.proofs.lemmas.Grind.{same_number_lists}
use Rattle.std.proofs.lemmas.List.{length-map, get_or-map}

pub mapped : {F : Type 0} {g : Mut F (ℕ × Unit {0}) ℕ} {h : F} (f : ℕ → ℕ) (xs ys : List ℕ) (n : ℕ)
    → length xs ≡ n → IsMapOf g h xs ys n → ((p : F) (x y : ℕ) (q : F) → Called g p (x, tt) y q → y ≡ f x) → ys ≡ map f xs
mapped f xs ys n l m each =
    same_number_lists ys (map f xs) (omega (arith, m.long, length-map xs f)) (λ k b.
    let c = m.at k 0 0 (omega (arith, m.long)) in
    each c.0 _ _ c.1 c.2 ∙ sym (get_or-map f xs k 0 0 (omega (arith, m.long))))
