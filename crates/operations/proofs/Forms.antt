-- Bytes of a form: as many as it has.
use mathlib.Core.Path.{◌≡◌, refl, ◌∙◌}
use mathlib.Core.Bool.{false}
use mathlib.Core.List.{List, [], ◌∷◌}
use Prim.Native.Nat.{ℕ}
use native.Mathlib.Omega.{arith}
use lib.ListN.{length}
use Rattle.std.proofs.lemmas.Bool.{and_right, or_from}
use Rattle.answers.specs.Lists.{All}
use Rattle.operations.specs.Operations.{Operation, a_request, a_group, a_bank, an_unlock, a_store, Values, has, bytes_of, forms_of, has_form, has_one, allowed}

-- Every form of an operation has as many bytes as the operation.
abbrev AsMany : ℕ → List Values → Type 0
AsMany n f = length f ≡ n

forms_counted : (o : Operation) → All (AsMany (bytes_of o)) (forms_of o)
forms_counted a_request = (refl, (refl, (refl, (refl, tt))))
forms_counted a_group = (refl, tt)
forms_counted a_bank = (refl, tt)
forms_counted an_unlock = (refl, tt)
forms_counted a_store = (refl, (refl, tt))

-- Bytes of another count have no form.
other_length : (f : List Values) (b : List ℕ) → (length b ≡ length f → ⊥) → has_form f b ≡ false
other_length [] [] h = absurd (h refl)
other_length [] (b ∷ bs) h = refl
other_length (v ∷ f) [] h = refl
other_length (v ∷ f) (b ∷ bs) h = and_right (has v b) (has_form f bs) (other_length f bs (λ e. h (omega arith)))

none_of : (n : ℕ) (fs : List (List Values)) (b : List ℕ) → All (AsMany n) fs → (length b ≡ n → ⊥) → has_one fs b ≡ false
none_of n [] b a h = refl
none_of n (f ∷ fs) b a h = or_from (has_form f b) (has_one fs b) (other_length f b (λ e. h (e ∙ a.0))) (none_of n fs b a.1 h)

pub other_count : (o : Operation) (b : List ℕ) → (length b ≡ bytes_of o → ⊥) → allowed o b ≡ false
unfolding allowed
other_count o b h = none_of (bytes_of o) (forms_of o) b (forms_counted o) h
