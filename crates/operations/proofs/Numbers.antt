-- What the forms come to in numbers: a test of them that passes is one of them met, and back.
use mathlib.Core.Path.{◌≡◌, refl}
use mathlib.Core.Bool.{true, false}
use mathlib.Core.List.{List, [], ◌∷◌}
use mathlib.Core.Logic.{◌⊎◌, inl, inr}
use Prim.Native.Nat.{ℕ, ◌≤◌, ◌<◌}
use native.Mathlib.Omega.{arith}
use lib.Dec.{leb}
use lib.ListN.{length}
use Rattle.std.specs.Bool.{Decides}
use Rattle.std.proofs.lemmas.Bool.{false≢true, both_ways, eqb-true, eq-eqb, leb-true, le-leb, cases_eq, false_from_ne_true}
use Rattle.std.proofs.lemmas.Bool.Decides.{Decides-and, Decides-or}
use Rattle.answers.specs.Lists.{All}
use Rattle.operations.specs.Operations.{Operation, a_request, a_group, a_bank, an_unlock, a_store, Values, only, up_to, between, has}
use Rattle.operations.specs.Operations.{bytes_of, forms_of, has_form, has_one, allowed}
use Rattle.operations.specs.promises.Allowed.{Allowed}
use Rattle.operations.proofs.Forms.{other_count}

abbrev Met : Values → ℕ → Type 0
Met (only value) b = b ≡ value
Met (up_to greatest) b = b ≤ greatest
Met (between least greatest) b = (least ≤ b) × (b ≤ greatest)

abbrev FormMet : List Values → List ℕ → Type 0
FormMet [] [] = Unit {0}
FormMet [] (b ∷ bs) = ⊥
FormMet (v ∷ vs) [] = ⊥
FormMet (v ∷ vs) (b ∷ bs) = Met v b × FormMet vs bs

abbrev OneMet : List (List Values) → List ℕ → Type 0
OneMet [] b = ⊥
OneMet (f ∷ fs) b = FormMet f b ⊎ OneMet fs b

-- A test of bytes passes exactly where they meet the form.
never : Decides false ⊥
never = (false≢true, λ m. absurd m)

value_decides : (v : Values) (b : ℕ) → Decides (has v b) (Met v b)
value_decides (only value) b = (eqb-true b value, eq-eqb b value)
value_decides (up_to greatest) b = (leb-true b greatest, le-leb b greatest)
value_decides (between least greatest) b =
    Decides-and (leb least b) (leb b greatest) (leb-true least b, le-leb least b) (leb-true b greatest, le-leb b greatest)

form_decides : (f : List Values) (b : List ℕ) → Decides (has_form f b) (FormMet f b)
form_decides [] [] = (λ e. tt, λ m. refl)
form_decides [] (b ∷ bs) = never
form_decides (v ∷ vs) [] = never
form_decides (v ∷ vs) (b ∷ bs) = Decides-and (has v b) (has_form vs bs) (value_decides v b) (form_decides vs bs)

one_decides : (fs : List (List Values)) (b : List ℕ) → Decides (has_one fs b) (OneMet fs b)
one_decides [] b = never
one_decides (f ∷ fs) b = Decides-or (has_form f b) (has_one fs b) (form_decides f b) (one_decides fs b)

decides : (o : Operation) (b : List ℕ) → Decides (allowed o b) (OneMet (forms_of o) b)
unfolding allowed
decides o b = one_decides (forms_of o) b

-- Their values are data bytes.
abbrev greatest_of : Values → ℕ
greatest_of (only value) = value
greatest_of (up_to greatest) = greatest
greatest_of (between least greatest) = greatest

abbrev DataForm : List Values → Type 0
DataForm f = All (λ v. greatest_of v < 0x80) f

abbrev DataBytes : List ℕ → Type 0
DataBytes b = All (λ x. x < 0x80) b

value_seven : (v : Values) (b : ℕ) → greatest_of v < 0x80 → Met v b → b < 0x80
value_seven (only value) b h m = omega arith
value_seven (up_to greatest) b h m = omega arith
value_seven (between least greatest) b h m = omega arith

form_seven : (f : List Values) (b : List ℕ) → DataForm f → FormMet f b → DataBytes b
form_seven [] [] a m = tt
form_seven [] (b ∷ bs) a m = absurd m
form_seven (v ∷ vs) [] a m = absurd m
form_seven (v ∷ vs) (b ∷ bs) a m = (value_seven v b a.0 m.0, form_seven vs bs a.1 m.1)

one_seven : (fs : List (List Values)) (b : List ℕ) → All DataForm fs → OneMet fs b → DataBytes b
one_seven [] b a m = absurd m
one_seven (f ∷ fs) b a (inl m) = form_seven f b a.0 m
one_seven (f ∷ fs) b a (inr m) = one_seven fs b a.1 m

forms_seven : (o : Operation) → All DataForm (forms_of o)
forms_seven a_request = omega arith
forms_seven a_group = omega arith
forms_seven a_bank = omega arith
forms_seven an_unlock = omega arith
forms_seven a_store = omega arith

pub allowed_seven : (o : Operation) (b : List ℕ) → allowed o b ≡ true → DataBytes b
allowed_seven o b e = one_seven (forms_of o) b (forms_seven o) ((decides o b).0 e)

-- Another count of bytes has no form.
counted : (o : Operation) (b : List ℕ) → allowed o b ≡ true → length b ≡ bytes_of o
counted o b e =
    elim (cases_eq (length b) (bytes_of o)) [ inl q ↦ q | inr q ↦ absurd (both_ways (allowed o b) (other_count o b q) e) ]

abbrev Request : ℕ → ℕ → Type 0
Request k n = ((k ≡ 1) × (n ≤ 99)) ⊎ (((k ≡ 0) ⊎ ((k ≡ 3) ⊎ (k ≡ 4))) × (n ≡ 0))

request : (k n : ℕ) → OneMet (forms_of a_request) (k ∷ n ∷ []) → Request k n
request k n (inl m) = inr (inl m.0, m.1.0)
request k n (inr (inl m)) = inl (m.0, m.1.0)
request k n (inr (inr (inl m))) = inr (inr (inl m.0), m.1.0)
request k n (inr (inr (inr (inl m)))) = inr (inr (inr m.0), m.1.0)
request k n (inr (inr (inr (inr m)))) = absurd m

requested : (k n : ℕ) → Request k n → OneMet (forms_of a_request) (k ∷ n ∷ [])
requested k n (inl q) = inr (inl (q.0, (q.1, tt)))
requested k n (inr (inl e, z)) = inl (e, (z, tt))
requested k n (inr (inr (inl e), z)) = inr (inr (inl (e, (z, tt))))
requested k n (inr (inr (inr e), z)) = inr (inr (inr (inl (e, (z, tt)))))

group : (t i : ℕ) → OneMet (forms_of a_group) (t ∷ i ∷ []) → (2 ≤ t) × (t ≤ 6) × (i ≤ 5)
group t i (inl m) = (m.0.0, m.0.1, m.1.0)
group t i (inr m) = absurd m

bank : (b : ℕ) → OneMet (forms_of a_bank) (b ∷ []) → b ≤ 9
bank b (inl m) = m.0
bank b (inr m) = absurd m

store : (n b i : ℕ) → OneMet (forms_of a_store) (n ∷ b ∷ i ∷ []) → (n ≤ 99) × (b ≤ 9) × ((i ≤ 5) ⊎ (i ≡ 0x7F))
store n b i (inl m) = (m.0, m.1.0, inl m.1.1.0)
store n b i (inr (inl m)) = (m.0, m.1.0, inr m.1.1.0)
store n b i (inr (inr m)) = absurd m

stored : (n b i : ℕ) → (n ≤ 99) × (b ≤ 9) × ((i ≤ 5) ⊎ (i ≡ 0x7F)) → OneMet (forms_of a_store) (n ∷ b ∷ i ∷ [])
stored n b i (p, q, inl m) = inl (p, (q, (m, tt)))
stored n b i (p, q, inr m) = inr (inl (p, (q, (m, tt))))

-- 6 is none of the IDs.
six : (6 ≤ 5) ⊎ (◌≡◌ {A = ℕ} 6 0x7F) → ⊥
six (inl h) = omega arith
six (inr h) = omega arith

pub in_numbers : Allowed
in_numbers = record {
  request = λ k n. (λ e. request k n ((decides a_request (k ∷ n ∷ [])).0 e), λ q. (decides a_request (k ∷ n ∷ [])).1 (requested k n q));
  group = λ t i. (λ e. group t i ((decides a_group (t ∷ i ∷ [])).0 e), λ q. (decides a_group (t ∷ i ∷ [])).1 (inl ((q.0, q.1), (q.2, tt))));
  bank = λ b. (λ e. bank b ((decides a_bank (b ∷ [])).0 e), λ q. (decides a_bank (b ∷ [])).1 (inl (q, tt)));
  unlock = (decides an_unlock []).1 (inl tt);
  store = λ n b i. (λ e. store n b i ((decides a_store (n ∷ b ∷ i ∷ [])).0 e), λ q. (decides a_store (n ∷ b ∷ i ∷ [])).1 (stored n b i q));
  group_6 = λ t. false_from_ne_true _ (λ e. six (inl (group t 6 ((decides a_group (t ∷ 6 ∷ [])).0 e)).2));
  store_6 = λ n b. false_from_ne_true _ (λ e. six (store n b 6 ((decides a_store (n ∷ b ∷ 6 ∷ [])).0 e)).2);
  counted = counted;
}
