-- The tests in the definition's order; each refusal leaves the patch, and the last step stores the text's bytes.
use Rattle.std.proofs.Common.{◌≡◌, ℕ, List, [], ◌++◌, map, length, drop, sym, refl, ap, ◌∙◌, rules, eq-eqb, ne_eqb}
use Rattle.std.proofs.lemmas.Result.{err_from_is_err_and}
use Rattle.answers.specs.declared.Refusal.TheVariants.{WrongLength}
use Rattle.answers.specs.Table.{done, first}
use Rattle.answers.specs.Effect.{changed}
use Rattle.answers.specs.Refusals.{outcome_by}
use Rattle.answers.proofs.Effects.{gives_kept, gives_changed}
use Rattle.answers.proofs.Refusals.{never_done, done_silent}
use Rattle.patch.specs.Patch.{field_rows}
use Rattle.patch.proofs.Tests.{field_refusals, fields_tested}
use Rattle.names.specs.Names.{naming, stored}
use Rattle.names.proofs.Laws.{naming_fields}
use Rattle.names.proofs.Mapped.{mapped}
use Rattle.names.proofs.set_name.Goals.{In_err-name, In_ok-name, After-test}
use Rattle.names.proofs.set_name.Goals as goal

-- A text that is no name has another length; one that is has eight characters.

other : (c : In_err-name) → length c.args.text.now ≡ 8 → ⊥
other c = search rules

why : (c : In_err-name) → c.in_err-name.field-0.0 ≡ WrongLength
why c = search rules

eight : (c : In_ok-name) → length c.args.text.now ≡ 8
eight c = search rules

whole : (c : In_ok-name) → c.in_ok-name.name.now ≡ c.args.text.now
whole c = search rules

pub returns-then-p-ne-SIZE : goal.returns-then-p-ne-SIZE
unfolding naming
returns-then-p-ne-SIZE c = let long = ne_eqb _ _ c.if-p-ne-SIZE.true in record { result = simp long; lent = simp long }

pub returns-in_err-name : goal.returns-in_err-name
unfolding naming
returns-in_err-name c =
    let p = err_from_is_err_and c.from_residual.result c.from_residual.ensures.1 in
    let s = (goal.at.returns-in_err-name c).In_err-name in
    let right = eq-eqb _ _ c.if-p-ne-SIZE.false in
    let long = ne_eqb _ _ (other s) in
    rw (p.1, p.2, why s) (record { result = simp (right, long); lent = simp (right, long) })

pub returns-then-any_outside : goal.returns-then-any_outside
unfolding naming
returns-then-any_outside c =
    let right = eq-eqb _ _ c.if-p-ne-SIZE.false in
    let long = eq-eqb _ _ (eight (goal.at.returns-then-any_outside c).In_ok-name) in
    let outside = sym c.any_outside.ensures ∙ c.if-any_outside.true in
    record { result = simp (right, long, outside); lent = simp (right, long, outside) }

-- Where the fields have been tested, both lengths and the characters have passed.

abbrev named : After-test → List ℕ
named c = map stored c.args.text.now ++ drop 8 c.args.p.now

passed : (c : After-test) → length c.args.text.now ≡ 8
    → naming c.args.p.now c.args.text.now ≡ changed 0 (named c) c.args.p.now (first (field_rows c.args.p.now) (done 0 [] []))
passed c l = naming_fields c.args.p.now c.args.text.now c.if-p-ne-SIZE.false l (sym c.any_outside.ensures ∙ c.if-any_outside.false)

pub returns-in_err-test : goal.returns-in_err-test
returns-in_err-test c =
    let p = err_from_is_err_and c.from_residual-in_err-test.result c.from_residual-in_err-test.ensures.1 in
    let at = goal.at.returns-in_err-test c in
    let patch = c.args.p.now in
    let refusal = c.in_err-test.field-0.0 in
    rw (p.1, p.2, passed at.After-test (eight at.In_ok-name))
    (gives_kept 0 (named at.After-test) patch (field_rows patch) [] (done 0 [] []) (outcome_by refusal)
    (c.in_err-test.ensures ∙ fields_tested patch c.if-p-ne-SIZE.false) (never_done refusal))

pub returns : goal.returns
returns c =
    let at = goal.at.returns c in
    let patch = c.args.p.now in
    let rows = field_rows patch in
    let name = c.in_ok-name.name.now in
    let l = eight at.In_ok-name in
    let same = whole at.In_ok-name in
    let bytes = mapped stored name c.map.result 8 (rw same l) c.map.ensures.items (λ f x y g k. search rules) in
    let new = c.copy_from_slice.ensures.after ∙ bytes ∙ ap (map stored) same in
    let lent = ap (λ (b : List ℕ). b ++ drop 8 patch) new in
    let silent = done_silent rows 0 (field_refusals patch) (c.in_ok-test.ensures ∙ fields_tested patch c.if-p-ne-SIZE.false) in
    rw (passed at.After-test l) (gives_changed 0 (named at.After-test) patch rows _ _ silent refl lent)
