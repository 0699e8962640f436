-- Every byte that a field accepts is reached by some value of seven bits, so the edit that gives a part of a good patch the bytes of another good
-- patch is allowed. And every edit that is allowed changes one part.
use mathlib.Core.Path.{◌≡◌, refl, sym, ap, ◌∙◌, subst}
use mathlib.Core.Bool.{Bool, true, false, cond, ◌&&◌, ◌||◌}
use mathlib.Core.List.{List, [], ◌∷◌, ◌++◌}
use mathlib.Core.Logic.{◌⊎◌, inl, inr}
use mathlib.Core.Option.{none}
use Prim.Native.Nat.{ℕ, zero, suc, ◌+◌, ◌-◌, ◌%◌, ◌≤◌, ◌<◌}
use native.Mathlib.Omega.{arith}
use lib.Dec.{T, eqb, leb, leb→le}
use lib.ListN.{length, get_or}
use lib.Seq.{ext_get_or, get_or-take, length-take-le}
use borrow.Author.Tests.{lt-ltb, le-ltb, lt-leb, eqb-true, eqb-false}
use Rattle.answers.specs.declared.Outcome.{Outcome}
use Rattle.answers.specs.Table.{Row, done, first, says, outcome}
use Rattle.answers.specs.Effect.{Effect, tested}
use Rattle.answers.specs.promises.Decides.{Silent}
use Rattle.answers.proofs.Lists.{all_append}
use Rattle.answers.proofs.Rows.{first_passed, done_passed, silent_parts, answered_silent, tested_passed}
use Rattle.ranges.specs.Ranges.{between, in_row, out_from}
use Rattle.ranges.proofs.Below.{each, at, parts as both}
use Rattle.ranges.proofs.Between.{Lies, plain, positive, negative, lies}
use Rattle.ranges.proofs.Runs.{one_in, one_more_in, none_out}
use Rattle.fields.specs.Fields.{fields, parameter_at, least_at, greatest_at, in_range}
use Rattle.fields.proofs.Rules.{parameter_place, place_is_found}
use Rattle.patch.specs.Patch.{source_at, amount_at, destination_at, half_used, patch_rows}
use Rattle.patch.proofs.Tests.{patch_refusals, patch_length, fields_pass}
use Rattle.patch.proofs.Accepted.{Whole, each_whole}
use Rattle.edits.specs.Edits.{extended, stored_for, edit_rows, bus_rows, applying, applying_bus}
use Rattle.edits.specs.code.Value.{value_rows}
use Rattle.edits.specs.promises.Done.{EditDone, BusDone}
use Rattle.edits.proofs.Tests.{rows_at}
use Rattle.edits.proofs.Laws.{edit_done, bus_done, edit_own_field, bus_own_field}
use Rattle.pairs.specs.Pairs.{name_of}
use Rattle.edit_lists.specs.Lists.{Edit, remote, matrix, applied}
use Rattle.edit_lists.specs.Plan.{width_of, bus_at, sent, reaching_bus, reaching}
use Rattle.edit_lists.specs.promises.Shortest.{Good}
use Rattle.edit_lists.specs.code.Left.{IsPart}
use Rattle.edit_lists.proofs.Parts.{part_kind, width_field, width_bus}

-- A byte below 64, or of 192..255, is the extension of its seven low bits.
seven_low : (b : ℕ) → b < 64 → extended (sent b) ≡ b
unfolding extended
seven_low b h = let same : b % 128 ≡ b = omega arith in rw (same, lt-ltb b 64 h)

seven_high : (b : ℕ) → 192 ≤ b → b < 256 → extended (sent b) ≡ b
unfolding extended
seven_high b l h =
    let same : b % 128 ≡ b - 128 = omega arith in
    let back : b - 128 + 128 ≡ b = omega arith in
    rw (same, le-ltb (b - 128) 64 (omega arith)) back

-- A range from 0..63 upwards at most, or from 192 at least through 255 to at most 63.
abbrev short : ℕ → ℕ → Bool
short least greatest = leb greatest 63 && (leb least greatest || leb 192 least)

either : (s t : Bool) → T (s || t) → s ≡ false → T t
either true t h e = let z : ◌≡◌ {A = ℕ} 0 1 = cc in absurd (omega arith)
either false t h e = h

short_reached : (least greatest b : ℕ) → T (short least greatest) → between least greatest b ≡ true → extended (sent b) ≡ b
short_reached least greatest b t e = go (lies least greatest b e)
  where
    h : T (leb greatest 63) × T (leb least greatest || leb 192 least)
    h = both (leb greatest 63) (leb least greatest || leb 192 least) t

    top : greatest ≤ 63
    top = leb→le greatest 63 h.0

    go : Lies least greatest b → extended (sent b) ≡ b
    go (plain l₁ l₂ l₃ l₄) = let u = top in seven_low b (omega arith)
    go (positive l₁ l₂ l₃) = let u = top in seven_low b (omega arith)
    go (negative l₁ l₂ l₃) =
        let u = leb→le 192 least (either (leb least greatest) (leb 192 least) h.1 (lt-leb least greatest l₁)) in
        seven_high b (omega arith) l₃

below_128 : (least greatest b : ℕ) → T (leb least greatest && leb greatest 127) → between least greatest b ≡ true → sent b ≡ b
below_128 least greatest b t e = go (lies least greatest b e)
  where
    h : T (leb least greatest) × T (leb greatest 127)
    h = both (leb least greatest) (leb greatest 127) t

    order : least ≤ greatest
    order = leb→le least greatest h.0

    top : greatest ≤ 127
    top = leb→le greatest 127 h.1

    go : Lies least greatest b → sent b ≡ b
    go (plain l₁ l₂ l₃ l₄) = let u = top in omega arith
    go (positive l₁ l₂ l₃) = let u = order in absurd (omega arith)
    go (negative l₁ l₂ l₃) = let u = order in absurd (omega arith)

-- What the table has to say behind the name: parameter 21 goes to 127 at most, and every other range is short.
abbrev reach_right : ℕ → Bool
reach_right j =
    let k = 8 + j in
    cond (eqb (parameter_at k) 21) (leb (least_at k) (greatest_at k) && leb (greatest_at k) 127) (short (least_at k) (greatest_at k))

all_reached : T (each reach_right 126)
unfolding fields
all_reached = tt

-- Every byte in range behind the name is what its parameter stores of some seven bits.
pub byte_reached : (k b : ℕ) → 8 ≤ k → k < 134 → in_range k b ≡ true → stored_for (parameter_at k) (sent b) ≡ b
unfolding in_row stored_for
byte_reached k b l u e =
    let same : 8 + (k - 8) ≡ k = omega arith in
    go (eqb (parameter_at k) 21) refl (rw same at (at reach_right 126 all_reached (k - 8) (omega arith)))
  where
    go : (t : Bool) → eqb (parameter_at k) 21 ≡ t
        → T (cond t (leb (least_at k) (greatest_at k) && leb (greatest_at k) 127) (short (least_at k) (greatest_at k)))
        → cond t (sent b) (extended (sent b)) ≡ b
    go true q t = below_128 (least_at k) (greatest_at k) b t e
    go false q t = short_reached (least_at k) (greatest_at k) b t e

-- Each byte of a patch without one out of range is in range.
in_at : (j i : ℕ) (p : List ℕ) → out_from fields j p ≡ none → i < length p → in_range (j + i) (get_or p i 0) ≡ true
in_at j i [] e h = absurd (omega arith)
in_at j zero (x ∷ p) e h = let same : j + 0 ≡ j = omega arith in rw same (one_in fields j x p e).0
in_at j (suc i) (x ∷ p) e h =
    let same : j + suc i ≡ suc j + i = omega arith in
    rw same (in_at (suc j) i p (one_in fields j x p e).1 (omega arith))

-- A patch is good or not, by what its tests answer.
pub good_answer : (p : List ℕ) → (tested (patch_rows p)).answer ≡ 0 → Good p
good_answer p z = tested_passed (patch_rows p) (answered_silent (patch_rows p) (patch_refusals p) z)

pub by_good : {P : Type 0} (p : List ℕ) → (Good p → P) → ((Good p → ⊥) → P) → P
by_good {P} p is isnt = go (eqb (tested (patch_rows p)).answer 0) refl
  where
    go : (t : Bool) → eqb (tested (patch_rows p)).answer 0 ≡ t → P
    go true q = is (good_answer p (eqb-true (tested (patch_rows p)).answer 0 q))
    go false q = isnt (λ g. eqb-false (tested (patch_rows p)).answer 0 q (ap (λ r. r.answer) g))

-- What a good patch is.
module _ (p : List ℕ) (g : Good p) where
  pub good_silent : Silent (patch_rows p)
  good_silent = answered_silent (patch_rows p) (patch_refusals p) (ap (λ r. r.answer) g)

  pub good_length : length p ≡ 134
  good_length = patch_length p good_silent

  pub good_range : (i : ℕ) → i < 134 → in_range i (get_or p i 0) ≡ true
  good_range i h =
      let l = good_length in
      let same : 0 + i ≡ i = omega arith in
      rw same at (in_at 0 i p (fields_pass p good_silent.1).0 (omega arith))

  good_whole : (c : ℕ) → c < 10 → Whole p c
  good_whole c h = each_whole 10 0 p (fields_pass p good_silent.1).1 c (omega arith) (omega arith)

-- A patch p becomes q by a change of one part: every byte before it and behind it stays, and q is good.
pub record Changes (x : ℕ) (p q : List ℕ) : Type 0 where
  pub part : IsPart x
  pub size : length p ≡ 134
  pub good : Good q
  pub before : (i : ℕ) → i < x → get_or q i 0 ≡ get_or p i 0
  pub behind : (i : ℕ) → x + width_of x ≤ i → get_or q i 0 ≡ get_or p i 0

-- So the name stays.
pub name_stays : (x : ℕ) (p q : List ℕ) → Changes x p q → name_of p ≡ name_of q
name_stays x p q c =
    let lp = length-take-le 8 p (omega (arith, c.size)) in
    let lq = length-take-le 8 q (omega (arith, good_length q c.good)) in
    let l = c.part.0 in
    ext_get_or 0 (name_of p) (name_of q) (lp ∙ sym lq)
    (λ i h. get_or-take 8 p i 0 (omega arith) ∙ sym (c.before i (omega arith)) ∙ sym (get_or-take 8 q i 0 (omega arith)))

-- The patch of an edit that is done has its length.
patch_of : (rows : List Row) (p : List ℕ) → first (rows ++ patch_rows p) (done 0 [] []) ≡ done 0 [] [] → length p ≡ 134
patch_of rows p e = patch_length p (silent_parts rows (patch_rows p) (done_passed (rows ++ patch_rows p) (done 0 [] []) 0 [] [] e).0).1

-- A remote edit that is done changes the byte of its parameter.
field_changes : (n v : ℕ) (p : List ℕ) (d : EditDone n v p) → length p ≡ 134 → Changes d.place p (applying n v p).lent
field_changes n v p d l =
    let s = place_is_found n d.place d.found in
    let high = s.high in
    let w = width_field d.place high in
    record {
      part = (s.low, omega arith, λ u. absurd (omega arith));
      size = l;
      good = d.accepted;
      before = λ i h. d.others i (λ e. omega arith);
      behind = λ i h. d.others i (λ e. omega arith);
    }

-- A bus begins at its source.
pub bus_there : (c : ℕ) → c < 10 → bus_at (source_at c) ≡ c
bus_there c h = omega arith

bus_proper : (c : ℕ) → c < 10 → IsPart (source_at c)
bus_proper c h = (omega arith, omega arith, λ u. ap source_at (sym (bus_there c h)))

-- A matrix modulation edit that is done changes its bus.
bus_changes : (b s a d : ℕ) (p : List ℕ) → BusDone b s a d p → length p ≡ 134 → Changes (source_at b) p (applying_bus b s a d p).lent
bus_changes b s a d p r l =
    let h = r.bus in
    let w = width_bus (source_at b) (omega arith) in
    record {
      part = bus_proper b (omega arith);
      size = l;
      good = r.accepted;
      before = λ i k. r.others i (λ e. omega arith) (λ e. omega arith) (λ e. omega arith);
      behind = λ i k. r.others i (λ e. omega arith) (λ e. omega arith) (λ e. omega arith);
    }

-- Every edit that is allowed changes one part.
pub one_changed : (e : Edit) (p : List ℕ) → (applied e p).result.answer ≡ 0 → (x : ℕ) × Changes x p (applied e p).lent
one_changed (remote n v) p z =
    let e = edit_done n v p z in
    let d = edit_own_field n v p e in
    (d.place, field_changes n v p d (patch_of (edit_rows n v) p e))
one_changed (matrix b s a d) p z =
    let e = bus_done b s a d p z in
    (source_at b, bus_changes b s a d p (bus_own_field b s a d p e) (patch_of (bus_rows b s a d) p e))

-- And it is answered by 0 with detail 0.
pub allowed_outcome : (e : Edit) (p : List ℕ) → (applied e p).result.answer ≡ 0 → (applied e p).result ≡ outcome 0 0
allowed_outcome (remote n v) p z = (edit_own_field n v p (edit_done n v p z)).answered
allowed_outcome (matrix b s a d) p z = (bus_own_field b s a d p (bus_done b s a d p z)).answered

-- The edit that gives a part of p the bytes it has in b: allowed, and the part then has them.
pub record Gets (x : ℕ) (p b : List ℕ) (f : Effect Outcome) : Type 0 where
  pub allowed : f.result.answer ≡ 0
  pub changes : Changes x p f.lent
  pub there : (i : ℕ) → x ≤ i → i < x + width_of x → get_or f.lent i 0 ≡ get_or b i 0

small : (b : ℕ) → sent b ≤ 127
small b = omega arith

both_silent : (rows : List Row) (p : List ℕ) → Silent rows → Good p → first (rows ++ patch_rows p) (done 0 [] []) ≡ done 0 [] []
both_silent rows p s g =
    first_passed (rows ++ patch_rows p) (done 0 [] []) (all_append (λ (r : Row). says r ≡ none) rows (patch_rows p) s (good_silent p g))

value_silent : (k n v : ℕ) → v ≤ 127 → in_range k (stored_for n v) ≡ true → Silent (value_rows k n v)
unfolding value_rows
value_silent k n v l e = (rw (le-ltb 127 v l), (rw (one_more_in fields k (stored_for n v) [] e (none_out fields (suc k))), tt))

-- The edit that reaches a parameter of a good patch passes its own tests.
field_rows_hold : (k : ℕ) (b : List ℕ) → 8 ≤ k → k < 104 → Good b → Silent (edit_rows (parameter_at k) (sent (get_or b k 0)))
field_rows_hold k b l u f =
    let n = parameter_at k in
    let v = sent (get_or b k 0) in
    let is_in_range = good_range b f k (omega arith) in
    let stored = byte_reached k (get_or b k 0) l (omega arith) is_in_range in
    subst Silent (sym (rows_at n v k (parameter_place k l u))) (value_silent k n v (small (get_or b k 0)) (rw stored is_in_range))

reaching_field : (k : ℕ) (b : List ℕ) → k < 104 → reaching b k ≡ remote (parameter_at k) (sent (get_or b k 0))
reaching_field k b h = rw (lt-ltb k 104 h)

field_gets : (k : ℕ) (p b : List ℕ) → 8 ≤ k → k < 104 → Good p → Good b → Gets k p b (applying (parameter_at k) (sent (get_or b k 0)) p)
field_gets k p b l u g f =
    let n = parameter_at k in
    let v = sent (get_or b k 0) in
    let sits = parameter_place k l u in
    let stored = byte_reached k (get_or b k 0) l (omega arith) (good_range b f k (omega arith)) in
    let d = edit_own_field n v p (both_silent (edit_rows n v) p (field_rows_hold k b l u f) g) in
    let found = d.found in
    let same : d.place ≡ k = cc in
    let w = width_field k u in
    record {
      allowed = ap (λ r. r.answer) d.answered;
      changes = subst (λ (j : ℕ). Changes j p (applying n v p).lent) same (field_changes n v p d (good_length p g));
      there = λ i h j. let here : i ≡ d.place = omega arith in rw here (d.own ∙ stored ∙ ap (λ (m : ℕ). get_or b m 0) (sym same));
    }

bus_silent : (b s a d : ℕ) → b ≤ 9 → a ≤ 127 → out_from fields (source_at b) (s ∷ extended a ∷ d ∷ []) ≡ none → half_used s d ≡ false
    → Silent (bus_rows b s a d)
unfolding bus_rows
bus_silent b s a d h l o w = (rw (le-ltb 9 b h, le-ltb 127 a l), (rw o, (rw w, tt)))

-- No parameter has an amount of a bus.
no_parameter : T (each (λ c. eqb (parameter_at (amount_at c)) 255) 10)
unfolding fields
no_parameter = tt

-- So the edit that reaches a bus passes its tests; its amount goes out in seven bits.
amount_stored : (c : ℕ) (b : List ℕ) → c < 10 → Good b → extended (sent (get_or b (amount_at c) 0)) ≡ get_or b (amount_at c) 0
unfolding stored_for
amount_stored c b h f =
    let k = amount_at c in
    let none_there = holds (eqb (parameter_at k) 255) (at (λ c. eqb (parameter_at (amount_at c)) 255) 10 no_parameter c h) in
    rw (eqb-true (parameter_at k) 255 none_there) at (byte_reached k (get_or b k 0) (omega arith) (omega arith) (good_range b f k (omega arith)))
  where
    holds : (t : Bool) → T t → t ≡ true
    holds true h = refl
    holds false h = elim h [ ]

bus_rows_hold : (c : ℕ) (b : List ℕ) → c < 10 → Good b
    → Silent (bus_rows c (get_or b (source_at c) 0) (sent (get_or b (amount_at c) 0)) (get_or b (destination_at c) 0))
bus_rows_hold c b h f =
    let s = get_or b (source_at c) 0 in
    let a = sent (get_or b (amount_at c) 0) in
    let d = get_or b (destination_at c) 0 in
    let k₁ : suc (source_at c) ≡ amount_at c = omega arith in
    let k₂ : suc (suc (source_at c)) ≡ destination_at c = omega arith in
    let none_behind = none_out fields (suc (suc (suc (source_at c)))) in
    let o₂ = one_more_in fields (suc (suc (source_at c))) d [] (rw k₂ (good_range b f (destination_at c) (omega arith))) none_behind in
    let o₁ =
    one_more_in fields (suc (source_at c)) (extended a) (d ∷ []) (rw (k₁, amount_stored c b h f) (good_range b f (amount_at c) (omega arith))) o₂ in
    let o₀ = one_more_in fields (source_at c) s (extended a ∷ d ∷ []) (good_range b f (source_at c) (omega arith)) o₁ in
    bus_silent c s a d (omega arith) (small (get_or b (amount_at c) 0)) o₀ (good_whole b f c h)

-- The bytes of a bus are its three.
three : (c : ℕ) (q b : List ℕ) → get_or q (source_at c) 0 ≡ get_or b (source_at c) 0 → get_or q (amount_at c) 0 ≡ get_or b (amount_at c) 0
    → get_or q (destination_at c) 0 ≡ get_or b (destination_at c) 0 → (i : ℕ) → source_at c ≤ i → i < source_at c + 3 → get_or q i 0 ≡ get_or b i 0
three c q b e₀ e₁ e₂ i l u = go (eqb i (source_at c)) (eqb i (amount_at c)) refl refl
  where
    go : (t u : Bool) → eqb i (source_at c) ≡ t → eqb i (amount_at c) ≡ u → get_or q i 0 ≡ get_or b i 0
    go true w q₀ q₁ = let same = eqb-true i (source_at c) q₀ in rw same e₀
    go false true q₀ q₁ = let same = eqb-true i (amount_at c) q₁ in rw same e₁
    go false false q₀ q₁ =
        let n₀ = eqb-false i (source_at c) q₀ in
        let n₁ = eqb-false i (amount_at c) q₁ in
        let same : i ≡ destination_at c = omega arith in
        rw same e₂

bus_gets : (c : ℕ) (p b : List ℕ) → c < 10 → Good p → Good b → Gets (source_at c) p b (applied (reaching_bus b c) p)
bus_gets c p b h g f =
    let s = get_or b (source_at c) 0 in
    let a = sent (get_or b (amount_at c) 0) in
    let d = get_or b (destination_at c) 0 in
    let r = bus_own_field c s a d p (both_silent (bus_rows c s a d) p (bus_rows_hold c b h f) g) in
    let w = width_bus (source_at c) (omega arith) in
    record {
      allowed = ap (λ r. r.answer) r.answered;
      changes = bus_changes c s a d p r (good_length p g);
      there = λ i l u. three c (applying_bus c s a d p).lent b r.source (r.amount ∙ amount_stored c b h f) r.destination i l (omega arith);
    }

pub bus_reached : (k : ℕ) (b : List ℕ) → 104 ≤ k → reaching b k ≡ reaching_bus b (bus_at k)
bus_reached k b h = rw (le-ltb k 104 h)

-- Between good patches every part can be given its bytes.
pub part_gets : (x : ℕ) (p b : List ℕ) → IsPart x → Good p → Good b → Gets x p b (applied (reaching b x) p)
part_gets x p b part g f = go (part_kind x part)
  where
    go : (x < 104) ⊎ ((104 ≤ x) × (x ≡ source_at (bus_at x)) × (bus_at x < 10)) → Gets x p b (applied (reaching b x) p)
    go (inl h) = rw (reaching_field x b h) (field_gets x p b part.0 h g f)
    go (inr h) =
        rw (bus_reached x b h.0)
        (subst (λ (y : ℕ). Gets y p b (applied (reaching_bus b (bus_at x)) p)) (sym h.1) (bus_gets (bus_at x) p b h.2 g f))
