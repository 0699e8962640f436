-- Names: a character and its stored byte determine each other, and setting and showing go by the patch's fields.
use mathlib.Core.Path.{◌≡◌, refl, ap, ◌∙◌}
use mathlib.Core.Bool.{Bool, true, false, cond, ◌||◌}
use mathlib.Core.Option.{none}
use mathlib.Core.List.{List, [], ◌∷◌, ◌++◌, map}
use Prim.Native.Nat.{ℕ, zero, suc, ◌+◌, ◌-◌, ◌*◌, ◌≤◌}
use native.Mathlib.Omega.{arith}
use lib.Dec.{ltb}
use lib.ListN.{length, get_or, take, drop, length-map, length-append, length-drop, take-append-drop}
use lib.Seq.{length-take-le, take_at, get_or-append-add, get_or-drop}
use borrow.Author.Tests.{eq-eqb, lt-ltb, le-ltb, ltb-true, ltb-false}
use Rattle.answers.specs.declared.Outcome.{Outcome}
use Rattle.answers.specs.Table.{done, first, outcome}
use Rattle.answers.specs.Effect.{Effect, changed}
use Rattle.answers.specs.Lists.{All}
use Rattle.answers.proofs.Rows.{first_passed, row_silent, row_equal}
use Rattle.answers.proofs.Effects.{changed_silent, written_fits, written_done}
use Rattle.answers.specs.promises.Decides.{Silent}
use Rattle.patch.specs.Patch.{first_out, half_from, first_half, field_rows, patch_rows}
use Rattle.names.specs.Names.{name_rows, shown, stored, any_outside, naming, showing}
use Rattle.fields.proofs.Rules.{name_accepts, name_byte}
use Rattle.ranges.specs.Ranges.{out_from}
use Rattle.ranges.proofs.Runs.{one_in, one_more_in, none_out, out_join, out_split}
use Rattle.fields.specs.Fields.{fields}
use Rattle.patch.proofs.Tests.{patch_refusals, fields_pass, patch_length, patch_silent}

-- A name of eight allowed characters, set in 134 bytes, goes by the fields alone.
pub naming_fields : (p text : List ℕ) → length p ≡ 134 → length text ≡ 8 → any_outside text ≡ false
    → naming p text ≡ changed 0 (map stored text ++ drop 8 p) p (first (field_rows p) (done 0 [] []))
unfolding naming
naming_fields p text right eight inside = simp (eq-eqb _ _ right, eq-eqb _ _ eight, inside)

-- The name of a patch that passes its tests has eight characters.
pub length_shown : (p : List ℕ) → length p ≡ 134 → length (map shown (take 8 p)) ≡ 8
length_shown p e = length-map (take 8 p) shown ∙ length-take-le 8 p (omega arith)

-- A character of 32..95 is shown again as itself once it is stored.
pub shown_stored : (t : ℕ) → 32 ≤ t → t ≤ 95 → shown (stored t) ≡ t
unfolding shown stored
shown_stored t l h = go (ltb t 64) refl
  where
    go : (u : Bool) → ltb t 64 ≡ u → shown (cond u t (t - 64)) ≡ t
    go true q = simp (le-ltb t 32 l)
    go false q = let k = ltb-false t 64 q in simp (lt-ltb (t - 64) 32 (omega arith)) (omega arith)

-- Such a character is stored as a byte of 0..63.
pub stored_small : (t : ℕ) → 32 ≤ t → t ≤ 95 → stored t ≤ 63
unfolding stored
stored_small t l h = go (ltb t 64) refl
  where
    go : (u : Bool) → ltb t 64 ≡ u → cond u t (t - 64) ≤ 63
    go true q = let k = ltb-true t 64 q in omega arith
    go false q = omega arith

-- A byte of 0..63 is stored again as itself once it is shown.
pub stored_shown : (b : ℕ) → b ≤ 63 → stored (shown b) ≡ b
unfolding shown stored
stored_shown b h = go (ltb b 32) refl
  where
    go : (u : Bool) → ltb b 32 ≡ u → stored (cond u (b + 64) b) ≡ b
    go true q = simp (le-ltb (b + 64) 64 (omega arith)) (omega arith)
    go false q = simp (lt-ltb b 64 (omega arith))

-- Such a byte is shown as a character of 32..95.
pub shown_allowed : (b : ℕ) → b ≤ 63 → (32 ≤ shown b) × (shown b ≤ 95)
unfolding shown
shown_allowed b h = go (ltb b 32) refl
  where
    go : (u : Bool) → ltb b 32 ≡ u → (32 ≤ cond u (b + 64) b) × (cond u (b + 64) b ≤ 95)
    go true q = let k = ltb-true b 32 q in omega arith
    go false q = let k = ltb-false b 32 q in omega arith

-- What a text without a character outside says of its first, and of the rest.
allowed : (t : ℕ) (ts : List ℕ) → any_outside (t ∷ ts) ≡ false → (32 ≤ t) × ((t ≤ 95) × (any_outside ts ≡ false))
unfolding any_outside
allowed t ts e = go (ltb t 32) (ltb 95 t) refl refl e
  where
    go : (u v : Bool) → ltb t 32 ≡ u → ltb 95 t ≡ v → (u || v) || any_outside ts ≡ false → (32 ≤ t) × ((t ≤ 95) × (any_outside ts ≡ false))
    go true v q r e = let z : ◌≡◌ {A = ℕ} 0 1 = cc in absurd (omega arith)
    go false true q r e = let z : ◌≡◌ {A = ℕ} 0 1 = cc in absurd (omega arith)
    go false false q r e = (ltb-false t 32 q, (ltb-false 95 t r, e))

inside_cons : (t : ℕ) (ts : List ℕ) → 32 ≤ t → t ≤ 95 → any_outside ts ≡ false → any_outside (t ∷ ts) ≡ false
unfolding any_outside
inside_cons t ts l h e = simp (le-ltb t 32 l, le-ltb 95 t h, e)

no_text : any_outside [] ≡ false
unfolding any_outside
no_text = refl

-- The stored bytes of an allowed text are in range at the name's places.
stored_in : (k : ℕ) (text : List ℕ) → k + length text ≤ 8 → any_outside text ≡ false → out_from fields k (map stored text) ≡ none
stored_in k [] h e = none_out fields k
stored_in k (t ∷ ts) h e =
    let a = allowed t ts e in
    one_more_in fields k (stored t) (map stored ts) (name_accepts k (stored t) (omega arith) (stored_small t a.0 a.1.0))
    (stored_in (suc k) ts (omega arith) a.1.1)

half_same : (n b : ℕ) (p q : List ℕ) → ((j : ℕ) → 104 ≤ j → get_or p j 0 ≡ get_or q j 0) → half_from n b p ≡ half_from n b q
unfolding half_from
half_same zero b p q h = refl
half_same (suc n) b p q h =
    let source = h (104 + 3 * b) (omega arith) in
    let destination = h (106 + 3 * b) (omega arith) in
    let rest = half_same n (suc b) p q h in
    simp (source, destination, rest)

-- Behind the name the bytes stay where they are.
behind : (a p : List ℕ) (j : ℕ) → length a ≡ 8 → 8 ≤ j → get_or (a ++ drop 8 p) j 0 ≡ get_or p j 0
behind a p j e h =
    let at_a : length a + (j - 8) ≡ j = omega arith in
    let at_p : 8 + (j - 8) ≡ j = omega arith in
    let f = rw at_a at (get_or-append-add a (drop 8 p) (j - 8) 0) in
    f ∙ (rw at_p at (get_or-drop 8 p (j - 8) 0))

-- A patch that passes its tests still does once an allowed name is set in it.
pub named_accepted : (p text : List ℕ) → length p ≡ 134 → length text ≡ 8 → any_outside text ≡ false → first_out p ≡ none → first_half p ≡ none
    → (first_out (map stored text ++ drop 8 p) ≡ none) × (first_half (map stored text ++ drop 8 p) ≡ none)
named_accepted p text lp lt a e f =
    let name = map stored text in
    let ln : length name ≡ 8 = length-map text stored ∙ lt in
    let lk : length (take 8 p) ≡ 8 = length-take-le 8 p (omega arith) in
    let whole : out_from fields 0 (take 8 p ++ drop 8 p) ≡ none = rw (take-append-drop 8 p) e in
    let rest = (out_split fields 0 8 (take 8 p) (drop 8 p) (omega arith) whole).1 in
    let buses = half_same 10 0 (name ++ drop 8 p) p (λ j h. behind name p j ln (omega arith)) in
    (out_join fields 0 8 name (drop 8 p) (omega arith) (stored_in 0 text (omega arith) a) rest, buses ∙ f)

-- A name that is set is the name that is shown.
pub set_shown : (p text : List ℕ) → length text ≡ 8 → any_outside text ≡ false → map shown (take 8 (map stored text ++ drop 8 p)) ≡ text
set_shown p text l a = rw (take_at (map stored text) (drop 8 p) 8 (length-map text stored ∙ l)) (go text a)
  where
    go : (ts : List ℕ) → any_outside ts ≡ false → map shown (map stored ts) ≡ ts
    go [] e = refl
    go (t ∷ ts) e =
        let b = allowed t ts e in
        let first = shown_stored t b.0 b.1.0 in
        let rest = go ts b.1.1 in
        cc

-- The name's bytes from place k on, in range: each is of 0..63.
named_small : (k : ℕ) (bs : List ℕ) → k + length bs ≤ 8 → out_from fields k bs ≡ none → All (λ b. b ≤ 63) bs
named_small k [] h e = tt
named_small k (b ∷ bs) h e =
    let c = one_in fields k b bs e in
    (name_byte k b (omega arith) c.0, named_small (suc k) bs (omega arith) c.1)

name_small : (p : List ℕ) → length p ≡ 134 → first_out p ≡ none → All (λ b. b ≤ 63) (take 8 p)
name_small p l e =
    let lk : length (take 8 p) ≡ 8 = length-take-le 8 p (omega arith) in
    let whole : out_from fields 0 (take 8 p ++ drop 8 p) ≡ none = rw (take-append-drop 8 p) e in
    named_small 0 (take 8 p) (omega arith) (out_split fields 0 8 (take 8 p) (drop 8 p) (omega arith) whole).0

-- A name that is shown is allowed to be set.
pub shown_inside : (p : List ℕ) → length p ≡ 134 → first_out p ≡ none → any_outside (map shown (take 8 p)) ≡ false
shown_inside p l e = go (take 8 p) (name_small p l e)
  where
    go : (bs : List ℕ) → All (λ b. b ≤ 63) bs → any_outside (map shown bs) ≡ false
    go [] a = no_text
    go (b ∷ bs) a =
        let s = shown_allowed b a.0 in
        inside_cons (shown b) (map shown bs) s.0 s.1 (go bs a.1)

-- Setting it changes nothing.
pub shown_set : (p : List ℕ) → length p ≡ 134 → first_out p ≡ none → map stored (map shown (take 8 p)) ++ drop 8 p ≡ p
shown_set p l e = rw (go (take 8 p) (name_small p l e)) (take-append-drop 8 p)
  where
    go : (bs : List ℕ) → All (λ b. b ≤ 63) bs → map stored (map shown bs) ≡ bs
    go [] a = refl
    go (b ∷ bs) a =
        let first = stored_shown b a.0 in
        let rest = go bs a.1 in
        cc

-- Where they say nothing, the text's bytes are stored.
naming_done : (p text : List ℕ) → Silent (name_rows p text) → naming p text ≡ record { result = outcome 0 0; lent = map stored text ++ drop 8 p }
unfolding naming
naming_done p text a = ap (changed 0 (map stored text ++ drop 8 p) p) (first_passed (name_rows p text) (done 0 [] []) a)

-- Where setting is done, they say nothing.
name_taken : (p text : List ℕ) → (naming p text).result.answer ≡ 0 → Silent (name_rows p text)
unfolding naming
name_taken p text e = changed_silent 0 (map stored text ++ drop 8 p) p (name_rows p text) (omega arith) e

-- A name that is set is the name that is shown.
pub set_then_shown : (p text out : List ℕ) → (naming p text).result.answer ≡ 0 → 8 ≤ length out
    → showing (naming p text).lent out ≡ record { result = outcome 0 8; lent = text ++ drop 8 out }
unfolding showing
set_then_shown p text out e room =
    let a = name_taken p text e in
    let lp = row_equal 7 (length p) 134 a.0 in
    let lt = row_equal 7 (length text) 8 a.1.0 in
    let inside = row_silent 8 (any_outside text) a.1.1.0 in
    let f = fields_pass p a.1.1.1 in
    let q = map stored text ++ drop 8 p in
    let ok = named_accepted p text lp lt inside f.0 f.1 in
    let lq : length q ≡ 134 = simp (length-append, length-map, length-drop) (omega arith) in
    let name = set_shown p text lt inside in
    let fits : length (map shown (take 8 q)) ≤ length out = rw name (omega arith) in
    rw (naming_done p text a) (written_fits (patch_rows q) (map shown (take 8 q)) out (patch_silent q lq ok.0 ok.1) fits ∙ rw (name, lt))

-- A name that is shown and set again changes nothing.
pub shown_then_set : (p out : List ℕ) → (showing p out).result.answer ≡ 0
    → naming p (take 8 (showing p out).lent) ≡ record { result = outcome 0 0; lent = p }
unfolding showing
shown_then_set p out e =
    let bytes = map shown (take 8 p) in
    let a = written_done (patch_rows p) bytes out (patch_refusals p) e in
    let lp = patch_length p a.0 in
    let f = fields_pass p a.0.1 in
    let eight = length_shown p lp in
    let shows = ap (λ (x : Effect Outcome). x.lent) (written_fits (patch_rows p) bytes out a.0 a.1) in
    let silent : Silent (name_rows p bytes) =
    (rw (eq-eqb (length p) 134 lp), (rw (eq-eqb (length bytes) 8 eight), (rw (shown_inside p lp f.0), a.0.1))) in
    rw (shows, take_at bytes (drop (length bytes) out) 8 eight, naming_done p bytes silent, shown_set p lp f.0)
