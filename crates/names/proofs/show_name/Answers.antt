-- The patch's tests, then the output's room; a patch that passes has eight characters to show.
use Rattle.std.proofs.Common.{◌≡◌, ℕ, ◌<◌, ◌≤◌, List, map, length, length-take-le, take, refl, ap, ◌∙◌, rules, arith, ne_eqb}
use Rattle.std.proofs.lemmas.Result.{err_from_is_err_and}
use Rattle.answers.specs.declared.Refusal.TheVariants.{WrongLength, NoRoom}
use Rattle.answers.specs.Table.{outcome}
use Rattle.answers.specs.Refusals.{outcome_by}
use Rattle.answers.proofs.Effects.{gives_stopped, gives_short, gives_written}
use Rattle.answers.proofs.Refusals.{never_done, done_silent}
use Rattle.answers.specs.promises.Decides.{Silent}
use Rattle.patch.specs.Patch.{patch_rows}
use Rattle.patch.proofs.Tests.{patch_refusals, patch_length}
use Rattle.names.specs.Names.{shown, showing}
use Rattle.names.proofs.Laws.{length_shown}
use Rattle.names.proofs.Mapped.{mapped}
use Rattle.names.proofs.show_name.Goals.{In_err-name, In_ok-name, In_ok-test, In_err-room, In_ok-room}
use Rattle.names.proofs.show_name.Goals as goal

abbrev bytes_of : List ℕ → List ℕ
bytes_of patch = map shown (take 8 patch)

-- A patch without eight bytes has another length; the eight bytes are its first.

other : (c : In_err-name) → length c.args.p.now ≡ 134 → ⊥
other c e = let short : length c.args.p.now < 8 = search rules in omega arith

why : (c : In_err-name) → c.in_err-name.field-0.0 ≡ WrongLength
why c = search rules

front : (c : In_ok-name) → c.in_ok-name.name.now ≡ take 8 c.args.p.now
front c = search rules

-- So it is with the output's room.

no_room : (c : In_err-room) → length c.args.out.now < 8
no_room c = search rules

why_room : (c : In_err-room) → c.in_err-room.field-0.0 ≡ NoRoom
why_room c = search rules

room : (c : In_ok-room) → 8 ≤ length c.args.out.now
room c = search rules

silent : (c : In_ok-test) → Silent (patch_rows c.args.p.now)
silent c = done_silent (patch_rows c.args.p.now) 0 (patch_refusals c.args.p.now) c.in_ok-test.ensures

pub returns-in_err-name : goal.returns-in_err-name
unfolding showing
returns-in_err-name c =
    let patch = c.args.p.now in
    let p = err_from_is_err_and c.from_residual.result c.from_residual.ensures.1 in
    let s = (goal.at.returns-in_err-name c).In_err-name in
    let long = ne_eqb _ _ (other s) in
    rw (p.1, p.2, why s) (gives_stopped (patch_rows patch) (bytes_of patch) c.args.out.now (outcome 7 0) (simp long) (λ z. omega (arith, z)))

pub returns-in_err-test : goal.returns-in_err-test
unfolding showing
returns-in_err-test c =
    let patch = c.args.p.now in
    let p = err_from_is_err_and c.from_residual-in_err-test.result c.from_residual-in_err-test.ensures.1 in
    let refusal = c.in_err-test.field-0.0 in
    rw (p.1, p.2)
    (gives_stopped (patch_rows patch) (bytes_of patch) c.args.out.now (outcome_by refusal) c.in_err-test.ensures (never_done refusal))

pub returns-in_err-room : goal.returns-in_err-room
unfolding showing
returns-in_err-room c =
    let patch = c.args.p.now in
    let p = err_from_is_err_and c.from_residual-in_err-room.result c.from_residual-in_err-room.ensures.1 in
    let at = goal.at.returns-in_err-room c in
    let passes = silent at.In_ok-test in
    let size = length_shown patch (patch_length patch passes) in
    rw (p.1, p.2, why_room at.In_err-room)
    (gives_short (patch_rows patch) (bytes_of patch) c.args.out.now 8 _ size passes (no_room at.In_err-room) refl)

pub returns : goal.returns
unfolding showing
returns c =
    let patch = c.args.p.now in
    let at = goal.at.returns c in
    let passes = silent at.In_ok-test in
    let l = patch_length patch passes in
    let name = c.in_ok-name.name.now in
    let same = front at.In_ok-name in
    let eight = length-take-le 8 patch (omega arith) in
    let written = mapped shown name c.map.result 8 (rw same eight) c.map.ensures.items (λ f x y g k. search rules) in
    let new : c.map.result ≡ bytes_of patch = written ∙ ap (map shown) same in
    let size = length_shown patch l in
    gives_written (patch_rows patch) (bytes_of patch) c.args.out.now _ 8 _ size passes (room at.In_ok-room) refl (rw (size, new) refl)
