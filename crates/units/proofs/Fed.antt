-- A unit that is fed an operation as our writer writes it: the walk finds that message and accepts it, and it does what its bytes say.
use mathlib.Core.Path.{◌≡◌, refl, ◌∙◌}
use mathlib.Core.Bool.{true}
use mathlib.Core.List.{List, [], ◌∷◌, append-nil}
use Prim.Native.Nat.{ℕ, ◌≤◌, ◌<◌}
use lib.ListN.{length}
use borrow.Author.Tests.{eq-eqb}
use Rattle.answers.specs.Lists.{All}
use Rattle.answers.specs.promises.Decides.{Silent}
use Rattle.streams.specs.Bytes.{framed}
use Rattle.streams.specs.Stream.{walk, first_from}
use Rattle.streams.proofs.Complete.{data_bytes, walk_framed}
use Rattle.operations.specs.declared.Operation.{Operation}
use Rattle.operations.specs.declared.Operation.TheVariants.{Group as a_group}
use Rattle.operations.specs.Operations.{bytes_of, allowed}
use Rattle.operations.proofs.Numbers.{in_numbers}
use Rattle.messages.specs.declared.kinds.Operands.TheVariants.{Operation as an_operation}
use Rattle.messages.specs.declared.kinds.Kind.{Kind}
use Rattle.messages.specs.declared.kinds.Kind.TheVariants.{Short as of_short}
use Rattle.messages.specs.Kinds.{short_kind, kind_of, Filed}
use Rattle.messages.specs.Judge.{judge}
use Rattle.messages.specs.Layout.{message_of, given_rows}
use Rattle.messages.proofs.Written.{sound, sound_holds}
use Rattle.units.specs.Units.{Unit, group_message, stays, joined, obeyed, step_by, stepping}

-- Data bytes between F0H and F7H.
step_framed : (u : Unit) (c : List ℕ) → All (λ b. b < 0x80) c → stepping u (framed c) 0 ≡ step_by u (judge (framed c))
unfolding stepping
step_framed u c a = rw (rw append-nil at (walk_framed judge [] c [] (data_bytes c a)))

module _ (opcode : ℕ) (o : Operation) (f : Filed (of_short (short_kind opcode (an_operation o)))) (b : List ℕ) (e : allowed o b ≡ true) where
  abbrev kind : Kind
  kind = of_short (short_kind opcode (an_operation o))

  passes : Silent (given_rows kind b [])
  passes = (rw (eq-eqb (length b) (bytes_of o) (in_numbers.counted o b e)), (rw e, tt))

  pub fed : (u : Unit) → stepping u (message_of opcode b) 0 ≡ obeyed u o b
  fed u = sound_holds kind b [] (λ m v. stepping u m 0 ≡ step_by u v) (step_framed u) (sound kind b [] f refl tt passes) ∙ rw f

-- A group message in its ranges, and a store message.
pub group_step : (total id : ℕ) → 2 ≤ total → total ≤ 6 → id ≤ 5 → (u : Unit) → stepping u (group_message total id) 0 ≡ joined u total id
unfolding kind_of
group_step total id l h i = fed 0x07 a_group refl (total ∷ id ∷ []) ((in_numbers.group total id).1 (l, h, i))

-- Nothing.
pub nothing_step : (u : Unit) → stepping u [] 0 ≡ stays u
unfolding stepping walk first_from
nothing_step u = refl
