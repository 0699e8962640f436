-- By the kind that the opcode finds, which has the length that its parts add up to.
use Rattle.std.proofs.Common.{◌∙◌, sym, subst}
use lib.Dec.{T}
use Rattle.messages.specs.declared.kinds.Kind.{Kind}
use Rattle.messages.specs.code.Sizes.{sized}
use Rattle.messages.proofs.Filed.{kind_sized}
use Rattle.judging.specs.code.Judged.{kind_verdict}
use Rattle.judging.proofs.judge_kind.Goals as goal

pub judge_dump-requires : goal.judge_dump-requires
judge_dump-requires c = subst (λ (k : Kind). T (sized k)) (sym c.kind_of-kind.ensures ∙ c.in-Dump.is) (kind_sized c.args.opcode)

pub judge_short-requires : goal.judge_short-requires
judge_short-requires c = subst (λ (k : Kind). T (sized k)) (sym c.kind_of-kind.ensures ∙ c.in-Short.is) (kind_sized c.args.opcode)

pub returns-in-Dump : goal.returns-in-Dump
returns-in-Dump c = rw (← c.kind_of-kind.ensures, c.in-Dump.is) c.judge_dump.ensures

pub returns-in-Short : goal.returns-in-Short
returns-in-Short c = rw (← c.kind_of-kind.ensures, c.in-Short.is) c.judge_short.ensures

pub returns-in-Unknown : goal.returns-in-Unknown
unfolding kind_verdict
returns-in-Unknown c = rw (← c.kind_of-kind.ensures, c.in-Unknown.is)
