use mathlib.Core.Path.{sym, ap, ◌∙◌}
use borrow.Author.Tests.{eq-eqb, ne_eqb}
use Rattle.edges.specs.Pairs.{cut_if, after_single}
use Rattle.edges.proofs.Looking.{begins-filled, size_is}
use Rattle.edges.proofs.Steps.{single-last}
use Rattle.edges.proofs.step.trim_single.Goals as goal

pub returns-then-size_of-eq1 : goal.returns-then-size_of-eq1
unfolding after_single
returns-then-size_of-eq1 c =
    rw (
      eq-eqb _ 1 (sym (size_is _ _ c.requires)
          ∙ sym c.size_of.ensures
          ∙ c.if-size_of-eq1.true),
      ← c.begins_with_space-begins.ensures,
    )
    c.cut_if.ensures

pub cut_if-requires-2-clause-filled : goal.cut_if-requires-2-clause-filled
cut_if-requires-2-clause-filled c =
    λ e. begins-filled _ _
    c.requires
    (sym c.begins_with_space-begins.ensures ∙ e)

pub cut_if-requires-3-clause-filled : goal.cut_if-requires-3-clause-filled
cut_if-requires-3-clause-filled c =
    λ e. rw c.cut_if-2.ensures
    (single-last _ _ c.requires
    (λ z. c.if-size_of-eq1.false
    (c.size_of.ensures
    ∙ z)) c.begins_with_space-begins.result
    (sym c.ends_with_space-ends.ensures ∙ e))

pub returns : goal.returns
unfolding after_single
returns c =
    rw (
      ne_eqb _ 1 (λ z. c.if-size_of-eq1.false
          (c.size_of.ensures
          ∙ size_is _ _ c.requires ∙ z)),
      ← c.begins_with_space-begins.ensures,
      ← c.ends_with_space-ends.ensures,
    ) (c.cut_if-3.ensures
    ∙ ap (cut_if c.ends_with_space-ends.result c.args.i 0 1)
    c.cut_if-2.ensures)
